use Rattle.std.proofs.Common.{◌∙◌, ap, map, sym}
use Rattle.std.proofs.lemmas.List.{length-map, map-append}
use Rattle.declared_names.specs.View.{head_shown, names_of, procedure_of, variable_of}
use Rattle.declared_names.proofs.Following.{procedure_put}
use Rattle.declared_names.proofs.procedures.put_head.Goals as goal

pub returns : goal.returns
returns c =
    procedure_put (names_of c.args.to.now) c.args.file c.args.place c.args.statement (head_shown c.args.head) _ _ _ _ _ _ c.in_ok-put_name.ensures c.open_scope-scope.ensures
    (c.in_ok-number.ensures ∙ c.len.ensures ∙ sym (length-map c.args.to.now.procs procedure_of))
    (ap (map procedure_of) c.in_ok-push.ensures.ok ∙ map-append procedure_of c.args.to.now.procs _)
    c.in_ok-procedure.ensures
    (c.in_ok-first.ensures ∙ c.len-2.ensures ∙ sym (length-map c.args.to.now.vars variable_of))
