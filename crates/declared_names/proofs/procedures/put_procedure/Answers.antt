use Rattle.std.proofs.Common.{◌∙◌, ap, map, sym, ℕ}
use Rattle.std.proofs.lemmas.List.{length-map}
use Rattle.vb_tree.specs.View.{line_of}
use Rattle.declared_names.specs.Declaring.{a_procedure, inside_declares, with_declared}
use Rattle.declared_names.specs.View.{head_shown, names_of, procedure_of}
use Rattle.declared_names.proofs.Following.{procedure_parts}
use Rattle.declared_names.proofs.procedures.put_procedure.Goals as goal

pub returns : goal.returns
returns c =
    c.in_ok-put_inside.ensures
    ∙ ap (with_declared (inside_declares (record { 0 = c.in_ok-number.field-0 }) c.args.place c.args.statement (head_shown c.args.head) (map (λ l. line_of l.now) c.args.body.now))) c.in_ok-put_head.ensures
    ∙ ap (λ (n : ℕ). with_declared (inside_declares (record { 0 = n }) c.args.place c.args.statement (head_shown c.args.head) (map (λ l. line_of l.now) c.args.body.now)) (with_declared (a_procedure c.args.file c.args.place c.args.statement (head_shown c.args.head)) (names_of c.args.to.now)))
    (c.in_ok-number.ensures ∙ c.len.ensures ∙ sym (length-map c.args.to.now.procs procedure_of))
    ∙ sym (procedure_parts c.args.file c.args.place c.args.statement (head_shown c.args.head) (map (λ l. line_of l.now) c.args.body.now) (names_of c.args.to.now))
