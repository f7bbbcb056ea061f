use Rattle.std.proofs.Common.{◌∙◌, sym, ap, map}
use Rattle.std.proofs.lemmas.List.{length-map, map-append}
use Rattle.declared_names.specs.View.{names_of, variable_of}
use Rattle.declared_names.proofs.Following.{variable_put}
use Rattle.declared_names.proofs.variables.put_variable.Goals as goal

pub returns : goal.returns
returns c =
    variable_put (names_of c.args.to.now) c.args.scope (variable_of c.args.variable) _ _ _ c.in_ok-put_name.ensures
    (c.in_ok-number.ensures ∙ c.len.ensures ∙ sym (length-map c.args.to.now.vars variable_of))
    (ap (map variable_of) c.in_ok-push.ensures.ok ∙ map-append variable_of c.args.to.now.vars _)
