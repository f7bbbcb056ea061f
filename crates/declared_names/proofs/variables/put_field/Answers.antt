use Rattle.std.proofs.Common.{◌∙◌, ap, map}
use Rattle.std.proofs.lemmas.List.{map-append}
use Rattle.declared_names.specs.View.{names_of, variable_of}
use Rattle.declared_names.proofs.Following.{field_put}
use Rattle.declared_names.proofs.variables.put_field.Goals as goal

pub returns : goal.returns
returns c =
    field_put (names_of c.args.to.now) (variable_of c.args.field) _
    (ap (map variable_of) c.in_ok-push.ensures.ok ∙ map-append variable_of c.args.to.now.vars _)
