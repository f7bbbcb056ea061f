use Rattle.std.proofs.Common.{List, ◌++◌, map, ap, ◌∙◌}
use Rattle.bound_tree.specs.View.{declarations_of}
use Rattle.net_tree.specs.Tree.{Line}
use Rattle.net_tree.specs.View.{line_of}
use Rattle.written_rows.specs.View.{facts_of}
use Rattle.support_modules.specs.Fillings.{field_value, lines_of_field}
use Rattle.support_modules.proofs.FieldLines.{field_declared, field_undeclared}
use Rattle.support_modules.proofs.fields.push_field.Goals as goal

pub returns-in-None : goal.returns-in-None
unfolding lines_of_field
returns-in-None c =
    let value = field_value c.args.filling (declarations_of c.args.declared.now) (facts_of c.args.facts.now) in
    field_undeclared value (facts_of c.args.facts.now) c.args.declared.now.vars c.args.f.0 (map line_of c.args.to.now.items) c.in-None.ensures

pub returns-in_ok-push_sound-in-Some : goal.returns-in_ok-push_sound-in-Some
unfolding lines_of_field
returns-in_ok-push_sound-in-Some c =
    let value = field_value c.args.filling (declarations_of c.args.declared.now) (facts_of c.args.facts.now) in
    c.in_ok-push_sound-in-Some.ensures
    ∙ ap (λ (lines : List Line). map line_of c.args.to.now.items ++ lines) (field_declared value (facts_of c.args.facts.now) c.args.declared.now.vars c.args.f.0 c.in-Some.x.now c.in-Some.ensures)
