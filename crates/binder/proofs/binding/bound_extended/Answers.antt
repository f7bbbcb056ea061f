use Rattle.std.proofs.Common.{◌∙◌, ap, map, sym, List}
use Rattle.bound_tree.specs.declared.body.BoundBody.{BoundBody}
use Rattle.bound_tree.specs.declared.rule_set.RuleSet.{RuleSet}
use Rattle.bound_tree.specs.View.{declarations_of}
use Rattle.binder.specs.declared.locals.Locals.{Locals}
use Rattle.binder.specs.ImplicitLocals.{homes}
use Rattle.binder.specs.Programs.{bodies_from}
use Rattle.binder.specs.View.{body_shown, front_of, lines_shown, locals_shown, marks_by}
use Rattle.binder.proofs.binding.bound_extended.Goals as goal

pub bodies_of-requires : goal.bodies_of-requires
bodies_of-requires c = c.requires

pub returns-in_ok-bound_with-in-Ok : goal.returns-in_ok-bound_with-in-Ok
returns-in_ok-bound_with-in-Ok c = record {
  declared = c.in_ok-bound_with-in-Ok.ensures.declared;
  bodies =
      ap (λ (bs : List BoundBody). map body_shown bs) c.in_ok-bound_with-in-Ok.ensures.bodies
      ∙ c.in-Ok.ensures
      ∙ ap (λ (ls : List Locals). map lines_shown (bodies_from (front_of (declarations_of c.args.declared) c.args.counted.now.names c.args.counted.now.vars) (declarations_of c.args.declared) (map locals_shown ls) 0 (homes (declarations_of c.args.declared).project)))
      c.deref.ensures.value;
  marks =
      c.in_ok-bound_with-in-Ok.ensures.marks
      ∙ ap (λ (bs : List BoundBody). marks_by (map body_shown bs) c.args.counted.now.vars c.deref-in-Ok.result.now) (sym c.in_ok-bound_with-in-Ok.ensures.bodies)
      ∙ ap (λ (rs : List RuleSet). marks_by (map body_shown c.in_ok-bound_with-in-Ok.field-0.bodies) c.args.counted.now.vars rs) c.deref-in-Ok.ensures.value;
  interfaces = c.in_ok-bound_with-in-Ok.ensures.interfaces;
  interface_parts = c.in_ok-bound_with-in-Ok.ensures.interface_parts;
}
