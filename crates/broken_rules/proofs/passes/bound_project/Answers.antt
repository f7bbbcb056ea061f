use Rattle.std.proofs.Common.{ap, subst, sym, ◌∙◌}
use Rattle.vb_tree.specs.View.{project_of}
use Rattle.bound_tree.specs.declared.marks.Marks.{Marks}
use Rattle.bound_tree.specs.Tree.{Program}
use Rattle.bound_tree.specs.View.{declarations_of}
use Rattle.declarations.specs.Finals.{IsDeclared}
use Rattle.broken_rules.proofs.passes.bound_project.Goals as goal

pub returns : goal.returns
returns c =
    let bound = c.in_ok-bind.ensures in
    let D = declarations_of c.in_ok-declared.declared in
    record {
      declarations = D;
      declared = subst (λ (m : Marks). IsDeclared (project_of c.args.project) D m) (sym bound.declared_marks) c.in_ok-declared.ensures.declared;
      program = bound.program;
      marks = bound.marks;
      project = ap (λ (P : Program). P.declarations.project) bound.program ∙ ap project_of c.in_ok-declared.ensures.project;
    }
