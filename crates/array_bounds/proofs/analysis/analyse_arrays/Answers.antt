use Rattle.std.proofs.Common.{◌≡◌, ℕ, List, ap, map, subst, sym, ◌∙◌}
use Rattle.std.specs.Prelude.{◌↔◌}
use Rattle.std.specs.List.{Contains}
use Rattle.bound_facts.specs.Calls.{calls}
use Rattle.bound_tree.specs.Lines.{lines_of}
use Rattle.bound_tree.specs.Tree.{Program}
use Rattle.bound_tree.specs.View.{declarations_of, program_of}
use Rattle.array_bounds.specs.Facts.{pair_of_call}
use Rattle.array_bounds.specs.FactsOf.{AreMarksBy}
use Rattle.array_bounds.specs.Programs.{shown_program}
use Rattle.array_bounds.proofs.Determined.{marks_by_facts}
use Rattle.array_bounds.proofs.Listed.{marks_are}
use Rattle.array_bounds.proofs.analysis.analyse_arrays.Goals as goal

pub returns-clause-marks : goal.returns-clause-marks
returns-clause-marks c are =
    let d = c.args.bound.now.declared in
    let P = program_of c.args.bound.now in
    let m = c.in_ok-found.field-0.marks in
    let same : shown_program d c.deref.result.now ≡ P =
    ap (λ bodies. record { declarations = declarations_of d; bodies = bodies }) (ap (map lines_of) c.deref.ensures.value ∙ c.in_ok-lines.ensures)
    in
    let pairs = c.deref-2.ensures.value ∙ c.in_ok-pairs.ensures ∙ ap (map pair_of_call) c.as_slice.ensures in
    marks_are P c.deref-2.result.now m (λ x. subst (λ (ps : List (ℕ × ℕ)). Contains ps x ↔ Contains (calls P) x) (sym pairs) (are x))
    (subst (λ (Q : Program). AreMarksBy Q c.deref-2.result.now m) same c.in_ok-found.ensures.marks)

pub returns-clause-determined : goal.returns-clause-determined
returns-clause-determined c are F facts = marks_by_facts (program_of c.args.bound.now) c.in_ok-found.field-0.marks (returns-clause-marks c are) F facts
