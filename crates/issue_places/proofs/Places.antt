-- The issues of a project of the grammar stand in its files.
use Rattle.std.proofs.Common.{ℕ, suc, ◌<◌, List, length, arith, sym, subst, ⊎_elim}
use Rattle.std.specs.List.{All}
use Rattle.up_base.specs.declared.issue.Issue.{Issue}
use Rattle.up_base.specs.declared.place.Place.{Place}
use Rattle.vb_tree.specs.Tree.{Project}
use Rattle.bound_tree.specs.Tree.{Program}
use Rattle.project_loader.specs.Held.{IsOfGrammar}
use Rattle.issue_sets.specs.Places.{places_of}
use Rattle.broken_rules.specs.Broken.{AreBroken}
use Rattle.broken_rules.specs.Further.{further_issues}
use Rattle.broken_rules.specs.Marks.{AreMarks, Passes}
use Rattle.issue_places.proofs.Each.{all_held, each_held}
use Rattle.issue_places.proofs.Standing.{InFile, ModulesStand}
use Rattle.issue_places.proofs.Modules.{modules_stand}
use Rattle.issue_places.proofs.Settled.{declared_stands}
use Rattle.issue_places.proofs.Marked.{PlacesStand, marked_stands, program_places}
use Rattle.issue_places.proofs.Further.{further_stand}

-- the number of its file is below a number
abbrev IsBelow : ℕ → Place → Type 0
IsBelow n p = p.file < n

in_file : (n file : ℕ) → file < n → InFile (IsBelow n) file
in_file n file low = λ line. low

marks_stand : (F : Place → Type 0) (P : Project) (Q : Program) (p : Passes) → ModulesStand F P.modules → AreMarks P Q p → PlacesStand F (places_of Q)
marks_stand F P Q p h are =
    subst (λ (q : Program). PlacesStand F (places_of q)) (sym are.program)
    (program_places F are.declarations (declared_stands F P are.declarations p.declared h are.declared))

broken_stand : (F : Place → Type 0) (P : Project) (issues : List Issue) → InFile F 0 → ModulesStand F P.modules → AreBroken P issues → All (λ (i : Issue). F i.place) issues
broken_stand F P issues file h broken =
    let places = marks_stand F P broken.program broken.passes h broken.marks in
    let further = further_stand F P file h in
    all_held (λ (i : Issue). F i.place) issues (λ x c. ⊎_elim
    (λ m. marked_stands F (places_of broken.program) places m.one x m.marked)
    (λ f. each_held (λ (i : Issue). F i.place) (further_issues P) x further f)
    ((broken.exact.are x).0 c))

pub places_are_named : (P : Project) (issues : List Issue) → IsOfGrammar P → AreBroken P issues → All (λ (i : Issue). i.place.file < suc (length P.file.entries)) issues
places_are_named P issues g broken =
    let n = suc (length P.file.entries) in
    broken_stand (IsBelow n) P issues (in_file n 0 (omega arith)) (modules_stand (IsBelow n) n (in_file n) 1 P.file.entries P.modules (omega arith) g.modules) broken
