-- Procedures that are clean by the marks of several passes.
use Rattle.std.specs.Prelude.{◌≡◌, ◌<◌, ◌*◌, ◌↔◌, ℕ, zero, suc, Bool, true, not, List, [], ◌∷◌, ◌++◌, length}
use Rattle.std.specs.Borrow.{Bor}
use Rattle.std.specs.List.{Contains}
use Rattle.reach_table.specs.Chains.{is_marked}
use Rattle.bound_tree.specs.declared.marks.Marks.{Marks}
use Rattle.bound_tree.specs.Tree.{Program}
use Rattle.bound_facts.specs.Clean.{IsClean}

abbrev pub shown_marks : Bor Marks → Marks
shown_marks b = b.now

-- by those of each pass
abbrev pub IsCleanByAll : Program → List Marks → ℕ → Type 0
IsCleanByAll P ms p = (m : Marks) → Contains ms m → IsClean P m p

-- for each procedure whether it is clean
pub record AreClean (P : Program) (ms : List Marks) (flags : List Bool) : Type 0 where
  pub count : length flags ≡ length P.declarations.procs
  pub tell : (p : ℕ) → p < length flags → (is_marked flags p ≡ true) ↔ IsCleanByAll P ms p

-- the flags of the first procedures, by those of numbers of points from which a chain leads to what breaks a rule
abbrev pub clean_to : List Bool → (count : ℕ) → List Bool
clean_to dirty zero = []
clean_to dirty (suc n) = clean_to dirty n ++ not (is_marked dirty (5 * n)) ∷ []
