-- What the facts on arrays mean.
use Rattle.std.specs.Prelude.{◌≡◌, ◌≢◌, ◌↔◌, IsTrue, ℕ, ◌<◌, ◌≤◌, ℤ, Bool, List, map}
use Rattle.std.specs.List.{Contains}
use Rattle.vb_tree.specs.BoundTree.{Ty}
use Rattle.vb_tree.specs.declared.declared.ProcId.{ProcId}
use Rattle.bound_tree.specs.Tree.{Program}
use Rattle.bound_facts.specs.Bounds.{Low, Rank, LowIs, RankIs}
use Rattle.bound_facts.specs.Calls.{calls, count_procedures, count_variables}
use Rattle.bound_facts.specs.Facts.{IsResized}
use Rattle.bound_facts.specs.Leading.{LeadsTo}
use Rattle.bound_facts.specs.Locks.{HoldsArray, Locks, lockers}
use Rattle.bound_facts.specs.Node.{is_array_type}
use Rattle.array_bounds.specs.Known.{Known}
use Rattle.array_bounds.specs.Locking.{elements}
use Rattle.array_bounds.specs.Types.{Holds, is_made}

-- chains of ties lead from an array to two lower bounds in one dimension
pub record IsSplit (P : Program) (a : ℕ) : Type 0 where
  pub dimension : ℕ
  pub one : ℤ
  pub other : ℤ
  pub one_is : Low P dimension a one
  pub other_is : Low P dimension a other
  pub differ : one ≢ other

-- they lead to a rank over 2, or to two ranks
pub data IsTorn (P : Program) (a : ℕ) : Type 0 where
  over_two : (r : ℕ) → Rank P a r → 2 < r → IsTorn P a
  two_ranks : (r s : ℕ) → Rank P a r → Rank P a s → r ≢ s → IsTorn P a

-- The facts of a project, where Locking says which procedures give arrays of elements of a type other elements; that is told for
-- the types of which an element is given by reference. A number that is no variable has rank 1.
pub record AreFactsBy (P : Program) (Locking : Ty → ℕ → Type 0) (F : Known) : Type 0 where
  pub low_is : (d a : ℕ) → a < count_variables P → LowIs P d a (F.low d a)
  pub rank_is : (a : ℕ) → a < count_variables P → RankIs P a (F.rank a)
  pub no_rank : (a : ℕ) → count_variables P ≤ a → F.rank a ≡ 1
  pub splits_are : (a : ℕ) → a < count_variables P → IsTrue (F.splits a) ↔ IsSplit P a
  pub tears_are : (a : ℕ) → a < count_variables P → IsTrue (F.tears a) ↔ IsTorn P a
  pub resized_are : (v : ℕ) → IsTrue (F.resized v) ↔ IsResized P v
  pub holds_array_are : (t : ℕ) → IsTrue (F.holds_array t) ↔ Holds P.declarations is_array_type t
  pub holds_made_are : (t : ℕ) → IsTrue (F.holds_made t) ↔ Holds P.declarations is_made t
  pub locks_are : (ty : Ty) → Contains (elements P) ty → (p : ℕ) → IsTrue (F.locks ty p) ↔ Locking ty p

abbrev pub AreFacts : Program → Known → Type 0
AreFacts P F = AreFactsBy P (Locks P) F

-- ---- the calls of a project

abbrev pub pair_of_call : ProcId × ProcId → ℕ × ℕ
pair_of_call c = (c.0.0, c.1.0)

-- pairs of procedures are those of which the first leads directly to the second
abbrev pub AreCalls : Program → List (ProcId × ProcId) → Type 0
AreCalls P cs = (x : ℕ × ℕ) → Contains (map pair_of_call cs) x ↔ Contains (calls P) x

-- a chain of given pairs leads from a procedure to one with a line that gives arrays of elements of a type other elements
pub record LocksBy (P : Program) (pairs : List (ℕ × ℕ)) (ty : Ty) (p : ℕ) : Type 0 where
  pub holds : ℕ → Bool
  pub are_held : (t : ℕ) → IsTrue (holds t) ↔ HoldsArray P.declarations ty t
  pub reaches : LeadsTo (count_procedures P) pairs (lockers P holds ty) p
