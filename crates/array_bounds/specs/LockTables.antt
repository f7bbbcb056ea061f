-- For types, the procedures that give arrays of such elements other elements.
use Rattle.std.specs.Prelude.{◌↔◌, IsTrue, ℕ, Bool, cond, List, [], ◌∷◌}
use Rattle.std.specs.Borrow.{Bor}
use Rattle.std.specs.List.{Contains, list_any}
use Rattle.vb_tree.specs.BoundTree.{Ty}
use Rattle.vb_tree.specs.BoundView.{type_of}
use Rattle.vb_tree.specs.declared.value.Type6.{Type6}
use Rattle.reach_table.specs.Chains.{is_marked}
use Rattle.bound_tree.specs.Tree.{Program}
use Rattle.bound_facts.specs.Locks.{is_same_type}
use Rattle.array_bounds.specs.declared.locks.Lock.{Lock}
use Rattle.array_bounds.specs.Facts.{LocksBy}

abbrev pub shown_type : Bor Type6 → Ty
shown_type r = type_of r.now

abbrev pub is_lock_of : Ty → Lock → Bool
is_lock_of ty k = is_same_type ty (type_of k.ty.now)

abbrev pub has_type : List Lock → Ty → Bool
has_type locks ty = list_any (is_lock_of ty) locks

-- the flags of the first entry of a type
abbrev pub flags_in : List Lock → Ty → List Bool
flags_in [] ty = []
flags_in (k ∷ ks) ty = cond (is_lock_of ty k) k.flags.items (flags_in ks ty)

abbrev pub locks_in : List Lock → Ty → ℕ → Bool
locks_in locks ty p = is_marked (flags_in locks ty) p

abbrev pub IsRight : Program → List (ℕ × ℕ) → Lock → Type 0
IsRight P pairs k = (p : ℕ) → IsTrue (is_marked k.flags.items p) ↔ LocksBy P pairs (type_of k.ty.now) p

-- each entry is right
abbrev pub AreRight : Program → List (ℕ × ℕ) → List Lock → Type 0
AreRight P pairs [] = Unit {0}
AreRight P pairs (k ∷ ks) = IsRight P pairs k × AreRight P pairs ks

-- they are right for all types of a list
abbrev pub AreLocks : Program → List (ℕ × ℕ) → List Ty → List Lock → Type 0
AreLocks P pairs types locks = (ty : Ty) → Contains types ty → (p : ℕ) → IsTrue (locks_in locks ty p) ↔ LocksBy P pairs ty p
