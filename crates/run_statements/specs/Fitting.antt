-- Uses of arrays that suit their ranks and their lower bounds, where the declaration of the array carries no issue.
use Rattle.std.specs.Prelude.{◌≡◌, ◌<◌, ℕ, suc, ℤ, pos, true, false, Option, Some, None, is_some, length, slice_get}
use Rattle.std.specs.List.{Contains}
use Rattle.vb_tree.specs.declared.bound.LibCall.{LibCall}
use Rattle.vb_tree.specs.declared.bound.LibCall.TheVariants as lib
use Rattle.vb_tree.specs.declared.value.Value6.TheVariants as v
use Rattle.bound_tree.specs.Tree.{Expr, typed, Line, call, element, library, Exprs, next_expr, Argument, by_value, by_reference, Passed, no_passed, next_passed}
use Rattle.bound_facts.specs.Bounds.{array_at, home_base, low_in}
use Rattle.bound_facts.specs.Folded.{folded}
use Rattle.bound_facts.specs.Node.{declared_at}
use Rattle.bound_facts.specs.Parts.{Extent, Resize, resized_by}
use Rattle.written_trees.specs.Facts.{is_array_variable}
use Rattle.written_trees.specs.Library.{low_of}
use Rattle.run_matches.specs.Formed.{types_of}
use Rattle.run_matches.specs.Upgrades.{Upgrade, is_flagged, parameter_rank, rank_of_some}
pub use Rattle.run_matches.specs.Upgrades.{is_array_id, takes_array}

-- a variable or a field that is declared as an array, whose declaration carries no issue
pub record IsSoundArray (U : Upgrade) (a : Expr) : Type 0 where
  pub variable : ℕ
  pub declares : array_at U.program.declarations a ≡ Some variable
  pub is_array : is_array_variable (slice_get U.program.declarations.vars variable) ≡ true
  pub sound : is_flagged U variable ≡ false

-- the rank of the array that a variable declares
abbrev pub rank_of : Upgrade → (array : Expr) → ℕ
rank_of U a = rank_of_some U (declared_at U.program.declarations a)

-- as many indexes as the rank of the array
abbrev pub FitsRank : Upgrade → (array : Expr) → (indexes : Exprs) → Type 0
FitsRank U a indexes = IsSoundArray U a → length (types_of indexes) ≡ rank_of U a

-- ---- dimensions

-- the constant 1 or 2, which names the dimension k, counted from 0
abbrev pub IsDimension : Expr → (k : ℕ) → Type 0
IsDimension d k = (k < 2) × (folded d ≡ Some (v.Long (pos (suc k))))

-- a dimension that the array has
abbrev pub HasDimension : Upgrade → (array dimension : Expr) → Type 0
HasDimension U a d = IsSoundArray U a → (k : ℕ) → IsDimension d k → k < rank_of U a

-- Where no dimension is named it is the first, which an array with elements has.
abbrev pub FitsBounds : Upgrade → LibCall → Exprs → Type 0
FitsBounds U lib.UBound (next_expr a (next_expr d rest)) = HasDimension U a d
FitsBounds U lib.LBound (next_expr a (next_expr d rest)) = HasDimension U a d
FitsBounds U f args = Unit {0}

-- ---- arrays that are given by reference

-- an array that is given by reference has the rank of the parameter
abbrev pub FitsArgument : Upgrade → (procedure place : ℕ) → Argument → Type 0
FitsArgument U q i (by_value e) = Unit {0}
FitsArgument U q i (by_reference e) = IsSoundArray U e → takes_array U.program.declarations q i ≡ true → rank_of U e ≡ parameter_rank U q i

abbrev pub FitsPassed : Upgrade → (procedure place : ℕ) → Passed → Type 0
FitsPassed U q i no_passed = Unit {0}
FitsPassed U q i (next_passed a rest) = FitsArgument U q i a × FitsPassed U q (suc i) rest

-- ---- nodes

-- what a node of an expression by itself needs of them
abbrev pub FitsNode : Upgrade → Expr → Type 0
FitsNode U (typed ty (element a indexes)) = FitsRank U a indexes
FitsNode U (typed ty (call q qualified of args)) = FitsPassed U q.0 0 args
FitsNode U (typed ty (library f args)) = FitsBounds U f args
FitsNode U (typed ty t) = Unit {0}

-- ---- arrays that are made anew

-- the lower bound of an array in a dimension
abbrev pub low_in_dimension : Upgrade → (array : Expr) → (dimension : ℕ) → ℤ
low_in_dimension U a d = low_of U.facts (declared_at U.program.declarations a) d

-- a lower bound that is written is a constant
abbrev pub HasConstantLow : Option Expr → Type 0
HasConstantLow None = Unit {0}
HasConstantLow (Some e) = is_some (folded e) ≡ true

-- a dimension of an array begins in a line of the procedure p where the array does
abbrev pub FitsExtent : Upgrade → (procedure : ℕ) → (array : Expr) → (dimension : ℕ) → Extent → Type 0
FitsExtent U p a d x =
    HasConstantLow x.0 → low_in (home_base U.program.declarations (slice_get U.program.declarations.procs p)) x.0 ≡ Some (low_in_dimension U a d)

-- and there are as many dimensions as the rank of the array
pub record FitsResize (U : Upgrade) (p : ℕ) (r : Resize) : Type 0 where
  pub rank : length r.extents ≡ rank_of U r.array
  pub extents : (d : ℕ) (x : Extent) → slice_get r.extents d ≡ Some x → FitsExtent U p r.array d x

-- what a line of the procedure p makes anew
abbrev pub FitsLine : Upgrade → (procedure : ℕ) → Line → Type 0
FitsLine U p l = (r : Resize) → Contains (resized_by l.source.form l.bindings.exprs) r → IsSoundArray U r.array → FitsResize U p r
