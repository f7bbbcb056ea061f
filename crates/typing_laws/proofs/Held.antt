-- What variables hold, by their types.
use Rattle.std.proofs.Common.{◌≡◌, refl, sym, subst, ℕ, true, true≢false, List}
use Rattle.vb_tree.specs.BoundTree as types
use Rattle.vb_tree.specs.BoundTree.{Ty}
use Rattle.vb_tree.specs.declared.value.Value6.{Value6}
use Rattle.vb6_run.specs.Shapes.{simple}
use Rattle.vb6_run.specs.Store.{Held, single, table, parts}
use Rattle.vb6_run.specs.Values.{Dimension, Values}
use Rattle.run_matches.specs.CoveredVariables.{covers_type}
use Rattle.run_matches.specs.Typed.{IsSized}
use Rattle.typing_laws.specs.Plain.{EachPlain, Holds, Plain, holds_array, holds_parts, holds_scalar}
use Rattle.typing_laws.proofs.Plain.{is_covered}

-- a scalar of a type
pub record Single (ty : Ty) (h : Held) : Type 0 where
  pub value : Value6
  pub holds : h ≡ single ty value
  pub plain : Plain ty value

pub single_of : (ty : Ty) (h : Held) → covers_type ty ≡ true → Holds ty h → Single ty h
single_of _ _ c (holds_scalar ty z p) = record { value = z; holds = refl; plain = p }
single_of _ _ c (holds_array e rank dims xs d s p) = absurd (true≢false (sym c))
single_of _ _ c (holds_parts t) = absurd (true≢false (sym c))

-- an array of elements of a type
pub record Table (e : Ty) (h : Held) : Type 0 where
  pub dims : List Dimension
  pub values : Values
  pub holds : h ≡ table (simple e) dims values
  pub covers : covers_type e ≡ true
  pub sized : IsSized dims values
  pub plain : EachPlain e values

no_array_value : (e : Ty) (rank : ℕ) (z : Value6) → Plain (types.array e rank) z → ⊥
no_array_value e rank z p = true≢false (sym (is_covered (types.array e rank) z p))

pub table_of : (e : Ty) (rank : ℕ) (h : Held) → Holds (types.array e rank) h → Table e h
table_of e rank _ (holds_array f other dims xs d s p) = record { dims = dims; values = xs; holds = refl; covers = d; sized = s; plain = p }
table_of e rank _ (holds_scalar ty z p) = absurd (no_array_value e rank z p)

-- a user type
pub parts_of : (t : ℕ) (h : Held) → Holds (types.user t) h → h ≡ parts
parts_of t _ (holds_parts s) = refl
parts_of t _ (holds_scalar ty z p) = absurd (true≢false (sym (is_covered (types.user t) z p)))

-- what holds one kind of thing may hold all of that kind
pub same_kind : (s t : Ty) (g h : Held) → Holds s g → Holds t g → Holds s h → Holds t h
same_kind _ _ _ _ (holds_scalar s x p) (holds_scalar t y q) k = k
same_kind _ _ _ _ (holds_array e rank dims xs c n p) (holds_array f other ds ys d m q) k = again e other _ (table_of e rank _ k)
  where
    again : (e : Ty) (rank : ℕ) (h : Held) → Table e h → Holds (types.array e rank) h
    again e rank h t = subst (λ z. Holds (types.array e rank) z) (sym t.holds) (holds_array e rank t.dims t.values t.covers t.sized t.plain)
same_kind _ _ _ h (holds_parts s) (holds_parts t) k = subst (λ z. Holds (types.user t) z) (sym (parts_of s h k)) (holds_parts t)
