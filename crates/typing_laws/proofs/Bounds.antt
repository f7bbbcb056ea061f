-- UBound and LBound give a Long, raise an error for an array that isn't allocated, or leave.
use Rattle.std.proofs.Common.{◌≡◌, refl, sym, ap, ◌∙◌, subst, ℕ, zero, suc, Bool, true, false, ◌&&◌, true≢false, List, [], ◌∷◌, Option, Some, None}
use Rattle.std.specs.Prelude.{slice_get}
use Rattle.up_base.proofs.Tests.{both_true}
use Rattle.vb_tree.specs.BoundTree as types
use Rattle.vb_tree.specs.BoundTree.{Ty}
use Rattle.vb_tree.specs.declared.bound.LibCall.{LibCall}
use Rattle.vb_tree.specs.declared.bound.LibCall.TheVariants as lib
use Rattle.vb_tree.specs.declared.declared.VarId.{VarId}
use Rattle.vb_tree.specs.declared.value.Value6.TheVariants as v
use Rattle.bound_tree.specs.Tree.{Expr, Exprs, library, next_expr, typed, variable}
use Rattle.run_base.specs.Outcomes.{gives, some_of, then}
use Rattle.vb6_run.specs.Arrays.{Side, array_bound, bound_at, bound_of, bound_value, has_lows, have_long_lows, is_long, lower, upper, with_held_array}
use Rattle.vb6_run.specs.Expressions.{Context, Parts, at_address, bound_parts, declared, dimension_in, library_call, library_parts, lows_at, value_parts, values_of}
use Rattle.vb6_run.specs.Shapes.{array, simple}
use Rattle.vb6_run.specs.Store as store
use Rattle.vb6_run.specs.Store.{Address, Memory, provided, root}
use Rattle.vb6_run.specs.Values.{Dimension, scalar}
use Rattle.run_matches.specs.CoveredExprs.{is_bound}
use Rattle.typing_laws.specs.Calls.{SourceJob}
use Rattle.typing_laws.specs.Frames.{Footprint, Ground, ground}
use Rattle.typing_laws.specs.Leaving.{Leaves, IsNamed, above_rank, bound_by_other_lows, bound_by_past_long, high_past_long, no_dimension}
use Rattle.typing_laws.specs.Plain.{a_long}
use Rattle.typing_laws.proofs.Arrays.{HasArray, array_place, named_at, table_at}
use Rattle.typing_laws.proofs.Ends.{Ends, ends_after, keeps_self, then_ends}
use Rattle.typing_laws.proofs.Expressions.{Fits, IsTerm, IsTyped, variable_is}
use Rattle.typing_laws.proofs.Held.{Table}
use Rattle.typing_laws.proofs.Places.{not_none, some_is}
use Rattle.typing_laws.proofs.Uses.{UsedArray}

-- a lower bound among those that are Longs
low_long : (dims : List Dimension) (k : ℕ) (d : Dimension) → have_long_lows dims ≡ true → slice_get dims k ≡ Some d → is_long d.low ≡ true
low_long [] k d h e = absurd (not_none e)
low_long (c ∷ dims) zero d h e = ap (λ (z : Dimension). is_long z.low) (sym (some_is e)) ∙ (both_true (is_long c.low) (have_long_lows dims) h).0
low_long (c ∷ dims) (suc k) d h e = low_long dims k d (both_true (is_long c.low) (have_long_lows dims) h).1 e

module _ (C : Context) (F : Footprint) (X : SourceJob → Memory → Type 0) (ty : Ty) (rank : ℕ) (x : VarId) (qualified : Bool) (rest : Exprs)
    (u : UsedArray (declared C) C.procedure x ty) (w : Memory) (fits : Fits C F w) where
  abbrev K : Ground
  K = ground (declared C) F

  abbrev a : Expr
  a = typed (types.array ty rank) (variable x qualified)

  abbrev h : HasArray C F w x.0 ty
  h = array_place C F w fits x ty u

  abbrev there : Address
  there = root (array (simple ty) h.bounds) h.place

  abbrev t : Table ty (w.held h.place)
  t = table_at C F w x.0 ty h

  abbrev named : IsNamed C a w w t.dims
  named = named_at C F w w (types.array ty rank) x qualified ty u h

  module _ (side : Side) (f : LibCall) (bound : is_bound f ≡ true)
      (same : (p : Parts) (m : Memory) → library_parts C types.long f a rest (λ w. values_of C rest w) p m ≡ bound_parts C side a rest p m)
      (high : (k : ℕ) (d : Dimension) → dimension_in rest ≡ Some k → slice_get t.dims k ≡ Some d → have_long_lows t.dims ≡ true → is_long (bound_at side d) ≡ false
      → Leaves C X (typed types.long (library f (next_expr a rest))) w) where
    abbrev L : Type 0
    L = Leaves C X (typed types.long (library f (next_expr a rest))) w

    value_by : (k : ℕ) (d : Dimension) → dimension_in rest ≡ Some k → slice_get t.dims k ≡ Some d → have_long_lows t.dims ≡ true → (b : Bool)
        → is_long (bound_at side d) ≡ b
        → Ends K (IsTyped types.long) L w (provided b (λ m. gives [] (scalar types.long (v.Long (bound_at side d))) m) w)
    value_by k d of at longs true e = (keeps_self K w, (v.Long (bound_at side d), refl, a_long (bound_at side d) e))
    value_by k d of at longs false e = high k d of at longs e

    dims_by : (k : ℕ) → dimension_in rest ≡ Some k → have_long_lows t.dims ≡ true → (dims : List Dimension) → t.dims ≡ dims
        → Ends K (IsTyped types.long) L w (bound_of side k dims w)
    dims_by k of longs [] e = keeps_self K w
    dims_by k of longs (d ∷ dims) e = by (slice_get (d ∷ dims) k) refl
      where
        by : (o : Option Dimension) → slice_get (d ∷ dims) k ≡ o → Ends K (IsTyped types.long) L w (some_of o (λ d w. bound_value (bound_at side d) w) w)
        by None i = above_rank types.long f a rest w k t.dims bound named of (ap (λ (ds : List Dimension). slice_get ds k) e ∙ i)
        by (Some c) i = value_by k c of (ap (λ (ds : List Dimension). slice_get ds k) e ∙ i) longs (is_long (bound_at side c)) refl

    checked : (k : ℕ) → dimension_in rest ≡ Some k → (b c : Bool) → has_lows (lows_at C a) t.dims ≡ b → have_long_lows t.dims ≡ c
        → Ends K (IsTyped types.long) L w (provided (b && c) (bound_of side k t.dims) w)
    checked k of false c lows longs = bound_by_other_lows types.long f a rest w t.dims bound named lows
    checked k of true false lows longs = bound_by_past_long types.long f a rest w t.dims bound named longs
    checked k of true true lows longs = dims_by k of longs t.dims refl

    bound_ends : (k : ℕ) → dimension_in rest ≡ Some k → Ends K (IsTyped types.long) L w (array_bound (lows_at C a) side k there w)
    bound_ends k of =
        subst (λ g. Ends K (IsTyped types.long) L w
        (with_held_array g (λ s dims xs m. provided (has_lows (lows_at C a) dims && have_long_lows dims) (bound_of side k dims) m) w)) (sym t.holds)
        (checked k of (has_lows (lows_at C a) t.dims) (have_long_lows t.dims) refl refl)

    by_dimension : (o : Option ℕ) → dimension_in rest ≡ o
        → Ends K (IsTerm types.long) L w (some_of o (λ k m. then (array_bound (lows_at C a) side k there m) value_parts) w)
    by_dimension None e = no_dimension types.long f a rest w bound e
    by_dimension (Some k) e =
        then_ends K (IsTyped types.long) (IsTerm types.long) L w (array_bound (lows_at C a) side k there w) value_parts (bound_ends k e)
        (λ o y m one l i. (keeps_self K m, (i.0, ap (λ z. at_address (store.constant z)) i.1, i.2)))

    pub side_ends : Ends K (IsTerm types.long) L w (library_call C types.long f (next_expr a rest) w)
    side_ends =
        subst (λ r. Ends K (IsTerm types.long) L w (then r (library_parts C types.long f a rest (λ w. values_of C rest w))))
        (sym (variable_is C (types.array ty rank) x qualified w there h.is u.plain))
        (ends_after K (IsTerm types.long) L w [] (library_parts C types.long f a rest (λ w. values_of C rest w) (at_address there) w)
        (subst (λ r. Ends K (IsTerm types.long) L w r) (sym (same (at_address there) w))
        (ends_after K (IsTerm types.long) L w [] (some_of (dimension_in rest) (λ k m. then (array_bound (lows_at C a) side k there m) value_parts) w)
        (by_dimension (dimension_in rest) refl))))

  -- either of the two
  pub bounds_end : (f : LibCall) → is_bound f ≡ true
      → Ends K (IsTerm types.long) (Leaves C X (typed types.long (library f (next_expr a rest))) w) w (library_call C types.long f (next_expr a rest) w)
  bounds_end lib.UBound b = side_ends upper lib.UBound refl (λ p m. refl) (λ k d of at longs e. high_past_long types.long a rest w k t.dims d named of at e)
  bounds_end lib.LBound b =
      side_ends lower lib.LBound refl (λ p m. refl) (λ k d of at longs e. absurd (true≢false (sym (low_long t.dims k d longs at) ∙ e)))
  bounds_end _ b = absurd (true≢false (sym b))
