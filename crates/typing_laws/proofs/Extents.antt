-- The arrays and the bounds of a covered ReDim.
use Rattle.std.proofs.Common.{◌≡◌, refl, sym, ap, ◌∙◌, ℕ, zero, suc, Bool, true, false, cond, not, ◌&&◌, ◌||◌, true≢false, List, [], ◌∷◌, ◌++◌, Option, Some, None, eqb-true, length, nat_eq}
use Rattle.std.specs.Prelude.{drop, is_some, nat_lt}
use Rattle.std.specs.List.{flat_map, list_all}
use Rattle.up_base.proofs.Lists.{all_first, all_rest, all_right}
use Rattle.up_base.proofs.Tests.{both_true}
use Rattle.vb_tree.specs.BoundTree as types
use Rattle.vb_tree.specs.BoundTree.{Ty}
use Rattle.vb_tree.specs.Tree.{Bounds, ReDimItem}
use Rattle.bound_tree.specs.declared.body.Mention.{Mention}
use Rattle.bound_tree.specs.Tree.{Declarations, Expr}
use Rattle.bound_facts.specs.Bounds.{array_at, given, resize_rank}
use Rattle.bound_facts.specs.Folded.{folded}
use Rattle.bound_facts.specs.Locks.{is_same_type}
use Rattle.bound_facts.specs.Node.{type_at}
use Rattle.bound_facts.specs.Parts.{Extent, Resize, extents, resizes, total}
use Rattle.vb6_run.specs.Expressions.{Context, declared}
use Rattle.vb6_run.specs.Store.{Memory}
use Rattle.run_matches.specs.CoveredVariables.{has_rank}
use Rattle.run_matches.specs.CoveredExprs.{Uses, covers_array, covers_expr, covers_value}
use Rattle.run_matches.specs.CoveredLines.{covers_extent, covers_low, covers_resize}
use Rattle.run_matches.specs.Formed.{is_formed}
use Rattle.typing_laws.specs.Calls.{CallsAreSuited, CallsKeep, Each, SourceJob}
use Rattle.typing_laws.specs.Flat.{flat_uses}
use Rattle.typing_laws.specs.Frames.{Footprint}
use Rattle.typing_laws.specs.Typed.{fits_type, is_typed, is_typed_bound, is_typed_extent, is_typed_low, is_typed_resize}
use Rattle.typing_laws.proofs.Expressions.{fitting}
use Rattle.typing_laws.proofs.Flat.{NamesArray, array_named}
use Rattle.typing_laws.proofs.Resizing.{IsBound, IsExtent, IsLow, IsResize}
use Rattle.typing_laws.proofs.Values.{covered_type}

-- ---- what holds of all expressions holds of bounds

module _ (Q : Expr → Type 0) where
  abbrev OfLow : Option Expr → Type 0
  OfLow None = Unit {0}
  OfLow (Some e) = Q e

  abbrev OfExtent : Extent → Type 0
  OfExtent x = OfLow x.0 × Q x.1

  abbrev OfResize : Resize → Type 0
  OfResize r = Each OfExtent r.extents

  extents_each : (bs : List Bounds) (es : List Expr) → Each Q es → Each OfExtent (extents bs es)
  extents_each [] es h = tt
  extents_each (b ∷ bs) [] h = tt
  extents_each (b ∷ bs) (e ∷ []) h = by (is_some b.lower)
    where
      by : (t : Bool) → Each OfExtent (cond t [] ((None, e) ∷ []))
      by true = tt
      by false = ((tt, h.0), tt)
  extents_each (b ∷ bs) (e ∷ f ∷ es) h = by (is_some b.lower) (extents_each bs es h.1.1) (extents_each bs (f ∷ es) h.1)
    where
      by : (t : Bool) → Each OfExtent (extents bs es) → Each OfExtent (extents bs (f ∷ es))
          → Each OfExtent (cond t ((Some e, f) ∷ extents bs es) ((None, e) ∷ extents bs (f ∷ es)))
      by true two one = ((h.0, h.1.0), two)
      by false two one = ((tt, h.0), one)

  drop_each : (n : ℕ) (es : List Expr) → Each Q es → Each Q (drop n es)
  drop_each zero es h = h
  drop_each (suc n) [] h = tt
  drop_each (suc n) (e ∷ es) h = drop_each n es h.1

  resizes_each : (items : List ReDimItem) (es : List Expr) → Each Q es → Each OfResize (resizes items es)
  resizes_each [] es h = tt
  resizes_each (i ∷ items) [] h = tt
  resizes_each (i ∷ items) (e ∷ es) h = (extents_each i.bounds es h.1, resizes_each items (drop (total i.bounds) es) (drop_each (total i.bounds) es h.1))

module _ (C : Context) (F : Footprint) (X : SourceJob → Memory → Type 0) (calls : CallsKeep C F X) (mentions : List Mention) where
  abbrev D : Declarations
  D = declared C

  abbrev uses : Uses
  uses = flat_uses C.runnable.program C.procedure mentions

  abbrev IsSound : Expr → Type 0
  IsSound e = (is_formed e ≡ true) × CallsAreSuited C.runnable e

  sound_each : (es : List Expr) → list_all is_formed es ≡ true → Each (CallsAreSuited C.runnable) es → Each IsSound es
  sound_each [] f s = tt
  sound_each (e ∷ es) f s = ((all_first is_formed e es f, s.0), sound_each es (all_rest is_formed e es f) s.1)

  bound_of : (e : Expr) → covers_expr uses e ≡ true → is_typed_bound D e ≡ true → IsSound e → IsBound C F X calls mentions e
  bound_of e covers typing sound =
      let b = both_true (fits_type types.long (type_at e)) (is_typed D e) typing in (
        record { covers = covers; formed = sound.0; typed = b.1; suited = sound.1 },
        fitting types.long (type_at e) refl (covered_type C F X calls mentions e covers) b.0,
      )

  low_of_extent : (o : Option Expr) → covers_low uses o ≡ true → is_typed_low D o ≡ true → OfLow IsSound o → IsLow C F X calls mentions o
  low_of_extent None covers typing sound = tt
  low_of_extent (Some e) covers typing sound = bound_of e (both_true (is_some (folded e)) (covers_expr uses e) covers).1 typing sound

  extents_of : (xs : List Extent) → list_all (covers_extent uses) xs ≡ true → list_all (is_typed_extent D) xs ≡ true → Each (OfExtent IsSound) xs
      → Each (IsExtent C F X calls mentions) xs
  extents_of [] covers typing sound = tt
  extents_of (x ∷ xs) covers typing sound =
      let c = both_true (covers_low uses x.0) (covers_value uses types.long x.1) (all_first (covers_extent uses) x xs covers) in
      let t = both_true (is_typed_low D x.0) (is_typed_bound D x.1) (all_first (is_typed_extent D) x xs typing) in (
        (
          low_of_extent x.0 c.0 t.0 sound.0.0,
          bound_of x.1 (both_true (is_same_type types.long (type_at x.1)) (covers_expr uses x.1) c.1).1 t.1 sound.0.1,
        ),
        extents_of xs (all_rest (covers_extent uses) x xs covers) (all_rest (is_typed_extent D) x xs typing) sound.1,
      )

  has_one : (preserve : Bool) (n : ℕ) → not preserve || nat_eq n 1 ≡ true → preserve ≡ true → n ≡ 1
  has_one true n h p = eqb-true n 1 h
  has_one false n h p = absurd (true≢false (sym p))

  -- a ReDim gives its array a bound
  ranked : (r : Resize) (rest : List (ℕ × ℕ)) → NamesArray uses r.array → list_all has_rank (resize_rank D r ++ rest) ≡ true → nat_lt 0 (length r.extents) ≡ true
  ranked r rest n h =
      (both_true (nat_lt 0 (length r.extents)) (list_all has_rank rest)
      (sym (ap (λ d. list_all has_rank (given (array_at D d) (Some (length r.extents)) ++ rest)) n.is) ∙ h)).0

  pub resizes_of : (preserve : Bool) (rs : List Resize) → list_all (covers_resize uses preserve) rs ≡ true → list_all (is_typed_resize D) rs ≡ true
      → list_all has_rank (flat_map (resize_rank D) rs) ≡ true → Each (OfResize IsSound) rs → Each (IsResize C F X calls mentions preserve) rs
  resizes_of preserve [] covers typing some sound = tt
  resizes_of preserve (r ∷ rs) covers typing some sound =
      let c = both_true (covers_array uses r.array) (list_all (covers_extent uses) r.extents && (not preserve || nat_eq (length r.extents) 1))
      (all_first (covers_resize uses preserve) r rs covers) in
      let d = both_true (list_all (covers_extent uses) r.extents) (not preserve || nat_eq (length r.extents) 1) c.1 in
      let n : NamesArray uses r.array = array_named uses r.array c.0 in (
        record {
          array = n;
          extents = extents_of r.extents d.0 (all_first (is_typed_resize D) r rs typing) sound.0;
          some = ranked r (flat_map (resize_rank D) rs) n some;
          alone = has_one preserve (length r.extents) d.1;
        },
        resizes_of preserve rs (all_rest (covers_resize uses preserve) r rs covers) (all_rest (is_typed_resize D) r rs typing)
            (all_right has_rank (resize_rank D r) (flat_map (resize_rank D) rs) some) sound.1,
      )

  pub line_resizes : (preserve : Bool) (items : List ReDimItem) (es : List Expr) → list_all (covers_resize uses preserve) (resizes items es) ≡ true
      → list_all (is_typed_resize D) (resizes items es) ≡ true → list_all has_rank (flat_map (resize_rank D) (resizes items es)) ≡ true → list_all is_formed es ≡ true
      → Each (CallsAreSuited C.runnable) es → Each (IsResize C F X calls mentions preserve) (resizes items es)
  line_resizes preserve items es covers typing some formed suited =
      resizes_of preserve (resizes items es) covers typing some (resizes_each IsSound items es (sound_each es formed suited))
