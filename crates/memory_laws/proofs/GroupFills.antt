-- Values of user types and objects that match fill a root on both sides; what variables begin with matches.
use Rattle.std.proofs.Common.{◌≡◌, refl, sym, ap, subst, ◌∙◌, inl, inr, ℕ, suc, true, false, Some, List, [], ◌∷◌, true≢false}
use Rattle.vb_tree.specs.BoundTree.{Ty, class, user}
use Rattle.vb_tree.specs.declared.value.Value6.{Value6}
use Rattle.vb_tree.specs.declared.value.Value6.TheVariants as v
use Rattle.net_meaning.specs.declared.value.ValueN.TheVariants as n
use Rattle.net_meaning.specs.ValueMatch.{no_object_of}
use Rattle.run_base.specs.Positions.{Position, Root, updated}
use Rattle.vb6_run.specs.Shapes.{Shape, simple, group, array, endless, Shapes, no_shapes, next_shape}
use Rattle.vb6_run.specs.Store.{Held, single, parts}
use Rattle.vb6_run.specs.Values.{Value, Values, first_scalar, first_value, first_values, scalar}
use Rattle.net_run.specs.Shapes as shape
use Rattle.net_run.specs.Store as net
use Rattle.net_run.specs.Values as net_value
use Rattle.run_matches.specs.Kinds.{IsValueOf, AreValuesOf}
use Rattle.run_matches.specs.Likeness.{SameShape, same_scalar, same_class, same_group, SameFields, no_fields, same_field, flagged_field, LikeV, like_scalar, like_fields, like_elements, FieldsLike, like_none, like_field, like_flagged, IsFieldRanked, are_same, numbers_of, scalar_word}
use Rattle.net_tree.specs.Types.{TypeName}
use Rattle.run_matches.specs.Maps.{World, IsMade, IsMatched, has_counterpart, mark, moved, root_variable}
use Rattle.run_matches.specs.Match.{Holds, holds_single, holds_parts, StoreMatch}
use Rattle.run_matches.specs.Pledges.{type_of_shape}
use Rattle.run_matches.specs.SoundShapes.{IsSoundShape, AreSoundShapes}
use Rattle.run_matches.specs.Upgrades.{Upgrade, is_flagged_field, is_sound}
use Rattle.agreeing_laws.proofs.SoundParts.{field_is_sound, field_type_is, part_matched, part_type}
use Rattle.memory_laws.specs.Changes.{IsNoArray}
use Rattle.memory_laws.specs.Laying.{Fills, IsStep, held_with, all_held_with, cells_with, all_cells_with}
use Rattle.memory_laws.proofs.Filling.{fills_more}
use Rattle.memory_laws.proofs.GroupWriting.{StandsAlone}
use Rattle.memory_laws.proofs.Groups.{field_sound, unranked}
use Rattle.memory_laws.proofs.Positions.{at}
use Rattle.memory_laws.proofs.Scalars.{FirstMatch, first_match, scalar_is_no_array}
use Rattle.memory_laws.proofs.SimpleShapes.{no_word}

no_structure : (k : ℕ) → net.structure ≡ net.holds (n.Array k) → ⊥
no_structure k e = cc

-- ---- a value at a part of a root

module _ (U : Upgrade) (w : World) (r : Root) (v : ℕ) (is_made : IsMade (mark w.src) r) (counterpart : has_counterpart U w.map r ≡ true)
    (declared : root_variable w.map r ≡ Some v) (start : StoreMatch U w) (alone : StandsAlone U r) where
  abbrev to : List ℕ → Position
  to path = at (moved U w.map r) path

  step_at : (path : List ℕ) (x : Held) (d : net.Cell) → is_sound U v path ≡ true → Holds U w x d → IsNoArray d → IsStep U w r (at r path) x d
  step_at path x d sound like plain =
      let m : IsMatched U w (at r path) = part_matched U w r v is_made counterpart declared path sound in
      record { matched = m; alone = alone w start path m; in_root = refl; like = like; plain = plain }

  mutual
    pub value_fills : (s : Shape) (path : List ℕ) (x : Value) (y : net_value.Value) (h : Position → Held) (c : Position → net.Cell) → IsSoundShape U s
        → part_type U v path ≡ Some (type_of_shape s) → is_sound U v path ≡ true → IsValueOf s x → LikeV U w x y → Fills U w r h c
        → Fills U w r (held_with x (at r path) h) (cells_with y (to path) c)
    value_fills (simple ty) path _ _ h c k of sound is (like_scalar s z y m) f =
        fills_more U w r h c (at r path) (single s z) (net.holds y)
        (step_at path (single s z) (net.holds y) sound (holds_single s z y m) (scalar_is_no_array (are_same w) s z y m)) f
    value_fills (simple ty) path _ _ h c k of sound is (like_fields u xs ys l) f = absurd is
    value_fills (simple ty) path _ _ h c k of sound is (like_elements e dims xs j l) f = absurd is
    value_fills (group t fs) path _ _ h c k of sound is (like_scalar s z y m) f = absurd is
    value_fills (group t fs) path _ _ h c k of sound is (like_fields u xs ys l) f =
        values_fill t 0 fs path xs ys (updated h (at r path) parts) (updated c (to path) net.structure) k of sound is.1
        (subst (λ z. FieldsLike U (numbers_of w) z 0 xs ys) is.0 l)
        (fills_more U w r h c (at r path) parts net.structure (step_at path parts net.structure sound holds_parts no_structure) f)
    value_fills (group t fs) path _ _ h c k of sound is (like_elements e dims xs j l) f = absurd is
    value_fills (array e bounds) path x y h c k of sound is l f = absurd k
    value_fills endless path x y h c k of sound is l f = absurd k

    values_fill : (t i : ℕ) (fs : Shapes) (path : List ℕ) (xs : Values) (ys : net_value.Values) (h : Position → Held) (c : Position → net.Cell)
        → AreSoundShapes U t i fs → part_type U v path ≡ Some (user t) → is_sound U v path ≡ true → AreValuesOf fs xs
        → FieldsLike U (numbers_of w) t i xs ys → Fills U w r h c
        → Fills U w r (all_held_with xs (at r path) i h) (all_cells_with ys (to path) i c)
    values_fill t i fs path _ _ h c k of sound are (like_none _ _) f = f
    values_fill t i no_shapes path _ _ h c k of sound are (like_field _ _ x y xs ys l ranked more) f = absurd are
    values_fill t i (next_shape s rest) path _ _ h c k of sound are (like_field _ _ x y xs ys l ranked more) f =
        values_fill t (suc i) rest path xs ys (held_with x (at r (i ∷ path)) h) (cells_with y (to (i ∷ path)) c) k.2 of sound are.1 more
        (value_fills s (i ∷ path) x y h c k.1 (field_type_is U v path t i (type_of_shape s) of k.0)
        (field_is_sound U v path t i (type_of_shape s) of k.0 sound) are.0 l f)
    values_fill t i no_shapes path _ _ h c k of sound are (like_flagged _ _ x y xs ys flagged more) f = absurd are
    values_fill t i (next_shape s rest) path _ _ h c k of sound are (like_flagged _ _ x y xs ys flagged more) f =
        absurd (true≢false (sym flagged ∙ field_sound U t i (type_of_shape s) k.0))

-- ---- first values

-- what a variable of a shape begins with, and what its image begins with
pub record FirstValue (U : Upgrade) (w : World) (s : Shape) (d : shape.Shape) : Type 0 where
  pub of : IsValueOf s (first_value s)
  pub like : LikeV U w (first_value s) (shape.default_of d)
  pub ranked : (t k : ℕ) → IsFieldRanked U (numbers_of w) t k (shape.default_of d)

module _ (U : Upgrade) (w : World) where
  first_scalar_matches : (ty : Ty) (t : TypeName) → FirstMatch (are_same w) ty t → FirstValue U w (simple ty) (shape.scalar t)
  first_scalar_matches ty t m = record {
    of = refl;
    like = subst (λ y. LikeV U w (scalar ty (first_scalar ty)) y) (sym m.is_value) (like_scalar ty (first_scalar ty) m.value m.like);
    ranked = λ u k.
        subst (λ y. IsFieldRanked U (numbers_of w) u k y) (sym m.is_value)
        (unranked U w u k m.value (λ j e. scalar_is_no_array (are_same w) ty (first_scalar ty) m.value m.like j (ap net.holds e)));
  }

  simple_matches : (ty : Ty) (d : shape.Shape) → IsSoundShape U (simple ty) → SameShape U (simple ty) d → FirstValue U w (simple ty) d
  simple_matches _ _ (inl c) (same_scalar ty t word) = first_scalar_matches ty t (first_match (are_same w) ty t c word)
  simple_matches _ _ (inr k) (same_scalar ty t word) = absurd (no_word U ty t k word)
  simple_matches _ _ c (same_class k home e) =
      record { of = refl; like = like_scalar (class k) v.Nothing n.Nothing (no_object_of k); ranked = λ t i. tt }

  mutual
    pub first_value_matches : (s : Shape) (d : shape.Shape) → IsSoundShape U s → SameShape U s d → FirstValue U w s d
    first_value_matches (simple ty) d c sh = simple_matches ty d c sh
    first_value_matches (group t fs) _ c (same_group _ home member _ gs is sh) =
        let all = first_values_match t 0 fs gs c sh in
        record { of = (refl, all.0); like = like_fields t (first_values fs) (shape.defaults_of gs) all.1; ranked = λ u k. tt }
    first_value_matches (array e bounds) d c sh = absurd c
    first_value_matches endless d c sh = absurd c

    first_values_match : (t k : ℕ) (fs : Shapes) (gs : shape.Fields) → AreSoundShapes U t k fs → SameFields U t k fs gs
        → AreValuesOf fs (first_values fs) × FieldsLike U (numbers_of w) t k (first_values fs) (shape.defaults_of gs)
    first_values_match t k no_shapes _ c (no_fields _ _) = (tt, like_none t k)
    first_values_match t k (next_shape s rest) _ c (same_field _ _ _ d _ others sh ranked more) =
        let one : FirstValue U w s d = first_value_matches s d c.1 sh in
        let all = first_values_match t (suc k) rest others c.2 more in (
          (one.of, all.0),
          like_field t k (first_value s) (shape.default_of d) (first_values rest) (shape.defaults_of others) one.like (one.ranked t k) all.1,
        )
    first_values_match t k (next_shape s rest) _ c (flagged_field _ _ _ d _ others flagged more) =
        absurd (true≢false (sym flagged ∙ field_sound U t k (type_of_shape s) c.0))
