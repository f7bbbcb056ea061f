-- Values of user types and objects go on to match, are of the written shape, and are kept as they are.
use Rattle.std.proofs.Common.{◌≡◌, refl, sym, ap, subst, ◌∙◌, ℕ, suc, true, false, nat_eq, Some, true≢false}
use Rattle.up_base.proofs.Tests.{and_true}
use Rattle.vb_tree.specs.BoundTree.{Ty}
use Rattle.vb_tree.specs.declared.value.Value6.{Value6}
use Rattle.net_meaning.specs.declared.value.ValueN.{ValueN}
use Rattle.net_meaning.specs.ValueMatch.{Matches}
use Rattle.vb6_run.specs.Shapes.{Shape, simple, group, array, endless, Shapes, no_shapes, next_shape}
use Rattle.vb6_run.specs.Values.{Value, scalar, fields, elements, Values, no_values, next_value, kept_as, if_of_shape}
use Rattle.net_run.specs.Shapes as shape
use Rattle.net_run.specs.Shapes.{is_of, are_of}
use Rattle.net_run.specs.Store as net
use Rattle.net_run.specs.Values as net_value
use Rattle.run_matches.specs.Upgrades.{Upgrade}
use Rattle.run_matches.specs.Maps.{World}
use Rattle.run_matches.specs.Likeness.{SameShape, same_group, SameFields, no_fields, same_field, flagged_field, LikeV, like_scalar, like_fields, like_elements, FieldsLike, like_none, like_field, like_flagged, IsFieldRanked, are_same, numbers_of}
use Rattle.run_matches.specs.Pledges.{Later, Pledge, type_of_shape}
use Rattle.run_matches.specs.SoundShapes.{IsSoundShape, AreSoundShapes}
use Rattle.run_matches.specs.Kinds.{IsValueOf, AreValuesOf}
use Rattle.agreeing_laws.proofs.Scalars.{matches_more, same_later}
use Rattle.memory_laws.proofs.Groups.{field_sound, unranked}
use Rattle.memory_laws.proofs.Scalars.{scalar_is_no_array}
use Rattle.memory_laws.proofs.SimpleShapes.{kept_simple, number_itself, simple_suits}

-- ---- at a later world

module _ (U : Upgrade) (K : Pledge) (w0 w1 : World) (l : Later U K w0 w1) where
  scalar_ranked : (t k : ℕ) (ty : Ty) (x : Value6) (y : ValueN) → Matches (are_same w0) ty x y
      → IsFieldRanked U (numbers_of w1) t k (net_value.single y)
  scalar_ranked t k ty x y m = unranked U w1 t k y (λ j f. scalar_is_no_array (are_same w0) ty x y m j (ap net.holds f))

  -- what is no array has no rank later
  ranked_later : (t k : ℕ) (s : Shape) (x : Value) (y : net_value.Value) → IsSoundShape U s → IsValueOf s x → LikeV U w0 x y
      → IsFieldRanked U (numbers_of w1) t k y
  ranked_later t k s _ _ c of (like_scalar ty x y m) = scalar_ranked t k ty x y m
  ranked_later t k s _ _ c of (like_fields u xs ys m) = tt
  ranked_later t k (simple ty) _ _ c of (like_elements e dims xs j m) = absurd of
  ranked_later t k (group u fs) _ _ c of (like_elements e dims xs j m) = absurd of
  ranked_later t k (array f bounds) _ _ c of (like_elements e dims xs j m) = absurd of
  ranked_later t k endless _ _ c of (like_elements e dims xs j m) = absurd of

  mutual
    pub value_later : (s : Shape) (x : Value) (y : net_value.Value) → IsSoundShape U s → IsValueOf s x → LikeV U w0 x y → LikeV U w1 x y
    value_later s _ _ c of (like_scalar ty x y m) =
        like_scalar ty x y (matches_more (are_same w0) (are_same w1) (same_later w0 w1 l.extends l.grows) ty x y m)
    value_later (group t fs) _ _ c of (like_fields u xs ys m) =
        like_fields u xs ys
        (subst (λ z. FieldsLike U (numbers_of w1) z 0 xs ys) (sym of.0)
        (values_later t 0 fs xs ys c of.1 (subst (λ z. FieldsLike U (numbers_of w0) z 0 xs ys) of.0 m)))
    value_later (simple ty) _ _ c of (like_fields u xs ys m) = absurd of
    value_later (array f bounds) _ _ c of (like_fields u xs ys m) = absurd of
    value_later endless _ _ c of (like_fields u xs ys m) = absurd of
    value_later (simple ty) _ _ c of (like_elements e dims xs j m) = absurd of
    value_later (group u fs) _ _ c of (like_elements e dims xs j m) = absurd of
    value_later (array f bounds) _ _ c of (like_elements e dims xs j m) = absurd of
    value_later endless _ _ c of (like_elements e dims xs j m) = absurd of

    pub values_later : (t k : ℕ) (fs : Shapes) (xs : Values) (ys : net_value.Values) → AreSoundShapes U t k fs → AreValuesOf fs xs
        → FieldsLike U (numbers_of w0) t k xs ys → FieldsLike U (numbers_of w1) t k xs ys
    values_later t k fs _ _ c of (like_none _ _) = like_none t k
    values_later t k no_shapes _ _ c of (like_field _ _ x y xs ys m ranked more) = absurd of
    values_later t k (next_shape s rest) _ _ c of (like_field _ _ x y xs ys m ranked more) =
        like_field t k x y xs ys (value_later s x y c.1 of.0 m) (ranked_later t k s x y c.1 of.0 m) (values_later t (suc k) rest xs ys c.2 of.1 more)
    values_later t k no_shapes _ _ c of (like_flagged _ _ x y xs ys flagged more) = absurd of
    values_later t k (next_shape s rest) _ _ c of (like_flagged _ _ x y xs ys flagged more) = absurd (true≢false (sym flagged ∙ field_sound U t k (type_of_shape s) c.0))

-- ---- the written shape

module _ (U : Upgrade) (w : World) where
  mutual
    pub value_suits : (s : Shape) (d : shape.Shape) (x : Value) (y : net_value.Value) → IsSoundShape U s → SameShape U s d → IsValueOf s x
        → LikeV U w x y → is_of d y ≡ true
    value_suits (simple ty) d _ _ c sh of (like_scalar s z y m) =
        simple_suits U (are_same w) ty d z y c sh (subst (λ u. Matches (are_same w) u z y) of m)
    value_suits (simple ty) d _ _ c sh of (like_fields u xs ys m) = absurd of
    value_suits (simple ty) d _ _ c sh of (like_elements e dims xs j m) = absurd of
    value_suits (group t fs) d _ _ c sh of (like_scalar s z y m) = absurd of
    value_suits (group t fs) _ _ _ c (same_group _ home member _ gs is sh) of (like_fields u xs ys m) =
        values_suit t 0 fs gs xs ys c sh of.1 (subst (λ z. FieldsLike U (numbers_of w) z 0 xs ys) of.0 m)
    value_suits (group t fs) d _ _ c sh of (like_elements e dims xs j m) = absurd of
    value_suits (array f bounds) d x y c sh of m = absurd c
    value_suits endless d x y c sh of m = absurd c

    values_suit : (t k : ℕ) (fs : Shapes) (gs : shape.Fields) (xs : Values) (ys : net_value.Values) → AreSoundShapes U t k fs → SameFields U t k fs gs
        → AreValuesOf fs xs → FieldsLike U (numbers_of w) t k xs ys → are_of gs ys ≡ true
    values_suit t k no_shapes _ _ _ c (no_fields _ _) of (like_none _ _) = refl
    values_suit t k no_shapes _ _ _ c (no_fields _ _) of (like_field _ _ x y xs ys m ranked more) = absurd of
    values_suit t k no_shapes _ _ _ c (no_fields _ _) of (like_flagged _ _ x y xs ys flagged more) = absurd of
    values_suit t k (next_shape s rest) gs _ _ c sh of (like_none _ _) = absurd of
    values_suit t k (next_shape s rest) _ _ _ c (same_field _ _ _ d _ others sh fits rest_sh) of (like_field _ _ x y xs ys m ranked more) =
        and_true (is_of d y) (are_of others ys) (value_suits s d x y c.1 sh of.0 m) (values_suit t (suc k) rest others xs ys c.2 rest_sh of.1 more)
    values_suit t k (next_shape s rest) _ _ _ c (flagged_field _ _ _ d _ others flagged rest_sh) of (like_field _ _ x y xs ys m ranked more) =
        absurd (true≢false (sym flagged ∙ field_sound U t k (type_of_shape s) c.0))
    values_suit t k (next_shape s rest) gs _ _ c sh of (like_flagged _ _ x y xs ys flagged more) = absurd (true≢false (sym flagged ∙ field_sound U t k (type_of_shape s) c.0))

  -- a variable keeps it as it is
  pub value_kept : (s : Shape) (x : Value) (y : net_value.Value) → IsSoundShape U s → IsValueOf s x → LikeV U w x y → kept_as s x ≡ Some x
  value_kept (simple ty) _ _ c of (like_scalar s z y m) =
      subst (λ u. kept_as (simple u) (scalar s z) ≡ Some (scalar s z)) of
      (kept_simple U (are_same w) s z y (subst (λ u. IsSoundShape U (simple u)) (sym of) c) m)
  value_kept (simple ty) _ _ c of (like_fields u xs ys m) = absurd of
  value_kept (simple ty) _ _ c of (like_elements e dims xs j m) = absurd of
  value_kept (group t fs) _ _ c of (like_scalar s z y m) = absurd of
  value_kept (group t fs) _ _ c of (like_fields u xs ys m) =
      ap (λ b. if_of_shape b (fields u xs)) (ap (λ z. nat_eq t z) of.0 ∙ number_itself t)
  value_kept (group t fs) _ _ c of (like_elements e dims xs j m) = absurd of
  value_kept (array f bounds) x y c of m = absurd c
  value_kept endless x y c of m = absurd c
