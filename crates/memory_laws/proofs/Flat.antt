-- What has no array in it goes on to match under other numbers of arrays.
use Rattle.std.proofs.Common.{◌≡◌, refl, sym, subst, ℕ, suc, true, List, true≢false}
use Rattle.std.specs.List.{list_all}
use Rattle.up_base.proofs.Tests.{both_true}
use Rattle.net_meaning.specs.declared.value.ValueN.TheVariants as n
use Rattle.vb6_run.specs.Shapes.{Shape}
use Rattle.vb6_run.specs.Store.{Held}
use Rattle.vb6_run.specs.Values.{Dimension, Value, Values}
use Rattle.net_run.specs.Store as net
use Rattle.net_run.specs.Values as net_value
use Rattle.run_matches.specs.Likeness.{Numbers, IsFieldRanked, ValueLike, like_scalar, like_fields, like_elements, FieldsLike, like_none, like_field, like_flagged, ItemsLike, no_items, next_item, ArrayLike, same_elements, is_flat, are_flat}
use Rattle.run_matches.specs.Match.{HeldLike, holds_blank, holds_single, holds_table, holds_parts}
use Rattle.run_matches.specs.Upgrades.{Upgrade}
use Rattle.agreeing_laws.proofs.Scalars.{matches_more}

module _ (U : Upgrade) (N M : Numbers) (same : (i j : ℕ) → N.same i j ≡ true → M.same i j ≡ true) where
  flat_ranked : (t k : ℕ) (y : net_value.Value) → is_flat y ≡ true → IsFieldRanked U M t k y
  flat_ranked t k (net_value.single (n.Array j)) f = absurd (true≢false (sym f))
  flat_ranked t k _ f = tt

  mutual
    -- values without arrays in them go on to match
    pub flat_value : (x : Value) (y : net_value.Value) → is_flat y ≡ true → ValueLike U N x y → ValueLike U M x y
    flat_value _ _ f (like_scalar ty x y m) = like_scalar ty x y (matches_more N.same M.same same ty x y m)
    flat_value _ _ f (like_fields t xs ys h) = like_fields t xs ys (flat_fields t 0 xs ys f h)
    flat_value _ _ f (like_elements e dims xs k a) = absurd (true≢false (sym f))

    flat_fields : (t k : ℕ) (xs : Values) (ys : net_value.Values) → are_flat ys ≡ true → FieldsLike U N t k xs ys → FieldsLike U M t k xs ys
    flat_fields _ _ _ _ f (like_none t k) = like_none t k
    flat_fields _ _ _ _ f (like_field t k x y xs ys h r rest) =
        let both : (is_flat y ≡ true) × (are_flat ys ≡ true) = both_true (is_flat y) (are_flat ys) f in
        like_field t k x y xs ys (flat_value x y both.0 h) (flat_ranked t k y both.0) (flat_fields t (suc k) xs ys both.1 rest)
    flat_fields _ _ _ _ f (like_flagged t k x y xs ys g rest) =
        like_flagged t k x y xs ys g (flat_fields t (suc k) xs ys (both_true (is_flat y) (are_flat ys) f).1 rest)

  flat_items : (xs : Values) (ys : List net_value.Value) → list_all is_flat ys ≡ true → ItemsLike U N xs ys → ItemsLike U M xs ys
  flat_items _ _ f no_items = no_items
  flat_items _ _ f (next_item x y xs ys h rest) =
      let both : (is_flat y ≡ true) × (list_all is_flat ys ≡ true) = both_true (is_flat y) (list_all is_flat ys) f in
      next_item x y xs ys (flat_value x y both.0 h) (flat_items xs ys both.1 rest)

  pub array_more : (e : Shape) (dims : List Dimension) (xs : Values) (a : net.Array) → ArrayLike U N e dims xs a → ArrayLike U M e dims xs a
  array_more _ _ _ _ (same_elements e dims xs a s c i l f) = same_elements e dims xs a s c (flat_items xs a.elements f i) l f

  -- where the arrays in cells are as they were
  pub held_more : (h : Held) (c : net.Cell) → ((k : ℕ) → c ≡ net.holds (n.Array k) → M.arrays k ≡ N.arrays k) → HeldLike U N h c → HeldLike U M h c
  held_more _ _ g holds_blank = holds_blank
  held_more _ _ g (holds_single ty x y m) = holds_single ty x y (matches_more N.same M.same same ty x y m)
  held_more _ _ g (holds_table e dims xs k a) =
      holds_table e dims xs k (subst (λ z. ArrayLike U M e dims xs z) (sym (g k refl)) (array_more e dims xs (N.arrays k) a))
  held_more _ _ g holds_parts = holds_parts
