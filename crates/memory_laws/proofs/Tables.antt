-- What is known of an array that stands on both sides.
use Rattle.std.proofs.Common.{◌≡◌, refl, sym, ap, subst, ◌∙◌, ℕ, zero, suc, Bool, true, false, true≢false, List, [], ◌∷◌}
use Rattle.std.specs.List.{list_all}
use Rattle.std.specs.Prelude.{slice_set}
use Rattle.std.proofs.lemmas.List.{length-set}
use Rattle.up_base.proofs.Tests.{both_true, and_true}
use Rattle.vb_tree.specs.BoundTree.{Ty}
use Rattle.vb_tree.specs.declared.value.Value6.{Value6}
use Rattle.net_meaning.specs.declared.value.ValueN.TheVariants as n
use Rattle.vb6_run.specs.Shapes.{Shape}
use Rattle.vb6_run.specs.Store.{Held, blank, single, table, parts}
use Rattle.vb6_run.specs.Values.{Dimension, Value, Values, with_value_at}
use Rattle.net_run.specs.Store as net
use Rattle.net_run.specs.Values as net_value
use Rattle.run_matches.specs.Likeness.{Numbers, numbers_of, ValueLike, ItemsLike, no_items, next_item, ArrayLike, same_elements, SameCounts, is_flat}
use Rattle.run_matches.specs.Maps.{World}
use Rattle.run_matches.specs.Match.{Holds, holds_blank, holds_single, holds_table, holds_parts}
use Rattle.run_matches.specs.Upgrades.{Upgrade}

-- ---- constructors

pub table_element : (d e : Shape) (dims others : List Dimension) (xs ys : Values) → table d dims xs ≡ table e others ys → d ≡ e
table_element d e dims others xs ys f = cc

table_dims : (d e : Shape) (dims others : List Dimension) (xs ys : Values) → table d dims xs ≡ table e others ys → dims ≡ others
table_dims d e dims others xs ys f = cc

table_values : (d e : Shape) (dims others : List Dimension) (xs ys : Values) → table d dims xs ≡ table e others ys → xs ≡ ys
table_values d e dims others xs ys f = cc

pub table_not_blank : (e : Shape) (dims : List Dimension) (xs : Values) → table e dims xs ≡ blank → ⊥
table_not_blank e dims xs f = cc

pub array_number : (j k : ℕ) → net.holds (n.Array j) ≡ net.holds (n.Array k) → j ≡ k
array_number j k e = cc

blank_no_table : (e : Shape) (dims : List Dimension) (xs : Values) → blank ≡ table e dims xs → ⊥
blank_no_table e dims xs f = cc

structure_no_array : (k : ℕ) → net.structure ≡ net.holds (n.Array k) → ⊥
structure_no_array k f = cc

abbrev is_table : Held → Bool
is_table blank = false
is_table (single ty x) = false
is_table (table e dims xs) = true
is_table parts = false

single_no_table : (ty : Ty) (x : Value6) (e : Shape) (dims : List Dimension) (xs : Values) → single ty x ≡ table e dims xs → ⊥
single_no_table ty x e dims xs f = true≢false (sym (ap is_table f))

-- ---- the array in a cell

pub table_like : (U : Upgrade) (w : World) (h : Held) (c : net.Cell) (e : Shape) (dims : List Dimension) (xs : Values) (k : ℕ) → Holds U w h c
    → h ≡ table e dims xs → c ≡ net.holds (n.Array k) → ArrayLike U (numbers_of w) e dims xs (w.net.arrays k)
table_like U w _ _ e dims xs k holds_blank f g = absurd (blank_no_table e dims xs f)
table_like U w _ _ e dims xs k (holds_single ty x y m) f g = absurd (single_no_table ty x e dims xs f)
table_like U w _ _ e dims xs k (holds_table d others ys j a) f g =
    subst (λ z. ArrayLike U (numbers_of w) e dims xs (w.net.arrays z)) (array_number j k g)
    (subst (λ z. ArrayLike U (numbers_of w) e dims z (w.net.arrays j)) (table_values d e others dims ys xs f)
    (subst (λ z. ArrayLike U (numbers_of w) e z ys (w.net.arrays j)) (table_dims d e others dims ys xs f)
    (subst (λ z. ArrayLike U (numbers_of w) z others ys (w.net.arrays j)) (table_element d e others dims ys xs f) a)))
table_like U w _ _ e dims xs k holds_parts f g = absurd (structure_no_array k g)

module _ (U : Upgrade) (N : Numbers) where
  pub items_of : (e : Shape) (dims : List Dimension) (xs : Values) (a : net.Array) → ArrayLike U N e dims xs a → ItemsLike U N xs a.elements
  items_of _ _ _ _ (same_elements e dims xs a s c i l f) = i

  pub counts_like : (e : Shape) (dims : List Dimension) (xs : Values) (a : net.Array) → ArrayLike U N e dims xs a → SameCounts dims a.counts
  counts_like _ _ _ _ (same_elements e dims xs a s c i l f) = c

  -- ---- one element changes

  items_set : (xs : Values) (ys : List net_value.Value) (j : ℕ) (x : Value) (y : net_value.Value) → ItemsLike U N xs ys → ValueLike U N x y
      → ItemsLike U N (with_value_at xs j x) (slice_set ys j y)
  items_set _ _ j x y no_items h = no_items
  items_set _ _ zero x y (next_item a b xs ys k rest) h = next_item x y xs ys h rest
  items_set _ _ (suc j) x y (next_item a b xs ys k rest) h = next_item a b (with_value_at xs j x) (slice_set ys j y) k (items_set xs ys j x y rest h)

  pub array_set : (e : Shape) (dims : List Dimension) (xs : Values) (a : net.Array) (j : ℕ) (x : Value) (y : net_value.Value) → is_flat y ≡ true
      → ValueLike U N x y → ArrayLike U N e dims xs a → ArrayLike U N e dims (with_value_at xs j x) (record a { elements = slice_set a.elements j y })
  array_set _ _ _ _ j x y flat h (same_elements e dims xs a s c i l f) =
      same_elements e dims (with_value_at xs j x) (record a { elements = slice_set a.elements j y }) s c (items_set xs a.elements j x y i h)
      (length-set a.elements j y ∙ l) (flat_set a.elements j flat f)
    where
      flat_set : (ys : List net_value.Value) (j : ℕ) → is_flat y ≡ true → list_all is_flat ys ≡ true → list_all is_flat (slice_set ys j y) ≡ true
      flat_set [] j f g = refl
      flat_set (b ∷ ys) zero f g = and_true (is_flat y) (list_all is_flat ys) f (both_true (is_flat b) (list_all is_flat ys) g).1
      flat_set (b ∷ ys) (suc j) f g =
          let both : (is_flat b ≡ true) × (list_all is_flat ys ≡ true) = both_true (is_flat b) (list_all is_flat ys) g in
          and_true (is_flat b) (list_all is_flat (slice_set ys j y)) both.0 (flat_set ys j f both.1)
