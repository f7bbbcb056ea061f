-- Elements of arrays that match: new ones, and old ones that are kept.
use Rattle.std.proofs.Common.{◌≡◌, refl, sym, ap, subst, ◌∙◌, ℕ, zero, suc, ◌-◌, Bool, true, List, [], ◌∷◌, ◌++◌, length, arith}
use Rattle.std.specs.Prelude.{take, replicate}
use Rattle.std.specs.List.{list_all}
use Rattle.std.proofs.lemmas.List.{length-replicate}
use Rattle.up_base.proofs.Tests.{both_true, and_true}
use Rattle.vb_tree.specs.BoundTree.{Ty}
use Rattle.vb_tree.specs.declared.value.Value6.{Value6}
use Rattle.net_meaning.specs.declared.value.ValueN.{ValueN}
use Rattle.net_meaning.specs.ValueMatch.{Matches, booleans}
use Rattle.vb6_run.specs.Values.{Values, no_values, next_value, scalar, repeated, first_scalar}
use Rattle.vb6_run.specs.Values as source
use Rattle.net_run.specs.Store as net
use Rattle.net_run.specs.Values as net_value
use Rattle.net_run.specs.Values.{single}
use Rattle.run_matches.specs.Upgrades.{Upgrade}
use Rattle.run_matches.specs.Likeness.{Numbers, like_scalar, ItemsLike, no_items, next_item, is_flat}

-- ---- lists of elements

take_none : {X : Type 0} (xs : List X) → take 0 xs ≡ []
take_none [] = refl
take_none (x ∷ xs) = refl

take_nothing : {X : Type 0} (k : ℕ) → take {A = X} k [] ≡ []
take_nothing zero = refl
take_nothing (suc k) = refl

less_all : (k : ℕ) → 0 - k ≡ 0
less_all k = omega arith

less_none : (k : ℕ) → k - 0 ≡ k
less_none k = omega arith

less_one : (k j : ℕ) → suc k - suc j ≡ k - j
less_one k j = omega arith

kept_none : (d : net_value.Value) (ys : List net_value.Value) → net.preserved 0 d ys ≡ []
kept_none d ys = ap (λ z. z ++ replicate (0 - length ys) d) (take_none ys) ∙ ap (λ z. replicate z d) (less_all (length ys))

kept_new : (k : ℕ) (d : net_value.Value) → net.preserved k d [] ≡ replicate k d
kept_new k d = ap (λ z. z ++ replicate (k - 0) d) (take_nothing {X = net_value.Value} k) ∙ ap (λ z. replicate z d) (less_none k)

kept_next : (k : ℕ) (d y : net_value.Value) (ys : List net_value.Value) → net.preserved (suc k) d (y ∷ ys) ≡ y ∷ net.preserved k d ys
kept_next k d y ys = ap (λ z. y ∷ (take k ys ++ replicate z d)) (less_one k (length ys))

pub length_kept : (k : ℕ) (d : net_value.Value) (ys : List net_value.Value) → length (net.preserved k d ys) ≡ k
length_kept zero d ys = ap length (kept_none d ys)
length_kept (suc k) d [] = ap length (kept_new (suc k) d) ∙ length-replicate (suc k) d
length_kept (suc k) d (y ∷ ys) = ap length (kept_next k d y ys) ∙ ap suc (length_kept k d ys)

-- ---- elements that match

pub flat_scalar : (same : ℕ → ℕ → Bool) (ty : Ty) (x : Value6) (y : ValueN) → Matches same ty x y → is_flat (single y) ≡ true
flat_scalar same _ _ _ (booleans b) = refl
flat_scalar same _ _ _ _ = refl

module _ (U : Upgrade) (N : Numbers) (ty : Ty) (v : ValueN) (like : Matches N.same ty (first_scalar ty) v) where
  abbrev first : source.Value
  first = scalar ty (first_scalar ty)

  flat_first : is_flat (single v) ≡ true
  flat_first = flat_scalar N.same ty (first_scalar ty) v like

  pub new_items : (k : ℕ) → ItemsLike U N (repeated k first) (replicate k (single v))
  new_items zero = no_items
  new_items (suc k) = next_item first (single v) (repeated k first) (replicate k (single v)) (like_scalar ty (first_scalar ty) v like) (new_items k)

  pub new_flat : (k : ℕ) → list_all is_flat (replicate k (single v)) ≡ true
  new_flat zero = refl
  new_flat (suc k) = and_true (is_flat (single v)) (list_all is_flat (replicate k (single v))) flat_first (new_flat k)

  pub kept_items : (k : ℕ) (xs : Values) (ys : List net_value.Value) → ItemsLike U N xs ys
      → ItemsLike U N (source.preserved k xs first) (net.preserved k (single v) ys)
  kept_items zero xs ys h = subst (λ z. ItemsLike U N no_values z) (sym (kept_none (single v) ys)) no_items
  kept_items (suc k) _ _ no_items =
      subst (λ z. ItemsLike U N (source.preserved (suc k) no_values first) z) (sym (kept_new (suc k) (single v)))
      (next_item first (single v) (source.preserved k no_values first) (replicate k (single v)) (like_scalar ty (first_scalar ty) v like)
      (subst (λ z. ItemsLike U N (source.preserved k no_values first) z) (kept_new k (single v)) (kept_items k no_values [] no_items)))
  kept_items (suc k) _ _ (next_item x y xs ys h rest) =
      subst (λ z. ItemsLike U N (next_value x (source.preserved k xs first)) z) (sym (kept_next k (single v) y ys))
      (next_item x y (source.preserved k xs first) (net.preserved k (single v) ys) h (kept_items k xs ys rest))

  pub kept_flat : (k : ℕ) (ys : List net_value.Value) → list_all is_flat ys ≡ true → list_all is_flat (net.preserved k (single v) ys) ≡ true
  kept_flat zero ys f = ap (list_all is_flat) (kept_none (single v) ys)
  kept_flat (suc k) [] f = ap (list_all is_flat) (kept_new (suc k) (single v)) ∙ new_flat (suc k)
  kept_flat (suc k) (y ∷ ys) f =
      let both : (is_flat y ≡ true) × (list_all is_flat ys ≡ true) = both_true (is_flat y) (list_all is_flat ys) f in
      ap (list_all is_flat) (kept_next k (single v) y ys)
      ∙ and_true (is_flat y) (list_all is_flat (net.preserved k (single v) ys)) both.0 (kept_flat k ys both.1)
