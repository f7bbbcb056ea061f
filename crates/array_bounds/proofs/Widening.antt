-- Ranges of lists that grow by one number.
use Rattle.std.proofs.Common.{◌≡◌, ℕ, ◌+◌, ◌<◌, Bool, true, false, cond, List, [], ◌∷◌, ◌++◌, length, get_or, take, refl, ap, sym, subst, ◌∙◌, arith, nat_lt, nat_eq, inl, inr, ⊎_elim, Some, None}
use Rattle.std.specs.Prelude.{ℤ, ◌≤ℤ◌, ◌&&◌, ◌⊎◌, Option, if◌then◌else◌, slice_index}
use Rattle.std.specs.Int.{int_min, int_max}
use Rattle.std.proofs.lemmas.Int.{ints, clamps}
use Rattle.std.proofs.lemmas.Grind.{flat_map-append}
use Rattle.std.proofs.lemmas.List.{take_more}
use Rattle.std.proofs.lemmas.List.Elements.{Contains-append_left, Contains-push, Contains-push_cases}
use Rattle.std.proofs.lemmas.Bool.{ltb-true, eqb-true}
use Rattle.std.proofs.lemmas.Bool.Decides.{nat_tests}
use Rattle.array_bounds.specs.declared.givens.Given.{Given}
use Rattle.array_bounds.specs.declared.ranges.Range.{Range}
use Rattle.array_bounds.specs.Givens.{at_dimension, in_dimension}
use Rattle.array_bounds.specs.Ranges.{ClassNumber, RangeIs, wider}

same_z : (z : ℤ) → z ≤ℤ z
same_z z = omega (arith, ints)

min_left : (a z : ℤ) → int_min a z ≤ℤ a
min_left a z = omega (arith, ints, clamps)

min_right : (a z : ℤ) → int_min a z ≤ℤ z
min_right a z = omega (arith, ints, clamps)

max_left : (a z : ℤ) → a ≤ℤ int_max a z
max_left a z = omega (arith, ints, clamps)

max_right : (a z : ℤ) → z ≤ℤ int_max a z
max_right a z = omega (arith, ints, clamps)

either : (t : Bool) (x y : ℤ) → (cond t x y ≡ y) ⊎ (cond t x y ≡ x)
either true x y = inr refl
either false x y = inl refl

min_is : (a z : ℤ) → (int_min a z ≡ a) ⊎ (int_min a z ≡ z)
min_is a z = either _ z a

max_is : (a z : ℤ) → (int_max a z ≡ a) ⊎ (int_max a z ≡ z)
max_is a z = ⊎_elim inr inl (either _ a z)

trans_z : (a b c : ℤ) → a ≤ℤ b → b ≤ℤ c → a ≤ℤ c
trans_z a b c h k = omega (arith, ints)

-- one more number
range_wider : (P Q : ℤ → Type 0) (r : Option Range) (z : ℤ) → ((y : ℤ) → P y → Q y) → Q z → ((y : ℤ) → Q y → P y ⊎ (y ≡ z)) → RangeIs P r → RangeIs Q (Some (wider r z))
range_wider P Q None z up new back h =
    (new, new, λ y q. ⊎_elim (λ p. absurd (h y p)) (λ e. (subst (λ (w : ℤ). z ≤ℤ w) (sym e) (same_z z), subst (λ (w : ℤ). w ≤ℤ z) (sym e) (same_z z))) (back y q))
range_wider P Q (Some r) z up new back h = (
  ⊎_elim (λ e. subst Q (sym e) (up r.low h.0)) (λ e. subst Q (sym e) new) (min_is r.low z),
  ⊎_elim (λ e. subst Q (sym e) (up r.high h.1)) (λ e. subst Q (sym e) new) (max_is r.high z),
  (λ y q. ⊎_elim
      (λ p. (trans_z (int_min r.low z) r.low y (min_left r.low z) (h.2 y p).0, trans_z y r.high (int_max r.high z) (h.2 y p).1 (max_left r.high z)))
      (λ e. (subst (λ (w : ℤ). int_min r.low z ≤ℤ w) (sym e) (min_right r.low z), subst (λ (w : ℤ). w ≤ℤ int_max r.high z) (sym e) (max_right r.high z)))
      (back y q)),
)

-- the same numbers
pub range_same : (P Q : ℤ → Type 0) (r : Option Range) → ((y : ℤ) → P y → Q y) → ((y : ℤ) → Q y → P y) → RangeIs P r → RangeIs Q r
range_same P Q None up back h = λ y q. h y (back y q)
range_same P Q (Some r) up back h = (up r.low h.0, up r.high h.1, λ y q. h.2 y (back y q))

module _ (classes : List ℕ) (seen : List (ℕ × ℤ)) (b : ℕ) (z : ℤ) (c : ℕ) where
  abbrev more : List (ℕ × ℤ)
  more = seen ++ (b, z) ∷ []

  up_more : (y : ℤ) → ClassNumber classes seen c y → ClassNumber classes more c y
  up_more y h = (h.0, Contains-append_left seen ((b, z) ∷ []) (h.0, y) h.1, h.2, h.3)

  back_more : (y : ℤ) → ClassNumber classes more c y → ClassNumber classes seen c y ⊎ ((y ≡ z) × (b < length classes) × (slice_index classes b ≡ c))
  back_more y h = ⊎_elim (λ k. inl (h.0, k, h.2, h.3))
      (λ e. let same = ap (λ (p : ℕ × ℤ). p.0) e in inr (sym (ap (λ (p : ℕ × ℤ). p.1) e), subst (λ (n : ℕ). n < length classes) (sym same) h.2, ap (slice_index classes) same ∙ h.3))
      (Contains-push_cases seen (b, z) (h.0, y) h.1)

  range_more : (in_list here : Bool) → nat_lt b (length classes) ≡ in_list → nat_eq (slice_index classes b) c ≡ here → (r : Option Range) → RangeIs (ClassNumber classes seen c) r
      → RangeIs (ClassNumber classes more c) (if in_list && here then Some (wider r z) else r)
  range_more true true l e r h =
      range_wider (ClassNumber classes seen c) (ClassNumber classes more c) r z up_more (b, Contains-push seen (b, z), ltb-true b (length classes) l, eqb-true (slice_index classes b) c e)
      (λ y q. ⊎_elim inl (λ k. inr k.0) (back_more y q)) h
  range_more true false l e r h =
      range_same (ClassNumber classes seen c) (ClassNumber classes more c) r up_more (λ y q. ⊎_elim (λ k. k) (λ k. absurd (let s = k.2 in grind (arith, nat_tests))) (back_more y q)) h
  range_more false here l e r h =
      range_same (ClassNumber classes seen c) (ClassNumber classes more c) r up_more (λ y q. ⊎_elim (λ k. k) (λ k. absurd (let s = k.1 in grind (arith, nat_tests))) (back_more y q)) h

append_none : {X : Type 0} (xs : List X) → xs ++ [] ≡ xs
append_none [] = refl
append_none (x ∷ xs) = ap (λ ys. x ∷ ys) (append_none xs)

-- a number that is given in a dimension or in another one
given_more : (classes : List ℕ) (seen : List (ℕ × ℤ)) (g : Given) (c : ℕ) (t u : Bool) → (nat_lt g.array (length classes) && nat_eq (slice_index classes g.array) c) ≡ t → (r : Option Range)
    → RangeIs (ClassNumber classes seen c) r → RangeIs (ClassNumber classes (seen ++ cond u ((g.array, g.number) ∷ []) []) c) (if t && u then Some (wider r g.number) else r)
given_more classes seen g c t false e r h =
    let none : (b : Bool) → (if b && false then Some (wider r g.number) else r) ≡ r = λ b. elim b as (λ v. (if v && false then Some (wider r g.number) else r) ≡ r) [ true ↦ refl | false ↦ refl ] in
    subst (λ (o : Option Range). RangeIs (ClassNumber classes (seen ++ []) c) o) (sym (none t))
    (subst (λ (xs : List (ℕ × ℤ)). RangeIs (ClassNumber classes xs c) r) (sym (append_none seen)) h)
given_more classes seen g c t true e r h =
    let all : (b : Bool) → (if b && true then Some (wider r g.number) else r) ≡ (if b then Some (wider r g.number) else r) = λ b. elim b as (λ v. (if v && true then Some (wider r g.number) else r) ≡ (if v then Some (wider r g.number) else r)) [ true ↦ refl | false ↦ refl ] in
    let grown = range_more classes seen g.array g.number c (nat_lt g.array (length classes)) (nat_eq (slice_index classes g.array) c) refl refl r h in
    subst (λ (o : Option Range). RangeIs (ClassNumber classes (seen ++ (g.array, g.number) ∷ []) c) o) (sym (all t))
    (subst (λ (b : Bool). RangeIs (ClassNumber classes (seen ++ (g.array, g.number) ∷ []) c) (if b then Some (wider r g.number) else r)) e grown)

pub ranges_next : (classes : List ℕ) (givens : List Given) (i : ℕ) (x : Given) (c d : ℕ) (r new : Option Range) → i < length givens
    → RangeIs (ClassNumber classes (at_dimension d (take i givens)) c) r
    → new ≡ (if (nat_lt (get_or givens i x).array (length classes) && nat_eq (slice_index classes (get_or givens i x).array) c) && nat_eq (get_or givens i x).dimension d then Some (wider r (get_or givens i x).number) else r)
    → RangeIs (ClassNumber classes (at_dimension d (take (i + 1) givens)) c) new
ranges_next classes givens i x c d r new h so_far is =
    let g = get_or givens i x in
    let grown = given_more classes (at_dimension d (take i givens)) g c (nat_lt g.array (length classes) && nat_eq (slice_index classes g.array) c) (nat_eq g.dimension d) refl r so_far in
    let split : at_dimension d (take (i + 1) givens) ≡ at_dimension d (take i givens) ++ in_dimension d g =
    ap (at_dimension d) (take_more givens i x h) ∙ flat_map-append (in_dimension d) (take i givens) (g ∷ []) ∙ ap (λ (xs : List (ℕ × ℤ)). at_dimension d (take i givens) ++ xs) (append_none (in_dimension d g)) in
    subst (λ (o : Option Range). RangeIs (ClassNumber classes (at_dimension d (take (i + 1) givens)) c) o) (sym is)
    (subst (λ (xs : List (ℕ × ℤ)). RangeIs (ClassNumber classes xs c) (if (nat_lt g.array (length classes) && nat_eq (slice_index classes g.array) c) && nat_eq g.dimension d then Some (wider r g.number) else r)) (sym split) grown)

pub ranges_none : (classes : List ℕ) (c : ℕ) (r : Option Range) → r ≡ None → RangeIs (ClassNumber classes [] c) r
ranges_none classes c r is = subst (λ (o : Option Range). RangeIs (ClassNumber classes [] c) o) (sym is) (λ z h. absurd (let l = h.1.1 in omega arith))
