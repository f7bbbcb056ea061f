-- Which elements an array has: one for each place that its indexes name.
use Rattle.std.proofs.Common.{◌≡◌, refl, sym, ◌∙◌, subst, ℕ, zero, suc, ◌<◌, ◌+◌, ◌*◌, ℤ, pos, negsuc, ◌-ℤ◌, Bool, true, false, ◌&&◌, List, [], ◌∷◌, Option, Some, None, true≢false, arith, ltb-true}
use Rattle.std.specs.Prelude.{int_le, int_lt, nat_lt}
use Rattle.vb6_run.specs.Arrays.{element_place, index_if, index_in, joined_index}
use Rattle.vb6_run.specs.Values.{Dimension, Value, Values, count_values, next_value, no_values, product, value_at}
use Rattle.run_matches.specs.Typed.{IsSized, no_elements, sized}
use Rattle.typing_laws.proofs.Made.{below}
use Rattle.typing_laws.proofs.Places.{not_none, some_is}

-- ---- one index

index_by : (low z x : ℤ) (c i : ℕ) → z -ℤ low ≡ x → (b : Bool) → int_le low z ≡ b → index_if (b && int_lt x (pos c)) x ≡ Some i → i < c
index_by low z x c i e false le h = absurd (not_none h)
index_by low z (negsuc m) c i e true le h = absurd (true≢false (sym le ∙ below low z m e))
index_by low z (pos m) c i e true le h = by (nat_lt m c) refl h
  where
    by : (b : Bool) → nat_lt m c ≡ b → index_if b (pos m) ≡ Some i → i < c
    by true l h = subst (λ n. n < c) (some_is h) (ltb-true m c l)
    by false l h = absurd (not_none h)

index_less : (d : Dimension) (z : ℤ) (i : ℕ) → index_in d z ≡ Some i → i < d.count
index_less d z i h = index_by d.low z (z -ℤ d.low) d.count i refl (int_le d.low z) refl h

-- ---- several indexes

joined_less : (i c j n : ℕ) → i < c → j < n → i * n + j < c * n
joined_less i c j n l m = grind arith

joined_by : (c n j : ℕ) (o p : Option ℕ) → ((i : ℕ) → o ≡ Some i → i < c) → ((k : ℕ) → p ≡ Some k → k < n) → joined_index n o p ≡ Some j → j < c * n
joined_by c n j None p h k e = absurd (not_none e)
joined_by c n j (Some i) None h k e = absurd (not_none e)
joined_by c n j (Some i) (Some m) h k e = subst (λ x. x < c * n) (some_is e) (joined_less i c m n (h i refl) (k m refl))

place_less : (dims : List Dimension) (zs : List ℤ) (j : ℕ) → element_place dims zs ≡ Some j → j < product dims
place_less [] [] j e = subst (λ x. x < 1) (some_is e) (let l : 0 < 1 = omega arith in l)
place_less [] (z ∷ zs) j e = absurd (not_none e)
place_less (d ∷ dims) [] j e = absurd (not_none e)
place_less (d ∷ dims) (z ∷ zs) j e =
    joined_by d.count (product dims) j (index_in d z) (element_place dims zs) (λ i h. index_less d z i h) (λ k h. place_less dims zs k h) e

-- ---- the element

pub record Element (xs : Values) (j : ℕ) : Type 0 where
  pub value : Value
  pub is : value_at xs j ≡ Some value

element_in : (xs : Values) (j : ℕ) → j < count_values xs → Element xs j
element_in no_values j l = absurd (omega (arith, l))
element_in (next_value x xs) zero l = record { value = x; is = refl }
element_in (next_value x xs) (suc j) l =
    let less : j < count_values xs = omega (arith, l) in
    let e : Element xs j = element_in xs j less in
    record { value = e.value; is = e.is }

-- what indexes name, of which there is one at least, is there
pub element_there : (dims : List Dimension) (xs : Values) (zs : List ℤ) (j : ℕ) → IsSized dims xs → (zs ≡ [] → ⊥) → element_place dims zs ≡ Some j → Element xs j
element_there _ _ [] j no_elements some e = absurd (some refl)
element_there _ _ (z ∷ zs) j no_elements some e = absurd (not_none e)
element_there _ _ zs j (sized d dims xs n within count) some e =
    element_in xs j (subst (λ n. j < n) (sym count) (place_less (d ∷ dims) zs j e))
