-- What clap takes behind `make`: one number.
use Rattle.std.proofs.Common.{◌≡◌, ◌≤◌, ◌<◌, ℕ, zero, suc, Bool, true, not, List, [], ◌∷◌, length, get_or, drop, Some, refl, sym, ap, subst, arith, ◌∙◌}
use Rattle.std.proofs.lemmas.Bool.{and_parts}
use Rattle.std.proofs.lemmas.Option.{same_Some}
use Rattle.std.proofs.lemmas.List.FromFn.{get_or-range_with_len}
use Rattle.std.specs.Fmt.{decimal, digits}
use Rattle.std.specs.List.{list_all, range_with_len}
use Rattle.clap.specs.Faults.{defaults_fault, flags_fault, walk_fault}
use Rattle.clap.specs.Walk.{Text, walked}
use Rattle.command_words.specs.Asks.{NameCount, begins_with_minus}
use Rattle.command_words.specs.Commands.{are_printable, count_faults, count_found}
use Rattle.command_words.proofs.Requests.{denied, plain_of}
use Rattle.command_words.proofs.WordClasses.{Plain, class_of, is_dashes, is_flag, is_joined, is_long, is_plain, is_short, printable}

taken_faultless : (word n : Text) → Plain n → count_faults (word ∷ n ∷ []) ≡ []
unfolding count_faults walk_fault walked defaults_fault
taken_faultless word n h = rw (h.apart, h.long, h.short) refl

taken_found : (word n : Text) → Plain n → count_found (word ∷ n ∷ []) ≡ Some n
unfolding count_found walked
taken_found word n h = rw (h.apart, h.long, h.short) refl

faultless_plain : (word n : Text) → printable n ≡ true → count_faults (word ∷ n ∷ []) ≡ [] → Plain n
unfolding count_faults walk_fault walked flags_fault defaults_fault
faultless_plain word n p e = elim (class_of n p) [
  | is_dashes is ↦ absurd (cc (subst (λ t. count_faults (word ∷ t ∷ []) ≡ []) is e))
  | is_flag is ↦ absurd (cc (subst (λ t. count_faults (word ∷ t ∷ []) ≡ []) is e))
  | is_joined v is ↦ absurd (cc (subst (λ t. count_faults (word ∷ t ∷ []) ≡ []) is e))
  | is_long l ↦ absurd (cc (rw (l.apart, l.long) at e))
  | is_short s ↦ absurd (cc (rw (s.apart, s.long, s.short, s.read) at e))
  | is_plain h ↦ h
]

-- ---- numbers up to 200

at_place : (p : ℕ → Bool) (xs : List ℕ) (i : ℕ) → list_all p xs ≡ true → i < length xs → p (get_or xs i 0) ≡ true
at_place p [] i e lt = absurd (omega arith)
at_place p (x ∷ xs) zero e lt = (and_parts _ _ e).0
at_place p (x ∷ xs) (suc i) e lt = at_place p xs i (and_parts _ _ e).1 (omega arith)

small : (p : ℕ → Bool) → list_all p (range_with_len 0 201) ≡ true → (n : ℕ) → n ≤ 200 → p n ≡ true
small p e n h =
    let long : length (range_with_len 0 201) ≡ 201 = refl in
    let here = at_place p (range_with_len 0 201) n e (omega (arith, h, long)) in
    let is : get_or (range_with_len 0 201) n 0 ≡ n = get_or-range_with_len 0 201 n 0 (omega (arith, h)) ∙ omega arith in
    subst (λ k. p k ≡ true) is here

no_minus : list_all (λ n. not (begins_with_minus (decimal n))) (range_with_len 0 201) ≡ true
unfolding digits
no_minus = refl

digits_printable : list_all (λ n. printable (decimal n)) (range_with_len 0 201) ≡ true
unfolding digits
digits_printable = refl

plain_number : (n : ℕ) → n ≤ 200 → Plain (decimal n)
plain_number n h = plain_of (decimal n) (denied (begins_with_minus (decimal n)) (small (λ k. not (begins_with_minus (decimal k))) no_minus n h))

-- ---- what clap finds is what the words name

pub count_is_named : (words : List Text) (n : ℕ) → length words ≡ 2 → are_printable words ≡ true → count_faults words ≡ [] → count_found words ≡ Some (decimal n)
    → 1 ≤ n → n ≤ 200 → NameCount (drop 1 words) n
count_is_named [] n two p none found least most = absurd (omega (arith, two))
count_is_named (a ∷ []) n two p none found least most = absurd (omega (arith, two))
count_is_named (a ∷ b ∷ c ∷ ws) n two p none found least most = absurd (omega (arith, two))
count_is_named (a ∷ b ∷ []) n two p none found least most =
    let h = faultless_plain a b (and_parts _ _ (and_parts _ _ p).1).0 none in
    (least, most, ap (λ t. t ∷ []) (same_Some _ _ (sym (taken_found a b h) ∙ found)))

pub record CountIsFound (words : List Text) (n : ℕ) : Type 0 where
  pub two : length words ≡ 2
  pub faultless : count_faults words ≡ []
  pub found : count_found words ≡ Some (decimal n)

pub count_named_is_found : (words : List Text) (n : ℕ) → NameCount (drop 1 words) n → CountIsFound words n
count_named_is_found [] n (least, most, is) = absurd (omega (arith, ap length is))
count_named_is_found (a ∷ ws) n (least, most, is) = record {
  two = ap (λ xs. length (a ∷ xs)) is;
  faultless = subst (λ xs. count_faults (a ∷ xs) ≡ []) (sym is) (taken_faultless a (decimal n) (plain_number n most));
  found = subst (λ xs. count_found (a ∷ xs) ≡ Some (decimal n)) (sym is) (taken_found a (decimal n) (plain_number n most));
}

pub count_printable : (words : List Text) (n : ℕ) → NameCount words n → are_printable words ≡ true
count_printable words n (least, most, is) =
    let here = small (λ k. printable (decimal k)) digits_printable n most in
    subst (λ ws. are_printable ws ≡ true) (sym is) (rw here refl)
