-- No number at a place is longer than the one that is read there.
use Rattle.std.proofs.Common.{◌≡◌, ℕ, suc, ◌+◌, ◌<◌, ◌≤◌, ◌==◌, ◌||◌, Bool, true, false, if◌then◌else◌, nat_lt, Option, Some, None, inl, inr, List, [], ◌∷◌, ◌++◌, length, drop, arith, refl, ap, subst, sym, ◌∙◌, append_assoc, length-append}
use Rattle.std.specs.List.{list_all}
use Rattle.std.proofs.lemmas.Bool.Decides.{nat_tests}
use Rattle.vb_tree.specs.declared.token.Suffix.{Suffix}
use Rattle.vb_tree.specs.declared.token.Suffix.TheVariants as suffix
use Rattle.vb_tree.specs.Tokens.{is_letter, is_digit, is_digit_of, digit_value, run, begins, suffix_of, suffix_units, number_suffix, radix_suffix, fraction_units, is_exponent, sign_units, with_digits, exponent_units, base_of, radix_digits}
use Rattle.vb_tree.specs.TokenClasses.{decimal, radix, Exponent, no_exponent, exponent, unit_spelling, fraction_spelling, exponent_spelling, spelling, is_suffix, IsNumberSuffix, IsRadixSuffix, AreDigits, IsFraction, IsPlusOrMinus, IsExponent, HasDigit, IsShape}
use Rattle.vb_lexer.proofs.Runs.{both_true}
use Rattle.vb_lexer.proofs.ReadingContents.{drop_more}
use Rattle.token_laws.proofs.Lengths.{Reaches, length_at, suffix_read, exponent_read, fraction_read, decimal_read, radix_read}
use Rattle.token_laws.proofs.LongestTokens.{run_then, run_covers, drop_front, suffix_no_digit, suffix_is_unit, unit_at}
use Rattle.up_base.proofs.Tests.{either}

kept : (b : Bool) (s : Suffix) → b ≡ false → (if b then suffix.Absent else s) ≡ s
kept b s e = rw e refl

suffix_reaches : (s : Option ℕ) (after : List ℕ) → IsNumberSuffix s → length (unit_spelling s) ≤ suffix_read (unit_spelling s ++ after)
suffix_reaches None after h = omega arith
suffix_reaches (Some c) after h =
    let one : suffix_units (number_suffix (c ∷ after)) ≡ 1 = ap suffix_units (kept (c == 36) (suffix_of c) h.1) ∙ suffix_is_unit c h.0 in
    subst (λ (n : ℕ). 1 ≤ n) (sym one) (omega arith)

suffix_no_exponent : (c : ℕ) → is_suffix c ≡ true → is_exponent c ≡ false
suffix_no_exponent c h = grind (arith, nat_tests)

suffix_no_point : (c : ℕ) → is_suffix c ≡ true → (c == 46) ≡ false
suffix_no_point c h = grind (arith, nat_tests)

exponent_no_digit : (c : ℕ) → is_exponent c ≡ true → is_digit c ≡ false
exponent_no_digit c h = grind (arith, nat_tests)

exponent_no_point : (c : ℕ) → is_exponent c ≡ true → (c == 46) ≡ false
exponent_no_point c h = grind (arith, nat_tests)

digit_no_sign : (c : ℕ) → is_digit c ≡ true → (c == 43 || c == 45) ≡ false
digit_no_sign c h = grind (arith, nat_tests)

suffix_stops : (s : Option ℕ) → IsNumberSuffix s → begins is_digit (unit_spelling s) ≡ false
suffix_stops None h = refl
suffix_stops (Some c) h = suffix_no_digit c h.0

-- a sign before digits is read where it stands
signs_read : (s : Option ℕ) (digits more : List ℕ) → IsPlusOrMinus s → AreDigits digits → 0 < length digits → sign_units (unit_spelling s ++ (digits ++ more)) ≡ length (unit_spelling s)
signs_read None [] more h all some = absurd (omega arith)
signs_read None (d ∷ ds) more h all some =
    let parts = both_true (is_digit d) (list_all is_digit ds) all in
    rw (digit_no_sign d parts.0) refl
signs_read (Some c) digits more h all some = rw h refl

exponent_at : (c : ℕ) (units : List ℕ) → is_exponent c ≡ true → exponent_units (c ∷ units) ≡ with_digits (1 + sign_units units) (run is_digit (drop (sign_units units) units))
unfolding exponent_units
exponent_at c units h = rw h refl

no_exponent_at : (units : List ℕ) → begins is_exponent units ≡ false → exponent_units units ≡ 0
unfolding exponent_units
no_exponent_at [] h = refl
no_exponent_at (c ∷ units) h = rw h refl

with_some : (units digits : ℕ) → 0 < digits → with_digits units digits ≡ units + digits
with_some units digits h = let e : nat_lt 0 digits ≡ true = grind (arith, nat_tests) in rw e refl

past_sign : (letter : ℕ) (front : List ℕ) (n : ℕ) (more : List ℕ) → drop ((1 + length front) + n) (letter ∷ (front ++ more)) ≡ drop n more
past_sign letter front n more =
    let e : suc (length front + n) ≡ (1 + length front) + n = omega arith in
    sym (ap (λ (m : ℕ). drop m (letter ∷ (front ++ more))) e) ∙ sym (drop_more (length front) n (front ++ more)) ∙ ap (drop n) (drop_front front more)

-- the exponent and the suffix behind it
exponent_reaches : (e : Exponent) (s : Option ℕ) (after : List ℕ) → IsExponent e → IsNumberSuffix s
    → length (exponent_spelling e ++ unit_spelling s) ≤ exponent_read ((exponent_spelling e ++ unit_spelling s) ++ after)
exponent_reaches no_exponent None after h t = omega arith
exponent_reaches no_exponent (Some c) after h t =
    let none : exponent_units (c ∷ after) ≡ 0 = no_exponent_at (c ∷ after) (suffix_no_exponent c t.0) in
    let reads : 1 ≤ suffix_read (c ∷ after) = suffix_reaches (Some c) after t in
    let more : 1 ≤ 0 + suffix_read (drop 0 (c ∷ after)) = omega arith in
    subst (λ (n : ℕ). 1 ≤ n + suffix_read (drop n (c ∷ after))) (sym none) more
exponent_reaches (exponent letter sg digits) s after h t =
    let sf : List ℕ = unit_spelling s in
    let u : List ℕ = unit_spelling sg ++ (digits ++ (sf ++ after)) in
    let grouped : (exponent_spelling (exponent letter sg digits) ++ sf) ++ after ≡ letter ∷ u = simp append_assoc in
    let signs : sign_units u ≡ length (unit_spelling sg) = signs_read sg digits (sf ++ after) h.1 h.2 h.3 in
    let behind : drop (sign_units u) u ≡ digits ++ (sf ++ after) = ap (λ (n : ℕ). drop n u) signs ∙ drop_front (unit_spelling sg) (digits ++ (sf ++ after)) in
    let count : ℕ = run is_digit (digits ++ (sf ++ after)) in
    let covers : count ≡ length digits + run is_digit (sf ++ after) = run_covers is_digit digits (sf ++ after) h.2 in
    let some : 0 < count = omega arith in
    let read : exponent_units (letter ∷ u) ≡ (1 + length (unit_spelling sg)) + count =
    exponent_at letter u h.0 ∙ ap (λ (n : ℕ). with_digits (1 + n) (run is_digit (drop (sign_units u) u))) signs
    ∙ ap (λ (v : List ℕ). with_digits (1 + length (unit_spelling sg)) (run is_digit v)) behind
    ∙ with_some (1 + length (unit_spelling sg)) count some in
    let both = run_then is_digit suffix_read digits sf after h.2 (suffix_stops s t) (suffix_reaches s after t) in
    let left : drop ((1 + length (unit_spelling sg)) + count) (letter ∷ u) ≡ drop count (digits ++ (sf ++ after)) = past_sign letter (unit_spelling sg) count (digits ++ (sf ++ after)) in
    let total : exponent_read (letter ∷ u) ≡ (1 + length (unit_spelling sg)) + count + suffix_read (drop count (digits ++ (sf ++ after))) =
    ap (λ (n : ℕ). n + suffix_read (drop n (letter ∷ u))) read ∙ ap (λ (v : List ℕ). (1 + length (unit_spelling sg)) + count + suffix_read v) left in
    let size : length (exponent_spelling (exponent letter sg digits) ++ sf) ≡ 1 + length (unit_spelling sg) + length digits + length sf = simp length-append (omega arith) in
    rw (grouped, total, size) (omega arith)

-- The fraction and what stands behind it.

exponent_stops : (e : Exponent) (s : Option ℕ) → IsExponent e → IsNumberSuffix s → begins is_digit (exponent_spelling e ++ unit_spelling s) ≡ false
exponent_stops no_exponent s h t = suffix_stops s t
exponent_stops (exponent letter sg digits) s h t = exponent_no_digit letter h.0

exponent_pointless : (e : Exponent) (s : Option ℕ) → IsExponent e → IsNumberSuffix s → begins (λ c. c == 46) (exponent_spelling e ++ unit_spelling s) ≡ false
exponent_pointless no_exponent None h t = refl
exponent_pointless no_exponent (Some c) h t = suffix_no_point c t.0
exponent_pointless (exponent letter sg digits) s h t = exponent_no_point letter h.0

pointless : (tail after : List ℕ) → begins (λ c. c == 46) tail ≡ false → length tail ≤ exponent_read (tail ++ after) → length tail ≤ fraction_read (tail ++ after)
pointless [] after stops reads = omega arith
pointless (c ∷ cs) after stops reads =
    let none : 0 ≡ fraction_units ((c ∷ cs) ++ after) = rw stops refl in
    let more : length (c ∷ cs) ≤ 0 + exponent_read (drop 0 ((c ∷ cs) ++ after)) = omega arith in
    subst (λ (n : ℕ). length (c ∷ cs) ≤ n + exponent_read (drop n ((c ∷ cs) ++ after))) none more

fraction_reaches : (f : Option (List ℕ)) (e : Exponent) (s : Option ℕ) (after : List ℕ) → IsFraction f → IsExponent e → IsNumberSuffix s
    → length (fraction_spelling f ++ (exponent_spelling e ++ unit_spelling s)) ≤ fraction_read ((fraction_spelling f ++ (exponent_spelling e ++ unit_spelling s)) ++ after)
fraction_reaches None e s after h i t = pointless (exponent_spelling e ++ unit_spelling s) after (exponent_pointless e s i t) (exponent_reaches e s after i t)
fraction_reaches (Some digits) e s after h i t =
    let tail : List ℕ = exponent_spelling e ++ unit_spelling s in
    let u : List ℕ = digits ++ (tail ++ after) in
    let grouped : ((46 ∷ digits) ++ tail) ++ after ≡ 46 ∷ u = append_assoc (46 ∷ digits) tail after in
    let n : ℕ = run is_digit u in
    let both : length digits + length tail ≤ n + exponent_read (drop n u) = run_then is_digit exponent_read digits tail after h (exponent_stops e s i t) (exponent_reaches e s after i t) in
    let one : suc n ≡ 1 + n = omega arith in
    let left : exponent_read (drop n u) ≡ exponent_read (drop (1 + n) (46 ∷ u)) = ap (λ (m : ℕ). exponent_read (drop m (46 ∷ u))) one in
    let size : length ((46 ∷ digits) ++ tail) ≡ 1 + length digits + length tail = simp length-append (omega arith) in
    subst (λ (v : List ℕ). length ((46 ∷ digits) ++ tail) ≤ fraction_read v) (sym grouped) (omega arith)

fraction_stops : (f : Option (List ℕ)) (e : Exponent) (s : Option ℕ) → IsExponent e → IsNumberSuffix s
    → begins is_digit (fraction_spelling f ++ (exponent_spelling e ++ unit_spelling s)) ≡ false
fraction_stops None e s i t = exponent_stops e s i t
fraction_stops (Some digits) e s i t = refl

-- Decimal numbers

digit_no_letter : (c : ℕ) → is_digit c ≡ true → is_letter c ≡ false
digit_no_letter c h = grind (arith, nat_tests)

at_digit : (c : ℕ) (units : List ℕ) → is_digit c ≡ true → length_at (c ∷ units) ≡ Some (decimal_read (c ∷ units))
unfolding length_at
at_digit c units h = rw (digit_no_letter c h, h) refl

at_point : (units : List ℕ) → begins is_digit units ≡ true → length_at (46 ∷ units) ≡ Some (decimal_read (46 ∷ units))
unfolding length_at
at_point units h = rw h refl

at_decimal : (whole : List ℕ) (f : Option (List ℕ)) (tail : List ℕ) → AreDigits whole → IsFraction f → HasDigit whole f
    → length_at (whole ++ (fraction_spelling f ++ tail)) ≡ Some (decimal_read (whole ++ (fraction_spelling f ++ tail)))
at_decimal (c ∷ cs) f tail h i some = at_digit c (cs ++ (fraction_spelling f ++ tail)) (both_true (is_digit c) (list_all is_digit cs) h).0
at_decimal [] None tail h i some = absurd (omega arith)
at_decimal [] (Some []) tail h i some = absurd (omega arith)
at_decimal [] (Some (d ∷ ds)) tail h i some = at_point ((d ∷ ds) ++ tail) (both_true (is_digit d) (list_all is_digit ds) i).0

pub decimal_reaches : (whole : List ℕ) (f : Option (List ℕ)) (e : Exponent) (s : Option ℕ) (after : List ℕ) → IsShape (decimal whole f e s) after
    → Reaches (spelling (decimal whole f e s) ++ after) (length (spelling (decimal whole f e s)))
decimal_reaches whole f e s after h =
    let rest : List ℕ = exponent_spelling e ++ unit_spelling s in
    let tail : List ℕ = fraction_spelling f ++ rest in
    let grouped : (whole ++ tail) ++ after ≡ whole ++ (fraction_spelling f ++ (rest ++ after)) = simp append_assoc in
    let again : whole ++ (fraction_spelling f ++ (rest ++ after)) ≡ whole ++ (tail ++ after) = simp append_assoc in
    let both : length whole + length tail ≤ decimal_read (whole ++ (tail ++ after)) =
    run_then is_digit fraction_read whole tail after h.0 (fraction_stops f e s h.3 h.4) (fraction_reaches f e s after h.1 h.3 h.4) in
    record {
      read = decimal_read (whole ++ (tail ++ after));
      there = ap length_at grouped ∙ at_decimal whole f (rest ++ after) h.0 h.1 h.2 ∙ ap (λ (u : List ℕ). Some (decimal_read u)) again;
      far = rw (length-append whole tail) both;
    }

-- Hexadecimal and octal numbers

at_radix : (units : List ℕ) → nat_lt 0 (radix_digits units) ≡ true → length_at (38 ∷ units) ≡ Some (radix_read units)
unfolding length_at
at_radix units h = rw h refl

base_small : (a b : Bool) → nat_lt 16 (if a then 16 else if b then 8 else 0) ≡ false
base_small true b = refl
base_small false true = refl
base_small false false = refl

value_at : (c k : ℕ) → (c == k) ≡ true → digit_value k ≡ 16 → digit_value c ≡ 16
value_at c k e h = let same : c ≡ k = grind (arith, nat_tests) in rw same h

no_base_digit : (letter c : ℕ) → (c == 37 || c == 38) ≡ true → is_digit_of (base_of letter) c ≡ false
no_base_digit letter c h =
    let small : nat_lt 16 (base_of letter) ≡ false = base_small (letter == 72 || letter == 104) (letter == 79 || letter == 111) in
    let value : digit_value c ≡ 16 = elim (either (c == 37) (c == 38) h) [ inl e ↦ value_at c 37 e refl | inr e ↦ value_at c 38 e refl ] in
    rw value small

chosen_suffix : (b : Bool) (s : Suffix) → b ≡ true → (if b then s else suffix.Absent) ≡ s
chosen_suffix b s e = rw e refl

positive : (n : ℕ) → 0 < n → nat_lt 0 n ≡ true
positive n h = grind (arith, nat_tests)

radix_stops : (letter : ℕ) (s : Option ℕ) → IsRadixSuffix s → begins (is_digit_of (base_of letter)) (unit_spelling s) ≡ false
radix_stops letter None h = refl
radix_stops letter (Some c) h = no_base_digit letter c h

radix_suffix_reaches : (s : Option ℕ) (after : List ℕ) → IsRadixSuffix s → length (unit_spelling s) ≤ suffix_units (radix_suffix (unit_spelling s ++ after))
radix_suffix_reaches None after h = omega arith
radix_suffix_reaches (Some c) after h =
    let one : suffix_units (suffix_of c) ≡ 1 = elim (either (c == 37) (c == 38) h) [ inl e ↦ unit_at c 37 e refl | inr e ↦ unit_at c 38 e refl ] in
    let read : suffix_units (radix_suffix (c ∷ after)) ≡ 1 = ap suffix_units (chosen_suffix (c == 37 || c == 38) (suffix_of c) h) ∙ one in
    subst (λ (n : ℕ). 1 ≤ n) (sym read) (omega arith)

pub radix_reaches : (letter : ℕ) (digits : List ℕ) (s : Option ℕ) (after : List ℕ) → IsShape (radix letter digits s) after
    → Reaches (spelling (radix letter digits s) ++ after) (length (spelling (radix letter digits s)))
radix_reaches letter digits s after h =
    let p : ℕ → Bool = is_digit_of (base_of letter) in
    let sf : List ℕ = unit_spelling s in
    let u : List ℕ = digits ++ (sf ++ after) in
    let grouped : 38 ∷ letter ∷ ((digits ++ sf) ++ after) ≡ 38 ∷ letter ∷ u = simp append_assoc in
    let covers : run p u ≡ length digits + run p (sf ++ after) = run_covers p digits (sf ++ after) h.0 in
    let some : 0 < run p u = omega arith in
    let is_some : nat_lt 0 (radix_digits (letter ∷ u)) ≡ true = positive (run p u) some in
    let both : length digits + length sf ≤ run p u + suffix_units (radix_suffix (drop (run p u) u)) =
    run_then p (λ v. suffix_units (radix_suffix v)) digits sf after h.0 (radix_stops letter s h.2) (radix_suffix_reaches s after h.2) in
    let size : length (38 ∷ letter ∷ (digits ++ sf)) ≡ 2 + length digits + length sf = simp length-append (omega arith) in
    record {
      read = radix_read (letter ∷ u);
      there = ap length_at grouped ∙ at_radix (letter ∷ u) is_some;
      far = rw size (omega arith);
    }
