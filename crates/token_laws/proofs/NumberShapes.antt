-- What is read as a number is a number.
use Rattle.std.proofs.Common.{◌≡◌, ℕ, suc, ◌+◌, ◌<◌, ◌≤◌, ◌==◌, ◌&&◌, ◌||◌, Bool, true, false, nat_lt, Option, Some, None, option_map, ◌⊎◌, inl, inr, List, [], ◌∷◌, ◌++◌, length, take, drop, arith, refl, ap, subst, sym, ◌∙◌, append_assoc, length-append}
use Rattle.std.proofs.Math.Seq.{take-add}
use Rattle.std.proofs.lemmas.Bool.Decides.{nat_tests}
use Rattle.vb_tree.specs.declared.token.Literal6.{Literal6}
use Rattle.vb_tree.specs.declared.token.Suffix.{Suffix}
use Rattle.vb_tree.specs.declared.token.TokenKind.TheVariants as kind
use Rattle.vb_tree.specs.Tokens.{is_digit, is_digit_of, run, begins, suffix_units, number_suffix, radix_suffix, fraction_units, is_exponent, sign_units, exponent_units, decimal_value, decimal_at, literal_of, base_of, value_from, radix_value, radix_digits, radix_behind, radix_at, token_at}
use Rattle.vb_tree.specs.TokenClasses.{decimal, radix, Exponent, no_exponent, exponent, unit_spelling, fraction_spelling, exponent_spelling, IsNumberSuffix, IsRadixSuffix, IsFraction, IsPlusOrMinus, IsExponent, HasDigit, suffix_named}
use Rattle.vb_lexer.proofs.Runs.{both_true, run_all}
use Rattle.vb_lexer.proofs.ReadingContents.{drop_more}
use Rattle.token_laws.proofs.Lengths.{suffix_read, exponent_read, decimal_read, radix_read}
use Rattle.token_laws.proofs.TokenShapes.{IsRead, take_drop, run_length, SuffixSplit, split_number, split_radix}

-- the point and the digits behind it at the front
record FractionSplit (units : List ℕ) : Type 0 where
  pub fraction : Option (List ℕ)
  pub spelt : take (fraction_units units) units ≡ fraction_spelling fraction
  pub size : length (fraction_spelling fraction) ≡ fraction_units units
  pub shaped : IsFraction fraction

split_fraction : (units : List ℕ) → FractionSplit units
split_fraction [] = record { fraction = None; spelt = refl; size = refl; shaped = tt }
split_fraction (c ∷ units) = go (c == 46) refl
  where
    go : (b : Bool) → (c == 46) ≡ b → FractionSplit (c ∷ units)
    go true e =
        let n : ℕ = run is_digit units in
        let same : c ≡ 46 = grind (arith, nat_tests) in
        let one : suc n ≡ fraction_units (c ∷ units) = rw e (omega arith) in
        let point : take (suc n) (c ∷ units) ≡ 46 ∷ take n units = ap (λ (d : ℕ). d ∷ take n units) same in
        let count : length (take n units) ≡ n = run_length is_digit units in
        record {
          fraction = Some (take n units);
          spelt = subst (λ (m : ℕ). take m (c ∷ units) ≡ 46 ∷ take n units) one point;
          size = omega arith;
          shaped = run_all is_digit units;
        }
    go false e = record { fraction = None; spelt = rw e refl; size = rw e refl; shaped = tt }

-- a sign at the front
record SignSplit (units : List ℕ) : Type 0 where
  pub unit : Option ℕ
  pub spelt : take (sign_units units) units ≡ unit_spelling unit
  pub size : length (unit_spelling unit) ≡ sign_units units
  pub shaped : IsPlusOrMinus unit

split_sign : (units : List ℕ) → SignSplit units
split_sign [] = record { unit = None; spelt = refl; size = refl; shaped = tt }
split_sign (c ∷ units) = go (c == 43 || c == 45) refl
  where
    go : (b : Bool) → (c == 43 || c == 45) ≡ b → SignSplit (c ∷ units)
    go true e = record { unit = Some c; spelt = rw e refl; size = rw e refl; shaped = e }
    go false e = record { unit = None; spelt = rw e refl; size = rw e refl; shaped = tt }

-- the exponent at the front
record ExponentSplit (units : List ℕ) : Type 0 where
  pub power : Exponent
  pub spelt : take (exponent_units units) units ≡ exponent_spelling power
  pub size : length (exponent_spelling power) ≡ exponent_units units
  pub shaped : IsExponent power

nothing : (units : List ℕ) → exponent_units units ≡ 0 → ExponentSplit units
nothing units e = record { power = no_exponent; spelt = ap (λ (n : ℕ). take n units) e; size = sym e; shaped = tt }

split_exponent : (units : List ℕ) → ExponentSplit units
unfolding exponent_units
split_exponent [] = nothing [] refl
split_exponent (c ∷ units) = go (is_exponent c) (nat_lt 0 (run is_digit (drop (sign_units units) units))) refl refl
  where
    go : (a b : Bool) → is_exponent c ≡ a → nat_lt 0 (run is_digit (drop (sign_units units) units)) ≡ b → ExponentSplit (c ∷ units)
    go false b e f = nothing (c ∷ units) (rw e refl)
    go true false e f = nothing (c ∷ units) (rw (e, f) refl)
    go true true e f =
        let digits : ℕ = run is_digit (drop (sign_units units) units) in
        let split : SignSplit units = split_sign units in
        let more : List ℕ = drop (sign_units units) units in
        let some : 0 < digits = grind (arith, nat_tests) in
        let read : exponent_units (c ∷ units) ≡ (1 + sign_units units) + digits = rw (e, f) refl in
        let count : length (take digits more) ≡ digits = run_length is_digit more in
        let joined : take (sign_units units + digits) units ≡ unit_spelling split.unit ++ take digits more =
        take-add (sign_units units) digits units ∙ ap (λ (u : List ℕ). u ++ take digits more) split.spelt in
        let whole : suc (sign_units units + digits) ≡ exponent_units (c ∷ units) = omega arith in
        let signs : length (unit_spelling split.unit) ≡ sign_units units = split.size in
        record {
          power = exponent c split.unit (take digits more);
          spelt = subst (λ (n : ℕ). take n (c ∷ units) ≡ c ∷ (unit_spelling split.unit ++ take digits more)) whole (ap (λ (u : List ℕ). c ∷ u) joined);
          size = simp length-append (omega arith);
          shaped = (e, split.shaped, run_all is_digit more, omega arith);
        }

-- Decimal numbers

literal_value : (value : Option Literal6) (n : ℕ) → literal_of value n ≡ option_map (λ k. (k, n)) (option_map kind.Lit value)
literal_value None n = refl
literal_value (Some l) n = refl

digit_before : (whole : List ℕ) (f : Option (List ℕ)) → 0 < length whole → HasDigit whole f
digit_before whole None h = h
digit_before whole (Some digits) h = omega arith

digit_behind : (whole : List ℕ) (f : Option (List ℕ)) → 2 ≤ length (fraction_spelling f) → HasDigit whole f
digit_behind whole None h = absurd (omega arith)
digit_behind whole (Some digits) h = omega arith

begins_run : (units : List ℕ) → begins is_digit units ≡ true → 0 < run is_digit units
begins_run [] h = absurd cc
begins_run (c ∷ cs) h = rw h (omega arith)

-- a number has a digit before its point or behind it
has_digit : (c : ℕ) (units : List ℕ) → (is_digit c || (c == 46 && begins is_digit units)) ≡ true
    → (0 < run is_digit (c ∷ units)) ⊎ (2 ≤ fraction_units (drop (run is_digit (c ∷ units)) (c ∷ units)))
has_digit c units h = go (is_digit c) refl h
  where
    go : (b : Bool) → is_digit c ≡ b → (b || (c == 46 && begins is_digit units)) ≡ true
        → (0 < run is_digit (c ∷ units)) ⊎ (2 ≤ fraction_units (drop (run is_digit (c ∷ units)) (c ∷ units)))
    go true e t = inl (rw e (omega arith))
    go false e t =
        let parts = both_true (c == 46) (begins is_digit units) t in
        let some : 0 < run is_digit units = begins_run units parts.1 in
        inr (rw e (rw parts.0 (omega arith)))

decimal_is : (units : List ℕ) → (0 < run is_digit units) ⊎ (2 ≤ fraction_units (drop (run is_digit units) units)) → token_at units ≡ decimal_at units → IsRead units (decimal_read units)
unfolding decimal_at
decimal_is units some e =
    let w : ℕ = run is_digit units in
    let p : ℕ = fraction_units (drop w units) in
    let x : ℕ = exponent_units (drop (w + p) units) in
    let after : List ℕ = drop (w + p + x) units in
    let f : FractionSplit (drop w units) = split_fraction (drop w units) in
    let power : ExponentSplit (drop (w + p) units) = split_exponent (drop (w + p) units) in
    let s : SuffixSplit after (number_suffix after) (λ unit rest. IsNumberSuffix unit) = split_number after in
    let whole : List ℕ = take w units in
    let second : drop p (drop w units) ≡ drop (w + p) units = drop_more w p units in
    let third : drop x (drop (w + p) units) ≡ after = drop_more (w + p) x units in
    let tail3 : drop (w + p) units ≡ exponent_spelling power.power ++ (unit_spelling s.unit ++ s.rest) =
    sym (take_drop x (drop (w + p) units)) ∙ ap (λ (u : List ℕ). u ++ drop x (drop (w + p) units)) power.spelt ∙ ap (λ (u : List ℕ). exponent_spelling power.power ++ u) (third ∙ s.spelt) in
    let tail2 : drop w units ≡ fraction_spelling f.fraction ++ (exponent_spelling power.power ++ (unit_spelling s.unit ++ s.rest)) =
    sym (take_drop p (drop w units)) ∙ ap (λ (u : List ℕ). u ++ drop p (drop w units)) f.spelt ∙ ap (λ (u : List ℕ). fraction_spelling f.fraction ++ u) (second ∙ tail3) in
    let spelt : units ≡ (whole ++ (fraction_spelling f.fraction ++ (exponent_spelling power.power ++ unit_spelling s.unit))) ++ s.rest =
    sym (take_drop w units) ∙ ap (λ (u : List ℕ). whole ++ u) tail2 ∙ simp append_assoc in
    let count : length whole ≡ w = run_length is_digit units in
    let points : length (fraction_spelling f.fraction) ≡ p = f.size in
    let powers : length (exponent_spelling power.power) ≡ x = power.size in
    let suffixes : length (unit_spelling s.unit) ≡ suffix_units (number_suffix after) = s.units in
    let there : exponent_read (drop p (drop w units)) ≡ exponent_read (drop (w + p) units) = ap exponent_read second in
    let last : suffix_read (drop x (drop (w + p) units)) ≡ suffix_read after = ap suffix_read third in
    let total : w + p + x + suffix_units (number_suffix after) ≡ decimal_read units = omega arith in
    let digit : HasDigit whole f.fraction = elim some [ inl h ↦ digit_before whole f.fraction (omega arith) | inr h ↦ digit_behind whole f.fraction (omega arith) ] in
    let value : decimal_value whole (take p (drop w units)) x (number_suffix after) ≡ decimal_value whole (fraction_spelling f.fraction) (length (exponent_spelling power.power)) (suffix_named s.unit) =
    ap (λ (u : List ℕ). decimal_value whole u x (number_suffix after)) f.spelt
    ∙ ap (λ (n : ℕ). decimal_value whole (fraction_spelling f.fraction) n (number_suffix after)) (sym powers)
    ∙ ap (λ (t : Suffix). decimal_value whole (fraction_spelling f.fraction) (length (exponent_spelling power.power)) t) (sym s.named) in
    subst (IsRead units) total (record {
      shape = decimal whole f.fraction power.power s.unit;
      stands = record { after = s.rest; spelt = spelt; shaped = (run_all is_digit units, f.shaped, digit, power.shaped, s.shaped) };
      size = simp length-append (omega arith);
      value = e ∙ literal_value (decimal_value whole (take p (drop w units)) x (number_suffix after)) (w + p + x + suffix_units (number_suffix after))
          ∙ ap (λ (v : Option Literal6). option_map (λ k. (k, w + p + x + suffix_units (number_suffix after))) (option_map kind.Lit v)) value;
    })

pub decimal_is_read : (c : ℕ) (units : List ℕ) → (is_digit c || (c == 46 && begins is_digit units)) ≡ true → token_at (c ∷ units) ≡ decimal_at (c ∷ units) → IsRead (c ∷ units) (decimal_read (c ∷ units))
decimal_is_read c units h e = decimal_is (c ∷ units) (has_digit c units h) e

-- Hexadecimal and octal numbers

at_radix : (units : List ℕ) → nat_lt 0 (radix_digits units) ≡ true → token_at (38 ∷ units) ≡ radix_at units
unfolding token_at
at_radix units h = rw h refl

pub radix_is_read : (units : List ℕ) → nat_lt 0 (radix_digits units) ≡ true → IsRead (38 ∷ units) (radix_read units)
unfolding radix_behind
radix_is_read [] h = absurd (let no : false ≡ true = h in cc)
radix_is_read (letter ∷ units) h =
    let p : ℕ → Bool = is_digit_of (base_of letter) in
    let n : ℕ = run p units in
    let digits : List ℕ = take n units in
    let after : List ℕ = drop n units in
    let s : SuffixSplit after (radix_suffix after) (λ unit rest. IsRadixSuffix unit) = split_radix after in
    let some : 0 < n = grind (arith, nat_tests) in
    let count : length digits ≡ n = run_length p units in
    let suffixes : length (unit_spelling s.unit) ≡ suffix_units (radix_suffix after) = s.units in
    let spelt : units ≡ (digits ++ unit_spelling s.unit) ++ s.rest =
    sym (take_drop n units) ∙ ap (λ (u : List ℕ). digits ++ u) s.spelt ∙ sym (append_assoc digits (unit_spelling s.unit) s.rest) in
    let m : ℕ = 2 + n + suffix_units (radix_suffix after) in
    record {
      shape = radix letter digits s.unit;
      stands = record { after = s.rest; spelt = ap (λ (u : List ℕ). 38 ∷ letter ∷ u) spelt; shaped = (run_all p units, omega arith, s.shaped) };
      size = simp length-append (omega arith);
      value = at_radix (letter ∷ units) h ∙ literal_value (radix_value (value_from (base_of letter) 0 digits) (radix_suffix after)) m
          ∙ ap (λ (t : Suffix). option_map (λ k. (k, m)) (option_map kind.Lit (radix_value (value_from (base_of letter) 0 digits) t))) (sym s.named);
    }
