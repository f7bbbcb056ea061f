-- The digits of a number in base 16, from those of its sixteenth part.
use Rattle.std.proofs.Common.{◌≡◌, ℕ, zero, suc, ◌+◌, ◌/◌, ◌%◌, ◌<◌, ◌≤◌, ◌==◌, true, if◌then◌else◌, [], ◌∷◌, ◌++◌, map, codes, refl, sym, ap, ◌∙◌, arith}
use Rattle.std.specs.Fmt.{digit_glyph}
use Rattle.std.specs.Int.Digits.{digits_of}
use Rattle.std.proofs.lemmas.Int.Digits.{digits_of_step}
use Rattle.std.proofs.lemmas.List.{map-append}
use Rattle.net_tree.specs.Literals.{hexadecimal}

positive : (n : ℕ) → 0 < n → hexadecimal n ≡ map (digit_glyph true) (digits_of 16 n)
positive n some = grind arith

front : (n : ℕ) → 0 < n → map (digit_glyph true) (digits_of 16 n) ≡ map (digit_glyph true) (digits_of 16 (n / 16)) ++ digit_glyph true (n % 16) ∷ []
front n some =
    ap (map (digit_glyph true)) (digits_of_step 16 n (omega arith) some) ∙ map-append (digit_glyph true) (digits_of 16 (n / 16)) (n % 16 ∷ [])

pub hexadecimal_step : (n : ℕ) → 16 ≤ n → hexadecimal n ≡ hexadecimal (n / 16) ++ digit_glyph true (n % 16) ∷ []
hexadecimal_step n big =
    positive n (omega arith) ∙ front n (omega arith) ∙ ap (λ ds. ds ++ digit_glyph true (n % 16) ∷ []) (sym (positive (n / 16) (omega arith)))

pub hexadecimal_digit : (n : ℕ) → n < 16 → hexadecimal n ≡ digit_glyph true n ∷ []
hexadecimal_digit zero small = refl
hexadecimal_digit (suc n) small =
    let none : suc n / 16 ≡ 0 = omega arith in
    let same : suc n % 16 ≡ suc n = omega arith in
    positive (suc n) (omega arith) ∙ front (suc n) (omega arith)
    ∙ ap (λ q. map (digit_glyph true) (digits_of 16 q) ++ digit_glyph true (suc n % 16) ∷ []) none
    ∙ ap (λ d. digit_glyph true d ∷ []) same
