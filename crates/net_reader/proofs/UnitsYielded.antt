-- The units that a text gives one after the other.
use Rattle.std.proofs.Common.{◌≡◌, ℕ, ◌+◌, ◌-◌, ◌/◌, ◌%◌, ◌<◌, Bool, true, ◌&&◌, lt-ltb, List, [], ◌∷◌, ◌++◌, length, refl, sym, ap, ◌∙◌, arith, cond, Option, Some, None, ⊎_elim}
use Rattle.std.specs.List.{flat_map}
use Rattle.std.specs.Prelude.{nat_le, nat_lt}
use Rattle.std.specs.Str.{all_scalars, chars, IsUtf8, is_utf8}
use Rattle.std.proofs.lemmas.Bool.Decides.{nat_tests}
use Rattle.std.specs.Str.Iter.{encode_utf16_pending, encode_utf16_rest, encode_utf16_steps}
use Rattle.std.specs.Char.Escape.{encode_utf16}
use Rattle.std.specs.Iterator.{Yields}
use Rattle.std.specs.declared.str.EncodeUtf16.{EncodeUtf16}
use Rattle.std.proofs.lemmas.Str.{IsUtf8-past_char, chars-nil, chars_past_char, is_utf8-from_IsUtf8, IsUtf8-from_is_utf8, scalars-chars}
use Rattle.net_exprs.proofs.Words.{both_true, by_test}
use Rattle.net_reader.specs.FileLines.{units_in}
use Rattle.net_reader.specs.Fits.{fits_text}
use Rattle.net_reader.proofs.Tests.{all_append, and_true}

-- the units that are to come
abbrev left : EncodeUtf16 → List ℕ
left s = encode_utf16_pending s ++ flat_map encode_utf16 (chars (encode_utf16_rest s))

record Gives (s : EncodeUtf16) (x : ℕ) (t : EncodeUtf16) : Type 0 where
  is : left s ≡ x ∷ left t
  text : IsUtf8 (encode_utf16_rest t)

gives : (s t : EncodeUtf16) (x : ℕ) → IsUtf8 (encode_utf16_rest s) → encode_utf16_steps s (Some x) t → Gives s x t
gives s t x text step = ⊎_elim
    (λ h. record {
      is = ap (λ p. p ++ flat_map encode_utf16 (chars (encode_utf16_rest s))) h.0
          ∙ ap (λ r. x ∷ flat_map encode_utf16 (chars r)) (sym h.2)
          ∙ ap (λ p. x ∷ (p ++ flat_map encode_utf16 (chars (encode_utf16_rest t)))) (sym h.1);
      text = rw h.2 text;
    })
    (λ h. record {
      is = ap (λ p. p ++ flat_map encode_utf16 (chars (encode_utf16_rest s))) h.0
          ∙ ap (flat_map encode_utf16) (chars_past_char (encode_utf16_rest s) (encode_utf16_rest t) h.1.0 text h.1.1)
          ∙ ap (λ u. u ++ flat_map encode_utf16 (chars (encode_utf16_rest t))) h.1.2;
      text = IsUtf8-past_char (encode_utf16_rest s) (encode_utf16_rest t) h.1.0 text h.1.1;
    })
    step

empty : (xs : List ℕ) → length xs ≡ 0 → xs ≡ []
empty [] h = refl
empty (x ∷ xs) h = absurd (omega arith)

ends : (s u : EncodeUtf16) → encode_utf16_steps s None u → left s ≡ []
ends s u step =
    ap (λ p. p ++ flat_map encode_utf16 (chars (encode_utf16_rest s))) step.0 ∙ ap (λ r. flat_map encode_utf16 (chars r)) (empty (encode_utf16_rest s) step.1)
    ∙ ap (flat_map encode_utf16) chars-nil

pub yielded : (xs : List ℕ) (s t u : EncodeUtf16) → IsUtf8 (encode_utf16_rest s) → Yields encode_utf16_steps s xs t → encode_utf16_steps t None u → left s ≡ xs
yielded [] s t u text same last = ap left same ∙ ends t u last
yielded (x ∷ xs) s t u text more last =
    let one = gives s more.0 x text more.1 in
    one.is ∙ ap (λ ys. x ∷ ys) (yielded xs more.0 t u one.text more.2 last)

-- the units of a text
pub all_yielded : (bytes xs : List ℕ) (s t u : EncodeUtf16) → IsUtf8 bytes → encode_utf16_rest s ≡ bytes → encode_utf16_pending s ≡ [] → Yields encode_utf16_steps s xs t → encode_utf16_steps t None u → units_in bytes ≡ Some xs
all_yielded bytes xs s t u text rest pending more last =
    let all : left s ≡ xs = yielded xs s t u (rw rest text) more last in
    let same : left s ≡ flat_map encode_utf16 (chars bytes) = ap (λ p. p ++ flat_map encode_utf16 (chars (encode_utf16_rest s))) pending ∙ ap (λ r. flat_map encode_utf16 (chars r)) rest in
    rw (is_utf8-from_IsUtf8 bytes text) (ap (λ x. Some x) (sym same ∙ all))

pub no_units : (bytes : List ℕ) → ¬ (IsUtf8 bytes) → units_in bytes ≡ None
no_units bytes h =
    by_test (is_utf8 bytes) (λ b. cond b (Some (flat_map encode_utf16 (chars bytes))) None ≡ None) (λ t. absurd (h (IsUtf8-from_is_utf8 bytes t))) (λ t. refl)

-- ---- their size

abbrev is_scalar : ℕ → Bool
is_scalar c = cond (nat_lt c 55296) true (nat_le 57344 c && nat_lt c 1114112)

below : (c : ℕ) → is_scalar c ≡ true → c < 1114112
below c h = grind (arith, nat_tests)

char_fits : (c : ℕ) → is_scalar c ≡ true → fits_text (encode_utf16 c) ≡ true
char_fits c h =
    let high = below c h in
    by_test (nat_lt c 0x1_0000) (λ b. fits_text (cond b (c ∷ []) ((0xD800 + (c - 0x1_0000) / 0x400) ∷ (0xDC00 + (c - 0x1_0000) % 0x400) ∷ [])) ≡ true)
    (λ t. and_true (nat_lt c 0x1_0000) true t refl)
    (λ t.
    and_true (nat_lt (0xD800 + (c - 0x1_0000) / 0x400) 0x1_0000) _ (lt-ltb (0xD800 + (c - 0x1_0000) / 0x400) 0x1_0000 (omega (arith, high)))
    (and_true (nat_lt (0xDC00 + (c - 0x1_0000) % 0x400) 0x1_0000) true (lt-ltb (0xDC00 + (c - 0x1_0000) % 0x400) 0x1_0000 (omega arith)) refl))

chars_fit : (cs : List ℕ) → all_scalars cs ≡ true → fits_text (flat_map encode_utf16 cs) ≡ true
chars_fit [] h = refl
chars_fit (c ∷ cs) h =
    let both = both_true (is_scalar c) (all_scalars cs) h in
    all_append (λ unit. nat_lt unit 0x1_0000) (encode_utf16 c) (flat_map encode_utf16 cs) (char_fits c both.0) (chars_fit cs both.1)

-- the units of a text fit
pub units_fit : (bytes units : List ℕ) → IsUtf8 bytes → units_in bytes ≡ Some units → fits_text units ≡ true
units_fit bytes units text h = ap fits (sym h ∙ found) ∙ chars_fit (chars bytes) (scalars-chars bytes text)
  where
    fits : Option (List ℕ) → Bool
    fits None = true
    fits (Some units) = fits_text units

    found : units_in bytes ≡ Some (flat_map encode_utf16 (chars bytes))
    found = rw (is_utf8-from_IsUtf8 bytes text) refl
