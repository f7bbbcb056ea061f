-- The units of a text are read back from its UTF-8, which holds no line end.
use Rattle.std.proofs.Common.{◌≡◌, ℕ, ◌+◌, ◌-◌, ◌*◌, ◌/◌, ◌%◌, ◌<◌, ◌≤◌, Bool, true, false, cond, not, ◌&&◌, ◌||◌, List, [], ◌∷◌, ◌++◌, refl, sym, ap, subst, ◌∙◌, arith, append-nil, Some, None}
use Rattle.std.proofs.lemmas.Bool.{not-true}
use Rattle.std.proofs.lemmas.Bool.Decides.{nat_tests}
use Rattle.std.specs.Prelude.{nat_lt, nat_le, encode_utf8_all}
use Rattle.std.specs.List.{flat_map, list_all}
use Rattle.std.specs.Str.{IsUtf8, chars, all_scalars, is_utf8}
use Rattle.std.specs.Char.{encode_utf8}
use Rattle.std.specs.Char.Escape.{encode_utf16}
use Rattle.std.specs.Char.Utf16.{is_high_surrogate, is_low_surrogate, surrogate_pair_char}
use Rattle.std.proofs.lemmas.Str.{chars-encodes, is_utf8-from_IsUtf8}
use borrow.Author.Tests.{leb-true, ltb-true}
use Rattle.net_tree.specs.Comments.{is_comment, is_surrogate, is_well_formed, is_within_line, utf8_of}
use Rattle.net_reader.specs.FileLines.{units_in}
use Rattle.net_reader.specs.Fits.{fits_text}
use Rattle.net_exprs.proofs.Words.{both_true, by_test}
use Rattle.net_reader.proofs.Tests.{and_true, if_true, if_false, all_append}

-- the characters of units
abbrev chars_of : List ℕ → List ℕ
chars_of [] = []
chars_of (u ∷ []) = u ∷ []
chars_of (u ∷ v ∷ units) = cond (is_high_surrogate u) (surrogate_pair_char u v ∷ chars_of units) (u ∷ chars_of (v ∷ units))

branch : (b : Bool) (c d : ℕ) (cs ds : List ℕ) (x y : List ℕ) → x ≡ encode_utf8_all cs → y ≡ encode_utf8_all ds →
    cond b (encode_utf8 c ++ x) (encode_utf8 d ++ y) ≡ encode_utf8_all (cond b (c ∷ cs) (d ∷ ds))
branch true c d cs ds x y h k = ap (λ z. encode_utf8 c ++ z) h
branch false c d cs ds x y h k = ap (λ z. encode_utf8 d ++ z) k

utf8_chars : (units : List ℕ) → utf8_of units ≡ encode_utf8_all (chars_of units)
utf8_chars [] = refl
utf8_chars (u ∷ []) = sym (append-nil (encode_utf8 u))
utf8_chars (u ∷ v ∷ units) =
    branch (is_high_surrogate u) (surrogate_pair_char u v) u (chars_of units) (chars_of (v ∷ units)) (utf8_of units) (utf8_of (v ∷ units))
    (utf8_chars units) (utf8_chars (v ∷ units))

abbrev all_scalars_one : ℕ → Bool
all_scalars_one c = cond (nat_lt c 55296) true (nat_le 57344 c && nat_lt c 1114112)

high_scalar : (c : ℕ) → 57344 ≤ c → c < 1114112 → all_scalars_one c ≡ true
high_scalar c low high = grind (arith, nat_tests)

neither : (a b : Bool) → a ≡ false → not b ≡ true → a || b ≡ false
neither false b h k = not-true b k
neither true b h k = absurd (cc h)

pair_equal : (a b u v : ℕ) → a ≡ u → b ≡ v → a ∷ b ∷ [] ≡ u ∷ v ∷ []
pair_equal a b u v h k = cc

-- what a character is to its units
record Spells (c : ℕ) (units : List ℕ) : Type 0 where
  scalar : all_scalars (c ∷ []) ≡ true
  spelt : encode_utf16 c ≡ units

lone_spells : (u : ℕ) → is_surrogate u ≡ false → nat_lt u 0x1_0000 ≡ true → Spells u (u ∷ [])
lone_spells u h small = record { scalar = grind (arith, nat_tests); spelt = if_true (nat_lt u 0x1_0000) _ _ small }

pair_spells : (u v : ℕ) → is_high_surrogate u ≡ true → is_low_surrogate v ≡ true → Spells (surrogate_pair_char u v) (u ∷ v ∷ [])
pair_spells u v h k =
    let low : 0xD800 ≤ u = leb-true 0xD800 u (both_true (nat_le 0xD800 u) (nat_lt u 0xDC00) h).0 in
    let high : u < 0xDC00 = ltb-true u 0xDC00 (both_true (nat_le 0xD800 u) (nat_lt u 0xDC00) h).1 in
    let low_second : 0xDC00 ≤ v = leb-true 0xDC00 v (both_true (nat_le 0xDC00 v) (nat_lt v 0xE000) k).0 in
    let high_second : v < 0xE000 = ltb-true v 0xE000 (both_true (nat_le 0xDC00 v) (nat_lt v 0xE000) k).1 in
    spells (u - 0xD800) (v - 0xDC00) (omega arith) (omega arith) (omega arith) (omega arith)
  where
    spells : (a b : ℕ) → a < 1024 → b < 1024 → 0xD800 + a ≡ u → 0xDC00 + b ≡ v → Spells (0x1_0000 + a * 1024 + b) (u ∷ v ∷ [])
    spells a b small small_second is_u is_v =
        let first : 0xD800 + (0x1_0000 + a * 1024 + b - 0x1_0000) / 0x400 ≡ u = omega arith in
        let second : 0xDC00 + (0x1_0000 + a * 1024 + b - 0x1_0000) % 0x400 ≡ v = omega arith in
        let over : nat_lt (0x1_0000 + a * 1024 + b) 0x1_0000 ≡ false = grind (arith, nat_tests) in
        record {
          scalar = and_true (all_scalars_one (0x1_0000 + a * 1024 + b)) true (high_scalar (0x1_0000 + a * 1024 + b) (omega arith) (omega arith)) refl;
          spelt = if_false (nat_lt (0x1_0000 + a * 1024 + b) 0x1_0000) _ _ over ∙ pair_equal _ _ u v first second;
        }

-- the characters are those of the units
record ReadAs (cs units : List ℕ) : Type 0 where
  scalars : all_scalars cs ≡ true
  spelt : flat_map encode_utf16 cs ≡ units

also : (c : ℕ) (front cs units : List ℕ) → Spells c front → ReadAs cs units → ReadAs (c ∷ cs) (front ++ units)
also c front cs units one more = record {
  scalars = and_true (all_scalars_one c) (all_scalars cs) (both_true (all_scalars_one c) true one.scalar).0 more.scalars;
  spelt = ap (λ z. z ++ flat_map encode_utf16 cs) one.spelt ∙ ap (λ z. front ++ z) more.spelt;
}

read_as : (units : List ℕ) → is_well_formed units ≡ true → fits_text units ≡ true → ReadAs (chars_of units) units
read_as [] h k = record { scalars = refl; spelt = refl }
read_as (u ∷ []) h k =
    also u (u ∷ []) [] [] (lone_spells u (not-true (is_surrogate u) h) (both_true (nat_lt u 0x1_0000) true k).0) (record { scalars = refl; spelt = refl })
read_as (u ∷ v ∷ units) h k =
    let small = both_true (nat_lt u 0x1_0000) (fits_text (v ∷ units)) k in
    let more = both_true (nat_lt v 0x1_0000) (fits_text units) small.1 in
    by_test (is_high_surrogate u) (λ b. ReadAs (chars_of (u ∷ v ∷ units)) (u ∷ v ∷ units))
    (λ e.
    let well = both_true (is_low_surrogate v) (is_well_formed units) (sym (if_true (is_high_surrogate u) _ _ e) ∙ h) in
    subst (λ (cs : List ℕ). ReadAs cs (u ∷ v ∷ units)) (sym (if_true (is_high_surrogate u) _ _ e))
    (also (surrogate_pair_char u v) (u ∷ v ∷ []) (chars_of units) units (pair_spells u v e well.0) (read_as units well.1 more.1)))
    (λ e.
    let well = both_true (not (is_low_surrogate u)) (is_well_formed (v ∷ units)) (sym (if_false (is_high_surrogate u) _ _ e) ∙ h) in
    subst (λ (cs : List ℕ). ReadAs cs (u ∷ v ∷ units)) (sym (if_false (is_high_surrogate u) _ _ e))
    (also u (u ∷ []) (chars_of (v ∷ units)) (v ∷ units) (lone_spells u (neither (is_high_surrogate u) (is_low_surrogate u) e well.0) small.0) (read_as (v ∷ units) well.1 small.1)))

pub units_read : (units : List ℕ) → is_comment units ≡ true → fits_text units ≡ true → units_in (utf8_of units) ≡ Some units
units_read units h k =
    let well = both_true (list_all is_within_line units) (is_well_formed units) h in
    let read = read_as units well.1 k in
    let utf8 : IsUtf8 (utf8_of units) = (chars_of units, (read.scalars, sym (utf8_chars units))) in
    if_true (is_utf8 (utf8_of units)) (Some (flat_map encode_utf16 (chars (utf8_of units)))) None (is_utf8-from_IsUtf8 (utf8_of units) utf8)
    ∙ ap (λ bytes. Some (flat_map encode_utf16 (chars bytes))) (utf8_chars units)
    ∙ ap (λ cs. Some (flat_map encode_utf16 cs)) (chars-encodes (chars_of units) read.scalars)
    ∙ ap (λ (units : List ℕ). Some units) read.spelt

high_within : (b : ℕ) → 128 ≤ b → is_within_line b ≡ true
high_within b h = grind (arith, nat_tests)

either_within : (b : Bool) (xs ys : List ℕ) → (b ≡ true → list_all is_within_line xs ≡ true) → (b ≡ false → list_all is_within_line ys ≡ true) →
    list_all is_within_line (cond b xs ys) ≡ true
either_within true xs ys h k = h refl
either_within false xs ys h k = k refl

two_within : (a b : ℕ) → 128 ≤ a → 128 ≤ b → list_all is_within_line (a ∷ b ∷ []) ≡ true
two_within a b h k = and_true (is_within_line a) (list_all is_within_line (b ∷ [])) (high_within a h) (and_true (is_within_line b) true (high_within b k) refl)

more_within : (a : ℕ) (bs : List ℕ) → 128 ≤ a → list_all is_within_line bs ≡ true → list_all is_within_line (a ∷ bs) ≡ true
more_within a bs h k = and_true (is_within_line a) (list_all is_within_line bs) (high_within a h) k

-- no byte of a character ends a line, where the character does not
bytes_within : (c : ℕ) → is_within_line c ≡ true → list_all is_within_line (encode_utf8 c) ≡ true
unfolding encode_utf8
bytes_within c h =
    either_within (nat_lt c 128) _ _ (λ e. and_true (is_within_line c) true h refl)
    (λ e. either_within (nat_lt c 2048) _ _ (λ e. two_within (192 + c / 64) (128 + c % 64) (omega arith) (omega arith))
    (λ e. either_within (nat_lt c 65536) _ _
    (λ e. more_within (224 + c / 4096) ((128 + c / 64 % 64) ∷ (128 + c % 64) ∷ []) (omega arith) (two_within (128 + c / 64 % 64) (128 + c % 64) (omega arith) (omega arith)))
    (λ e. more_within (240 + c / 262144) ((128 + c / 4096 % 64) ∷ (128 + c / 64 % 64) ∷ (128 + c % 64) ∷ []) (omega arith) (more_within (128 + c / 4096 % 64) ((128 + c / 64 % 64) ∷ (128 + c % 64) ∷ []) (omega arith) (two_within (128 + c / 64 % 64) (128 + c % 64) (omega arith) (omega arith))))))

all_bytes_within : (cs : List ℕ) → list_all is_within_line cs ≡ true → list_all is_within_line (encode_utf8_all cs) ≡ true
all_bytes_within [] h = refl
all_bytes_within (c ∷ cs) h =
    let both = both_true (is_within_line c) (list_all is_within_line cs) h in
    all_append is_within_line (encode_utf8 c) (encode_utf8_all cs) (bytes_within c both.0) (all_bytes_within cs both.1)

chars_within : (units : List ℕ) → list_all is_within_line units ≡ true → list_all is_within_line (chars_of units) ≡ true
chars_within [] h = refl
chars_within (u ∷ []) h = h
chars_within (u ∷ v ∷ units) h =
    let first = both_true (is_within_line u) (list_all is_within_line (v ∷ units)) h in
    let second = both_true (is_within_line v) (list_all is_within_line units) first.1 in
    either_within (is_high_surrogate u) _ _
    (λ e. more_within (surrogate_pair_char u v) (chars_of units) (omega arith) (chars_within units second.1))
    (λ e. and_true (is_within_line u) (list_all is_within_line (chars_of (v ∷ units))) first.0 (chars_within (v ∷ units) first.1))

pub utf8_within : (units : List ℕ) → is_comment units ≡ true → list_all is_within_line (utf8_of units) ≡ true
utf8_within units h =
    let well = both_true (list_all is_within_line units) (is_well_formed units) h in
    ap (list_all is_within_line) (utf8_chars units) ∙ all_bytes_within (chars_of units) (chars_within units well.0)
