-- The bytes of characters in UTF-8, and the units that spell a character.
use Rattle.std.proofs.Common.{◌≡◌, ℕ, suc, ◌+◌, ◌-◌, ◌*◌, ◌/◌, ◌%◌, ◌<◌, ◌≤◌, true, false, cond, List, [], ◌∷◌, ◌++◌, length, take, drop, get_or, set, sym, ap, ◌∙◌, append-nil, append_assoc, take-suc-set, arith}
use Rattle.std.proofs.lemmas.Grind.{common_steps}
use Rattle.std.specs.Char.{encode_utf8}
use Rattle.std.specs.Char.Utf16.{is_high_surrogate, surrogate_pair_char}
use Rattle.net_tree.specs.Comments.{utf8_of}

pub one_byte : (c : ℕ) → c < 0x80 → encode_utf8 c ≡ c ∷ []
unfolding encode_utf8
one_byte c small = grind arith

pub two_bytes : (c : ℕ) → 0x80 ≤ c → c < 0x800 → encode_utf8 c ≡ (192 + c / 64) ∷ (128 + c % 64) ∷ []
unfolding encode_utf8
two_bytes c large small = grind arith

pub three_bytes : (c : ℕ) → 0x800 ≤ c → c < 0x10000 → encode_utf8 c ≡ (224 + c / 4096) ∷ (128 + c / 64 % 64) ∷ (128 + c % 64) ∷ []
unfolding encode_utf8
three_bytes c large small = grind arith

pub four_bytes : (c : ℕ) → 0x10000 ≤ c → encode_utf8 c ≡ (240 + c / 262144) ∷ (128 + c / 4096 % 64) ∷ (128 + c / 64 % 64) ∷ (128 + c % 64) ∷ []
unfolding encode_utf8
four_bytes c large = grind arith

-- a unit that is no first of a pair is a character
alone : (u : ℕ) (units : List ℕ) → is_high_surrogate u ≡ false → utf8_of (u ∷ units) ≡ encode_utf8 u ++ utf8_of units
alone u [] plain = sym (append-nil (encode_utf8 u))
alone u (v ∷ units) plain = ap (λ b. cond b (encode_utf8 (surrogate_pair_char u v) ++ utf8_of units) (encode_utf8 u ++ utf8_of (v ∷ units))) plain

-- the first of a pair and its second are a character
paired : (u v : ℕ) (units : List ℕ) → is_high_surrogate u ≡ true → utf8_of (u ∷ v ∷ units) ≡ encode_utf8 (surrogate_pair_char u v) ++ utf8_of units
paired u v units high = ap (λ b. cond b (encode_utf8 (surrogate_pair_char u v) ++ utf8_of units) (encode_utf8 u ++ utf8_of (v ∷ units))) high

-- The same at a place among units.
spelt : (units : List ℕ) (at : ℕ) → at < length units → drop at units ≡ get_or units at 0 ∷ drop (at + 1) units
spelt units at within = grind (arith, common_steps)

pub alone_at : (units : List ℕ) (at : ℕ) → at < length units → is_high_surrogate (get_or units at 0) ≡ false → utf8_of (drop at units) ≡ encode_utf8 (get_or units at 0) ++ utf8_of (drop (at + 1) units)
alone_at units at within plain = rw (spelt units at within) (alone _ _ plain)

both : (units : List ℕ) (at : ℕ) → at + 1 < length units → drop at units ≡ get_or units at 0 ∷ get_or units (at + 1) 0 ∷ drop (at + 2) units
both units at within = spelt units at (omega arith) ∙ ap (λ more. get_or units at 0 ∷ more) (spelt units (at + 1) within) ∙ grind arith

pub paired_at : (units : List ℕ) (at : ℕ) → at + 1 < length units → is_high_surrogate (get_or units at 0) ≡ true → utf8_of (drop at units) ≡ encode_utf8 (0x10000 + (get_or units at 0 - 0xD800) * 0x400 + (get_or units (at + 1) 0 - 0xDC00)) ++ utf8_of (drop (at + 2) units)
paired_at units at within high = rw (both units at within) (paired _ _ (drop (at + 2) units) high)

pub last_at : (units : List ℕ) (at : ℕ) → at + 1 ≡ length units → utf8_of (drop at units) ≡ encode_utf8 (get_or units at 0) ++ utf8_of (drop (at + 1) units)
last_at units at last =
    let none : drop (at + 1) units ≡ [] = grind (arith, common_steps) in
    rw (spelt units at (omega arith), none) (sym (append-nil (encode_utf8 (get_or units at 0))))

-- a unit below 128 is a byte
plain : (u : ℕ) (units : List ℕ) → u < 0x80 → utf8_of (u ∷ units) ≡ u ∷ utf8_of units
plain u units small = alone u units (grind (arith, common_steps)) ∙ ap (λ bytes. bytes ++ utf8_of units) (one_byte u small)

plain_at : (units : List ℕ) (at : ℕ) → at < length units → get_or units at 0 < 0x80 → utf8_of (drop at units) ≡ get_or units at 0 ∷ utf8_of (drop (at + 1) units)
plain_at units at within small = rw (spelt units at within) (plain _ _ small)

put : (piece : List ℕ) (count u : ℕ) → count < length piece → take (count + 1) (set piece count u) ≡ take count piece ++ u ∷ []
put piece count u within =
    let next : count + 1 ≡ suc count = omega arith in
    rw next (take-suc-set piece count u within)

-- one more unit of a byte in a piece
pub one_more : (piece units : List ℕ) (at count : ℕ) → count < length piece → at + count < length units → get_or units (at + count) 0 < 0x80
    → take count piece ++ utf8_of (drop (at + count) units) ≡ utf8_of (drop at units)
    → take (count + 1) (set piece count (get_or units (at + count) 0)) ++ utf8_of (drop (at + (count + 1)) units) ≡ utf8_of (drop at units)
one_more piece units at count room within small so_far =
    let u = get_or units (at + count) 0 in
    let next : at + count + 1 ≡ at + (count + 1) = omega arith in
    ap (λ bytes. bytes ++ utf8_of (drop (at + (count + 1)) units)) (put piece count u room)
    ∙ append_assoc (take count piece) (u ∷ []) (utf8_of (drop (at + (count + 1)) units))
    ∙ ap (λ k. take count piece ++ u ∷ utf8_of (drop k units)) (sym next)
    ∙ ap (λ bytes. take count piece ++ bytes) (sym (plain_at units (at + count) within small))
    ∙ so_far
