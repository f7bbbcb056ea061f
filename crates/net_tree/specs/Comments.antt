-- The bytes of comments: UTF-8 of UTF-16 units.
use Rattle.std.specs.Prelude.{ℕ, Bool, true, cond, not, ◌&&◌, ◌||◌, ◌==◌, List, [], ◌∷◌, ◌++◌, codes}
use Rattle.std.specs.List.{list_all}
use Rattle.std.specs.Char.{encode_utf8}
use Rattle.std.specs.Char.Utf16.{is_high_surrogate, is_low_surrogate, surrogate_pair_char}

-- the bytes of a text: two units that are a pair of surrogates are one character, and each other unit is one
abbrev pub utf8_of : List ℕ → List ℕ
utf8_of [] = []
utf8_of (u ∷ []) = encode_utf8 u
utf8_of (u ∷ v ∷ units) = cond (is_high_surrogate u) (encode_utf8 (surrogate_pair_char u v) ++ utf8_of units) (encode_utf8 u ++ utf8_of (v ∷ units))

abbrev pub is_surrogate : ℕ → Bool
is_surrogate u = is_high_surrogate u || is_low_surrogate u

-- whether each surrogate is one of a pair
abbrev pub is_well_formed : List ℕ → Bool
is_well_formed [] = true
is_well_formed (u ∷ []) = not (is_surrogate u)
is_well_formed (u ∷ v ∷ units) = cond (is_high_surrogate u) (is_low_surrogate v && is_well_formed units) (not (is_low_surrogate u) && is_well_formed (v ∷ units))

-- whether a unit is neither a line feed nor a carriage return
abbrev pub is_within_line : ℕ → Bool
is_within_line u = not (u == 10 || u == 13)

-- no line end, and well-formed UTF-16
abbrev pub is_comment : List ℕ → Bool
is_comment units = list_all is_within_line units && is_well_formed units

abbrev pub comment_text : List ℕ → List ℕ
comment_text units = codes "'" ++ utf8_of units
