-- How names, paths, numbers and labels are read.
use Rattle.std.specs.Prelude.{ℕ, zero, suc, ◌+◌, ◌*◌, Bool, true, false, ◌&&◌, nat_le, nat_lt, ◌==◌, if◌then◌else◌, List, [], ◌∷◌, length, codes, Option, Some, None}
use Rattle.std.specs.Char.{digit_value}
use Rattle.net_tree.specs.declared.line.NetLabel.{NetLabel}
use Rattle.net_tree.specs.declared.line.NetLabel.TheVariants.{Word, Number}
use Rattle.net_exprs.specs.Readers.{after, behind, past, word_at}

abbrev pub plain_name : List ℕ → List ℕ → Option (List ℕ × List ℕ)
plain_name [] rest = None
plain_name (c ∷ word) rest = Some (c ∷ word, rest)

abbrev pub bracketed_name : List ℕ → List ℕ → Option (List ℕ × List ℕ)
bracketed_name word rest = past (after (codes "]") rest) (λ s. Some (word, s))

-- a word, or one in brackets
abbrev pub name_at : List ℕ → Option (List ℕ × List ℕ)
name_at [] = None
name_at (c ∷ s) = if c == 91 then bracketed_name (word_at s).0 (word_at s).1 else plain_name (word_at (c ∷ s)).0 (word_at (c ∷ s)).1

-- what follows a name of a path: a full stop and more names, or none
abbrev pub path_behind : (List ℕ → Option (List (List ℕ) × List ℕ)) → List ℕ → List ℕ → Option (List (List ℕ) × List ℕ)
path_behind go name [] = Some (name ∷ [], [])
path_behind go name (c ∷ s) = elim (c == 46) [ true ↦ behind (go s) (λ names rest. Some (name ∷ names, rest)) | false ↦ Some (name ∷ [], c ∷ s) ]

-- at most so many names joined by full stops
abbrev pub path_from : ℕ → List ℕ → Option (List (List ℕ) × List ℕ)
path_from zero s = None
path_from (suc n) s = behind (name_at s) (path_behind (path_from n))

-- names joined by full stops
abbrev pub path_at : List ℕ → Option (List (List ℕ) × List ℕ)
path_at s = path_from (suc (length s)) s

abbrev pub is_digit : ℕ → Bool
is_digit c = nat_le 48 c && nat_le c 57

-- whether a text begins with a decimal digit
abbrev pub begins_digit : List ℕ → Bool
begins_digit [] = false
begins_digit (c ∷ s) = is_digit c

-- the number that the digits at the front write behind those of another number, and the rest
abbrev pub numeral_from : (base : ℕ) → ℕ → List ℕ → ℕ × List ℕ
numeral_from base n [] = (n, [])
numeral_from base n (c ∷ s) = if nat_lt (digit_value c) base then numeral_from base (n * base + digit_value c) s else (n, c ∷ s)

-- a number in decimal digits
abbrev pub number_at : List ℕ → Option (ℕ × List ℕ)
number_at s = if begins_digit s then Some (numeral_from 10 0 s) else None

-- a number, or a name
abbrev pub label_at : List ℕ → Option (NetLabel × List ℕ)
label_at s = if begins_digit s then behind (number_at s) (λ n rest. Some (Number n, rest)) else behind (name_at s) (λ name rest. Some (Word name, rest))
