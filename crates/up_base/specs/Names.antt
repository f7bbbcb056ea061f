-- Names: lists of printable ASCII characters, equal where their lower-case lists are.
use Rattle.std.specs.Prelude.{ℕ, ◌/◌, Bool, ◌&&◌, nat_le, nat_eq, List, map, length, take}
use Rattle.std.specs.List.{list_all}
use Rattle.std.specs.Char.{to_ascii_lowercase}
use Rattle.std.specs.Cmp.Lexicographic.{pointwise}

-- whether a byte is an ASCII character from 20 to 7E hex
abbrev pub is_printable : ℕ → Bool
is_printable c = nat_le 32 c && nat_le c 126

abbrev pub lower_case : List ℕ → List ℕ
lower_case bytes = map to_ascii_lowercase bytes

-- whether a list is one of 1 to 512 printable ASCII characters
abbrev pub is_name : List ℕ → Bool
is_name bytes = nat_le 1 (length bytes) && nat_le (length bytes) 512 && list_all is_printable bytes

-- whether two names of a program are one
abbrev pub is_same_name : List ℕ → List ℕ → Bool
is_same_name a b = pointwise nat_eq (lower_case a) (lower_case b)

-- the first half of a list
abbrev pub front_half : List ℕ → List ℕ
front_half bytes = take (length bytes / 2) bytes
