-- The library calls that give a value, on arguments that are converted already: texts to String and counts to Long. Error 5 is
-- an invalid call.
use Rattle.std.specs.Prelude.{ℕ, ◌+◌, ◌-◌, ◌==◌, nat_le, nat_eq, Bool, true, false, cond, ◌&&◌, ℤ, pos, negsuc, unsigned_abs, List, [], ◌∷◌, length, take, drop, replicate, map, reverse, Option, Some, None}
use Rattle.std.specs.List.{list_all, starts_with}
use Rattle.vb_tree.specs.BoundTree.{boolean, byte, integer, long, currency, str}
use Rattle.vb_tree.specs.declared.bound.LibCall.{LibCall}
use Rattle.vb_tree.specs.declared.bound.LibCall.TheVariants as l
use Rattle.vb_tree.specs.declared.value.Value6.{Value6}
use Rattle.vb_tree.specs.declared.value.Value6.TheVariants as v
use Rattle.vb6_meaning.specs.declared.number.Number.{Number}
use Rattle.vb6_meaning.specs.declared.number.NumberKind.{NumberKind}
use Rattle.vb6_meaning.specs.declared.number.NumberKind.TheVariants as kinds
use Rattle.vb6_meaning.specs.Answers.{Answer, gives, raises, outside}
use Rattle.vb6_meaning.specs.Kinds.{checked_value}
use Rattle.vb6_meaning.specs.Numbers.{number_of}
use Rattle.vb6_meaning.specs.Values.{text, coerce}

-- ---- arguments of the kinds that a row names

abbrev pub on_value : (Value6 → Answer Value6) → List Value6 → Answer Value6
on_value row (w ∷ []) = row w
on_value row args = outside

abbrev pub on_text : (List ℕ → Answer Value6) → List Value6 → Answer Value6
on_text row (v.Str s ∷ []) = row s
on_text row args = outside

abbrev pub on_count : (ℤ → Answer Value6) → List Value6 → Answer Value6
on_count row (v.Long n ∷ []) = row n
on_count row args = outside

abbrev pub on_text_and_count : (List ℕ → ℤ → Answer Value6) → List Value6 → Answer Value6
on_text_and_count row (v.Str s ∷ v.Long n ∷ []) = row s n
on_text_and_count row args = outside

abbrev pub on_two_texts : (List ℕ → List ℕ → Answer Value6) → List Value6 → Answer Value6
on_two_texts row (v.Str s ∷ v.Str t ∷ []) = row s t
on_two_texts row args = outside

-- a count of units, which isn't negative
abbrev pub counted : ℤ → (ℕ → Answer Value6) → Answer Value6
counted (pos n) row = row n
counted (negsuc n) row = raises 5

-- ---- parts of texts

abbrev pub left : List ℕ → ℤ → Answer Value6
left s n = counted n (λ n. gives (v.Str (take n s)))

abbrev pub right : List ℕ → ℤ → Answer Value6
right s n = counted n (λ n. gives (v.Str (drop (length s - n) s)))

-- the units from the place that counts from 1
abbrev pub from_place : ℤ → (ℕ → Answer Value6) → Answer Value6
from_place i row = counted i (λ i. cond (i == 0) (raises 5) (row (i - 1)))

abbrev pub mid : List Value6 → Answer Value6
mid (v.Str s ∷ v.Long i ∷ []) = from_place i (λ i. gives (v.Str (drop i s)))
mid (v.Str s ∷ v.Long i ∷ v.Long n ∷ []) = from_place i (λ i. counted n (λ n. gives (v.Str (take n (drop i s)))))
mid args = outside

-- without the blanks in front
abbrev pub without_blanks : List ℕ → List ℕ
without_blanks [] = []
without_blanks (c ∷ s) = cond (c == 32) (without_blanks s) (c ∷ s)

abbrev pub without_last_blanks : List ℕ → List ℕ
without_last_blanks s = reverse (without_blanks (reverse s))

-- ---- letters

-- units past 127 lie outside
abbrev pub plain : List ℕ → Answer Value6 → Answer Value6
plain s answer = cond (list_all (λ c. nat_le c 127) s) answer outside

abbrev pub capital : ℕ → ℕ
capital c = cond (nat_le 97 c && nat_le c 122) (c - 32) c

abbrev pub small : ℕ → ℕ
small c = cond (nat_le 65 c && nat_le c 90) (c + 32) c

abbrev pub character : ℤ → Answer Value6
character n = counted n (λ n. cond (nat_le n 127) (gives (v.Str (n ∷ []))) (cond (nat_le n 255) outside (raises 5)))

abbrev pub character_number : List ℕ → Answer Value6
character_number [] = raises 5
character_number (c ∷ s) = plain (c ∷ []) (gives (v.Int (pos c)))

-- ---- places

-- the first place at which t stands in s, where s begins at the place k; 0 where there is none
abbrev pub place_in : ℕ → List ℕ → List ℕ → ℕ
place_in k [] t = 0
place_in k (c ∷ s) t = cond (starts_with nat_eq (c ∷ s) t) k (place_in (k + 1) s t)

-- ---- numbers

-- a Byte counts as an Integer
abbrev pub signed_kind : NumberKind → NumberKind
signed_kind kinds.Byte = kinds.Integer
signed_kind kinds.Integer = kinds.Integer
signed_kind kinds.Long = kinds.Long
signed_kind kinds.Currency = kinds.Currency

abbrev pub absolute : Option Number → Answer Value6
absolute None = outside
absolute (Some x) = checked_value (signed_kind x.kind) (pos (unsigned_abs x.amount))

abbrev pub is_empty : Value6 → Bool
is_empty v.Empty = true
is_empty w = false

-- The value of a call. Those that ask an array, or put out or take in a text, aren't calls on values alone.
abbrev pub call : LibCall → List Value6 → Answer Value6
call l.Len args = on_text (λ s. checked_value kinds.Long (pos (length s))) args
call l.Left args = on_text_and_count left args
call l.Right args = on_text_and_count right args
call l.Mid args = mid args
call l.Trim args = on_text (λ s. gives (v.Str (without_last_blanks (without_blanks s)))) args
call l.LTrim args = on_text (λ s. gives (v.Str (without_blanks s))) args
call l.RTrim args = on_text (λ s. gives (v.Str (without_last_blanks s))) args
call l.UCase args = on_text (λ s. plain s (gives (v.Str (map capital s)))) args
call l.LCase args = on_text (λ s. plain s (gives (v.Str (map small s)))) args
call l.Space args = on_count (λ n. counted n (λ n. text (replicate n 32))) args
call l.Chr args = on_count character args
call l.Asc args = on_text character_number args
call l.InStr args = on_two_texts (λ s t. checked_value kinds.Long (pos (place_in 1 s t))) args
call l.Abs args = on_value (λ w. absolute (number_of w)) args
call l.CBool args = on_value (λ w. coerce w boolean) args
call l.CByte args = on_value (λ w. coerce w byte) args
call l.CInt args = on_value (λ w. coerce w integer) args
call l.CLng args = on_value (λ w. coerce w long) args
call l.CCur args = on_value (λ w. coerce w currency) args
call l.CStr args = on_value (λ w. coerce w str) args
call l.IsEmpty args = on_value (λ w. gives (v.Boolean (is_empty w))) args
call l.UBound args = outside
call l.LBound args = outside
call l.MsgBox args = outside
call l.InputBox args = outside
