-- The names of the files: each makes a name, and no two are the same.
use Rattle.std.specs.Prelude.{codes, ◌≢◌, is_none}
use Rattle.std.proofs.Common.{◌≡◌, ℕ, ◌+◌, ◌^◌, ◌<◌, ◌≤◌, Bool, true, false, List, [], ◌∷◌, ◌++◌, length, get_or, map, zero, suc, refl, ap, ◌∙◌, arith, length-append}
use Rattle.std.specs.Cmp.Lexicographic.{bytes_decides}
use Rattle.std.specs.Fmt.{decimal}
use Rattle.std.specs.List.{list_all, range_with_len}
use Rattle.std.specs.Str.Parse.{AllDigits}
use Rattle.std.proofs.lemmas.Bool.{le-leb}
use Rattle.std.proofs.lemmas.Fmt.{decimal_is_IsNumeral, decimal_injective, decimal_nonempty, first_decimal, length-decimal-le}
use Rattle.std.proofs.lemmas.List.{append_cancel_left, append_cancel_right, get_or_append_left}
use Rattle.std.proofs.lemmas.Str.Parse.{digit_from_value}
use Rattle.up_base.specs.MemoryTwins.{are_distinct, is_spelt, lookup}
use Rattle.up_base.specs.Names.{is_name, is_printable}
use Rattle.up_base.proofs.Lists.{all_append, and_true}
use Rattle.generated_project.specs.Generated.{file_name, generated_files, module_file}

-- ---- each makes a name

digits_are_printable : (ds : List ℕ) → AllDigits 10 ds → list_all is_printable ds ≡ true
digits_are_printable [] d = refl
digits_are_printable (c ∷ cs) d =
    let digit = digit_from_value c d.0 in
    let printable : is_printable c ≡ true = rw (le-leb 32 c (omega (arith, digit)), le-leb c 126 (omega (arith, digit))) refl in
    and_true (is_printable c) (list_all is_printable cs) printable (digits_are_printable cs d.1)

decimal_is_printable : (k : ℕ) → k < 2 ^ 64 → list_all is_printable (decimal k) ≡ true
decimal_is_printable k small = digits_are_printable (decimal k) (decimal_is_IsNumeral k small).0.1

-- a name from three parts of which the middle one is a number
numbered_is_name : (front digits back : List ℕ) → list_all is_printable front ≡ true → list_all is_printable digits ≡ true → list_all is_printable back ≡ true → 1 ≤ length front → length front + length digits + length back ≤ 512 → is_name (front ++ digits ++ back) ≡ true
numbered_is_name front digits back f d b some few =
    let bytes = front ++ digits ++ back in
    let long : length bytes ≡ length front + length digits + length back = length-append (front ++ digits) back ∙ ap (λ n. n + length back) (length-append front digits) in
    let printable : list_all is_printable bytes ≡ true = all_append is_printable (front ++ digits) back (all_append is_printable front digits f d) b in
    rw (le-leb 1 (length bytes) (omega (arith, long)), le-leb (length bytes) 512 (omega (arith, long))) printable

pub is_name_of_file : (k : ℕ) → k < 2 ^ 32 → is_name (file_name k) ≡ true
is_name_of_file k small =
    let short : length (decimal k) ≤ 20 = length-decimal-le 20 k (omega arith) (omega arith) (omega arith) in
    numbered_is_name (codes "Gen") (decimal k) (codes ".bas") refl (decimal_is_printable k (omega arith)) refl (omega arith) (omega (arith, short))

-- ---- no two are the same

is_false : (b : Bool) → b ≢ true → b ≡ false
is_false true h = absurd (h refl)
is_false false h = refl

other_is_not_spelt : (a b : List ℕ) → a ≢ b → is_spelt a b ≡ false
other_is_not_spelt a b h = is_false (is_spelt a b) (λ e. h ((bytes_decides a b).0 e))

file_names_differ : (j k : ℕ) → j < k → k < 2 ^ 64 → file_name j ≢ file_name k
file_names_differ j k below small e =
    let numbers = append_cancel_left (codes "Gen") (decimal j) (decimal k) (append_cancel_right (codes "Gen" ++ decimal j) (codes "Gen" ++ decimal k) (codes ".bas") e) in
    omega (arith, decimal_injective j k (omega arith) small numbers)

-- the character behind `Gen` is a digit in the name of a module's file
project_name_differs : (k : ℕ) → 0 < k → k < 2 ^ 64 → codes "Gen.vbp" ≢ file_name k
project_name_differs k some small e =
    let digit : get_or (decimal k ++ codes ".bas") 0 0 ≡ get_or (decimal k) 0 0 = get_or_append_left (decimal k) (codes ".bas") 0 0 (decimal_nonempty k small) in
    let point : 46 ≡ get_or (decimal k ++ codes ".bas") 0 0 = ap (λ bytes. get_or bytes 3 0) e in
    omega (arith, first_decimal k some small, digit, point)

no_file_of : (name : List ℕ) (a m : ℕ) → a + m < 2 ^ 64 → ((k : ℕ) → a ≤ k → k < 2 ^ 64 → name ≢ file_name k) → is_none (lookup (map module_file (range_with_len a m)) name) ≡ true
no_file_of name a zero small other = refl
no_file_of name a (suc m) small other =
    rw (other_is_not_spelt name (file_name a) (other a (omega arith) (omega arith)))
    (no_file_of name (a + 1) m (omega arith) (λ k h l. other k (omega arith) l))

modules_differ : (a m : ℕ) → a + m < 2 ^ 64 → are_distinct (map module_file (range_with_len a m)) ≡ true
modules_differ a zero small = refl
modules_differ a (suc m) small =
    and_true _ _ (no_file_of (file_name a) (a + 1) m (omega arith) (λ k h l. file_names_differ a k (omega arith) l))
    (modules_differ (a + 1) m (omega arith))

pub names_differ : (n : ℕ) → n < 2 ^ 32 → are_distinct (generated_files n) ≡ true
names_differ n small =
    and_true _ _ (no_file_of (codes "Gen.vbp") 1 n (omega arith) (λ k h l. project_name_differs k (omega arith) l))
    (modules_differ 1 n (omega arith))
