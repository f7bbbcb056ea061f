-- The path of a name, byte by byte, and that it is ASCII.
use Rattle.std.proofs.Common.{◌≡◌, ℕ, zero, suc, ◌+◌, ◌<◌, ◌≤◌, Bool, true, false, ◌&&◌, nat_le, List, [], ◌∷◌, length, get_or, set, take, map, refl, ap, sym, ◌∙◌, arith, lit<, subst}
use Rattle.std.proofs.lemmas.Bool.{leb-true}
use Rattle.std.specs.List.{list_all}
use Rattle.std.specs.Str.{IsAscii}
use Rattle.std.proofs.lemmas.Bool.Decides.{nat_tests}
use Rattle.std.proofs.lemmas.Str.Ascii.{IsAscii-nil}
use Rattle.std.proofs.lemmas.List.{map_more}
use Rattle.std.proofs.lemmas.Grind.{take-set_at}
use Rattle.std.proofs.Math.Seq.{take-length}
use Rattle.up_base.specs.Names.{is_name, is_printable}
use Rattle.up_base.specs.Paths.{path_of, separator}

pub path_of-more : (bytes name : List ℕ) (i c : ℕ) → take (i + 2) bytes ≡ path_of (take i name) → i < length name → i + 2 < length bytes → c ≡ separator (get_or name i 0) → take (i + 1 + 2) (set bytes (i + 2) c) ≡ path_of (take (i + 1) name)
path_of-more bytes name i c before within fits same =
    let front = take-set_at bytes (i + 2) (i + 1 + 2) c (omega arith) fits in
    let back = map_more separator name i 0 within in
    rw (front, before, back, same) refl

IsAscii-cons : (c : ℕ) (cs : List ℕ) → c < 128 → IsAscii cs → IsAscii (c ∷ cs)
IsAscii-cons c cs h t zero = h
IsAscii-cons c cs h t (suc i) = t i

separator-lt : (c : ℕ) → is_printable c ≡ true → separator c < 128
separator-lt c h = grind (arith, nat_tests)

first : (a b : Bool) → (a && b) ≡ true → a ≡ true
first true b h = refl
first false b h = h

second : (a b : Bool) → (a && b) ≡ true → b ≡ true
second true b h = h
second false b h = cc

IsAscii-map_separator : (name : List ℕ) → list_all is_printable name ≡ true → IsAscii (map separator name)
IsAscii-map_separator [] h = IsAscii-nil
IsAscii-map_separator (c ∷ cs) h =
    IsAscii-cons (separator c) (map separator cs) (separator-lt c (first (is_printable c) (list_all is_printable cs) h)) (IsAscii-map_separator cs (second (is_printable c) (list_all is_printable cs) h))

pub length-le_from_is_name : (name : List ℕ) → is_name name ≡ true → length name ≤ 512
length-le_from_is_name name h = leb-true (length name) 512 (second (nat_le 1 (length name)) _ (first _ (list_all is_printable name) h))

IsAscii-path_of : (name : List ℕ) → is_name name ≡ true → IsAscii (path_of name)
IsAscii-path_of name h =
    IsAscii-cons 46 (47 ∷ map separator name) (lit< tt) (IsAscii-cons 47 (map separator name) (lit< tt) (IsAscii-map_separator name (second _ (list_all is_printable name) h)))

pub path_of-whole : (bytes name : List ℕ) (i : ℕ) → i ≡ length name → take (i + 2) bytes ≡ path_of (take i name) → take (length name + 2) bytes ≡ path_of name
path_of-whole bytes name i e h =
    let all : take i name ≡ name = rw e (take-length name) in
    rw (← e, h, all) refl

pub IsAscii-path : (text bytes name : List ℕ) → text ≡ path_of bytes → bytes ≡ name → is_name name ≡ true → IsAscii text
IsAscii-path text bytes name e same h = let P : List ℕ → Type 0 = λ t. IsAscii t in subst P (sym (e ∙ ap path_of same)) (IsAscii-path_of name h)
