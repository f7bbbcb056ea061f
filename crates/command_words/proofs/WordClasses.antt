-- What clap makes of a word, by the minus signs that it begins with.
use Rattle.std.proofs.Common.{◌≡◌, ◌⊎◌, inl, inr, ℕ, suc, Bool, true, false, ◌==◌, [], ◌∷◌, ◌++◌, Option, Some, None, codes, refl, sym, ap, subst, arith, ◌∙◌}
use Rattle.std.proofs.lemmas.Bool.{cases_Bool, eqb-true, and_parts}
use Rattle.std.proofs.lemmas.Bool.Decides.{nat_tests}
use Rattle.std.proofs.lemmas.Slice.Eq.{bytes_eq-Decides}
use Rattle.std.specs.Prelude.{◌+◌, not, nat_le, nat_lt, slice_get}
use Rattle.std.specs.List.{list_all, before_first, prefix_len}
use Rattle.std.specs.Str.{bytes_eq, chars, lead_bits}
use Rattle.up_base.specs.Names.{is_printable}
use Rattle.clap.specs.Lexer.{long_of, name_and_value, short_of}
use Rattle.clap.specs.Walk.{Text}

abbrev pub dashes : Text
dashes = codes "--"

abbrev pub flag : Text
flag = codes "--settings"

abbrev pub joined : Text → Text
joined value = codes "--settings=" ++ value

-- a word that is no flag
pub record Plain (word : Text) : Type 0 where
  pub apart : bytes_eq word dashes ≡ false
  pub long : long_of word ≡ None
  pub short : short_of word ≡ None

pub record Long (word : Text) : Type 0 where
  pub parts : Text × Option Text
  pub apart : bytes_eq word dashes ≡ false
  pub long : long_of word ≡ Some parts
  pub other : bytes_eq (codes "settings") parts.0 ≡ false

pub record Short (word : Text) : Type 0 where
  pub first : ℕ
  pub more : Text
  pub letter : ℕ
  pub apart : bytes_eq word dashes ≡ false
  pub long : long_of word ≡ None
  pub short : short_of word ≡ Some (first ∷ more)
  pub read : slice_get (chars (first ∷ more)) 0 ≡ Some letter

pub data Class (word : Text) : Type 0 where
  is_dashes : word ≡ dashes → Class word
  is_flag : word ≡ flag → Class word
  is_joined : (value : Text) → word ≡ joined value → Class word
  is_long : Long word → Class word
  is_short : Short word → Class word
  is_plain : Plain word → Class word

abbrev pub printable : Text → Bool
printable word = list_all is_printable word

low : (c : ℕ) → is_printable c ≡ true → nat_lt c 128 ≡ true
low c p = grind (arith, nat_tests, (and_parts (nat_le 32 c) (nat_le c 126) p).1)

first_letter : (c : ℕ) (cs : Text) → is_printable c ≡ true → slice_get (chars (c ∷ cs)) 0 ≡ Some (lead_bits c)
unfolding chars
first_letter c [] p = rw (low c p) refl
first_letter c (d ∷ ds) p = rw (low c p) refl

-- a text is what stands before its first equals sign, and maybe that sign with what stands behind it
cut : (text : Text) → (text ≡ before_first (λ x. x == 61) text) ⊎ ((value : Text) × (text ≡ before_first (λ x. x == 61) text ++ 61 ∷ value))
cut [] = inl refl
cut (x ∷ xs) =
    let one : 1 + prefix_len (λ c. not (c == 61)) xs ≡ suc (prefix_len (λ c. not (c == 61)) xs) = omega arith in
    elim (cases_Bool (x == 61)) [
      | inl same ↦ inr (xs, rw same (ap (λ c. c ∷ xs) (eqb-true x 61 same)))
      | inr other ↦ elim (cut xs) [
        | inl whole ↦ inl (rw (other, one) (ap (λ t. x ∷ t) whole))
        | inr (value, parts) ↦ inr (value, rw (other, one) (ap (λ t. x ∷ t) parts))
      ]
    ]

named : (text : Text) → bytes_eq (codes "settings") (before_first (λ x. x == 61) text) ≡ true → Class (45 ∷ 45 ∷ text)
named text e =
    let name : codes "settings" ≡ before_first (λ x. x == 61) text = (bytes_eq-Decides _ _).0 e in
    elim (cut text) [
      | inl whole ↦ is_flag (ap (λ t. 45 ∷ 45 ∷ t) (whole ∙ sym name))
      | inr (value, parts) ↦ is_joined value (ap (λ t. 45 ∷ 45 ∷ t) (parts ∙ ap (λ t. t ++ 61 ∷ value) (sym name)))
    ]

after_two : (text : Text) → Class (45 ∷ 45 ∷ text)
after_two [] = is_dashes refl
after_two (x ∷ xs) = elim (cases_Bool (bytes_eq (codes "settings") (before_first (λ x. x == 61) (x ∷ xs)))) [
  | inl same ↦ named (x ∷ xs) same
  | inr other ↦ is_long (record { parts = name_and_value (x ∷ xs); apart = refl; long = refl; other = other })
]

after_one : (text : Text) → printable text ≡ true → Class (45 ∷ text)
after_one [] p = is_plain (record { apart = refl; long = refl; short = refl })
after_one (x ∷ xs) p = elim (cases_Bool (x == 45)) [
  | inl same ↦ subst (λ c. Class (45 ∷ c ∷ xs)) (sym (eqb-true x 45 same)) (after_two xs)
  | inr other ↦ is_short (record {
    first = x;
    more = xs;
    letter = lead_bits x;
    apart = rw other refl;
    long = rw other refl;
    short = rw other refl;
    read = first_letter x xs (and_parts _ _ p).0;
  })
]

-- a word that begins with no minus sign is no flag
pub plain_without_minus : (x : ℕ) (xs : Text) → (x == 45) ≡ false → Plain (x ∷ xs)
plain_without_minus x xs other = record { apart = rw other refl; long = rw other refl; short = rw other refl }

pub class_of : (word : Text) → printable word ≡ true → Class word
class_of [] p = is_plain (record { apart = refl; long = refl; short = refl })
class_of (x ∷ xs) p = elim (cases_Bool (x == 45)) [
  | inl same ↦ subst (λ c. Class (c ∷ xs)) (sym (eqb-true x 45 same)) (after_one xs (and_parts _ _ p).1)
  | inr other ↦ is_plain (plain_without_minus x xs other)
]
