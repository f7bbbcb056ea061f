-- Scalars that match: none is an array, those of covered types are kept as they are, and first values match.
use Rattle.std.proofs.Common.{◌≡◌, refl, sym, subst, ℕ, pos, Bool, true, false, Some, true≢false, arith}
use Rattle.vb_tree.specs.BoundTree.{Ty}
use Rattle.vb_tree.specs.BoundTree as types
use Rattle.vb_tree.specs.declared.value.Value6.{Value6}
use Rattle.bound_facts.specs.Locks.{is_same_type}
use Rattle.net_tree.specs.Types.{TypeName}
use Rattle.net_tree.specs.Types as word
use Rattle.net_meaning.specs.declared.value.ValueN.{ValueN}
use Rattle.net_meaning.specs.declared.value.ValueN.TheVariants as n
use Rattle.net_meaning.specs.ValueMatch.{Matches, booleans, bytes, integers, longs, currencies, texts, empty_text}
use Rattle.vb6_run.specs.Shapes.{simple}
use Rattle.vb6_run.specs.Values.{scalar, kept_as, first_scalar}
use Rattle.net_run.specs.Shapes.{default_of_word, is_of_word}
use Rattle.net_run.specs.Store as net
use Rattle.net_run.specs.Values as net_value
use Rattle.run_matches.specs.CoveredVariables.{covers_type}
use Rattle.run_matches.specs.Likeness.{scalar_word}
use Rattle.memory_laws.specs.Changes.{IsNoArray}

module _ (same : ℕ → ℕ → Bool) where
  no_array_in : (ty : Ty) (x : Value6) (y : ValueN) (k : ℕ) → Matches same ty x y → y ≡ n.Array k → ⊥
  no_array_in _ _ _ k (booleans b) e = cc
  no_array_in _ _ _ k _ e = cc

  held_in : (y z : ValueN) → net.holds y ≡ net.holds z → y ≡ z
  held_in y z e = cc

  pub scalar_is_no_array : (ty : Ty) (x : Value6) (y : ValueN) → Matches same ty x y → IsNoArray (net.holds y)
  scalar_is_no_array ty x y h k e = no_array_in ty x y k h (held_in y (n.Array k) e)

  -- a value of a covered type is kept as it is
  pub kept_scalar : (ty : Ty) (x : Value6) (y : ValueN) → covers_type ty ≡ true → Matches same ty x y → kept_as (simple ty) (scalar ty x) ≡ Some (scalar ty x)
  kept_scalar _ _ _ c (booleans b) = refl
  kept_scalar _ _ _ c (bytes m e) = refl
  kept_scalar _ _ _ c (integers z e) = refl
  kept_scalar _ _ _ c (longs z e) = refl
  kept_scalar _ _ _ c (currencies z m s e d) = refl
  kept_scalar _ _ _ c (texts units) = refl
  kept_scalar _ _ _ c empty_text = refl
  kept_scalar _ _ _ c _ = absurd (true≢false (sym c))

  from_some : (a b : TypeName) → Some a ≡ Some b → a ≡ b
  from_some a b e = cc

  -- what stands for it is of the word of its type
  pub scalar_of_word : (ty : Ty) (x : Value6) (y : ValueN) (t : TypeName) → covers_type ty ≡ true → scalar_word ty ≡ Some t → Matches same ty x y
      → is_of_word t y ≡ true
  scalar_of_word _ _ _ t c e (booleans b) = subst (λ z. is_of_word z (n.Boolean b) ≡ true) (from_some word.boolean t e) refl
  scalar_of_word _ _ _ t c e (bytes m f) = subst (λ z. is_of_word z (n.Byte m) ≡ true) (from_some word.byte t e) refl
  scalar_of_word _ _ _ t c e (integers z f) = subst (λ u. is_of_word u (n.Short z) ≡ true) (from_some word.short t e) refl
  scalar_of_word _ _ _ t c e (longs z f) = subst (λ u. is_of_word u (n.Integer z) ≡ true) (from_some word.integer t e) refl
  scalar_of_word _ _ _ t c e (currencies z m s f d) = subst (λ u. is_of_word u (n.Decimal m s) ≡ true) (from_some word.decimal t e) refl
  scalar_of_word _ _ _ t c e (texts units) = subst (λ z. is_of_word z (n.Str units) ≡ true) (from_some word.str t e) refl
  scalar_of_word _ _ _ t c e empty_text = subst (λ z. is_of_word z n.Nothing ≡ true) (from_some word.str t e) refl
  scalar_of_word _ _ _ t c e _ = absurd (true≢false (sym c))

  -- what variables begin with
  pub record FirstMatch (ty : Ty) (t : TypeName) : Type 0 where
    pub value : ValueN
    pub is_value : default_of_word t ≡ net_value.single value
    pub of_word : is_of_word t value ≡ true
    pub like : Matches same ty (first_scalar ty) value

  first_boolean : FirstMatch types.boolean word.boolean
  first_boolean = record { value = n.Boolean false; is_value = refl; of_word = refl; like = booleans false }

  first_byte : FirstMatch types.byte word.byte
  first_byte = record { value = n.Byte 0; is_value = refl; of_word = refl; like = bytes 0 refl }

  first_integer : FirstMatch types.integer word.short
  first_integer = record { value = n.Short (pos 0); is_value = refl; of_word = refl; like = integers (pos 0) refl }

  first_long : FirstMatch types.long word.integer
  first_long = record { value = n.Integer (pos 0); is_value = refl; of_word = refl; like = longs (pos 0) refl }

  first_currency : FirstMatch types.currency word.decimal
  first_currency =
      record { value = n.Decimal (pos 0) 0; is_value = refl; of_word = refl; like = currencies (pos 0) (pos 0) 0 refl (omega arith, refl) }

  -- "" against Nothing
  first_text : FirstMatch types.str word.str
  first_text = record { value = n.Nothing; is_value = refl; of_word = refl; like = empty_text }

  pub first_match : (ty : Ty) (t : TypeName) → covers_type ty ≡ true → scalar_word ty ≡ Some t → FirstMatch ty t
  first_match types.boolean t c e = subst (λ z. FirstMatch types.boolean z) (from_some word.boolean t e) first_boolean
  first_match types.byte t c e = subst (λ z. FirstMatch types.byte z) (from_some word.byte t e) first_byte
  first_match types.integer t c e = subst (λ z. FirstMatch types.integer z) (from_some word.short t e) first_integer
  first_match types.long t c e = subst (λ z. FirstMatch types.long z) (from_some word.integer t e) first_long
  first_match types.currency t c e = subst (λ z. FirstMatch types.currency z) (from_some word.decimal t e) first_currency
  first_match types.str t c e = subst (λ z. FirstMatch types.str z) (from_some word.str t e) first_text
  first_match _ t c e = absurd (true≢false (sym c))

-- ---- types

pub same_covered : (s t : Ty) → covers_type s ≡ true → is_same_type s t ≡ true → t ≡ s
same_covered types.boolean types.boolean c e = refl
same_covered types.byte types.byte c e = refl
same_covered types.integer types.integer c e = refl
same_covered types.long types.long c e = refl
same_covered types.currency types.currency c e = refl
same_covered types.str types.str c e = refl
same_covered _ _ c e = cc

second_covered : (t s : Ty) → covers_type t ≡ true → is_same_type s t ≡ true → s ≡ t
second_covered types.boolean types.boolean c e = refl
second_covered types.byte types.byte c e = refl
second_covered types.integer types.integer c e = refl
second_covered types.long types.long c e = refl
second_covered types.currency types.currency c e = refl
second_covered types.str types.str c e = refl
second_covered _ _ c e = cc

pub covered_same : (s t : Ty) → covers_type t ≡ true → is_same_type s t ≡ true → s ≡ t
covered_same s t c e = second_covered t s c e
