-- The rows of the library give the same values as the calls of Visual Basic 6.
use Rattle.std.proofs.Common.{◌≡◌, ℕ, zero, suc, ◌-◌, ◌*◌, ◌^◌, ◌==◌, ◌<◌, ℤ, pos, negsuc, neg_ℤ, unsigned_abs, Bool, true, false, cond, ◌&&◌, List, [], ◌∷◌, map, length, take, drop, replicate, refl, sym, ap, ◌∙◌, subst, arith}
use Rattle.std.specs.Prelude.{nat_le, nat_lt}
use Rattle.std.specs.List.{list_all}
use Rattle.std.proofs.lemmas.Bool.Decides.{nat_tests}
use Rattle.up_base.proofs.Tests.{by_test}
use Rattle.vb_tree.specs.BoundTree as types
use Rattle.vb_tree.specs.declared.bound.LibCall.{LibCall}
use Rattle.vb_tree.specs.declared.bound.LibCall.TheVariants as lib
use Rattle.vb_tree.specs.declared.value.Value6.TheVariants as v
use Rattle.vb6_meaning.specs.Answers.{gives, raises, outside, then_answer}
use Rattle.vb6_meaning.specs.Kinds.{checked_value}
use Rattle.vb6_meaning.specs.Library as six
use Rattle.vb6_meaning.specs.Values.{text}
use Rattle.vb6_meaning.specs.declared.number.NumberKind.TheVariants as kinds
use Rattle.net_tree.specs.declared.expression.NetBin.TheVariants as op
use Rattle.net_tree.specs.declared.expression.OpN.TheVariants.{Bin}
use Rattle.net_tree.specs.Types as t
use Rattle.net_meaning.specs.declared.value.ValueN.TheVariants as n
use Rattle.net_meaning.specs.declared.whole.WholeKind.TheVariants.{Short, Integer}
use Rattle.net_meaning.specs.Conversions.{coerce_net}
use Rattle.net_meaning.specs.Library as net
use Rattle.net_meaning.specs.Operators.{operate_net}
use Rattle.net_meaning.specs.SameValues.{Agrees}
use Rattle.net_meaning.specs.Support.{cur}
use Rattle.net_meaning.specs.ValueMatch.{Matches, IsTenThousandths, booleans, integers, longs, currencies, texts, empty_text, in_variant_empty, in_variant_boolean, in_variant_byte, in_variant_integer, in_variant_long, in_variant_currency, in_variant_text}
use Rattle.net_meaning.specs.Whole.{whole, is_whole}
use Rattle.meaning_laws.proofs.Currencies.{small_is_decimal, cur_checked}
use Rattle.meaning_laws.proofs.NetNumbers.{valued, short_limits, short_checked, integer_checked}
use Rattle.meaning_laws.proofs.Operands.{currency_size}
use Rattle.row_laws.specs.Library.{OneSame, SameLibrary, SameAbsolute, SameOfTwo, SameMiddle}

abs_neg : (k : ℕ) → unsigned_abs (neg_ℤ (pos k)) ≡ k
abs_neg zero = refl
abs_neg (suc k) = refl

same_scale : (z m : ℤ) (s : ℕ) → IsTenThousandths z m s → IsTenThousandths (pos (unsigned_abs z)) (pos (unsigned_abs m)) s
same_scale z (pos k) s h = (h.0, ap (λ q. pos (unsigned_abs q)) h.1)
same_scale z (negsuc k) s h = (h.0, ap pos (sym (abs_neg (suc k * 10 ^ (4 - s)))) ∙ ap (λ q. pos (unsigned_abs q)) h.1)

module _ (same : ℕ → ℕ → Bool) where
  given : (s : List ℕ) → Agrees (Matches same types.str) (gives (v.Str s)) (gives (n.Str s))
  given s = (n.Str s, refl, texts s)

  given_if : (c : Bool) (s : List ℕ) → Agrees (Matches same types.str) (cond c (gives (v.Str s)) outside) (cond c (gives (n.Str s)) outside)
  given_if true s = given s
  given_if false s = tt

  short_enough : (c : Bool) (s : List ℕ) → Agrees (Matches same types.str) (cond c (gives (v.Str s)) outside) (gives (n.Str s))
  short_enough true s = given s
  short_enough false s = tt

  long_of : (z : ℤ) → Agrees (Matches same types.long) (checked_value kinds.Long z) (whole Integer z)
  long_of z = valued same kinds.Long z (whole Integer z) (integer_checked z)

  -- ---- calls of one value

  len_same : OneSame same types.str types.long (λ a. six.call lib.Len (a ∷ [])) net.len
  len_same _ _ (texts s) = long_of (pos (length s))
  len_same _ _ empty_text = long_of (pos 0)

  trim_same : OneSame same types.str types.str (λ a. six.call lib.Trim (a ∷ [])) net.trim
  trim_same _ _ (texts s) = given (six.without_last_blanks (six.without_blanks s))
  trim_same _ _ empty_text = given []

  left_trim_same : OneSame same types.str types.str (λ a. six.call lib.LTrim (a ∷ [])) net.left_trim
  left_trim_same _ _ (texts s) = given (six.without_blanks s)
  left_trim_same _ _ empty_text = given []

  right_trim_same : OneSame same types.str types.str (λ a. six.call lib.RTrim (a ∷ [])) net.right_trim
  right_trim_same _ _ (texts s) = given (six.without_last_blanks s)
  right_trim_same _ _ empty_text = given []

  upper_same : OneSame same types.str types.str (λ a. six.call lib.UCase (a ∷ [])) net.upper
  upper_same _ _ (texts s) = given_if (list_all (λ c. nat_le c 127) s) (map six.capital s)
  upper_same _ _ empty_text = given []

  lower_same : OneSame same types.str types.str (λ a. six.call lib.LCase (a ∷ [])) net.lower
  lower_same _ _ (texts s) = given_if (list_all (λ c. nat_le c 127) s) (map six.small s)
  lower_same _ _ empty_text = given []

  space_of : (z : ℤ) → Agrees (Matches same types.str) (six.counted z (λ k. text (replicate k 32))) (net.counted z (λ k. gives (n.Str (replicate k 32))))
  space_of (pos k) = short_enough (nat_lt (length (replicate k 32)) (2 ^ 31)) (replicate k 32)
  space_of (negsuc k) = refl

  space_same : OneSame same types.long types.str (λ a. six.call lib.Space (a ∷ [])) net.space
  space_same _ _ (longs z f) = space_of z

  unit_of : (k : ℕ) (c d : Bool) → Agrees (Matches same types.str) (cond c (gives (v.Str (k ∷ []))) (cond d outside (raises 5)))
      (then_answer (cond c (gives (n.Str (k ∷ []))) (cond d outside (raises 5))) (λ q. coerce_net q t.str))
  unit_of k true d = given (k ∷ [])
  unit_of k false true = tt
  unit_of k false false = refl

  character_of : (z : ℤ) → Agrees (Matches same types.str) (six.character z) (then_answer (net.character (n.Integer z)) (λ q. coerce_net q t.str))
  character_of (pos k) = unit_of k (nat_le k 127) (nat_le k 255)
  character_of (negsuc k) = refl

  character_same : OneSame same types.long types.str (λ a. six.call lib.Chr (a ∷ [])) (λ x. then_answer (net.character x) (λ q. coerce_net q t.str))
  character_same _ _ (longs z f) = character_of z

  number_of : (s : List ℕ) → Agrees (Matches same types.integer) (six.character_number s) (then_answer (net.first_number s) (λ q. coerce_net q t.short))
  number_of [] = refl
  number_of (c ∷ s) =
      by_test (nat_le c 127)
      (λ b. Agrees (Matches same types.integer) (cond (b && true) (gives (v.Int (pos c))) outside) (then_answer (cond b (gives (n.Integer (pos c))) outside) (λ q. coerce_net q t.short)))
      (λ e. let small : is_whole Short (pos c) ≡ true = (let h = e in grind (arith, nat_tests)) in
      (n.Short (pos c), ap (λ q. cond q (gives (n.Short (pos c))) (raises 6)) small, integers (pos c) (short_limits (pos c) ∙ small)))
      (λ e. tt)

  number_same : OneSame same types.str types.integer (λ a. six.call lib.Asc (a ∷ [])) (λ x. then_answer (net.character_number x) (λ q. coerce_net q t.short))
  number_same _ _ (texts s) = number_of s
  number_same _ _ empty_text = refl

  empty_same : OneSame same types.variant types.boolean (λ a. six.call lib.IsEmpty (a ∷ [])) (λ x. operate_net (Bin op.Is) x n.Nothing)
  empty_same _ _ in_variant_empty = (n.Boolean true, refl, booleans true)
  empty_same _ _ (in_variant_boolean b) = (n.Boolean false, refl, booleans false)
  empty_same _ _ (in_variant_byte m e) = (n.Boolean false, refl, booleans false)
  empty_same _ _ (in_variant_integer z e) = (n.Boolean false, refl, booleans false)
  empty_same _ _ (in_variant_long z e) = (n.Boolean false, refl, booleans false)
  empty_same _ _ (in_variant_currency z m s e d) = (n.Boolean false, refl, booleans false)
  empty_same _ _ (in_variant_text units) = (n.Boolean false, refl, booleans false)

  -- ---- calls of two values and of three

  left_of : (s : List ℕ) (z : ℤ) → Agrees (Matches same types.str) (six.left s z) (net.left (n.Str s) (n.Integer z))
  left_of s (pos k) = given (take k s)
  left_of s (negsuc k) = refl

  right_of : (s : List ℕ) (z : ℤ) → Agrees (Matches same types.str) (six.right s z) (net.right (n.Str s) (n.Integer z))
  right_of s (pos k) = given (drop (length s - k) s)
  right_of s (negsuc k) = refl

  rest_if : (c : Bool) (s : List ℕ) → Agrees (Matches same types.str) (cond c (raises 5) (gives (v.Str s))) (cond c (raises 5) (gives (n.Str s)))
  rest_if true s = refl
  rest_if false s = given s

  rest_of : (s : List ℕ) (z : ℤ) → Agrees (Matches same types.str) (six.mid (v.Str s ∷ v.Long z ∷ [])) (net.mid_on (n.Str s) (n.Integer z))
  rest_of s (pos k) = rest_if (k == 0) (drop (k - 1) s)
  rest_of s (negsuc k) = refl

  counted_of : (s : List ℕ) (z : ℤ) → Agrees (Matches same types.str) (six.counted z (λ k. gives (v.Str (take k s)))) (net.counted z (λ k. gives (n.Str (take k s))))
  counted_of s (pos k) = given (take k s)
  counted_of s (negsuc k) = refl

  middle_if : (c : Bool) (s : List ℕ) (z : ℤ) → Agrees (Matches same types.str) (cond c (raises 5) (six.counted z (λ k. gives (v.Str (take k s))))) (cond c (raises 5) (net.counted z (λ k. gives (n.Str (take k s)))))
  middle_if true s z = refl
  middle_if false s z = counted_of s z

  middle_of : (s : List ℕ) (i z : ℤ) → Agrees (Matches same types.str) (six.mid (v.Str s ∷ v.Long i ∷ v.Long z ∷ [])) (net.mid (n.Str s) (n.Integer i) (n.Integer z))
  middle_of s (pos k) z = middle_if (k == 0) (drop (k - 1) s) z
  middle_of s (negsuc k) z = refl

pub left_same : SameOfTwo lib.Left types.str types.long types.str net.left
left_same same _ _ _ _ (texts s) (longs z f) = left_of same s z
left_same same _ _ _ _ empty_text (longs z f) = left_of same [] z

pub right_same : SameOfTwo lib.Right types.str types.long types.str net.right
right_same same _ _ _ _ (texts s) (longs z f) = right_of same s z
right_same same _ _ _ _ empty_text (longs z f) = right_of same [] z

pub rest_same : SameOfTwo lib.Mid types.str types.long types.str net.mid_on
rest_same same _ _ _ _ (texts s) (longs z f) = rest_of same s z
rest_same same _ _ _ _ empty_text (longs z f) = rest_of same [] z

pub place_same : SameOfTwo lib.InStr types.str types.str types.long net.place
place_same same _ _ _ _ (texts s) (texts u) = long_of same (pos (six.place_in 1 s u))
place_same same _ _ _ _ (texts s) empty_text = long_of same (pos (six.place_in 1 s []))
place_same same _ _ _ _ empty_text (texts u) = long_of same (pos (six.place_in 1 [] u))
place_same same _ _ _ _ empty_text empty_text = long_of same (pos (six.place_in 1 [] []))

pub middle_same : SameMiddle
middle_same same _ _ _ _ _ _ (texts s) (longs i f) (longs z g) = middle_of same s i z
middle_same same _ _ _ _ _ _ empty_text (longs i f) (longs z g) = middle_of same [] i z

-- ---- Abs

pub absolute_integer : SameAbsolute types.integer
absolute_integer same _ _ (integers z f) = valued same kinds.Integer (pos (unsigned_abs z)) (whole Short (pos (unsigned_abs z))) (short_checked (pos (unsigned_abs z)))

pub absolute_long : SameAbsolute types.long
absolute_long same _ _ (longs z f) = valued same kinds.Long (pos (unsigned_abs z)) (whole Integer (pos (unsigned_abs z))) (integer_checked (pos (unsigned_abs z)))

pub absolute_currency : SameAbsolute types.currency
absolute_currency same _ _ (currencies z m s f is) =
    let scaled = same_scale z m s is in
    let size : unsigned_abs (pos (unsigned_abs z)) < 2 ^ 96 = (let g = currency_size z f in omega (arith, g)) in
    let fine = small_is_decimal (pos (unsigned_abs z)) (pos (unsigned_abs m)) s size scaled in
    subst (λ c. Agrees (Matches same types.currency) (checked_value kinds.Currency (pos (unsigned_abs z))) (then_answer (cond c (gives (n.Decimal (pos (unsigned_abs m)) s)) outside) cur)) (sym fine)
    (valued same kinds.Currency (pos (unsigned_abs z)) (cur (n.Decimal (pos (unsigned_abs m)) s)) (cur_checked (pos (unsigned_abs z)) (pos (unsigned_abs m)) s size scaled))

-- ---- all calls of one value

pub library_same : (f : LibCall) → SameLibrary f
library_same lib.Len same = len_same same
library_same lib.Trim same = trim_same same
library_same lib.LTrim same = left_trim_same same
library_same lib.RTrim same = right_trim_same same
library_same lib.UCase same = upper_same same
library_same lib.LCase same = lower_same same
library_same lib.Space same = space_same same
library_same lib.Chr same = character_same same
library_same lib.Asc same = number_same same
library_same lib.IsEmpty same = empty_same same
library_same _ same = tt
