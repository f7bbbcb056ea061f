-- Comparisons of numbers, of Booleans and of texts.
use Rattle.std.proofs.Common.{◌≡◌, ℕ, refl, sym, ◌∙◌, ap, ap₂, subst, Bool, true, false, ◌&&◌, Option, Some, None, ℤ}
use Rattle.std.specs.Prelude.{if◌then◌else◌}
use Rattle.vb_tree.specs.BoundTree as types
use Rattle.vb_tree.specs.BoundTree.{Ty}
use Rattle.vb_tree.specs.declared.value.Value6.{Value6}
use Rattle.vb6_meaning.specs.Answers.{gives, outside, then_answer}
use Rattle.vb6_meaning.specs.declared.number.Number.{Number}
use Rattle.vb6_meaning.specs.declared.number.NumberKind.{NumberKind}
use Rattle.vb6_meaning.specs.declared.number.NumberKind.TheVariants as kinds
use Rattle.vb6_meaning.specs.Kinds.{fits, wider}
use Rattle.vb6_meaning.specs.Numbers.{amount_in}
use Rattle.vb6_meaning.specs.Values as six
use Rattle.net_tree.specs.declared.expression.NetBin.{NetBin}
use Rattle.net_tree.specs.declared.expression.NetBin.TheVariants as op
use Rattle.net_tree.specs.declared.expression.OpN.TheVariants.{Bin}
use Rattle.net_meaning.specs.declared.value.ValueN.{ValueN}
use Rattle.net_meaning.specs.declared.value.ValueN.TheVariants as n
use Rattle.net_meaning.specs.Operators.{operate_net}
use Rattle.net_meaning.specs.ValueMatch.{Matches, IsTenThousandths, booleans, bytes, integers, longs, currencies, texts, empty_text, fixed_texts, no_object, no_object_of, nothing, objects, objects_of, in_variant_empty, in_variant_boolean, in_variant_byte, in_variant_integer, in_variant_long, in_variant_currency, in_variant_text}
use Rattle.std.proofs.Common.{List, [], length}
use Rattle.std.specs.declared.cmp.Ordering.{Ordering}
use Rattle.std.specs.Ordering.{int_cmp, nat_cmp, bool_cmp, is_eq, is_ne, is_lt, is_gt, is_le, is_ge}
use Rattle.std.specs.Cmp.Lexicographic.{slice_cmp}
use Rattle.vb_tree.specs.declared.value.Value6.TheVariants as v
use Rattle.vb6_meaning.specs.Numbers.{number_of}
use Rattle.net_meaning.specs.Decimals.{is_decimal, order}
use Rattle.net_meaning.specs.WrittenRows.{compared, comparison, on_numbers, is_text}
use Rattle.net_meaning.specs.SameValues.{IsSame, is_typed}
use Rattle.meaning_laws.proofs.NetNumbers.{NetNumber, byte_number, short_number, integer_number, decimal_number}
use Rattle.meaning_laws.proofs.Operands.{Operand, operand_wide}
use Rattle.meaning_laws.proofs.Currencies.{currency_order, currencies_compared}
use Rattle.meaning_laws.proofs.Typed.{wide_left, wide_right, both_as_values, numbers_same, outside_same}

-- a value that is read as a text
pub data IsText : List ℕ → ValueN → Type 0 where
  str_text : (units : List ℕ) → IsText units (n.Str units)
  no_text : IsText [] n.Nothing

-- an operator is a test of the order
pub record IsTest (op : NetBin) (test : Ordering → Bool) : Type 0 where
  pub numbers : (k : NumberKind) (z w : ℤ) (x y : ValueN) → NetNumber k z x → NetNumber k w y → operate_net (Bin op) x y ≡ gives (n.Boolean (test (int_cmp z w)))
  pub booleans_are : (p q : Bool) → operate_net (Bin op) (n.Boolean p) (n.Boolean q) ≡ gives (n.Boolean (test (bool_cmp q p)))
  pub texts_are : (s t : List ℕ) (x y : ValueN) → IsText s x → IsText t y → operate_net (Bin op) x y ≡ gives (n.Boolean (test (slice_cmp nat_cmp s t)))

decimals_tested : (test : Ordering → Bool) (z m w l : ℤ) (s t : ℕ) → fits kinds.Currency z ≡ true → fits kinds.Currency w ≡ true
    → IsTenThousandths z m s → IsTenThousandths w l t
    → (if is_decimal m s && is_decimal l t then gives (n.Boolean (test (order m s l t))) else outside) ≡ gives (n.Boolean (test (int_cmp z w)))
decimals_tested test z m w l s t e h d g =
    ap (λ b. if b then gives (n.Boolean (test (order m s l t))) else outside) (currencies_compared z m w l s t e h d g)
    ∙ ap (λ o. gives (n.Boolean (test o))) (currency_order z m w l s t d g)

equal_numbers : (k : NumberKind) (z w : ℤ) (x y : ValueN) → NetNumber k z x → NetNumber k w y → operate_net (Bin op.Equal) x y ≡ gives (n.Boolean (is_eq (int_cmp z w)))
equal_numbers _ _ _ _ _ (byte_number m e) (byte_number l h) = refl
equal_numbers _ _ _ _ _ (short_number z e) (short_number w h) = refl
equal_numbers _ _ _ _ _ (integer_number z e) (integer_number w h) = refl
equal_numbers _ _ _ _ _ (decimal_number z m s e d) (decimal_number w l t h g) = decimals_tested is_eq z m w l s t e h d g

equal_texts : (s t : List ℕ) (x y : ValueN) → IsText s x → IsText t y → operate_net (Bin op.Equal) x y ≡ gives (n.Boolean (is_eq (slice_cmp nat_cmp s t)))
equal_texts _ _ _ _ (str_text s) (str_text t) = refl
equal_texts _ _ _ _ (str_text s) no_text = refl
equal_texts _ _ _ _ no_text (str_text t) = refl
equal_texts _ _ _ _ no_text no_text = refl

pub equal_tests : IsTest op.Equal is_eq
equal_tests = record { numbers = equal_numbers; booleans_are = λ p q. refl; texts_are = equal_texts }

not_equal_numbers : (k : NumberKind) (z w : ℤ) (x y : ValueN) → NetNumber k z x → NetNumber k w y → operate_net (Bin op.NotEqual) x y ≡ gives (n.Boolean (is_ne (int_cmp z w)))
not_equal_numbers _ _ _ _ _ (byte_number m e) (byte_number l h) = refl
not_equal_numbers _ _ _ _ _ (short_number z e) (short_number w h) = refl
not_equal_numbers _ _ _ _ _ (integer_number z e) (integer_number w h) = refl
not_equal_numbers _ _ _ _ _ (decimal_number z m s e d) (decimal_number w l t h g) = decimals_tested is_ne z m w l s t e h d g

not_equal_texts : (s t : List ℕ) (x y : ValueN) → IsText s x → IsText t y → operate_net (Bin op.NotEqual) x y ≡ gives (n.Boolean (is_ne (slice_cmp nat_cmp s t)))
not_equal_texts _ _ _ _ (str_text s) (str_text t) = refl
not_equal_texts _ _ _ _ (str_text s) no_text = refl
not_equal_texts _ _ _ _ no_text (str_text t) = refl
not_equal_texts _ _ _ _ no_text no_text = refl

pub not_equal_tests : IsTest op.NotEqual is_ne
not_equal_tests = record { numbers = not_equal_numbers; booleans_are = λ p q. refl; texts_are = not_equal_texts }

less_numbers : (k : NumberKind) (z w : ℤ) (x y : ValueN) → NetNumber k z x → NetNumber k w y → operate_net (Bin op.Less) x y ≡ gives (n.Boolean (is_lt (int_cmp z w)))
less_numbers _ _ _ _ _ (byte_number m e) (byte_number l h) = refl
less_numbers _ _ _ _ _ (short_number z e) (short_number w h) = refl
less_numbers _ _ _ _ _ (integer_number z e) (integer_number w h) = refl
less_numbers _ _ _ _ _ (decimal_number z m s e d) (decimal_number w l t h g) = decimals_tested is_lt z m w l s t e h d g

less_texts : (s t : List ℕ) (x y : ValueN) → IsText s x → IsText t y → operate_net (Bin op.Less) x y ≡ gives (n.Boolean (is_lt (slice_cmp nat_cmp s t)))
less_texts _ _ _ _ (str_text s) (str_text t) = refl
less_texts _ _ _ _ (str_text s) no_text = refl
less_texts _ _ _ _ no_text (str_text t) = refl
less_texts _ _ _ _ no_text no_text = refl

pub less_tests : IsTest op.Less is_lt
less_tests = record { numbers = less_numbers; booleans_are = λ p q. refl; texts_are = less_texts }

greater_numbers : (k : NumberKind) (z w : ℤ) (x y : ValueN) → NetNumber k z x → NetNumber k w y → operate_net (Bin op.Greater) x y ≡ gives (n.Boolean (is_gt (int_cmp z w)))
greater_numbers _ _ _ _ _ (byte_number m e) (byte_number l h) = refl
greater_numbers _ _ _ _ _ (short_number z e) (short_number w h) = refl
greater_numbers _ _ _ _ _ (integer_number z e) (integer_number w h) = refl
greater_numbers _ _ _ _ _ (decimal_number z m s e d) (decimal_number w l t h g) = decimals_tested is_gt z m w l s t e h d g

greater_texts : (s t : List ℕ) (x y : ValueN) → IsText s x → IsText t y → operate_net (Bin op.Greater) x y ≡ gives (n.Boolean (is_gt (slice_cmp nat_cmp s t)))
greater_texts _ _ _ _ (str_text s) (str_text t) = refl
greater_texts _ _ _ _ (str_text s) no_text = refl
greater_texts _ _ _ _ no_text (str_text t) = refl
greater_texts _ _ _ _ no_text no_text = refl

pub greater_tests : IsTest op.Greater is_gt
greater_tests = record { numbers = greater_numbers; booleans_are = λ p q. refl; texts_are = greater_texts }

less_equal_numbers : (k : NumberKind) (z w : ℤ) (x y : ValueN) → NetNumber k z x → NetNumber k w y → operate_net (Bin op.LessEqual) x y ≡ gives (n.Boolean (is_le (int_cmp z w)))
less_equal_numbers _ _ _ _ _ (byte_number m e) (byte_number l h) = refl
less_equal_numbers _ _ _ _ _ (short_number z e) (short_number w h) = refl
less_equal_numbers _ _ _ _ _ (integer_number z e) (integer_number w h) = refl
less_equal_numbers _ _ _ _ _ (decimal_number z m s e d) (decimal_number w l t h g) = decimals_tested is_le z m w l s t e h d g

less_equal_texts : (s t : List ℕ) (x y : ValueN) → IsText s x → IsText t y → operate_net (Bin op.LessEqual) x y ≡ gives (n.Boolean (is_le (slice_cmp nat_cmp s t)))
less_equal_texts _ _ _ _ (str_text s) (str_text t) = refl
less_equal_texts _ _ _ _ (str_text s) no_text = refl
less_equal_texts _ _ _ _ no_text (str_text t) = refl
less_equal_texts _ _ _ _ no_text no_text = refl

pub less_equal_tests : IsTest op.LessEqual is_le
less_equal_tests = record { numbers = less_equal_numbers; booleans_are = λ p q. refl; texts_are = less_equal_texts }

greater_equal_numbers : (k : NumberKind) (z w : ℤ) (x y : ValueN) → NetNumber k z x → NetNumber k w y → operate_net (Bin op.GreaterEqual) x y ≡ gives (n.Boolean (is_ge (int_cmp z w)))
greater_equal_numbers _ _ _ _ _ (byte_number m e) (byte_number l h) = refl
greater_equal_numbers _ _ _ _ _ (short_number z e) (short_number w h) = refl
greater_equal_numbers _ _ _ _ _ (integer_number z e) (integer_number w h) = refl
greater_equal_numbers _ _ _ _ _ (decimal_number z m s e d) (decimal_number w l t h g) = decimals_tested is_ge z m w l s t e h d g

greater_equal_texts : (s t : List ℕ) (x y : ValueN) → IsText s x → IsText t y → operate_net (Bin op.GreaterEqual) x y ≡ gives (n.Boolean (is_ge (slice_cmp nat_cmp s t)))
greater_equal_texts _ _ _ _ (str_text s) (str_text t) = refl
greater_equal_texts _ _ _ _ (str_text s) no_text = refl
greater_equal_texts _ _ _ _ no_text (str_text t) = refl
greater_equal_texts _ _ _ _ no_text no_text = refl

pub greater_equal_tests : IsTest op.GreaterEqual is_ge
greater_equal_tests = record { numbers = greater_equal_numbers; booleans_are = λ p q. refl; texts_are = greater_equal_texts }

numbers_compared : (are_same : ℕ → ℕ → Bool) (op : NetBin) (test : Ordering → Bool) → IsTest op test → (s t : Ty) (x y : ValueN) (M N : Number) → Operand s M x → Operand t N y
    → IsSame are_same (six.compared test (six.number_order M N)) (compared op s t M.kind N.kind) x y
numbers_compared are_same op test is s t x y M N o p =
    let k = wider M.kind N.kind in
    let a = operand_wide k s M x o (wide_left M.kind N.kind) in
    let b = operand_wide k t N y p (wide_right M.kind N.kind) in
    let r = test (int_cmp (amount_in k M) (amount_in k N)) in (
      n.Boolean r,
      both_as_values k op s t x y
          ∙ ap₂ (λ p q. then_answer p (λ v. then_answer q (λ w. operate_net (Bin op) v w))) a.1 b.1
          ∙ is.numbers k (amount_in k M) (amount_in k N) a.0 b.0 a.2 b.2,
      booleans r,
    )

ordered_numbers : (test : Ordering → Bool) (p q : Option Number)
    → six.compared test (six.on_numbers six.number_order p q) ≡ six.on_numbers (λ M N. six.compared test (six.number_order M N)) p q
ordered_numbers test (Some M) (Some N) = refl
ordered_numbers test (Some M) None = refl
ordered_numbers test None q = refl

module _ (are_same : ℕ → ℕ → Bool) (op : NetBin) (test : Ordering → Bool) (is : IsTest op test) where
  by_numbers : (s t : Ty) (a b : Value6) (x y : ValueN) → is_typed s ≡ true → is_typed t ≡ true → Matches are_same s a x → Matches are_same t b y
      → IsSame are_same (six.compared test (six.on_numbers six.number_order (number_of a) (number_of b))) (on_numbers (compared op) s t) x y
  by_numbers s t a b x y hs ht ma mb =
      subst (λ r. IsSame are_same r (on_numbers (compared op) s t) x y) (sym (ordered_numbers test (number_of a) (number_of b)))
      (numbers_same are_same (λ M N. six.compared test (six.number_order M N)) (compared op) s t a b x y hs ht ma mb
      (numbers_compared are_same op test is s t x y))

  boolean_beside : (p : Bool) (t : Ty) (b : Value6) (y : ValueN) → is_typed t ≡ true → Matches are_same t b y
      → IsSame are_same (six.compared test (six.order (v.Boolean p) b)) (comparison op types.boolean t) (n.Boolean p) y
  boolean_beside true _ _ _ ht (booleans true) = (n.Boolean (test (bool_cmp true true)), is.booleans_are true true, booleans _)
  boolean_beside true _ _ _ ht (booleans false) = (n.Boolean (test (bool_cmp false true)), is.booleans_are true false, booleans _)
  boolean_beside false _ _ _ ht (booleans true) = (n.Boolean (test (bool_cmp true false)), is.booleans_are false true, booleans _)
  boolean_beside false _ _ _ ht (booleans false) = (n.Boolean (test (bool_cmp false false)), is.booleans_are false false, booleans _)
  boolean_beside p _ _ _ ht (bytes l h) = by_numbers _ _ _ _ _ _ refl ht (booleans p) (bytes l h)
  boolean_beside p _ _ _ ht (integers w h) = by_numbers _ _ _ _ _ _ refl ht (booleans p) (integers w h)
  boolean_beside p _ _ _ ht (longs w h) = by_numbers _ _ _ _ _ _ refl ht (booleans p) (longs w h)
  boolean_beside p _ _ _ ht (currencies w m c h d) = by_numbers _ _ _ _ _ _ refl ht (booleans p) (currencies w m c h d)
  boolean_beside p _ _ _ ht (texts units) = by_numbers _ _ _ _ _ _ refl ht (booleans p) (texts units)
  boolean_beside p _ _ _ ht empty_text = by_numbers _ _ _ _ _ _ refl ht (booleans p) empty_text
  boolean_beside p _ _ _ ht (fixed_texts units) = by_numbers _ _ _ _ _ _ refl ht (booleans p) (fixed_texts units)
  boolean_beside p _ _ _ ht no_object = by_numbers _ _ _ _ _ _ refl ht (booleans p) no_object
  boolean_beside p _ _ _ ht (no_object_of k) = by_numbers _ _ _ _ _ _ refl ht (booleans p) (no_object_of k)
  boolean_beside p _ _ _ ht nothing = by_numbers _ _ _ _ _ _ refl ht (booleans p) nothing
  boolean_beside p _ _ _ ht (objects d e h) = by_numbers _ _ _ _ _ _ refl ht (booleans p) (objects d e h)
  boolean_beside p _ _ _ ht (objects_of k d e h) = by_numbers _ _ _ _ _ _ refl ht (booleans p) (objects_of k d e h)
  boolean_beside p _ _ _ ht in_variant_empty = cc
  boolean_beside p _ _ _ ht (in_variant_boolean c) = cc
  boolean_beside p _ _ _ ht (in_variant_byte l h) = cc
  boolean_beside p _ _ _ ht (in_variant_integer w h) = cc
  boolean_beside p _ _ _ ht (in_variant_long w h) = cc
  boolean_beside p _ _ _ ht (in_variant_currency w m c h d) = cc
  boolean_beside p _ _ _ ht (in_variant_text more) = cc

  text_beside : (s : Ty) (units : List ℕ) (x : ValueN) (t : Ty) (b : Value6) (y : ValueN) → is_text s ≡ true → IsText units x → is_typed t ≡ true → Matches are_same t b y
      → IsSame are_same (six.compared test (six.order (v.Str units) b)) (comparison op s t) x y
  text_beside s units x _ _ _ hs i ht (texts more) = simp hs (n.Boolean (test (slice_cmp nat_cmp units more)), is.texts_are units more x (n.Str more) i (str_text more), booleans _)
  text_beside s units x _ _ _ hs i ht empty_text = simp hs (n.Boolean (test (slice_cmp nat_cmp units [])), is.texts_are units [] x n.Nothing i no_text, booleans _)
  text_beside s units x _ _ _ hs i ht (fixed_texts more) = simp hs (n.Boolean (test (slice_cmp nat_cmp units more)), is.texts_are units more x (n.Str more) i (str_text more), booleans _)
  text_beside s units x _ _ _ hs i ht (booleans b) = outside_same are_same (comparison op s types.boolean) x (n.Boolean b)
  text_beside s units x _ _ _ hs i ht (bytes l h) = outside_same are_same (comparison op s types.byte) x (n.Byte l)
  text_beside s units x _ _ _ hs i ht (integers w h) = outside_same are_same (comparison op s types.integer) x (n.Short w)
  text_beside s units x _ _ _ hs i ht (longs w h) = outside_same are_same (comparison op s types.long) x (n.Integer w)
  text_beside s units x _ _ _ hs i ht (currencies w m c h d) = outside_same are_same (comparison op s types.currency) x (n.Decimal m c)
  text_beside s units x _ _ _ hs i ht no_object = outside_same are_same (comparison op s types.object) x n.Nothing
  text_beside s units x _ _ _ hs i ht (no_object_of k) = outside_same are_same (comparison op s (types.class k)) x n.Nothing
  text_beside s units x _ _ _ hs i ht nothing = outside_same are_same (comparison op s types.nothing) x n.Nothing
  text_beside s units x _ _ _ hs i ht (objects d e h) = outside_same are_same (comparison op s types.object) x (n.Object e)
  text_beside s units x _ _ _ hs i ht (objects_of k d e h) = outside_same are_same (comparison op s (types.class k)) x (n.Object e)
  text_beside s units x _ _ _ hs i ht in_variant_empty = cc
  text_beside s units x _ _ _ hs i ht (in_variant_boolean c) = cc
  text_beside s units x _ _ _ hs i ht (in_variant_byte l h) = cc
  text_beside s units x _ _ _ hs i ht (in_variant_integer w h) = cc
  text_beside s units x _ _ _ hs i ht (in_variant_long w h) = cc
  text_beside s units x _ _ _ hs i ht (in_variant_currency w m c h d) = cc
  text_beside s units x _ _ _ hs i ht (in_variant_text more) = cc

  pub compared_same : (s t : Ty) (a b : Value6) (x y : ValueN) → is_typed s ≡ true → is_typed t ≡ true → Matches are_same s a x → Matches are_same t b y
      → IsSame are_same (six.compared test (six.order a b)) (comparison op s t) x y
  compared_same _ t _ b _ y hs ht (booleans p) mb = boolean_beside p t b y ht mb
  compared_same _ t _ b _ y hs ht (bytes l h) mb = by_numbers _ t _ b _ y hs ht (bytes l h) mb
  compared_same _ t _ b _ y hs ht (integers w h) mb = by_numbers _ t _ b _ y hs ht (integers w h) mb
  compared_same _ t _ b _ y hs ht (longs w h) mb = by_numbers _ t _ b _ y hs ht (longs w h) mb
  compared_same _ t _ b _ y hs ht (currencies w m c h d) mb = by_numbers _ t _ b _ y hs ht (currencies w m c h d) mb
  compared_same _ t _ b _ y hs ht (texts units) mb = text_beside types.str units (n.Str units) t b y refl (str_text units) ht mb
  compared_same _ t _ b _ y hs ht empty_text mb = text_beside types.str [] n.Nothing t b y refl no_text ht mb
  compared_same _ t _ b _ y hs ht (fixed_texts units) mb = text_beside (types.fixed (length units)) units (n.Str units) t b y refl (str_text units) ht mb
  compared_same _ t _ b _ y hs ht no_object mb = by_numbers _ t _ b _ y hs ht no_object mb
  compared_same _ t _ b _ y hs ht (no_object_of k) mb = by_numbers _ t _ b _ y hs ht (no_object_of k) mb
  compared_same _ t _ b _ y hs ht nothing mb = by_numbers _ t _ b _ y hs ht nothing mb
  compared_same _ t _ b _ y hs ht (objects d e h) mb = by_numbers _ t _ b _ y hs ht (objects d e h) mb
  compared_same _ t _ b _ y hs ht (objects_of k d e h) mb = by_numbers _ t _ b _ y hs ht (objects_of k d e h) mb
  compared_same _ t _ b _ y hs ht in_variant_empty mb = cc
  compared_same _ t _ b _ y hs ht (in_variant_boolean c) mb = cc
  compared_same _ t _ b _ y hs ht (in_variant_byte l h) mb = cc
  compared_same _ t _ b _ y hs ht (in_variant_integer w h) mb = cc
  compared_same _ t _ b _ y hs ht (in_variant_long w h) mb = cc
  compared_same _ t _ b _ y hs ht (in_variant_currency w m c h d) mb = cc
  compared_same _ t _ b _ y hs ht (in_variant_text more) mb = cc
