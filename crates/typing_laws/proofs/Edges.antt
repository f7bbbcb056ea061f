-- Where what is written has a row for the types of its operands, the source's row is outside at an edge alone.
use Rattle.std.proofs.Common.{◌≡◌, refl, sym, ◌∙◌, subst, ℕ, ◌^◌, ℤ, pos, negsuc, Bool, true, false, cond, not, ◌&&◌, List, ◌++◌, true≢false, Option, Some, None}
use Rattle.std.specs.Prelude.{◌+ℤ◌, ◌-ℤ◌, ◌*ℤ◌, neg_ℤ, nat_lt, length, is_some, if◌then◌else◌, int_div, int_rem}
use Rattle.std.specs.Ordering.{int_eq, is_eq, is_ne, is_lt, is_gt, is_le, is_ge}
use Rattle.std.specs.declared.cmp.Ordering.{Ordering}
use Rattle.up_base.proofs.Tests.{both_true}
use Rattle.vb_tree.specs.BoundTree as types
use Rattle.vb_tree.specs.BoundTree.{Ty}
use Rattle.vb_tree.specs.declared.expression.BinOp.{BinOp}
use Rattle.vb_tree.specs.declared.expression.BinOp.TheVariants as b
use Rattle.vb_tree.specs.declared.expression.UnOp.{UnOp}
use Rattle.vb_tree.specs.declared.expression.UnOp.TheVariants as u
use Rattle.vb_tree.specs.declared.value.Value6.{Value6}
use Rattle.vb_tree.specs.declared.value.Value6.TheVariants as v
use Rattle.vb6_meaning.specs.Answers.{Answer, gives, raises, outside, then_answer}
use Rattle.vb6_meaning.specs.Bits.{bitwise}
use Rattle.vb6_meaning.specs.declared.number.Number.{Number}
use Rattle.vb6_meaning.specs.declared.number.NumberKind.{NumberKind}
use Rattle.vb6_meaning.specs.declared.number.NumberKind.TheVariants as kinds
use Rattle.vb6_meaning.specs.Kinds.{fits, is_byte, least, value, checked, checked_value}
use Rattle.vb6_meaning.specs.Numbers.{of_kind, number_of, amount_in}
use Rattle.vb6_meaning.specs.NumberTexts.{text_of}
use Rattle.vb6_meaning.specs.Values as meaning
use Rattle.vb6_meaning.specs.Values.{text, are_currencies, common, common_whole, converted, divided, complement, order, number_order, typed, typed_unary, coerce}
use Rattle.net_tree.specs.declared.expression.NetBin.{NetBin}
use Rattle.net_tree.specs.declared.expression.NetBin.TheVariants as op
use Rattle.net_meaning.specs.WrittenRows as written
use Rattle.net_meaning.specs.WrittenRows.{Written, kind_of, write_operator, write_unary, write_conversion}
use Rattle.run_matches.specs.CoveredVariables.{covers_type}
use Rattle.run_matches.specs.CoveredExprs.{covers_operator}
use Rattle.typing_laws.specs.Edges.{IsEdge, least_by_minus_one, joined_too_long, sum_too_long, IsTooLong, divides}
use Rattle.typing_laws.proofs.Plain.{Plain, a_boolean, a_byte, an_integer, a_long, a_currency, a_text, HasText, has_text}

-- ---- answers that aren't outside

pub given : {A : Type 0} (a : A) → ◌≡◌ {A = Answer A} (gives a) outside → ⊥
given a h = cc h

pub raised : {A : Type 0} (n : ℕ) → ◌≡◌ {A = Answer A} (raises n) outside → ⊥
raised n h = cc h

nothing_written : false ≡ true → ⊥
nothing_written h = true≢false (sym h)

either_given : {A : Type 0} (t : Bool) (a : A) (n : ℕ) → ◌≡◌ {A = Answer A} (cond t (gives a) (raises n)) outside → ⊥
either_given true a n h = given a h
either_given false a n h = raised n h

checked_never : (k : NumberKind) (z : ℤ) → checked_value k z ≡ outside → ⊥
checked_never k z h = either_given (fits k z) (value k z) 6 h

-- the second of two computations is outside
behind : {A : Type 0} (t s : Bool) (p q : ℤ) (next : ℤ → ℤ → Answer A)
    → then_answer (cond t (gives p) (raises 6)) (λ x. then_answer (cond s (gives q) (raises 6)) (λ y. next x y)) ≡ outside → next p q ≡ outside
behind true true p q next h = h
behind true false p q next h = absurd (raised 6 h)
behind false s p q next h = absurd (raised 6 h)

converted_out : {A : Type 0} (k : NumberKind) (x y : Number) (next : ℤ → ℤ → Answer A) → converted k x y next ≡ outside
    → next (amount_in k x) (amount_in k y) ≡ outside
converted_out k x y next h = behind (fits k (amount_in k x)) (fits k (amount_in k y)) (amount_in k x) (amount_in k y) next h

divided_by : (zero_ least_ : Bool) (z : Value6) → cond zero_ (raises 11) (cond least_ outside (gives z)) ≡ outside → least_ ≡ true
divided_by true l z h = absurd (raised 11 h)
divided_by false true z h = refl
divided_by false false z h = absurd (given z h)

divided_out : (by : ℤ → ℤ → ℤ) (k : NumberKind) (p q : ℤ) → divided by k p q ≡ outside
    → (int_eq q (negsuc 0) ≡ true) × (int_eq p (least k) ≡ true)
divided_out by k p q h =
    both_true (int_eq q (negsuc 0)) (int_eq p (least k))
    (divided_by (int_eq q (pos 0)) (int_eq q (negsuc 0) && int_eq p (least k)) (value k (by p q)) h)

long_by : (t : Bool) (s : List ℕ) → cond t (gives (v.Str s)) outside ≡ outside → t ≡ false
long_by true s h = absurd (given (v.Str s) h)
long_by false s h = refl

text_out : (s : List ℕ) → text s ≡ outside → IsTooLong s
text_out s h = long_by (nat_lt (length s) (2 ^ 31)) s h

-- ---- what a value counts as

data Counts (s : Ty) (x : Value6) : Type 0 where
  as_number : (m : Number) → kind_of s ≡ Some m.kind → number_of x ≡ Some m → Counts s x
  as_none : kind_of s ≡ None → Counts s x

counts : (s : Ty) (x : Value6) → Plain s x → Counts s x
counts _ _ (a_boolean true) = as_number (of_kind kinds.Integer (negsuc 0)) refl refl
counts _ _ (a_boolean false) = as_number (of_kind kinds.Integer (pos 0)) refl refl
counts _ _ (a_byte m h) = as_number (of_kind kinds.Byte (pos m)) refl refl
counts _ _ (an_integer z h) = as_number (of_kind kinds.Integer z) refl refl
counts _ _ (a_long z h) = as_number (of_kind kinds.Long z) refl refl
counts _ _ (a_currency z h) = as_number (of_kind kinds.Currency z) refl refl
counts _ _ (a_text units) = as_none refl

-- a row on two numbers, where something is written for their types
module _ {A : Type 0} (f : NumberKind → NumberKind → Option Written) (row : Number → Number → Answer A) (E : Type 0) where
  over : (s t : Ty) (x y : Value6) → Counts s x → Counts t y
      → ((m n : Number) → number_of x ≡ Some m → number_of y ≡ Some n → is_some (f m.kind n.kind) ≡ true → row m n ≡ outside → E)
      → is_some (written.on_kinds f (kind_of s) (kind_of t)) ≡ true → meaning.on_numbers row (number_of x) (number_of y) ≡ outside → E
  over s t x y (as_number m km xm) (as_number n kn yn) go some out =
      go m n xm yn
      (subst (λ k. is_some (written.on_kinds f (Some m.kind) k) ≡ true) kn (subst (λ k. is_some (written.on_kinds f k (kind_of t)) ≡ true) km some))
      (subst (λ k. meaning.on_numbers row (Some m) k ≡ outside) yn (subst (λ k. meaning.on_numbers row k (number_of y) ≡ outside) xm out))
  over s t x y (as_number m km xm) (as_none kn) go some out =
      absurd (nothing_written
      (subst (λ k. is_some (written.on_kinds f (Some m.kind) k) ≡ true) kn (subst (λ k. is_some (written.on_kinds f k (kind_of t)) ≡ true) km some)))
  over s t x y (as_none ks) c go some out =
      absurd (nothing_written (subst (λ k. is_some (written.on_kinds f k (kind_of t)) ≡ true) ks some))

-- a row on two numbers that is never outside
counted_out : {A : Type 0} (row : Number → Number → Answer A) → ((m n : Number) → row m n ≡ outside → ⊥) → (s t : Ty) (x y : Value6) → Counts s x
    → Counts t y → (kind_of s ≡ None → ⊥) → (kind_of t ≡ None → ⊥) → meaning.on_numbers row (number_of x) (number_of y) ≡ outside → ⊥
counted_out row never s t x y (as_number m km xm) (as_number n kn yn) h k out =
    never m n (subst (λ o. meaning.on_numbers row (Some m) o ≡ outside) yn (subst (λ o. meaning.on_numbers row o (number_of y) ≡ outside) xm out))
counted_out row never s t x y (as_number m km xm) (as_none kn) h k out = k kn
counted_out row never s t x y (as_none ks) c h k out = h ks

-- ---- arithmetic

product_out : (t : Bool) (k : NumberKind) (z : ℤ) (q : Option Written) → is_some (if t then None else q) ≡ true → cond t outside (checked_value k z) ≡ outside
    → ⊥
product_out true k z q some out = nothing_written some
product_out false k z q some out = checked_never k z out

sum_out : (m n : Number) → meaning.sum checked_value m n ≡ outside → ⊥
sum_out m n h = checked_never (common m n) (amount_in (common m n) m +ℤ amount_in (common m n) n) h

difference_out : (m n : Number) → meaning.difference checked_value m n ≡ outside → ⊥
difference_out m n h = checked_never (common m n) (amount_in (common m n) m -ℤ amount_in (common m n) n) h

-- ---- texts

joined_out : (s t : Ty) (x y : Value6) → Plain s x → Plain t y → meaning.joined x y ≡ outside → IsEdge b.Concat x y
joined_out s t x y p q out =
    let first : HasText x = has_text s x p in
    let second : HasText y = has_text t y q in
    joined_too_long first.0 second.0 refl first.1 second.1
    (text_out (first.0 ++ second.0)
    (subst (λ o. then_answer o (λ c. text (first.0 ++ c)) ≡ outside) second.1
    (subst (λ o. then_answer o (λ a. then_answer (text_of y) (λ c. text (a ++ c))) ≡ outside) first.1 out)))

added_out : (s t : Ty) (x y : Value6) → Plain s x → Plain t y → is_some (write_operator b.Add s t) ≡ true → meaning.added x y ≡ outside → IsEdge b.Add x y
added_out _ _ _ _ (a_text p) (a_text q) some out = sum_too_long p q refl refl refl (text_out (p ++ q) out)
added_out _ _ _ _ (a_text p) (a_boolean c) some out = absurd (nothing_written some)
added_out _ _ _ _ (a_text p) (a_byte m h) some out = absurd (nothing_written some)
added_out _ _ _ _ (a_text p) (an_integer z h) some out = absurd (nothing_written some)
added_out _ _ _ _ (a_text p) (a_long z h) some out = absurd (nothing_written some)
added_out _ _ _ _ (a_text p) (a_currency z h) some out = absurd (nothing_written some)
added_out _ t _ y (a_boolean c) q some out =
    over (written.arithmetic op.Add types.boolean t) (meaning.sum checked_value) (IsEdge b.Add (v.Boolean c) y) types.boolean t (v.Boolean c) y
    (counts _ _ (a_boolean c)) (counts t y q) (λ m n xm yn i o. absurd (sum_out m n o)) some out
added_out _ t _ y (a_byte k h) q some out =
    over (written.arithmetic op.Add types.byte t) (meaning.sum checked_value) (IsEdge b.Add (v.Byte k) y) types.byte t (v.Byte k) y
    (counts _ _ (a_byte k h)) (counts t y q) (λ m n xm yn i o. absurd (sum_out m n o)) some out
added_out _ t _ y (an_integer z h) q some out =
    over (written.arithmetic op.Add types.integer t) (meaning.sum checked_value) (IsEdge b.Add (v.Int z) y) types.integer t (v.Int z) y
    (counts _ _ (an_integer z h)) (counts t y q) (λ m n xm yn i o. absurd (sum_out m n o)) some out
added_out _ t _ y (a_long z h) q some out =
    over (written.arithmetic op.Add types.long t) (meaning.sum checked_value) (IsEdge b.Add (v.Long z) y) types.long t (v.Long z) y
    (counts _ _ (a_long z h)) (counts t y q) (λ m n xm yn i o. absurd (sum_out m n o)) some out
added_out _ t _ y (a_currency z h) q some out =
    over (written.arithmetic op.Add types.currency t) (meaning.sum checked_value) (IsEdge b.Add (v.Cur z) y) types.currency t (v.Cur z) y
    (counts _ _ (a_currency z h)) (counts t y q) (λ m n xm yn i o. absurd (sum_out m n o)) some out

-- ---- comparisons

order_given : (x : Ordering) → ◌≡◌ {A = Answer Ordering} (gives x) outside → ⊥
order_given x h = given x h

number_order_out : (m n : Number) → number_order m n ≡ outside → ⊥
number_order_out m n h = order_given _ h

compared_out : (test : Ordering → Bool) (o : Answer Ordering) → meaning.compared test o ≡ outside → o ≡ outside
compared_out test (gives x) h = absurd (given (v.Boolean (test x)) h)
compared_out test (raises n) h = absurd (raised n h)
compared_out test outside h = refl

-- numbers and Booleans are compared as numbers
module _ (s : Ty) (x : Value6) (p : Plain s x) (is_kind : kind_of s ≡ None → ⊥)
    (as_numbers : (y : Value6) → order x y ≡ meaning.on_numbers number_order (number_of x) (number_of y)) where
  number_first : (t : Ty) (y : Value6) → Plain t y → (kind_of t ≡ None → ⊥) → order x y ≡ outside → ⊥
  number_first t y q k out = counted_out number_order number_order_out s t x y (counts s x p) (counts t y q) is_kind k (sym (as_numbers y) ∙ out)

some_kind : (k : NumberKind) → ◌≡◌ {A = Option NumberKind} (Some k) None → ⊥
some_kind k h = cc h

order_out : (o : NetBin) (s t : Ty) (x y : Value6) → Plain s x → Plain t y → is_some (written.comparison o s t) ≡ true → order x y ≡ outside → ⊥
order_out o _ _ _ _ (a_text p) (a_text q) some out = order_given _ out
order_out o _ _ _ _ (a_text p) (a_boolean c) some out = nothing_written some
order_out o _ _ _ _ (a_text p) (a_byte m h) some out = nothing_written some
order_out o _ _ _ _ (a_text p) (an_integer z h) some out = nothing_written some
order_out o _ _ _ _ (a_text p) (a_long z h) some out = nothing_written some
order_out o _ _ _ _ (a_text p) (a_currency z h) some out = nothing_written some
order_out o _ _ _ _ (a_boolean c) (a_text q) some out = nothing_written some
order_out o _ _ _ _ (a_byte m h) (a_text q) some out = nothing_written some
order_out o _ _ _ _ (an_integer z h) (a_text q) some out = nothing_written some
order_out o _ _ _ _ (a_long z h) (a_text q) some out = nothing_written some
order_out o _ _ _ _ (a_currency z h) (a_text q) some out = nothing_written some
order_out o _ t _ y (a_boolean c) q some out = number_first _ _ (a_boolean c) (some_kind kinds.Integer) (λ y. refl) t y q (some_kind _) out
order_out o _ t _ y (a_byte m h) q some out = number_first _ _ (a_byte m h) (some_kind kinds.Byte) (λ y. refl) t y q (some_kind _) out
order_out o _ t _ y (an_integer z h) q some out = number_first _ _ (an_integer z h) (some_kind kinds.Integer) (λ y. refl) t y q (some_kind _) out
order_out o _ t _ y (a_long z h) q some out = number_first _ _ (a_long z h) (some_kind kinds.Long) (λ y. refl) t y q (some_kind _) out
order_out o _ t _ y (a_currency z h) q some out = number_first _ _ (a_currency z h) (some_kind kinds.Currency) (λ y. refl) t y q (some_kind _) out

comparison_out : (o : NetBin) (test : Ordering → Bool) (s t : Ty) (x y : Value6) → Plain s x → Plain t y → is_some (written.comparison o s t) ≡ true
    → meaning.compared test (order x y) ≡ outside → ⊥
comparison_out o test s t x y p q some out = order_out o s t x y p q some (compared_out test (order x y) out)

-- ---- And, Or, Xor, Eqv and Imp

bits_out : (f : Bool → Bool → Bool) (m n : Number) → meaning.bits f m n ≡ outside → ⊥
bits_out f m n h =
    given {A = Value6} _ (converted_out (common_whole m n) m n (λ p q. gives (value (common_whole m n) (bitwise f p q))) h)

signed_by : (t : Bool) (a : Answer Value6) (q : Option Written) → is_some (if t then None else q) ≡ true → cond t outside a ≡ outside → a ≡ outside
signed_by true a q some out = absurd (nothing_written some)
signed_by false a q some out = out

module _ (f : Bool → Bool → Bool) (row : Number → Number → Answer Value6) (g : written.Row → written.Row → written.Row)
    (h : Ty → Ty → NumberKind → NumberKind → Option Written)
    (never : (s t : Ty) (m n : Number) → is_some (h s t m.kind n.kind) ≡ true → row m n ≡ outside → ⊥) where
  numbers_out : (s t : Ty) (x y : Value6) → Plain s x → Plain t y → is_some (written.on_numbers h s t) ≡ true
      → meaning.on_numbers row (number_of x) (number_of y) ≡ outside → ⊥
  numbers_out s t x y p q some out = over (h s t) row ⊥ s t x y (counts s x p) (counts t y q) (λ m n xm yn i o. never s t m n i o) some out

  logical_out : (s t : Ty) (x y : Value6) → Plain s x → Plain t y → is_some (written.logical g h s t) ≡ true → meaning.logical f row x y ≡ outside → ⊥
  logical_out _ _ _ _ (a_boolean p) (a_boolean q) some out = given {A = Value6} _ out
  logical_out _ t _ y (a_boolean c) q some out = numbers_out types.boolean t (v.Boolean c) y (a_boolean c) q some out
  logical_out _ t _ y (a_byte m i) q some out = numbers_out types.byte t (v.Byte m) y (a_byte m i) q some out
  logical_out _ t _ y (an_integer z i) q some out = numbers_out types.integer t (v.Int z) y (an_integer z i) q some out
  logical_out _ t _ y (a_long z i) q some out = numbers_out types.long t (v.Long z) y (a_long z i) q some out
  logical_out _ t _ y (a_currency z i) q some out = numbers_out types.currency t (v.Cur z) y (a_currency z i) q some out
  logical_out _ t _ y (a_text c) q some out = numbers_out types.str t (v.Str c) y (a_text c) q some out

plain_bits_out : (f : Bool → Bool → Bool) (g : written.Row → written.Row → written.Row) (s t : Ty) (x y : Value6) → Plain s x → Plain t y
    → is_some (written.logical g (written.bits g) s t) ≡ true → meaning.logical f (meaning.bits f) x y ≡ outside → ⊥
plain_bits_out f g s t x y p q some out =
    logical_out f (meaning.bits f) g (written.bits g) (λ s t m n i o. bits_out f m n o) s t x y p q some out

signed_bits_out : (f : Bool → Bool → Bool) (g : written.Row → written.Row → written.Row) (s t : Ty) (x y : Value6) → Plain s x → Plain t y
    → is_some (written.logical g (written.signed_bits g) s t) ≡ true → meaning.logical f (meaning.signed_bits f) x y ≡ outside → ⊥
signed_bits_out f g s t x y p q some out =
    logical_out f (meaning.signed_bits f) g (written.signed_bits g)
    (λ s t m n i o. bits_out f m n (signed_by (is_byte (common_whole m n)) (meaning.bits f m n) (written.bits g s t m.kind n.kind) i o)) s t x y p q some out

-- ---- all operators

division_out : (o : BinOp) (by : ℤ → ℤ → ℤ) (g : NumberKind → NumberKind → Option Written) (row : Number → Number → Answer Value6)
    → ((m n : Number) → row m n ≡ converted (common_whole m n) m n (divided by (common_whole m n))) → (s t : Ty) (x y : Value6) → Plain s x → Plain t y
    → divides o ≡ true
    → is_some (written.on_kinds g (kind_of s) (kind_of t)) ≡ true → meaning.on_numbers row (number_of x) (number_of y) ≡ outside → IsEdge o x y
division_out o by g row is s t x y p q is_division some out =
    over g row (IsEdge o x y) s t x y (counts s x p) (counts t y q)
    (λ m n xm yn i j.
    let k = common_whole m n in
    let both = divided_out by k (amount_in k m) (amount_in k n) (converted_out k m n (divided by k) (sym (is m n) ∙ j)) in
    least_by_minus_one m n is_division xm yn both.1 both.0) some out

pub edge_of : (o : BinOp) (s t : Ty) (x y : Value6) → covers_operator o ≡ true → Plain s x → Plain t y → is_some (write_operator o s t) ≡ true
    → typed o x y ≡ outside → IsEdge o x y
edge_of b.Pow s t x y c p q some out = absurd (nothing_written some)
edge_of b.Mul s t x y c p q some out =
    over (written.product s t) (meaning.product checked_value) (IsEdge b.Mul x y) s t x y (counts s x p) (counts t y q)
    (λ m n xm yn i o. absurd (product_out (are_currencies m.kind n.kind) (common m n) (m.amount *ℤ n.amount) (written.arithmetic op.Mul s t m.kind n.kind) i o)) some out
edge_of b.Div s t x y c p q some out = absurd (nothing_written some)
edge_of b.IntDiv s t x y c p q some out =
    division_out b.IntDiv int_div (written.division op.IntDiv s t) meaning.quotient (λ m n. refl) s t x y p q refl some out
edge_of b.Mod s t x y c p q some out =
    division_out b.Mod int_rem (written.division op.Mod s t) meaning.remainder (λ m n. refl) s t x y p q refl some out
edge_of b.Add s t x y c p q some out = added_out s t x y p q some out
edge_of b.Sub s t x y c p q some out =
    over (written.arithmetic op.Sub s t) (meaning.difference checked_value) (IsEdge b.Sub x y) s t x y (counts s x p) (counts t y q)
    (λ m n xm yn i o. absurd (difference_out m n o)) some out
edge_of b.Concat s t x y c p q some out = joined_out s t x y p q out
edge_of b.Equal s t x y c p q some out = absurd (comparison_out op.Equal is_eq s t x y p q some out)
edge_of b.NotEqual s t x y c p q some out = absurd (comparison_out op.NotEqual is_ne s t x y p q some out)
edge_of b.Less s t x y c p q some out = absurd (comparison_out op.Less is_lt s t x y p q some out)
edge_of b.Greater s t x y c p q some out = absurd (comparison_out op.Greater is_gt s t x y p q some out)
edge_of b.LessEqual s t x y c p q some out = absurd (comparison_out op.LessEqual is_le s t x y p q some out)
edge_of b.GreaterEqual s t x y c p q some out = absurd (comparison_out op.GreaterEqual is_ge s t x y p q some out)
edge_of b.Is s t x y c p q some out = absurd (true≢false (sym c))
edge_of b.Like s t x y c p q some out = absurd (nothing_written some)
edge_of b.And s t x y c p q some out = absurd (plain_bits_out meaning.both written.and_row s t x y p q some out)
edge_of b.Or s t x y c p q some out = absurd (plain_bits_out meaning.either written.or_row s t x y p q some out)
edge_of b.Xor s t x y c p q some out = absurd (plain_bits_out meaning.one_alone written.xor_row s t x y p q some out)
edge_of b.Eqv s t x y c p q some out = absurd (signed_bits_out meaning.alike written.eqv_row s t x y p q some out)
edge_of b.Imp s t x y c p q some out = absurd (signed_bits_out meaning.implies written.imp_row s t x y p q some out)

-- ---- minus, Not and conversions

minus_by : (t : Bool) (k : NumberKind) (z : ℤ) (q : Option Written) → is_some (if t then None else q) ≡ true → cond t outside (checked_value k z) ≡ outside → ⊥
minus_by true k z q some out = nothing_written some
minus_by false k z q some out = checked_never k z out

minus_out : (s : Ty) (x : Value6) → Counts s x → is_some (write_unary u.Neg s) ≡ true → typed_unary u.Neg x ≡ outside → ⊥
minus_out s x (as_number m km xm) some out =
    minus_by (is_byte m.kind) m.kind (neg_ℤ m.amount) _ (subst (λ k. is_some (written.negated s k) ≡ true) km some)
    (subst (λ o. meaning.negative checked_value o ≡ outside) xm out)
minus_out s x (as_none ks) some out = nothing_written (subst (λ k. is_some (written.negated s k) ≡ true) ks some)

checked_then : (k : NumberKind) (z : ℤ) (f : ℤ → Value6) → then_answer (checked k z) (λ p. gives (f p)) ≡ outside → ⊥
checked_then k z f h = by (fits k z) h
  where
    by : (t : Bool) → then_answer (cond t (gives z) (raises 6)) (λ p. gives (f p)) ≡ outside → ⊥
    by true h = given (f z) h
    by false h = raised 6 h

turned_by : (s : Ty) (k : NumberKind) (z : ℤ) → is_some (written.turned s (Some k)) ≡ true → meaning.complemented (Some (of_kind k z)) ≡ outside → ⊥
turned_by s kinds.Byte z some out = nothing_written some
turned_by s kinds.Integer z some out =
    checked_then kinds.Integer (amount_in kinds.Integer (of_kind kinds.Integer z)) (λ p. value kinds.Integer (complement p)) out
turned_by s kinds.Long z some out = checked_then kinds.Long (amount_in kinds.Long (of_kind kinds.Long z)) (λ p. value kinds.Long (complement p)) out
turned_by s kinds.Currency z some out =
    checked_then kinds.Long (amount_in kinds.Long (of_kind kinds.Currency z)) (λ p. value kinds.Long (complement p)) out

turned_out : (s : Ty) (x : Value6) → Counts s x → is_some (written.turned s (kind_of s)) ≡ true → meaning.complemented (number_of x) ≡ outside → ⊥
turned_out s x (as_number m km xm) some out =
    turned_by s m.kind m.amount (subst (λ k. is_some (written.turned s k) ≡ true) km some) (subst (λ o. meaning.complemented o ≡ outside) xm out)
turned_out s x (as_none ks) some out = nothing_written (subst (λ k. is_some (written.turned s k) ≡ true) ks some)

not_out : (s : Ty) (x : Value6) → Plain s x → is_some (write_unary u.Not s) ≡ true → typed_unary u.Not x ≡ outside → ⊥
not_out _ _ (a_boolean c) some out = given (v.Boolean (not c)) out
not_out _ _ (a_byte m h) some out = turned_out _ _ (counts _ _ (a_byte m h)) some out
not_out _ _ (an_integer z h) some out = turned_out _ _ (counts _ _ (an_integer z h)) some out
not_out _ _ (a_long z h) some out = turned_out _ _ (counts _ _ (a_long z h)) some out
not_out _ _ (a_currency z h) some out = turned_out _ _ (counts _ _ (a_currency z h)) some out
not_out _ _ (a_text c) some out = turned_out _ _ (counts _ _ (a_text c)) some out

pub unary_out : (o : UnOp) (s : Ty) (x : Value6) → Plain s x → is_some (write_unary o s) ≡ true → typed_unary o x ≡ outside → ⊥
unary_out u.Neg s x p some out = minus_out s x (counts s x p) some out
unary_out u.Not s x p some out = not_out s x p some out

to_boolean_out : (s : Ty) (x : Value6) → Plain s x → is_some (write_conversion s types.boolean) ≡ true → coerce x types.boolean ≡ outside → ⊥
to_boolean_out _ _ (a_boolean c) some out = given {A = Value6} _ out
to_boolean_out _ _ (a_byte m h) some out = given {A = Value6} _ out
to_boolean_out _ _ (an_integer z h) some out = given {A = Value6} _ out
to_boolean_out _ _ (a_long z h) some out = given {A = Value6} _ out
to_boolean_out _ _ (a_currency z h) some out = given {A = Value6} _ out
to_boolean_out _ _ (a_text c) some out = nothing_written some

to_number_out : (k : NumberKind) (s : Ty) (x : Value6) → Plain s x → is_some (written.to_kind k s (kind_of s)) ≡ true → meaning.to_number k x ≡ outside → ⊥
to_number_out k _ _ (a_boolean c) some out = given {A = Value6} _ out
to_number_out k _ _ (a_byte m h) some out = checked_never k (amount_in k (of_kind kinds.Byte (pos m))) out
to_number_out k _ _ (an_integer z h) some out = checked_never k (amount_in k (of_kind kinds.Integer z)) out
to_number_out k _ _ (a_long z h) some out = checked_never k (amount_in k (of_kind kinds.Long z)) out
to_number_out k _ _ (a_currency z h) some out = checked_never k (amount_in k (of_kind kinds.Currency z)) out
to_number_out k _ _ (a_text c) some out = nothing_written some

to_text_out : (s : Ty) (x : Value6) → Plain s x → coerce x types.str ≡ outside → ⊥
to_text_out s x p out =
    let h : HasText x = has_text s x p in
    given (v.Str h.0) (subst (λ o. then_answer o (λ units. gives (v.Str units)) ≡ outside) h.1 out)

pub conversion_out : (s t : Ty) (x : Value6) → covers_type t ≡ true → Plain s x → is_some (write_conversion s t) ≡ true → coerce x t ≡ outside → ⊥
conversion_out s types.boolean x c p some out = to_boolean_out s x p some out
conversion_out s types.byte x c p some out = to_number_out kinds.Byte s x p some out
conversion_out s types.integer x c p some out = to_number_out kinds.Integer s x p some out
conversion_out s types.long x c p some out = to_number_out kinds.Long s x p some out
conversion_out s types.currency x c p some out = to_number_out kinds.Currency s x p some out
conversion_out s types.str x c p some out = to_text_out s x p out
conversion_out s _ x c p some out = true≢false (sym c)
