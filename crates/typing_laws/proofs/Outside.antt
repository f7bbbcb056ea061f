-- At an edge the row is outside.
use Rattle.std.proofs.Common.{◌≡◌, refl, sym, ap, ◌∙◌, ℕ, ℤ, pos, negsuc, Bool, true, false, cond, List, ◌++◌, true≢false, Some}
use Rattle.std.proofs.lemmas.Bool.Decides.{Decides-int_eq}
use Rattle.std.specs.Prelude.{int_div, int_rem}
use Rattle.std.specs.Ordering.{int_eq}
use Rattle.vb_tree.specs.BoundTree.{Ty}
use Rattle.vb_tree.specs.declared.bound.Op6.TheVariants.{Typed}
use Rattle.vb_tree.specs.declared.expression.BinOp.{BinOp}
use Rattle.vb_tree.specs.declared.expression.BinOp.TheVariants as b
use Rattle.vb_tree.specs.declared.value.Value6.{Value6}
use Rattle.vb_tree.specs.declared.value.Value6.TheVariants as v
use Rattle.vb6_meaning.specs.Answers.{Answer, gives, raises, outside, then_answer}
use Rattle.vb6_meaning.specs.declared.number.Number.{Number}
use Rattle.vb6_meaning.specs.declared.number.NumberKind.{NumberKind}
use Rattle.vb6_meaning.specs.declared.number.NumberKind.TheVariants as kinds
use Rattle.vb6_meaning.specs.Kinds.{fits, is_byte, least, value, whole, wider}
use Rattle.vb6_meaning.specs.Numbers.{number_of, amount_in}
use Rattle.vb6_meaning.specs.NumberTexts.{text_of}
use Rattle.vb6_meaning.specs.Values as meaning
use Rattle.vb6_meaning.specs.Values.{common_whole, converted, divided, operate, text, typed}
use Rattle.vb6_run.specs.Store.{Memory}
use Rattle.run_matches.specs.CoveredVariables.{covers_type}
use Rattle.run_matches.specs.Typed.{IsScalar}
use Rattle.typing_laws.specs.Edges.{IsEdge, least_by_minus_one, joined_too_long, sum_too_long, divides, IsTooLong}
use Rattle.typing_laws.proofs.Places.{some_is}
use Rattle.typing_laws.proofs.Plain.{Plain, a_boolean, a_byte, an_integer, a_long, a_currency, a_text, plain_of}

-- ---- texts

long_outside : (s : List ℕ) → IsTooLong s → text s ≡ outside
long_outside s h = ap (λ t. cond t (gives (v.Str s)) outside) h

joined_outside : (x y : Value6) (s t : List ℕ) → text_of x ≡ gives s → text_of y ≡ gives t → IsTooLong (s ++ t) → meaning.joined x y ≡ outside
joined_outside x y s t first second h =
    ap (λ o. then_answer o (λ a. then_answer (text_of y) (λ c. text (a ++ c)))) first ∙ ap (λ o. then_answer o (λ c. text (s ++ c))) second
    ∙ long_outside (s ++ t) h

sum_outside : (x y : Value6) (s t : List ℕ) → x ≡ v.Str s → y ≡ v.Str t → IsTooLong (s ++ t) → meaning.added x y ≡ outside
sum_outside x y s t first second h = ap (λ z. meaning.added z y) first ∙ ap (λ z. meaning.added (v.Str s) z) second ∙ long_outside (s ++ t) h

-- ---- whole numbers

least_fits : (k : NumberKind) → fits k (least k) ≡ true
least_fits kinds.Byte = refl
least_fits kinds.Integer = refl
least_fits kinds.Long = refl
least_fits kinds.Currency = refl

minus_fits : (k : NumberKind) → is_byte k ≡ false → fits k (negsuc 0) ≡ true
minus_fits kinds.Byte h = absurd (true≢false h)
minus_fits kinds.Integer h = refl
minus_fits kinds.Long h = refl
minus_fits kinds.Currency h = refl

-- where Bytes are divided, both are Bytes
second_byte : (k l : NumberKind) → is_byte (whole (wider k l)) ≡ true → l ≡ kinds.Byte
second_byte kinds.Byte kinds.Byte h = refl
second_byte kinds.Integer kinds.Byte h = refl
second_byte kinds.Long kinds.Byte h = refl
second_byte kinds.Currency kinds.Byte h = refl
second_byte kinds.Byte kinds.Integer h = absurd (true≢false (sym h))
second_byte kinds.Byte kinds.Long h = absurd (true≢false (sym h))
second_byte kinds.Byte kinds.Currency h = absurd (true≢false (sym h))
second_byte kinds.Integer kinds.Integer h = absurd (true≢false (sym h))
second_byte kinds.Integer kinds.Long h = absurd (true≢false (sym h))
second_byte kinds.Integer kinds.Currency h = absurd (true≢false (sym h))
second_byte kinds.Long kinds.Integer h = absurd (true≢false (sym h))
second_byte kinds.Long kinds.Long h = absurd (true≢false (sym h))
second_byte kinds.Long kinds.Currency h = absurd (true≢false (sym h))
second_byte kinds.Currency kinds.Integer h = absurd (true≢false (sym h))
second_byte kinds.Currency kinds.Long h = absurd (true≢false (sym h))
second_byte kinds.Currency kinds.Currency h = absurd (true≢false (sym h))

-- a Byte isn't -1
no_minus : (k : NumberKind) (t : Ty) (y : Value6) (n : Number) → Plain t y → number_of y ≡ Some n → n.kind ≡ kinds.Byte → is_byte k ≡ true
    → int_eq (amount_in k n) (negsuc 0) ≡ true → ⊥
no_minus k _ _ n (a_boolean true) is same byte h =
    true≢false (sym (ap (λ (m : Number). is_byte m.kind) (some_is is) ∙ ap is_byte same))
no_minus k _ _ n (a_boolean false) is same byte h =
    true≢false (sym (ap (λ (m : Number). is_byte m.kind) (some_is is) ∙ ap is_byte same))
no_minus k _ _ n (a_byte m f) is same byte h = by k byte (ap (λ (z : Number). int_eq (amount_in k z) (negsuc 0)) (some_is is) ∙ h)
  where
    by : (k : NumberKind) → is_byte k ≡ true → int_eq (amount_in k (record { kind = kinds.Byte; amount = pos m })) (negsuc 0) ≡ true → ⊥
    by kinds.Byte byte h = true≢false (sym h)
    by kinds.Integer byte h = true≢false (sym byte)
    by kinds.Long byte h = true≢false (sym byte)
    by kinds.Currency byte h = true≢false (sym byte)
no_minus k _ _ n (an_integer z f) is same byte h = true≢false (sym (ap (λ (m : Number). is_byte m.kind) (some_is is) ∙ ap is_byte same))
no_minus k _ _ n (a_long z f) is same byte h = true≢false (sym (ap (λ (m : Number). is_byte m.kind) (some_is is) ∙ ap is_byte same))
no_minus k _ _ n (a_currency z f) is same byte h = true≢false (sym (ap (λ (m : Number). is_byte m.kind) (some_is is) ∙ ap is_byte same))
no_minus k _ _ n (a_text u) is same byte h = absurd (cc is)

not_byte : (m n : Number) (t : Ty) (y : Value6) → Plain t y → number_of y ≡ Some n → int_eq (amount_in (common_whole m n) n) (negsuc 0) ≡ true
    → is_byte (common_whole m n) ≡ false
not_byte m n t y p is h = by (is_byte (common_whole m n)) refl
  where
    by : (c : Bool) → is_byte (common_whole m n) ≡ c → is_byte (common_whole m n) ≡ false
    by true e = absurd (no_minus (common_whole m n) t y n p is (second_byte m.kind n.kind e) e h)
    by false e = e

divided_outside : (by : ℤ → ℤ → ℤ) (k : NumberKind) (p q : ℤ) → p ≡ least k → q ≡ negsuc 0 → divided by k p q ≡ outside
divided_outside by k p q first second =
    ap (λ z. divided by k p z) second
    ∙ ap (λ t. cond t outside (gives (value k (by p (negsuc 0))))) ((Decides-int_eq p (least k)).1 first)

quotient_outside : (by : ℤ → ℤ → ℤ) (m n : Number) (t : Ty) (y : Value6) → Plain t y → number_of y ≡ Some n
    → int_eq (amount_in (common_whole m n) m) (least (common_whole m n)) ≡ true → int_eq (amount_in (common_whole m n) n) (negsuc 0) ≡ true
    → converted (common_whole m n) m n (divided by (common_whole m n)) ≡ outside
quotient_outside by m n t y p is first second =
    let k = common_whole m n in
    let a : amount_in k m ≡ least k = (Decides-int_eq (amount_in k m) (least k)).0 first in
    let c : amount_in k n ≡ negsuc 0 = (Decides-int_eq (amount_in k n) (negsuc 0)).0 second in
    let one : fits k (amount_in k m) ≡ true = ap (fits k) a ∙ least_fits k in
    let two : fits k (amount_in k n) ≡ true = ap (fits k) c ∙ minus_fits k (not_byte m n t y p is second) in
    ap (λ u. then_answer (cond u (gives (amount_in k m)) (raises 6)) (λ p. then_answer (cond (fits k (amount_in k n)) (gives (amount_in k n)) (raises 6)) (λ q. divided by k p q))) one
    ∙ ap (λ u. then_answer (cond u (gives (amount_in k n)) (raises 6)) (λ q. divided by k (amount_in k m) q)) two
    ∙ divided_outside by k (amount_in k m) (amount_in k n) a c

row_outside : (row : Number → Number → Answer Value6) (x y : Value6) (m n : Number) → number_of x ≡ Some m → number_of y ≡ Some n → row m n ≡ outside
    → meaning.on_numbers row (number_of x) (number_of y) ≡ outside
row_outside row x y m n first second h =
    ap (λ o. meaning.on_numbers row o (number_of y)) first ∙ ap (λ o. meaning.on_numbers row (Some m) o) second ∙ h

division_outside : (op : BinOp) (x y : Value6) (m n : Number) (t : Ty) → Plain t y → divides op ≡ true → number_of x ≡ Some m → number_of y ≡ Some n
    → int_eq (amount_in (common_whole m n) m) (least (common_whole m n)) ≡ true → int_eq (amount_in (common_whole m n) n) (negsuc 0) ≡ true
    → typed op x y ≡ outside
division_outside b.IntDiv x y m n t p is first second h i = row_outside meaning.quotient x y m n first second (quotient_outside int_div m n t y p second h i)
division_outside b.Mod x y m n t p is first second h i = row_outside meaning.remainder x y m n first second (quotient_outside int_rem m n t y p second h i)
division_outside _ x y m n t p is first second h i = absurd (true≢false (sym is))

pub edge_is_outside : (w : Memory) (op : BinOp) (t : Ty) (x y : Value6) → covers_type t ≡ true → IsScalar w t y → IsEdge op x y
    → operate (Typed op) x y ≡ outside
edge_is_outside w op t x y covers scalar (least_by_minus_one m n is first second h i) =
    division_outside op x y m n t (plain_of w t y covers scalar) is first second h i
edge_is_outside w op t x y covers scalar (joined_too_long s c is first second h) =
    ap (λ o. typed o x y) is ∙ joined_outside x y s c first second h
edge_is_outside w op t x y covers scalar (sum_too_long s c is first second h) =
    ap (λ o. typed o x y) is ∙ sum_outside x y s c first second h
