-- Operators that join texts, the texts of values, and Is.
use Rattle.std.proofs.Common.{◌≡◌, ℕ, ◌^◌, arith, refl, sym, ◌∙◌, ap, ap₂, subst, Bool, true, false, cond, Option, Some, ℤ, pos}
use Rattle.std.specs.Prelude.{nat_le, if◌then◌else◌}
use Rattle.vb_tree.specs.BoundTree as types
use Rattle.vb_tree.specs.BoundTree.{Ty}
use Rattle.vb_tree.specs.declared.value.Value6.{Value6}
use Rattle.vb6_meaning.specs.Answers.{Answer, gives, outside, then_answer}
use Rattle.vb6_meaning.specs.Values as six
use Rattle.net_tree.specs.declared.expression.NetBin.TheVariants as op
use Rattle.net_tree.specs.declared.expression.OpN.TheVariants.{Bin}
use Rattle.net_meaning.specs.declared.value.ValueN.{ValueN}
use Rattle.net_meaning.specs.declared.value.ValueN.TheVariants as n
use Rattle.net_meaning.specs.Operators.{operate_net}
use Rattle.net_meaning.specs.ValueMatch.{Matches, IsTenThousandths, booleans, bytes, integers, longs, currencies, texts, empty_text, fixed_texts, no_object, no_object_of, nothing, objects, objects_of, in_variant_empty, in_variant_boolean, in_variant_byte, in_variant_integer, in_variant_long, in_variant_currency, in_variant_text}
use Rattle.std.proofs.Common.{List, [], ◌++◌, length, ◌⊎◌, inl, inr}
use Rattle.std.specs.Fmt.{signed_decimal}
use Rattle.std.specs.Prelude.{nat_lt, nat_eq}
use Rattle.std.proofs.lemmas.Bool.Decides.{nat_tests}
use Rattle.vb_tree.specs.declared.value.Value6.TheVariants as v
use Rattle.vb6_meaning.specs.Kinds.{checked_value}
use Rattle.vb6_meaning.specs.NumberTexts.{text_of, boolean_text, currency_text}
use Rattle.net_tree.specs.Types as net
use Rattle.net_tree.specs.declared.expression.CastWord.TheVariants as word
use Rattle.net_meaning.specs.Conversions.{coerce_net}
use Rattle.net_meaning.specs.Support as support
use Rattle.net_meaning.specs.WrittenRows as rows
use Rattle.net_meaning.specs.WrittenRows.{Row, Written, evaluate, operand_a, operand_b, cast, call, binary, as_text, joined_rows, arithmetic, written}
use Rattle.net_meaning.specs.SameValues.{Agrees, IsSame, IsOneToOne, is_typed}
use Rattle.meaning_laws.proofs.Typed.{numbers_same, outside_same}
use Rattle.meaning_laws.proofs.Arithmetic.{sum_same}
use Rattle.meaning_laws.proofs.Comparison.{IsText, str_text, no_text}

-- an operand that has a text, and what is written for it
pub record IsTextOperand (s : Ty) (a : Value6) (r : Row) (p q : ValueN) : Type 0 where
  pub units : List ℕ
  pub of_value : text_of a ≡ gives units
  pub row : Row
  pub written_as : as_text s r ≡ Some row
  pub result : ValueN
  pub given : evaluate row p q ≡ gives result
  pub is : IsText units result

currency_given : (z m : ℤ) (s : ℕ) → IsTenThousandths z m s → support.cur_text (n.Decimal m s) ≡ gives (n.Str (currency_text z))
currency_given z m s d =
    let small : nat_le s 4 ≡ true = (let le = d.0 in grind (arith, nat_tests)) in
    ap₂ (λ b w. if b then gives (n.Str (currency_text w)) else outside) small d.1

pub textual : (are_same : ℕ → ℕ → Bool) (s : Ty) (a : Value6) (x : ValueN) → is_typed s ≡ true → Matches are_same s a x
    → (r : Row) (p q : ValueN) → evaluate r p q ≡ gives x → IsTextOperand s a r p q ⊎ (text_of a ≡ outside)
textual are_same _ _ _ h (booleans b) r p q e = inl (record { units = boolean_text b; of_value = refl; row = cast word.CStr r; written_as = refl; result = n.Str (boolean_text b); given = ap (λ a. then_answer a (λ v. coerce_net v net.str)) e; is = str_text (boolean_text b) })
textual are_same _ _ _ h (bytes l g) r p q e = inl (record { units = signed_decimal (pos l); of_value = refl; row = cast word.CStr r; written_as = refl; result = n.Str (signed_decimal (pos l)); given = ap (λ a. then_answer a (λ v. coerce_net v net.str)) e; is = str_text (signed_decimal (pos l)) })
textual are_same _ _ _ h (integers w g) r p q e = inl (record { units = signed_decimal w; of_value = refl; row = cast word.CStr r; written_as = refl; result = n.Str (signed_decimal w); given = ap (λ a. then_answer a (λ v. coerce_net v net.str)) e; is = str_text (signed_decimal w) })
textual are_same _ _ _ h (longs w g) r p q e = inl (record { units = signed_decimal w; of_value = refl; row = cast word.CStr r; written_as = refl; result = n.Str (signed_decimal w); given = ap (λ a. then_answer a (λ v. coerce_net v net.str)) e; is = str_text (signed_decimal w) })
textual are_same _ _ _ h (currencies w m c g d) r p q e = inl (record { units = currency_text w; of_value = refl; row = call rows.cur_text r; written_as = refl; result = n.Str (currency_text w); given = ap (λ a. then_answer a support.cur_text) e ∙ currency_given w m c d; is = str_text (currency_text w) })
textual are_same _ _ _ h (texts units) r p q e = inl (record { units = units; of_value = refl; row = r; written_as = refl; result = n.Str units; given = e; is = str_text units })
textual are_same _ _ _ h empty_text r p q e = inl (record { units = []; of_value = refl; row = r; written_as = refl; result = n.Nothing; given = e; is = no_text })
textual are_same _ _ _ h (fixed_texts units) r p q e = inl (record { units = units; of_value = refl; row = r; written_as = refl; result = n.Str units; given = e; is = str_text units })
textual are_same _ _ _ h no_object r p q e = inr refl
textual are_same _ _ _ h (no_object_of k) r p q e = inr refl
textual are_same _ _ _ h nothing r p q e = inr refl
textual are_same _ _ _ h (objects i j g) r p q e = inr refl
textual are_same _ _ _ h (objects_of k i j g) r p q e = inr refl
textual are_same _ _ _ h in_variant_empty r p q e = cc
textual are_same _ _ _ h (in_variant_boolean c) r p q e = cc
textual are_same _ _ _ h (in_variant_byte l g) r p q e = cc
textual are_same _ _ _ h (in_variant_integer w g) r p q e = cc
textual are_same _ _ _ h (in_variant_long w g) r p q e = cc
textual are_same _ _ _ h (in_variant_currency w m c g d) r p q e = cc
textual are_same _ _ _ h (in_variant_text more) r p q e = cc

concat : (s t : List ℕ) (v u : ValueN) → IsText s v → IsText t u → operate_net (Bin op.Concat) v u ≡ gives (n.Str (s ++ t))
concat _ _ _ _ (str_text s) (str_text t) = refl
concat _ _ _ _ (str_text s) no_text = refl
concat _ _ _ _ no_text (str_text t) = refl
concat _ _ _ _ no_text no_text = refl

-- a text that isn't too long
text_given : (are_same : ℕ → ℕ → Bool) (units : List ℕ) (b : Bool) (q : Answer ValueN) → q ≡ gives (n.Str units)
    → Agrees (Matches are_same types.str) (cond b (gives (v.Str units)) outside) q
text_given are_same units true q e = (n.Str units, e, texts units)
text_given are_same units false q e = tt

joined_by_parts : (are_same : ℕ → ℕ → Bool) (A B : Answer (List ℕ)) (i j : Option Row) (s t : List ℕ) (r r' : Row) (x y v u : ValueN)
    → A ≡ gives s → B ≡ gives t → i ≡ Some r → j ≡ Some r' → evaluate r x y ≡ gives v → evaluate r' x y ≡ gives u → IsText s v → IsText t u
    → IsSame are_same (then_answer A (λ s. then_answer B (λ t. six.text (s ++ t)))) (joined_rows i j) x y
joined_by_parts are_same A B i j s t r r' x y v u a b c d e f g h =
    simp (a, b, c, d) (text_given are_same (s ++ t) (nat_lt (length (s ++ t)) (2 ^ 31)) (evaluate (binary op.Concat r r') x y)
    (ap₂ (λ p q. then_answer p (λ v. then_answer q (λ w. operate_net (Bin op.Concat) v w))) e f ∙ concat s t v u g h))

second_outside : (are_same : ℕ → ℕ → Bool) (A B : Answer (List ℕ)) (w : Option Written) (s : List ℕ) (x y : ValueN) → A ≡ gives s → B ≡ outside
    → IsSame are_same (then_answer A (λ s. then_answer B (λ t. six.text (s ++ t)))) w x y
second_outside are_same A B w s x y a b = simp (a, b) (outside_same are_same w x y)

first_outside : (are_same : ℕ → ℕ → Bool) (A B : Answer (List ℕ)) (w : Option Written) (x y : ValueN) → A ≡ outside
    → IsSame are_same (then_answer A (λ s. then_answer B (λ t. six.text (s ++ t)))) w x y
first_outside are_same A B w x y a = simp a (outside_same are_same w x y)

pub joined_same : (are_same : ℕ → ℕ → Bool) (s t : Ty) (a b : Value6) (x y : ValueN) → is_typed s ≡ true → is_typed t ≡ true → Matches are_same s a x → Matches are_same t b y
    → IsSame are_same (six.joined a b) (rows.joined s t) x y
joined_same are_same s t a b x y hs ht ma mb = elim (textual are_same s a x hs ma operand_a x y refl) [
  | inl p ↦ elim (textual are_same t b y ht mb operand_b x y refl) [
    | inl q ↦ joined_by_parts are_same (text_of a) (text_of b) (as_text s operand_a) (as_text t operand_b) p.units q.units p.row q.row x y p.result q.result
        p.of_value q.of_value p.written_as q.written_as p.given q.given p.is q.is
    | inr e ↦ second_outside are_same (text_of a) (text_of b) (rows.joined s t) p.units x y p.of_value e
  ]
  | inr e ↦ first_outside are_same (text_of a) (text_of b) (rows.joined s t) x y e
]

-- `+` on two texts

text_beside : (are_same : ℕ → ℕ → Bool) (s : Ty) (units : List ℕ) (x : ValueN) (t : Ty) (b : Value6) (y : ValueN) → rows.is_text s ≡ true → IsText units x → is_typed t ≡ true → Matches are_same t b y
    → IsSame are_same (six.added (v.Str units) b) (rows.added s t) x y
text_beside are_same s units x _ _ _ hs i ht (texts more) = simp hs (text_given are_same (units ++ more) (nat_lt (length (units ++ more)) (2 ^ 31)) (operate_net (Bin op.Concat) x (n.Str more)) (concat units more x (n.Str more) i (str_text more)))
text_beside are_same s units x _ _ _ hs i ht empty_text = simp hs (text_given are_same (units ++ []) (nat_lt (length (units ++ [])) (2 ^ 31)) (operate_net (Bin op.Concat) x n.Nothing) (concat units [] x n.Nothing i no_text))
text_beside are_same s units x _ _ _ hs i ht (fixed_texts more) = simp hs (text_given are_same (units ++ more) (nat_lt (length (units ++ more)) (2 ^ 31)) (operate_net (Bin op.Concat) x (n.Str more)) (concat units more x (n.Str more) i (str_text more)))
text_beside are_same s units x _ _ _ hs i ht (booleans b) = outside_same are_same (rows.added s types.boolean) x (n.Boolean b)
text_beside are_same s units x _ _ _ hs i ht (bytes l h) = outside_same are_same (rows.added s types.byte) x (n.Byte l)
text_beside are_same s units x _ _ _ hs i ht (integers w h) = outside_same are_same (rows.added s types.integer) x (n.Short w)
text_beside are_same s units x _ _ _ hs i ht (longs w h) = outside_same are_same (rows.added s types.long) x (n.Integer w)
text_beside are_same s units x _ _ _ hs i ht (currencies w m c h d) = outside_same are_same (rows.added s types.currency) x (n.Decimal m c)
text_beside are_same s units x _ _ _ hs i ht no_object = outside_same are_same (rows.added s types.object) x n.Nothing
text_beside are_same s units x _ _ _ hs i ht (no_object_of k) = outside_same are_same (rows.added s (types.class k)) x n.Nothing
text_beside are_same s units x _ _ _ hs i ht nothing = outside_same are_same (rows.added s types.nothing) x n.Nothing
text_beside are_same s units x _ _ _ hs i ht (objects d e h) = outside_same are_same (rows.added s types.object) x (n.Object e)
text_beside are_same s units x _ _ _ hs i ht (objects_of k d e h) = outside_same are_same (rows.added s (types.class k)) x (n.Object e)
text_beside are_same s units x _ _ _ hs i ht in_variant_empty = cc
text_beside are_same s units x _ _ _ hs i ht (in_variant_boolean c) = cc
text_beside are_same s units x _ _ _ hs i ht (in_variant_byte l h) = cc
text_beside are_same s units x _ _ _ hs i ht (in_variant_integer w h) = cc
text_beside are_same s units x _ _ _ hs i ht (in_variant_long w h) = cc
text_beside are_same s units x _ _ _ hs i ht (in_variant_currency w m c h d) = cc
text_beside are_same s units x _ _ _ hs i ht (in_variant_text more) = cc

pub added_same : (are_same : ℕ → ℕ → Bool) (s t : Ty) (a b : Value6) (x y : ValueN) → is_typed s ≡ true → is_typed t ≡ true → Matches are_same s a x → Matches are_same t b y
    → IsSame are_same (six.added a b) (rows.added s t) x y
added_same are_same _ t _ b _ y hs ht (texts units) mb = text_beside are_same types.str units (n.Str units) t b y refl (str_text units) ht mb
added_same are_same _ t _ b _ y hs ht empty_text mb = text_beside are_same types.str [] n.Nothing t b y refl no_text ht mb
added_same are_same _ t _ b _ y hs ht (fixed_texts units) mb = text_beside are_same (types.fixed (length units)) units (n.Str units) t b y refl (str_text units) ht mb
added_same are_same _ t _ b _ y hs ht (booleans true) mb = numbers_same are_same (six.sum checked_value) (arithmetic op.Add) _ t _ b _ y hs ht (booleans true) mb (sum_same are_same _ t _ y)
added_same are_same _ t _ b _ y hs ht (booleans false) mb = numbers_same are_same (six.sum checked_value) (arithmetic op.Add) _ t _ b _ y hs ht (booleans false) mb (sum_same are_same _ t _ y)
added_same are_same _ t _ b _ y hs ht (bytes l h) mb = numbers_same are_same (six.sum checked_value) (arithmetic op.Add) _ t _ b _ y hs ht (bytes l h) mb (sum_same are_same _ t _ y)
added_same are_same _ t _ b _ y hs ht (integers w h) mb = numbers_same are_same (six.sum checked_value) (arithmetic op.Add) _ t _ b _ y hs ht (integers w h) mb (sum_same are_same _ t _ y)
added_same are_same _ t _ b _ y hs ht (longs w h) mb = numbers_same are_same (six.sum checked_value) (arithmetic op.Add) _ t _ b _ y hs ht (longs w h) mb (sum_same are_same _ t _ y)
added_same are_same _ t _ b _ y hs ht (currencies w m c h d) mb = numbers_same are_same (six.sum checked_value) (arithmetic op.Add) _ t _ b _ y hs ht (currencies w m c h d) mb (sum_same are_same _ t _ y)
added_same are_same _ t _ b _ y hs ht no_object mb = numbers_same are_same (six.sum checked_value) (arithmetic op.Add) _ t _ b _ y hs ht no_object mb (sum_same are_same _ t _ y)
added_same are_same _ t _ b _ y hs ht (no_object_of k) mb = numbers_same are_same (six.sum checked_value) (arithmetic op.Add) _ t _ b _ y hs ht (no_object_of k) mb (sum_same are_same _ t _ y)
added_same are_same _ t _ b _ y hs ht nothing mb = numbers_same are_same (six.sum checked_value) (arithmetic op.Add) _ t _ b _ y hs ht nothing mb (sum_same are_same _ t _ y)
added_same are_same _ t _ b _ y hs ht (objects d e h) mb = numbers_same are_same (six.sum checked_value) (arithmetic op.Add) _ t _ b _ y hs ht (objects d e h) mb (sum_same are_same _ t _ y)
added_same are_same _ t _ b _ y hs ht (objects_of k d e h) mb = numbers_same are_same (six.sum checked_value) (arithmetic op.Add) _ t _ b _ y hs ht (objects_of k d e h) mb (sum_same are_same _ t _ y)
added_same are_same _ t _ b _ y hs ht in_variant_empty mb = cc
added_same are_same _ t _ b _ y hs ht (in_variant_boolean c) mb = cc
added_same are_same _ t _ b _ y hs ht (in_variant_byte l h) mb = cc
added_same are_same _ t _ b _ y hs ht (in_variant_integer w h) mb = cc
added_same are_same _ t _ b _ y hs ht (in_variant_long w h) mb = cc
added_same are_same _ t _ b _ y hs ht (in_variant_currency w m c h d) mb = cc
added_same are_same _ t _ b _ y hs ht (in_variant_text more) mb = cc

-- Is

same_numbers : (are_same : ℕ → ℕ → Bool) → IsOneToOne are_same → (i j k l : ℕ) → are_same i k ≡ true → are_same j l ≡ true → nat_eq k l ≡ nat_eq i j
same_numbers are_same one i j k l g h = by_test (nat_eq i j) (nat_eq k l) refl refl
  where
    by_test : (a b : Bool) → nat_eq i j ≡ a → nat_eq k l ≡ b → b ≡ a
    by_test true true e f = refl
    by_test false false e f = refl
    by_test true false e f =
        let same : i ≡ j = grind (arith, nat_tests) in
        let P : ℕ → Type 0 = λ m. are_same m l ≡ true in
        let other = one.0 i k l g (subst P (sym same) h) in grind (arith, nat_tests, other)
    by_test false true e f =
        let same : k ≡ l = grind (arith, nat_tests) in
        let P : ℕ → Type 0 = λ m. are_same j m ≡ true in
        let other = one.1 i j k g (subst P (sym same) h) in grind (arith, nat_tests, other)

pub same_object_same : (are_same : ℕ → ℕ → Bool) → IsOneToOne are_same → (s t : Ty) (a b : Value6) (x y : ValueN) → is_typed s ≡ true → is_typed t ≡ true
    → Matches are_same s a x → Matches are_same t b y → IsSame are_same (six.same_object a b) (rows.same_object s t) x y
same_object_same are_same one _ _ _ _ _ _ hs ht no_object no_object = (n.Boolean true, refl, booleans true)
same_object_same are_same one _ _ _ _ _ _ hs ht no_object (no_object_of l) = (n.Boolean true, refl, booleans true)
same_object_same are_same one _ _ _ _ _ _ hs ht no_object nothing = (n.Boolean true, refl, booleans true)
same_object_same are_same one _ _ _ _ _ _ hs ht no_object (objects f g h) = (n.Boolean false, refl, booleans false)
same_object_same are_same one _ _ _ _ _ _ hs ht no_object (objects_of l f g h) = (n.Boolean false, refl, booleans false)
same_object_same are_same one _ _ _ _ _ _ hs ht no_object (booleans b) = outside_same are_same (rows.same_object types.object types.boolean) n.Nothing (n.Boolean b)
same_object_same are_same one _ _ _ _ _ _ hs ht no_object (bytes l h) = outside_same are_same (rows.same_object types.object types.byte) n.Nothing (n.Byte l)
same_object_same are_same one _ _ _ _ _ _ hs ht no_object (integers w h) = outside_same are_same (rows.same_object types.object types.integer) n.Nothing (n.Short w)
same_object_same are_same one _ _ _ _ _ _ hs ht no_object (longs w h) = outside_same are_same (rows.same_object types.object types.long) n.Nothing (n.Integer w)
same_object_same are_same one _ _ _ _ _ _ hs ht no_object (currencies w m c h d) = outside_same are_same (rows.same_object types.object types.currency) n.Nothing (n.Decimal m c)
same_object_same are_same one _ _ _ _ _ _ hs ht no_object (texts units) = outside_same are_same (rows.same_object types.object types.str) n.Nothing (n.Str units)
same_object_same are_same one _ _ _ _ _ _ hs ht no_object empty_text = outside_same are_same (rows.same_object types.object types.str) n.Nothing n.Nothing
same_object_same are_same one _ _ _ _ _ _ hs ht no_object (fixed_texts units) = outside_same are_same (rows.same_object types.object (types.fixed (length units))) n.Nothing (n.Str units)
same_object_same are_same one _ _ _ _ _ _ hs ht no_object in_variant_empty = cc
same_object_same are_same one _ _ _ _ _ _ hs ht no_object (in_variant_boolean c) = cc
same_object_same are_same one _ _ _ _ _ _ hs ht no_object (in_variant_byte l h) = cc
same_object_same are_same one _ _ _ _ _ _ hs ht no_object (in_variant_integer w h) = cc
same_object_same are_same one _ _ _ _ _ _ hs ht no_object (in_variant_long w h) = cc
same_object_same are_same one _ _ _ _ _ _ hs ht no_object (in_variant_currency w m c h d) = cc
same_object_same are_same one _ _ _ _ _ _ hs ht no_object (in_variant_text more) = cc
same_object_same are_same one _ _ _ _ _ _ hs ht (no_object_of k) no_object = (n.Boolean true, refl, booleans true)
same_object_same are_same one _ _ _ _ _ _ hs ht (no_object_of k) (no_object_of l) = (n.Boolean true, refl, booleans true)
same_object_same are_same one _ _ _ _ _ _ hs ht (no_object_of k) nothing = (n.Boolean true, refl, booleans true)
same_object_same are_same one _ _ _ _ _ _ hs ht (no_object_of k) (objects f g h) = (n.Boolean false, refl, booleans false)
same_object_same are_same one _ _ _ _ _ _ hs ht (no_object_of k) (objects_of l f g h) = (n.Boolean false, refl, booleans false)
same_object_same are_same one _ _ _ _ _ _ hs ht (no_object_of k) (booleans b) = outside_same are_same (rows.same_object (types.class k) types.boolean) n.Nothing (n.Boolean b)
same_object_same are_same one _ _ _ _ _ _ hs ht (no_object_of k) (bytes l h) = outside_same are_same (rows.same_object (types.class k) types.byte) n.Nothing (n.Byte l)
same_object_same are_same one _ _ _ _ _ _ hs ht (no_object_of k) (integers w h) = outside_same are_same (rows.same_object (types.class k) types.integer) n.Nothing (n.Short w)
same_object_same are_same one _ _ _ _ _ _ hs ht (no_object_of k) (longs w h) = outside_same are_same (rows.same_object (types.class k) types.long) n.Nothing (n.Integer w)
same_object_same are_same one _ _ _ _ _ _ hs ht (no_object_of k) (currencies w m c h d) = outside_same are_same (rows.same_object (types.class k) types.currency) n.Nothing (n.Decimal m c)
same_object_same are_same one _ _ _ _ _ _ hs ht (no_object_of k) (texts units) = outside_same are_same (rows.same_object (types.class k) types.str) n.Nothing (n.Str units)
same_object_same are_same one _ _ _ _ _ _ hs ht (no_object_of k) empty_text = outside_same are_same (rows.same_object (types.class k) types.str) n.Nothing n.Nothing
same_object_same are_same one _ _ _ _ _ _ hs ht (no_object_of k) (fixed_texts units) = outside_same are_same (rows.same_object (types.class k) (types.fixed (length units))) n.Nothing (n.Str units)
same_object_same are_same one _ _ _ _ _ _ hs ht (no_object_of k) in_variant_empty = cc
same_object_same are_same one _ _ _ _ _ _ hs ht (no_object_of k) (in_variant_boolean c) = cc
same_object_same are_same one _ _ _ _ _ _ hs ht (no_object_of k) (in_variant_byte l h) = cc
same_object_same are_same one _ _ _ _ _ _ hs ht (no_object_of k) (in_variant_integer w h) = cc
same_object_same are_same one _ _ _ _ _ _ hs ht (no_object_of k) (in_variant_long w h) = cc
same_object_same are_same one _ _ _ _ _ _ hs ht (no_object_of k) (in_variant_currency w m c h d) = cc
same_object_same are_same one _ _ _ _ _ _ hs ht (no_object_of k) (in_variant_text more) = cc
same_object_same are_same one _ _ _ _ _ _ hs ht nothing no_object = (n.Boolean true, refl, booleans true)
same_object_same are_same one _ _ _ _ _ _ hs ht nothing (no_object_of l) = (n.Boolean true, refl, booleans true)
same_object_same are_same one _ _ _ _ _ _ hs ht nothing nothing = (n.Boolean true, refl, booleans true)
same_object_same are_same one _ _ _ _ _ _ hs ht nothing (objects f g h) = (n.Boolean false, refl, booleans false)
same_object_same are_same one _ _ _ _ _ _ hs ht nothing (objects_of l f g h) = (n.Boolean false, refl, booleans false)
same_object_same are_same one _ _ _ _ _ _ hs ht nothing (booleans b) = outside_same are_same (rows.same_object types.nothing types.boolean) n.Nothing (n.Boolean b)
same_object_same are_same one _ _ _ _ _ _ hs ht nothing (bytes l h) = outside_same are_same (rows.same_object types.nothing types.byte) n.Nothing (n.Byte l)
same_object_same are_same one _ _ _ _ _ _ hs ht nothing (integers w h) = outside_same are_same (rows.same_object types.nothing types.integer) n.Nothing (n.Short w)
same_object_same are_same one _ _ _ _ _ _ hs ht nothing (longs w h) = outside_same are_same (rows.same_object types.nothing types.long) n.Nothing (n.Integer w)
same_object_same are_same one _ _ _ _ _ _ hs ht nothing (currencies w m c h d) = outside_same are_same (rows.same_object types.nothing types.currency) n.Nothing (n.Decimal m c)
same_object_same are_same one _ _ _ _ _ _ hs ht nothing (texts units) = outside_same are_same (rows.same_object types.nothing types.str) n.Nothing (n.Str units)
same_object_same are_same one _ _ _ _ _ _ hs ht nothing empty_text = outside_same are_same (rows.same_object types.nothing types.str) n.Nothing n.Nothing
same_object_same are_same one _ _ _ _ _ _ hs ht nothing (fixed_texts units) = outside_same are_same (rows.same_object types.nothing (types.fixed (length units))) n.Nothing (n.Str units)
same_object_same are_same one _ _ _ _ _ _ hs ht nothing in_variant_empty = cc
same_object_same are_same one _ _ _ _ _ _ hs ht nothing (in_variant_boolean c) = cc
same_object_same are_same one _ _ _ _ _ _ hs ht nothing (in_variant_byte l h) = cc
same_object_same are_same one _ _ _ _ _ _ hs ht nothing (in_variant_integer w h) = cc
same_object_same are_same one _ _ _ _ _ _ hs ht nothing (in_variant_long w h) = cc
same_object_same are_same one _ _ _ _ _ _ hs ht nothing (in_variant_currency w m c h d) = cc
same_object_same are_same one _ _ _ _ _ _ hs ht nothing (in_variant_text more) = cc
same_object_same are_same one _ _ _ _ _ _ hs ht (objects i j e) no_object = (n.Boolean false, refl, booleans false)
same_object_same are_same one _ _ _ _ _ _ hs ht (objects i j e) (no_object_of l) = (n.Boolean false, refl, booleans false)
same_object_same are_same one _ _ _ _ _ _ hs ht (objects i j e) nothing = (n.Boolean false, refl, booleans false)
same_object_same are_same one _ _ _ _ _ _ hs ht (objects i j e) (objects f g h) =
    (n.Boolean (nat_eq i f), ap (λ b. gives (n.Boolean b)) (same_numbers are_same one i f j g e h), booleans (nat_eq i f))
same_object_same are_same one _ _ _ _ _ _ hs ht (objects i j e) (objects_of l f g h) =
    (n.Boolean (nat_eq i f), ap (λ b. gives (n.Boolean b)) (same_numbers are_same one i f j g e h), booleans (nat_eq i f))
same_object_same are_same one _ _ _ _ _ _ hs ht (objects i j e) (booleans b) = outside_same are_same (rows.same_object types.object types.boolean) (n.Object j) (n.Boolean b)
same_object_same are_same one _ _ _ _ _ _ hs ht (objects i j e) (bytes l h) = outside_same are_same (rows.same_object types.object types.byte) (n.Object j) (n.Byte l)
same_object_same are_same one _ _ _ _ _ _ hs ht (objects i j e) (integers w h) = outside_same are_same (rows.same_object types.object types.integer) (n.Object j) (n.Short w)
same_object_same are_same one _ _ _ _ _ _ hs ht (objects i j e) (longs w h) = outside_same are_same (rows.same_object types.object types.long) (n.Object j) (n.Integer w)
same_object_same are_same one _ _ _ _ _ _ hs ht (objects i j e) (currencies w m c h d) = outside_same are_same (rows.same_object types.object types.currency) (n.Object j) (n.Decimal m c)
same_object_same are_same one _ _ _ _ _ _ hs ht (objects i j e) (texts units) = outside_same are_same (rows.same_object types.object types.str) (n.Object j) (n.Str units)
same_object_same are_same one _ _ _ _ _ _ hs ht (objects i j e) empty_text = outside_same are_same (rows.same_object types.object types.str) (n.Object j) n.Nothing
same_object_same are_same one _ _ _ _ _ _ hs ht (objects i j e) (fixed_texts units) = outside_same are_same (rows.same_object types.object (types.fixed (length units))) (n.Object j) (n.Str units)
same_object_same are_same one _ _ _ _ _ _ hs ht (objects i j e) in_variant_empty = cc
same_object_same are_same one _ _ _ _ _ _ hs ht (objects i j e) (in_variant_boolean c) = cc
same_object_same are_same one _ _ _ _ _ _ hs ht (objects i j e) (in_variant_byte l h) = cc
same_object_same are_same one _ _ _ _ _ _ hs ht (objects i j e) (in_variant_integer w h) = cc
same_object_same are_same one _ _ _ _ _ _ hs ht (objects i j e) (in_variant_long w h) = cc
same_object_same are_same one _ _ _ _ _ _ hs ht (objects i j e) (in_variant_currency w m c h d) = cc
same_object_same are_same one _ _ _ _ _ _ hs ht (objects i j e) (in_variant_text more) = cc
same_object_same are_same one _ _ _ _ _ _ hs ht (objects_of k i j e) no_object = (n.Boolean false, refl, booleans false)
same_object_same are_same one _ _ _ _ _ _ hs ht (objects_of k i j e) (no_object_of l) = (n.Boolean false, refl, booleans false)
same_object_same are_same one _ _ _ _ _ _ hs ht (objects_of k i j e) nothing = (n.Boolean false, refl, booleans false)
same_object_same are_same one _ _ _ _ _ _ hs ht (objects_of k i j e) (objects f g h) =
    (n.Boolean (nat_eq i f), ap (λ b. gives (n.Boolean b)) (same_numbers are_same one i f j g e h), booleans (nat_eq i f))
same_object_same are_same one _ _ _ _ _ _ hs ht (objects_of k i j e) (objects_of l f g h) =
    (n.Boolean (nat_eq i f), ap (λ b. gives (n.Boolean b)) (same_numbers are_same one i f j g e h), booleans (nat_eq i f))
same_object_same are_same one _ _ _ _ _ _ hs ht (objects_of k i j e) (booleans b) = outside_same are_same (rows.same_object (types.class k) types.boolean) (n.Object j) (n.Boolean b)
same_object_same are_same one _ _ _ _ _ _ hs ht (objects_of k i j e) (bytes l h) = outside_same are_same (rows.same_object (types.class k) types.byte) (n.Object j) (n.Byte l)
same_object_same are_same one _ _ _ _ _ _ hs ht (objects_of k i j e) (integers w h) = outside_same are_same (rows.same_object (types.class k) types.integer) (n.Object j) (n.Short w)
same_object_same are_same one _ _ _ _ _ _ hs ht (objects_of k i j e) (longs w h) = outside_same are_same (rows.same_object (types.class k) types.long) (n.Object j) (n.Integer w)
same_object_same are_same one _ _ _ _ _ _ hs ht (objects_of k i j e) (currencies w m c h d) = outside_same are_same (rows.same_object (types.class k) types.currency) (n.Object j) (n.Decimal m c)
same_object_same are_same one _ _ _ _ _ _ hs ht (objects_of k i j e) (texts units) = outside_same are_same (rows.same_object (types.class k) types.str) (n.Object j) (n.Str units)
same_object_same are_same one _ _ _ _ _ _ hs ht (objects_of k i j e) empty_text = outside_same are_same (rows.same_object (types.class k) types.str) (n.Object j) n.Nothing
same_object_same are_same one _ _ _ _ _ _ hs ht (objects_of k i j e) (fixed_texts units) = outside_same are_same (rows.same_object (types.class k) (types.fixed (length units))) (n.Object j) (n.Str units)
same_object_same are_same one _ _ _ _ _ _ hs ht (objects_of k i j e) in_variant_empty = cc
same_object_same are_same one _ _ _ _ _ _ hs ht (objects_of k i j e) (in_variant_boolean c) = cc
same_object_same are_same one _ _ _ _ _ _ hs ht (objects_of k i j e) (in_variant_byte l h) = cc
same_object_same are_same one _ _ _ _ _ _ hs ht (objects_of k i j e) (in_variant_integer w h) = cc
same_object_same are_same one _ _ _ _ _ _ hs ht (objects_of k i j e) (in_variant_long w h) = cc
same_object_same are_same one _ _ _ _ _ _ hs ht (objects_of k i j e) (in_variant_currency w m c h d) = cc
same_object_same are_same one _ _ _ _ _ _ hs ht (objects_of k i j e) (in_variant_text more) = cc
same_object_same are_same one _ t _ _ _ y hs ht (booleans b) mb = outside_same are_same (rows.same_object types.boolean t) (n.Boolean b) y
same_object_same are_same one _ t _ _ _ y hs ht (bytes l h) mb = outside_same are_same (rows.same_object types.byte t) (n.Byte l) y
same_object_same are_same one _ t _ _ _ y hs ht (integers w h) mb = outside_same are_same (rows.same_object types.integer t) (n.Short w) y
same_object_same are_same one _ t _ _ _ y hs ht (longs w h) mb = outside_same are_same (rows.same_object types.long t) (n.Integer w) y
same_object_same are_same one _ t _ _ _ y hs ht (currencies w m c h d) mb = outside_same are_same (rows.same_object types.currency t) (n.Decimal m c) y
same_object_same are_same one _ t _ _ _ y hs ht (texts units) mb = outside_same are_same (rows.same_object types.str t) (n.Str units) y
same_object_same are_same one _ t _ _ _ y hs ht empty_text mb = outside_same are_same (rows.same_object types.str t) n.Nothing y
same_object_same are_same one _ t _ _ _ y hs ht (fixed_texts units) mb = outside_same are_same (rows.same_object (types.fixed (length units)) t) (n.Str units) y
same_object_same are_same one _ t _ _ _ y hs ht in_variant_empty mb = cc
same_object_same are_same one _ t _ _ _ y hs ht (in_variant_boolean c) mb = cc
same_object_same are_same one _ t _ _ _ y hs ht (in_variant_byte l h) mb = cc
same_object_same are_same one _ t _ _ _ y hs ht (in_variant_integer w h) mb = cc
same_object_same are_same one _ t _ _ _ y hs ht (in_variant_long w h) mb = cc
same_object_same are_same one _ t _ _ _ y hs ht (in_variant_currency w m c h d) mb = cc
same_object_same are_same one _ t _ _ _ y hs ht (in_variant_text more) mb = cc
