-- The texts of printed items.
use Rattle.std.proofs.Common.{◌≡◌, ℕ, zero, suc, ◌+◌, ◌-◌, ◌*◌, ◌/◌, ◌%◌, ◌^◌, ◌==◌, ◌<◌, ℤ, pos, negsuc, ◌*ℤ◌, neg_ℤ, Bool, true, false, cond, List, [], ◌∷◌, ◌++◌, codes, Some, refl, sym, ap, ◌∙◌, subst, arith}
use Rattle.std.proofs.lemmas.List.{append-nil}
use Rattle.std.proofs.lemmas.Bool.{le-leb}
use Rattle.std.proofs.Math.Nat.{mul-pos}
use Rattle.std.specs.Fmt.{decimal, signed_decimal}
use Rattle.std.specs.Prelude.{nat_le}
use Rattle.vb_tree.specs.BoundTree as types
use Rattle.vb_tree.specs.BoundTree.{Ty}
use Rattle.vb_tree.specs.declared.value.Value6.{Value6}
use Rattle.vb_tree.specs.declared.value.Value6.TheVariants as v
use Rattle.vb6_meaning.specs.Answers.{Answer, then_answer}
use Rattle.vb6_meaning.specs.Answers as value
use Rattle.vb6_meaning.specs.NumberTexts.{currency_text, print_text, printed_number, blank_before, places_text, fraction_text}
use Rattle.net_tree.specs.declared.expression.CastWord.TheVariants as word
use Rattle.net_tree.specs.Tree.{Exp}
use Rattle.net_tree.specs.Tree as net
use Rattle.net_tree.specs.Types as net_ty
use Rattle.net_meaning.specs.declared.value.ValueN.{ValueN}
use Rattle.net_meaning.specs.declared.value.ValueN.TheVariants as n
use Rattle.net_meaning.specs.Conversions.{coerce_net}
use Rattle.net_meaning.specs.SameValues.{Agrees}
use Rattle.net_meaning.specs.Support.{ten_thousandths, print_num, print_var, on_variant, variant_of}
use Rattle.net_meaning.specs.ValueMatch.{Matches, IsTenThousandths, booleans, bytes, integers, longs, currencies, texts, empty_text, fixed_texts, no_object, no_object_of, nothing, objects, objects_of, in_variant_empty, in_variant_boolean, in_variant_byte, in_variant_integer, in_variant_long, in_variant_currency, in_variant_text}
use Rattle.net_meaning.proofs.Powers.{power_positive}
use Rattle.meaning_laws.proofs.VariantRows.{same_variant}
use Rattle.written_trees.specs.Conversions.{one, support_call}
use Rattle.written_trees.specs.Lines.{printed}
use Rattle.run_base.specs.Outcomes.{then}
use Rattle.net_run.specs.Values.{Value, unknown, single, fields}
use Rattle.net_run.specs.Store.{Memory}
use Rattle.net_run.specs.Names.{Scope}
use Rattle.net_run.specs.Making.{Jobs}
use Rattle.net_run.specs.Expressions.{value_of}
use Rattle.row_laws.specs.Uncaptured.{IsUncaptured}
use Rattle.row_laws.specs.Follows.{answers, on_value}
use Rattle.row_laws.specs.Items.{IsText, PrintsSame, is_made_text, only_text, GivesText}
use Rattle.row_laws.proofs.Composing.{then_assoc}
use Rattle.row_laws.proofs.Support.{support_gives}
use Rattle.row_laws.proofs.Values.{cast_gives}

-- ---- the texts of numbers

-- so many whole numbers have the text of the number
natural_text : (k : ℕ) → decimal (k * 10000 / 10000) ++ fraction_text (k * 10000) ≡ decimal k
natural_text k =
    let quotient : k * 10000 / 10000 ≡ k = omega arith in
    let remainder : k * 10000 % 10000 ≡ 0 = omega arith in
    ap (λ q. decimal q ++ fraction_text (k * 10000)) quotient
    ∙ ap (λ r. decimal k ++ cond (r == 0) [] (46 ∷ places_text 4 r)) remainder
    ∙ append-nil (decimal k)

negative : (k : ℕ) → negsuc k *ℤ pos 10000 ≡ negsuc (k * 10000 + 9999)
negative k = let e : suc k * 10000 ≡ suc (k * 10000 + 9999) = omega arith in ap (λ x. neg_ℤ (pos x)) e

whole_text : (z : ℤ) → currency_text (ten_thousandths z 0) ≡ signed_decimal z
whole_text (pos k) = natural_text k
whole_text (negsuc k) =
    let e : suc (k * 10000 + 9999) ≡ suc k * 10000 = omega arith in
    ap currency_text (negative k) ∙ ap (λ x. 45 ∷ (decimal (x / 10000) ++ fraction_text x)) e ∙ ap (λ x. 45 ∷ x) (natural_text (suc k))

-- a number has the sign of its ten-thousandths
blank_of_negative : (x : ℕ) → 0 < x → blank_before (neg_ℤ (pos x)) ≡ []
blank_of_negative zero h = absurd (omega (arith, h))
blank_of_negative (suc x) h = refl

same_sign : (z m : ℤ) (s : ℕ) → IsTenThousandths z m s → blank_before m ≡ blank_before z
same_sign z (pos k) s h = ap blank_before h.1
same_sign z (negsuc k) s h =
    let first : 0 < suc k = omega arith in
    sym (blank_of_negative (suc k * 10 ^ (4 - s)) (mul-pos first (power_positive (4 - s)))) ∙ ap blank_before h.1

-- ---- items

module _ (same : ℕ → ℕ → Bool) where
  number_given : (z : ℤ) → Agrees IsText (value.gives (printed_number z (signed_decimal z))) (print_num (n.Decimal z 0))
  number_given z = (_, refl, ap (printed_number z) (whole_text z))

  currency_given : (z k : ℤ) (s : ℕ) → IsTenThousandths z k s → Agrees IsText (value.gives (printed_number z (currency_text z))) (print_num (n.Decimal k s))
  currency_given z k s is =
      let few : nat_le s 4 ≡ true = le-leb s 4 is.0 in
      subst (λ c. Agrees IsText (value.gives (printed_number z (currency_text z))) (cond c (value.gives (n.Str (printed_number k (currency_text (ten_thousandths k s))))) value.outside)) (sym few)
      (_, refl, ap (λ q. q ++ currency_text (ten_thousandths k s) ++ 32 ∷ []) (same_sign z k s is) ∙ ap (λ q. printed_number z (currency_text q)) is.1)

  boolean_item : PrintsSame same types.boolean
  boolean_item _ _ (booleans b) = (_, refl, refl)

  byte_item : PrintsSame same types.byte
  byte_item _ _ (bytes k f) = number_given (pos k)

  integer_item : PrintsSame same types.integer
  integer_item _ _ (integers z f) = number_given z

  long_item : PrintsSame same types.long
  long_item _ _ (longs z f) = number_given z

  currency_item : PrintsSame same types.currency
  currency_item _ _ (currencies z k s f is) = currency_given z k s is

  str_item : PrintsSame same types.str
  str_item _ _ (texts units) = (_, refl, refl)
  str_item _ _ empty_text = (_, refl, refl)

  fixed_item : (k : ℕ) → PrintsSame same (types.fixed k)
  fixed_item k _ _ (fixed_texts units) = (_, refl, refl)

  object_item : PrintsSame same types.object
  object_item _ _ no_object = tt
  object_item _ _ (objects i j e) = tt

  class_item : (k : ℕ) → PrintsSame same (types.class k)
  class_item k _ _ (no_object_of c) = tt
  class_item k _ _ (objects_of c i j e) = tt

  nothing_item : PrintsSame same types.nothing
  nothing_item _ _ nothing = tt

  -- the text that is printed of a Variant
  variant_text : (a : Value6) (x : ValueN) → variant_of x ≡ Some a → Agrees IsText (print_text a) (then_answer (on_variant print_text (variant_of x)) (λ units. value.gives (n.Str units)))
  variant_text a x e =
      subst (λ o. Agrees IsText (print_text a) (then_answer (on_variant print_text o) (λ units. value.gives (n.Str units)))) (sym e) (given (print_text a))
    where
      given : (t : Answer (List ℕ)) → Agrees IsText t (then_answer t (λ units. value.gives (n.Str units)))
      given (value.gives units) = (n.Str units, refl, refl)
      given (value.raises k) = refl
      given value.outside = tt

  variant_item : PrintsSame same types.variant
  variant_item _ _ in_variant_empty = (n.Nothing, refl, refl)
  variant_item _ _ (in_variant_boolean b) = variant_text (v.Boolean b) (n.Boolean b) refl
  variant_item _ _ (in_variant_byte m e) = variant_text (v.Byte m) (n.Byte m) refl
  variant_item _ _ (in_variant_integer z e) = variant_text (v.Int z) (n.Short z) refl
  variant_item _ _ (in_variant_long z e) = variant_text (v.Long z) (n.Integer z) refl
  variant_item _ _ (in_variant_currency z m s e d) = variant_text (v.Cur z) (n.Decimal m s) (same_variant same (v.Cur z) (n.Decimal m s) (in_variant_currency z m s e d))
  variant_item _ _ (in_variant_text units) = variant_text (v.Str units) (n.Str units) refl

  -- what is printed of a value is the text of it
  pub prints_same : (ty : Ty) → PrintsSame same ty
  prints_same types.boolean = boolean_item
  prints_same types.byte = byte_item
  prints_same types.integer = integer_item
  prints_same types.long = long_item
  prints_same types.currency = currency_item
  prints_same types.str = str_item
  prints_same (types.fixed k) = fixed_item k
  prints_same (types.user k) = λ a x h. absurd (no_user k a x h)
    where
      no_user : (k : ℕ) (a : Value6) (x : ValueN) → Matches same (types.user k) a x → ⊥
      no_user k a x h = elim h [ ]
  prints_same (types.class k) = class_item k
  prints_same types.object = object_item
  prints_same types.variant = variant_item
  prints_same (types.array t r) = λ a x h. absurd (no_array t r a x h)
    where
      no_array : (t : Ty) (r : ℕ) (a : Value6) (x : ValueN) → Matches same (types.array t r) a x → ⊥
      no_array t r a x h = elim h [ ]
  prints_same types.nothing = nothing_item
  prints_same types.unknown = λ a x h. absurd (no_unknown a x h)
    where
      no_unknown : (a : Value6) (x : ValueN) → Matches same types.unknown a x → ⊥
      no_unknown a x h = elim h [ ]

-- ---- items that are made to Strings

abbrev IsTextAnswer : Answer ValueN → Type 0
IsTextAnswer (value.gives (n.Str units)) = Unit {0}
IsTextAnswer (value.gives n.Nothing) = Unit {0}
IsTextAnswer (value.gives _) = ⊥
IsTextAnswer (value.raises k) = Unit {0}
IsTextAnswer value.outside = Unit {0}

by_test : (c : Bool) (units : List ℕ) → IsTextAnswer (cond c (value.gives (n.Str units)) value.outside)
by_test true units = tt
by_test false units = tt

text_behind : {A : Type 0} (a : Answer A) (f : A → Answer ValueN) → ((x : A) → IsTextAnswer (f x)) → IsTextAnswer (then_answer a f)
text_behind (value.gives x) f h = h x
text_behind (value.raises k) f h = tt
text_behind value.outside f h = tt

number_is : (x : ValueN) → IsTextAnswer (print_num x)
number_is (n.Decimal m s) = by_test (nat_le s 4) (printed_number m (currency_text (ten_thousandths m s)))
number_is (n.Boolean b) = tt
number_is (n.Byte m) = tt
number_is (n.Short z) = tt
number_is (n.Integer z) = tt
number_is (n.Long z) = tt
number_is (n.Str units) = tt
number_is n.Nothing = tt
number_is (n.Object k) = tt
number_is (n.Array k) = tt

variant_is : (x : ValueN) → IsTextAnswer (print_var x)
variant_is n.Nothing = tt
variant_is (n.Decimal m s) = text_behind (on_variant print_text (variant_of (n.Decimal m s))) (λ units. value.gives (n.Str units)) (λ units. tt)
variant_is (n.Boolean b) = tt
variant_is (n.Byte m) = tt
variant_is (n.Short z) = tt
variant_is (n.Integer z) = tt
variant_is (n.Long z) = tt
variant_is (n.Str units) = tt
variant_is (n.Object k) = tt
variant_is (n.Array k) = tt

boolean_is : (x : ValueN) → IsTextAnswer (coerce_net x net_ty.str)
boolean_is (n.Decimal m s) = tt
boolean_is (n.Boolean b) = tt
boolean_is (n.Byte m) = tt
boolean_is (n.Short z) = tt
boolean_is (n.Integer z) = tt
boolean_is (n.Long z) = tt
boolean_is (n.Str units) = tt
boolean_is n.Nothing = tt
boolean_is (n.Object k) = tt
boolean_is (n.Array k) = tt

-- ---- what is written gives Strings

only_texts : (a : Answer ValueN) (w : Memory) → IsTextAnswer a → answers a w ≡ then (answers a w) only_text
only_texts (value.gives (n.Str units)) w h = refl
only_texts (value.gives n.Nothing) w h = refl
only_texts (value.gives (n.Boolean b)) w h = absurd h
only_texts (value.gives (n.Byte m)) w h = absurd h
only_texts (value.gives (n.Short z)) w h = absurd h
only_texts (value.gives (n.Integer z)) w h = absurd h
only_texts (value.gives (n.Long z)) w h = absurd h
only_texts (value.gives (n.Decimal m s)) w h = absurd h
only_texts (value.gives (n.Object k)) w h = absurd h
only_texts (value.gives (n.Array k)) w h = absurd h
only_texts (value.raises k) w h = refl
only_texts value.outside w h = refl

row_texts : (row : ValueN → Answer ValueN) → ((x : ValueN) → IsTextAnswer (row x)) → (v : Value) (w : Memory) → on_value row v w ≡ then (on_value row v w) only_text
row_texts row h (single x) w = only_texts (row x) w (h x)
row_texts row h unknown w = refl
row_texts row h (fields vs) w = refl

row_gives_text : (S : Scope) (oracle : Jobs) (whole a : Exp) (row : ValueN → Answer ValueN) → ((x : ValueN) → IsTextAnswer (row x))
    → ((w : Memory) → value_of S oracle whole w ≡ then (value_of S oracle a w) (on_value row)) → GivesText S oracle whole
row_gives_text S oracle whole a row h e w =
    e w
    ∙ ap (λ k. then (value_of S oracle a w) k) (λ i v w. row_texts row h v w i)
    ∙ sym (then_assoc (value_of S oracle a w) (on_value row) only_text)
    ∙ sym (ap (λ z. then z only_text) (e w))

-- such an item is a call or a conversion of something, which gives Strings alone
module _ (S : Scope) (oracle : Jobs) (free : IsUncaptured S) where
  number_text : (a : Exp) → GivesText S oracle (support_call (codes "PrintNum") (one a))
  number_text a = row_gives_text S oracle (support_call (codes "PrintNum") (one a)) a print_num number_is (support_gives S oracle free (codes "PrintNum") print_num refl a)

  pub made_gives_text : (ty : Ty) → is_made_text ty ≡ true → (a : Exp) → GivesText S oracle (printed ty a)
  made_gives_text types.boolean e a = row_gives_text S oracle (net.cast word.CStr a) a (λ x. coerce_net x net_ty.str) boolean_is (cast_gives S oracle word.CStr a)
  made_gives_text types.byte e a = number_text (net.cast word.CDec a)
  made_gives_text types.integer e a = number_text (net.cast word.CDec a)
  made_gives_text types.long e a = number_text (net.cast word.CDec a)
  made_gives_text types.currency e a = number_text a
  made_gives_text types.variant e a = row_gives_text S oracle (support_call (codes "PrintVar") (one a)) a print_var variant_is (support_gives S oracle free (codes "PrintVar") print_var refl a)
  made_gives_text _ e a = absurd (cc e)
