-- Constants give what matches them, and a whole literal is written as a Decimal that is what its conversion gives.
use Rattle.std.proofs.Common.{◌≡◌, ℕ, suc, ◌+◌, ◌*◌, ◌/◌, ◌%◌, ◌^◌, ◌==◌, ◌<◌, ◌≤◌, ℤ, pos, negsuc, ◌*ℤ◌, neg_ℤ, Bool, true, false, cond, ◌||◌, Option, Some, refl, sym, ap, ◌∙◌, subst, arith}
use Rattle.std.specs.Prelude.{unsigned_abs}
use Rattle.std.specs.Int.Signed.{mag}
use Rattle.std.proofs.lemmas.Bool.Decides.{nat_tests}
use Rattle.vb_tree.specs.BoundTree as types
use Rattle.vb_tree.specs.BoundTree.{Ty}
use Rattle.vb_tree.specs.declared.value.Value6.{Value6}
use Rattle.vb_tree.specs.declared.value.Value6.TheVariants as v
use Rattle.vb6_meaning.specs.Answers as value
use Rattle.vb6_meaning.specs.Kinds.{fits}
use Rattle.vb6_meaning.specs.declared.number.NumberKind.TheVariants as kinds
use Rattle.vb6_meaning.proofs.Limits.{within}
use Rattle.bound_tree.specs.declared.expression.Origin.{Origin}
use Rattle.bound_tree.specs.Tree.{typed, constant}
use Rattle.bound_facts.specs.Folded.{given_value}
use Rattle.net_tree.specs.Tree.{Exp}
use Rattle.net_tree.specs.Tree as net
use Rattle.net_tree.specs.Types as net_ty
use Rattle.net_meaning.specs.declared.value.ValueN.{ValueN}
use Rattle.net_meaning.specs.declared.value.ValueN.TheVariants as n
use Rattle.net_meaning.specs.Conversions.{coerce_net}
use Rattle.net_meaning.specs.Decimals.{is_decimal}
use Rattle.net_meaning.specs.Operators.{minus}
use Rattle.net_meaning.specs.ValueMatch.{Matches, booleans, integers, longs, texts, nothing, in_variant_empty}
use Rattle.net_meaning.specs.WrittenLiterals.{without_zeros, literal_value, constant_value, write_constant, is_within, type_of_constant, IsWrittenConstant, negative, as_byte}
use Rattle.net_meaning.specs.WrittenLiterals as meaning
use Rattle.meaning_laws.proofs.LiteralRows.{constant as literal_constant}
use Rattle.written_trees.specs.Literals.{constant_exp, written_constant, currency_exp, is_hexadecimal, is_negative, spelt}
use Rattle.run_base.specs.Outcomes.{then}
use Rattle.net_run.specs.Store.{Memory}
use Rattle.net_run.specs.Names.{Scope}
use Rattle.net_run.specs.Making.{Jobs}
use Rattle.net_run.specs.Expressions.{value_of}
use Rattle.row_laws.specs.Uncaptured.{IsTextUncaptured}
use Rattle.row_laws.specs.Constants.{is_literal}
use Rattle.row_laws.specs.Follows.{single_value, answers, on_value, Any, RowOfOne}
use Rattle.row_laws.specs.Rows.{Fits, operand_of}
use Rattle.row_laws.proofs.Composing.{after_nil, by_row}
use Rattle.row_laws.proofs.Constants.{byte_gives, negative_gives, text_gives}

same_sign : (z : ℤ) → is_negative z ≡ meaning.is_negative z
same_sign (pos k) = refl
same_sign (negsuc k) = refl

-- ---- a whole number as a Currency

-- a last zero is dropped
zero_dropped : (scale k : ℕ) → without_zeros (suc scale) (k * 10) ≡ without_zeros scale k
zero_dropped scale k =
    let remainder : k * 10 % 10 ≡ 0 = omega arith in
    let quotient : k * 10 / 10 ≡ k = omega arith in
    ap (λ r. cond (r == 0) (without_zeros scale (k * 10 / 10)) (n.Decimal (pos (k * 10)) (suc scale))) remainder ∙ ap (without_zeros scale) quotient

whole_decimal : (k : ℕ) → without_zeros 4 (10000 * k) ≡ n.Decimal (pos k) 0
whole_decimal k =
    let a : 10000 * k ≡ 1000 * k * 10 = omega arith in
    let b : 1000 * k ≡ 100 * k * 10 = omega arith in
    let c : 100 * k ≡ 10 * k * 10 = omega arith in
    let d : 10 * k ≡ k * 10 = omega arith in
    ap (without_zeros 4) a ∙ zero_dropped 3 (1000 * k) ∙ ap (without_zeros 3) b ∙ zero_dropped 2 (100 * k) ∙ ap (without_zeros 2) c ∙ zero_dropped 1 (10 * k) ∙ ap (without_zeros 1) d ∙ zero_dropped 0 k

small_decimal : (k : ℕ) → k < 2 ^ 40 → minus (n.Decimal (pos k) 0) ≡ value.gives (n.Decimal (neg_ℤ (pos k)) 0)
small_decimal k h =
    let fine : is_decimal (pos k) 0 ≡ true = grind (arith, nat_tests) in
    ap (λ b. cond b (value.gives (n.Decimal (neg_ℤ (pos k)) 0)) value.outside) fine

size_of : (z : ℤ) → unsigned_abs z ≤ mag z + 1
size_of (pos k) = omega arith
size_of (negsuc k) = omega arith

is_short : (same : ℕ → ℕ → Bool) (z : ℤ) (x : ValueN) → Matches same types.integer (v.Int z) x → x ≡ n.Short z
is_short same _ _ (integers z f) = refl

is_integer : (same : ℕ → ℕ → Bool) (z : ℤ) (x : ValueN) → Matches same types.long (v.Long z) x → x ≡ n.Integer z
is_integer same _ _ (longs z f) = refl

never : ℕ → ℕ → Bool
never i j = false

short_given : (h : Bool) (z : ℤ) → fits kinds.Integer z ≡ true → literal_value (net.short z (h || is_negative z)) ≡ n.Short z
short_given h z e =
    let c = literal_constant never h (v.Int z) e in
    ap (λ s. literal_value (net.short z (h || s))) (same_sign z) ∙ ap value_in c.1 ∙ is_short never z c.0 c.2
  where
    value_in : value.Answer ValueN → ValueN
    value_in (value.gives x) = x
    value_in (value.raises k) = n.Nothing
    value_in value.outside = n.Nothing

pub integer_given : (h : Bool) (z : ℤ) → fits kinds.Long z ≡ true → literal_value (net.integer z (h || is_negative z)) ≡ n.Integer z
integer_given h z e =
    let c = literal_constant never h (v.Long z) e in
    ap (λ s. literal_value (net.integer z (h || s))) (same_sign z) ∙ ap value_in c.1 ∙ is_integer never z c.0 c.2
  where
    value_in : value.Answer ValueN → ValueN
    value_in (value.gives x) = x
    value_in (value.raises k) = n.Nothing
    value_in value.outside = n.Nothing

module _ (S : Scope) (oracle : Jobs) where
  -- ---- constants

  -- what is written for a constant gives a value that matches it
  pub constant_given : (free : IsTextUncaptured S) (same : ℕ → ℕ → Bool) (h : Bool) (x : Value6) → is_within x ≡ true → is_literal x ≡ true
      → (y : ValueN) × ((w : Memory) → value_of S oracle (constant_exp h x) w ≡ single_value y w) × Matches same (type_of_constant x) x y
  constant_given free same h (v.Boolean b) e f = (n.Boolean b, λ w. refl, booleans b)
  constant_given free same h (v.Byte m) e f =
      let c = literal_constant same h (v.Byte m) e in
      (c.0, λ w. byte_gives S oracle m w ∙ ap (λ a. answers a w) c.1, c.2)
  constant_given free same h (v.Int z) e f = (n.Short z, λ w. ap (λ y. single_value y w) (short_given h z e), integers z e)
  constant_given free same h (v.Long z) e f = (n.Integer z, λ w. ap (λ y. single_value y w) (integer_given h z e), longs z e)
  constant_given free same h (v.Cur (pos m)) e f =
      let c = literal_constant same h (v.Cur (pos m)) e in
      (c.0, λ w. ap (λ a. answers a w) c.1, c.2)
  constant_given free same h (v.Cur (negsuc m)) e f =
      let c = literal_constant same h (v.Cur (negsuc m)) e in
      (c.0, λ w. negative_gives S oracle (net.decimal (pos (suc m))) w ∙ ap (λ a. answers a w) c.1, c.2)
  constant_given free same h (v.Str units) e f = (n.Str units, λ w. text_gives S oracle free units f w, texts units)
  constant_given free same h v.Nothing e f = (n.Nothing, λ w. refl, nothing)
  constant_given free same h (v.Object k) e f = absurd (cc f)
  constant_given free same h v.Empty e f = (n.Nothing, λ w. refl, in_variant_empty)

  -- ---- literals in the place of conversions

  currency_gives : (z : ℤ) (w : Memory) → unsigned_abs z < 2 ^ 40 → value_of S oracle (currency_exp (pos 10000 *ℤ z)) w ≡ single_value (n.Decimal z 0) w
  currency_gives (pos k) w small = ap (λ y. single_value y w) (whole_decimal k)
  currency_gives (negsuc k) w small =
      let e : 10000 * suc k ≡ suc (10000 * k + 9999) = omega arith in
      ap (λ x. value_of S oracle (currency_exp (neg_ℤ (pos x))) w) e
      ∙ negative_gives S oracle (net.decimal (pos (suc (10000 * k + 9999)))) w
      ∙ ap (λ a. answers a w) (ap (λ x. minus (without_zeros 4 x)) (sym e) ∙ ap minus (whole_decimal (suc k)) ∙ small_decimal (suc k) small)

  same_exp : (l e : Exp) → ◌≡◌ {A = Option Exp} (Some e) (Some l) → e ≡ l
  same_exp l e h = cc h

  -- a number that is converted without overflow
  literal_fits : (origin : Origin) (z : ℤ) (x : ValueN) (e l : Exp) (b : Bool) → unsigned_abs z < 2 ^ 40 → ((w : Memory) → value_of S oracle e w ≡ single_value x w) → coerce_net x net_ty.decimal ≡ value.gives (n.Decimal z 0)
      → spelt origin (given_value (cond b (value.gives (v.Cur (pos 10000 *ℤ z))) (value.raises 6))) ≡ Some l → RowOfOne S oracle Any l e (λ x. coerce_net x net_ty.decimal)
  literal_fits origin z x e l false small is goes h = absurd (cc h)
  literal_fits origin z x e l true small is goes h =
      by_row (value_of S oracle l) (value_of S oracle e) (λ x. coerce_net x net_ty.decimal)
      (λ w. sym (ap (λ q. value_of S oracle q w) (same_exp l (currency_exp (pos 10000 *ℤ z)) h))
      ∙ currency_gives z w small
      ∙ sym (ap (λ q. then q (on_value (λ x. coerce_net x net_ty.decimal))) (is w) ∙ after_nil (answers (coerce_net x net_ty.decimal) w) ∙ ap (λ q. answers q w) goes))

  -- what is written for a constant as a Decimal is what its conversion gives
  pub constant_fits : (x : Value6) (origin : Origin) (ty : Ty) → is_within x ≡ true → type_of_constant x ≡ ty → Fits S oracle (operand_of (typed ty (constant x origin)) (written_constant x origin))
  constant_fits x origin ty e is = subst (λ z. Fits S oracle (operand_of (typed z (constant x origin)) (written_constant x origin))) is (of_value x origin e)
    where
      of_value : (x : Value6) (origin : Origin) → is_within x ≡ true → Fits S oracle (operand_of (typed (type_of_constant x) (constant x origin)) (written_constant x origin))
      of_value (v.Int z) origin e l h =
          let small = within 32767 z e in
          literal_fits origin z (n.Short z) (written_constant (v.Int z) origin) l (fits kinds.Currency (pos 10000 *ℤ z)) (omega (arith, small, size_of z))
          (λ w. ap (λ y. single_value y w) (short_given (is_hexadecimal origin) z e)) refl h
      of_value (v.Long z) origin e l h =
          let small = within 2147483647 z e in
          literal_fits origin z (n.Integer z) (written_constant (v.Long z) origin) l (fits kinds.Currency (pos 10000 *ℤ z)) (omega (arith, small, size_of z))
          (λ w. ap (λ y. single_value y w) (integer_given (is_hexadecimal origin) z e)) refl h
      of_value (v.Boolean b) origin e l h = absurd (cc h)
      of_value (v.Byte m) origin e l h = absurd (cc h)
      of_value (v.Cur z) origin e l h = absurd (cc h)
      of_value (v.Str units) origin e l h = absurd (cc h)
      of_value v.Nothing origin e l h = absurd (cc h)
      of_value (v.Object k) origin e l h = absurd (cc h)
      of_value v.Empty origin e l h = absurd (cc h)
