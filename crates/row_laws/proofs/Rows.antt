-- What a written row gives: its operands from the left, and then the row on their values.
use Rattle.std.proofs.Common.{◌≡◌, ℕ, Bool, true, ◌&&◌, Option, Some, None, [], refl, sym, ap, ◌∙◌}
use Rattle.up_base.proofs.Lists.{both_true}
use Rattle.vb_tree.specs.BoundTree as types
use Rattle.vb_tree.specs.BoundTree.{Ty}
use Rattle.vb_tree.specs.declared.value.Value6.{Value6}
use Rattle.vb6_meaning.specs.Answers.{Answer, then_answer}
use Rattle.vb6_meaning.specs.Answers as value
use Rattle.net_tree.specs.declared.expression.CastWord.{CastWord}
use Rattle.net_tree.specs.declared.expression.CastWord.TheVariants as word
use Rattle.net_tree.specs.declared.expression.NetBin.{NetBin}
use Rattle.net_tree.specs.declared.expression.NetUn.{NetUn}
use Rattle.net_tree.specs.declared.expression.NetUn.TheVariants as un
use Rattle.net_tree.specs.declared.expression.OpN.TheVariants.{Bin, Un}
use Rattle.net_tree.specs.Tree.{Exp}
use Rattle.net_tree.specs.Tree as net
use Rattle.net_tree.specs.Types as ty
use Rattle.net_meaning.specs.declared.value.ValueN.{ValueN}
use Rattle.net_meaning.specs.declared.value.ValueN.TheVariants as n
use Rattle.net_meaning.specs.Conversions.{coerce_net}
use Rattle.net_meaning.specs.Operators.{operate_net}
use Rattle.net_meaning.specs.ValueMatch.{Matches, booleans, bytes, integers, longs}
use Rattle.net_meaning.specs.WrittenRows.{Row, operand_a, operand_b, no_text, cast, call, cast_type, called, evaluate}
use Rattle.net_meaning.specs.WrittenRows as row
use Rattle.run_base.specs.Outcomes.{then}
use Rattle.net_run.specs.Values.{Value, single}
use Rattle.net_run.specs.Store.{Does}
use Rattle.net_run.specs.Names.{Scope}
use Rattle.net_run.specs.Making.{Jobs}
use Rattle.net_run.specs.Expressions.{value_of}
use Rattle.row_laws.specs.Uncaptured.{IsUncaptured}
use Rattle.row_laws.specs.Follows.{answers, on_values, Any, Follows, RowOfOne, RowOfTwo}
use Rattle.row_laws.specs.Rows.{Operand, plain, cast_exp, decimal_for, row_exp, is_call, is_over_a, is_over_b, is_operand_a, goes_to_decimal, has_not, is_to_decimal, is_not, is_safe, is_over_both, IsOf, Fits}
use Rattle.row_laws.proofs.Composing.{after_nil, then_assoc, restated, goes_as, by_row, as_it_stands, composed}
use Rattle.row_laws.proofs.Values.{cast_gives, unary_gives, binary_gives}
use Rattle.row_laws.proofs.Support.{call_row}

pub plain_fits : (S : Scope) (oracle : Jobs) (e : Exp) → Fits S oracle (plain e)
plain_fits S oracle e l h = absurd (cc h)

module _ (S : Scope) (oracle : Jobs) (free : IsUncaptured S) where
  -- a row on the value of an expression, behind a row
  pub behind_row : {P : ValueN → Type 0} {first : Does Value} (whole e : Exp) (g f : ValueN → Answer ValueN)
      → RowOfOne S oracle Any whole e f → Follows P (value_of S oracle e) first (λ x. answers (g x)) → Follows P (value_of S oracle whole) first (λ x. answers (then_answer (g x) f))
  behind_row whole e g f h k = restated h.is (composed g k h.behind f (λ x w. h.on_single x w tt))

  pub plain_cast : (c : CastWord) (e : Exp) → RowOfOne S oracle Any (net.cast c e) e (λ x. coerce_net x (cast_type c))
  plain_cast c e = by_row (value_of S oracle (net.cast c e)) (value_of S oracle e) (λ x. coerce_net x (cast_type c)) (cast_gives S oracle c e)

  -- a literal in place of a conversion gives the same
  cast_same : (c : CastWord) (o : Option Exp) (e : Exp) → ((l : Exp) → o ≡ Some l → RowOfOne S oracle Any l e (λ x. coerce_net x ty.decimal)) → RowOfOne S oracle Any (cast_exp c o e) e (λ x. coerce_net x (cast_type c))
  cast_same c None e h = plain_cast c e
  cast_same word.CDec (Some l) e h = h l refl
  cast_same word.CBool (Some l) e h = plain_cast word.CBool e
  cast_same word.CByte (Some l) e h = plain_cast word.CByte e
  cast_same word.CShort (Some l) e h = plain_cast word.CShort e
  cast_same word.CInt (Some l) e h = plain_cast word.CInt e
  cast_same word.CLng (Some l) e h = plain_cast word.CLng e
  cast_same word.CStr (Some l) e h = plain_cast word.CStr e
  cast_same word.CObj (Some l) e h = plain_cast word.CObj e

  unary_row : (u : NetUn) (e : Exp) → RowOfOne S oracle Any (net.unary u e) e (λ x. operate_net (Un u) x x)
  unary_row u e = by_row (value_of S oracle (net.unary u e)) (value_of S oracle e) (λ x. operate_net (Un u) x x) (unary_gives S oracle u e)

  module _ (a b : Operand) (fits_a : Fits S oracle a) (fits_b : Fits S oracle b) where
    decimal_fits : (r : Row) (l : Exp) → decimal_for r a b ≡ Some l → RowOfOne S oracle Any l (row_exp r a b) (λ x. coerce_net x ty.decimal)
    decimal_fits operand_a l e = fits_a l e
    decimal_fits operand_b l e = fits_b l e
    decimal_fits no_text l e = absurd (cc e)
    decimal_fits (cast c r) l e = absurd (cc e)
    decimal_fits (row.unary u r) l e = absurd (cc e)
    decimal_fits (row.binary o r s) l e = absurd (cc e)
    decimal_fits (call f r) l e = absurd (cc e)

    cast_row : (c : CastWord) (r : Row) → RowOfOne S oracle Any (row_exp (cast c r) a b) (row_exp r a b) (λ x. coerce_net x (cast_type c))
    cast_row c r = cast_same c (decimal_for r a b) (row_exp r a b) (decimal_fits r)

    -- behind the empty text
    behind_no_text : (o : NetBin) (s : Row) → RowOfOne S oracle Any (row_exp (row.binary o no_text s) a b) (row_exp s a b) (λ x. operate_net (Bin o) (n.Str []) x)
    behind_no_text o s =
        by_row (value_of S oracle (row_exp (row.binary o no_text s) a b)) (value_of S oracle (row_exp s a b)) (λ x. operate_net (Bin o) (n.Str []) x)
        (λ w. binary_gives S oracle o (net.lit (net.str [])) (row_exp s a b) w ∙ after_nil (then (value_of S oracle (row_exp s a b) w) (on_values (operate_net (Bin o)) (single (n.Str [])))))

    -- a row over the first operand
    pub over_a : (r : Row) (y : ValueN) → is_over_a r ≡ true → RowOfOne S oracle Any (row_exp r a b) a.exp (λ x. evaluate r x y)
    over_a operand_a y e = as_it_stands (value_of S oracle a.exp)
    over_a operand_b y e = absurd (cc e)
    over_a no_text y e = absurd (cc e)
    over_a (cast c r) y e = behind_row (row_exp (cast c r) a b) (row_exp r a b) (λ x. evaluate r x y) (λ v. coerce_net v (cast_type c)) (cast_row c r) (over_a r y e)
    over_a (row.unary u r) y e = behind_row (row_exp (row.unary u r) a b) (row_exp r a b) (λ x. evaluate r x y) (λ v. operate_net (Un u) v v) (unary_row u (row_exp r a b)) (over_a r y e)
    over_a (row.binary o no_text s) y e = behind_row (row_exp (row.binary o no_text s) a b) (row_exp s a b) (λ x. evaluate s x y) (λ v. operate_net (Bin o) (n.Str []) v) (behind_no_text o s) (over_a s y e)
    over_a (row.binary o operand_a s) y e = absurd (cc e)
    over_a (row.binary o operand_b s) y e = absurd (cc e)
    over_a (row.binary o (cast c r) s) y e = absurd (cc e)
    over_a (row.binary o (row.unary u r) s) y e = absurd (cc e)
    over_a (row.binary o (row.binary p r t) s) y e = absurd (cc e)
    over_a (row.binary o (call f r) s) y e = absurd (cc e)
    over_a (call f r) y e =
        let both = both_true (is_call f) (is_over_a r) e in
        behind_row (row_exp (call f r) a b) (row_exp r a b) (λ x. evaluate r x y) (called f) (call_row S oracle free f both.0 (row_exp r a b)) (over_a r y both.1)

    -- a row over the second operand
    pub over_b : (r : Row) (x : ValueN) → is_over_b r ≡ true → RowOfOne S oracle Any (row_exp r a b) b.exp (λ y. evaluate r x y)
    over_b operand_a x e = absurd (cc e)
    over_b operand_b x e = as_it_stands (value_of S oracle b.exp)
    over_b no_text x e = absurd (cc e)
    over_b (cast c r) x e = behind_row (row_exp (cast c r) a b) (row_exp r a b) (λ y. evaluate r x y) (λ v. coerce_net v (cast_type c)) (cast_row c r) (over_b r x e)
    over_b (row.unary u r) x e = behind_row (row_exp (row.unary u r) a b) (row_exp r a b) (λ y. evaluate r x y) (λ v. operate_net (Un u) v v) (unary_row u (row_exp r a b)) (over_b r x e)
    over_b (row.binary o r s) x e = absurd (cc e)
    over_b (call f r) x e =
        let both = both_true (is_call f) (is_over_b r) e in
        behind_row (row_exp (call f r) a b) (row_exp r a b) (λ y. evaluate r x y) (called f) (call_row S oracle free f both.0 (row_exp r a b)) (over_b r x both.1)

    -- ---- what stands before the second operand gives a value

    abbrev Given : Row → ValueN → Type 0
    Given r x = (v : ValueN) × ((y : ValueN) → evaluate r x y ≡ value.gives v)

    decimal_given : (same : ℕ → ℕ → Bool) (s : Ty) (v : Value6) (x : ValueN) → goes_to_decimal s ≡ true → Matches same s v x → (u : ValueN) × (coerce_net x ty.decimal ≡ value.gives u)
    decimal_given same types.boolean _ _ e (booleans b) = (_, refl)
    decimal_given same types.byte _ _ e (bytes k f) = (_, refl)
    decimal_given same types.integer _ _ e (integers z f) = (_, refl)
    decimal_given same types.long _ _ e (longs z f) = (_, refl)
    decimal_given same types.currency v x e h = absurd (cc e)
    decimal_given same types.str v x e h = absurd (cc e)
    decimal_given same (types.fixed k) v x e h = absurd (cc e)
    decimal_given same (types.user k) v x e h = absurd (cc e)
    decimal_given same (types.class k) v x e h = absurd (cc e)
    decimal_given same types.object v x e h = absurd (cc e)
    decimal_given same types.variant v x e h = absurd (cc e)
    decimal_given same (types.array t r) v x e h = absurd (cc e)
    decimal_given same types.nothing v x e h = absurd (cc e)
    decimal_given same types.unknown v x e h = absurd (cc e)

    not_given : (same : ℕ → ℕ → Bool) (s : Ty) (v : Value6) (x : ValueN) → has_not s ≡ true → Matches same s v x → (u : ValueN) × (operate_net (Un un.Not) x x ≡ value.gives u)
    not_given same types.boolean _ _ e (booleans b) = (_, refl)
    not_given same types.integer _ _ e (integers z f) = (_, refl)
    not_given same types.long _ _ e (longs z f) = (_, refl)
    not_given same types.byte v x e h = absurd (cc e)
    not_given same types.currency v x e h = absurd (cc e)
    not_given same types.str v x e h = absurd (cc e)
    not_given same (types.fixed k) v x e h = absurd (cc e)
    not_given same (types.user k) v x e h = absurd (cc e)
    not_given same (types.class k) v x e h = absurd (cc e)
    not_given same types.object v x e h = absurd (cc e)
    not_given same types.variant v x e h = absurd (cc e)
    not_given same (types.array t r) v x e h = absurd (cc e)
    not_given same types.nothing v x e h = absurd (cc e)
    not_given same types.unknown v x e h = absurd (cc e)

    cast_given : (same : ℕ → ℕ → Bool) (s : Ty) (c : CastWord) (v : Value6) (x : ValueN) → is_to_decimal c ≡ true → goes_to_decimal s ≡ true → Matches same s v x → (u : ValueN) × (coerce_net x (cast_type c) ≡ value.gives u)
    cast_given same s word.CDec v x e g h = decimal_given same s v x g h
    cast_given same s word.CBool v x e g h = absurd (cc e)
    cast_given same s word.CByte v x e g h = absurd (cc e)
    cast_given same s word.CShort v x e g h = absurd (cc e)
    cast_given same s word.CInt v x e g h = absurd (cc e)
    cast_given same s word.CLng v x e g h = absurd (cc e)
    cast_given same s word.CStr v x e g h = absurd (cc e)
    cast_given same s word.CObj v x e g h = absurd (cc e)

    unary_given : (same : ℕ → ℕ → Bool) (s : Ty) (u : NetUn) (v : Value6) (x : ValueN) → is_not u ≡ true → has_not s ≡ true → Matches same s v x → (z : ValueN) × (operate_net (Un u) x x ≡ value.gives z)
    unary_given same s un.Not v x e g h = not_given same s v x g h
    unary_given same s un.Neg v x e g h = absurd (cc e)

    operand_is : (r : Row) → is_operand_a r ≡ true → r ≡ operand_a
    operand_is operand_a e = refl
    operand_is operand_b e = absurd (cc e)
    operand_is no_text e = absurd (cc e)
    operand_is (cast c r) e = absurd (cc e)
    operand_is (row.unary u r) e = absurd (cc e)
    operand_is (row.binary o r t) e = absurd (cc e)
    operand_is (call f r) e = absurd (cc e)

    safe_given : (same : ℕ → ℕ → Bool) (s : Ty) (r : Row) (x : ValueN) → is_safe s r ≡ true → IsOf same s x → Given r x
    safe_given same s operand_a x e h = (x, λ y. refl)
    safe_given same s operand_b x e h = absurd (cc e)
    safe_given same s no_text x e h = absurd (cc e)
    safe_given same s (cast c r) x e h =
        let outer = both_true (is_to_decimal c && goes_to_decimal s) (is_operand_a r) e in
        let inner = both_true (is_to_decimal c) (goes_to_decimal s) outer.0 in
        let given = cast_given same s c h.0 x inner.0 inner.1 h.1 in
        (given.0, λ y. ap (λ q. evaluate (cast c q) x y) (operand_is r outer.1) ∙ given.1)
    safe_given same s (row.unary u r) x e h =
        let outer = both_true (is_not u && has_not s) (is_operand_a r) e in
        let inner = both_true (is_not u) (has_not s) outer.0 in
        let given = unary_given same s u h.0 x inner.0 inner.1 h.1 in
        (given.0, λ y. ap (λ q. evaluate (row.unary u q) x y) (operand_is r outer.1) ∙ given.1)
    safe_given same s (row.binary o r t) x e h = absurd (cc e)
    safe_given same s (call f r) x e h = absurd (cc e)

    operand_over_a : (r : Row) → is_operand_a r ≡ true → is_over_a r ≡ true
    operand_over_a operand_a e = refl
    operand_over_a operand_b e = absurd (cc e)
    operand_over_a no_text e = absurd (cc e)
    operand_over_a (cast c r) e = absurd (cc e)
    operand_over_a (row.unary u r) e = absurd (cc e)
    operand_over_a (row.binary o r t) e = absurd (cc e)
    operand_over_a (call f r) e = absurd (cc e)

    safe_over_a : (s : Ty) (r : Row) → is_safe s r ≡ true → is_over_a r ≡ true
    safe_over_a s operand_a e = refl
    safe_over_a s operand_b e = absurd (cc e)
    safe_over_a s no_text e = absurd (cc e)
    safe_over_a s (cast c r) e = operand_over_a r (both_true (is_to_decimal c && goes_to_decimal s) (is_operand_a r) e).1
    safe_over_a s (row.unary u r) e = operand_over_a r (both_true (is_not u && has_not s) (is_operand_a r) e).1
    safe_over_a s (row.binary o r t) e = absurd (cc e)
    safe_over_a s (call f r) e = absurd (cc e)

    -- ---- a row over both operands

    abbrev Both : (ℕ → ℕ → Bool) → Ty → Row → Type 0
    Both same s r = RowOfTwo S oracle (IsOf same s) (row_exp r a b) a.exp b.exp (evaluate r)

    -- a row of one value behind a row of two
    behind_both : (same : ℕ → ℕ → Bool) (s : Ty) (r : Row) (whole : Exp) (f : ValueN → Answer ValueN) → RowOfOne S oracle Any whole (row_exp r a b) f → Both same s r
        → RowOfTwo S oracle (IsOf same s) whole a.exp b.exp (λ x y. then_answer (evaluate r x y) f)
    behind_both same s r whole f h both = record {
      behind = λ v w. then (both.behind v w) h.behind;
      is = λ w. h.is w ∙ ap (λ z. then z h.behind) (both.is w) ∙ then_assoc (value_of S oracle a.exp w) both.behind h.behind;
      second = λ x p. composed (λ y. evaluate r x y) (both.second x p) h.behind f (λ z w. h.on_single z w tt);
    }

    pub over_both : (same : ℕ → ℕ → Bool) (s : Ty) (r : Row) → is_over_both s r ≡ true → Both same s r
    over_both same s operand_a e = absurd (cc e)
    over_both same s operand_b e = absurd (cc e)
    over_both same s no_text e = absurd (cc e)
    over_both same s (cast c r) e = behind_both same s r (row_exp (cast c r) a b) (λ v. coerce_net v (cast_type c)) (cast_row c r) (over_both same s r e)
    over_both same s (row.unary u r) e = behind_both same s r (row_exp (row.unary u r) a b) (λ v. operate_net (Un u) v v) (unary_row u (row_exp r a b)) (over_both same s r e)
    over_both same s (call f r) e =
        let both = both_true (is_call f) (is_over_both s r) e in
        behind_both same s r (row_exp (call f r) a b) (called f) (call_row S oracle free f both.0 (row_exp r a b)) (over_both same s r both.1)
    over_both same s (row.binary o r t) e =
        let both = both_true (is_safe s r) (is_over_b t) e in
        let first = over_a r n.Nothing (safe_over_a s r both.0) in
        record {
          behind = λ v w. then (first.behind v w) (λ u w. then (value_of S oracle (row_exp t a b) w) (on_values (operate_net (Bin o)) u));
          is = λ w. binary_gives S oracle o (row_exp r a b) (row_exp t a b) w
              ∙ ap (λ z. then z (λ u w. then (value_of S oracle (row_exp t a b) w) (on_values (operate_net (Bin o)) u))) (first.is w)
              ∙ then_assoc (value_of S oracle a.exp w) first.behind (λ u w. then (value_of S oracle (row_exp t a b) w) (on_values (operate_net (Bin o)) u));
          second = λ x p. second_of o r t both.1 x first (safe_given same s r x both.0 p);
        }
      where
        second_of : (o : NetBin) (r t : Row) → is_over_b t ≡ true → (x : ValueN) (first : RowOfOne S oracle Any (row_exp r a b) a.exp (λ x. evaluate r x n.Nothing)) → Given r x
            → Follows Any (λ w. then (first.behind (single x) w) (λ u w. then (value_of S oracle (row_exp t a b) w) (on_values (operate_net (Bin o)) u))) (value_of S oracle b.exp) (λ y. answers (evaluate (row.binary o r t) x y))
        second_of o r t k x first given =
            goes_as (λ y w. ap (λ q. answers (then_answer q (λ v. then_answer (evaluate t x y) (λ z. operate_net (Bin o) v z))) w) (sym (given.1 y)))
            (restated (λ w.
            ap (λ z. then z (λ u w. then (value_of S oracle (row_exp t a b) w) (on_values (operate_net (Bin o)) u))) (first.on_single x w tt ∙ ap (λ q. answers q w) (given.1 n.Nothing))
            ∙ after_nil (then (value_of S oracle (row_exp t a b) w) (on_values (operate_net (Bin o)) (single given.0))))
            (composed (λ y. evaluate t x y) (over_b t x k) (on_values (operate_net (Bin o)) (single given.0)) (λ z. operate_net (Bin o) given.0 z) (λ z w. refl)))
