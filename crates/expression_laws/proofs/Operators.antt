-- Operators on operands that agree.
use Rattle.std.proofs.Common.{◌≡◌, ◌∙◌, refl, ap, subst, ℕ, Bool, true, false, cond, ◌||◌, [], Option, Some, None, IfSome}
use Rattle.vb_tree.specs.BoundTree as types
use Rattle.vb_tree.specs.BoundTree.{Ty}
use Rattle.vb_tree.specs.declared.bound.Op6.TheVariants as op6
use Rattle.vb_tree.specs.declared.expression.BinOp.{BinOp}
use Rattle.vb_tree.specs.declared.expression.BinOp.TheVariants as bin
use Rattle.vb_tree.specs.declared.expression.UnOp.{UnOp}
use Rattle.vb_tree.specs.declared.expression.UnOp.TheVariants as un
use Rattle.vb_tree.specs.declared.value.Value6.{Value6}
use Rattle.vb6_meaning.specs.Values.{operate}
use Rattle.bound_tree.specs.Tree.{Expr, typed, constant, variable, field, element, call, library, unary, binary, convert, new_object, me, with_object, err_number, err_raise, err_clear, is_same, loose}
use Rattle.bound_facts.specs.Folded.{binary_row, unary_row}
use Rattle.bound_facts.specs.Locks.{is_same_type}
use Rattle.bound_facts.specs.Node.{type_at, is_variant}
use Rattle.net_tree.specs.Tree.{Exp}
use Rattle.net_meaning.specs.declared.value.ValueN.{ValueN}
use Rattle.net_meaning.specs.declared.value.ValueN.TheVariants as net_scalar
use Rattle.net_meaning.specs.SameValues.{IsSame, IsSameOperator, IsSameUnary}
use Rattle.net_meaning.specs.SameValues as values
use Rattle.net_meaning.specs.WrittenRows.{Written, evaluate}
use Rattle.meaning_laws.proofs.SameRows as same
use Rattle.meaning_laws.proofs.ConversionRows.{minus, turn}
use Rattle.run_base.specs.Outcomes.{Outcome, after, then}
use Rattle.vb6_run.specs.Expressions as source
use Rattle.vb6_run.specs.Store.{Memory}
use Rattle.net_run.specs.Expressions as target
use Rattle.net_run.specs.Making.{Jobs}
use Rattle.net_run.specs.Names as net_names
use Rattle.written_trees.specs.Operators.{binary_exp, unary_exp}
use Rattle.run_matches.specs.Agreeing.{Agrees}
use Rattle.run_matches.specs.CoveredVariables.{covers_type}
use Rattle.run_matches.specs.CoveredExprs.{covers_operator}
use Rattle.run_matches.specs.Likeness.{are_same}
use Rattle.run_matches.specs.Maps.{World}
use Rattle.run_matches.specs.Match.{MemoryMatch}
use Rattle.run_matches.specs.Pledges.{Pledge, Later}
use Rattle.run_matches.specs.Upgrades.{Upgrade}
use Rattle.run_statements.specs.Frames.{PlainMatch}
use Rattle.row_laws.specs.Constants.{IsHeld}
use Rattle.row_laws.specs.Follows.{Any, RowOfOne, RowOfTwo}
use Rattle.row_laws.specs.Rows.{IsOf, Fits, operand_of, is_direct, is_ready}
use Rattle.run_matches.specs.Formed.{is_row_of_one, is_row_of_two, is_formed}
use Rattle.expression_laws.proofs.Types.{both_true, same_as}
use Rattle.expression_laws.proofs.Checks.{TermMatch}
use Rattle.expression_laws.proofs.Conversions.{IsConstant, formed_constant}
use Rattle.expression_laws.proofs.RowsAgree.{any_same, At, one_agrees, two_agree}

-- each operator but Is
pub same_operator : (equal : ℕ → ℕ → Bool) (o : BinOp) → covers_operator o ≡ true → IsSameOperator equal o
same_operator r bin.Pow e = same.pow r
same_operator r bin.Mul e = same.multiply r
same_operator r bin.Div e = same.div r
same_operator r bin.IntDiv e = same.divide r
same_operator r bin.Mod e = same.modulo r
same_operator r bin.Add e = same.add r
same_operator r bin.Sub e = same.subtract r
same_operator r bin.Concat e = same.concatenate r
same_operator r bin.Equal e = same.equal r
same_operator r bin.NotEqual e = same.not_equal r
same_operator r bin.Less e = same.less r
same_operator r bin.Greater e = same.greater r
same_operator r bin.LessEqual e = same.less_equal r
same_operator r bin.GreaterEqual e = same.greater_equal r
same_operator r bin.Is e = absurd (cc e)
same_operator r bin.Like e = same.like r
same_operator r bin.And e = same.both r
same_operator r bin.Or e = same.either r
same_operator r bin.Xor e = same.one_alone r
same_operator r bin.Eqv e = same.alike r
same_operator r bin.Imp e = same.implies r

pub same_unary : (equal : ℕ → ℕ → Bool) (o : UnOp) → IsSameUnary equal o
same_unary r un.Neg = minus r
same_unary r un.Not = turn r

no_variant : (s : Ty) → covers_type s ≡ true → is_variant s ≡ false
no_variant types.variant h = absurd (cc h)
no_variant _ h = refl

pub typed_unary : (s : Ty) (o : UnOp) → covers_type s ≡ true → unary_row s o ≡ op6.TypedUn o
typed_unary s o h = ap (λ z. cond z (op6.VariantUn o) (op6.TypedUn o)) (no_variant s h)

pub typed_binary : (s t : Ty) (o : BinOp) → covers_type s ≡ true → covers_type t ≡ true → binary_row s t o ≡ op6.Typed o
typed_binary s t o h i =
    ap (λ z. cond (z || is_variant t) (op6.Variant o) (op6.Typed o)) (no_variant s h)
    ∙ ap (λ z. cond z (op6.Variant o) (op6.Typed o)) (no_variant t i)

-- where an operand is a constant, it is one of its type
pub formed_held : (e : Expr) → covers_type (type_at e) ≡ true → is_formed e ≡ true → IsHeld e
formed_held (typed ty (constant x origin)) covers h =
    let is : IsConstant ty x = formed_constant ty x origin covers h in
    (is.within, is.is_type)
formed_held (typed ty (variable v qualified)) covers h = tt
formed_held (typed ty (field e k)) covers h = tt
formed_held (typed ty (element e indexes)) covers h = tt
formed_held (typed ty (call p qualified of args)) covers h = tt
formed_held (typed ty (library f args)) covers h = tt
formed_held (typed ty (unary o e)) covers h = tt
formed_held (typed ty (binary o d e)) covers h = tt
formed_held (typed ty (convert to e)) covers h = tt
formed_held (typed ty (new_object c)) covers h = tt
formed_held (typed ty me) covers h = tt
formed_held (typed ty (with_object root)) covers h = tt
formed_held (typed ty err_number) covers h = tt
formed_held (typed ty (err_raise e)) covers h = tt
formed_held (typed ty err_clear) covers h = tt
formed_held (typed ty (is_same d e)) covers h = tt
formed_held (typed ty (loose e rules)) covers h = tt

module _ (U : Upgrade) (K : Pledge) (S : net_names.Scope) (oracle : Jobs) where
  pub unary_agrees : (o : UnOp) (ty : Ty) (e : Expr) (a : Exp) (x : Option Written) (r : Outcome Memory Value6) (w : World) → covers_type ty ≡ true
      → is_row_of_one ty x ≡ true
      → IfSome x (λ q. is_direct q.row ≡ true → RowOfOne S oracle Any (unary_exp o q.ty e a) a (λ y. evaluate q.row y net_scalar.Nothing))
      → ((v : World) (z : Value6) (y : ValueN) → At v (type_at e) z y → IsSame (are_same v) (operate (op6.TypedUn o) z z) x y net_scalar.Nothing)
      → MemoryMatch U w → Agrees U K w (PlainMatch U (type_at e)) r (target.value_of S oracle a w.net)
      → Agrees U K w (TermMatch U ty) (then r (λ z v. source.answer_as ty (operate (op6.TypedUn o) z z) v)) (target.value_of S oracle (unary_exp o ty e a) w.net)
  unary_agrees o ty e a None r w covers formed h law start operand = absurd (cc formed)
  unary_agrees o ty e a (Some q) r w covers formed h law start operand =
      let both = both_true (is_same_type q.ty ty) (is_direct q.row) formed in
      let is : q.ty ≡ ty = same_as q.ty ty covers both.0 in
      one_agrees U K S oracle (type_at e) ty (λ z. operate (op6.TypedUn o) z z) (λ y. evaluate q.row y net_scalar.Nothing) (unary_exp o ty e a) a r w
      (subst (λ t. RowOfOne S oracle Any (unary_exp o t e a) a (λ y. evaluate q.row y net_scalar.Nothing)) is (h both.1))
      (λ v z y m. subst (λ t. values.Agrees (At v t) (operate (op6.TypedUn o) z z) (evaluate q.row y net_scalar.Nothing)) is (law v z y m)) start operand

  pub binary_agrees : (o : BinOp) (ty : Ty) (d e : Expr) (a c : Exp) (x : Option Written) (r : Outcome Memory Value6) (r' : Memory → Outcome Memory Value6) (w : World)
      → covers_type ty ≡ true → is_row_of_two o ty x ≡ true
      → IfSome x (λ q. is_ready o q ≡ true → Fits S oracle (operand_of d a) → Fits S oracle (operand_of e c)
      → RowOfTwo S oracle (IsOf any_same (type_at d)) (binary_exp o q.ty d e a c) a c (evaluate q.row))
      → Fits S oracle (operand_of d a) → Fits S oracle (operand_of e c)
      → ((v : World) (z z' : Value6) (y y' : ValueN) → At v (type_at d) z y → At v (type_at e) z' y'
      → IsSame (are_same v) (operate (op6.Typed o) z z') x y y')
      → MemoryMatch U w → Agrees U K w (PlainMatch U (type_at d)) r (target.value_of S oracle a w.net)
      → ((v : World) → Later U K w v → Agrees U K v (PlainMatch U (type_at e)) (r' v.src) (target.value_of S oracle c v.net))
      → Agrees U K w (TermMatch U ty) (then r (λ z v. after [] (then (r' v) (λ z' u. source.answer_as ty (operate (op6.Typed o) z z') u))))
      (target.value_of S oracle (binary_exp o ty d e a c) w.net)
  binary_agrees o ty d e a c None r r' w covers formed h fits_a fits_c law start operand other = absurd (cc formed)
  binary_agrees o ty d e a c (Some q) r r' w covers formed h fits_a fits_c law start operand other =
      let both = both_true (is_same_type q.ty ty) (is_ready o q) formed in
      let is : q.ty ≡ ty = same_as q.ty ty covers both.0 in
      two_agree U K S oracle (type_at d) (type_at e) ty (λ z z'. operate (op6.Typed o) z z') (evaluate q.row) (binary_exp o ty d e a c) a c r r' w
      (subst (λ t. RowOfTwo S oracle (IsOf any_same (type_at d)) (binary_exp o t d e a c) a c (evaluate q.row)) is (h both.1 fits_a fits_c))
      (λ v z z' y y' m m'. subst (λ t. values.Agrees (At v t) (operate (op6.Typed o) z z') (evaluate q.row y y')) is (law v z z' y y' m m')) start operand other
