-- Literals that stand in the place of conversions.
use Rattle.std.proofs.Common.{◌≡◌, Bool, true, false, cond, ◌&&◌, Option, Some, None, refl}
use Rattle.vb_tree.specs.BoundTree.{Ty}
use Rattle.vb_tree.specs.declared.value.Value6.{Value6}
use Rattle.vb6_meaning.specs.Answers.{Answer}
use Rattle.vb6_meaning.specs.Answers as value
use Rattle.vb6_meaning.specs.Values.{coerce}
use Rattle.bound_tree.specs.declared.expression.Origin.{Origin}
use Rattle.bound_tree.specs.Tree.{Expr, typed, Term, constant, variable, field, element, call, library, unary, binary, convert, new_object, me, with_object, err_number, err_raise, err_clear, is_same, loose}
use Rattle.bound_facts.specs.Folded.{given_value}
use Rattle.net_tree.specs.Tree.{Exp}
use Rattle.written_trees.specs.Exprs.{exp_of}
use Rattle.written_trees.specs.Literals.{spelt, is_whole, takes_literals, literal_of, literal_as}
use Rattle.written_trees.specs.Names as written
use Rattle.net_run.specs.Making.{Jobs}
use Rattle.net_run.specs.Names.{Scope}
use Rattle.row_laws.specs.Constants.{IsHeld, Literal}
use Rattle.row_laws.specs.Rows.{Fits, operand_of}
use Rattle.row_laws.proofs.Literals.{constant_fits}

no_literal : (b : Bool) (l : Exp) → ◌≡◌ {A = Option Exp} (cond b None None) (Some l) → ⊥
no_literal true l h = absurd (cc h)
no_literal false l h = absurd (cc h)

-- what is written for an operand as a Decimal is what its conversion gives
pub expression_fits : (S : Scope) (oracle : Jobs) (T : written.Scope) (e : Expr) → IsHeld e → Fits S oracle (operand_of e (exp_of T e))
expression_fits S oracle T (typed ty t) held = of_term t held
  where
    of_term : (t : Term) → IsHeld (typed ty t) → Fits S oracle (operand_of (typed ty t) (exp_of T (typed ty t)))
    of_term (constant x origin) h l e = constant_fits S oracle x origin ty h.0 h.1 l e
    of_term (variable v k) h l e = absurd (no_literal (is_whole ty) l e)
    of_term (field a k) h l e = absurd (no_literal (is_whole ty) l e)
    of_term (element a k) h l e = absurd (no_literal (is_whole ty) l e)
    of_term (call p k o g) h l e = absurd (no_literal (is_whole ty) l e)
    of_term (library f k) h l e = absurd (no_literal (is_whole ty) l e)
    of_term (unary o a) h l e = absurd (no_literal (is_whole ty) l e)
    of_term (binary o a c) h l e = absurd (no_literal (is_whole ty) l e)
    of_term (convert to a) h l e = absurd (no_literal (is_whole ty) l e)
    of_term (new_object c) h l e = absurd (no_literal (is_whole ty) l e)
    of_term me h l e = absurd (no_literal (is_whole ty) l e)
    of_term (with_object r) h l e = absurd (no_literal (is_whole ty) l e)
    of_term err_number h l e = absurd (no_literal (is_whole ty) l e)
    of_term (err_raise a) h l e = absurd (no_literal (is_whole ty) l e)
    of_term err_clear h l e = absurd (no_literal (is_whole ty) l e)
    of_term (is_same a c) h l e = absurd (no_literal (is_whole ty) l e)
    of_term (loose a r) h l e = absurd (no_literal (is_whole ty) l e)

-- a literal in the place of a conversion is the constant that the conversion gives
pub literal_stands : (to from : Ty) (t : Term) (l : Exp) → literal_as to (typed from t) ≡ Some l → Literal to t l
literal_stands to from t l h = by_test (takes_literals to && is_whole from) t h
  where
    spelt_as : (x : Value6) (origin : Origin) (a : Answer Value6) → coerce x to ≡ a → spelt origin (given_value a) ≡ Some l → Literal to (constant x origin) l
    spelt_as x origin (value.gives y) e h = (y, e, cc h)
    spelt_as x origin (value.raises k) e h = absurd (cc h)
    spelt_as x origin value.outside e h = absurd (cc h)

    of_term : (t : Term) → literal_of to t ≡ Some l → Literal to t l
    of_term (constant x origin) h = spelt_as x origin (coerce x to) refl h
    of_term (variable v k) h = absurd (cc h)
    of_term (field a k) h = absurd (cc h)
    of_term (element a k) h = absurd (cc h)
    of_term (call p k o g) h = absurd (cc h)
    of_term (library f k) h = absurd (cc h)
    of_term (unary o a) h = absurd (cc h)
    of_term (binary o a c) h = absurd (cc h)
    of_term (convert q a) h = absurd (cc h)
    of_term (new_object c) h = absurd (cc h)
    of_term me h = absurd (cc h)
    of_term (with_object r) h = absurd (cc h)
    of_term err_number h = absurd (cc h)
    of_term (err_raise a) h = absurd (cc h)
    of_term err_clear h = absurd (cc h)
    of_term (is_same a c) h = absurd (cc h)
    of_term (loose a r) h = absurd (cc h)

    by_test : (b : Bool) (t : Term) → cond b (literal_of to t) None ≡ Some l → Literal to t l
    by_test true t h = of_term t h
    by_test false t h = absurd (cc h)
