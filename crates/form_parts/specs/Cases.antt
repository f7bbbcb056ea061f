-- Items of a Case: `e`, `e To e`, or `Is` with a comparison and `e`.
use Rattle.std.specs.Prelude.{◌≡◌, ℕ, max, List, [], ◌∷◌, Option, Some, None, Bool, true, false, codes}
use Rattle.vb_tree.specs.declared.expression.BinOp.{BinOp}
use Rattle.vb_tree.specs.declared.expression.BinOp.TheVariants as op
use Rattle.vb_tree.specs.declared.token.Sign.{Sign}
use Rattle.vb_tree.specs.declared.token.Sign.TheVariants.{Equal, Less, Greater, LessEqual, GreaterEqual, NotEqual}
use Rattle.vb_tree.specs.declared.token.Token.{Token}
use Rattle.vb_tree.specs.declared.token.TokenKind.{TokenKind}
use Rattle.vb_tree.specs.declared.token.TokenKind.TheVariants as kind
use Rattle.vb_tree.specs.Tree.{Exp, CaseItem, case_value, case_range, case_is}
use Rattle.vb_tree.specs.Expressions.{IsExpression, depth_of}
use Rattle.form_parts.specs.Words.{is_key}
use Rattle.form_parts.specs.Parts.{IsJoined}

abbrev pub comparison_sign : Sign → Option BinOp
comparison_sign Equal = Some op.Equal
comparison_sign NotEqual = Some op.NotEqual
comparison_sign Less = Some op.Less
comparison_sign Greater = Some op.Greater
comparison_sign LessEqual = Some op.LessEqual
comparison_sign GreaterEqual = Some op.GreaterEqual
comparison_sign _ = None

-- the comparison that a token is
abbrev pub comparison : TokenKind → Option BinOp
comparison (kind.Word n s) = None
comparison (kind.Bracketed n s) = None
comparison (kind.Lit l) = None
comparison (kind.Sign s) = comparison_sign s

-- whether the word Is stands first
abbrev pub begins_is : List Token → Bool
begins_is [] = false
begins_is (t ∷ ts) = is_key (codes "is") t

abbrev pub IsTested : List Token → BinOp → Exp → Type 0
IsTested [] o e = ⊥
IsTested (t ∷ ts) o e = (comparison t.kind ≡ Some o) × IsExpression ts e

abbrev pub IsTest : List Token → BinOp → Exp → Type 0
IsTest [] o e = ⊥
IsTest (t ∷ ts) o e = IsTested ts o e

abbrev pub IsCaseItem : List Token → CaseItem → Type 0
IsCaseItem tokens (case_value e) = (begins_is tokens ≡ false) × IsExpression tokens e
IsCaseItem tokens (case_range a b) = (begins_is tokens ≡ false) × (before : List Token) × (after : List Token) × IsJoined (codes "to") tokens before after × IsExpression before a × IsExpression after b
IsCaseItem tokens (case_is o e) = (begins_is tokens ≡ true) × IsTest tokens o e

abbrev pub case_depth : CaseItem → ℕ
case_depth (case_value e) = depth_of e
case_depth (case_range a b) = max (depth_of a) (depth_of b)
case_depth (case_is o e) = depth_of e
