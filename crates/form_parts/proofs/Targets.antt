-- A target is an expression of a limited shape.
use Rattle.std.proofs.Common.{◌≡◌, true, List, Result, Ok, Err}
use Rattle.vb_tree.specs.declared.expression.Expr6.{Expr6}
use Rattle.vb_tree.specs.declared.token.Token.{Token}
use Rattle.vb_tree.specs.View.{exp_of}
use Rattle.vb_tree.specs.Expressions.{IsExpression, depth_of}
use Rattle.form_parts.specs.declared.answer.PartFail.{PartFail}
use Rattle.form_parts.specs.declared.answer.PartFail.TheVariants as fail
use Rattle.form_parts.specs.Answer.{Answers}
use Rattle.form_parts.specs.Chains.{IsTarget, IsCallee, last_link, is_whole, is_member}

pub target_answers : (tokens : List Token) (r : Result Expr6 PartFail) → is_whole (last_link tokens) ≡ true → Answers exp_of (IsExpression tokens) depth_of r → Answers exp_of (IsTarget tokens) depth_of r
target_answers tokens (Ok e) whole h = ((h.0, whole), h.1)
target_answers tokens (Err fail.NotFound) whole h = λ x t. h x t.0
target_answers tokens (Err fail.TooDeep) whole h = (h.0, (h.1, whole), h.2)
target_answers tokens (Err fail.Mem) whole h = tt

pub callee_answers : (tokens : List Token) (r : Result Expr6 PartFail) → is_member (last_link tokens) ≡ true → Answers exp_of (IsExpression tokens) depth_of r → Answers exp_of (IsCallee tokens) depth_of r
callee_answers tokens (Ok e) whole h = ((h.0, whole), h.1)
callee_answers tokens (Err fail.NotFound) whole h = λ x t. h x t.0
callee_answers tokens (Err fail.TooDeep) whole h = (h.0, (h.1, whole), h.2)
callee_answers tokens (Err fail.Mem) whole h = tt
