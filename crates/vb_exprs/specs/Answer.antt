-- What the call answers.
use Rattle.std.specs.Prelude.{◌≡◌, ℕ, ◌+◌, ◌<◌, ◌≤◌, List, drop, Option, Some, None, Result, Ok, Err}
use Rattle.vb_tree.specs.declared.expression.Expr6.{Expr6}
use Rattle.vb_tree.specs.declared.token.Token.{Token}
use Rattle.vb_tree.specs.Tree.{Exp}
use Rattle.vb_tree.specs.View.{exp_of}
use Rattle.vb_tree.specs.Expressions.{Begins, BeginsLongest, depth_of}
use Rattle.vb_exprs.specs.declared.expression.ExprRead.{ExprRead}
use Rattle.vb_exprs.specs.declared.fail.ExprFail.{ExprFail}
use Rattle.vb_exprs.specs.declared.fail.ExprFail.TheVariants as fail

-- The longest expression that the tokens begin with, if it is no deeper than 64. No other one is as long.
pub record IsRead (tokens : List Token) (t : Exp) (len : ℕ) : Type 0 where
  pub longest : BeginsLongest tokens t len
  pub only : (u : Exp) (m : ℕ) → BeginsLongest tokens u m → u ≡ t
  pub shallow : depth_of t ≤ 64

-- there is a longest expression, and it is deeper than 64
pub record IsTooDeep (tokens : List Token) : Type 0 where
  pub tree : Exp
  pub len : ℕ
  pub longest : BeginsLongest tokens tree len
  pub deep : (u : Exp) (m : ℕ) → BeginsLongest tokens u m → 64 < depth_of u

-- no expression begins there
abbrev pub IsNotExpr : List Token → Type 0
IsNotExpr tokens = (u : Exp) (m : ℕ) → Begins tokens u m → ⊥

-- the number of tokens of the longest expression that the tokens begin with, if one begins there
abbrev pub IsFrontLength : List Token → Option ℕ → Type 0
IsFrontLength tokens None = IsNotExpr tokens
IsFrontLength tokens (Some len) = (t : Exp) × BeginsLongest tokens t len

abbrev pub FailsFor : List Token → ExprFail → Type 0
FailsFor tokens fail.NotExpr = IsNotExpr tokens
FailsFor tokens fail.TooDeep = IsTooDeep tokens
FailsFor tokens fail.Mem = Unit {0}

abbrev pub AnswersFront : List Token → Result (Expr6 × ℕ) ExprFail → Type 0
AnswersFront tokens (Ok read) = IsRead tokens (exp_of read.0) read.1
AnswersFront tokens (Err e) = FailsFor tokens e

-- the answer to what stands from a place on
abbrev pub Answers : List Token → ℕ → Result ExprRead ExprFail → Type 0
Answers tokens from (Ok read) = (len : ℕ) × (read.next ≡ from + len) × IsRead (drop from tokens) (exp_of read.expr) len
Answers tokens from (Err e) = FailsFor (drop from tokens) e
