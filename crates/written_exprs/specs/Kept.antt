-- What is kept of a node.
use Rattle.std.specs.Prelude.{Option, Some, None}
use Rattle.std.specs.Borrow.{Bor}
use Rattle.bound_tree.specs.declared.expression.BoundExpr.{BoundExpr}
use Rattle.bound_tree.specs.Tree.{Expr}
use Rattle.bound_tree.specs.View.{shown}

-- the part that is kept in the place of the whole, or the whole
abbrev pub kept_or : (whole : Expr) → Option (Bor BoundExpr) → Expr
kept_or whole None = whole
kept_or whole (Some part) = shown part
