-- The parts of constant expressions.
use Rattle.std.proofs.Common.{◌≡◌, ◌&&◌}
use Rattle.std.proofs.lemmas.List.Folds.{list_all-append}
use Rattle.vb_tree.specs.BoundTree.{Ty}
use Rattle.vb_tree.specs.declared.expression.BinOp.{BinOp}
use Rattle.bound_tree.specs.Tree.{Expr, typed, binary}
use Rattle.bound_facts.specs.Nodes.{nodes}
use Rattle.expression_words.specs.Operators.{is_constant_expression, is_constant_part}

pub binary_constant : (ty : Ty) (op : BinOp) (x y : Expr) → is_constant_expression (typed ty (binary op x y)) ≡ (is_constant_expression x && is_constant_expression y)
binary_constant ty op x y = list_all-append is_constant_part (nodes x) (nodes y)
