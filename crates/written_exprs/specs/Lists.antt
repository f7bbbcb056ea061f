-- Lists of expressions.
use Rattle.std.specs.Prelude.{List, [], ◌∷◌}
use Rattle.net_tree.specs.declared.expression.NetExpr.{NetExpr}
use Rattle.net_tree.specs.Tree.{Exps, next_exp}
use Rattle.net_tree.specs.View.{exp_of}

-- expressions before others
abbrev pub exps_before : List NetExpr → Exps → Exps
exps_before [] more = more
exps_before (a ∷ rest) more = next_exp (exp_of a) (exps_before rest more)
