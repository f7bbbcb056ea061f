-- Indexes of an array by its lower bounds.
use Rattle.std.specs.Prelude.{ℕ, zero, suc}
use Rattle.bound_tree.specs.Tree.{Expr, Exprs, no_exprs, next_expr}
use Rattle.net_tree.specs.Tree as net
use Rattle.written_trees.specs.Exprs.{exp_of, index_from}
use Rattle.written_trees.specs.Library.{low_at}
use Rattle.written_trees.specs.Names.{Scope}
use Rattle.written_exprs.specs.declared.members.Lows.{Lows}

abbrev pub lows_of : Scope → (array : Expr) → Lows
lows_of S a = record { first = low_at S a 0; second = low_at S a 1 }

abbrev pub index_by : Lows → (dimension : ℕ) → net.Exp → net.Exp
index_by lows zero i = index_from lows.first i
index_by lows (suc zero) i = index_from lows.second i
index_by lows (suc (suc d)) i = i

-- indexes from a dimension on
abbrev pub indexes_by : Scope → Lows → (dimension : ℕ) → Exprs → net.Exps
indexes_by S lows d no_exprs = net.no_exps
indexes_by S lows d (next_expr e rest) = net.next_exp (index_by lows d (exp_of S e)) (indexes_by S lows (suc d) rest)
