-- What variables begin with, one kind at a time.
use Rattle.std.specs.Prelude.{ℕ, ℤ, ◌-ℤ◌, codes}
use Rattle.net_tree.specs.Tree as net
use Rattle.written_trees.specs.Conversions.{one, support_call}
use Rattle.written_trees.specs.Lines.{extent}
use Rattle.written_trees.specs.Literals.{number}
use Rattle.written_trees.specs.Names.{new_name}

abbrev pub extent_between : ℤ × ℤ → net.Exp
extent_between b = extent (b.1 -ℤ b.0)

abbrev pub fixed_value : (units : ℕ) → net.Exp
fixed_value units = support_call (codes "FixNew") (one (number units))

abbrev pub user_value : (user_type : ℕ) → net.Exp
user_value t = support_call (new_name t) net.no_exps
