-- The extents of arrays, one at a time.
use Rattle.std.specs.Prelude.{ℤ, negsuc, ◌-ℤ◌}
use Rattle.net_tree.specs.Tree as net
use Rattle.written_trees.specs.Lines.{extent}

abbrev pub extent_between : ℤ × ℤ → net.Exp
extent_between b = extent (b.1 -ℤ b.0)

-- of an array without elements
abbrev pub none : net.Exp
none = extent (negsuc 0)
