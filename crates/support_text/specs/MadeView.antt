-- What the machine of the code has made so far.
use Rattle.std.specs.Prelude.{map}
use Rattle.net_tree.specs.View.{exp_of, line_of, dim_of}
use Rattle.support_text.specs.declared.making.Making.{Making}
use Rattle.support_text.specs.Steps.{Made}

unfoldable pub made : Making → Made
made m = record { exps = map exp_of m.exps.items; prologue = map dim_of m.prologue.items; lines = map line_of m.lines.items }
