use Rattle.std.proofs.Common.{◌≡◌, ◌++◌, map, take}
use Rattle.std.specs.Prelude.{flat_map}
use Rattle.net_tree.specs.View.{line_of}
use Rattle.support_modules.specs.Paths.{paths_of_line, shown}
use Rattle.support_modules.proofs.paths.push_lines.Given as goal

abbrev pub invariant-loop-line : goal.invariant-loop-line
invariant-loop-line l = map shown l.to.items ≡ map shown l.initial.to.items ++ flat_map paths_of_line (map line_of (take l.line-index l.lines))
