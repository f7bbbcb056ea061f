use Rattle.std.proofs.Common.{◌≡◌, ◌++◌, map, take}
use Rattle.std.specs.List.{flat_map}
use Rattle.bound_tree.specs.View.{shown_line}
use Rattle.clean_procedures.specs.Classes.{seen}
use Rattle.clean_procedures.specs.Pairs.{line_pairs}
use Rattle.clean_procedures.proofs.lines.push_body.Given as goal

abbrev pub invariant-loop-line : goal.invariant-loop-line
invariant-loop-line l = l.to.items ≡ l.initial.to.items ++ flat_map (line_pairs (seen l.home) l.i) (map shown_line (take l.line-index l.lines))
