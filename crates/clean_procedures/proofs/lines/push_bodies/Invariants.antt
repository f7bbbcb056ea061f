use Rattle.std.proofs.Common.{◌≡◌, ◌++◌, map, drop}
use Rattle.bound_tree.specs.Lines.{lines_of}
use Rattle.bound_facts.specs.Items.{items_from}
use Rattle.clean_procedures.specs.Classes.{seen}
use Rattle.clean_procedures.specs.Pairs.{line_pairs}
use Rattle.clean_procedures.proofs.lines.push_bodies.Given as goal

abbrev pub invariant-loop-i : goal.invariant-loop-i
invariant-loop-i l = l.initial.to.items ++ items_from (line_pairs (seen l.home)) 0 (map lines_of l.lines) ≡ l.to.items ++ items_from (line_pairs (seen l.home)) l.i (map lines_of (drop l.i l.lines))
