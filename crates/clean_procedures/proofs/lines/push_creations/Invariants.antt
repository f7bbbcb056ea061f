use Rattle.std.proofs.Common.{◌≡◌, ◌++◌, map, take}
use Rattle.std.specs.List.{flat_map}
use Rattle.bound_tree.specs.View.{shown}
use Rattle.clean_procedures.specs.Classes.{seen}
use Rattle.clean_procedures.specs.Pairs.{created_pairs}
use Rattle.clean_procedures.proofs.lines.push_creations.Given as goal

abbrev pub invariant-loop-e : goal.invariant-loop-e
invariant-loop-e l = l.to.items ≡ l.initial.to.items ++ flat_map (created_pairs (seen l.home) l.i) (map shown (take l.e-index l.uses))
