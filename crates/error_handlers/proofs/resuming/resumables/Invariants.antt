use Rattle.std.proofs.Common.{◌≡◌, map, take}
use Rattle.bound_tree.specs.Lines.{lines_of}
use Rattle.bound_facts.specs.Facts.{is_resumable}
use Rattle.error_handlers.proofs.resuming.resumables.Given as goal

abbrev pub invariant-loop-body : goal.invariant-loop-body
invariant-loop-body l = l.all.items ≡ map is_resumable (map lines_of (take l.body-index l.lines))
