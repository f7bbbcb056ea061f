use Rattle.std.proofs.Common.{◌≡◌, map, drop}
use Rattle.bound_tree.specs.View.{shown_line}
use Rattle.bound_facts.specs.Facts.{is_resumable}
use Rattle.error_handlers.proofs.resuming.is_resumable.Given as goal

abbrev pub invariant-loop-line : goal.invariant-loop-line
invariant-loop-line l = is_resumable (map shown_line l.lines) ≡ is_resumable (map shown_line (drop l.line-index l.lines))
