use Rattle.std.proofs.Common.{◌≡◌, ◌++◌, map, drop}
use Rattle.std.specs.Prelude.{zip}
use Rattle.bound_tree.specs.View.{shown_line}
use Rattle.written_members.specs.View.{code_of}
use Rattle.written_members.proofs.bodies.joined.Given as goal

abbrev pub invariant-loop-line : goal.invariant-loop-line
invariant-loop-line l =
    map code_of l.code.items ++ zip l.rest (map shown_line (drop l.line-index l.lines)) ≡ zip l.sets (map shown_line l.lines)
