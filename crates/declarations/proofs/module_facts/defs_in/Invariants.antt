use Rattle.std.proofs.Common.{◌≡◌, ◌++◌, drop, map}
use Rattle.vb_tree.specs.View.{member_of}
use Rattle.declarations.specs.ModuleFacts.{def_lines}
use Rattle.declarations.specs.View.{def_of}
use Rattle.declarations.proofs.module_facts.defs_in.Given as goal

abbrev pub invariant-loop-member : goal.invariant-loop-member
invariant-loop-member l =
    map def_of l.defs.items ++ def_lines l.next (map member_of (drop l.member-index l.members))
    ≡ def_lines 0 (map member_of l.members)
