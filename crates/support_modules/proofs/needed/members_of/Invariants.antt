use Rattle.std.proofs.Common.{◌≡◌, ◌++◌, map}
use Rattle.net_tree.specs.Tree.{proc}
use Rattle.net_tree.specs.View.{member_of, procedure_of}
use Rattle.support_modules.specs.Flags.{kept}
use Rattle.support_modules.proofs.needed.members_of.Given as goal

abbrev pub invariant-loop-f : goal.invariant-loop-f
invariant-loop-f l =
    map member_of l.members ++ map proc (kept (map procedure_of l.f-iterator.rest.items) l.rest) ≡ map proc (kept (map procedure_of l.fn.all.items) l.flags)
