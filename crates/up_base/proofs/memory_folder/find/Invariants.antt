use Rattle.std.proofs.Common.{◌≡◌, drop}
use Rattle.up_base.specs.MemoryTwins.{lookup}
use Rattle.up_base.proofs.memory_folder.find.Given as goal

abbrev pub invariant-loop-other : goal.invariant-loop-other
invariant-loop-other l = lookup l.files l.name ≡ lookup (drop l.other-index l.files) l.name
