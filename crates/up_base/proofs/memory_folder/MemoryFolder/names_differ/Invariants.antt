use Rattle.std.proofs.Common.{◌≡◌, drop}
use Rattle.up_base.specs.MemoryTwins.{are_distinct}
use Rattle.up_base.proofs.memory_folder.MemoryFolder.names_differ.Given as goal

abbrev pub invariant-loop-i : goal.invariant-loop-i
invariant-loop-i l = are_distinct l.files ≡ are_distinct (drop l.i l.files)
