use Rattle.std.proofs.Common.{◌≡◌, drop}
use Rattle.up_base.specs.MemoryTwins.{lookup}
use Rattle.up_base.specs.FileStore.{files_of}
use Rattle.up_base.proofs.file_store.FileStore.held.Given as goal

abbrev pub invariant-loop-e : goal.invariant-loop-e
invariant-loop-e l = lookup l.self.files l.name ≡ lookup (files_of l.buffer (drop l.e-index l.e-items)) l.name
