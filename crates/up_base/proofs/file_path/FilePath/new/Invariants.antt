use Rattle.std.proofs.Common.{◌≡◌, ◌+◌, length, take}
use Rattle.up_base.specs.Paths.{path_of}
use Rattle.up_base.proofs.file_path.FilePath.new.Given as goal

abbrev pub invariant-loop-i : goal.invariant-loop-i
invariant-loop-i l = (length l.bytes ≡ 514) × (take (l.i + 2) l.bytes ≡ path_of (take l.i l.name))
