use Rattle.std.proofs.Common.{◌≡◌, true, map, take}
use Rattle.project_loader.specs.Texts.{are_bytes, filled}
use Rattle.project_loader.proofs.texts.filled_bytes.Given as goal

abbrev pub invariant-loop-byte : goal.invariant-loop-byte
invariant-loop-byte l = (l.all.items ≡ map filled (take l.byte-index l.bytes)) × (are_bytes (take l.byte-index l.bytes) ≡ true)
