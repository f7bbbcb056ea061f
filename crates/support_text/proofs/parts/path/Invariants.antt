use Rattle.std.proofs.Common.{◌≡◌, map, take}
use Rattle.support_text.proofs.parts.path.Given as goal

abbrev pub invariant-loop-bytes : goal.invariant-loop-bytes
invariant-loop-bytes l = l.path ≡ map (λ n. n.now) (take l.bytes-index l.names)
