use Rattle.std.proofs.Common.{◌≡◌, ◌++◌, take}
use Rattle.written_members.proofs.comments.push_ascii.Given as goal

abbrev pub invariant-loop-byte : goal.invariant-loop-byte
invariant-loop-byte l = l.to ≡ l.initial.to ++ take l.byte-index l.bytes
