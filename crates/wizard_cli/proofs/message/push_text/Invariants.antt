use Rattle.std.proofs.Common.{◌≡◌, ◌++◌, take}
use Rattle.wizard_cli.proofs.message.push_text.Given as goal

abbrev pub invariant-loop-byte : goal.invariant-loop-byte
invariant-loop-byte l = l.message ≡ l.initial.message ++ take l.byte-index l.text
