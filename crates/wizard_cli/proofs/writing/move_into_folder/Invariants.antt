use Rattle.std.proofs.Common.{◌≡◌}
use Rattle.wizard_cli.proofs.Puts.{moved_to}
use Rattle.wizard_cli.proofs.writing.move_into_folder.Given as goal

abbrev pub invariant-loop-file : goal.invariant-loop-file
invariant-loop-file l = l.file-items ≡ moved_to l.file-index l.initial.file-items
