-- What the program ends with.
use Rattle.std.specs.Prelude.{ℕ}
use Rattle.std.specs.declared.io.ErrorKind.{ErrorKind}
use Rattle.std.specs.declared.io.ErrorKind.TheVariants.{OutOfMemory as NoMemory}
use Rattle.wizard_cli.specs.declared.answer.Status.{Status}
use Rattle.wizard_cli.specs.declared.answer.Status.TheVariants.{Done, DoneWithIssues, BadWords, Refused, ReadFault, WriteFault, ConsoleFault, OutOfMemory, Differs}

-- the number of a status
abbrev pub exit_number : Status → ℕ
exit_number Done = 0
exit_number DoneWithIssues = 1
exit_number BadWords = 2
exit_number Refused = 3
exit_number ReadFault = 4
exit_number WriteFault = 5
exit_number ConsoleFault = 6
exit_number OutOfMemory = 7
exit_number Differs = 8

-- the status where the arguments could not be had
abbrev pub refusal_of : ErrorKind → Status
refusal_of NoMemory = OutOfMemory
refusal_of _ = BadWords
