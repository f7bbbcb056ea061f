-- What a run says of its outcome, and with which status it ends.
use Rattle.std.specs.Prelude.{ℕ, zero, suc, ◌+◌, ◌/◌, ◌%◌, List, [], ◌∷◌, ◌++◌, map, codes, unwrap_or}
use Rattle.std.specs.Fmt.{decimal}
use Rattle.std.specs.List.{flat_map, range_with_len}
use Rattle.issue_report.specs.Reports.{numbered_rule}
use Rattle.issue_report.specs.Texts.{fault_text}
use Rattle.up_base.specs.declared.place.Fault.{Fault}
use Rattle.project_loader.specs.declared.loading.LoadFail.{LoadFail}
use Rattle.project_loader.specs.declared.loading.LoadFail.TheVariants as load
use Rattle.wizard_cli.specs.declared.answer.Answer.{Answer}
use Rattle.wizard_cli.specs.declared.answer.Answer.TheVariants.{Done, Same, Differs, Made, Rules, BadWords, SettingsRefused, Refused, ReadFault, WriteFault, OutOfMemory}
use Rattle.wizard_cli.specs.declared.answer.Numbers.{Numbers}
use Rattle.wizard_cli.specs.declared.answer.Status.{Status}
use Rattle.wizard_cli.specs.declared.answer.Status.TheVariants as status

-- what is wrong, by the number of a fault; of a number that no fault has, nothing is said
abbrev pub said_of : ℕ → List ℕ
said_of kind = unwrap_or (fault_text kind) []

-- a number below 100 in two digits
abbrev pub two_digits : ℕ → List ℕ
two_digits n = (48 + n / 10) ∷ (48 + n % 10) ∷ []

-- the fault in the file of this name
abbrev pub fault_line : List ℕ → Fault → List ℕ
fault_line name fault = name ++ codes "(" ++ decimal fault.place.line ++ codes "): F" ++ two_digits fault.kind ++ codes " " ++ said_of fault.kind

-- what there is in a generated project
abbrev pub numbers_line : Numbers → List ℕ
numbers_line n =
    codes "modules " ++ decimal n.modules ++ codes ", procedures " ++ decimal n.procedures ++ codes ", issues " ++ decimal n.issues ++ codes ", clean " ++ decimal n.clean

-- so many rules from the second on, each behind a line feed
abbrev pub further_rules : ℕ → List ℕ
further_rules count = flat_map (λ text. 10 ∷ text) (map numbered_rule (range_with_len 2 count))

-- the 26 rules, each in a line of its own
abbrev pub rule_lines : List ℕ
rule_lines = numbered_rule 1 ++ further_rules 25

-- what is said of an outcome, without the line feed that ends it
abbrev pub answer_line : Answer → List ℕ
answer_line (Done issues) = codes "issues: " ++ decimal issues
answer_line (Same issues) = codes "same, issues: " ++ decimal issues
answer_line (Differs name) = codes "differs: " ++ name
answer_line (Made numbers) = numbers_line numbers
answer_line Rules = rule_lines
answer_line BadWords = codes "usage: vbup upgrade FILE.vbp, check FILE.vbp, make N, rules"
answer_line (SettingsRefused name) = codes "settings refused: " ++ name
answer_line (Refused name fault) = fault_line name fault
answer_line (ReadFault name) = codes "cannot read " ++ name
answer_line (WriteFault name) = codes "cannot write " ++ name
answer_line OutOfMemory = codes "out of memory"

abbrev pub answer_text : Answer → List ℕ
answer_text answer = answer_line answer ++ 10 ∷ []

-- the status of a run that is done, by the number of issues
abbrev pub done_status : ℕ → Status
done_status zero = status.Done
done_status (suc n) = status.DoneWithIssues

abbrev pub status_of : Answer → Status
status_of (Done issues) = done_status issues
status_of (Same issues) = done_status issues
status_of (Differs name) = status.Differs
status_of (Made numbers) = done_status numbers.issues
status_of Rules = status.Done
status_of BadWords = status.BadWords
status_of (SettingsRefused name) = status.BadWords
status_of (Refused name fault) = status.Refused
status_of (ReadFault name) = status.ReadFault
status_of (WriteFault name) = status.WriteFault
status_of OutOfMemory = status.OutOfMemory

-- what is answered where a project was not loaded
abbrev pub answer_to : LoadFail → Answer
answer_to (load.Refused name fault) = Refused name fault
answer_to (load.Failed name) = ReadFault name
answer_to load.Mem = OutOfMemory
