-- The reports on an upgrade: a line for each issue, and in the second version one for each procedure too.
use Rattle.std.specs.Prelude.{ℕ, ◌+◌, ◌/◌, ◌%◌, Bool, true, false, List, [], ◌∷◌, ◌++◌, length, slice_get, codes, unwrap_or}
use Rattle.std.specs.List.{flat_map, count_by}
use Rattle.std.specs.Fmt.{decimal}
use Rattle.up_base.specs.LineEnd.{line_end}
use Rattle.up_base.specs.declared.place.Place.{Place}
use Rattle.up_base.specs.declared.issue.Issue.{Issue}
use Rattle.issue_report.specs.Texts.{rule_text}
use Rattle.issue_report.specs.declared.verdict.Part.{Part}
use Rattle.issue_report.specs.declared.verdict.Part.TheVariants.{Plain, GetPart, LetPart, SetPart}
use Rattle.issue_report.specs.declared.verdict.VerdictWord.{VerdictWord}
use Rattle.issue_report.specs.declared.verdict.VerdictWord.TheVariants.{Clean, Flagged, Reaches}
use Rattle.issue_report.specs.declared.verdict.Verdict.{Verdict}

-- a number below 100 in two digits
abbrev pub two_digits : ℕ → List ℕ
two_digits n = (48 + n / 10) ∷ (48 + n % 10) ∷ []

-- the name of a file, by its number; a file without one has no characters
abbrev pub name_of_file : List (List ℕ) → ℕ → List ℕ
name_of_file names file = unwrap_or (slice_get names file) []

abbrev pub place_text : List (List ℕ) → Place → List ℕ
place_text names place = name_of_file names place.file ++ codes "(" ++ decimal place.line ++ codes ")"

-- a rule's number and its text
abbrev pub numbered_rule : ℕ → List ℕ
numbered_rule rule = codes "U" ++ two_digits rule ++ codes " " ++ unwrap_or (rule_text rule) []

abbrev pub issue_line : List (List ℕ) → Issue → List ℕ
issue_line names issue = place_text names issue.place ++ codes ": " ++ numbered_rule issue.rule ++ line_end

-- how many there are of something, after what it is
abbrev pub count_text : List ℕ → ℕ → List ℕ
count_text label count = label ++ decimal count

-- the line that counts the issues
abbrev pub issue_count_line : List Issue → List ℕ
issue_count_line issues = count_text (codes "issues: ") (length issues) ++ line_end

-- the issues in their order, and how many they are
abbrev pub issues_text : List Issue → List (List ℕ) → List ℕ
issues_text issues names = flat_map (issue_line names) issues ++ issue_count_line issues

-- which part of a property a procedure is, where it is one
abbrev pub part_text : Part → List ℕ
part_text Plain = []
part_text GetPart = codes " Get"
part_text LetPart = codes " Let"
part_text SetPart = codes " Set"

abbrev pub word_text : VerdictWord → List ℕ
word_text Clean = codes "clean"
word_text Flagged = codes "flagged"
word_text Reaches = codes "reaches"

-- a procedure's name, with the part of a property that it is
abbrev pub procedure_name : Verdict → List ℕ
procedure_name verdict = verdict.name ++ part_text verdict.part

abbrev pub verdict_line : List (List ℕ) → Verdict → List ℕ
verdict_line names verdict =
    name_of_file names verdict.file ++ codes " " ++ procedure_name verdict ++ codes ": " ++ word_text verdict.word ++ line_end

abbrev pub is_clean_word : VerdictWord → Bool
is_clean_word Clean = true
is_clean_word Flagged = false
is_clean_word Reaches = false

-- the number of procedures whose verdict is that they are clean
abbrev pub clean_count : List Verdict → ℕ
clean_count verdicts = count_by (λ v. is_clean_word v.word) verdicts

-- the line that counts the procedures
abbrev pub verdict_count_line : List Verdict → List ℕ
verdict_count_line verdicts =
    count_text (codes "procedures: ") (length verdicts) ++ count_text (codes ", clean: ") (clean_count verdicts) ++ line_end

-- the verdicts in their order, how many they are and how many of them are clean
abbrev pub verdicts_text : List Verdict → List (List ℕ) → List ℕ
verdicts_text verdicts names = flat_map (verdict_line names) verdicts ++ verdict_count_line verdicts

-- the report of the first version
abbrev pub report_text : List Issue → List (List ℕ) → List ℕ
report_text issues names = codes "Upgrade report 1" ++ line_end ++ issues_text issues names

-- the report of the second version
abbrev pub report2_text : List Issue → List (List ℕ) → List Verdict → List ℕ
report2_text issues names verdicts = codes "Upgrade report 2" ++ line_end ++ issues_text issues names ++ verdicts_text verdicts names
