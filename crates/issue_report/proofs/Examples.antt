-- Reports that were written by hand.
use Rattle.std.specs.Prelude.{codes}
use Rattle.std.proofs.Common.{◌≡◌, ℕ, List, [], ◌∷◌, ◌++◌, refl}
use Rattle.std.specs.Fmt.{digits}
use Rattle.up_base.specs.LineEnd.{line_end}
use Rattle.up_base.specs.declared.issue.Issue.{Issue}
use Rattle.issue_report.specs.Reports.{report_text, report2_text}
use Rattle.issue_report.specs.declared.verdict.Part.{Part}
use Rattle.issue_report.specs.declared.verdict.Part.TheVariants.{Plain, GetPart, LetPart}
use Rattle.issue_report.specs.declared.verdict.VerdictWord.{VerdictWord}
use Rattle.issue_report.specs.declared.verdict.VerdictWord.TheVariants.{Clean, Flagged}
use Rattle.issue_report.specs.declared.verdict.Verdict.{Verdict}

abbrev names : List (List ℕ)
names = codes "Office.vbp" ∷ codes "Main1.bas" ∷ codes "Files.bas" ∷ codes "InvLine.cls" ∷ []

abbrev issue : ℕ → ℕ → ℕ → Issue
issue file line rule = record { place = record { file = file; line = line }; rule = rule }

abbrev verdict : ℕ → List ℕ → Part → VerdictWord → Verdict
verdict file name part word = record { file = file; name = name; part = part; word = word }

abbrev verdicts : List Verdict
verdicts =
    verdict 1 (codes "Main") Plain Clean
    ∷ verdict 2 (codes "Save") Plain Flagged
    ∷ verdict 3 (codes "Amount") GetPart Clean
    ∷ verdict 3 (codes "Amount") LetPart Clean
    ∷ []

abbrev line : List ℕ → List ℕ
line text = text ++ line_end

no_issue : report_text [] names ≡ line (codes "Upgrade report 1") ++ line (codes "issues: 0")
unfolding digits
no_issue = refl

first_version : report_text (issue 1 7 9 ∷ issue 2 12 1 ∷ issue 2 12 26 ∷ []) names ≡
    line (codes "Upgrade report 1")
    ++ line (codes "Main1.bas(7): U09 array bounds not constant or not one")
    ++ line (codes "Files.bas(12): U01 floating or date type or literal")
    ++ line (codes "Files.bas(12): U26 order of effects")
    ++ line (codes "issues: 3")
unfolding digits
first_version = refl

second_version : report2_text (issue 2 4 1 ∷ []) names verdicts ≡
    line (codes "Upgrade report 2")
    ++ line (codes "Files.bas(4): U01 floating or date type or literal")
    ++ line (codes "issues: 1")
    ++ line (codes "Main1.bas Main: clean")
    ++ line (codes "Files.bas Save: flagged")
    ++ line (codes "InvLine.cls Amount Get: clean")
    ++ line (codes "InvLine.cls Amount Let: clean")
    ++ line (codes "procedures: 4, clean: 3")
unfolding digits
second_version = refl
