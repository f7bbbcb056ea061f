-- The issues of what has no number: lines of the project file, and lines of modules that declare nothing and aren't code lines.
use Rattle.std.specs.Prelude.{ℕ, cond, Option, Some, None, List, [], ◌∷◌, ◌++◌, map}
use Rattle.std.specs.List.{flat_map}
use Rattle.up_base.specs.declared.issue.Issue.{Issue}
use Rattle.up_base.specs.declared.place.Place.{Place}
use Rattle.vb_tree.specs.FlatLines.{flat_lines}
use Rattle.vb_tree.specs.Blocks.{is_code}
use Rattle.vb_tree.specs.Tree.{Line, Member, alone, group, proc, Module, Project}
use Rattle.bound_tree.specs.declared.rule_set.RuleSet.{RuleSet}
use Rattle.declared_names.specs.Rules.{line_rules, startup_rules}
use Rattle.issue_sets.specs.Found.{set_issues}

-- ---- the project file

abbrev pub project_place : (line : ℕ) → Place
project_place line = record { file = 0; line = line }

-- a line that isn't carried over
abbrev pub dropped_issue : (line : ℕ) → Issue
dropped_issue line = record { place = project_place line; rule = 23 }

-- those of the line that names Sub Main
abbrev pub startup_issues : Option (ℕ × List ℕ) → RuleSet → List Issue
startup_issues None rules = []
startup_issues (Some s) rules = set_issues (project_place s.0) rules

-- ---- modules

abbrev pub line_issues : (name : List ℕ) → Line → List Issue
line_issues name l = set_issues l.place (line_rules name l.form)

abbrev pub plain_issues : (name : List ℕ) → Line → List Issue
plain_issues name l = cond (is_code l.form) [] (line_issues name l)

abbrev pub plain_lines_issues : (name : List ℕ) → List Line → List Issue
plain_lines_issues name [] = []
plain_lines_issues name (l ∷ ls) = plain_issues name l ++ plain_lines_issues name ls

abbrev pub member_issues : (name : List ℕ) → Member → List Issue
member_issues name (alone l) = line_issues name l
member_issues name (group head lines close) = []
member_issues name (proc head body close) = plain_lines_issues name (flat_lines body)

abbrev pub members_issues : (name : List ℕ) → List Member → List Issue
members_issues name ms = flat_map (member_issues name) ms

abbrev pub modules_issues : List Module → List Issue
modules_issues ms = flat_map (λ (m : Module). members_issues m.name m.members) ms

-- ---- the whole

abbrev pub further_issues : Project → List Issue
further_issues P = map dropped_issue P.file.dropped ++ (startup_issues P.file.startup (startup_rules P) ++ modules_issues P.modules)
