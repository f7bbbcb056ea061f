-- Lines and modules that stand in files.
use Rattle.std.proofs.Common.{ℕ, List}
use Rattle.std.specs.List.{AllByRecursion as Each}
use Rattle.up_base.specs.declared.issue.Issue.{Issue}
use Rattle.up_base.specs.declared.place.Place.{Place}
use Rattle.vb_tree.specs.FlatLines.{module_lines}
use Rattle.vb_tree.specs.Tree.{Line, Module}

-- what holds of places holds of each place of a file
abbrev pub InFile : (Place → Type 0) → ℕ → Type 0
InFile F file = (line : ℕ) → F (record { file = file; line = line })

-- it holds of the places of lines, of the lines of modules, and of issues

abbrev pub LinesStand : (Place → Type 0) → List Line → Type 0
LinesStand F lines = Each (λ (l : Line). F l.place) lines

abbrev pub ModulesStand : (Place → Type 0) → List Module → Type 0
ModulesStand F modules = Each (λ (m : Module). LinesStand F (module_lines m)) modules

abbrev pub IssuesStand : (Place → Type 0) → List Issue → Type 0
IssuesStand F issues = Each (λ (x : Issue). F x.place) issues
