-- The issues that are found, in the order in which marks are gone over.
use Rattle.std.specs.Prelude.{ℕ, suc, List, [], ◌∷◌, ◌++◌, map, filter, Option, Some, None, slice_get}
use Rattle.std.specs.List.{flat_map}
use Rattle.up_base.specs.declared.issue.Issue.{Issue}
use Rattle.up_base.specs.declared.place.Place.{Place}
use Rattle.bound_tree.specs.declared.marks.Marks.{Marks}
use Rattle.bound_tree.specs.declared.rule_set.RuleSet.{RuleSet}
use Rattle.bound_tree.specs.RuleSets.{has, rule_numbers}
use Rattle.issue_sets.specs.Marked.{or_empty}
use Rattle.issue_sets.specs.Places.{Places}

abbrev pub issue_at : Place → ℕ → Issue
issue_at place rule = record { place = place; rule = rule }

abbrev pub set_issues : Place → RuleSet → List Issue
set_issues place set = map (issue_at place) (filter (has set) rule_numbers)

abbrev pub issues_at : Place → Option RuleSet → List Issue
issues_at place None = []
issues_at place (Some set) = set_issues place set

-- those of places that are numbered from i
abbrev pub issues_from : List RuleSet → (i : ℕ) → List Place → List Issue
issues_from sets i [] = []
issues_from sets i (p ∷ places) = issues_at p (slice_get sets i) ++ issues_from sets (suc i) places

abbrev pub groups_from : List (List RuleSet) → (i : ℕ) → List (List Place) → List Issue
groups_from sets i [] = []
groups_from sets i (ps ∷ groups) = issues_from (or_empty (slice_get sets i)) 0 ps ++ groups_from sets (suc i) groups

-- those of one pass
abbrev pub pass_issues : Places → Marks → List Issue
pass_issues p m =
    groups_from m.lines 0 p.lines
    ++ (issues_from m.heads 0 p.heads
    ++ (issues_from m.vars 0 p.vars ++ (issues_from m.consts 0 p.consts ++ (issues_from m.types 0 p.types ++ issues_from m.enums 0 p.enums))))

abbrev pub all_issues : Places → List Marks → List Issue
all_issues p marks = flat_map (pass_issues p) marks
