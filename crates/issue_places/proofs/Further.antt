-- The issues of what has no number stand in the project file or where the lines of modules do.
use Rattle.std.proofs.Common.{ℕ, Bool, true, false, cond, List, [], ◌∷◌, ◌++◌, map, Option, Some, None}
use Rattle.std.specs.List.{filter, flat_map}
use Rattle.up_base.specs.declared.issue.Issue.{Issue}
use Rattle.up_base.specs.declared.place.Place.{Place}
use Rattle.vb_tree.specs.Blocks.{is_code}
use Rattle.vb_tree.specs.FlatLines.{flat_lines, member_lines}
use Rattle.vb_tree.specs.Tree.{Line, Member, alone, group, proc, Module, Project}
use Rattle.bound_tree.specs.declared.rule_set.RuleSet.{RuleSet}
use Rattle.bound_tree.specs.RuleSets.{has, rule_numbers}
use Rattle.declared_names.specs.Rules.{line_rules, startup_rules}
use Rattle.issue_sets.specs.Found.{issue_at, set_issues}
use Rattle.broken_rules.specs.Further.{dropped_issue, further_issues, line_issues, member_issues, members_issues, modules_issues, plain_issues, plain_lines_issues, project_place, startup_issues}
use Rattle.issue_places.proofs.Each.{each_append, each_given, each_left, each_right}
use Rattle.issue_places.proofs.Standing.{InFile, IssuesStand, LinesStand, ModulesStand}

rules_stand : (F : Place → Type 0) (place : Place) (p : ℕ → Bool) (rules : List ℕ) → F place → IssuesStand F (map (issue_at place) (filter p rules))
rules_stand F place p rules h = each_given (λ (x : Issue). F x.place) (issue_at place) (λ rule. h) (filter p rules)

set_stands : (F : Place → Type 0) (place : Place) (set : RuleSet) → F place → IssuesStand F (set_issues place set)
set_stands F place set h = rules_stand F place (has set) rule_numbers h

startup_stands : (F : Place → Type 0) → InFile F 0 → (o : Option (ℕ × List ℕ)) (rules : RuleSet) → IssuesStand F (startup_issues o rules)
startup_stands F h None rules = tt
startup_stands F h (Some s) rules = set_stands F (project_place s.0) rules (h s.0)

line_stands : (F : Place → Type 0) (name : List ℕ) (l : Line) → F l.place → IssuesStand F (line_issues name l)
line_stands F name l h = set_stands F l.place (line_rules name l.form) h

unless : (F : Place → Type 0) (b : Bool) (xs : List Issue) → IssuesStand F xs → IssuesStand F (cond b [] xs)
unless F true xs h = tt
unless F false xs h = h

plain_stand : (F : Place → Type 0) (name : List ℕ) (ls : List Line) → LinesStand F ls → IssuesStand F (plain_lines_issues name ls)
plain_stand F name [] h = tt
plain_stand F name (l ∷ ls) h =
    each_append (λ (x : Issue). F x.place) (plain_issues name l) (plain_lines_issues name ls) (unless F (is_code l.form) (line_issues name l) (line_stands F name l h.0)) (plain_stand F name ls h.1)

member_stands : (F : Place → Type 0) (name : List ℕ) (m : Member) → LinesStand F (member_lines m) → IssuesStand F (member_issues name m)
member_stands F name (alone l) h = line_stands F name l h.0
member_stands F name (group head lines close) h = tt
member_stands F name (proc head body close) h = plain_stand F name (flat_lines body) (each_left (λ (l : Line). F l.place) (flat_lines body) (close ∷ []) h.1)

members_stand : (F : Place → Type 0) (name : List ℕ) (ms : List Member) → LinesStand F (flat_map member_lines ms) → IssuesStand F (members_issues name ms)
members_stand F name [] h = tt
members_stand F name (m ∷ ms) h =
    each_append (λ (x : Issue). F x.place) (member_issues name m) (members_issues name ms)
    (member_stands F name m (each_left (λ (l : Line). F l.place) (member_lines m) (flat_map member_lines ms) h))
    (members_stand F name ms (each_right (λ (l : Line). F l.place) (member_lines m) (flat_map member_lines ms) h))

modules_stand : (F : Place → Type 0) (ms : List Module) → ModulesStand F ms → IssuesStand F (modules_issues ms)
modules_stand F [] h = tt
modules_stand F (m ∷ ms) h = each_append (λ (x : Issue). F x.place) (members_issues m.name m.members) (modules_issues ms) (members_stand F m.name m.members h.0) (modules_stand F ms h.1)

pub further_stand : (F : Place → Type 0) (P : Project) → InFile F 0 → ModulesStand F P.modules → IssuesStand F (further_issues P)
further_stand F P h m =
    let startup = startup_issues P.file.startup (startup_rules P) in
    each_append (λ (x : Issue). F x.place) (map dropped_issue P.file.dropped) (startup ++ modules_issues P.modules)
    (each_given (λ (x : Issue). F x.place) dropped_issue h P.file.dropped)
    (each_append (λ (x : Issue). F x.place) startup (modules_issues P.modules) (startup_stands F h P.file.startup (startup_rules P)) (modules_stand F P.modules m))
