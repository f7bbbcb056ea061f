-- Each broken rule has a number from 1 to 26.
use Rattle.std.proofs.Common.{◌≡◌, ℕ, Bool, true, false, cond, List, [], ◌∷◌, map, refl, ap, subst, arith, inl, inr, ⊎_elim, Option, Some, None}
use Rattle.std.specs.List.{Contains}
use Rattle.up_base.specs.declared.issue.Issue.{Issue}
use Rattle.up_base.specs.declared.place.Place.{Place}
use Rattle.vb_tree.specs.Blocks.{is_code}
use Rattle.vb_tree.specs.FlatLines.{flat_lines}
use Rattle.vb_tree.specs.Tree.{Line, Member, alone, group, proc, Module, Project}
use Rattle.bound_tree.specs.declared.rule_set.RuleSet.{RuleSet}
use Rattle.bound_tree.specs.RuleSets.{has, rule_numbers}
use Rattle.declared_names.specs.Rules.{line_rules, startup_rules}
use Rattle.issue_sets.specs.Found.{issue_at, set_issues}
use Rattle.issue_sets.proofs.Among.{Among, among, among_append, among_flat, contains, picked}
use Rattle.broken_rules.specs.Broken.{AreBroken}
use Rattle.broken_rules.specs.Further.{dropped_issue, further_issues, line_issues, member_issues, members_issues, modules_issues, plain_issues, plain_lines_issues, project_place, startup_issues}

abbrev HasNumber : Issue → Type 0
HasNumber x = Among rule_numbers x.rule

set_number : (place : Place) (set : RuleSet) (x : Issue) → Among (set_issues place set) x → HasNumber x
set_number place set x h =
    let q = picked (issue_at place) (has set) rule_numbers x h in subst (λ n. Among rule_numbers n) (ap (λ (i : Issue). i.rule) q.3) q.1

dropped_number : (lines : List ℕ) (x : Issue) → Among (map dropped_issue lines) x → HasNumber x
dropped_number [] x h = absurd h
dropped_number (n ∷ lines) x (inl e) = subst HasNumber e (among rule_numbers 23 (22, omega arith, refl))
dropped_number (n ∷ lines) x (inr h) = dropped_number lines x h

startup_number : (s : Option (ℕ × List ℕ)) (rules : RuleSet) (x : Issue) → Among (startup_issues s rules) x → HasNumber x
startup_number None rules x h = absurd h
startup_number (Some s) rules x h = set_number (project_place s.0) rules x h

line_number : (name : List ℕ) (l : Line) (x : Issue) → Among (line_issues name l) x → HasNumber x
line_number name l x h = set_number l.place (line_rules name l.form) x h

plain_number : (name : List ℕ) (l : Line) (x : Issue) (code : Bool) → Among (cond code [] (line_issues name l)) x → HasNumber x
plain_number name l x true h = absurd h
plain_number name l x false h = line_number name l x h

plain_lines_number : (name : List ℕ) (ls : List Line) (x : Issue) → Among (plain_lines_issues name ls) x → HasNumber x
plain_lines_number name [] x h = absurd h
plain_lines_number name (l ∷ ls) x h =
    ⊎_elim (plain_number name l x (is_code l.form)) (plain_lines_number name ls x) (among_append (plain_issues name l) (plain_lines_issues name ls) x h)

member_number : (name : List ℕ) (m : Member) (x : Issue) → Among (member_issues name m) x → HasNumber x
member_number name (alone l) x h = line_number name l x h
member_number name (group head lines close) x h = absurd h
member_number name (proc head body close) x h = plain_lines_number name (flat_lines body) x h

module_number : (m : Module) (x : Issue) → Among (members_issues m.name m.members) x → HasNumber x
module_number m x h = let q = among_flat (member_issues m.name) m.members x h in member_number m.name q.0 x q.2

further_number : (P : Project) (x : Issue) → Among (further_issues P) x → HasNumber x
further_number P x h = ⊎_elim
    (dropped_number P.file.dropped x)
    (λ r. ⊎_elim
    (startup_number P.file.startup (startup_rules P) x)
    (λ q. let m = among_flat (λ (m : Module). members_issues m.name m.members) P.modules x q in module_number m.0 x m.2)
    (among_append (startup_issues P.file.startup (startup_rules P)) (modules_issues P.modules) x r))
    (among_append (map dropped_issue P.file.dropped) _ x h)

pub broken_numbers : (P : Project) (issues : List Issue) → AreBroken P issues → (x : Issue) → Contains issues x → Contains rule_numbers x.rule
broken_numbers P issues are x h = ⊎_elim (λ m. m.marked.broken.is_rule) (λ f. contains rule_numbers x.rule (further_number P x (among (further_issues P) x f))) ((are.exact.are x).0 h)
