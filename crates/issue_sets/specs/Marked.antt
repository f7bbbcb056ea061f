-- The issues that marks are.
use Rattle.std.specs.Prelude.{◌≡◌, ◌↔◌, ◌⊎◌, ℕ, true, List, [], Option, Some, None, slice_get}
use Rattle.std.specs.List.{Contains}
use Rattle.up_base.specs.Issues.{are_ascending}
use Rattle.up_base.specs.declared.issue.Issue.{Issue}
use Rattle.up_base.specs.declared.place.Place.{Place}
use Rattle.bound_tree.specs.declared.marks.Marks.{Marks}
use Rattle.bound_tree.specs.declared.rule_set.RuleSet.{RuleSet}
use Rattle.bound_tree.specs.RuleSets.{has, rule_numbers}
use Rattle.bound_tree.specs.Tree.{Program}
use Rattle.issue_sets.specs.Places.{Places, places_of}

-- what carries rules, by its number: a code line of a procedure, the head of one, and a declaration
pub data Carrier : Type 0 where
  code_line : (procedure line : ℕ) → Carrier
  head : ℕ → Carrier
  variable : ℕ → Carrier
  constant : ℕ → Carrier
  user_type : ℕ → Carrier
  enum_head : ℕ → Carrier

abbrev pub or_empty : {X : Type 0} → Option (List X) → List X
or_empty None = []
or_empty (Some xs) = xs

-- the element k of the list i
abbrev pub at_two : {X : Type 0} → List (List X) → (i k : ℕ) → Option X
at_two lists i k = slice_get (or_empty (slice_get lists i)) k

abbrev pub place_of : Places → Carrier → Option Place
place_of p (code_line i k) = at_two p.lines i k
place_of p (head k) = slice_get p.heads k
place_of p (variable k) = slice_get p.vars k
place_of p (constant k) = slice_get p.consts k
place_of p (user_type k) = slice_get p.types k
place_of p (enum_head k) = slice_get p.enums k

abbrev pub set_of : Marks → Carrier → Option RuleSet
set_of m (code_line i k) = at_two m.lines i k
set_of m (head k) = slice_get m.heads k
set_of m (variable k) = slice_get m.vars k
set_of m (constant k) = slice_get m.consts k
set_of m (user_type k) = slice_get m.types k
set_of m (enum_head k) = slice_get m.enums k

-- the set has the rule
pub record HasRule (set : RuleSet) (rule : ℕ) : Type 0 where
  pub is_rule : Contains rule_numbers rule
  pub broken : has set rule ≡ true

-- what stands at the place of the issue carries its rule
pub record IsMarked (places : Places) (m : Marks) (x : Issue) : Type 0 where
  pub carrier : Carrier
  pub set : RuleSet
  pub placed : place_of places carrier ≡ Some x.place
  pub held : set_of m carrier ≡ Some set
  pub broken : HasRule set x.rule

-- by some of several marks
pub record IsMarkedBySome (places : Places) (marks : List Marks) (x : Issue) : Type 0 where
  pub one : Marks
  pub stands : Contains marks one
  pub marked : IsMarked places one x

-- The issues of a program are those that marks are and further ones, each once, in the order of files, lines and rules.
pub record AreIssues (P : Program) (marks : List Marks) (further issues : List Issue) : Type 0 where
  pub ascending : are_ascending issues ≡ true
  pub are : (x : Issue) → Contains issues x ↔ (IsMarkedBySome (places_of P) marks x ⊎ Contains further x)
