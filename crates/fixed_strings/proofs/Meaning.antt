-- What the sets of the rows have, and that a project determines the test which user types hold a fixed string.
use Rattle.std.proofs.Common.{◌≡◌, ℕ, Bool, true, false, cond, List, refl, ap, ◌∙◌, nat_eq}
use Rattle.std.specs.Prelude.{◌||◌, IsTrue}
use mathlib.Core.Path.{fun_ext}
use Rattle.bound_tree.specs.declared.rule_set.RuleSet.{RuleSet}
use Rattle.bound_tree.specs.RuleSets.{has, none, with_if}
use Rattle.bound_tree.proofs.RuleLaws.{has_none, has_with_if}
use Rattle.bound_tree.specs.Tree.{Variable, Line, Declarations}
use Rattle.fixed_strings.specs.Declaring.{Tells, breaks_declared}
use Rattle.fixed_strings.specs.Given.{Quiet, breaks_given}
use Rattle.fixed_strings.specs.Rows.{variable_rules, line_rules}

or_false : (b : Bool) → (b || false) ≡ b
or_false true = refl
or_false false = refl

one_rule : (test : Bool) (rule : ℕ) → has (with_if none 12 test) rule ≡ cond (nat_eq rule 12) test false
one_rule test rule =
    has_with_if none 12 rule test ∙ ap (λ b. cond (nat_eq rule 12) test false || b) (has_none rule) ∙ or_false (cond (nat_eq rule 12) test false)

pub has_variable : (D : Declarations) (holds : ℕ → Bool) (v : Variable) (rule : ℕ)
    → has (variable_rules D holds v) rule ≡ cond (nat_eq rule 12) (breaks_declared D holds v) false
has_variable D holds v rule = one_rule (breaks_declared D holds v) rule

pub has_line : (quiet : Quiet) (l : Line) (rule : ℕ) → has (line_rules quiet l) rule ≡ cond (nat_eq rule 12) (breaks_given quiet l) false
has_line quiet l rule = one_rule (breaks_given quiet l) rule

same_test : {X : Type 0} (a b : Bool) → (IsTrue a → X) × (X → IsTrue a) → (IsTrue b → X) × (X → IsTrue b) → a ≡ b
same_test true true h k = refl
same_test false false h k = refl
same_test true false h k = absurd (let e = k.1 (h.0 refl) in cc e)
same_test false true h k = absurd (let e = h.1 (k.0 refl) in cc e)

pub same_holds : (D : Declarations) (first second : ℕ → Bool) → Tells D first → Tells D second → first ≡ second
same_holds D first second a b = fun_ext (λ t. same_test (first t) (second t) (a t) (b t))
