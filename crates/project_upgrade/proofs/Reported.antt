-- The issues of a project can be reported.
use Rattle.std.proofs.Common.{◌≡◌, ℕ, ◌<◌, List, get_or, refl, Option, Some, None, true, arith}
use Rattle.std.specs.Prelude.{IsSome, is_some, nat_lt}
use Rattle.std.specs.List.{All, Contains, list_all}
use Rattle.std.proofs.lemmas.Bool.Decides.{nat_tests}
use Rattle.std.proofs.lemmas.List.Elements.{All-contains, All-contains_itself}
use Rattle.std.proofs.lemmas.List.Sums.{AllPass-from_list_all}
use Rattle.up_base.specs.declared.issue.Issue.{Issue}
use Rattle.vb_tree.specs.Tree.{Project}
use Rattle.bound_tree.specs.RuleSets.{rule_numbers}
use Rattle.issue_report.specs.Texts.{rule_text}
use Rattle.broken_rules.specs.Broken.{AreBroken}
use Rattle.broken_rules.proofs.Numbers.{broken_numbers}

-- where all that is tested passes, all issues stand in files below a number
pub all_named : (n : ℕ) (issues : List Issue) → list_all (λ (i : Issue). nat_lt i.place.file n) issues ≡ true → All (λ i. i.place.file < n) issues
all_named n issues h = λ k d within. is_less (get_or issues k d).place.file n (AllPass-from_list_all (λ (i : Issue). nat_lt i.place.file n) issues h k d within)
  where
    is_less : (a b : ℕ) → nat_lt a b ≡ true → a < b
    is_less a b h = grind (arith, nat_tests)

number_has_text : (rule : ℕ) → Contains rule_numbers rule → IsSome (rule_text rule)
number_has_text rule h = by (rule_text rule) (All-contains (λ n. is_some (rule_text n) ≡ true) rule_numbers rule (AllPass-from_list_all (λ n. is_some (rule_text n)) rule_numbers refl) h)
  where
    by : (o : Option (List ℕ)) → is_some o ≡ true → IsSome o
    by None e = absurd (cc e)
    by (Some text) e = refl

-- each rule that is broken has a text
pub issues_have_texts : (P : Project) (issues : List Issue) → AreBroken P issues → All (λ i. IsSome (rule_text i.rule)) issues
issues_have_texts P issues are = λ k d within.
    let x = get_or issues k d in number_has_text x.rule (broken_numbers P issues are x (All-contains_itself issues k d within))
