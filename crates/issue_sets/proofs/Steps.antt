-- One place more of those that are gone over.
use Rattle.std.proofs.Common.{◌≡◌, ℕ, suc, ◌+◌, ◌<◌, List, ◌++◌, length, get_or, drop, ap, sym, ◌∙◌, add-one, drop-cons, append_assoc}
use Rattle.std.specs.Prelude.{slice_get, Option}
use Rattle.up_base.specs.declared.issue.Issue.{Issue}
use Rattle.up_base.specs.declared.place.Place.{Place}
use Rattle.bound_tree.specs.declared.rule_set.RuleSet.{RuleSet}
use Rattle.issue_sets.specs.Found.{issues_at, issues_from}

pub issues_next : (sets : List RuleSet) (places : List Place) (i : ℕ) (d : Place) (set : Option RuleSet) (all old new : List Issue) → all ≡ old ++ issues_from sets i (drop i places)
    → i < length places → set ≡ slice_get sets i → new ≡ old ++ issues_at (get_or places i d) set → all ≡ new ++ issues_from sets (i + 1) (drop (i + 1) places)
issues_next sets places i d set all old new so_far h at is =
    let rest = issues_from sets (suc i) (drop (suc i) places) in
    rw (add-one) (
    so_far ∙ ap (λ (ps : List Place). old ++ issues_from sets i ps) (drop-cons places i d h)
    ∙ ap (λ o. old ++ (issues_at (get_or places i d) o ++ rest)) (sym at) ∙ sym (append_assoc old (issues_at (get_or places i d) set) rest) ∙ ap (λ (xs : List Issue). xs ++ rest) (sym is)
    )
