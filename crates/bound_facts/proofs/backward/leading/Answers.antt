use Rattle.std.proofs.Common.{ℕ, List, sym, subst, ◌∙◌}
use Rattle.std.specs.List.{All, Contains}
use Rattle.reach_table.specs.Table.{IsBelow}
use Rattle.bound_facts.specs.Leading.{within}
use Rattle.bound_facts.proofs.Chains.{all_below, Leads-from_turned}
use Rattle.bound_facts.proofs.backward.leading.Goals as goal

pub table-requires : goal.table-requires
table-requires c =
    let is = c.deref.ensures.value ∙ c.in_ok-turned.ensures in
    subst (λ (xs : List (ℕ × ℕ)). All (IsBelow c.args.nodes) xs) (sym is) (all_below c.args.nodes c.args.pairs.now)

pub returns : goal.returns
returns c n =
    let is = c.deref.ensures.value ∙ c.in_ok-turned.ensures in
    let leads = Leads-from_turned (within c.args.nodes c.args.pairs.now) c.in_ok-arrows.arrows.pairs c.args.marked.now n
    (λ p. (
      (λ h. subst (λ (xs : List (ℕ × ℕ)). Contains xs p) is ((c.in_ok-arrows.ensures.pairs p).0 h)),
      (λ h. (c.in_ok-arrows.ensures.pairs p).1 (subst (λ (xs : List (ℕ × ℕ)). Contains xs p) (sym is) h)),
    )) in
    ((λ h. leads.0 ((c.in_ok-spread_on.ensures n).0 h)), (λ h. (c.in_ok-spread_on.ensures n).1 (leads.1 h)))
