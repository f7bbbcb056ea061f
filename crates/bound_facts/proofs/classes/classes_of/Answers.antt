use Rattle.std.proofs.Common.{◌≡◌, ℕ, ◌≤◌, List, sym, subst, ◌∙◌, length, arith}
use Rattle.std.specs.List.{All, Contains}
use Rattle.std.specs.Prelude.{slice_index}
use Rattle.reach_table.specs.Chains.{empty}
use Rattle.reach_table.specs.Table.{IsBelow}
use Rattle.bound_facts.specs.Leading.{within, both_ways}
use Rattle.bound_facts.proofs.Ways.{all_below_ways, ways_turned, symmetric_same, classes_same}
use Rattle.bound_facts.proofs.classes.classes_of.Goals as goal

pub table-requires : goal.table-requires
table-requires c =
    let is = c.deref.ensures.value ∙ c.in_ok-both.ensures in
    subst (λ (xs : List (ℕ × ℕ)). All (IsBelow c.args.nodes) xs) (sym is) (all_below_ways c.args.nodes c.args.pairs.now)

pub parts_on-requires-clause-symmetric : goal.parts_on-requires-clause-symmetric
parts_on-requires-clause-symmetric c =
    let is = c.deref.ensures.value ∙ c.in_ok-both.ensures in
    symmetric_same (both_ways (within c.args.nodes c.args.pairs.now)) c.in_ok-arrows.arrows.pairs
    (λ p. (
      (λ h. subst (λ (xs : List (ℕ × ℕ)). Contains xs p) is ((c.in_ok-arrows.ensures.pairs p).0 h)),
      (λ h. (c.in_ok-arrows.ensures.pairs p).1 (subst (λ (xs : List (ℕ × ℕ)). Contains xs p) (sym is) h)),
    ))
    (ways_turned (within c.args.nodes c.args.pairs.now))

pub returns-clause-same : goal.returns-clause-same
returns-clause-same c a b low_a low_b =
    let is = c.deref.ensures.value ∙ c.in_ok-both.ensures in
    let len : length c.in_ok-parts_on.field-0.items ≡ c.args.nodes = c.in_ok-parts_on.ensures.len ∙ c.in_ok-arrows.ensures.nodes in
    classes_same (both_ways (within c.args.nodes c.args.pairs.now)) c.in_ok-arrows.arrows.pairs
    (λ p. (
      (λ h. subst (λ (xs : List (ℕ × ℕ)). Contains xs p) is ((c.in_ok-arrows.ensures.pairs p).0 h)),
      (λ h. (c.in_ok-arrows.ensures.pairs p).1 (subst (λ (xs : List (ℕ × ℕ)). Contains xs p) (sym is) h)),
    ))
    (ways_turned (within c.args.nodes c.args.pairs.now)) a b _ _ (c.in_ok-parts_on.ensures.least a (omega arith)) (c.in_ok-parts_on.ensures.least b (omega arith))

pub returns-clause-below : goal.returns-clause-below
returns-clause-below c a low =
    let len : length c.in_ok-parts_on.field-0.items ≡ c.args.nodes = c.in_ok-parts_on.ensures.len ∙ c.in_ok-arrows.ensures.nodes in
    let least : slice_index c.in_ok-parts_on.field-0.items a ≤ a = (c.in_ok-parts_on.ensures.least a (omega arith)).1 a (empty a) in
    omega arith
