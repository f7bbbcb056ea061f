use Rattle.std.proofs.Common.{ℕ, List, length, sym, subst}
use Rattle.std.specs.Prelude.{◌↔◌, IsTrue}
use Rattle.reach_table.specs.Chains.{is_marked}
use Rattle.bound_tree.specs.View.{declarations_of}
use Rattle.bound_facts.specs.Leading.{LeadsTo}
use Rattle.array_bounds.specs.Types.{passes, those_from}
use Rattle.array_bounds.proofs.Holders.{pairs_are}
use Rattle.array_bounds.proofs.types.holders.Goals as goal

pub returns : goal.returns
returns c t =
    let D = declarations_of c.args.declared.now in
    subst (λ (pairs : List (ℕ × ℕ)). IsTrue (is_marked c.in_ok-declared_holders.field-0.items t) ↔ LeadsTo (length D.types) pairs (those_from D.vars (passes c.args.wanted.now) 0 D.types) t) (sym (pairs_are D))
    (c.in_ok-declared_holders.ensures t)
