use Rattle.std.proofs.Common.{ℕ, List, length, sym, subst}
use Rattle.std.specs.Prelude.{◌↔◌, IsTrue}
use Rattle.reach_table.specs.Chains.{is_marked}
use Rattle.vb_tree.specs.BoundView.{type_of}
use Rattle.bound_tree.specs.View.{declarations_of}
use Rattle.bound_facts.specs.Leading.{LeadsTo}
use Rattle.bound_facts.specs.Locks.{type_pairs}
use Rattle.array_bounds.proofs.Holders.{holders_are}
use Rattle.array_bounds.proofs.locks.array_holders.Goals as goal

pub returns : goal.returns
returns c t =
    let D = declarations_of c.args.declared.now in
    subst (λ (list : List ℕ). IsTrue (is_marked c.in_ok-holders.field-0.items t) ↔ LeadsTo (length D.types) (type_pairs D) list t) (sym (holders_are D (type_of c.args.e.now) 0 D.types)) (c.in_ok-holders.ensures t)
