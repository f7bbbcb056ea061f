use Rattle.std.proofs.Common.{List, Bool, subst}
use Rattle.std.specs.Prelude.{◌↔◌, IsTrue}
use Rattle.reach_table.specs.Chains.{is_marked}
use Rattle.vb_tree.specs.BoundView.{type_of}
use Rattle.bound_facts.specs.Calls.{count_procedures}
use Rattle.bound_facts.specs.Leading.{LeadsTo}
use Rattle.bound_facts.specs.Locks.{lockers}
use Rattle.array_bounds.specs.Programs.{shown_program}
use Rattle.array_bounds.proofs.Locked.{locks_by}
use Rattle.array_bounds.proofs.locks.lock_flags.Goals as goal

pub returns : goal.returns
returns c p =
    let P = shown_program c.args.declared.now c.args.lines.now in
    let ty = type_of c.args.e.now in
    let flag = is_marked c.in_ok-flags_by.field-0.items p in
    locks_by P c.args.pairs.now ty p flag (is_marked c.in_ok-holds.holds.items) c.in_ok-holds.ensures
    (subst (λ (holds : List Bool). IsTrue flag ↔ LeadsTo (count_procedures P) c.args.pairs.now (lockers P (is_marked holds) ty) p) c.deref.ensures.value (c.in_ok-flags_by.ensures p))
