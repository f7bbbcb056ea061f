use Rattle.std.proofs.Common.{List, Bool, ap, ◌∙◌}
use Rattle.std.specs.Prelude.{◌||◌}
use Rattle.reach_table.specs.Chains.{is_marked}
use Rattle.vb_tree.specs.BoundView.{type_of}
use Rattle.bound_tree.specs.View.{declarations_of, passed_of}
use Rattle.array_bounds.specs.declared.locks.Lock.{Lock}
use Rattle.array_bounds.specs.Locking.{others_enter}
use Rattle.array_bounds.specs.LockTables.{flags_in}
use Rattle.array_bounds.proofs.locking.may_lock_type.Goals as goal

pub returns : goal.returns
returns c =
    let D = declarations_of c.args.facts.now.declared.now in
    let all = passed_of c.args.args.now in
    c.in_ok-locks_with.ensures
    ∙ ap (λ (flags : List Bool). is_marked flags c.args.p || others_enter D (is_marked flags) c.args.i 0 all)
    (c.flags_in-flags.ensures ∙ ap (λ (ks : List Lock). flags_in ks (type_of c.args.ty.now)) c.deref.ensures.value)
