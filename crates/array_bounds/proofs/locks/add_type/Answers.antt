use Rattle.std.proofs.Common.{List, sym, subst, ap, ◌∙◌}
use Rattle.vb_tree.specs.BoundView.{type_of}
use Rattle.array_bounds.specs.declared.locks.Lock.{Lock}
use Rattle.array_bounds.specs.LockTables.{AreRight, has_type}
use Rattle.array_bounds.specs.Programs.{shown_program}
use Rattle.array_bounds.proofs.Locked.{right_push, same_itself, type_here}
use Rattle.array_bounds.proofs.locks.add_type.Goals as goal

pub returns-clause-right : goal.returns-clause-right
returns-clause-right c =
    let P = shown_program c.args.declared.now c.args.lines.now in
    subst (λ (ks : List Lock). AreRight P c.args.pairs.now ks) (sym c.in_ok-push.ensures.items) (right_push P c.args.pairs.now c.args.locks.now.items _ c.requires c.in_ok-flags.ensures)

pub returns-clause-here : goal.returns-clause-here
returns-clause-here c =
    let ty = type_of c.args.ty.now in
    ap (λ (ks : List Lock). has_type ks ty) c.in_ok-push.ensures.items ∙ type_here c.args.locks.now.items _ ty (same_itself ty)
