use Rattle.std.proofs.Common.{refl, Ok, Err}
use Rattle.std.specs.Prelude.{IfOk}
use Rattle.std.specs.declared.result.Result.{Result}
use Rattle.up_base.specs.declared.allocation.Mem.{Mem}
use Rattle.bound_tree.specs.declared.body.Bound.{Bound}
use Rattle.bound_tree.specs.View.{declarations_of}
use Rattle.binder.specs.declared.binding.Counted.{Counted}
use Rattle.binder.specs.Programs.{IsBound}
use Rattle.binder.specs.View.{IsMade}
use Rattle.binder.proofs.BoundPrograms.{counted_of, planned_is_bound, tables_stay}
use Rattle.binder.proofs.binding.bound_planned.Goals as goal

pub bound_extended-made-requires : goal.bound_extended-made-requires
bound_extended-made-requires c =
    let counted : Counted = record { names = c.len.result; vars = c.len-2.result; tables = c.args.plan.tables; locals = c.args.plan.found.locals; rules = c.args.plan.found.rules } in
    tables_stay c.args.declared (declarations_of c.add_locals.new.to) c.args.plan counted c.requires
    (counted_of c.args.declared c.args.plan counted c.requires c.len.ensures c.len-2.ensures refl refl) refl c.in-Ok.ensures.declarations

pub returns-in-Ok : goal.returns-in-Ok
returns-in-Ok c = by c.bound_extended-made.result c.bound_extended-made.ensures
  where
    counted : Counted
    counted = record { names = c.len.result; vars = c.len-2.result; tables = c.args.plan.tables; locals = c.args.plan.found.locals; rules = c.args.plan.found.rules }

    by : (r : Result Bound Mem) → IfOk r (λ b. IsMade b c.add_locals.new.to counted) → IfOk r (λ b. IsBound c.args.declared b)
    by (Ok b) h =
        planned_is_bound c.args.declared c.add_locals.new.to b c.args.plan counted c.requires
        (counted_of c.args.declared c.args.plan counted c.requires c.len.ensures c.len-2.ensures refl refl)
        c.in-Ok.ensures.declarations c.in-Ok.ensures.marks h
    by (Err e) h = tt
