use Rattle.std.proofs.Common.{◌≡◌, drop}
use Rattle.bound_tree.specs.View.{exprs_of, passed_of}
use Rattle.written_trees.specs.Exprs as exprs
use Rattle.written_rows.specs.View.{scope_of}
use Rattle.written_exprs.specs.Indexes.{indexes_by}
use Rattle.written_exprs.specs.Lists.{exps_before}
use Rattle.written_exprs.proofs.exprs.+written.Given as goal

abbrev pub invariant-written_exps-loop-e : goal.invariant-written_exps-loop-e
invariant-written_exps-loop-e l =
    exps_before l.list.items (exprs.exps_of (scope_of l.scope) (exprs_of (drop l.e-index l.es))) ≡ exprs.exps_of (scope_of l.scope) (exprs_of l.es)

abbrev pub invariant-written_indexes-loop-dimension : goal.invariant-written_indexes-loop-dimension
invariant-written_indexes-loop-dimension l =
    exps_before l.list.items (indexes_by (scope_of l.scope) l.lows l.dimension (exprs_of (drop l.dimension l.indexes)))
    ≡ indexes_by (scope_of l.scope) l.lows 0 (exprs_of l.indexes)

abbrev pub invariant-written_passed-loop-place : goal.invariant-written_passed-loop-place
invariant-written_passed-loop-place l =
    exps_before l.list.items (exprs.passed_of (scope_of l.scope) l.procedure l.place (passed_of (drop l.place l.args)))
    ≡ exprs.passed_of (scope_of l.scope) l.procedure 0 (passed_of l.args)
