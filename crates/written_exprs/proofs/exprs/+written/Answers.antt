use Rattle.std.proofs.Common.{List, refl, arith}
use Rattle.std.proofs.lemmas.List.{nil_from_length}
use Rattle.bound_tree.specs.declared.expression.BoundArg.{BoundArg}
use Rattle.bound_tree.specs.declared.expression.BoundExpr.{BoundExpr}
use Rattle.bound_tree.specs.View.{exprs_of, passed_of}
use Rattle.net_tree.specs.View.{exp_of, exps_of}
use Rattle.vb_tree.specs.BoundView.{type_of}
use Rattle.written_trees.specs.Exprs as exprs
use Rattle.written_rows.specs.View.{scope_of}
use Rattle.written_exprs.specs.Indexes.{indexes_by}
use Rattle.written_exprs.proofs.Nodes.{call_written, element_written, empty_library_written, library_written}
use Rattle.written_exprs.proofs.Pushes.{first_left, list_end}
use Rattle.written_exprs.proofs.exprs.+written.Goals as goal

pub written_exp-returns-in_ok-call_of-in-Element : goal.written_exp-returns-in_ok-call_of-in-Element
written_exp-returns-in_ok-call_of-in-Element t c =
    element_written (scope_of c.args.scope.now) (type_of c.args.e.now.ty) c.in-Element.of c.in-Element.indexes c.args.e.now.node
    (exp_of c.in_ok-call_of-in-Element.field-0) (exp_of c.in_ok-a-in-Element.a) (exps_of c.in_ok-list-in-Element.list.items)
    c.deref-in-Element.result.now c.deref-in-Element-2.result.now c.lows_of-lows.result c.deref-in-Element-3.result.now
    c.in_ok-call_of-in-Element.ensures c.in_ok-a-in-Element.ensures c.deref-in-Element.ensures c.lows_of-lows.ensures c.deref-in-Element-2.ensures
    c.in_ok-list-in-Element.ensures c.deref-in-Element-3.ensures.value c.in-Element.is

pub written_exp-returns-in_ok-called-in-Call : goal.written_exp-returns-in_ok-called-in-Call
written_exp-returns-in_ok-called-in-Call t c =
    call_written (scope_of c.args.scope.now) (type_of c.args.e.now.ty) c.in-Call.p c.in-Call.qualified c.is_bare-bare.result c.in-Call.of c.in-Call.args
    c.args.e.now.node (exp_of c.in_ok-called-in-Call.field-0) (exp_of c.in_ok-callee-in-Call.callee) (exps_of c.in_ok-list-in-Call.list.items)
    c.deref-in-Call.result.now c.deref-in-Call-2.result.now
    c.in_ok-called-in-Call.ensures c.in_ok-callee-in-Call.ensures c.in_ok-list-in-Call.ensures c.deref-in-Call.ensures.value c.is_bare-bare.ensures
    c.deref-in-Call-2.ensures.value c.in-Call.is

pub written_exp-returns-in-empty : goal.written_exp-returns-in-empty
written_exp-returns-in-empty t c =
    empty_library_written (scope_of c.args.scope.now) (type_of c.args.e.now.ty) c.in-Lib.function c.in-Lib.args c.args.e.now.node c.as_slice.result.now
    (nil_from_length c.as_slice.result.now (omega (arith, c.in-empty.len_below))) c.as_slice.ensures.value c.in-Lib.is

pub written_exp-returns-in_ok-library_call-in-len1-up : goal.written_exp-returns-in_ok-library_call-in-len1-up
written_exp-returns-in_ok-library_call-in-len1-up t c =
    library_written (scope_of c.args.scope.now) (type_of c.args.e.now.ty) c.in-Lib.function c.in-Lib.args c.args.e.now.node
    (exp_of c.in_ok-library_call-in-len1-up.field-0) (exp_of c.in_ok-a-in-len1-up.a) (exps_of c.in_ok-others-in-len1-up.others.items)
    c.first-item.result _ c.as_slice.result.now
    c.in_ok-library_call-in-len1-up.ensures c.in_ok-a-in-len1-up.ensures c.in_ok-others-in-len1-up.ensures
    (first_left c.as_slice.result.now c.first-item.result c.in-len1-up.len_at_least c.first-item.is) c.as_slice.ensures.value c.in-Lib.is

pub written_exps-returns : goal.written_exps-returns
written_exps-returns t c =
    list_end (λ (es : List BoundExpr). exprs.exps_of (scope_of c.args.scope.now) (exprs_of es)) c.args.es.now c.loop-e.e-index c.loop-e.list.items _ refl
    c.loop-e-test.false c.loop-e.invariant

pub written_indexes-returns : goal.written_indexes-returns
written_indexes-returns t c =
    list_end (λ (es : List BoundExpr). indexes_by (scope_of c.args.scope.now) c.args.lows c.loop-dimension.dimension (exprs_of es)) c.args.indexes.now
    c.loop-dimension.dimension c.loop-dimension.list.items _ refl c.loop-dimension-test.false c.loop-dimension.invariant

pub written_passed-returns : goal.written_passed-returns
written_passed-returns t c =
    list_end (λ (args : List BoundArg). exprs.passed_of (scope_of c.args.scope.now) c.args.procedure c.loop-place.place (passed_of args)) c.args.args.now
    c.loop-place.place c.loop-place.list.items _ refl c.loop-place-test.false c.loop-place.invariant
