use Rattle.std.proofs.Common.{List, refl}
use Rattle.net_tree.specs.View as view
use Rattle.vb_tree.specs.declared.expression.Arg6.{Arg6}
use Rattle.vb_tree.specs.View.{args_of}
use Rattle.written_trees.specs.LooseExprs.{loose_args}
use Rattle.written_exprs.proofs.LooseLists.{index_written}
use Rattle.written_exprs.proofs.Pushes.{list_end}
use Rattle.written_exprs.proofs.loose.+loose.Goals as goal

pub loose_exp-returns-in_ok-call_of-in-Index : goal.loose_exp-returns-in_ok-call_of-in-Index
loose_exp-returns-in_ok-call_of-in-Index t c =
    index_written c.in-Index.of c.in-Index.args c.args.e.now c.deref-in-Index.result.now (view.exp_of c.in_ok-call_of-in-Index.field-0)
    (view.exp_of c.in_ok-a-in-Index.a) (view.exps_of c.in_ok-args-in-Index.args.items) c.deref-in-Index-2.result.now
    c.in_ok-call_of-in-Index.ensures c.in_ok-a-in-Index.ensures c.deref-in-Index.ensures c.in_ok-args-in-Index.ensures c.deref-in-Index-2.ensures.value c.in-Index.is

pub loose_args-returns : goal.loose_args-returns
loose_args-returns t c =
    list_end (λ (args : List Arg6). loose_args (args_of args)) c.args.args.now c.loop-arg.arg-index c.loop-arg.list.items _ refl c.loop-arg-test.false c.loop-arg.invariant
