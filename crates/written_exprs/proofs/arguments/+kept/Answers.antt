use Rattle.std.proofs.Common.{sym, ap, ◌∙◌}
use Rattle.bound_tree.specs.Tree.{typed}
use Rattle.bound_tree.specs.View.{expr_of, term_of}
use Rattle.vb_tree.specs.BoundView.{type_of}
use Rattle.written_exprs.specs.Kept.{kept_or}
use Rattle.written_exprs.proofs.Nodes.{argument_kept, part_kept}
use Rattle.written_exprs.proofs.Pushes.{only_one}
use Rattle.written_exprs.proofs.arguments.+kept.Goals as goal

pub kept-returns-in-Some : goal.kept-returns-in-Some
kept-returns-in-Some t c =
    let e = c.args.e.now in
    sym (ap (kept_or (typed (type_of e.ty) (term_of e.node))) c.in-Some.is)
    ∙ part_kept (type_of e.ty) c.in-Lib.function c.in-Lib.args e.node c.kept_argument.result c.deref-in-Lib.result.now
    (c.kept_argument.ensures (type_of e.ty)) c.deref-in-Lib.ensures.value c.in-Lib.is

pub kept-returns-in-None : goal.kept-returns-in-None
kept-returns-in-None t c =
    let e = c.args.e.now in
    sym (ap (kept_or (typed (type_of e.ty) (term_of e.node))) c.in-None.is)
    ∙ part_kept (type_of e.ty) c.in-Lib.function c.in-Lib.args e.node c.kept_argument.result c.deref-in-Lib.result.now
    (c.kept_argument.ensures (type_of e.ty)) c.deref-in-Lib.ensures.value c.in-Lib.is

pub kept_argument-returns-then-writes_nothing : goal.kept_argument-returns-then-writes_nothing
kept_argument-returns-then-writes_nothing t c = λ ty.
    argument_kept ty c.args.function (type_of c.in-Some.to) c.args.args.now c.of-item.result c.writes_nothing.result (expr_of c.kept.result.now)
    c.in-Some.ensures (only_one c.args.args.now c.of-item.result c.in-len1.len_at_least c.in-len1.len_below c.of-item.is)
    c.writes_nothing.ensures c.if-writes_nothing.true c.kept.ensures
