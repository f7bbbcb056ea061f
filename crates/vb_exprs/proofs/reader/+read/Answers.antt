use Rattle.std.proofs.Common.{◌≡◌, ◌-◌, false, is_some, sym, ap, ◌∙◌, subst, arith, rules}
use Rattle.std.proofs.lemmas.Result.{err_from_is_err_and}
use Rattle.vb_tree.specs.Tree.{binary, index, type_of}
use Rattle.vb_tree.specs.View.{exp_of, args_of}
use Rattle.vb_tree.specs.Expressions.{symbols, symbol_of, tree_of, arg_trees, value_tree, name_before, depth_of, args_depth, given_depth}
use Rattle.vb_tree.specs.Tree as exp
use Rattle.vb_tree.specs.declared.expression.BinOp.TheVariants.{Sub}
use Rattle.vb_exprs.specs.declared.token_class.Class.TheVariants as k
use Rattle.vb_exprs.specs.Reading.{Stands, extended}
use Rattle.vb_exprs.proofs.Spines.{begin, next, last, depth_extended, fails_up, fails_same, starts_open, starts_prefix, starts_type_of}
use Rattle.vb_exprs.proofs.Lists.{empty_args, argument_stands, depth_left, after_comma, after_last, comma_or_close, argument_omitted, argument_given, name_read, mark_read, args_depth_push}
use Rattle.vb_exprs.proofs.Views.{args_in_row-items}
use Rattle.vb_exprs.proofs.Arms.{minus_arm, not_arm, type_arm, new_arm, tail_is, not_empty, comma_shorter}
use Rattle.vb_exprs.proofs.reader.+read.Goals as goal

pub read-returns-in_err-left-clause-given : goal.read-returns-in_err-left-clause-given
read-returns-in_err-left-clause-given t c = λ u end h.
    let b = begin c.args.bound u (symbols c.args.tokens.now) end h in
    let p = err_from_is_err_and c.from_residual.result c.from_residual.ensures.1 in
    rw (p.1, p.2) (fails_same _ c.args.room (depth_of (tree_of b.first)) (depth_of (tree_of u)) b.depth (c.in_err-left.ensures.given b.first _ b.starts))

pub read-links-init : goal.read-links-init
read-links-init t c = record {
  measured = c.in_ok-left.ensures.measured.0;
  bounded = c.in_ok-left.ensures.measured.1;
  shorter = c.in_ok-left.ensures.shorter;
  climbed = λ u end h.
      let b = begin c.args.bound u (symbols c.args.tokens.now) end h in
      let g = c.in_ok-left.ensures.given b.first b.more b.starts in
      record { from = b.first; is = sym g.0; climbs = rw g.1 b.climbs };
}

pub read-returns-then-left-room-clause-given : goal.read-returns-then-left-room-clause-given
read-returns-then-left-room-clause-given t c = λ u end h.
    let k = c.links.invariant.climbed u end h in
    let n = next c.args.bound u k.from _ end k.climbs (sym c.continues.ensures ∙ c.links-test.true) in
    omega (arith, n.depth, depth_extended k.from n.link, ap depth_of k.is)

pub read-returns-in_err-longer-clause-given : goal.read-returns-in_err-longer-clause-given
read-returns-in_err-longer-clause-given t c = λ u end h.
    let k = c.links.invariant.climbed u end h in
    let n = next c.args.bound u k.from _ end k.climbs (sym c.continues.ensures ∙ c.links-test.true) in
    let p = err_from_is_err_and c.from_residual-in_err-longer.result c.from_residual-in_err-longer.ensures.1 in
    rw (p.1, p.2) (fails_same _ c.args.room (depth_of (tree_of (extended k.from n.link))) (depth_of (tree_of u)) n.depth (c.in_err-longer.ensures.given k.from n.link n.beyond k.is n.stands))

pub read-links-preserved : goal.read-links-preserved
read-links-preserved t c = record {
  measured = c.in_ok-longer.ensures.measured.0;
  bounded = c.in_ok-longer.ensures.measured.1;
  shorter = omega (arith, c.in_ok-longer.ensures.shorter, c.links.invariant.shorter);
  climbed = λ u end h.
      let k = c.links.invariant.climbed u end h in
      let n = next c.args.bound u k.from _ end k.climbs (sym c.continues.ensures ∙ c.links-test.true) in
      let g = c.in_ok-longer.ensures.given k.from n.link n.beyond k.is n.stands in
      record { from = extended k.from n.link; is = sym g.0; climbs = rw g.1 n.climbs };
}

pub read-returns-clause-given : goal.read-returns-clause-given
read-returns-clause-given t c = λ u end h.
    let k = c.links.invariant.climbed u end h in
    let r = last c.args.bound u k.from _ end k.climbs (sym c.continues.ensures ∙ c.links-test.false) in
    (sym k.is ∙ ap tree_of r.0, r.1)

pub start-returns-in-Operator-Sub-false-clause-given : goal.start-returns-in-Operator-Sub-false-clause-given
start-returns-in-Operator-Sub-false-clause-given t c =
    let e : c.in-Some.class ≡ k.Operator Sub false = search rules in
    minus_arm c.args.room _ (symbols c.args.tokens.now) (symbols c.in-Some.rest.now) (symbol_of c.in-Some.first.now.kind) c.in-Some.class (ap symbols c.in-Some.ensures.0) c.in-Some.ensures.1 e c.prefixed.ensures.given

pub start-returns-in-Not-clause-given : goal.start-returns-in-Not-clause-given
start-returns-in-Not-clause-given t c =
    not_arm c.args.room _ (symbols c.args.tokens.now) (symbols c.in-Some.rest.now) (symbol_of c.in-Some.first.now.kind) c.in-Some.class (ap symbols c.in-Some.ensures.0) c.in-Some.ensures.1 c.in-Not.is c.prefixed-in-Not.ensures.given

pub start-returns-in-TypeOf-clause-given : goal.start-returns-in-TypeOf-clause-given
start-returns-in-TypeOf-clause-given t c =
    type_arm c.args.room _ (symbols c.args.tokens.now) (symbols c.in-Some.rest.now) (symbol_of c.in-Some.first.now.kind) c.in-Some.class (ap symbols c.in-Some.ensures.0) c.in-Some.ensures.1 c.in-TypeOf.is c.type_test.ensures.given

pub start-returns-in-New-clause-given : goal.start-returns-in-New-clause-given
start-returns-in-New-clause-given t c =
    new_arm c.args.room _ (symbols c.args.tokens.now) (symbols c.in-Some.rest.now) (symbol_of c.in-Some.first.now.kind) c.in-Some.class (ap symbols c.in-Some.ensures.0) c.in-Some.ensures.1 c.in-New.is c.creation.ensures.given

pub group-returns-in_err-inner-clause-given : goal.group-returns-in_err-inner-clause-given
group-returns-in_err-inner-clause-given t c = λ u rest h.
    let o = starts_open u (symbols c.args.tokens.now) rest h in
    let p = err_from_is_err_and c.from_residual.result c.from_residual.ensures.1 in
    rw (p.1, p.2) (fails_up _ (c.args.room - 1) c.args.room (depth_of (tree_of o.0)) (depth_of (tree_of u)) (omega arith) (omega (arith, ap (λ x. depth_of (tree_of x)) o.1)) (c.in_err-inner.ensures.given o.0 _ o.2))

pub group-returns-in_default-clause-given : goal.group-returns-in_default-clause-given
group-returns-in_default-clause-given t c = λ u rest h.
    let o = starts_open u (symbols c.args.tokens.now) rest h in
    let g = c.in_ok-inner.ensures.given o.0 _ o.2 in
    c.in_default.ensures rest g.1

pub prefixed-returns-in_err-inner-clause-given : goal.prefixed-returns-in_err-inner-clause-given
prefixed-returns-in_err-inner-clause-given t c = λ q u rest e h.
    let o = starts_prefix u q c.operand_bound.result (symbols c.args.tokens.now) rest (c.operand_bound.ensures q e) h in
    let p = err_from_is_err_and c.from_residual.result c.from_residual.ensures.1 in
    rw (p.1, p.2) (fails_up _ (c.args.room - 1) c.args.room (depth_of (tree_of o.0)) (depth_of (tree_of u)) (omega arith) (omega (arith, ap (λ x. depth_of (tree_of x)) o.1)) (c.in_err-inner.ensures.given o.0 rest o.2))

pub type_test-returns-in_err-inner-clause-given : goal.type_test-returns-in_err-inner-clause-given
type_test-returns-in_err-inner-clause-given t c = λ w u rest h.
    let o = starts_type_of u w (symbols c.args.tokens.now) rest h in
    let p = err_from_is_err_and c.from_residual.result c.from_residual.ensures.1 in
    rw (p.1, p.2) (fails_up _ (c.args.room - 1) c.args.room (depth_of (tree_of o.operand)) (depth_of (tree_of u)) (omega arith) (omega (arith, ap (λ x. depth_of (tree_of x)) o.whole)) (c.in_err-inner.ensures.given o.operand _ o.stands))

pub type_test-returns-in_default-clause-given : goal.type_test-returns-in_default-clause-given
type_test-returns-in_default-clause-given t c = λ w u rest h.
    let o = starts_type_of u w (symbols c.args.tokens.now) rest h in
    let g = c.in_ok-inner.ensures.given o.operand _ o.stands in
    not_empty _ _ (sym g.1 ∙ ap symbols c.in_default.ensures)

pub type_test-returns-in_default-2-clause-given : goal.type_test-returns-in_default-2-clause-given
type_test-returns-in_default-2-clause-given t c = λ w u rest h.
    let o = starts_type_of u w (symbols c.args.tokens.now) rest h in
    let g = c.in_ok-inner.ensures.given o.operand _ o.stands in
    let behind = tail_is _ _ (symbols c.in-Some.behind.now) _ (sym (ap symbols c.in-Some.ensures.0) ∙ g.1) in
    (rw c.in_default-2.is at c.in_ok-name.ensures.given) o.ty rest behind o.fits o.no_part

pub type_test-returns-clause-given : goal.type_test-returns-clause-given
type_test-returns-clause-given t c = λ w u rest h.
    let o = starts_type_of u w (symbols c.args.tokens.now) rest h in
    let g = c.in_ok-inner.ensures.given o.operand _ o.stands in
    let behind = tail_is _ _ (symbols c.in-Some.behind.now) _ (sym (ap symbols c.in-Some.ensures.0) ∙ g.1) in
    let r = (rw c.in-Some-2.is at c.in_ok-name.ensures.given) o.ty rest behind o.fits o.no_part in
    (ap (λ x. type_of x c.in-Some-2.name) (ap exp_of c.in_ok-new.ensures.ok ∙ g.0) ∙ ap (type_of (tree_of o.operand)) r.0 ∙ sym (ap tree_of o.whole), r.1)

pub with_operator-returns-in_err-right-clause-given : goal.with_operator-returns-in_err-right-clause-given
with_operator-returns-in_err-right-clause-given t c = λ r rest h.
    let p = err_from_is_err_and c.from_residual.result c.from_residual.ensures.1 in
    rw (p.1, p.2) (fails_up _ (c.args.room - 1) c.args.room (depth_of (tree_of r)) (depth_of (binary c.args.op (exp_of c.args.left.expr) (tree_of r))) (omega arith) (omega arith) (c.in_err-right.ensures.given r rest (rw c.level.ensures h)))

pub with_arguments-returns-in_err-listed-clause-given : goal.with_arguments-returns-in_err-listed-clause-given
with_arguments-returns-in_err-listed-clause-given t c = λ args rest h.
    let p = err_from_is_err_and c.from_residual.result c.from_residual.ensures.1 in
    rw (p.1, p.2) (fails_up _ (c.args.room - 1) c.args.room (args_depth (arg_trees args)) (depth_of (index (exp_of c.args.left.expr) (arg_trees args))) (omega arith) (omega arith) (c.in_err-listed.ensures.given args rest h))

pub with_arguments-returns-clause-measured : goal.with_arguments-returns-clause-measured
with_arguments-returns-clause-measured t c =
    let args = args_in_row-items c.in_ok-listed.listed.args in
    let left = ap exp_of c.in_ok-new.ensures.ok in
    (omega (arith, ap args_depth args, ap depth_of left, c.in_ok-listed.ensures.measured.0), omega (arith, c.in_ok-listed.ensures.measured.1))

pub with_arguments-returns-clause-given : goal.with_arguments-returns-clause-given
with_arguments-returns-clause-given t c = λ args rest h.
    let g = c.in_ok-listed.ensures.given args rest h in
    let same = args_in_row-items c.in_ok-listed.listed.args ∙ g.0 in
    (ap (index (exp_of c.in_ok-new.field-0.value)) same ∙ ap (λ x. index (exp_of x) (arg_trees args)) c.in_ok-new.ensures.ok, g.1)

pub arguments-returns-in-Some-clause-given : goal.arguments-returns-in-Some-clause-given
arguments-returns-in-Some-clause-given t c = λ args rest h.
    let e = empty_args args (symbols c.args.tokens.now) (symbols c.in-Some.after.now) rest h c.in-Some.ensures in
    (ap args_of c.new-args.ensures.items ∙ sym (ap arg_trees e.0), e.1)

pub arguments-returns-in_err-read-clause-given : goal.arguments-returns-in_err-read-clause-given
arguments-returns-in_err-read-clause-given t c = λ args rest h.
    let r = c.listed.invariant.remains args rest h in
    let p = err_from_is_err_and c.from_residual.result c.from_residual.ensures.1 in
    let s = argument_stands _ _ rest args r in
    rw (p.1, p.2) (fails_same _ c.args.room (given_depth (value_tree r.value)) (args_depth (arg_trees args)) (depth_left _ _ rest args r) (c.in_err-read.ensures.given r.name r.mark r.value _ s))

pub arguments-listed-preserved : goal.arguments-listed-preserved
arguments-listed-preserved t c = record {
  measured = omega (arith, args_depth_push c.listed.args.items c.in_ok-read.read.arg, ap (λ x. args_depth (args_of x)) c.in_ok-push.ensures.items, c.in_ok-read.ensures.measured.0);
  bounded = omega (arith, c.in_ok-read.ensures.measured.1);
  shorter = omega (arith, comma_shorter _ _ c.in-Some-after_comma.ensures, c.in_ok-read.ensures.shorter, c.listed.invariant.shorter);
  remains = λ args rest h.
      let r = c.listed.invariant.remains args rest h in
      let g = c.in_ok-read.ensures.given r.name r.mark r.value _ (argument_stands _ _ rest args r) in
      rw c.in_ok-push.ensures.items (after_comma _ _ rest (symbols c.in-Some-after_comma.after.now) args _ r g.0 (sym g.1 ∙ c.in-Some-after_comma.ensures));
}

pub arguments-returns-in_default-after_closing-clause-given : goal.arguments-returns-in_default-after_closing-clause-given
arguments-returns-in_default-after_closing-clause-given t c = λ args rest h.
    let r = c.listed.invariant.remains args rest h in
    let g = c.in_ok-read.ensures.given r.name r.mark r.value _ (argument_stands _ _ rest args r) in
    comma_or_close r.more rest (λ ts e. c.in_default-after_comma.ensures ts (g.1 ∙ e)) (λ ts e. c.in_default-after_closing.ensures ts (g.1 ∙ e))

pub arguments-returns-in-listed-clause-measured : goal.arguments-returns-in-listed-clause-measured
arguments-returns-in-listed-clause-measured t c = (
  omega (arith, args_depth_push c.listed.args.items c.in_ok-read.read.arg, ap (λ x. args_depth (args_of x)) (c.shrink_to_fit.ensures.items ∙ c.in_ok-push.ensures.items), c.in_ok-read.ensures.measured.0),
  omega (arith, c.in_ok-read.ensures.measured.1),
)

pub arguments-returns-in-listed-clause-given : goal.arguments-returns-in-listed-clause-given
arguments-returns-in-listed-clause-given t c = λ args rest h.
    let r = c.listed.invariant.remains args rest h in
    let g = c.in_ok-read.ensures.given r.name r.mark r.value _ (argument_stands _ _ rest args r) in
    let e = after_last _ _ rest (symbols c.in-Some-after_closing.after.now) args _ r g.0 (sym g.1 ∙ c.in-Some-after_closing.ensures) in
    (ap args_of (c.shrink_to_fit.ensures.items ∙ c.in_ok-push.ensures.items) ∙ e.0, e.1)

pub argument-returns-then-ends_argument-clause-given : goal.argument-returns-then-ends_argument-clause-given
argument-returns-then-ends_argument-clause-given t c = λ name mark value rest h.
    let o = argument_omitted name mark value (symbols c.args.tokens.now) rest h c.if-ends_argument.ensures in
    (record { name_is = sym (ap name_before o.0); marked_is = sym (ap is_some o.1); value_is = sym (ap value_tree o.2) }, o.3)

pub argument-returns-in_err-part-clause-given : goal.argument-returns-in_err-part-clause-given
argument-returns-in_err-part-clause-given t c = λ name mark value rest h.
    let g = argument_given name mark value (symbols c.args.tokens.now) rest h c.if-ends_argument.ensures in
    let n = name_read name c.in_ok-name.name mark _ (symbols c.args.tokens.now) _ g.spelled g.start c.in_ok-name.ensures.given in
    let k = mark_read mark _ _ _ _ n.1 g.start c.optional_mark-marked.ensures.given in
    let p = err_from_is_err_and c.from_residual-in_err-part.result c.from_residual-in_err-part.ensures.1 in
    let s = subst (λ x. Stands 15 g.tree x rest) (sym k.1) g.stands in
    rw (p.1, p.2, g.is) (c.in_err-part.ensures.given g.tree rest s)

pub argument-returns-clause-given : goal.argument-returns-clause-given
argument-returns-clause-given t c = λ name mark value rest h.
    let g = argument_given name mark value (symbols c.args.tokens.now) rest h c.if-ends_argument.ensures in
    let n = name_read name c.in_ok-name.name mark _ (symbols c.args.tokens.now) _ g.spelled g.start c.in_ok-name.ensures.given in
    let k = mark_read mark _ _ _ _ n.1 g.start c.optional_mark-marked.ensures.given in
    let s = subst (λ x. Stands 15 g.tree x rest) (sym k.1) g.stands in
    let r = c.in_ok-part.ensures.given g.tree rest s in
    (record { name_is = n.0; marked_is = k.0; value_is = ap exp.given r.0 ∙ sym (ap value_tree g.is) }, r.1)
