-- Nodes of the code that hold lists, of which the parts are written one after the other.
use Rattle.std.proofs.Common.{◌≡◌, Bool, true, List, [], ◌∷◌, Some, sym, ap, ◌∙◌, Global}
use Rattle.std.specs.Borrow.{Bor}
use Rattle.std.specs.Prelude.{Box, Option, Vec}
use Rattle.vb_tree.specs.BoundTree.{Ty}
use Rattle.vb_tree.specs.BoundView.{type_of}
use Rattle.vb_tree.specs.declared.bound.LibCall.{LibCall}
use Rattle.vb_tree.specs.declared.declared.ProcId.{ProcId}
use Rattle.bound_tree.specs.declared.expression.BoundArg.{BoundArg}
use Rattle.bound_tree.specs.declared.expression.BoundExpr.{BoundExpr}
use Rattle.bound_tree.specs.declared.expression.BoundNode.{BoundNode}
use Rattle.bound_tree.specs.declared.expression.BoundNode.TheVariants as n
use Rattle.bound_tree.specs.Tree.{Expr, Term, typed, library, no_exprs, next_expr}
use Rattle.bound_tree.specs.View.{expr_of, exprs_of, object_of, passed_of, term_of}
use Rattle.bound_tree.proofs.Views.{call_shown, element_shown, lib_shown}
use Rattle.net_tree.specs.Tree as net
use Rattle.written_trees.specs.Exprs as exprs
use Rattle.written_trees.specs.Arguments as rows
use Rattle.written_trees.specs.Conversions.{writes_nothing}
use Rattle.written_trees.specs.Library.{conversion_of, library_call}
use Rattle.written_trees.specs.Names.{Scope}
use Rattle.written_exprs.specs.declared.members.Lows.{Lows}
use Rattle.written_exprs.specs.Indexes.{indexes_by, lows_of}
use Rattle.written_exprs.specs.Kept.{kept_or}
use Rattle.written_exprs.proofs.Indexes.{indexes_lowered}

pub element_written : (S : Scope) (ty : Ty) (of : Box BoundExpr Global) (indexes : Vec BoundExpr Global) (node : BoundNode) (made a : net.Exp) (list : net.Exps)
    (x y : BoundExpr) (lows : Lows) (ys : List BoundExpr)
    → made ≡ net.call_of a list
    → a ≡ exprs.exp_of S (expr_of x)
    → x ≡ of.value
    → lows ≡ lows_of S (expr_of y)
    → y ≡ of.value
    → list ≡ indexes_by S lows 0 (exprs_of ys)
    → ys ≡ indexes.items
    → node ≡ n.Element of indexes
    → made ≡ exprs.term_exp S ty (term_of node)
element_written S ty of indexes node made a list x y lows ys whole first held low array rest same is =
    let es = exprs_of indexes.items in
    whole
    ∙ ap (λ (b : net.Exp). net.call_of b list) (first ∙ ap (λ (e : BoundExpr). exprs.exp_of S (expr_of e)) held)
    ∙ ap (net.call_of (exprs.exp_of S (expr_of of.value)))
    (rest ∙ ap (λ (zs : List BoundExpr). indexes_by S lows 0 (exprs_of zs)) same
    ∙ ap (λ (l : Lows). indexes_by S l 0 es) (low ∙ ap (λ (e : BoundExpr). lows_of S (expr_of e)) array)
    ∙ indexes_lowered S (expr_of of.value) 0 es)
    ∙ sym (ap (λ (m : BoundNode). exprs.term_exp S ty (term_of m)) is ∙ ap (exprs.term_exp S ty) (element_shown of indexes))

pub call_written : (S : Scope) (ty : Ty) (p : ProcId) (qualified bare : Bool) (of : Option (Box BoundExpr Global)) (args : Vec BoundArg Global) (node : BoundNode)
    (made callee : net.Exp) (list : net.Exps) (xs ys : List BoundArg)
    → made ≡ exprs.called bare callee list
    → callee ≡ exprs.callee_of S p.0 qualified (object_of of)
    → list ≡ exprs.passed_of S p.0 0 (passed_of xs)
    → xs ≡ args.items
    → bare ≡ exprs.is_bare S p.0 qualified (object_of of) (passed_of ys)
    → ys ≡ args.items
    → node ≡ n.Call p qualified of args
    → made ≡ exprs.term_exp S ty (term_of node)
call_written S ty p qualified bare of args node made callee list xs ys whole first rest same name same_too is =
    whole
    ∙ ap (λ (b : Bool). exprs.called b callee list) (name ∙ ap (λ (zs : List BoundArg). exprs.is_bare S p.0 qualified (object_of of) (passed_of zs)) same_too)
    ∙ ap (λ (c : net.Exp). exprs.called (exprs.is_bare S p.0 qualified (object_of of) (passed_of args.items)) c list) first
    ∙ ap (λ (l : net.Exps). exprs.called (exprs.is_bare S p.0 qualified (object_of of) (passed_of args.items)) (exprs.callee_of S p.0 qualified (object_of of)) l)
    (rest ∙ ap (λ (zs : List BoundArg). exprs.passed_of S p.0 0 (passed_of zs)) same)
    ∙ sym (ap (λ (m : BoundNode). exprs.term_exp S ty (term_of m)) is ∙ ap (exprs.term_exp S ty) (call_shown p qualified of args))

pub empty_library_written : (S : Scope) (ty : Ty) (function : LibCall) (args : Vec BoundExpr Global) (node : BoundNode) (xs : List BoundExpr)
    → xs ≡ []
    → xs ≡ args.items
    → node ≡ n.Lib function args
    → net.nothing ≡ exprs.term_exp S ty (term_of node)
empty_library_written S ty function args node xs none same is =
    ap (λ (zs : List BoundExpr). exprs.library_of S ty function (exprs_of zs)) (sym none ∙ same)
    ∙ sym (ap (λ (m : BoundNode). exprs.term_exp S ty (term_of m)) is ∙ ap (exprs.term_exp S ty) (lib_shown function args))

pub library_written : (S : Scope) (ty : Ty) (function : LibCall) (args : Vec BoundExpr Global) (node : BoundNode) (made a : net.Exp) (others : net.Exps)
    (first : BoundExpr) (rest xs : List BoundExpr)
    → made ≡ library_call S function ty (expr_of first) (exprs_of rest) a (net.next_exp a others)
    → a ≡ exprs.exp_of S (expr_of first)
    → others ≡ exprs.exps_of S (exprs_of rest)
    → xs ≡ first ∷ rest
    → xs ≡ args.items
    → node ≡ n.Lib function args
    → made ≡ exprs.term_exp S ty (term_of node)
library_written S ty function args node made a others first rest xs whole one more listed same is =
    let written = exprs.exp_of S (expr_of first) in
    whole
    ∙ ap (λ (b : net.Exp). library_call S function ty (expr_of first) (exprs_of rest) b (net.next_exp b others)) one
    ∙ ap (λ (l : net.Exps). library_call S function ty (expr_of first) (exprs_of rest) written (net.next_exp written l)) more
    ∙ ap (λ (zs : List BoundExpr). exprs.library_of S ty function (exprs_of zs)) (sym listed ∙ same)
    ∙ sym (ap (λ (m : BoundNode). exprs.term_exp S ty (term_of m)) is ∙ ap (exprs.term_exp S ty) (lib_shown function args))

-- a call of the library whose argument may be kept in its place
pub part_kept : (ty : Ty) (function : LibCall) (args : Vec BoundExpr Global) (node : BoundNode) (kept : Option (Bor BoundExpr)) (xs : List BoundExpr)
    → kept_or (typed ty (library function (exprs_of xs))) kept ≡ rows.kept_call ty function (conversion_of function) (exprs_of xs)
    → xs ≡ args.items
    → node ≡ n.Lib function args
    → kept_or (typed ty (term_of node)) kept ≡ rows.kept_in ty (term_of node)
part_kept ty function args node kept xs called same is =
    let shown = ap term_of is ∙ lib_shown function args in
    ap (λ (t : Term). kept_or (typed ty t) kept) shown
    ∙ ap (λ (zs : List BoundExpr). kept_or (typed ty (library function (exprs_of zs))) kept) (sym same)
    ∙ called
    ∙ ap (λ (zs : List BoundExpr). rows.kept_call ty function (conversion_of function) (exprs_of zs)) same
    ∙ sym (ap (rows.kept_in ty) shown)

pub argument_kept : (ty : Ty) (function : LibCall) (to : Ty) (xs : List BoundExpr) (of : BoundExpr) (test : Bool) (x : Expr)
    → Some to ≡ conversion_of function
    → xs ≡ of ∷ []
    → test ≡ writes_nothing (type_of of.ty) to
    → test ≡ true
    → x ≡ rows.kept (expr_of of)
    → x ≡ rows.kept_call ty function (conversion_of function) (exprs_of xs)
argument_kept ty function to xs of test x converts one tested holds is =
    is
    ∙ ap (λ (b : Bool). rows.kept_if b (typed ty (library function (next_expr (expr_of of) no_exprs))) (rows.kept (expr_of of))) (sym holds ∙ tested)
    ∙ ap (λ (zs : List BoundExpr). rows.kept_call ty function (Some to) (exprs_of zs)) (sym one)
    ∙ ap (λ (o : Option Ty). rows.kept_call ty function o (exprs_of xs)) converts
