-- Targets of Set are places, or written as they are used.
use Rattle.std.proofs.Common.{◌≡◌, Option, Some, None, refl, ap, ◌∙◌}
use Rattle.bound_tree.specs.Tree.{Expr, typed, Term, constant, variable, field, element, call, library, unary, binary, convert, new_object, me, with_object, err_number, err_raise, err_clear, is_same, loose}
use Rattle.net_tree.specs.Tree as net
use Rattle.vb_tree.specs.BoundTree.{Ty}
use Rattle.written_trees.specs.Exprs.{exp_of, target_exp, target_term, term_exp}
use Rattle.written_trees.specs.Names.{Scope}
use Rattle.written_exprs.specs.Targets.{place_exp, place_term}

abbrev place_or : Option net.Exp → net.Exp → net.Exp
place_or None e = e
place_or (Some x) e = x

by_place : (S : Scope) (ty : Ty) (t : Term) → place_or (place_term S t) (term_exp S ty t) ≡ target_term S ty t
by_place S ty (constant x origin) = refl
by_place S ty (variable v qualified) = refl
by_place S ty (field e k) = refl
by_place S ty (element e indexes) = refl
by_place S ty (call p qualified of args) = refl
by_place S ty (library f args) = refl
by_place S ty (unary o e) = refl
by_place S ty (binary o e f) = refl
by_place S ty (convert to e) = refl
by_place S ty (new_object c) = refl
by_place S ty me = refl
by_place S ty (with_object root) = refl
by_place S ty err_number = refl
by_place S ty (err_raise e) = refl
by_place S ty err_clear = refl
by_place S ty (is_same e f) = refl
by_place S ty (loose e rules) = refl

pub place_target : (S : Scope) (e : Expr) (x : net.Exp) → Some x ≡ place_exp S e → x ≡ target_exp S e
place_target S (typed ty t) x h = ap (λ p. place_or p (term_exp S ty t)) h ∙ by_place S ty t

pub used_target : (S : Scope) (e : Expr) (x : net.Exp) → None ≡ place_exp S e → x ≡ exp_of S e → x ≡ target_exp S e
used_target S (typed ty t) x h used = used ∙ ap (λ p. place_or p (term_exp S ty t)) h ∙ by_place S ty t
