-- The walk meets the paths that are listed.
use Rattle.std.proofs.Common.{◌≡◌, List, [], ◌∷◌, ◌++◌, refl, sym, ap, ◌∙◌}
use Rattle.std.specs.Prelude.{Option, Some, None}
use Rattle.std.specs.List.{fold, flat_map}
use Rattle.net_tree.specs.Tree.{CaseItem, Dim, Exp, Exps, Line, Member, Module, Procedure, ReDimItem, assign, binary, call, call_of, case_else, case_is, case_line, case_range, case_value, cast, comment, const_member, constant, ctype, do_head, do_until, do_while, dot, else_if, else_line, end_if, end_select, end_while, end_with, exit, for_head, goto, if_head, label, lit, local, loop, loop_until, loop_while, me, member_comment, new_array, new_object, next, next_exp, no_exps, nothing, on_error_goto, on_error_goto_zero, on_error_resume_next, paren, path, proc, property, redim, resume, resume_at, resume_next, select, static_local, structure, type_of, unary, variable, while_head, with_dot, with_head}
use Rattle.support_text.specs.Walk.{walk_exp, walk_exps, walk_option, walk_case, walk_redim, walk_line, walk_dim, walk_procedure, walk_part, walk_member, walk_module}
use Rattle.written_trees.specs.Names.{Path}
use Rattle.correspondence.specs.Paths.{paths_of_case, paths_of_dim, paths_of_exp, paths_of_exps, paths_of_line, paths_of_member, paths_of_module, paths_of_option, paths_of_part, paths_of_procedure, paths_of_redim}

fold_append : {S A : Type 0} (f : S → A → S) (s : S) (xs ys : List A) → fold f s (xs ++ ys) ≡ fold f (fold f s xs) ys
fold_append f s [] ys = refl
fold_append f s (x ∷ xs) ys = fold_append f (f s x) xs ys

-- a fold of walks over parts is one over the paths of all parts
pub fold_listed : {S A : Type 0} (meet : S → Path → S) (walk : S → A → S) (paths : A → List Path) → ((s : S) (x : A) → walk s x ≡ fold meet s (paths x)) → (s : S) (xs : List A) → fold walk s xs ≡ fold meet s (flat_map paths xs)
fold_listed meet walk paths same s [] = refl
fold_listed meet walk paths same s (x ∷ xs) =
    fold_listed meet walk paths same (walk s x) xs
    ∙ ap (λ t. fold meet t (flat_map paths xs)) (same s x)
    ∙ sym (fold_append meet s (paths x) (flat_map paths xs))

mutual
  exp_met : {S : Type 0} (meet : S → Path → S) (s : S) (e : Exp) → walk_exp meet s e ≡ fold meet s (paths_of_exp e)
  exp_met meet s (lit l) = refl
  exp_met meet s nothing = refl
  exp_met meet s me = refl
  exp_met meet s (path names) = refl
  exp_met meet s (with_dot name) = refl
  exp_met meet s (dot e name) = exp_met meet s e
  exp_met meet s (call_of e args) =
      exps_met meet (walk_exp meet s e) args
      ∙ ap (λ t. fold meet t (paths_of_exps args)) (exp_met meet s e)
      ∙ sym (fold_append meet s (paths_of_exp e) (paths_of_exps args))
  exp_met meet s (cast w e) = exp_met meet s e
  exp_met meet s (ctype e t) = exp_met meet s e
  exp_met meet s (unary o e) = exp_met meet s e
  exp_met meet s (binary o a b) =
      exp_met meet (walk_exp meet s a) b
      ∙ ap (λ t. fold meet t (paths_of_exp b)) (exp_met meet s a)
      ∙ sym (fold_append meet s (paths_of_exp a) (paths_of_exp b))
  exp_met meet s (paren e) = exp_met meet s e
  exp_met meet s (new_object t args) = exps_met meet s args
  exp_met meet s (new_array t bounds) = exps_met meet s bounds
  exp_met meet s (type_of e t) = exp_met meet s e

  exps_met : {S : Type 0} (meet : S → Path → S) (s : S) (es : Exps) → walk_exps meet s es ≡ fold meet s (paths_of_exps es)
  exps_met meet s no_exps = refl
  exps_met meet s (next_exp e more) =
      exps_met meet (walk_exp meet s e) more
      ∙ ap (λ t. fold meet t (paths_of_exps more)) (exp_met meet s e)
      ∙ sym (fold_append meet s (paths_of_exp e) (paths_of_exps more))

both_met : {S : Type 0} (meet : S → Path → S) (s : S) (a b : Exp) → walk_exp meet (walk_exp meet s a) b ≡ fold meet s (paths_of_exp a ++ paths_of_exp b)
both_met meet s a b =
    exp_met meet (walk_exp meet s a) b
    ∙ ap (λ t. fold meet t (paths_of_exp b)) (exp_met meet s a)
    ∙ sym (fold_append meet s (paths_of_exp a) (paths_of_exp b))

listed_met : {S : Type 0} (meet : S → Path → S) (s : S) (e : Exp) (args : Exps) → walk_exps meet (walk_exp meet s e) args ≡ fold meet s (paths_of_exp e ++ paths_of_exps args)
listed_met meet s e args =
    exps_met meet (walk_exp meet s e) args
    ∙ ap (λ t. fold meet t (paths_of_exps args)) (exp_met meet s e)
    ∙ sym (fold_append meet s (paths_of_exp e) (paths_of_exps args))

option_met : {S : Type 0} (meet : S → Path → S) (s : S) (e : Option Exp) → walk_option meet s e ≡ fold meet s (paths_of_option e)
option_met meet s None = refl
option_met meet s (Some e) = exp_met meet s e

case_met : {S : Type 0} (meet : S → Path → S) (s : S) (item : CaseItem) → walk_case meet s item ≡ fold meet s (paths_of_case item)
case_met meet s (case_value e) = exp_met meet s e
case_met meet s (case_range a b) = both_met meet s a b
case_met meet s (case_is o e) = exp_met meet s e

redim_met : {S : Type 0} (meet : S → Path → S) (s : S) (r : ReDimItem) → walk_redim meet s r ≡ fold meet s (paths_of_redim r)
redim_met meet s r = listed_met meet s r.array r.bounds

last_met : {S : Type 0} (meet : S → Path → S) (s : S) (to : Exp) (step : Option Exp) → walk_option meet (walk_exp meet s to) step ≡ fold meet s (paths_of_exp to ++ paths_of_option step)
last_met meet s to step =
    option_met meet (walk_exp meet s to) step
    ∙ ap (λ t. fold meet t (paths_of_option step)) (exp_met meet s to)
    ∙ sym (fold_append meet s (paths_of_exp to) (paths_of_option step))

from_met : {S : Type 0} (meet : S → Path → S) (s : S) (from to : Exp) (step : Option Exp) → walk_option meet (walk_exp meet (walk_exp meet s from) to) step ≡ fold meet s (paths_of_exp from ++ (paths_of_exp to ++ paths_of_option step))
from_met meet s from to step =
    last_met meet (walk_exp meet s from) to step
    ∙ ap (λ t. fold meet t (paths_of_exp to ++ paths_of_option step)) (exp_met meet s from)
    ∙ sym (fold_append meet s (paths_of_exp from) (paths_of_exp to ++ paths_of_option step))

counting_met : {S : Type 0} (meet : S → Path → S) (s : S) (counter from to : Exp) (step : Option Exp) → walk_line meet s (for_head counter from to step) ≡ fold meet s (paths_of_line (for_head counter from to step))
counting_met meet s counter from to step =
    from_met meet (walk_exp meet s counter) from to step
    ∙ ap (λ t. fold meet t (paths_of_exp from ++ (paths_of_exp to ++ paths_of_option step))) (exp_met meet s counter)
    ∙ sym (fold_append meet s (paths_of_exp counter) (paths_of_exp from ++ (paths_of_exp to ++ paths_of_option step)))

line_met : {S : Type 0} (meet : S → Path → S) (s : S) (l : Line) → walk_line meet s l ≡ fold meet s (paths_of_line l)
line_met meet s (comment units) = refl
line_met meet s (assign target value) = both_met meet s target value
line_met meet s (call callee arguments) = listed_met meet s callee arguments
line_met meet s (if_head e) = exp_met meet s e
line_met meet s (else_if e) = exp_met meet s e
line_met meet s (select e) = exp_met meet s e
line_met meet s (case_line items) = fold_listed meet (walk_case meet) paths_of_case (case_met meet) s items
line_met meet s (for_head counter from to step) = counting_met meet s counter from to step
line_met meet s (do_while e) = exp_met meet s e
line_met meet s (do_until e) = exp_met meet s e
line_met meet s (loop_while e) = exp_met meet s e
line_met meet s (loop_until e) = exp_met meet s e
line_met meet s (while_head e) = exp_met meet s e
line_met meet s (with_head e) = exp_met meet s e
line_met meet s (redim preserve items) = fold_listed meet (walk_redim meet) paths_of_redim (redim_met meet) s items
line_met meet s else_line = refl
line_met meet s end_if = refl
line_met meet s case_else = refl
line_met meet s end_select = refl
line_met meet s next = refl
line_met meet s do_head = refl
line_met meet s loop = refl
line_met meet s end_while = refl
line_met meet s end_with = refl
line_met meet s (goto l) = refl
line_met meet s (label l) = refl
line_met meet s (on_error_goto l) = refl
line_met meet s on_error_goto_zero = refl
line_met meet s on_error_resume_next = refl
line_met meet s resume = refl
line_met meet s resume_next = refl
line_met meet s (resume_at l) = refl
line_met meet s (exit what) = refl

dim_met : {S : Type 0} (meet : S → Path → S) (s : S) (d : Dim) → walk_dim meet s d ≡ fold meet s (paths_of_dim d)
dim_met meet s (local v) = option_met meet s v.value
dim_met meet s (static_local v) = option_met meet s v.value
dim_met meet s (constant c) = exp_met meet s c.value

pub procedure_met : {S : Type 0} (meet : S → Path → S) (s : S) (p : Procedure) → walk_procedure meet s p ≡ fold meet s (paths_of_procedure p)
procedure_met meet s p =
    fold_listed meet (walk_line meet) paths_of_line (line_met meet) (fold (walk_dim meet) s p.prologue) p.lines
    ∙ ap (λ t. fold meet t (flat_map paths_of_line p.lines)) (fold_listed meet (walk_dim meet) paths_of_dim (dim_met meet) s p.prologue)
    ∙ sym (fold_append meet s (flat_map paths_of_dim p.prologue) (flat_map paths_of_line p.lines))

part_met : {S : Type 0} (meet : S → Path → S) (s : S) (p : Option Procedure) → walk_part meet s p ≡ fold meet s (paths_of_part p)
part_met meet s None = refl
part_met meet s (Some p) = procedure_met meet s p

member_met : {S : Type 0} (meet : S → Path → S) (s : S) (m : Member) → walk_member meet s m ≡ fold meet s (paths_of_member m)
member_met meet s (member_comment units) = refl
member_met meet s (variable visibility v) = option_met meet s v.value
member_met meet s (const_member visibility c) = exp_met meet s c.value
member_met meet s (structure s') = refl
member_met meet s (property p) =
    part_met meet (walk_part meet s p.get) p.set
    ∙ ap (λ t. fold meet t (paths_of_part p.set)) (part_met meet s p.get)
    ∙ sym (fold_append meet s (paths_of_part p.get) (paths_of_part p.set))
member_met meet s (proc p) = procedure_met meet s p

module_met : {S : Type 0} (meet : S → Path → S) (s : S) (m : Module) → walk_module meet s m ≡ fold meet s (paths_of_module m)
module_met meet s m = fold_listed meet (walk_member meet) paths_of_member (member_met meet) s m.members

pub modules_met : {S : Type 0} (meet : S → Path → S) (s : S) (modules : List Module) → fold (walk_module meet) s modules ≡ fold meet s (flat_map paths_of_module modules)
modules_met meet s modules = fold_listed meet (walk_module meet) paths_of_module (module_met meet) s modules
