-- What the walk notes of a function is whether its path is met.
use Rattle.std.proofs.Common.{◌≡◌, ℕ, Bool, true, false, ◌&&◌, ◌||◌, cond, List, [], ◌∷◌, codes, refl, ap, ◌∙◌}
use Rattle.std.specs.Prelude.{Option, Some, None}
use Rattle.std.specs.List.{fold}
use Rattle.net_tree.specs.Spelling.{is_same_text}
use Rattle.net_tree.specs.Tree.{CaseItem, Dim, Exp, Exps, Line, Member, Module, Procedure, ReDimItem, assign, binary, call, call_of, case_else, case_is, case_line, case_range, case_value, cast, comment, const_member, constant, ctype, do_head, do_until, do_while, dot, else_if, else_line, end_if, end_select, end_while, end_with, exit, for_head, goto, if_head, label, lit, local, loop, loop_until, loop_while, me, member_comment, new_array, new_object, next, next_exp, no_exps, nothing, on_error_goto, on_error_goto_zero, on_error_resume_next, paren, path, proc, property, redim, resume, resume_at, resume_next, select, static_local, structure, type_of, unary, variable, while_head, with_dot, with_head}
use Rattle.support_text.specs.declared.row.SupportRow.{SupportRow}
use Rattle.support_text.specs.declared.row.SupportRow.TheVariants.{PrintLine, PrintPart, CurText, PrintNum, Cur, Raise}
use Rattle.support_text.specs.declared.used.Used.{Used}
use Rattle.support_text.specs.Rows.{row_path, row_name, support_name}
use Rattle.support_text.specs.Walk.{walk_exp, walk_exps, walk_option, walk_case, walk_redim, walk_line, walk_dim, walk_procedure, walk_part, walk_member, walk_module}
use Rattle.support_text.specs.Needs.{met}
use Rattle.support_text.specs.Noting.{has, with_name, noted}

and_true : (a b : Bool) → a || b ≡ (a && true) || b
and_true true b = refl
and_true false b = refl

and_false : (a b : Bool) → b ≡ (a && false) || b
and_false true b = refl
and_false false b = refl

and_both_false : (a b c : Bool) → c ≡ (a && (b && false)) || c
and_both_false true b c = and_false b c
and_both_false false b c = refl

-- the function of a name
name_noted : (row : SupportRow) (used : Used) (name : List ℕ) → has (with_name used name) row ≡ (is_same_text name (row_name row) && true) || has used row
name_noted PrintLine used name = and_true (is_same_text name (codes "PrintLine")) used.print_line
name_noted PrintPart used name = and_true (is_same_text name (codes "PrintPart")) used.print_part
name_noted CurText used name = and_true (is_same_text name (codes "CurText")) used.cur_text
name_noted PrintNum used name = and_true (is_same_text name (codes "PrintNum")) used.print_num
name_noted Cur used name = and_true (is_same_text name (codes "Cur")) used.cur
name_noted Raise used name = and_true (is_same_text name (codes "Raise")) used.raise

in_module : (row : SupportRow) (used : Used) (b : Bool) (name : List ℕ) → has (cond b (with_name used name) used) row ≡ (b && (is_same_text name (row_name row) && true)) || has used row
in_module row used true name = name_noted row used name
in_module row used false name = refl

path_noted : (row : SupportRow) (used : Used) (names : List (List ℕ)) → has (noted used names) row ≡ met (row_path row) (has used row) names
path_noted row used [] = refl
path_noted row used (outer ∷ []) = and_false (is_same_text outer support_name) (has used row)
path_noted row used (outer ∷ name ∷ []) = in_module row used (is_same_text outer support_name) name
path_noted row used (outer ∷ name ∷ inner ∷ more) = and_both_false (is_same_text outer support_name) (is_same_text name (row_name row)) (has used row)

mutual
  exp_noted : (row : SupportRow) (used : Used) (e : Exp) → has (walk_exp noted used e) row ≡ walk_exp (met (row_path row)) (has used row) e
  exp_noted row used (lit l) = refl
  exp_noted row used nothing = refl
  exp_noted row used me = refl
  exp_noted row used (path names) = path_noted row used names
  exp_noted row used (with_dot name) = refl
  exp_noted row used (dot e name) = exp_noted row used e
  exp_noted row used (call_of e args) = exps_noted row (walk_exp noted used e) args ∙ ap (λ b. walk_exps (met (row_path row)) b args) (exp_noted row used e)
  exp_noted row used (cast w e) = exp_noted row used e
  exp_noted row used (ctype e t) = exp_noted row used e
  exp_noted row used (unary o e) = exp_noted row used e
  exp_noted row used (binary o a b) = exp_noted row (walk_exp noted used a) b ∙ ap (λ f. walk_exp (met (row_path row)) f b) (exp_noted row used a)
  exp_noted row used (paren e) = exp_noted row used e
  exp_noted row used (new_object t args) = exps_noted row used args
  exp_noted row used (new_array t bounds) = exps_noted row used bounds
  exp_noted row used (type_of e t) = exp_noted row used e

  exps_noted : (row : SupportRow) (used : Used) (es : Exps) → has (walk_exps noted used es) row ≡ walk_exps (met (row_path row)) (has used row) es
  exps_noted row used no_exps = refl
  exps_noted row used (next_exp e more) = exps_noted row (walk_exp noted used e) more ∙ ap (λ b. walk_exps (met (row_path row)) b more) (exp_noted row used e)

fold_noted : {A : Type 0} (f : Used → A → Used) (g : Bool → A → Bool) (row : SupportRow) → ((used : Used) (x : A) → has (f used x) row ≡ g (has used row) x) → (used : Used) (xs : List A) → has (fold f used xs) row ≡ fold g (has used row) xs
fold_noted f g row same used [] = refl
fold_noted f g row same used (x ∷ xs) = fold_noted f g row same (f used x) xs ∙ ap (λ b. fold g b xs) (same used x)

both_noted : (row : SupportRow) (used : Used) (a b : Exp) → has (walk_exp noted (walk_exp noted used a) b) row ≡ walk_exp (met (row_path row)) (walk_exp (met (row_path row)) (has used row) a) b
both_noted row used a b = exp_noted row (walk_exp noted used a) b ∙ ap (λ f. walk_exp (met (row_path row)) f b) (exp_noted row used a)

option_noted : (row : SupportRow) (used : Used) (e : Option Exp) → has (walk_option noted used e) row ≡ walk_option (met (row_path row)) (has used row) e
option_noted row used None = refl
option_noted row used (Some e) = exp_noted row used e

case_noted : (row : SupportRow) (used : Used) (item : CaseItem) → has (walk_case noted used item) row ≡ walk_case (met (row_path row)) (has used row) item
case_noted row used (case_value e) = exp_noted row used e
case_noted row used (case_range a b) = both_noted row used a b
case_noted row used (case_is o e) = exp_noted row used e

redim_noted : (row : SupportRow) (used : Used) (r : ReDimItem) → has (walk_redim noted used r) row ≡ walk_redim (met (row_path row)) (has used row) r
redim_noted row used r = exps_noted row (walk_exp noted used r.array) r.bounds ∙ ap (λ b. walk_exps (met (row_path row)) b r.bounds) (exp_noted row used r.array)

line_noted : (row : SupportRow) (used : Used) (l : Line) → has (walk_line noted used l) row ≡ walk_line (met (row_path row)) (has used row) l
line_noted row used (comment units) = refl
line_noted row used (assign target value) = both_noted row used target value
line_noted row used (call callee arguments) = exps_noted row (walk_exp noted used callee) arguments ∙ ap (λ b. walk_exps (met (row_path row)) b arguments) (exp_noted row used callee)
line_noted row used (if_head e) = exp_noted row used e
line_noted row used (else_if e) = exp_noted row used e
line_noted row used (select e) = exp_noted row used e
line_noted row used (case_line items) = fold_noted (walk_case noted) (walk_case (met (row_path row))) row (case_noted row) used items
line_noted row used (for_head counter from to step) = option_noted row (walk_exp noted (walk_exp noted (walk_exp noted used counter) from) to) step ∙ ap (λ b. walk_option (met (row_path row)) b step) (exp_noted row (walk_exp noted (walk_exp noted used counter) from) to ∙ ap (λ b. walk_exp (met (row_path row)) b to) (both_noted row used counter from))
line_noted row used (do_while e) = exp_noted row used e
line_noted row used (do_until e) = exp_noted row used e
line_noted row used (loop_while e) = exp_noted row used e
line_noted row used (loop_until e) = exp_noted row used e
line_noted row used (while_head e) = exp_noted row used e
line_noted row used (with_head e) = exp_noted row used e
line_noted row used (redim preserve items) = fold_noted (walk_redim noted) (walk_redim (met (row_path row))) row (redim_noted row) used items
line_noted row used else_line = refl
line_noted row used end_if = refl
line_noted row used case_else = refl
line_noted row used end_select = refl
line_noted row used next = refl
line_noted row used do_head = refl
line_noted row used loop = refl
line_noted row used end_while = refl
line_noted row used end_with = refl
line_noted row used (goto l) = refl
line_noted row used (label l) = refl
line_noted row used (on_error_goto l) = refl
line_noted row used on_error_goto_zero = refl
line_noted row used on_error_resume_next = refl
line_noted row used resume = refl
line_noted row used resume_next = refl
line_noted row used (resume_at l) = refl
line_noted row used (exit what) = refl

dim_noted : (row : SupportRow) (used : Used) (d : Dim) → has (walk_dim noted used d) row ≡ walk_dim (met (row_path row)) (has used row) d
dim_noted row used (local v) = option_noted row used v.value
dim_noted row used (static_local v) = option_noted row used v.value
dim_noted row used (constant c) = exp_noted row used c.value

procedure_noted : (row : SupportRow) (used : Used) (p : Procedure) → has (walk_procedure noted used p) row ≡ walk_procedure (met (row_path row)) (has used row) p
procedure_noted row used p =
    fold_noted (walk_line noted) (walk_line (met (row_path row))) row (line_noted row) (fold (walk_dim noted) used p.prologue) p.lines
    ∙ ap (λ b. fold (walk_line (met (row_path row))) b p.lines) (fold_noted (walk_dim noted) (walk_dim (met (row_path row))) row (dim_noted row) used p.prologue)

part_noted : (row : SupportRow) (used : Used) (p : Option Procedure) → has (walk_part noted used p) row ≡ walk_part (met (row_path row)) (has used row) p
part_noted row used None = refl
part_noted row used (Some p) = procedure_noted row used p

member_noted : (row : SupportRow) (used : Used) (m : Member) → has (walk_member noted used m) row ≡ walk_member (met (row_path row)) (has used row) m
member_noted row used (member_comment units) = refl
member_noted row used (variable visibility v) = option_noted row used v.value
member_noted row used (const_member visibility c) = exp_noted row used c.value
member_noted row used (structure s) = refl
member_noted row used (property p) = part_noted row (walk_part noted used p.get) p.set ∙ ap (λ b. walk_part (met (row_path row)) b p.set) (part_noted row used p.get)
member_noted row used (proc p) = procedure_noted row used p

module_noted : (row : SupportRow) (used : Used) (m : Module) → has (walk_module noted used m) row ≡ walk_module (met (row_path row)) (has used row) m
module_noted row used m = fold_noted (walk_member noted) (walk_member (met (row_path row))) row (member_noted row) used m.members

pub modules_noted : (row : SupportRow) (used : Used) (modules : List Module) → has (fold (walk_module noted) used modules) row ≡ fold (walk_module (met (row_path row))) (has used row) modules
modules_noted row used modules = fold_noted (walk_module noted) (walk_module (met (row_path row))) row (module_noted row) used modules
