-- Worked examples of the rules, computed.
use Rattle.std.proofs.Common.{◌≡◌, ℕ, pos, Bool, true, false, List, [], ◌∷◌, Option, Some, None, refl, codes}
use Rattle.vb_tree.specs.BoundTree.{long, boolean, array}
use Rattle.vb_tree.specs.declared.declared.ProcKind.{ProcKind}
use Rattle.vb_tree.specs.declared.declared.ProcKind.TheVariants as kind
use Rattle.vb_tree.specs.declared.expression.BinOp.TheVariants as op
use Rattle.vb_tree.specs.declared.form_parts.ExitKind.TheVariants as leaving
use Rattle.vb_tree.specs.declared.form_parts.Label6.{Label6}
use Rattle.vb_tree.specs.declared.form_parts.Label6.TheVariants as label6
use Rattle.vb_tree.specs.declared.project.ProjectKind.TheVariants.{Exe}
use Rattle.vb_tree.specs.declared.value.Value6.TheVariants as v
use Rattle.vb_tree.specs.Tree.{Form, me, goto, label, on_error_goto, on_error_resume_next, resume_at, resume_next, exit, for_head, next, do_head, loop, with_head, end_with, if_head, end_if, assign}
use Rattle.vb_tree.specs.Tree as vb
use Rattle.bound_tree.specs.declared.expression.Origin.TheVariants.{Literal}
use Rattle.bound_tree.specs.RuleSets.{none, with_rule}
use Rattle.bound_tree.specs.Tree.{Expr, typed, constant, variable, element, binary, err_number, no_exprs, next_expr, Line, Declarations}
use Rattle.bound_facts.specs.Facts.{is_resumable}
use Rattle.error_handlers.specs.Heads.{breaks_head}
use Rattle.error_handlers.specs.Jumps.{breaks_jumps}
use Rattle.error_handlers.specs.Rows.{body_rules}

-- ---- jumps

abbrev at : Form → vb.Line
at form = record { place = record { file = 1; line = 1 }; text = []; form = form }

abbrev ten : Label6
ten = label6.Number (pos 10)

abbrev back : Label6
back = label6.Word (codes "Back")

abbrev capital_back : Label6
capital_back = label6.Word (codes "BACK")

abbrev for_line : vb.Line
for_line = at (for_head me me me None)

abbrev next_line : vb.Line
next_line = at (next None)

abbrev sub : Option ProcKind
sub = Some kind.Sub

-- GoTo 10: For: 10: Next
into_a_for : breaks_jumps sub (at (goto ten) ∷ for_line ∷ at (label ten) ∷ next_line ∷ []) 1 (goto ten) ≡ true
into_a_for = refl

-- For: 10: GoTo 10: Next
inside_a_for : breaks_jumps sub (for_line ∷ at (label ten) ∷ at (goto ten) ∷ next_line ∷ []) 3 (goto ten) ≡ false
inside_a_for = refl

-- For: GoTo 10: Next: 10:
out_of_a_for : breaks_jumps sub (for_line ∷ at (goto ten) ∷ next_line ∷ at (label ten) ∷ []) 2 (goto ten) ≡ false
out_of_a_for = refl

-- For: GoTo 10: Next: For: 10: Next
from_one_for_to_another : breaks_jumps sub (for_line ∷ at (goto ten) ∷ next_line ∷ for_line ∷ at (label ten) ∷ next_line ∷ []) 2 (goto ten) ≡ true
from_one_for_to_another = refl

-- For: GoTo 10: For: 10: Next: Next
into_an_inner_for : breaks_jumps sub (for_line ∷ at (goto ten) ∷ for_line ∷ at (label ten) ∷ next_line ∷ next_line ∷ []) 2 (goto ten) ≡ true
into_an_inner_for = refl

-- GoTo 10: Do: 10: Loop
into_a_do : breaks_jumps sub (at (goto ten) ∷ at do_head ∷ at (label ten) ∷ at loop ∷ []) 1 (goto ten) ≡ false
into_a_do = refl

-- GoTo 10: Do: With: 10: End With: Loop
into_a_with_in_a_do : breaks_jumps sub (at (goto ten) ∷ at do_head ∷ at (with_head me) ∷ at (label ten) ∷ at end_with ∷ at loop ∷ []) 1 (goto ten) ≡ true
into_a_with_in_a_do = refl

-- With: Back: End With: On Error GoTo BACK: Resume BACK
abbrev with_a_label : List vb.Line
with_a_label = at (with_head me) ∷ at (label back) ∷ at end_with ∷ at (on_error_goto capital_back) ∷ at (resume_at capital_back) ∷ []

handler_in_a_with : breaks_jumps sub with_a_label 4 (on_error_goto capital_back) ≡ true
handler_in_a_with = refl

resume_into_a_with : breaks_jumps sub with_a_label 5 (resume_at capital_back) ≡ true
resume_into_a_with = refl

-- a label that is declared nowhere
to_no_label : breaks_jumps sub with_a_label 5 (goto ten) ≡ false
to_no_label = refl

-- 10: For: 10: Next: GoTo 10: the first is meant
label_twice : breaks_jumps sub (at (label ten) ∷ for_line ∷ at (label ten) ∷ next_line ∷ at (goto ten) ∷ []) 5 (goto ten) ≡ false
label_twice = refl

-- ---- Exit

exit_for_outside : breaks_jumps sub (at (exit leaving.For) ∷ []) 1 (exit leaving.For) ≡ true
exit_for_outside = refl

-- Do: Exit For: Exit Do: Loop
exit_for_in_a_do : breaks_jumps sub (at do_head ∷ at (exit leaving.For) ∷ at (exit leaving.Do) ∷ at loop ∷ []) 2 (exit leaving.For) ≡ true
exit_for_in_a_do = refl

exit_do_in_a_do : breaks_jumps sub (at do_head ∷ at (exit leaving.For) ∷ at (exit leaving.Do) ∷ at loop ∷ []) 3 (exit leaving.Do) ≡ false
exit_do_in_a_do = refl

-- For: Do: Exit For: Loop: Next
exit_for_through_a_do : breaks_jumps sub (for_line ∷ at do_head ∷ at (exit leaving.For) ∷ at loop ∷ next_line ∷ []) 3 (exit leaving.For) ≡ false
exit_for_through_a_do = refl

-- For: Next: Exit For
exit_for_behind_a_for : breaks_jumps sub (for_line ∷ next_line ∷ at (exit leaving.For) ∷ []) 3 (exit leaving.For) ≡ true
exit_for_behind_a_for = refl

exit_sub_in_a_sub : breaks_jumps sub (at (exit leaving.Sub) ∷ []) 1 (exit leaving.Sub) ≡ false
exit_sub_in_a_sub = refl

exit_sub_in_a_function : breaks_jumps (Some kind.Function) (at (exit leaving.Sub) ∷ []) 1 (exit leaving.Sub) ≡ true
exit_sub_in_a_function = refl

exit_property_in_a_property : breaks_jumps (Some kind.Set) (at (exit leaving.Property) ∷ []) 1 (exit leaving.Property) ≡ false
exit_property_in_a_property = refl

exit_function_in_a_property : breaks_jumps (Some kind.Get) (at (exit leaving.Function) ∷ []) 1 (exit leaving.Function) ≡ true
exit_function_in_a_property = refl

-- ---- heads of blocks

abbrev D : Declarations
D = record {
  project = record { file = record { kind = Exe; startup = None; entries = []; dropped = [] }; modules = [] };
  names = [];
  vars = [];
  consts = [];
  procs = [];
  types = [];
  enums = [];
  defaults = [];
}

abbrev line : Form → List Expr → Line
line form es = record { source = at form; bindings = record { exprs = es; rules = none; mentions = [] } }

abbrev i : Expr
i = typed long (variable (record { 0 = 1 }) false)

abbrev item : Expr
item = typed long (element (typed (array long 1) (variable (record { 0 = 0 }) false)) (next_expr i no_exprs))

abbrev zero_long : Expr
zero_long = typed long (constant (v.Long (pos 0)) Literal)

abbrev is_zero : Expr → Expr
is_zero e = typed boolean (binary op.Equal e zero_long)

-- If a(i) = 0 Then
head_with_an_element : breaks_head D true (line (if_head me) (is_zero item ∷ [])) ≡ true
head_with_an_element = refl

-- where the procedure doesn't go on after an error
head_elsewhere : breaks_head D false (line (if_head me) (is_zero item ∷ [])) ≡ false
head_elsewhere = refl

-- If i = 0 Then
head_that_cannot_raise : breaks_head D true (line (if_head me) (is_zero i ∷ [])) ≡ false
head_that_cannot_raise = refl

-- If Err.Number = 0 Then
head_with_the_error_number : breaks_head D true (line (if_head me) (is_zero (typed long err_number) ∷ [])) ≡ false
head_with_the_error_number = refl

-- i = a(i): no head
no_head : breaks_head D true (line (assign me me) (i ∷ item ∷ [])) ≡ false
no_head = refl

-- For i = 0 To a(i): the last of its expressions
limit_of_a_for : breaks_head D true (line (for_head me me me None) (i ∷ zero_long ∷ item ∷ [])) ≡ true
limit_of_a_for = refl

-- ---- a procedure: If a(i) = 0 Then: GoTo Back: End If: For: Back: Resume Next: Next

abbrev body : List Line
body =
    line (if_head me) (is_zero item ∷ [])
    ∷ line (goto back) []
    ∷ line end_if []
    ∷ line (for_head me me me None) (i ∷ zero_long ∷ zero_long ∷ [])
    ∷ line (label back) []
    ∷ line resume_next []
    ∷ line (next None) []
    ∷ []

goes_on_behind_an_error : is_resumable body ≡ true
goes_on_behind_an_error = refl

rules_of_a_body : body_rules D None body ≡ with_rule none 14 ∷ with_rule none 15 ∷ none ∷ none ∷ none ∷ none ∷ none ∷ []
rules_of_a_body = refl

ends_at_an_error : is_resumable (line (on_error_goto back) [] ∷ line (label back) [] ∷ []) ≡ false
ends_at_an_error = refl

resumes_at_once : is_resumable (line on_error_resume_next [] ∷ []) ≡ true
resumes_at_once = refl
