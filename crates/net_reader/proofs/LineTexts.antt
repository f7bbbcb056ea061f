-- Written lines are lines: they hold no line end, and begin with no blank.
use Rattle.std.proofs.Common.{◌≡◌, ℕ, zero, suc, ◌-◌, Bool, true, false, not, ◌&&◌, ◌==◌, List, [], ◌∷◌, ◌++◌, map, codes, replicate, refl, subst, arith, append_assoc, Option, Some}
use Rattle.std.specs.List.{list_all}
use Rattle.std.proofs.lemmas.Bool.Decides.{nat_tests}
use Rattle.up_base.specs.Names.{is_printable}
use Rattle.net_tree.specs.declared.declaration.NetClose.{NetClose}
use Rattle.net_tree.specs.declared.declaration.NetClose.TheVariants as close
use Rattle.net_tree.specs.declared.declaration.NetPassing.{NetPassing}
use Rattle.net_tree.specs.declared.declaration.NetPassing.TheVariants as passing
use Rattle.net_tree.specs.declared.declaration.NetVisibility.{NetVisibility}
use Rattle.net_tree.specs.declared.declaration.NetVisibility.TheVariants.{Public, Private, Friend}
use Rattle.net_tree.specs.declared.expression.NetBin.{NetBin}
use Rattle.net_tree.specs.declared.expression.NetBin.TheVariants as op
use Rattle.net_tree.specs.declared.line.NetExit.{NetExit}
use Rattle.net_tree.specs.declared.line.NetExit.TheVariants as leaving
use Rattle.net_tree.specs.declared.line.NetLabel.{NetLabel}
use Rattle.net_tree.specs.declared.line.NetLabel.TheVariants.{Word, Number}
use Rattle.net_tree.specs.Types as ty
use Rattle.net_tree.specs.Types.{TypeName}
use Rattle.net_tree.specs.Tree.{CaseItem, Constant, Dim, Exp, Field, Head, Line, Param, Property, ReDimItem, Variable, assign, call, call_of, case_else, case_is, case_line, case_range, case_value, comment, constant, do_head, do_until, do_while, else_if, else_line, end_if, end_select, end_while, end_with, exit, field, field_comment, for_head, function, get_part, goto, if_head, label, local, loop, loop_until, loop_while, next, on_error_goto, on_error_goto_zero, on_error_resume_next, redim, resume, resume_at, resume_next, select, set_part, static_local, sub, sub_new, while_head, with_head}
use Rattle.net_tree.specs.Spelling.{is_handler_label, is_identifier, is_label, label_text, name_text, separated}
use Rattle.net_tree.specs.Comments.{comment_text, is_comment, is_within_line}
use Rattle.net_tree.specs.Expressions.{exp_text, is_writable_whole, is_writable_type, rank_text, sign_text, type_text}
use Rattle.net_tree.proofs.TypeDepths.{element_can}
use Rattle.net_tree.specs.Lines.{case_item_text, is_writable_case, is_writable_line, is_writable_option, is_writable_redim, line_text, redim_item_text, step_text}
use Rattle.net_tree.specs.Declarations.{access_text, close_text, constant_text, declared_text, dim_text, field_text, head_text, is_writable_constant, is_writable_dim, is_writable_field, is_writable_head, is_writable_param, is_writable_variable, param_text, params_text, passing_text, value_text, variable_text, visibility_text}
use Rattle.net_exprs.proofs.Words.{both_true, never}
use Rattle.phrase_laws.proofs.Printable.{expression_stays, label_stays, name_stays, type_stays}
use Rattle.net_reader.proofs.CutLines.{IsLine, begins_line}
use Rattle.net_reader.proofs.LinesRead.{label_opens}
use Rattle.net_reader.proofs.Openings.{begins_more, begins_text, whole_is_writable, whole_opens}
use Rattle.net_reader.proofs.Tests.{all_append, all_more}
use Rattle.net_reader.proofs.Units.{utf8_within}

-- ---- parts

abbrev pub holds_no_end : List ℕ → Bool
holds_no_end text = list_all is_within_line text

abbrev pub Within : List ℕ → Type 0
Within text = holds_no_end text ≡ true

printable_within : (c : ℕ) → is_printable c ≡ true → is_within_line c ≡ true
printable_within c h = grind (arith, nat_tests)

pub both_within : (a b : List ℕ) → Within a → Within b → Within (a ++ b)
both_within a b h k = all_append is_within_line a b h k

pub printable : (text : List ℕ) → list_all is_printable text ≡ true → Within text
printable text h = all_more is_printable is_within_line text printable_within h

whole_within : (e : Exp) → is_writable_whole e ≡ true → Within (exp_text e)
whole_within e h = printable (exp_text e) (expression_stays e (whole_is_writable e h))

label_within : (l : NetLabel) → is_label l ≡ true → Within (label_text l)
label_within l h = printable (label_text l) (label_stays l h)

pub name_within : (n : List ℕ) → is_identifier n ≡ true → Within (name_text n)
name_within n h = printable (name_text n) (name_stays n h)

type_within : (t : TypeName) → is_writable_type t ≡ true → Within (type_text t)
type_within t h = printable (type_text t) (type_stays t h)

text_begins : (text : List ℕ) → begins_text text ≡ true → begins_line text ≡ true
text_begins [] h = never h
text_begins (c ∷ cs) h = (both_true (not (c == 32)) (not (c == 39)) h).0

line_begins : (a b : List ℕ) → begins_text a ≡ true → begins_line (a ++ b) ≡ true
line_begins [] b h = never h
line_begins (c ∷ cs) b h = text_begins (c ∷ cs) h

items_within : {X : Type 0} (text_of : X → List ℕ) (can : X → Bool) → ((x : X) → can x ≡ true → Within (text_of x)) → (xs : List X) →
    list_all can xs ≡ true → Within (separated (codes ", ") (map text_of xs))
items_within text_of can each [] h = refl
items_within text_of can each (x ∷ []) h = each x (both_true (can x) true h).0
items_within text_of can each (x ∷ y ∷ xs) h =
    let both = both_true (can x) (list_all can (y ∷ xs)) h in
    both_within (text_of x ++ codes ", ") (separated (codes ", ") (map text_of (y ∷ xs)))
    (both_within (text_of x) (codes ", ") (each x both.0) refl) (items_within text_of can each (y ∷ xs) both.1)

-- ---- lines of procedures

sign_within : (o : NetBin) → Within (sign_text o)
sign_within op.Add = refl
sign_within op.Sub = refl
sign_within op.Mul = refl
sign_within op.IntDiv = refl
sign_within op.Mod = refl
sign_within op.Concat = refl
sign_within op.Equal = refl
sign_within op.NotEqual = refl
sign_within op.Less = refl
sign_within op.Greater = refl
sign_within op.LessEqual = refl
sign_within op.GreaterEqual = refl
sign_within op.And = refl
sign_within op.Or = refl
sign_within op.Xor = refl
sign_within op.Is = refl

case_within : (item : CaseItem) → is_writable_case item ≡ true → Within (case_item_text item)
case_within (case_value e) h = whole_within e h
case_within (case_range a b) h =
    let both = both_true (is_writable_whole a) (is_writable_whole b) h in
    both_within (exp_text a ++ codes " To ") (exp_text b) (both_within (exp_text a) (codes " To ") (whole_within a both.0) refl) (whole_within b both.1)
case_within (case_is o e) h =
    both_within (codes "Is " ++ sign_text o ++ codes " ") (exp_text e) (both_within (sign_text o) (codes " ") (sign_within o) refl) (whole_within e (both_true _ (is_writable_whole e) h).1)

redim_within : (item : ReDimItem) → is_writable_redim item ≡ true → Within (redim_item_text item)
redim_within item h = whole_within (call_of item.array item.bounds) h

step_within : (step : Option Exp) → is_writable_option step ≡ true → Within (step_text step)
step_within Option.None h = refl
step_within (Some e) h = whole_within e h

for_within : (c from to : Exp) (step : Option Exp) → is_writable_whole c && is_writable_whole from && is_writable_whole to && is_writable_option step ≡ true →
    Within (line_text (for_head c from to step))
for_within c from to step h =
    let three = both_true (is_writable_whole c && is_writable_whole from && is_writable_whole to) (is_writable_option step) h in
    let two = both_true (is_writable_whole c && is_writable_whole from) (is_writable_whole to) three.0 in
    let one = both_true (is_writable_whole c) (is_writable_whole from) two.0 in
    both_within (exp_text c ++ codes " = " ++ exp_text from ++ codes " To " ++ exp_text to) (step_text step)
    (both_within (exp_text c ++ codes " = " ++ exp_text from ++ codes " To ") (exp_text to)
    (both_within (exp_text c ++ codes " = " ++ exp_text from) (codes " To ")
    (both_within (exp_text c ++ codes " = ") (exp_text from) (both_within (exp_text c) (codes " = ") (whole_within c one.0) refl) (whole_within from one.1)) refl)
    (whole_within to two.1))
    (step_within step three.1)

handler_within : (l : NetLabel) → is_handler_label l ≡ true → Within (label_text l)
handler_within (Word name) h = label_within (Word name) h
handler_within (Number n) h = label_within (Number n) refl

exit_is : (what : NetExit) → IsLine (line_text (exit what))
exit_is leaving.Sub = record { within = refl; begins = refl }
exit_is leaving.Function = record { within = refl; begins = refl }
exit_is leaving.Property = record { within = refl; begins = refl }
exit_is leaving.For = record { within = refl; begins = refl }
exit_is leaving.Do = record { within = refl; begins = refl }

pub comment_is : (units : List ℕ) → is_comment units ≡ true → IsLine (comment_text units)
comment_is units h = record { within = utf8_within units h; begins = refl }

pub line_is : (l : Line) → is_writable_line l ≡ true → IsLine (line_text l)
line_is (comment units) h = comment_is units h
line_is (assign a b) h =
    let both = both_true (is_writable_whole a) (is_writable_whole b) h in
    record {
      within = both_within (exp_text a ++ codes " = ") (exp_text b) (both_within (exp_text a) (codes " = ") (whole_within a both.0) refl) (whole_within b both.1);
      begins = line_begins (exp_text a ++ codes " = ") (exp_text b) (begins_more (exp_text a) (codes " = ") (whole_opens a both.0).begins);
    }
line_is (call callee arguments) h = record {
  within = whole_within (call_of callee arguments) h;
  begins = text_begins (exp_text (call_of callee arguments)) (whole_opens (call_of callee arguments) h).begins;
}
line_is (if_head e) h = record { within = both_within (exp_text e) (codes " Then") (whole_within e h) refl; begins = refl }
line_is (else_if e) h = record { within = both_within (exp_text e) (codes " Then") (whole_within e h) refl; begins = refl }
line_is else_line h = record { within = refl; begins = refl }
line_is end_if h = record { within = refl; begins = refl }
line_is (select e) h = record { within = whole_within e h; begins = refl }
line_is (case_line []) h = never h
line_is (case_line (x ∷ xs)) h = record { within = items_within case_item_text is_writable_case case_within (x ∷ xs) h; begins = refl }
line_is case_else h = record { within = refl; begins = refl }
line_is end_select h = record { within = refl; begins = refl }
line_is (for_head c from to step) h = record { within = for_within c from to step h; begins = refl }
line_is next h = record { within = refl; begins = refl }
line_is do_head h = record { within = refl; begins = refl }
line_is (do_while e) h = record { within = whole_within e h; begins = refl }
line_is (do_until e) h = record { within = whole_within e h; begins = refl }
line_is loop h = record { within = refl; begins = refl }
line_is (loop_while e) h = record { within = whole_within e h; begins = refl }
line_is (loop_until e) h = record { within = whole_within e h; begins = refl }
line_is (while_head e) h = record { within = whole_within e h; begins = refl }
line_is end_while h = record { within = refl; begins = refl }
line_is (with_head e) h = record { within = whole_within e h; begins = refl }
line_is end_with h = record { within = refl; begins = refl }
line_is (goto l) h = record { within = label_within l h; begins = refl }
line_is (label l) h = record {
  within = both_within (label_text l) (codes ":") (label_within l h) refl;
  begins = line_begins (label_text l) (codes ":") (label_opens l h).begins;
}
line_is (on_error_goto l) h = record { within = handler_within l h; begins = refl }
line_is on_error_goto_zero h = record { within = refl; begins = refl }
line_is on_error_resume_next h = record { within = refl; begins = refl }
line_is resume h = record { within = refl; begins = refl }
line_is resume_next h = record { within = refl; begins = refl }
line_is (resume_at l) h = record { within = label_within l h; begins = refl }
line_is (exit what) h = exit_is what
line_is (redim true []) h = never h
line_is (redim false []) h = never h
line_is (redim true (x ∷ xs)) h = record { within = items_within redim_item_text is_writable_redim redim_within (x ∷ xs) h; begins = refl }
line_is (redim false (x ∷ xs)) h = record { within = items_within redim_item_text is_writable_redim redim_within (x ∷ xs) h; begins = refl }

-- ---- declarations

commas_within : (n : ℕ) → Within (replicate n 44)
commas_within zero = refl
commas_within (suc n) = commas_within n

plain_within : (name : List ℕ) (t : TypeName) → is_identifier name ≡ true → is_writable_type t ≡ true → Within (name_text name ++ codes " As " ++ type_text t)
plain_within name t h k = both_within (name_text name ++ codes " As ") (type_text t) (both_within (name_text name) (codes " As ") (name_within name h) refl) (type_within t k)

declared_within : (name : List ℕ) (t : TypeName) → is_identifier name ≡ true → is_writable_type t ≡ true → Within (declared_text name t)
declared_within name (ty.array_of element rank) h k =
    both_within (name_text name ++ rank_text rank ++ codes " As ") (type_text element)
    (both_within (name_text name ++ rank_text rank) (codes " As ")
    (both_within (name_text name) (rank_text rank) (name_within name h) (both_within (replicate (rank - 1) 44) (codes ")") (commas_within (rank - 1)) refl)) refl)
    (type_within element (element_can element rank k).0)
declared_within name t h k = plain_within name t h k

value_within : (value : Option Exp) → is_writable_option value ≡ true → Within (value_text value)
value_within Option.None h = refl
value_within (Some e) h = whole_within e h

variable_within : (v : Variable) → is_writable_variable v ≡ true → Within (variable_text v)
variable_within v h =
    let two = both_true (is_identifier v.name && is_writable_type v.ty) (is_writable_option v.value) h in
    let one = both_true (is_identifier v.name) (is_writable_type v.ty) two.0 in
    both_within (declared_text v.name v.ty) (value_text v.value) (declared_within v.name v.ty one.0 one.1) (value_within v.value two.1)

constant_within : (c : Constant) → is_writable_constant c ≡ true → Within (constant_text c)
constant_within c h =
    let two = both_true (is_identifier c.name && is_writable_type c.ty) (is_writable_whole c.value) h in
    let one = both_true (is_identifier c.name) (is_writable_type c.ty) two.0 in
    both_within (declared_text c.name c.ty ++ codes " = ") (exp_text c.value)
    (both_within (declared_text c.name c.ty) (codes " = ") (declared_within c.name c.ty one.0 one.1) refl) (whole_within c.value two.1)

pub dim_is : (d : Dim) → is_writable_dim d ≡ true → IsLine (dim_text d)
dim_is (local v) h = record { within = variable_within v h; begins = refl }
dim_is (static_local v) h = record { within = variable_within v h; begins = refl }
dim_is (constant c) h = record { within = constant_within c h; begins = refl }

passing_within : (p : NetPassing) → Within (passing_text p)
passing_within passing.Value = refl
passing_within passing.Reference = refl

param_within : (p : Param) → is_writable_param p ≡ true → Within (param_text p)
param_within p h =
    let both = both_true (is_identifier p.name) (is_writable_type p.ty) h in
    both_within (passing_text p.passing) (declared_text p.name p.ty) (passing_within p.passing) (declared_within p.name p.ty both.0 both.1)

params_within : (params : List Param) → list_all is_writable_param params ≡ true → Within (params_text params)
params_within params h =
    both_within (separated (codes ", ") (map param_text params)) (codes ")") (items_within param_text is_writable_param param_within params h) refl

-- a visibility and what stands behind it
pub visible_is : (v : NetVisibility) (text : List ℕ) → Within text → IsLine (visibility_text v ++ text)
visible_is Public text h = record { within = h; begins = refl }
visible_is Private text h = record { within = h; begins = refl }
visible_is Friend text h = record { within = h; begins = refl }

pub variable_is : (v : NetVisibility) (x : Variable) → is_writable_variable x ≡ true → IsLine (visibility_text v ++ variable_text x)
variable_is v x h = visible_is v (variable_text x) (variable_within x h)

pub constant_is : (v : NetVisibility) (c : Constant) → is_writable_constant c ≡ true → IsLine (visibility_text v ++ constant_text c)
constant_is v c h = visible_is v (constant_text c) (constant_within c h)

signature_within : (name : List ℕ) (params : List Param) → is_identifier name ≡ true → list_all is_writable_param params ≡ true → Within (name_text name ++ params_text params)
signature_within name params h k = both_within (name_text name) (params_text params) (name_within name h) (params_within params k)

typed_within : (name : List ℕ) (params : List Param) (t : TypeName) → is_identifier name ≡ true → list_all is_writable_param params ≡ true → is_writable_type t ≡ true →
    Within (name_text name ++ params_text params ++ codes " As " ++ type_text t)
typed_within name params t h k l =
    both_within (name_text name ++ params_text params ++ codes " As ") (type_text t)
    (both_within (name_text name ++ params_text params) (codes " As ") (signature_within name params h k) refl) (type_within t l)

pub sub_again : (v n p : List ℕ) → v ++ (codes "Sub " ++ n ++ p) ≡ v ++ codes "Sub " ++ n ++ p
sub_again v n p = simp append_assoc

pub function_again : (v n p t : List ℕ) → v ++ (codes "Function " ++ n ++ p ++ codes " As " ++ t) ≡ v ++ codes "Function " ++ n ++ p ++ codes " As " ++ t
function_again v n p t = simp append_assoc

pub property_again : (v a n p t : List ℕ) →
    v ++ (a ++ (codes "Property " ++ n ++ p ++ codes " As " ++ t)) ≡ v ++ a ++ codes "Property " ++ n ++ p ++ codes " As " ++ t
property_again v a n p t = simp append_assoc

pub head_is : (head : Head) → is_writable_head head ≡ true → IsLine (head_text head)
head_is (sub v name params) h =
    let both = both_true (is_identifier name) (list_all is_writable_param params) h in
    let text = codes "Sub " ++ name_text name ++ params_text params in
    subst IsLine (sub_again (visibility_text v) (name_text name) (params_text params)) (visible_is v text (signature_within name params both.0 both.1))
head_is (function v name params t) h =
    let two = both_true (is_identifier name && list_all is_writable_param params) (is_writable_type t) h in
    let one = both_true (is_identifier name) (list_all is_writable_param params) two.0 in
    subst IsLine (function_again (visibility_text v) (name_text name) (params_text params) (type_text t))
    (visible_is v (codes "Function " ++ name_text name ++ params_text params ++ codes " As " ++ type_text t) (typed_within name params t one.0 one.1 two.1))
head_is sub_new h = record { within = refl; begins = refl }
head_is get_part h = record { within = refl; begins = refl }
head_is (set_part name t) h =
    let both = both_true (is_identifier name) (is_writable_type t) h in
    record { within = both_within (declared_text name t) (codes ")") (declared_within name t both.0 both.1) refl; begins = refl }

pub close_is : (c : NetClose) → IsLine (close_text c)
close_is close.EndSub = record { within = refl; begins = refl }
close_is close.EndFunction = record { within = refl; begins = refl }
close_is close.EndGet = record { within = refl; begins = refl }
close_is close.EndSet = record { within = refl; begins = refl }

pub field_is : (f : Field) → is_writable_field f ≡ true → IsLine (field_text f)
field_is (field_comment units) h = comment_is units h
field_is (field name t) h =
    let both = both_true (is_identifier name) (is_writable_type t) h in
    record { within = declared_within name t both.0 both.1; begins = refl }

access_within : (get set : Bool) → Within (access_text get set)
access_within true true = refl
access_within true false = refl
access_within false set = refl

pub property_head_is : (p : Property) (get set : Bool) → is_identifier p.name ≡ true → list_all is_writable_param p.params ≡ true → is_writable_type p.ty ≡ true →
    IsLine (visibility_text p.visibility ++ access_text get set ++ codes "Property " ++ name_text p.name ++ params_text p.params ++ codes " As " ++ type_text p.ty)
property_head_is p get set h k l =
    subst IsLine (property_again (visibility_text p.visibility) (access_text get set) (name_text p.name) (params_text p.params) (type_text p.ty))
    (visible_is p.visibility (access_text get set ++ (codes "Property " ++ name_text p.name ++ params_text p.params ++ codes " As " ++ type_text p.ty))
    (both_within (access_text get set) (codes "Property " ++ name_text p.name ++ params_text p.params ++ codes " As " ++ type_text p.ty)
    (access_within get set) (typed_within p.name p.params p.ty h k l)))
