-- What stands behind the declaration of a variable, and the structures that the functions `NewK` and `CopyK` of the support module make and copy.
use Rattle.std.specs.Prelude.{ℕ, zero, suc, pos, negsuc, Bool, cond, List, [], ◌∷◌, length, map, take, codes, Option, Some, None}
use Rattle.up_base.specs.Names.{is_same_name}
use Rattle.vb6_meaning.specs.Answers.{Answer, then_answer}
use Rattle.vb6_meaning.specs.Answers as value
use Rattle.net_tree.specs.Tree.{Exp, Exps, no_exps, next_exp, path, call_of, ctype, new_array, Line, assign, Head, sub, function, sub_new, get_part, set_part, Procedure, Member, member_comment, variable, const_member, structure, property, proc, Project}
use Rattle.net_tree.specs.FlatLines.{code_lines}
use Rattle.net_tree.specs.Types.{TypeName}
use Rattle.net_meaning.specs.declared.value.ValueN.{ValueN}
use Rattle.net_meaning.specs.declared.value.ValueN.TheVariants as n
use Rattle.net_meaning.specs.Support.{fix_new}
use Rattle.run_base.specs.Outcomes.{gives, outside, then, answered}
use Rattle.net_run.specs.Values.{Value, unknown, single, or_unknown, field_value, with_field_value}
use Rattle.net_run.specs.Shapes.{Shape, scalar, class, structured, array, shapeless, Fields, no_fields, field_named, shape_of, default_of}
use Rattle.net_run.specs.Store.{Does, array_made, cloned}
use Rattle.net_run.specs.Members.{is_head_named}
use Rattle.net_run.specs.Constants.{constants_of}
use Rattle.net_run.specs.Names.{is_support}

-- ---- what is written there

-- the value that a variable or a field begins with, or the copy of a field
pub data Initial : Type 0 where
  -- `New T(..) {}`
  initial_array : TypeName → Exps → Initial
  -- `CType(x.FIELD.Clone(), T)`
  initial_clone : (name : List ℕ) → Initial
  -- a function of the support module, with its arguments
  initial_call : (name : List ℕ) → Exps → Initial
  -- what isn't written there
  initial_other : Initial

abbrev pub call_by_path : List (List ℕ) → Exps → Initial
call_by_path [] args = initial_other
call_by_path (name ∷ []) args = initial_call name args
call_by_path (of ∷ name ∷ []) args = cond (is_support of) (initial_call name args) initial_other
call_by_path (of ∷ name ∷ more ∷ names) args = initial_other

abbrev pub call_by : Exp → Exps → Initial
call_by (path names) args = call_by_path names args
call_by _ args = initial_other

abbrev pub clone_by_path : List (List ℕ) → Initial
clone_by_path (x ∷ name ∷ clone ∷ []) = initial_clone name
clone_by_path _ = initial_other

abbrev pub clone_by : Exp → Initial
clone_by (call_of (path names) args) = clone_by_path names
clone_by _ = initial_other

abbrev pub initial_of : Exp → Initial
initial_of (new_array ty bounds) = initial_array ty bounds
initial_of (ctype e ty) = clone_by e
initial_of (call_of callee args) = call_by callee args
initial_of _ = initial_other

-- a line of `NewK` or `CopyK`: `r.FIELD = VALUE`, or the last one, which gives r
pub data TypeLine : Type 0 where
  sets_field : (name : List ℕ) → Initial → TypeLine
  gives_back : TypeLine
  other_line : TypeLine

abbrev pub type_line_by_path : List (List ℕ) → Exp → TypeLine
type_line_by_path (r ∷ name ∷ []) e = sets_field name (initial_of e)
type_line_by_path (name ∷ []) e = gives_back
type_line_by_path _ e = other_line

abbrev pub type_line_of : Line → TypeLine
type_line_of (assign (path names) e) = type_line_by_path names e
type_line_of _ = other_line

-- ---- functions of the support module

abbrev pub begins_with : List ℕ → List ℕ → Bool
begins_with front name = is_same_name (take (length front) name) front

-- those that are made for a single type are `NewK`, `CopyK` and `Auto_C`
abbrev pub is_new_name : List ℕ → Bool
is_new_name name = begins_with (codes "New") name

abbrev pub is_copy_name : List ℕ → Bool
is_copy_name name = begins_with (codes "Copy") name

abbrev pub is_auto_name : List ℕ → Bool
is_auto_name name = begins_with (codes "Auto_") name

abbrev pub procedure_named : List ℕ → Member → Option Procedure
procedure_named name (member_comment units) = None
procedure_named name (variable visibility v) = None
procedure_named name (const_member visibility c) = None
procedure_named name (structure s) = None
procedure_named name (property p) = None
procedure_named name (proc p) = cond (is_head_named name p.head) (Some p) None

abbrev pub or_function : Option Procedure → Option Procedure → Option Procedure
or_function None other = other
or_function (Some p) other = Some p

abbrev pub function_among : List ℕ → List Member → Option Procedure
function_among name [] = None
function_among name (m ∷ members) = or_function (procedure_named name m) (function_among name members)

-- the function of a name in the support module of a project
abbrev pub type_function : Project → List ℕ → Option Procedure
type_function N name = function_among name N.support.members

-- its result type; there a structure stands behind the name of its module, so the module itself has no number
abbrev pub support_home : Project → ℕ
support_home N = length N.modules

abbrev pub shape_given : Project → Head → Shape
shape_given N (sub visibility name params) = shapeless
shape_given N (function visibility name params ty) = shape_of N (support_home N) ty
shape_given N sub_new = shapeless
shape_given N get_part = shapeless
shape_given N (set_part name ty) = shapeless

abbrev pub fields_of : Shape → Fields
fields_of (scalar ty) = no_fields
fields_of (class c) = no_fields
fields_of (structured home m fs) = fs
fields_of (array element rank) = no_fields
fields_of shapeless = no_fields

-- ---- fields by their names

abbrev pub with_field : Option (ℕ × Shape) → (new old : Value) → Value
with_field None new old = unknown
with_field (Some f) new old = with_field_value f.0 old new

abbrev pub with_named_field : Fields → List ℕ → (new old : Value) → Value
with_named_field fs name new old = with_field (field_named name 0 fs) new old

abbrev pub field_by : Option (ℕ × Shape) → Value → Value
field_by None v = unknown
field_by (Some f) v = or_unknown (field_value f.0 v)

abbrev pub named_field : Fields → List ℕ → Value → Value
named_field fs name v = field_by (field_named name 0 fs) v

-- ---- what they give

-- an extent is the greatest index, and -1 where there is none
abbrev pub count_of : ValueN → Answer ℕ
count_of (n.Integer (pos i)) = value.gives (suc i)
count_of (n.Integer (negsuc zero)) = value.gives 0
count_of (n.Integer (negsuc (suc i))) = value.outside
count_of _ = value.outside

abbrev pub counts_of : List ValueN → Answer (List ℕ)
counts_of [] = value.gives []
counts_of (x ∷ xs) = then_answer (count_of x) (λ c. then_answer (counts_of xs) (λ cs. value.gives (c ∷ cs)))

-- `FixNew`: a fixed string begins with units 0
abbrev pub fixed_made : List ValueN → Answer Value
fixed_made (n.Integer (pos k) ∷ []) = value.gives (single (fix_new k))
fixed_made _ = value.outside

-- what makes a structure by the function of a name, or copies one
abbrev pub Makes : Type 0
Makes = List ℕ → Option Value → Does Value

-- the field of x that is the argument of a copy
abbrev pub copied_field : Fields → Value → Exps → Value
copied_field fs x (next_exp (path (of ∷ name ∷ [])) no_exps) = named_field fs name x
copied_field fs x _ = unknown

-- the three functions that are called there; no other is
abbrev pub call_value : Makes → Fields → (x : Value) → List ℕ → Exps → Does Value
call_value again fs x name args w =
    cond (is_same_name name (codes "FixNew")) (answered (then_answer (constants_of args) fixed_made) w)
    (cond (is_new_name name) (again name None w)
    (cond (is_copy_name name) (again name (Some (copied_field fs x args)) w) (outside [])))

-- In a module, x being the structure that is copied, with its fields. What isn't written there has no meaning.
abbrev pub initial_does : Project → Makes → (home : ℕ) → Fields → (x : Value) → Initial → Does Value
initial_does N again home fs x (initial_array ty bounds) w =
    then (answered (then_answer (constants_of bounds) counts_of) w) (λ counts w. array_made (shape_of N home ty) counts w)
initial_does N again home fs x (initial_clone name) w = cloned (named_field fs name x) w
initial_does N again home fs x (initial_call name args) w = call_value again fs x name args w
initial_does N again home fs x initial_other w = outside []

-- The lines of such a function, in which r is made. One that gives nothing back, or has another line, isn't written.
abbrev pub lines_make : Project → Makes → Fields → (x : Value) → List TypeLine → (r : Value) → Does Value
lines_make N again fs x [] r w = outside []
lines_make N again fs x (sets_field name initial ∷ lines) r w =
    then (initial_does N again (support_home N) fs x initial w) (λ v w. lines_make N again fs x lines (with_named_field fs name v r) w)
lines_make N again fs x (gives_back ∷ lines) r w = gives [] r w
lines_make N again fs x (other_line ∷ lines) r w = outside []

-- r begins as x, or where nothing is copied as a new structure
abbrev pub begun : Shape → Option Value → Value
begun shape None = default_of shape
begun shape (Some x) = x

abbrev pub structure_by : Project → Makes → Option Value → Option Procedure → Does Value
structure_by N again x None w = outside []
structure_by N again x (Some f) w =
    let shape = shape_given N f.head in
    lines_make N again (fields_of shape) (begun shape x) (map type_line_of (code_lines f)) (begun shape x) w

-- functions that call no more than so many others inside of each other
abbrev pub structure_within : Project → (depth : ℕ) → Makes
structure_within N zero name x w = outside []
structure_within N (suc depth) name x w = structure_by N (structure_within N depth) x (type_function N name) w

-- no function calls itself, so the depth of calls is at most their number
abbrev pub structure_made : Project → Makes
structure_made N = structure_within N (suc (length N.support.members))

-- ---- declarations

-- What a variable of a shape begins with. A declaration makes fixed strings, arrays and structures alone: it has no other meaning.
abbrev pub initial_value : Project → (home : ℕ) → Shape → Option Exp → Does Value
initial_value N home shape None w = gives [] (default_of shape) w
initial_value N home shape (Some e) w = initial_does N (structure_made N) home no_fields unknown (initial_of e) w
