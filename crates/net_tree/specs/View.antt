-- The tree without memory that a tree of the code stands for.
use Rattle.std.specs.Prelude.{List, [], ◌∷◌, map, option_map}
use Rattle.net_tree.specs.declared.declaration.NetConstant.{NetConstant}
use Rattle.net_tree.specs.declared.declaration.NetDim.{NetDim}
use Rattle.net_tree.specs.declared.declaration.NetDim.TheVariants.{Local, Static, Const}
use Rattle.net_tree.specs.declared.declaration.NetField.{NetField}
use Rattle.net_tree.specs.declared.declaration.NetField.TheVariants as f
use Rattle.net_tree.specs.declared.declaration.NetHead.{NetHead}
use Rattle.net_tree.specs.declared.declaration.NetHead.TheVariants as h
use Rattle.net_tree.specs.declared.declaration.NetMember.{NetMember}
use Rattle.net_tree.specs.declared.declaration.NetMember.TheVariants as m
use Rattle.net_tree.specs.declared.declaration.NetParam.{NetParam}
use Rattle.net_tree.specs.declared.declaration.NetProc.{NetProc}
use Rattle.net_tree.specs.declared.declaration.NetProperty.{NetProperty}
use Rattle.net_tree.specs.declared.declaration.NetStructure.{NetStructure}
use Rattle.net_tree.specs.declared.declaration.NetVariable.{NetVariable}
use Rattle.net_tree.specs.declared.expression.NetExpr.{NetExpr, Row_of-NetExpr, end_of-NetExpr, more_of-NetExpr}
use Rattle.net_tree.specs.declared.expression.NetExpr.TheVariants as e
use Rattle.net_tree.specs.declared.expression.NetLit.{NetLit}
use Rattle.net_tree.specs.declared.expression.NetLit.TheVariants as l
use Rattle.net_tree.specs.declared.expression.NetType.{NetType}
use Rattle.net_tree.specs.declared.expression.NetType.TheVariants as t
use Rattle.net_tree.specs.declared.line.NetCase.{NetCase}
use Rattle.net_tree.specs.declared.line.NetCase.TheVariants as c
use Rattle.net_tree.specs.declared.line.NetLine.{NetLine}
use Rattle.net_tree.specs.declared.line.NetLine.TheVariants as n
use Rattle.net_tree.specs.declared.line.NetReDim.{NetReDim}
use Rattle.net_tree.specs.declared.project.NetModule.{NetModule}
use Rattle.net_tree.specs.declared.project.NetProject.{NetProject}
use Rattle.net_tree.specs.Tree.{CaseItem, Constant, Dim, Exp, Exps, Field, Head, Line, Literal, Member, Module, Param, Procedure, Project, Property, ReDimItem, Structure, Variable, assign, binary, boolean, call, call_of, case_else, case_is, case_line, case_range, case_value, cast, comment, const_member, constant, ctype, decimal, do_head, do_until, do_while, dot, else_if, else_line, end_if, end_select, end_while, end_with, exit, field, field_comment, for_head, function, get_part, goto, if_head, integer, label, lit, local, long, loop, loop_until, loop_while, me, member_comment, new_array, new_object, next, next_exp, no_exps, nothing, on_error_goto, on_error_goto_zero, on_error_resume_next, paren, path, proc, property, redim, resume, resume_at, resume_next, select, set_part, short, static_local, str, structure, sub, sub_new, type_of, unary, variable, while_head, with_dot, with_head}
use Rattle.net_tree.specs.Types as ty
use Rattle.net_tree.specs.Types.{TypeName}

abbrev pub type_name_of : NetType → TypeName
type_name_of t.Boolean = ty.boolean
type_name_of t.Byte = ty.byte
type_name_of t.Short = ty.short
type_name_of t.Integer = ty.integer
type_name_of t.Long = ty.long
type_name_of t.Decimal = ty.decimal
type_name_of t.Str = ty.str
type_name_of t.Object = ty.object
type_name_of t.SystemArray = ty.system_array
type_name_of (t.Named names) = ty.named names
type_name_of (t.ArrayOf' p element rank) = ty.array_of (type_name_of element) rank

abbrev pub literal_of : NetLit → Literal
literal_of (l.Boolean b) = boolean b
literal_of (l.Short z hexadecimal) = short z hexadecimal
literal_of (l.Integer z hexadecimal) = integer z hexadecimal
literal_of (l.Long z) = long z
literal_of (l.Decimal z) = decimal z
literal_of (l.Str units) = str units

abbrev mutual
  pub exp_of : NetExpr → Exp
  exp_of (e.Lit l) = lit (literal_of l)
  exp_of e.Nothing = nothing
  exp_of e.Me = me
  exp_of (e.Path names) = path names
  exp_of (e.WithDot name) = with_dot name
  exp_of (e.Dot' p a name) = dot (exp_of a) name
  exp_of (e.Call' p a shape args) = call_of (exp_of a) (exps_in_row args)
  exp_of (e.Cast' word p a) = cast word (exp_of a)
  exp_of (e.CType' p a t) = ctype (exp_of a) (type_name_of t)
  exp_of (e.Unary' op p a) = unary op (exp_of a)
  exp_of (e.Binary' op p a q b) = binary op (exp_of a) (exp_of b)
  exp_of (e.Paren' p a) = paren (exp_of a)
  exp_of (e.NewObject' t shape args) = new_object (type_name_of t) (exps_in_row args)
  exp_of (e.NewArray' t shape bounds) = new_array (type_name_of t) (exps_in_row bounds)
  exp_of (e.TypeOf' p a t) = type_of (exp_of a) (type_name_of t)

  pub exps_in_row : {k : _} → Row_of-NetExpr k → Exps
  exps_in_row end_of-NetExpr = no_exps
  exps_in_row (more_of-NetExpr a rest) = next_exp (exp_of a) (exps_in_row rest)

abbrev pub exps_of : List NetExpr → Exps
exps_of [] = no_exps
exps_of (a ∷ more) = next_exp (exp_of a) (exps_of more)

abbrev pub case_item_of : NetCase → CaseItem
case_item_of (c.Value a) = case_value (exp_of a)
case_item_of (c.Range a b) = case_range (exp_of a) (exp_of b)
case_item_of (c.Is op a) = case_is op (exp_of a)

abbrev pub redim_item_of : NetReDim → ReDimItem
redim_item_of r = record { array = exp_of r.array; bounds = exps_of r.bounds.items }

abbrev pub line_of : NetLine → Line
line_of (n.Comment units) = comment units
line_of (n.Assign target value) = assign (exp_of target.value) (exp_of value.value)
line_of (n.Call callee arguments) = call (exp_of callee.value) (exps_of arguments)
line_of (n.If condition) = if_head (exp_of condition.value)
line_of (n.ElseIf condition) = else_if (exp_of condition.value)
line_of n.Else = else_line
line_of n.EndIf = end_if
line_of (n.Select value) = select (exp_of value.value)
line_of (n.Case items) = case_line (map case_item_of items)
line_of n.CaseElse = case_else
line_of n.EndSelect = end_select
line_of (n.For c) = for_head (exp_of c.value.counter) (exp_of c.value.start) (exp_of c.value.limit) (option_map exp_of c.value.step)
line_of n.Next = next
line_of n.Do = do_head
line_of (n.DoWhile condition) = do_while (exp_of condition.value)
line_of (n.DoUntil condition) = do_until (exp_of condition.value)
line_of n.Loop = loop
line_of (n.LoopWhile condition) = loop_while (exp_of condition.value)
line_of (n.LoopUntil condition) = loop_until (exp_of condition.value)
line_of (n.While condition) = while_head (exp_of condition.value)
line_of n.EndWhile = end_while
line_of (n.With object) = with_head (exp_of object.value)
line_of n.EndWith = end_with
line_of (n.GoTo l) = goto l
line_of (n.Label l) = label l
line_of (n.OnErrorGoTo l) = on_error_goto l
line_of n.OnErrorGoToZero = on_error_goto_zero
line_of n.OnErrorResumeNext = on_error_resume_next
line_of n.Resume = resume
line_of n.ResumeNext = resume_next
line_of (n.ResumeAt l) = resume_at l
line_of (n.Exit what) = exit what
line_of (n.ReDim preserve items) = redim preserve (map redim_item_of items)

abbrev pub variable_of : NetVariable → Variable
variable_of v = record { name = v.name; ty = type_name_of v.ty; value = option_map (λ e. exp_of e.value) v.value }

abbrev pub constant_of : NetConstant → Constant
constant_of c = record { name = c.name; ty = type_name_of c.ty; value = exp_of c.value.value }

abbrev pub dim_of : NetDim → Dim
dim_of (Local v) = local (variable_of v)
dim_of (Static v) = static_local (variable_of v)
dim_of (Const c) = constant (constant_of c)

abbrev pub param_of : NetParam → Param
param_of p = record { passing = p.passing; name = p.name; ty = type_name_of p.ty }

abbrev pub head_of : NetHead → Head
head_of (h.Sub visibility name params) = sub visibility name (map param_of params.items)
head_of (h.Function visibility name params t) = function visibility name (map param_of params.items) (type_name_of t)
head_of h.New = sub_new
head_of h.Get = get_part
head_of (h.Set name t) = set_part name (type_name_of t)

abbrev pub procedure_of : NetProc → Procedure
procedure_of p = record { head = head_of p.head; prologue = map dim_of p.prologue.items; lines = map line_of p.lines.items; close = p.close }

abbrev pub property_of : NetProperty → Property
property_of p = record {
  visibility = p.visibility;
  name = p.name;
  params = map param_of p.params.items;
  ty = type_name_of p.ty;
  get_comments = p.get_comments.items;
  get = option_map (λ g. procedure_of g.value) p.get;
  set_comments = p.set_comments.items;
  set = option_map (λ g. procedure_of g.value) p.set;
}

abbrev pub field_of : NetField → Field
field_of (f.Comment units) = field_comment units
field_of (f.Field name t) = field name (type_name_of t)

abbrev pub structure_of : NetStructure → Structure
structure_of s = record { name = s.name; fields = map field_of s.fields.items }

abbrev pub member_of : NetMember → Member
member_of (m.Comment units) = member_comment units
member_of (m.Variable visibility v) = variable visibility (variable_of v.value)
member_of (m.Const visibility c) = const_member visibility (constant_of c.value)
member_of (m.Structure s) = structure (structure_of s.value)
member_of (m.Property p) = property (property_of p.value)
member_of (m.Proc p) = proc (procedure_of p.value)

abbrev pub module_of : NetModule → Module
module_of m = record { name = m.name; class = m.class; members = map member_of m.members }

abbrev pub project_of : NetProject → Project
project_of p = record { library = p.library; main = p.main; note = p.note; modules = map module_of p.modules; support = module_of p.support }
