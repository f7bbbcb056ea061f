-- The tree without memory that a tree of the code stands for.
use Rattle.std.specs.Prelude.{List, [], ◌∷◌, Option, Some, None, map, option_map}
use Rattle.vb_tree.specs.declared.expression.Expr6.{Expr6, Row_of-Arg6, end_of-Arg6, more_of-Arg6}
use Rattle.vb_tree.specs.declared.expression.Expr6.TheVariants as e
use Rattle.vb_tree.specs.declared.expression.Arg6.{Arg6, Held-Arg6-value, None', Some'}
use Rattle.vb_tree.specs.declared.form.Form6.{Form6}
use Rattle.vb_tree.specs.declared.form.Form6.TheVariants as f
use Rattle.vb_tree.specs.declared.form.CodeLine.{CodeLine}
use Rattle.vb_tree.specs.declared.form_parts.Bounds6.{Bounds6}
use Rattle.vb_tree.specs.declared.form_parts.CaseItem6.{CaseItem6}
use Rattle.vb_tree.specs.declared.form_parts.CaseItem6.TheVariants as case
use Rattle.vb_tree.specs.declared.form_parts.Constant6.{Constant6}
use Rattle.vb_tree.specs.declared.form_parts.Declarator6.{Declarator6}
use Rattle.vb_tree.specs.declared.form_parts.Param6.{Param6}
use Rattle.vb_tree.specs.declared.form_parts.ReDimItem6.{ReDimItem6}
use Rattle.vb_tree.specs.declared.form_parts.Result6.{Result6}
use Rattle.vb_tree.specs.declared.form_parts.Signature6.{Signature6}
use Rattle.vb_tree.specs.declared.form_parts.TypeName6.{TypeName6}
use Rattle.vb_tree.specs.declared.form_parts.TypeName6.TheVariants as ty
use Rattle.vb_tree.specs.declared.module.Block6.{Block6, Block6', Row_of-Node6, end_of-Node6, more_of-Node6, Row_of-Middle6, end_of-Middle6, more_of-Middle6}
use Rattle.vb_tree.specs.declared.module.Node6.{Node6}
use Rattle.vb_tree.specs.declared.module.Middle6.{Middle6}
use Rattle.vb_tree.specs.declared.module.Node6.TheVariants as n
use Rattle.vb_tree.specs.declared.module.Member6.{Member6}
use Rattle.vb_tree.specs.declared.module.Member6.TheVariants as m
use Rattle.vb_tree.specs.declared.module.Module6.{Module6}
use Rattle.vb_tree.specs.declared.project.Project6.{Project6}
use Rattle.vb_tree.specs.Tree.{Args, Bounds, CaseItem, Constant, Declarator, Exp, Form, Given, Line, Member, Middles, Module, Node, Nodes, Param, Project, ReDimItem, ResultType, Signature, TypeName, address_of, alone, assign, attribute, bang, binary, block, bracketed, call, case_else, case_is, case_line, case_range, case_value, constants, debug_print, def_type, do_head, do_until, do_while, else_if, else_line, end_enum, end_function, end_if, end_property, end_select, end_sub, end_type, end_with, enum_head, enum_member, erase, event_variables, exit, field, fixed_string, for_each, for_head, function_head, get_head, given, goto, group, if_head, index, invoke, label, let_head, line, line_if, lit, loop, loop_until, loop_while, me, member, named, new_object, next, next_arg, next_middle, next_node, no_args, no_middles, no_nodes, omitted, on_error_goto, on_error_goto_zero, on_error_resume_next, opaque, option_base, option_compare, option_explicit, option_private_module, paren, proc, redim, resume, resume_at, resume_next, select, set, set_head, static_head, sub_head, type_head, type_of, unary, variables, wend, while_head, with_bang, with_head, with_member, word}

abbrev mutual
  pub exp_of : Expr6 → Exp
  exp_of (e.Lit l) = lit l
  exp_of (e.Word name suffix) = word name suffix
  exp_of (e.Bracketed name suffix) = bracketed name suffix
  exp_of e.Me = me
  exp_of (e.Member' p a name) = member (exp_of a) name
  exp_of (e.WithMember name) = with_member name
  exp_of (e.WithBang name) = with_bang name
  exp_of (e.Index' p a shape args) = index (exp_of a) (args_in_row args)
  exp_of (e.Unary' op p a) = unary op (exp_of a)
  exp_of (e.Binary' op p a q b) = binary op (exp_of a) (exp_of b)
  exp_of (e.Paren' p a) = paren (exp_of a)
  exp_of (e.New class) = new_object class
  exp_of (e.Bang' p a name) = bang (exp_of a) name
  exp_of (e.TypeOf' p a name) = type_of (exp_of a) name
  exp_of (e.AddressOf name) = address_of name

  pub args_in_row : {k : _} → Row_of-Arg6 k → Args
  args_in_row end_of-Arg6 = no_args
  args_in_row (more_of-Arg6 name marked value rest) = next_arg name marked (given_in value) (args_in_row rest)

  pub given_in : Held-Arg6-value → Given
  given_in None' = omitted
  given_in (Some' a) = given (exp_of a)

abbrev pub given_of : Option Expr6 → Given
given_of None = omitted
given_of (Some a) = given (exp_of a)

abbrev pub args_of : List Arg6 → Args
args_of [] = no_args
args_of (a ∷ args) = next_arg a.name a.marked (given_of a.value) (args_of args)

abbrev pub type_name_of : TypeName6 → TypeName
type_name_of (ty.Named name) = named name
type_name_of (ty.FixedString units) = fixed_string (exp_of units.value)

abbrev pub bounds_of : Bounds6 → Bounds
bounds_of b = record { lower = option_map exp_of b.lower; upper = exp_of b.upper }

abbrev pub declarator_of : Declarator6 → Declarator
declarator_of d = record {
  name = d.name;
  suffix = d.suffix;
  bounds = option_map (map bounds_of) d.bounds;
  auto = d.auto;
  ty = option_map type_name_of d.ty;
}

abbrev pub constant_of : Constant6 → Constant
constant_of c = record { name = c.name; suffix = c.suffix; ty = option_map type_name_of c.ty; value = exp_of c.value }

abbrev pub param_of : Param6 → Param
param_of p = record {
  optional = p.optional;
  passing = p.passing;
  param_array = p.param_array;
  name = p.name;
  suffix = p.suffix;
  array = p.array;
  ty = option_map type_name_of p.ty;
  preset = option_map exp_of p.preset;
}

abbrev pub signature_of : Signature6 → Signature
signature_of s = record { visibility = s.visibility; name = s.name; suffix = s.suffix; params = map param_of s.params }

abbrev pub result_of : Result6 → ResultType
result_of r = record { ty = type_name_of r.ty; array = r.array }

abbrev pub case_item_of : CaseItem6 → CaseItem
case_item_of (case.Value a) = case_value (exp_of a)
case_item_of (case.Range a b) = case_range (exp_of a) (exp_of b)
case_item_of (case.Is op a) = case_is op (exp_of a)

abbrev pub redim_item_of : ReDimItem6 → ReDimItem
redim_item_of r = record { array = exp_of r.array; bounds = map bounds_of r.bounds; ty = option_map type_name_of r.ty }

abbrev pub form_of : Form6 → Form
form_of (f.Attribute tokens) = attribute tokens
form_of f.OptionExplicit = option_explicit
form_of (f.OptionBase lower) = option_base lower
form_of (f.OptionCompare compare) = option_compare compare
form_of f.OptionPrivateModule = option_private_module
form_of (f.DefType w ranges) = def_type w ranges
form_of (f.Variables w declarators) = variables w (map declarator_of declarators)
form_of (f.Constants visibility items) = constants visibility (map constant_of items)
form_of (f.TypeHead visibility name suffix) = type_head visibility name suffix
form_of (f.Field d) = field d.value.name d.value.suffix (option_map (map bounds_of) d.value.bounds) (type_name_of d.value.ty)
form_of f.EndType = end_type
form_of (f.EnumHead visibility name suffix) = enum_head visibility name suffix
form_of (f.EnumMember name suffix value) = enum_member name suffix (option_map (λ e. exp_of e.value) value)
form_of f.EndEnum = end_enum
form_of (f.SubHead s) = sub_head (signature_of s)
form_of (f.FunctionHead s result) = function_head (signature_of s) (option_map (λ r. result_of r.value) result)
form_of (f.GetHead s result) = get_head (signature_of s) (option_map (λ r. result_of r.value) result)
form_of (f.LetHead s) = let_head (signature_of s)
form_of (f.SetHead s) = set_head (signature_of s)
form_of f.EndSub = end_sub
form_of f.EndFunction = end_function
form_of f.EndProperty = end_property
form_of (f.Assign target value) = assign (exp_of target.value) (exp_of value.value)
form_of (f.Set target value) = set (exp_of target.value) (exp_of value.value)
form_of (f.Call callee) = call (exp_of callee)
form_of (f.Invoke callee args) = invoke (exp_of callee.value) (args_of args)
form_of (f.DebugPrint items ended) = debug_print (map exp_of items) ended
form_of (f.If condition) = if_head (exp_of condition)
form_of (f.ElseIf condition) = else_if (exp_of condition)
form_of f.Else = else_line
form_of f.EndIf = end_if
form_of (f.LineIf condition) = line_if (exp_of condition)
form_of (f.Select value) = select (exp_of value)
form_of (f.Case items) = case_line (map case_item_of items)
form_of f.CaseElse = case_else
form_of f.EndSelect = end_select
form_of (f.For c) = for_head (exp_of c.value.counter) (exp_of c.value.start) (exp_of c.value.limit) (option_map exp_of c.value.step)
form_of (f.ForEach name suffix items) = for_each name suffix (exp_of items.value)
form_of (f.Next name) = next name
form_of f.Do = do_head
form_of (f.DoWhile condition) = do_while (exp_of condition)
form_of (f.DoUntil condition) = do_until (exp_of condition)
form_of f.Loop = loop
form_of (f.LoopWhile condition) = loop_while (exp_of condition)
form_of (f.LoopUntil condition) = loop_until (exp_of condition)
form_of (f.While condition) = while_head (exp_of condition)
form_of f.Wend = wend
form_of (f.With object) = with_head (exp_of object)
form_of f.EndWith = end_with
form_of (f.GoTo l) = goto l
form_of (f.Label l) = label l
form_of (f.OnErrorGoTo l) = on_error_goto l
form_of f.OnErrorGoToZero = on_error_goto_zero
form_of f.OnErrorResumeNext = on_error_resume_next
form_of f.Resume = resume
form_of f.ResumeNext = resume_next
form_of (f.ResumeAt l) = resume_at l
form_of (f.Exit kind) = exit kind
form_of (f.ReDim preserve items) = redim preserve (map redim_item_of items)
form_of (f.Erase array) = erase (exp_of array)
form_of (f.StaticHead kind s result) = static_head kind (signature_of s) (option_map (λ r. result_of r.value) result)
form_of (f.EventVariables w declarators) = event_variables w (map declarator_of declarators)
form_of (f.Opaque tokens) = opaque tokens

abbrev pub line_of : CodeLine → Line
line_of l = record { place = l.place; text = l.text; form = form_of l.form.value }

abbrev mutual
  pub node_of : Node6 → Node
  node_of (n.Line l) = line (line_of l)
  node_of (n.Block' p b) = block_in b

  pub block_in : Block6 → Node
  block_in (Block6' head shape body shape' middles close) = block (line_of head) (nodes_in_row body) (middles_in_row middles) (line_of close)

  pub nodes_in_row : {k : _} → Row_of-Node6 k → Nodes
  nodes_in_row end_of-Node6 = no_nodes
  nodes_in_row (more_of-Node6 a rest) = next_node (node_of a) (nodes_in_row rest)

  pub middles_in_row : {k : _} → Row_of-Middle6 k → Middles
  middles_in_row end_of-Middle6 = no_middles
  middles_in_row (more_of-Middle6 l shape body rest) = next_middle (line_of l) (nodes_in_row body) (middles_in_row rest)

abbrev pub nodes_of : List Node6 → Nodes
nodes_of [] = no_nodes
nodes_of (a ∷ more) = next_node (node_of a) (nodes_of more)

abbrev pub member_of : Member6 → Member
member_of (m.Line l) = alone (line_of l)
member_of (m.Group head lines close) = group (line_of head) (map line_of lines) (line_of close)
member_of (m.Proc head body close) = proc (line_of head) (nodes_of body) (line_of close)

abbrev pub module_of : Module6 → Module
module_of m = record { file = m.file; name = m.name; class = m.class; members = map member_of m.members; comments = m.comments }

abbrev pub project_of : Project6 → Project
project_of p = record { file = p.file; modules = map module_of p.modules }

abbrev pub middles_of : List Middle6 → Middles
middles_of [] = no_middles
middles_of (m ∷ more) = next_middle (line_of m.line) (nodes_of m.body.items) (middles_of more)
