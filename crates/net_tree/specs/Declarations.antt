-- How declarations, procedures and members are written, and which can be.
use Rattle.std.specs.Prelude.{ℕ, suc, Bool, true, false, not, ◌&&◌, ◌||◌, ◌++◌, List, ◌∷◌, map, codes, Option, Some, None, is_some, []}
use Rattle.std.specs.List.{flat_map, list_all}
use Rattle.net_tree.specs.declared.declaration.NetClose.{NetClose}
use Rattle.net_tree.specs.declared.declaration.NetClose.TheVariants as close
use Rattle.net_tree.specs.declared.declaration.NetPassing.{NetPassing}
use Rattle.net_tree.specs.declared.declaration.NetPassing.TheVariants as passing
use Rattle.net_tree.specs.declared.declaration.NetVisibility.{NetVisibility}
use Rattle.net_tree.specs.declared.declaration.NetVisibility.TheVariants.{Public, Private, Friend}
use Rattle.net_tree.specs.Types as ty
use Rattle.net_tree.specs.Types.{TypeName}
use Rattle.net_tree.specs.Tree.{Constant, Dim, Exp, Field, Head, Member, Param, Procedure, Property, Structure, Variable, const_member, constant, field, field_comment, function, get_part, local, member_comment, proc, property, set_part, static_local, structure, sub, sub_new, variable}
use Rattle.net_tree.specs.Blocks.{nests}
use Rattle.net_tree.specs.Spelling.{at_depth, in_parentheses, name_text, is_identifier}
use Rattle.net_tree.specs.Comments.{comment_text, is_comment}
use Rattle.net_tree.specs.Expressions.{exp_text, rank_text, type_text, is_writable_whole, is_writable_type}
use Rattle.net_tree.specs.Lines.{lines_text, is_writable_line, is_writable_option}

-- what a name is declared as: the parentheses of an array stand behind the name
abbrev pub declared_text : List ℕ → TypeName → List ℕ
declared_text name (ty.array_of element rank) = name_text name ++ rank_text rank ++ codes " As " ++ type_text element
declared_text name t = name_text name ++ codes " As " ++ type_text t

-- the value that a variable begins with
abbrev pub value_text : Option Exp → List ℕ
value_text None = []
value_text (Some e) = codes " = " ++ exp_text e

abbrev pub variable_text : Variable → List ℕ
variable_text v = declared_text v.name v.ty ++ value_text v.value

abbrev pub constant_text : Constant → List ℕ
constant_text c = codes "Const " ++ declared_text c.name c.ty ++ codes " = " ++ exp_text c.value

abbrev pub dim_text : Dim → List ℕ
dim_text (local v) = codes "Dim " ++ variable_text v
dim_text (static_local v) = codes "Static " ++ variable_text v
dim_text (constant c) = constant_text c

abbrev pub passing_text : NetPassing → List ℕ
passing_text passing.Value = codes "ByVal "
passing_text passing.Reference = codes "ByRef "

abbrev pub param_text : Param → List ℕ
param_text p = passing_text p.passing ++ declared_text p.name p.ty

abbrev pub params_text : List Param → List ℕ
params_text params = in_parentheses (map param_text params)

abbrev pub visibility_text : NetVisibility → List ℕ
visibility_text Public = codes "Public "
visibility_text Private = codes "Private "
visibility_text Friend = codes "Friend "

abbrev pub head_text : Head → List ℕ
head_text (sub visibility name params) = visibility_text visibility ++ codes "Sub " ++ name_text name ++ params_text params
head_text (function visibility name params t) =
    visibility_text visibility ++ codes "Function " ++ name_text name ++ params_text params ++ codes " As " ++ type_text t
head_text sub_new = codes "Public Sub New()"
head_text get_part = codes "Get"
head_text (set_part name t) = codes "Set(ByVal " ++ declared_text name t ++ codes ")"

abbrev pub close_text : NetClose → List ℕ
close_text close.EndSub = codes "End Sub"
close_text close.EndFunction = codes "End Function"
close_text close.EndGet = codes "End Get"
close_text close.EndSet = codes "End Set"

-- a procedure whose head stands at a nesting depth
abbrev pub procedure_text : ℕ → Procedure → List ℕ
procedure_text depth p =
    at_depth depth (head_text p.head) ++ flat_map (λ d. at_depth (suc depth) (dim_text d)) p.prologue ++ lines_text (suc depth) p.lines
    ++ at_depth depth (close_text p.close)

-- comments at a nesting depth, each a line
abbrev pub comments_text : ℕ → List (List ℕ) → List ℕ
comments_text depth comments = flat_map (λ units. at_depth depth (comment_text units)) comments

-- a part of a property, where it has it, with the comments right before it
abbrev pub part_text : List (List ℕ) → Option Procedure → List ℕ
part_text comments None = []
part_text comments (Some p) = comments_text 2 comments ++ procedure_text 2 p

-- the word of a property that lacks a part: the one that sets, or the one that gets
abbrev pub access_text : (get set : Bool) → List ℕ
access_text true true = []
access_text true false = codes "ReadOnly "
access_text false set = codes "WriteOnly "

abbrev pub property_head_text : Property → List ℕ
property_head_text p =
    visibility_text p.visibility ++ access_text (is_some p.get) (is_some p.set) ++ codes "Property " ++ name_text p.name ++ params_text p.params
    ++ codes " As " ++ type_text p.ty

abbrev pub property_text : Property → List ℕ
property_text p =
    at_depth 1 (property_head_text p) ++ part_text p.get_comments p.get ++ part_text p.set_comments p.set ++ at_depth 1 (codes "End Property")

abbrev pub field_text : Field → List ℕ
field_text (field_comment units) = comment_text units
field_text (field name t) = codes "Public " ++ declared_text name t

abbrev pub structure_text : Structure → List ℕ
structure_text s =
    at_depth 1 (codes "Public Structure " ++ name_text s.name) ++ flat_map (λ f. at_depth 2 (field_text f)) s.fields
    ++ at_depth 1 (codes "End Structure")

abbrev pub member_text : Member → List ℕ
member_text (member_comment units) = at_depth 1 (comment_text units)
member_text (variable visibility v) = at_depth 1 (visibility_text visibility ++ variable_text v)
member_text (const_member visibility c) = at_depth 1 (visibility_text visibility ++ constant_text c)
member_text (structure s) = structure_text s
member_text (property p) = property_text p
member_text (proc p) = procedure_text 1 p

abbrev pub is_writable_variable : Variable → Bool
is_writable_variable v = is_identifier v.name && is_writable_type v.ty && is_writable_option v.value

abbrev pub is_writable_constant : Constant → Bool
is_writable_constant c = is_identifier c.name && is_writable_type c.ty && is_writable_whole c.value

abbrev pub is_writable_dim : Dim → Bool
is_writable_dim (local v) = is_writable_variable v
is_writable_dim (static_local v) = is_writable_variable v
is_writable_dim (constant c) = is_writable_constant c

abbrev pub is_writable_param : Param → Bool
is_writable_param p = is_identifier p.name && is_writable_type p.ty

abbrev pub is_writable_head : Head → Bool
is_writable_head (sub visibility name params) = is_identifier name && list_all is_writable_param params
is_writable_head (function visibility name params t) = is_identifier name && list_all is_writable_param params && is_writable_type t
is_writable_head sub_new = true
is_writable_head get_part = true
is_writable_head (set_part name t) = is_identifier name && is_writable_type t

-- the closing line that a head has
abbrev pub closes : Head → NetClose → Bool
closes (sub visibility name params) close.EndSub = true
closes (function visibility name params t) close.EndFunction = true
closes sub_new close.EndSub = true
closes get_part close.EndGet = true
closes (set_part name t) close.EndSet = true
closes _ _ = false

-- its closing line is that of its head, and its blocks nest
abbrev pub is_writable_procedure : Procedure → Bool
is_writable_procedure p =
    is_writable_head p.head && closes p.head p.close && list_all is_writable_dim p.prologue && list_all is_writable_line p.lines && nests p.lines

abbrev pub is_get : Head → Bool
is_get get_part = true
is_get _ = false

abbrev pub is_set : Head → Bool
is_set (set_part name t) = true
is_set _ = false

abbrev pub has_no_comment : List (List ℕ) → Bool
has_no_comment [] = true
has_no_comment (units ∷ comments) = false

-- whether a part of a property, where it has it, can be written with the comments right before it, and is of its kind; comments
-- stand before no part that it lacks
abbrev pub is_writable_part : (Head → Bool) → List (List ℕ) → Option Procedure → Bool
is_writable_part is_kind comments None = has_no_comment comments
is_writable_part is_kind comments (Some p) = list_all is_comment comments && is_kind p.head && is_writable_procedure p

-- it has a part
abbrev pub is_writable_property : Property → Bool
is_writable_property p =
    is_identifier p.name && list_all is_writable_param p.params && is_writable_type p.ty && (is_some p.get || is_some p.set)
    && is_writable_part is_get p.get_comments p.get && is_writable_part is_set p.set_comments p.set

abbrev pub is_writable_field : Field → Bool
is_writable_field (field_comment units) = is_comment units
is_writable_field (field name t) = is_identifier name && is_writable_type t

abbrev pub is_writable_structure : Structure → Bool
is_writable_structure s = is_identifier s.name && list_all is_writable_field s.fields

-- a procedure that is a member is no part of a property
abbrev pub is_writable_member : Member → Bool
is_writable_member (member_comment units) = is_comment units
is_writable_member (variable visibility v) = is_writable_variable v
is_writable_member (const_member visibility c) = is_writable_constant c
is_writable_member (structure s) = is_writable_structure s
is_writable_member (property p) = is_writable_property p
is_writable_member (proc p) = not (is_get p.head || is_set p.head) && is_writable_procedure p
