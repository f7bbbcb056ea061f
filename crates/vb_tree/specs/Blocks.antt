-- Which lines open, part and close blocks, and which are code lines.
use Rattle.std.specs.Prelude.{Bool, true, false}
use Rattle.vb_tree.specs.declared.block.BlockKind.{BlockKind}
use Rattle.vb_tree.specs.declared.block.BlockKind.TheVariants as kind
use Rattle.vb_tree.specs.declared.block.Role.{Role}
use Rattle.vb_tree.specs.declared.block.Role.TheVariants.{Plain, Opens, Parts, Closes}
use Rattle.vb_tree.specs.declared.declared.ProcKind.{ProcKind}
use Rattle.vb_tree.specs.declared.declared.ProcKind.TheVariants as proc
use Rattle.vb_tree.specs.Tree.{Form, attribute, variables, constants, type_head, end_type, enum_head, end_enum, sub_head, function_head, get_head, let_head, set_head, end_sub, end_function, end_property, if_head, else_if, else_line, end_if, line_if, select, case_line, case_else, end_select, for_head, for_each, next, do_head, do_while, do_until, loop, loop_while, loop_until, while_head, wend, with_head, end_with, static_head}

-- what the head of a procedure opens; all three parts of a property are closed by the same line
abbrev pub procedure_block : ProcKind → BlockKind
procedure_block proc.Sub = kind.Sub
procedure_block proc.Function = kind.Function
procedure_block proc.Get = kind.Property
procedure_block proc.Let = kind.Property
procedure_block proc.Set = kind.Property

-- what the head or the closing line of a procedure or of a group is to it
abbrev pub declaration_role : Form → Role
declaration_role (type_head visibility name suffix) = Opens kind.Type
declaration_role end_type = Closes kind.Type
declaration_role (enum_head visibility name suffix) = Opens kind.Enum
declaration_role end_enum = Closes kind.Enum
declaration_role (sub_head s) = Opens kind.Sub
declaration_role (function_head s result) = Opens kind.Function
declaration_role (get_head s result) = Opens kind.Property
declaration_role (let_head s) = Opens kind.Property
declaration_role (set_head s) = Opens kind.Property
declaration_role end_sub = Closes kind.Sub
declaration_role end_function = Closes kind.Function
declaration_role end_property = Closes kind.Property
declaration_role (static_head kind s result) = Opens (procedure_block kind)
declaration_role _ = Plain

-- what a statement is to the blocks round it
abbrev pub statement_role : Form → Role
statement_role (if_head condition) = Opens kind.If
statement_role (line_if condition) = Opens kind.If
statement_role (else_if condition) = Parts kind.If
statement_role else_line = Parts kind.If
statement_role end_if = Closes kind.If
statement_role (select value) = Opens kind.Select
statement_role (case_line items) = Parts kind.Select
statement_role case_else = Parts kind.Select
statement_role end_select = Closes kind.Select
statement_role (for_head counter start limit step) = Opens kind.For
statement_role (for_each name suffix items) = Opens kind.For
statement_role (next name) = Closes kind.For
statement_role do_head = Opens kind.Do
statement_role (do_while condition) = Opens kind.Do
statement_role (do_until condition) = Opens kind.Do
statement_role loop = Closes kind.Do
statement_role (loop_while condition) = Closes kind.Do
statement_role (loop_until condition) = Closes kind.Do
statement_role (while_head condition) = Opens kind.While
statement_role wend = Closes kind.While
statement_role (with_head object) = Opens kind.With
statement_role end_with = Closes kind.With
statement_role _ = Plain

-- the first role that isn't plain
abbrev pub first_role : Role → Role → Role
first_role Plain r = r
first_role (Opens kind) r = Opens kind
first_role (Parts kind) r = Parts kind
first_role (Closes kind) r = Closes kind

-- what a line is to the blocks round it
abbrev pub role_of : Form → Role
role_of f = first_role (declaration_role f) (statement_role f)

-- whether the block is the body of a procedure
abbrev pub is_procedure : BlockKind → Bool
is_procedure kind.Sub = true
is_procedure kind.Function = true
is_procedure kind.Property = true
is_procedure _ = false

-- whether the block is a group of declarations
abbrev pub is_group : BlockKind → Bool
is_group kind.Type = true
is_group kind.Enum = true
is_group _ = false

-- whether a line in a procedure is a code line: one that isn't a declaration
abbrev pub is_code : Form → Bool
is_code (attribute tokens) = false
is_code (variables w declarators) = false
is_code (constants visibility items) = false
is_code _ = true
