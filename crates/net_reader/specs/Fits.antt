-- Which projects a tree of the code can hold: numbers fit their types, names have at most 512 characters and arrays 255
-- dimensions.
use Rattle.std.specs.Prelude.{ℕ, Bool, true, ◌&&◌, nat_lt, List, Option, Some, None}
use Rattle.std.specs.List.{list_all}
use Rattle.net_tree.specs.Tree.{CaseItem, Constant, Dim, Exp, Field, Head, Line, Member, Module, Param, Procedure, Project, Property, ReDimItem, Structure, Variable, assign, call, call_of, case_is, case_line, case_range, case_value, comment, const_member, constant, do_until, do_while, else_if, field, field_comment, for_head, function, get_part, goto, if_head, label, local, loop_until, loop_while, member_comment, on_error_goto, proc, property, redim, resume_at, select, set_part, static_local, structure, sub, sub_new, variable, while_head, with_head}
use Rattle.net_tree.specs.Text.{written_modules}
use Rattle.net_exprs.specs.Fitting.{fits_exp, fits_label, fits_name, fits_type}

-- a text of UTF-16 units
abbrev pub fits_text : List ℕ → Bool
fits_text units = list_all (λ unit. nat_lt unit 0x1_0000) units

abbrev pub fits_param : Param → Bool
fits_param p = fits_name p.name && fits_type p.ty

abbrev pub fits_head : Head → Bool
fits_head (sub visibility name params) = fits_name name && list_all fits_param params
fits_head (function visibility name params t) = fits_name name && list_all fits_param params && fits_type t
fits_head sub_new = true
fits_head get_part = true
fits_head (set_part name t) = fits_name name && fits_type t

abbrev pub fits_field : Field → Bool
fits_field (field_comment units) = fits_text units
fits_field (field name t) = fits_name name && fits_type t

abbrev pub fits_structure : Structure → Bool
fits_structure s = fits_name s.name && list_all fits_field s.fields

abbrev pub fits_main : Option (List ℕ) → Bool
fits_main None = true
fits_main (Some name) = fits_name name

abbrev pub fits_option : Option Exp → Bool
fits_option None = true
fits_option (Some e) = fits_exp e

abbrev pub fits_case : CaseItem → Bool
fits_case (case_value e) = fits_exp e
fits_case (case_range a b) = fits_exp a && fits_exp b
fits_case (case_is o e) = fits_exp e

abbrev pub fits_redim : ReDimItem → Bool
fits_redim r = fits_exp (call_of r.array r.bounds)

abbrev pub fits_line : Line → Bool
fits_line (comment units) = fits_text units
fits_line (assign target value) = fits_exp target && fits_exp value
fits_line (call callee arguments) = fits_exp (call_of callee arguments)
fits_line (if_head condition) = fits_exp condition
fits_line (else_if condition) = fits_exp condition
fits_line (select value) = fits_exp value
fits_line (case_line items) = list_all fits_case items
fits_line (for_head counter from to step) = fits_exp counter && fits_exp from && fits_exp to && fits_option step
fits_line (do_while condition) = fits_exp condition
fits_line (do_until condition) = fits_exp condition
fits_line (loop_while condition) = fits_exp condition
fits_line (loop_until condition) = fits_exp condition
fits_line (while_head condition) = fits_exp condition
fits_line (with_head object) = fits_exp object
fits_line (goto l) = fits_label l
fits_line (label l) = fits_label l
fits_line (on_error_goto l) = fits_label l
fits_line (resume_at l) = fits_label l
fits_line (redim preserve items) = list_all fits_redim items
fits_line _ = true

abbrev pub fits_variable : Variable → Bool
fits_variable v = fits_name v.name && fits_type v.ty && fits_option v.value

abbrev pub fits_constant : Constant → Bool
fits_constant c = fits_name c.name && fits_type c.ty && fits_exp c.value

abbrev pub fits_dim : Dim → Bool
fits_dim (local v) = fits_variable v
fits_dim (static_local v) = fits_variable v
fits_dim (constant c) = fits_constant c

abbrev pub fits_procedure : Procedure → Bool
fits_procedure p = fits_head p.head && list_all fits_dim p.prologue && list_all fits_line p.lines

-- a part of a property with the comments right before it
abbrev pub fits_part : List (List ℕ) → Option Procedure → Bool
fits_part comments None = list_all fits_text comments
fits_part comments (Some p) = list_all fits_text comments && fits_procedure p

abbrev pub fits_property : Property → Bool
fits_property p =
    fits_name p.name && list_all fits_param p.params && fits_type p.ty && fits_part p.get_comments p.get && fits_part p.set_comments p.set

abbrev pub fits_member : Member → Bool
fits_member (member_comment units) = fits_text units
fits_member (variable visibility v) = fits_variable v
fits_member (const_member visibility c) = fits_constant c
fits_member (structure s) = fits_structure s
fits_member (property p) = fits_property p
fits_member (proc p) = fits_procedure p

abbrev pub fits_module : Module → Bool
fits_module m = fits_name m.name && list_all fits_member m.members

-- whether a tree of the code can hold a project
abbrev pub can_be_held : Project → Bool
can_be_held N = fits_main N.main && list_all fits_module (written_modules N)
