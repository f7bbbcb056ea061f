-- Lines and files that are read back.
use Rattle.std.proofs.Common.{◌≡◌, ℕ, true, false, pos, List, [], ◌∷◌, ◌++◌, take, codes, refl, Option, Some}
use Rattle.std.specs.Char.{encode_utf8}
use Rattle.std.specs.Fmt.{digits}
use Rattle.std.specs.Str.{chars, is_utf8}
use Rattle.net_tree.specs.declared.declaration.NetClose.TheVariants as close
use Rattle.net_tree.specs.declared.declaration.NetPassing.TheVariants as passing
use Rattle.net_tree.specs.declared.declaration.NetVisibility.TheVariants.{Public, Private, Friend}
use Rattle.net_tree.specs.declared.expression.NetBin.TheVariants as op
use Rattle.net_tree.specs.declared.line.NetExit.TheVariants as leaving
use Rattle.net_tree.specs.declared.line.NetLabel.TheVariants.{Word, Number}
use Rattle.net_tree.specs.Types as ty
use Rattle.net_tree.specs.Tree.{Exp, Line, Member, Module, Procedure, Project, Property, assign, call, case_else, case_is, case_line, case_range, case_value, comment, const_member, constant, do_head, do_until, do_while, else_if, else_line, end_if, end_select, end_while, end_with, exit, field, field_comment, for_head, function, get_part, goto, if_head, integer, label, lit, local, loop, loop_until, loop_while, member_comment, next, next_exp, no_exps, on_error_goto, on_error_goto_zero, on_error_resume_next, path, proc, property, redim, resume, resume_at, resume_next, select, set_part, structure, sub, sub_new, variable, while_head, with_head}
use Rattle.net_tree.specs.Spelling.{at_depth, is_bracketed}
use Rattle.net_tree.specs.Lines.{line_text}
use Rattle.net_tree.specs.Text.{byte_order_mark, files_of, module_text, options_text, response_text}
use Rattle.net_exprs.specs.Expressions.{front_of, keyword_of, operator_at, start_of, suffix_of, word_front}
use Rattle.net_exprs.specs.Types.{basic_type_of}
use Rattle.net_reader.specs.LineReader.{exp_at, line_at}
use Rattle.net_reader.specs.ModuleReader.{complete, module_in, stuck}
use Rattle.net_reader.specs.ProjectReader.{faulty, project_in, whole}
use Rattle.net_reader.specs.Words.{line_words, name_words}

abbrev named : List ℕ → Exp
named name = path (name ∷ [])

abbrev a : Exp
a = named (codes "a")

abbrev one : Exp
one = lit (integer (pos 1) false)

abbrev reads : Line → Type 0
reads l = line_at (line_text l) ≡ Some l

comment_line : reads (comment (0x20 ∷ 0xE9 ∷ 0xD83D ∷ 0xDE00 ∷ 0xFFFF ∷ []))
unfolding encode_utf8 chars is_utf8
comment_line = refl

empty_comment : reads (comment [])
unfolding encode_utf8 chars is_utf8
empty_comment = refl

assign_line : reads (assign a (named (codes "Next")))
unfolding line_words exp_at basic_type_of front_of keyword_of operator_at start_of suffix_of word_front digits is_bracketed
assign_line = refl

call_line : reads (call (named (codes "Do")) (next_exp one no_exps))
unfolding line_words exp_at basic_type_of front_of keyword_of operator_at start_of suffix_of word_front digits is_bracketed
call_line = refl

if_line : reads (if_head a)
unfolding line_words exp_at basic_type_of front_of keyword_of operator_at start_of suffix_of word_front digits is_bracketed
if_line = refl

else_if_line : reads (else_if a)
unfolding line_words exp_at basic_type_of front_of keyword_of operator_at start_of suffix_of word_front digits is_bracketed
else_if_line = refl

else_alone : reads else_line
unfolding line_words exp_at basic_type_of front_of keyword_of operator_at start_of suffix_of word_front digits is_bracketed
else_alone = refl

end_if_line : reads end_if
unfolding line_words exp_at basic_type_of front_of keyword_of operator_at start_of suffix_of word_front digits is_bracketed
end_if_line = refl

select_line : reads (select a)
unfolding line_words exp_at basic_type_of front_of keyword_of operator_at start_of suffix_of word_front digits is_bracketed
select_line = refl

case_line_of_three : reads (case_line (case_value one ∷ case_range one a ∷ case_is op.GreaterEqual a ∷ []))
unfolding line_words exp_at basic_type_of front_of keyword_of operator_at start_of suffix_of word_front digits is_bracketed
case_line_of_three = refl

case_else_line : reads case_else
unfolding line_words exp_at basic_type_of front_of keyword_of operator_at start_of suffix_of word_front digits is_bracketed
case_else_line = refl

end_select_line : reads end_select
unfolding line_words exp_at basic_type_of front_of keyword_of operator_at start_of suffix_of word_front digits is_bracketed
end_select_line = refl

for_line : reads (for_head a one a Option.None)
unfolding line_words exp_at basic_type_of front_of keyword_of operator_at start_of suffix_of word_front digits is_bracketed
for_line = refl

step_line : reads (for_head a one a (Some one))
unfolding line_words exp_at basic_type_of front_of keyword_of operator_at start_of suffix_of word_front digits is_bracketed
step_line = refl

next_line : reads next
unfolding line_words exp_at basic_type_of front_of keyword_of operator_at start_of suffix_of word_front digits is_bracketed
next_line = refl

do_line : reads do_head
unfolding line_words exp_at basic_type_of front_of keyword_of operator_at start_of suffix_of word_front digits is_bracketed
do_line = refl

do_while_line : reads (do_while a)
unfolding line_words exp_at basic_type_of front_of keyword_of operator_at start_of suffix_of word_front digits is_bracketed
do_while_line = refl

do_until_line : reads (do_until a)
unfolding line_words exp_at basic_type_of front_of keyword_of operator_at start_of suffix_of word_front digits is_bracketed
do_until_line = refl

loop_line : reads loop
unfolding line_words exp_at basic_type_of front_of keyword_of operator_at start_of suffix_of word_front digits is_bracketed
loop_line = refl

loop_while_line : reads (loop_while a)
unfolding line_words exp_at basic_type_of front_of keyword_of operator_at start_of suffix_of word_front digits is_bracketed
loop_while_line = refl

loop_until_line : reads (loop_until a)
unfolding line_words exp_at basic_type_of front_of keyword_of operator_at start_of suffix_of word_front digits is_bracketed
loop_until_line = refl

while_line : reads (while_head a)
unfolding line_words exp_at basic_type_of front_of keyword_of operator_at start_of suffix_of word_front digits is_bracketed
while_line = refl

end_while_line : reads end_while
unfolding line_words exp_at basic_type_of front_of keyword_of operator_at start_of suffix_of word_front digits is_bracketed
end_while_line = refl

with_line : reads (with_head a)
unfolding line_words exp_at basic_type_of front_of keyword_of operator_at start_of suffix_of word_front digits is_bracketed
with_line = refl

end_with_line : reads end_with
unfolding line_words exp_at basic_type_of front_of keyword_of operator_at start_of suffix_of word_front digits is_bracketed
end_with_line = refl

goto_line : reads (goto (Number 10))
unfolding line_words exp_at basic_type_of front_of keyword_of operator_at start_of suffix_of word_front digits is_bracketed
goto_line = refl

word_label : reads (label (Word (codes "Next")))
unfolding line_words exp_at basic_type_of front_of keyword_of operator_at start_of suffix_of word_front digits is_bracketed
word_label = refl

number_label : reads (label (Number 10))
unfolding line_words exp_at basic_type_of front_of keyword_of operator_at start_of suffix_of word_front digits is_bracketed
number_label = refl

on_error_line : reads (on_error_goto (Word (codes "Fail")))
unfolding line_words exp_at basic_type_of front_of keyword_of operator_at start_of suffix_of word_front digits is_bracketed
on_error_line = refl

on_error_zero_line : reads on_error_goto_zero
unfolding line_words exp_at basic_type_of front_of keyword_of operator_at start_of suffix_of word_front digits is_bracketed
on_error_zero_line = refl

on_error_next_line : reads on_error_resume_next
unfolding line_words exp_at basic_type_of front_of keyword_of operator_at start_of suffix_of word_front digits is_bracketed
on_error_next_line = refl

resume_line : reads resume
unfolding line_words exp_at basic_type_of front_of keyword_of operator_at start_of suffix_of word_front digits is_bracketed
resume_line = refl

resume_next_line : reads resume_next
unfolding line_words exp_at basic_type_of front_of keyword_of operator_at start_of suffix_of word_front digits is_bracketed
resume_next_line = refl

resume_at_line : reads (resume_at (Word (codes "a")))
unfolding line_words exp_at basic_type_of front_of keyword_of operator_at start_of suffix_of word_front digits is_bracketed
resume_at_line = refl

exit_line : reads (exit leaving.Property)
unfolding line_words exp_at basic_type_of front_of keyword_of operator_at start_of suffix_of word_front digits is_bracketed
exit_line = refl

redim_line : reads (redim false (record { array = a; bounds = next_exp one no_exps } ∷ record { array = a; bounds = next_exp one (next_exp a no_exps) } ∷ []))
unfolding line_words exp_at basic_type_of front_of keyword_of operator_at start_of suffix_of word_front digits is_bracketed
redim_line = refl

redim_preserve_line : reads (redim true (record { array = a; bounds = next_exp one no_exps } ∷ []))
unfolding line_words exp_at basic_type_of front_of keyword_of operator_at start_of suffix_of word_front digits is_bracketed
redim_preserve_line = refl

-- ---- files

abbrev fields_of : Member
fields_of = structure (record { name = codes "R"; fields = field_comment (codes "f") ∷ field (codes "b") (ty.array_of ty.byte 2) ∷ [] })

abbrev nested : Procedure
nested = record {
  head = sub Private (codes "S") (record { passing = passing.Value; name = codes "a"; ty = ty.integer } ∷ record { passing = passing.Reference; name = codes "Set"; ty = ty.array_of ty.str 1 } ∷ []);
  prologue = local (record { name = codes "i"; ty = ty.short; value = Option.None }) ∷ constant (record { name = codes "c"; ty = ty.long; value = one }) ∷ [];
  lines = comment (codes "l") ∷ if_head a ∷ do_head ∷ loop ∷ end_if ∷ [];
  close = close.EndSub;
}

abbrev both_parts : Property
both_parts = record {
  visibility = Public;
  name = codes "P";
  params = [];
  ty = ty.object;
  get_comments = [];
  get = Some (record { head = get_part; prologue = []; lines = []; close = close.EndGet });
  set_comments = codes "c" ∷ [];
  set = Some (record { head = set_part (codes "v") ty.object; prologue = []; lines = exit leaving.Property ∷ []; close = close.EndSet });
}

abbrev alone : List Member → Module
alone members = record { name = codes "M"; class = false; members = members }

abbrev reads_module : Option (List ℕ) → Module → Type 0
reads_module noted m = module_in Option.None m.name (module_text noted m) ≡ complete (record { note = noted; tree = m })

abbrev only : List Member → Type 0
only members = reads_module Option.None (alone members)

empty_module : reads_module (Some (codes "n")) (record { name = codes "Class"; class = true; members = [] })
unfolding line_words is_bracketed
empty_module = refl

structure_read : only (member_comment (codes "m") ∷ fields_of ∷ [])
unfolding line_words name_words basic_type_of is_bracketed encode_utf8 chars is_utf8
structure_read = refl

variables_read : only (variable Friend (record { name = codes "x"; ty = ty.integer; value = Some one }) ∷ const_member Public (record { name = codes "y"; ty = ty.integer; value = a }) ∷ [])
unfolding line_words exp_at basic_type_of front_of keyword_of operator_at start_of suffix_of word_front digits is_bracketed
variables_read = refl

procedure_read : only (proc nested ∷ [])
unfolding line_words name_words exp_at basic_type_of front_of keyword_of operator_at start_of suffix_of word_front digits is_bracketed encode_utf8 chars is_utf8
procedure_read = refl

property_read : only (property both_parts ∷ [])
unfolding line_words name_words basic_type_of is_bracketed encode_utf8 chars is_utf8
property_read = refl

heads_read : only (proc (record { head = sub_new; prologue = []; lines = []; close = close.EndSub })
    ∷ proc (record { head = function Public (codes "F") [] ty.byte; prologue = []; lines = []; close = close.EndFunction }) ∷ [])
unfolding line_words name_words basic_type_of is_bracketed
heads_read = refl

abbrev program : Project
program = record { library = false; main = Some (codes "M"); note = Option.None; modules = alone [] ∷ []; support = record { name = codes "UpgradeSupport"; class = false; members = [] } }

project_read : project_in (files_of program) ≡ whole program
unfolding line_words is_bracketed
project_read = refl

abbrev library_alone : Project
library_alone = record { library = true; main = Option.None; note = Some []; modules = []; support = record { name = codes "UpgradeSupport"; class = false; members = [] } }

library_read : project_in (files_of library_alone) ≡ whole library_alone
unfolding line_words is_bracketed
library_read = refl

-- ---- places

-- a program of one module of two lines, its support module and its response file
abbrev first_text : List ℕ
first_text = module_text Option.None (alone [])

abbrev support_text : List ℕ
support_text = module_text Option.None program.support

abbrev response : List ℕ
response = response_text program

no_files : project_in [] ≡ faulty 0 1
no_files = refl

name_alone : project_in ((codes "M.vb", []) ∷ []) ≡ faulty 0 1
name_alone = refl

other_name : project_in ((codes "M.txt", first_text) ∷ []) ≡ faulty 0 0
other_name = refl

name_of_another : project_in ((codes "N.vb", first_text) ∷ []) ≡ faulty 0 4
unfolding is_bracketed
name_of_another = refl

missing_support : project_in ((codes "M.vb", first_text) ∷ (codes "upgrade.rsp", response) ∷ []) ≡ faulty 1 0
unfolding line_words is_bracketed
missing_support = refl

missing_response : project_in ((codes "M.vb", first_text) ∷ (codes "UpgradeSupport.vb", support_text) ∷ []) ≡ faulty 2 1
unfolding line_words is_bracketed
missing_response = refl

one_file_more : project_in (files_of program ++ (codes "M.vb", first_text) ∷ []) ≡ faulty 3 0
unfolding line_words is_bracketed
one_file_more = refl

-- a module whose note is another than that of the first
other_note : project_in ((codes "M.vb", first_text) ∷ (codes "UpgradeSupport.vb", module_text (Some (codes "n")) program.support) ∷ []) ≡ faulty 1 1
unfolding line_words is_bracketed
other_note = refl

-- the head of a property asks for both parts, and one of them is missing
abbrev half_property : List ℕ
half_property =
    byte_order_mark ++ options_text ++ at_depth 0 (codes "Public Module M") ++ at_depth 1 (codes "Public Property P() As Object") ++ at_depth 2 (codes "Get")
    ++ at_depth 2 (codes "End Get") ++ at_depth 1 (codes "End Property") ++ at_depth 0 (codes "End Module")

missing_part : module_in Option.None (codes "M") half_property ≡ stuck 8
unfolding line_words name_words basic_type_of is_bracketed
missing_part = refl

-- a comment before a part that gets, and one that no part follows
abbrev late_comment : List ℕ
late_comment =
    byte_order_mark ++ options_text ++ at_depth 0 (codes "Public Module M") ++ at_depth 1 (codes "Public ReadOnly Property P() As Object") ++ at_depth 2 (codes "'a")
    ++ at_depth 2 (codes "Get") ++ at_depth 2 (codes "End Get") ++ at_depth 2 (codes "'b") ++ at_depth 1 (codes "End Property") ++ at_depth 0 (codes "End Module")

part_behind : module_in Option.None (codes "M") late_comment ≡ stuck 9
unfolding line_words name_words basic_type_of is_bracketed is_utf8 chars encode_utf8
part_behind = refl

-- a line that isn't indented by its depth
abbrev indented_less : List ℕ
indented_less =
    byte_order_mark ++ options_text ++ at_depth 0 (codes "Public Module M") ++ at_depth 1 (codes "Public Sub S()") ++ at_depth 1 (codes "Resume")
    ++ at_depth 1 (codes "End Sub") ++ at_depth 0 (codes "End Module")

wrong_depth : module_in Option.None (codes "M") indented_less ≡ stuck 6
unfolding line_words name_words basic_type_of is_bracketed
wrong_depth = refl

-- a file that ends too early, at the end of a line and within one
cut_at_line : module_in Option.None (codes "M") (take 65 first_text) ≡ stuck 4
unfolding line_words is_bracketed
cut_at_line = refl

cut_within_line : module_in Option.None (codes "M") (take 60 first_text) ≡ stuck 3
unfolding line_words is_bracketed
cut_within_line = refl

-- a unit past 16 bits would be written as a pair of surrogates is, so that a comment of such units does not fit
wide_unit : line_text (comment (0x1_0000 ∷ [])) ≡ line_text (comment (0xD800 ∷ 0xDC00 ∷ []))
unfolding encode_utf8
wide_unit = refl
