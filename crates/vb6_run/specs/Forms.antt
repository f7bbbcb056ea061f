-- What each form of a code line does.
use Rattle.std.specs.Prelude.{ℕ, Bool, List, Some, true, false, map, [], ◌∷◌}
use Rattle.vb_tree.specs.Tree.{Form}
use Rattle.vb_tree.specs.Tree as source
use Rattle.bound_tree.specs.Targets.{Aims, aims_of, steps}
use Rattle.bound_tree.specs.Tree.{Expr}
use Rattle.bound_tree.specs.Tree as tree
use Rattle.bound_facts.specs.Node.{type_at}
use Rattle.bound_facts.specs.Parts.{resizes}
use Rattle.run_base.specs.Frames.{none, next_line, at_line, keeps_value}
use Rattle.run_base.specs.Machines.{Line, Machine, resume, resume_next, resume_at}
use Rattle.vb6_run.specs.Values.{Value}
use Rattle.vb6_run.specs.Arrays.{erase}
use Rattle.vb6_run.specs.Expressions.{Context, parts_of, value_of, address_of}
use Rattle.run_base.specs.Outcomes.{outside, then, some_of}
use Rattle.vb6_run.specs.Store.{Address, Memory, Locked, Does, SourceFrame, set_err}
use Rattle.vb6_run.specs.Runnables.{Runnable}
use Rattle.vb6_run.specs.Lines.{goes_to, goes_on, goes_if, when_done, with_one, with_two, condition, let_to, set_to, items_text, print, case_of, for_does, next_of, keeps_at, with_does, redim_does, source_lines, to_label, handles_by, exit_does}

-- ---- lines with where control goes from them

-- After an error at such a line nothing says where to go on.
abbrev pub tests_in : Form → Bool
tests_in (source.if_head e) = true
tests_in (source.else_if e) = true
tests_in (source.line_if e) = true
tests_in (source.select e) = true
tests_in (source.case_line items) = true
tests_in (source.for_head counter start limit step) = true
tests_in (source.next name) = true
tests_in (source.do_while e) = true
tests_in (source.do_until e) = true
tests_in (source.loop_while e) = true
tests_in (source.loop_until e) = true
tests_in (source.while_head e) = true
tests_in (source.with_head e) = true
tests_in _ = false

abbrev pub SourceLine : Type 0
SourceLine = Line tree.Line

abbrev pub with_aims : List tree.Line → List Aims → List SourceLine
with_aims [] aims = []
with_aims (l ∷ ls) [] = []
with_aims (l ∷ ls) (a ∷ aims) = record { form = l; aims = a; tests = tests_in l.source.form } ∷ with_aims ls aims

abbrev pub body_of : List tree.Line → List SourceLine
body_of lines = with_aims lines (aims_of (steps (source_lines lines)))

abbrev pub SourceMachine : Type 0
SourceMachine = Machine Memory ℕ Value Address Locked tree.Line

-- the machine of a program whose procedures do nothing: it tells where its lines lead
abbrev pub idle_machine : Runnable → SourceMachine
idle_machine R = record {
  left = λ w. w.left;
  with_left = λ n w. record w { left = n };
  set_err = set_err;
  bodies = map body_of R.program.bodies;
  enter = λ p me locked args w. outside [];
  line_does = λ oracle p f l w. outside [];
  result = λ p f w. outside [];
}

-- ---- forms

-- What a line does by its form. What lies outside: a line that is no code line, an opaque one, and For Each.
abbrev pub form_does : Context → Form → List Expr → Does SourceFrame
form_does C (source.assign target value) es w = with_two es (λ to e w. when_done C (then (value_of C e w) (let_to C to))) w
form_does C (source.set target value) es w = with_two es (λ to e w. when_done C (then (value_of C e w) (set_to C to))) w
form_does C (source.call callee) es w = with_one es (λ e w. when_done C (parts_of C e w)) w
form_does C (source.invoke callee args) es w = with_one es (λ e w. when_done C (parts_of C e w)) w
form_does C (source.debug_print items ended) es w = when_done C (then (items_text C es w) (print ended))
form_does C (source.if_head e) es w = condition C (Some C.aims.after) C.aims.otherwise es w
form_does C (source.line_if e) es w = condition C (Some C.aims.after) C.aims.otherwise es w
form_does C (source.else_if e) es w = condition C (Some C.aims.after) C.aims.otherwise es w
form_does C source.else_line es w = goes_on C w
form_does C source.end_if es w = goes_on C w
form_does C (source.select e) es w = with_one es (λ e w. then (value_of C e w) (λ x w. keeps_at C (keeps_value x) w)) w
form_does C (source.case_line items) es w = some_of C.aims.own (λ h w. case_of C items es (C.frame.kept h) w) w
form_does C source.case_else es w = goes_on C w
form_does C source.end_select es w = goes_on C w
form_does C (source.for_head counter start limit step) es w = for_does C es w
form_does C (source.for_each name suffix e) es w = outside []
form_does C (source.next name) es w = some_of C.aims.own (λ h w. next_of C (C.frame.kept h) w) w
form_does C source.do_head es w = goes_on C w
form_does C (source.do_while e) es w = condition C (Some C.aims.after) C.aims.otherwise es w
form_does C (source.do_until e) es w = condition C C.aims.otherwise (Some C.aims.after) es w
form_does C source.loop es w = goes_if C C.aims.back w
form_does C (source.loop_while e) es w = condition C C.aims.back (Some C.aims.after) es w
form_does C (source.loop_until e) es w = condition C (Some C.aims.after) C.aims.back es w
form_does C (source.while_head e) es w = condition C (Some C.aims.after) C.aims.otherwise es w
form_does C source.wend es w = goes_if C C.aims.back w
form_does C (source.with_head e) es w = with_one es (λ e w. with_does C e (type_at e) w) w
form_does C source.end_with es w = goes_on C w
form_does C (source.goto l) es w = to_label C l (goes_to C) w
form_does C (source.label l) es w = goes_on C w
form_does C (source.on_error_goto l) es w = to_label C l (λ n w. handles_by C (at_line n) w) w
form_does C source.on_error_goto_zero es w = handles_by C none w
form_does C source.on_error_resume_next es w = handles_by C next_line w
form_does C source.resume es w = resume (idle_machine C.runnable) C.procedure C.frame w
form_does C source.resume_next es w = resume_next (idle_machine C.runnable) C.procedure C.frame w
form_does C (source.resume_at l) es w = to_label C l (λ n w. resume_at (idle_machine C.runnable) n C.frame w) w
form_does C (source.exit kind) es w = exit_does C kind w
form_does C (source.redim preserve items) es w = when_done C (redim_does C preserve (resizes items es) w)
form_does C (source.erase target) es w = with_one es (λ e w. when_done C (then (address_of C e w) (erase C.frame.env))) w
form_does C (source.opaque tokens) es w = outside []
form_does C (source.attribute tokens) es w = outside []
form_does C source.option_explicit es w = outside []
form_does C (source.option_base low) es w = outside []
form_does C (source.option_compare compare) es w = outside []
form_does C source.option_private_module es w = outside []
form_does C (source.def_type word ranges) es w = outside []
form_does C (source.variables word declarators) es w = outside []
form_does C (source.constants visibility items) es w = outside []
form_does C (source.type_head visibility name suffix) es w = outside []
form_does C (source.field name suffix bounds ty) es w = outside []
form_does C source.end_type es w = outside []
form_does C (source.enum_head visibility name suffix) es w = outside []
form_does C (source.enum_member name suffix value) es w = outside []
form_does C source.end_enum es w = outside []
form_does C (source.sub_head signature) es w = outside []
form_does C (source.function_head signature result) es w = outside []
form_does C (source.get_head signature result) es w = outside []
form_does C (source.let_head signature) es w = outside []
form_does C (source.set_head signature) es w = outside []
form_does C source.end_sub es w = outside []
form_does C source.end_function es w = outside []
form_does C source.end_property es w = outside []
form_does C (source.static_head kind signature result) es w = outside []
form_does C (source.event_variables word declarators) es w = outside []
