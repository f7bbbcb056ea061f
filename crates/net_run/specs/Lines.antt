-- What each line does: one clause for each form.
use Rattle.std.specs.Prelude.{ℕ, Bool, true, false, cond, List, [], ◌∷◌, ◌++◌, length, nat_eq, Option, Some, None, option_map}
use Rattle.vb6_meaning.specs.Answers.{then_answer}
use Rattle.bound_tree.specs.Labels.{label_at}
use Rattle.bound_tree.specs.Targets.{exit_to, with_round}
use Rattle.net_tree.specs.declared.line.NetExit.{NetExit}
use Rattle.net_tree.specs.declared.line.NetLabel.{NetLabel}
use Rattle.net_tree.specs.FlatLines.{code_lines}
use Rattle.net_tree.specs.Tree as net
use Rattle.net_tree.specs.Tree.{Exp, Exps, call_of, CaseItem, ReDimItem, Project}
use Rattle.net_meaning.specs.declared.value.ValueN.TheVariants as n
use Rattle.run_base.specs.Frames.{by_value, Handler, none, next_line, at_line, Kept, keeps_nothing, keeps_limit, keeps_value, keeps_address, Frame, to_line, keeping, with_handler}
use Rattle.run_base.specs.Machines.{Line, Machine, resume, resume_next, resume_at}
use Rattle.run_base.specs.Outcomes.{Outcome, gives, outside, then, answered, some_of}
use Rattle.net_run.specs.Values.{Value, unknown, single, fields}
use Rattle.net_run.specs.Shapes.{Shape, scalar, class, structured, array, shapeless, element_of, rank_of}
use Rattle.net_run.specs.Store.{Memory, Does, Address, root, item, constant, nowhere, shape_at, looked_up, written, made_with, array_made, array_kept}
use Rattle.net_run.specs.Members.{Code, code_at, result_of}
use Rattle.net_run.specs.Names.{Scope, Callee, to_procedure, to_property, to_support, to_library, to_clone, Reached, found_at, named, called}
use Rattle.net_run.specs.Structures.{counts_of}
use Rattle.net_run.specs.Making.{Jobs}
use Rattle.net_run.specs.Calls.{Arguments, part_does}
use Rattle.net_run.specs.Expressions.{finished, reach, parts_of, address_of, value_of, values_of, singles}
use Rattle.net_run.specs.Steps.{label_of, labels, exit_kind, leaves}
use Rattle.net_run.specs.Blocks.{condition, any_fits, step_value, counts_on, counted}

-- a frame: its variables go by their names
abbrev pub NetFrame : Type 0
NetFrame = Frame (List ℕ) Value Address Unit

abbrev pub NetLine : Type 0
NetLine = Line net.Line

abbrev pub NetMachine : Type 0
NetMachine = Machine Memory (List ℕ) Value Address Unit net.Line

abbrev pub set_err : ℕ → Memory → Memory
set_err e w = record w { err = e }

-- ---- the scope of a line

abbrev pub kept_address : Kept Value Address → Address
kept_address keeps_nothing = nowhere
kept_address (keeps_limit counter limit step) = nowhere
kept_address (keeps_value v) = nowhere
kept_address (keeps_address a) = a

-- what the innermost With round a line keeps
abbrev pub around_by : NetFrame → Option ℕ → Address
around_by f None = nowhere
around_by f (Some head) = kept_address (f.kept head)

abbrev pub result_name_of : Code → Option (List ℕ)
result_name_of c = option_map (λ r. r.0) (result_of c)

abbrev pub scope_of : Project → Code → NetFrame → NetLine → Scope
scope_of N c f l = record {
  project = N;
  home = c.home;
  result_name = result_name_of c;
  vars = f.vars;
  me = f.me;
  around = around_by f (with_round l.aims);
}

-- ---- where control goes

abbrev pub on_to : NetFrame → NetLine → Outcome Memory Unit → Outcome Memory NetFrame
on_to f l r = then r (λ u w. gives [] (to_line l.aims.after f) w)

-- a line that has no such aim stands where it can't be written
abbrev pub at_some : NetFrame → Option ℕ → Does NetFrame
at_some f n w = some_of n (λ n w. gives [] (to_line n f) w) w

-- a head that holds goes on, another goes where it says
abbrev pub if_holds : NetFrame → NetLine → Bool → Does NetFrame
if_holds f l true w = gives [] (to_line l.aims.after f) w
if_holds f l false w = at_some f l.aims.otherwise w

abbrev pub if_fails : NetFrame → NetLine → Bool → Does NetFrame
if_fails f l true w = at_some f l.aims.otherwise w
if_fails f l false w = gives [] (to_line l.aims.after f) w

-- the closing line of a loop goes back or on
abbrev pub back_if : NetFrame → NetLine → Bool → Does NetFrame
back_if f l true w = at_some f l.aims.back w
back_if f l false w = gives [] (to_line l.aims.after f) w

abbrev pub back_unless : NetFrame → NetLine → Bool → Does NetFrame
back_unless f l true w = gives [] (to_line l.aims.after f) w
back_unless f l false w = at_some f l.aims.back w

abbrev pub target_of : Code → NetLabel → Option ℕ
target_of c l = label_at (labels (code_lines c.procedure)) (label_of l)

-- ---- assignments

-- a property is set by its Set, behind its arguments; a call is no target
abbrev pub set_by : Scope → Jobs → Callee → Arguments → Value → Does Unit
set_by S oracle (to_procedure object p) args v w = outside []
set_by S oracle (to_property object get set) args v w =
    then (part_does S oracle object set (args ++ by_value v ∷ []) w) (λ a w. gives [] tt w)
set_by S oracle (to_support name) args v w = outside []
set_by S oracle (to_library names) args v w = outside []
set_by S oracle (to_clone shape a) args v w = outside []

-- the last check of an index or for Nothing comes at the store
abbrev pub assigned : Scope → Jobs → Reached → Value → Does Unit
assigned S oracle (found_at ps) v w = then (finished ps w) (λ a w. written a v w)
assigned S oracle (named callee) v w = set_by S oracle callee [] v w
assigned S oracle (called callee args) v w = set_by S oracle callee args v w

-- the parts of the target come before the right side
abbrev pub assignment : Scope → Jobs → (target value : Exp) → Does Unit
assignment S oracle target e w =
    then (reach S oracle false target w) (λ r w. then (value_of S oracle e w) (λ v w. assigned S oracle r v w))

-- ---- ReDim

-- the elements that an array variable has; Nothing has none, and what is no array isn't written there
abbrev pub elements_of : Value → Does (List Value)
elements_of (single (n.Array k)) w = gives [] (w.arrays k).elements w
elements_of (single n.Nothing) w = gives [] [] w
elements_of (single x) w = outside []
elements_of unknown w = outside []
elements_of (fields vs) w = outside []

-- a new array, with the old elements where they are kept; the old array is read behind the bounds
abbrev pub resized : (preserve : Bool) → (element : Shape) → List ℕ → Address → Does Value
resized false element counts a w = array_made element counts w
resized true element counts a w = then (elements_of (looked_up a w) w) (λ old w. array_kept element counts old w)

-- there are as many bounds as the array has dimensions
abbrev pub redimmed : (preserve : Bool) → List ℕ → Address → Does Unit
redimmed preserve counts a w =
    cond (nat_eq (length counts) (rank_of (shape_at a)))
    (then (resized preserve (element_of (shape_at a)) counts a w) (λ v w. written a v w))
    (outside [])

abbrev pub redim_one : Scope → Jobs → (preserve : Bool) → ReDimItem → Does Unit
redim_one S oracle preserve r w =
    then (parts_of S oracle r.array w) (λ ps w.
    then (values_of S oracle r.bounds w) (λ vs w.
    then (answered (then_answer (singles vs) counts_of) w) (λ counts w.
    then (finished ps w) (redimmed preserve counts))))

-- an array is made before the bounds of the next one are evaluated
abbrev pub redim_all : Scope → Jobs → (preserve : Bool) → List ReDimItem → Does Unit
redim_all S oracle preserve [] w = gives [] tt w
redim_all S oracle preserve (r ∷ items) w = then (redim_one S oracle preserve r w) (λ u w. redim_all S oracle preserve items w)

-- ---- blocks

abbrev pub on_kept_value : {A : Type 0} → Kept Value Address → (Value → Does A) → Does A
on_kept_value keeps_nothing go w = outside []
on_kept_value (keeps_limit counter limit step) go w = outside []
on_kept_value (keeps_value v) go w = go v w
on_kept_value (keeps_address a) go w = outside []

-- a Case in a block whose head never kept a value has no meaning
abbrev pub case_does : Scope → Jobs → NetFrame → NetLine → List CaseItem → Does NetFrame
case_does S oracle f l items w =
    some_of l.aims.own (λ head w. on_kept_value (f.kept head) (λ x w. then (any_fits S oracle x items w) (λ fits w. if_holds f l fits w)) w) w

-- a loop that hasn't passed its limit goes to a line, and else to another
abbrev pub loops : (goes leaves : Option ℕ) → NetFrame → Bool → Does NetFrame
loops goes leaves f true w = at_some f goes w
loops goes leaves f false w = at_some f leaves w

-- the counter takes its first value behind the three limits
abbrev pub for_does : Scope → Jobs → NetFrame → NetLine → (counter start limit : Exp) → (step : Option Exp) → Does NetFrame
for_does S oracle f l counter start limit step w =
    then (parts_of S oracle counter w) (λ ps w.
    then (value_of S oracle start w) (λ x w.
    then (value_of S oracle limit w) (λ y w.
    then (step_value S oracle x step w) (λ s w.
    then (finished ps w) (λ a w.
    then (written a x w) (λ u w.
    then (answered (counts_on x y s) w) (λ goes w.
    loops (Some l.aims.after) l.aims.otherwise (keeping (keeps_limit a y s) f.line f) goes w)))))))

abbrev pub next_by : NetFrame → NetLine → Kept Value Address → Does NetFrame
next_by f l keeps_nothing w = outside []
next_by f l (keeps_limit a y s) w =
    then (answered (counted (looked_up a w) s) w) (λ x w.
    then (written a x w) (λ u w.
    then (answered (counts_on x y s) w) (λ goes w. back_if f l goes w)))
next_by f l (keeps_value v) w = outside []
next_by f l (keeps_address a) w = outside []

-- a Next whose For never kept its limits has no meaning
abbrev pub next_does : NetFrame → NetLine → Does NetFrame
next_does f l w = some_of l.aims.own (λ head w. next_by f l (f.kept head) w) w

-- ---- With

-- a structure that is no variable is kept in a place of its own
abbrev pub structure_kept : Address → Does Address
structure_kept (root shape q) w = gives [] (root shape q) w
structure_kept (item shape k j names) w = gives [] (item shape k j names) w
structure_kept (constant shape v) w = made_with shape v w
structure_kept nowhere w = outside []

-- A With keeps the address of a structure, or its object with its class. Another value is kept too, though it has no members.
abbrev pub with_kept : Shape → Address → Does Address
with_kept (structured home m fs) a w = structure_kept a w
with_kept (class home) a w = gives [] (constant (class home) (looked_up a w)) w
with_kept (scalar ty) a w = gives [] (constant (scalar ty) (looked_up a w)) w
with_kept (array element rank) a w = gives [] (constant (array element rank) (looked_up a w)) w
with_kept shapeless a w = gives [] nowhere w

-- ---- Exit

abbrev pub cleared : Bool → Memory → Memory
cleared true w = set_err 0 w
cleared false w = w

-- an Exit Sub, Function or Property clears the Err number
abbrev pub exit_does : NetFrame → NetLine → NetExit → Does NetFrame
exit_does f l what w = at_some f (exit_to l.aims (exit_kind what)) (cleared (leaves what) w)

-- ---- errors

abbrev pub handler_set : NetFrame → NetLine → Handler → Does NetFrame
handler_set f l h w = gives [] (with_handler h l.aims.after f) (set_err 0 w)

-- ---- forms

-- what a line does in its scope, as a line of the procedure p
abbrev pub form_does : NetMachine → Jobs → (p : ℕ) → Code → Scope → NetFrame → NetLine → net.Line → Does NetFrame
-- a comment is no code line
form_does machine oracle p c S f l (net.comment units) w = outside []
form_does machine oracle p c S f l (net.assign target e) w = on_to f l (assignment S oracle target e w)
-- a call as a line: what it gives is let go of
form_does machine oracle p c S f l (net.call callee args) w =
    on_to f l (then (address_of S oracle (call_of callee args) w) (λ a w. gives [] tt w))
form_does machine oracle p c S f l (net.if_head e) w = then (condition S oracle e w) (if_holds f l)
form_does machine oracle p c S f l (net.else_if e) w = then (condition S oracle e w) (if_holds f l)
form_does machine oracle p c S f l net.else_line w = gives [] (to_line l.aims.after f) w
form_does machine oracle p c S f l net.end_if w = gives [] (to_line l.aims.after f) w
form_does machine oracle p c S f l (net.select e) w =
    then (value_of S oracle e w) (λ v w. gives [] (keeping (keeps_value v) l.aims.after f) w)
form_does machine oracle p c S f l (net.case_line items) w = case_does S oracle f l items w
form_does machine oracle p c S f l net.case_else w = gives [] (to_line l.aims.after f) w
form_does machine oracle p c S f l net.end_select w = gives [] (to_line l.aims.after f) w
form_does machine oracle p c S f l (net.for_head counter start limit step) w = for_does S oracle f l counter start limit step w
form_does machine oracle p c S f l net.next w = next_does f l w
form_does machine oracle p c S f l net.do_head w = gives [] (to_line l.aims.after f) w
form_does machine oracle p c S f l (net.do_while e) w = then (condition S oracle e w) (if_holds f l)
form_does machine oracle p c S f l (net.do_until e) w = then (condition S oracle e w) (if_fails f l)
form_does machine oracle p c S f l net.loop w = at_some f l.aims.back w
form_does machine oracle p c S f l (net.loop_while e) w = then (condition S oracle e w) (back_if f l)
form_does machine oracle p c S f l (net.loop_until e) w = then (condition S oracle e w) (back_unless f l)
form_does machine oracle p c S f l (net.while_head e) w = then (condition S oracle e w) (if_holds f l)
form_does machine oracle p c S f l net.end_while w = at_some f l.aims.back w
form_does machine oracle p c S f l (net.with_head e) w =
    then (address_of S oracle e w) (λ a w. then (with_kept (shape_at a) a w) (λ b w. gives [] (keeping (keeps_address b) l.aims.after f) w))
form_does machine oracle p c S f l net.end_with w = gives [] (to_line l.aims.after f) w
-- a label that doesn't stand in the procedure has no meaning
form_does machine oracle p c S f l (net.goto at) w = at_some f (target_of c at) w
form_does machine oracle p c S f l (net.label at) w = gives [] (to_line l.aims.after f) w
form_does machine oracle p c S f l (net.on_error_goto at) w = some_of (target_of c at) (λ n w. handler_set f l (at_line n) w) w
form_does machine oracle p c S f l net.on_error_goto_zero w = handler_set f l none w
form_does machine oracle p c S f l net.on_error_resume_next w = handler_set f l next_line w
form_does machine oracle p c S f l net.resume w = resume machine p f w
form_does machine oracle p c S f l net.resume_next w = resume_next machine p f w
form_does machine oracle p c S f l (net.resume_at at) w = some_of (target_of c at) (λ n w. resume_at machine n f w) w
form_does machine oracle p c S f l (net.exit what) w = exit_does f l what w
form_does machine oracle p c S f l (net.redim preserve items) w = on_to f l (redim_all S oracle preserve items w)

-- a number that no procedure has
abbrev pub line_in : Project → NetMachine → Jobs → (p : ℕ) → NetFrame → NetLine → Option Code → Does NetFrame
line_in N machine oracle p f l None w = outside []
line_in N machine oracle p f l (Some c) w = form_does machine oracle p c (scope_of N c f l) f l l.form w

-- what a line of the procedure p does
abbrev pub line_does : Project → NetMachine → Jobs → (p : ℕ) → NetFrame → NetLine → Does NetFrame
line_does N machine oracle p f l w = line_in N machine oracle p f l (code_at N p) w
