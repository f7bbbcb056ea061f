-- What code lines do, one clause for each form: each says the frame that goes on.
use Rattle.std.specs.Prelude.{ℕ, ℤ, Bool, List, Option, Some, None, true, false, cond, pos, length, map, nat_lt, slice_get, [], ◌∷◌, ◌++◌, ◌^◌}
use Rattle.vb_tree.specs.BoundTree.{Ty, user}
use Rattle.vb_tree.specs.declared.bound.Op6.TheVariants as row
use Rattle.vb_tree.specs.declared.expression.BinOp.{BinOp}
use Rattle.vb_tree.specs.declared.expression.BinOp.TheVariants as b
use Rattle.vb_tree.specs.declared.form_parts.ExitKind.{ExitKind}
use Rattle.vb_tree.specs.declared.form_parts.ExitKind.TheVariants as leaving
use Rattle.vb_tree.specs.declared.form_parts.Label6.{Label6}
use Rattle.vb_tree.specs.declared.value.Value6.{Value6}
use Rattle.vb_tree.specs.declared.value.Value6.TheVariants as v
use Rattle.vb_tree.specs.Tree.{CaseItem, case_value, case_range, case_is}
use Rattle.vb_tree.specs.Tree as source
use Rattle.bound_tree.specs.Labels.{label_of, label_at, labels}
use Rattle.bound_tree.specs.Targets.{exit_to}
use Rattle.bound_tree.specs.Tree.{Expr, typed, Object, Passed, call}
use Rattle.bound_tree.specs.Tree as tree
use Rattle.bound_facts.specs.Bounds.{home_base}
use Rattle.bound_facts.specs.Node.{type_at}
use Rattle.bound_facts.specs.Parts.{Extent, Resize}
use Rattle.vb6_meaning.specs.Answers.{Answer, then_answer}
use Rattle.vb6_meaning.specs.Answers as answer
use Rattle.vb6_meaning.specs.NumberTexts.{print_text}
use Rattle.vb6_meaning.specs.Values.{coerce, operate, typed as typed_row}
use Rattle.run_base.specs.Frames.{by_value, Handler, Kept, keeps_nothing, keeps_limit, keeps_value, keeps_address, to_line, keeping, with_handler}
use Rattle.vb6_run.specs.Values.{Value, scalar, fields, elements, Dimension}
use Rattle.vb6_run.specs.Arrays.{has_lows, new_dimension, resize}
use Rattle.vb6_run.specs.Expressions.{Context, declared, finished, scalar_of, whole_number, type_shape, lows_at, entered, term_parts, receiver_of, args_of, value_of, scalar_value, address_of}
use Rattle.run_base.specs.Outcomes.{printed, line_end, Outcome, gives, outside, then, answered, some_of}
use Rattle.vb6_run.specs.Store.{Address, root, item, constant, Memory, Does, SourceFrame, set_err, provided, read, write, make_with}

-- ---- where a line leads

abbrev pub goes_to : Context → (line : ℕ) → Does SourceFrame
goes_to C n w = gives [] (to_line n C.frame) w

-- the line behind it, where control goes on
abbrev pub goes_on : Context → Does SourceFrame
goes_on C w = goes_to C C.aims.after w

-- What lies outside: a line that leads nowhere, such as an Exit For outside of a For.
abbrev pub goes_if : Context → Option ℕ → Does SourceFrame
goes_if C n w = some_of n (λ n w. goes_to C n w) w

-- goes on when something is done
abbrev pub when_done : {A : Type 0} → Context → Outcome Memory A → Outcome Memory SourceFrame
when_done C r = then r (λ x w. goes_on C w)

-- What lies outside: another value where a condition is wanted.
abbrev pub branch : Context → (holding failing : Option ℕ) → Value6 → Does SourceFrame
branch C m n (v.Boolean true) w = goes_if C m w
branch C m n (v.Boolean false) w = goes_if C n w
branch C m n x w = outside []

-- ---- the expressions of a line

-- What lies outside: a line whose expressions aren't those of its form.
abbrev pub with_one : {A : Type 0} → List Expr → (Expr → Does A) → Does A
with_one (e ∷ []) go w = go e w
with_one es go w = outside []

abbrev pub with_two : {A : Type 0} → List Expr → (Expr → Expr → Does A) → Does A
with_two (d ∷ e ∷ []) go w = go d e w
with_two es go w = outside []

-- a condition with the lines where it holds and where it doesn't
abbrev pub condition : Context → (holding failing : Option ℕ) → List Expr → Does SourceFrame
condition C m n es w = with_one es (λ e w. then (scalar_value C e w) (branch C m n)) w

-- ---- assignments

-- What lies outside: an array that is given other lower bounds than its ties give it.
abbrev pub keeps_lows : Context → (target : Expr) → Value → Bool
keeps_lows C to (scalar ty x) = true
keeps_lows C to (fields t xs) = true
keeps_lows C to (elements e dims xs) = has_lows (lows_at C to) dims

abbrev pub store_at : Context → (target : Expr) → Value → Address → Does Unit
store_at C to x a w = provided (keeps_lows C to x) (write C.frame.env x a) w

-- the part of a property that takes a value has it as its last argument
abbrev pub set_property : Context → (procedure : ℕ) → Object → Passed → Value → Does Unit
set_property C p of args x w =
    then (receiver_of C of w) (λ r w. then (args_of C p 0 args w) (λ gs w.
    then (entered C p r (gs ++ (by_value x ∷ [])) w) (λ y w. gives [] tt w)))

-- an assignment, whose value is known
abbrev pub let_to : Context → (target : Expr) → Value → Does Unit
let_to C (typed ty (call p qualified of args)) x w = set_property C p.0 of args x w
let_to C (typed ty t) x w = then (address_of C (typed ty t) w) (store_at C (typed ty t) x)

-- a Set, whose target makes no object
abbrev pub set_to : Context → (target : Expr) → Value → Does Unit
set_to C (typed ty (call p qualified of args)) x w = set_property C p.0 of args x w
set_to C (typed ty t) x w = then (then (term_parts C ty t w) finished) (store_at C (typed ty t) x)

-- ---- Debug.Print

abbrev pub item_text : Context → Expr → Does (List ℕ)
item_text C e w = then (scalar_value C e w) (λ x w. answered (print_text x) w)

abbrev pub items_text : Context → List Expr → Does (List ℕ)
items_text C [] w = gives [] [] w
items_text C (e ∷ es) w = then (item_text C e w) (λ s w. then (items_text C es w) (λ rest w. gives [] (s ++ rest) w))

abbrev pub behind_print : (ended : Bool) → List ℕ
behind_print true = []
behind_print false = line_end

-- What lies outside: a text of more than 2,147,483,647 units.
abbrev pub print : (ended : Bool) → List ℕ → Does Unit
print ended s w = cond (nat_lt (length s) (2 ^ 31)) (gives (printed (s ++ behind_print ended) ∷ []) tt w) (outside [])

-- ---- Select Case

-- What lies outside: a comparison that gives no Boolean.
abbrev pub truth_of : Value6 → Does Bool
truth_of (v.Boolean t) w = gives [] t w
truth_of x w = outside []

abbrev pub fits : BinOp → (choice item : Value6) → Does Bool
fits op x y w = then (answered (operate (row.Typed op) x y) w) truth_of

abbrev pub or_later : Bool → Does Bool → Does Bool
or_later true later w = gives [] true w
or_later false later w = later w

abbrev pub and_later : Bool → Does Bool → Does Bool
and_later true later w = later w
and_later false later w = gives [] false w

abbrev pub item_fits : Context → BinOp → (choice : Value6) → Expr → Does Bool
item_fits C op x e w = then (scalar_value C e w) (fits op x)

-- The items of a Case from the left, up to the first that fits. The upper bound of a range is evaluated where the lower one fits.
abbrev pub some_fits : Context → (choice : Value6) → List CaseItem → List Expr → Does Bool
some_fits C x [] [] w = gives [] false w
some_fits C x (case_value y ∷ items) (e ∷ es) w = then (item_fits C b.Equal x e w) (λ t w. or_later t (some_fits C x items es) w)
some_fits C x (case_range y z ∷ items) (d ∷ e ∷ es) w =
    then (then (item_fits C b.GreaterEqual x d w) (λ t w. and_later t (item_fits C b.LessEqual x e) w)) (λ t w. or_later t (some_fits C x items es) w)
some_fits C x (case_is op y ∷ items) (e ∷ es) w = then (item_fits C op x e w) (λ t w. or_later t (some_fits C x items es) w)
some_fits C x items es w = outside []

abbrev pub chosen : Context → Bool → Does SourceFrame
chosen C true w = goes_on C w
chosen C false w = goes_if C C.aims.otherwise w

-- What lies outside: a Case whose Select hasn't kept a value.
abbrev pub case_of : Context → List CaseItem → List Expr → Kept Value Address → Does SourceFrame
case_of C items es keeps_nothing w = outside []
case_of C items es (keeps_limit a limit step) w = outside []
case_of C items es (keeps_value x) w = then (then (scalar_of x w) (λ x w. some_fits C x items es w)) (chosen C)
case_of C items es (keeps_address a) w = outside []

-- ---- For

-- whether a counter has passed its limit in the direction of its step
abbrev pub passed_by : (is_down : Value6) → (counter limit : Value6) → Answer Value6
passed_by (v.Boolean true) x y = typed_row b.Less x y
passed_by (v.Boolean false) x y = typed_row b.Greater x y
passed_by z x y = answer.outside

abbrev pub has_passed : (step counter limit : Value6) → Answer Value6
has_passed s x y = then_answer (typed_row b.Less s (v.Int (pos 0))) (λ z. passed_by z x y)

-- where a For goes by its counter
abbrev pub counted : Context → (inside behind : Option ℕ) → (counter limit step : Value) → Does SourceFrame
counted C inside behind x y s w =
    then (scalar_of x w) (λ x w. then (scalar_of y w) (λ y w. then (scalar_of s w) (λ s w.
    then (answered (has_passed s x y) w) (branch C behind inside))))

abbrev pub keeping_limit : Context → Address → (limit step : Value) → Context
keeping_limit C a y s = record C { frame = keeping (keeps_limit a y s) C.frame.line C.frame }

-- the limits are evaluated before the counter is assigned
abbrev pub for_from : Context → (counter : Expr) → (start limit step : Value) → Does SourceFrame
for_from C e x y s w = then (address_of C e w) (λ a w. then (write C.frame.env x a w) (λ u w.
    counted (keeping_limit C a y s) (Some C.aims.after) C.aims.otherwise x y s w))

-- a step of 1 where none is written, in the type of the counter
abbrev pub step_of : Context → (counter : Expr) → List Expr → Does Value
step_of C e [] w = then (answered (coerce (v.Int (pos 1)) (type_at e)) w) (λ x w. gives [] (scalar (type_at e) x) w)
step_of C e (s ∷ []) w = value_of C s w
step_of C e (s ∷ t ∷ es) w = outside []

abbrev pub for_does : Context → List Expr → Does SourceFrame
for_does C (e ∷ start ∷ limit ∷ es) w =
    then (value_of C start w) (λ x w. then (value_of C limit w) (λ y w. then (step_of C e es w) (λ s w. for_from C e x y s w)))
for_does C es w = outside []

-- a counter and its step, by the row of their operator
abbrev pub sum_of : Value → Value → Does Value
sum_of (scalar ty x) (scalar t y) w = then (answered (typed_row b.Add x y) w) (λ z w. gives [] (scalar ty z) w)
sum_of x y w = outside []

-- Next adds the step, and goes back while the limit isn't passed. What lies outside: a Next whose For hasn't kept its limit.
abbrev pub next_of : Context → Kept Value Address → Does SourceFrame
next_of C keeps_nothing w = outside []
next_of C (keeps_limit a y s) w = then (read a w) (λ x w. then (sum_of x s w) (λ x w. then (write C.frame.env x a w) (λ u w.
    counted C C.aims.back (Some C.aims.after) x y s w)))
next_of C (keeps_value x) w = outside []
next_of C (keeps_address a) w = outside []

-- ---- With

abbrev pub keeps_at : Context → Kept Value Address → Does SourceFrame
keeps_at C k w = gives [] (keeping k C.aims.after C.frame) w

-- the user type that a procedure gives has a place of its own
abbrev pub with_address : Context → Ty → Address → Does SourceFrame
with_address C ty (root s q) w = keeps_at C (keeps_address (root s q)) w
with_address C ty (item e q j path) w = keeps_at C (keeps_address (item e q j path)) w
with_address C ty (constant x) w = then (make_with (type_shape (declared C) ty) x w) (λ a w. keeps_at C (keeps_address a) w)

-- With keeps the address of a user type, or the value of its expression: an object, be it Nothing, or another value, which has no members.
abbrev pub with_does : Context → Expr → Ty → Does SourceFrame
with_does C e (user t) w = then (address_of C e w) (with_address C (user t))
with_does C e ty w = then (value_of C e w) (λ x w. keeps_at C (keeps_value x) w)

-- ---- ReDim

abbrev pub low_of : Context → Option Expr → Does ℤ
low_of C None w = gives [] (home_base (declared C) (slice_get (declared C).procs C.procedure)) w
low_of C (Some e) w = then (scalar_value C e w) whole_number

-- the bounds of each dimension from the left, each checked when its upper bound is known
abbrev pub dimensions_of : Context → List Extent → Does (List Dimension)
dimensions_of C [] w = gives [] [] w
dimensions_of C (x ∷ xs) w =
    then (low_of C x.0 w) (λ low w. then (then (scalar_value C x.1 w) whole_number) (λ high w. then (new_dimension low high w) (λ d w.
    then (dimensions_of C xs w) (λ ds w. gives [] (d ∷ ds) w))))

-- the arrays from the left, each made before the bounds of the next one
abbrev pub redim_does : Context → (preserve : Bool) → List Resize → Does Unit
redim_does C preserve [] w = gives [] tt w
redim_does C preserve (r ∷ rs) w =
    then (dimensions_of C r.extents w) (λ dims w. then (address_of C r.array w) (λ a w.
    then (resize C.frame.env (lows_at C r.array) preserve dims a w) (λ u w. redim_does C preserve rs w)))

-- ---- jumps and errors

abbrev pub source_lines : List tree.Line → List source.Line
source_lines lines = map (λ l. l.source) lines

abbrev pub lines_in : Option (List tree.Line) → List source.Line
lines_in None = []
lines_in (Some lines) = source_lines lines

abbrev pub line_of_label : Context → Label6 → Option ℕ
line_of_label C l = label_at (labels (lines_in (slice_get C.runnable.program.bodies C.procedure))) (label_of l)

-- What lies outside: a label that isn't in the procedure.
abbrev pub to_label : {A : Type 0} → Context → Label6 → (ℕ → Does A) → Does A
to_label C l go w = some_of (line_of_label C l) go w

-- On Error clears Err and leaves the active flag
abbrev pub handles_by : Context → Handler → Does SourceFrame
handles_by C h w = gives [] (with_handler h C.aims.after C.frame) (set_err 0 w)

-- Exit Sub, Function and Property clear Err
abbrev pub exit_does : Context → ExitKind → Does SourceFrame
exit_does C leaving.Sub w = goes_if C (exit_to C.aims leaving.Sub) (set_err 0 w)
exit_does C leaving.Function w = goes_if C (exit_to C.aims leaving.Function) (set_err 0 w)
exit_does C leaving.Property w = goes_if C (exit_to C.aims leaving.Property) (set_err 0 w)
exit_does C leaving.For w = goes_if C (exit_to C.aims leaving.For) w
exit_does C leaving.Do w = goes_if C (exit_to C.aims leaving.Do) w
