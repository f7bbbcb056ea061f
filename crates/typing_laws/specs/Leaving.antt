-- When a computation leaves what the tables of values have, what arrays may be, or the lines of its procedure. Of covered expressions, lines
-- and runs that are flat these are the only ways to lie outside. What calls do that leave is told by X.
use Rattle.std.specs.Prelude.{◌≡◌, ℕ, zero, suc, ℤ, pos, negsuc, ◌-ℤ◌, Bool, true, false, ◌&&◌, nat_lt, List, [], ◌∷◌, Option, Some, None, slice_get}
use Rattle.std.specs.List.{list_all}
use Rattle.vb_tree.specs.BoundTree.{Ty}
use Rattle.vb_tree.specs.declared.bound.LibCall.{LibCall}
use Rattle.vb_tree.specs.declared.bound.LibCall.TheVariants as lib
use Rattle.vb_tree.specs.declared.declared.ProcId.{ProcId}
use Rattle.vb_tree.specs.declared.declared.VarId.{VarId}
use Rattle.vb_tree.specs.declared.expression.BinOp.{BinOp}
use Rattle.vb_tree.specs.declared.expression.BinOp.TheVariants as b
use Rattle.vb_tree.specs.declared.expression.UnOp.{UnOp}
use Rattle.vb_tree.specs.declared.form_parts.ExitKind.{ExitKind}
use Rattle.vb_tree.specs.declared.form_parts.Label6.{Label6}
use Rattle.vb_tree.specs.declared.token.Suffix.{Suffix}
use Rattle.vb_tree.specs.declared.value.Value6.{Value6}
use Rattle.vb_tree.specs.declared.value.Value6.TheVariants as values
use Rattle.vb_tree.specs.Tree.{Args, CaseItem, Exp, Form, ReDimItem, case_value, case_range, case_is}
use Rattle.vb_tree.specs.Tree as source
use Rattle.bound_tree.specs.Targets.{exit_to}
use Rattle.bound_tree.specs.Tree.{Variable, Expr, typed, variable, element, call, library, unary, binary, convert, err_number, err_raise, Object, Exprs, no_exprs, next_expr, Argument, Passed, no_passed, next_passed}
use Rattle.bound_tree.specs.Tree as tree
use Rattle.bound_facts.specs.Parts.{Extent, Resize, resizes}
use Rattle.run_base.specs.Frames.{next_line, keeps_nothing, keeps_value}
use Rattle.run_base.specs.Machines.{enters, runs, line_at, go, handled}
use Rattle.run_base.specs.Outcomes.{Output, gives, raises, first_input}
use Rattle.vb6_run.specs.Expressions.{Context, declared, scalar_value, value_of, address_of, dimension_in, indexes_of, lows_at, argument_of, args_of, values_of, has_byte}
use Rattle.vb6_run.specs.Forms.{SourceLine}
use Rattle.vb6_run.specs.Lines.{dimensions_of, low_of, redim_does, item_text, items_text, item_fits, line_of_label}
use Rattle.vb6_run.specs.Programs.{entered_as, line_does, machine_of}
use Rattle.vb6_run.specs.Runnables.{Runnable, declarations_of, variable_address}
use Rattle.vb6_run.specs.Shapes.{Shape, variable_shape}
use Rattle.vb6_run.specs.Arrays.{bound_at, dynamic_array, has_lows, have_long_lows, is_long, takes_indexes, upper}
use Rattle.run_base.specs.Positions.{Position}
use Rattle.run_matches.specs.CoveredExprs.{is_bound}
use Rattle.vb6_run.specs.Store.{Address, root, table, Memory, Locked, SourceFrame, SourceGiven}
use Rattle.vb6_run.specs.Values.{Dimension, Value, Values, is_makeable, is_small, is_within_limits, scalar}
use Rattle.run_matches.specs.CoveredVariables.{belongs_to}
use Rattle.typing_laws.specs.Calls.{SourceJob}
use Rattle.typing_laws.specs.Edges.{IsEdge, IsLibraryEdge, IsTooLong}
use Rattle.typing_laws.specs.Frames.{IsGone, IsTypedFrame, anywhere}

-- ---- expressions

-- a number that Err.Raise takes
abbrev pub is_error_number : ℤ → Bool
is_error_number (pos n) = nat_lt 0 n && nat_lt n 65536
is_error_number (negsuc n) = false

abbrev pub passed_value : Argument → Expr
passed_value (tree.by_value e) = e
passed_value (tree.by_reference e) = e

-- an array that is named, with the dimensions that it has then or later
pub record IsNamed (C : Context) (a : Expr) (w v : Memory) (dims : List Dimension) : Type 0 where
  pub shape : Shape
  pub place : Position
  pub element : Shape
  pub values : Values
  pub named : address_of C a w ≡ gives [] (root shape place) w
  pub holds : v.held place ≡ table element dims values

mutual
  -- an operator or a call of the library at an edge of its row, an input that has no text, an Err number that no error has, Err.Raise of a
  -- number that is none of an error, an array that isn't as its ties and its indexes want it, or a call that leaves, in the expression or
  -- in a part of it that is reached
  pub data Leaves (C : Context) (X : SourceJob → Memory → Type 0) : Expr → Memory → Type 0 where
    at_operator :
        (ty : Ty) (op : BinOp) (d e : Expr) (w v u : Memory) (o p : List Output) (x y : Value6) → scalar_value C d w ≡ gives o x v
        → scalar_value C e v ≡ gives p y u → IsEdge op x y → Leaves C X (typed ty (binary op d e)) w
    in_left : (ty : Ty) (op : BinOp) (d e : Expr) (w : Memory) → Leaves C X d w → Leaves C X (typed ty (binary op d e)) w
    in_right :
        (ty : Ty) (op : BinOp) (d e : Expr) (w v : Memory) (o : List Output) (x : Value6) → scalar_value C d w ≡ gives o x v → Leaves C X e v
        → Leaves C X (typed ty (binary op d e)) w
    in_operand : (ty : Ty) (op : UnOp) (e : Expr) (w : Memory) → Leaves C X e w → Leaves C X (typed ty (unary op e)) w
    in_converted : (ty to : Ty) (e : Expr) (w : Memory) → Leaves C X e w → Leaves C X (typed ty (convert to e)) w
    in_library : (ty : Ty) (f : LibCall) (args : Exprs) (w : Memory) → ExprsLeave C X args w → Leaves C X (typed ty (library f args)) w
    at_library :
        (ty : Ty) (f : LibCall) (e : Expr) (rest : Exprs) (w v u : Memory) (o p : List Output) (x : Value6) (xs : List Value6)
        → scalar_value C e w ≡ gives o x v → values_of C rest v ≡ gives p xs u → IsLibraryEdge f (x ∷ xs)
        → Leaves C X (typed ty (library f (next_expr e rest))) w
    at_input :
        (ty : Ty) (e : Expr) (rest : Exprs) (w v : Memory) (o : List Output) (s : List ℕ) → scalar_value C e w ≡ gives o (values.Str s) v
        → list_all has_byte (first_input v.inputs) ≡ false → Leaves C X (typed ty (library lib.InputBox (next_expr e rest))) w
    in_arguments :
        (ty : Ty) (p : ProcId) (qualified : Bool) (object : Object) (args : Passed) (w : Memory) → PassedLeave C X p.0 0 args w
        → Leaves C X (typed ty (call p qualified object args)) w
    at_call :
        (ty : Ty) (p : ProcId) (qualified : Bool) (object : Object) (args : Passed) (w v : Memory) (o : List Output) (gs : List SourceGiven)
        → args_of C p.0 0 args w ≡ gives o gs v → X (enters p.0 C.frame.me C.frame.env gs) v → Leaves C X (typed ty (call p qualified object args)) w
    -- an element that the array has no longer, in the place of a parameter that is bound to it
    at_gone :
        (ty : Ty) (x : VarId) (qualified : Bool) (w : Memory) (a : Address) → variable_address (declared C) C.frame x.0 ≡ Some a → IsGone a w
        → Leaves C X (typed ty (variable x qualified)) w
    in_indexes :
        (ty : Ty) (a : Expr) (indexes : Exprs) (w : Memory) → ExprsLeave C X indexes w → Leaves C X (typed ty (element a indexes)) w
    -- an element of an array with other lower bounds than its ties give it
    other_lows :
        (ty : Ty) (a : Expr) (indexes : Exprs) (w v : Memory) (o : List Output) (zs : List ℤ) (dims : List Dimension)
        → indexes_of C indexes w ≡ gives o zs v → IsNamed C a w v dims → has_lows (lows_at C a) dims ≡ false → Leaves C X (typed ty (element a indexes)) w
    -- an element of an array with a lower bound that is no Long
    low_past_long :
        (ty : Ty) (a : Expr) (indexes : Exprs) (w v : Memory) (o : List Output) (zs : List ℤ) (dims : List Dimension)
        → indexes_of C indexes w ≡ gives o zs v → IsNamed C a w v dims → have_long_lows dims ≡ false → Leaves C X (typed ty (element a indexes)) w
    -- an element by another number of indexes than the array has
    other_rank :
        (ty : Ty) (a : Expr) (indexes : Exprs) (w v : Memory) (o : List Output) (zs : List ℤ) (dims : List Dimension)
        → indexes_of C indexes w ≡ gives o zs v → IsNamed C a w v dims → takes_indexes dims zs ≡ false → Leaves C X (typed ty (element a indexes)) w
    -- UBound or LBound of a dimension that is no constant from 1 on
    no_dimension :
        (ty : Ty) (f : LibCall) (a : Expr) (rest : Exprs) (w : Memory) → is_bound f ≡ true → dimension_in rest ≡ None
        → Leaves C X (typed ty (library f (next_expr a rest))) w
    -- of an array with other lower bounds than its ties give it
    bound_by_other_lows :
        (ty : Ty) (f : LibCall) (a : Expr) (rest : Exprs) (w : Memory) (dims : List Dimension) → is_bound f ≡ true → IsNamed C a w w dims
        → has_lows (lows_at C a) dims ≡ false → Leaves C X (typed ty (library f (next_expr a rest))) w
    -- of an array with a lower bound that is no Long
    bound_by_past_long :
        (ty : Ty) (f : LibCall) (a : Expr) (rest : Exprs) (w : Memory) (dims : List Dimension) → is_bound f ≡ true → IsNamed C a w w dims
        → have_long_lows dims ≡ false → Leaves C X (typed ty (library f (next_expr a rest))) w
    -- of a dimension above the rank
    above_rank :
        (ty : Ty) (f : LibCall) (a : Expr) (rest : Exprs) (w : Memory) (k : ℕ) (dims : List Dimension) → is_bound f ≡ true → IsNamed C a w w dims
        → dimension_in rest ≡ Some k → slice_get dims k ≡ None → Leaves C X (typed ty (library f (next_expr a rest))) w
    -- an upper bound that is no Long
    high_past_long :
        (ty : Ty) (a : Expr) (rest : Exprs) (w : Memory) (k : ℕ) (dims : List Dimension) (d : Dimension) → IsNamed C a w w dims
        → dimension_in rest ≡ Some k → slice_get dims k ≡ Some d → is_long (bound_at upper d) ≡ false
        → Leaves C X (typed ty (library lib.UBound (next_expr a rest))) w
    at_err_number : (ty : Ty) (w : Memory) → nat_lt w.err 65536 ≡ false → Leaves C X (typed ty err_number) w
    in_raised : (ty : Ty) (e : Expr) (w : Memory) → Leaves C X e w → Leaves C X (typed ty (err_raise e)) w
    at_raised :
        (ty : Ty) (e : Expr) (w v : Memory) (o : List Output) (z : ℤ) → scalar_value C e w ≡ gives o (values.Long z) v → is_error_number z ≡ false
        → Leaves C X (typed ty (err_raise e)) w

  -- one of the arguments of a call of the library, where those before it have values
  pub data ExprsLeave (C : Context) (X : SourceJob → Memory → Type 0) : Exprs → Memory → Type 0 where
    in_first : (e : Expr) (rest : Exprs) (w : Memory) → Leaves C X e w → ExprsLeave C X (next_expr e rest) w
    in_later :
        (e : Expr) (rest : Exprs) (w v : Memory) (o : List Output) (x : Value6) → scalar_value C e w ≡ gives o x v → ExprsLeave C X rest v
        → ExprsLeave C X (next_expr e rest) w

  -- one of the arguments of a call, from the one at a place on
  pub data PassedLeave (C : Context) (X : SourceJob → Memory → Type 0) : (procedure place : ℕ) → Passed → Memory → Type 0 where
    in_argument :
        (p i : ℕ) (a : Argument) (rest : Passed) (w : Memory) → Leaves C X (passed_value a) w → PassedLeave C X p i (next_passed a rest) w
    behind_argument :
        (p i : ℕ) (a : Argument) (rest : Passed) (w v : Memory) (o : List Output) (g : SourceGiven)
        → argument_of C (C.runnable.quiet p i) a w ≡ gives o g v → PassedLeave C X p (suc i) rest v → PassedLeave C X p i (next_passed a rest) w

-- ---- parts of lines

-- one of the items of a print, where those before it have texts
pub data ItemsLeave (C : Context) (X : SourceJob → Memory → Type 0) : List Expr → Memory → Type 0 where
  in_item : (e : Expr) (es : List Expr) (w : Memory) → Leaves C X e w → ItemsLeave C X (e ∷ es) w
  behind_item :
      (e : Expr) (es : List Expr) (w v : Memory) (o : List Output) (s : List ℕ) → item_text C e w ≡ gives o s v → ItemsLeave C X es v
      → ItemsLeave C X (e ∷ es) w

-- one of the items of a Case that is reached for a choice
pub data CaseLeaves (C : Context) (X : SourceJob → Memory → Type 0) (x : Value6) : List CaseItem → List Expr → Memory → Type 0 where
  in_value :
      (y : Exp) (items : List CaseItem) (e : Expr) (es : List Expr) (w : Memory) → Leaves C X e w → CaseLeaves C X x (case_value y ∷ items) (e ∷ es) w
  behind_value :
      (y : Exp) (items : List CaseItem) (e : Expr) (es : List Expr) (w v : Memory) (o : List Output) → item_fits C b.Equal x e w ≡ gives o false v
      → CaseLeaves C X x items es v → CaseLeaves C X x (case_value y ∷ items) (e ∷ es) w
  in_lower :
      (y z : Exp) (items : List CaseItem) (d e : Expr) (es : List Expr) (w : Memory) → Leaves C X d w
      → CaseLeaves C X x (case_range y z ∷ items) (d ∷ e ∷ es) w
  in_upper :
      (y z : Exp) (items : List CaseItem) (d e : Expr) (es : List Expr) (w v : Memory) (o : List Output)
      → item_fits C b.GreaterEqual x d w ≡ gives o true v → Leaves C X e v → CaseLeaves C X x (case_range y z ∷ items) (d ∷ e ∷ es) w
  below_range :
      (y z : Exp) (items : List CaseItem) (d e : Expr) (es : List Expr) (w v : Memory) (o : List Output)
      → item_fits C b.GreaterEqual x d w ≡ gives o false v → CaseLeaves C X x items es v → CaseLeaves C X x (case_range y z ∷ items) (d ∷ e ∷ es) w
  above_range :
      (y z : Exp) (items : List CaseItem) (d e : Expr) (es : List Expr) (w v u : Memory) (o p : List Output)
      → item_fits C b.GreaterEqual x d w ≡ gives o true v → item_fits C b.LessEqual x e v ≡ gives p false u → CaseLeaves C X x items es u
      → CaseLeaves C X x (case_range y z ∷ items) (d ∷ e ∷ es) w
  in_comparison :
      (op : BinOp) (y : Exp) (items : List CaseItem) (e : Expr) (es : List Expr) (w : Memory) → Leaves C X e w
      → CaseLeaves C X x (case_is op y ∷ items) (e ∷ es) w
  behind_comparison :
      (op : BinOp) (y : Exp) (items : List CaseItem) (e : Expr) (es : List Expr) (w v : Memory) (o : List Output) → item_fits C op x e w ≡ gives o false v
      → CaseLeaves C X x items es v → CaseLeaves C X x (case_is op y ∷ items) (e ∷ es) w

-- start, limit or step of a For, where those before it have values
pub data CountingLeaves (C : Context) (X : SourceJob → Memory → Type 0) : List Expr → Memory → Type 0 where
  in_start : (e start limit : Expr) (es : List Expr) (w : Memory) → Leaves C X start w → CountingLeaves C X (e ∷ start ∷ limit ∷ es) w
  in_limit :
      (e start limit : Expr) (es : List Expr) (w v : Memory) (o : List Output) (x : Value) → value_of C start w ≡ gives o x v → Leaves C X limit v
      → CountingLeaves C X (e ∷ start ∷ limit ∷ es) w
  in_step :
      (e start limit step : Expr) (w v u : Memory) (o p : List Output) (x y : Value) → value_of C start w ≡ gives o x v
      → value_of C limit v ≡ gives p y u → Leaves C X step u → CountingLeaves C X (e ∷ start ∷ limit ∷ step ∷ []) w

-- a bound of a ReDim, where those before it have values
pub data ExtentsLeave (C : Context) (X : SourceJob → Memory → Type 0) : List Extent → Memory → Type 0 where
  in_low : (e high : Expr) (xs : List Extent) (w : Memory) → Leaves C X e w → ExtentsLeave C X ((Some e, high) ∷ xs) w
  in_high :
      (low : Option Expr) (e : Expr) (xs : List Extent) (w v : Memory) (o : List Output) (z : ℤ) → low_of C low w ≡ gives o z v → Leaves C X e v
      → ExtentsLeave C X ((low, e) ∷ xs) w
  -- a lower bound that is no Long
  no_long_low :
      (low : Option Expr) (e : Expr) (xs : List Extent) (w v u : Memory) (o p : List Output) (z : ℤ) (x : Value6) → low_of C low w ≡ gives o z v
      → scalar_value C e v ≡ gives p x u → is_long z ≡ false → ExtentsLeave C X ((low, e) ∷ xs) w
  -- a dimension past the limits
  past_limit :
      (low : Option Expr) (e : Expr) (xs : List Extent) (w v u : Memory) (o p : List Output) (z h : ℤ) (n : ℕ) → low_of C low w ≡ gives o z v
      → scalar_value C e v ≡ gives p (values.Long h) u → h -ℤ z ≡ pos n → is_small (suc n) ≡ false → ExtentsLeave C X ((low, e) ∷ xs) w
  behind_extent :
      (low : Option Expr) (e : Expr) (xs : List Extent) (w v u : Memory) (o p : List Output) (z : ℤ) (x : Value6) → low_of C low w ≡ gives o z v
      → scalar_value C e v ≡ gives p x u → ExtentsLeave C X xs u → ExtentsLeave C X ((low, e) ∷ xs) w

-- one of the arrays of a ReDim, where those before it are made
pub data ResizesLeave (C : Context) (X : SourceJob → Memory → Type 0) (preserve : Bool) : List Resize → Memory → Type 0 where
  in_extents : (r : Resize) (rs : List Resize) (w : Memory) → ExtentsLeave C X r.extents w → ResizesLeave C X preserve (r ∷ rs) w
  -- a fixed array is made anew
  resizes_fixed :
      (r : Resize) (rs : List Resize) (w v : Memory) (o : List Output) (dims : List Dimension) (a : Address) → dimensions_of C r.extents w ≡ gives o dims v
      → address_of C r.array v ≡ gives [] a v → dynamic_array a ≡ None → ResizesLeave C X preserve (r ∷ rs) w
  -- with other lower bounds than its ties give it
  new_lows :
      (r : Resize) (rs : List Resize) (w v : Memory) (o : List Output) (dims : List Dimension) → dimensions_of C r.extents w ≡ gives o dims v
      → has_lows (lows_at C r.array) dims ≡ false → ResizesLeave C X preserve (r ∷ rs) w
  -- with more elements than an array may have
  too_large :
      (r : Resize) (rs : List Resize) (w v : Memory) (o : List Output) (dims : List Dimension) → dimensions_of C r.extents w ≡ gives o dims v
      → is_within_limits dims ≡ false → ResizesLeave C X preserve (r ∷ rs) w
  -- Preserve of an array of several dimensions
  preserves_several :
      (r : Resize) (rs : List Resize) (w v : Memory) (o : List Output) (dims : List Dimension) (c d : Dimension) (old : List Dimension) → preserve ≡ true
      → dimensions_of C r.extents w ≡ gives o dims v → IsNamed C r.array v v (c ∷ d ∷ old) → ResizesLeave C X preserve (r ∷ rs) w
  behind_array :
      (r : Resize) (rs : List Resize) (w v : Memory) (o : List Output) → redim_does C preserve (r ∷ []) w ≡ gives o tt v → ResizesLeave C X preserve rs v
      → ResizesLeave C X preserve (r ∷ rs) w

-- ---- lines

-- a line that goes by one condition
abbrev pub has_condition : Form → Bool
has_condition (source.if_head e) = true
has_condition (source.line_if e) = true
has_condition (source.else_if e) = true
has_condition (source.do_while e) = true
has_condition (source.do_until e) = true
has_condition (source.loop_while e) = true
has_condition (source.loop_until e) = true
has_condition (source.while_head e) = true
has_condition _ = false

-- the end of a loop that goes back to its head
abbrev pub goes_back : Form → Bool
goes_back source.loop = true
goes_back (source.loop_while e) = true
goes_back (source.loop_until e) = true
goes_back source.wend = true
goes_back _ = false

-- the label of a line that jumps, or will after an error
abbrev pub jumps_to : Form → Option Label6
jumps_to (source.goto l) = Some l
jumps_to (source.on_error_goto l) = Some l
jumps_to (source.resume_at l) = Some l
jumps_to _ = None

-- Resume and Resume Next
abbrev pub resumes : Form → Bool
resumes source.resume = true
resumes source.resume_next = true
resumes _ = false

-- An expression of the line leaves, a printed text is too long, an array can't be made anew or erased, or the line leads nowhere: the end of a
-- loop without its head, a Case or a Next whose head wasn't run, an Exit outside of its block, a jump to a label that isn't there, and a Resume to a head of a block.
pub data LineLeaves (C : Context) (X : SourceJob → Memory → Type 0) : Form → List Expr → Memory → Type 0 where
  in_assigned :
      (target value : Exp) (to e : Expr) (w : Memory) → Leaves C X e w → LineLeaves C X (source.assign target value) (to ∷ e ∷ []) w
  in_target :
      (target value : Exp) (to e : Expr) (w v : Memory) (o : List Output) (x : Value) → value_of C e w ≡ gives o x v → Leaves C X to v
      → LineLeaves C X (source.assign target value) (to ∷ e ∷ []) w
  in_items : (items : List Exp) (ended : Bool) (es : List Expr) (w : Memory) → ItemsLeave C X es w → LineLeaves C X (source.debug_print items ended) es w
  at_print :
      (items : List Exp) (ended : Bool) (es : List Expr) (w v : Memory) (o : List Output) (s : List ℕ) → items_text C es w ≡ gives o s v → IsTooLong s
      → LineLeaves C X (source.debug_print items ended) es w
  in_call : (callee : Exp) (e : Expr) (w : Memory) → Leaves C X e w → LineLeaves C X (source.call callee) (e ∷ []) w
  in_invoked :
      (callee : Exp) (args : Args) (e : Expr) (w : Memory) → Leaves C X e w → LineLeaves C X (source.invoke callee args) (e ∷ []) w
  in_condition : (f : Form) (e : Expr) (w : Memory) → has_condition f ≡ true → Leaves C X e w → LineLeaves C X f (e ∷ []) w
  in_choice : (choice : Exp) (e : Expr) (w : Memory) → Leaves C X e w → LineLeaves C X (source.select choice) (e ∷ []) w
  in_case :
      (items : List CaseItem) (es : List Expr) (w : Memory) (h : ℕ) (x : Value6) (ty : Ty) → C.aims.own ≡ Some h
      → C.frame.kept h ≡ keeps_value (scalar ty x) → CaseLeaves C X x items es w → LineLeaves C X (source.case_line items) es w
  in_counting :
      (counter start limit : Exp) (step : Option Exp) (es : List Expr) (w : Memory) → CountingLeaves C X es w
      → LineLeaves C X (source.for_head counter start limit step) es w
  in_redim :
      (preserve : Bool) (items : List ReDimItem) (es : List Expr) (w : Memory) → ResizesLeave C X preserve (resizes items es) w
      → LineLeaves C X (source.redim preserve items) es w
  -- a fixed array is erased
  erases_fixed :
      (target : Exp) (e : Expr) (w : Memory) (a : Address) → address_of C e w ≡ gives [] a w → dynamic_array a ≡ None
      → LineLeaves C X (source.erase target) (e ∷ []) w
  unopened : (f : Form) (es : List Expr) (w : Memory) → goes_back f ≡ true → C.aims.back ≡ None → LineLeaves C X f es w
  case_unkept :
      (items : List CaseItem) (es : List Expr) (w : Memory) (h : ℕ) → C.aims.own ≡ Some h → C.frame.kept h ≡ keeps_nothing
      → LineLeaves C X (source.case_line items) es w
  next_unkept :
      (name : Option (List ℕ × Suffix)) (es : List Expr) (w : Memory) (h : ℕ) → C.aims.own ≡ Some h → C.frame.kept h ≡ keeps_nothing
      → LineLeaves C X (source.next name) es w
  exit_outside : (kind : ExitKind) (es : List Expr) (w : Memory) → exit_to C.aims kind ≡ None → LineLeaves C X (source.exit kind) es w
  no_label :
      (f : Form) (es : List Expr) (w : Memory) (l : Label6) → jumps_to f ≡ Some l → line_of_label C l ≡ None → LineLeaves C X f es w
  resumes_at_head :
      (f : Form) (es : List Expr) (w : Memory) (l : SourceLine) → resumes f ≡ true → C.frame.active ≡ true
      → line_at (machine_of C.runnable) C.procedure C.frame.resume ≡ Some l → l.tests ≡ true → LineLeaves C X f es w

-- ---- runs

-- what the expressions of a line see, where n turns are left behind it
abbrev pub context_at : Runnable → (n p : ℕ) → SourceFrame → SourceLine → Context
context_at R n p f l = record { runnable = R; oracle = go (machine_of R) n; procedure = p; frame = f; aims = l.aims }

-- a memory with so many steps left
abbrev pub stepped_to : ℕ → Memory → Memory
stepped_to k w = record w { left = k }

-- what a run of so many steps begins with
abbrev pub started : (inputs : List (List ℕ)) → (steps : ℕ) → Memory → Memory
started inputs n w = record w { inputs = inputs; left = n }

-- The line or the entry of a turn leaves, or what comes behind it, in at most n more turns; the frame of the line is well typed. After an
-- error at the head of a block nothing says where On Error Resume Next goes on.
pub data TurnLeaves (R : Runnable) (n : ℕ) (X : SourceJob → Memory → Type 0) : SourceJob → Memory → Type 0 where
  at_line :
      (p k : ℕ) (f : SourceFrame) (l : SourceLine) (w : Memory) → line_at (machine_of R) p f.line ≡ Some l → w.left ≡ suc k
      → IsTypedFrame anywhere R p w f → LineLeaves (context_at R n p f l) X l.form.source.form l.form.bindings.exprs (stepped_to k w)
      → TurnLeaves R n X (runs p f) w
  at_head :
      (p k e : ℕ) (f : SourceFrame) (l : SourceLine) (w v : Memory) (o : List Output) → line_at (machine_of R) p f.line ≡ Some l → w.left ≡ suc k
      → line_does R (go (machine_of R) n) p f l (stepped_to k w) ≡ raises o e v → f.active ≡ false → f.handler ≡ next_line → l.tests ≡ true
      → TurnLeaves R n X (runs p f) w
  behind_line :
      (p k : ℕ) (f g : SourceFrame) (l : SourceLine) (w v : Memory) (o : List Output) → line_at (machine_of R) p f.line ≡ Some l → w.left ≡ suc k
      → handled (machine_of R) f l (line_does R (go (machine_of R) n) p f l (stepped_to k w)) ≡ gives o g v → X (runs p g) v
      → TurnLeaves R n X (runs p f) w
  -- an array of the procedure is past the limits
  at_entry :
      (p k v : ℕ) (me : Option ℕ) (locked : Locked) (args : List SourceGiven) (x : Variable) (w : Memory) → w.left ≡ suc k
      → slice_get (declarations_of R).vars v ≡ Some x → belongs_to p x.owner ≡ true → is_makeable (variable_shape (declarations_of R) v) ≡ false
      → TurnLeaves R n X (enters p me locked args) w
  behind_entry :
      (p k : ℕ) (me : Option ℕ) (locked : Locked) (args : List SourceGiven) (f : SourceFrame) (w v : Memory) (o : List Output) → w.left ≡ suc k
      → entered_as R p me locked args (stepped_to k w) ≡ gives o f v → X (runs p f) v → TurnLeaves R n X (enters p me locked args) w

-- of the lines that a run goes over one by one, in at most so many turns, also in calls, one leaves
abbrev pub RunLeaves : Runnable → (turns : ℕ) → SourceJob → Memory → Type 0
RunLeaves R zero job w = ⊥
RunLeaves R (suc n) job w = TurnLeaves R n (RunLeaves R n) job w
