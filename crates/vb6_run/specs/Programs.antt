-- A program as it runs: the entry of a procedure, its lines and its result.
use Rattle.std.specs.Prelude.{ℕ, Bool, List, Option, Some, None, true, false, cond, not, suc, nat_eq, slice_get, [], ◌∷◌, ◌++◌}
use Rattle.vb_tree.specs.declared.declared.Owner.{Owner}
use Rattle.vb_tree.specs.declared.declared.Owner.TheVariants as owner
use Rattle.vb_tree.specs.declared.declared.VarId.{VarId}
use Rattle.bound_tree.specs.Tree.{Variable, Procedure, Declarations}
use Rattle.run_base.specs.Positions.{Root, shared, whole}
use Rattle.run_base.specs.Frames.{by_value, by_address, first_frame}
use Rattle.run_base.specs.Machines.{run}
use Rattle.vb6_run.specs.Values.{Value, kept_as}
use Rattle.vb6_run.specs.Forms.{SourceLine, SourceMachine, idle_machine, form_does}
use Rattle.run_base.specs.Outcomes.{Outcome, gives, outside, then, some_of}
use Rattle.vb6_run.specs.Shapes.{Shape, variable_shape}
use Rattle.vb6_run.specs.Store.{Held, blank, single, table, parts, Address, constant, Memory, Locked, Does, SourceGiven, SourceFrame, SourceCalls, provided, lay, make, read, make_with, is_address_of, locked_by}
use Rattle.vb6_run.specs.Runnables.{Runnable, declarations_of, is_class_file, static_root, variable_address}

-- ---- parameters

-- a value for a reference parameter is a temporary; a quiet one needs no place of its own
abbrev pub temporary : (quiet : Bool) → Shape → Value → Does Address
temporary true s x w = some_of (kept_as s x) (λ x w. gives [] (constant x) w) w
temporary false s x w = make_with s x w

-- What lies outside: an argument of another type than its parameter's, and an address for a parameter that takes a value.
abbrev pub bound_to : (quiet : Bool) → Owner → Shape → SourceGiven → Does Address
bound_to quiet (owner.Value p) s (by_value x) w = make_with s x w
bound_to quiet (owner.Value p) s (by_address a) w = outside []
bound_to quiet (owner.Reference p) s (by_value x) w = temporary quiet s x w
bound_to quiet (owner.Reference p) s (by_address a) w = provided (is_address_of s a) (λ w. gives [] a w) w
bound_to quiet (owner.Module file) s g w = outside []
bound_to quiet (owner.Local p) s g w = outside []
bound_to quiet (owner.Static p) s g w = outside []
bound_to quiet (owner.Answer p) s g w = outside []
bound_to quiet (owner.Field t) s g w = outside []

abbrev pub Bindings : Type 0
Bindings = List (ℕ × Address)

-- The parameters from the one at a place on. What lies outside: another number of arguments.
abbrev pub parameters : Runnable → (procedure place : ℕ) → List VarId → List SourceGiven → Does Bindings
parameters R p i [] [] w = gives [] [] w
parameters R p i [] (g ∷ gs) w = outside []
parameters R p i (k ∷ ks) [] w = outside []
parameters R p i (k ∷ ks) (g ∷ gs) w =
    then (some_of (slice_get (declarations_of R).vars k.0) (λ x w. bound_to (R.quiet p i) x.owner (variable_shape (declarations_of R) k.0) g w) w)
    (λ a w. then (parameters R p (suc i) ks gs w) (λ rest w. gives [] ((k.0, a) ∷ rest) w))

-- ---- the other variables of a procedure

abbrev pub is_local_of : (procedure : ℕ) → Owner → Bool
is_local_of p (owner.Local q) = nat_eq p q.0
is_local_of p _ = false

abbrev pub is_static_of : (procedure : ℕ) → Owner → Bool
is_static_of p (owner.Static q) = nat_eq p q.0
is_static_of p _ = false

-- the variables, which are numbered from k, whose owner passes a test
abbrev pub owned_from : (Owner → Bool) → ℕ → List Variable → List ℕ
owned_from test k [] = []
owned_from test k (x ∷ xs) = cond (test x.owner) (k ∷ owned_from test (suc k) xs) (owned_from test (suc k) xs)

abbrev pub answer_in : Option VarId → List ℕ
answer_in None = []
answer_in (Some k) = k.0 ∷ []

abbrev pub made_each : Declarations → (variables : List ℕ) → Does Bindings
made_each D [] w = gives [] [] w
made_each D (k ∷ ks) w = then (make (variable_shape D k) w) (λ a w. then (made_each D ks w) (λ rest w. gives [] ((k, a) ∷ rest) w))

abbrev pub lay_if_blank : Shape → Root → Held → Does Unit
lay_if_blank s r blank w = lay s (whole r) w
lay_if_blank s r (single t x) w = gives [] tt w
lay_if_blank s r (table e dims xs) w = gives [] tt w
lay_if_blank s r parts w = gives [] tt w

-- a Static is made at the first entry of its procedure, in a class once for each object
abbrev pub lay_statics : Declarations → (me : Option ℕ) → (file : Option ℕ) → (variables : List ℕ) → Does Unit
lay_statics D me file [] w = gives [] tt w
lay_statics D me file (k ∷ ks) w =
    then (some_of (static_root D me k file) (λ r w. lay_if_blank (variable_shape D k) r (w.held (whole r)) w) w) (λ u w. lay_statics D me file ks w)

-- ---- procedures

-- the entry of a procedure: its parameters from the left, its result variable, its locals in order, and its Statics
abbrev pub entry : Runnable → (procedure : ℕ) → (me : Option ℕ) → Locked → List SourceGiven → Procedure → Does SourceFrame
entry R p me locked args x w =
    then (parameters R p 0 x.params args w) (λ params w.
    then (made_each (declarations_of R) (answer_in x.answer ++ owned_from (is_local_of p) 0 (declarations_of R).vars) w) (λ others w.
    then (lay_statics (declarations_of R) me (Some x.module_number) (owned_from (is_static_of p) 0 (declarations_of R).vars) w) (λ u w.
    gives [] (first_frame me (locked_by args ++ locked) (params ++ others)) w)))

abbrev pub entered_as : Runnable → (procedure : ℕ) → (me : Option ℕ) → Locked → List SourceGiven → Does SourceFrame
entered_as R p me locked args w = some_of (slice_get (declarations_of R).procs p) (λ x w. entry R p me locked args x w) w

abbrev pub line_does : Runnable → SourceCalls → (procedure : ℕ) → SourceFrame → SourceLine → Does SourceFrame
line_does R oracle p f l w =
    form_does (record { runnable = R; oracle = oracle; procedure = p; frame = f; aims = l.aims }) l.form.source.form l.form.bindings.exprs w

abbrev pub answer_of : Runnable → SourceFrame → Option VarId → Does (Option Value)
answer_of R f None w = gives [] None w
answer_of R f (Some k) w =
    some_of (variable_address (declarations_of R) f k.0) (λ a w. then (read a w) (λ x w. gives [] (Some x) w)) w

-- a Function and a Property Get give what their result variable holds
abbrev pub result_of : Runnable → (procedure : ℕ) → SourceFrame → Does (Option Value)
result_of R p f w = some_of (slice_get (declarations_of R).procs p) (λ x w. answer_of R f x.answer w) w

abbrev pub machine_of : Runnable → SourceMachine
machine_of R = record (idle_machine R) { enter = entered_as R; line_does = line_does R; result = result_of R }

-- A call of a procedure for an object, if any, with at most n steps.
abbrev pub run6 : Runnable → (procedure : ℕ) → (me : Option ℕ) → List SourceGiven → (inputs : List (List ℕ)) → (n : ℕ) → Does (Option Value)
run6 R p me args inputs n w = run (machine_of R) n p me [] args (record w { inputs = inputs })

-- ---- the start of a program

abbrev pub is_module_variable : Declarations → Owner → Bool
is_module_variable D (owner.Module file) = not (is_class_file D file)
is_module_variable D _ = false

abbrev pub empty_memory : Memory
empty_memory = record { held = λ q. blank; next = 0; class_of = λ o. None; next_object = 0; err = 0; inputs = []; left = 0 }

abbrev pub lay_module_variables : Declarations → (variables : List ℕ) → Does Unit
lay_module_variables D [] w = gives [] tt w
lay_module_variables D (k ∷ ks) w = then (lay (variable_shape D k) (whole (shared (k ∷ []))) w) (λ u w. lay_module_variables D ks w)

-- a program from its start: the variables of its standard modules begin with their first values, and no object is there yet
abbrev pub run_program : Runnable → (procedure : ℕ) → (inputs : List (List ℕ)) → (n : ℕ) → Outcome Memory (Option Value)
run_program R p inputs n =
    then (lay_module_variables (declarations_of R) (owned_from (is_module_variable (declarations_of R)) 0 (declarations_of R).vars) empty_memory)
    (λ u w. run6 R p None [] inputs n w)
