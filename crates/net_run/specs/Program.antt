-- A written project as a program that is run.
use Rattle.std.specs.Prelude.{ℕ, suc, Bool, true, false, cond, List, [], ◌∷◌, ◌++◌, length, map, Option, Some, None, slice_get}
use Rattle.bound_tree.specs.Targets.{Aims, aims_of}
use Rattle.net_tree.specs.declared.declaration.NetPassing.{NetPassing}
use Rattle.net_tree.specs.declared.declaration.NetPassing.TheVariants as passing
use Rattle.net_tree.specs.FlatLines.{code_lines}
use Rattle.net_tree.specs.Tree as net
use Rattle.net_tree.specs.Tree.{Dim, local, static_local, constant, Variable, Param, Procedure, Member, Module, Project}
use Rattle.net_tree.specs.Types.{TypeName}
use Rattle.run_base.specs.Frames.{Given, by_value, by_address, first_frame}
use Rattle.run_base.specs.Machines.{run}
use Rattle.run_base.specs.Outcomes.{Outcome, gives, outside, then, some_of}
use Rattle.run_base.specs.Positions.{Key, Root, shared, field, whole}
use Rattle.net_run.specs.Values.{Value}
use Rattle.net_run.specs.Shapes.{Shape, is_same_shape, default_of, shape_of}
use Rattle.net_run.specs.Store.{Memory, Does, Cell, blank, holds, structure, Address, root, shape_at, looked_up, made_with}
use Rattle.net_run.specs.Store as store
use Rattle.net_run.specs.Members.{Code, codes_of, code_at, params_of, result_of}
use Rattle.net_run.specs.Names.{is_class, declared_constant}
use Rattle.net_run.specs.Structures.{initial_value}
use Rattle.net_run.specs.Making.{variable_made, members_made}
use Rattle.net_run.specs.Steps.{step_of, tests}
use Rattle.net_run.specs.Lines.{NetFrame, NetLine, NetMachine, set_err, line_does}

-- a variable of a frame by its name
abbrev pub Var : Type 0
Var = List ℕ × Address

-- ---- parameters

-- A value makes a place of its own at each parameter; an address binds one that is by reference, whose type it has exactly, and no other.
abbrev pub parameter_by : NetPassing → Shape → Given Value Address → Does Address
parameter_by passing.Value shape (by_value v) w = made_with shape v w
parameter_by passing.Value shape (by_address a) w = outside []
parameter_by passing.Reference shape (by_value v) w = made_with shape v w
parameter_by passing.Reference shape (by_address a) w = cond (is_same_shape (shape_at a) shape) (gives [] a w) (outside [])

abbrev pub parameter : Project → (home : ℕ) → Param → Given Value Address → Does Var
parameter N home p g w = then (parameter_by p.passing (shape_of N home p.ty) g w) (λ a w. gives [] (p.name, a) w)

-- from the left; there are as many arguments as parameters
abbrev pub parameters : Project → (home : ℕ) → List Param → List (Given Value Address) → Does (List Var)
parameters N home [] [] w = gives [] [] w
parameters N home [] (g ∷ args) w = outside []
parameters N home (p ∷ params) [] w = outside []
parameters N home (p ∷ params) (g ∷ args) w =
    then (parameter N home p g w) (λ v w. then (parameters N home params args w) (λ vs w. gives [] (v ∷ vs) w))

-- ---- the result variable

abbrev pub result_made : Project → (home : ℕ) → Option (List ℕ × TypeName) → Does (List Var)
result_made N home None w = gives [] [] w
result_made N home (Some r) w =
    let shape = shape_of N home r.1 in
    then (made_with shape (default_of shape) w) (λ a w. gives [] ((r.0, a) ∷ []) w)

-- ---- declarations

-- the key of a Static: the member that it stands in, the part of that, and its place in the prologue
abbrev pub static_key : Code → (place : ℕ) → Key
static_key c i = c.home ∷ c.member ∷ cond c.sets 1 0 ∷ i ∷ []

abbrev pub object_static : Key → Option ℕ → Option Root
object_static key None = None
object_static key (Some o) = Some (field o key)

-- a Static of a class stands in the object
abbrev pub static_root : Project → Code → (me : Option ℕ) → (place : ℕ) → Option Root
static_root N c me i = cond (is_class N c.home) (object_static (static_key c i) me) (Some (shared (static_key c i)))

abbrev pub made_once : Project → (home : ℕ) → Root → Variable → Cell → Does Unit
made_once N home r v blank w = variable_made N home r v w
made_once N home r v (holds x) w = gives [] tt w
made_once N home r v structure w = gives [] tt w

-- a Static is made at the first entry
abbrev pub static_at : Project → (home : ℕ) → Variable → Root → Does Var
static_at N home v r w =
    then (made_once N home r v (w.cell (whole r)) w) (λ u w. gives [] (v.name, root (shape_of N home v.ty) (whole r)) w)

abbrev pub local_made : Project → (home : ℕ) → Variable → Does Var
local_made N home v w =
    let shape = shape_of N home v.ty in
    then (initial_value N home shape v.value w) (λ x w. then (made_with shape x w) (λ a w. gives [] (v.name, a) w))

abbrev pub dim_made : Project → Code → (me : Option ℕ) → (place : ℕ) → Dim → Does Var
dim_made N c me i (local v) w = local_made N c.home v w
dim_made N c me i (static_local v) w = some_of (static_root N c me i) (static_at N c.home v) w
dim_made N c me i (constant d) w = gives [] (d.name, declared_constant N c.home d) w

-- those of a prologue from a place on, in order; a Static of a class has no meaning without an object
abbrev pub dims_made : Project → Code → (me : Option ℕ) → (place : ℕ) → List Dim → Does (List Var)
dims_made N c me i [] w = gives [] [] w
dims_made N c me i (d ∷ dims) w = then (dim_made N c me i d w) (λ v w. then (dims_made N c me (suc i) dims w) (λ vs w. gives [] (v ∷ vs) w))

-- ---- entry and result

-- the frame of an entry: its parameters, then its result variable, then its declarations
abbrev pub frame_made : Project → (me : Option ℕ) → List (Given Value Address) → Code → Does NetFrame
frame_made N me args c w =
    then (parameters N c.home (params_of c) args w) (λ params w.
    then (result_made N c.home (result_of c) w) (λ own w.
    then (dims_made N c me 0 c.procedure.prologue w) (λ dims w.
    gives [] (first_frame me tt (params ++ (own ++ dims))) w)))

abbrev pub enter : Project → (p : ℕ) → (me : Option ℕ) → Unit {0} → List (Given Value Address) → Does NetFrame
enter N p me env args w = some_of (code_at N p) (frame_made N me args) w

-- a frame has its result variable, and a procedure its number
abbrev pub result_at : Option Var → Does (Option Value)
result_at None w = outside []
result_at (Some v) w = gives [] (Some (looked_up v.1 w)) w

-- the result variable stands behind the parameters
abbrev pub result_by : Code → Option (List ℕ × TypeName) → NetFrame → Does (Option Value)
result_by c None f w = gives [] None w
result_by c (Some r) f w = result_at (slice_get f.vars (length (params_of c))) w

abbrev pub result_in : NetFrame → Option Code → Does (Option Value)
result_in f None w = outside []
result_in f (Some c) w = result_by c (result_of c) f w

abbrev pub result : Project → (p : ℕ) → NetFrame → Does (Option Value)
result N p f w = result_in f (code_at N p) w

-- ---- the machine

abbrev pub flat_line : net.Line → Aims → NetLine
flat_line form aims = record { form = form; aims = aims; tests = tests form }

abbrev pub flat : List net.Line → List Aims → List NetLine
flat [] aims = []
flat (l ∷ lines) [] = []
flat (l ∷ lines) (a ∷ aims) = flat_line l a ∷ flat lines aims

-- the code lines of a procedure with where control goes from them
abbrev pub body_of : Code → List NetLine
body_of c = flat (code_lines c.procedure) (aims_of (map step_of (code_lines c.procedure)))

-- a project but for what its lines do, which is what a Resume asks
abbrev pub frames_of : Project → NetMachine
frames_of N = record {
  left = λ w. w.left;
  with_left = λ n w. record w { left = n };
  set_err = set_err;
  bodies = map body_of (codes_of N);
  enter = enter N;
  line_does = λ oracle p f l w. outside [];
  result = result N;
}

abbrev pub machine_of : Project → NetMachine
machine_of N = record (frames_of N) { line_does = line_does N (frames_of N) }

-- what the procedure p of a project does from a memory in at most n steps, with an object and arguments
abbrev pub run_net : Project → (n : ℕ) → (p : ℕ) → (me : Option ℕ) → List (Given Value Address) → Does (Option Value)
run_net N n p me args w = run (machine_of N) n p me tt args w

-- ---- the start of a program

-- the variables of a standard module begin when the program does
abbrev pub module_starts : Project → (home : ℕ) → (class : Bool) → List Member → Does Unit
module_starts N home true members w = gives [] tt w
module_starts N home false members w = members_made N shared home 0 members w

abbrev pub modules_start : Project → (home : ℕ) → List Module → Does Unit
modules_start N home [] w = gives [] tt w
modules_start N home (m ∷ modules) w = then (module_starts N home m.class m.members w) (λ u w. modules_start N (suc home) modules w)

-- a program from its start: its variables are made, then the procedure p runs
abbrev pub program_runs : Project → (n : ℕ) → (p : ℕ) → List (List ℕ) → Outcome Memory (Option Value)
program_runs N n p inputs = then (modules_start N 0 N.modules (store.empty_memory inputs)) (λ u w. run_net N n p None [] w)
