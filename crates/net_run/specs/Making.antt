-- Variables that are made, and new objects.
use Rattle.std.specs.Prelude.{ℕ, suc, false, List, [], ◌∷◌, codes, cond, Option, Some, None}
use Rattle.up_base.specs.Names.{is_same_name}
use Rattle.net_tree.specs.Tree.{no_exps, path, Dim, Line, call, Variable, Member, member_comment, variable, const_member, structure, property, proc, Project}
use Rattle.net_tree.specs.FlatLines.{code_lines}
use Rattle.net_meaning.specs.declared.value.ValueN.TheVariants as n
use Rattle.run_base.specs.Machines.{Calls, enters}
use Rattle.run_base.specs.Outcomes.{gives, outside, then}
use Rattle.run_base.specs.Positions.{Root, field, whole, updated_at}
use Rattle.net_run.specs.Values.{Value, single}
use Rattle.net_run.specs.Shapes.{Shape, first_from, module_at, members_of, shape_of, is_of}
use Rattle.net_run.specs.Store.{Memory, Does, Address, laid}
use Rattle.net_run.specs.Members.{is_new, member_named, code_number}
use Rattle.net_run.specs.Names.{key_of}
use Rattle.net_run.specs.Structures.{initial_value}

-- what the jobs of a run do: variables go by their names, and nothing is handed down
abbrev pub Jobs : Type 0
Jobs = Calls Memory (List ℕ) Value Address Unit

-- ---- variables

-- a variable takes a value of its shape alone
abbrev pub laid_as : Shape → Root → Value → Does Unit
laid_as shape r v w = cond (is_of shape v) (gives [] tt (laid v (whole r) w)) (outside [])

-- the variable of a root, with its initial value
abbrev pub variable_made : Project → (home : ℕ) → Root → Variable → Does Unit
variable_made N home r v w =
    let shape = shape_of N home v.ty in
    then (initial_value N home shape v.value w) (laid_as shape r)

abbrev pub member_made : Project → (root_of : List ℕ → Root) → (home number : ℕ) → Member → Does Unit
member_made N root_of home k (member_comment units) w = gives [] tt w
member_made N root_of home k (variable visibility v) w = variable_made N home (root_of (key_of home k)) v w
member_made N root_of home k (const_member visibility c) w = gives [] tt w
member_made N root_of home k (structure s) w = gives [] tt w
member_made N root_of home k (property p) w = gives [] tt w
member_made N root_of home k (proc p) w = gives [] tt w

-- the variables among the members of a module, in order
abbrev pub members_made : Project → (root_of : List ℕ → Root) → (home number : ℕ) → List Member → Does Unit
members_made N root_of home k [] w = gives [] tt w
members_made N root_of home k (m ∷ members) w = then (member_made N root_of home k m w) (λ u w. members_made N root_of home (suc k) members w)

-- ---- objects

abbrev pub initializer : List ℕ
initializer = codes "Class_Initialize"

-- a Sub New calls a Class_Initialize that its class has
abbrev pub initialized_by : Jobs → (object : ℕ) → Option ℕ → Does Unit
initialized_by oracle o None w = outside []
initialized_by oracle o (Some p) w = then (oracle (enters p (Some o) tt []) w) (λ x w. gives [] tt w)

abbrev pub initializer_at : Project → (home : ℕ) → Option (ℕ × Member) → Option ℕ
initializer_at N home None = None
initializer_at N home (Some found) = code_number N home found.0 false

abbrev pub initializer_of : Project → (home : ℕ) → Option ℕ
initializer_of N home = initializer_at N home (member_named initializer (members_of (module_at N home)))

-- the one line of a Sub New calls Class_Initialize, and takes no step of its own; no other Sub New is written
abbrev pub new_line_does : Project → Jobs → (home object : ℕ) → List Dim → List Line → Does Unit
new_line_does N oracle home o [] (call (path (name ∷ [])) no_exps ∷ []) w =
    cond (is_same_name name initializer) (initialized_by oracle o (initializer_of N home) w) (outside [])
new_line_does N oracle home o _ _ w = outside []

abbrev pub new_does : Project → Jobs → (home object : ℕ) → Member → Does Unit
new_does N oracle home o (member_comment units) w = outside []
new_does N oracle home o (variable visibility v) w = outside []
new_does N oracle home o (const_member visibility c) w = outside []
new_does N oracle home o (structure s) w = outside []
new_does N oracle home o (property p) w = outside []
new_does N oracle home o (proc p) w = new_line_does N oracle home o p.prologue (code_lines p) w

-- a class without a Sub New makes its variables alone
abbrev pub initialized : Project → Jobs → (home object : ℕ) → Option (ℕ × Member) → Does Unit
initialized N oracle home o None w = gives [] tt w
initialized N oracle home o (Some found) w = new_does N oracle home o found.1 w

-- an object that has its number and its class
abbrev pub with_object : (home : ℕ) → Memory → Memory
with_object home w = record w { class_of = updated_at w.class_of w.next_object (Some home); next_object = suc w.next_object }

abbrev pub object_made : Project → Jobs → (home object : ℕ) → List Member → Does Value
object_made N oracle home o members w =
    then (members_made N (field o) home 0 members w) (λ u w.
    then (initialized N oracle home o (first_from is_new 0 members) w) (λ u w. gives [] (single (n.Object o)) w))

-- a new object of a class has its number first, then its variables; then Class_Initialize runs
abbrev pub created : Project → Jobs → (home : ℕ) → Does Value
created N oracle home w = object_made N oracle home w.next_object (members_of (module_at N home)) (with_object home w)
