-- What calls do: of functions of the support module and of the library, of procedures and of properties.
use Rattle.std.specs.Prelude.{ℕ, cond, List, [], ◌∷◌, map, drop, length, codes, pos, Option, Some, None}
use Rattle.vb6_meaning.specs.Answers.{Answer, then_answer}
use Rattle.vb6_meaning.specs.Answers as value
use Rattle.net_tree.specs.declared.declaration.NetPassing.{NetPassing}
use Rattle.net_tree.specs.Tree.{Param, Procedure, Project}
use Rattle.net_tree.specs.Types.{TypeName}
use Rattle.net_meaning.specs.declared.value.ValueN.{ValueN}
use Rattle.net_meaning.specs.declared.value.ValueN.TheVariants as n
use Rattle.run_base.specs.Frames.{Given, by_value, by_address}
use Rattle.run_base.specs.Machines.{enters}
use Rattle.run_base.specs.Outcomes.{Output, asked, gives, outside, then, answered, first_input, rest_inputs}
use Rattle.net_run.specs.Values.{Value, unknown, single, fields}
use Rattle.net_run.specs.Shapes.{Shape, scalar, class, structured, array, shapeless, is_same_shape, class_by, module_named, shape_of}
use Rattle.net_run.specs.Store.{Does, Address, constant, nowhere, as_constant, shape_at, looked_up, written, on_array, on_object, cloned}
use Rattle.net_run.specs.Members.{Code, code_at, params_of, result_of}
use Rattle.net_run.specs.Names.{Scope, Callee, to_procedure, to_property, to_support, to_library, to_clone}
use Rattle.net_run.specs.Structures as structures
use Rattle.net_run.specs.Structures.{structure_made, shape_given}
use Rattle.net_run.specs.Making.{Jobs, created}
use Rattle.net_run.specs.Functions.{Function, of_one, of_two, of_two_or_three, puts_out, asks, upper_bound, lower_bound, gives_err, raises_from, clears_err, puts, makes_structure, copies_structure, makes_object, high_of, low_of, raised_from, support_function, library_function, passing_of_some}

abbrev pub Arguments : Type 0
Arguments = List (Given Value Address)

-- ---- functions

-- a single value that an operator or a function gives
abbrev pub value_answered : Answer ValueN → Does Address
value_answered a w = then (answered a w) (λ x w. gives [] (as_constant (single x)) w)

-- on single values alone: a structure is no argument of these functions, nor is an address
abbrev pub single_given : Given Value Address → Answer ValueN
single_given (by_value (single x)) = value.gives x
single_given (by_value unknown) = value.outside
single_given (by_value (fields vs)) = value.outside
single_given (by_address a) = value.outside

abbrev pub singles_given : Arguments → Answer (List ValueN)
singles_given [] = value.gives []
singles_given (g ∷ args) = then_answer (single_given g) (λ x. then_answer (singles_given args) (λ xs. value.gives (x ∷ xs)))

-- a row takes as many values as it is of: no other call is written
abbrev pub on_none : {A : Type 0} → Answer A → List ValueN → Answer A
on_none row [] = row
on_none row (x ∷ xs) = value.outside

abbrev pub on_one : {A : Type 0} → (ValueN → Answer A) → List ValueN → Answer A
on_one row [] = value.outside
on_one row (x ∷ []) = row x
on_one row (x ∷ y ∷ xs) = value.outside

abbrev pub on_two : {A : Type 0} → (ValueN → ValueN → Answer A) → List ValueN → Answer A
on_two row [] = value.outside
on_two row (x ∷ []) = value.outside
on_two row (x ∷ y ∷ []) = row x y
on_two row (x ∷ y ∷ z ∷ xs) = value.outside

abbrev pub on_three : {A : Type 0} → (ValueN → ValueN → Answer A) → (ValueN → ValueN → ValueN → Answer A) → List ValueN → Answer A
on_three row more [] = value.outside
on_three row more (x ∷ []) = value.outside
on_three row more (x ∷ y ∷ []) = row x y
on_three row more (x ∷ y ∷ z ∷ []) = more x y z
on_three row more (x ∷ y ∷ z ∷ u ∷ xs) = value.outside

-- the units of a String; no other value is put out
abbrev pub text_of : ValueN → Answer (List ℕ)
text_of (n.Str units) = value.gives units
text_of n.Nothing = value.gives []
text_of _ = value.outside

abbrev pub put_out : (List ℕ → Output) → List ℕ → Does Address
put_out out units w = gives (out units ∷ []) nowhere w

-- where no input is left, the empty text is given
abbrev pub input_taken : List ℕ → Does Address
input_taken units w = gives (asked units ∷ []) (as_constant (single (n.Str (first_input w.inputs)))) (record w { inputs = rest_inputs w.inputs })

-- the first argument is an array
abbrev pub array_row : {A : Type 0} → (ValueN → List ValueN → Does A) → List ValueN → Does A
array_row go [] w = outside []
array_row go (a ∷ xs) w = go a xs w

abbrev pub upper_of : ValueN → List ValueN → Does Address
upper_of a xs w = on_array (single a) (λ k w. value_answered (on_two (high_of (w.arrays k)) xs) w) w

abbrev pub lower_of : ValueN → List ValueN → Does Address
lower_of a xs w = on_array (single a) (λ k w. value_answered (on_one (low_of (w.arrays k)) xs) w) w

-- `PutT`: its first argument is evaluated first; its second is an address of its very type
abbrev pub value_put : TypeName → Arguments → Does Address
value_put ty (by_value v ∷ by_address a ∷ []) w =
    cond (is_same_shape (shape_at a) (scalar ty)) (then (written a v w) (λ u w. gives [] nowhere w)) (outside [])
value_put ty _ w = outside []

-- `Auto_C`: where there is no object, a new one is made, and then the variable is set. It holds nothing but objects.
abbrev pub object_in : Project → Jobs → (home : ℕ) → Address → Value → Does Address
object_in N oracle home a (single n.Nothing) w =
    then (created N oracle home w) (λ v w. then (written a v w) (λ u w. gives [] (constant (class home) v) w))
object_in N oracle home a (single (n.Object o)) w = gives [] (constant (class home) (single (n.Object o))) w
object_in N oracle home a (single x) w = outside []
object_in N oracle home a unknown w = outside []
object_in N oracle home a (fields vs) w = outside []

-- the variable has the very class that the function is named for
abbrev pub object_of_class : Project → Jobs → Address → Shape → Does Address
object_of_class N oracle a (class home) w = cond (is_same_shape (shape_at a) (class home)) (object_in N oracle home a (looked_up a w) w) (outside [])
object_of_class N oracle a (scalar ty) w = outside []
object_of_class N oracle a (structured home m fs) w = outside []
object_of_class N oracle a (array element rank) w = outside []
object_of_class N oracle a shapeless w = outside []

-- the class is named behind `Auto_`, and the argument is an address
abbrev pub auto_class : Project → List ℕ → Shape
auto_class N name = class_by (module_named N (drop (length (codes "Auto_")) name))

abbrev pub object_given : Project → Jobs → List ℕ → Arguments → Does Address
object_given N oracle name (by_address a ∷ []) w = object_of_class N oracle a (auto_class N name) w
object_given N oracle name _ w = outside []

abbrev pub structure_shape : Project → Option Procedure → Shape
structure_shape N None = shapeless
structure_shape N (Some f) = shape_given N f.head

-- `NewK()` and `CopyK(x)`
abbrev pub structure_of : Project → List ℕ → Option Value → Does Address
structure_of N name x w =
    then (structure_made N name x w) (λ v w. gives [] (constant (structure_shape N (structures.type_function N name)) v) w)

-- `NewK` takes no argument, and `CopyK` a value
abbrev pub structure_new : Project → List ℕ → Arguments → Does Address
structure_new N name [] w = structure_of N name None w
structure_new N name (g ∷ args) w = outside []

abbrev pub structure_copied : Project → List ℕ → Arguments → Does Address
structure_copied N name (by_value v ∷ []) w = structure_of N name (Some v) w
structure_copied N name _ w = outside []

abbrev pub function_does : Project → Jobs → List ℕ → Arguments → Function → Does Address
function_does N oracle name args (of_one row) w = value_answered (then_answer (singles_given args) (on_one row)) w
function_does N oracle name args (of_two row) w = value_answered (then_answer (singles_given args) (on_two row)) w
function_does N oracle name args (of_two_or_three row more) w = value_answered (then_answer (singles_given args) (on_three row more)) w
function_does N oracle name args (puts_out out) w = then (answered (then_answer (singles_given args) (on_one text_of)) w) (put_out out)
function_does N oracle name args asks w = then (answered (then_answer (singles_given args) (on_one text_of)) w) input_taken
function_does N oracle name args upper_bound w = then (answered (singles_given args) w) (array_row upper_of)
function_does N oracle name args lower_bound w = then (answered (singles_given args) w) (array_row lower_of)
function_does N oracle name args gives_err w =
    value_answered (then_answer (singles_given args) (on_none (value.gives (n.Integer (pos w.err))))) w
function_does N oracle name args (raises_from added) w = value_answered (then_answer (singles_given args) (on_one (raised_from added))) w
function_does N oracle name args clears_err w =
    then (answered (then_answer (singles_given args) (on_none (value.gives (tt {0})))) w) (λ u w. gives [] nowhere (record w { err = 0 }))
function_does N oracle name args (puts ty) w = value_put ty args w
function_does N oracle name args makes_structure w = structure_new N name args w
function_does N oracle name args copies_structure w = structure_copied N name args w
function_does N oracle name args makes_object w = object_given N oracle name args w

-- a function of another name isn't written
abbrev pub some_function : Project → Jobs → List ℕ → Arguments → Option Function → Does Address
some_function N oracle name args None w = outside []
some_function N oracle name args (Some f) w = function_does N oracle name args f w

-- ---- procedures

abbrev pub shape_of_result : Project → (home : ℕ) → Option (List ℕ × TypeName) → Shape
shape_of_result N home None = shapeless
shape_of_result N home (Some r) = shape_of N home r.1

abbrev pub result_shape_of : Project → Option Code → Shape
result_shape_of N None = shapeless
result_shape_of N (Some c) = shape_of_result N c.home (result_of c)

-- the result of a procedure, which a Sub hasn't
abbrev pub result_address : Shape → Option Value → Address
result_address shape None = nowhere
result_address shape (Some v) = constant shape v

abbrev pub entered : Scope → Jobs → (number : ℕ) → (object : Option ℕ) → Arguments → Does Address
entered S oracle p me args w =
    then (oracle (enters p me tt args) w) (λ r w. gives [] (result_address (result_shape_of S.project (code_at S.project p)) r) w)

-- a call of an object that is Nothing raises 91 before the entry takes its step; without an object the caller's is kept
abbrev pub procedure_does : Scope → Jobs → (object : Option Value) → (number : ℕ) → Arguments → Does Address
procedure_does S oracle None p args w = entered S oracle p S.me args w
procedure_does S oracle (Some v) p args w = on_object v (λ o w. entered S oracle p (Some o) args w) w

-- a property that lacks the part isn't used so
abbrev pub part_does : Scope → Jobs → (object : Option Value) → Option ℕ → Arguments → Does Address
part_does S oracle object None args w = outside []
part_does S oracle object (Some p) args w = procedure_does S oracle object p args w

-- a Clone takes no argument
abbrev pub clone_does : Shape → Value → Arguments → Does Address
clone_does shape v [] w = then (cloned v w) (λ x w. gives [] (constant shape x) w)
clone_does shape v (g ∷ args) w = outside []

-- the value that a call gives; a property is read by its Get
abbrev pub performed : Scope → Jobs → Callee → Arguments → Does Address
performed S oracle (to_procedure object p) args w = procedure_does S oracle object p args w
performed S oracle (to_property object get set) args w = part_does S oracle object get args w
performed S oracle (to_support name) args w = some_function S.project oracle name args (support_function name) w
performed S oracle (to_library names) args w = some_function S.project oracle [] args (library_function names) w
performed S oracle (to_clone shape v) args w = clone_does shape v args w

-- ---- how arguments are taken

abbrev pub passings : List Param → List NetPassing
passings params = map (λ (p : Param). p.passing) params

abbrev pub passings_of_code : Option Code → List NetPassing
passings_of_code None = []
passings_of_code (Some c) = passings (params_of c)

abbrev pub passings_at : Project → Option ℕ → List NetPassing
passings_at N None = []
passings_at N (Some p) = passings_of_code (code_at N p)

-- the parts of a property take values alone
abbrev pub passings_of : Project → Callee → List NetPassing
passings_of N (to_procedure object p) = passings_at N (Some p)
passings_of N (to_property object get set) = []
passings_of N (to_support name) = passing_of_some (support_function name)
passings_of N (to_library names) = passing_of_some (library_function names)
passings_of N (to_clone shape v) = []
