-- Expressions: their parts, their addresses and their values.
use Rattle.std.specs.Prelude.{ℕ, Bool, true, false, cond, List, [], ◌∷◌, length, Option, Some, None}
use Rattle.vb6_meaning.specs.Answers.{Answer, then_answer}
use Rattle.vb6_meaning.specs.Answers as value
use Rattle.net_tree.specs.declared.declaration.NetPassing.{NetPassing}
use Rattle.net_tree.specs.declared.declaration.NetPassing.TheVariants as passing
use Rattle.net_tree.specs.declared.expression.OpN.TheVariants.{Bin, Un}
use Rattle.net_tree.specs.Tree.{Exp, Exps, no_exps, next_exp, lit, nothing, me, path, with_dot, dot, call_of, cast, ctype, unary, binary, paren, new_object, new_array, type_of}
use Rattle.net_tree.specs.Types.{TypeName}
use Rattle.net_meaning.specs.declared.value.ValueN.{ValueN}
use Rattle.net_meaning.specs.declared.value.ValueN.TheVariants as n
use Rattle.net_meaning.specs.Conversions.{coerce_net}
use Rattle.net_meaning.specs.Operators.{operate_net}
use Rattle.net_meaning.specs.WrittenLiterals.{literal_value}
use Rattle.net_meaning.specs.WrittenRows.{cast_type}
use Rattle.run_base.specs.Frames.{Given, by_value, by_address}
use Rattle.run_base.specs.Outcomes.{Outcome, gives, outside, then, answered}
use Rattle.net_run.specs.Values.{Value, unknown, single, fields}
use Rattle.net_run.specs.Shapes.{Shape, scalar, class, structured, array, shapeless, element_of, shape_of}
use Rattle.net_run.specs.Store.{Memory, Does, Address, root, item, constant, nowhere, as_constant, shape_at, looked_up, element_at, field_at, array_made}
use Rattle.net_run.specs.Names.{Scope, Callee, to_procedure, to_property, to_support, to_library, to_clone, Parts, at_address, at_element, at_field, Reached, found_at, named, called, at_place, Start, starts, path_start, member_at, is_class}
use Rattle.net_run.specs.Structures.{counts_of}
use Rattle.net_run.specs.Making.{Jobs, created}
use Rattle.net_run.specs.Calls.{Arguments, value_answered, performed, passings_of}

-- ---- from what is reached to values

-- the last check of an index, or the last check for Nothing
abbrev pub finished : Parts → Does Address
finished (at_address a) w = gives [] a w
finished (at_element shape a indexes) w = element_at shape a indexes w
finished (at_field shape v key) w = field_at shape v key w

-- a call gives a value, which is no place
abbrev pub call_parts : Scope → Jobs → Callee → Arguments → Does Parts
call_parts S oracle callee args w = then (performed S oracle callee args w) (λ a w. gives [] (at_address a) w)

abbrev pub parts_by : Scope → Jobs → Reached → Does Parts
parts_by S oracle (found_at ps) w = gives [] ps w
parts_by S oracle (named callee) w = call_parts S oracle callee [] w
parts_by S oracle (called callee args) w = call_parts S oracle callee args w

abbrev pub parts_from : Scope → Jobs → Outcome Memory Reached → Outcome Memory Parts
parts_from S oracle r = then r (parts_by S oracle)

abbrev pub address_from : Scope → Jobs → Outcome Memory Reached → Outcome Memory Address
address_from S oracle r = then (parts_from S oracle r) finished

abbrev pub read : Address → Does Value
read a w = gives [] (looked_up a w) w

abbrev pub value_from : Scope → Jobs → Outcome Memory Reached → Outcome Memory Value
value_from S oracle r = then (address_from S oracle r) read

abbrev pub as_reached : Outcome Memory Address → Outcome Memory Reached
as_reached r = then r (λ a w. gives [] (at_place a) w)

-- ---- operators

-- an operator and a conversion are of single values: a structure has none
abbrev pub on_single : Value → (ValueN → Does Address) → Does Address
on_single (single x) go w = go x w
on_single unknown go w = outside []
on_single (fields vs) go w = outside []

-- an extent is a single value
abbrev pub single_before : Value → Answer (List ValueN) → Answer (List ValueN)
single_before (single x) xs = then_answer xs (λ xs. value.gives (x ∷ xs))
single_before unknown xs = value.outside
single_before (fields vs) xs = value.outside

abbrev pub singles : List Value → Answer (List ValueN)
singles [] = value.gives []
singles (v ∷ vs) = single_before v (singles vs)

-- a single value of a shape that is written behind it
abbrev pub value_as : Shape → Answer ValueN → Does Address
value_as shape a w = then (answered a w) (λ x w. gives [] (constant shape (single x)) w)

-- ---- objects and arrays that are made

-- an object is of a class
abbrev pub object_new : Scope → Jobs → Shape → Does Address
object_new S oracle (class home) w = then (created S.project oracle home w) (λ v w. gives [] (constant (class home) v) w)
object_new S oracle (scalar ty) w = outside []
object_new S oracle (structured home m fs) w = outside []
object_new S oracle (array element rank) w = outside []
object_new S oracle shapeless w = outside []

-- a creation has no arguments
abbrev pub object_with : Scope → Jobs → TypeName → Exps → Does Address
object_with S oracle ty no_exps w = object_new S oracle (shape_of S.project S.home ty) w
object_with S oracle ty (next_exp e args) w = outside []

abbrev pub array_with : (element : Shape) → List Value → Does Address
array_with element bounds w =
    then (answered (then_answer (singles bounds) counts_of) w) (λ counts w.
    then (array_made element counts w) (λ v w. gives [] (constant (array element (length counts)) v) w))

-- ---- the object of the frame

abbrev pub object_address : (home : ℕ) → Option ℕ → Address
object_address home None = nowhere
object_address home (Some o) = constant (class home) (single (n.Object o))

-- the procedures of a standard module have no Me, though they keep their caller's
abbrev pub own_object : Scope → Address
own_object S = cond (is_class S.project S.home) (object_address S.home S.me) nowhere

-- ---- names

-- the members behind what is reached so far, which ends as each is
abbrev pub members_from : Scope → Jobs → Reached → List (List ℕ) → Does Reached
members_from S oracle r [] w = gives [] r w
members_from S oracle r (name ∷ names) w =
    then (address_from S oracle (gives [] r w)) (λ a w. members_from S oracle (member_at S a name w) names w)

abbrev pub started : Scope → Jobs → Start → Does Reached
started S oracle (starts r names) w = members_from S oracle r names w

-- ---- arguments

-- a property that goes by reference would be set behind the call; it is written in parentheses
abbrev pub callee_parts : Scope → Jobs → Callee → Arguments → Does Parts
callee_parts S oracle (to_procedure object p) args w = call_parts S oracle (to_procedure object p) args w
callee_parts S oracle (to_property object get set) args w = outside []
callee_parts S oracle (to_support name) args w = call_parts S oracle (to_support name) args w
callee_parts S oracle (to_library names) args w = call_parts S oracle (to_library names) args w
callee_parts S oracle (to_clone shape v) args w = call_parts S oracle (to_clone shape v) args w

abbrev pub referred_parts : Scope → Jobs → Reached → Does Parts
referred_parts S oracle (found_at ps) w = gives [] ps w
referred_parts S oracle (named callee) w = callee_parts S oracle callee [] w
referred_parts S oracle (called callee args) w = callee_parts S oracle callee args w

-- what is no place goes as a temporary
abbrev pub given_by : Address → Given Value Address
given_by (root shape q) = by_address (root shape q)
given_by (item shape k j names) = by_address (item shape k j names)
given_by (constant shape v) = by_value v
given_by nowhere = by_address nowhere

-- what goes by reference has its index checked at once
abbrev pub given : Scope → Jobs → NetPassing → Outcome Memory Reached → Outcome Memory (Given Value Address)
given S oracle passing.Value r = then (value_from S oracle r) (λ v w. gives [] (by_value v) w)
given S oracle passing.Reference r = then (then (then r (referred_parts S oracle)) finished) (λ a w. gives [] (given_by a) w)

-- what has no passing of its own goes as a value
abbrev pub first_passing : List NetPassing → NetPassing
first_passing [] = passing.Value
first_passing (p ∷ ps) = p

abbrev pub rest_passings : List NetPassing → List NetPassing
rest_passings [] = []
rest_passings (p ∷ ps) = ps

-- ---- what stands before arguments

-- the array variable of an element is read after its indexes
abbrev pub indexed : Scope → Jobs → (indexes : Does (List Value)) → Parts → Does Reached
indexed S oracle indexes ps w =
    then (finished ps w) (λ a w. then (indexes w) (λ xs w. gives [] (found_at (at_element (element_of (shape_at a)) (looked_up a w) xs)) w))

-- a callee that is named takes the arguments; all else is an array
abbrev pub applied : Scope → Jobs → (args : List NetPassing → Does Arguments) → (indexes : Does (List Value)) → Reached → Does Reached
applied S oracle args indexes (found_at ps) w = indexed S oracle indexes ps w
applied S oracle args indexes (named callee) w = then (args (passings_of S.project callee) w) (λ gs w. gives [] (called callee gs) w)
applied S oracle args indexes (called callee gs) w = then (call_parts S oracle callee gs w) (indexed S oracle indexes)

-- ---- expressions

abbrev mutual
  -- what an expression leads to, by itself or where it stands before arguments
  pub reach : Scope → Jobs → (calls : Bool) → Exp → Does Reached
  reach S oracle calls (lit l) w = gives [] (at_place (as_constant (single (literal_value l)))) w
  reach S oracle calls nothing w = gives [] (at_place (as_constant (single n.Nothing))) w
  reach S oracle calls me w = gives [] (at_place (own_object S)) w
  reach S oracle calls (path names) w = started S oracle (path_start S calls names) w
  reach S oracle calls (with_dot name) w = gives [] (member_at S S.around name w) w
  reach S oracle calls (dot e name) w = then (address_from S oracle (reach S oracle false e w)) (λ a w. gives [] (member_at S a name w) w)
  reach S oracle calls (call_of e args) w =
      then (reach S oracle true e w) (applied S oracle (λ modes w. args_of S oracle modes args w) (λ w. values_of S oracle args w))
  -- a conversion and an operator are made where their operands have been evaluated
  reach S oracle calls (cast word e) w =
      then (value_from S oracle (reach S oracle false e w)) (λ v w.
      as_reached (on_single v (λ x w. value_answered (coerce_net x (cast_type word)) w) w))
  reach S oracle calls (ctype e ty) w =
      then (value_from S oracle (reach S oracle false e w)) (λ v w.
      as_reached (on_single v (λ x w. value_as (shape_of S.project S.home ty) (coerce_net x ty) w) w))
  reach S oracle calls (unary op e) w =
      then (value_from S oracle (reach S oracle false e w)) (λ v w.
      as_reached (on_single v (λ x w. value_answered (operate_net (Un op) x x) w) w))
  reach S oracle calls (binary op e f) w =
      then (value_from S oracle (reach S oracle false e w)) (λ u w.
      then (value_from S oracle (reach S oracle false f w)) (λ v w.
      as_reached (on_single u (λ x w. on_single v (λ y w. value_answered (operate_net (Bin op) x y) w) w) w)))
  -- parentheses make a value of what is in them
  reach S oracle calls (paren e) w =
      then (address_from S oracle (reach S oracle false e w)) (λ a w. gives [] (at_place (constant (shape_at a) (looked_up a w))) w)
  reach S oracle calls (new_object ty args) w = as_reached (object_with S oracle ty args w)
  reach S oracle calls (new_array ty bounds) w =
      then (values_of S oracle bounds w) (λ vs w. as_reached (array_with (shape_of S.project S.home ty) vs w))
  -- TypeOf stands in the support module alone
  reach S oracle calls (type_of e ty) w = outside []

  -- arguments from the left, as they are taken
  pub args_of : Scope → Jobs → List NetPassing → Exps → Does Arguments
  args_of S oracle modes no_exps w = gives [] [] w
  args_of S oracle modes (next_exp e rest) w =
      then (given S oracle (first_passing modes) (reach S oracle false e w)) (λ g w.
      then (args_of S oracle (rest_passings modes) rest w) (λ gs w. gives [] (g ∷ gs) w))

  -- the values of indexes or extents, from the left
  pub values_of : Scope → Jobs → Exps → Does (List Value)
  values_of S oracle no_exps w = gives [] [] w
  values_of S oracle (next_exp e rest) w =
      then (value_from S oracle (reach S oracle false e w)) (λ v w. then (values_of S oracle rest w) (λ vs w. gives [] (v ∷ vs) w))

abbrev pub parts_of : Scope → Jobs → Exp → Does Parts
parts_of S oracle e w = parts_from S oracle (reach S oracle false e w)

abbrev pub address_of : Scope → Jobs → Exp → Does Address
address_of S oracle e w = address_from S oracle (reach S oracle false e w)

abbrev pub value_of : Scope → Jobs → Exp → Does Value
value_of S oracle e w = value_from S oracle (reach S oracle false e w)
