-- A call gives a value, or nothing, and no place.
use Rattle.std.proofs.Common.{ℕ, Bool, true, false, cond, List, [], ◌∷◌, Option, Some, None}
use Rattle.vb6_meaning.specs.Answers.{Answer, then_answer}
use Rattle.vb6_meaning.specs.Answers as value
use Rattle.net_meaning.specs.declared.value.ValueN.{ValueN}
use Rattle.net_meaning.specs.declared.value.ValueN.TheVariants as n
use Rattle.run_base.specs.Frames.{by_address, by_value}
use Rattle.run_base.specs.Machines.{enters}
use Rattle.run_base.specs.Outcomes.{Outcome, Output, after, answered, gives, outside, raises, spent, then}
use Rattle.net_tree.specs.Tree.{Project}
use Rattle.net_tree.specs.Types.{TypeName}
use Rattle.net_run.specs.Calls.{Arguments, array_row, clone_does, entered, function_does, input_taken, lower_of, on_none, on_one, object_given, object_in, object_of_class, part_does, performed, procedure_does, put_out, result_address, singles_given, some_function, structure_copied, structure_new, structure_of, structure_shape, text_of, upper_of, value_answered, value_put}
use Rattle.net_run.specs.Functions.{Function, asks, clears_err, copies_structure, gives_err, lower_bound, makes_object, makes_structure, of_one, of_two, of_two_or_three, puts, puts_out, raises_from, upper_bound}
use Rattle.net_run.specs.Making.{Jobs}
use Rattle.net_run.specs.Names.{Callee, Scope, to_clone, to_library, to_procedure, to_property, to_support}
use Rattle.net_run.specs.Structures.{structure_made, type_function}
use Rattle.net_run.specs.Shapes as shape
use Rattle.net_run.specs.Store as net
use Rattle.net_run.specs.Values as net_value
use Rattle.agreeing_laws.specs.Promises.{Yields}

-- a value, or nothing
abbrev pub NoPlace : net.Address → net.Memory → Type 0
NoPlace (net.root s q) w = ⊥
NoPlace (net.item s k j path) w = ⊥
NoPlace (net.constant s y) w = Unit {0}
NoPlace net.nowhere w = Unit {0}

behind : (o : List Output) (r : Outcome net.Memory net.Address) → Yields NoPlace r → Yields NoPlace (after o r)
behind o (gives q r w) h = h
behind o (raises q e w) h = tt
behind o (spent q w) h = tt
behind o (outside q) h = tt

pub yields_then : {A : Type 0} (r : Outcome net.Memory A) (k : A → net.Memory → Outcome net.Memory net.Address) → ((a : A) (w : net.Memory) → Yields NoPlace (k a w))
    → Yields NoPlace (then r k)
yields_then (gives o a w) k h = behind o (k a w) (h a w)
yields_then (raises o e w) k h = tt
yields_then (spent o w) k h = tt
yields_then (outside o) k h = tt

yields_if : (b : Bool) (r : Outcome net.Memory net.Address) → Yields NoPlace r → Yields NoPlace (cond b r (outside []))
yields_if true r h = h
yields_if false r h = tt

answer_is : (a : Answer ValueN) (w : net.Memory) → Yields NoPlace (value_answered a w)
answer_is (value.gives x) w = tt
answer_is (value.raises e) w = tt
answer_is value.outside w = tt

result_is : (s : shape.Shape) (r : Option net_value.Value) (w : net.Memory) → NoPlace (result_address s r) w
result_is s None w = tt
result_is s (Some y) w = tt

module _ (S : Scope) (oracle : Jobs) where
  entered_is : (p : ℕ) (me : Option ℕ) (args : Arguments) (w : net.Memory) → Yields NoPlace (entered S oracle p me args w)
  entered_is p me args w = yields_then (oracle (enters p me tt args) w) _ (λ r w. result_is _ r w)

  procedure_is : (o : Option net_value.Value) (p : ℕ) (args : Arguments) (w : net.Memory) → Yields NoPlace (procedure_does S oracle o p args w)
  procedure_is None p args w = entered_is p S.me args w
  procedure_is (Some (net_value.single (n.Object o))) p args w = entered_is p (Some o) args w
  procedure_is (Some (net_value.single n.Nothing)) p args w = tt
  procedure_is (Some (net_value.single _)) p args w = tt
  procedure_is (Some net_value.unknown) p args w = tt
  procedure_is (Some (net_value.fields ys)) p args w = tt

  part_is : (o : Option net_value.Value) (p : Option ℕ) (args : Arguments) (w : net.Memory) → Yields NoPlace (part_does S oracle o p args w)
  part_is o None args w = tt
  part_is o (Some p) args w = procedure_is o p args w

  -- ---- functions

  upper_is : (a : ValueN) (xs : List ValueN) (w : net.Memory) → Yields NoPlace (upper_of a xs w)
  upper_is (n.Array k) xs w = answer_is _ w
  upper_is n.Nothing xs w = tt
  upper_is _ xs w = tt

  lower_is : (a : ValueN) (xs : List ValueN) (w : net.Memory) → Yields NoPlace (lower_of a xs w)
  lower_is (n.Array k) xs w = answer_is _ w
  lower_is n.Nothing xs w = tt
  lower_is _ xs w = tt

  object_is : (N : Project) (home : ℕ) (a : net.Address) (y : net_value.Value) (w : net.Memory) → Yields NoPlace (object_in N oracle home a y w)
  object_is N home a (net_value.single n.Nothing) w = yields_then _ _ (λ v w. yields_then (net.written a v w) _ (λ u w. tt))
  object_is N home a (net_value.single (n.Object o)) w = tt
  object_is N home a (net_value.single _) w = tt
  object_is N home a net_value.unknown w = tt
  object_is N home a (net_value.fields ys) w = tt

  class_is : (N : Project) (a : net.Address) (s : shape.Shape) (w : net.Memory) → Yields NoPlace (object_of_class N oracle a s w)
  class_is N a (shape.class home) w = yields_if _ _ (object_is N home a (net.looked_up a w) w)
  class_is N a (shape.scalar ty) w = tt
  class_is N a (shape.structured home m fs) w = tt
  class_is N a (shape.array element rank) w = tt
  class_is N a shape.shapeless w = tt

  put_is : (t : TypeName) (args : Arguments) (w : net.Memory) → Yields NoPlace (value_put t args w)
  put_is t (by_value y ∷ by_address a ∷ []) w = yields_if _ _ (yields_then (net.written a y w) _ (λ u w. tt))
  put_is t _ w = tt

  given_object_is : (N : Project) (name : List ℕ) (args : Arguments) (w : net.Memory) → Yields NoPlace (object_given N oracle name args w)
  given_object_is N name (by_address a ∷ []) w = class_is N a _ w
  given_object_is N name _ w = tt

  made_is : (N : Project) (name : List ℕ) (x : Option net_value.Value) (w : net.Memory) → Yields NoPlace (structure_of N name x w)
  made_is N name x w =
      yields_then (structure_made N name x w) (λ v w. gives [] (net.constant (structure_shape N (type_function N name)) v) w) (λ v w. tt)

  new_is : (N : Project) (name : List ℕ) (args : Arguments) (w : net.Memory) → Yields NoPlace (structure_new N name args w)
  new_is N name [] w = made_is N name None w
  new_is N name (g ∷ args) w = tt

  copy_is : (N : Project) (name : List ℕ) (args : Arguments) (w : net.Memory) → Yields NoPlace (structure_copied N name args w)
  copy_is N name (by_value y ∷ []) w = made_is N name (Some y) w
  copy_is N name _ w = tt

  function_is : (N : Project) (name : List ℕ) (args : Arguments) (f : Function) (w : net.Memory) → Yields NoPlace (function_does N oracle name args f w)
  function_is N name args (of_one row) w = answer_is _ w
  function_is N name args (of_two row) w = answer_is _ w
  function_is N name args (of_two_or_three row more) w = answer_is _ w
  function_is N name args (puts_out out) w = yields_then (answered (then_answer (singles_given args) (on_one text_of)) w) (put_out out) (λ x w. tt)
  function_is N name args asks w = yields_then (answered (then_answer (singles_given args) (on_one text_of)) w) input_taken (λ x w. tt)
  function_is N name args upper_bound w = yields_then (answered (singles_given args) w) (array_row upper_of) rows
    where
      rows : (xs : List ValueN) (w : net.Memory) → Yields NoPlace (array_row upper_of xs w)
      rows [] w = tt
      rows (a ∷ xs) w = upper_is a xs w
  function_is N name args lower_bound w = yields_then (answered (singles_given args) w) (array_row lower_of) rows
    where
      rows : (xs : List ValueN) (w : net.Memory) → Yields NoPlace (array_row lower_of xs w)
      rows [] w = tt
      rows (a ∷ xs) w = lower_is a xs w
  function_is N name args gives_err w = answer_is _ w
  function_is N name args (raises_from added) w = answer_is _ w
  function_is N name args clears_err w =
      yields_then (answered (then_answer (singles_given args) (on_none (value.gives (tt {0})))) w) (λ u w. gives [] net.nowhere (record w { err = 0 })) (λ x w. tt)
  function_is N name args (puts ty) w = put_is ty args w
  function_is N name args makes_structure w = new_is N name args w
  function_is N name args copies_structure w = copy_is N name args w
  function_is N name args makes_object w = given_object_is N name args w

  some_function_is : (N : Project) (name : List ℕ) (args : Arguments) (o : Option Function) (w : net.Memory)
      → Yields NoPlace (some_function N oracle name args o w)
  some_function_is N name args None w = tt
  some_function_is N name args (Some f) w = function_is N name args f w

  clone_is : (s : shape.Shape) (y : net_value.Value) (args : Arguments) (w : net.Memory) → Yields NoPlace (clone_does s y args w)
  clone_is s y [] w = yields_then (net.cloned y w) (λ x w. gives [] (net.constant s x) w) (λ x w. tt)
  clone_is s y (g ∷ args) w = tt

  -- whatever is called
  pub performed_is : (c : Callee) (args : Arguments) (w : net.Memory) → Yields NoPlace (performed S oracle c args w)
  performed_is (to_procedure o p) args w = procedure_is o p args w
  performed_is (to_property o get set) args w = part_is o get args w
  performed_is (to_support name) args w = some_function_is S.project name args _ w
  performed_is (to_library names) args w = some_function_is S.project [] args _ w
  performed_is (to_clone s y) args w = clone_is s y args w
