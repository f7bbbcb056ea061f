-- Objects: how they are made, and the fields that each has.
use Rattle.std.specs.Prelude.{ℕ, Bool, List, Option, Some, None, false, suc, nat_eq, slice_get, is_none, [], ◌∷◌}
use Rattle.vb_tree.specs.BoundTree.{class}
use Rattle.vb_tree.specs.declared.value.Value6.{Value6}
use Rattle.vb_tree.specs.declared.value.Value6.TheVariants as v
use Rattle.bound_facts.specs.Members.{class_files, class_variables, initializer, terminator}
use Rattle.bound_tree.specs.Tree.{Declarations}
use Rattle.run_base.specs.Outcomes.{gives, raises, outside, then, some_of}
use Rattle.run_base.specs.Positions.{field, whole, updated_at}
use Rattle.run_base.specs.Machines.{enters}
use Rattle.vb6_run.specs.Shapes.{variable_shape}
use Rattle.vb6_run.specs.Values.{Value, scalar, fields, elements}
use Rattle.vb6_run.specs.Store.{Address, Memory, Locked, Does, SourceCalls, provided, lay, read, write}

-- ---- objects of a class

abbrev pub is_class : (class : ℕ) → Option ℕ → Bool
is_class c None = false
is_class c (Some d) = nat_eq c d

abbrev pub on_scalar : {A : Type 0} → (class : ℕ) → Value6 → (ℕ → Does A) → Does A
on_scalar c (v.Object o) go w = provided (is_class c (w.class_of o)) (go o) w
on_scalar c v.Nothing go w = raises [] 91 w
on_scalar c x go w = outside []

-- The number of an object; Nothing raises 91. What lies outside: an object that wasn't made, or of another class.
abbrev pub on_object : {A : Type 0} → (class : ℕ) → Value → (ℕ → Does A) → Does A
on_object c (scalar ty x) go w = on_scalar c x go w
on_object c (fields t xs) go w = outside []
on_object c (elements e dims xs) go w = outside []

-- ---- creation

-- the fields of an object, with their first values
abbrev pub lay_fields : Declarations → (object : ℕ) → (variables : List ℕ) → Does Unit
lay_fields D o [] w = gives [] tt w
lay_fields D o (x ∷ xs) w = then (lay (variable_shape D x) (whole (field o (x ∷ []))) w) (λ u w. lay_fields D o xs w)

abbrev pub initialized : SourceCalls → Locked → (object : ℕ) → Option ℕ → Does Unit
initialized oracle locked o None w = gives [] tt w
initialized oracle locked o (Some p) w = then (oracle (enters p (Some o) locked []) w) (λ r w. gives [] tt w)

abbrev pub with_new_object : (class object : ℕ) → Memory → Memory
with_new_object c o w = record w { class_of = updated_at w.class_of o (Some c); next_object = suc o }

abbrev pub created_as : Declarations → SourceCalls → Locked → (class object : ℕ) → List ℕ → Does Value
created_as D oracle locked c o xs w =
    then (lay_fields D o xs (with_new_object c o w)) (λ u w.
    then (initialized oracle locked o (initializer D c) w) (λ u w. gives [] (scalar (class c) (v.Object o)) w))

-- A new object has its number first, then its fields; then its Class_Initialize runs, where it has one. What lies outside: an object of a
-- class with Class_Terminate, which has no fixed time.
abbrev pub created : Declarations → SourceCalls → Locked → (class : ℕ) → Does Value
created D oracle locked c w =
    provided (is_none (terminator D c))
    (some_of (class_variables D (slice_get (class_files D.project) c)) (λ xs w. created_as D oracle locked c w.next_object xs w)) w

-- ---- As New

abbrev pub made_at_scalar : Declarations → SourceCalls → Locked → (class : ℕ) → Address → Value6 → Does Unit
made_at_scalar D oracle locked c a (v.Object o) w = gives [] tt w
made_at_scalar D oracle locked c a v.Nothing w = then (created D oracle locked c w) (λ x w. write locked x a w)
made_at_scalar D oracle locked c a x w = outside []

abbrev pub made_at_value : Declarations → SourceCalls → Locked → (class : ℕ) → Address → Value → Does Unit
made_at_value D oracle locked c a (scalar ty x) w = made_at_scalar D oracle locked c a x w
made_at_value D oracle locked c a (fields t xs) w = outside []
made_at_value D oracle locked c a (elements e dims xs) w = outside []

-- the use of an As New variable makes its object where it holds Nothing, and sets it when its Class_Initialize has returned
abbrev pub made_at : Declarations → SourceCalls → Locked → (class : ℕ) → Address → Does Unit
made_at D oracle locked c a w = then (read a w) (λ x w. made_at_value D oracle locked c a x w)
