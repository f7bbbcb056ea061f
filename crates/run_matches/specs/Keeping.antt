-- Which procedures are seen to keep the arrays of elements of a type: a set of procedures is grown along calls from those with a line that
-- gives such an array other elements as a whole, or a user type, which may hold one.
use Rattle.std.specs.Prelude.{ℕ, Bool, true, ◌&&◌, Option, Some, None, List, [], ◌∷◌, ◌++◌}
use Rattle.std.specs.List.{list_all}
use Rattle.vb_tree.specs.BoundTree.{Ty}
use Rattle.bound_tree.specs.Tree.{Program, Expr, typed, Term, element, Argument, by_value, by_reference, Passed, no_passed, next_passed}
use Rattle.bound_facts.specs.Calls.{calls, count_procedures, initialized}
use Rattle.bound_facts.specs.Leading.{within}
use Rattle.bound_facts.specs.Locks.{lockers}
use Rattle.bound_facts.specs.Node.{called}
use Rattle.bound_facts.specs.Nodes.{nodes_of_passed}
use Rattle.run_matches.specs.Inward.{grown, is_apart}

abbrev pub all_types : (user_type : ℕ) → Bool
all_types t = true

abbrev pub keeps_seen : Program → (procedure : ℕ) → (element : Ty) → Bool
keeps_seen P q e =
    is_apart (within (count_procedures P) (calls P)) (grown (count_procedures P) (within (count_procedures P) (calls P)) (lockers P all_types e)) q

-- ---- elements that are given by reference

abbrev pub given_in : Ty → Term → List Ty
given_in ty (element a indexes) = ty ∷ []
given_in ty t = []

abbrev pub given_by : Argument → List Ty
given_by (by_value e) = []
given_by (by_reference (typed ty t)) = given_in ty t

-- their types
abbrev pub given_types : Passed → List Ty
given_types no_passed = []
given_types (next_passed a rest) = given_by a ++ given_types rest

abbrev pub keeps_each : Program → (procedure : ℕ) → List Ty → Bool
keeps_each P q ts = list_all (keeps_seen P q) ts

abbrev pub keeps_callee : Program → List Ty → Option ℕ → Bool
keeps_callee P ts None = true
keeps_callee P ts (Some q) = keeps_each P q ts

-- a node calls what keeps them: a procedure, or the Class_Initialize of a new object
abbrev pub keeps_entered : Program → List Ty → Expr → Bool
keeps_entered P ts d = keeps_callee P ts (called d) && keeps_callee P ts (initialized P.declarations d)

-- what is called with elements keeps their arrays, and so does what its arguments call
abbrev pub keeps_given : Program → (procedure : ℕ) → Passed → Bool
keeps_given P q args = keeps_each P q (given_types args) && list_all (keeps_entered P (given_types args)) (nodes_of_passed args)
