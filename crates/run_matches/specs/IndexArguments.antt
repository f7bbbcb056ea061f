-- What goes by reference to an index parameter of a property: in what is written, a value goes there.
use Rattle.std.specs.Prelude.{ℕ, Bool, true, false, cond, not, ◌&&◌, ◌||◌, Option, Some, None, is_some, List, slice_get}
use Rattle.std.specs.List.{list_all}
use Rattle.vb_tree.specs.declared.declared.Owner.{Owner}
use Rattle.vb_tree.specs.declared.declared.Owner.TheVariants as owner
use Rattle.vb_tree.specs.declared.declared.VarId.{VarId}
use Rattle.bound_tree.specs.Tree.{Variable, Declarations, Program, Expr, typed, Term, variable, convert, Argument, by_value, by_reference, Passed}
use Rattle.bound_facts.specs.Effects.{params_at}
use Rattle.bound_facts.specs.Node.{auto_class, called}
use Rattle.bound_facts.specs.Nodes.{nodes_of_passed}
use Rattle.written_trees.specs.Arguments.{is_property}
use Rattle.run_matches.specs.CoveredExprs.{is_new, is_relied_on}
use Rattle.run_matches.specs.CoveredVariables.{covers_type, is_touched, takes_value_at}
use Rattle.run_matches.specs.Inward.{is_inward_in}

-- ---- quiet parameters

-- one by reference of a procedure that is seen to be inward, which is neither changed nor passed on
abbrev pub is_seen_quiet_owner : Program → (variable : ℕ) → Owner → Bool
is_seen_quiet_owner P v (owner.Reference p) = is_inward_in P p.0 && not (is_touched P v)
is_seen_quiet_owner P v of = false

abbrev pub is_seen_quiet_some : Program → (variable : ℕ) → Option Variable → Bool
is_seen_quiet_some P v None = false
is_seen_quiet_some P v (Some x) = is_seen_quiet_owner P v x.owner

abbrev pub is_seen_quiet_id : Program → Option VarId → Bool
is_seen_quiet_id P None = false
is_seen_quiet_id P (Some v) = is_seen_quiet_some P v.0 (slice_get P.declarations.vars v.0)

abbrev pub is_seen_quiet : Program → (procedure place : ℕ) → Bool
is_seen_quiet P q i = is_inward_in P q && is_seen_quiet_id P (slice_get (params_at (slice_get P.declarations.procs q)) i)

-- ---- what changes nothing

abbrev pub is_auto_term : Declarations → Term → Bool
is_auto_term D (variable v qualified) = is_some (auto_class (slice_get D.vars v.0))
is_auto_term D t = false

-- the use of an As New variable
abbrev pub is_auto_node : Declarations → Expr → Bool
is_auto_node D (typed ty t) = is_auto_term D t

abbrev pub is_inward_called : Program → Option ℕ → Bool
is_inward_called P None = true
is_inward_called P (Some q) = is_inward_in P q

-- calls of inward procedures alone, and no new objects
abbrev pub change_nothing : Program → List Expr → Bool
change_nothing P es = list_all (λ d. not (is_new d || is_auto_node P.declarations d) && is_inward_called P (called d)) es

-- ---- arguments

-- a conversion, which is a value on both sides
abbrev pub goes_as_index_term : Program → (procedure place : ℕ) → Term → (rest : Passed) → Bool
goes_as_index_term P q i (convert to e) rest = true
goes_as_index_term P q i (variable v qualified) rest =
    (is_relied_on P v.0 && takes_value_at P q i) && (is_seen_quiet P q i && change_nothing P (nodes_of_passed rest))
goes_as_index_term P q i t rest = false

-- or a scalar variable, which is no element, at a quiet parameter: the later arguments leave it as it is
abbrev pub goes_as_index : Program → (procedure place : ℕ) → Argument → (rest : Passed) → Bool
goes_as_index P q i (by_value e) rest = true
goes_as_index P q i (by_reference (typed ty t)) rest = covers_type ty && goes_as_index_term P q i t rest

abbrev pub hands_index : Program → (procedure place : ℕ) → Argument → (rest : Passed) → Bool
hands_index P q i a rest = cond (is_property P.declarations q) (goes_as_index P q i a rest) true
