-- Expressions that do nothing but give a value.
use Rattle.std.specs.Prelude.{◌≡◌, Bool, true, false, []}
use Rattle.std.specs.List.{list_all}
use Rattle.vb_tree.specs.declared.bound.LibCall.{LibCall}
use Rattle.vb_tree.specs.declared.bound.LibCall.TheVariants as lib
use Rattle.bound_tree.specs.Tree.{Expr, typed, Term, constant, variable, library, unary, binary, convert}
use Rattle.bound_facts.specs.Nodes.{nodes}
use Rattle.run_base.specs.Outcomes.{Outcome, gives, raises, spent, outside}
use Rattle.vb6_run.specs.Store.{Memory}

-- a call of the library that gives a value of itself
abbrev pub gives_itself : LibCall → Bool
gives_itself lib.MsgBox = false
gives_itself lib.InputBox = false
gives_itself lib.IsEmpty = false
gives_itself lib.UBound = false
gives_itself lib.LBound = false
gives_itself _ = true

abbrev pub is_inert_term : Term → Bool
is_inert_term (constant x origin) = true
is_inert_term (variable v qualified) = true
is_inert_term (library f args) = gives_itself f
is_inert_term (unary op e) = true
is_inert_term (binary op d e) = true
is_inert_term (convert to e) = true
is_inert_term t = false

abbrev pub is_inert_node : Expr → Bool
is_inert_node (typed ty t) = is_inert_term t

-- constants, variables, operators, conversions and calls of the library alone, but for MsgBox and InputBox
abbrev pub is_inert : Expr → Bool
is_inert e = list_all is_inert_node (nodes e)

-- nothing is put out, and the memory stays as it is
abbrev pub ChangesNothing : {A : Type 0} → Memory → Outcome Memory A → Type 0
ChangesNothing w (gives o x v) = (o ≡ []) × (v ≡ w)
ChangesNothing w (raises o n v) = (o ≡ []) × (v ≡ w)
ChangesNothing w (spent o v) = ⊥
ChangesNothing w (outside o) = o ≡ []
