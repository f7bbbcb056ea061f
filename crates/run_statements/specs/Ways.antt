-- How what is written for a procedure is called: as a procedure, or as a part of a property.
use Rattle.std.specs.Prelude.{◌≡◌, ℕ, Bool, true, false, List, [], Option, Some, slice_get}
use Rattle.vb_tree.specs.declared.declared.ProcKind.{ProcKind}
use Rattle.vb_tree.specs.declared.declared.ProcKind.TheVariants as kind
use Rattle.bound_tree.specs.Tree.{Object, no_object, of_object, Passed, Declarations}
use Rattle.written_trees.specs.Arguments.{is_property, is_property_kind}
use Rattle.written_trees.specs.Exprs.{is_bare, has_none}
use Rattle.written_trees.specs.Names.{Scope, procedure_path}
use Rattle.net_tree.specs.declared.declaration.NetPassing.{NetPassing}
use Rattle.net_tree.specs.Tree.{Project}
use Rattle.net_run.specs.Calls.{passings_at}
use Rattle.net_run.specs.Names as net_names
use Rattle.net_run.specs.Names.{Callee, to_procedure, to_property}
use Rattle.net_run.specs.Values.{Value}
use Rattle.run_matches.specs.CoveredExprs.{is_giving, takes_value}
use Rattle.run_matches.specs.Upgrades.{Upgrade}

-- as a procedure, or as one part of a property, beside which the other one may stand
pub data Way : Type 0 where
  as_procedure : Way
  as_get : (set : Option ℕ) → Way
  as_set : (get : Option ℕ) → Way

-- what is written for the procedure as a procedure of a number
abbrev pub callee_by : Way → (object : Option Value) → (number : ℕ) → Callee
callee_by as_procedure object n = to_procedure object n
callee_by (as_get set) object n = to_property object (Some n) set
callee_by (as_set get) object n = to_property object get (Some n)

-- how its arguments are taken: by a part of a property as values
abbrev pub passings_by : Project → Way → (number : ℕ) → List NetPassing
passings_by N as_procedure n = passings_at N (Some n)
passings_by N (as_get set) n = []
passings_by N (as_set get) n = []

abbrev pub SuitsKind : Way → ProcKind → Type 0
SuitsKind as_procedure k = is_property_kind k ≡ false
SuitsKind (as_get set) k = k ≡ kind.Get
SuitsKind (as_set get) k = takes_value k ≡ true

-- by its name alone it is found as it is before arguments: that names no result
abbrev pub LeadsAlone : net_names.Scope → Scope → (callee : ℕ) → (qualified : Bool) → Object → Type 0
LeadsAlone S T q qualified no_object = net_names.path_start S false (procedure_path T qualified q) ≡ net_names.path_start S true (procedure_path T qualified q)
LeadsAlone S T q qualified (of_object e) = Unit {0}

-- by its name alone, where it has no arguments
pub record StandsBare (S : net_names.Scope) (T : Scope) (callee : ℕ) (qualified : Bool) (of : Object) (args : Passed) : Type 0 where
  pub bare : is_bare T callee qualified of args ≡ true
  pub leads : LeadsAlone S T callee qualified of

-- a part of a property
pub record IsPart (D : Declarations) (S : net_names.Scope) (T : Scope) (callee : ℕ) (qualified : Bool) (of : Object) (args : Passed) : Type 0 where
  pub property : is_property D callee ≡ true
  pub alone : has_none args ≡ true → StandsBare S T callee qualified of args

-- a procedure is called in a way that suits it
abbrev pub IsWay : Upgrade → net_names.Scope → Scope → Way → (callee : ℕ) → (qualified : Bool) → Object → Passed → Type 0
IsWay U S T as_procedure q qualified of args = is_property U.program.declarations q ≡ false
IsWay U S T (as_get set) q qualified of args =
    IsPart U.program.declarations S T q qualified of args × (is_giving (slice_get U.program.declarations.procs q) ≡ true)
IsWay U S T (as_set get) q qualified of args =
    IsPart U.program.declarations S T q qualified of args × (is_giving (slice_get U.program.declarations.procs q) ≡ false)
