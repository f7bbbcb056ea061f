-- Heads of procedures, one kind at a time.
use Rattle.std.specs.Prelude.{ℕ, Bool, false, cond, List, Option, option_map, slice_get}
use Rattle.vb_tree.specs.declared.declared.Owner.{Owner}
use Rattle.bound_tree.specs.Tree.{Variable, Procedure, Declarations}
use Rattle.net_tree.specs.declared.declaration.NetPassing.{NetPassing}
use Rattle.net_tree.specs.declared.declaration.NetPassing.TheVariants.{Value}
use Rattle.net_tree.specs.Tree as net
use Rattle.written_trees.specs.Heads.{params_of, passing_of, result_type, written_visibility}
use Rattle.written_trees.specs.Names.{Scope}
use Rattle.written_trees.specs.Types.{variable_type}

abbrev pub written_passing : (by_value : Bool) → Owner → NetPassing
written_passing by_value o = cond by_value Value (passing_of o)

abbrev pub written_param : Scope → (by_value : Bool) → (variable : ℕ) → Variable → net.Param
written_param S by_value v x = record {
  passing = written_passing by_value x.owner;
  name = x.name;
  ty = variable_type S.declarations S.facts S.file v x;
}

abbrev pub variable_at : Declarations → ℕ → Option (ℕ × Variable)
variable_at D v = option_map (λ (x : Variable). (v, x)) (slice_get D.vars v)

abbrev pub function_head : Scope → Procedure → List ℕ → net.Head
function_head S q name = net.function (written_visibility q.visibility) name (params_of S false q.params) (result_type S q)

abbrev pub sub_head : Scope → Procedure → List ℕ → net.Head
sub_head S q name = net.sub (written_visibility q.visibility) name (params_of S false q.params)
