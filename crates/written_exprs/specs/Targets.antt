-- Targets of Set that are written otherwise than where they are used.
use Rattle.std.specs.Prelude.{Option, Some, None}
use Rattle.bound_tree.specs.Tree.{Expr, typed, Term, variable, field}
use Rattle.net_tree.specs.Tree as net
use Rattle.written_trees.specs.Exprs.{exp_of, field_name, member_of}
use Rattle.written_trees.specs.Names.{Scope, variable_path}

abbrev pub place_term : Scope → Term → Option net.Exp
place_term S (variable v qualified) = Some (net.path (variable_path S qualified v.0))
place_term S (field e k) = Some (member_of e (exp_of S e) (field_name S e k))
place_term S _ = None

abbrev pub place_exp : Scope → Expr → Option net.Exp
place_exp S (typed ty t) = place_term S t
