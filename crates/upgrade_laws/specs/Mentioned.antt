-- Lines that mention the variables that they use.
use Rattle.std.specs.Prelude.{Bool}
use Rattle.std.specs.List.{Contains}
use Rattle.vb_tree.specs.BoundTree.{Ty}
use Rattle.vb_tree.specs.declared.declared.VarId.{VarId}
use Rattle.bound_tree.specs.declared.body.Mention.TheVariants as mention
use Rattle.bound_tree.specs.Tree.{Line, typed, variable}
use Rattle.bound_facts.specs.Nodes.{line_nodes}

-- each variable in the expressions of a line is among its mentions
abbrev pub MentionsVariables : Line → Type 0
MentionsVariables l =
    (v : VarId) (ty : Ty) (qualified : Bool) → Contains (line_nodes l) (typed ty (variable v qualified)) → Contains l.bindings.mentions (mention.Var v)
