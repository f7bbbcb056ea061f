-- Parts of properties, step by step.
use Rattle.std.specs.Prelude.{ℕ, Bool, cond, List, [], Some}
use Rattle.vb_tree.specs.Tree.{Nodes, Member}
use Rattle.vb_tree.specs.Tree as source
use Rattle.bound_tree.specs.Tree.{Procedure, Program}
use Rattle.written_trees.specs.Names.{Scope}
use Rattle.written_trees.specs.Placing.{Placed}
use Rattle.written_trees.specs.Properties.{Part, head_comments, part_procedure}

-- the comments before the head of a later part
abbrev pub comments_if : Scope → (later : Bool) → Placed → (head : source.Line) → List (List ℕ)
comments_if S later p head = cond later (head_comments S p head) []

-- the part that a procedure is
abbrev pub part_with : Program → Scope → (later : Bool) → Placed → (head : source.Line) → Nodes → Procedure → Part
part_with P S later p head body q = record { comments = comments_if S later p head; procedure = Some (part_procedure P S p body q) }
