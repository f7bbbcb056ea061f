-- The nodes of a Set that are used.
use Rattle.std.specs.Prelude.{List, [], ◌∷◌, ◌++◌}
use Rattle.std.specs.List.{flat_map}
use Rattle.bound_tree.specs.Tree.{Expr}
use Rattle.bound_facts.specs.Nodes.{nodes}
use Rattle.bound_facts.specs.Parts.{target_nodes}

abbrev pub set_nodes : List Expr → List Expr
set_nodes [] = []
set_nodes (e ∷ es) = target_nodes e ++ flat_map nodes es
