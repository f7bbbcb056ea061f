-- The Subs by whose names something runs by itself.
use Rattle.std.specs.Prelude.{ℕ, List, codes, filter, map, Option}
use Rattle.vb_tree.specs.Tree.{Module}
use Rattle.bound_tree.specs.Tree.{Declarations}
use Rattle.net_rewrite.specs.declared.starts.Special.{Special}
use Rattle.net_rewrite.specs.declared.starts.Special.TheVariants as special
use Rattle.written_trees.specs.Projects.{declares_main, only}

abbrev pub special_name : Special → List ℕ
special_name special.Initializer = codes "Class_Initialize"
special_name special.Main = codes "Main"

abbrev pub mains : Declarations → List Module → List Module
mains D ms = filter (declares_main D) ms

abbrev pub only_name : List Module → Option (List ℕ)
only_name ms = only (map (λ (m : Module). m.name) ms)
