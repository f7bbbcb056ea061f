-- The module of the functions that modules need.
use Rattle.std.proofs.Common.{◌≡◌, false, List, ◌++◌, map, codes, refl, ap, ◌∙◌}
use Rattle.std.specs.List.{filter}
use Rattle.bound_tree.specs.Tree.{Declarations}
use Rattle.bound_facts.specs.Members.{class_files}
use Rattle.net_tree.specs.Tree.{Member, Module, proc}
use Rattle.written_trees.specs.Facts.{Facts}
use Rattle.written_trees.specs.Supports as rows
use Rattle.written_trees.specs.Supports.{autos_from, is_needed, types_from}
use Rattle.support_modules.specs.Fillings.{all_functions}
use Rattle.support_text.specs.FixedFunctions.{fixed_functions, printing_functions, basic_functions, variant_functions, arithmetic_functions, logic_functions, conversion_functions, assignment_functions}
use Rattle.support_modules.specs.Flags.{needed}
use Rattle.support_modules.proofs.NeededFlags.{needed_are}

-- the lists of the functions that are the same for all projects are the same
same_fixed : fixed_functions ≡ rows.fixed_functions
unfolding fixed_functions printing_functions basic_functions variant_functions arithmetic_functions logic_functions conversion_functions assignment_functions
same_fixed = refl

abbrev module_with : List Member → Module
module_with members = record { name = codes "UpgradeSupport"; class = false; members = members }

all_same : (D : Declarations) (F : Facts) → all_functions D F ≡ rows.all_functions D F
all_same D F = ap (λ fixed. fixed ++ (autos_from D 0 (class_files D.project) ++ types_from D F 0 D.types)) same_fixed

pub whole_module : (D : Declarations) (F : Facts) (modules : List Module) (members : List Member) → members ≡ map proc (needed (all_functions D F) modules) → module_with members ≡ rows.support_module D F modules
whole_module D F modules members h =
    ap module_with (h ∙ ap (map proc) (needed_are (all_functions D F) modules))
    ∙ ap (λ all. module_with (map proc (filter (is_needed all modules) all))) (all_same D F)
