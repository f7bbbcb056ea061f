-- When the support module has the functions that are used.
use Rattle.std.specs.Prelude.{◌≡◌, ℕ, Bool, true, false, codes, List, map, filter}
use Rattle.bound_tree.specs.declared.rule_set.RuleSet.{RuleSet}
use Rattle.bound_tree.specs.Tree.{Declarations, Line, Program}
use Rattle.net_tree.specs.Tree as net
use Rattle.written_trees.specs.Facts.{Facts}
use Rattle.written_trees.specs.Supports.{all_functions, is_used, calls, is_same_function}
use Rattle.run_matches.specs.CoveredLines.{covers_line}
use Rattle.run_matches.specs.Covered.{covers_names}
use Rattle.correspondence.specs.Lists.{In}
use Rattle.correspondence.specs.Paths.{Each, NamesFunction, paths_of_line}
use Rattle.correspondence.specs.Variants.{is_replaced}

-- a function leads to another, which its name tells, by calls
pub data Leads (all : List net.Procedure) : net.Procedure → net.Procedure → Type 0 where
  itself : {f g : net.Procedure} → is_same_function f g ≡ true → Leads all f g
  calling : {f g h : net.Procedure} → In h all → calls f h ≡ true → Leads all h g → Leads all f g

-- a function that modules use leads to it
pub record IsNeeded (all : List net.Procedure) (modules : List net.Module) (g : net.Procedure) : Type 0 where
  pub user : net.Procedure
  pub among : In user all
  pub used : is_used modules user ≡ true
  pub leads : Leads all user g

-- The support module has exactly the functions that the written modules use and those to which these lead, in their order.
pub record SupportCorresponds (D : Declarations) (F : Facts) (modules : List net.Module) (w : net.Module) : Type 0 where
  pub name : w.name ≡ codes "UpgradeSupport"
  pub class : w.class ≡ false
  pub set : net.Procedure → Bool
  pub members : w.members ≡ map net.proc (filter set (all_functions D F))
  pub has_used : (g : net.Procedure) → In g (all_functions D F) → is_used modules g ≡ true → set g ≡ true
  pub has_needed : (g : net.Procedure) → In g (all_functions D F) → IsNeeded (all_functions D F) modules g → set g ≡ true
  pub least : (g : net.Procedure) → set g ≡ true → IsNeeded (all_functions D F) modules g

-- a line that is replaced, or that is covered where nothing is named as the support module is: each path in it that begins with the name of the support module names a function of that
abbrev pub LineIsSupported : Program → (procedure : ℕ) → (support : net.Module) → RuleSet × Line → net.Line → Type 0
LineIsSupported P p support c w =
    (is_replaced c.0 ≡ true → Each (NamesFunction support) (paths_of_line w))
    × (is_replaced c.0 ≡ false → covers_names P.declarations ≡ true → covers_line P p c.1 ≡ true → Each (NamesFunction support) (paths_of_line w))
