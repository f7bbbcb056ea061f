-- A scope in which no function's name is captured, and one in which a variable has the name of the support module.
use Rattle.std.proofs.Common.{◌≡◌, refl, true, false, [], ◌∷◌, codes, None}
use Rattle.net_tree.specs.Tree.{Project}
use Rattle.written_trees.specs.Names.{support}
use Rattle.net_run.specs.Names.{Scope, starts, at_place, path_start}
use Rattle.net_run.specs.Store.{nowhere}
use Rattle.row_laws.specs.Uncaptured.{IsUncaptured, IsTextUncaptured, IsMathUncaptured}

abbrev no_modules : Project
no_modules = record { library = false; main = None; note = None; modules = []; support = record { name = codes "UpgradeSupport"; class = false; members = [] } }

abbrev plain : Scope
plain = record { project = no_modules; home = 0; result_name = None; vars = []; me = None; around = nowhere }

uncaptured : IsUncaptured plain
uncaptured = record { no_variable = refl; no_member = refl; no_module = refl }

text_uncaptured : IsTextUncaptured plain
text_uncaptured = record { no_variable = refl; no_member = refl; no_module = refl }

math_uncaptured : IsMathUncaptured plain
math_uncaptured = record { no_variable = refl; no_member = refl; no_module = refl }

-- there the path means the variable
abbrev captured : Scope
captured = record plain { vars = (codes "upgradesupport", nowhere) ∷ [] }

means_the_variable : path_start captured true (support (codes "Cur")) ≡ starts (at_place nowhere) (codes "Cur" ∷ [])
means_the_variable = refl
