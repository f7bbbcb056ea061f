-- The lines of the modules of a project of the grammar stand in the order of their numbers.
use Rattle.std.proofs.Common.{ℕ, ◌+◌, List, [], ◌∷◌}
use Rattle.vb_tree.specs.declared.project.Entry.{Entry}
use Rattle.vb_tree.specs.Tree.{Module, Project}
use Rattle.project_loader.specs.Held.{AreModules, IsOfGrammar}
use Rattle.project_loader.specs.Texts.{decoded}
use Rattle.line_order.specs.Order.{AreInOrder}
use Rattle.line_order.proofs.Modules.{ordered_module}

ordered_modules : (k : ℕ) (entries : List Entry) (modules : List Module) → AreModules k entries modules → AreInOrder modules
ordered_modules k [] [] h = tt
ordered_modules k [] (m ∷ ms) h = absurd h
ordered_modules k (entry ∷ entries) [] h = absurd h
ordered_modules k (entry ∷ entries) (m ∷ ms) h = (ordered_module entry k (decoded h.0.0) m h.0.1, ordered_modules (k + 1) entries ms h.1)

pub ordered_grammar : (P : Project) → IsOfGrammar P → AreInOrder P.modules
ordered_grammar P h = ordered_modules 1 P.file.entries P.modules h.modules
