-- What is known of a project of the grammar: its entries, and the modules by them.
use Rattle.std.proofs.Common.{◌≡◌, ℕ, ◌+◌, true, List, [], ◌∷◌, ap, ◌∙◌}
use Rattle.std.specs.List.{list_all}
use Rattle.vb_tree.specs.declared.project.Entry.{Entry}
use Rattle.vb_tree.specs.ProjectLines.{is_named, are_apart, lines_of}
use Rattle.vb_tree.specs.Tree.{Module, Project}
use Rattle.vb_lines.specs.Modules.{Head, ended, malformed, unended, IsModule}
use Rattle.project_file.proofs.EntryNames.{named_entries}
use Rattle.project_file.proofs.Limits.{entries_apart}
use Rattle.project_loader.specs.Held.{AreModules, IsOfGrammar}
use Rattle.project_loader.specs.Texts.{decoded}

pub entries_named : (P : Project) → IsOfGrammar P → list_all is_named P.file.entries ≡ true
entries_named P g = ap (λ f. list_all is_named f.entries) g.file.says ∙ named_entries (lines_of (decoded g.bytes))

pub entries_are_apart : (P : Project) → IsOfGrammar P → are_apart P.file.entries ≡ true
entries_are_apart P g = ap (λ f. are_apart f.entries) g.file.says ∙ entries_apart (lines_of (decoded g.bytes)) g.file.right

-- modules have the names of their entries, and their numbers from k on
abbrev pub AreOf : (k : ℕ) → List Entry → List Module → Type 0
AreOf k [] [] = Unit {0}
AreOf k [] (m ∷ ms) = ⊥
AreOf k (e ∷ es) [] = ⊥
AreOf k (e ∷ es) (m ∷ ms) = (m.name ≡ e.name) × (m.file ≡ k) × AreOf (k + 1) es ms

module_of_entry : (e : Entry) (k : ℕ) (h : Head) (m : Module) → IsModule e k h m → (m.name ≡ e.name) × (m.file ≡ k)
module_of_entry e k (ended body) m is = (is.name, is.file)
module_of_entry e k (malformed place) m is = absurd is
module_of_entry e k unended m is = absurd is

are_of : (k : ℕ) (es : List Entry) (ms : List Module) → AreModules k es ms → AreOf k es ms
are_of k [] [] h = tt
are_of k [] (m ∷ ms) h = absurd h
are_of k (e ∷ es) [] h = absurd h
are_of k (e ∷ es) (m ∷ ms) h = let own = module_of_entry e k _ m h.0.1.is in (own.0, own.1, are_of (k + 1) es ms h.1)

pub modules_are_of : (P : Project) → IsOfGrammar P → AreOf 1 P.file.entries P.modules
modules_are_of P g = are_of 1 P.file.entries P.modules g.modules
