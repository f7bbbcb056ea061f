-- The names and the texts of a project that a folder holds, and of one of the grammar, and the depth of its lines.
use Rattle.std.proofs.Common.{◌≡◌, ℕ, ◌+◌, true, List, [], ◌∷◌, refl, ap, ◌∙◌}
use Rattle.std.specs.List.{list_all}
use Rattle.up_base.specs.Names.{is_name}
use Rattle.up_base.specs.Outside.{Files}
use Rattle.vb_tree.specs.declared.project.Entry.{Entry}
use Rattle.vb_tree.specs.declared.project.ProjectFile.{ProjectFile}
use Rattle.vb_tree.specs.ProjectLines.{lines_of, is_module_name, is_named}
use Rattle.vb_tree.specs.Tree.{Module, Project}
use Rattle.project_file.proofs.EntryNames.{named_entries}
use Rattle.project_loader.specs.Held.{TextIsFile, HeldEntries, HeldProject, AreModules, IsOfGrammar}
use Rattle.project_loader.specs.Modules.{TextIsModule}
use Rattle.project_loader.specs.Texts.{size_of, decoded}
use Rattle.module_names.specs.Limits.{is_shallow_module}
use Rattle.module_names.specs.Named.{is_named_module}
use Rattle.up_base.proofs.Lists.{both_true, all_more, all_first, all_rest}
use Rattle.module_names.proofs.Modules.{named_module, shallow_module}
use Rattle.module_names.proofs.Units.{decoded_singly}

entry_named : (entry : Entry) (k : ℕ) (bytes : List ℕ) (m : Module) → is_named entry ≡ true → TextIsModule entry k (decoded bytes) m → is_named_module m ≡ true
entry_named entry k bytes m h is = named_module entry k (decoded bytes) m (both_true (is_module_name entry.name) (is_name entry.file) h).0 (decoded_singly bytes) is

held_entries : (files : Files) (before k : ℕ) (entries : List Entry) (modules : List Module) → list_all is_named entries ≡ true → HeldEntries files before k entries modules → list_all is_named_module modules ≡ true
held_entries files before k [] [] h e = refl
held_entries files before k [] (m ∷ ms) h e = absurd e
held_entries files before k (entry ∷ entries) [] h e = absurd e
held_entries files before k (entry ∷ entries) (m ∷ ms) h e =
    all_more is_named_module m ms
    (entry_named entry k e.0.bytes m (all_first is_named entry entries h) e.0.is)
    (held_entries files (before + size_of (files entry.file)) (k + 1) entries ms (all_rest is_named entry entries h) e.1)

read_entries : (k : ℕ) (entries : List Entry) (modules : List Module) → list_all is_named entries ≡ true → AreModules k entries modules → list_all is_named_module modules ≡ true
read_entries k [] [] h e = refl
read_entries k [] (m ∷ ms) h e = absurd e
read_entries k (entry ∷ entries) [] h e = absurd e
read_entries k (entry ∷ entries) (m ∷ ms) h e =
    all_more is_named_module m ms
    (entry_named entry k e.0.0 m (all_first is_named entry entries h) e.0.1)
    (read_entries (k + 1) entries ms (all_rest is_named entry entries h) e.1)

file_entries : (text : List ℕ) (file : ProjectFile) → TextIsFile text file → list_all is_named file.entries ≡ true
file_entries text file is = ap (λ (f : ProjectFile). list_all is_named f.entries) is.says ∙ named_entries (lines_of text)

pub named_project : (files : Files) (name : List ℕ) (P : Project) → HeldProject files name P → list_all is_named_module P.modules ≡ true
named_project files name P h =
    held_entries files (size_of (files name)) 1 P.file.entries P.modules (file_entries (decoded h.file.bytes) P.file h.file.is) h.modules

pub named_grammar : (P : Project) → IsOfGrammar P → list_all is_named_module P.modules ≡ true
named_grammar P h = read_entries 1 P.file.entries P.modules (file_entries (decoded h.bytes) P.file h.file) h.modules

shallow_entries : (k : ℕ) (entries : List Entry) (modules : List Module) → AreModules k entries modules → list_all is_shallow_module modules ≡ true
shallow_entries k [] [] e = refl
shallow_entries k [] (m ∷ ms) e = absurd e
shallow_entries k (entry ∷ entries) [] e = absurd e
shallow_entries k (entry ∷ entries) (m ∷ ms) e =
    all_more is_shallow_module m ms
    (shallow_module entry k (decoded e.0.0) m (decoded_singly e.0.0) e.0.1)
    (shallow_entries (k + 1) entries ms e.1)

pub shallow_grammar : (P : Project) → IsOfGrammar P → list_all is_shallow_module P.modules ≡ true
shallow_grammar P h = shallow_entries 1 P.file.entries P.modules h.modules
