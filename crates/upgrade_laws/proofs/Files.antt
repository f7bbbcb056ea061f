-- The modules of a project that a folder holds stand in different files: they are numbered as the entries of its project file.
use Rattle.std.proofs.Common.{◌≡◌, ℕ, suc, ◌+◌, ◌≤◌, false, nat_eq, List, [], ◌∷◌, subst, arith}
use Rattle.std.specs.List.{AllByRecursion as Each}
use Rattle.std.proofs.lemmas.Bool.Decides.{nat_tests}
use Rattle.up_base.specs.Outside.{Files}
use Rattle.vb_tree.specs.declared.project.Entry.{Entry}
use Rattle.vb_tree.specs.Tree.{Module, Project}
use Rattle.vb_lines.specs.Modules.{Head, ended, malformed, unended, head_of, IsModule}
use Rattle.project_loader.specs.Held.{AreModules, HeldEntries, HeldProject, IsOfGrammar}
use Rattle.project_loader.specs.Texts.{size_of}
use Rattle.upgrade_laws.specs.Separate.{HaveDifferentFiles}
use Rattle.upgrade_laws.proofs.Lists.{each_from}

-- modules whose files have the numbers from k on
abbrev AreNumbered : (k : ℕ) → List Module → Type 0
AreNumbered k [] = Unit {0}
AreNumbered k (m ∷ ms) = (m.file ≡ k) × AreNumbered (suc k) ms

later : (k : ℕ) (ms : List Module) → AreNumbered k ms → Each (λ (m : Module). k ≤ m.file) ms
later k [] h = tt
later k (m ∷ ms) h = (omega (arith, h.0), each_from (λ (x : Module). suc k ≤ x.file) (λ (x : Module). k ≤ x.file) (λ x e. omega (arith, e)) ms (later (suc k) ms h.1))

apart : (a b k : ℕ) → a ≡ k → suc k ≤ b → nat_eq a b ≡ false
apart a b k e h = grind (arith, nat_tests)

different : (k : ℕ) (ms : List Module) → AreNumbered k ms → HaveDifferentFiles ms
different k [] h = tt
different k (m ∷ ms) h = (
  each_from (λ (x : Module). suc k ≤ x.file) (λ (x : Module). nat_eq m.file x.file ≡ false) (λ x e. apart m.file x.file k h.0 e) ms (later (suc k) ms h.1),
  different (suc k) ms h.1,
)

-- ---- numbers of entries

pub file_is : (entry : Entry) (k : ℕ) (head : Head) (m : Module) → IsModule entry k head m → m.file ≡ k
file_is entry k (ended body) m is = is.file
file_is entry k (malformed place) m is = absurd is
file_is entry k unended m is = absurd is

behind : (k : ℕ) (ms : List Module) → AreNumbered (k + 1) ms → AreNumbered (suc k) ms
behind k ms h = subst (λ (n : ℕ). AreNumbered n ms) (omega arith) h

entries_numbered : (k : ℕ) (entries : List Entry) (ms : List Module) → AreModules k entries ms → AreNumbered k ms
entries_numbered k [] [] are = tt
entries_numbered k [] (m ∷ ms) are = absurd are
entries_numbered k (entry ∷ entries) [] are = absurd are
entries_numbered k (entry ∷ entries) (m ∷ ms) are = (
  file_is entry k (head_of entry.class are.0.1.lines) m are.0.1.is,
  behind k ms (entries_numbered (k + 1) entries ms are.1),
)

pub held_are : (files : Files) (before k : ℕ) (entries : List Entry) (ms : List Module) → HeldEntries files before k entries ms → AreModules k entries ms
held_are files before k [] [] h = tt
held_are files before k [] (m ∷ ms) h = absurd h
held_are files before k (entry ∷ entries) [] h = absurd h
held_are files before k (entry ∷ entries) (m ∷ ms) h = ((h.0.bytes, h.0.is), held_are files (before + size_of (files entry.file)) (k + 1) entries ms h.1)

-- ---- projects

pub grammar_differs : (P : Project) → IsOfGrammar P → HaveDifferentFiles P.modules
grammar_differs P is = different 1 P.modules (entries_numbered 1 P.file.entries P.modules is.modules)

pub held_differs : (files : Files) (name : List ℕ) (P : Project) → HeldProject files name P → HaveDifferentFiles P.modules
held_differs files name P h = different 1 P.modules (entries_numbered 1 P.file.entries P.modules (held_are files (size_of (files name)) 1 P.file.entries P.modules h.modules))
