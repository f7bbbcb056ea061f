-- Modules of the grammar are in order: their lines stand in their files, and their procedures have heads.
use Rattle.std.proofs.Common.{◌≡◌, ℕ, ◌+◌, Bool, true, false, List, [], ◌∷◌, refl, sym, ap, subst, ◌∙◌}
use Rattle.std.specs.Prelude.{is_some, All}
use Rattle.std.specs.List.{AllByRecursion as Each, flat_map}
use Rattle.std.proofs.lemmas.List.Elements.{recursion_from_All}
use Rattle.up_base.specs.declared.place.Place.{Place}
use Rattle.up_base.specs.Outside.{Files}
use Rattle.vb_tree.specs.declared.block.Role.{Role}
use Rattle.vb_tree.specs.declared.block.Role.TheVariants.{Opens}
use Rattle.vb_tree.specs.declared.project.Entry.{Entry}
use Rattle.vb_tree.specs.Blocks.{is_procedure, role_of}
use Rattle.vb_tree.specs.FlatLines.{member_lines, module_lines}
use Rattle.vb_tree.specs.ModuleTree.{IsNested}
use Rattle.vb_tree.specs.Tree.{Form, sub_head, function_head, get_head, let_head, set_head, static_head, Member, alone, group, proc, Module, Project}
use Rattle.vb_lines.specs.Modules.{Head, ended, malformed, unended, head_of, IsModule}
use Rattle.declared_names.specs.Declaring as naming
use Rattle.project_loader.specs.Held.{AreModules, HeldProject, IsOfGrammar}
use Rattle.project_loader.specs.Modules.{TextIsModule}
use Rattle.project_loader.specs.Texts.{decoded, size_of}
use Rattle.issue_places.proofs.Modules.{module_stands}
use Rattle.upgrade_laws.specs.Ordered.{AreOrderly, HasHead, IsOrderly, StandsIn}
use Rattle.upgrade_laws.proofs.Files.{file_is, grammar_differs, held_are, held_differs}
use Rattle.upgrade_laws.proofs.Lists.{each_joined, each_left, each_right}

-- ---- heads

abbrev opens_procedure : Role → Bool
opens_procedure (Opens k) = is_procedure k
opens_procedure _ = false

has_head : (f : Form) → opens_procedure (role_of f) ≡ true → is_some (naming.head_of f) ≡ true
has_head (sub_head s) h = refl
has_head (function_head s r) h = refl
has_head (get_head s r) h = refl
has_head (let_head s) h = refl
has_head (set_head s) h = refl
has_head (static_head k s r) h = refl
has_head _ h = absurd (cc h)

member_headed : (m : Member) → IsNested m → HasHead m
member_headed (alone l) h = tt
member_headed (group head lines close) h = tt
member_headed (proc head body close) h = has_head head.form (ap opens_procedure h.1 ∙ h.2)

members_headed : (ms : List Member) → Each IsNested ms → Each HasHead ms
members_headed [] h = tt
members_headed (m ∷ ms) h = (member_headed m h.0, members_headed ms h.1)

-- ---- modules

each_parted : {A X : Type 0} (P : X → Type 0) (f : A → List X) (xs : List A) → Each P (flat_map f xs) → Each (λ (a : A). Each P (f a)) xs
each_parted P f [] h = tt
each_parted P f (a ∷ xs) h = (each_left P (f a) (flat_map f xs) h, each_parted P f xs (each_right P (f a) (flat_map f xs) h))

nested_in : (entry : Entry) (k : ℕ) (head : Head) (m : Module) → IsModule entry k head m → All IsNested m.members
nested_in entry k (ended body) m is = is.tree.nested
nested_in entry k (malformed place) m is = absurd is
nested_in entry k unended m is = absurd is

module_orderly : (entry : Entry) (k : ℕ) (text : List ℕ) (m : Module) → TextIsModule entry k text m → Each (IsOrderly m.file) m.members
module_orderly entry k text m is =
    let file : m.file ≡ k = file_is entry k (head_of entry.class is.lines) m is.is in
    let stands : Each (StandsIn k) (module_lines m) = module_stands (λ (p : Place). p.file ≡ k) entry k text m (λ line. refl) is in
    each_joined (λ (x : Member). Each (StandsIn m.file) (member_lines x)) HasHead (IsOrderly m.file) (λ x l h. record { lines = l; headed = h }) m.members
    (subst (λ (f : ℕ). Each (λ (x : Member). Each (StandsIn f) (member_lines x)) m.members) (sym file) (each_parted (StandsIn k) member_lines m.members stands))
    (members_headed m.members (recursion_from_All IsNested m.members (nested_in entry k (head_of entry.class is.lines) m is.is)))

modules_orderly : (k : ℕ) (entries : List Entry) (ms : List Module) → AreModules k entries ms → Each (λ (m : Module). Each (IsOrderly m.file) m.members) ms
modules_orderly k [] [] are = tt
modules_orderly k [] (m ∷ ms) are = absurd are
modules_orderly k (entry ∷ entries) [] are = absurd are
modules_orderly k (entry ∷ entries) (m ∷ ms) are = (module_orderly entry k (decoded are.0.0) m are.0.1, modules_orderly (k + 1) entries ms are.1)

-- ---- projects

pub grammar_orderly : (P : Project) → IsOfGrammar P → AreOrderly P.modules
grammar_orderly P is = record { files = grammar_differs P is; members = modules_orderly 1 P.file.entries P.modules is.modules }

pub held_orderly : (files : Files) (name : List ℕ) (P : Project) → HeldProject files name P → AreOrderly P.modules
held_orderly files name P h = record {
  files = held_differs files name P h;
  members = modules_orderly 1 P.file.entries P.modules (held_are files (size_of (files name)) 1 P.file.entries P.modules h.modules);
}
