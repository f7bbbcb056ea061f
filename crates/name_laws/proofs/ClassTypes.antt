-- What is written for a covered class: its name leads from every module to the class that stands for it.
use Rattle.std.proofs.Common.{◌≡◌, refl, ap, sym, subst, ◌∙◌, ℕ, zero, suc, Bool, true, false, cond, not, ◌&&◌, nat_eq, List, [], ◌∷◌, Option, Some, None, slice_get, inl, inr, true≢false}
use Rattle.std.specs.Prelude.{is_some, option_and_then, position}
use Rattle.std.specs.Cmp.Lexicographic.{pointwise}
use Rattle.std.specs.List.{flat_map, list_all}
use Rattle.std.proofs.lemmas.Bool.{eqb-true}
use Rattle.up_base.specs.Names.{is_same_name, lower_case}
use Rattle.vb_tree.specs.BoundTree as types
use Rattle.vb_tree.specs.Tree.{Module}
use Rattle.bound_tree.specs.declared.declared.TypeDecl.{TypeDecl}
use Rattle.bound_tree.specs.Tree.{Declarations, Program}
use Rattle.bound_facts.specs.Members.{class_files, terminator}
use Rattle.net_tree.specs.Tree as net
use Rattle.net_tree.specs.Types as words
use Rattle.net_tree.specs.Types.{TypeName}
use Rattle.written_trees.specs.DeclaredMembers.{type_name}
use Rattle.written_trees.specs.Facts.{Facts}
use Rattle.written_trees.specs.Names.{Scope, alone, auto_name, class_name_of, class_path, is_standard_module, module_at, module_name}
use Rattle.written_trees.specs.Placing.{Numbers, Placed, behind_members, placed_members}
use Rattle.written_trees.specs.Projects.{first_numbers, module_scope, modules_from, next_module, written_module}
use Rattle.net_run.specs.Calls.{auto_class}
use Rattle.net_run.specs.Shapes as shape
use Rattle.net_run.specs.Shapes.{class_by, first_from, is_structure, is_structure_named, members_of, module_in, module_named, shape_of, structure_found}
use Rattle.run_matches.specs.Callees.{begins_below, is_source_name, is_that_place}
use Rattle.run_matches.specs.CoveredVariables.{covers_class, covers_class_file, is_named_first}
use Rattle.run_matches.specs.SoundShapes.{IsClass}
use Rattle.run_matches.specs.Upgrades.{Upgrade, class_home, home_of}
use Rattle.run_statements.specs.Written.{IsWritten}
use Rattle.name_laws.specs.Objects.{AutosAreFound, ClassesAreFound}
use Rattle.name_laws.proofs.Counting.{found_stands}
use Rattle.name_laws.proofs.CoveredTypes.{among_flat}
use Rattle.name_laws.proofs.Led.{first_written}
use Rattle.name_laws.proofs.Lists.{Among, all_at, both_true, some_same}
use Rattle.name_laws.proofs.Looked.{not_true, position_at}
use Rattle.name_laws.proofs.Structures.{group_of, same_place, structure_named}
use Rattle.name_laws.proofs.Words.{depth_of}
use Rattle.name_laws.proofs.WrittenTypes.{filter_among, module_structures, structures_of}

-- ---- what the tests say

-- the first module of the name of the class is the class, and no user type has that name
pub record ClassLed (D : Declarations) (c : ℕ) : Type 0 where
  pub file : ℕ
  pub is_file : slice_get (class_files D.project) c ≡ Some file
  pub home : ℕ
  pub is_home : position (λ (m : Module). nat_eq m.file file) D.project.modules ≡ Some home
  pub first : ℕ × Module
  pub is_first : first_from (λ (m : Module). is_same_name m.name (module_name D file)) 0 D.project.modules ≡ Some first
  pub first_home : first.0 ≡ home
  pub is_class : first.1.class ≡ true
  pub named : is_same_name [] (module_name D file) ≡ false
  pub others : list_all (λ (t : TypeDecl). not (is_same_name t.name (module_name D file))) D.types ≡ true

no_name : (name : List ℕ) → is_source_name name ≡ true → is_same_name [] name ≡ false
no_name name h = by (lower_case name) h
  where
    by : (cs : List ℕ) → not (begins_below cs) ≡ true → pointwise nat_eq [] cs ≡ false
    by [] e = absurd (cc e)
    by (c ∷ cs) e = refl

-- the module of a file stands where the file does
class_at : (D : Declarations) (file home : ℕ) (f : ℕ × Module) → position (λ (m : Module). nat_eq m.file file) D.project.modules ≡ Some home
    → first_from (λ (m : Module). is_same_name m.name (module_name D file)) 0 D.project.modules ≡ Some f → f.0 ≡ home
    → is_standard_module (module_at D.project file) ≡ false → f.1.class ≡ true
class_at D file home f i e same outer =
    let at = found_stands (λ (m : Module). is_same_name m.name (module_name D file)) 0 D.project.modules f.0 f.1 e in
    let number : at.0 ≡ home = same_place at.0 f.0 home at.1 same in
    let stands : slice_get D.project.modules home ≡ Some f.1 = ap (slice_get D.project.modules) (sym number) ∙ at.2 in
    let found = position_at (λ (m : Module). nat_eq m.file file) D.project.modules home f.1 i stands in
    is_true f.1.class (sym (ap is_standard_module found.1) ∙ outer)
  where
    is_true : (b : Bool) → not b ≡ false → b ≡ true
    is_true true h = refl
    is_true false h = absurd (cc h)

pub class_led : (D : Declarations) (c : ℕ) → covers_class D c ≡ true → ClassLed D c
class_led D c h = by_file (slice_get (class_files D.project) c) refl h
  where
    by_first : (file home : ℕ) → slice_get (class_files D.project) c ≡ Some file
        → position (λ (m : Module). nat_eq m.file file) D.project.modules ≡ Some home → is_source_name (module_name D file) ≡ true
        → is_standard_module (module_at D.project file) ≡ false
        → list_all (λ (t : TypeDecl). not (is_same_name t.name (module_name D file))) D.types ≡ true → (o : Option (ℕ × Module))
        → first_from (λ (m : Module). is_same_name m.name (module_name D file)) 0 D.project.modules ≡ o → is_that_place home o ≡ true → ClassLed D c
    by_first file home f i named outer others None e k = absurd (cc k)
    by_first file home f i named outer others (Some x) e k =
        let same : x.0 ≡ home = eqb-true x.0 home k in
        record {
          file = file;
          is_file = f;
          home = home;
          is_home = i;
          first = x;
          is_first = e;
          first_home = same;
          is_class = class_at D file home x i e same outer;
          named = no_name (module_name D file) named;
          others = others;
        }

    by_home : (file : ℕ) → slice_get (class_files D.project) c ≡ Some file → is_source_name (module_name D file) ≡ true
        → is_standard_module (module_at D.project file) ≡ false
        → list_all (λ (t : TypeDecl). not (is_same_name t.name (module_name D file))) D.types ≡ true → (o : Option ℕ)
        → position (λ (m : Module). nat_eq m.file file) D.project.modules ≡ o → is_named_first D (module_name D file) o ≡ true → ClassLed D c
    by_home file f named outer others None i k = absurd (cc k)
    by_home file f named outer others (Some home) i k =
        by_first file home f i named outer others (first_from (λ (m : Module). is_same_name m.name (module_name D file)) 0 D.project.modules) refl k

    by_file : (o : Option ℕ) → slice_get (class_files D.project) c ≡ o → (covers_class_file D o && not (is_some (terminator D c))) ≡ true → ClassLed D c
    by_file None f k = absurd (cc k)
    by_file (Some file) f k =
        let place = position (λ (m : Module). nat_eq m.file file) D.project.modules in
        let named = is_source_name (module_name D file) in
        let outer = not (is_standard_module (module_at D.project file)) in
        let first = is_named_first D (module_name D file) place in
        let others = list_all (λ (t : TypeDecl). not (is_same_name t.name (module_name D file))) D.types in
        let a = both_true (covers_class_file D (Some file)) (not (is_some (terminator D c))) k in
        let b = both_true (named && outer) (first && others) a.0 in
        let d = both_true named outer b.0 in
        let e = both_true first others b.1 in
        by_home file f d.0 (not_true (is_standard_module (module_at D.project file)) d.1) e.1 place refl e.0

-- ---- no structure has its name

pub none_first : {X : Type 0} (test : X → Bool) (k : ℕ) (xs : List X) → ((x : X) → Among xs x → test x ≡ false) → first_from test k xs ≡ None
none_first test k [] each = refl
none_first test k (x ∷ xs) each =
    ap (λ b. cond b (Some (k, x)) (first_from test (suc k) xs)) (each x (inl refl)) ∙ none_first test (suc k) xs (λ y a. each y (inr a))

module _ (P : Program) (F : Facts) (name : List ℕ) (named : is_same_name [] name ≡ false)
    (others : list_all (λ (t : TypeDecl). not (is_same_name t.name name)) P.declarations.types ≡ true) where
  type_other : (o : Option TypeDecl) (t : ℕ) → slice_get P.declarations.types t ≡ o → is_same_name (type_name o) name ≡ false
  type_other None t e = named
  type_other (Some d) t e =
      not_true (is_same_name d.name name) (all_at (λ (t : TypeDecl). not (is_same_name t.name name)) P.declarations.types t d others e)

  member_other : (at : Numbers) (m : Module) (x : net.Member) → Among (written_module P F at m).members x → is_structure_named name x ≡ false
  member_other at m x a = by (is_structure_named name x) refl
    where
      by : (b : Bool) → is_structure_named name x ≡ b → b ≡ false
      by false e = refl
      by true e =
          let S : Scope = module_scope P F m in
          let ps : List Placed = placed_members at m.comments m.members in
          let all : Among (flat_map (structures_of S) ps) x =
          subst (λ (zs : List net.Member). Among zs x) (module_structures P F at m)
          (filter_among is_structure (written_module P F at m).members x a (structure_named name x e)) in
          let q = among_flat (structures_of S) ps x all in
          let g = group_of S ps q.0 q.0.member x q.1 refl q.2 in
          let number : ℕ = q.0.at.user_type in
          absurd
          (true≢false (sym e ∙ ap (is_structure_named name) g.2 ∙ type_other (slice_get P.declarations.types number) number refl))

  no_structure : (at : Numbers) (ms : List Module) (home : ℕ) → first_from (is_structure_named name) 0 (members_of (module_in (modules_from P F at ms) home)) ≡ None
  no_structure at [] home = refl
  no_structure at (m ∷ ms) zero = none_first (is_structure_named name) 0 (written_module P F at m).members (member_other at m)
  no_structure at (m ∷ ms) (suc home) = no_structure (next_module (behind_members at m.members)) ms home

-- ---- names lead there

module _ (U : Upgrade) (c : ℕ) (L : ClassLed U.program.declarations c) where
  abbrev D : Declarations
  D = U.program.declarations

  abbrev N : net.Project
  N = U.written

  abbrev name : List ℕ
  name = module_name D L.file

  pub class_home_is : class_home U c ≡ Some L.home
  class_home_is = ap (option_and_then (home_of U)) L.is_file ∙ L.is_home

  pub is_class : IsClass U (types.class c)
  is_class = (c, L.home, refl, class_home_is)

  written_modules : IsWritten U → N.modules ≡ modules_from U.program U.facts first_numbers D.project.modules
  written_modules I = ap (λ (M : net.Project). M.modules) I.is_written

  -- the module of its name is the class
  named_class : IsWritten U → class_by (module_named N name) ≡ shape.class L.home
  named_class I =
      let w = first_written U.program U.facts name 0 first_numbers D.project.modules L.first L.is_first in
      let found : module_named N name ≡ Some (L.first.0, w.0) =
      ap (λ ms. first_from (λ (m : net.Module). is_same_name m.name name) 0 ms) (written_modules I) ∙ w.1 in
      ap class_by found
      ∙ ap (λ b. cond b (shape.class L.first.0) shape.shapeless) (w.2 ∙ L.is_class)
      ∙ ap shape.class L.first_home

  -- the function that makes an object says its name
  pub auto_leads : IsWritten U → auto_class N (auto_name D c) ≡ shape.class L.home
  auto_leads I = ap (λ o. class_by (module_named N (class_name_of D o))) L.is_file ∙ named_class I

  -- what is written for its name in any module has its shape
  pub class_leads : IsWritten U → (home : ℕ) → shape_of N home (words.named (class_path D c)) ≡ shape.class L.home
  class_leads I home =
      let none : first_from (is_structure_named name) 0 (members_of (shape.module_at N home)) ≡ None =
      ap (λ ms. first_from (is_structure_named name) 0 (members_of (module_in ms home))) (written_modules I)
      ∙ no_structure U.program U.facts name L.named L.others first_numbers D.project.modules home in
      let of : ℕ → TypeName → shape.Shape = shape.shape_within N (suc (depth_of N)) in
      ap (λ o. shape_of N home (words.named (alone (class_name_of D o)))) L.is_file
      ∙ ap (structure_found of home (class_by (module_named N name))) none
      ∙ named_class I

-- so it has that of what is written for the class
pub classes_are_found : (U : Upgrade) → IsWritten U → ClassesAreFound U
classes_are_found U I c home at h is_home =
    let L : ClassLed U.program.declarations c = class_led U.program.declarations c h in
    class_leads U c L I at ∙ ap shape.class (some_same L.home home (sym (class_home_is U c L) ∙ is_home))

-- so does the name of the function that makes an object of it
pub autos_are_found : (U : Upgrade) → IsWritten U → AutosAreFound U
autos_are_found U I c home h is_home =
    let L : ClassLed U.program.declarations c = class_led U.program.declarations c h in
    auto_leads U c L I ∙ ap shape.class (some_same L.home home (sym (class_home_is U c L) ∙ is_home))
