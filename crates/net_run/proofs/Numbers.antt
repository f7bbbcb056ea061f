-- The procedures of a project are numbered as the tree numbers them.
use Rattle.std.proofs.Common.{◌≡◌, ℕ, suc, true, false, refl, ap₂, ◌∙◌, List, [], ◌∷◌, ◌++◌, map, Option, Some, None}
use Rattle.std.specs.Prelude.{option_to_list, flat_map}
use Rattle.std.proofs.lemmas.List.{map-append}
use Rattle.net_tree.specs.FlatLines.{procedures_in, procedures_of_module, procedures_of}
use Rattle.net_tree.specs.Tree.{Member, member_comment, variable, const_member, structure, property, proc, Module, Procedure, Property, Project}
use Rattle.net_run.specs.Members.{Code, part_code, codes_of_member, codes_of_members, codes_of_modules, codes_of}

abbrev pub listed : List Code → List Procedure
listed codes = map (λ (c : Code). c.procedure) codes

parts_listed : (home k : ℕ) (p : Property) (get set : Option Procedure)
    → listed (part_code home k false p get ++ part_code home k true p set) ≡ option_to_list get ++ option_to_list set
parts_listed home k p None None = refl
parts_listed home k p None (Some s) = refl
parts_listed home k p (Some g) None = refl
parts_listed home k p (Some g) (Some s) = refl

member_listed : (home k : ℕ) (m : Member) → listed (codes_of_member home k m) ≡ procedures_in m
member_listed home k (member_comment units) = refl
member_listed home k (variable visibility v) = refl
member_listed home k (const_member visibility c) = refl
member_listed home k (structure s) = refl
member_listed home k (property p) = parts_listed home k p p.get p.set
member_listed home k (proc p) = refl

members_listed : (home k : ℕ) (members : List Member) → listed (codes_of_members home k members) ≡ flat_map procedures_in members
members_listed home k [] = refl
members_listed home k (m ∷ members) =
    map-append (λ (c : Code). c.procedure) (codes_of_member home k m) (codes_of_members home (suc k) members)
    ∙ ap₂ (λ (ps : List Procedure) (qs : List Procedure). ps ++ qs) (member_listed home k m) (members_listed home (suc k) members)

modules_listed : (home : ℕ) (modules : List Module) → listed (codes_of_modules home modules) ≡ flat_map procedures_of_module modules
modules_listed home [] = refl
modules_listed home (m ∷ modules) =
    map-append (λ (c : Code). c.procedure) (codes_of_members home 0 m.members) (codes_of_modules (suc home) modules)
    ∙ ap₂ (λ (ps : List Procedure) (qs : List Procedure). ps ++ qs) (members_listed home 0 m.members) (modules_listed (suc home) modules)

pub same_numbers : (N : Project) → listed (codes_of N) ≡ procedures_of N
same_numbers N = modules_listed 0 N.modules
