-- A variable that objects of a class have is written as a member of the class, which is found by its name behind an object.
use Rattle.std.proofs.Common.{◌≡◌, refl, ap, sym, subst, ◌∙◌, ℕ, suc, true, false, cond, not, ◌&&◌, List, [], ◌∷◌, Some, slice_get}
use Rattle.std.specs.Prelude.{option_and_then}
use Rattle.std.proofs.lemmas.Bool.{eqb-true}
use Rattle.vb_tree.specs.BoundTree as types
use Rattle.vb_tree.specs.BoundTree.{Ty}
use Rattle.vb_tree.specs.declared.declared.Owner.{Owner}
use Rattle.vb_tree.specs.declared.declared.Owner.TheVariants as owner
use Rattle.bound_tree.specs.Tree.{Variable, Declarations}
use Rattle.bound_facts.specs.Clean.{variable, point_broken}
use Rattle.bound_facts.specs.Members.{at_option, class_files, class_variables, field_of, is_of_module, variables_from}
use Rattle.net_tree.specs.Tree as net
use Rattle.run_base.specs.Positions.{Key}
use Rattle.vb6_run.specs.Programs.{owned_from}
use Rattle.vb6_run.specs.Shapes.{declared_shape, user_shapes}
use Rattle.net_run.specs.Members.{member_named}
use Rattle.net_run.specs.Names as net_names
use Rattle.net_run.specs.Names.{at_field, found_at, key_of, named_member, some_member}
use Rattle.net_run.specs.Shapes.{members_of, module_at, shape_of}
use Rattle.net_run.specs.Values as net_value
use Rattle.run_matches.specs.CoveredVariables.{covers_group_type, covers_place_type, covers_type, is_member}
use Rattle.run_matches.specs.Likeness.{SameShape}
use Rattle.run_matches.specs.Match.{is_class_variable}
use Rattle.run_matches.specs.Shared.{is_alone_field}
use Rattle.run_matches.specs.Upgrades.{Upgrade, home_of, is_flagged, is_that, is_unknown}
use Rattle.run_statements.specs.Frames.{IsMember}
use Rattle.run_statements.specs.Written.{IsWritten}
use Rattle.name_laws.proofs.GroupTypes.{group_type}
use Rattle.name_laws.proofs.Led.{Stands, kept_alone}
use Rattle.name_laws.proofs.Lists.{among_at, both_true, same_number}
use Rattle.name_laws.proofs.Looked.{not_true}
use Rattle.name_laws.proofs.Owned.{owned_is}
use Rattle.name_laws.proofs.Owns.{group_known, type_known}
use Rattle.name_laws.proofs.Reached.{either}
use Rattle.name_laws.proofs.SoundPoints.{is_unflagged}
use Rattle.name_laws.proofs.Standing.{VariableMember, variable_member}
use Rattle.name_laws.proofs.Words.{VariableType, scalar_type}

-- ---- variables of a class

-- the variables of a module are those that it owns
pub module_owned : (file k : ℕ) (vs : List Variable) → variables_from file k vs ≡ owned_from (is_of_module file) k vs
module_owned file k [] = refl
module_owned file k (x ∷ xs) = ap (λ (ns : List ℕ). cond (is_of_module file x.owner) (k ∷ ns) ns) (module_owned file (suc k) xs)

pub owner_is : (file : ℕ) (o : Owner) → is_of_module file o ≡ true → o ≡ owner.Module file
owner_is file (owner.Module f) h = ap owner.Module (sym (eqb-true file f h))
owner_is file _ h = absurd (cc h)

class_owner : (D : Declarations) (c k file v : ℕ) (x : Variable) → slice_get (class_files D.project) c ≡ Some file → field_of D (types.class c) k ≡ Some v
    → slice_get D.vars v ≡ Some x → x.owner ≡ owner.Module file
class_owner D c k file v x is_file field is =
    let there : slice_get (variables_from file 0 D.vars) k ≡ Some v = sym (ap (λ o. at_option (class_variables D o) k) is_file) ∙ field in
    let own : slice_get (owned_from (is_of_module file) 0 D.vars) k ≡ Some v = sym (ap (λ ns. slice_get ns k) (module_owned file 0 D.vars)) ∙ there in
    owner_is file x.owner
    (owned_is (is_of_module file) D.vars v x (among_at (owned_from (is_of_module file) 0 D.vars) k v own) is)

-- ---- types that a place may hold

place_known : (D : Declarations) (ty : Ty) → covers_place_type D ty ≡ true → is_unknown (Some ty) ≡ false
place_known D ty h = either (covers_type ty) (covers_group_type D ty) h (λ s. type_known ty s) (λ g. group_known D ty g)

place_type : (U : Upgrade) → IsWritten U → (v : ℕ) (x : Variable) (file home : ℕ) → covers_place_type U.program.declarations x.ty ≡ true
    → home_of U file ≡ Some home → VariableType U v x file home
place_type U I v x file home h at =
    either (covers_type x.ty) (covers_group_type U.program.declarations x.ty) h (λ s. scalar_type U v x file home s)
    (λ g. group_type U I v x x.ty file home refl g at)

-- ---- a variable of an object

module _ (U : Upgrade) (I : IsWritten U) (c k file v : ℕ) (x : Variable) (is_file : slice_get (class_files U.program.declarations.project) c ≡ Some file)
    (field : field_of U.program.declarations (types.class c) k ≡ Some v) (is_variable : slice_get U.program.declarations.vars v ≡ Some x)
    (test : is_member U.program.declarations file v (Some x) ≡ true)
    (unbroken : point_broken U.program.declarations U.facts.marks (variable v) ≡ false) where
  abbrev D : Declarations
  D = U.program.declarations

  alone : (is_alone_field D v x.name file ≡ true) × ((covers_place_type D x.ty && not x.auto) ≡ true)
  alone = both_true (is_alone_field D v x.name file) (covers_place_type D x.ty && not x.auto) test

  covers : (covers_place_type D x.ty ≡ true) × (not x.auto ≡ true)
  covers = both_true (covers_place_type D x.ty) (not x.auto) alone.1

  stands : Stands D v x.name file
  stands = (kept_alone D v x.name file alone.0).stands

  abbrev home : ℕ
  home = stands.home

  of : x.owner ≡ owner.Module file
  of = class_owner D c k file v x is_file field is_variable

  sound : is_flagged U v ≡ false
  sound = is_unflagged U v x is_variable (place_known D x.ty covers.0) unbroken

  written : VariableMember U v x file stands
  written = variable_member U I v x is_variable sound (λ f h at. place_type U I v x f h covers.0 at) file of stands

  abbrev key : Key
  key = key_of home written.number

  in_class : is_class_variable D c x.owner ≡ true
  in_class = ap (is_class_variable D c) of ∙ ap (is_that file) is_file ∙ same_number file file refl

  -- what stands for it is found behind any object
  leads : (S : net_names.Scope) (object : net_value.Value) → S.project ≡ U.written
      → named_member S (Some object) home x.name ≡ found_at (at_field written.type.written object key)
  leads S object e =
      ap (λ (N : net.Project). some_member S (Some object) home (member_named x.name (members_of (module_at N home)))) e
      ∙ ap (some_member S (Some object) home) written.is_first
      ∙ ap (λ (N : net.Project). found_at (at_field (shape_of N home written.made.ty) object key)) e
      ∙ ap (λ s. found_at (at_field s object key)) (written.type.shaped written.made.ty written.is_word)

  pub object_member : IsMember U c k x.ty
  object_member = record {
    number = v;
    declares = field;
    known = record { variable = x; is_variable = is_variable; plain = not_true x.auto covers.1; sound = sound };
    is_type = refl;
    in_class = in_class;
    home = home;
    is_home = ap (option_and_then (home_of U)) is_file ∙ stands.is_home;
    key = key;
    is_key = written.is_key;
    differs = written.differs;
    written = written.type.written;
    same = subst (λ o. SameShape U (declared_shape (user_shapes D) o) written.type.written) (sym is_variable) written.type.same;
    leads = leads;
  }
