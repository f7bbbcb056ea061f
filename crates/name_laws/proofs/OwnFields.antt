-- In a procedure of a class the name of a variable of the class leads to that of its object.
use Rattle.std.proofs.Common.{◌≡◌, refl, ap, sym, subst, ◌∙◌, ℕ, Bool, true, false, cond, not, ◌&&◌, nat_eq, List, [], ◌∷◌, Option, Some, None, slice_get}
use Rattle.std.proofs.lemmas.Bool.{eqb-true}
use Rattle.vb_tree.specs.declared.declared.Owner.TheVariants as owner
use Rattle.bound_tree.specs.Tree.{Variable, Procedure, Declarations}
use Rattle.bound_facts.specs.SelfMade.{module_of}
use Rattle.net_tree.specs.Tree as net
use Rattle.run_base.specs.Positions.{Key, shared, whole}
use Rattle.written_trees.specs.Bodies.{inside_procedure}
use Rattle.written_trees.specs.Names.{Scope, is_standard_module, module_at, module_name, owner_path, variable_path, variable_path_of}
use Rattle.vb6_run.specs.Shapes.{declared_shape, user_shapes}
use Rattle.net_run.specs.Lines.{NetFrame, NetLine, scope_of}
use Rattle.net_run.specs.Members.{member_named}
use Rattle.net_run.specs.Names as net_names
use Rattle.net_run.specs.Names.{at_place, frame_start, is_class_at, key_of, member_reached, member_start, own_field, path_start, starts}
use Rattle.net_run.specs.Shapes as shapes
use Rattle.net_run.specs.Shapes.{members_of, shape_of}
use Rattle.net_run.specs.Store.{root}
use Rattle.run_matches.specs.Frames.{HasNames}
use Rattle.run_matches.specs.Likeness.{SameShape}
use Rattle.run_matches.specs.Shared.{field_leads, is_alone_field, is_free_from, is_free_in}
use Rattle.run_matches.specs.Sites.{Site, site_of}
use Rattle.run_matches.specs.Upgrades.{Upgrade, home_of, is_flagged}
use Rattle.run_statements.specs.Frames.{IsOwnField}
use Rattle.run_statements.specs.Written.{IsWritten, WrittenProcedure, site_scope}
use Rattle.name_laws.proofs.Framed.{frame_none}
use Rattle.name_laws.proofs.Led.{KeptAlone, kept_alone}
use Rattle.name_laws.proofs.Lists.{both_true, same_number, some_same}
use Rattle.name_laws.proofs.Standing.{VariableMember, variable_member}
use Rattle.name_laws.proofs.Words.{VariableType}

-- what the test says of the procedure
record Inside (D : Declarations) (name : List ℕ) (file : ℕ) (s : Site) (x : Procedure) : Type 0 where
  is_file : s.source_module.file ≡ file
  is_module : x.module_number ≡ file
  free : is_free_in D s x name ≡ true

inside : (D : Declarations) (name : List ℕ) (file : ℕ) (i : Option Site) (j : Option Procedure) (s : Site) (x : Procedure) → i ≡ Some s → j ≡ Some x
    → is_free_from D name file i j ≡ true → Inside D name file s x
inside D name file i j s x e f h =
    let k : is_free_from D name file (Some s) (Some x) ≡ true =
    ap (λ o. is_free_from D name file o (Some x)) (sym e) ∙ ap (is_free_from D name file i) (sym f) ∙ h in
    let a = both_true (nat_eq s.source_module.file file && nat_eq x.module_number file) (is_free_in D s x name) k in
    let b = both_true (nat_eq s.source_module.file file) (nat_eq x.module_number file) a.0 in
    record { is_file = eqb-true s.source_module.file file b.0; is_module = eqb-true x.module_number file b.1; free = a.1 }

module _ (U : Upgrade) (I : IsWritten U) (p v : ℕ) (y : Variable) (is_variable : slice_get U.program.declarations.vars v ≡ Some y) (sound : is_flagged U v ≡ false)
    (types : (file home : ℕ) → home_of U file ≡ Some home → VariableType U v y file home) (file : ℕ) (of : y.owner ≡ owner.Module file)
    (s : Site) (x : Procedure) (is_site : site_of U.program.declarations p ≡ Some s) (is_procedure : slice_get U.program.declarations.procs p ≡ Some x)
    (leads : field_leads U.program.declarations p v y.name file ≡ true) (W : WrittenProcedure U p s x) (g : NetFrame) (k : NetLine)
    (names : HasNames (Some W.code) g) where
  abbrev D : Declarations
  D = U.program.declarations

  abbrev N : net.Project
  N = U.written

  abbrev name : List ℕ
  name = y.name

  tests : (is_alone_field D v name file ≡ true) × (is_free_from D name file (site_of D p) (slice_get D.procs p) ≡ true)
  tests = both_true (is_alone_field D v name file) (is_free_from D name file (site_of D p) (slice_get D.procs p)) leads

  kept : KeptAlone D v name file
  kept = kept_alone D v name file tests.0

  here : Inside D name file s x
  here = inside D name file (site_of D p) (slice_get D.procs p) s x is_site is_procedure tests.1

  R : VariableMember U v y file kept.stands
  R = variable_member U I v y is_variable sound types file of kept.stands

  abbrev key : Key
  key = key_of kept.stands.home R.number

  abbrev E : net_names.Scope
  E = scope_of N W.code g k

  abbrev T : Scope
  T = inside_procedure (site_scope U s) p

  home_is : E.home ≡ kept.stands.home
  home_is = W.home ∙ some_same s.home kept.stands.home (sym (I.homes p s is_site) ∙ ap (home_of U) here.is_file ∙ kept.stands.is_home)

  abbrev by_class : Bool → net_names.Reached
  by_class c = cond c (own_field (shape_of N kept.stands.home R.made.ty) key E.me) (at_place (root (shape_of N kept.stands.home R.made.ty) (whole (shared key))))

  reached : (h : ℕ) → kept.stands.home ≡ h → member_reached E None h R.number (net.variable R.visibility R.made) ≡ own_field R.type.written key E.me
  reached h e =
      subst (λ h. member_reached E None h R.number (net.variable R.visibility R.made) ≡ own_field R.type.written key E.me) e
      (ap (λ o. by_class (is_class_at o)) R.is_module ∙ ap by_class kept.is_class ∙ ap (λ z. own_field z key E.me) (R.type.shaped R.made.ty R.is_word))

  alone_leads : path_start E false (name ∷ []) ≡ starts (own_field R.type.written key E.me) []
  alone_leads =
      ap (frame_start E name []) (frame_none name U p s x W g names here.free)
      ∙ ap (member_start E name []) (ap (λ h. member_named name (members_of (shapes.module_at N h))) home_is ∙ R.is_first)
      ∙ ap (λ z. starts z []) (reached E.home (sym home_is))

  path_is : variable_path T false v ≡ name ∷ []
  path_is =
      ap (variable_path_of T false) is_variable ∙ ap (owner_path T false name) of
      ∙ ap (λ n. cond (not (nat_eq n file) && is_standard_module (module_at D.project file)) (module_name D file ∷ name ∷ []) (name ∷ [])) here.is_file
      ∙ ap (λ b. cond (not b && is_standard_module (module_at D.project file)) (module_name D file ∷ name ∷ []) (name ∷ [])) (same_number file file refl)

  pub own_variable : IsOwnField U p E T v
  own_variable = record {
    variable = y;
    is_variable = is_variable;
    file = file;
    is_owner = of;
    is_class = kept.of_class;
    own = ap module_of is_procedure ∙ ap Some here.is_module;
    key = key;
    is_key = R.is_key;
    written = R.type.written;
    same = subst (λ o. SameShape U (declared_shape (user_shapes D) o) R.type.written) (sym is_variable) R.type.same;
    ranked = R.type.ranked;
    leads = ap (path_start E false) path_is ∙ alone_leads;
    differs = R.differs;
  }
