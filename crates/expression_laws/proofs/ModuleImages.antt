-- Variables of standard modules, and those of the class of the procedure, are images of each other.
use Rattle.std.proofs.Common.{◌≡◌, refl, sym, ap, subst, ◌∙◌, inl, inr, ℕ, Bool, true, false, cond, not, [], ◌∷◌, Some, option_map, true≢false}
use Rattle.std.specs.Prelude.{slice_get, is_some}
use Rattle.std.proofs.lemmas.Bool.{eq-eqb}
use Rattle.vb_tree.specs.declared.declared.Owner.TheVariants as owner
use Rattle.vb_tree.specs.declared.declared.VarId.{VarId}
use Rattle.bound_tree.specs.Tree.{Variable, Declarations}
use Rattle.run_base.specs.Positions.{Position, field, shared, whole}
use Rattle.written_trees.specs.Names.{Scope, variable_path}
use Rattle.vb6_run.specs.Runnables.{is_class_file, owned_address, declared_address, variable_address, object_root, root_address}
use Rattle.vb6_run.specs.Programs.{is_module_variable}
use Rattle.vb6_run.specs.Shapes.{variable_shape}
use Rattle.vb6_run.specs.Store.{Address, root, SourceFrame}
use Rattle.net_run.specs.Names as net_names
use Rattle.net_run.specs.Names.{path_start, starts, at_place, own_field}
use Rattle.net_run.specs.Store as net
use Rattle.run_matches.specs.Addresses.{Same, same_root, Bound, images, position_of, is_element}
use Rattle.run_matches.specs.CoveredVariables.{is_class_member, is_named_so, is_of_class}
use Rattle.run_matches.specs.Frames.{OwnObject, is_mirrored}
use Rattle.run_matches.specs.Kinds.{AreKinds}
use Rattle.run_matches.specs.Maps.{World, IsMatched, is_auto_root, key_or_none, moved_at}
use Rattle.run_matches.specs.Match.{is_class_variable, StoreMatch}
use Rattle.run_matches.specs.Pledges.{Pledge}
use Rattle.run_matches.specs.Upgrades.{Upgrade, is_that, variable_key}
use Rattle.run_statements.specs.Frames.{HasRankOf, IsOwnField, IsShared}
use Rattle.expression_laws.specs.Images.{HasImage}
use Rattle.expression_laws.proofs.UsedShapes.{IsDeclared, UsedShape, declared_all, declared_ranked, is_laid, stands_as}

pub exactly : (U : Upgrade) (K : Pledge) (w : World) (v : ℕ) (a : Address) (b : net.Address) → Same U K w a b
    → Bound U K w (not (is_mirrored U v)) a b
exactly U K w v a b same = images (not (is_mirrored U v)) a b same

-- ---- those of standard modules

shared_address : (D : Declarations) (f : SourceFrame) (v : ℕ) (x : Variable) (file : ℕ) → slice_get D.vars v ≡ Some x → x.owner ≡ owner.Module file
    → is_class_file D file ≡ false → variable_address D f v ≡ Some (root (variable_shape D v) (whole (shared (v ∷ []))))
shared_address D f v x file is of standard =
    ap (declared_address D f v) is ∙ ap (owned_address D f v) of
    ∙ ap (λ b. root_address D v (cond b (object_root f.me v) (Some (shared (v ∷ []))))) standard

abbrev pub at_key : ℕ → Position
at_key v = whole (shared (v ∷ []))

abbrev at_field : (object variable : ℕ) → Position
at_field o v = whole (field o (v ∷ []))

pub some_is : {A : Type 0} (x y : A) → Some x ≡ Some y → x ≡ y
some_is x y e = cc e

-- the variable of the class of the procedure is one of its object
field_address : (D : Declarations) (f : SourceFrame) (v : ℕ) (x : Variable) (file object : ℕ) → slice_get D.vars v ≡ Some x
    → x.owner ≡ owner.Module file → is_class_file D file ≡ true → f.me ≡ Some object
    → variable_address D f v ≡ Some (root (variable_shape D v) (at_field object v))
field_address D f v x file object is of class me =
    ap (declared_address D f v) is ∙ ap (owned_address D f v) of
    ∙ (ap (λ b. root_address D v (cond b (object_root f.me v) (Some (shared (v ∷ []))))) class ∙ ap (λ m. root_address D v (object_root m v)) me)

shared_matched : (U : Upgrade) (w : World) (v : ℕ) (x : IsDeclared U v) → variable_key U v ≡ Some (key_or_none (variable_key U v)) → IsMatched U w (at_key v)
shared_matched U w v x e = record {
  is_made = tt;
  counterpart = ap is_some e;
  sound = ap not x.sound;
}

module _ (U : Upgrade) (K : Pledge) (w : World) (start : StoreMatch U w) (f : SourceFrame) (S : net_names.Scope) (T : Scope) (v : ℕ) (r : IsDeclared U v)
    (used : UsedShape U v (variable_shape U.program.declarations v)) (s : IsShared U S T v) where
  abbrev D : Declarations
  D = U.program.declarations

  abbrev there : net.Address
  there = net.root s.written (moved_at U w.map (at_key v))

  stands_there : there ≡ net.root s.written (whole (shared s.key))
  stands_there = ap (λ o. net.root s.written (whole (shared (key_or_none o)))) s.is_key

  key_there : variable_key U v ≡ Some (key_or_none (variable_key U v))
  key_there = s.is_key ∙ ap (λ o. Some (key_or_none o)) (sym s.is_key)

  shared_same : Same U K w (root (variable_shape D v) (at_key v)) there
  shared_same =
      let m : IsMatched U w (at_key v) = shared_matched U w v r key_there in
      let kind : AreKinds (variable_shape D v) (at_key v) w.src.held =
      is_laid D v (is_module_variable D s.variable.owner) (shared (v ∷ [])) w.src.held (ap (is_module_variable D) s.is_owner ∙ ap not s.standard)
      (start.kinds v s.variable s.is_variable r.sound) in
      same_root (variable_shape D v) s.written (at_key v) s.same (declared_all U w (shared (v ∷ [])) v refl (variable_shape D v) used m kind)
      (declared_ranked U w start (shared (v ∷ [])) v refl (variable_shape D v) used s.written s.same s.ranked m kind)

  pub shared_image : (named : (qualified : Bool) → Bool) (a : Address) → variable_address D f v ≡ Some a → HasImage U K w S T named v a
  shared_image named a is =
      let stands : a ≡ root (variable_shape D v) (at_key v) =
      some_is a (root (variable_shape D v) (at_key v)) (sym is ∙ shared_address D f v s.variable s.file s.is_variable s.is_owner s.standard) in
      let same : Same U K w a there = subst (λ z. Same U K w z there) (sym stands) shared_same in
      record {
        address = there;
        found = λ q so. s.leads q ∙ ap (λ b. starts (at_place b) []) (sym stands_there);
        bound = exactly U K w v a there same;
        of_scalars = inl (ap is_element stands);
        whole = λ relied. ap is_element stands;
        image = λ exact. record {
          same = same;
          target =
              inl (inr (inl (record {
                variable = v;
                key = s.key;
                of_shape = variable_shape D v;
                path = [];
                stands = stands;
                is_key = s.is_key;
                differs = s.differs;
              })));
          plain = λ plain q e. subst (λ (z : Position). is_auto_root U w.map z.root ≡ false) (some_is (at_key v) q (sym (ap position_of stands) ∙ e)) plain;
          position = at_key v;
          auto = λ auto. auto;
          stands = stands_as (variable_shape D v) a (at_key v) stands;
          ranked = λ e rank is. subst (λ d. HasRankOf U v d) is s.ranked;
        };
      }

-- ---- those of the class of the procedure

-- what may not be named behind the name of the class is named by itself
pub named_alone : (U : Upgrade) (p : ℕ) (S : net_names.Scope) (T : Scope) (v : VarId) → IsOwnField U p S T v.0 → (qualified : Bool)
    → is_named_so U.program.declarations v qualified ≡ true → qualified ≡ false
named_alone U p S T v s true h =
    let D : Declarations = U.program.declarations in
    absurd (true≢false (sym h ∙ ap (λ o. not (is_class_member D o)) s.is_variable ∙ ap (λ o. not (is_of_class D o)) s.is_owner ∙ ap not s.is_class))
named_alone U p S T v s false h = refl

module _ (U : Upgrade) (K : Pledge) (w : World) (start : StoreMatch U w) (p : ℕ) (f : SourceFrame) (S : net_names.Scope) (T : Scope) (v : ℕ)
    (r : IsDeclared U v) (used : UsedShape U v (variable_shape U.program.declarations v)) (s : IsOwnField U p S T v)
    (x : OwnObject U w s.file f.me) (me : S.me ≡ option_map w.map.objects f.me) where
  abbrev here : Position
  here = at_field x.object v

  abbrev field_there : net.Address
  field_there = net.root s.written (moved_at U w.map here)

  stands_field : field_there ≡ net.root s.written (whole (field (w.map.objects x.object) s.key))
  stands_field = ap (λ o. net.root s.written (whole (field (w.map.objects x.object) (key_or_none o)))) s.is_key

  net_me : S.me ≡ Some (w.map.objects x.object)
  net_me = me ∙ ap (option_map w.map.objects) x.is_me

  field_matched : IsMatched U w here
  field_matched = record { is_made = x.is_made; counterpart = ap is_some s.is_key; sound = ap not r.sound }

  field_kind : AreKinds (variable_shape U.program.declarations v) here w.src.held
  field_kind =
      is_laid U.program.declarations v (is_class_variable U.program.declarations x.class s.variable.owner) (field x.object (v ∷ [])) w.src.held
      (ap (is_class_variable U.program.declarations x.class) s.is_owner ∙ (ap (is_that s.file) x.is_file ∙ eq-eqb s.file s.file refl))
      (start.fields x.object x.class v s.variable x.is_made x.is_class s.is_variable r.sound)

  field_same : Same U K w (root (variable_shape U.program.declarations v) here) field_there
  field_same =
      same_root (variable_shape U.program.declarations v) s.written here s.same
      (declared_all U w (field x.object (v ∷ [])) v refl (variable_shape U.program.declarations v) used field_matched field_kind)
      (declared_ranked U w start (field x.object (v ∷ [])) v refl (variable_shape U.program.declarations v) used s.written s.same s.ranked field_matched field_kind)

  pub field_leads : path_start S false (variable_path T false v) ≡ starts (at_place field_there) []
  field_leads =
      s.leads ∙ (ap (λ m. starts (own_field s.written s.key m) []) net_me ∙ ap (λ b. starts (at_place b) []) (sym stands_field))

  -- it is named by itself alone
  pub field_image : (named : (qualified : Bool) → Bool) → ((qualified : Bool) → named qualified ≡ true → qualified ≡ false) → (a : Address)
      → variable_address U.program.declarations f v ≡ Some a → HasImage U K w S T named v a
  field_image named alone a is =
      let stands : a ≡ root (variable_shape U.program.declarations v) here =
      some_is a (root (variable_shape U.program.declarations v) here) (sym is ∙ field_address U.program.declarations f v s.variable s.file x.object s.is_variable s.is_owner s.is_class x.is_me) in
      let same : Same U K w a field_there = subst (λ z. Same U K w z field_there) (sym stands) field_same in
      record {
        address = field_there;
        found = λ q so. ap (λ z. path_start S false (variable_path T z v)) (alone q so) ∙ field_leads;
        bound = exactly U K w v a field_there same;
        of_scalars = inl (ap is_element stands);
        whole = λ relied. ap is_element stands;
        image = λ exact. record {
          same = same;
          target =
              inl (inr (inr (record {
                object = x.object;
                variable = v;
                key = s.key;
                of_shape = variable_shape U.program.declarations v;
                path = [];
                stands = stands;
                is_key = s.is_key;
                differs = s.differs;
              })));
          plain = λ plain q e. subst (λ (z : Position). is_auto_root U w.map z.root ≡ false) (some_is here q (sym (ap position_of stands) ∙ e)) plain;
          position = here;
          auto = λ auto. auto;
          stands = stands_as (variable_shape U.program.declarations v) a here stands;
          ranked = λ e rank is. subst (λ d. HasRankOf U v d) is s.ranked;
        };
      }
