-- No chain from what is clean leads to what breaks a rule: so the fields of user types of variables that it mentions carry no issue.
use Rattle.std.proofs.Common.{◌≡◌, refl, ap, sym, subst, ◌∙◌, ℕ, zero, suc, ◌+◌, Bool, true, false, List, [], ◌∷◌, ◌++◌, length, map, Option, Some, slice_get, arith, inl, inr}
use Rattle.std.specs.Prelude.{option_to_list}
use Rattle.std.specs.List.{list_all}
use Rattle.vb_tree.specs.BoundTree.{Ty}
use Rattle.vb_tree.specs.BoundTree as types
use Rattle.vb_tree.specs.declared.declared.VarId.{VarId}
use Rattle.bound_tree.specs.declared.declared.TypeDecl.{TypeDecl}
use Rattle.bound_tree.specs.declared.marks.Marks.{Marks}
use Rattle.bound_tree.specs.Tree.{Variable, Declarations, Program}
use Rattle.bound_facts.specs.Clean.{Point, procedure, variable, user_type, Arrow, to_all, owner_point, lettered_point, variable_arrows, type_arrows, procedure_arrows, captured_arrows, arrows, Path, stays, goes, point_broken, IsClean}
use Rattle.bound_facts.specs.Locks.{user_in}
use Rattle.bound_facts.specs.Members.{at_option, type_fields}
use Rattle.written_trees.specs.Facts.{is_flagged_variable}
use Rattle.vb6_run.specs.Shapes.{Shape, declared_shape, field_shapes, group_by, shape_by, user_shape}
use Rattle.run_matches.specs.CleanLines.{IsSoundPoint}
use Rattle.run_matches.specs.CoveredVariables.{belongs_to, covers_field, covers_field_type, covers_group_type, covers_user_within}
use Rattle.run_matches.specs.Pledges.{type_of_shape}
use Rattle.run_matches.specs.SoundShapes.{AreSoundShapes, IsField, IsSoundShape}
use Rattle.run_matches.specs.Upgrades.{Upgrade, field_variable, is_flagged, is_unknown, type_of, type_of_some}
use Rattle.run_statements.specs.Frames.{type_shape}
use Rattle.run_statements.specs.Written.{IsWritten}
use Rattle.name_laws.proofs.Arrows.{one_arrow, owned, variable_arrow, variable_is_arrow, variable_unflagged}
use Rattle.name_laws.proofs.ClassTypes.{class_led, is_class}
use Rattle.name_laws.proofs.CoveredTypes.{FieldType, TypeParts, field_type, type_of_user, type_parts}
use Rattle.name_laws.proofs.Lists.{Among, among_left, among_right, both_true, map_among, none_of_both, some_same}

-- ---- chains

joined : (pairs : List Arrow) (a b c : Point) → Path pairs a b → Path pairs b c → Path pairs a c
joined pairs a b _ p (stays _) = p
joined pairs a b _ p (goes _ c d q m) = goes a c d (joined pairs a b c p q) m

to_among : (p q : Point) (qs : List Point) → Among qs q → Among (to_all p qs) (p, q)
to_among p q qs h = map_among (pointed p) qs q h
  where
    pointed : Point → Point → Arrow
    pointed p q = (p, q)

plus_none : (k : ℕ) → k ≡ k + 0
plus_none k = omega arith

plus_next : (k i : ℕ) → suc k + i ≡ k + suc i
plus_next k i = omega arith

-- an arrow from a variable of a user type to the type
named_arrow : (k i t : ℕ) (vs : List Variable) (x : Variable) → slice_get vs i ≡ Some x → x.named ≡ types.user t
    → Among (variable_arrows k vs) (variable (k + i), user_type t)
named_arrow k i t [] x e h = absurd (cc e)
named_arrow k zero t (v ∷ vs) x e h =
    let first = map (λ p. (p, variable k)) (owner_point v.owner) in
    let named = map user_type (option_to_list (user_in v.named)) in
    let second = to_all (variable k) (named ++ lettered_point v.place v.lettered) in
    let same : v.named ≡ types.user t = ap (λ (y : Variable). y.named) (some_same v x e) ∙ h in
    let point : Among named (user_type t) =
    subst (λ ty. Among (map user_type (option_to_list (user_in ty))) (user_type t)) (sym same) (inl refl) in
    subst (λ (n : ℕ). Among (variable_arrows k (v ∷ vs)) (variable n, user_type t)) (plus_none k)
    (among_left (first ++ second) (variable_arrows (suc k) vs) (variable k, user_type t)
    (among_right first second (variable k, user_type t)
    (to_among (variable k) (user_type t) (named ++ lettered_point v.place v.lettered) (among_left named (lettered_point v.place v.lettered) (user_type t) point))))
named_arrow k (suc i) t (v ∷ vs) x e h =
    let first = map (λ p. (p, variable k)) (owner_point v.owner) in
    let second = to_all (variable k) (map user_type (option_to_list (user_in v.named)) ++ lettered_point v.place v.lettered) in
    subst (λ (n : ℕ). Among (variable_arrows k (v ∷ vs)) (variable n, user_type t)) (plus_next k i)
    (among_right (first ++ second) (variable_arrows (suc k) vs) (variable (suc k + i), user_type t) (named_arrow (suc k) i t vs x e h))

-- and from a type to a field
field_arrow : (k i : ℕ) (ds : List TypeDecl) (d : TypeDecl) (f : VarId) → slice_get ds i ≡ Some d → Among d.fields f
    → Among (type_arrows k ds) (user_type (k + i), variable f.0)
field_arrow k i [] d f e h = absurd (cc e)
field_arrow k zero (x ∷ ds) d f e h =
    let fields : Among x.fields f = subst (λ (z : TypeDecl). Among z.fields f) (sym (some_same x d e)) h in
    subst (λ (n : ℕ). Among (type_arrows k (x ∷ ds)) (user_type n, variable f.0)) (plus_none k)
    (among_left (to_all (user_type k) (map (λ f. variable f.0) x.fields)) (type_arrows (suc k) ds) (user_type k, variable f.0)
    (to_among (user_type k) (variable f.0) (map (λ f. variable f.0) x.fields) (map_among (λ (f : VarId). variable f.0) x.fields f fields)))
field_arrow k (suc i) (x ∷ ds) d f e h =
    subst (λ (n : ℕ). Among (type_arrows k (x ∷ ds)) (user_type n, variable f.0)) (plus_next k i)
    (among_right (to_all (user_type k) (map (λ f. variable f.0) x.fields)) (type_arrows (suc k) ds) (user_type (suc k + i), variable f.0)
    (field_arrow (suc k) i ds d f e h))

module _ (P : Program) where
  type_is_arrow : (a : Arrow) → Among (type_arrows 0 P.declarations.types) a → Among (arrows P) a
  type_is_arrow a h =
      let D = P.declarations in
      among_left (owned P ++ type_arrows 0 D.types ++ procedure_arrows D.project.modules 0 D.procs) (captured_arrows D 0 D.procs) a
      (among_left (owned P ++ type_arrows 0 D.types) (procedure_arrows D.project.modules 0 D.procs) a (among_right (owned P) (type_arrows 0 D.types) a h))

  module _ (M : Marks) where
    -- what a clean procedure leads to is sound
    pub clean_sound : (p : ℕ) (a : Point) → IsClean P M p → Path (arrows P) (procedure p) a → IsSoundPoint P M a
    clean_sound p a clean path b more = clean b (joined (arrows P) (procedure p) a b path more)

    -- so is what it owns
    pub owned_sound : (p v : ℕ) (x : Variable) → IsClean P M p → slice_get P.declarations.vars v ≡ Some x → belongs_to p x.owner ≡ true
        → IsSoundPoint P M (variable v)
    owned_sound p v x clean e h =
        clean_sound p (variable v) clean
        (one_arrow P (procedure p) (variable v) (variable_is_arrow P (procedure p, variable v)
        (subst (λ (n : ℕ). Among (variable_arrows 0 P.declarations.vars) (procedure p, variable n)) (let z : 0 + v ≡ v = omega arith in z)
        (variable_arrow p 0 v P.declarations.vars x e h))))

    pub sound_unbroken : (a : Point) → IsSoundPoint P M a → point_broken P.declarations M a ≡ false
    sound_unbroken a sound = sound a (stays a)

    next_sound : (a b : Point) → IsSoundPoint P M a → Among (arrows P) (a, b) → IsSoundPoint P M b
    next_sound a b sound h c more = sound c (joined (arrows P) a b c (one_arrow P a b h) more)

    type_sound : (v t : ℕ) (x : Variable) → slice_get P.declarations.vars v ≡ Some x → x.named ≡ types.user t → IsSoundPoint P M (variable v)
        → IsSoundPoint P M (user_type t)
    type_sound v t x e h sound =
        next_sound (variable v) (user_type t) sound
        (variable_is_arrow P (variable v, user_type t)
        (subst (λ (n : ℕ). Among (variable_arrows 0 P.declarations.vars) (variable n, user_type t)) (let z : 0 + v ≡ v = omega arith in z)
        (named_arrow 0 v t P.declarations.vars x e h)))

    field_sound : (t : ℕ) (d : TypeDecl) (f : VarId) → slice_get P.declarations.types t ≡ Some d → Among d.fields f → IsSoundPoint P M (user_type t)
        → IsSoundPoint P M (variable f.0)
    field_sound t d f e h sound =
        next_sound (user_type t) (variable f.0) sound
        (type_is_arrow (user_type t, variable f.0)
        (subst (λ (n : ℕ). Among (type_arrows 0 P.declarations.types) (user_type n, variable f.0)) (let z : 0 + t ≡ t = omega arith in z)
        (field_arrow 0 t P.declarations.types d f e h)))

-- ---- the shapes of user types

pub user_known : (users : ℕ → Bool) (ty : Ty) → covers_field_type users ty ≡ true → is_unknown (Some ty) ≡ false
user_known users types.boolean h = refl
user_known users types.byte h = refl
user_known users types.integer h = refl
user_known users types.long h = refl
user_known users types.currency h = refl
user_known users types.str h = refl
user_known users (types.user t) h = refl
user_known users _ h = absurd (cc h)

-- a declaration that breaks no rule, of a type that isn't Unknown, carries no issue
pub is_unflagged : (U : Upgrade) (v : ℕ) (x : Variable) → slice_get U.program.declarations.vars v ≡ Some x → is_unknown (Some x.ty) ≡ false
    → point_broken U.program.declarations U.facts.marks (variable v) ≡ false → is_flagged U v ≡ false
is_unflagged U v x e known unbroken =
    none_of_both (is_flagged_variable U.facts v) (is_unknown (type_of U v)) (variable_unflagged U.program.declarations U.facts v x e unbroken)
    (ap (λ (o : Option Variable). is_unknown (type_of_some o)) e ∙ known)

module _ (U : Upgrade) (I : IsWritten U) where
  abbrev D : Declarations
  D = U.program.declarations

  abbrev IsSound : Point → Type 0
  IsSound a = IsSoundPoint U.program U.facts.marks a

  module _ (n : ℕ) (users : (u : ℕ) → covers_user_within D n u ≡ true → IsSound (user_type u) → IsSoundShape U (user_shape D n u)) where
    abbrev shaped : Variable → Ty → Shape
    shaped x ty = shape_by (user_shape D n) x.bounds ty

    -- the shape of a field, and its type
    part_sound : (x : Variable) (v : ℕ) → slice_get D.vars v ≡ Some x → IsSound (variable v) → (ty : Ty) → x.ty ≡ ty
        → covers_field_type (covers_user_within D n) ty ≡ true → (type_of_shape (shaped x ty) ≡ ty) × IsSoundShape U (shaped x ty)
    part_sound x v e sound types.boolean is h = (refl, inl refl)
    part_sound x v e sound types.byte is h = (refl, inl refl)
    part_sound x v e sound types.integer is h = (refl, inl refl)
    part_sound x v e sound types.long is h = (refl, inl refl)
    part_sound x v e sound types.currency is h = (refl, inl refl)
    part_sound x v e sound types.str is h = (refl, inl refl)
    part_sound x v e sound (types.user u) is h =
        (type_of_user D n u h, users u h (type_sound U.program U.facts.marks v u x e (I.named v x u e is) sound))
    part_sound x v e sound _ is h = absurd (cc h)

    parts_sound : (t i : ℕ) (fs : List VarId) → ((j : ℕ) → slice_get (map (λ (f : VarId). f.0) fs) j ≡ field_variable U t (i + j))
        → ((f : VarId) → Among fs f → IsSound (variable f.0)) → list_all (λ (f : VarId). covers_field (covers_user_within D n) (slice_get D.vars f.0)) fs ≡ true
        → AreSoundShapes U t i (field_shapes D (user_shape D n) fs)
    parts_sound t i [] at sound h = tt
    parts_sound t i (f ∷ fs) at sound h =
        let both = both_true (covers_field (covers_user_within D n) (slice_get D.vars f.0))
        (list_all (λ (f : VarId). covers_field (covers_user_within D n) (slice_get D.vars f.0)) fs) h in
        let F : FieldType D n f.0 = field_type D n f.0 both.0 in
        let x : Variable = F.variable in
        let here : field_variable U t i ≡ Some f.0 = ap (field_variable U t) (plus_none i) ∙ sym (at 0) in
        let own : IsSound (variable f.0) = sound f (inl refl) in
        let part = part_sound x f.0 F.is_variable own x.ty refl F.covers in
        let declared : IsField U t i (type_of_shape (shaped x x.ty)) = record {
          variable = f.0;
          declares = here;
          is_type = ap type_of_some F.is_variable ∙ ap Some (sym part.0);
          sound = is_unflagged U f.0 x F.is_variable (user_known (covers_user_within D n) x.ty F.covers) (sound_unbroken U.program U.facts.marks (variable f.0) own);
        } in
        let rest = parts_sound t (suc i) fs (λ j. at (suc j) ∙ ap (field_variable U t) (let q : i + suc j ≡ suc i + j = omega arith in q)) (λ g m. sound g (inr m)) both.1 in
        subst (λ (o : Option Variable). IsField U t i (type_of_shape (declared_shape (user_shape D n) o)) × IsSoundShape U (declared_shape (user_shape D n) o)
        × AreSoundShapes U t (suc i) (field_shapes D (user_shape D n) fs)) (sym F.is_variable) (declared, part.1, rest)

  user_sound : (n t : ℕ) → covers_user_within D n t ≡ true → IsSound (user_type t) → IsSoundShape U (user_shape D n t)
  user_sound zero t c sound = absurd (cc c)
  user_sound (suc n) t c sound =
      let P : TypeParts D n t = type_parts D n t c in
      subst (λ o. IsSoundShape U (group_by D (λ u. user_shape D n u) t o)) (sym P.is_declared)
      (parts_sound n (λ u h s. user_sound n u h s) t 0 P.declared.fields
      (λ j. ap (λ k. slice_get (map (λ (f : VarId). f.0) P.declared.fields) k) (let z : j ≡ 0 + j = omega arith in z)
      ∙ ap (λ o. at_option (type_fields o) (0 + j)) (sym P.is_declared))
      (λ f m. field_sound U.program U.facts.marks t P.declared f P.is_declared m sound) P.fields)

  -- the fields of the type of a sound variable carry no issue, and a class is written
  pub group_sound : (v : ℕ) (x : Variable) → slice_get D.vars v ≡ Some x → (ty : Ty) → x.ty ≡ ty → covers_group_type D ty ≡ true → IsSound (variable v)
      → IsSoundShape U (type_shape U ty)
  group_sound v x e (types.user t) is c sound =
      user_sound (length D.types) t c (type_sound U.program U.facts.marks v t x e (I.named v x t e is) sound)
  group_sound v x e (types.class k) is c sound = inr (is_class U k (class_led D k c))
  group_sound v x e _ is c sound = absurd (cc c)
