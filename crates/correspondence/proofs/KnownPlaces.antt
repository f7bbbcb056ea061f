-- The paths in what is written for places of user types are known, and nothing copies these.
use Rattle.std.proofs.Common.{◌⊎◌, inl, inr, ◌≡◌, ℕ, zero, suc, Bool, true, false, not, ◌&&◌, cond, List, [], ◌∷◌, ◌++◌, Option, Some, None, refl, sym, ap, subst, ◌∙◌, eqb-true, append_assoc}
use Rattle.std.specs.List.{list_all}
use Rattle.std.specs.Prelude.{◌||◌, slice_get}
use Rattle.up_base.proofs.Lists.{both_true}
use Rattle.vb_tree.specs.BoundTree as types
use Rattle.vb_tree.specs.BoundTree.{Ty}
use Rattle.vb_tree.specs.declared.declared.Owner.{Owner}
use Rattle.vb_tree.specs.declared.declared.Owner.TheVariants as owner
use Rattle.vb_tree.specs.declared.declared.ProcId.{ProcId}
use Rattle.vb_tree.specs.declared.declared.VarId.{VarId}
use Rattle.vb_tree.specs.Tree.{Module}
use Rattle.bound_tree.specs.declared.body.Mention.{Mention}
use Rattle.bound_tree.specs.Tree.{Constant, Declarations, Procedure, Program, Variable, Expr, typed, Term, field, variable, with_object, call, convert, me, new_object, Object, no_object, of_object, no_passed}
use Rattle.bound_facts.specs.Locks.{is_same_type}
use Rattle.bound_facts.specs.Members.{field_of}
use Rattle.bound_facts.specs.Node.{type_at}
use Rattle.net_tree.specs.Tree as net
use Rattle.net_tree.specs.Tree.{Exp}
use Rattle.written_trees.specs.Conversions.{one}
use Rattle.written_trees.specs.Exprs.{called, exp_of, is_bare, term_exp, member_in, member_of}
use Rattle.written_trees.specs.Facts.{holds_array}
use Rattle.written_trees.specs.Names.{Path, Scope, auto_name, first_name, is_foreign, member, module_name, owner_path, procedure_name, procedure_name_of, procedure_path, procedure_path_of, support, variable_name}
use Rattle.run_matches.specs.Covered.{covers_names, is_free_name}
use Rattle.run_matches.specs.CoveredVariables.{covers_auto_use, covers_field_type, covers_group_type, covers_group_use, covers_owner, is_named_so, covers_user, field_type_in, field_type_of, is_reached}
use Rattle.run_matches.specs.CoveredExprs.{covers_base, covers_group, covers_group_term, covers_object, covers_object_term, covers_place, covers_place_term, covers_term, has_inner, has_member, has_scalar, is_class_of, is_kept, is_nothing, is_type, uses_in}
use Rattle.run_matches.specs.UserTypes.{is_class_type, is_user_of}
use Rattle.agreeing_laws.proofs.UserShapes.{FieldShape, field_shape_is}
use Rattle.correspondence.specs.Paths.{paths_of_exp}
use Rattle.correspondence.proofs.Among.{or_cases}
use Rattle.correspondence.proofs.KnownArrays.{use_known}
use Rattle.correspondence.proofs.KnownPaths.{HasKnown, IsKnown, free_other, known_append, path_known}
use Rattle.correspondence.proofs.Objects.{GivesObject, dotted_members, gives_object, members_in, more_members, path_members, plain_object_field}
use Rattle.correspondence.proofs.Places.{Based, IsDotted, Place, inner_of, place_of, scalar_place, variable_place}
use Rattle.correspondence.proofs.PlainFields.{a_group, declared_type}
use Rattle.correspondence.proofs.Variables.{UsedAuto, auto_exp, auto_use_at, group_use_at, modules_free}

module _ (D : Declarations) where
  -- ---- paths that begin with a free name

  free_path : (b : Bool) (outer name : List ℕ) (rest : List (List ℕ)) → is_free_name outer ≡ true → is_free_name name ≡ true
      → IsKnown D (cond b (outer ∷ name ∷ []) (name ∷ []) ++ rest)
  free_path true outer name rest h e = λ s. absurd (free_other outer h s)
  free_path false outer name [] h e = tt
  free_path false outer name (f ∷ rest) h e = λ s. absurd (free_other name e s)

  alone_path : (name : List ℕ) (rest : List (List ℕ)) → is_free_name name ≡ true → IsKnown D (name ∷ rest)
  alone_path name [] h = tt
  alone_path name (f ∷ rest) h = λ s. absurd (free_other name h s)

the_item : {A : Type 0} (x y : A) → ◌≡◌ {A = Option A} (Some x) (Some y) → x ≡ y
the_item x y e = cc e

free_at : {A : Type 0} (name : A → List ℕ) (xs : List A) (k : ℕ) (y : A) → list_all (λ (x : A). is_free_name (name x)) xs ≡ true → slice_get xs k ≡ Some y
    → is_free_name (name y) ≡ true
free_at name [] k y h e = absurd (cc e)
free_at name (x ∷ xs) zero y h e =
    ap (λ z. is_free_name (name z)) (sym (the_item x y e)) ∙ (both_true (is_free_name (name x)) (list_all (λ z. is_free_name (name z)) xs) h).0
free_at name (x ∷ xs) (suc k) y h e = free_at name xs k y (both_true (is_free_name (name x)) (list_all (λ z. is_free_name (name z)) xs) h).1 e

variable_free : (D : Declarations) → covers_names D ≡ true → (k : ℕ) (y : Variable) → slice_get D.vars k ≡ Some y → is_free_name y.name ≡ true
variable_free D h k y e =
    let a = both_true (list_all (λ (m : Module). is_free_name m.name) D.project.modules)
    (list_all (λ (x : Variable). is_free_name x.name) D.vars
    && (list_all (λ (c : Constant). is_free_name c.name) D.consts && list_all (λ (q : Procedure). is_free_name q.name) D.procs)) h in
    free_at (λ (x : Variable). x.name) D.vars k y
    (both_true (list_all (λ (x : Variable). is_free_name x.name) D.vars)
    (list_all (λ (c : Constant). is_free_name c.name) D.consts && list_all (λ (q : Procedure). is_free_name q.name) D.procs) a.1).0 e

-- what isn't declared has no name
procedure_free : (D : Declarations) → covers_names D ≡ true → (k : ℕ) → is_free_name (procedure_name_of (slice_get D.procs k)) ≡ true
procedure_free D h k = by (slice_get D.procs k) refl
  where
    by : (o : Option Procedure) → slice_get D.procs k ≡ o → is_free_name (procedure_name_of o) ≡ true
    by None e = refl
    by (Some y) e =
        let a = both_true (list_all (λ (m : Module). is_free_name m.name) D.project.modules)
        (list_all (λ (x : Variable). is_free_name x.name) D.vars
        && (list_all (λ (c : Constant). is_free_name c.name) D.consts && list_all (λ (q : Procedure). is_free_name q.name) D.procs)) h in
        let b = both_true (list_all (λ (x : Variable). is_free_name x.name) D.vars)
        (list_all (λ (c : Constant). is_free_name c.name) D.consts && list_all (λ (q : Procedure). is_free_name q.name) D.procs) a.1 in
        free_at (λ (q : Procedure). q.name) D.procs k y
        (both_true (list_all (λ (c : Constant). is_free_name c.name) D.consts) (list_all (λ (q : Procedure). is_free_name q.name) D.procs) b.1).1 e

module _ (P : Program) (S : Scope) (same : S.declarations ≡ P.declarations) (p : ℕ) (mentions : List Mention) where
  abbrev D : Declarations
  D = P.declarations

  fields_known : covers_names D ≡ true → (k : ℕ) (q : Bool) (y : Variable) (rest : List (List ℕ)) → is_free_name y.name ≡ true → (o : Owner) → is_reached D p k y.name o ≡ true
      → covers_owner o ≡ true → IsKnown D (owner_path S q y.name o ++ rest)
  fields_known names k q y rest free (owner.Module file) h c =
      free_path D (q || is_foreign S.declarations S.file file) (module_name S.declarations file) y.name rest
      (ap (λ (d : Declarations). is_free_name (module_name d file)) same ∙ ap not (modules_free D names file)) free
  fields_known names k q y rest free (owner.Local r) h c = alone_path D y.name rest free
  fields_known names k q y rest free (owner.Static r) h c = alone_path D y.name rest free
  fields_known names k q y rest free (owner.Value r) h c = alone_path D y.name rest free
  fields_known names k q y rest free (owner.Reference r) h c = alone_path D y.name rest free
  fields_known names k q y rest free (owner.Answer r) h c = alone_path D y.name rest free
  fields_known names k q y rest free (owner.Field t) h c = absurd (cc c)

  none_known : (a : Exp) → IsDotted a → HasKnown D a
  none_known net.nothing d = tt
  none_known (net.with_dot name) d = tt
  none_known net.me d = tt
  none_known (net.dot e name) d = none_known e d
  none_known _ d = absurd d

  -- members behind a call
  dot_known : (a : Exp) (name : List ℕ) (rest : List (List ℕ)) → HasKnown D a → HasKnown D (more_members (net.dot a name) rest)
  dot_known a name [] k = k
  dot_known a name (next ∷ rest) k = dot_known (net.dot a name) next rest k

  behind_call_known : (c : Exp) (es : net.Exps) (rest : List (List ℕ)) → HasKnown D (net.call_of c es) → HasKnown D (more_members (net.call_of c es) rest)
  behind_call_known c es [] k = k
  behind_call_known c es (name ∷ rest) k = dot_known (net.call_of c es) name rest k

  called_known : (bare : Bool) (c : Exp) (rest : List (List ℕ)) → HasKnown D c → HasKnown D (more_members c rest)
      → HasKnown D (more_members (called bare c net.no_exps) rest)
  called_known true c rest alone more = more
  called_known false c rest alone more = behind_call_known c net.no_exps rest (known_append D (paths_of_exp c) [] alone tt)

  call_path_known : covers_names D ≡ true → (q : Bool) (k : ℕ) (y : Procedure) (rest : List (List ℕ)) → slice_get S.declarations.procs k ≡ Some y
      → IsKnown D (procedure_path S q k ++ rest)
  call_path_known free q k y rest is =
      subst (λ (o : Option Procedure). IsKnown D (procedure_path_of S q o ++ rest)) (sym is)
      (free_path D (q || is_foreign S.declarations S.file y.module_number) (module_name S.declarations y.module_number)
      (first_name S.declarations (Some y)) rest
      (ap (λ (d : Declarations). is_free_name (module_name d y.module_number)) same ∙ ap not (modules_free D free y.module_number))
      (ap (λ (d : Declarations). is_free_name (first_name d (Some y))) same ∙ procedure_free D free y.first.0))

  -- what is written for an object that is kept or given, with members behind it
  plain_members : (k : VarId) (q : Bool) (a : Exp) (rest : List (List ℕ)) → HasKnown D (more_members a rest) → HasKnown D (members_in (variable k q) a rest)
  plain_members k q a [] h = h
  plain_members k q a (name ∷ rest) h = h

  variable_known : covers_names D ≡ true → (ty : Ty) (k : VarId) (q : Bool) → (covers_group_use P p mentions k ty ≡ true) ⊎ (covers_auto_use P p mentions k ty ≡ true)
      → (rest : List (List ℕ)) → HasKnown D (more_members (term_exp S ty (variable k q)) rest)
  variable_known free ty k q (inl h) rest =
      let L : Place P S same p mentions ty (variable k q) = variable_place P S same p mentions k q ty h in
      let path : Path = owner_path S L.qualified L.root_variable.name L.root_variable.owner in
      subst (λ (a : Exp). HasKnown D (more_members a rest)) (sym L.written)
      (subst (λ (a : Exp). HasKnown D a) (sym (path_members (path ++ L.fields) rest ∙ ap net.path (append_assoc path L.fields rest))) (
        fields_known free L.root.0 L.qualified L.root_variable (L.fields ++ rest) (variable_free D free L.root.0 L.root_variable L.covered.0)
            L.root_variable.owner L.covered.1 L.covered.2,
        tt,
      ))
  variable_known free ty k q (inr h) rest =
      let found : UsedAuto P p k.0 ty = auto_use_at P p mentions k ty h in
      let call = auto_exp P S same p k q found.variable found.covered ty found.class found.of_class found.is_auto in
      subst (λ (a : Exp). HasKnown D (more_members a rest)) (sym call)
      (behind_call_known (net.path (support (auto_name S.declarations found.class))) (one (net.path (owner_path S q found.variable.name found.variable.owner))) rest
      (subst (λ (a : Exp). HasKnown D a) call (use_known P S same free p mentions k q ty (inr (inr (inr (ty, h)))))))

  call_members_known : (q : ProcId) (qualified : Bool) (of : Object) (a : Exp) (rest : List (List ℕ)) → HasKnown D (more_members a rest)
      → HasKnown D (members_in (call q qualified of no_passed) a rest)
  call_members_known q qualified of a [] h = h
  call_members_known q qualified of a (name ∷ rest) h = h

  field_members_known : (e : Expr) (k : ℕ) (a : Exp) (rest : List (List ℕ)) → HasKnown D (more_members a rest) → HasKnown D (members_in (field e k) a rest)
  field_members_known e k a [] h = h
  field_members_known e k a (name ∷ rest) h = h

  pub members_known : covers_names D ≡ true → (ty : Ty) (t : Term) → covers_object_term (uses_in P p mentions) ty t ≡ true → (rest : List (List ℕ))
      → HasKnown D (members_in t (term_exp S ty t) rest)
  members_known free ty (variable k q) h rest =
      let kept : Bool = covers_group_use P p mentions k ty || covers_auto_use P p mentions k ty in
      let a = both_true (is_class_type ty) (kept && is_named_so D k q) h in
      plain_members k q (term_exp S ty (variable k q)) rest
      (variable_known free ty k q
      (or_cases (covers_group_use P p mentions k ty) (covers_auto_use P p mentions k ty) (both_true kept (is_named_so D k q) a.1).0) rest)
  members_known free ty (field (typed of u) k) h rest =
      let a = both_true (is_class_type ty)
      (has_member (uses_in P p mentions) of k (is_same_type ty) && covers_object_term (uses_in P p mentions) of u) h in
      let b = both_true (has_member (uses_in P p mentions) of k (is_same_type ty)) (covers_object_term (uses_in P p mentions) of u) a.1 in
      let name : List ℕ = variable_name S.declarations (field_of S.declarations of k) in
      field_members_known (typed of u) k (term_exp S ty (field (typed of u) k)) rest
      (subst (λ (a : Exp). HasKnown D (more_members a rest))
      (sym (plain_object_field P S same p mentions of k (is_same_type ty) b.0 (member_in u (term_exp S of u) name)))
      (members_known free of u b.1 (name ∷ rest)))
  members_known free ty me h [] = tt
  members_known free ty me h (name ∷ rest) = none_known (more_members (member net.me name) rest) (dotted_members (member net.me name) rest tt)
  members_known free ty (with_object root) h [] = tt
  members_known free ty (with_object root) h (name ∷ rest) = none_known (more_members (net.with_dot name) rest) (dotted_members (net.with_dot name) rest tt)
  members_known free ty (call q qualified no_object no_passed) h rest =
      let G : GivesObject P S same p mentions ty q no_object = gives_object P S same p mentions ty q qualified no_object h in
      let path : Path = procedure_path S qualified q.0 in
      call_members_known q qualified no_object (term_exp S ty (call q qualified no_object no_passed)) rest
      (called_known (is_bare S q.0 qualified no_object no_passed) (net.path path) rest (path_known D S same free qualified q.0, tt)
      (subst (λ (a : Exp). HasKnown D a) (sym (path_members path rest)) (call_path_known free qualified q.0 G.procedure rest G.is_procedure, tt)))
  members_known free ty (call q qualified (of_object (typed s u)) no_passed) h rest =
      let of : Object = of_object (typed s u) in
      let G : GivesObject P S same p mentions ty q of = gives_object P S same p mentions ty q qualified of h in
      let name : List ℕ = procedure_name S.declarations q.0 in
      call_members_known q qualified of (term_exp S ty (call q qualified of no_passed)) rest
      (called_known (is_bare S q.0 qualified of no_passed) (member_in u (term_exp S s u) name) rest
      (members_known free s u G.receiver (name ∷ [])) (members_known free s u G.receiver (name ∷ rest)))
  members_known free ty _ h rest = absurd (cc h)

  -- what stands behind an object
  pub behind_known : covers_names D ≡ true → (e : Expr) (name : List ℕ) → covers_object (uses_in P p mentions) e ≡ true
      → HasKnown D (member_of e (exp_of S e) name)
  behind_known free (typed ty t) name h = members_known free ty t h (name ∷ [])

  place_based : covers_names D ≡ true → (ty : Ty) (t : Term) → Based P S same p mentions ty t → HasKnown D (term_exp S ty t)
  place_based free ty t (inr K) = none_known (term_exp S ty t) K.dotted
  place_based free ty t (inl L) =
      subst (λ (e : Exp). HasKnown D e) (sym L.written) (
        fields_known free L.root.0 L.qualified L.root_variable L.fields (variable_free D free L.root.0 L.root_variable L.covered.0) L.root_variable.owner
            L.covered.1 L.covered.2,
        tt,
      )

  pub place_known : covers_names D ≡ true → (e : Expr) → covers_place (uses_in P p mentions) e ≡ true → HasKnown D (exp_of S e)
  place_known free (typed ty t) h = place_based free ty t (place_of P S same p mentions ty t h)

  pub field_known : covers_names D ≡ true → (ty : Ty) (e : Expr) (k : ℕ) → has_scalar (uses_in P p mentions) (type_at e) k ≡ true
      → covers_base (uses_in P p mentions) e ≡ true → HasKnown D (term_exp S ty (field e k))
  field_known free ty e k h c = place_based free ty (field e k) (scalar_place P S same p mentions ty e k h c)

  pub object_known : covers_names D ≡ true → (ty : Ty) (t : Term) → covers_object_term (uses_in P p mentions) ty t ≡ true → HasKnown D (term_exp S ty t)
  object_known free ty t h = members_known free ty t h []

  pub member_known : covers_names D ≡ true → (ty : Ty) (e : Expr) (k : ℕ) (test : Ty → Bool) → has_member (uses_in P p mentions) (type_at e) k test ≡ true
      → covers_object (uses_in P p mentions) e ≡ true → HasKnown D (term_exp S ty (field e k))
  member_known free ty (typed of u) k test h c =
      let name : List ℕ = variable_name S.declarations (field_of S.declarations of k) in
      subst (λ (a : Exp). HasKnown D a) (sym (plain_object_field P S same p mentions of k test h (member_in u (term_exp S of u) name)))
      (members_known free of u c (name ∷ []))

  -- ---- the types of places

  abbrev pub IsCoveredUser : Ty → Type 0
  IsCoveredUser ty = (t : ℕ) × (ty ≡ types.user t) × (covers_user D t ≡ true)

  -- no array is in it
  abbrev pub IsFlatType : Ty → Type 0
  IsFlatType ty = IsCoveredUser ty ⊎ (is_class_type ty ≡ true)

  of_user : (ty : Ty) → is_user_of (covers_user D) ty ≡ true → IsCoveredUser ty
  of_user (types.user t) h = (t, refl, h)
  of_user _ h = absurd (cc h)

  same_user : (t : ℕ) (ty : Ty) → is_same_type (types.user t) ty ≡ true → ty ≡ types.user t
  same_user t (types.user u) h = ap types.user (sym (eqb-true t u h))
  same_user t _ h = absurd (cc h)

  group_flat : (ty s : Ty) → is_same_type ty s ≡ true → covers_group_type D s ≡ true → IsFlatType ty
  group_flat (types.user t) s h c = inl (t, refl, subst (λ z. covers_group_type D z ≡ true) (same_user t s h) c)
  group_flat (types.class k) s h c = inr refl
  group_flat ty s h c = absurd (cc (a_group D ty s h c))

  field_user : (s t k : ℕ) → covers_user D t ≡ true → is_type (types.user s) (field_type_in D mentions t k) ≡ true → covers_user D s ≡ true
  field_user s t k c h = by (field_of D (types.user t) k) refl h
    where
      by_type : (v : ℕ) → field_of D (types.user t) k ≡ Some v → (o : Option Ty) → field_type_of D mentions (Some v) ≡ o → is_type (types.user s) o ≡ true
          → covers_user D s ≡ true
      by_type v e None f h = absurd (cc h)
      by_type v e (Some ty) f h =
          let is : ty ≡ types.user s = same_user s ty h in
          let shape : FieldShape D t k ty = field_shape_is D t k v ty c e (declared_type D mentions v ty f) in
          subst (λ z. covers_field_type (covers_user D) z ≡ true) is shape.covers

      by : (o : Option ℕ) → field_of D (types.user t) k ≡ o → is_type (types.user s) (field_type_of D mentions o) ≡ true → covers_user D s ≡ true
      by None e h = absurd (cc h)
      by (Some v) e h = by_type v e (field_type_of D mentions (Some v)) refl h

  kept_user : (ty : Ty) (t : Term) → is_kept (uses_in P p mentions) ty t ≡ true → IsCoveredUser ty
  kept_user ty (with_object root) h = of_user ty h
  kept_user ty _ h = absurd (cc h)

  inner_user : (of ty : Ty) (k : ℕ) → has_inner (uses_in P p mentions) of k ty ≡ true → IsCoveredUser of → IsCoveredUser ty
  inner_user of ty k h outer =
      let i = inner_of P S same p mentions of k ty h in
      let number : outer.0 ≡ i.1 = the_number outer.0 i.1 (sym outer.1 ∙ i.3) in
      (i.0, i.2, field_user i.0 i.1 k (subst (λ z. covers_user D z ≡ true) number outer.2) i.4)
    where
      the_number : (a b : ℕ) → types.user a ≡ types.user b → a ≡ b
      the_number a b e = cc e

  base_flat : (ty : Ty) (t : Term) → (is_kept (uses_in P p mentions) ty t ≡ true) ⊎ (covers_place_term (uses_in P p mentions) ty t ≡ true)
      → (covers_place_term (uses_in P p mentions) ty t ≡ true → IsFlatType ty) → IsFlatType ty
  base_flat ty t (inl h) place = inl (kept_user ty t h)
  base_flat ty t (inr h) place = place h

  -- what a field is asked of is of a user type
  outer_user : (of ty : Ty) (k : ℕ) → has_inner (uses_in P p mentions) of k ty ≡ true → IsFlatType of → IsCoveredUser of
  outer_user of ty k h (inl u) = u
  outer_user of ty k h (inr c) = absurd (cc (sym (ap is_class_type (inner_of P S same p mentions of k ty h).3) ∙ c))

  place_type : (ty : Ty) (t : Term) → covers_place_term (uses_in P p mentions) ty t ≡ true → IsFlatType ty
  place_type ty (variable k q) h =
      let found = group_use_at P p mentions k ty (both_true (covers_group_use P p mentions k ty) (is_named_so D k q) h).0 in
      group_flat ty found.variable.ty found.same found.covers
  place_type ty (field (typed of u) k) h =
      let both = both_true (has_inner (uses_in P p mentions) of k ty) (covers_base (uses_in P p mentions) (typed of u)) h in
      let base = base_flat of u (or_cases (is_kept (uses_in P p mentions) of u) (covers_place_term (uses_in P p mentions) of u) both.1) (λ c. place_type of u c) in
      inl (inner_user of ty k both.0 (outer_user of ty k both.0 base))
  place_type ty _ h = absurd (cc h)

  class_of_type : (of : Option ℕ) (ty : Ty) → is_class_of of ty ≡ true → is_class_type ty ≡ true
  class_of_type of (types.class c) h = refl
  class_of_type of _ h = absurd (cc h)

  given_flat : (ty : Ty) → covers_group_type D ty ≡ true → IsFlatType ty
  given_flat (types.user t) h = inl (t, refl, h)
  given_flat (types.class c) h = inr refl
  given_flat _ h = absurd (cc h)

  group_type : (ty : Ty) (t : Term) → covers_group_term (uses_in P p mentions) ty t ≡ true → IsFlatType ty
  group_type ty (call q qualified of args) h =
      given_flat ty (both_true (covers_group_type D ty) (covers_term (uses_in P p mentions) (call q qualified of args)) h).0
  group_type ty (field e k) h =
      inr (both_true (is_class_type ty) (has_member (uses_in P p mentions) (type_at e) k (is_same_type ty) && covers_object (uses_in P p mentions) e) h).0
  group_type ty (variable k q) h =
      let found = auto_use_at P p mentions k ty (both_true (covers_auto_use P p mentions k ty) (is_named_so D k q) h).0 in
      inr (ap is_class_type found.is_type)
  group_type ty me h = inr (class_of_type (uses_in P p mentions).me ty h)
  group_type ty (new_object c) h = inr (class_of_type (Some c.0) ty (both_true (is_class_of (Some c.0) ty) ((uses_in P p mentions).made c.0) h).0)
  group_type ty (convert to e) h =
      given_flat ty (both_true (covers_group_type D ty) (is_class_type ty && (is_same_type ty to && is_nothing e)) h).0
  group_type ty _ h = absurd (cc h)

  -- nor is an array in what a group is as a value
  pub value_flat : (e : Expr) → covers_group (uses_in P p mentions) e ≡ true → IsFlatType (type_at e)
  value_flat (typed ty t) h =
      elim (or_cases (covers_place_term (uses_in P p mentions) ty t) (covers_group_term (uses_in P p mentions) ty t) h)
      [ inl c ↦ place_type ty t c | inr c ↦ group_type ty t c ]

  pub flat_type : ((t : ℕ) → covers_user D t ≡ true → S.facts.holds_array t ≡ false) → (ty : Ty) → IsFlatType ty → holds_array S.facts ty ≡ false
  flat_type flat ty (inl u) = ap (holds_array S.facts) u.1 ∙ flat u.0 u.2
  flat_type flat (types.class c) (inr h) = refl
  flat_type flat _ (inr h) = absurd (cc h)

  -- nothing copies a place
  pub place_flat : ((t : ℕ) → covers_user D t ≡ true → S.facts.holds_array t ≡ false) → (e : Expr) → covers_place (uses_in P p mentions) e ≡ true
      → holds_array S.facts (type_at e) ≡ false
  place_flat flat (typed ty t) h = flat_type flat ty (place_type ty t h)
