-- Covered user types: their parts, how deep they are taken apart, and that they hold no arrays.
use Rattle.std.proofs.Common.{◌≡◌, refl, sym, ap, subst, ◌∙◌, ℕ, zero, suc, ◌+◌, Bool, true, false, cond, ◌&&◌, nat_eq, List, [], ◌∷◌, length, map, Option, Some, None, slice_get, arith, inl, inr, ⊎_elim, true≢false}
use Rattle.std.specs.Prelude.{filter, option_to_list, nat_lt, IsTrue}
use Rattle.std.specs.List.{flat_map, list_all, list_any}
use Rattle.std.proofs.lemmas.Bool.{eqb-true}
use Rattle.vb_tree.specs.BoundTree.{Ty}
use Rattle.vb_tree.specs.BoundTree as types
use Rattle.vb_tree.specs.declared.declared.VarId.{VarId}
use Rattle.bound_tree.specs.declared.declared.TypeDecl.{TypeDecl}
use Rattle.bound_tree.specs.Tree.{Variable, Declarations}
use Rattle.reach_table.specs.Chains.{Chain, empty, longer}
use Rattle.bound_facts.specs.Leading.{is_in, is_within, within}
use Rattle.bound_facts.specs.Locks.{user_in, type_of_variable, field_types, pairs_from, type_pairs}
use Rattle.bound_facts.specs.Node.{is_array_type}
use Rattle.written_trees.specs.Facts.{Holds, is_made_type, types_with}
use Rattle.vb6_run.specs.Shapes.{user_shape, group_by}
use Rattle.run_matches.specs.CoveredVariables.{are_different, covers_field_type, covers_field, covers_user_by, covers_user_within, covers_user}
use Rattle.run_matches.specs.Pledges.{type_of_shape}
use Rattle.run_matches.specs.Upgrades.{Upgrade}
use Rattle.run_matches.specs.UserTypes.{field_names, type_leads}
use Rattle.run_statements.specs.Written.{IsWritten}
use Rattle.agreeing_laws.proofs.UserShapes.{deeper_covers, deeper_same}
use Rattle.name_laws.proofs.Lists.{both_true, some_same, Among, among, all_among, any_among, among_append, among_map}

-- ---- the parts of a covered user type

pub record TypeParts (D : Declarations) (n t : ℕ) : Type 0 where
  pub declared : TypeDecl
  pub is_declared : slice_get D.types t ≡ Some declared
  pub leads : type_leads D t declared ≡ true
  pub differ : are_different (field_names D declared) ≡ true
  pub fields : list_all (λ (v : VarId). covers_field (covers_user_within D n) (slice_get D.vars v.0)) declared.fields ≡ true

pub type_parts : (D : Declarations) (n t : ℕ) → covers_user_within D (suc n) t ≡ true → TypeParts D n t
type_parts D n t h = by (slice_get D.types t) refl h
  where
    by : (o : Option TypeDecl) → slice_get D.types t ≡ o → covers_user_by D (covers_user_within D n) t o ≡ true → TypeParts D n t
    by None e k = absurd (cc k)
    by (Some d) e k =
        let fields = list_all (λ (v : VarId). covers_field (covers_user_within D n) (slice_get D.vars v.0)) d.fields in
        let a = both_true (type_leads D t d) (are_different (field_names D d) && fields) k in
        let b = both_true (are_different (field_names D d)) fields a.1 in
        record { declared = d; is_declared = e; leads = a.0; differ = b.0; fields = b.1 }

-- the type of a field
pub record FieldType (D : Declarations) (n : ℕ) (v : ℕ) : Type 0 where
  pub variable : Variable
  pub is_variable : slice_get D.vars v ≡ Some variable
  pub covers : covers_field_type (covers_user_within D n) variable.ty ≡ true

pub field_type : (D : Declarations) (n v : ℕ) → covers_field (covers_user_within D n) (slice_get D.vars v) ≡ true → FieldType D n v
field_type D n v h = by (slice_get D.vars v) refl h
  where
    by : (o : Option Variable) → slice_get D.vars v ≡ o → covers_field (covers_user_within D n) o ≡ true → FieldType D n v
    by None e k = absurd (cc k)
    by (Some x) e k = record { variable = x; is_variable = e; covers = k }

-- ---- depths

pub covers_deeper : (D : Declarations) (k n m t : ℕ) → m ≡ k + n → covers_user_within D n t ≡ true → covers_user_within D m t ≡ true
covers_deeper D zero n m t e h = subst (λ z. covers_user_within D z t ≡ true) (let q : n ≡ m = omega (arith, e) in q) h
covers_deeper D (suc k) n m t e h =
    subst (λ z. covers_user_within D z t ≡ true) (let q : suc (k + n) ≡ m = omega (arith, e) in q)
    (deeper_covers D (k + n) t (covers_deeper D k n (k + n) t refl h))

shape_deeper : (D : Declarations) (k n m t : ℕ) → m ≡ k + n → covers_user_within D n t ≡ true → user_shape D n t ≡ user_shape D m t
shape_deeper D zero n m t e h = ap (λ z. user_shape D z t) (let q : n ≡ m = omega (arith, e) in q)
shape_deeper D (suc k) n m t e h =
    shape_deeper D k n (k + n) t refl h ∙ deeper_same D (k + n) t (covers_deeper D k n (k + n) t refl h)
    ∙ ap (λ z. user_shape D z t) (let q : suc (k + n) ≡ m = omega (arith, e) in q)

-- what is covered down to two depths has one shape
pub depths_same : (D : Declarations) (n m t : ℕ) → covers_user_within D n t ≡ true → covers_user_within D m t ≡ true → user_shape D n t ≡ user_shape D m t
depths_same D n m t h k =
    shape_deeper D m n (m + n) t refl h ∙ sym (shape_deeper D n m (m + n) t (omega arith) k)

-- the type of such a shape
pub type_of_user : (D : Declarations) (n t : ℕ) → covers_user_within D n t ≡ true → type_of_shape (user_shape D n t) ≡ types.user t
type_of_user D zero t h = absurd (cc h)
type_of_user D (suc n) t h =
    let P : TypeParts D n t = type_parts D n t h in
    ap (λ o. type_of_shape (group_by D (λ u. user_shape D n u) t o)) P.is_declared

-- ---- what they hold

pub among_flat : {X Y : Type 0} (f : X → List Y) (xs : List X) (y : Y) → Among (flat_map f xs) y → (x : X) × Among xs x × Among (f x) y
among_flat f [] y h = absurd h
among_flat f (x ∷ xs) y h =
    ⊎_elim (λ a. (x, inl refl, a)) (λ a. let m = among_flat f xs y a in (m.0, inr m.1, m.2)) (among_append (f x) (flat_map f xs) y h)

in_among : (ns : List ℕ) (n : ℕ) → is_in ns n ≡ true → Among ns n
in_among ns n h = let m = any_among (nat_eq n) ns h in subst (λ z. Among ns z) (sym (eqb-true n m.0 m.2)) m.1

-- a type of a field of a user type
pub record FieldOf (D : Declarations) (t : ℕ) (ty : Ty) : Type 0 where
  pub declared : TypeDecl
  pub is_declared : slice_get D.types t ≡ Some declared
  pub field : VarId
  pub is_field : Among declared.fields field
  pub variable : Variable
  pub is_variable : slice_get D.vars field.0 ≡ Some variable
  pub is_type : variable.ty ≡ ty

there : (D : Declarations) (t k i : ℕ) (ds : List TypeDecl) (d : TypeDecl) → slice_get ds i ≡ Some d → t ≡ k + i
    → ((j : ℕ) (e : TypeDecl) → slice_get ds j ≡ Some e → slice_get D.types (k + j) ≡ Some e) → (ty : Ty) → Among (field_types D d) ty → FieldOf D t ty
there D t k i ds d at e each ty m =
    let f = among_flat (λ (v : VarId). type_of_variable (slice_get D.vars v.0)) d.fields ty m in
    by f.0 f.1 (slice_get D.vars f.0.0) refl f.2
  where
    by : (v : VarId) → Among d.fields v → (o : Option Variable) → slice_get D.vars v.0 ≡ o → Among (type_of_variable o) ty → FieldOf D t ty
    by v a None is h = absurd h
    by v a (Some x) is (inl h) = record {
      declared = d;
      is_declared = ap (slice_get D.types) e ∙ each i d at;
      field = v;
      is_field = a;
      variable = x;
      is_variable = is;
      is_type = h;
    }
    by v a (Some x) is (inr h) = absurd h

-- one of the items from a number on
rest_at : {X : Type 0} (k : ℕ) (all : List X) (x : X) (xs : List X) → ((j : ℕ) (y : X) → slice_get (x ∷ xs) j ≡ Some y → slice_get all (k + j) ≡ Some y)
    → (j : ℕ) (y : X) → slice_get xs j ≡ Some y → slice_get all (suc k + j) ≡ Some y
rest_at k all x xs each j y e = subst (λ n. slice_get all n ≡ Some y) (let q : k + suc j ≡ suc k + j = omega arith in q) (each (suc j) y e)

module _ (D : Declarations) where
  abbrev Stand : ℕ → List TypeDecl → Type 0
  Stand k ds = (j : ℕ) (d : TypeDecl) → slice_get ds j ≡ Some d → slice_get D.types (k + j) ≡ Some d

  abbrev users_in : TypeDecl → List ℕ
  users_in d = flat_map (λ ty. option_to_list (user_in ty)) (field_types D d)

  abbrev paired : ℕ → ℕ → ℕ × ℕ
  paired k u = (k, u)

  -- a pair is of a type and one of a field
  pair_of : (k : ℕ) (ds : List TypeDecl) → Stand k ds → (a b : ℕ) → Among (pairs_from D k ds) (a, b) → (ty : Ty) × (user_in ty ≡ Some b) × FieldOf D a ty
  pair_of k [] stand a b h = absurd h
  pair_of k (d ∷ ds) stand a b h =
      ⊎_elim by (λ m. pair_of (suc k) ds (rest_at k D.types d ds stand) a b m)
      (among_append (map (paired k) (users_in d)) (pairs_from D (suc k) ds) (a, b) h)
    where
      one_of : (ty : Ty) (o : Option ℕ) → user_in ty ≡ o → Among (option_to_list o) b → user_in ty ≡ Some b
      one_of ty None e h = absurd h
      one_of ty (Some u) e (inl h) = e ∙ ap Some h
      one_of ty (Some u) e (inr h) = absurd h

      by : Among {X = ℕ × ℕ} (map (paired k) (users_in d)) (a, b) → (ty : Ty) × (user_in ty ≡ Some b) × FieldOf D a ty
      by m =
          let p = among_map (paired k) (users_in d) (a, b) m in
          let same : k ≡ a = ap (λ (z : ℕ × ℕ). z.0) p.2 in
          let number : p.0 ≡ b = ap (λ (z : ℕ × ℕ). z.1) p.2 in
          let q = among_flat (λ ty. option_to_list (user_in ty)) (field_types D d) b (subst (λ z. Among (users_in d) z) number p.1) in (
            q.0,
            one_of q.0 (user_in q.0) refl q.2,
            there D a k 0 (d ∷ ds) d refl (let e : a ≡ k + 0 = omega (arith, same) in e) stand q.0 q.1,
          )

  -- a type that has a field of a type that passes
  field_with : (test : Ty → Bool) (k : ℕ) (ds : List TypeDecl) → Stand k ds → (a : ℕ) → Among (types_with D test k ds) a
      → (ty : Ty) × (test ty ≡ true) × FieldOf D a ty
  field_with test k [] stand a h = absurd h
  field_with test k (d ∷ ds) stand a h =
      ⊎_elim (by (list_any test (field_types D d)) refl) (λ m. field_with test (suc k) ds (rest_at k D.types d ds stand) a m)
      (among_append (cond (list_any test (field_types D d)) (k ∷ []) []) (types_with D test (suc k) ds) a h)
    where
      by : (b : Bool) → list_any test (field_types D d) ≡ b → Among (cond b (k ∷ []) []) a → (ty : Ty) × (test ty ≡ true) × FieldOf D a ty
      by true e (inl m) =
          let p = any_among test (field_types D d) e in
          (p.0, p.2, there D a k 0 (d ∷ ds) d refl (let q : a ≡ k + 0 = omega (arith, m) in q) stand p.0 p.1)
      by true e (inr m) = absurd m
      by false e m = absurd m

  -- the type of a field of a covered type
  field_covered : (n t : ℕ) (ty : Ty) → covers_user_within D (suc n) t ≡ true → FieldOf D t ty → covers_field_type (covers_user_within D n) ty ≡ true
  field_covered n t ty h F =
      let P : TypeParts D n t = type_parts D n t h in
      let same : F.declared ≡ P.declared = some_same F.declared P.declared (sym F.is_declared ∙ P.is_declared) in
      let covers : covers_field (covers_user_within D n) (slice_get D.vars F.field.0) ≡ true =
      all_among (λ (v : VarId). covers_field (covers_user_within D n) (slice_get D.vars v.0)) P.declared.fields F.field P.fields
      (subst (λ (d : TypeDecl). Among d.fields F.field) same F.is_field) in
      subst (λ z. covers_field_type (covers_user_within D n) z ≡ true) F.is_type (sym (ap (covers_field (covers_user_within D n)) F.is_variable) ∙ covers)

  inner_covered : (n b : ℕ) (ty : Ty) → covers_field_type (covers_user_within D n) ty ≡ true → user_in ty ≡ Some b → covers_user_within D n b ≡ true
  inner_covered n b types.boolean h e = absurd (cc e)
  inner_covered n b types.byte h e = absurd (cc e)
  inner_covered n b types.integer h e = absurd (cc e)
  inner_covered n b types.long h e = absurd (cc e)
  inner_covered n b types.currency h e = absurd (cc e)
  inner_covered n b types.str h e = absurd (cc e)
  inner_covered n b (types.user u) h e = subst (λ z. covers_user_within D n z ≡ true) (some_same u b e) h
  inner_covered n b _ h e = absurd (cc h)

  step_covered : (n a b : ℕ) → covers_user_within D n a ≡ true → Among (type_pairs D) (a, b) → covers_user_within D n b ≡ true
  step_covered zero a b h m = absurd (cc h)
  step_covered (suc n) a b h m =
      let p = pair_of 0 D.types (λ j d e. subst (λ z. slice_get D.types z ≡ Some d) (let q : j ≡ 0 + j = omega arith in q) e) a b m in
      deeper_covers D n b (inner_covered n b p.0 (field_covered n a p.0 h p.2) p.1)

  filtered : {X : Type 0} (test : X → Bool) (xs : List X) (x : X) → Among (filter test xs) x → Among xs x
  filtered test [] x h = h
  filtered test (y ∷ ys) x h = by (test y) h (λ m. filtered test ys x m)
    where
      by : (b : Bool) → Among (cond b (y ∷ filter test ys) (filter test ys)) x → (Among (filter test ys) x → Among ys x) → Among (y ∷ ys) x
      by true (inl e) more = inl e
      by true (inr m) more = inr (more m)
      by false m more = inr (more m)

  chain_covered : (n a b : ℕ) → Chain (within (length D.types) (type_pairs D)) a b → covers_user_within D n a ≡ true → covers_user_within D n b ≡ true
  chain_covered n _ _ (empty a) h = h
  chain_covered n _ _ (longer a b c chain m) h =
      step_covered n b c (chain_covered n a b chain h)
      (filtered (is_within (length D.types)) (type_pairs D) (b, c) (among (within (length D.types) (type_pairs D)) (b, c) m))

  no_field : (test : Ty → Bool) → ((n : ℕ) (ty : Ty) → covers_field_type (covers_user_within D n) ty ≡ true → test ty ≡ false) → (n t : ℕ)
      → covers_user_within D n t ≡ true → Among (types_with D test 0 D.types) t → ⊥
  no_field test none zero t h m = cc h
  no_field test none (suc n) t h m =
      let p = field_with test 0 D.types (λ j d e. subst (λ z. slice_get D.types z ≡ Some d) (let q : j ≡ 0 + j = omega arith in q) e) t m in
      true≢false (sym p.1 ∙ none n p.0 (field_covered n t p.0 h p.2))

  holds_none : (test : Ty → Bool) → ((n : ℕ) (ty : Ty) → covers_field_type (covers_user_within D n) ty ≡ true → test ty ≡ false) → (t : ℕ)
      → covers_user D t ≡ true → Holds D test t → ⊥
  holds_none test none t h (to, e, chain) =
      let b = both_true (nat_lt to (length D.types)) (is_in (types_with D test 0 D.types) to) e in
      no_field test none (length D.types) to (chain_covered (length D.types) t to chain h) (in_among (types_with D test 0 D.types) to b.1)

no_array : (users : ℕ → Bool) (ty : Ty) → covers_field_type users ty ≡ true → is_array_type ty ≡ false
no_array users types.boolean h = refl
no_array users types.byte h = refl
no_array users types.integer h = refl
no_array users types.long h = refl
no_array users types.currency h = refl
no_array users types.str h = refl
no_array users (types.user u) h = refl
no_array users _ h = absurd (cc h)

not_made : (users : ℕ → Bool) (ty : Ty) → covers_field_type users ty ≡ true → is_made_type ty ≡ false
not_made users types.boolean h = refl
not_made users types.byte h = refl
not_made users types.integer h = refl
not_made users types.long h = refl
not_made users types.currency h = refl
not_made users types.str h = refl
not_made users (types.user u) h = refl
not_made users _ h = absurd (cc h)

is_false : (b : Bool) → (IsTrue b → ⊥) → b ≡ false
is_false true h = absurd (h refl)
is_false false h = refl

-- a covered user type holds no array
pub holds_no_array : (U : Upgrade) → IsWritten U → (t : ℕ) → covers_user U.program.declarations t ≡ true → U.facts.holds_array t ≡ false
holds_no_array U I t h =
    is_false (U.facts.holds_array t) (λ x. holds_none U.program.declarations is_array_type (λ n ty c. no_array (covers_user_within U.program.declarations n) ty c) t h ((I.arrays t).0 x))

-- nor is it made by a function
pub is_unmade : (U : Upgrade) → IsWritten U → (t : ℕ) → covers_user U.program.declarations t ≡ true → U.facts.is_made t ≡ false
is_unmade U I t h =
    is_false (U.facts.is_made t) (λ x. holds_none U.program.declarations is_made_type (λ n ty c. not_made (covers_user_within U.program.declarations n) ty c) t h ((I.made t).0 x))
