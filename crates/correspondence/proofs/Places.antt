-- What is written for a covered place of a user type and for a field of one is a path, that of its variable with the names of the fields, or stands
-- behind the dot of a With.
use Rattle.std.proofs.Common.{◌⊎◌, inl, inr, ◌≡◌, ℕ, Bool, true, false, List, [], ◌∷◌, ◌++◌, Option, Some, None, refl, sym, ap, subst, ◌∙◌, nat_eq, append_assoc, append-nil}
use Rattle.std.specs.List.{list_any}
use Rattle.up_base.proofs.Lists.{both_true}
use Rattle.vb_tree.specs.BoundTree as types
use Rattle.vb_tree.specs.BoundTree.{Ty}
use Rattle.vb_tree.specs.declared.declared.VarId.{VarId}
use Rattle.bound_tree.specs.declared.body.Mention.{Mention}
use Rattle.bound_tree.specs.Tree as tree
use Rattle.bound_tree.specs.Tree.{Program, Variable, Expr, typed, Term, field, variable, with_object}
use Rattle.bound_facts.specs.Members.{field_of}
use Rattle.bound_facts.specs.Node.{auto_class, class_in, type_at, variable_number}
use Rattle.bound_facts.specs.Nodes.{nodes}
use Rattle.net_tree.specs.Tree as net
use Rattle.written_trees.specs.Exprs.{exp_of, made_if, member_in, term_exp}
use Rattle.written_trees.specs.Names.{Path, Scope, member, owner_path, variable_name}
use Rattle.written_trees.specs.Prologues.{one_if}
use Rattle.run_matches.specs.UserTypes.{is_group_type}
use Rattle.run_matches.specs.CoveredVariables.{covers_group_use, field_type_in, is_named_so}
use Rattle.run_matches.specs.CoveredExprs.{covers_base, covers_place, covers_place_term, is_kept, has_field, has_inner, has_scalar, is_scalar_type, is_type, uses_in}
use Rattle.correspondence.specs.Uses.{names, term_uses, uses}
use Rattle.correspondence.proofs.Among.{or_cases}
use Rattle.correspondence.proofs.NamedArrays.{IsRight}
use Rattle.correspondence.proofs.NamedCalls.{neither}
use Rattle.correspondence.proofs.Variables.{IsCoveredAt, IsGroupAt, group_use_at, variable_exp}
use Rattle.correspondence.proofs.PlainFields.{no_class, same_no_class, field_made, group_covered, a_group}

-- what stands behind the dot of a With or behind Me, which names no variable; what a With keeps isn't written itself, so Nothing stands for it
abbrev pub IsDotted : net.Exp → Type 0
IsDotted net.nothing = Unit {0}
IsDotted (net.with_dot name) = Unit {0}
IsDotted (net.dot e name) = IsDotted e
IsDotted net.me = Unit {0}
IsDotted _ = ⊥

pub member_dotted : (a : net.Exp) (name : List ℕ) → IsDotted a → IsDotted (member a name)
member_dotted net.nothing name d = tt
member_dotted (net.with_dot m) name d = tt
member_dotted (net.dot e m) name d = d
member_dotted net.me name d = tt
member_dotted (net.path q) name d = absurd d
member_dotted _ name d = absurd d

pub none_named : (count : Path → ℕ) (a : net.Exp) → IsDotted a → names count a ≡ 0
none_named count net.nothing d = refl
none_named count (net.with_dot name) d = refl
none_named count (net.dot e name) d = none_named count e d
none_named count net.me d = refl
none_named count _ d = absurd d

module _ (P : Program) (S : Scope) (same : S.declarations ≡ P.declarations) (p : ℕ) (mentions : List Mention) where
  -- ---- places

  -- a variable of a user type or a class with fields behind it
  pub record Place (ty : Ty) (t : Term) : Type 0 where
    pub root : VarId
    pub qualified : Bool
    pub root_type : Ty
    pub of_group : is_group_type root_type ≡ true
    pub root_variable : Variable
    pub covered : IsCoveredAt P p root.0 root_variable
    pub is_group : is_group_type root_variable.ty ≡ true
    pub fields : List (List ℕ)
    pub written : term_exp S ty t ≡ net.path (owner_path S qualified root_variable.name root_variable.owner ++ fields)
    pub used : (v : ℕ) → term_uses v t ≡ one_if (nat_eq v root.0)
    pub node : (test : Expr → Bool) → list_any test (nodes (typed ty t)) ≡ false → test (typed root_type (variable root qualified)) ≡ false

  user_of : (of : Ty) (k : ℕ) (ty : Ty) → has_field (uses_in P p mentions) of k ty ≡ true
      → (t : ℕ) × (of ≡ types.user t) × (is_type ty (field_type_in P.declarations mentions t k) ≡ true)
  user_of (types.user t) k ty h = (t, refl, h)
  user_of _ k ty h = absurd (cc h)

  pub inner_of : (of : Ty) (k : ℕ) (ty : Ty) → has_inner (uses_in P p mentions) of k ty ≡ true
      → (s : ℕ) × (t : ℕ) × (ty ≡ types.user s) × (of ≡ types.user t) × (is_type (types.user s) (field_type_in P.declarations mentions t k) ≡ true)
  inner_of of k (types.user s) h = let u = user_of of k (types.user s) h in (s, u.0, refl, u.1, u.2)
  inner_of of k _ h = absurd (cc h)

  scalar_of : (of : Ty) (k : ℕ) → has_scalar (uses_in P p mentions) of k ≡ true
      → (t : ℕ) × (of ≡ types.user t) × (is_scalar_type (field_type_in P.declarations mentions t k) ≡ true)
  scalar_of (types.user t) k h = (t, refl, h)
  scalar_of _ k h = absurd (cc h)

  some_inner : (s : ℕ) (o : Option Ty) → is_type (types.user s) o ≡ true → (ty : Ty) × (o ≡ Some ty) × (class_in ty ≡ None)
  some_inner s None h = absurd (cc h)
  some_inner s (Some ty) h = (ty, refl, same_no_class s ty h)

  some_scalar : (o : Option Ty) → is_scalar_type o ≡ true → (ty : Ty) × (o ≡ Some ty) × (class_in ty ≡ None)
  some_scalar None h = absurd (cc h)
  some_scalar (Some ty) h = (ty, refl, no_class ty h)

  -- no object is made where a field is used
  abbrev IsPlainField : (of : Ty) (k : ℕ) → Type 0
  IsPlainField of k = (a : net.Exp) → made_if S.declarations (auto_class (variable_number S.declarations.vars (field_of S.declarations of k))) a ≡ a

  plain_field : (of : Ty) (k t : ℕ) → of ≡ types.user t → (f : Ty) × (field_type_in P.declarations mentions t k ≡ Some f) × (class_in f ≡ None)
      → IsPlainField of k
  plain_field of k t is f a =
      ap (λ z. made_if S.declarations (auto_class (variable_number S.declarations.vars (field_of S.declarations z k))) a) is
      ∙ subst (λ (d : tree.Declarations). made_if d (auto_class (variable_number d.vars (field_of d (types.user t) k))) a ≡ a) (sym same)
      (field_made P.declarations mentions t k a f.0 f.1 f.2)

  -- what is written for a term has members as a path has
  abbrev HasPlainMembers : Term → Type 0
  HasPlainMembers u = (names : Path) (name : List ℕ) → member_in u (net.path names) name ≡ net.path (names ++ name ∷ [])

  plain_member : (ty : Ty) (u : Term) → covers_place_term (uses_in P p mentions) ty u ≡ true → HasPlainMembers u
  plain_member ty (variable k q) h names name = refl
  plain_member ty (field e k) h names name = refl
  plain_member ty _ h names name = absurd (cc h)

  -- a field stands behind the path of its place
  behind : (ty of : Ty) (u : Term) (k : ℕ) (names : Path) → HasPlainMembers u → IsPlainField of k → term_exp S of u ≡ net.path names
      → term_exp S ty (field (typed of u) k) ≡ net.path (names ++ variable_name S.declarations (field_of S.declarations of k) ∷ [])
  behind ty of u k names plain none e =
      let name : List ℕ = variable_name S.declarations (field_of S.declarations of k) in
      ap (λ (a : net.Exp). made_if S.declarations (auto_class (variable_number S.declarations.vars (field_of S.declarations of k))) (member_in u a name)) e
      ∙ none (member_in u (net.path names) name) ∙ plain names name

  longer : (ty of : Ty) (u : Term) (k : ℕ) → HasPlainMembers u → IsPlainField of k → Place of u → Place ty (field (typed of u) k)
  longer ty of u k plain none L =
      let name : List ℕ = variable_name S.declarations (field_of S.declarations of k) in
      let path : Path = owner_path S L.qualified L.root_variable.name L.root_variable.owner in
      record {
        root = L.root;
        qualified = L.qualified;
        root_type = L.root_type;
        of_group = L.of_group;
        root_variable = L.root_variable;
        covered = L.covered;
        is_group = L.is_group;
        fields = L.fields ++ name ∷ [];
        written =
            behind ty of u k (path ++ L.fields) plain none L.written
            ∙ ap net.path (append_assoc path L.fields (name ∷ []));
        used = L.used;
        node = λ test h. L.node test (neither (test (typed ty (field (typed of u) k))) (list_any test (nodes (typed of u))) h).1;
      }

  -- a place that a With keeps, with fields behind it
  pub record Kept (ty : Ty) (t : Term) : Type 0 where
    pub dotted : IsDotted (term_exp S ty t)
    pub unused : (v : ℕ) → term_uses v t ≡ 0

  dotted_member : (ty : Ty) (u : Term) (a : net.Exp) (name : List ℕ) → covers_place_term (uses_in P p mentions) ty u ≡ true → IsDotted a → IsDotted (member_in u a name)
  dotted_member ty (variable k q) a name h d = member_dotted a name d
  dotted_member ty (field e k) a name h d = member_dotted a name d
  dotted_member ty _ a name h d = absurd (cc h)

  made_dotted : (of : Ty) (k t : ℕ) (a : net.Exp) → of ≡ types.user t → (f : Ty) × (field_type_in P.declarations mentions t k ≡ Some f) × (class_in f ≡ None)
      → IsDotted a → IsDotted (made_if S.declarations (auto_class (variable_number S.declarations.vars (field_of S.declarations of k))) a)
  made_dotted of k t a is f d = subst IsDotted (sym (plain_field of k t is f a)) d

  abbrev pub Based : Ty → Term → Type 0
  Based ty t = Place ty t ⊎ Kept ty t

  behind_base : (ty of : Ty) (u : Term) (k t : ℕ) → of ≡ types.user t → covers_place_term (uses_in P p mentions) of u ≡ true
      → (f : Ty) × (field_type_in P.declarations mentions t k ≡ Some f) × (class_in f ≡ None) → Based of u → Based ty (field (typed of u) k)
  behind_base ty of u k t is covers f (inl L) = inl (longer ty of u k (plain_member of u covers) (plain_field of k t is f) L)
  behind_base ty of u k t is covers f (inr K) =
      inr (record {
        dotted = made_dotted of k t (member_in u (term_exp S of u) (variable_name S.declarations (field_of S.declarations of k))) is f
            (dotted_member of u (term_exp S of u) (variable_name S.declarations (field_of S.declarations of k)) covers K.dotted);
        unused = K.unused;
      })

  kept_field : (ty of : Ty) (u : Term) (k t : ℕ) → of ≡ types.user t → is_kept (uses_in P p mentions) of u ≡ true
      → (f : Ty) × (field_type_in P.declarations mentions t k ≡ Some f) × (class_in f ≡ None) → Based ty (field (typed of u) k)
  kept_field ty of (with_object root) k t is h f =
      inr (record {
        dotted = made_dotted of k t (net.with_dot (variable_name S.declarations (field_of S.declarations of k))) is f tt;
        unused = λ v. refl;
      })
  kept_field ty of _ k t is h f = absurd (cc h)

  field_of_base : (ty of : Ty) (u : Term) (k t : ℕ) → of ≡ types.user t → (f : Ty) × (field_type_in P.declarations mentions t k ≡ Some f) × (class_in f ≡ None)
      → (is_kept (uses_in P p mentions) of u ≡ true) ⊎ (covers_place_term (uses_in P p mentions) of u ≡ true)
      → (covers_place_term (uses_in P p mentions) of u ≡ true → Based of u) → Based ty (field (typed of u) k)
  field_of_base ty of u k t is f (inl h) place = kept_field ty of u k t is h f
  field_of_base ty of u k t is f (inr h) place = behind_base ty of u k t is h f (place h)

  pub variable_place : (k : VarId) (q : Bool) (ty : Ty) → covers_group_use P p mentions k ty ≡ true → Place ty (variable k q)
  variable_place k q ty h =
      let found : IsGroupAt P p k.0 ty = group_use_at P p mentions k ty h in
      let path : Path = owner_path S q found.variable.name found.variable.owner in
      record {
        root = k;
        qualified = q;
        root_type = ty;
        of_group = a_group P.declarations ty found.variable.ty found.same found.covers;
        root_variable = found.variable;
        covered = found.covered;
        is_group = group_covered P.declarations found.variable.ty found.covers;
        fields = [];
        written = variable_exp P S same p k q found.variable found.covered ty found.plain ∙ ap net.path (sym (append-nil path));
        used = λ v. refl;
        node = λ test e. (neither (test (typed ty (variable k q))) false e).0;
      }

  -- ---- places of user types

  pub place_of : (ty : Ty) (t : Term) → covers_place_term (uses_in P p mentions) ty t ≡ true → Based ty t
  place_of ty (variable k q) h =
      inl (variable_place k q ty (both_true (covers_group_use P p mentions k ty) (is_named_so P.declarations k q) h).0)
  place_of ty (field (typed of u) k) h =
      let both = both_true (has_inner (uses_in P p mentions) of k ty) (covers_base (uses_in P p mentions) (typed of u)) h in
      let i = inner_of of k ty both.0 in
      field_of_base ty of u k i.1 i.3 (some_inner i.0 (field_type_in P.declarations mentions i.1 k) i.4)
      (or_cases (is_kept (uses_in P p mentions) of u) (covers_place_term (uses_in P p mentions) of u) both.1) (λ c. place_of of u c)
  place_of ty _ h = absurd (cc h)

  -- a scalar field of a place, or of what a With keeps
  pub scalar_place : (ty : Ty) (e : Expr) (k : ℕ) → has_scalar (uses_in P p mentions) (type_at e) k ≡ true → covers_base (uses_in P p mentions) e ≡ true
      → Based ty (field e k)
  scalar_place ty (typed of u) k h c =
      let i = scalar_of of k h in
      field_of_base ty of u k i.0 i.1 (some_scalar (field_type_in P.declarations mentions i.0 k) i.2)
      (or_cases (is_kept (uses_in P p mentions) of u) (covers_place_term (uses_in P p mentions) of u) c) (λ c. place_of of u c)

  -- ---- what it names

  module _ (v : ℕ) (count : Path → ℕ) (test : Expr → Bool) (right : IsRight P S p mentions v count test) where
    pub path_counted : (ty : Ty) (t : Term) → Based ty t → list_any test (nodes (typed ty t)) ≡ false → term_uses v t ≡ names count (term_exp S ty t)
    path_counted ty t (inl L) free =
        L.used v
        ∙ right.fields L.root L.qualified L.root_type L.root_variable L.fields L.covered L.is_group L.of_group (L.node test free)
        ∙ sym (ap (names count) L.written)
    path_counted ty t (inr K) free = K.unused v ∙ sym (none_named count (term_exp S ty t) K.dotted)

    pub place_names : (e : Expr) → covers_place (uses_in P p mentions) e ≡ true → list_any test (nodes e) ≡ false → uses v e ≡ names count (exp_of S e)
    place_names (typed ty t) h free = path_counted ty t (place_of ty t h) free
