-- What is written for an object that is kept or given names what it uses, and so it is with members behind it.
use Rattle.std.proofs.Common.{◌⊎◌, inl, inr, ◌≡◌, ◌+◌, ℕ, Bool, true, false, ◌&&◌, List, [], ◌∷◌, ◌++◌, Option, Some, None, refl, sym, ap, subst, ◌∙◌, arith, append_assoc, append-nil}
use Rattle.std.specs.List.{list_any}
use Rattle.std.specs.Prelude.{◌||◌, slice_get}
use Rattle.up_base.proofs.Lists.{both_true}
use Rattle.vb_tree.specs.BoundTree as types
use Rattle.vb_tree.specs.BoundTree.{Ty}
use Rattle.vb_tree.specs.declared.declared.ProcId.{ProcId}
use Rattle.vb_tree.specs.declared.declared.VarId.{VarId}
use Rattle.bound_tree.specs.declared.body.Mention.{Mention}
use Rattle.bound_tree.specs.Tree as tree
use Rattle.bound_tree.specs.Tree.{Procedure, Program, Expr, typed, Term, call, field, me, variable, with_object, Object, no_object, of_object, no_passed}
use Rattle.bound_facts.specs.Locks.{is_same_type}
use Rattle.bound_facts.specs.Members.{field_of}
use Rattle.bound_facts.specs.Node.{auto_class, type_at, variable_number}
use Rattle.bound_facts.specs.Nodes.{nodes, nodes_in}
use Rattle.net_tree.specs.Tree as net
use Rattle.written_trees.specs.Conversions.{one, support_call}
use Rattle.written_trees.specs.Exprs.{called, exp_of, is_bare, made_if, member_in, member_of, target_exp, term_exp}
use Rattle.written_trees.specs.Names.{Path, Scope, auto_name, member, owner_path, procedure_name, procedure_path, support, variable_name}
use Rattle.run_matches.specs.UserTypes.{is_class_type, is_group_type}
use Rattle.run_matches.specs.CoveredVariables.{covers_auto_use, covers_group_use, is_named_so, member_type_in}
use Rattle.run_matches.specs.CoveredExprs.{covers_object, covers_object_term, covers_receiver, has_member, has_result_type, is_passing, uses_in}
use Rattle.correspondence.specs.Uses.{exps_name, names, term_uses, uses}
use Rattle.correspondence.proofs.Among.{or_cases}
use Rattle.correspondence.proofs.NamedArrays.{IsRight}
use Rattle.correspondence.proofs.NamedCalls.{neither, none_of_both}
use Rattle.correspondence.proofs.Places.{IsDotted, Place, member_dotted, none_named, variable_place}
use Rattle.correspondence.proofs.PlainFields.{member_made}
use Rattle.correspondence.proofs.Variables.{UsedAuto, auto_exp, auto_use_at}

-- ---- members of members

abbrev pub more_members : net.Exp → List (List ℕ) → net.Exp
more_members a [] = a
more_members a (name ∷ rest) = more_members (member a name) rest

-- of what is written `a` for a term; of what a With keeps they are written alone
abbrev pub members_in : Term → net.Exp → List (List ℕ) → net.Exp
members_in t a [] = a
members_in t a (name ∷ rest) = more_members (member_in t a name) rest

pub path_members : (path : Path) (rest : List (List ℕ)) → more_members (net.path path) rest ≡ net.path (path ++ rest)
path_members path [] = ap net.path (sym (append-nil path))
path_members path (name ∷ rest) = path_members (path ++ name ∷ []) rest ∙ ap net.path (append_assoc path (name ∷ []) rest)

pub dotted_members : (a : net.Exp) (rest : List (List ℕ)) → IsDotted a → IsDotted (more_members a rest)
dotted_members a [] d = d
dotted_members a (name ∷ rest) d = dotted_members (member a name) rest (member_dotted a name d)

dot_members : (count : Path → ℕ) (a : net.Exp) (name : List ℕ) (rest : List (List ℕ)) → names count (more_members (net.dot a name) rest) ≡ names count a
dot_members count a name [] = refl
dot_members count a name (next ∷ rest) = dot_members count (net.dot a name) next rest

-- behind a call
call_members : (count : Path → ℕ) (c : net.Exp) (es : net.Exps) (rest : List (List ℕ))
    → names count (more_members (net.call_of c es) rest) ≡ names count c + exps_name count es
call_members count c es [] = refl
call_members count c es (name ∷ rest) = dot_members count (net.call_of c es) name rest

plus_none : (n : ℕ) → n + 0 ≡ n
plus_none n = omega arith

-- what is called without arguments, and members behind it
called_members : (count : Path → ℕ) (bare : Bool) (c : net.Exp) (rest : List (List ℕ)) (n : ℕ) → names count c ≡ n → names count (more_members c rest) ≡ n
    → names count (more_members (called bare c net.no_exps) rest) ≡ n
called_members count true c rest n alone more = more
called_members count false c rest n alone more = call_members count c net.no_exps rest ∙ plus_none (names count c) ∙ alone

module _ (P : Program) (S : Scope) (same : S.declarations ≡ P.declarations) (p : ℕ) (mentions : List Mention) where
  -- an object has a variable of a type that passes
  pub record MemberOf (of : Ty) (k : ℕ) (test : Ty → Bool) : Type 0 where
    pub class : ℕ
    pub of_class : of ≡ types.class class
    pub member_type : Ty
    pub is_type : member_type_in P.declarations mentions class k ≡ Some member_type
    pub passes : test member_type ≡ true

  member_of_class : (of : Ty) (k : ℕ) (test : Ty → Bool) → has_member (uses_in P p mentions) of k test ≡ true → MemberOf of k test
  member_of_class (types.class c) k test h = by (member_type_in P.declarations mentions c k) refl h
    where
      by : (o : Option Ty) → member_type_in P.declarations mentions c k ≡ o → is_passing test o ≡ true → MemberOf (types.class c) k test
      by None e h = absurd (cc h)
      by (Some ty) e h = record { class = c; of_class = refl; member_type = ty; is_type = e; passes = h }
  member_of_class _ k test h = absurd (cc h)

  -- it is no As New one
  pub plain_object_field : (of : Ty) (k : ℕ) (test : Ty → Bool) → has_member (uses_in P p mentions) of k test ≡ true → (a : net.Exp)
      → made_if S.declarations (auto_class (variable_number S.declarations.vars (field_of S.declarations of k))) a ≡ a
  plain_object_field of k test h a =
      let M : MemberOf of k test = member_of_class of k test h in
      ap (λ z. made_if S.declarations (auto_class (variable_number S.declarations.vars (field_of S.declarations z k))) a) M.of_class
      ∙ subst (λ (d : tree.Declarations). made_if d (auto_class (variable_number d.vars (field_of d (types.class M.class) k))) a ≡ a) (sym same)
      (member_made P.declarations mentions M.class k a M.member_type M.is_type)

  pub member_written : (ty : Ty) (e : Expr) (k : ℕ) → covers_object_term (uses_in P p mentions) ty (field e k) ≡ true
      → exp_of S (typed ty (field e k)) ≡ target_exp S (typed ty (field e k))
  member_written ty (typed of u) k h =
      let a = both_true (is_class_type ty)
      (has_member (uses_in P p mentions) of k (is_same_type ty) && covers_object_term (uses_in P p mentions) of u) h in
      let b = both_true (has_member (uses_in P p mentions) of k (is_same_type ty)) (covers_object_term (uses_in P p mentions) of u) a.1 in
      plain_object_field of k (is_same_type ty) b.0
      (member_in u (term_exp S of u) (variable_name S.declarations (field_of S.declarations of k)))

  -- what a call that gives an object is of
  pub record GivesObject (ty : Ty) (q : ProcId) (of : Object) : Type 0 where
    pub class : is_class_type ty ≡ true
    pub procedure : Procedure
    pub is_procedure : slice_get S.declarations.procs q.0 ≡ Some procedure
    pub receiver : covers_receiver (uses_in P p mentions) of ≡ true

  pub gives_object : (ty : Ty) (q : ProcId) (qualified : Bool) (of : Object)
      → covers_object_term (uses_in P p mentions) ty (call q qualified of no_passed) ≡ true → GivesObject ty q of
  gives_object ty q qualified of h =
      let cover = uses_in P p mentions in
      let results : Bool = cover.results q.0 ty && covers_receiver cover of in
      let a = both_true (is_class_type ty) (cover.given ty && (cover.gives q.0 && results)) h in
      let b = both_true (cover.gives q.0) results (both_true (cover.given ty) (cover.gives q.0 && results) a.1).1 in
      let c = both_true (cover.results q.0 ty) (covers_receiver cover of) b.1 in
      let d : (y : Procedure) × (slice_get P.declarations.procs q.0 ≡ Some y) = by (slice_get P.declarations.procs q.0) refl c.0 in
      record { class = a.0; procedure = d.0; is_procedure = ap (λ (E : tree.Declarations). slice_get E.procs q.0) same ∙ d.1; receiver = c.1 }
    where
      by : (o : Option Procedure) → slice_get P.declarations.procs q.0 ≡ o → has_result_type ty o ≡ true
          → (y : Procedure) × (slice_get P.declarations.procs q.0 ≡ Some y)
      by None e k = absurd (cc k)
      by (Some y) e k = (y, e)

  class_group : (ty : Ty) → is_class_type ty ≡ true → is_group_type ty ≡ true
  class_group (types.class c) h = refl
  class_group _ h = absurd (cc h)

  module _ (v : ℕ) (count : Path → ℕ) (test : Expr → Bool) (right : IsRight P S p mentions v count test) where
    abbrev Free : List Expr → Type 0
    Free es = list_any test es ≡ false

    abbrev Counted : Ty → Term → List (List ℕ) → Type 0
    Counted ty t rest = term_uses v t ≡ names count (members_in t (term_exp S ty t) rest)

    plain_members : (k : VarId) (q : Bool) (a : net.Exp) (rest : List (List ℕ)) → members_in (variable k q) a rest ≡ more_members a rest
    plain_members k q a [] = refl
    plain_members k q a (name ∷ rest) = refl

    variable_counted : (ty : Ty) (k : VarId) (q : Bool) → (covers_group_use P p mentions k ty ≡ true) ⊎ (covers_auto_use P p mentions k ty ≡ true)
        → Free (nodes (typed ty (variable k q))) → (rest : List (List ℕ)) → Counted ty (variable k q) rest
    variable_counted ty k q (inl h) free rest =
        let L : Place P S same p mentions ty (variable k q) = variable_place P S same p mentions k q ty h in
        let path : Path = owner_path S L.qualified L.root_variable.name L.root_variable.owner in
        L.used v
        ∙ right.fields L.root L.qualified L.root_type L.root_variable (L.fields ++ rest) L.covered L.is_group L.of_group (L.node test free)
        ∙ sym (ap (names count) (plain_members k q (term_exp S ty (variable k q)) rest) ∙ ap (λ a. names count (more_members a rest)) L.written
        ∙ ap (names count) (path_members (path ++ L.fields) rest ∙ ap net.path (append_assoc path L.fields rest)))
    variable_counted ty k q (inr h) free rest =
        let found : UsedAuto P p k.0 ty = auto_use_at P p mentions k ty h in
        let path : Path = owner_path S q found.variable.name found.variable.owner in
        let function : List ℕ = auto_name S.declarations found.class in
        let call : exp_of S (typed ty (variable k q)) ≡ support_call function (one (net.path path)) =
        auto_exp P S same p k q found.variable found.covered ty found.class found.of_class found.is_auto in
        right.used k q ty (inr (inr (inr (ty, h)))) ∙ ap (names count) call
        ∙ sym (ap (names count) (plain_members k q (term_exp S ty (variable k q)) rest) ∙ ap (λ a. names count (more_members a rest)) call
        ∙ call_members count (net.path (support function)) (one (net.path path)) rest)

    -- of what is written for a member
    behind_member : (u : Term) (a b : net.Exp) (name : List ℕ) (rest : List (List ℕ)) → a ≡ member_in u b name
        → names count (more_members a rest) ≡ names count (members_in u b (name ∷ rest))
    behind_member u a b name rest is = ap (λ z. names count (more_members z rest)) is

    call_at : (q : ProcId) (qualified : Bool) (of : Object) (a : net.Exp) (rest : List (List ℕ))
        → names count (members_in (call q qualified of no_passed) a rest) ≡ names count (more_members a rest)
    call_at q qualified of a [] = refl
    call_at q qualified of a (name ∷ rest) = refl

    pub object_counted : (ty : Ty) (t : Term) → covers_object_term (uses_in P p mentions) ty t ≡ true → list_any test (nodes (typed ty t)) ≡ false
        → (rest : List (List ℕ)) → term_uses v t ≡ names count (members_in t (term_exp S ty t) rest)
    object_counted ty (variable k q) h free rest =
        let kept : Bool = covers_group_use P p mentions k ty || covers_auto_use P p mentions k ty in
        let a = both_true (is_class_type ty) (kept && is_named_so P.declarations k q) h in
        variable_counted ty k q
        (or_cases (covers_group_use P p mentions k ty) (covers_auto_use P p mentions k ty) (both_true kept (is_named_so P.declarations k q) a.1).0) free rest
    object_counted ty (field (typed of u) k) h free rest =
        let a = both_true (is_class_type ty)
        (has_member (uses_in P p mentions) of k (is_same_type ty) && covers_object_term (uses_in P p mentions) of u) h in
        let b = both_true (has_member (uses_in P p mentions) of k (is_same_type ty)) (covers_object_term (uses_in P p mentions) of u) a.1 in
        let inner = (neither (test (typed ty (field (typed of u) k))) (list_any test (nodes (typed of u))) free).1 in
        let name : List ℕ = variable_name S.declarations (field_of S.declarations of k) in
        let is = plain_object_field of k (is_same_type ty) b.0 (member_in u (term_exp S of u) name) in
        object_counted of u b.1 inner (name ∷ rest)
        ∙ sym (field_members (typed of u) k (term_exp S ty (field (typed of u) k)) rest
        ∙ behind_member u (term_exp S ty (field (typed of u) k)) (term_exp S of u) name rest is)
      where
        field_members : (e : Expr) (k : ℕ) (a : net.Exp) (rest : List (List ℕ)) → names count (members_in (field e k) a rest) ≡ names count (more_members a rest)
        field_members e k a [] = refl
        field_members e k a (name ∷ rest) = refl
    object_counted ty me h free [] = refl
    object_counted ty me h free (name ∷ rest) = sym (none_named count (more_members (member net.me name) rest) (dotted_members (member net.me name) rest tt))
    object_counted ty (with_object root) h free [] = refl
    object_counted ty (with_object root) h free (name ∷ rest) = sym (none_named count (more_members (net.with_dot name) rest) (dotted_members (net.with_dot name) rest tt))
    object_counted ty (call q qualified no_object no_passed) h free rest =
        let G = gives_object ty q qualified no_object h in
        let own = (neither (test (typed ty (call q qualified no_object no_passed))) false free).0 in
        let path : Path = procedure_path S qualified q.0 in
        sym (call_at q qualified no_object (term_exp S ty (call q qualified no_object no_passed)) rest
        ∙ called_members count (is_bare S q.0 qualified no_object no_passed) (net.path path) rest 0 (right.uncalled ty q qualified no_passed own)
        (ap (names count) (path_members path rest) ∙ right.behind_call ty q qualified G.procedure rest G.is_procedure (class_group ty G.class) own))
    object_counted ty (call q qualified (of_object (typed s u)) no_passed) h free rest =
        let e : Expr = typed s u in
        let whole : Expr = typed ty (call q qualified (of_object e) no_passed) in
        let G = gives_object ty q qualified (of_object e) h in
        let inner = (none_of_both test (nodes e) [] (neither (test whole) (list_any test (nodes_in (call q qualified (of_object e) no_passed))) free).1).0 in
        let name : List ℕ = procedure_name S.declarations q.0 in
        let callee : net.Exp = member_in u (term_exp S s u) name in
        let alone = object_counted s u G.receiver inner (name ∷ []) in
        let more = object_counted s u G.receiver inner (name ∷ rest) in
        let written = called_members count (is_bare S q.0 qualified (of_object e) no_passed) callee rest (term_uses v u) (sym alone) (sym more) in
        let at = call_at q qualified (of_object e) (term_exp S ty (call q qualified (of_object e) no_passed)) rest in
        plus_none (term_uses v u) ∙ sym (at ∙ written)
    object_counted ty _ h free rest = absurd (cc h)

    -- what stands behind an object
    pub behind_names : (e : Expr) (name : List ℕ) → covers_object (uses_in P p mentions) e ≡ true → list_any test (nodes e) ≡ false
        → uses v e ≡ names count (member_of e (exp_of S e) name)
    behind_names (typed ty t) name h free = object_counted ty t h free (name ∷ [])

    -- a variable of one
    pub member_names : (ty : Ty) (e : Expr) (k : ℕ) (passes : Ty → Bool) → has_member (uses_in P p mentions) (type_at e) k passes ≡ true
        → covers_object (uses_in P p mentions) e ≡ true → list_any test (nodes e) ≡ false → term_uses v (field e k) ≡ names count (term_exp S ty (field e k))
    member_names ty (typed of u) k passes has h free =
        let name : List ℕ = variable_name S.declarations (field_of S.declarations of k) in
        object_counted of u h free (name ∷ []) ∙ sym (ap (names count) (plain_object_field of k passes has (member_in u (term_exp S of u) name)))
