-- What a target takes in its form, and the parts of a covered assignment to a property.
use Rattle.std.proofs.Common.{◌≡◌, ℕ, Bool, true, false, ◌&&◌, List, refl, sym, ap, subst, ◌∙◌, arith, inl, inr, eqb-true}
use Rattle.std.specs.Prelude.{◌||◌, ◌⊎◌}
use Rattle.up_base.proofs.Lists.{both_true}
use Rattle.vb_tree.specs.BoundTree as types
use Rattle.vb_tree.specs.BoundTree.{Ty}
use Rattle.vb_tree.specs.declared.declared.ProcId.{ProcId}
use Rattle.bound_tree.specs.declared.body.Mention.{Mention}
use Rattle.bound_tree.specs.Tree.{Program, Expr, typed, Object, call, Passed}
use Rattle.bound_facts.specs.Locks.{is_same_type}
use Rattle.bound_facts.specs.Node.{type_at}
use Rattle.net_tree.specs.Tree.{Exp}
use Rattle.written_trees.specs.Exprs.{exp_of, target_exp}
use Rattle.written_trees.specs.Names.{Scope, Path, copy_name, support}
use Rattle.written_trees.specs.Puts.{formed, order_shows, put_type, store_by, store_line, target_rank, user_copy}
use Rattle.run_matches.specs.CoveredVariables.{covers_type}
use Rattle.run_matches.specs.UserTypes.{is_class_type, is_user}
use Rattle.run_matches.specs.CoveredExprs.{Uses, count_passed, covers_passed, covers_expr, covers_group, covers_receiver, uses_in}
use Rattle.run_matches.specs.CoveredLines.{covers_property, covers_property_term, is_property_ordered}
use Rattle.run_matches.specs.Formed.{is_formed, passed_are_formed}
use Rattle.correspondence.specs.Uses.{names}
use Rattle.correspondence.proofs.Among.{or_cases}
use Rattle.correspondence.proofs.KnownPlaces.{IsFlatType, value_flat}
use Rattle.correspondence.proofs.NamedCalls.{covered_type}

-- ---- values in the form of their targets

pub formed_plain : (S : Scope) (rank : ℕ) (ty : Ty) (a : Exp) → covers_type ty ≡ true → formed S rank ty a ≡ a
formed_plain S rank (types.array e r) a h = absurd (cc h)
formed_plain S rank (types.fixed units) a h = absurd (cc h)
formed_plain S rank (types.user t) a h = absurd (cc h)
formed_plain S rank _ a h = refl

-- a value goes to a variable or an element as it is
pub stored_plain : (S : Scope) (to e : Expr) → covers_type (type_at to) ≡ true
    → store_line S to e ≡ store_by (order_shows S.declarations to e) (put_type (type_at to)) (exp_of S to) (exp_of S e)
stored_plain S to e c =
    ap (store_by (order_shows S.declarations to e) (put_type (type_at to)) (exp_of S to)) (formed_plain S (target_rank S to) (type_at to) (exp_of S e) c)

-- a user type that is assigned is copied with what it holds
pub copied_value : (S : Scope) (count : Path → ℕ) → ((name : List ℕ) → count (support name) ≡ 0) → (rank : ℕ) (ty : Ty) (a : Exp) → is_user ty ≡ true
    → names count (formed S rank ty a) ≡ names count a
copied_value S count no_support rank (types.user t) a h = by (S.facts.holds_array t)
  where
    by : (b : Bool) → names count (user_copy b t a) ≡ names count a
    by true = let none = no_support (copy_name t) in omega (arith, none)
    by false = refl
copied_value S count no_support rank _ a h = absurd (cc h)

-- ---- the types of values

same_scalar : (ty s : Ty) → is_same_type ty s ≡ true → covers_type s ≡ true → covers_type ty ≡ true
same_scalar types.boolean s h c = refl
same_scalar types.byte s h c = refl
same_scalar types.integer s h c = refl
same_scalar types.long s h c = refl
same_scalar types.currency s h c = refl
same_scalar types.str s h c = refl
same_scalar _ types.boolean h c = absurd (cc h)
same_scalar _ types.byte h c = absurd (cc h)
same_scalar _ types.integer h c = absurd (cc h)
same_scalar _ types.long h c = absurd (cc h)
same_scalar _ types.currency h c = absurd (cc h)
same_scalar _ types.str h c = absurd (cc h)
same_scalar _ _ h c = absurd (cc c)

same_user : (ty : Ty) (t : ℕ) → is_same_type ty (types.user t) ≡ true → ty ≡ types.user t
same_user (types.user u) t h = ap types.user (eqb-true u t h)
same_user _ t h = absurd (cc h)

same_class : (ty s : Ty) → is_same_type ty s ≡ true → is_class_type s ≡ true → is_class_type ty ≡ true
same_class (types.class k) s h c = refl
same_class _ (types.class k) h c = absurd (cc h)
same_class _ _ h c = absurd (cc c)

module _ (P : Program) (S : Scope) (same : S.declarations ≡ P.declarations) (p : ℕ) (mentions : List Mention) where
  -- a scalar, a user type or a class
  abbrev pub IsValueType : Ty → Type 0
  IsValueType ty = (covers_type ty ≡ true) ⊎ IsFlatType P S same p mentions ty

  abbrev pub IsValue : Expr → Type 0
  IsValue e = (covers_expr (uses_in P p mentions) e ≡ true) ⊎ (covers_group (uses_in P p mentions) e ≡ true)

  value_type : (e : Expr) → IsValue e → IsValueType (type_at e)
  value_type e (inl c) = inl (covered_type (uses_in P p mentions) e c)
  value_type e (inr c) = inr (value_flat P S same p mentions e c)

  same_value : (ty s : Ty) → is_same_type ty s ≡ true → IsValueType s → IsValueType ty
  same_value ty s h (inl c) = inl (same_scalar ty s h c)
  same_value ty s h (inr (inl u)) = inr (inl (u.0, same_user ty u.0 (ap (is_same_type ty) (sym u.1) ∙ h), u.2))
  same_value ty s h (inr (inr c)) = inr (inr (same_class ty s h c))

  -- the type of a target that takes a value of its type
  pub target_type : (ty : Ty) (e : Expr) → is_same_type ty (type_at e) ≡ true → IsValue e → IsValueType ty
  target_type ty e h k = same_value ty (type_at e) h (value_type e k)

  formed_object : (rank : ℕ) (ty : Ty) (a : Exp) → is_class_type ty ≡ true → formed S rank ty a ≡ a
  formed_object rank (types.class k) a h = refl
  formed_object rank _ a h = absurd (cc h)

  -- a value in the form of its type names what it is
  pub formed_names : (count : Path → ℕ) → ((name : List ℕ) → count (support name) ≡ 0) → (rank : ℕ) (ty : Ty) (a : Exp) → IsValueType ty
      → names count (formed S rank ty a) ≡ names count a
  formed_names count no_support rank ty a (inl c) = ap (names count) (formed_plain S rank ty a c)
  formed_names count no_support rank ty a (inr (inl u)) = copied_value S count no_support rank ty a (ap is_user u.1)
  formed_names count no_support rank ty a (inr (inr c)) = ap (names count) (formed_object rank ty a c)

-- ---- properties

-- a property that takes a value of its type
pub record TakesValue (cover : Uses) (to e : Expr) : Type 0 where
  pub ty : Ty
  pub procedure : ProcId
  pub qualified : Bool
  pub of : Object
  pub args : Passed
  pub is_call : to ≡ typed ty (call procedure qualified of args)
  pub same : is_same_type ty (type_at e) ≡ true
  pub receiver : covers_receiver cover of ≡ true
  pub passed : covers_passed cover args ≡ true
  pub value : (covers_expr cover e ≡ true) ⊎ (covers_group cover e ≡ true)

pub takes_value : (cover : Uses) (to e : Expr) → covers_property cover to e ≡ true → TakesValue cover to e
takes_value cover (typed ty (call q qualified of args)) e h =
    let value : Bool = covers_expr cover e || covers_group cover e in
    let taken : Bool = cover.takes q.0 (count_passed args) (type_at e) && is_property_ordered cover of args e in
    let a = both_true (is_same_type ty (type_at e)) (covers_property_term cover (call q qualified of args) e) h in
    let b = both_true taken (covers_receiver cover of && (covers_passed cover args && value)) a.1 in
    let c = both_true (covers_receiver cover of) (covers_passed cover args && value) b.1 in
    let d = both_true (covers_passed cover args) value c.1 in
    record {
      ty = ty;
      procedure = q;
      qualified = qualified;
      of = of;
      args = args;
      is_call = refl;
      same = a.0;
      receiver = c.0;
      passed = d.0;
      value = or_cases (covers_expr cover e) (covers_group cover e) d.1;
    }
takes_value cover (typed ty _) e h = absurd (cc (both_true (is_same_type ty (type_at e)) false h).1)

-- it is written as it is used
pub property_target : (S : Scope) (cover : Uses) (to e : Expr) → TakesValue cover to e → target_exp S to ≡ exp_of S to
property_target S cover to e T = subst (λ (d : Expr). target_exp S d ≡ exp_of S d) (sym T.is_call) refl

-- and its indexes are well formed where it is
pub taken_formed : (cover : Uses) (to e : Expr) (T : TakesValue cover to e) → is_formed to ≡ true → passed_are_formed T.args ≡ true
taken_formed cover to e T f = subst (λ (d : Expr). is_formed d ≡ true) T.is_call f
