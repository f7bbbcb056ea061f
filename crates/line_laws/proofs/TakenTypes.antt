-- What passes takes values of covered types alone: a part of a property takes no user type and no object that isn't.
use Rattle.std.proofs.Common.{◌≡◌, ◌∙◌, refl, sym, ap, subst, ⊎_elim, ℕ, zero, suc, Bool, true, false, cond, not, ◌&&◌, ◌||◌, nat_eq, length, Option, Some, None, List, [], ◌∷◌, slice_get, true≢false}
use Rattle.std.proofs.lemmas.Bool.{or_cases}
use Rattle.std.specs.List.{list_all}
use Rattle.reach_table.specs.Chains.{empty}
use Rattle.vb_tree.specs.BoundTree as types
use Rattle.vb_tree.specs.BoundTree.{Ty}
use Rattle.vb_tree.specs.declared.declared.Owner.{Owner}
use Rattle.vb_tree.specs.declared.declared.Owner.TheVariants as owner
use Rattle.vb_tree.specs.declared.declared.VarId.{VarId}
use Rattle.bound_tree.specs.Tree.{Declarations, Procedure, Program, Variable}
use Rattle.bound_facts.proofs.Chains.{both_true}
use Rattle.bound_facts.specs.Locks.{is_same_type}
use Rattle.written_trees.specs.Heads.{index_params}
use Rattle.written_trees.specs.Puts.{last_of}
use Rattle.written_trees.specs.Types.{element_type}
use Rattle.run_matches.specs.Covered.{covers_all_calls, covers_body, covers_head, covers_joined, covers_names, covers_parameter, covers_procedure, covers_result, covers_site, covers_variables, is_parameter_of, is_parameter_in}
use Rattle.run_matches.specs.CoveredExprs.{is_declared_as, is_taking, is_typed_variable, takes_value}
use Rattle.run_matches.specs.CoveredVariables.{belongs_to, covers_array_owner, covers_array_variable, covers_bounds, covers_declared, covers_group_type, covers_group_variable, covers_owner, covers_type, covers_variable, has_extents, is_array_of, covers_auto_owner, covers_auto_variable}
use Rattle.run_matches.specs.Sites.{site_of}
use Rattle.run_matches.specs.Upgrades.{Upgrade}
use Rattle.run_matches.specs.UserTypes.{is_group_type, is_class_type}
use Rattle.run_statements.specs.Written.{Passes}
use Rattle.agreeing_laws.proofs.WithPlaces.{class_is, same_user}

-- ---- lists

all_at : {A : Type 0} (t : A → Bool) (xs : List A) (i : ℕ) (x : A) → list_all t xs ≡ true → slice_get xs i ≡ Some x → t x ≡ true
all_at t [] i x all at = cc at
all_at t (y ∷ ys) zero x all at = let same : y ≡ x = cc at in subst (λ z. t z ≡ true) same (both_true (t y) (list_all t ys) all).0
all_at t (y ∷ ys) (suc i) x all at = all_at t ys i x (both_true (t y) (list_all t ys) all).1 at

all_last : (t : VarId → Bool) (vs : List VarId) (v : VarId) → list_all t vs ≡ true → last_of vs ≡ Some v → t v ≡ true
all_last t [] v all at = cc at
all_last t (u ∷ []) v all at = let same : u ≡ v = cc at in subst (λ z. t z ≡ true) same (both_true (t u) true all).0
all_last t (u ∷ w ∷ vs) v all at = all_last t (w ∷ vs) v (both_true (t u) (list_all t (w ∷ vs)) all).1 at

-- ---- the variable that takes the value

pub record TakesTo (D : Declarations) (ty : Ty) (o : Option Procedure) : Type 0 where
  pub procedure : Procedure
  pub is_procedure : o ≡ Some procedure
  pub last : VarId
  pub is_last : last_of procedure.params ≡ Some last
  pub variable : Variable
  pub is_variable : slice_get D.vars last.0 ≡ Some variable
  pub of_type : is_same_type ty variable.ty ≡ true

takes_to : (D : Declarations) (n : ℕ) (ty : Ty) (o : Option Procedure) → is_taking D n ty o ≡ true → TakesTo D ty o
takes_to D n ty None h = absurd (true≢false (sym h))
takes_to D n ty (Some x) h =
    let typed = is_typed_variable D ty (last_of x.params) in
    let counted = nat_eq n (length (index_params x)) in
    by_last (last_of x.params) refl (both_true counted typed (both_true (takes_value x.kind) (counted && typed) h).1).1
  where
    by_variable : (v : VarId) → last_of x.params ≡ Some v → (o : Option Variable) → slice_get D.vars v.0 ≡ o → is_declared_as ty o ≡ true
        → TakesTo D ty (Some x)
    by_variable v at None is same = absurd (true≢false (sym same))
    by_variable v at (Some y) is same =
        record { procedure = x; is_procedure = refl; last = v; is_last = at; variable = y; is_variable = is; of_type = same }

    by_last : (o : Option VarId) → last_of x.params ≡ o → is_typed_variable D ty o ≡ true → TakesTo D ty (Some x)
    by_last None at same = absurd (true≢false (sym same))
    by_last (Some v) at same = by_variable v at (slice_get D.vars v.0) refl same

-- ---- what is declared

belongs : (p : ℕ) (o : Owner) → is_parameter_of p o ≡ true → belongs_to p o ≡ true
belongs p (owner.Value q) h = h
belongs p (owner.Reference q) h = h
belongs p _ h = absurd (true≢false (sym h))

no_array : (ty : Ty) (e : Ty) → is_group_type ty ≡ true → is_array_of e ty ≡ false
no_array (types.array x rank) e h = absurd (true≢false (sym h))
no_array _ e h = refl

pub no_scalar : (ty : Ty) → is_group_type ty ≡ true → covers_type ty ≡ false
no_scalar (types.user t) h = refl
no_scalar (types.class c) h = refl
no_scalar _ h = absurd (true≢false (sym h))

declared_group : (D : Declarations) (x : Variable) → is_group_type x.ty ≡ true → covers_declared D x ≡ true → covers_group_type D x.ty ≡ true
declared_group D x group h =
    let e : Ty = element_type x.ty in
    let rest : Bool = covers_bounds x.ty x.bounds && not x.auto in
    ⊎_elim
    (λ y.
    let both = both_true (covers_owner x.owner) (covers_type x.ty && not x.auto) y in
    absurd (true≢false (sym (both_true (covers_type x.ty) (not x.auto) both.1).0 ∙ no_scalar x.ty group)))
    (λ y.
    ⊎_elim
    (λ z.
    let first = both_true (covers_array_owner x.owner) (covers_type e && (is_array_of e x.ty && rest)) z in
    let second = both_true (covers_type e) (is_array_of e x.ty && rest) first.1 in
    absurd (true≢false (sym (both_true (is_array_of e x.ty) rest second.1).0 ∙ no_array x.ty e group)))
    (λ z.
    ⊎_elim
    (λ z.
    let first = both_true (covers_owner x.owner) (covers_group_type D x.ty && not x.auto) z in
    (both_true (covers_group_type D x.ty) (not x.auto) first.1).0)
    (λ z.
    let class : Bool = is_class_type x.ty && covers_group_type D x.ty in
    let first = both_true (covers_auto_owner x.owner) (class && x.auto) z in
    (both_true (is_class_type x.ty) (covers_group_type D x.ty) (both_true class x.auto first.1).0).1)
    (or_cases (covers_group_variable D x) (covers_auto_variable D x) z))
    (or_cases (covers_array_variable e x) (covers_group_variable D x || covers_auto_variable D x) y))
    (or_cases (covers_variable x) (covers_array_variable e x || (covers_group_variable D x || covers_auto_variable D x)) h)

-- ---- what passes

module _ (P : Program) (p : ℕ) (ty : Ty) (group : is_group_type ty ≡ true) (covers : covers_procedure P p ≡ true) where
  abbrev D : Declarations
  D = P.declarations

  abbrev head : Bool
  head = covers_head P p (slice_get D.procs p)

  abbrev body : Bool
  body = covers_body P p (slice_get P.bodies p)

  parts : (head ≡ true) × (covers_variables P p ≡ true)
  parts =
      let at : Bool = covers_site D p (site_of D p) in
      let whole = both_true (covers_all_calls P p (slice_get P.bodies p)) (covers_names D && (head && (at && (covers_variables P p && body)))) covers in
      let a = both_true (covers_names D) (head && (at && (covers_variables P p && body))) whole.1 in
      let b = both_true head (at && (covers_variables P p && body)) a.1 in
      let c = both_true at (covers_variables P p && body) b.1 in
      (b.0, (both_true (covers_variables P p) body c.1).0)

  taken_type : (n : ℕ) → is_taking D n ty (slice_get D.procs p) ≡ true → covers_group_type D ty ≡ true
  taken_type n takes =
      let t : TakesTo D ty (slice_get D.procs p) = takes_to D n ty (slice_get D.procs p) takes in
      let y : Variable = t.variable in
      let params : Bool = list_all (covers_parameter P p) t.procedure.params in
      let heads = both_true (covers_joined D p t.procedure) (params && covers_result D p t.procedure) (sym (ap (covers_head P p) t.is_procedure) ∙ parts.0) in
      let taken : is_parameter_in p (Some y) ≡ true =
      sym (ap (is_parameter_in p) t.is_variable)
      ∙ all_last (covers_parameter P p) t.procedure.params t.last (both_true params (covers_result D p t.procedure) heads.1).0 t.is_last in
      let mine = belongs p y.owner taken in
      let owned : Variable → Bool = λ (x : Variable). cond (belongs_to p x.owner) (covers_declared D x) true in
      let declared : covers_declared D y ≡ true =
      sym (ap (λ b. cond b (covers_declared D y) true) mine)
      ∙ all_at owned D.vars t.last.0 y (both_true (list_all owned D.vars) (has_extents P) parts.1).0 t.is_variable in
      let same : y.ty ≡ ty = same_group ty y.ty group t.of_type in
      subst (λ z. covers_group_type D z ≡ true) same (declared_group D y (subst (λ z. is_group_type z ≡ true) (sym same) group) declared)
    where
      same_group : (s t : Ty) → is_group_type s ≡ true → is_same_type s t ≡ true → t ≡ s
      same_group (types.user n) t h e = same_user n t e
      same_group (types.class n) t h e = class_is n t e
      same_group _ t h e = absurd (true≢false (sym h))

pub group_taken : (U : Upgrade) (q n : ℕ) (ty : Ty) → Passes U q → is_taking U.program.declarations n ty (slice_get U.program.declarations.procs q) ≡ true
    → is_group_type ty ≡ true → covers_group_type U.program.declarations ty ≡ true
group_taken U q n ty passes takes group = taken_type U.program q ty group (passes.1 q (empty q)) n takes
