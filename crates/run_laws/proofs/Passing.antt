-- The parameters and the result variable of a covered procedure are among the variables of its frames.
use Rattle.std.proofs.Common.{◌≡◌, ◌⊎◌, inl, inr, refl, sym, ap, subst, ◌∙◌, ℕ, zero, suc, ◌+◌, Bool, true, false, cond, nat_eq, true≢false, Option, Some, None, List, [], ◌∷◌, ◌++◌, map, arith, eq-eqb}
use Rattle.std.specs.Prelude.{◌||◌, slice_get}
use Rattle.std.specs.List.{list_all, list_any}
use Rattle.up_base.proofs.Lists.{all_first, all_rest}
use Rattle.vb_tree.specs.declared.declared.Owner.{Owner}
use Rattle.vb_tree.specs.declared.declared.Owner.TheVariants as owner
use Rattle.vb_tree.specs.declared.declared.VarId.{VarId}
use Rattle.bound_tree.specs.Tree.{Declarations, Procedure, Program, Variable}
use Rattle.vb6_run.specs.Programs.{answer_in, owned_from}
use Rattle.written_trees.specs.Prologues.{is_static}
use Rattle.run_matches.specs.Callees.{answer_owns, own_of_some, parameter_owns}
use Rattle.run_matches.specs.CoveredLines.{is_passing_in, is_passing_of}
use Rattle.run_matches.specs.Covered.{covers_parameter, is_answer_of, is_parameter_of}
use Rattle.run_matches.specs.Sites.{Own, local_numbers, own_constant, own_variable, owns_of}
use Rattle.run_laws.proofs.Covered.{CoveredProcedure, some_is}
use Rattle.run_laws.proofs.Heads.{HasAnswer, HasNone, Parameter, answer_parts, parameter_is}
use Rattle.run_laws.proofs.Locals.{listed_behind}

more_true : (a b : Bool) → b ≡ true → (a || b) ≡ true
more_true true b h = refl
more_true false b h = h

either_of : (a b : Bool) → (a || b) ≡ true → (a ≡ true) ⊎ (b ≡ true)
either_of true b h = inl refl
either_of false b h = inr h

first_true : (a b : Bool) → a ≡ true → (a || b) ≡ true
first_true true b h = refl
first_true false b h = absurd (true≢false (sym h))

-- a variable whose owner passes
owned_listed : (test : Owner → Bool) (v k i : ℕ) (xs : List Variable) (y : Variable) → slice_get xs i ≡ Some y → test y.owner ≡ true → v ≡ k + i
    → list_any (nat_eq v) (owned_from test k xs) ≡ true
owned_listed test v k i [] y e h n = absurd (cc e)
owned_listed test v k zero (x ∷ xs) y e h n =
    let here : v ≡ k = omega (arith, n) in
    ap (λ t. list_any (nat_eq v) (cond t (k ∷ owned_from test (suc k) xs) (owned_from test (suc k) xs))) (ap (λ (z : Variable). test z.owner) (some_is e) ∙ h)
    ∙ first_true (nat_eq v k) (list_any (nat_eq v) (owned_from test (suc k) xs)) (eq-eqb v k here)
owned_listed test v k (suc i) (x ∷ xs) y e h n = by (test x.owner) (owned_listed test v (suc k) i xs y e h (omega (arith, n)))
  where
    by : (t : Bool) → list_any (nat_eq v) (owned_from test (suc k) xs) ≡ true
        → list_any (nat_eq v) (cond t (k ∷ owned_from test (suc k) xs) (owned_from test (suc k) xs)) ≡ true
    by true more = more_true (nat_eq v k) (list_any (nat_eq v) (owned_from test (suc k) xs)) more
    by false more = more

-- what is listed before others
listed_before : (v : ℕ) (os more : List Own) → list_any (nat_eq v) (local_numbers os) ≡ true → list_any (nat_eq v) (local_numbers (os ++ more)) ≡ true
listed_before v [] more h = absurd (true≢false (sym h))
listed_before v (own_variable u x ∷ os) more h = by (is_static x.owner) h (listed_before v os more)
  where
    by : (t : Bool) → list_any (nat_eq v) (cond t [] (u ∷ []) ++ local_numbers os) ≡ true
        → (list_any (nat_eq v) (local_numbers os) ≡ true → list_any (nat_eq v) (local_numbers (os ++ more)) ≡ true)
        → list_any (nat_eq v) (cond t [] (u ∷ []) ++ local_numbers (os ++ more)) ≡ true
    by true k rest = rest k
    by false k rest = join (either_of (nat_eq v u) (list_any (nat_eq v) (local_numbers os)) k)
      where
        join : (nat_eq v u ≡ true) ⊎ (list_any (nat_eq v) (local_numbers os) ≡ true)
            → (nat_eq v u || list_any (nat_eq v) (local_numbers (os ++ more))) ≡ true
        join (inl z) = first_true (nat_eq v u) (list_any (nat_eq v) (local_numbers (os ++ more))) z
        join (inr z) = more_true (nat_eq v u) (list_any (nat_eq v) (local_numbers (os ++ more))) (rest z)
listed_before v (own_constant c x ∷ os) more h = listed_before v os more h

parameter_local : (p : ℕ) (o : Owner) → is_parameter_of p o ≡ true → is_static o ≡ false
parameter_local p (owner.Static q) h = absurd (true≢false (sym h))
parameter_local p _ h = refl

-- parameters are no Statics
listed_params : (P : Program) (p v : ℕ) (vs : List VarId) → list_all (covers_parameter P p) vs ≡ true
    → list_any (nat_eq v) (map (λ (u : VarId). u.0) vs) ≡ true → list_any (nat_eq v) (local_numbers (parameter_owns P.declarations vs)) ≡ true
listed_params P p v [] c h = absurd (true≢false (sym h))
listed_params P p v (u ∷ vs) c h =
    let q : Parameter P p u = parameter_is P p u (all_first (covers_parameter P p) u vs c) in
    let more = λ (k : list_any (nat_eq v) (map (λ (u : VarId). u.0) vs) ≡ true). listed_params P p v vs (all_rest (covers_parameter P p) u vs c) k in
    subst (λ o. list_any (nat_eq v) (local_numbers (own_of_some u.0 o ++ parameter_owns P.declarations vs)) ≡ true) (sym q.is_variable)
    (ap (λ t. list_any (nat_eq v) (cond t [] (u.0 ∷ []) ++ local_numbers (parameter_owns P.declarations vs))) (parameter_local p q.variable.owner q.parameter)
    ∙ join (either_of (nat_eq v u.0) (list_any (nat_eq v) (map (λ (u : VarId). u.0) vs)) h) more)
  where
    join : (nat_eq v u.0 ≡ true) ⊎ (list_any (nat_eq v) (map (λ (u : VarId). u.0) vs) ≡ true)
        → (list_any (nat_eq v) (map (λ (u : VarId). u.0) vs) ≡ true → list_any (nat_eq v) (local_numbers (parameter_owns P.declarations vs)) ≡ true)
        → (nat_eq v u.0 || list_any (nat_eq v) (local_numbers (parameter_owns P.declarations vs))) ≡ true
    join (inl z) more = first_true (nat_eq v u.0) (list_any (nat_eq v) (local_numbers (parameter_owns P.declarations vs))) z
    join (inr z) more = more_true (nat_eq v u.0) (list_any (nat_eq v) (local_numbers (parameter_owns P.declarations vs))) (more z)

-- nor is the result variable
listed_answer : (D : Declarations) (p v : ℕ) (x : Procedure) → HasNone x ⊎ HasAnswer D p x → list_any (nat_eq v) (answer_in x.answer) ≡ true
    → list_any (nat_eq v) (local_numbers (answer_owns D x.answer)) ≡ true
listed_answer D p v x (inl n) h = absurd (true≢false (sym (sym (ap (λ a. list_any (nat_eq v) (answer_in a)) n.is_answer) ∙ h)))
listed_answer D p v x (inr a) h =
    subst (λ o. list_any (nat_eq v) (local_numbers (answer_owns D o)) ≡ true) (sym a.is_answer)
    (subst (λ o. list_any (nat_eq v) (local_numbers (own_of_some a.id.0 o)) ≡ true) (sym a.is_variable)
    (ap (λ t. list_any (nat_eq v) (cond t [] (a.id.0 ∷ []) ++ [])) (ap is_static a.owner)
    ∙ (sym (ap (λ o. list_any (nat_eq v) (answer_in o)) a.is_answer) ∙ h)))

passing_owner : (p : ℕ) (o : Owner) → is_passing_of p o ≡ true → (is_parameter_of p o ≡ true) ⊎ (is_answer_of p o ≡ true)
passing_owner p (owner.Value q) h = inl h
passing_owner p (owner.Reference q) h = inl h
passing_owner p (owner.Answer q) h = inr h
passing_owner p _ h = absurd (true≢false (sym h))

pub passing_listed : (P : Program) (p : ℕ) (c : CoveredProcedure P p) (v : ℕ) → is_passing_in p (slice_get P.declarations.vars v) ≡ true
    → list_any (nat_eq v)
    (local_numbers (parameter_owns P.declarations c.procedure.params ++ (answer_owns P.declarations c.procedure.answer ++ owns_of P.declarations c.site))) ≡ true
passing_listed P p c v h = by (slice_get P.declarations.vars v) refl h
  where
    number : v ≡ 0 + v
    number = omega arith

    owned : (y : Variable) → slice_get P.declarations.vars v ≡ Some y
        → (is_parameter_of p y.owner ≡ true) ⊎ (is_answer_of p y.owner ≡ true)
        → list_any (nat_eq v)
        (local_numbers (parameter_owns P.declarations c.procedure.params
        ++ (answer_owns P.declarations c.procedure.answer ++ owns_of P.declarations c.site))) ≡ true
    owned y e (inl k) =
        listed_before v (parameter_owns P.declarations c.procedure.params) (answer_owns P.declarations c.procedure.answer ++ owns_of P.declarations c.site)
        (listed_params P p v c.procedure.params c.params
        (subst (λ ns. list_any (nat_eq v) ns ≡ true) (sym c.parameters)
        (owned_listed (is_parameter_of p) v 0 v P.declarations.vars y e k number)))
    owned y e (inr k) =
        listed_behind v (parameter_owns P.declarations c.procedure.params) (answer_owns P.declarations c.procedure.answer ++ owns_of P.declarations c.site)
        (listed_before v (answer_owns P.declarations c.procedure.answer) (owns_of P.declarations c.site)
        (listed_answer P.declarations p v c.procedure (answer_parts P.declarations p c.procedure c.result)
        (subst (λ ns. list_any (nat_eq v) ns ≡ true) (sym c.answers)
        (owned_listed (is_answer_of p) v 0 v P.declarations.vars y e k number))))

    by : (o : Option Variable) → slice_get P.declarations.vars v ≡ o → is_passing_in p o ≡ true
        → list_any (nat_eq v)
        (local_numbers (parameter_owns P.declarations c.procedure.params
        ++ (answer_owns P.declarations c.procedure.answer ++ owns_of P.declarations c.site))) ≡ true
    by None e k = absurd (true≢false (sym k))
    by (Some y) e k = owned y e (passing_owner p y.owner k)
