-- What is written for the head of a covered procedure: its parameters, and the result variable of a Function or a Get.
use Rattle.std.proofs.Common.{◌≡◌, ◌⊎◌, inl, inr, refl, sym, ap, ◌∙◌, ℕ, zero, suc, true, false, not, ◌&&◌, nat_eq, true≢false, Option, Some, None, List, [], ◌∷◌, ◌++◌, map}
use Rattle.std.specs.Prelude.{is_some, slice_get}
use Rattle.std.specs.Cmp.Lexicographic.{pointwise}
use Rattle.std.specs.List.{list_all}
use Rattle.up_base.proofs.Lists.{all_first, all_rest}
use Rattle.up_base.proofs.Tests.{both_true}
use Rattle.vb_tree.specs.declared.declared.Owner.{Owner}
use Rattle.vb_tree.specs.declared.declared.Owner.TheVariants as owner
use Rattle.vb_tree.specs.declared.declared.ProcId.{ProcId}
use Rattle.vb_tree.specs.declared.declared.ProcKind.{ProcKind}
use Rattle.vb_tree.specs.declared.declared.ProcKind.TheVariants as kind
use Rattle.vb_tree.specs.declared.declared.VarId.{VarId}
use Rattle.bound_tree.specs.Tree.{Declarations, Procedure, Program, Variable}
use Rattle.bound_facts.specs.Locks.{is_same_type}
use Rattle.net_tree.specs.declared.declaration.NetPassing.TheVariants as passing
use Rattle.net_tree.specs.Types.{TypeName}
use Rattle.net_run.specs.Calls.{passings}
use Rattle.net_run.specs.Members.{result_of}
use Rattle.written_trees.specs.Arguments.{is_reference_owner, takes_reference_at, takes_reference_of}
use Rattle.written_trees.specs.Heads as heads
use Rattle.written_trees.specs.Heads.{is_function}
use Rattle.written_trees.specs.Names.{Scope}
use Rattle.run_matches.specs.Callees.{answer_owns, own_of_some}
use Rattle.run_matches.specs.CoveredVariables.{belongs_to, covers_auto_owner}
use Rattle.run_matches.specs.Covered.{covers_parameter, has_answer, has_result, is_answer_of, is_result_in, is_parameter_of, is_parameter_in}
use Rattle.run_matches.specs.Frames.{result_names}
use Rattle.run_matches.specs.Sites.{Site, own_name}
use Rattle.run_matches.specs.Upgrades.{Upgrade}
use Rattle.run_statements.specs.Frames.{passing_at, passing_by}
use Rattle.run_statements.specs.Written.{WrittenProcedure, first_type, site_scope, written_result}
use Rattle.run_laws.proofs.Covered.{same_numbers}

-- ---- parameters

-- a parameter
pub record Parameter (P : Program) (p : ℕ) (v : VarId) : Type 0 where
  pub variable : Variable
  pub is_variable : slice_get P.declarations.vars v.0 ≡ Some variable
  pub parameter : is_parameter_of p variable.owner ≡ true

pub parameter_is : (P : Program) (p : ℕ) (v : VarId) → covers_parameter P p v ≡ true → Parameter P p v
parameter_is P p v h = by (slice_get P.declarations.vars v.0) refl h
  where
    by : (o : Option Variable) → slice_get P.declarations.vars v.0 ≡ o → is_parameter_in p o ≡ true → Parameter P p v
    by None e k = absurd (true≢false (sym k))
    by (Some y) e k = record { variable = y; is_variable = e; parameter = k }

-- it belongs to its procedure
pub parameter_belongs : (p : ℕ) (o : Owner) → is_parameter_of p o ≡ true → belongs_to p o ≡ true
parameter_belongs p (owner.Value q) h = h
parameter_belongs p (owner.Reference q) h = h
parameter_belongs p _ h = absurd (true≢false (sym h))

-- it is no As New one
pub parameter_given : (p : ℕ) (o : Owner) → is_parameter_of p o ≡ true → covers_auto_owner o ≡ false
parameter_given p (owner.Value q) h = refl
parameter_given p (owner.Reference q) h = refl
parameter_given p _ h = absurd (true≢false (sym h))

-- ---- the result variable

pub record HasAnswer (D : Declarations) (p : ℕ) (x : Procedure) : Type 0 where
  pub function : is_function x.kind ≡ true
  pub id : VarId
  pub is_answer : x.answer ≡ Some id
  pub variable : Variable
  pub is_variable : slice_get D.vars id.0 ≡ Some variable
  pub of : ProcId
  pub owner : variable.owner ≡ owner.Answer of
  pub own : nat_eq p of.0 ≡ true
  pub type : is_same_type variable.ty x.result ≡ true
  pub name : variable.name ≡ x.name

pub record HasNone (x : Procedure) : Type 0 where
  pub function : is_function x.kind ≡ false
  pub is_answer : x.answer ≡ None

answer_is : (D : Declarations) (p : ℕ) (x : Procedure) → is_function x.kind ≡ true → has_answer D p x x.answer ≡ true → HasAnswer D p x
answer_is D p x function h = by x.answer refl h
  where
    owned : (v : VarId) (y : Variable) (o : Owner) → x.answer ≡ Some v → slice_get D.vars v.0 ≡ Some y → y.owner ≡ o
        → (is_answer_of p o && (is_same_type y.ty x.result && pointwise nat_eq y.name x.name)) ≡ true → HasAnswer D p x
    owned v y (owner.Answer q) a e is k =
        let first = both_true (nat_eq p q.0) (is_same_type y.ty x.result && pointwise nat_eq y.name x.name) k in
        let second = both_true (is_same_type y.ty x.result) (pointwise nat_eq y.name x.name) first.1 in
        record {
          function = function;
          id = v;
          is_answer = a;
          variable = y;
          is_variable = e;
          of = q;
          owner = is;
          own = first.0;
          type = second.0;
          name = same_numbers y.name x.name second.1;
        }
    owned v y _ a e is k = absurd (true≢false (sym k))

    found : (v : VarId) (o : Option Variable) → x.answer ≡ Some v → slice_get D.vars v.0 ≡ o → is_result_in p x o ≡ true → HasAnswer D p x
    found v None a e k = absurd (true≢false (sym k))
    found v (Some y) a e k = owned v y y.owner a e refl k

    by : (o : Option VarId) → x.answer ≡ o → has_answer D p x o ≡ true → HasAnswer D p x
    by None a k = absurd (true≢false (sym k))
    by (Some v) a k = found v (slice_get D.vars v.0) a refl k

none_is : (o : Option VarId) → not (is_some o) ≡ true → o ≡ None
none_is None h = refl
none_is (Some v) h = absurd (true≢false (sym h))

pub answer_parts : (D : Declarations) (p : ℕ) (x : Procedure) → has_result D p x x.kind ≡ true → HasNone x ⊎ HasAnswer D p x
answer_parts D p x h = by x.kind refl h
  where
    by : (k : ProcKind) → x.kind ≡ k → has_result D p x k ≡ true → HasNone x ⊎ HasAnswer D p x
    by kind.Sub e a = inl (record { function = ap is_function e; is_answer = none_is x.answer a })
    by kind.Function e a = inr (answer_is D p x (ap is_function e) a)
    by kind.Get e a = inr (answer_is D p x (ap is_function e) a)
    by kind.Let e a = inl (record { function = ap is_function e; is_answer = none_is x.answer a })
    by kind.Set e a = inl (record { function = ap is_function e; is_answer = none_is x.answer a })

-- ---- the head

-- what is written for the type of a result: a property has that of its first part
abbrev pub answer_word : Scope → Procedure → ProcKind → TypeName
answer_word S x kind.Get = first_type S (slice_get S.declarations.procs x.first.0)
answer_word S x _ = heads.result_type S x

none_written : (S : Scope) (x : Procedure) (k : ProcKind) → is_function k ≡ false → written_result S x k ≡ None
none_written S x kind.Function h = absurd (true≢false h)
none_written S x kind.Get h = absurd (true≢false h)
none_written S x kind.Sub h = refl
none_written S x kind.Let h = refl
none_written S x kind.Set h = refl

some_written : (S : Scope) (x : Procedure) (k : ProcKind) → is_function k ≡ true → written_result S x k ≡ Some (x.name, answer_word S x k)
some_written S x kind.Function h = refl
some_written S x kind.Get h = refl
some_written S x _ h = absurd (true≢false (sym h))

module _ (U : Upgrade) (p : ℕ) (s : Site) (x : Procedure) (W : WrittenProcedure U p s x) where
  pub no_result : HasNone x → result_of W.code ≡ None
  no_result h = W.result ∙ none_written (site_scope U s) x x.kind h.function

  pub a_result : HasAnswer U.program.declarations p x → result_of W.code ≡ Some (x.name, answer_word (site_scope U s) x x.kind)
  a_result h = W.result ∙ some_written (site_scope U s) x x.kind h.function

-- ---- what is written for parameters

passing_is : (o : Owner) → heads.passing_of o ≡ passing_by (is_reference_owner o)
passing_is (owner.Reference q) = refl
passing_is _ = refl

pub none_at : (i : ℕ) → passing_at [] i ≡ passing.Value
none_at zero = refl
none_at (suc i) = none_at i

-- each is passed as it is in the source
pub params_pass : (U : Upgrade) (s : Site) (q : ℕ) (vs : List VarId) → list_all (covers_parameter U.program q) vs ≡ true → (i : ℕ)
    → passing_at (passings (heads.params_of (site_scope U s) false vs)) i ≡ passing_by (takes_reference_of U.program.declarations (slice_get vs i))
params_pass U s q [] h i = none_at i
params_pass U s q (v ∷ vs) h i =
    let k : Parameter U.program q v = parameter_is U.program q v (all_first (covers_parameter U.program q) v vs h) in
    by k.variable k.is_variable i (λ n. params_pass U s q vs (all_rest (covers_parameter U.program q) v vs h) n)
  where
    by : (y : Variable) → slice_get U.program.declarations.vars v.0 ≡ Some y → (n : ℕ)
        → ((m : ℕ) → passing_at (passings (heads.params_of (site_scope U s) false vs)) m ≡ passing_by (takes_reference_of U.program.declarations (slice_get vs m)))
        → passing_at (passings (heads.param_by (site_scope U s) false v.0 (slice_get U.program.declarations.vars v.0) ++ heads.params_of (site_scope U s) false vs)) n
        ≡ passing_by (takes_reference_of U.program.declarations (slice_get (v ∷ vs) n))
    by y e zero more =
        ap (λ o. passing_at (passings (heads.param_by (site_scope U s) false v.0 o ++ heads.params_of (site_scope U s) false vs)) 0) e
        ∙ passing_is y.owner ∙ ap (λ o. passing_by (takes_reference_at o)) (sym e)
    by y e (suc n) more =
        ap (λ o. passing_at (passings (heads.param_by (site_scope U s) false v.0 o ++ heads.params_of (site_scope U s) false vs)) (suc n)) e ∙ more n

-- ---- names

-- the result variable is written under its name
pub answer_names : (U : Upgrade) (p : ℕ) (s : Site) (x : Procedure) (W : WrittenProcedure U p s x) → HasNone x ⊎ HasAnswer U.program.declarations p x
    → map own_name (answer_owns U.program.declarations x.answer) ≡ result_names (result_of W.code)
answer_names U p s x W (inl h) =
    ap (λ a. map own_name (answer_owns U.program.declarations a)) h.is_answer ∙ sym (ap result_names (no_result U p s x W h))
answer_names U p s x W (inr h) =
    ap (λ a. map own_name (answer_owns U.program.declarations a)) h.is_answer
    ∙ ap (λ o. map own_name (own_of_some h.id.0 o)) h.is_variable
    ∙ ap {B = List (List ℕ)} (λ n. n ∷ []) h.name
    ∙ sym (ap result_names (a_result U p s x W h))
