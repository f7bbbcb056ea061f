-- The parts of covered procedures.
use Rattle.std.proofs.Common.{◌≡◌, refl, sym, ap, subst, ◌∙◌, ℕ, true, cond, not, ◌&&◌, nat_eq, true≢false, List, Option, Some, None, ◌⊎◌}
use Rattle.std.specs.Prelude.{slice_get, map, is_some}
use Rattle.std.specs.List.{list_all}
use Rattle.std.specs.Cmp.Lexicographic.{pointwise}
use Rattle.up_base.proofs.Tests.{both_true, not_true, either}
use Rattle.vb_tree.specs.declared.declared.Owner.{Owner}
use Rattle.vb_tree.specs.declared.declared.Owner.TheVariants as owner
use Rattle.vb_tree.specs.declared.declared.ProcKind.{ProcKind}
use Rattle.vb_tree.specs.declared.declared.ProcKind.TheVariants as kind
use Rattle.vb_tree.specs.declared.declared.VarId.{VarId}
use Rattle.bound_tree.specs.Tree.{Variable, Procedure, Declarations, Program, Line}
use Rattle.reach_table.specs.Chains.{empty}
use Rattle.bound_facts.specs.Locks.{is_same_type}
use Rattle.vb6_run.specs.Forms.{body_of}
use Rattle.vb6_run.specs.Programs.{answer_in, owned_from}
use Rattle.vb6_run.specs.Runnables.{Runnable, is_class_file}
use Rattle.run_matches.specs.CoveredVariables.{belongs_to, covers_declared, has_extents, covers_type, is_loud, is_loud_owner, is_scalar_or_loud}
use Rattle.run_matches.specs.CoveredLines.{covers_in_block, covers_line}
use Rattle.run_matches.specs.Covered.{covers_all_calls, covers_body, covers_calls, covers_head, covers_joined, covers_names, covers_parameter, covers_procedure, covers_result, covers_site, covers_variables, has_answer, has_result, is_answer_of, is_parameter_of, is_plain, is_plain_kind, is_result_in, is_parameter_in}
use Rattle.run_matches.specs.Shared.{is_outer}
use Rattle.run_matches.specs.Sites.{site_of}
use Rattle.typing_laws.specs.Flat.{are_flat_lines, has_flat_variables, is_flat, is_flat_line, is_flat_parameter, has_flat_parameters}
use Rattle.typing_laws.specs.Calls.{IsReady}
use Rattle.typing_laws.specs.Typed.{are_typed_lines, gives_what_it_has, is_typed_line}
use Rattle.typing_laws.proofs.Uses.{own_flat}

pub record Head (P : Program) (p : ℕ) : Type 0 where
  pub procedure : Procedure
  pub is_procedure : slice_get P.declarations.procs p ≡ Some procedure
  pub params : list_all (covers_parameter P p) procedure.params ≡ true
  pub result : covers_result P.declarations p procedure ≡ true

head_in : (P : Program) (p : ℕ) (o : Option Procedure) → slice_get P.declarations.procs p ≡ o → covers_head P p o ≡ true → Head P p
head_in P p None is h = absurd (true≢false (sym h))
head_in P p (Some x) is h =
    let a = both_true (covers_joined P.declarations p x) (list_all (covers_parameter P p) x.params && covers_result P.declarations p x) h in
    let b = both_true (list_all (covers_parameter P p) x.params) (covers_result P.declarations p x) a.1 in
    record { procedure = x; is_procedure = is; params = b.0; result = b.1 }

-- the head of a covered procedure
pub head_of : (P : Program) (p : ℕ) → covers_procedure P p ≡ true → Head P p
head_of P p h =
    let D : Declarations = P.declarations in
    let head = covers_head P p (slice_get D.procs p) in
    let more = covers_site D p (site_of D p) && (covers_variables P p && covers_body P p (slice_get P.bodies p)) in
    let z = both_true (covers_all_calls P p (slice_get P.bodies p)) (covers_names D && (head && more)) h in
    head_in P p (slice_get D.procs p) refl (both_true head more (both_true (covers_names D) (head && more) z.1).1).0

pub record Body (P : Program) (p : ℕ) : Type 0 where
  pub lines : List Line
  pub are_lines : slice_get P.bodies p ≡ Some lines
  pub covers : list_all (is_flat_line P p) lines ≡ true
  pub blocks : list_all (covers_in_block P p lines) (body_of lines) ≡ true
  pub calls : list_all (covers_calls P p) lines ≡ true
  pub typed : list_all (is_typed_line P.declarations) lines ≡ true

body_in : (P : Program) (p : ℕ) (o : Option (List Line)) → slice_get P.bodies p ≡ o → covers_body P p o ≡ true → covers_all_calls P p o ≡ true
    → are_typed_lines P.declarations o ≡ true → are_flat_lines P p o ≡ true → Body P p
body_in P p None is h c t s = absurd (true≢false (sym h))
body_in P p (Some lines) is h c t s =
    let b = both_true (list_all (covers_line P p) lines) (list_all (covers_in_block P p lines) (body_of lines)) h in
    record { lines = lines; are_lines = is; covers = s; blocks = b.1; calls = c; typed = t }

pub record Parts (P : Program) (p : ℕ) : Type 0 where
  pub head : Head P p
  -- it is a Sub or a Function
  pub plain : is_plain_kind head.procedure.kind ≡ true
  -- it stands in a standard module
  pub outer : not (is_class_file P.declarations head.procedure.module_number) ≡ true
  pub variables : has_flat_variables P p ≡ true
  pub params : list_all (is_flat_parameter P p) head.procedure.params ≡ true
  pub body : Body P p
  -- each ReDim of the project gives its arrays a bound
  pub extents : has_extents P ≡ true
  -- a Function has a value of its type
  pub gives : gives_what_it_has (slice_get P.declarations.procs p) ≡ true

pub parts_of : (R : Runnable) (p : ℕ) → IsReady R p → Parts R.program p
parts_of R p ready =
    let P : Program = R.program in
    let D : Declarations = P.declarations in
    let h : covers_procedure P p ≡ true = ready.covered p (empty p) in
    let head = covers_head P p (slice_get D.procs p) in
    let at = covers_site D p (site_of D p) in
    let body = covers_body P p (slice_get P.bodies p) in
    let calls = covers_all_calls P p (slice_get P.bodies p) in
    let z = both_true calls (covers_names D && (head && (at && (covers_variables P p && body)))) h in
    let a = both_true (covers_names D) (head && (at && (covers_variables P p && body))) z.1 in
    let b = both_true head (at && (covers_variables P p && body)) a.1 in
    let c = both_true at (covers_variables P p && body) b.1 in
    let d = both_true (covers_variables P p) body c.1 in
    let outer = is_outer D (slice_get D.procs p) in
    let flat = are_flat_lines P p (slice_get P.bodies p) && has_flat_variables P p in
    let parameters = has_flat_parameters P p (slice_get D.procs p) in
    let k = both_true (is_plain (slice_get D.procs p)) (outer && (flat && parameters)) (ready.flat p (empty p)) in
    let f = both_true outer (flat && parameters) k.1 in
    let r = both_true flat parameters f.1 in
    let s = both_true (are_flat_lines P p (slice_get P.bodies p)) (has_flat_variables P p) r.0 in
    let x : Head P p = head_in P p (slice_get D.procs p) refl b.0 in
    record {
      head = x;
      plain = sym (ap is_plain x.is_procedure) ∙ k.0;
      outer = sym (ap (is_outer D) x.is_procedure) ∙ f.0;
      variables = s.1;
      params = sym (ap (has_flat_parameters P p) x.is_procedure) ∙ r.1;
      extents = (both_true (list_all (λ (x : Variable). cond (belongs_to p x.owner) (covers_declared D x) true) D.vars) (has_extents P) d.0).1;
      body = body_in P p (slice_get P.bodies p) refl d.1 z.0 (ready.typed p (empty p)) s.0;
      gives = ready.results p (empty p);
    }

-- ---- parameters

pub record Parameter (P : Program) (p : ℕ) (v : VarId) : Type 0 where
  pub variable : Variable
  pub is_variable : slice_get P.declarations.vars v.0 ≡ Some variable
  pub is_parameter : is_parameter_of p variable.owner ≡ true
  pub flat : is_flat P.declarations variable ≡ true
  -- what is no scalar runs as none that is quiet
  pub loud : (covers_type variable.ty ≡ true) ⊎ (is_loud P v.0 (Some variable) ≡ true)

parameter_belongs : (p : ℕ) (o : Owner) → is_parameter_of p o ≡ true → belongs_to p o ≡ true
parameter_belongs p (owner.Value q) h = h
parameter_belongs p (owner.Reference q) h = h
parameter_belongs p (owner.Module q) h = absurd (true≢false (sym h))
parameter_belongs p (owner.Local q) h = absurd (true≢false (sym h))
parameter_belongs p (owner.Static q) h = absurd (true≢false (sym h))
parameter_belongs p (owner.Answer q) h = absurd (true≢false (sym h))
parameter_belongs p (owner.Field q) h = absurd (true≢false (sym h))

parameter_in : (P : Program) (p : ℕ) (v : VarId) (o : Option Variable) → slice_get P.declarations.vars v.0 ≡ o → has_flat_variables P p ≡ true
    → is_parameter_in p o && is_scalar_or_loud P v.0 o ≡ true → Parameter P p v
parameter_in P p v None is c h = absurd (true≢false (sym h))
parameter_in P p v (Some y) is c h =
    let b = both_true (is_parameter_of p y.owner) (is_scalar_or_loud P v.0 (Some y)) h in
    record { variable = y; is_variable = is; is_parameter = b.0; flat = own_flat P p v.0 y c is (parameter_belongs p y.owner b.0); loud = either (covers_type y.ty) (is_loud_owner P v.0 y.owner) b.1 }

pub parameter_of : (P : Program) (p : ℕ) (v : VarId) → has_flat_variables P p ≡ true → is_flat_parameter P p v ≡ true → Parameter P p v
parameter_of P p v c h = parameter_in P p v (slice_get P.declarations.vars v.0) refl c h

-- ---- results

-- the result variable of a Function, of its type
pub record Answered (D : Declarations) (p : ℕ) (x : Procedure) (a : VarId) : Type 0 where
  pub variable : Variable
  pub is_variable : slice_get D.vars a.0 ≡ Some variable
  pub is_answer : is_answer_of p variable.owner ≡ true
  pub same : is_same_type variable.ty x.result ≡ true

pub answered_in : (D : Declarations) (p : ℕ) (x : Procedure) (a : VarId) (o : Option Variable) → slice_get D.vars a.0 ≡ o → is_result_in p x o ≡ true
    → Answered D p x a
answered_in D p x a None is h = absurd (true≢false (sym h))
answered_in D p x a (Some y) is h =
    let b = both_true (is_answer_of p y.owner) (is_same_type y.ty x.result && pointwise nat_eq y.name x.name) h in
    record {
      variable = y;
      is_variable = is;
      is_answer = b.0;
      same = (both_true (is_same_type y.ty x.result) (pointwise nat_eq y.name x.name) b.1).0;
    }

answer_by : (D : Declarations) (p : ℕ) (x : Procedure) (k : ProcKind) (a : VarId) → has_result D p x k ≡ true → x.answer ≡ Some a → Answered D p x a
answer_by D p x kind.Sub a h e =
    absurd (true≢false (sym (ap is_some e) ∙ not_true (is_some x.answer) h))
answer_by D p x kind.Function a h e =
    answered_in D p x a (slice_get D.vars a.0) refl (subst (λ o. has_answer D p x o ≡ true) e h)
answer_by D p x kind.Get a h e =
    answered_in D p x a (slice_get D.vars a.0) refl (subst (λ o. has_answer D p x o ≡ true) e h)
answer_by D p x kind.Let a h e =
    absurd (true≢false (sym (ap is_some e) ∙ not_true (is_some x.answer) h))
answer_by D p x kind.Set a h e =
    absurd (true≢false (sym (ap is_some e) ∙ not_true (is_some x.answer) h))

-- which variables are parameters and which is the result
pub record Results (D : Declarations) (p : ℕ) (x : Procedure) : Type 0 where
  pub has : has_result D p x x.kind ≡ true
  pub params : pointwise nat_eq (map (λ (v : VarId). v.0) x.params) (owned_from (is_parameter_of p) 0 D.vars) ≡ true
  pub answers : pointwise nat_eq (answer_in x.answer) (owned_from (is_answer_of p) 0 D.vars) ≡ true

pub results_of : (D : Declarations) (p : ℕ) (x : Procedure) → covers_result D p x ≡ true → Results D p x
results_of D p x h =
    let params = pointwise nat_eq (map (λ (v : VarId). v.0) x.params) (owned_from (is_parameter_of p) 0 D.vars) in
    let answers = pointwise nat_eq (answer_in x.answer) (owned_from (is_answer_of p) 0 D.vars) in
    let a = both_true (has_result D p x x.kind) (params && answers) h in
    let b = both_true params answers a.1 in
    record { has = a.0; params = b.0; answers = b.1 }

pub answer_of_function : (D : Declarations) (p : ℕ) (x : Procedure) (a : VarId) → covers_result D p x ≡ true → x.answer ≡ Some a → Answered D p x a
answer_of_function D p x a h e = answer_by D p x x.kind a (results_of D p x h).has e
