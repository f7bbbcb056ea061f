-- What is written for the type of a result variable is like its type.
use Rattle.std.proofs.Common.{◌≡◌, refl, sym, ap, subst, ◌∙◌, ℕ, Bool, true, false, cond, true≢false, Option, Some, None, option_map}
use Rattle.std.specs.Prelude.{slice_get}
use Rattle.up_base.proofs.Tests.{both_true}
use Rattle.vb_tree.specs.BoundTree.{Ty}
use Rattle.vb_tree.specs.declared.declared.ProcKind.{ProcKind}
use Rattle.vb_tree.specs.declared.declared.ProcKind.TheVariants as kind
use Rattle.vb_tree.specs.declared.declared.VarId.{VarId}
use Rattle.bound_tree.specs.Tree.{Declarations, Procedure, Variable}
use Rattle.bound_facts.specs.Locks.{is_same_type}
use Rattle.written_trees.specs.Arguments.{is_property_kind}
use Rattle.written_trees.specs.Heads as heads
use Rattle.written_trees.specs.Heads.{index_params, is_function}
use Rattle.written_trees.specs.Names.{Scope}
use Rattle.written_trees.specs.Puts.{last_of}
use Rattle.written_trees.specs.Types.{type_with}
use Rattle.run_matches.specs.Covered.{covers_joined}
use Rattle.run_matches.specs.JoinedProperties.{are_like_params, have_same_type, is_joined, is_like_first, part_value, variable_at}
use Rattle.run_matches.specs.Sites.{Site}
use Rattle.run_matches.specs.Upgrades.{Upgrade}
use Rattle.run_statements.specs.Written.{first_type, site_scope}
use Rattle.run_laws.specs.Premises.{GetsAreFirst}
use Rattle.run_laws.proofs.Heads.{HasAnswer, answer_word}
use Rattle.run_laws.proofs.Parts.{joined_part, part_joined}

-- the type that is written is one like that of the result variable
pub record AnswerTyped (U : Upgrade) (S : Scope) (x : Procedure) (ty : Ty) : Type 0 where
  pub of : Ty
  pub qualified : Bool
  pub rank : ℕ
  pub written : answer_word S x x.kind ≡ type_with U.program.declarations S.file qualified rank of
  pub same : is_same_type ty of ≡ true

have_one : (D : Declarations) (y : Variable) (o : Option VarId) → have_same_type (Some y) (variable_at D o) ≡ true
    → (u : VarId) × (z : Variable) × (o ≡ Some u) × (slice_get D.vars u.0 ≡ Some z) × (is_same_type y.ty z.ty ≡ true)
have_one D y None h = absurd (true≢false (sym h))
have_one D y (Some u) h = by (slice_get D.vars u.0) refl h
  where
    by : (o : Option Variable) → slice_get D.vars u.0 ≡ o → have_same_type (Some y) o ≡ true
        → (v : VarId) × (z : Variable) × (Some u ≡ Some v) × (slice_get D.vars v.0 ≡ Some z) × (is_same_type y.ty z.ty ≡ true)
    by None e k = absurd (true≢false (sym k))
    by (Some z) e k = (u, z, refl, e, k)

like_first : (D : Declarations) (x : Procedure) (o : Option Procedure) → is_like_first D x o ≡ true
    → (f : Procedure) × (o ≡ Some f) × (have_same_type (variable_at D (part_value x)) (variable_at D (part_value f)) ≡ true)
like_first D x None h = absurd (true≢false (sym h))
like_first D x (Some f) h = (
  f,
  refl,
  (both_true (have_same_type (variable_at D (part_value x)) (variable_at D (part_value f))) (are_like_params D (index_params x) (index_params f)) h).0,
)

module _ (U : Upgrade) (s : Site) (p : ℕ) (x : Procedure) (h : HasAnswer U.program.declarations p x) where
  abbrev D : Declarations
  D = U.program.declarations

  abbrev S : Scope
  S = site_scope U s

  abbrev y : Variable
  y = h.variable

  -- the head names the type of the result variable
  head_type : heads.result_type S x ≡ type_with U.program.declarations S.file h.variable.qualified (U.facts.rank h.id.0) x.result
  head_type =
      ap (λ a. heads.result_by S x.result (heads.variable_of D a)) h.is_answer
      ∙ ap (λ o. heads.result_by S x.result (option_map (λ (z : Variable). (h.id.0, z)) o)) h.is_variable

  by_result : answer_word S x x.kind ≡ heads.result_type S x → AnswerTyped U S x y.ty
  by_result e = record { of = x.result; qualified = y.qualified; rank = U.facts.rank h.id.0; written = e ∙ head_type; same = h.type }

  -- a Let or a Set that stands before the Get
  by_value : (f : Procedure) → slice_get D.procs x.first.0 ≡ Some f → x.kind ≡ kind.Get → is_function f.kind ≡ false
      → have_same_type (variable_at D (part_value x)) (variable_at D (part_value f)) ≡ true → AnswerTyped U S x y.ty
  by_value f e is other alike =
      let answer : part_value x ≡ Some h.id = ap (λ b. cond b x.answer (last_of x.params)) h.function ∙ h.is_answer in
      let value : part_value f ≡ last_of f.params = ap (λ b. cond b f.answer (last_of f.params)) other in
      let typed = subst (λ o. have_same_type o (variable_at D (part_value f)) ≡ true) (ap (variable_at D) answer ∙ h.is_variable) alike in
      let m = have_one D y (last_of f.params) (subst (λ o. have_same_type (Some y) (variable_at D o) ≡ true) value typed) in
      let z : Variable = m.1 in
      record {
        of = z.ty;
        qualified = z.qualified;
        rank = U.facts.rank m.0.0;
        written =
            ap (answer_word S x) is ∙ ap (first_type S) e
            ∙ ap (λ b. cond b (heads.result_type S f) (heads.value_type S (heads.value_parameter S f))) other
            ∙ ap (λ o. heads.value_type S (heads.variable_of D o)) m.2
            ∙ ap (λ o. heads.value_type S (option_map (λ (u : Variable). (m.0.0, u)) o)) m.3;
        same = m.4;
      }

  by_first : (f : Procedure) → slice_get D.procs x.first.0 ≡ Some f → x.kind ≡ kind.Get → slice_get D.procs p ≡ Some x
      → (is_function f.kind ≡ true → x.first.0 ≡ p)
      → have_same_type (variable_at D (part_value x)) (variable_at D (part_value f)) ≡ true → AnswerTyped U S x y.ty
  by_first f e is here first alike = by (is_function f.kind) refl
    where
      by : (b : Bool) → is_function f.kind ≡ b → AnswerTyped U S x y.ty
      by false other = by_value f e is other alike
      by true same =
          by_result
          (ap (answer_word S x) is ∙ ap (λ n. first_type S (slice_get D.procs n)) (first same) ∙ ap (first_type S) here
          ∙ ap (λ b. cond b (heads.result_type S x) (heads.value_type S (heads.value_parameter S x))) h.function)

  pub answer_typed : covers_joined D p x ≡ true → slice_get D.procs p ≡ Some x → GetsAreFirst U → AnswerTyped U S x y.ty
  answer_typed joined here firsts = by x.kind refl
    where
      by : (k : ProcKind) → x.kind ≡ k → AnswerTyped U S x y.ty
      by kind.Get is =
          let one : is_joined D p x ≡ true = part_joined D p x joined (ap is_property_kind is) in
          let l = like_first D x (slice_get D.procs x.first.0) (joined_part D p x one).like in
          by_first l.0 l.1 is here (λ same. firsts p x l.0 here is one l.1 same) l.2
      by kind.Function is = by_result (ap (answer_word S x) is)
      by kind.Sub is = absurd (true≢false (sym h.function ∙ ap is_function is))
      by kind.Let is = absurd (true≢false (sym h.function ∙ ap is_function is))
      by kind.Set is = absurd (true≢false (sym h.function ∙ ap is_function is))
