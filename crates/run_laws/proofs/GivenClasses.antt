-- What is written for a procedure that passes gives objects as of the class of its result.
use Rattle.std.proofs.Common.{◌≡◌, ◌∙◌, ◌⊎◌, inl, inr, sym, ap, subst, ℕ, true, Some, true≢false}
use Rattle.std.specs.Prelude.{slice_get}
use Rattle.up_base.proofs.Tests.{both_true}
use Rattle.vb_tree.specs.BoundTree as types
use Rattle.vb_tree.specs.BoundTree.{Ty}
use Rattle.bound_tree.specs.Tree.{Declarations, Procedure, Variable}
use Rattle.reach_table.specs.Chains.{empty}
use Rattle.bound_facts.specs.Locks.{is_same_type}
use Rattle.written_trees.specs.Heads.{is_function}
use Rattle.written_trees.specs.Names.{Scope}
use Rattle.vb6_run.specs.Shapes.{simple}
use Rattle.net_run.specs.Calls.{result_shape_of, shape_of_result}
use Rattle.net_run.specs.Members.{code_at}
use Rattle.net_run.specs.Shapes as shape
use Rattle.written_trees.specs.Types.{type_with}
use Rattle.run_matches.specs.CoveredExprs.{has_result_type}
use Rattle.run_matches.specs.CoveredVariables.{belongs_to, covers_array_owner, covers_group_type, covers_type}
use Rattle.run_matches.specs.Likeness.{SameShape}
use Rattle.run_matches.specs.Upgrades.{Upgrade, home_of, written_number}
use Rattle.run_statements.specs.Frames.{type_shape}
use Rattle.run_statements.specs.Written.{Passes, ProceduresAreWritten, WrittenProcedure, site_scope}
use Rattle.expression_laws.proofs.Types.{same_class}
use Rattle.run_laws.specs.Entered.{IsResult}
use Rattle.run_laws.specs.Premises.{GetsAreFirst, GroupsAreWritten, OwnedAreUsable, ResultsAreWritten}
use Rattle.run_laws.proofs.AnswerTypes.{AnswerTyped, answer_typed}
use Rattle.run_laws.proofs.Covered.{CoveredProcedure, covered_parts, own_covered_at, some_is}
use Rattle.run_laws.proofs.Heads.{HasAnswer, HasNone, a_result, answer_parts}
use Rattle.run_laws.proofs.ParametersMade.{readable_type}
use Rattle.run_laws.proofs.Parts.{clean_unparted}
use Rattle.run_laws.proofs.Usable.{result_is}

class_result : (class : ℕ) (x : Procedure) → has_result_type (types.class class) (Some x) ≡ true
    → (is_function x.kind ≡ true) × (x.result ≡ types.class class)
class_result class x h =
    let both = both_true (is_function x.kind) (is_same_type (types.class class) x.result) h in
    (both.0, same_class class x.result both.1)

-- what is of the type of a class is of the class
of_class : (class : ℕ) (ty : Ty) → is_same_type ty (types.class class) ≡ true → ty ≡ types.class class
of_class class (types.class k) h = sym (same_class k (types.class class) h)
of_class class _ h = absurd (true≢false (sym h))

module _ (U : Upgrade) (procedures : ProceduresAreWritten U) (owned : OwnedAreUsable U) (groups : GroupsAreWritten U) (firsts : GetsAreFirst U) (q : ℕ)
    (pass : Passes U q) where
  abbrev D : Declarations
  D = U.program.declarations

  abbrev c : CoveredProcedure U.program q
  c = covered_parts U.program q (pass.1 q (empty q))

  abbrev V : WrittenProcedure U q c.site c.procedure
  V = procedures q c.site c.procedure c.is_site c.is_procedure c.joined (clean_unparted U q c.procedure pass.0)

  abbrev H : Scope
  H = site_scope U c.site

  -- its result variable is no array
  answer_is : (a : HasAnswer D q c.procedure) → IsResult U a.id.0
  answer_is a =
      let own : belongs_to q a.variable.owner ≡ true = ap (belongs_to q) a.owner ∙ a.own in
      let covers = own_covered_at U.program q a.id.0 a.variable c.variables a.is_variable own in
      result_is U a.id.0 a.variable a.is_variable (ap covers_array_owner a.owner) covers
      (owned q a.id.0 a.variable pass.0 a.is_variable own covers)

  module _ (class : ℕ) (h : has_result_type (types.class class) (slice_get U.program.declarations.procs q) ≡ true) where
    result : (is_function c.procedure.kind ≡ true) × (c.procedure.result ≡ types.class class)
    result = class_result class c.procedure (subst (λ o. has_result_type (types.class class) o ≡ true) c.is_procedure h)

    module _ (a : HasAnswer D q c.procedure) where
      variable_class : a.variable.ty ≡ types.class class
      variable_class = of_class class a.variable.ty (subst (λ z. is_same_type a.variable.ty z ≡ true) result.1 a.type)

      class_covered : covers_group_type D (types.class class) ≡ true
      class_covered = by (answer_is a)
        where
          by : IsResult U a.id.0 → covers_group_type D (types.class class) ≡ true
          by (inl r) =
              absurd (true≢false (sym (readable_type U a.id.0 r)
              ∙ ap covers_type (ap (λ (z : Variable). z.ty) (some_is (sym r.is_variable ∙ a.is_variable)) ∙ variable_class)))
          by (inr (ty, g)) =
              subst (λ z. covers_group_type D z ≡ true)
              (sym g.is_type ∙ ap (λ (z : Variable). z.ty) (some_is (sym g.known.is_variable ∙ a.is_variable)) ∙ variable_class) g.covers

      typed : AnswerTyped U H c.procedure a.variable.ty
      typed = answer_typed U c.site q c.procedure a c.joined c.is_procedure firsts

      home : home_of U c.site.source_module.file ≡ Some V.code.home
      home = groups.homes q c.site c.is_site ∙ ap (λ k. Some k) (sym V.home)

      shaped : SameShape U (simple (types.class class)) (result_shape_of U.written (Some V.code))
      shaped =
          let t : AnswerTyped U H c.procedure a.variable.ty = typed in
          let written_class : t.of ≡ types.class class = same_class class t.of (subst (λ z. is_same_type z t.of ≡ true) variable_class t.same) in
          subst (λ o. SameShape U (simple (types.class class)) (shape_of_result U.written V.code.home o)) (sym (a_result U q c.site c.procedure V a))
          (subst (λ z. SameShape U (simple (types.class class)) (shape.shape_of U.written V.code.home z)) (sym t.written)
          (subst (λ s. SameShape U s (shape.shape_of U.written V.code.home (type_with D H.file t.qualified t.rank t.of))) (ap (type_shape U) written_class)
          (groups.shaped t.of V.code.home H.file t.rank t.qualified (subst (λ z. covers_group_type D z ≡ true) (sym written_class) class_covered) home)))

    class_given : SameShape U (simple (types.class class)) (result_shape_of U.written (Some V.code))
    class_given = by (answer_parts D q c.procedure c.result)
      where
        by : HasNone c.procedure ⊎ HasAnswer D q c.procedure → SameShape U (simple (types.class class)) (result_shape_of U.written (Some V.code))
        by (inl none) = absurd (true≢false (sym result.0 ∙ none.function))
        by (inr a) = shaped a

  pub result_written : (number : ℕ) → written_number U q ≡ Some number → (class : ℕ)
      → has_result_type (types.class class) (slice_get U.program.declarations.procs q) ≡ true
      → SameShape U (simple (types.class class)) (result_shape_of U.written (code_at U.written number))
  result_written number is class h =
      subst (λ n. SameShape U (simple (types.class class)) (result_shape_of U.written (code_at U.written n))) (some_is (sym V.is_number ∙ is))
      (subst (λ o. SameShape U (simple (types.class class)) (result_shape_of U.written o)) (sym V.is_code) (class_given class h))

pub results_are_written : (U : Upgrade) → ProceduresAreWritten U → OwnedAreUsable U → GroupsAreWritten U → GetsAreFirst U → ResultsAreWritten U
results_are_written U procedures owned groups firsts q number pass is class h = result_written U procedures owned groups firsts q pass number is class h
