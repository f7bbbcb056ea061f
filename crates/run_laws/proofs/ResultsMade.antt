-- The result variable of a Function or a Get is made on both sides.
use Rattle.std.proofs.Common.{◌≡◌, sym, ap, subst, ◌∙◌, ℕ, true, inl, inr, Some}
use Rattle.vb_tree.specs.BoundTree.{Ty}
use Rattle.bound_tree.specs.Tree.{Declarations, Procedure, Variable}
use Rattle.bound_facts.specs.Locks.{is_same_type}
use Rattle.net_tree.specs.Types.{TypeName}
use Rattle.vb6_run.specs.Shapes.{variable_shape}
use Rattle.vb6_run.specs.Store.{make}
use Rattle.net_run.specs.Shapes as shape
use Rattle.net_run.specs.Store as net
use Rattle.written_trees.specs.Names.{Scope}
use Rattle.written_trees.specs.Types.{type_with}
use Rattle.run_matches.specs.Agreeing.{Agrees}
use Rattle.run_matches.specs.CoveredVariables.{covers_type}
use Rattle.run_matches.specs.Likeness.{SameShape, scalar_word}
use Rattle.run_matches.specs.Maps.{Below, World, mark}
use Rattle.run_matches.specs.Match.{MemoryMatch}
use Rattle.run_matches.specs.Pledges.{Pledge}
use Rattle.run_matches.specs.Sites.{Site}
use Rattle.run_matches.specs.Upgrades.{Upgrade, home_of}
use Rattle.run_statements.specs.Written.{site_scope}
use Rattle.expression_laws.proofs.Types.{is_group, same_of}
use Rattle.memory_laws.proofs.GroupsMade.{group_shape_is}
use Rattle.run_laws.specs.Entered.{IsResult}
use Rattle.run_laws.specs.Premises.{GroupsAreWritten, MakesAlike}
use Rattle.run_laws.proofs.AnswerTypes.{AnswerTyped}
use Rattle.run_laws.proofs.Covered.{some_is}
use Rattle.run_laws.proofs.Dims.{WordOf, word_of}
use Rattle.run_laws.proofs.Heads.{HasAnswer, answer_word}
use Rattle.run_laws.proofs.ParametersMade.{Local, group_is_made, local_is_made, readable_type}
use Rattle.run_laws.proofs.Usable.{group_type_is}

module _ (U : Upgrade) (groups : GroupsAreWritten U) (site : Site) (home : ℕ) (here : home_of U (site_scope U site).file ≡ Some home) (p : ℕ) (x : Procedure)
    (h : HasAnswer U.program.declarations p x) (typed : AnswerTyped U (site_scope U site) x h.variable.ty) (K : Pledge) (makes : MakesAlike U K) where
  abbrev D : Declarations
  D = U.program.declarations

  abbrev H : Scope
  H = site_scope U site

  abbrev y : Variable
  y = h.variable

  abbrev written_as : Ty → TypeName
  written_as ty = type_with U.program.declarations (site_scope U site).file typed.qualified typed.rank ty

  -- its written shape, with which it is made
  pub record ResultMade : Type 0 where
    pub written : shape.Shape
    pub shaped : shape.shape_of U.written home (answer_word (site_scope U site) x x.kind) ≡ written
    pub made :
        (w : World) → Below K.base (mark w.src) → MemoryMatch U w
        → Agrees U K w (Local U K h.id.0) (make (variable_shape U.program.declarations h.id.0) w.src) (net.made_with written (shape.default_of written) w.net)

  pub result_made : IsResult U h.id.0 → ResultMade
  result_made (inl r) =
      let is : r.variable ≡ y = some_is (sym r.is_variable ∙ h.is_variable) in
      let covers : covers_type y.ty ≡ true = subst (λ (z : Variable). covers_type z.ty ≡ true) is (readable_type U h.id.0 r) in
      let m : WordOf y.ty = word_of y.ty covers in
      let word : scalar_word r.variable.ty ≡ Some m.word = ap (λ (z : Variable). scalar_word z.ty) is ∙ m.is_word in
      record {
        written = shape.scalar m.word;
        shaped =
            ap (λ t. shape.shape_of U.written home t)
            (typed.written ∙ ap written_as (same_of y.ty typed.of covers typed.same) ∙ m.written D H.file typed.qualified typed.rank)
            ∙ m.shaped U.written home;
        made = λ w low start. local_is_made U K makes w h.id.0 r m.word word low start;
      }
  result_made (inr (ty, r)) =
      let is : y.ty ≡ ty = ap (λ (z : Variable). z.ty) (some_is (sym h.is_variable ∙ r.known.is_variable)) ∙ r.is_type in
      let same : ty ≡ typed.of =
      group_type_is ty typed.of (is_group D ty r.covers) (subst (λ z. is_same_type z typed.of ≡ true) is typed.same) in
      let d : shape.Shape = shape.shape_of U.written home (written_as ty) in
      record {
        written = d;
        shaped = ap (λ t. shape.shape_of U.written home t) (typed.written ∙ ap written_as (sym same));
        made = λ w low start.
            group_is_made U K makes w h.id.0 ty r d
            (subst (λ s. SameShape U s d) (sym (group_shape_is U h.id.0 ty r)) (groups.shaped ty home H.file typed.rank typed.qualified r.covers here))
            low start;
      }
