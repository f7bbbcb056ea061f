-- What passes takes user types and objects alone none of whose declarations carries an issue.
use Rattle.std.proofs.Common.{◌≡◌, inl, inr, refl, sym, ap, subst, ◌∙◌, ℕ, true, true≢false, Option, Some, None}
use Rattle.std.specs.Prelude.{slice_get}
use Rattle.reach_table.specs.Chains.{empty}
use Rattle.vb_tree.specs.BoundTree as types
use Rattle.vb_tree.specs.BoundTree.{Ty}
use Rattle.vb_tree.specs.declared.declared.VarId.{VarId}
use Rattle.bound_tree.specs.Tree.{Variable}
use Rattle.bound_facts.specs.Effects.{params_at}
use Rattle.run_matches.specs.CoveredVariables.{covers_type}
use Rattle.run_matches.specs.Covered.{is_parameter_type, is_type_at}
use Rattle.run_matches.specs.Upgrades.{Upgrade}
use Rattle.run_matches.specs.UserTypes.{is_group_type}
use Rattle.expression_laws.specs.Statements.{IsSoundType, ParametersAreSound}
use Rattle.expression_laws.proofs.UsedShapes.{type_covered}
use Rattle.name_laws.proofs.Lists.{all_at}
use Rattle.run_laws.specs.Entered.{IsTaken}
use Rattle.run_laws.specs.Premises.{OwnedAreUsable}
use Rattle.run_laws.proofs.Covered.{CoveredProcedure, covered_parts, own_covered_at, some_is}
use Rattle.run_laws.proofs.Heads.{Parameter, parameter_belongs, parameter_given, parameter_is}
use Rattle.run_laws.proofs.Usable.{group_type_is, taken_is}

no_scalar : (ty : Ty) → is_group_type ty ≡ true → covers_type ty ≡ true → ⊥
no_scalar types.boolean h e = true≢false (sym h)
no_scalar types.byte h e = true≢false (sym h)
no_scalar types.integer h e = true≢false (sym h)
no_scalar types.long h e = true≢false (sym h)
no_scalar types.currency h e = true≢false (sym h)
no_scalar types.str h e = true≢false (sym h)
no_scalar _ h e = true≢false (sym e)

-- a parameter of a user type or a class is of one none of whose declarations carries an issue
sound_by : (U : Upgrade) (v : ℕ) (ty : Ty) (x : Variable) → is_group_type ty ≡ true → slice_get U.program.declarations.vars v ≡ Some x → ty ≡ x.ty
    → IsTaken U v → IsSoundType U ty
sound_by U v ty x group is of (inl r) =
    absurd (no_scalar ty group
    (subst (λ z. covers_type z ≡ true) (ap (λ (y : Variable). y.ty) (some_is (sym r.is_variable ∙ is)) ∙ sym of) (type_covered r.variable r.covers)))
sound_by U v ty x group is of (inr (inl a)) =
    absurd (true≢false (sym group
    ∙ ap is_group_type (of ∙ (ap (λ (y : Variable). y.ty) (some_is (sym is ∙ a.1.known.is_variable)) ∙ a.1.is_array))))
sound_by U v ty x group is of (inr (inr g)) =
    subst (λ z. IsSoundType U z)
    (sym g.1.is_type ∙ (ap (λ (y : Variable). y.ty) (some_is (sym g.1.known.is_variable ∙ is)) ∙ sym of))
    (record { covers = g.1.covers; sound = g.1.sound })

pub parameters_are_sound : (U : Upgrade) → OwnedAreUsable U → ParametersAreSound U
parameters_are_sound U owned q i ty passes group is = by (slice_get (params_at (slice_get U.program.declarations.procs q)) i) refl is
  where
    c : CoveredProcedure U.program q
    c = covered_parts U.program q (passes.1 q (empty q))

    typed : (v : VarId) (x : Variable) → slice_get U.program.declarations.vars v.0 ≡ Some x → is_type_at U.program.declarations ty (Some v) ≡ true → ty ≡ x.ty
    typed v x e h = group_type_is ty x.ty group (sym (ap (is_parameter_type ty) e) ∙ h)

    by : (o : Option VarId) → slice_get (params_at (slice_get U.program.declarations.procs q)) i ≡ o
        → is_type_at U.program.declarations ty o ≡ true → IsSoundType U ty
    by None e h = absurd (true≢false (sym h))
    by (Some v) e h =
        let at : slice_get c.procedure.params i ≡ Some v = sym (ap (λ z. slice_get (params_at z) i) c.is_procedure) ∙ e in
        let x : Parameter U.program q v = parameter_is U.program q v (all_at _ c.procedure.params i v c.params at) in
        let mine = parameter_belongs q x.variable.owner x.parameter in
        sound_by U v.0 ty x.variable group x.is_variable (typed v x.variable x.is_variable h)
        (taken_is U v.0 x.variable x.is_variable (parameter_given q x.variable.owner x.parameter)
        (owned q v.0 x.variable passes.0 x.is_variable mine (own_covered_at U.program q v.0 x.variable c.variables x.is_variable mine)))
