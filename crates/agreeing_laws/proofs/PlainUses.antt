-- A use of a variable that is no As New one makes no object.
use Rattle.std.proofs.Common.{◌≡◌, ◌∙◌, ◌⊎◌, inl, inr, ⊎_elim, refl, sym, ap, ℕ, Bool, true, false, cond, not, ◌&&◌, ◌||◌, Some, None, List, slice_get, true≢false}
use Rattle.std.proofs.lemmas.Bool.{or_cases}
use Rattle.vb_tree.specs.BoundTree.{Ty}
use Rattle.vb_tree.specs.declared.declared.VarId.{VarId}
use Rattle.up_base.proofs.Tests.{not_true}
use Rattle.bound_tree.specs.Tree.{Variable, typed, variable}
use Rattle.bound_facts.proofs.Chains.{both_true}
use Rattle.bound_facts.specs.Node.{auto_class, class_in}
use Rattle.bound_facts.specs.Nodes.{nodes}
use Rattle.written_trees.specs.Names.{Scope}
use Rattle.net_run.specs.Names as net_names
use Rattle.run_matches.specs.CoveredExprs.{Uses, are_still, covers_object_term, covers_place}
use Rattle.run_matches.specs.CoveredVariables.{covers_owner, covers_type, covers_variable}
use Rattle.run_matches.specs.Pledges.{Pledge}
use Rattle.run_matches.specs.Upgrades.{Upgrade}
use Rattle.run_matches.specs.UserTypes.{is_class_type}
use Rattle.run_statements.specs.Frames.{AreReadable, CanMakeAt, IsAutoOf, IsKnown, IsReadable}

-- an As New variable is of the class that it makes objects of
pub auto_is : (U : Upgrade) (v class : ℕ) → IsAutoOf U v class → auto_class (slice_get U.program.declarations.vars v) ≡ Some class
auto_is U v class r = ap auto_class r.is_variable ∙ (ap (λ b. cond b (class_in r.variable.ty) None) r.is_auto ∙ ap class_in r.is_type)

known_none : (vars : List Variable) (v : ℕ) (x : Variable) → slice_get vars v ≡ Some x → x.auto ≡ false → auto_class (slice_get vars v) ≡ None
known_none vars v x is plain = ap auto_class is ∙ ap (λ b. cond b (class_in x.ty) None) plain

scalar_plain : (x : Variable) → covers_variable x ≡ true → x.auto ≡ false
scalar_plain x h =
    not_true x.auto
    (both_true (covers_type x.ty) (not x.auto) (both_true (covers_owner x.owner) (covers_type x.ty && not x.auto) h).1).1

-- the use of a scalar, an array, or a user type or an object
abbrev pub IsPlainUse : Uses → VarId → Type 0
IsPlainUse uses v = (uses.scalar v ≡ true) ⊎ (((element : Ty) × (uses.array v element ≡ true)) ⊎ ((ty : Ty) × (uses.group v ty ≡ true)))

-- what is no As New use where there is one of another kind
never : (b : Bool) → (b ≡ true → ⊥) → b ≡ false
never true h = absurd (h refl)
never false h = refl

-- an object that is kept by a variable which is no As New one
pub group_only : (group auto : Bool) → (group || auto) ≡ true → auto ≡ false → group ≡ true
group_only group auto stands none = ⊎_elim (λ x. x) (λ x. absurd (true≢false (sym x ∙ none))) (or_cases group auto stands)

-- where it isn't known which
pub object_variable : (uses : Uses) (ty : Ty) (v : VarId) (qualified : Bool) → covers_object_term uses ty (variable v qualified) ≡ true → uses.auto v ty ≡ false
    → covers_place uses (typed ty (variable v qualified)) ≡ true
object_variable uses ty v qualified covers none =
    let stands : Bool = uses.group v ty || uses.auto v ty in
    let used = both_true stands (uses.named v qualified) (both_true (is_class_type ty) (stands && uses.named v qualified) covers).1 in
    ap (λ b. b && uses.named v qualified) (group_only (uses.group v ty) (uses.auto v ty) used.0 none) ∙ used.1

-- a still use makes no object
pub still_variable : (uses : Uses) (ty : Ty) (v : VarId) (qualified : Bool) → are_still uses (nodes (typed ty (variable v qualified))) ≡ true
    → uses.auto v ty ≡ false
still_variable uses ty v qualified s = by (uses.auto v ty) s
  where
    by : (b : Bool) → ((not b && true) && true) ≡ true → b ≡ false
    by true e = absurd (true≢false (sym e))
    by false e = refl

module _ (U : Upgrade) (T : Scope) (uses : Uses) (readable : AreReadable U T uses) where
  none_known : (v : ℕ) → IsKnown U v → auto_class (slice_get U.program.declarations.vars v) ≡ None
  none_known v k = known_none U.program.declarations.vars v k.variable k.is_variable k.plain

  pub plain_use : (v : VarId) → IsPlainUse uses v → auto_class (slice_get U.program.declarations.vars v.0) ≡ None
  plain_use v (inl scalar) =
      let r : IsReadable U v.0 = readable.scalars v scalar in
      known_none U.program.declarations.vars v.0 r.variable r.is_variable (scalar_plain r.variable r.covers)
  plain_use v (inr (inl (element, array))) = none_known v.0 (readable.arrays v element array).known
  plain_use v (inr (inr (ty, group))) = none_known v.0 (readable.groups v ty group).known

  pub no_auto_use : (v : VarId) (ty : Ty) → IsPlainUse uses v → uses.auto v ty ≡ false
  no_auto_use v ty plain = never (uses.auto v ty) (λ auto.
      let r = readable.autos v ty auto in cc (sym (auto_is U v.0 r.0 r.2) ∙ plain_use v plain))

pub plain_makes : (U : Upgrade) (K : Pledge) (S : net_names.Scope) (T : Scope) (uses : Uses) → AreReadable U T uses → (v : VarId) → IsPlainUse uses v
    → CanMakeAt U K S T v.0
plain_makes U K S T uses readable v plain class is = absurd (cc (sym is ∙ plain_use U T uses readable v plain))
