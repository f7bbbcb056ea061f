-- No parameter that is changed, or whose procedure acts, runs as a quiet one.
use Rattle.std.proofs.Common.{◌≡◌, ◌⊎◌, inl, inr, refl, sym, ap, ◌∙◌, ℕ, true, false, not, ◌&&◌, true≢false, Option, Some, None}
use Rattle.std.specs.Prelude.{slice_get}
use Rattle.up_base.proofs.Tests.{either, first_false, second_false}
use Rattle.vb_tree.specs.declared.declared.Owner.{Owner}
use Rattle.vb_tree.specs.declared.declared.Owner.TheVariants as owner
use Rattle.bound_tree.specs.Tree.{Program, Variable}
use Rattle.reach_table.specs.Chains.{empty}
use Rattle.bound_facts.specs.Facts.{AreFacts, Known, acts, is_quiet_owner, is_quiet_variable}
use Rattle.run_matches.specs.CoveredVariables.{is_loud, is_loud_owner, is_touched}
use Rattle.run_matches.specs.Upgrades.{Upgrade, is_quiet_id, runnable_of}
use Rattle.typing_laws.specs.Calls.{AreLoud}

module _ (P : Program) (F : Known) (known : AreFacts P F) where
  -- one by reference is touched, or its procedure acts
  owner_loud : (v : ℕ) (o : Owner) → is_loud_owner P v o ≡ true → is_quiet_owner F o && not (F.touched v) ≡ false
  owner_loud v (owner.Reference n) l = by (either (is_touched P v) (acts P n.0) l)
    where
      by : (is_touched P v ≡ true) ⊎ (acts P n.0 ≡ true) → not (F.outward n.0) && not (F.touched v) ≡ false
      by (inl t) = second_false (not (F.outward n.0)) (not (F.touched v)) (ap not (known.touched_are v ∙ t))
      by (inr a) = first_false (not (F.outward n.0)) (not (F.touched v)) (ap not ((known.outward_are n.0).1 (n.0, a, empty n.0)))
  owner_loud v _ l = refl

  variable_loud : (v : ℕ) (o : Option Variable) → is_loud P v o ≡ true → is_quiet_variable F o && not (F.touched v) ≡ false
  variable_loud v None l = absurd (true≢false (sym l))
  variable_loud v (Some y) l = owner_loud v y.owner l

-- a parameter that is changed, or whose procedure acts, runs as none that is quiet
pub no_loud_is_quiet : (U : Upgrade) (p : ℕ) → AreFacts U.program U.known → AreLoud (runnable_of U) p
no_loud_is_quiet U p known q reached place v at loud =
    ap (λ o. is_quiet_id U.program.declarations U.known o) at ∙ variable_loud U.program U.known known v.0 (slice_get U.program.declarations.vars v.0) loud
