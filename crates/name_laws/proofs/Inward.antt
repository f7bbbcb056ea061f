-- A procedure that is seen to be inward is so: no chain of calls leads from it to an outward one.
use Rattle.std.proofs.Common.{◌≡◌, ◌∙◌, refl, sym, ap, ℕ, zero, suc, Bool, true, false, cond, not, ◌&&◌, ◌||◌, nat_eq, Option, Some, None, List, [], ◌∷◌, true≢false}
use Rattle.std.specs.Prelude.{nat_lt, slice_get}
use Rattle.vb_tree.specs.declared.declared.Owner.{Owner}
use Rattle.vb_tree.specs.declared.declared.Owner.TheVariants as owner
use Rattle.vb_tree.specs.declared.declared.VarId.{VarId}
use Rattle.bound_tree.specs.Tree.{Program, Variable}
use Rattle.bound_facts.proofs.Chains.{both_true}
use Rattle.bound_facts.specs.Calls.{calls, count_procedures}
use Rattle.bound_facts.specs.Effects.{outward}
use Rattle.bound_facts.specs.Facts.{AreFacts, Known, ReachesOutward, is_quiet_owner, is_quiet_variable}
use Rattle.bound_facts.specs.Leading.{is_in, within}
use Rattle.reach_table.specs.Chains.{Chain, empty, longer}
use Rattle.run_matches.specs.CoveredVariables.{is_touched}
use Rattle.run_matches.specs.IndexArguments.{is_seen_quiet_id, is_seen_quiet_owner, is_seen_quiet_some}
use Rattle.run_matches.specs.Inward.{grown, is_closed, is_inward_in, led_in}
use Rattle.run_matches.specs.Upgrades.{is_quiet_id}
use Rattle.name_laws.proofs.Lists.{all_among, among}

-- ---- what is in a list

either : (a b : Bool) → a ≡ true → (b || a) ≡ true
either a true h = refl
either a false h = h

in_more : (b : Bool) (x q : ℕ) (list : List ℕ) → is_in list q ≡ true → is_in (cond b (x ∷ list) list) q ≡ true
in_more true x q list h = either (is_in list q) (nat_eq q x) h
in_more false x q list h = h

in_led : (pairs : List (ℕ × ℕ)) (list : List ℕ) (q : ℕ) → is_in list q ≡ true → is_in (led_in pairs list) q ≡ true
in_led [] list q h = h
in_led (p ∷ pairs) list q h =
    in_led pairs (cond (is_in list p.1 && not (is_in list p.0)) (p.0 ∷ list) list) q (in_more (is_in list p.1 && not (is_in list p.0)) p.0 q list h)

pub in_grown : (n : ℕ) (pairs : List (ℕ × ℕ)) (list : List ℕ) (q : ℕ) → is_in list q ≡ true → is_in (grown n pairs list) q ≡ true
in_grown zero pairs list q h = h
in_grown (suc n) pairs list q h = in_grown n pairs (led_in pairs list) q (in_led pairs list q h)

-- ---- what leads into a closed list is in it

implied : (a b : Bool) → (not a || b) ≡ true → a ≡ true → b ≡ true
implied true b h e = h
implied false b h e = absurd (true≢false (sym e))

module _ (pairs : List (ℕ × ℕ)) (list : List ℕ) (closed : is_closed pairs list ≡ true) where
  pub back : (a b : ℕ) → Chain pairs a b → is_in list b ≡ true → is_in list a ≡ true
  back _ _ (empty a) h = h
  back _ _ (longer a b c chain step) h =
      back a b chain
      (implied (is_in list c) (is_in list b)
      (all_among (λ (p : ℕ × ℕ). not (is_in list p.1) || is_in list p.0) pairs (b, c) closed (among pairs (b, c) step)) h)

pub not_in : (b : Bool) → not b ≡ true → b ≡ true → ⊥
not_in true e h = true≢false (sym e)
not_in false e h = true≢false (sym h)

apart : (P : Program) (q : ℕ) → is_inward_in P q ≡ true → ReachesOutward P q → ⊥
apart P q h (to, is, chain) =
    let pairs = within (count_procedures P) (calls P) in
    let list = grown (count_procedures P) pairs (outward P) in
    let both = both_true (is_closed pairs list) (not (is_in list q)) h in
    let there = in_grown (count_procedures P) pairs (outward P) to (both_true (nat_lt to (count_procedures P)) (is_in (outward P) to) is).1 in
    not_in (is_in list q) both.1 (back pairs list both.0 q to chain there)

tell : (b : Bool) → (b ≡ true → ⊥) → not b ≡ true
tell true f = absurd (f refl)
tell false f = refl

pub seen_inward : (P : Program) (F : Known) → AreFacts P F → (q : ℕ) → is_inward_in P q ≡ true → not (F.outward q) ≡ true
seen_inward P F facts q h = tell (F.outward q) (λ e. apart P q h ((facts.outward_are q).0 e))

-- ---- quiet parameters

quiet_owner : (P : Program) (F : Known) → AreFacts P F → (v : ℕ) (o : Owner) → is_seen_quiet_owner P v o ≡ true → (is_quiet_owner F o && not (F.touched v)) ≡ true
quiet_owner P F facts v (owner.Reference p) h =
    let both = both_true (is_inward_in P p.0) (not (is_touched P v)) h in
    ap (λ b. b && not (F.touched v)) (seen_inward P F facts p.0 both.0) ∙ ap not (facts.touched_are v) ∙ both.1
quiet_owner P F facts v _ h = absurd (true≢false (sym h))

quiet_some : (P : Program) (F : Known) → AreFacts P F → (v : ℕ) (o : Option Variable) → is_seen_quiet_some P v o ≡ true
    → (is_quiet_variable F o && not (F.touched v)) ≡ true
quiet_some P F facts v None h = absurd (true≢false (sym h))
quiet_some P F facts v (Some x) h = quiet_owner P F facts v x.owner h

-- a parameter that is seen to be quiet is so
pub quiet_seen : (P : Program) (F : Known) → AreFacts P F → (o : Option VarId) → is_seen_quiet_id P o ≡ true → is_quiet_id P.declarations F o ≡ true
quiet_seen P F facts None h = absurd (true≢false (sym h))
quiet_seen P F facts (Some v) h = quiet_some P F facts v.0 (slice_get P.declarations.vars v.0) h
