-- The premises of the relation are met by a small program: what is known of it is right, and its variables stand in different places.
use Rattle.std.proofs.Common.{◌≡◌, refl, sym, subst, ◌∙◌, ℕ, zero, suc, ◌<◌, Bool, true, false, [], ◌∷◌, Option, Some, None, arith}
use Rattle.std.specs.Prelude.{◌&&◌, IsTrue, slice_get}
use Rattle.std.proofs.lemmas.Bool.{true≢false}
use Rattle.bound_facts.specs.Calls.{calls}
use Rattle.bound_facts.specs.Facts as found
use Rattle.bound_facts.specs.Leading.{within}
use Rattle.bound_tree.specs.RuleSets.{has, none, both}
use Rattle.reach_table.specs.Chains.{Chain, empty, longer}
use Rattle.run_base.specs.Positions.{Key}
use Rattle.written_trees.specs.Facts as deciding
use Rattle.written_trees.specs.Facts.{is_array_variable}
use Rattle.run_matches.specs.Upgrades.{variable_key, IsUpgrade}
use Rattle.run_matches.proofs.Samples.{vars, program, known, facts, upgrade}

below_zero : (a : ℕ) {B : Type 0} → a < 0 → B
below_zero a lt = absurd (omega arith)

and_false : (b : Bool) → (b && false) ≡ true → ⊥
and_false true e = true≢false (sym e)
and_false false e = true≢false (sym e)

-- nothing is called
chain_stays : (a b : ℕ) → Chain (within 4 (calls program)) a b → a ≡ b
chain_stays a b (empty c) = refl
chain_stays a b (longer x y z c pair) = below_zero pair.0 pair.1

known_are : found.AreFacts program known
known_are = record {
  outward_are = λ p. (λ e. (p, e, empty p), λ r. subst (λ x. IsTrue (known.outward x)) (sym (chain_stays p r.0 r.2)) r.1);
  touched_are = λ a. refl;
  resized_are = λ a. (λ e. absurd (true≢false (sym e)), λ r. absurd (and_false _ r.1));
  unplain_are = λ p. refl;
}

no_array : (a : ℕ) → is_array_variable (slice_get vars a) ≡ true → ⊥
no_array zero e = true≢false (sym e)
no_array (suc zero) e = true≢false (sym e)
no_array (suc (suc zero)) e = true≢false (sym e)
no_array (suc (suc (suc zero))) e = true≢false (sym e)
no_array (suc (suc (suc (suc zero)))) e = true≢false (sym e)
no_array (suc (suc (suc (suc (suc zero))))) e = true≢false (sym e)
no_array (suc (suc (suc (suc (suc (suc a)))))) e = true≢false (sym e)

facts_are : deciding.AreFacts program facts
facts_are = record {
  ranks = λ a e. absurd (no_array a e);
  lows = λ a d e f g. absurd (no_array a e);
  further_lows = λ a d. refl;
  arrays = λ t. (λ e. absurd (true≢false (sym e)), λ r. absurd (and_false _ r.1));
  made = λ t. (λ e. absurd (true≢false (sym e)), λ r. absurd (and_false _ r.1));
}

-- n, k and the Static s have keys
abbrev key_at : ℕ → Option Key
key_at zero = Some (0 ∷ 0 ∷ [])
key_at (suc (suc (suc (suc zero)))) = Some (1 ∷ 1 ∷ [])
key_at (suc (suc (suc (suc (suc zero))))) = Some (1 ∷ 2 ∷ 0 ∷ 0 ∷ [])
key_at a = None

key_is : (a : ℕ) → variable_key upgrade a ≡ key_at a
unfolding has none both
key_is zero = refl
key_is (suc zero) = refl
key_is (suc (suc zero)) = refl
key_is (suc (suc (suc zero))) = refl
key_is (suc (suc (suc (suc zero)))) = refl
key_is (suc (suc (suc (suc (suc zero))))) = refl
key_is (suc (suc (suc (suc (suc (suc a)))))) = refl

-- by which the variable is found
abbrev owner_of : Option Key → ℕ
owner_of None = 0
owner_of (Some []) = 0
owner_of (Some (h ∷ [])) = 0
owner_of (Some (zero ∷ k ∷ more)) = 0
owner_of (Some (suc h ∷ zero ∷ more)) = 0
owner_of (Some (suc h ∷ suc zero ∷ more)) = 4
owner_of (Some (suc h ∷ suc (suc k) ∷ more)) = 5

owner_is : (a : ℕ) (key : Key) → key_at a ≡ Some key → owner_of (Some key) ≡ a
owner_is zero key e = cc
owner_is (suc zero) key e = cc
owner_is (suc (suc zero)) key e = cc
owner_is (suc (suc (suc zero))) key e = cc
owner_is (suc (suc (suc (suc zero)))) key e = cc
owner_is (suc (suc (suc (suc (suc zero))))) key e = cc
owner_is (suc (suc (suc (suc (suc (suc a)))))) key e = cc

is_upgrade : IsUpgrade upgrade
is_upgrade = record {
  known_are = known_are;
  facts_are = facts_are;
  is_written = refl;
  own_keys = λ a b key e f x y. sym (owner_is a key (sym (key_is a) ∙ e)) ∙ owner_is b key (sym (key_is b) ∙ f);
}
