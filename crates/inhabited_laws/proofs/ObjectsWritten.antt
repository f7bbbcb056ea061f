-- What is known of the second program and what is written for it are as the theorem asks.
use Rattle.std.proofs.Common.{◌≡◌, refl, sym, ℕ, zero, suc, ◌≤◌, true, false, true≢false, arith, Some}
use Rattle.std.specs.Prelude.{slice_get}
use Rattle.bound_tree.specs.RuleSets.{has, none}
use Rattle.bound_tree.specs.Tree.{Procedure}
use Rattle.bound_facts.specs.Calls.{calls, count_procedures, count_variables}
use Rattle.bound_facts.specs.Clean.{IsClean}
use Rattle.bound_facts.specs.Effects.{outward, passes, resized}
use Rattle.bound_facts.specs.Facts.{AreFacts}
use Rattle.bound_facts.specs.Leading.{within}
use Rattle.bound_facts.specs.Node.{is_array_type}
use Rattle.written_trees.specs.Arguments.{is_property_kind}
use Rattle.written_trees.specs.Facts.{head_set, is_made_type}
use Rattle.run_matches.specs.Covered.{IsCovered, covers_procedure}
use Rattle.run_matches.specs.Sites.{Site, site_of}
use Rattle.run_statements.specs.Written.{FirstsAreParts, HasBody, IsWritten, PartsStandTogether}
use Rattle.run_laws.proofs.Covered.{not_none}
use Rattle.inhabited_laws.specs.Objects.{add_lines, advance_lines, clear_lines, get_level_lines, get_peer_lines, initialize_lines, let_level_lines, main_lines, object_facts, object_known, object_sample, objects, pick_lines, set_peer_lines, total_lines}
use Rattle.inhabited_laws.proofs.Chains.{leads_as, led_on}
use Rattle.inhabited_laws.proofs.Fits.{HasHome, all_named, at_procedure, at_site, none_hold, one_not, one_rank, still_lines_fit, unshaped, uses_fit}
use Rattle.inhabited_laws.proofs.Unmarked.{all_clean}

object_facts_are : AreFacts objects object_known
object_facts_are = record {
  outward_are = leads_as object_known.outward (count_procedures objects) (calls objects) (outward objects) (λ p. refl) refl;
  touched_are = λ v. refl;
  resized_are = leads_as object_known.resized (count_variables objects) (passes objects) (resized objects) (λ v. refl) refl;
  unplain_are = λ p. refl;
}

-- ---- procedures

bodies : (p : ℕ) (s : Site) → site_of objects.declarations p ≡ Some s → HasBody objects p s
bodies zero s e = at_site (HasBody objects 0) _ s e (record { lines = main_lines; are_lines = refl; sources = refl })
bodies (suc zero) s e = at_site (HasBody objects 1) _ s e (record { lines = clear_lines; are_lines = refl; sources = refl })
bodies (suc (suc zero)) s e = at_site (HasBody objects 2) _ s e (record { lines = pick_lines; are_lines = refl; sources = refl })
bodies (suc (suc (suc zero))) s e = at_site (HasBody objects 3) _ s e (record { lines = advance_lines; are_lines = refl; sources = refl })
bodies (suc (suc (suc (suc zero)))) s e = at_site (HasBody objects 4) _ s e (record { lines = add_lines; are_lines = refl; sources = refl })
bodies (suc (suc (suc (suc (suc zero))))) s e = at_site (HasBody objects 5) _ s e (record { lines = total_lines; are_lines = refl; sources = refl })
bodies (suc (suc (suc (suc (suc (suc zero)))))) s e = at_site (HasBody objects 6) _ s e (record { lines = get_level_lines; are_lines = refl; sources = refl })
bodies (suc (suc (suc (suc (suc (suc (suc zero))))))) s e = at_site (HasBody objects 7) _ s e (record { lines = let_level_lines; are_lines = refl; sources = refl })
bodies (suc (suc (suc (suc (suc (suc (suc (suc zero)))))))) s e = at_site (HasBody objects 8) _ s e (record { lines = get_peer_lines; are_lines = refl; sources = refl })
bodies (suc (suc (suc (suc (suc (suc (suc (suc (suc zero))))))))) s e = at_site (HasBody objects 9) _ s e (record { lines = set_peer_lines; are_lines = refl; sources = refl })
bodies (suc (suc (suc (suc (suc (suc (suc (suc (suc (suc zero)))))))))) s e = at_site (HasBody objects 10) _ s e (record { lines = initialize_lines; are_lines = refl; sources = refl })
bodies (suc (suc (suc (suc (suc (suc (suc (suc (suc (suc (suc p))))))))))) s e = absurd (not_none e)

homes : (p : ℕ) (s : Site) → site_of objects.declarations p ≡ Some s → HasHome object_sample s
homes zero s e = at_site (HasHome object_sample) _ s e refl
homes (suc zero) s e = at_site (HasHome object_sample) _ s e refl
homes (suc (suc zero)) s e = at_site (HasHome object_sample) _ s e refl
homes (suc (suc (suc zero))) s e = at_site (HasHome object_sample) _ s e refl
homes (suc (suc (suc (suc zero)))) s e = at_site (HasHome object_sample) _ s e refl
homes (suc (suc (suc (suc (suc zero))))) s e = at_site (HasHome object_sample) _ s e refl
homes (suc (suc (suc (suc (suc (suc zero)))))) s e = at_site (HasHome object_sample) _ s e refl
homes (suc (suc (suc (suc (suc (suc (suc zero))))))) s e = at_site (HasHome object_sample) _ s e refl
homes (suc (suc (suc (suc (suc (suc (suc (suc zero)))))))) s e = at_site (HasHome object_sample) _ s e refl
homes (suc (suc (suc (suc (suc (suc (suc (suc (suc zero))))))))) s e = at_site (HasHome object_sample) _ s e refl
homes (suc (suc (suc (suc (suc (suc (suc (suc (suc (suc zero)))))))))) s e = at_site (HasHome object_sample) _ s e refl
homes (suc (suc (suc (suc (suc (suc (suc (suc (suc (suc (suc p))))))))))) s e = absurd (not_none e)

-- ---- properties

-- the first part of a property has itself as its first part, and a later one stands in its module
abbrev IsInPlace : (procedure : ℕ) → Procedure → Type 0
IsInPlace n q =
    is_property_kind q.kind ≡ true
    → (q.first.0 ≤ n) × (f : Procedure) × (slice_get objects.declarations.procs q.first.0 ≡ Some f) × (f.first.0 ≡ q.first.0) × (s : Site)
    × (site_of objects.declarations q.first.0 ≡ Some s)

firsts : FirstsAreParts objects.declarations
firsts zero q e = at_procedure (IsInPlace 0) _ q e (λ k. absurd (true≢false (sym k)))
firsts (suc zero) q e = at_procedure (IsInPlace 1) _ q e (λ k. absurd (true≢false (sym k)))
firsts (suc (suc zero)) q e = at_procedure (IsInPlace 2) _ q e (λ k. absurd (true≢false (sym k)))
firsts (suc (suc (suc zero))) q e = at_procedure (IsInPlace 3) _ q e (λ k. absurd (true≢false (sym k)))
firsts (suc (suc (suc (suc zero)))) q e = at_procedure (IsInPlace 4) _ q e (λ k. absurd (true≢false (sym k)))
firsts (suc (suc (suc (suc (suc zero))))) q e = at_procedure (IsInPlace 5) _ q e (λ k. absurd (true≢false (sym k)))
firsts (suc (suc (suc (suc (suc (suc zero)))))) q e = at_procedure (IsInPlace 6) _ q e (λ k. (omega arith, _, refl, refl, _, refl))
firsts (suc (suc (suc (suc (suc (suc (suc zero))))))) q e = at_procedure (IsInPlace 7) _ q e (λ k. (omega arith, _, refl, refl, _, refl))
firsts (suc (suc (suc (suc (suc (suc (suc (suc zero)))))))) q e = at_procedure (IsInPlace 8) _ q e (λ k. (omega arith, _, refl, refl, _, refl))
firsts (suc (suc (suc (suc (suc (suc (suc (suc (suc zero))))))))) q e = at_procedure (IsInPlace 9) _ q e (λ k. (omega arith, _, refl, refl, _, refl))
firsts (suc (suc (suc (suc (suc (suc (suc (suc (suc (suc zero)))))))))) q e = at_procedure (IsInPlace 10) _ q e (λ k. absurd (true≢false (sym k)))
firsts (suc (suc (suc (suc (suc (suc (suc (suc (suc (suc (suc p))))))))))) q e = absurd (not_none e)

abbrev IsBeside : (procedure : ℕ) → Procedure → Type 0
IsBeside n q =
    (s : Site) → is_property_kind q.kind ≡ true → site_of objects.declarations q.first.0 ≡ Some s
    → (t : Site) × (site_of objects.declarations n ≡ Some t) × (t.home ≡ s.home)

abbrev IsBesideSite : (procedure : ℕ) → Site → Type 0
IsBesideSite n s = (t : Site) × (site_of objects.declarations n ≡ Some t) × (t.home ≡ s.home)

together : PartsStandTogether objects.declarations
together zero q s e k = at_procedure (IsBeside 0) _ q e (λ s k. absurd (true≢false (sym k))) s k
together (suc zero) q s e k = at_procedure (IsBeside 1) _ q e (λ s k. absurd (true≢false (sym k))) s k
together (suc (suc zero)) q s e k = at_procedure (IsBeside 2) _ q e (λ s k. absurd (true≢false (sym k))) s k
together (suc (suc (suc zero))) q s e k = at_procedure (IsBeside 3) _ q e (λ s k. absurd (true≢false (sym k))) s k
together (suc (suc (suc (suc zero)))) q s e k = at_procedure (IsBeside 4) _ q e (λ s k. absurd (true≢false (sym k))) s k
together (suc (suc (suc (suc (suc zero))))) q s e k = at_procedure (IsBeside 5) _ q e (λ s k. absurd (true≢false (sym k))) s k
together (suc (suc (suc (suc (suc (suc zero)))))) q s e k = at_procedure (IsBeside 6) _ q e (λ s k f. at_site (IsBesideSite 6) _ s f (_, refl, refl)) s k
together (suc (suc (suc (suc (suc (suc (suc zero))))))) q s e k = at_procedure (IsBeside 7) _ q e (λ s k f. at_site (IsBesideSite 7) _ s f (_, refl, refl)) s k
together (suc (suc (suc (suc (suc (suc (suc (suc zero)))))))) q s e k = at_procedure (IsBeside 8) _ q e (λ s k f. at_site (IsBesideSite 8) _ s f (_, refl, refl)) s k
together (suc (suc (suc (suc (suc (suc (suc (suc (suc zero))))))))) q s e k = at_procedure (IsBeside 9) _ q e (λ s k f. at_site (IsBesideSite 9) _ s f (_, refl, refl)) s k
together (suc (suc (suc (suc (suc (suc (suc (suc (suc (suc zero)))))))))) q s e k = at_procedure (IsBeside 10) _ q e (λ s k. absurd (true≢false (sym k))) s k
together (suc (suc (suc (suc (suc (suc (suc (suc (suc (suc (suc p))))))))))) q s e k = absurd (not_none e)

no_head : (p : ℕ) → has (head_set object_facts p) 7 ≡ false
unfolding has none
no_head p = refl

pub objects_are_written : IsWritten object_sample
objects_are_written = record {
  known = object_facts_are;
  is_written = refl;
  parts = together;
  firsts = firsts;
  bodies = bodies;
  forms = λ p s e i l a b. refl;
  fits = λ p k l e u. uses_fit object_sample refl p k l e;
  resizes = λ p k l e u. still_lines_fit object_sample refl p k l e;
  ranks = λ v x e rank at ty f. one_rank objects.declarations.vars refl v x e rank at ty;
  dimensions = λ h v a e. one_not e;
  arrays = none_hold objects.declarations is_array_type refl;
  made = none_hold objects.declarations is_made_type refl;
  named = all_named objects.declarations.vars refl;
  apart = λ p x e k h. unshaped object_facts x.first.0 0 objects.declarations.procs no_head;
  homes = homes;
}

-- ---- clean and covered

pub objects_are_clean : (p : ℕ) → IsClean objects object_sample.facts.marks p
unfolding has none
objects_are_clean = all_clean objects refl

pub objects_are_covered : IsCovered objects 0
objects_are_covered q chain = led_on (covers_procedure objects) (within (count_procedures objects) (calls objects)) 0 q refl refl chain
