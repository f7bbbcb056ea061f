-- What is known of the program and what is written for it are as the theorem asks.
use Rattle.std.proofs.Common.{◌≡◌, inl, inr, refl, subst, ℕ, zero, suc, Bool, true, false, [], ◌∷◌, Some, None, arith}
use Rattle.std.proofs.lemmas.Bool.{true≢false}
use Rattle.std.proofs.lemmas.Bool.Decides.{nat_tests}
use Rattle.std.specs.Prelude.{nat_eq, nat_lt, ◌&&◌, slice_get}
use Rattle.bound_tree.specs.RuleSets.{has, none}
use Rattle.bound_tree.specs.Tree.{Line}
use Rattle.bound_facts.specs.Calls.{calls, count_procedures, count_variables}
use Rattle.bound_facts.specs.Clean.{IsClean}
use Rattle.bound_facts.specs.Effects.{outward, passes, resized}
use Rattle.bound_facts.specs.Facts.{AreFacts, is_quiet}
use Rattle.bound_facts.specs.Leading.{is_in, within}
use Rattle.bound_facts.specs.Node.{is_array_type}
use Rattle.bound_facts.specs.Parts.{Extent, Resize}
use Rattle.written_trees.specs.Facts.{head_set, is_made_type}
use Rattle.run_base.specs.Machines.{nth_line}
use Rattle.run_matches.specs.Covered.{IsCovered, covers_procedure}
use Rattle.run_matches.specs.CleanLines.{lines_at}
use Rattle.run_matches.specs.Sites.{Site, site_of}
use Rattle.run_statements.specs.Fitting.{FitsExtent, FitsLine, FitsResize}
use Rattle.run_statements.specs.Written.{HasBody, IsWritten}
use Rattle.name_laws.proofs.Lists.{Among, among, some_same}
use Rattle.run_laws.proofs.Covered.{not_none}
use Rattle.inhabited_laws.specs.Sample.{add_lines, main_lines, number, program, sample, sample_facts, sample_known, twice_lines, whole}
use Rattle.inhabited_laws.proofs.Chains.{leads_as, led_on}
use Rattle.inhabited_laws.proofs.Fits.{HasHome, all_named, at_site, is_still, no_firsts, no_parts, none_hold, one_not, one_rank, still_fits, unshaped, uses_fit}
use Rattle.inhabited_laws.proofs.Unmarked.{all_clean}

-- ---- what is known

beyond : (a b c : Bool) → a ≡ false → b ≡ false → a ≡ (b && c)
beyond a true c e f = absurd (true≢false f)
beyond a false c e f = e

-- Main and Add act
outward_so : (p : ℕ) → nat_lt p 2 ≡ (nat_lt p 3 && is_in (outward program) p)
outward_so zero = refl
outward_so (suc zero) = refl
outward_so (suc (suc zero)) = refl
outward_so (suc (suc (suc p))) =
    beyond (nat_lt (suc (suc (suc p))) 2) (nat_lt (suc (suc (suc p))) 3) _ (grind (arith, nat_tests)) (grind (arith, nat_tests))

resized_so : (v : ℕ) → nat_eq v 1 ≡ (nat_lt v 6 && is_in (resized program) v)
resized_so zero = refl
resized_so (suc zero) = refl
resized_so (suc (suc zero)) = refl
resized_so (suc (suc (suc zero))) = refl
resized_so (suc (suc (suc (suc zero)))) = refl
resized_so (suc (suc (suc (suc (suc zero))))) = refl
resized_so (suc (suc (suc (suc (suc (suc v)))))) =
    beyond (nat_eq (suc (suc (suc (suc (suc (suc v)))))) 1) (nat_lt (suc (suc (suc (suc (suc (suc v)))))) 6) _ (grind (arith, nat_tests))
    (grind (arith, nat_tests))

sample_facts_are : AreFacts program sample_known
sample_facts_are = record {
  outward_are = leads_as sample_known.outward (count_procedures program) (calls program) (outward program) outward_so refl;
  touched_are = λ v. refl;
  resized_are = leads_as sample_known.resized (count_variables program) (passes program) (resized program) resized_so refl;
  unplain_are = λ p. refl;
}

-- m is a quiet parameter, and n isn't
m_is_quiet : is_quiet program.declarations sample.known 4 ≡ true
m_is_quiet = refl

n_is_loud : is_quiet program.declarations sample.known 3 ≡ false
n_is_loud = refl

-- ---- procedures

-- ---- procedures

bodies : (p : ℕ) (s : Site) → site_of program.declarations p ≡ Some s → HasBody program p s
bodies zero s e = at_site (HasBody program 0) _ s e (record { lines = main_lines; are_lines = refl; sources = refl })
bodies (suc zero) s e = at_site (HasBody program 1) _ s e (record { lines = add_lines; are_lines = refl; sources = refl })
bodies (suc (suc zero)) s e = at_site (HasBody program 2) _ s e (record { lines = twice_lines; are_lines = refl; sources = refl })
bodies (suc (suc (suc p))) s e = absurd (not_none e)

homes : (p : ℕ) (s : Site) → site_of program.declarations p ≡ Some s → HasHome sample s
homes zero s e = at_site (HasHome sample) _ s e refl
homes (suc zero) s e = at_site (HasHome sample) _ s e refl
homes (suc (suc zero)) s e = at_site (HasHome sample) _ s e refl
homes (suc (suc (suc p))) s e = absurd (not_none e)

-- ---- arrays that are made anew

extent_fits : (d : ℕ) (x : Extent) → slice_get ((None, number 2) ∷ []) d ≡ Some x → FitsExtent sample 0 (whole 0 1) d x
extent_fits zero x e = subst (FitsExtent sample 0 (whole 0 1) 0) (some_same (None, number 2) x e) (λ h. refl)
extent_fits (suc d) x e = absurd (not_none e)

abbrev anew : Resize
anew = record { array = whole 0 1; extents = (None, number 2) ∷ [] }

anew_fits : (r : Resize) → Among (anew ∷ []) r → FitsResize sample 0 r
anew_fits r (inl e) = subst (FitsResize sample 0) e (record { rank = refl; extents = extent_fits })
anew_fits r (inr h) = absurd h

at_line : (p : ℕ) (x y : Line) → Some x ≡ Some y → FitsLine sample p x → FitsLine sample p y
at_line p x y e h = subst (FitsLine sample p) (some_same x y e) h

no_resize : (p : ℕ) (x y : Line) → Some x ≡ Some y → is_still x ≡ true → FitsLine sample p y
no_resize p x y e still = at_line p x y e (still_fits sample p x still)

resizes : (p k : ℕ) (l : Line) → nth_line (lines_at program p) (suc k) ≡ Some l → FitsLine sample p l
resizes zero zero l e = no_resize 0 _ l e refl
resizes zero (suc zero) l e = at_line 0 _ l e (λ r c s. anew_fits r (among (anew ∷ []) r c))
resizes zero (suc (suc zero)) l e = no_resize 0 _ l e refl
resizes zero (suc (suc (suc zero))) l e = no_resize 0 _ l e refl
resizes zero (suc (suc (suc (suc zero)))) l e = no_resize 0 _ l e refl
resizes zero (suc (suc (suc (suc (suc zero))))) l e = no_resize 0 _ l e refl
resizes zero (suc (suc (suc (suc (suc (suc zero)))))) l e = no_resize 0 _ l e refl
resizes zero (suc (suc (suc (suc (suc (suc (suc zero))))))) l e = no_resize 0 _ l e refl
resizes zero (suc (suc (suc (suc (suc (suc (suc (suc zero)))))))) l e = no_resize 0 _ l e refl
resizes zero (suc (suc (suc (suc (suc (suc (suc (suc (suc zero))))))))) l e = no_resize 0 _ l e refl
resizes zero (suc (suc (suc (suc (suc (suc (suc (suc (suc (suc zero)))))))))) l e = no_resize 0 _ l e refl
resizes zero (suc (suc (suc (suc (suc (suc (suc (suc (suc (suc (suc zero))))))))))) l e = no_resize 0 _ l e refl
resizes zero (suc (suc (suc (suc (suc (suc (suc (suc (suc (suc (suc (suc zero)))))))))))) l e = no_resize 0 _ l e refl
resizes zero (suc (suc (suc (suc (suc (suc (suc (suc (suc (suc (suc (suc (suc zero))))))))))))) l e = no_resize 0 _ l e refl
resizes zero (suc (suc (suc (suc (suc (suc (suc (suc (suc (suc (suc (suc (suc (suc zero)))))))))))))) l e = no_resize 0 _ l e refl
resizes zero (suc (suc (suc (suc (suc (suc (suc (suc (suc (suc (suc (suc (suc (suc (suc k))))))))))))))) l e = absurd (not_none e)
resizes (suc zero) zero l e = no_resize 1 _ l e refl
resizes (suc zero) (suc k) l e = absurd (not_none e)
resizes (suc (suc zero)) zero l e = no_resize 2 _ l e refl
resizes (suc (suc zero)) (suc k) l e = absurd (not_none e)
resizes (suc (suc (suc p))) k l e = absurd (not_none e)

no_head : (p : ℕ) → has (head_set sample_facts p) 7 ≡ false
unfolding has none
no_head p = refl

pub sample_is_written : IsWritten sample
sample_is_written = record {
  known = sample_facts_are;
  is_written = refl;
  parts = no_parts program.declarations refl;
  firsts = no_firsts program.declarations refl;
  bodies = bodies;
  forms = λ p s e i l a b. refl;
  fits = λ p k l e u. uses_fit sample refl p k l e;
  resizes = λ p k l e u. resizes p k l e;
  ranks = λ v x e rank at ty f. one_rank program.declarations.vars refl v x e rank at ty;
  dimensions = λ h v a e. one_not e;
  arrays = none_hold program.declarations is_array_type refl;
  made = none_hold program.declarations is_made_type refl;
  named = all_named program.declarations.vars refl;
  apart = λ p x e k h. unshaped sample_facts x.first.0 0 program.declarations.procs no_head;
  homes = homes;
}

-- ---- clean and covered

pub sample_is_clean : (p : ℕ) → IsClean program sample.facts.marks p
unfolding has none
sample_is_clean = all_clean program refl

-- Main reaches itself, Add and Twice
pub main_is_covered : IsCovered program 0
main_is_covered q chain = led_on (covers_procedure program) (within (count_procedures program) (calls program)) 0 q refl refl chain
