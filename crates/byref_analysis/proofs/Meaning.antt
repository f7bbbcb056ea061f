-- What the flags and the sets of the rows mean, and that a project determines them.
use Rattle.std.proofs.Common.{◌≡◌, ℕ, zero, suc, ◌+◌, ◌<◌, Bool, true, false, cond, List, [], ◌∷◌, Option, Some, None, length, refl, sym, ap, ◌∙◌, nat_eq, arith}
use Rattle.std.specs.Prelude.{◌||◌, ◌&&◌, not, IsTrue, slice_get}
use Rattle.std.proofs.lemmas.Bool.{eqb-true}
use mathlib.Core.Path.{fun_ext}
use Rattle.reach_table.specs.Chains.{is_marked}
use Rattle.vb_tree.specs.declared.declared.Owner.{Owner}
use Rattle.vb_tree.specs.declared.declared.Owner.TheVariants as owner
use Rattle.bound_tree.specs.declared.facts.RefFacts.{RefFacts}
use Rattle.bound_tree.specs.RuleSets.{has, none, with_if}
use Rattle.bound_tree.proofs.RuleLaws.{has_none, has_with_if}
use Rattle.bound_tree.specs.Tree.{Expr, Line, Variable, Procedure, Declarations, Program}
use Rattle.bound_facts.specs.Facts.{Known, AreFacts, IsInward, ReachesOutward, acts, is_quiet, is_quiet_owner, is_quiet_variable, stirs}
use Rattle.byref_analysis.specs.Arguments.{breaks_arguments}
use Rattle.byref_analysis.specs.Order.{breaks_order}
use Rattle.byref_analysis.specs.Properties.{breaks_head}
use Rattle.byref_analysis.specs.Quiet.{AreInward, inward_flags, inward_from, quiet_flags}
use Rattle.byref_analysis.specs.Rows.{AreFound, breaks, head_rules, heads_rules, lines_rules, rules_of}
use Rattle.byref_analysis.specs.Tests.{Tells}

-- ---- the flag of an inward procedure

is_false : (b : Bool) → (b ≡ true → ⊥) → b ≡ false
is_false true never = absurd (never refl)
is_false false never = refl

by_test : (P : Program) (p : ℕ) (out : Bool) → (IsTrue out → ReachesOutward P p) × (ReachesOutward P p → IsTrue out) → (IsTrue (not out) → IsInward P p) × (IsInward P p → IsTrue (not out))
by_test P p true h = ((λ e. absurd (cc e)), (λ all. absurd (let o = h.0 refl in let e = sym o.1 ∙ all o.0 o.2 in cc e)))
by_test P p false h = ((λ e q r. is_false (acts P q) (λ d. let k = h.1 (q, d, r) in absurd (cc k))), (λ all. refl))

marked_from : (outward : ℕ → Bool) (i : ℕ) (ps : List Procedure) (k : ℕ) → k < length ps → is_marked (inward_from outward i ps) k ≡ not (outward (k + i))
marked_from outward i [] k h = absurd (omega (arith, h))
marked_from outward i (p ∷ ps) zero h = let here : i ≡ 0 + i = omega (arith) in ap (λ n. not (outward n)) here
marked_from outward i (p ∷ ps) (suc k) h =
    let next : k + suc i ≡ suc k + i = omega (arith) in
    marked_from outward (suc i) ps k (omega (arith, h)) ∙ ap (λ n. not (outward n)) next

marked : (outward : ℕ → Bool) (ps : List Procedure) (k : ℕ) → k < length ps → is_marked (inward_flags outward ps) k ≡ not (outward k)
marked outward ps k h = let same : k + 0 ≡ k = omega (arith) in marked_from outward 0 ps k h ∙ ap (λ n. not (outward n)) same

as_long : (outward : ℕ → Bool) (i : ℕ) (ps : List Procedure) → length (inward_from outward i ps) ≡ length ps
as_long outward i [] = refl
as_long outward i (p ∷ ps) = ap suc (as_long outward (suc i) ps)

by_flag : (P : Program) (p : ℕ) (flag out : Bool) → flag ≡ not out → (IsTrue out → ReachesOutward P p) × (ReachesOutward P p → IsTrue out) → (IsTrue flag → IsInward P p) × (IsInward P p → IsTrue flag)
by_flag P p flag out e h = let t = by_test P p out h in ((λ f. t.0 (sym e ∙ f)), (λ all. e ∙ t.1 all))

pub are_inward : (P : Program) (F : Known) → Tells P F → AreInward P (inward_flags F.outward P.declarations.procs)
are_inward P F tells = record {
  len = as_long F.outward 0 P.declarations.procs;
  each = λ p low. by_flag P p (is_marked (inward_flags F.outward P.declarations.procs) p) (F.outward p) (marked F.outward P.declarations.procs p low) (tells.outward_are p);
}

-- ---- the sets

or_false : (b : Bool) → (b || false) ≡ b
or_false true = refl
or_false false = refl

two_tests : (e t : Bool) → (a b : Bool) → (e ≡ true → t ≡ false) → (cond t b false || (cond e a false || false)) ≡ cond e a (cond t b false)
two_tests true true a b h = absurd (cc (h refl))
two_tests true false true b h = refl
two_tests true false false b h = refl
two_tests false true a true h = refl
two_tests false true a false h = refl
two_tests false false a b h = refl

not_both : (n : ℕ) → nat_eq n 8 ≡ true → nat_eq n 26 ≡ false
not_both n h = rw (eqb-true n 8 h) refl

pub has_rules_of : (D : Declarations) (quiet : ℕ → Bool) (stirring : Expr → Bool) (l : Line) (rule : ℕ)
    → has (rules_of D quiet stirring l) rule ≡ breaks D quiet stirring l rule
has_rules_of D quiet stirring l rule =
    let a = breaks_arguments D.procs quiet stirring l in
    let b = breaks_order D stirring l in
    has_with_if (with_if none 8 a) 26 rule b
    ∙ ap (λ h. cond (nat_eq rule 26) b false || h) (has_with_if none 8 rule a ∙ ap (λ h. cond (nat_eq rule 8) a false || h) (has_none rule))
    ∙ two_tests (nat_eq rule 8) (nat_eq rule 26) a b (not_both rule)

pub has_head_rules : (opens : ℕ → Bool) (p : Procedure) (rule : ℕ) → has (head_rules opens p) rule ≡ cond (nat_eq rule 7) (breaks_head opens p) false
has_head_rules opens p rule =
    let a = breaks_head opens p in
    has_with_if none 7 rule a ∙ ap (λ h. cond (nat_eq rule 7) a false || h) (has_none rule) ∙ or_false (cond (nat_eq rule 7) a false)

-- ---- what a project determines

abbrev bare : Known → Known
bare F = record { outward = F.outward; touched = F.touched; resized = λ v. false; unplain = F.unplain }

same_test : {X : Type 0} (a b : Bool) → (IsTrue a → X) × (X → IsTrue a) → (IsTrue b → X) × (X → IsTrue b) → a ≡ b
same_test true true h k = refl
same_test false false h k = refl
same_test true false h k = absurd (let e = k.1 (h.0 refl) in cc e)
same_test false true h k = absurd (let e = h.1 (k.0 refl) in cc e)

same_outward : (P : Program) (F G : Known) → Tells P F → Tells P G → F.outward ≡ G.outward
same_outward P F G f g = fun_ext (λ p. same_test (F.outward p) (G.outward p) (f.outward_are p) (g.outward_are p))

same_bare : (P : Program) (F G : Known) → Tells P F → Tells P G → bare F ≡ bare G
same_bare P F G f g =
    let touched : F.touched ≡ G.touched = fun_ext (λ v. f.touched_are v ∙ sym (g.touched_are v)) in
    let unplain : F.unplain ≡ G.unplain = fun_ext (λ p. f.unplain_are p ∙ sym (g.unplain_are p)) in
    ap (λ (q : ℕ → Bool). record { outward = q; touched = F.touched; resized = λ v. false; unplain = F.unplain }) (same_outward P F G f g)
    ∙ ap (λ (q : ℕ → Bool). record { outward = G.outward; touched = q; resized = λ v. false; unplain = F.unplain }) touched
    ∙ ap (λ (q : ℕ → Bool). record { outward = G.outward; touched = G.touched; resized = λ v. false; unplain = q }) unplain

owner_bare : (F : Known) (o : Owner) → is_quiet_owner F o ≡ is_quiet_owner (bare F) o
owner_bare F (owner.Reference p) = refl
owner_bare F _ = refl

variable_bare : (F : Known) (v : Option Variable) → is_quiet_variable F v ≡ is_quiet_variable (bare F) v
variable_bare F None = refl
variable_bare F (Some v) = owner_bare F v.owner

quiet_bare : (D : Declarations) (F : Known) (w : ℕ) → is_quiet D F w ≡ is_quiet D (bare F) w
quiet_bare D F w = ap (λ b. b && not (F.touched w)) (variable_bare F (slice_get D.vars w))

same_quiet : (D : Declarations) (F G : Known) → bare F ≡ bare G → is_quiet D F ≡ is_quiet D G
same_quiet D F G same = fun_ext (λ w. quiet_bare D F w ∙ ap (λ (K : Known). is_quiet D K w) same ∙ sym (quiet_bare D G w))

same_stirs : (D : Declarations) (F G : Known) → bare F ≡ bare G → stirs D F ≡ stirs D G
same_stirs D F G same = fun_ext (λ e. ap (λ (K : Known). stirs D K e) same)

pub found_by_both : (P : Program) (F G : Known) (f : RefFacts) → Tells P F → Tells P G → AreFound P F f → AreFound P G f
found_by_both P F G f tells tells_too h =
    let D = P.declarations in
    let same = same_bare P F G tells tells_too in
    let quiet = same_quiet D F G same in
    let stirring = same_stirs D F G same in
    record {
      inward = h.inward ∙ ap (λ (q : ℕ → Bool). inward_flags q D.procs) (same_outward P F G tells tells_too);
      quiet = h.quiet ∙ ap (λ (q : ℕ → Bool). quiet_flags q D.procs) quiet;
      lines = h.lines ∙ ap (λ (q : ℕ → Bool). lines_rules P q (stirs D F)) quiet ∙ ap (λ (s : Expr → Bool). lines_rules P (is_quiet D G) s) stirring;
      heads = h.heads ∙ ap (λ (q : ℕ → Bool). heads_rules D q) quiet;
    }

tells_facts : (P : Program) (F : Known) → AreFacts P F → Tells P F
tells_facts P F are = record { outward_are = are.outward_are; touched_are = are.touched_are; unplain_are = are.unplain_are }

-- so what is found by some facts is what the facts of the project tell
pub found_by_facts : (P : Program) (f : RefFacts) → (F : Known) × Tells P F × AreFound P F f → (F : Known) → AreFacts P F → AreFound P F f
found_by_facts P f h G are = found_by_both P h.0 G f h.1 (tells_facts P G are) h.2
