-- A walk with the heads of the open blocks finds the sets of the rows.
use Rattle.std.proofs.Common.{◌≡◌, ℕ, zero, suc, ◌+◌, Bool, true, false, cond, List, [], ◌∷◌, ◌++◌, map, length, take, Option, Some, None, refl, ap, sym, ◌∙◌, arith}
use Rattle.std.specs.Prelude.{◌||◌, ◌-◌}
use Rattle.vb_tree.specs.declared.declared.ProcKind.{ProcKind}
use Rattle.vb_tree.specs.Tree as vb
use Rattle.bound_tree.specs.declared.rule_set.RuleSet.{RuleSet}
use Rattle.bound_tree.specs.Labels.{Label, is_same_label, is_label, label_in, labels, first_at, label_at}
use Rattle.bound_tree.specs.RuleSets.{none, with_if}
use Rattle.bound_tree.specs.Targets.{Step, step_of, steps, heads_behind, heads_through, heads_round}
use Rattle.bound_tree.specs.Tree.{Line, Procedure, Declarations}
use Rattle.bound_facts.specs.Facts.{is_resumable}
use Rattle.error_handlers.specs.Heads.{breaks_head}
use Rattle.error_handlers.specs.Jumps.{Head, aim, enters, enters_at, jumps_into, leaves_nothing}
use Rattle.error_handlers.specs.Rows.{Home, sources, kind_of, home_of, rules_of, rules_from, body_rules}
use Rattle.error_handlers.specs.Walks.{Mark, marked, marks_along, first_mark, enters_heads, enters_mark, breaks_by, rules_by, rules_along}

-- ---- the heads round a line

through_more : (ss : List Step) (s : Step) (n : ℕ) (heads : List Head) → heads_through (ss ++ s ∷ []) n heads ≡ heads_behind s (length ss + n) (heads_through ss n heads)
through_more [] s n heads = let here : n ≡ 0 + n = omega (arith) in ap (λ k. heads_behind s k heads) here
through_more (t ∷ ss) s n heads =
    let next : length ss + suc n ≡ length (t ∷ ss) + n = omega (arith) in
    through_more ss s (suc n) (heads_behind t n heads) ∙ ap (λ k. heads_behind s k (heads_through ss (suc n) (heads_behind t n heads))) next

take_done : (done rest : List Step) → take (length done) (done ++ rest) ≡ done
take_done [] rest = refl
take_done (d ∷ done) rest = ap (λ (ss : List Step). d ∷ ss) (take_done done rest)

length_more : (done : List Step) (s : Step) → length (done ++ s ∷ []) ≡ suc (length done)
length_more [] s = refl
length_more (d ∷ done) s = ap suc (length_more done s)

joined_more : (done : List Step) (s : Step) (rest : List Step) → done ++ s ∷ rest ≡ (done ++ s ∷ []) ++ rest
joined_more [] s rest = refl
joined_more (d ∷ done) s rest = ap (λ (ss : List Step). d ∷ ss) (joined_more done s rest)

less_one : (n : ℕ) → suc n - 1 ≡ n
less_one n = omega (arith)

-- where a walk over lines of a procedure is: behind n lines and before these, with these heads open
pub record At (all : List vb.Line) (n : ℕ) (heads : List Head) (lines : List Line) : Type 0 where
  pub done : List Step
  pub number : n ≡ length done
  pub opened : heads ≡ heads_through done 1 []
  pub whole : steps all ≡ done ++ steps (sources lines)

next_at : (all : List vb.Line) (n : ℕ) (heads : List Head) (l : Line) (lines : List Line) → At all n heads (l ∷ lines) → At all (suc n) (heads_behind (step_of l.source.form) (suc n) heads) lines
next_at all n heads l lines at =
    let s = step_of l.source.form in
    let k = length at.done in
    let one : suc k ≡ k + 1 = omega (arith) in
    record {
      done = at.done ++ s ∷ [];
      number = ap suc at.number ∙ sym (length_more at.done s);
      opened =
          ap (λ m. heads_behind s m heads) (ap suc at.number ∙ one) ∙ ap (heads_behind s (k + 1)) at.opened
          ∙ sym (through_more at.done s 1 []);
      whole = at.whole ∙ joined_more at.done s (steps (sources lines));
    }

round_at : (all : List vb.Line) (n : ℕ) (heads : List Head) (lines : List Line) → At all n heads lines → heads_round (steps all) (suc n) ≡ heads
round_at all n heads lines at =
    ap (λ m. heads_round (steps all) (suc m)) at.number
    ∙ ap (λ m. heads_through (take m (steps all)) 1 []) (less_one (length at.done))
    ∙ ap (λ ss. heads_through (take (length at.done) ss) 1 []) at.whole
    ∙ ap (λ ss. heads_through ss 1 []) (take_done at.done (steps (sources lines))) ∙ sym at.opened

-- ---- labels

found_same : (all : List vb.Line) (from : List Head) (n : ℕ) (heads : List Head) (same : Bool) (marks : List Mark) (a : Label) (more : Option ℕ)
    → heads_round (steps all) (suc n) ≡ heads → enters_heads from (first_mark a marks) ≡ enters_at all from more
    → enters_heads from (cond same (Some heads) (first_mark a marks)) ≡ enters_at all from (cond same (Some (suc n)) more)
found_same all from n heads true marks a more r h = ap (enters from) (sym r)
found_same all from n heads false marks a more r h = h

found_one : (all : List vb.Line) (from : List Head) (n : ℕ) (heads : List Head) (o : Option Label) (marks : List Mark) (a : Label) (more : Option ℕ)
    → heads_round (steps all) (suc n) ≡ heads → enters_heads from (first_mark a marks) ≡ enters_at all from more
    → enters_heads from (first_mark a (marked o heads ++ marks)) ≡ enters_at all from (cond (is_label a o) (Some (suc n)) more)
found_one all from n heads None marks a more r h = h
found_one all from n heads (Some b) marks a more r h = found_same all from n heads (is_same_label a b) marks a more r h

found_at : (all : List vb.Line) (from : List Head) (a : Label) (n : ℕ) (heads : List Head) (lines : List Line) → At all n heads lines
    → enters_heads from (first_mark a (marks_along n heads lines)) ≡ enters_at all from (first_at a (labels (sources lines)) (suc n))
found_at all from a n heads [] at = refl
found_at all from a n heads (l ∷ lines) at =
    let s = step_of l.source.form in
    found_one all from n heads (label_in l.source.form) (marks_along (suc n) (heads_behind s (suc n) heads) lines) a (first_at a (labels (sources lines)) (suc (suc n)))
    (round_at all n heads (l ∷ lines) at) (found_at all from a (suc n) (heads_behind s (suc n) heads) lines (next_at all n heads l lines at))

begin : (lines : List Line) → At (sources lines) 0 [] lines
begin lines = record { done = []; number = refl; opened = refl; whole = refl }

found : (lines : List Line) (from : List Head) (o : Option Label) → enters_mark (marks_along 0 [] lines) from o ≡ jumps_into (sources lines) from o
found lines from None = refl
found lines from (Some a) = found_at (sources lines) from a 0 [] lines (begin lines)

-- ---- sets

rules_at : (D : Declarations) (home : Home) (marks : List Mark) → ((from : List Head) (o : Option Label) → enters_mark marks from o ≡ jumps_into home.lines from o)
    → (n : ℕ) (heads : List Head) (lines : List Line) → At home.lines n heads lines
    → rules_along D home.kind home.resumable marks n heads lines ≡ rules_from D home (suc n) lines
rules_at D home marks h n heads [] at = refl
rules_at D home marks h n heads (l ∷ lines) at =
    let f = l.source.form in
    let rest = rules_along D home.kind home.resumable marks (suc n) (heads_behind (step_of f) (suc n) heads) lines in
    let jump : (hs : List Head) → RuleSet = λ hs. with_if (with_if none 14 (breaks_head D home.resumable l)) 15 (jumps_into home.lines hs (aim f) || leaves_nothing home.kind hs f) in
    ap (λ b. with_if (with_if none 14 (breaks_head D home.resumable l)) 15 (b || leaves_nothing home.kind heads f) ∷ rest) (h heads (aim f))
    ∙ ap (λ hs. jump hs ∷ rest) (sym (round_at home.lines n heads (l ∷ lines) at))
    ∙ ap (λ sets. rules_of D home (suc n) l ∷ sets)
    (rules_at D home marks h (suc n) (heads_behind (step_of f) (suc n) heads) lines (next_at home.lines n heads l lines at))

pub along_is : (D : Declarations) (p : Option Procedure) (lines : List Line)
    → rules_along D (kind_of p) (is_resumable lines) (marks_along 0 [] lines) 0 [] lines ≡ body_rules D p lines
along_is D p lines = rules_at D (home_of p lines) (marks_along 0 [] lines) (found lines) 0 [] lines (begin lines)
