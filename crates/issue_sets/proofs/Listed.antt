-- The issues that are found are those that marks are.
use Rattle.std.proofs.Common.{◌≡◌, ℕ, zero, suc, ◌+◌, true, List, [], ◌∷◌, ◌++◌, refl, ap, sym, subst, ◌∙◌, arith, inl, inr, ⊎_elim, Some, None}
use Rattle.std.specs.Prelude.{slice_get, Option, ◌↔◌}
use Rattle.std.specs.List.{Contains}
use Rattle.up_base.specs.Issues.{are_ascending}
use Rattle.up_base.specs.declared.issue.Issue.{Issue}
use Rattle.up_base.specs.declared.place.Place.{Place}
use Rattle.bound_tree.specs.declared.marks.Marks.{Marks}
use Rattle.bound_tree.specs.declared.rule_set.RuleSet.{RuleSet}
use Rattle.bound_tree.specs.RuleSets.{has, rule_numbers}
use Rattle.bound_tree.specs.Tree.{Program}
use Rattle.issue_sets.specs.Found.{all_issues, groups_from, issue_at, issues_at, issues_from, pass_issues, set_issues}
use Rattle.issue_sets.specs.Marked.{AreIssues, Carrier, code_line, head, variable, constant, user_type, enum_head, HasRule, IsMarked, IsMarkedBySome, at_two, or_empty, place_of, set_of}
use Rattle.issue_sets.specs.Places.{Places, places_of}
use Rattle.issue_sets.proofs.Among.{Among, among, contains, among_append, among_left, among_right, among_flat, flat_among, pick, picked}

-- ---- one set at a place

set_has : (place : Place) (set : RuleSet) (x : Issue) → Among (set_issues place set) x → (place ≡ x.place) × HasRule set x.rule
set_has place set x h =
    let q = picked (issue_at place) (has set) rule_numbers x h in
    let rule = ap (λ (i : Issue). i.rule) q.3 in (
      ap (λ (i : Issue). i.place) q.3,
      record { is_rule = contains rule_numbers x.rule (subst (λ n. Among rule_numbers n) rule q.1); broken = ap (has set) (sym rule) ∙ q.2 },
    )

has_set : (place : Place) (set : RuleSet) (x : Issue) → place ≡ x.place → HasRule set x.rule → Among (set_issues place set) x
has_set place set x e h =
    subst (λ (y : Issue). Among (set_issues place set) y) (ap (λ (p : Place). issue_at p x.rule) e)
    (pick (issue_at place) (has set) rule_numbers x.rule (among rule_numbers x.rule h.is_rule) h.broken)

abbrev SetAt : Option RuleSet → Issue → Type 0
SetAt o x = (set : RuleSet) × (o ≡ Some set) × HasRule set x.rule

at_has : (place : Place) (o : Option RuleSet) (x : Issue) → Among (issues_at place o) x → (place ≡ x.place) × SetAt o x
at_has place None x h = absurd h
at_has place (Some set) x h = let s = set_has place set x h in (s.0, (set, refl, s.1))

some_same : {X : Type 0} (x y : X) → Some x ≡ Some y → x ≡ y
some_same x y e = cc e

has_at : (place : Place) (o : Option RuleSet) (set : RuleSet) (x : Issue) → place ≡ x.place → o ≡ Some set → HasRule set x.rule → Among (issues_at place o) x
has_at place None set x e h r = absurd (cc h)
has_at place (Some s) set x e h r = has_set place s x e (subst (λ (t : RuleSet). HasRule t x.rule) (sym (some_same s set h)) r)

-- ---- sets beside places, by their numbers

abbrev OneAt : List RuleSet → ℕ → List Place → Issue → Type 0
OneAt sets i places x = (k : ℕ) × (set : RuleSet) × (slice_get places k ≡ Some x.place) × (slice_get sets (i + k) ≡ Some set) × HasRule set x.rule

from_has : (sets : List RuleSet) (i : ℕ) (places : List Place) (x : Issue) → Among (issues_from sets i places) x → OneAt sets i places x
from_has sets i [] x h = absurd h
from_has sets i (p ∷ places) x h = ⊎_elim
    (λ l. let o = at_has p (slice_get sets i) x l in (0, o.1.0, ap Some o.0, ap (slice_get sets) (let e : i + 0 ≡ i = omega arith in e) ∙ o.1.1, o.1.2))
    (λ r. let o = from_has sets (suc i) places x r in (suc o.0, o.1, o.2, ap (slice_get sets) (let e : i + suc o.0 ≡ suc i + o.0 = omega arith in e) ∙ o.3, o.4))
    (among_append (issues_at p (slice_get sets i)) (issues_from sets (suc i) places) x h)

has_from : (sets : List RuleSet) (i : ℕ) (places : List Place) (k : ℕ) (set : RuleSet) (x : Issue)
    → slice_get places k ≡ Some x.place → slice_get sets (i + k) ≡ Some set → HasRule set x.rule → Among (issues_from sets i places) x
has_from sets i [] k set x e h r = absurd (cc e)
has_from sets i (p ∷ places) zero set x e h r =
    among_left (issues_at p (slice_get sets i)) (issues_from sets (suc i) places) x
    (has_at p (slice_get sets i) set x (some_same p x.place e) (ap (slice_get sets) (let q : i ≡ i + 0 = omega arith in q) ∙ h) r)
has_from sets i (p ∷ places) (suc k) set x e h r =
    among_right (issues_at p (slice_get sets i)) (issues_from sets (suc i) places) x
    (has_from sets (suc i) places k set x e (ap (slice_get sets) (let q : suc i + k ≡ i + suc k = omega arith in q) ∙ h) r)

abbrev TwoAt : List (List RuleSet) → ℕ → List (List Place) → Issue → Type 0
TwoAt sets i groups x = (g k : ℕ) × (set : RuleSet) × (at_two groups g k ≡ Some x.place) × (at_two sets (i + g) k ≡ Some set) × HasRule set x.rule

groups_have : (sets : List (List RuleSet)) (i : ℕ) (groups : List (List Place)) (x : Issue) → Among (groups_from sets i groups) x → TwoAt sets i groups x
groups_have sets i [] x h = absurd h
groups_have sets i (ps ∷ groups) x h = ⊎_elim
    (λ l. let o = from_has (or_empty (slice_get sets i)) 0 ps x l in
    (0, o.0, o.1, o.2, ap (λ n. at_two sets n o.0) (let e : i + 0 ≡ i = omega arith in e) ∙ ap (slice_get (or_empty (slice_get sets i))) (let e : o.0 ≡ 0 + o.0 = omega arith in e) ∙ o.3, o.4))
    (λ r. let o = groups_have sets (suc i) groups x r in (suc o.0, o.1, o.2, o.3, ap (λ n. at_two sets n o.1) (let e : i + suc o.0 ≡ suc i + o.0 = omega arith in e) ∙ o.4, o.5))
    (among_append (issues_from (or_empty (slice_get sets i)) 0 ps) (groups_from sets (suc i) groups) x h)

have_groups : (sets : List (List RuleSet)) (i : ℕ) (groups : List (List Place)) (g k : ℕ) (set : RuleSet) (x : Issue)
    → at_two groups g k ≡ Some x.place → at_two sets (i + g) k ≡ Some set → HasRule set x.rule → Among (groups_from sets i groups) x
have_groups sets i [] g k set x e h r = absurd (cc e)
have_groups sets i (ps ∷ groups) zero k set x e h r =
    among_left (issues_from (or_empty (slice_get sets i)) 0 ps) (groups_from sets (suc i) groups) x
    (has_from (or_empty (slice_get sets i)) 0 ps k set x e (ap (slice_get (or_empty (slice_get sets i))) (let q : 0 + k ≡ k = omega arith in q) ∙ ap (λ n. at_two sets n k) (let q : i ≡ i + 0 = omega arith in q) ∙ h) r)
have_groups sets i (ps ∷ groups) (suc g) k set x e h r =
    among_right (issues_from (or_empty (slice_get sets i)) 0 ps) (groups_from sets (suc i) groups) x
    (have_groups sets (suc i) groups g k set x e (ap (λ n. at_two sets n k) (let q : suc i + g ≡ i + suc g = omega arith in q) ∙ h) r)

-- ---- one pass

-- what is found among sets beside places, where the carriers of these numbers have them
of_list : (p : Places) (m : Marks) (x : Issue) (sets : List RuleSet) (places : List Place) (carrier : ℕ → Carrier)
    → ((k : ℕ) → place_of p (carrier k) ≡ slice_get places k) → ((k : ℕ) → set_of m (carrier k) ≡ slice_get sets k)
    → Among (issues_from sets 0 places) x → IsMarked p m x
of_list p m x sets places carrier place_is set_is h =
    let o = from_has sets 0 places x h in
    record {
      carrier = carrier o.0;
      set = o.1;
      placed = place_is o.0 ∙ o.2;
      held = set_is o.0 ∙ ap (slice_get sets) (let e : o.0 ≡ 0 + o.0 = omega arith in e) ∙ o.3;
      broken = o.4;
    }

of_lines : (p : Places) (m : Marks) (x : Issue) → Among (groups_from m.lines 0 p.lines) x → IsMarked p m x
of_lines p m x h =
    let o = groups_have m.lines 0 p.lines x h in
    record {
      carrier = code_line o.0 o.1;
      set = o.2;
      placed = o.3;
      held = ap (λ n. at_two m.lines n o.1) (let e : o.0 ≡ 0 + o.0 = omega arith in e) ∙ o.4;
      broken = o.5;
    }

-- what stands behind each list of a pass
abbrev types_on : Places → Marks → List Issue
types_on p m = issues_from m.types 0 p.types ++ issues_from m.enums 0 p.enums

abbrev consts_on : Places → Marks → List Issue
consts_on p m = issues_from m.consts 0 p.consts ++ types_on p m

abbrev vars_on : Places → Marks → List Issue
vars_on p m = issues_from m.vars 0 p.vars ++ consts_on p m

abbrev heads_on : Places → Marks → List Issue
heads_on p m = issues_from m.heads 0 p.heads ++ vars_on p m

of_types : (p : Places) (m : Marks) (x : Issue) → Among (issues_from m.types 0 p.types ++ issues_from m.enums 0 p.enums) x → IsMarked p m x
of_types p m x h = ⊎_elim
    (of_list p m x m.types p.types user_type (λ k. refl) (λ k. refl)) (of_list p m x m.enums p.enums enum_head (λ k. refl) (λ k. refl))
    (among_append (issues_from m.types 0 p.types) (issues_from m.enums 0 p.enums) x h)

of_consts : (p : Places) (m : Marks) (x : Issue) → Among (consts_on p m) x → IsMarked p m x
of_consts p m x h = ⊎_elim (of_list p m x m.consts p.consts constant (λ k. refl) (λ k. refl)) (of_types p m x) (among_append (issues_from m.consts 0 p.consts) (types_on p m) x h)

of_vars : (p : Places) (m : Marks) (x : Issue) → Among (vars_on p m) x → IsMarked p m x
of_vars p m x h = ⊎_elim (of_list p m x m.vars p.vars variable (λ k. refl) (λ k. refl)) (of_consts p m x) (among_append (issues_from m.vars 0 p.vars) (consts_on p m) x h)

of_heads : (p : Places) (m : Marks) (x : Issue) → Among (heads_on p m) x → IsMarked p m x
of_heads p m x h = ⊎_elim (of_list p m x m.heads p.heads head (λ k. refl) (λ k. refl)) (of_vars p m x) (among_append (issues_from m.heads 0 p.heads) (vars_on p m) x h)

pass_has : (p : Places) (m : Marks) (x : Issue) → Among (pass_issues p m) x → IsMarked p m x
pass_has p m x h = ⊎_elim (of_lines p m x) (of_heads p m x) (among_append (groups_from m.lines 0 p.lines) (heads_on p m) x h)

zero_plus : {X : Type 0} (xs : List X) (k : ℕ) (o : Option X) → slice_get xs k ≡ o → slice_get xs (0 + k) ≡ o
zero_plus xs k o h = ap (slice_get xs) (let e : 0 + k ≡ k = omega arith in e) ∙ h

in_heads : (p : Places) (m : Marks) (x : Issue) → Among (heads_on p m) x → Among (pass_issues p m) x
in_heads p m x h = among_right (groups_from m.lines 0 p.lines) (heads_on p m) x h

in_vars : (p : Places) (m : Marks) (x : Issue) → Among (vars_on p m) x → Among (pass_issues p m) x
in_vars p m x h = in_heads p m x (among_right (issues_from m.heads 0 p.heads) (vars_on p m) x h)

in_consts : (p : Places) (m : Marks) (x : Issue) → Among (consts_on p m) x → Among (pass_issues p m) x
in_consts p m x h = in_vars p m x (among_right (issues_from m.vars 0 p.vars) (consts_on p m) x h)

in_types : (p : Places) (m : Marks) (x : Issue) → Among (types_on p m) x → Among (pass_issues p m) x
in_types p m x h = in_consts p m x (among_right (issues_from m.consts 0 p.consts) (types_on p m) x h)

has_pass : (p : Places) (m : Marks) (x : Issue) (c : Carrier) (set : RuleSet) → place_of p c ≡ Some x.place → set_of m c ≡ Some set → HasRule set x.rule → Among (pass_issues p m) x
has_pass p m x (code_line i k) set e h r =
    among_left (groups_from m.lines 0 p.lines) (heads_on p m) x (have_groups m.lines 0 p.lines i k set x e (ap (λ n. at_two m.lines n k) (let q : 0 + i ≡ i = omega arith in q) ∙ h) r)
has_pass p m x (head k) set e h r =
    in_heads p m x (among_left (issues_from m.heads 0 p.heads) (vars_on p m) x (has_from m.heads 0 p.heads k set x e (zero_plus m.heads k (Some set) h) r))
has_pass p m x (variable k) set e h r =
    in_vars p m x (among_left (issues_from m.vars 0 p.vars) (consts_on p m) x (has_from m.vars 0 p.vars k set x e (zero_plus m.vars k (Some set) h) r))
has_pass p m x (constant k) set e h r =
    in_consts p m x (among_left (issues_from m.consts 0 p.consts) (types_on p m) x (has_from m.consts 0 p.consts k set x e (zero_plus m.consts k (Some set) h) r))
has_pass p m x (user_type k) set e h r =
    in_types p m x (among_left (issues_from m.types 0 p.types) (issues_from m.enums 0 p.enums) x (has_from m.types 0 p.types k set x e (zero_plus m.types k (Some set) h) r))
has_pass p m x (enum_head k) set e h r =
    in_types p m x (among_right (issues_from m.types 0 p.types) (issues_from m.enums 0 p.enums) x (has_from m.enums 0 p.enums k set x e (zero_plus m.enums k (Some set) h) r))

-- ---- all passes, and further issues

all_have : (p : Places) (ms : List Marks) (x : Issue) → Among (all_issues p ms) x → IsMarkedBySome p ms x
all_have p ms x h =
    let o = among_flat (pass_issues p) ms x h in
    record { one = o.0; stands = contains ms o.0 o.1; marked = pass_has p o.0 x o.2 }

have_all : (p : Places) (ms : List Marks) (x : Issue) → IsMarkedBySome p ms x → Among (all_issues p ms) x
have_all p ms x b = flat_among (pass_issues p) ms b.one x (among ms b.one b.stands) (has_pass p b.one x b.marked.carrier b.marked.set b.marked.placed b.marked.held b.marked.broken)

pub are_issues : (P : Program) (ms : List Marks) (further found issues : List Issue) → found ≡ further ++ all_issues (places_of P) ms → are_ascending issues ≡ true
    → ((x : Issue) → Contains issues x ↔ Contains found x) → AreIssues P ms further issues
are_issues P ms further found issues is ascending same = record {
  ascending = ascending;
  are = λ x. (
    (λ h. ⊎_elim (λ l. inr (contains further x l)) (λ r. inl (all_have (places_of P) ms x r))
        (among_append further (all_issues (places_of P) ms) x (subst (λ (xs : List Issue). Among xs x) is (among found x ((same x).0 h))))),
    (λ h. (same x).1 (contains found x (subst (λ (xs : List Issue). Among xs x) (sym is)
        (⊎_elim (λ m. among_right further (all_issues (places_of P) ms) x (have_all (places_of P) ms x m)) (λ f. among_left further (all_issues (places_of P) ms) x (among further x f)) h)))),
  );
}
