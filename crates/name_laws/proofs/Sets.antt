-- Sets of rules of which none is broken.
use Rattle.std.proofs.Common.{◌≡◌, refl, ap, ◌∙◌, ℕ, suc, nat_eq, Bool, true, false, cond, List, [], ◌∷◌, map, Option, Some, None, slice_get, inl, inr}
use Rattle.std.specs.Prelude.{◌||◌, is_some}
use Rattle.std.specs.List.{list_all, list_any}
use Rattle.std.proofs.lemmas.Bool.{eqb-true}
use Rattle.bound_tree.specs.declared.rule_set.RuleSet.{RuleSet}
use Rattle.bound_tree.specs.RuleSets.{has, none, both, first, is_broken, rule_numbers}
use Rattle.bound_tree.proofs.RuleLaws.{has_none, has_both}
use Rattle.bound_facts.specs.Clean.{set_broken, sets_broken}
use Rattle.written_trees.specs.Facts.{set_at, set_or_none, list_set}
use Rattle.written_trees.specs.Lines.{replaced_by, replacing}
use Rattle.written_trees.specs.Prologues.{union}
use Rattle.run_matches.specs.CleanLines.{broken_in}
use Rattle.name_laws.proofs.Lists.{both_true, none_at, Among}

-- ---- the first number that passes

first_no : (p : ℕ → Bool) → ((n : ℕ) → p n ≡ false) → (ns : List ℕ) → first p ns ≡ None
first_no p fails [] = refl
first_no p fails (n ∷ ns) = ap (λ b. cond b (Some n) (first p ns)) (fails n) ∙ first_no p fails ns

-- where none is found, the head doesn't pass, and none behind it
first_head : (p : ℕ → Bool) (n : ℕ) (ns : List ℕ) → first p (n ∷ ns) ≡ None → (p n ≡ false) × (first p ns ≡ None)
first_head p n ns h = by (p n) refl h
  where
    by : (b : Bool) → p n ≡ b → cond b (Some n) (first p ns) ≡ None → (p n ≡ false) × (first p ns ≡ None)
    by true e k = absurd (cc k)
    by false e k = (e, k)

first_both : (p q r : ℕ → Bool) → ((n : ℕ) → r n ≡ (p n || q n)) → (ns : List ℕ) → first p ns ≡ None → first q ns ≡ None → first r ns ≡ None
first_both p q r are [] a b = refl
first_both p q r are (n ∷ ns) a b =
    let c = first_head p n ns a in
    let d = first_head q n ns b in
    let fails : r n ≡ false = are n ∙ ap (λ t. t || q n) c.0 ∙ d.0 in
    ap (λ t. cond t (Some n) (first r ns)) fails ∙ first_both p q r are ns c.1 d.1

passes_none : (p : ℕ → Bool) (ms : List ℕ) (n : ℕ) → first p ms ≡ None → list_any (nat_eq n) ms ≡ true → p n ≡ false
passes_none p [] n h e = absurd (cc e)
passes_none p (m ∷ ms) n h e = let c = first_head p m ms h in by (nat_eq n m) refl e c.0 (λ k. passes_none p ms n c.1 k)
  where
    by : (b : Bool) → nat_eq n m ≡ b → (b || list_any (nat_eq n) ms) ≡ true → p m ≡ false → (list_any (nat_eq n) ms ≡ true → p n ≡ false) → p n ≡ false
    by true l k fails more = ap p (eqb-true n m l) ∙ fails
    by false l k fails more = more k

-- none of some of the numbers passes
first_some : (p : ℕ → Bool) (ms ns : List ℕ) → first p ms ≡ None → list_all (λ (n : ℕ). list_any (nat_eq n) ms) ns ≡ true → first p ns ≡ None
first_some p ms [] h e = refl
first_some p ms (n ∷ ns) h e =
    let b = both_true (list_any (nat_eq n) ms) (list_all (λ (n : ℕ). list_any (nat_eq n) ms) ns) e in
    ap (λ t. cond t (Some n) (first p ns)) (passes_none p ms n h b.0) ∙ first_some p ms ns h b.1

-- ---- sets

is_none_of : (o : Option ℕ) → is_some o ≡ false → o ≡ None
is_none_of None h = refl
is_none_of (Some n) h = absurd (cc h)

first_broken : (s : RuleSet) → is_broken s ≡ false → first (has s) rule_numbers ≡ None
first_broken s h = is_none_of (first (has s) rule_numbers) h

pub unbroken_none : is_broken none ≡ false
unbroken_none = ap {B = Bool} is_some (first_no (has none) has_none rule_numbers)

pub unbroken_both : (s t : RuleSet) → is_broken s ≡ false → is_broken t ≡ false → is_broken (both s t) ≡ false
unbroken_both s t h e =
    ap {B = Bool} is_some (first_both (has s) (has t) (has (both s t)) (has_both s t) rule_numbers (first_broken s h) (first_broken t e))

pub unreplaced : (s : RuleSet) → is_broken s ≡ false → replaced_by s ≡ None
unreplaced s h = first_some (has s) rule_numbers replacing (first_broken s h) refl

pub unbroken_union : {X : Type 0} (f : X → RuleSet) (xs : List X) → ((x : X) → Among xs x → is_broken (f x) ≡ false) → is_broken (union (map f xs)) ≡ false
unbroken_union f [] each = unbroken_none
unbroken_union f (x ∷ xs) each =
    unbroken_both (f x) (union (map f xs)) (each x (inl refl)) (unbroken_union f xs (λ y m. each y (inr m)))

-- ---- sets of lists

unbroken_some : (o : Option RuleSet) → set_broken o ≡ false → is_broken (set_or_none o) ≡ false
unbroken_some None h = unbroken_none
unbroken_some (Some s) h = h

pub unbroken_set : (sets : List RuleSet) (k : ℕ) → set_broken (slice_get sets k) ≡ false → is_broken (set_at sets k) ≡ false
unbroken_set sets k h = unbroken_some (slice_get sets k) h

-- the set of a line, where no line of the list is broken
pub unbroken_line : (o : Option (List RuleSet)) (k : ℕ) → sets_broken o ≡ false → is_broken (list_set o k) ≡ false
unbroken_line None k h = unbroken_none
unbroken_line (Some sets) k h = unbroken_set sets k (by (slice_get sets k) refl)
  where
    by : (o : Option RuleSet) → slice_get sets k ≡ o → set_broken o ≡ false
    by None e = refl
    by (Some s) e = none_at is_broken sets k s h e

-- and where that line isn't
pub unbroken_that : (o : Option (List RuleSet)) (k : ℕ) → broken_in o (suc k) ≡ false → is_broken (list_set o k) ≡ false
unbroken_that None k h = unbroken_none
unbroken_that (Some sets) k h = unbroken_set sets k h
