-- A union of sets breaks a rule exactly where one of them does.
use Rattle.std.proofs.Common.{◌≡◌, ℕ, zero, suc, Bool, true, false, List, [], ◌∷◌, map, Some, cond, refl, sym, ap, ◌∙◌, arith}
use Rattle.std.specs.Prelude.{◌||◌, is_some}
use Rattle.std.specs.List.{list_any, Contains}
use Rattle.bound_tree.specs.declared.rule_set.RuleSet.{RuleSet}
use Rattle.bound_tree.specs.RuleSets.{has, none, both, first, is_broken, rule_numbers}
use Rattle.bound_tree.proofs.RuleLaws.{has_both}
use Rattle.written_trees.specs.Prologues.{union}
use Rattle.upgrade_laws.proofs.Lists.{here, there, in_none}
use Rattle.upgrade_laws.proofs.Tests.{four, left_false, or_false, right_false}

-- ---- one set

pub none_whole : is_broken none ≡ false
unfolding has none
none_whole = refl

pub passes : (p : ℕ → Bool) (ns : List ℕ) → is_some (first p ns) ≡ list_any p ns
passes p [] = refl
passes p (n ∷ ns) = by (p n) (passes p ns)
  where
    by : (b : Bool) → is_some (first p ns) ≡ list_any p ns → is_some (cond b (Some n) (first p ns)) ≡ (b || list_any p ns)
    by true h = refl
    by false h = h

any_of_two : (p q r : ℕ → Bool) → ((n : ℕ) → r n ≡ (p n || q n)) → (ns : List ℕ) → list_any r ns ≡ (list_any p ns || list_any q ns)
any_of_two p q r e [] = refl
any_of_two p q r e (n ∷ ns) =
    ap (λ (b : Bool). b || list_any r ns) (e n)
    ∙ ap (λ (b : Bool). (p n || q n) || b) (any_of_two p q r e ns)
    ∙ four (p n) (q n) (list_any p ns) (list_any q ns)

pub both_broken : (a b : RuleSet) → is_broken (both a b) ≡ (is_broken a || is_broken b)
both_broken a b =
    passes (has (both a b)) rule_numbers
    ∙ any_of_two (has a) (has b) (has (both a b)) (has_both a b) rule_numbers
    ∙ ap (λ (c : Bool). c || list_any (has b) rule_numbers) (sym (passes (has a) rule_numbers))
    ∙ ap (λ (c : Bool). is_broken a || c) (sym (passes (has b) rule_numbers))

-- ---- a union

pub union_whole : {X : Type 0} (s : X → RuleSet) (xs : List X) → ((x : X) → Contains xs x → is_broken (s x) ≡ false) → is_broken (union (map s xs)) ≡ false
union_whole s [] h = none_whole
union_whole s (x ∷ xs) h =
    both_broken (s x) (union (map s xs))
    ∙ or_false (is_broken (s x)) (is_broken (union (map s xs))) (h x (here x xs)) (union_whole s xs (λ y i. h y (there x xs y i)))

pub each_whole : {X : Type 0} (s : X → RuleSet) (xs : List X) → is_broken (union (map s xs)) ≡ false → (x : X) → Contains xs x → is_broken (s x) ≡ false
each_whole s [] h x i = absurd (in_none x i)
each_whole s (y ∷ xs) h x (zero, l, e) =
    ap (λ z. is_broken (s z)) (sym e) ∙ left_false (is_broken (s y)) (is_broken (union (map s xs))) (sym (both_broken (s y) (union (map s xs))) ∙ h)
each_whole s (y ∷ xs) h x (suc k, l, e) =
    each_whole s xs (right_false (is_broken (s y)) (is_broken (union (map s xs))) (sym (both_broken (s y) (union (map s xs))) ∙ h)) x (k, omega (arith, l), e)
