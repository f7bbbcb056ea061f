-- Flaws that have a cause.
use Rattle.std.proofs.Common.{◌≡◌, ℕ, zero, suc, Bool, true, false, cond, List, [], ◌∷◌, Option, Some, None, refl, sym, ap, ◌∙◌, nat_eq, arith}
use Rattle.std.specs.Prelude.{◌||◌, is_some}
use Rattle.std.specs.List.{list_any}
use Rattle.std.proofs.lemmas.Bool.{eqb-true}
use Rattle.std.proofs.lemmas.Bool.Decides.{nat_tests}
use Rattle.bound_tree.specs.declared.body.Mention.{Mention}
use Rattle.bound_tree.specs.declared.rule_set.RuleSet.{RuleSet}
use Rattle.bound_tree.specs.RuleSets.{has, none, with_rule, both, first, is_broken, rule_numbers}
use Rattle.bound_tree.proofs.RuleLaws.{has_both, has_with}
use Rattle.expression_words.specs.declared.typed.Flaw.{Flaw}
use Rattle.expression_words.specs.Flaws.{breaks, first_cause, together}
use Rattle.binding_laws.specs.Causes.{has_cause, is_rule}

-- ---- tests

pub or_left : (a b : Bool) → a ≡ true → (a || b) ≡ true
or_left true b e = refl
or_left false b e = absurd (cc e)

pub or_right : (a b : Bool) → b ≡ true → (a || b) ≡ true
or_right true b e = refl
or_right false b e = e

-- ---- the first number that passes

abbrev OnPass : (ℕ → Bool) → List ℕ → Option ℕ → Type 0
OnPass p ns None = Unit {0}
OnPass p ns (Some m) = (list_any (nat_eq m) ns ≡ true) × (p m ≡ true)

same_number : (n : ℕ) → nat_eq n n ≡ true
same_number zero = refl
same_number (suc n) = grind (arith, nat_tests)

first_passes : (p : ℕ → Bool) (ns : List ℕ) → OnPass p ns (first p ns)
first_passes p [] = tt
first_passes p (n ∷ ns) = by (p n) refl (first_passes p ns)
  where
    later : (o : Option ℕ) → OnPass p ns o → OnPass p (n ∷ ns) o
    later None h = tt
    later (Some m) h = (or_right (nat_eq m n) (list_any (nat_eq m) ns) h.0, h.1)

    by : (b : Bool) → p n ≡ b → OnPass p ns (first p ns) → OnPass p (n ∷ ns) (cond b (Some n) (first p ns))
    by true e h = (or_left (nat_eq n n) (list_any (nat_eq n) ns) (same_number n), e)
    by false e h = later (first p ns) h

some_passes : (p : ℕ → Bool) (ns : List ℕ) (n : ℕ) → list_any (nat_eq n) ns ≡ true → p n ≡ true → is_some (first p ns) ≡ true
some_passes p [] n h e = absurd (cc h)
some_passes p (m ∷ ns) n h e = by (p m) (nat_eq n m) refl refl h (λ k. some_passes p ns n k e)
  where
    by : (b c : Bool) → p m ≡ b → nat_eq n m ≡ c → (c || list_any (nat_eq n) ns) ≡ true → (list_any (nat_eq n) ns ≡ true → is_some (first p ns) ≡ true) → is_some (cond b (Some m) (first p ns)) ≡ true
    by true c k l h next = refl
    by false true k l h next = absurd (cc (sym k ∙ ap p (sym (eqb-true n m l)) ∙ e))
    by false false k l h next = next h

-- a set of which one has all rules breaks one where that does
more_broken : (s t : RuleSet) → ((n : ℕ) → has s n ≡ true → has t n ≡ true) → is_broken s ≡ true → is_broken t ≡ true
more_broken s t up h = by (first (has s) rule_numbers) (first_passes (has s) rule_numbers) h
  where
    by : (o : Option ℕ) → OnPass (has s) rule_numbers o → is_some o ≡ true → is_broken t ≡ true
    by None p h = absurd (cc h)
    by (Some m) p h = some_passes (has t) rule_numbers m p.0 (up m p.1)

broken_left : (s t : RuleSet) → is_broken s ≡ true → is_broken (both s t) ≡ true
broken_left s t h = more_broken s (both s t) (λ n e. has_both s t n ∙ or_left (has s n) (has t n) e) h

broken_right : (s t : RuleSet) → is_broken t ≡ true → is_broken (both s t) ≡ true
broken_right s t h = more_broken t (both s t) (λ n e. has_both s t n ∙ or_right (has s n) (has t n) e) h

-- ---- flaws

pub rule_caused : (n : ℕ) → is_rule n ≡ true → has_cause (breaks n) ≡ true
rule_caused n h = some_passes (has (with_rule none n)) rule_numbers n h (has_with none n n ∙ or_left (nat_eq n n) (has none n) (same_number n))

pub left_caused : (f g : Flaw) → has_cause f ≡ true → has_cause (together f g) ≡ true
left_caused f g h = by f.cause h
  where
    by : (c : Option Mention) → (is_some c || is_broken f.rules) ≡ true → (is_some (first_cause c g.cause) || is_broken (both f.rules g.rules)) ≡ true
    by (Some m) h = refl
    by None h = or_right (is_some g.cause) (is_broken (both f.rules g.rules)) (broken_left f.rules g.rules h)

pub right_caused : (f g : Flaw) → has_cause g ≡ true → has_cause (together f g) ≡ true
right_caused f g h = by f.cause g.cause h
  where
    by : (c d : Option Mention) → (is_some d || is_broken g.rules) ≡ true → (is_some (first_cause c d) || is_broken (both f.rules g.rules)) ≡ true
    by (Some m) d h = refl
    by None (Some m) h = refl
    by None None h = broken_right f.rules g.rules h
