-- What chains of pairs lead to, by tests that each pair keeps.
use Rattle.std.proofs.Common.{◌≡◌, sym, ◌∙◌, ℕ, Bool, true, false, not, ◌&&◌, ◌||◌, List}
use Rattle.std.proofs.lemmas.Bool.{true≢false}
use Rattle.std.specs.Prelude.{IsTrue, ◌↔◌, nat_lt}
use Rattle.std.specs.List.{list_all}
use Rattle.reach_table.specs.Chains.{Chain, empty, longer}
use Rattle.bound_facts.specs.Leading.{LeadsTo, is_in, within}
use Rattle.name_laws.proofs.Lists.{all_among, among}

-- where a test holds of what each pair leads to, it holds of what chains lead to
pub led_on : (test : ℕ → Bool) (pairs : List (ℕ × ℕ)) (a c : ℕ) → list_all (λ (p : ℕ × ℕ). test p.1) pairs ≡ true → test a ≡ true → Chain pairs a c
    → test c ≡ true
led_on test pairs a c kept h (empty x) = h
led_on test pairs a c kept h (longer x b y chain pair) =
    all_among {X = ℕ × ℕ} (λ (p : ℕ × ℕ). test p.1) pairs (b, c) kept (among {X = ℕ × ℕ} pairs (b, c) pair)

abbrev pub goes_back : (ℕ → Bool) → ℕ × ℕ → Bool
goes_back test p = not (test p.1) || test p.0

-- where each pair that leads to what passes comes from what passes, so does each chain
led_back : (test : ℕ → Bool) (pairs : List (ℕ × ℕ)) (a c : ℕ) → list_all (goes_back test) pairs ≡ true → Chain pairs a c → test c ≡ true → test a ≡ true
led_back test pairs a c kept (empty x) h = h
led_back test pairs a c kept (longer x b y chain pair) h =
    led_back test pairs a b kept chain (first (test c) (test b) (all_among {X = ℕ × ℕ} (goes_back test) pairs (b, c) kept (among {X = ℕ × ℕ} pairs (b, c) pair)) h)
  where
    first : (s t : Bool) → (not s || t) ≡ true → s ≡ true → t ≡ true
    first true t h e = h
    first false t h e = absurd (true≢false (sym e))

-- so the test says from where chains lead to items
pub leads_as : (test : ℕ → Bool) (nodes : ℕ) (pairs : List (ℕ × ℕ)) (items : List ℕ) → ((k : ℕ) → test k ≡ (nat_lt k nodes && is_in items k))
    → list_all (goes_back test) (within nodes pairs) ≡ true → (k : ℕ) → IsTrue (test k) ↔ LeadsTo nodes pairs items k
leads_as test nodes pairs items same kept k = (
  (λ h. (k, sym (same k) ∙ h, empty k)),
  (λ h. led_back test (within nodes pairs) k h.0 kept h.2 (same h.0 ∙ h.1)),
)
