-- Chains among numbers that are all below one.
use Rattle.std.proofs.Common.{◌≡◌, ℕ, ◌+◌, ◌<◌, Bool, true, false, cond, List, [], ◌∷◌, refl, ap, sym, subst, arith, inl, inr, nat_lt, max}
use Rattle.std.specs.Prelude.{◌↔◌, IsTrue}
use Rattle.std.proofs.lemmas.Bool.{and_parts, and_from}
use Rattle.std.proofs.lemmas.Bool.Decides.{nat_tests}
use Rattle.reach_table.specs.Chains.{Chain}
use Rattle.bound_facts.specs.Leading.{LeadsTo, is_in, is_within, within}
use Rattle.clean_procedures.specs.Reaching.{LeadTo, greatest_number, greatest_pair}
use Rattle.clean_procedures.proofs.Among.{Among, in_among}

below : (m n : ℕ) → m < n → nat_lt m n ≡ true
below m n h = grind (arith, nat_tests)

pair_within : (n : ℕ) (p : ℕ × ℕ) (more : ℕ) → max (max p.0 p.1) more < n → is_within n p ≡ true
pair_within n p more h = and_from (nat_lt p.0 n) (nat_lt p.1 n) (below p.0 n (omega (arith, h))) (below p.1 n (omega (arith, h)))

kept : (b : Bool) (p : ℕ × ℕ) (ps qs : List (ℕ × ℕ)) → b ≡ true → qs ≡ ps → cond b (p ∷ qs) qs ≡ p ∷ ps
kept true p ps qs e h = ap (λ rs. p ∷ rs) h
kept false p ps qs e h = absurd (cc e)

within_all : (n : ℕ) (ps : List (ℕ × ℕ)) → greatest_pair ps < n → within n ps ≡ ps
within_all n [] h = refl
within_all n (p ∷ ps) h = kept (is_within n p) p ps (within n ps) (pair_within n p (greatest_pair ps) h) (within_all n ps (omega (arith, h)))

number_below : (n : ℕ) (ns : List ℕ) (k : ℕ) → greatest_number ns < n → Among ns k → nat_lt k n ≡ true
number_below n [] k h a = absurd a
number_below n (m ∷ ns) k h (inl e) = below k n (omega (arith, h, e))
number_below n (m ∷ ns) k h (inr a) = number_below n ns k (omega (arith, h)) a

pub leads_is : (nodes : ℕ) (pairs : List (ℕ × ℕ)) (list : List ℕ) (n : ℕ) → nodes ≡ max (greatest_pair pairs) (greatest_number list) + 1 → LeadsTo nodes pairs list n ↔ LeadTo pairs list n
leads_is nodes pairs list n e =
    let of_pairs : greatest_pair pairs < nodes = omega (arith, e) in
    let of_list : greatest_number list < nodes = omega (arith, e) in
    let all = within_all nodes pairs of_pairs in (
      (λ h. (h.0, (and_parts (nat_lt h.0 nodes) (is_in list h.0) h.1).1, subst (λ ps. Chain ps n h.0) all h.2)),
      (λ h. (h.0, and_from (nat_lt h.0 nodes) (is_in list h.0) (number_below nodes list h.0 of_list (in_among list h.0 h.1)) h.1, subst (λ ps. Chain ps n h.0) (sym all) h.2)),
    )

pub flags_are : (nodes : ℕ) (pairs : List (ℕ × ℕ)) (list : List ℕ) (n : ℕ) (b : Bool) → nodes ≡ max (greatest_pair pairs) (greatest_number list) + 1 → IsTrue b ↔ LeadsTo nodes pairs list n
    → IsTrue b ↔ LeadTo pairs list n
flags_are nodes pairs list n b e h =
    let is = leads_is nodes pairs list n e in
    ((λ t. is.0 (h.0 t)), (λ l. h.1 (is.1 l)))
