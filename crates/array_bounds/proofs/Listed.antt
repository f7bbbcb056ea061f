-- The lists of lower bounds and ranks by the facts are those of the project, and so are the marks.
use Rattle.std.proofs.Common.{◌≡◌, ℕ, zero, suc, ◌+◌, ◌<◌, Bool, true, false, cond, List, [], ◌∷◌, ◌++◌, map, length, min, refl, ap, sym, subst, ◌∙◌, arith, nat_eq, ⊎_elim}
use Rattle.std.specs.Prelude.{ℤ, pos, ◌↔◌}
use Rattle.std.specs.List.{Contains}
use Rattle.std.proofs.lemmas.Bool.{eqb-true, eqb-false}
use Rattle.std.proofs.lemmas.List.Elements.{Contains-append_cases}
use Rattle.vb_tree.specs.BoundTree.{Ty}
use Rattle.vb_tree.specs.declared.declared.VarId.{VarId}
use Rattle.bound_tree.specs.declared.marks.Marks.{Marks}
use Rattle.bound_tree.specs.Tree.{Variable, Program}
use Rattle.bound_facts.specs.Bounds.{LowIs, RankIs}
use Rattle.bound_facts.specs.Calls.{calls}
use Rattle.bound_facts.specs.Node.{is_array_type}
use Rattle.array_bounds.specs.Facts.{AreFacts, AreFactsBy, LocksBy}
use Rattle.array_bounds.specs.FactsOf.{AreMarksBy}
use Rattle.array_bounds.specs.Found.{AreLows, AreRanks, SecondLowIs, one_dimension, two_dimensions, arrays_from, low_entry, low_item, low_items, rank_entry, rank_item, rank_items, second_low}
use Rattle.array_bounds.specs.Known.{Known}
use Rattle.array_bounds.specs.Rows.{AreMarks}
use Rattle.array_bounds.proofs.Locked.{locks_of_calls}

abbrev LowEntry : Type 0
LowEntry = VarId × ℤ × ℤ

abbrev RankEntry : Type 0
RankEntry = VarId × ℕ

-- ---- lower bounds

low_arrays : (F : Known) (k : ℕ) (vs : List Variable) → map (λ (x : LowEntry). x.0) (low_items F k vs) ≡ arrays_from k vs
low_arrays F k [] = refl
low_arrays F k (v ∷ vs) = by_type (is_array_type v.ty) (low_arrays F (suc k) vs)
  where
    by_type : (b : Bool) → map (λ (x : LowEntry). x.0) (low_items F (suc k) vs) ≡ arrays_from (suc k) vs
        → map (λ (x : LowEntry). x.0) (cond b (low_entry F k) [] ++ low_items F (suc k) vs) ≡ cond b (record { 0 = k } ∷ []) [] ++ arrays_from (suc k) vs
    by_type true more = ap (λ (ids : List VarId). record { 0 = k } ∷ ids) more
    by_type false more = more

abbrev LowKnown : Known → ℕ → LowEntry → Type 0
LowKnown F n x = (x.0.0 < n) × (x.1 ≡ F.low 0 x.0.0) × (x.2 ≡ second_low F x.0.0)

low_own : (F : Known) (k n : ℕ) (b : Bool) (x : LowEntry) → k < n → Contains (cond b (low_entry F k) []) x → LowKnown F n x
low_own F k n true x low (zero, l, is) = subst (λ (e : LowEntry). LowKnown F n e) is (low, refl, refl)
low_own F k n true x low (suc i, l, is) = absurd (omega arith)
low_own F k n false x low h = absurd (let l = h.1 in omega arith)

low_each : (F : Known) (k : ℕ) (vs : List Variable) (x : LowEntry) → Contains (low_items F k vs) x → LowKnown F (k + length vs) x
low_each F k [] x h = absurd (let l = h.1 in omega arith)
low_each F k (v ∷ vs) x h =
    let far : suc k + length vs ≡ k + suc (length vs) = omega arith in
    ⊎_elim (λ own. low_own F k (k + suc (length vs)) (is_array_type v.ty) x (omega arith) own)
    (λ rest. subst (λ n. LowKnown F n x) far (low_each F (suc k) vs x rest)) (Contains-append_cases (low_item F k v) (low_items F (suc k) vs) x h)

second_from : (P : Program) (F : Known) (a : ℕ) → RankIs P a (F.rank a) → LowIs P 1 a (F.low 1 a) → SecondLowIs P a (second_low F a)
second_from P F a rank low = by_rank (nat_eq (F.rank a) 1) refl
  where
    by_rank : (b : Bool) → nat_eq (F.rank a) 1 ≡ b → SecondLowIs P a (cond b (pos 0) (F.low 1 a))
    by_rank true e = one_dimension (subst (λ n. RankIs P a n) (eqb-true (F.rank a) 1 e) rank)
    by_rank false e = two_dimensions (F.rank a) rank (eqb-false (F.rank a) 1 e) (F.low 1 a) low

below : (x n : ℕ) → x < 0 + n → x < n
below x n h = omega arith

pub lows_are : (P : Program) (Locking : Ty → ℕ → Type 0) (F : Known) (lows : List LowEntry) → AreFactsBy P Locking F → lows ≡ low_items F 0 P.declarations.vars → AreLows P lows
lows_are P Locking F lows facts is =
    let vars = P.declarations.vars in
    let each : (x : LowEntry) → Contains lows x → LowKnown F (0 + length vars) x = λ x h. low_each F 0 vars x (subst (λ (xs : List LowEntry). Contains xs x) is h) in
    record {
      arrays_are = ap (λ (xs : List LowEntry). map (λ (x : LowEntry). x.0) xs) is ∙ low_arrays F 0 vars;
      first_is = λ x h. let e = each x h in subst (λ z. LowIs P 0 x.0.0 z) (sym e.1) (facts.low_is 0 x.0.0 (below x.0.0 (length vars) e.0));
      second_is = λ x h.
          let e = each x h in
          let in_range = below x.0.0 (length vars) e.0 in
          subst (λ z. SecondLowIs P x.0.0 z) (sym e.2) (second_from P F x.0.0 (facts.rank_is x.0.0 in_range) (facts.low_is 1 x.0.0 in_range));
    }

-- ---- ranks

rank_arrays : (F : Known) (k : ℕ) (vs : List Variable) → map (λ (x : RankEntry). x.0) (rank_items F k vs) ≡ arrays_from k vs
rank_arrays F k [] = refl
rank_arrays F k (v ∷ vs) = by_type (is_array_type v.ty) (rank_arrays F (suc k) vs)
  where
    by_type : (b : Bool) → map (λ (x : RankEntry). x.0) (rank_items F (suc k) vs) ≡ arrays_from (suc k) vs
        → map (λ (x : RankEntry). x.0) (cond b (rank_entry F k) [] ++ rank_items F (suc k) vs) ≡ cond b (record { 0 = k } ∷ []) [] ++ arrays_from (suc k) vs
    by_type true more = ap (λ (ids : List VarId). record { 0 = k } ∷ ids) more
    by_type false more = more

abbrev RankKnown : Known → ℕ → RankEntry → Type 0
RankKnown F n x = (x.0.0 < n) × (x.1 ≡ min (F.rank x.0.0) 255)

rank_own : (F : Known) (k n : ℕ) (b : Bool) (x : RankEntry) → k < n → Contains (cond b (rank_entry F k) []) x → RankKnown F n x
rank_own F k n true x low (zero, l, is) = subst (λ (e : RankEntry). RankKnown F n e) is (low, refl)
rank_own F k n true x low (suc i, l, is) = absurd (omega arith)
rank_own F k n false x low h = absurd (let l = h.1 in omega arith)

rank_each : (F : Known) (k : ℕ) (vs : List Variable) (x : RankEntry) → Contains (rank_items F k vs) x → RankKnown F (k + length vs) x
rank_each F k [] x h = absurd (let l = h.1 in omega arith)
rank_each F k (v ∷ vs) x h =
    let far : suc k + length vs ≡ k + suc (length vs) = omega arith in
    ⊎_elim (λ own. rank_own F k (k + suc (length vs)) (is_array_type v.ty) x (omega arith) own)
    (λ rest. subst (λ n. RankKnown F n x) far (rank_each F (suc k) vs x rest)) (Contains-append_cases (rank_item F k v) (rank_items F (suc k) vs) x h)

pub ranks_are : (P : Program) (Locking : Ty → ℕ → Type 0) (F : Known) (ranks : List RankEntry) → AreFactsBy P Locking F → ranks ≡ rank_items F 0 P.declarations.vars → AreRanks P ranks
ranks_are P Locking F ranks facts is =
    let vars = P.declarations.vars in
    record {
      arrays_are = ap (λ (xs : List RankEntry). map (λ (x : RankEntry). x.0) xs) is ∙ rank_arrays F 0 vars;
      rank_is = λ x h.
          let e = rank_each F 0 vars x (subst (λ (xs : List RankEntry). Contains xs x) is h) in
          (F.rank x.0.0, facts.rank_is x.0.0 (below x.0.0 (length vars) e.0), e.1);
    }

-- ---- marks

facts_of_calls : (P : Program) (pairs : List (ℕ × ℕ)) (F : Known) → ((x : ℕ × ℕ) → Contains pairs x ↔ Contains (calls P) x) → AreFactsBy P (LocksBy P pairs) F → AreFacts P F
facts_of_calls P pairs F same facts = record {
  low_is = facts.low_is;
  rank_is = facts.rank_is;
  no_rank = facts.no_rank;
  splits_are = facts.splits_are;
  tears_are = facts.tears_are;
  resized_are = facts.resized_are;
  holds_array_are = facts.holds_array_are;
  holds_made_are = facts.holds_made_are;
  locks_are = λ ty among p.
      let by = locks_of_calls P pairs ty p same in
      let known = facts.locks_are ty among p in
      ((λ h. by.0 (known.0 h)), (λ k. known.1 (by.1 k)));
}

pub marks_are : (P : Program) (pairs : List (ℕ × ℕ)) (m : Marks) → ((x : ℕ × ℕ) → Contains pairs x ↔ Contains (calls P) x) → AreMarksBy P pairs m → AreMarks P m
marks_are P pairs m same by = (by.0, facts_of_calls P pairs by.0 same by.1, by.2)
