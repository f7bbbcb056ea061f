-- The lower bounds and ranks of an array are those of its class.
use Rattle.std.proofs.Common.{◌≡◌, ◌≢◌, ℕ, zero, suc, ◌<◌, ◌≤◌, Bool, true, false, List, [], ◌∷◌, map, length, get_or, refl, ap, sym, subst, ◌∙◌, arith, nat_eq, nat_lt, Some, None, inl, inr, ⊎_elim}
use Rattle.std.specs.Prelude.{ℤ, pos, ◌≤ℤ◌, IsTrue, not, ◌||◌, ◌⊎◌, Option, slice_get, slice_index}
use Rattle.std.specs.List.{Contains}
use Rattle.std.specs.Ordering.{int_eq}
use Rattle.std.specs.Cmp.{signed_Decides}
use Rattle.std.proofs.lemmas.Int.{ints}
use Rattle.std.proofs.lemmas.Bool.{eqb-true, ltb-true}
use Rattle.std.proofs.lemmas.Bool.Decides.{nat_tests}
use Rattle.std.proofs.lemmas.List.{length-map, get_or-map}
use Rattle.std.proofs.lemmas.List.Elements.{Contains-get_or}
use Rattle.std.proofs.lemmas.Option.{slice_get-get_or, slice_get_past}
use Rattle.bound_tree.specs.Tree.{Program}
use Rattle.bound_facts.specs.Bounds.{AreTied, Low, Rank, LowIs, least_low, base_low, RankIs, least_rank, no_rank, ties, ranks, file_of, option_base_of}
use Rattle.bound_facts.specs.Calls.{count_variables}
use Rattle.bound_facts.proofs.Ways.{tied_below}
use Rattle.array_bounds.specs.declared.bounds.ArrayBounds.{ArrayBounds}
use Rattle.array_bounds.specs.declared.givens.Given.{Given}
use Rattle.array_bounds.specs.declared.ranges.Range.{Range}
use Rattle.array_bounds.specs.Facts.{IsSplit, IsTorn, over_two, two_ranks}
use Rattle.array_bounds.specs.Givens.{all_lows, all_ranks, at_dimension}
use Rattle.array_bounds.specs.Ranges.{Table, ClassNumber, RangeIs, cell, row_at, range_at, array_row, row_by, is_wide, is_split, low_or, count_of, rank_or_one, is_torn}
use Rattle.array_bounds.specs.Tables.{AreBounds}
use Rattle.array_bounds.proofs.Widening.{range_same}
use Rattle.array_bounds.proofs.Dimensions.{as_whole, lows_at, ranks_at}

-- a number that is given to an array which a chain of ties leads to
abbrev NumberOf : Program → List (ℕ × ℤ) → ℕ → ℤ → Type 0
NumberOf P numbers a z = (b : ℕ) × AreTied P a b × Contains numbers (b, z)

-- ---- ranges of classes

module _ (P : Program) (classes : List ℕ) (len : length classes ≡ count_variables P)
    (same : (x y : ℕ) → x < length classes → y < length classes
    → (slice_index classes x ≡ slice_index classes y → AreTied P x y) × (AreTied P x y → slice_index classes x ≡ slice_index classes y)) where
  row_is : (table : Table) (a : ℕ) → a < count_variables P → array_row table classes a ≡ row_at table (slice_index classes a)
  row_is table a low = ap (row_by table) (slice_get-get_or classes a 0 (omega arith))

  of_class : (numbers : List (ℕ × ℤ)) (a : ℕ) → a < count_variables P → (o : Option Range) → RangeIs (ClassNumber classes numbers (slice_index classes a)) o → RangeIs (NumberOf P numbers a) o
  of_class numbers a low o are =
      let within : a < length classes = omega arith in
      range_same (ClassNumber classes numbers (slice_index classes a)) (NumberOf P numbers a) o
      (λ z h. (h.0, (same a h.0 within h.2).0 (sym h.3), h.1))
      (λ z h.
      let b_low : h.0 < count_variables P = tied_below (count_variables P) (ties P) h.1 low in
      let b_in : h.0 < length classes = omega arith in
      (h.0, h.2, b_in, sym ((same a h.0 within b_in).1 h.1)))
      are

  -- the ranges of all numbers in a dimension
  pub range_of_array : (table : Table) (givens : List Given) → ((c d : ℕ) → RangeIs (ClassNumber classes (at_dimension d givens) c) (cell table c d)) → (d a : ℕ) → a < count_variables P
      → RangeIs (NumberOf P (at_dimension d givens) a) (range_at (array_row table classes a) d)
  range_of_array table givens are d a low =
      subst (λ (row : List (Option Range)). RangeIs (NumberOf P (at_dimension d givens) a) (range_at row d)) (sym (row_is table a low))
      (of_class (at_dimension d givens) a low (cell table (slice_index classes a) d) (are (slice_index classes a) d))

  none_past : (table : Table) (a : ℕ) → count_variables P ≤ a → array_row table classes a ≡ []
  none_past table a h = ap (row_by table) (slice_get_past classes a (omega arith))

-- ---- lower bounds

low_from : (P : Program) (d a : ℕ) (o : Option Range) → RangeIs (Low P d a) o → LowIs P d a (low_or (option_base_of P.declarations (file_of (slice_get P.declarations.vars a))) o)
low_from P d a None are = base_low are
low_from P d a (Some r) are = least_low r.low are.0 (λ y h. (are.2 y h).0)

between : (low high y z : ℤ) → low ≡ high → low ≤ℤ y → y ≤ℤ high → low ≤ℤ z → z ≤ℤ high → y ≡ z
between low high y z e a b c d = omega (arith, ints)

-- two numbers of a dimension that differ
abbrev Differ : (ℤ → Type 0) → Type 0
Differ Q = (one other : ℤ) × Q one × Q other × (one ≢ other)

wide_by : (Q : ℤ → Type 0) (r : Range) (t : Bool) → int_eq r.low r.high ≡ t → RangeIs Q (Some r) → (not t ≡ true → Differ Q) × (Differ Q → not t ≡ true)
wide_by Q r true e are = (
  (λ h. absurd (cc h)),
  (λ s. absurd (s.4 (between r.low r.high s.0 s.1 ((signed_Decides r.low r.high).0 e) (are.2 s.0 s.2).0 (are.2 s.0 s.2).1 (are.2 s.1 s.3).0 (are.2 s.1 s.3).1))),
)
wide_by Q r false e are = ((λ h. (r.low, r.high, are.0, are.1, λ same. absurd (let d = (signed_Decides r.low r.high).1 same in cc (e, d)))), (λ s. refl))

wide_is : (Q : ℤ → Type 0) (o : Option Range) → RangeIs Q o → (is_wide o ≡ true → Differ Q) × (Differ Q → is_wide o ≡ true)
wide_is Q None are = ((λ h. absurd (cc h)), (λ s. absurd (are s.0 s.2)))
wide_is Q (Some r) are = wide_by Q r (int_eq r.low r.high) refl are

first_wide : (b rest : Bool) → (b || rest) ≡ true → (b ≡ true) ⊎ (rest ≡ true)
first_wide true rest h = inl refl
first_wide false rest h = inr h

some_wide : (row : List (Option Range)) → is_split row ≡ true → (d : ℕ) × (is_wide (range_at row d) ≡ true)
some_wide [] h = absurd (cc h)
some_wide (o ∷ row) h = ⊎_elim (λ e. (0, e)) (λ e. let more = some_wide row e in (suc more.0, more.1)) (first_wide (is_wide o) (is_split row) h)

or_true : (b : Bool) → (b || true) ≡ true
or_true true = refl
or_true false = refl

wide_at : (row : List (Option Range)) (d : ℕ) → is_wide (range_at row d) ≡ true → is_split row ≡ true
wide_at [] d h = absurd (cc h)
wide_at (o ∷ row) zero h = ap (λ b. b || is_split row) h
wide_at (o ∷ row) (suc d) h = ap (λ b. is_wide o || b) (wide_at row d h) ∙ or_true (is_wide o)

split_from : (P : Program) (a : ℕ) (row : List (Option Range)) → ((d : ℕ) → RangeIs (Low P d a) (range_at row d)) → (IsTrue (is_split row) → IsSplit P a) × (IsSplit P a → IsTrue (is_split row))
split_from P a row are = (
  (λ h.
      let at = some_wide row h in
      let two = (wide_is (Low P at.0 a) (range_at row at.0) (are at.0)).0 at.1 in
      record { dimension = at.0; one = two.0; other = two.1; one_is = two.2; other_is = two.3; differ = two.4 }),
  (λ s. wide_at row s.dimension ((wide_is (Low P s.dimension a) (range_at row s.dimension) (are s.dimension)).1 (s.one, s.other, s.one_is, s.other_is, s.differ))),
)

-- ---- ranks

whole_in : (xs : List (ℕ × ℕ)) (b : ℕ) (z : ℤ) → Contains (map as_whole xs) (b, z) → (r : ℕ) × (z ≡ pos r) × Contains xs (b, r)
whole_in xs b z h =
    let l : h.0 < length xs = omega (arith, h.1, length-map xs as_whole) in
    let p = get_or xs h.0 (b, 0) in
    let is : as_whole p ≡ (b, z) = sym (get_or-map as_whole xs h.0 (b, 0) (b, z) l) ∙ h.2 in
    let first = ap (λ (q : ℕ × ℤ). q.0) is in
    (p.1, sym (ap (λ (q : ℕ × ℤ). q.1) is), subst (λ (n : ℕ). Contains xs (n, p.1)) first (Contains-get_or xs h.0 (b, 0) l))

as_whole_in : (xs : List (ℕ × ℕ)) (b r : ℕ) → Contains xs (b, r) → Contains (map as_whole xs) (b, pos r)
as_whole_in xs b r h =
    let l : h.0 < length (map as_whole xs) = omega (arith, h.1, length-map xs as_whole) in
    (h.0, l, get_or-map as_whole xs h.0 (b, r) (b, pos r) h.1 ∙ ap as_whole h.2)

rank_number : (P : Program) (a : ℕ) (z : ℤ) → NumberOf P (map as_whole (ranks P)) a z → (r : ℕ) × (z ≡ pos r) × Rank P a r
rank_number P a z h = let k = whole_in (ranks P) h.0 z h.2 in (k.0, k.1, (h.0, h.1, k.2))

number_rank : (P : Program) (a r : ℕ) → Rank P a r → NumberOf P (map as_whole (ranks P)) a (pos r)
number_rank P a r h = (h.0, h.1, as_whole_in (ranks P) h.0 r h.2)

pos_below : (m n : ℕ) → pos m ≤ℤ pos n → m ≤ n
pos_below m n h = omega (arith, ints)

rank_from : (P : Program) (a : ℕ) (o : Option Range) → RangeIs (NumberOf P (map as_whole (ranks P)) a) o → RankIs P a (rank_or_one o)
rank_from P a None are = no_rank (λ s h. are (pos s) (number_rank P a s h))
rank_from P a (Some r) are =
    let least = rank_number P a r.low are.0 in
    subst (λ (n : ℕ). RankIs P a n) (sym (ap count_of least.1))
    (least_rank least.0 least.2 (λ s h. pos_below least.0 s (subst (λ (z : ℤ). z ≤ℤ pos s) least.1 (are.2 (pos s) (number_rank P a s h)).0)))

-- by the least and the greatest rank
torn_by : (P : Program) (a m n : ℕ) → Rank P a m → Rank P a n → ((s : ℕ) → Rank P a s → (m ≤ s) × (s ≤ n)) → (t u : Bool) → nat_eq m n ≡ t → nat_lt 2 n ≡ u
    → (not t || u ≡ true → IsTorn P a) × (IsTorn P a → not t || u ≡ true)
torn_by P a m n least greatest all t true e f = ((λ h. over_two n greatest (ltb-true 2 n f)), (λ s. or_true (not t)))
torn_by P a m n least greatest all false false e f = ((λ h. two_ranks m n least greatest (λ same. absurd (grind (arith, nat_tests)))), (λ s. refl))
torn_by P a m n least greatest all true false e f = ((λ h. absurd (cc h)), (λ s. absurd (none s)))
  where
    equal : m ≡ n
    equal = eqb-true m n e

    none : IsTorn P a → ⊥
    none (over_two r h k) = let up = (all r h).1 in grind (arith, nat_tests)
    none (two_ranks r s h k ne) = let q : m ≡ n = equal in let one = all r h in let other = all s k in ne (omega arith)

torn_from : (P : Program) (a : ℕ) (o : Option Range) → RangeIs (NumberOf P (map as_whole (ranks P)) a) o → (IsTrue (is_torn o) → IsTorn P a) × (IsTorn P a → IsTrue (is_torn o))
torn_from P a None are = ((λ h. absurd (cc h)), (λ s. absurd (none s)))
  where
    none : IsTorn P a → ⊥
    none (over_two r h k) = are (pos r) (number_rank P a r h)
    none (two_ranks r s h k ne) = are (pos r) (number_rank P a r h)
torn_from P a (Some r) are =
    let least = rank_number P a r.low are.0 in
    let greatest = rank_number P a r.high are.1 in
    let low : count_of r.low ≡ least.0 = ap count_of least.1 in
    let high : count_of r.high ≡ greatest.0 = ap count_of greatest.1 in
    let split = torn_by P a least.0 greatest.0 least.2 greatest.2
    (λ s h. (
      pos_below least.0 s (subst (λ (z : ℤ). z ≤ℤ pos s) least.1 (are.2 (pos s) (number_rank P a s h)).0),
      pos_below s greatest.0 (subst (λ (z : ℤ). pos s ≤ℤ z) greatest.1 (are.2 (pos s) (number_rank P a s h)).1),
    ))
    (nat_eq least.0 greatest.0) (nat_lt 2 greatest.0) refl refl in
    let same : is_torn (Some r) ≡ (not (nat_eq least.0 greatest.0) || nat_lt 2 greatest.0) =
    ap (λ n. not (nat_eq n (count_of r.high)) || nat_lt 2 (count_of r.high)) low ∙ ap (λ n. not (nat_eq least.0 n) || nat_lt 2 n) high in
    ((λ h. split.0 (sym same ∙ h)), (λ s. same ∙ split.1 s))

-- ---- all of them

pub bounds_are : (P : Program) (b : ArrayBounds) → length b.classes.items ≡ count_variables P
    → ((x y : ℕ) → x < length b.classes.items → y < length b.classes.items
    → (slice_index b.classes.items x ≡ slice_index b.classes.items y → AreTied P x y) × (AreTied P x y → slice_index b.classes.items x ≡ slice_index b.classes.items y))
    → ((c d : ℕ) → RangeIs (ClassNumber b.classes.items (at_dimension d (all_lows P)) c) (cell b.lows.items c d))
    → ((c d : ℕ) → RangeIs (ClassNumber b.classes.items (at_dimension d (all_ranks P)) c) (cell b.ranks.items c d))
    → AreBounds P b
bounds_are P b len same lows_are ranks_are =
    let classes = b.classes.items in
    let low_range : (d a : ℕ) → a < count_variables P → RangeIs (Low P d a) (range_at (array_row b.lows.items classes a) d) = λ d a h.
    subst (λ (numbers : List (ℕ × ℤ)). RangeIs (NumberOf P numbers a) (range_at (array_row b.lows.items classes a) d)) (lows_at P d) (range_of_array P classes len same b.lows.items (all_lows P) lows_are d a h) in
    let rank_range : (a : ℕ) → a < count_variables P → RangeIs (NumberOf P (map as_whole (ranks P)) a) (range_at (array_row b.ranks.items classes a) 0) = λ a h.
    subst (λ (numbers : List (ℕ × ℤ)). RangeIs (NumberOf P numbers a) (range_at (array_row b.ranks.items classes a) 0)) (ranks_at P) (range_of_array P classes len same b.ranks.items (all_ranks P) ranks_are 0 a h) in
    record {
      low_is = λ d a h. low_from P d a (range_at (array_row b.lows.items classes a) d) (low_range d a h);
      rank_is = λ a h. rank_from P a (range_at (array_row b.ranks.items classes a) 0) (rank_range a h);
      no_rank = λ a h. ap (λ (row : List (Option Range)). rank_or_one (range_at row 0)) (none_past P classes len same b.ranks.items a h);
      splits_are = λ a h. split_from P a (array_row b.lows.items classes a) (λ d. low_range d a h);
      tears_are = λ a h. torn_from P a (range_at (array_row b.ranks.items classes a) 0) (rank_range a h);
    }
