-- What arrays begin with on both sides: as many elements as their bounds say, or none.
use Rattle.std.proofs.Common.{◌≡◌, refl, sym, ap, subst, ◌∙◌, ℕ, zero, suc, ◌<◌, ◌^◌, ◌*◌, ℤ, pos, negsuc, ◌-ℤ◌, Some, true, true≢false, List, [], ◌∷◌, length, map, replicate, nat_le, arith, lt-ltb, ltb-true}
use Rattle.std.proofs.lemmas.List.{length-map, length-replicate}
use Rattle.std.specs.List.{list_all}
use Rattle.up_base.proofs.Tests.{both_true}
use Rattle.vb_tree.specs.BoundTree.{Ty}
use Rattle.vb6_meaning.specs.Answers.{Answer, then_answer}
use Rattle.vb6_meaning.specs.Answers as value
use Rattle.net_tree.specs.Types.{TypeName}
use Rattle.net_meaning.specs.declared.value.ValueN.{ValueN}
use Rattle.net_meaning.specs.declared.value.ValueN.TheVariants as n
use Rattle.net_meaning.specs.ValueMatch.{Matches}
use Rattle.vb6_run.specs.Shapes.{simple}
use Rattle.vb6_run.specs.Values as source
use Rattle.vb6_run.specs.Values.{Dimension, Value, Values, scalar, dimension_of, count_from, first_scalar, is_small, are_small, is_within_limits, repeated, size}
use Rattle.net_run.specs.Constants.{constants_of}
use Rattle.net_run.specs.Shapes as shape
use Rattle.net_run.specs.Store as net
use Rattle.net_run.specs.Structures as written
use Rattle.net_run.specs.Values as net_value
use Rattle.written_trees.specs.Lines.{empty_extents}
use Rattle.written_trees.specs.Prologues.{extents, fixed_extents}
use Rattle.run_matches.specs.CoveredVariables.{is_in_order}
use Rattle.run_matches.specs.Likeness.{Numbers, ItemsLike, ArrayLike, same_elements, same_scalar, SameCounts, no_counts, same_counts, counts_of, scalar_word}
use Rattle.run_matches.specs.Upgrades.{Upgrade}
use Rattle.run_statements.specs.Frames.{AreBounds}
use Rattle.agreeing_laws.proofs.Indexes.{below}
use Rattle.memory_laws.proofs.ArrayItems.{new_flat, new_items}
use Rattle.memory_laws.proofs.Sizes.{none_erased, products, small_enough}

-- ---- how many elements are written

abbrev extent_value : ℤ × ℤ → ValueN
extent_value b = n.Integer (b.1 -ℤ b.0)

fixed_constants : (bs : List (ℤ × ℤ)) → constants_of (fixed_extents bs) ≡ value.gives (map extent_value bs)
fixed_constants [] = refl
fixed_constants (b ∷ bs) = ap (λ a. then_answer a (λ xs. value.gives (extent_value b ∷ xs))) (fixed_constants bs)

empty_constants : (rank : ℕ) → constants_of (empty_extents rank) ≡ value.gives (replicate rank (n.Integer (negsuc 0)))
empty_constants zero = refl
empty_constants (suc rank) = ap (λ a. then_answer a (λ xs. value.gives (n.Integer (negsuc 0) ∷ xs))) (empty_constants rank)

count_by : (b : ℤ × ℤ) (x : ℤ) → is_in_order b ≡ true → b.1 -ℤ b.0 ≡ x → written.count_of (n.Integer x) ≡ value.gives (count_from x)
count_by b (pos i) o e = refl
count_by b (negsuc i) o e = absurd (true≢false (sym o ∙ below b.0 b.1 i e))

fixed_counts : (bs : List (ℤ × ℤ)) → list_all is_in_order bs ≡ true
    → written.counts_of (map extent_value bs) ≡ value.gives (counts_of (map dimension_of bs))
fixed_counts [] o = refl
fixed_counts (b ∷ bs) o =
    let both : (is_in_order b ≡ true) × (list_all is_in_order bs ≡ true) = both_true (is_in_order b) (list_all is_in_order bs) o in
    ap (λ c. then_answer c (λ c. then_answer (written.counts_of (map extent_value bs)) (λ cs. value.gives (c ∷ cs)))) (count_by b (b.1 -ℤ b.0) both.0 refl)
    ∙ ap (λ cs. then_answer cs (λ cs. value.gives (count_from (b.1 -ℤ b.0) ∷ cs))) (fixed_counts bs both.1)

empty_counts : (rank : ℕ) → written.counts_of (replicate rank (n.Integer (negsuc 0))) ≡ value.gives (replicate rank 0)
empty_counts zero = refl
empty_counts (suc rank) = ap (λ cs. then_answer cs (λ cs. value.gives (0 ∷ cs))) (empty_counts rank)

-- the counts of an array that is declared with bounds, or without
abbrev pub first_counts : (rank : ℕ) → List (ℤ × ℤ) → List ℕ
first_counts rank [] = replicate rank 0
first_counts rank (b ∷ bs) = counts_of (map dimension_of (b ∷ bs))

pub written_counts : (rank : ℕ) (bounds : List (ℤ × ℤ)) → AreBounds rank bounds
    → then_answer (constants_of (extents rank bounds)) written.counts_of ≡ value.gives (first_counts rank bounds)
written_counts rank [] are = ap (λ a. then_answer a written.counts_of) (empty_constants rank) ∙ empty_counts rank
written_counts rank (b ∷ bs) are =
    ap (λ a. then_answer a written.counts_of) (fixed_constants (b ∷ bs)) ∙ fixed_counts (b ∷ bs) are.1

pub counted_first : (rank : ℕ) (bounds : List (ℤ × ℤ)) → AreBounds rank bounds → length (first_counts rank bounds) ≡ rank
counted_first rank [] are = length-replicate rank 0
counted_first rank (b ∷ bs) are =
    length-map (map dimension_of (b ∷ bs)) (λ (d : Dimension). d.count) ∙ (length-map (b ∷ bs) dimension_of ∙ are.0)

-- ---- how many there are

none_ranked : (rank : ℕ) → (rank ≡ 0 → ⊥) → net.product (replicate rank 0) ≡ 0
none_ranked zero e = absurd (e refl)
none_ranked (suc rank) e = none_erased rank

pub first_size : (rank : ℕ) (bounds : List (ℤ × ℤ)) → (rank ≡ 0 → ⊥) → net.product (first_counts rank bounds) ≡ size (map dimension_of bounds)
first_size rank [] e = none_ranked rank e
first_size rank (b ∷ bs) e = products (map dimension_of (b ∷ bs))

more_than_none : (m p : ℕ) → 0 < p → 0 < suc m * p
more_than_none m p lt = grind arith

some_by : (b : ℤ × ℤ) (x : ℤ) (p : ℕ) → is_in_order b ≡ true → b.1 -ℤ b.0 ≡ x → 0 < p → 0 < count_from x * p
some_by b (pos i) p o e lt = more_than_none i p lt
some_by b (negsuc i) p o e lt = absurd (true≢false (sym o ∙ below b.0 b.1 i e))

some_in : (bs : List (ℤ × ℤ)) → list_all is_in_order bs ≡ true → 0 < source.product (map dimension_of bs)
some_in [] o = omega arith
some_in (b ∷ bs) o =
    let both : (is_in_order b ≡ true) × (list_all is_in_order bs ≡ true) = both_true (is_in_order b) (list_all is_in_order bs) o in
    some_by b (b.1 -ℤ b.0) (source.product (map dimension_of bs)) both.0 refl (some_in bs both.1)

first_same : (rank : ℕ) (bounds : List (ℤ × ℤ)) → AreBounds rank bounds → (rank ≡ 0 → ⊥) → is_within_limits (map dimension_of bounds) ≡ true
    → SameCounts (map dimension_of bounds) (first_counts rank bounds)
first_same rank [] are e small = no_counts (replicate rank 0) (none_ranked rank e)
first_same rank (b ∷ bs) are e small =
    same_counts (dimension_of b) (map dimension_of bs) (lt-ltb 0 (size (map dimension_of (b ∷ bs))) (some_in (b ∷ bs) are.1)) small

-- ---- the elements

module _ (U : Upgrade) (N : Numbers) (ty : Ty) (y : ValueN) (like : Matches N.same ty (first_scalar ty) y) where
  abbrev pub first : Value
  first = scalar ty (first_scalar ty)

  abbrev pub first_array : TypeName → (counts : List ℕ) → net.Array
  first_array t counts =
      record { element = shape.scalar t; counts = counts; elements = replicate (net.product counts) (net_value.single y) }

  module _ (t : TypeName) (word : scalar_word ty ≡ Some t) (rank : ℕ) (bounds : List (ℤ × ℤ)) (are : AreBounds rank bounds) (some : rank ≡ 0 → ⊥)
      (small : is_within_limits (map dimension_of bounds) ≡ true) where
    pub first_like : ArrayLike U N (simple ty) (map dimension_of bounds) (repeated (size (map dimension_of bounds)) first)
        (first_array t (first_counts rank bounds))
    first_like =
        same_elements (simple ty) (map dimension_of bounds) (repeated (size (map dimension_of bounds)) first) (first_array t (first_counts rank bounds))
        (same_scalar ty t word) (first_same rank bounds are some small)
        (subst (λ k. ItemsLike U N (repeated k first) (replicate (net.product (first_counts rank bounds)) (net_value.single y))) (first_size rank bounds some)
        (new_items U N ty y like (net.product (first_counts rank bounds))))
        (length-replicate (net.product (first_counts rank bounds)) (net_value.single y)) (new_flat U N ty y like (net.product (first_counts rank bounds)))

    first_is_small : is_small (size (map dimension_of bounds)) ≡ true
    first_is_small = (both_true (are_small (map dimension_of bounds)) (is_small (size (map dimension_of bounds))) small).1

    pub first_short : length (first_array t (first_counts rank bounds)).elements < 2 ^ 31
    first_short =
        subst (λ k. k < 2 ^ 31)
        (sym (length-replicate (net.product (first_counts rank bounds)) (net_value.single y) ∙ first_size rank bounds some))
        (ltb-true (size (map dimension_of bounds)) (2 ^ 31) first_is_small)

    pub first_fits : nat_le (net.product (first_counts rank bounds)) net.most_elements ≡ true
    first_fits = ap (λ k. nat_le k net.most_elements) (first_size rank bounds some) ∙ small_enough (size (map dimension_of bounds)) first_is_small
