-- The places of elements by their indexes, which both sides count alike.
use Rattle.std.proofs.Common.{◌≡◌, ◌⊎◌, inl, inr, refl, sym, ap, ◌∙◌, ℕ, zero, suc, ◌<◌, ◌≤◌, ◌+◌, ◌*◌, ℤ, pos, negsuc, ◌-ℤ◌, Bool, true, false, cond, ◌&&◌, List, [], ◌∷◌, length, Option, Some, None, arith, le-leb, le-ltb, ltb-true, ltb-false}
use Rattle.std.proofs.lemmas.Bool.{lt-leb}
use Rattle.std.proofs.lemmas.Int.{ints}
use Rattle.std.specs.Prelude.{int_le, int_lt, nat_lt, ◌^◌, slice_get}
use Rattle.vb6_meaning.specs.Answers.{Answer, then_answer}
use Rattle.vb6_meaning.specs.Answers as value
use Rattle.net_meaning.specs.declared.value.ValueN.TheVariants as n
use Rattle.vb6_run.specs.Arrays.{element_place, index_if, index_in, joined_index}
use Rattle.vb6_run.specs.Values.{Dimension, Values, is_small, are_small, is_within_limits, size, product, value_at}
use Rattle.net_run.specs.Store as net
use Rattle.net_run.specs.Values as net_value
use Rattle.run_matches.specs.Addresses.{IsIndex, is_index, SameIndex, SameIndexes, no_indexes, free_index, next_index}
use Rattle.run_matches.specs.Likeness.{counts_of, SameCounts, no_counts, same_counts, Numbers, ItemsLike, no_items, next_item, ValueLike}
use Rattle.run_matches.specs.Upgrades.{Upgrade}
use Rattle.agreeing_laws.specs.Promises.{Follows, from_none, from_some}
use Rattle.up_base.proofs.Tests.{both_true}

-- ---- one index

-- what the source finds, as an answer
abbrev pub as_answer : Option ℕ → Answer ℕ
as_answer None = value.raises 9
as_answer (Some i) = value.gives i

-- an index that counts from 0, in a dimension of so many
abbrev in_count : ℕ → ℤ → Option ℕ
in_count c (pos m) = cond (nat_lt m c) (Some m) None
in_count c (negsuc m) = None

at_least : (low z : ℤ) (m : ℕ) → z -ℤ low ≡ pos m → int_le low z ≡ true
at_least (pos a) (pos b) m e = le-leb a b (omega (arith, ints))
at_least (pos a) (negsuc b) m e = absurd (omega (arith, ints))
at_least (negsuc a) (pos b) m e = refl
at_least (negsuc a) (negsuc b) m e = le-leb b a (omega (arith, ints))

pub below : (low z : ℤ) (m : ℕ) → z -ℤ low ≡ negsuc m → int_le low z ≡ false
below (pos a) (pos b) m e = lt-leb a b (omega (arith, ints))
below (pos a) (negsuc b) m e = refl
below (negsuc a) (pos b) m e = absurd (omega (arith, ints))
below (negsuc a) (negsuc b) m e = lt-leb b a (omega (arith, ints))

some_if : (b : Bool) (m : ℕ) → index_if b (pos m) ≡ cond b (Some m) None
some_if true m = refl
some_if false m = refl

source_place : (low z x : ℤ) (c : ℕ) → z -ℤ low ≡ x → index_if (int_le low z && int_lt (z -ℤ low) (pos c)) (z -ℤ low) ≡ in_count c x
source_place low z (pos m) c e =
    ap (λ y. index_if (int_le low z && int_lt y (pos c)) y) e
    ∙ ap (λ b. index_if (b && int_lt (pos m) (pos c)) (pos m)) (at_least low z m e)
    ∙ some_if (nat_lt m c) m
source_place low z (negsuc m) c e =
    ap (λ y. index_if (int_le low z && int_lt y (pos c)) y) e
    ∙ ap (λ b. index_if (b && int_lt (negsuc m) (pos c)) (negsuc m)) (below low z m e)

answer_if : (b : Bool) (i : ℕ) → cond b (value.gives i) (value.raises 9) ≡ as_answer (cond b (Some i) None)
answer_if true i = refl
answer_if false i = refl

net_place : (c : ℕ) (i : ℤ) → net.index_in c (net_value.single (n.Integer i)) ≡ as_answer (in_count c i)
net_place c (pos i) = answer_if (nat_lt i c) i
net_place c (negsuc i) = refl

-- what is no index is in no dimension
past : (c : ℕ) (x : ℤ) → is_small c ≡ true → is_index x ≡ false → in_count c x ≡ None
past c (pos m) small none =
    let below : c < 2147483648 = ltb-true c 2147483648 small in
    let above : 2147483648 ≤ m = ltb-false m 2147483648 none in
    ap (λ b. cond b (Some m) None) (le-ltb m c (omega arith))
past c (negsuc m) small none = refl

index_is : (d : Dimension) (z i : ℤ) → is_small d.count ≡ true → (i ≡ z -ℤ d.low) ⊎ ((is_index (z -ℤ d.low) ≡ false) × (is_index i ≡ false))
    → net.index_in d.count (net_value.single (n.Integer i)) ≡ as_answer (index_in d z)
index_is d z i small (inl e) =
    net_place d.count i ∙ ap (λ x. as_answer (in_count d.count x)) e ∙ ap as_answer (sym (source_place d.low z (z -ℤ d.low) d.count refl))
index_is d z i small (inr h) =
    net_place d.count i ∙ ap as_answer (past d.count i small h.1)
    ∙ ap as_answer (sym (source_place d.low z (z -ℤ d.low) d.count refl ∙ past d.count (z -ℤ d.low) small h.0))

index_agrees : (d : Dimension) (z : ℤ) (y : net_value.Value) → is_small d.count ≡ true → SameIndex d.low z y
    → net.index_in d.count y ≡ as_answer (index_in d z)
index_agrees d z (net_value.single (n.Integer i)) small h = index_is d z i small h
index_agrees d z (net_value.single _) small h = absurd h
index_agrees d z _ small h = absurd h

-- ---- several indexes

abbrev placed : ℕ → Option ℕ → Answer ℕ
placed k None = value.raises 9
placed k (Some j) = value.gives (k + j)

regrouped : (k c i p j : ℕ) → (k * c + i) * p + j ≡ k * (c * p) + (i * p + j)
regrouped k c i p j = grind arith

alone : (k : ℕ) → k ≡ k * 1 + 0
alone k = omega arith

more_placed : (k c i p : ℕ) (o : Option ℕ) → placed ((k * c + i) * p) o ≡ placed (k * (c * p)) (joined_index p (Some i) o)
more_placed k c i p None = refl
more_placed k c i p (Some j) = ap (λ m. value.gives m) (regrouped k c i p j)

-- what is behind the first index
behind : (k c p : ℕ) (rest : Option ℕ) (go : ℕ → Answer ℕ) → ((m : ℕ) → go m ≡ placed (m * p) rest) → (o : Option ℕ)
    → then_answer (as_answer o) (λ j. go (k * c + j)) ≡ placed (k * (c * p)) (joined_index p o rest)
behind k c p rest go h None = refl
behind k c p rest go h (Some i) = h (k * c + i) ∙ more_placed k c i p rest

places : (dims : List Dimension) (zs : List ℤ) (ys : List net_value.Value) → SameIndexes dims zs ys → are_small dims ≡ true
    → length (counts_of dims) ≡ length ys → (k : ℕ) → net.place_in (counts_of dims) ys k ≡ placed (k * product dims) (element_place dims zs)
places _ _ _ no_indexes small e k = ap (λ j. value.gives j) (alone k)
places _ _ _ (free_index z y zs ys is rest) small e k = absurd (omega arith)
places _ _ _ (next_index d dims z y zs ys h rest) small e k =
    let both = both_true (is_small d.count) (are_small dims) small in
    let fewer : length (counts_of dims) ≡ length ys = omega arith in
    ap (λ a. then_answer a (λ j. net.place_in (counts_of dims) ys (k * d.count + j))) (index_agrees d z y both.0 h)
    ∙ behind k d.count (product dims) (element_place dims zs) (net.place_in (counts_of dims) ys)
    (λ m. places dims zs ys rest both.1 fewer m) (index_in d z)

-- ---- an array that isn't allocated

no_product : (m p : ℕ) → suc m * p ≡ 0 → p ≡ 0
no_product m p e = grind arith

in_none : (m : ℕ) → cond (nat_lt m 0) (Some m) None ≡ None
in_none m = ap (λ b. cond b (Some m) None) (le-ltb m 0 (omega arith))

none_in : (i : ℤ) → in_count 0 i ≡ None
none_in (pos m) = in_none m
none_in (negsuc m) = refl

answer_ends : (o : Option ℕ) (go : ℕ → Answer ℕ) → ((j : ℕ) → go j ≡ value.raises 9) → then_answer (as_answer o) go ≡ value.raises 9
answer_ends None go h = refl
answer_ends (Some j) go h = h j

-- a dimension without indexes, or what is behind it
one_ends : (c p : ℕ) (i : ℤ) (go : ℕ → Answer ℕ) → c * p ≡ 0 → (p ≡ 0 → (j : ℕ) → go j ≡ value.raises 9)
    → then_answer (as_answer (in_count c i)) go ≡ value.raises 9
one_ends zero p i go none h = ap (λ o. then_answer (as_answer o) go) (none_in i)
one_ends (suc m) p i go none h = answer_ends (in_count (suc m) i) go (h (no_product m p none))

free : (zs : List ℤ) (ys : List net_value.Value) (counts : List ℕ) → SameIndexes [] zs ys → length counts ≡ length ys → net.product counts ≡ 0
    → (k : ℕ) → net.place_in counts ys k ≡ value.raises 9
free _ _ [] no_indexes e none k = absurd (omega arith)
free _ _ (c ∷ counts) no_indexes e none k = absurd (omega arith)
free _ _ [] (free_index z y zs ys is rest) e none k = absurd (omega arith)
free _ _ (c ∷ counts) (free_index z (net_value.single (n.Integer i)) zs ys is rest) e none k =
    let fewer : length counts ≡ length ys = omega arith in
    ap (λ a. then_answer a (λ j. net.place_in counts ys (k * c + j))) (net_place c i)
    ∙ one_ends c (net.product counts) i (λ j. net.place_in counts ys (k * c + j)) none (λ p j. free zs ys counts rest fewer p (k * c + j))
free _ _ (c ∷ counts) (free_index z (net_value.single _) zs ys is rest) e none k = absurd is
free _ _ (c ∷ counts) (free_index z _ zs ys is rest) e none k = absurd is

-- ---- the place of an element

from_first : (p : ℕ) (o : Option ℕ) → placed (0 * p) o ≡ as_answer o
from_first p None = refl
from_first p (Some j) = ap (λ m. value.gives m) (first_is p j)
  where
    first_is : (p j : ℕ) → 0 * p + j ≡ j
    first_is p j = omega arith

-- an array that isn't allocated raises 9 on both sides, and so does an index that is out of bounds
pub place_agrees : (dims : List Dimension) (counts : List ℕ) (zs : List ℤ) (ys : List net_value.Value) → SameCounts dims counts
    → SameIndexes dims zs ys → length counts ≡ length ys → net.place_in counts ys 0 ≡ as_answer (element_place dims zs)
place_agrees _ _ [] ys (no_counts counts none) h e = no_rank counts ys h e none
  where
    no_rank : (counts : List ℕ) (ys : List net_value.Value) → SameIndexes [] [] ys → length counts ≡ length ys → net.product counts ≡ 0
        → net.place_in counts ys 0 ≡ value.gives 0
    no_rank [] _ no_indexes e p = absurd (omega arith)
    no_rank (c ∷ counts) _ no_indexes e p = absurd (omega arith)
place_agrees _ _ (z ∷ zs) ys (no_counts counts none) h e = free (z ∷ zs) ys counts h e none 0
place_agrees _ _ zs ys (same_counts d dims some within) h e =
    places (d ∷ dims) zs ys h (both_true (are_small (d ∷ dims)) (is_small (size (d ∷ dims))) within).0 e 0
    ∙ from_first (product (d ∷ dims)) (element_place (d ∷ dims) zs)

-- ---- elements at a place

pub items_follow : (U : Upgrade) (N : Numbers) (xs : Values) (ys : List net_value.Value) → ItemsLike U N xs ys → (j : ℕ)
    → Follows (ValueLike U N) (value_at xs j) (slice_get ys j)
items_follow U N _ _ no_items j = from_none (slice_get [] j)
items_follow U N _ _ (next_item x y xs ys m rest) zero = from_some x y m
items_follow U N _ _ (next_item x y xs ys m rest) (suc j) = items_follow U N xs ys rest j
