-- The number of a new array comes into the cell of a position: of one where an array stood, which is made anew, or where nothing stood yet.
use Rattle.std.proofs.Common.{◌≡◌, refl, sym, ap, subst, ◌∙◌, ℕ, suc, ◌<◌, ◌≤◌, ◌^◌, true, cond, nat_eq, Some, List, length, arith}
use Rattle.up_base.proofs.Tests.{by_test}
use Rattle.net_meaning.specs.declared.value.ValueN.TheVariants as n
use Rattle.run_base.specs.Positions.{Position, updated, updated_at}
use Rattle.vb6_run.specs.Shapes.{Shape}
use Rattle.vb6_run.specs.Store.{Held, table}
use Rattle.vb6_run.specs.Values.{Dimension, Values}
use Rattle.net_run.specs.Store as net
use Rattle.run_matches.specs.Kinds.{KeepsKind}
use Rattle.run_matches.specs.Likeness.{numbers_of, ArrayLike}
use Rattle.run_matches.specs.Maps.{World, IsMatched, IsUnmade, is_fixed_position, moved_at, net_mark, root_variable}
use Rattle.run_matches.specs.Match.{HasArray, HasRank, HeldLike, holds_table, MemoryMatch}
use Rattle.run_matches.specs.Pledges.{IsLasting, Later, Pledge, Stays, kept_type, lasting, fixed_array, type_of_shape}
use Rattle.run_matches.specs.Upgrades.{Upgrade, part_variable}
use Rattle.memory_laws.specs.Changes.{GoesAlone, IsSuited}
use Rattle.memory_laws.specs.Rearranged.{rearranged, Rearranges, MayRearrange}
use Rattle.memory_laws.proofs.Flat.{array_more}
use Rattle.memory_laws.proofs.Moved.{moved_is_made, not_both_made}
use Rattle.memory_laws.proofs.Positions.{updated_here, updated_other, updated_at_below, updated_at_here}
use Rattle.memory_laws.proofs.Rearranged.{rearranged_later}
use Rattle.memory_laws.proofs.Tables.{array_number, table_element, table_not_blank}

not_old : (a b : ℕ) → a ≡ b → b < a → ⊥
not_old a b e lt = omega arith

one_more : (a : ℕ) → a ≤ suc a
one_more a = omega arith

new_below : (a b : ℕ) → a ≡ b → b < suc a
new_below a b e = omega arith

module _ (U : Upgrade) (w : World) (q : Position) (e : Shape) (dims : List Dimension) (xs : Values) (a : net.Array) where
  abbrev x : Held
  x = table e dims xs

  abbrev number : ℕ
  number = w.net.next_array

  abbrev cells : Position → net.Cell
  cells = updated w.net.cell (moved_at U w.map q) (net.holds (n.Array number))

  abbrev arrays : ℕ → net.Array
  arrays = updated_at w.net.arrays number a

  abbrev pub renewed : World
  renewed = rearranged w q x cells arrays (suc number)

  pub cell_here : cells (moved_at U w.map q) ≡ net.holds (n.Array number)
  cell_here = updated_here w.net.cell (moved_at U w.map q) (net.holds (n.Array number))

  pub array_here : arrays number ≡ a
  array_here = updated_at_here w.net.arrays number a

  module _ (h : MemoryMatch U w) (m : IsMatched U w q) (alone : GoesAlone U w q) (like : ArrayLike U (numbers_of w) e dims xs a)
      (short : length a.elements < 2 ^ 31) (suits : IsSuited U w q x) (same_rank : (rank : ℕ) → HasRank U w q rank → length a.counts ≡ rank)
      (ranked : (v u : ℕ) → root_variable w.map q.root ≡ Some v → part_variable U v q.path ≡ Some u → length a.counts ≡ U.facts.rank u) where
    number_is : (k : ℕ) → cells (moved_at U w.map q) ≡ net.holds (n.Array k) → number ≡ k
    number_is k f = array_number number k (sym cell_here ∙ f)

    like_here : HeldLike U (numbers_of renewed) x (cells (moved_at U w.map q))
    like_here =
        subst (λ c. HeldLike U (numbers_of renewed) x c) (sym cell_here)
        (holds_table e dims xs number
        (subst (λ b. ArrayLike U (numbers_of renewed) e dims xs b) (sym array_here)
        (array_more U (numbers_of w) (numbers_of renewed) (λ i j t. t) e dims xs a like)))

    still_short : (k : ℕ) → length (arrays k).elements < 2 ^ 31
    still_short k =
        by_test (nat_eq number k) (λ b. length (cond b a (w.net.arrays k)).elements < 2 ^ 31) (λ s. short) (λ o. h.stores.short k)

    other_cell : (p : Position) → (moved_at U w.map q ≡ p → ⊥) → cells p ≡ w.net.cell p
    other_cell p o = updated_other w.net.cell (moved_at U w.map q) (net.holds (n.Array number)) p o

    counts_here : length (arrays number).counts ≡ length a.counts
    counts_here = ap (λ (z : net.Array). length z.counts) array_here

    change : Rearranges U w q x cells arrays (suc number)
    change = record {
      suits = suits;
      like = like_here;
      others = λ p i o. other_cell (moved_at U w.map p) (λ s. o (alone p i s));
      unmapped = λ p u. other_cell p (λ s. u q m s);
      unmade = λ p u.
          other_cell p
          (λ s. not_both_made (net_mark w.net) (moved_at U w.map q).root (moved_is_made U w h.stores q.root m.is_made m.counterpart)
          (subst (λ (z : Position). IsUnmade (net_mark w.net) z.root) (sym s) u))
          ∙ h.stores.net_unmade p u;
      same_arrays = λ p k i o f. updated_at_below w.net.arrays number a k (h.stores.known p k i f);
      once = λ p k i o f g. not_old number k (number_is k g) (h.stores.known p k i f);
      known = λ k f. new_below number k (number_is k f);
      grows = one_more number;
      ranked = λ rank r. (number, cell_here, counts_here ∙ same_rank rank r);
      ranks = λ v u k r p f. ap (λ z. length (arrays z).counts) (sym (number_is k f)) ∙ (counts_here ∙ ranked v u r p);
      short = still_short;
      loose = λ k lt l. (updated_at_below w.net.arrays number a k lt, λ f. not_old number k (number_is k f) lt);
    }

    pub new_array_later : (K : Pledge) → MayRearrange U K w q x cells arrays (suc number) → Later U K w renewed
    new_array_later K may = rearranged_later U w q x cells arrays (suc number) h m change K may

-- ---- an array is made anew, where the pledge lets it

module _ (U : Upgrade) (w : World) (q : Position) (e : Shape) (dims new : List Dimension) (xs ys : Values) (old : ℕ) (a : net.Array) (h : MemoryMatch U w)
    (m : IsMatched U w q) (alone : GoesAlone U w q) (held : w.src.held q ≡ table e dims xs)
    (stands : w.net.cell (moved_at U w.map q) ≡ net.holds (n.Array old)) (like : ArrayLike U (numbers_of w) e new ys a)
    (counted : length a.counts ≡ length (w.net.arrays old).counts) (short : length a.elements < 2 ^ 31) where
  anew : IsSuited U w q (table e new ys)
  anew = record {
    kept = subst (λ g. KeepsKind g (table e new ys)) (sym held) (new, ys, refl);
    laid = λ r v key at b. absurd (table_not_blank e dims xs (sym held ∙ b));
  }

  as_before : (rank : ℕ) → HasRank U w q rank → length a.counts ≡ rank
  as_before rank r = counted ∙ (ap (λ z. length (w.net.arrays z).counts) (array_number old r.0 (sym stands ∙ r.1)) ∙ r.2)

  module _ (K : Pledge) (free : IsLasting U K w q → ⊥) (unkept : K.keeps (type_of_shape e) → ⊥) (movable : is_fixed_position U w.map q ≡ true → ⊥) where
    not_here : (d : Shape) (k : ℕ) → Stays U K w q d → HasArray U w q d k → ⊥
    not_here d k (kept_type keeps) has =
        unkept
        (subst (λ z. K.keeps (type_of_shape z)) (table_element d e has.dims dims has.values xs (sym has.held ∙ held)) keeps)
    not_here d k (lasting l) has = free l
    not_here d k (fixed_array f) has = movable f

    pub renewed_later : Later U K w (renewed U w q e new ys a)
    renewed_later =
        new_array_later U w q e new ys a h m alone like short anew as_before (λ v u r p. counted ∙ h.stores.ranks q v u old m r p stands) K
        (record { free = λ l i. free l; stays = λ d k s has. absurd (not_here d k s has) })
