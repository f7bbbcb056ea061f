-- A scalar is written to an element of an array on both sides.
use Rattle.std.proofs.Common.{◌≡◌, refl, sym, ap, subst, ◌∙◌, ℕ, ◌<◌, ◌^◌, ℤ, true, cond, nat_eq, Option, Some, None, List, [], length, eqb-true}
use Rattle.std.specs.Prelude.{option_and_then, slice_get, slice_set}
use Rattle.std.proofs.lemmas.List.{length-set}
use Rattle.up_base.proofs.Tests.{by_test}
use Rattle.vb_tree.specs.BoundTree.{Ty}
use Rattle.vb_tree.specs.declared.value.Value6.{Value6}
use Rattle.net_tree.specs.Types.{TypeName}
use Rattle.net_meaning.specs.declared.value.ValueN.{ValueN}
use Rattle.net_meaning.specs.declared.value.ValueN.TheVariants as n
use Rattle.vb6_meaning.specs.Answers.{Answer}
use Rattle.vb6_meaning.specs.Answers as value
use Rattle.run_base.specs.Outcomes.{Outcome, gives, outside, then, some_of, answered}
use Rattle.run_base.specs.Positions.{Position, updated_at}
use Rattle.vb6_run.specs.Arrays.{element_place, item_if, with_held_array}
use Rattle.vb6_run.specs.Expressions as source
use Rattle.vb6_run.specs.Shapes.{Shape, simple, array}
use Rattle.vb6_run.specs.Store.{Address, Memory, root, item, Locked, Held, table, with_held, write, put_item}
use Rattle.vb6_run.specs.Values.{Value, scalar, value_at, with_value_at, with_known_part}
use Rattle.net_run.specs.Expressions as target
use Rattle.net_run.specs.Names as net_names
use Rattle.net_run.specs.Shapes as shape
use Rattle.net_run.specs.Store as net
use Rattle.net_run.specs.Values as net_value
use Rattle.run_matches.specs.Addresses.{SameIndexes}
use Rattle.run_matches.specs.Agreeing.{Agrees}
use Rattle.run_matches.specs.CoveredVariables.{covers_type}
use Rattle.run_matches.specs.Kinds.{KeepsKind}
use Rattle.run_matches.specs.Likeness.{numbers_of, are_same, scalar_word, Like, LikeV, like_scalar, ValueLike, ArrayLike}
use Rattle.run_matches.specs.Maps.{World, IsMatched, moved_at}
use Rattle.run_matches.specs.Match.{HasArray, HeldLike, holds_table, MemoryMatch}
use Rattle.run_matches.specs.Pledges.{IsOld, Later, Pledge}
use Rattle.run_matches.specs.Upgrades.{Upgrade}
use Rattle.run_statements.specs.Frames.{AnyUnits, ElementMatch}
use Rattle.run_statements.specs.Memory.{ElementsAreWritten}
use Rattle.agreeing_laws.specs.Promises.{Follows, from_none, from_some}
use Rattle.agreeing_laws.proofs.Agreeing.{agrees_outside, agrees_raises, left_alone, right_alone}
use Rattle.agreeing_laws.proofs.Indexes.{as_answer, items_follow, place_agrees}
use Rattle.agreeing_laws.proofs.Made.{up_self}
use Rattle.memory_laws.specs.Changes.{IsSuited}
use Rattle.memory_laws.specs.Rearranged.{rearranged, Rearranges}
use Rattle.memory_laws.proofs.ArrayItems.{flat_scalar}
use Rattle.memory_laws.proofs.Positions.{updated_here, updated_at_here, updated_at_other}
use Rattle.memory_laws.proofs.Reading.{HasWord, word_of_shape}
use Rattle.memory_laws.proofs.Rearranged.{rearranged_later}
use Rattle.memory_laws.proofs.Flat.{array_more}
use Rattle.memory_laws.proofs.Scalars.{kept_scalar, scalar_of_word}
use Rattle.memory_laws.proofs.Tables.{array_set, counts_like, items_of, table_element, table_like, table_not_blank}

module _ (U : Upgrade) (K : Pledge) (w : World) (ty : Ty) (z : Value6) (y : ValueN) (h : MemoryMatch U w) (q : Position) (k : ℕ) (m : IsMatched U w q)
    (has : HasArray U w q (simple ty) k) (own : K.steady → IsOld K q.root → ⊥) (like : Like w ty z y) where
  abbrev v : net_value.Value
  v = net_value.single y

  abbrev x : Value
  x = scalar ty z

  like_old : ArrayLike U (numbers_of w) (simple ty) has.dims has.values (w.net.arrays k)
  like_old =
      table_like U w (w.src.held q) (w.net.cell (moved_at U w.map q)) (simple ty) has.dims has.values k (h.stores.values q m) has.held has.cell

  -- ---- the element of a place changes

  module _ (j : ℕ) where
    abbrev new : net.Array
    new = record (w.net.arrays k) { elements = slice_set (w.net.arrays k).elements j v }

    abbrev arrays : ℕ → net.Array
    arrays = updated_at w.net.arrays k new

    abbrev held : Held
    held = table (simple ty) has.dims (with_value_at has.values j x)

    abbrev after : World
    after = rearranged w q held w.net.cell arrays w.net.next_array

    suits : IsSuited U w q held
    suits = record {
      kept = subst (λ g. KeepsKind g held) (sym has.held) (has.dims, with_value_at has.values j x, refl);
      laid = λ r u key at b. absurd (table_not_blank (simple ty) has.dims has.values (sym has.held ∙ b));
    }

    like_new : HeldLike U (numbers_of after) held (w.net.cell (moved_at U w.map q))
    like_new =
        subst (λ c. HeldLike U (numbers_of after) held c) (sym has.cell)
        (holds_table (simple ty) has.dims (with_value_at has.values j x) k
        (subst (λ a. ArrayLike U (numbers_of after) (simple ty) has.dims (with_value_at has.values j x) a) (sym (updated_at_here w.net.arrays k new))
        (array_more U (numbers_of w) (numbers_of after) (λ a b t. t) (simple ty) has.dims (with_value_at has.values j x) new
        (array_set U (numbers_of w) (simple ty) has.dims has.values (w.net.arrays k) j x v (flat_scalar (are_same w) ty z y like)
        (like_scalar ty z y like) like_old))))

    other_array : (a : ℕ) → (k ≡ a → ⊥) → arrays a ≡ w.net.arrays a
    other_array a o = updated_at_other w.net.arrays k new a o

    same_counts : (a : ℕ) → (arrays a).counts ≡ (w.net.arrays a).counts
    same_counts a =
        by_test (nat_eq k a) (λ b. (cond b new (w.net.arrays a)).counts ≡ (w.net.arrays a).counts)
        (λ s. ap (λ i. (w.net.arrays i).counts) (eqb-true k a s)) (λ o. refl)

    still_short : (a : ℕ) → length (arrays a).elements < 2 ^ 31
    still_short a =
        by_test (nat_eq k a) (λ b. length (cond b new (w.net.arrays a)).elements < 2 ^ 31)
        (λ s. subst (λ i. i < 2 ^ 31) (sym (length-set (w.net.arrays k).elements j v)) (h.stores.short k)) (λ o. h.stores.short a)

    change : Rearranges U w q held w.net.cell arrays w.net.next_array
    change = record {
      suits = suits;
      like = like_new;
      others = λ p i o. refl;
      unmapped = λ p u. refl;
      unmade = h.stores.net_unmade;
      same_arrays = λ p a i o e.
          other_array a (λ s. o (h.stores.apart q p k m i has.cell (subst (λ b. w.net.cell (moved_at U w.map p) ≡ net.holds (n.Array b)) (sym s) e)));
      once = λ p a i o e f. o (h.stores.apart q p a m i f e);
      known = λ a f. h.stores.known q a m f;
      grows = up_self w.net.next_array;
      ranked = λ rank r. (r.0, r.1, ap length (same_counts r.0) ∙ r.2);
      ranks = λ s u a r p f. ap length (same_counts a) ∙ h.stores.ranks q s u a m r p f;
      short = still_short;
      loose = λ a lt l. (other_array a (λ s. l q m (subst (λ b. w.net.cell (moved_at U w.map q) ≡ net.holds (n.Array b)) s has.cell)), l q m);
    }

    still_there : (e : Shape) (a : ℕ) → HasArray U w q e a → HasArray U after q e a
    still_there e a old =
        subst (λ s. HasArray U after q s a)
        (sym (table_element e (simple ty) old.dims has.dims old.values has.values (sym old.held ∙ has.held)))
        (record { dims = has.dims; values = with_value_at has.values j x; held = updated_here w.src.held q held; cell = old.cell })

    element_later : Later U K w after
    element_later =
        rearranged_later U w q held w.net.cell arrays w.net.next_array h m change K
        (record { free = λ l i. own l.steady l.old; stays = λ e a s old. still_there e a old })

    abbrev puts : Option Value → Outcome Memory Unit
    puts o =
        some_of (option_and_then (with_known_part [] x) o)
        (λ b s. gives [] tt (with_held q (table (simple ty) has.dims (with_value_at has.values j b)) s)) w.src

    -- an element that isn't there takes nothing
    put_agrees : (o : Option Value) (p : Option net_value.Value) → Follows (ValueLike U (numbers_of w)) o p
        → Agrees U K w AnyUnits (puts o) (net.put_element k j [] v p w.net)
    put_agrees _ _ (from_none p) = agrees_outside U K w AnyUnits (net.put_element k j [] v p w.net)
    put_agrees _ _ (from_some a b f) = (refl, w.map, tt, element_later)

    module _ (locked : Locked) (t : TypeName) (c : covers_type ty ≡ true) (word : scalar_word ty ≡ Some t) where
      pub item_agrees : Agrees U K w AnyUnits (write locked x (item (simple ty) q j []) w.src) (net.written (net.item (shape.scalar t) k j []) v w.net)
      item_agrees =
          subst
          (λ o. Agrees U K w AnyUnits (some_of o (λ b s. put_item (s.held q) q j [] b s) w.src) (net.written (net.item (shape.scalar t) k j []) v w.net))
          (sym (kept_scalar (are_same w) ty z y c like))
          (subst
          (λ b. Agrees U K w AnyUnits (put_item (w.src.held q) q j [] x w.src)
          (cond b (net.put_element k j [] v (slice_get (w.net.arrays k).elements j) w.net) (outside [])))
          (sym (scalar_of_word (are_same w) ty z y t c word like))
          (subst
          (λ g. Agrees U K w AnyUnits (put_item g q j [] x w.src) (net.put_element k j [] v (slice_get (w.net.arrays k).elements j) w.net))
          (sym has.held)
          (put_agrees (value_at has.values j) (slice_get (w.net.arrays k).elements j)
          (items_follow U (numbers_of w) has.values (w.net.arrays k).elements
          (items_of U (numbers_of w) (simple ty) has.dims has.values (w.net.arrays k) like_old) j))))

  -- ---- by its indexes

  module _ (locked : Locked) (t : TypeName) (c : covers_type ty ≡ true) (word : scalar_word ty ≡ Some t) (bounds : List (ℤ × ℤ)) where
    abbrev from : Address
    from = root (array (simple ty) bounds) q

    abbrev stores : Address → Memory → Outcome Memory Unit
    stores = write locked x

    abbrev net_stores : Answer ℕ → Outcome net.Memory Unit
    net_stores a =
        then (then (answered a w.net) (λ j s. gives [] (net.item (shape.scalar t) k j []) s)) (λ b s. net.written b v s)

    place_agreed : (o : Option ℕ) → Agrees U K w AnyUnits (then (item_if from (simple ty) has.values o w.src) stores) (net_stores (as_answer o))
    place_agreed None = agrees_raises U K w AnyUnits 9 h
    place_agreed (Some j) =
        left_alone U K w AnyUnits (write locked x (item (simple ty) q j []) w.src) (net_stores (value.gives j))
        (right_alone U K w AnyUnits (write locked x (item (simple ty) q j []) w.src) (net.written (net.item (shape.scalar t) k j []) v w.net)
        (item_agrees j locked t c word))

    pub element_is_written : (zs : List ℤ) (ys : List net_value.Value) → SameIndexes has.dims zs ys → length (w.net.arrays k).counts ≡ length ys
        → Agrees U K w AnyUnits
        (then (source.finished (source.at_element from zs) w.src) stores)
        (then (target.finished (net_names.at_element (shape.scalar t) (net_value.single (n.Array k)) ys) w.net) (λ b s. net.written b v s))
    element_is_written zs ys same counted =
        subst
        (λ g. Agrees U K w AnyUnits
        (then (with_held_array g (λ e dims xs s. item_if from e xs (element_place dims zs) s) w.src) stores)
        (net_stores (net.place_in (w.net.arrays k).counts ys 0)))
        (sym has.held)
        (subst (λ a. Agrees U K w AnyUnits (then (item_if from (simple ty) has.values (element_place has.dims zs) w.src) stores) (net_stores a))
        (sym (place_agrees has.dims (w.net.arrays k).counts zs ys
        (counts_like U (numbers_of w) (simple ty) has.dims has.values (w.net.arrays k) like_old) same counted))
        (place_agreed (element_place has.dims zs)))

from_found : (a b : net_names.Parts) → net_names.found_at a ≡ net_names.found_at b → a ≡ b
from_found a b e = cc

module _ (U : Upgrade) where
  abbrev Writes : Pledge → World → Locked → Ty → Value6 → source.Parts → net_names.Parts → net_value.Value → Type 0
  Writes K w locked ty z x ps y =
      Agrees U K w AnyUnits (then (source.finished x w.src) (write locked (scalar ty z))) (then (target.finished ps w.net) (λ b s. net.written b y s))

  like_is_written : (K : Pledge) (w : World) (locked : Locked) (ty : Ty) (x : source.Parts) (ps : net_names.Parts) (z : Value6) (y : net_value.Value)
      → covers_type ty ≡ true → MemoryMatch U w → (m : ElementMatch U ty w x (net_names.found_at ps)) → (K.steady → IsOld K m.position.root → ⊥)
      → (word : HasWord ty m.written) → LikeV U w (scalar ty z) y
      → Writes K w locked ty z (source.at_element (root (array (simple ty) m.bounds) m.position) m.indexes)
      (net_names.at_element (shape.scalar word.0) (net_value.single (n.Array m.array)) m.net_indexes) y
  like_is_written K w locked _ x ps _ _ c h m own word (like_scalar ty z y like) =
      element_is_written U K w ty z y h m.position m.array m.is_matched m.has own like locked word.0 c word.2 m.bounds m.indexes m.net_indexes
      m.same_indexes m.counted

  pub elements_are_written : ElementsAreWritten U
  elements_are_written K w locked ty x ps z y c h m own like =
      let word : HasWord ty m.written = word_of_shape U ty m.written c m.same in
      let there : ps ≡ net_names.at_element (shape.scalar word.0) (net_value.single (n.Array m.array)) m.net_indexes =
      from_found ps (net_names.at_element m.written (net_value.single (n.Array m.array)) m.net_indexes) m.net_stands
      ∙ ap (λ d. net_names.at_element d (net_value.single (n.Array m.array)) m.net_indexes) word.1 in
      subst (λ a. Writes K w locked ty z a ps y) (sym m.stands)
      (subst (λ a. Writes K w locked ty z (source.at_element (root (array (simple ty) m.bounds) m.position) m.indexes) a y) (sym there)
      (like_is_written K w locked ty x ps z y c h m own word like))
