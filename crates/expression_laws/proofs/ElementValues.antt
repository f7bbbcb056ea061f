-- Elements of arrays, once the source has asked for the bounds of the array, and their values.
use Rattle.std.proofs.Common.{◌≡◌, refl, sym, ap, subst, ◌∙◌, ℕ, ℤ, true, List, [], Option, Some, None}
use Rattle.std.specs.Prelude.{option_and_then, slice_get}
use Rattle.vb_tree.specs.BoundTree.{Ty}
use Rattle.vb6_meaning.specs.Answers.{Answer}
use Rattle.bound_tree.specs.Tree.{Expr, typed, element, Exprs}
use Rattle.net_meaning.specs.declared.value.ValueN.TheVariants as n
use Rattle.run_base.specs.Outcomes.{Outcome, after, answered, found, gives, raises, then}
use Rattle.run_base.specs.Positions.{Position}
use Rattle.vb6_run.specs.Arrays.{element_place, item_if, with_held_array}
use Rattle.vb6_run.specs.Expressions as source
use Rattle.vb6_run.specs.Expressions.{Context, Parts, at_element, declared, lows_at, type_shape}
use Rattle.vb6_run.specs.Shapes.{Shape, array, simple}
use Rattle.vb6_run.specs.Store as store
use Rattle.vb6_run.specs.Store.{Address, Held, Memory, item, item_in, provided, root, table}
use Rattle.vb6_run.specs.Values.{Dimension, Value, Values, is_of_shape, part_in, value_at}
use Rattle.net_run.specs.Expressions as target
use Rattle.net_run.specs.Making.{Jobs}
use Rattle.net_run.specs.Names as net_names
use Rattle.net_run.specs.Names.{Reached}
use Rattle.net_run.specs.Shapes as shape
use Rattle.net_run.specs.Store as net
use Rattle.net_run.specs.Values as net_value
use Rattle.row_laws.proofs.Composing.{after_nil, then_assoc}
use Rattle.run_matches.specs.Agreeing.{Agrees}
use Rattle.run_matches.specs.CoveredVariables.{covers_type}
use Rattle.run_matches.specs.Likeness.{ArrayLike, ItemsLike, LikeV, SameCounts, numbers_of, same_elements}
use Rattle.run_matches.specs.Maps.{World, moved_at}
use Rattle.run_matches.specs.Match.{Holds, MemoryMatch, holds_blank, holds_parts, holds_single, holds_table}
use Rattle.run_matches.specs.Pledges.{Pledge}
use Rattle.run_matches.specs.Upgrades.{Upgrade}
use Rattle.run_statements.specs.Elements.{IndexedMatch, takes}
use Rattle.run_statements.specs.Frames.{ElementMatch, ScalarMatch}
use Rattle.agreeing_laws.specs.Promises.{Follows, from_none, from_some}
use Rattle.agreeing_laws.proofs.Agreeing.{agrees_gives, agrees_outside, agrees_raises, left_alone, then_agrees}
use Rattle.expression_laws.proofs.Checks.{provided_agrees, source_then, value_checked}
use Rattle.agreeing_laws.proofs.Indexes.{as_answer, items_follow, place_agrees}

-- ---- the bounds are asked

abbrev Pair : Type 0
Pair = Address × List ℤ

-- the array and the indexes, and then the bounds
parts_are : (C : Context) (a : Expr) (ty : Ty) (indexes : Exprs) (w : Memory)
    → then (then (source.address_of C a w) (λ b s. then (source.indexes_of C indexes s) (λ zs s. gives [] (b, zs) s)))
    (λ (x : Pair) s. source.element_parts C a x.0 x.1 s)
    ≡ source.term_parts C ty (element a indexes) w
parts_are C a ty indexes w =
    then_assoc (source.address_of C a w) (λ b s. then (source.indexes_of C indexes s) (λ zs s. gives [] (b, zs) s))
    (λ (x : Pair) s. source.element_parts C a x.0 x.1 s)
    ∙ ap (λ k. then (source.address_of C a w) k) (λ i b s. at b s i)
  where
    at : (b : Address) (s : Memory)
        → then (then (source.indexes_of C indexes s) (λ zs s. gives [] (b, zs) s)) (λ (x : Pair) s. source.element_parts C a x.0 x.1 s)
        ≡ then (source.indexes_of C indexes s) (λ zs s. source.element_parts C a b zs s)
    at b s =
        then_assoc (source.indexes_of C indexes s) (λ zs s. gives [] (b, zs) s) (λ (x : Pair) s. source.element_parts C a x.0 x.1 s)
        ∙ ap (λ k. then (source.indexes_of C indexes s) k) (λ i zs s. after_nil (source.element_parts C a b zs s) i)

module _ (U : Upgrade) (K : Pledge) (C : Context) (a : Expr) (ty : Ty) where
  taken_agrees : (w : World) (b : Address) (zs : List ℤ) (r : Reached) → MemoryMatch U w → IndexedMatch U (lows_at C a) ty w (b, zs) r
      → Agrees U K w (ElementMatch U ty) (source.element_parts C a b zs w.src) (gives [] r w.net)
  taken_agrees w b zs r start m =
      let at : Address = root (array (simple ty) m.bounds) m.position in
      let go = λ (s : Shape) (dims : List Dimension) (xs : Values) (w : Memory).
      provided (takes (lows_at C a) dims zs) (λ w. gives [] (at_element at zs) w) w in
      subst (λ z. Agrees U K w (ElementMatch U ty) (source.element_parts C a z zs w.src) (gives [] r w.net)) (sym m.stands)
      (subst (λ h. Agrees U K w (ElementMatch U ty) (with_held_array h go w.src) (gives [] r w.net)) (sym m.has.held)
      (provided_agrees U K w (ElementMatch U ty) (takes (lows_at C a) m.has.dims zs) (at_element at zs) (gives [] r w.net)
      (λ taken.
      agrees_gives U K w (ElementMatch U ty) (at_element at zs) r start (record {
        position = m.position;
        bounds = m.bounds;
        written = m.written;
        array = m.array;
        is_matched = m.is_matched;
        plain = m.plain;
        has = m.has;
        same = m.same;
        indexes = zs;
        net_indexes = m.net_indexes;
        stands = refl;
        net_stands = m.net_stands;
        same_indexes = m.same_indexes taken;
        counted = m.counted;
      }))))

  pub element_agrees : (indexes : Exprs) (w : World) (r' : Outcome net.Memory Reached) → MemoryMatch U w
      → Agrees U K w (IndexedMatch U (lows_at C a) ty)
      (then (source.address_of C a w.src) (λ b s. then (source.indexes_of C indexes s) (λ zs s. gives [] (b, zs) s))) r'
      → Agrees U K w (ElementMatch U ty) (source.term_parts C ty (element a indexes) w.src) r'
  element_agrees indexes w r' start h =
      subst (λ z. Agrees U K w (ElementMatch U ty) z r') (parts_are C a ty indexes w.src)
      (source_then U K w (IndexedMatch U (lows_at C a) ty) (ElementMatch U ty)
      (then (source.address_of C a w.src) (λ b s. then (source.indexes_of C indexes s) (λ zs s. gives [] (b, zs) s))) r'
      (λ (x : Pair) s. source.element_parts C a x.0 x.1 s) start h (λ x r v m l. taken_agrees v x.0 x.1 r l.match m))

-- ---- the array in the memories

pub elements_of : (U : Upgrade) (w : World) (h : Held) (c : net.Cell) (e : Shape) (dims : List Dimension) (xs : Values) (k : ℕ) → Holds U w h c
    → h ≡ table e dims xs → c ≡ net.holds (n.Array k) → ArrayLike U (numbers_of w) e dims xs (w.net.arrays k)
elements_of U w _ _ e dims xs k holds_blank is at = absurd (cc is)
elements_of U w _ _ e dims xs k (holds_single ty x y m) is at = absurd (cc is)
elements_of U w _ _ e dims xs k holds_parts is at = absurd (cc is)
elements_of U w _ _ e dims xs k (holds_table d others ys j like) is at =
    let shaped : d ≡ e = cc is in
    let sized : others ≡ dims = cc is in
    let filled : ys ≡ xs = cc is in
    let numbered : j ≡ k = cc at in
    subst (λ z. ArrayLike U (numbers_of w) z dims xs (w.net.arrays k)) shaped
    (subst (λ z. ArrayLike U (numbers_of w) d z xs (w.net.arrays k)) sized
    (subst (λ z. ArrayLike U (numbers_of w) d others z (w.net.arrays k)) filled
    (subst (λ z. ArrayLike U (numbers_of w) d others ys (w.net.arrays z)) numbered like)))

pub sizes_of : (U : Upgrade) (w : World) (e : Shape) (dims : List Dimension) (xs : Values) (a : net.Array) → ArrayLike U (numbers_of w) e dims xs a
    → SameCounts dims a.counts
sizes_of U w _ _ _ _ (same_elements e dims xs a shaped counts items sized flat) = counts

pub items_of : (U : Upgrade) (w : World) (e : Shape) (dims : List Dimension) (xs : Values) (a : net.Array) → ArrayLike U (numbers_of w) e dims xs a
    → ItemsLike U (numbers_of w) xs a.elements
items_of U w _ _ _ _ (same_elements e dims xs a shaped counts items sized flat) = items

pub element_like : (U : Upgrade) (w : World) → MemoryMatch U w → (ty : Ty) (x : Parts) (r : Reached) (m : ElementMatch U ty w x r)
    → ArrayLike U (numbers_of w) (simple ty) m.has.dims m.has.values (w.net.arrays m.array)
element_like U w start ty x r m =
    elements_of U w (w.src.held m.position) (w.net.cell (moved_at U w.map m.position)) (simple ty) m.has.dims m.has.values m.array
    (start.stores.values m.position m.is_matched) m.has.held m.has.cell

-- ---- values

module _ (U : Upgrade) (K : Pledge) (C : Context) (ty : Ty) (covers : covers_type ty ≡ true) where
  abbrev Checked : Value → Memory → Outcome Memory Value
  Checked x w = provided (is_of_shape (type_shape (declared C) ty) x) (λ w. gives [] x w) w

  abbrev net_item : shape.Shape → (array : ℕ) → ℕ → net.Memory → Outcome net.Memory net.Address
  net_item d k j w = gives [] (net.item d k j []) w

  -- what stands at a place
  pub item_agrees : (w : World) → MemoryMatch U w → (o : Option Value) (o' : Option net_value.Value) → Follows (LikeV U w) o o'
      → Agrees U K w (ScalarMatch U ty) (then (found o w.src) Checked) (gives [] (net_value.or_unknown (net.part_of_some [] o')) w.net)
  item_agrees w start _ _ (from_none o') = agrees_outside U K w (ScalarMatch U ty) (gives [] (net_value.or_unknown (net.part_of_some [] o')) w.net)
  item_agrees w start _ _ (from_some x y m) =
      left_alone U K w (ScalarMatch U ty) (Checked x w.src) (gives [] y w.net) (value_checked U K C ty x y w covers start m)

  found_is : (o : Option Value) → option_and_then (part_in []) o ≡ o
  found_is None = refl
  found_is (Some x) = refl

  place_read : (w : World) → MemoryMatch U w → (bounds : List (ℤ × ℤ)) (q : Position) (d : shape.Shape) (k : ℕ) (dims : List Dimension) (xs : Values)
      → w.src.held q ≡ table (simple ty) dims xs → ItemsLike U (numbers_of w) xs (w.net.arrays k).elements → (o : Option ℕ) (answer : Answer ℕ) → answer ≡ as_answer o
      → Agrees U K w (ScalarMatch U ty) (then (then (item_if (root (array (simple ty) bounds) q) (simple ty) xs o w.src) store.read) Checked)
      (then (then (answered answer w.net) (net_item d k)) target.read)
  place_read w start bounds q d k dims xs held items None answer is =
      subst (λ z. Agrees U K w (ScalarMatch U ty) (raises [] 9 w.src) (then (then (answered z w.net) (net_item d k)) target.read)) (sym is)
      (agrees_raises U K w (ScalarMatch U ty) 9 start)
  place_read w start bounds q d k dims xs held items (Some j) answer is =
      subst (λ z. Agrees U K w (ScalarMatch U ty) (then (then (item_if (root (array (simple ty) bounds) q) (simple ty) xs (Some j) w.src) store.read) Checked)
      (then (then (answered z w.net) (net_item d k)) target.read)) (sym is)
      (subst (λ h. Agrees U K w (ScalarMatch U ty) (then (after [] (found (item_in h j []) w.src)) Checked)
      (gives [] (net_value.or_unknown (net.part_of_some [] (slice_get (w.net.arrays k).elements j))) w.net)) (sym held)
      (subst (λ z. Agrees U K w (ScalarMatch U ty) (then z Checked)
      (gives [] (net_value.or_unknown (net.part_of_some [] (slice_get (w.net.arrays k).elements j))) w.net))
      (sym (after_nil (found (item_in (table (simple ty) dims xs) j []) w.src)))
      (at (value_at xs j) (items_follow U (numbers_of w) xs (w.net.arrays k).elements items j))))
    where
      at : (o : Option Value) → Follows (LikeV U w) o (slice_get (w.net.arrays k).elements j)
          → Agrees U K w (ScalarMatch U ty) (then (found (option_and_then (part_in []) o) w.src) Checked)
          (gives [] (net_value.or_unknown (net.part_of_some [] (slice_get (w.net.arrays k).elements j))) w.net)
      at o follows =
          subst (λ z. Agrees U K w (ScalarMatch U ty) (then (found z w.src) Checked)
          (gives [] (net_value.or_unknown (net.part_of_some [] (slice_get (w.net.arrays k).elements j))) w.net)) (sym (found_is o))
          (item_agrees w start o (slice_get (w.net.arrays k).elements j) follows)

  -- the place that the indexes lead to
  behind : (a : Expr) (indexes : Exprs) (S : net_names.Scope) (oracle : Jobs) (w : World) (x : Parts) (r : Reached) → MemoryMatch U w → ElementMatch U ty w x r
      → Agrees U K w (ScalarMatch U ty) (then (source.as_new C (element a indexes) x w.src) (source.value_in C (typed ty (element a indexes))))
      (then (then (target.parts_by S oracle r w.net) target.finished) target.read)
  behind a indexes S oracle w x r start m =
      let at : Address = root (array (simple ty) m.bounds) m.position in
      let go = λ (e : Shape) (dims : List Dimension) (xs : Values) (w : Memory). item_if at e xs (element_place dims m.indexes) w in
      let place = answered (net.place_in (w.net.arrays m.array).counts m.net_indexes 0) w.net in
      subst (λ z. Agrees U K w (ScalarMatch U ty) (then (source.as_new C (element a indexes) z w.src) (source.value_in C (typed ty (element a indexes))))
      (then (then (target.parts_by S oracle r w.net) target.finished) target.read)) (sym m.stands)
      (subst (λ z. Agrees U K w (ScalarMatch U ty)
      (then (source.as_new C (element a indexes) (at_element at m.indexes) w.src) (source.value_in C (typed ty (element a indexes))))
      (then (then (target.parts_by S oracle z w.net) target.finished) target.read)) (sym m.net_stands)
      (left_alone U K w (ScalarMatch U ty) (then (then (with_held_array (w.src.held m.position) go w.src) store.read) Checked)
      (then (after [] (then place (net_item m.written m.array))) target.read)
      (subst (λ z. Agrees U K w (ScalarMatch U ty) (then (then (with_held_array (w.src.held m.position) go w.src) store.read) Checked) (then z target.read))
      (sym (after_nil (then place (net_item m.written m.array))))
      (subst (λ h. Agrees U K w (ScalarMatch U ty) (then (then (with_held_array h go w.src) store.read) Checked)
      (then (then place (net_item m.written m.array)) target.read)) (sym m.has.held)
      (place_read w start m.bounds m.position m.written m.array m.has.dims m.has.values m.has.held
      (items_of U w (simple ty) m.has.dims m.has.values (w.net.arrays m.array) (element_like U w start ty x r m))
      (element_place m.has.dims m.indexes) (net.place_in (w.net.arrays m.array).counts m.net_indexes 0)
      (place_agrees m.has.dims (w.net.arrays m.array).counts m.indexes m.net_indexes
      (sizes_of U w (simple ty) m.has.dims m.has.values (w.net.arrays m.array) (element_like U w start ty x r m)) m.same_indexes m.counted))))))

  value_is : (S : net_names.Scope) (oracle : Jobs) (r : Outcome net.Memory Reached)
      → target.value_from S oracle r ≡ then r (λ x w. then (then (target.parts_by S oracle x w) target.finished) target.read)
  value_is S oracle r =
      ap (λ z. then z target.read) (then_assoc r (target.parts_by S oracle) target.finished)
      ∙ then_assoc r (λ x w. then (target.parts_by S oracle x w) target.finished) target.read

  pub element_value : (a : Expr) (indexes : Exprs) (S : net_names.Scope) (oracle : Jobs) (w : World) (r' : Outcome net.Memory Reached) → MemoryMatch U w
      → Agrees U K w (ElementMatch U ty) (source.term_parts C ty (element a indexes) w.src) r'
      → Agrees U K w (ScalarMatch U ty) (source.value_of C (typed ty (element a indexes)) w.src) (target.value_from S oracle r')
  element_value a indexes S oracle w r' start h =
      let r = source.term_parts C ty (element a indexes) w.src in
      subst (λ z. Agrees U K w (ScalarMatch U ty) z (target.value_from S oracle r'))
      (sym (then_assoc r (source.as_new C (element a indexes)) (source.value_in C (typed ty (element a indexes)))))
      (subst (λ z. Agrees U K w (ScalarMatch U ty) (then r (λ p v. then (source.as_new C (element a indexes) p v) (source.value_in C (typed ty (element a indexes))))) z)
      (sym (value_is S oracle r'))
      (then_agrees U K w (ElementMatch U ty) (ScalarMatch U ty) r r'
      (λ p v. then (source.as_new C (element a indexes) p v) (source.value_in C (typed ty (element a indexes))))
      (λ x w. then (then (target.parts_by S oracle x w) target.finished) target.read) start h
      (λ x y v m l. behind a indexes S oracle v x y l.match m)))
