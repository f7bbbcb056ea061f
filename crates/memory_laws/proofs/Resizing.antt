-- Arrays are made anew and erased on both sides.
use Rattle.std.proofs.Common.{◌≡◌, refl, sym, ap, subst, ◌∙◌, ℕ, zero, suc, ℤ, ◌*◌, ◌^◌, ◌<◌, Bool, true, false, cond, ◌&&◌, nat_eq, List, [], ◌∷◌, length, Some, true≢false, eq-eqb, ltb-true, arith}
use Rattle.std.specs.Prelude.{nat_lt, nat_le, replicate}
use Rattle.std.specs.List.{list_all}
use Rattle.std.proofs.lemmas.List.{length-replicate, length-map, nil_from_length}
use Rattle.up_base.proofs.Tests.{by_test, both_true}
use Rattle.vb_tree.specs.BoundTree.{Ty}
use Rattle.net_tree.specs.Types.{TypeName}
use Rattle.net_meaning.specs.declared.value.ValueN.TheVariants as n
use Rattle.run_base.specs.Outcomes.{Outcome, gives, outside, after, then, some_of}
use Rattle.run_base.specs.Positions.{Position, updated_at}
use Rattle.vb6_run.specs.Arrays as arrays
use Rattle.vb6_run.specs.Arrays.{Lows, has_lows, put_resized, resized, with_held_array}
use Rattle.vb6_run.specs.Shapes.{Shape, simple, array}
use Rattle.vb6_run.specs.Store.{Address, root, Locked, Memory, table, provided, contains, unless_locked, with_held}
use Rattle.vb6_run.specs.Values.{Dimension, Values, no_values, next_value, scalar, repeated, first_scalar, size, is_within_limits, is_small, are_small}
use Rattle.vb6_run.specs.Values as source
use Rattle.net_run.specs.Lines as lines
use Rattle.net_run.specs.Lines.{redimmed}
use Rattle.net_run.specs.Shapes as shape
use Rattle.net_run.specs.Shapes.{default_of_word}
use Rattle.net_run.specs.Store as net
use Rattle.net_run.specs.Values as net_value
use Rattle.net_run.specs.Values.{single}
use Rattle.run_matches.specs.Upgrades.{Upgrade}
use Rattle.run_matches.specs.Maps.{World, moved_at}
use Rattle.run_matches.specs.Likeness.{Numbers, numbers_of, are_same, SameShape, same_scalar, SameCounts, no_counts, same_counts, counts_of, ItemsLike, no_items, next_item, ArrayLike, same_elements, is_flat}
use Rattle.run_matches.specs.Match.{MemoryMatch}
use Rattle.run_matches.specs.Pledges.{Pledge, Later, IsLasting}
use Rattle.run_matches.specs.Addresses.{AllLocked}
use Rattle.run_matches.specs.Agreeing.{Agrees}
use Rattle.run_matches.specs.CoveredVariables.{covers_type}
use Rattle.run_matches.specs.Frames.{IsOwnAddress}
use Rattle.run_statements.specs.Frames.{AnyUnits, ArrayMatch, MayChange}
use Rattle.run_statements.specs.Memory.{ArraysAreResized, ArraysAreErased, MayResize}
use Rattle.agreeing_laws.proofs.Agreeing.{agrees_outside, right_alone}
use Rattle.memory_laws.specs.Changes.{GoesAlone}
use Rattle.memory_laws.proofs.Renewed.{renewed, renewed_later}
use Rattle.memory_laws.proofs.Scalars.{FirstMatch, first_match}
use Rattle.memory_laws.proofs.ArrayImages.{ArrayImage, HasWord, array_alone, array_image, unlocked, word_of}
use Rattle.memory_laws.proofs.ArrayItems.{kept_flat, kept_items, length_kept, new_flat, new_items}
use Rattle.memory_laws.proofs.Sizes.{none_erased, products, small_enough}
use Rattle.memory_laws.proofs.Tables.{table_like}

-- ---- how many elements

times_one : (k : ℕ) → k * 1 ≡ k
times_one k = omega arith

-- ---- a new array

module _ (U : Upgrade) (K : Pledge) (w : World) (ty : Ty) (rank : ℕ) (c : covers_type ty ≡ true) where
  module _ (h : MemoryMatch U w) (a : Address) (b : net.Address) (i : ArrayImage U w ty rank a b) (alone : GoesAlone U w i.position) (movable : i.bounds ≡ [])
      (locked : Locked) (locks : AllLocked U K w locked) (free : MayResize K ty) (own : IsLasting U K w i.position → ⊥) where
    abbrev q : Position
    q = i.position

    abbrev p : Position
    p = moved_at U w.map i.position

    abbrev d : shape.Shape
    d = shape.scalar i.word

    abbrev array_of : List ℕ → List net_value.Value → net.Array
    array_of counts zs = record { element = d; counts = counts; elements = zs }

    -- a new one with these dimensions and elements
    made_agrees : (new : List Dimension) (counts : List ℕ) (ys : Values) (zs : List net_value.Value) → SameCounts new counts
        → ItemsLike U (numbers_of w) ys zs → length zs ≡ net.product counts → list_all is_flat zs ≡ true → length counts ≡ rank → length zs < 2 ^ 31
        → Agrees U K w AnyUnits (unless_locked (contains locked q) (λ s. gives [] tt (with_held q (table (simple ty) new ys) s)) w.src)
        (then (net.new_array (array_of counts zs) w.net) (λ v t. net.written (net.root (shape.array d rank) p) v t))
    made_agrees new counts ys zs same items len flat ranked short =
        let like : ArrayLike U (numbers_of w) (simple ty) new ys (array_of counts zs) =
        same_elements (simple ty) new ys (array_of counts zs) (same_scalar ty i.word i.is_word) same items len flat in
        let later : Later U K w (renewed U w q (simple ty) new ys (array_of counts zs)) =
        renewed_later U w q (simple ty) i.dims new i.values ys i.number (array_of counts zs) h i.is_matched alone i.held i.stands like
        (ranked ∙ sym i.counted) short K own free (λ f. i.movable f movable) in
        let t : net.Memory =
        record w.net { arrays = updated_at w.net.arrays w.net.next_array (array_of counts zs); next_array = suc w.net.next_array } in
        subst
        (λ x. Agrees U K w AnyUnits (unless_locked x (λ s. gives [] tt (with_held q (table (simple ty) new ys) s)) w.src)
        (then (net.new_array (array_of counts zs) w.net) (λ v t. net.written (net.root (shape.array d rank) p) v t)))
        (sym (unlocked U K w ty rank c q i.dims i.values i.held free locked locks))
        (right_alone U K w AnyUnits (gives [] tt (with_held q (table (simple ty) new ys) w.src))
        (net.put (w.net.cell p) p (n.Array w.net.next_array) t)
        (subst
        (λ x. Agrees U K w AnyUnits (gives [] tt (with_held q (table (simple ty) new ys) w.src)) (net.put x p (n.Array w.net.next_array) t))
        (sym i.stands) (refl, w.map, tt, later)))

    first_is : FirstMatch (are_same w) ty i.word
    first_is = first_match (are_same w) ty i.word c i.is_word

    abbrev there : net.Address
    there = net.root (shape.array d rank) p

    abbrev into : net_value.Value → net.Memory → Outcome net.Memory Unit
    into v t = net.written there v t

    -- what the source goes on with
    abbrev puts : List Dimension → Values → Memory → Outcome Memory Unit
    puts new ys s = unless_locked (contains locked q) (λ s. gives [] tt (with_held q (table (simple ty) new ys) s)) s

    target_new : (counts : List ℕ) → nat_eq (length counts) rank ≡ true → nat_le (net.product counts) net.most_elements ≡ true
        → redimmed false counts there w.net
        ≡ then (net.new_array (array_of counts (replicate (net.product counts) (single first_is.value))) w.net) into
    target_new counts ranked small =
        ap (λ x. cond x (then (net.array_made d counts w.net) into) (outside [])) ranked
        ∙ (ap (λ x. then (cond x (net.new_array (array_of counts (replicate (net.product counts) (default_of_word i.word))) w.net) (outside [])) into) small
        ∙ ap (λ x. then (net.new_array (array_of counts (replicate (net.product counts) x)) w.net) into) first_is.is_value)

    abbrev old_items : List net_value.Value
    old_items = (w.net.arrays i.number).elements

    target_kept : (k : ℕ) → nat_eq 1 rank ≡ true → nat_le k net.most_elements ≡ true
        → redimmed true (k ∷ []) there w.net
        ≡ then (net.new_array (array_of (k ∷ []) (net.preserved k (single first_is.value) old_items)) w.net) into
    target_kept k ranked small =
        ap (λ x. cond x (then (lines.resized true d (k ∷ []) there w.net) into) (outside [])) ranked
        ∙ (ap (λ x. then (then (lines.elements_of (net.held x) w.net) (λ old t. net.array_kept d (k ∷ []) old t)) into) i.stands
        ∙ (ap
        (λ x. then (after [] (cond x (net.new_array (array_of (k ∷ []) (net.preserved k (default_of_word i.word) old_items)) w.net) (outside []))) into) small
        ∙ ap (λ x. then (net.new_array (array_of (k ∷ []) (net.preserved k x old_items)) w.net) into) first_is.is_value))

    counts_ranked : (new : List Dimension) → length new ≡ rank → length (counts_of new) ≡ rank
    counts_ranked new e = length-map new (λ (z : Dimension). z.count) ∙ e

    within : (new : List Dimension) → is_within_limits new ≡ true → is_small (size new) ≡ true
    within new e = (both_true (are_small new) (is_small (size new)) e).1

    short_all : (counts : List ℕ) (k : ℕ) → k ≡ net.product counts → is_small k ≡ true → (zs : List net_value.Value) → length zs ≡ net.product counts
        → length zs < 2 ^ 31
    short_all counts k same small zs e = let lt : k < 2 ^ 31 = ltb-true k (2 ^ 31) small in omega (arith, lt, same, e)

    new_agrees : (x : Dimension) (more : List Dimension) → is_within_limits (x ∷ more) ≡ true → nat_lt 0 (size (x ∷ more)) ≡ true
        → length (x ∷ more) ≡ rank
        → Agrees U K w AnyUnits (puts (x ∷ more) (repeated (size (x ∷ more)) (scalar ty (first_scalar ty))) w.src)
        (redimmed false (counts_of (x ∷ more)) there w.net)
    new_agrees x more small some ranked =
        let new : List Dimension = x ∷ more in
        let counts : List ℕ = counts_of new in
        let total : ℕ = net.product counts in
        let same : total ≡ size new = products new in
        let zs : List net_value.Value = replicate total (single first_is.value) in
        subst (λ z. Agrees U K w AnyUnits (puts new (repeated (size new) (scalar ty (first_scalar ty))) w.src) z)
        (sym (target_new counts (eq-eqb (length counts) rank (counts_ranked new ranked))
        (ap (λ z. nat_le z net.most_elements) same ∙ small_enough (size new) (within new small))))
        (made_agrees new counts (repeated (size new) (scalar ty (first_scalar ty))) zs (same_counts x more some small)
        (subst (λ z. ItemsLike U (numbers_of w) (repeated z (scalar ty (first_scalar ty))) zs) same
        (new_items U (numbers_of w) ty first_is.value first_is.like total))
        (length-replicate total (single first_is.value)) (new_flat U (numbers_of w) ty first_is.value first_is.like total) (counts_ranked new ranked)
        (short_all counts (size new) (sym same) (within new small) zs (length-replicate total (single first_is.value))))

    -- one dimension keeps elements
    kept_agrees : (x : Dimension) → is_within_limits (x ∷ []) ≡ true → nat_lt 0 (size (x ∷ [])) ≡ true → 1 ≡ rank → (ys : Values)
        → ItemsLike U (numbers_of w) ys (net.preserved x.count (single first_is.value) old_items) → list_all is_flat old_items ≡ true
        → Agrees U K w AnyUnits (puts (x ∷ []) ys w.src) (redimmed true (counts_of (x ∷ [])) there w.net)
    kept_agrees x small some ranked ys items flat =
        let zs : List net_value.Value = net.preserved x.count (single first_is.value) old_items in
        let one : size (x ∷ []) ≡ x.count = times_one x.count in
        let len : length zs ≡ net.product (x.count ∷ []) = length_kept x.count (single first_is.value) old_items ∙ sym one in
        subst (λ z. Agrees U K w AnyUnits (puts (x ∷ []) ys w.src) z)
        (sym (target_kept x.count (eq-eqb 1 rank ranked) (ap (λ z. nat_le z net.most_elements) (sym one) ∙ small_enough (size (x ∷ [])) (within (x ∷ []) small))))
        (made_agrees (x ∷ []) (x.count ∷ []) ys zs (same_counts x [] some small) items len
        (kept_flat U (numbers_of w) ty first_is.value first_is.like x.count old_items flat) ranked
        (short_all (x.count ∷ []) (size (x ∷ [])) refl (within (x ∷ []) small) zs len))

    no_items_of : (ys : Values) (zs : List net_value.Value) → ItemsLike U (numbers_of w) ys zs → zs ≡ [] → ys ≡ no_values
    no_items_of _ _ no_items e = refl
    no_items_of _ _ (next_item y z ys zs m rest) e = absurd (cc e)

    kept_as_new : (k : ℕ) (x : source.Value) → source.preserved k no_values x ≡ repeated k x
    kept_as_new zero x = refl
    kept_as_new (suc k) x = ap (next_value x) (kept_as_new k x)

    none_there : (counts : List ℕ) → SameCounts [] counts → net.product counts ≡ 0
    none_there counts s = by counts s
      where
        by : (counts : List ℕ) → SameCounts [] counts → net.product counts ≡ 0
        by _ (no_counts counts z) = z

    -- by the dimensions that it had
    kept_by : (x : Dimension) → is_within_limits (x ∷ []) ≡ true → nat_lt 0 (size (x ∷ [])) ≡ true → 1 ≡ rank → (dims : List Dimension)
        → SameCounts dims (w.net.arrays i.number).counts → ItemsLike U (numbers_of w) i.values old_items
        → length old_items ≡ net.product (w.net.arrays i.number).counts → list_all is_flat old_items ≡ true
        → Agrees U K w AnyUnits
        (some_of (resized true dims (x ∷ []) (simple ty) i.values) (puts (x ∷ [])) w.src)
        (redimmed true (counts_of (x ∷ [])) there w.net)
    kept_by x small some ranked [] same items len flat =
        let none : old_items ≡ [] = nil_from_length old_items (len ∙ none_there (w.net.arrays i.number).counts same) in
        let is : source.preserved x.count i.values (scalar ty (first_scalar ty)) ≡ repeated (size (x ∷ [])) (scalar ty (first_scalar ty)) =
        ap (λ z. source.preserved x.count z (scalar ty (first_scalar ty))) (no_items_of i.values old_items items none)
        ∙ (kept_as_new x.count (scalar ty (first_scalar ty)) ∙ ap (λ z. repeated z (scalar ty (first_scalar ty))) (sym (times_one x.count))) in
        kept_agrees x small some ranked (repeated (size (x ∷ [])) (scalar ty (first_scalar ty)))
        (subst (λ z. ItemsLike U (numbers_of w) z (net.preserved x.count (single first_is.value) old_items)) is
        (kept_items U (numbers_of w) ty first_is.value first_is.like x.count i.values old_items items)) flat
    kept_by x small some ranked (y ∷ []) same items len flat =
        kept_agrees x small some ranked (source.preserved x.count i.values (scalar ty (first_scalar ty)))
        (kept_items U (numbers_of w) ty first_is.value first_is.like x.count i.values old_items items) flat
    kept_by x small some ranked (y ∷ z ∷ dims) same items len flat = agrees_outside U K w AnyUnits (redimmed true (counts_of (x ∷ [])) there w.net)

    kept_like : (x : Dimension) → is_within_limits (x ∷ []) ≡ true → nat_lt 0 (size (x ∷ [])) ≡ true → 1 ≡ rank
        → (e : Shape) (dims : List Dimension) (xs : Values) (o : net.Array) → o ≡ w.net.arrays i.number → dims ≡ i.dims → xs ≡ i.values
        → ArrayLike U (numbers_of w) e dims xs o
        → Agrees U K w AnyUnits
        (some_of (resized true i.dims (x ∷ []) (simple ty) i.values) (puts (x ∷ [])) w.src)
        (redimmed true (counts_of (x ∷ [])) there w.net)
    kept_like x small some ranked _ _ _ _ is dims_is xs_is (same_elements e dims xs o s same items len flat) =
        kept_by x small some ranked i.dims
        (subst (λ z. SameCounts z (w.net.arrays i.number).counts) dims_is (subst (λ (z : net.Array). SameCounts dims z.counts) is same))
        (subst (λ z. ItemsLike U (numbers_of w) z old_items) xs_is (subst (λ (z : net.Array). ItemsLike U (numbers_of w) xs z.elements) is items))
        (subst (λ (z : net.Array). length z.elements ≡ net.product z.counts) is len)
        (subst (λ (z : net.Array). list_all is_flat z.elements ≡ true) is flat)

    -- ---- by what is written

    abbrev Resizes : (preserve : Bool) → List Dimension → Outcome Memory Unit → Type 0
    Resizes preserve new r = Agrees U K w AnyUnits r (redimmed preserve (counts_of new) there w.net)

    abbrev goes : (preserve : Bool) → List Dimension → Memory → Outcome Memory Unit
    goes preserve new s = some_of (resized preserve i.dims new (simple ty) i.values) (puts new) s

    resizes_there : (preserve : Bool) (new : List Dimension)
        → is_within_limits new ≡ true → nat_lt 0 (size new) ≡ true → length new ≡ rank → (preserve ≡ true → length new ≡ 1)
        → ArrayLike U (numbers_of w) (simple ty) i.dims i.values (w.net.arrays i.number) → Resizes preserve new (goes preserve new w.src)
    resizes_there false [] small some ranked one was = absurd (true≢false (sym some))
    resizes_there false (x ∷ more) small some ranked one was = new_agrees x more small some ranked
    resizes_there true [] small some ranked one was = absurd (true≢false (sym some))
    resizes_there true (x ∷ []) small some ranked one was =
        kept_like x small some ranked (simple ty) i.dims i.values (w.net.arrays i.number) refl refl refl was
    resizes_there true (x ∷ y ∷ more) small some ranked one was = absurd (cc (one refl))

-- ---- the arrays on both sides

has_rank : (U : Upgrade) (N : Numbers) (e : Shape) (dims : List Dimension) (xs : Values) (a : net.Array) → ArrayLike U N e dims xs a → length a.counts ≡ 0 → ⊥
has_rank U N _ _ _ _ (same_elements e dims xs a s same items len flat) z = by dims a.counts same z
  where
    by : (dims : List Dimension) (counts : List ℕ) → SameCounts dims counts → length counts ≡ 0 → ⊥
    by _ [] (no_counts _ p) z = absurd (cc p)
    by _ (x ∷ counts) s z = absurd (cc z)

module _ (U : Upgrade) (K : Pledge) (w : World) (ty : Ty) (rank : ℕ) (a : Address) (b : net.Address) (locked : Locked) (c : covers_type ty ≡ true)
    (h : MemoryMatch U w) (m : ArrayMatch U K ty rank w a b) (locks : AllLocked U K w locked) (free : MayResize K ty) (own : MayChange K a) where
  image : ArrayImage U w ty rank a b
  image = array_image U K w ty rank c a b m

  alone : GoesAlone U w image.position
  alone = array_alone U K w ty rank c a b h image m.target

  may_change : IsLasting U K w image.position → ⊥
  may_change l = subst (λ u. IsOwnAddress K u) image.at_source (own l.steady) image.position refl l.old

  was_like : ArrayLike U (numbers_of w) (simple ty) image.dims image.values (w.net.arrays image.number)
  was_like =
      table_like U w (w.src.held image.position) (w.net.cell (moved_at U w.map image.position)) (simple ty) image.dims image.values image.number
      (h.stores.values image.position image.is_matched) image.held image.stands

  abbrev standing : net.Address
  standing = net.root (shape.array (shape.scalar image.word) rank) (moved_at U w.map image.position)

  module _ (lows : Lows) (preserve : Bool) (new : List Dimension) (len : length new ≡ rank) (one : preserve ≡ true → length new ≡ 1) where
    abbrev does : net.Address → Outcome net.Memory Unit
    does x = redimmed preserve (counts_of new) x w.net

    tested : image.bounds ≡ []
        → Agrees U K w AnyUnits (put_resized locked preserve new (table (simple ty) image.dims image.values) image.position w.src) (does standing)
    tested movable =
        by_test (is_within_limits new && nat_lt 0 (size new))
        (λ t. Agrees U K w AnyUnits
        (provided t (λ s. some_of (resized preserve image.dims new (simple ty) image.values)
        (λ ys s. unless_locked (contains locked image.position) (λ s. gives [] tt (with_held image.position (table (simple ty) new ys) s)) s) s) w.src) (does standing))
        (λ y.
        let both : (is_within_limits new ≡ true) × (nat_lt 0 (size new) ≡ true) = both_true (is_within_limits new) (nat_lt 0 (size new)) y in
        resizes_there U K w ty rank c h a b image alone movable locked locks free may_change preserve new both.0 both.1 len one was_like)
        (λ y. agrees_outside U K w AnyUnits (does standing))

    bounded : (bounds : List (ℤ × ℤ)) → image.bounds ≡ bounds
        → Agrees U K w AnyUnits (arrays.resize locked lows preserve new (root (array (simple ty) bounds) image.position) w.src) (does standing)
    bounded (x ∷ bounds) e = agrees_outside U K w AnyUnits (does standing)
    bounded [] e =
        by_test (has_lows lows new)
        (λ t. Agrees U K w AnyUnits
        (provided t (put_resized locked preserve new (w.src.held image.position) image.position) w.src) (does standing))
        (λ y. subst (λ z. Agrees U K w AnyUnits (put_resized locked preserve new z image.position w.src) (does standing)) (sym image.held) (tested e))
        (λ y. agrees_outside U K w AnyUnits (does standing))

    pub array_is_resized : Agrees U K w AnyUnits (arrays.resize locked lows preserve new a w.src) (does b)
    array_is_resized =
        subst (λ z. Agrees U K w AnyUnits (arrays.resize locked lows preserve new z w.src) (does b)) (sym image.at_source)
        (subst (λ z. Agrees U K w AnyUnits (arrays.resize locked lows preserve new (root (array (simple ty) image.bounds) image.position) w.src) (does z))
        (sym image.at_target) (bounded image.bounds refl))

  module _ (d : shape.Shape) (same : SameShape U (simple ty) d) where
    abbrev erases : net.Address → Outcome net.Memory Unit
    erases x = then (net.array_made d (replicate rank 0) w.net) (λ v t. net.written x v t)

    same_word : d ≡ shape.scalar image.word
    same_word =
        let x : HasWord ty d = word_of U ty d c same in
        x.1 ∙ ap shape.scalar (one_word (sym x.2 ∙ image.is_word))
      where
        one_word : {s t : TypeName} → Some s ≡ Some t → s ≡ t
        one_word e = cc

    no_product : net.product (replicate rank 0) ≡ 0
    no_product = by rank (λ e. has_rank U (numbers_of w) (simple ty) image.dims image.values (w.net.arrays image.number) was_like (image.counted ∙ e))
      where
        by : (k : ℕ) → (k ≡ 0 → ⊥) → net.product (replicate k 0) ≡ 0
        by zero e = absurd (e refl)
        by (suc k) e = none_erased k

    erased_to : erases standing
        ≡ then (net.new_array (record { element = shape.scalar image.word; counts = replicate rank 0; elements = [] }) w.net) (λ v t. net.written standing v t)
    erased_to =
        ap (λ z. then (net.array_made z (replicate rank 0) w.net) (λ v t. net.written standing v t)) same_word
        ∙ ap (λ z. then (cond (nat_le z net.most_elements)
        (net.new_array (record { element = shape.scalar image.word; counts = replicate rank 0; elements = replicate z (default_of_word image.word) }) w.net)
        (outside [])) (λ v t. net.written standing v t)) no_product

    erases_there : image.bounds ≡ []
        → Agrees U K w AnyUnits (unless_locked (contains locked image.position) (λ s. gives [] tt (with_held image.position (table (simple ty) [] no_values) s)) w.src)
        (erases standing)
    erases_there movable =
        subst (λ z. Agrees U K w AnyUnits
        (unless_locked (contains locked image.position) (λ s. gives [] tt (with_held image.position (table (simple ty) [] no_values) s)) w.src) z) (sym erased_to)
        (made_agrees U K w ty rank c h a b image alone movable locked locks free may_change [] (replicate rank 0) no_values []
        (no_counts (replicate rank 0) no_product) no_items (sym no_product) refl (length-replicate rank 0) (omega arith))

    unbounded : (bounds : List (ℤ × ℤ)) → image.bounds ≡ bounds
        → Agrees U K w AnyUnits (arrays.erase locked (root (array (simple ty) bounds) image.position) w.src) (erases standing)
    unbounded (x ∷ bounds) e = agrees_outside U K w AnyUnits (erases standing)
    unbounded [] e =
        subst (λ z. Agrees U K w AnyUnits (with_held_array z (λ f dims xs s.
        unless_locked (contains locked image.position) (λ s. gives [] tt (with_held image.position (table f [] no_values) s)) s) w.src) (erases standing))
        (sym image.held) (erases_there e)

    pub array_is_erased : Agrees U K w AnyUnits (arrays.erase locked a w.src) (erases b)
    array_is_erased =
        subst (λ z. Agrees U K w AnyUnits (arrays.erase locked z w.src) (erases b)) (sym image.at_source)
        (subst (λ z. Agrees U K w AnyUnits (arrays.erase locked (root (array (simple ty) image.bounds) image.position) w.src) (erases z))
        (sym image.at_target) (unbounded image.bounds refl))

pub arrays_are_resized : (U : Upgrade) → ArraysAreResized U
arrays_are_resized U K w ty rank a b locked lows preserve new c h m locks free own len one =
    array_is_resized U K w ty rank a b locked c h m locks free own lows preserve new len one

pub arrays_are_erased : (U : Upgrade) → ArraysAreErased U
arrays_are_erased U K w ty rank a b locked d c h m locks free own same = array_is_erased U K w ty rank a b locked c h m locks free own d same
