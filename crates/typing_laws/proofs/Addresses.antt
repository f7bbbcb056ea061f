-- Variables at their addresses: what is read there, and what is written.
use Rattle.std.proofs.Common.{◌≡◌, ◌⊎◌, inl, inr, refl, sym, ap, ◌∙◌, ℕ, zero, suc, true, false, true≢false, List, [], Option, Some, None}
use Rattle.std.specs.Prelude.{option_and_then}
use Rattle.vb_tree.specs.BoundTree as types
use Rattle.vb_tree.specs.BoundTree.{Ty}
use Rattle.vb_tree.specs.declared.declared.Owner.{Owner}
use Rattle.vb_tree.specs.declared.declared.Owner.TheVariants as owner
use Rattle.vb_tree.specs.declared.value.Value6.{Value6}
use Rattle.bound_tree.specs.Tree.{Declarations, Program, Variable}
use Rattle.run_base.specs.Outcomes.{Outcome, found, gives, outside, some_of}
use Rattle.run_base.specs.Positions.{Position}
use Rattle.written_trees.specs.Arguments.{is_reference_owner}
use Rattle.vb6_run.specs.Shapes.{Shape, simple}
use Rattle.vb6_run.specs.Store.{Address, Held, Locked, Memory, constant, item, item_in, provided, put_item, put_single, read, root, single, single_in, store, table, value_if, with_held, write}
use Rattle.vb6_run.specs.Values.{Dimension, Value, Values, count_values, next_value, no_values, part_in, scalar, value_at, with_known_part, with_value_at}
use Rattle.run_matches.specs.CoveredVariables.{covers_type, is_loud, is_loud_owner}
use Rattle.run_matches.specs.Typed.{IsSized, no_elements, sized}
use Rattle.typing_laws.specs.Frames.{Fills, Footprint, Ground, Inside, IsElement, IsGone, IsPlace, Keeps, Stands, ground}
use Rattle.typing_laws.specs.Plain.{EachPlain, IsShapeOf, IsValue, Plain, array_shape, holds_array, holds_scalar, next_plain, none_plain, scalar_shape, user_shape}
use Rattle.typing_laws.proofs.Ends.{fills_later}
use Rattle.typing_laws.proofs.Held.{Single, Table, single_of, table_of}
use Rattle.typing_laws.proofs.Places.{keeps_changed, not_none, some_is}
use Rattle.typing_laws.proofs.Plain.{is_covered, is_kept, self}

-- ---- addresses of variables of a type

abbrev pub IsSeat : Ground → Memory → Ty → Address → Type 0
IsSeat K w ty (root d q) = IsShapeOf K.declarations ty d × Fills K w q ty d
IsSeat K w ty (item e q j path) = IsElement K w ty e q path
IsSeat K w ty (constant y) = IsValue ty y

abbrev pub IsConstant : Address → Type 0
IsConstant (root d q) = ⊥
IsConstant (item e q j path) = ⊥
IsConstant (constant y) = Unit {0}

-- what is changed stands at no value
pub no_constant : (P : Program) (F : Footprint) (w : Memory) (v : ℕ) (x : Variable) (a : Address) → IsPlace P F w v x a → is_loud P v (Some x) ≡ true
    → IsConstant a → ⊥
no_constant P F w v x (root d q) h loud n = n
no_constant P F w v x (item e q j path) h loud n = n
no_constant P F w v x (constant y) h loud n = true≢false (sym loud ∙ h.0)

-- a variable that is no parameter by reference stands at a position
owner_loud : (P : Program) (v : ℕ) (o : Owner) → is_reference_owner o ≡ false → is_loud_owner P v o ≡ true
owner_loud P v (owner.Reference p) h = absurd (true≢false h)
owner_loud P v _ h = refl

pub record AtRoot (P : Program) (F : Footprint) (w : Memory) (x : Variable) (a : Address) : Type 0 where
  pub shape : Shape
  pub position : Position
  pub is : a ≡ root shape position
  pub fits : IsShapeOf P.declarations x.ty shape
  pub stands : Stands (ground P.declarations F) w position x.ty
  pub inside : Inside (ground P.declarations F) w shape position

pub at_root : (P : Program) (F : Footprint) (w : Memory) (v : ℕ) (x : Variable) (a : Address) → IsPlace P F w v x a → is_reference_owner x.owner ≡ false
    → AtRoot P F w x a
at_root P F w v x (root d q) h own = record { shape = d; position = q; is = refl; fits = h.0; stands = h.1.0; inside = h.1.1 }
at_root P F w v x (item e q j path) h own = absurd (true≢false (sym h.0 ∙ own))
at_root P F w v x (constant y) h own = absurd (true≢false (sym (owner_loud P v x.owner own) ∙ h.0))

pub seat_of : (P : Program) (F : Footprint) (w : Memory) (v : ℕ) (x : Variable) (a : Address) → IsPlace P F w v x a → IsSeat (ground P.declarations F) w x.ty a
seat_of P F w v x (root d q) h = h
seat_of P F w v x (item e q j path) h = h.1
seat_of P F w v x (constant y) h = h.1

pub seat_later : (K : Ground) (w u : Memory) (ty : Ty) (a : Address) → Keeps K w u → IsSeat K w ty a → IsSeat K u ty a
seat_later K w u ty (root d q) k h = (h.0, fills_later K w u k q ty d h.1)
seat_later K w u ty (item e q j path) k h = (h.0, h.1, k.places q (types.array ty 0) h.2)
seat_later K w u ty (constant y) k h = h

pub place_later : (P : Program) (F : Footprint) (w u : Memory) (v : ℕ) (x : Variable) (a : Address) → Keeps (ground P.declarations F) w u → IsPlace P F w v x a
    → IsPlace P F u v x a
place_later P F w u v x (root d q) k h = (h.0, fills_later (ground P.declarations F) w u k q x.ty d h.1)
place_later P F w u v x (item e q j path) k h = (h.0, seat_later (ground P.declarations F) w u x.ty (item e q j path) k h.1)
place_later P F w u v x (constant y) k h = h

pub simple_is : {D : Declarations} (ty : Ty) (d : Shape) → covers_type ty ≡ true → IsShapeOf D ty d → d ≡ simple ty
simple_is _ _ c (scalar_shape ty d) = refl
simple_is _ _ c (array_shape e rank bounds d) = absurd (true≢false (sym c))
simple_is _ _ c (user_shape t d fs is of) = absurd (true≢false (sym c))

-- ---- elements

pub and_then_self : (o : Option Value) → option_and_then (part_in []) o ≡ o
and_then_self None = refl
and_then_self (Some y) = refl

pub element_plain : (ty : Ty) (xs : Values) (j : ℕ) (y : Value) → EachPlain ty xs → value_at xs j ≡ Some y → IsValue ty y
element_plain _ _ j y (none_plain ty) e = absurd (not_none e)
element_plain _ _ zero y (next_plain ty z xs p more) e = (z, sym (some_is e), p)
element_plain _ _ (suc j) y (next_plain ty z xs p more) e = element_plain ty xs j y more e

pub each_with : (ty : Ty) (xs : Values) (j : ℕ) (z : Value6) → EachPlain ty xs → Plain ty z → EachPlain ty (with_value_at xs j (scalar ty z))
each_with _ _ j z (none_plain ty) p = none_plain ty
each_with _ _ zero z (next_plain ty y xs q more) p = next_plain ty z xs p more
each_with _ _ (suc j) z (next_plain ty y xs q more) p = next_plain ty y (with_value_at xs j (scalar ty z)) q (each_with ty xs j z more p)

count_with : (xs : Values) (j : ℕ) (y : Value) → count_values (with_value_at xs j y) ≡ count_values xs
count_with no_values j y = refl
count_with (next_value x xs) zero y = refl
count_with (next_value x xs) (suc j) y = ap suc (count_with xs j y)

sized_with : (dims : List Dimension) (xs : Values) (j : ℕ) (y : Value) → IsSized dims xs → IsSized dims (with_value_at xs j y)
sized_with _ _ j y no_elements = no_elements
sized_with _ _ j y (sized d dims xs some within count) = sized d dims (with_value_at xs j y) some within (count_with xs j y ∙ count)

module _ (K : Ground) (w : Memory) (ty : Ty) where
  -- ---- reading

  pub record IsRead (a : Address) : Type 0 where
    pub value : Value6
    pub reads : read a w ≡ gives [] (scalar ty value) w
    pub plain : Plain ty value

  abbrev pub IsUnread : Address → Type 0
  IsUnread a = IsGone a w × (read a w ≡ outside [])

  pub root_read : (q : Position) (z : Value6) → w.held q ≡ single ty z → Plain ty z → read (root (simple ty) q) w ≡ gives [] (scalar ty z) w
  root_read q z holds p = ap (λ h. found (single_in ty h) w) holds ∙ ap (λ b. found (value_if b (scalar ty z)) w) (self ty (is_covered ty z p))

  item_is : (e : Shape) (q : Position) (j : ℕ) (path : List ℕ) (h : IsElement K w ty e q path) (t : Table ty (w.held q)) → item_in (w.held q) j path ≡ value_at t.values j
  item_is e q j path h t =
      ap (λ p. item_in (w.held q) j p) h.1 ∙ ap (λ (g : Held). item_in g j []) t.holds ∙ and_then_self (value_at t.values j)

  pub read_seat : (a : Address) → covers_type ty ≡ true → IsSeat K w ty a → IsRead a ⊎ IsUnread a
  read_seat (root d q) c h =
      let s : Single ty (w.held q) = single_of ty (w.held q) c h.1.0.holds in
      inl (record {
        value = s.value;
        reads = ap (λ z. read (root z q) w) (simple_is ty d c h.0) ∙ root_read q s.value s.holds s.plain;
        plain = s.plain;
      })
  read_seat (constant y) c h = inl (record { value = h.0; reads = ap (λ x. gives [] x w) h.1; plain = h.2 })
  read_seat (item e q j path) c h = by (value_at t.values j) refl
    where
      t : Table ty (w.held q)
      t = table_of ty 0 (w.held q) h.2.holds

      by : (o : Option Value) → value_at t.values j ≡ o → IsRead (item e q j path) ⊎ IsUnread (item e q j path)
      by None i =
          let none : item_in (w.held q) j path ≡ None = item_is e q j path h t ∙ i in
          inr (none, ap (λ o. found o w) none)
      by (Some y) i =
          let v : IsValue ty y = element_plain ty t.values j y t.plain i in
          inl (record {
            value = v.0;
            reads = ap (λ o. found o w) (item_is e q j path h t ∙ i) ∙ ap (λ x. gives [] x w) v.1;
            plain = v.2;
          })

  -- ---- writing

  module _ (locked : Locked) (z : Value6) (plain : Plain ty z) where
    pub record IsWritten (a : Address) : Type 0 where
      pub memory : Memory
      pub writes : write locked (scalar ty z) a w ≡ gives [] tt memory
      pub keeps : Keeps K w memory

    abbrev pub IsUnwritten : Address → Type 0
    IsUnwritten a = IsGone a w × (write locked (scalar ty z) a w ≡ outside [])

    pub root_written : (q : Position) (y : Value6) → w.held q ≡ single ty y → write locked (scalar ty z) (root (simple ty) q) w ≡ gives [] tt (with_held q (single ty z) w)
    root_written q y holds =
        ap (λ (o : Option Value). some_of o (λ x w. store locked x q w) w) (is_kept ty z plain)
        ∙ ap (λ (h : Held). put_single h q ty z w) holds
        ∙ ap (λ b. provided b (λ w. gives [] tt (with_held q (single ty z) w)) w) (self ty (is_covered ty z plain))

    item_written : (e : Shape) (q : Position) (j : ℕ) (path : List ℕ) (h : IsElement K w ty e q path) (t : Table ty (w.held q))
        → write locked (scalar ty z) (item e q j path) w
        ≡ some_of (option_and_then (with_known_part [] (scalar ty z)) (value_at t.values j))
        (λ y w. gives [] tt (with_held q (table (simple ty) t.dims (with_value_at t.values j y)) w)) w
    item_written e q j path h t =
        ap (λ (s : Shape). write locked (scalar ty z) (item s q j path) w) h.0
        ∙ ap (λ (p : List ℕ). write locked (scalar ty z) (item (simple ty) q j p) w) h.1
        ∙ ap (λ (o : Option Value). some_of o (λ x w. put_item (w.held q) q j [] x w) w) (is_kept ty z plain)
        ∙ ap (λ (g : Held). put_item g q j [] (scalar ty z) w) t.holds

    pub write_seat : (a : Address) → covers_type ty ≡ true → IsSeat K w ty a → (IsConstant a → ⊥) → IsWritten a ⊎ IsUnwritten a
    write_seat (root d q) c h n =
        let s : Single ty (w.held q) = single_of ty (w.held q) c h.1.0.holds in
        inl (record {
          memory = with_held q (single ty z) w;
          writes = ap (λ g. write locked (scalar ty z) (root g q) w) (simple_is ty d c h.0) ∙ root_written q s.value s.holds;
          keeps = keeps_changed K w q ty (single ty z) h.1.0 (holds_scalar ty z plain);
        })
    write_seat (constant y) c h n = absurd (n tt)
    write_seat (item e q j path) c h n = by (value_at t.values j) refl
      where
        t : Table ty (w.held q)
        t = table_of ty 0 (w.held q) h.2.holds

        go : Value → Memory → Outcome Memory Unit
        go y m = gives [] tt (with_held q (table (simple ty) t.dims (with_value_at t.values j y)) m)

        by : (o : Option Value) → value_at t.values j ≡ o → IsWritten (item e q j path) ⊎ IsUnwritten (item e q j path)
        by None i =
            inr (item_is e q j path h t ∙ i, item_written e q j path h t ∙ ap (λ o. some_of (option_and_then (with_known_part [] (scalar ty z)) o) go w) i)
        by (Some y) i =
            let xs : Values = with_value_at t.values j (scalar ty z) in
            inl (record {
              memory = with_held q (table (simple ty) t.dims xs) w;
              writes = item_written e q j path h t ∙ ap (λ o. some_of (option_and_then (with_known_part [] (scalar ty z)) o) go w) i;
              keeps = keeps_changed K w q (types.array ty 0) (table (simple ty) t.dims xs) h.2
                  (holds_array ty 0 t.dims xs t.covers (sized_with t.dims t.values j (scalar ty z) t.sized) (each_with ty t.values j z t.plain plain));
            })
