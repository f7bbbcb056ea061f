-- ReDim and Erase keep the types of what stands, raise an error, or leave.
use Rattle.std.proofs.Common.{◌≡◌, refl, sym, ap, ◌∙◌, subst, ℕ, zero, suc, ◌<◌, ◌*◌, ℤ, pos, negsuc, ◌-ℤ◌, Bool, true, false, ◌&&◌, true≢false, List, [], ◌∷◌, length, Option, Some, None, arith, lt-ltb, ltb-true}
use Rattle.std.specs.Prelude.{nat_lt}
use Rattle.vb_tree.specs.BoundTree as types
use Rattle.vb_tree.specs.BoundTree.{Ty}
use Rattle.vb_tree.specs.declared.value.Value6.{Value6}
use Rattle.vb_tree.specs.declared.value.Value6.TheVariants as v
use Rattle.bound_tree.specs.declared.body.Mention.{Mention}
use Rattle.bound_tree.specs.Tree.{Declarations, Expr}
use Rattle.bound_facts.specs.Node.{type_at}
use Rattle.bound_facts.specs.Parts.{Extent, Resize}
use Rattle.row_laws.proofs.Composing.{then_assoc}
use Rattle.run_base.specs.Outcomes.{Output, Outcome, after, gives, some_of, then}
use Rattle.run_base.specs.Positions.{Position}
use Rattle.vb6_run.specs.Arrays.{dimension_to, dynamic_array, erase, has_lows, is_long, new_dimension, put_resized, resize, resized, with_held_array}
use Rattle.vb6_run.specs.Expressions.{Context, address_of, declared, lows_at, scalar_value, whole_number}
use Rattle.vb6_run.specs.Lines.{dimensions_of, low_of, redim_does}
use Rattle.vb6_run.specs.Shapes.{array, simple}
use Rattle.vb6_run.specs.Store.{Address, Held, Memory, contains, provided, root, table, unless_locked, with_held}
use Rattle.vb6_run.specs.Values.{Dimension, Value, Values, count_values, first_scalar, first_value, is_small, is_within_limits, next_value, no_values, preserved, product, repeated, scalar, size}
use Rattle.run_matches.specs.CoveredExprs.{Uses}
use Rattle.run_matches.specs.Typed.{IsSized, no_elements, sized}
use Rattle.typing_laws.specs.Calls.{CallsKeep, Each, SourceJob}
use Rattle.typing_laws.specs.Flat.{flat_uses}
use Rattle.typing_laws.specs.Frames.{Footprint, Ground, Keeps, Stands, ground}
use Rattle.typing_laws.specs.Leaving.{Leaves, ExtentsLeave, IsNamed, ResizesLeave, behind_array, behind_extent, in_extents, in_high, in_low, new_lows, no_long_low, past_limit, preserves_several, resizes_fixed, too_large}
use Rattle.typing_laws.specs.Plain.{EachPlain, Plain, holds_array, next_plain, none_plain}
use Rattle.typing_laws.proofs.Arrays.{HasArray, array_address, array_place, named_at, table_at}
use Rattle.typing_laws.proofs.Ends.{Ends, ends_after, ends_weaker, keeps_self, then_ends}
use Rattle.typing_laws.proofs.Expressions.{IsScalarOf}
use Rattle.typing_laws.proofs.Flat.{NamesArray}
use Rattle.typing_laws.proofs.Held.{Table}
use Rattle.typing_laws.proofs.Lines.{IsFine, IsIn, fine_scalar, fits_in, in_later}
use Rattle.typing_laws.proofs.Made.{count_repeated, each_repeated, more_than_none}
use Rattle.typing_laws.proofs.Places.{keeps_changed}
use Rattle.typing_laws.proofs.Plain.{first_plain, long_value}
use Rattle.typing_laws.proofs.Uses.{UsedArray, array_use_is}

-- ---- the elements of an array that is made anew

each_preserved : (ty : Ty) (n : ℕ) (xs : Values) (z : Value6) → EachPlain ty xs → Plain ty z → EachPlain ty (preserved n xs (scalar ty z))
each_preserved ty zero xs z h p = none_plain ty
each_preserved _ (suc n) _ z (none_plain ty) p = next_plain ty z (preserved n no_values (scalar ty z)) p (each_preserved ty n no_values z (none_plain ty) p)
each_preserved _ (suc n) _ z (next_plain ty y ys q h) p = next_plain ty y (preserved n ys (scalar ty z)) q (each_preserved ty n ys z h p)

count_preserved : (n : ℕ) (xs : Values) (y : Value) → count_values (preserved n xs y) ≡ n
count_preserved zero xs y = refl
count_preserved (suc n) no_values y = ap suc (count_preserved n no_values y)
count_preserved (suc n) (next_value x xs) y = ap suc (count_preserved n xs y)

-- dimensions that have an index each
pub record AreNew (dims : List Dimension) : Type 0 where
  pub first : Dimension
  pub rest : List Dimension
  pub are : dims ≡ first ∷ rest
  pub some : 0 < product dims

sized_new : (dims : List Dimension) (ys : Values) → AreNew dims → is_within_limits dims ≡ true → count_values ys ≡ size dims → IsSized dims ys
sized_new dims ys n within count = by dims n.are n.some within count
  where
    by : (ds : List Dimension) → ds ≡ n.first ∷ n.rest → 0 < product ds → is_within_limits ds ≡ true → count_values ys ≡ size ds → IsSized ds ys
    by [] e some within count = absurd (cc e)
    by (d ∷ ds) e some within count = sized d ds ys (lt-ltb 0 (size (d ∷ ds)) some) within count

size_positive : (dims : List Dimension) → AreNew dims → nat_lt 0 (size dims) ≡ true
size_positive dims n = by dims n.are n.some
  where
    by : (ds : List Dimension) → ds ≡ n.first ∷ n.rest → 0 < product ds → nat_lt 0 (size ds) ≡ true
    by [] e some = absurd (cc e)
    by (d ∷ ds) e some = lt-ltb 0 (size (d ∷ ds)) some

one_more : (n : ℕ) → n ≡ n * 1
one_more n = omega arith

module _ (C : Context) (F : Footprint) (X : SourceJob → Memory → Type 0) (calls : CallsKeep C F X) (mentions : List Mention) where
  abbrev D : Declarations
  D = declared C

  abbrev K : Ground
  K = ground (declared C) F

  abbrev uses : Uses
  uses = flat_uses C.runnable.program C.procedure mentions

  abbrev Fine : Expr → Type 0
  Fine e = IsFine C F X calls mentions e

  abbrev Done : Memory → Unit {0} → Type 0
  Done v u = Unit {0}

  -- ---- bounds

  abbrev pub IsBound : Expr → Type 0
  IsBound e = Fine e × (type_at e ≡ types.long)

  abbrev pub IsLow : Option Expr → Type 0
  IsLow None = Unit {0}
  IsLow (Some e) = IsBound e

  abbrev pub IsExtent : Extent → Type 0
  IsExtent x = IsLow x.0 × IsBound x.1

  abbrev AnyNumber : Memory → ℤ → Type 0
  AnyNumber m z = Unit {0}

  -- a value of type Long as a whole number
  whole_ends : (e : Expr) → IsBound e → (w : Memory) → IsIn C F w → (E : Type 0) → (Leaves C X e w → E) → {B : Type 0} (Q : Memory → B → Type 0)
      → (k : ℤ → Memory → Outcome Memory B)
      → ((o : List Output) (z : ℤ) (m : Memory) → scalar_value C e w ≡ gives o (v.Long z) m → Keeps K w m → Ends K Q E m (k z m))
      → Ends K Q E w (then (scalar_value C e w) (λ x m. then (whole_number x m) k))
  whole_ends e b w h E out Q k go =
      then_ends K (IsScalarOf (type_at e)) Q E w (scalar_value C e w) (λ x m. then (whole_number x m) k)
      (ends_weaker K (IsScalarOf (type_at e)) (Leaves C X e w) E w (scalar_value C e w) out (fine_scalar C F X calls mentions e b.0 w h))
      (λ o x m one l p.
      let z = long_value (type_at e) x p b.1 in
      subst (λ y. Ends K Q E m (then (whole_number y m) k)) (sym z.1)
      (ends_after K Q E m [] (k z.0 m) (go o z.0 m (one ∙ ap (λ y. gives o y m) z.1) l)))

  low_ends : (low : Option Expr) → IsLow low → (w : Memory) → IsIn C F w → (E : Type 0) → ((e : Expr) → low ≡ Some e → Leaves C X e w → E)
      → Ends K AnyNumber E w (low_of C low w)
  low_ends None g w h E out = (keeps_self K w, tt)
  low_ends (Some e) g w h E out =
      then_ends K (IsScalarOf (type_at e)) AnyNumber E w (scalar_value C e w) whole_number
      (ends_weaker K (IsScalarOf (type_at e)) (Leaves C X e w) E w (scalar_value C e w) (out e refl) (fine_scalar C F X calls mentions e g.0 w h))
      (λ o x m one l p.
      let z = long_value (type_at e) x p g.1 in
      subst (λ y. Ends K AnyNumber E m (whole_number y m)) (sym z.1) (keeps_self K m, tt))

  -- ---- dimensions

  -- as many as there are bounds, each with an index
  abbrev AreDims : List Extent → Memory → List Dimension → Type 0
  AreDims xs m ds = (0 < product ds) × (length ds ≡ length xs)

  abbrev More : List Extent → Dimension → Memory → Outcome Memory (List Dimension)
  More xs d m = then (dimensions_of C xs m) (λ ds n. gives [] (d ∷ ds) n)

  module _ (low : Option Expr) (e : Expr) (xs : List Extent) (w m u : Memory) (o p : List Output) (z h : ℤ) (one : low_of C low w ≡ gives o z m)
      (two : scalar_value C e m ≡ gives p (v.Long h) u)
      (more : Ends K (AreDims xs) (ExtentsLeave C X xs u) u (dimensions_of C xs u)) where
    abbrev L : Type 0
    L = ExtentsLeave C X ((low, e) ∷ xs) w

    abbrev Q : Memory → List Dimension → Type 0
    Q n ds = AreDims ((low, e) ∷ xs) n ds

    with_more : (d : Dimension) → 0 < d.count → Ends K Q L u (More xs d u)
    with_more d some =
        then_ends K (AreDims xs) Q L u (dimensions_of C xs u) (λ ds n. gives [] (d ∷ ds) n)
        (ends_weaker K (AreDims xs) (ExtentsLeave C X xs u) L u (dimensions_of C xs u) (behind_extent low e xs w m u o p z (v.Long h) one two) more)
        (λ o2 ds n three l a. (keeps_self K n, (product_more d.count (product ds) some a.0, ap suc a.1)))
      where
        product_more : (c n : ℕ) → 0 < c → 0 < n → 0 < c * n
        product_more zero n l m = absurd (omega (arith, l))
        product_more (suc c) n l m = more_than_none c n m

    counted_by : (x : ℤ) → h -ℤ z ≡ x → Ends K Q L u (then (dimension_to z x u) (More xs))
    counted_by (negsuc n) e2 = keeps_self K u
    counted_by (pos n) e2 = by (is_small (suc n)) refl
      where
        positive : 0 < suc n
        positive = omega arith

        by : (b : Bool) → is_small (suc n) ≡ b → Ends K Q L u (then (provided b (λ m2. gives [] (record { low = z; count = suc n }) m2) u) (More xs))
        by false i = past_limit low e xs w m u o p z h n one two e2 i
        by true i = ends_after K Q L u [] (More xs (record { low = z; count = suc n }) u) (with_more (record { low = z; count = suc n }) positive)

    new_ends : Ends K Q L u (then (new_dimension z h u) (More xs))
    new_ends = by (is_long z) refl
      where
        by : (b : Bool) → is_long z ≡ b → Ends K Q L u (then (provided b (dimension_to z (h -ℤ z)) u) (More xs))
        by false i = no_long_low low e xs w m u o p z (v.Long h) one two i
        by true i = counted_by (h -ℤ z) refl

  dims_end : (xs : List Extent) → Each IsExtent xs → (w : Memory) → IsIn C F w → Ends K (AreDims xs) (ExtentsLeave C X xs w) w (dimensions_of C xs w)
  dims_end [] g w h = (keeps_self K w, (let l : 0 < 1 = omega arith in l, refl))
  dims_end ((low, e) ∷ xs) g w h =
      let L : Type 0 = ExtentsLeave C X ((low, e) ∷ xs) w in
      let Q = AreDims ((low, e) ∷ xs) in
      let K2 = λ (z : ℤ) (m : Memory). then (then (scalar_value C e m) whole_number) (λ high n. then (new_dimension z high n) (More xs)) in
      then_ends K AnyNumber Q L w (low_of C low w) K2
      (low_ends low g.0.0 w h L (λ d is l. subst (λ (t : Option Expr). ExtentsLeave C X ((t, e) ∷ xs) w) (sym is) (in_low d e xs w l)))
      (λ o z m one k i.
      let hm : IsIn C F m = in_later C F w m k h in
      let K3 = λ (high : ℤ) (n : Memory). then (new_dimension z high n) (More xs) in
      subst (λ r. Ends K Q L m r) (sym (then_assoc (scalar_value C e m) whole_number K3))
      (whole_ends e g.0.1 m hm L (in_high low e xs w m o z one) Q K3
      (λ p y n two l. new_ends low e xs w m n o p z y one two (dims_end xs g.1 n (in_later C F m n l hm)))))

  -- ---- one array

  -- an array that is named, with bounds, of which there is one alone where its elements are kept
  pub record IsResize (preserve : Bool) (r : Resize) : Type 0 where
    pub array : NamesArray uses r.array
    pub extents : Each IsExtent r.extents
    pub some : nat_lt 0 (length r.extents) ≡ true
    pub alone : preserve ≡ true → length r.extents ≡ 1

  new_dims : (xs : List Extent) (dims : List Dimension) (m : Memory) → nat_lt 0 (length xs) ≡ true → AreDims xs m dims → AreNew dims
  new_dims xs [] m some a =
      let l : 0 < length xs = ltb-true 0 (length xs) some in
      let same : 0 ≡ length xs = a.1 in
      absurd (omega (arith, l, same))
  new_dims xs (d ∷ dims) m some a = record { first = d; rest = dims; are = refl; some = a.0 }

  module _ (preserve : Bool) (r : Resize) (rs : List Resize) (w m : Memory) (o : List Output) (dims : List Dimension) (good : IsResize preserve r)
      (one : dimensions_of C r.extents w ≡ gives o dims m) (new : AreNew dims) (count : length dims ≡ length r.extents) (i : IsIn C F m) where
    abbrev R : Type 0
    R = ResizesLeave C X preserve (r ∷ rs) w

    abbrev e : Ty
    e = good.array.element

    abbrev u : UsedArray D C.procedure good.array.variable e
    u = (array_use_is C.runnable.program C.procedure mentions good.array.variable e good.array.used).0

    abbrev h : HasArray C F m good.array.variable.0 e
    h = array_place C F m (fits_in C F m i) good.array.variable e u

    abbrev t : Table e (m.held h.place)
    t = table_at C F m good.array.variable.0 e h

    abbrev there : Address
    there = root (array (simple e) h.bounds) h.place

    named : address_of C r.array m ≡ gives [] there m
    named =
        subst (λ d. address_of C d m ≡ gives [] there m) (sym good.array.is)
        (array_address C F m m (types.array e good.array.rank) good.array.variable good.array.qualified e u h)

    is_named : IsNamed C r.array m m t.dims
    is_named =
        subst (λ d. IsNamed C d m m t.dims) (sym good.array.is)
        (named_at C F m m (types.array e good.array.rank) good.array.variable good.array.qualified e u h)

    abbrev locked : Bool
    locked = contains C.frame.env h.place

    put : (ys : Values) → IsSized dims ys → EachPlain e ys → (b : Bool)
        → Ends K Done R m (unless_locked b (λ n. gives [] tt (with_held h.place (table (simple e) dims ys) n)) m)
    put ys size_is each true = keeps_self K m
    put ys size_is each false =
        (keeps_changed K m h.place (types.array e 0) (table (simple e) dims ys) h.stands (holds_array e 0 dims ys t.covers size_is each), tt)

    abbrev first : Value
    first = first_value (simple e)

    all_first : is_within_limits dims ≡ true → Ends K Done R m
        (some_of (Some (repeated (size dims) first)) (λ ys n. unless_locked locked (λ k. gives [] tt (with_held h.place (table (simple e) dims ys) k)) n) m)
    all_first within =
        put (repeated (size dims) first) (sized_new dims (repeated (size dims) first) new within (count_repeated (size dims) first))
        (each_repeated e (first_scalar e) (first_plain e t.covers) (size dims)) locked

    -- one dimension in the place of one
    kept : (n : Dimension) → dims ≡ n ∷ [] → is_within_limits dims ≡ true → Ends K Done R m
        (some_of (Some (preserved n.count t.values first)) (λ ys n. unless_locked locked (λ k. gives [] tt (with_held h.place (table (simple e) dims ys) k)) n) m)
    kept n is within =
        put (preserved n.count t.values first)
        (sized_new dims (preserved n.count t.values first) new within
        (count_preserved n.count t.values first ∙ one_more n.count ∙ ap size (sym is)))
        (each_preserved e n.count t.values (first_scalar e) t.plain (first_plain e t.covers)) locked

    two_alone : (a b : Dimension) (ds : List Dimension) → dims ≡ a ∷ b ∷ ds → preserve ≡ true → ⊥
    two_alone a b ds is p =
        let l : length dims ≡ suc (suc (length ds)) = ap (λ (x : List Dimension). length x) is in
        let k : length r.extents ≡ 1 = good.alone p in
        let c : length dims ≡ length r.extents = count in
        omega (arith, l, k, c)

    none_new : dims ≡ [] → ⊥
    none_new e2 = cc (sym e2 ∙ new.are)

    resized_by : (b : Bool) → preserve ≡ b → (old ds : List Dimension) → t.dims ≡ old → dims ≡ ds → is_within_limits dims ≡ true
        → Ends K Done R m
        (some_of (resized b old ds (simple e) t.values) (λ ys n. unless_locked locked (λ k. gives [] tt (with_held h.place (table (simple e) dims ys) k)) n) m)
    resized_by false p old ds is same within =
        subst (λ (x : List Dimension). Ends K Done R m (some_of (resized false old x (simple e) t.values)
        (λ ys n. unless_locked locked (λ k. gives [] tt (with_held h.place (table (simple e) dims ys) k)) n) m)) same (all_first within)
    resized_by true p [] ds is same within =
        subst (λ (x : List Dimension). Ends K Done R m (some_of (resized true [] x (simple e) t.values)
        (λ ys n. unless_locked locked (λ k. gives [] tt (with_held h.place (table (simple e) dims ys) k)) n) m)) same (all_first within)
    resized_by true p (d ∷ []) (n ∷ []) is same within = kept n same within
    resized_by true p (d ∷ []) [] is same within = absurd (none_new same)
    resized_by true p (d ∷ []) (n ∷ k ∷ ds) is same within = absurd (two_alone n k ds same p)
    resized_by true p (d ∷ c ∷ old) ds is same within =
        preserves_several r rs w m o dims d c old p one (subst (λ (x : List Dimension). IsNamed C r.array m m x) is is_named)

    checked : (b : Bool) → is_within_limits dims ≡ b → (c : Bool) → nat_lt 0 (size dims) ≡ c
        → Ends K Done R m (provided (b && c) (some_of (resized preserve t.dims dims (simple e) t.values)
        (λ ys n. unless_locked locked (λ k. gives [] tt (with_held h.place (table (simple e) dims ys) k)) n)) m)
    checked false within c some = too_large r rs w m o dims one within
    checked true within true some = resized_by preserve refl t.dims dims refl refl within
    checked true within false some = absurd (true≢false (sym (size_positive dims new) ∙ some))

    put_ends : Ends K Done R m (put_resized C.frame.env preserve dims (m.held h.place) h.place m)
    put_ends =
        subst (λ g. Ends K Done R m (put_resized C.frame.env preserve dims g h.place m)) (sym t.holds)
        (checked (is_within_limits dims) refl (nat_lt 0 (size dims)) refl)

    lows_by : (b : Bool) → has_lows (lows_at C r.array) dims ≡ b
        → Ends K Done R m (provided b (put_resized C.frame.env preserve dims (m.held h.place) h.place) m)
    lows_by false lows = new_lows r rs w m o dims one lows
    lows_by true lows = put_ends

    fixed_by : (bounds : List (ℤ × ℤ)) → h.bounds ≡ bounds
        → Ends K Done R m (resize C.frame.env (lows_at C r.array) preserve dims (root (array (simple e) bounds) h.place) m)
    fixed_by [] is = lows_by (has_lows (lows_at C r.array) dims) refl
    fixed_by (b ∷ bs) is =
        resizes_fixed r rs w m o dims there one named (ap (λ (x : List (ℤ × ℤ)). dynamic_array (root (array (simple e) x) h.place)) is)

    pub resize_ends : Ends K Done R m (resize C.frame.env (lows_at C r.array) preserve dims there m)
    resize_ends = fixed_by h.bounds refl

  -- ---- ReDim

  -- what is done for one array and the others
  abbrev Then : Bool → Resize → List Resize → List Dimension → Memory → Outcome Memory Unit
  Then preserve r rs dims m =
      then (address_of C r.array m) (λ a n. then (resize C.frame.env (lows_at C r.array) preserve dims a n) (λ x k. redim_does C preserve rs k))

  pub redim_ends : (preserve : Bool) (rs : List Resize) → Each (IsResize preserve) rs → (w : Memory) → IsIn C F w
      → Ends K Done (ResizesLeave C X preserve rs w) w (redim_does C preserve rs w)
  redim_ends preserve [] g w i = (keeps_self K w, tt)
  redim_ends preserve (r ∷ rs) g w i =
      let R : Type 0 = ResizesLeave C X preserve (r ∷ rs) w in
      then_ends K (AreDims r.extents) Done R w (dimensions_of C r.extents w) (λ dims m. Then preserve r rs dims m)
      (ends_weaker K (AreDims r.extents) (ExtentsLeave C X r.extents w) R w (dimensions_of C r.extents w) (in_extents r rs w) (dims_end r.extents g.0.extents w i))
      (λ o dims m one k a.
      let j : IsIn C F m = in_later C F w m k i in
      let new : AreNew dims = new_dims r.extents dims m g.0.some a in
      let here = there preserve r rs w m o dims g.0 one new a.1 j in
      let name = named preserve r rs w m o dims g.0 one new a.1 j in
      let Last = λ (b : Address) (n : Memory). then (resize C.frame.env (lows_at C r.array) preserve dims b n) (λ x k. redim_does C preserve rs k) in
      let Alone = λ (b : Address) (n : Memory). then (resize C.frame.env (lows_at C r.array) preserve dims b n) (λ x k. redim_does C preserve [] k) in
      subst (λ z. Ends K Done R m (then z Last)) (sym name)
      (ends_after K Done R m [] (Last here m)
      (then_ends K Done Done R m (resize C.frame.env (lows_at C r.array) preserve dims here m) (λ x n. redim_does C preserve rs n)
      (resize_ends preserve r rs w m o dims g.0 one new a.1 j)
      (λ p x n two l d.
      ends_weaker K Done (ResizesLeave C X preserve rs n) R n (redim_does C preserve rs n)
      (behind_array r rs w n _
      (ap (λ z. then z (λ ds k. Then preserve r [] ds k)) one ∙ ap (λ z. after o (then z Alone)) name
      ∙ ap (λ z. after o (after [] (then z (λ y k. redim_does C preserve [] k)))) two))
      (redim_ends preserve rs g.1 n (in_later C F m n l j))))))

  -- ---- Erase

  erased_by : (w : Memory) (q : Position) (e : Ty) (t : Table e (w.held q)) → Stands K w q (types.array e 0) → (E : Type 0) → (b : Bool)
      → Ends K Done E w (unless_locked b (λ n. gives [] tt (with_held q (table (simple e) [] no_values) n)) w)
  erased_by w q e t s E true = keeps_self K w
  erased_by w q e t s E false =
      (keeps_changed K w q (types.array e 0) (table (simple e) [] no_values) s (holds_array e 0 [] no_values t.covers no_elements (none_plain e)), tt)

  pub erase_ends : (d : Expr) → NamesArray uses d → (w : Memory) → IsIn C F w → (E : Type 0)
      → ((a : Address) → address_of C d w ≡ gives [] a w → dynamic_array a ≡ None → E) → Ends K Done E w (then (address_of C d w) (erase C.frame.env))
  erase_ends d n w i E out =
      subst (λ r. Ends K Done E w (then r (erase C.frame.env))) (sym name) (ends_after K Done E w [] (erase C.frame.env at w) (by h.bounds refl))
    where
      u : UsedArray D C.procedure n.variable n.element
      u = (array_use_is C.runnable.program C.procedure mentions n.variable n.element n.used).0

      h : HasArray C F w n.variable.0 n.element
      h = array_place C F w (fits_in C F w i) n.variable n.element u

      at : Address
      at = root (array (simple n.element) h.bounds) h.place

      name : address_of C d w ≡ gives [] at w
      name =
          subst (λ c. address_of C c w ≡ gives [] at w) (sym n.is)
          (array_address C F w w (types.array n.element n.rank) n.variable n.qualified n.element u h)

      t : Table n.element (w.held h.place)
      t = table_at C F w n.variable.0 n.element h

      by : (bounds : List (ℤ × ℤ)) → h.bounds ≡ bounds → Ends K Done E w (erase C.frame.env (root (array (simple n.element) bounds) h.place) w)
      by [] is =
          subst (λ (g : Held). Ends K Done E w
          (with_held_array g (λ s dims xs m. unless_locked (contains C.frame.env h.place) (λ k. gives [] tt (with_held h.place (table s [] no_values) k)) m) w)) (sym t.holds)
          (erased_by w h.place n.element t h.stands E (contains C.frame.env h.place))
      by (b ∷ bs) is = out at name (ap (λ (x : List (ℤ × ℤ)). dynamic_array (root (array (simple n.element) x) h.place)) is)
