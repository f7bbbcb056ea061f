-- The bounds of a ReDim: each dimension is checked by itself, behind its upper bound.
use Rattle.std.proofs.Common.{◌≡◌, inl, inr, ◌∙◌, refl, sym, ap, subst, ℕ, zero, suc, ◌+◌, ◌<◌, ◌^◌, ℤ, pos, negsuc, Bool, true, false, cond, ◌&&◌, Option, Some, None, List, [], ◌∷◌, length, codes, true≢false, ltb-true, arith, map, slice_get}
use Rattle.std.specs.Prelude.{is_some, int_lt, int_le, ◌-ℤ◌, slice_get, drop}
use Rattle.std.specs.List.{list_all, Contains}
use Rattle.std.proofs.lemmas.Int.{ints}
use Rattle.up_base.proofs.Tests.{by_test}
use Rattle.vb_tree.specs.BoundTree.{Ty}
use Rattle.vb_tree.specs.BoundTree as types
use Rattle.vb_tree.specs.declared.value.Value6.{Value6}
use Rattle.vb_tree.specs.declared.value.Value6.TheVariants as v
use Rattle.bound_tree.specs.Tree.{Expr}
use Rattle.bound_facts.proofs.Chains.{both_true}
use Rattle.bound_facts.specs.Bounds.{home_base}
use Rattle.bound_facts.specs.Folded.{folded}
use Rattle.bound_facts.specs.Locks.{is_same_type}
use Rattle.bound_facts.specs.Node.{type_at}
use Rattle.bound_facts.specs.Parts.{Extent, Resize, extents, resizes, total}
use Rattle.vb6_meaning.specs.Answers as answer
use Rattle.vb6_meaning.specs.Kinds.{fits}
use Rattle.net_meaning.specs.declared.value.ValueN.{ValueN}
use Rattle.net_meaning.specs.declared.value.ValueN.TheVariants as n
use Rattle.net_meaning.specs.Support.{is_index, top}
use Rattle.net_meaning.specs.ValueMatch.{Matches, longs}
use Rattle.run_base.specs.Outcomes.{Outcome, gives, raises, outside, after, then}
use Rattle.written_trees.specs.Conversions.{support_call, two}
use Rattle.written_trees.specs.Exprs.{exp_of}
use Rattle.written_trees.specs.Library.{low_exp}
use Rattle.written_trees.specs.Lines.{extents_exps}
use Rattle.written_trees.specs.Names.{Scope}
use Rattle.vb6_run.specs.Arrays.{dimension_to, is_long, new_dimension}
use Rattle.vb6_run.specs.Expressions as source
use Rattle.vb6_run.specs.Expressions.{Context, scalar_of, scalar_value, value_in, whole_number}
use Rattle.vb6_run.specs.Forms.{SourceLine}
use Rattle.vb6_run.specs.Lines.{dimensions_of, low_of}
use Rattle.vb6_run.specs.Store.{Memory, SourceCalls, SourceFrame, provided}
use Rattle.vb6_run.specs.Values.{Dimension, Value, scalar, is_small}
use Rattle.net_run.specs.Expressions as target
use Rattle.net_run.specs.Expressions.{singles}
use Rattle.net_run.specs.Functions.{top_row}
use Rattle.net_run.specs.Lines.{NetFrame, NetLine, scope_of}
use Rattle.net_run.specs.Making.{Jobs}
use Rattle.net_run.specs.Members.{Code}
use Rattle.net_run.specs.Names as net_names
use Rattle.net_run.specs.Store as net_store
use Rattle.net_run.specs.Structures.{counts_of}
use Rattle.net_run.specs.Values as net_value
use Rattle.net_run.specs.Values.{single}
use Rattle.row_laws.specs.Follows.{answers, on_values, Any, RowOfOne}
use Rattle.row_laws.specs.Functions.{extent_row}
use Rattle.row_laws.proofs.Composing.{then_assoc}
use Rattle.row_laws.proofs.Functions.{extent_gives}
use Rattle.row_laws.proofs.Support.{support_of_two}
use Rattle.run_matches.specs.Upgrades.{Upgrade}
use Rattle.run_matches.specs.Maps.{World}
use Rattle.run_matches.specs.Likeness.{LikeV, like_scalar, are_same}
use Rattle.run_matches.specs.Likeness as likeness
use Rattle.run_matches.specs.Match.{MemoryMatch}
use Rattle.run_matches.specs.Pledges.{Pledge, Later}
use Rattle.run_matches.specs.Agreeing.{Agrees}
use Rattle.run_matches.specs.Formed.{is_formed}
use Rattle.run_matches.specs.CoveredExprs.{Uses, covers_expr, covers_value}
use Rattle.run_matches.specs.CoveredLines.{covers_extent, covers_low}
use Rattle.run_matches.specs.Runs.{CallsAgree}
use Rattle.run_statements.specs.Fitting.{low_in_dimension, FitsExtent, HasConstantLow}
use Rattle.run_statements.specs.Frames.{AllCalled, AreReadable, ArePlaced, ExpressionsAgree, IsOpen, ScalarMatch, context_of, demands}
use Rattle.run_statements.specs.Written.{Passes}
use Rattle.agreeing_laws.proofs.Agreeing.{agrees_gives, agrees_raises, agrees_outside, left_alone, then_agrees}
use Rattle.agreeing_laws.proofs.Lasting.{later_now, later_then}
use Rattle.line_laws.specs.Lasting.{GoOnMatching}
use Rattle.std.proofs.lemmas.List.Elements.{Contains-append_left, Contains-append_right, Contains-push}
use Rattle.vb_tree.specs.Tree.{Bounds, ReDimItem}
use Rattle.line_laws.proofs.Called.{AllIn}
use Rattle.line_laws.proofs.Constants.{IsAlways, low_is}

-- ---- one dimension

-- a dimension, and the extent that stands for it: its greatest index
abbrev pub ExtentMatch : World → Dimension → net_value.Value → Type 0
ExtentMatch w d y = (m : ℕ) × (d.count ≡ suc m) × (y ≡ single (n.Integer (pos m)))

below_low : (low z : ℤ) (m : ℕ) → z -ℤ low ≡ negsuc m → int_lt z low ≡ true
below_low low z m e = by_test (int_lt z low) (λ b. b ≡ true) (λ y. refl) (λ y. absurd (omega (arith, ints, y, e)))

from_low : (low z : ℤ) (m : ℕ) → z -ℤ low ≡ pos m → int_lt z low ≡ false
from_low low z m e = by_test (int_lt z low) (λ b. b ≡ false) (λ y. absurd (omega (arith, ints, y, e))) (λ y. refl)

small_index : (m : ℕ) → is_small (suc m) ≡ true → is_index (pos m) ≡ true
small_index m e =
    let lt : suc m < 2 ^ 31 = ltb-true (suc m) (2 ^ 31) e in
    ap (λ b. b && int_le (pos m) (pos 2147483647)) (by_test (int_le (pos 0) (pos m)) (λ b. b ≡ true) (λ y. refl) (λ y. absurd (omega (arith, ints, y))))
    ∙ by_test (int_le (pos m) (pos 2147483647)) (λ b. b ≡ true) (λ y. refl) (λ y. absurd (omega (arith, ints, y, lt)))

top_below : (low z : ℤ) → int_lt z low ≡ true → top z low ≡ answer.raises 9
top_below low z e = ap (λ b. cond b (answer.raises 9) (cond (is_index (z -ℤ low)) (answer.gives (n.Integer (z -ℤ low))) (answer.raises 6))) e

top_at : (low z : ℤ) (m : ℕ) → z -ℤ low ≡ pos m → is_small (suc m) ≡ true → top z low ≡ answer.gives (n.Integer (pos m))
top_at low z m e small =
    ap (λ b. cond b (answer.raises 9) (cond (is_index (z -ℤ low)) (answer.gives (n.Integer (z -ℤ low))) (answer.raises 6))) (from_low low z m e)
    ∙ ap (λ u. cond (is_index u) (answer.gives (n.Integer u)) (answer.raises 6)) e
    ∙ ap (λ b. cond b (answer.gives (n.Integer (pos m))) (answer.raises 6)) (small_index m small)

module _ (U : Upgrade) (K : Pledge) (w : World) (h : MemoryMatch U w) where
  dimension_by : (low z : ℤ) (m : ℕ) → z -ℤ low ≡ pos m → (b : Bool) → is_small (suc m) ≡ b
      → Agrees U K w ExtentMatch (provided b (λ w. gives [] (record { low = low; count = suc m }) w) w.src) (answers (top z low) w.net)
  dimension_by low z m e true small =
      subst (λ a. Agrees U K w ExtentMatch (gives [] (record { low = low; count = suc m }) w.src) (answers a w.net)) (sym (top_at low z m e small))
      (agrees_gives U K w ExtentMatch (record { low = low; count = suc m }) (single (n.Integer (pos m))) h (m, refl, refl))
  dimension_by low z m e false small = agrees_outside U K w ExtentMatch (answers (top z low) w.net)

  dimension_to_agrees : (low z u : ℤ) → z -ℤ low ≡ u → Agrees U K w ExtentMatch (dimension_to low u w.src) (answers (top z low) w.net)
  dimension_to_agrees low z (pos m) e = dimension_by low z m e (is_small (suc m)) refl
  dimension_to_agrees low z (negsuc m) e =
      subst (λ a. Agrees U K w ExtentMatch (raises [] 9 w.src) (answers a w.net)) (sym (top_below low z (below_low low z m e)))
      (agrees_raises U K w ExtentMatch 9 h)

  new_agrees : (low z : ℤ) → is_long low ≡ true → Agrees U K w ExtentMatch (new_dimension low z w.src) (answers (top z low) w.net)
  new_agrees low z long =
      subst (λ b. Agrees U K w ExtentMatch (provided b (dimension_to low (z -ℤ low)) w.src) (answers (top z low) w.net)) (sym long)
      (dimension_to_agrees low z (z -ℤ low) refl)

abbrev taken : (low : ℤ) → Value → Memory → Outcome Memory Dimension
taken low x s = then (then (scalar_of x s) whole_number) (λ high s. new_dimension low high s)

upper_is : (C : Context) (e : Expr) (low : ℤ) (s : Memory)
    → then (then (scalar_value C e s) whole_number) (λ high s. new_dimension low high s) ≡ then (source.value_of C e s) (taken low)
upper_is C e low s =
    ap (λ r. then (then r whole_number) (λ high s. new_dimension low high s)) (sym (then_assoc (source.parts_of C e s) (value_in C e) scalar_of))
    ∙ (ap (λ r. then r (λ high s. new_dimension low high s)) (then_assoc (source.value_of C e s) scalar_of whole_number)
    ∙ then_assoc (source.value_of C e s) (λ x s. then (scalar_of x s) whole_number) (λ high s. new_dimension low high s))

same_long : (t : Ty) → is_same_type types.long t ≡ true → t ≡ types.long
same_long types.long e = refl
same_long _ e = absurd (true≢false (sym e))

-- where the lower bound is no Long
outside_long : (low : ℤ) → is_long low ≡ false → (ty : Ty) (z : Value6) (s : Memory) → taken low (scalar ty z) s ≡ outside []
outside_long low e ty (v.Long u) s = ap (λ b. after [] (provided b (dimension_to low (u -ℤ low)) s)) e
outside_long low e ty _ s = refl

abbrev IsLong : Value6 → ValueN → Type 0
IsLong x y = (z : ℤ) × (x ≡ v.Long z) × (y ≡ n.Integer z)

long_match : (same : ℕ → ℕ → Bool) (ty : Ty) (x : Value6) (y : ValueN) → Matches same ty x y → ty ≡ types.long → IsLong x y
long_match same _ _ _ (longs z e) is = (z, refl, refl)
long_match same _ _ _ _ is = absurd (cc is)

-- ---- all dimensions

-- the dimensions from one on begin where those of the array do
abbrev pub AllFit : Upgrade → (procedure : ℕ) → (array : Expr) → (dimension : ℕ) → List Extent → Type 0
AllFit U p a d [] = Unit {0}
AllFit U p a d (x ∷ xs) = FitsExtent U p a d x × AllFit U p a (suc d) xs

-- a covered lower bound is a constant
constant_low : (uses : Uses) (o : Option Expr) → covers_low uses o ≡ true → HasConstantLow o
constant_low uses None h = tt
constant_low uses (Some e) h = (both_true (is_some (folded e)) (covers_expr uses e) h).0

-- what holds of their upper bounds
abbrev pub AllUppers : (Expr → Type 0) → List Extent → Type 0
AllUppers P [] = Unit {0}
AllUppers P (x ∷ xs) = P x.1 × AllUppers P xs

-- so many dimensions, and their extents
abbrev pub DimsMatch : ℕ → World → List Dimension → List net_value.Value → Type 0
DimsMatch m w dims ys =
    (length dims ≡ m) × (xs : List ValueN) × (singles ys ≡ answer.gives xs) × (counts_of xs ≡ answer.gives (likeness.counts_of dims))

next_match : (m : ℕ) (w w1 : World) (d : Dimension) (y : net_value.Value) (ds : List Dimension) (ys : List net_value.Value) → ExtentMatch w1 d y
    → DimsMatch m w ds ys → DimsMatch (suc m) w (d ∷ ds) (y ∷ ys)
next_match m w w1 d y ds ys x r =
    let i : ValueN = n.Integer (pos x.0) in (
      ap suc r.0,
      i ∷ r.1,
      ap (λ a. target.single_before a (singles ys)) x.2 ∙ ap (λ a. target.single_before (single i) a) r.2,
      ap (λ a. answer.then_answer a (λ cs. answer.gives (suc x.0 ∷ cs))) r.3 ∙ ap (λ a. answer.gives (a ∷ likeness.counts_of ds)) (sym x.1),
    )

module _ (U : Upgrade) (expressions : ExpressionsAgree U) (K : Pledge) (p : ℕ) (f : SourceFrame) (g : NetFrame) (l : SourceLine) (k : NetLine) (c : Code) (T : Scope)
    (declared : T.declarations ≡ U.program.declarations) (oracle : SourceCalls) (net_oracle : Jobs) (is_open : IsOpen (scope_of U.written c g k)) (uses : Uses)
    (readable : AreReadable U T uses) (placed : ArePlaced U p f (scope_of U.written c g k) T uses) (agree : CallsAgree U (Passes U) oracle net_oracle) where
  abbrev C : Context
  C = context_of U oracle p f l

  abbrev S : net_names.Scope
  S = scope_of U.written c g k

  abbrev Can : Expr → Type 0
  Can e = AllCalled (demands U K p l k (scope_of U.written c g k) T) e

  matched : (behind : net_value.Value → net_store.Memory → Outcome net_store.Memory net_value.Value) (low : ℤ) → is_long low ≡ true
      → ((x : ValueN) (t : net_store.Memory) → Any x → behind (single x) t ≡ answers (extent_row low x) t)
      → (w : World) → MemoryMatch U w → (ty : Ty) → ty ≡ types.long → (z : Value6) (y : net_value.Value) → LikeV U w (scalar ty z) y
      → Agrees U K w ExtentMatch (taken low (scalar ty z) w.src) (behind y w.net)
  matched behind low long on_single w h _ same _ _ (like_scalar ty z y m) =
      let i : IsLong z y = long_match (are_same w) ty z y m same in
      subst (λ r. Agrees U K w ExtentMatch (taken low (scalar ty z) w.src) r) (sym (on_single y w.net tt))
      (subst (λ r. Agrees U K w ExtentMatch (taken low (scalar ty r) w.src) (answers (extent_row low y) w.net)) (sym i.1)
      (subst (λ r. Agrees U K w ExtentMatch (taken low (scalar ty (v.Long i.0)) w.src) (answers (extent_row low r) w.net)) (sym i.2)
      (left_alone U K w ExtentMatch (new_dimension low i.0 w.src) (answers (top i.0 low) w.net) (new_agrees U K w h low i.0 long))))

  abbrev written : Expr → ℤ → net_store.Memory → Outcome net_store.Memory net_value.Value
  written e low t = target.value_of S net_oracle (support_call (codes "Top") (two (exp_of T e) (low_exp low))) t

  extent_by : (w : World) → MemoryMatch U w → GoOnMatching U K p f g w → (e : Expr) → Can e → covers_expr uses e ≡ true → type_at e ≡ types.long
      → is_formed e ≡ true → (low : ℤ) (b : Bool) → is_long low ≡ b
      → Agrees U K w ExtentMatch (then (source.value_of C e w.src) (taken low)) (written e low w.net)
  extent_by w h G e can covers long formed low true fit =
      let row : RowOfOne S net_oracle Any (support_call (codes "Top") (two (exp_of T e) (low_exp low))) (exp_of T e) (extent_row low) =
      extent_gives S net_oracle is_open.support low fit (exp_of T e) in
      subst (λ r. Agrees U K w ExtentMatch (then (source.value_of C e w.src) (taken low)) r) (sym (row.is w.net))
      (then_agrees U K w (ScalarMatch U (type_at e)) ExtentMatch (source.value_of C e w.src) (target.value_of S net_oracle (exp_of T e) w.net) (taken low) row.behind h
      (expressions K w p f g oracle net_oracle l k c T uses e h (G w (later_now U K w h)) declared is_open readable placed agree can covers formed)
      (λ x y w1 m later.
      subst (λ a. Agrees U K w1 ExtentMatch (taken low a w1.src) (row.behind y w1.net)) (sym m.1)
      (matched row.behind low fit row.on_single w1 later.match (type_at e) long m.0 y m.2)))
  extent_by w h G e can covers long formed low false fit =
      let behind : net_value.Value → net_store.Memory → Outcome net_store.Memory net_value.Value =
      λ u t. then (target.value_of S net_oracle (low_exp low) t) (on_values top_row u) in
      subst (λ r. Agrees U K w ExtentMatch (then (source.value_of C e w.src) (taken low)) r)
      (sym (support_of_two S net_oracle is_open.support (codes "Top") top_row refl (exp_of T e) (low_exp low) w.net))
      (then_agrees U K w (ScalarMatch U (type_at e)) ExtentMatch (source.value_of C e w.src) (target.value_of S net_oracle (exp_of T e) w.net) (taken low) behind h
      (expressions K w p f g oracle net_oracle l k c T uses e h (G w (later_now U K w h)) declared is_open readable placed agree can covers formed)
      (λ x y w1 m later.
      subst (λ a. Agrees U K w1 ExtentMatch (taken low a w1.src) (behind y w1.net)) (sym m.1)
      (subst (λ a. Agrees U K w1 ExtentMatch a (behind y w1.net)) (sym (outside_long low fit (type_at e) m.0 w1.src))
      (agrees_outside U K w1 ExtentMatch (behind y w1.net)))))

  -- an upper bound, and the extent that is written for it
  extent_agrees : (w : World) → MemoryMatch U w → GoOnMatching U K p f g w → (e : Expr) → Can e → covers_value uses types.long e ≡ true → is_formed e ≡ true
      → (low : ℤ)
      → Agrees U K w ExtentMatch (then (then (scalar_value C e w.src) whole_number) (λ high s. new_dimension low high s)) (written e low w.net)
  extent_agrees w h G e can covers formed low =
      let parts : (is_same_type types.long (type_at e) ≡ true) × (covers_expr uses e ≡ true) = both_true (is_same_type types.long (type_at e)) (covers_expr uses e) covers in
      subst (λ r. Agrees U K w ExtentMatch r (written e low w.net)) (sym (upper_is C e low w.src))
      (extent_by w h G e can parts.1 (same_long (type_at e) parts.0) formed low (is_long low) refl)

  module _ (a : Expr) (u : ℕ) (lows : (d : ℕ) → T.facts.low u d ≡ low_in_dimension U a d) where
    abbrev values : ℕ → List Extent → net_store.Memory → Outcome net_store.Memory (List net_value.Value)
    values d xs t = target.values_of S net_oracle (extents_exps T (Some u) d xs) t

    abbrev net_rest : (d : ℕ) → List Extent → net_value.Value → net_store.Memory → Outcome net_store.Memory (List net_value.Value)
    net_rest d xs y t = then (values d xs t) (λ ys t. gives [] (y ∷ ys) t)

    abbrev rest : List Extent → Dimension → Memory → Outcome Memory (List Dimension)
    rest xs dim s = then (dimensions_of C xs s) (λ ds s. gives [] (dim ∷ ds) s)

    -- one dimension behind its lower bound, and all others
    abbrev behind_low : Expr → List Extent → ℤ → Memory → Outcome Memory (List Dimension)
    behind_low e xs z s = then (then (scalar_value C e s) whole_number) (λ high s. then (new_dimension z high s) (rest xs))

    abbrev Rest : World → (d : ℕ) → List Extent → Type 0
    Rest w d xs = (w1 : World) → Later U K w w1 → Agrees U K w1 (DimsMatch (length xs)) (dimensions_of C xs w1.src) (values d xs w1.net)

    upper_agrees : (w : World) → MemoryMatch U w → GoOnMatching U K p f g w → (d : ℕ) (e : Expr) (xs : List Extent) (low : ℤ) → Can e
        → covers_value uses types.long e ≡ true → is_formed e ≡ true → Rest w (suc d) xs
        → Agrees U K w (DimsMatch (suc (length xs))) (behind_low e xs low w.src) (then (written e low w.net) (net_rest (suc d) xs))
    upper_agrees w h G d e xs low can covers formed more =
        subst (λ r. Agrees U K w (DimsMatch (suc (length xs))) r (then (written e low w.net) (net_rest (suc d) xs)))
        (then_assoc (then (scalar_value C e w.src) whole_number) (λ high s. new_dimension low high s) (rest xs))
        (then_agrees U K w ExtentMatch (DimsMatch (suc (length xs)))
        (then (then (scalar_value C e w.src) whole_number) (λ high s. new_dimension low high s)) (written e low w.net) (rest xs) (net_rest (suc d) xs) h
        (extent_agrees w h G e can covers formed low)
        (λ dim y w1 m later.
        then_agrees U K w1 (DimsMatch (length xs)) (DimsMatch (suc (length xs))) (dimensions_of C xs w1.src) (values (suc d) xs w1.net)
        (λ ds s. gives [] (dim ∷ ds) s) (λ ys t. gives [] (y ∷ ys) t) later.match (more w1 later)
        (λ ds ys w2 r last.
        agrees_gives U K w2 (DimsMatch (suc (length xs))) (dim ∷ ds) (y ∷ ys) last.match (next_match (length xs) w2 w1 dim y ds ys m r))))

    extents_agree : (w : World) (d : ℕ) (x : Extent) (xs : List Extent) → IsAlways (low_of C x.0 w.src) (low_in_dimension U a d) w.src
        → Agrees U K w (DimsMatch (suc (length xs))) (behind_low x.1 xs (low_in_dimension U a d) w.src)
        (then (written x.1 (low_in_dimension U a d) w.net) (net_rest (suc d) xs))
        → Agrees U K w (DimsMatch (suc (length xs))) (then (low_of C x.0 w.src) (behind_low x.1 xs)) (values d (x ∷ xs) w.net)
    extents_agree w d x xs (inl e) checked =
        subst (λ z. Agrees U K w (DimsMatch (suc (length xs))) (then (low_of C x.0 w.src) (behind_low x.1 xs)) (then (written x.1 z w.net) (net_rest (suc d) xs)))
        (sym (lows d))
        (subst
        (λ r. Agrees U K w (DimsMatch (suc (length xs))) (then r (behind_low x.1 xs)) (then (written x.1 (low_in_dimension U a d) w.net) (net_rest (suc d) xs)))
        (sym e)
        (left_alone U K w (DimsMatch (suc (length xs))) (behind_low x.1 xs (low_in_dimension U a d) w.src)
        (then (written x.1 (low_in_dimension U a d) w.net) (net_rest (suc d) xs)) checked))
    extents_agree w d x xs (inr e) checked =
        subst (λ r. Agrees U K w (DimsMatch (suc (length xs))) (then r (behind_low x.1 xs)) (values d (x ∷ xs) w.net)) (sym e)
        (agrees_outside U K w (DimsMatch (suc (length xs))) (values d (x ∷ xs) w.net))

    pub dims_agree : (w : World) → MemoryMatch U w → GoOnMatching U K p f g w → (d : ℕ) (xs : List Extent) → AllFit U p a d xs → AllUppers Can xs
        → AllUppers (λ e. is_formed e ≡ true) xs → list_all (covers_extent uses) xs ≡ true
        → Agrees U K w (DimsMatch (length xs)) (dimensions_of C xs w.src) (values d xs w.net)
    dims_agree w h G d [] fits can formed covers = agrees_gives U K w (DimsMatch 0) [] [] h (refl, [], refl, refl)
    dims_agree w h G d (x ∷ xs) fits can formed covers =
        let all : (covers_extent uses x ≡ true) × (list_all (covers_extent uses) xs ≡ true) =
        both_true (covers_extent uses x) (list_all (covers_extent uses) xs) covers in
        let first : (covers_low uses x.0 ≡ true) × (covers_value uses types.long x.1 ≡ true) =
        both_true (covers_low uses x.0) (covers_value uses types.long x.1) all.0 in
        extents_agree w d x xs
        (low_is C uses (home_base U.program.declarations (slice_get U.program.declarations.procs p)) (low_in_dimension U a d) refl x.0 first.0
        (fits.0 (constant_low uses x.0 first.0)) w.src)
        (upper_agrees w h G d x.1 xs (low_in_dimension U a d) can.0 first.1 formed.0
        (λ w1 later. dims_agree w1 later.match (λ w2 more. G w2 (later_then U K w w1 w2 h later more)) (suc d) xs fits.1 can.1 formed.1 all.1))

-- ---- lists

-- what holds of each element
pub all_of : {A : Type 0} (P : A → Type 0) (xs : List A) → ((x : A) → Contains xs x → P x) → AllIn P xs
all_of P [] h = tt
all_of P (x ∷ xs) h =
    (h x (Contains-append_left (x ∷ []) xs x (Contains-push [] x)), all_of P xs (λ y c. h y (Contains-append_right (x ∷ []) xs y c)))

pub all_formed : (es : List Expr) → list_all is_formed es ≡ true → AllIn (λ e. is_formed e ≡ true) es
all_formed [] h = tt
all_formed (e ∷ es) h = let both = both_true (is_formed e) (list_all is_formed es) h in (both.0, all_formed es both.1)

pub all_mapped : {A B : Type 0} (P : B → Type 0) (f : A → B) (xs : List A) → AllIn P (map f xs) → AllIn (λ x. P (f x)) xs
all_mapped P f [] h = tt
all_mapped P f (x ∷ xs) h = (h.0, all_mapped P f xs h.1)

module _ (P : Expr → Type 0) where
  all_dropped : (k : ℕ) (es : List Expr) → AllIn P es → AllIn P (drop k es)
  all_dropped zero es h = subst (λ z. AllIn P z) (sym (drop_none es)) h
    where
      drop_none : {A : Type 0} (xs : List A) → drop 0 xs ≡ xs
      drop_none [] = refl
      drop_none (x ∷ xs) = refl
  all_dropped (suc k) [] h = subst (λ z. AllIn P z) (sym (drop_nothing (suc k))) tt
    where
      drop_nothing : (k : ℕ) → drop {A = Expr} k [] ≡ []
      drop_nothing zero = refl
      drop_nothing (suc k) = refl
  all_dropped (suc k) (e ∷ es) h = all_dropped k es h.1

  all_uppers : (bs : List Bounds) (es : List Expr) → AllIn P es → AllUppers P (extents bs es)
  all_uppers [] es h = tt
  all_uppers (b ∷ bs) [] h = tt
  all_uppers (b ∷ bs) (e ∷ []) h = one (is_some b.lower)
    where
      one : (t : Bool) → AllUppers P (cond t [] ((None, e) ∷ []))
      one true = tt
      one false = (h.0, tt)
  all_uppers (b ∷ bs) (e ∷ x ∷ es) h = by (is_some b.lower) (all_uppers bs es h.1.1) (all_uppers bs (x ∷ es) h.1)
    where
      by : (t : Bool) → AllUppers P (extents bs es) → AllUppers P (extents bs (x ∷ es))
          → AllUppers P (cond t ((Some e, x) ∷ extents bs es) ((None, e) ∷ extents bs (x ∷ es)))
      by true i j = (h.1.0, i)
      by false i j = (h.0, j)

  pub all_resized : (items : List ReDimItem) (es : List Expr) → AllIn P es → AllIn (λ (r : Resize). AllUppers P r.extents) (resizes items es)
  all_resized [] es h = tt
  all_resized (i ∷ items) [] h = tt
  all_resized (i ∷ items) (e ∷ es) h = (all_uppers i.bounds es h.1, all_resized items (drop (total i.bounds) es) (all_dropped (total i.bounds) es h.1))

-- the dimensions from one on
pub all_fit : (U : Upgrade) (p : ℕ) (a : Expr) (d : ℕ) (xs : List Extent) → ((k : ℕ) (x : Extent) → slice_get xs k ≡ Some x → FitsExtent U p a (k + d) x)
    → AllFit U p a d xs
all_fit U p a d [] h = tt
all_fit U p a d (x ∷ xs) h =
    let same : 0 + d ≡ d = omega arith in (
      subst (λ k. FitsExtent U p a k x) same (h 0 x refl),
      all_fit U p a (suc d) xs (λ k y e. let next : suc k + d ≡ k + suc d = omega arith in subst (λ j. FitsExtent U p a j y) next (h (suc k) y e)),
    )
