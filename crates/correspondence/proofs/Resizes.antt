-- What is written for ReDim and Erase names each variable as often as the source uses it.
use Rattle.std.proofs.Common.{◌≡◌, ℕ, zero, suc, ◌+◌, Bool, true, false, ◌&&◌, ◌||◌, cond, List, [], ◌∷◌, ◌++◌, map, Option, Some, None, refl, arith, codes}
use Rattle.std.specs.List.{flat_map, list_all, list_any}
use Rattle.std.specs.Prelude.{drop, is_some, length, nat_eq, not}
use Rattle.up_base.proofs.Lists.{both_true}
use Rattle.vb_tree.specs.BoundTree as types
use Rattle.vb_tree.specs.BoundTree.{Ty}
use Rattle.vb_tree.specs.declared.bound.Op6.{Op6}
use Rattle.vb_tree.specs.declared.value.Value6.{Value6}
use Rattle.vb_tree.specs.Tree.{Bounds, ReDimItem}
use Rattle.bound_tree.specs.declared.body.Mention.{Mention}
use Rattle.bound_tree.specs.Tree.{Program, Expr, typed, constant, unary, binary, convert}
use Rattle.bound_facts.specs.Folded.{binary_row, binary_value, converted_value, folded, unary_row, unary_value}
use Rattle.bound_facts.specs.Locks.{is_same_type}
use Rattle.bound_facts.specs.Node.{declared_at, type_at}
use Rattle.bound_facts.specs.Nodes.{nodes}
use Rattle.bound_facts.specs.Parts as parts
use Rattle.bound_facts.specs.Parts.{Extent, Resize, extents, resizes}
use Rattle.net_tree.specs.Tree as net
use Rattle.net_tree.specs.Types.{TypeName}
use Rattle.written_trees.specs.Exprs.{exp_of}
use Rattle.written_trees.specs.Lines.{empty_extents, extents_exps, resized_array}
use Rattle.written_trees.specs.Names.{Path, Scope}
use Rattle.run_matches.specs.CoveredExprs.{Uses, covers_array, covers_expr, covers_value, uses_in}
use Rattle.run_matches.specs.CoveredLines.{covers_extent, covers_resize, covers_resizes}
use Rattle.run_matches.specs.Formed.{is_formed}
use Rattle.correspondence.specs.Uses.{exps_name, extent_exprs, listed, names, redim_exps, resize_exprs, total, uses}
use Rattle.correspondence.proofs.NamedArrays.{IsRight, array_names}
use Rattle.correspondence.proofs.NamedCalls.{none_of_both}
use Rattle.correspondence.proofs.Naming.{expr_names}

-- ---- constants use nothing

some_unary : (op : Op6) (o : Option Value6) → is_some (unary_value op o) ≡ true → is_some o ≡ true
some_unary op None h = h
some_unary op (Some x) h = refl

some_binary : (op : Op6) (a b : Option Value6) → is_some (binary_value op a b) ≡ true → (is_some a ≡ true) × (is_some b ≡ true)
some_binary op None b h = absurd (cc h)
some_binary op (Some x) None h = absurd (cc h)
some_binary op (Some x) (Some y) h = (refl, refl)

some_converted : (to : Ty) (o : Option Value6) → is_some (converted_value to o) ≡ true → is_some o ≡ true
some_converted to None h = h
some_converted to (Some x) h = refl

folded_unused : (v : ℕ) (e : Expr) → is_some (folded e) ≡ true → uses v e ≡ 0
folded_unused v (typed ty (constant x origin)) h = refl
folded_unused v (typed ty (unary op e)) h = folded_unused v e (some_unary (unary_row (type_at e) op) (folded e) h)
folded_unused v (typed ty (binary op d e)) h =
    let both = some_binary (binary_row (type_at d) (type_at e) op) (folded d) (folded e) h in
    let left = folded_unused v d both.0 in
    let right = folded_unused v e both.1 in
    omega (arith, left, right)
folded_unused v (typed ty (convert to e)) h = folded_unused v e (some_converted to (folded e) h)
folded_unused v (typed ty _) h = absurd (cc h)

-- ---- lists

total_append : {A : Type 0} (f : A → ℕ) (xs ys : List A) → total f (xs ++ ys) ≡ total f xs + total f ys
total_append f [] ys = omega arith
total_append f (x ∷ xs) ys = let more = total_append f xs ys in omega (arith, more)

and_true : (a b : Bool) → a ≡ true → b ≡ true → (a && b) ≡ true
and_true true b h k = k
and_true false b h k = absurd (cc h)

module _ {A : Type 0} (test : A → Bool) where
  all_joined : (xs ys : List A) → list_all test xs ≡ true → list_all test ys ≡ true → list_all test (xs ++ ys) ≡ true
  all_joined [] ys h k = k
  all_joined (x ∷ xs) ys h k =
      let both = both_true (test x) (list_all test xs) h in
      and_true (test x) (list_all test (xs ++ ys)) both.0 (all_joined xs ys both.1 k)

  all_parted : (xs ys : List A) → list_all test (xs ++ ys) ≡ true → (list_all test xs ≡ true) × (list_all test ys ≡ true)
  all_parted [] ys h = (refl, h)
  all_parted (x ∷ xs) ys h =
      let both = both_true (test x) (list_all test (xs ++ ys)) h in
      let more = all_parted xs ys both.1 in
      (and_true (test x) (list_all test xs) both.0 more.0, more.1)

  all_dropped : (n : ℕ) (xs : List A) → list_all test xs ≡ true → list_all test (drop n xs) ≡ true
  all_dropped zero xs h = h
  all_dropped (suc n) [] h = h
  all_dropped (suc n) (x ∷ xs) h = all_dropped n xs (both_true (test x) (list_all test xs) h).1

  none_joined : (xs ys : List A) → list_any test xs ≡ false → list_any test ys ≡ false → list_any test (xs ++ ys) ≡ false
  none_joined [] ys h k = k
  none_joined (x ∷ xs) ys h k =
      by (test x) h (λ m. none_joined xs ys m k)
    where
      by : (b : Bool) → (b || list_any test xs) ≡ false → (list_any test xs ≡ false → list_any test (xs ++ ys) ≡ false) → (b || list_any test (xs ++ ys)) ≡ false
      by true m more = absurd (cc m)
      by false m more = more m

none_parted : (test : Expr → Bool) (xs ys : List Expr) → list_any test (flat_map nodes (xs ++ ys)) ≡ false
    → (list_any test (flat_map nodes xs) ≡ false) × (list_any test (flat_map nodes ys) ≡ false)
none_parted test [] ys h = (refl, h)
none_parted test (x ∷ xs) ys h =
    let parted = none_of_both test (nodes x) (flat_map nodes (xs ++ ys)) h in
    let more = none_parted test xs ys parted.1 in
    (none_joined test (nodes x) (flat_map nodes xs) parted.0 more.0, more.1)

-- ---- the expressions of arrays are those of their line

module _ (test : Expr → Bool) where
  extents_all : (bs : List Bounds) (es : List Expr) → list_all test es ≡ true → list_all test (flat_map extent_exprs (extents bs es)) ≡ true
  extents_all [] es h = refl
  extents_all (b ∷ bs) [] h = refl
  extents_all (b ∷ bs) (e ∷ []) h = by (is_some b.lower)
    where
      by : (c : Bool) → list_all test (flat_map extent_exprs (cond c [] ((None, e) ∷ []))) ≡ true
      by true = refl
      by false = h
  extents_all (b ∷ bs) (e ∷ f ∷ es) h =
      let first = both_true (test e) (list_all test (f ∷ es)) h in
      let second = both_true (test f) (list_all test es) first.1 in
      by first.0 second.0 (extents_all bs es second.1) (extents_all bs (f ∷ es) first.1) (is_some b.lower)
    where
      by : test e ≡ true → test f ≡ true → list_all test (flat_map extent_exprs (extents bs es)) ≡ true
          → list_all test (flat_map extent_exprs (extents bs (f ∷ es))) ≡ true → (c : Bool)
          → list_all test (flat_map extent_exprs (cond c ((Some e, f) ∷ extents bs es) ((None, e) ∷ extents bs (f ∷ es)))) ≡ true
      by one other more rest true =
          and_true (test e) (test f && list_all test (flat_map extent_exprs (extents bs es))) one
          (and_true (test f) (list_all test (flat_map extent_exprs (extents bs es))) other more)
      by one other more rest false = and_true (test e) (list_all test (flat_map extent_exprs (extents bs (f ∷ es)))) one rest

  pub resizes_all : (items : List ReDimItem) (es : List Expr) → list_all test es ≡ true → list_all test (flat_map resize_exprs (resizes items es)) ≡ true
  resizes_all [] es h = refl
  resizes_all (i ∷ items) [] h = refl
  resizes_all (i ∷ items) (e ∷ es) h =
      let both = both_true (test e) (list_all test es) h in
      let others : List Expr = drop (parts.total i.bounds) es in
      and_true (test e) (list_all test (flat_map extent_exprs (extents i.bounds es) ++ flat_map resize_exprs (resizes items others))) both.0
      (all_joined test (flat_map extent_exprs (extents i.bounds es)) (flat_map resize_exprs (resizes items others)) (extents_all i.bounds es both.1)
      (resizes_all items others (all_dropped test (parts.total i.bounds) es both.1)))

-- ---- what is written

pub resize_parts : (cover : Uses) (preserve : Bool) (r : Resize) → covers_resize cover preserve r ≡ true
    → (covers_array cover r.array ≡ true) × (list_all (covers_extent cover) r.extents ≡ true)
resize_parts cover preserve r h =
    let one = not preserve || nat_eq (length r.extents) 1 in
    let both = both_true (covers_array cover r.array) (list_all (covers_extent cover) r.extents && one) h in
    (both.0, (both_true (list_all (covers_extent cover) r.extents) one both.1).0)

module _ (P : Program) (S : Scope) (same : S.declarations ≡ P.declarations) (p v : ℕ) (count : Path → ℕ) (test : Expr → Bool) (mentions : List Mention)
    (right : IsRight P S p mentions v count test) where
  extents_names : (a : Option ℕ) (d : ℕ) (xs : List Extent) → list_all (covers_extent (uses_in P p mentions)) xs ≡ true
      → list_all is_formed (flat_map extent_exprs xs) ≡ true → list_any test (flat_map nodes (flat_map extent_exprs xs)) ≡ false
      → total (uses v) (flat_map extent_exprs xs) ≡ total (names count) (listed (extents_exps S a d xs))
  extents_names a d [] h f free = refl
  extents_names a d ((None, e) ∷ xs) h f free =
      let both = both_true (covers_value (uses_in P p mentions) types.long e) (list_all (covers_extent (uses_in P p mentions)) xs) h in
      let high = both_true (is_same_type types.long (type_at e)) (covers_expr (uses_in P p mentions) e) both.0 in
      let forms = both_true (is_formed e) (list_all is_formed (flat_map extent_exprs xs)) f in
      let parted = none_of_both test (nodes e) (flat_map nodes (flat_map extent_exprs xs)) free in
      let here = expr_names P S same p v count test mentions right e high.1 forms.0 parted.0 in
      let none = right.no_support (codes "Top") in
      let more = extents_names a (suc d) xs both.1 forms.1 parted.1 in
      omega (arith, here, none, more)
  extents_names a d ((Some l, e) ∷ xs) h f free =
      let both = both_true ((is_some (folded l) && covers_expr (uses_in P p mentions) l) && covers_value (uses_in P p mentions) types.long e)
      (list_all (covers_extent (uses_in P p mentions)) xs) h in
      let bounds = both_true (is_some (folded l) && covers_expr (uses_in P p mentions) l) (covers_value (uses_in P p mentions) types.long e) both.0 in
      let constant_low = both_true (is_some (folded l)) (covers_expr (uses_in P p mentions) l) bounds.0 in
      let high = both_true (is_same_type types.long (type_at e)) (covers_expr (uses_in P p mentions) e) bounds.1 in
      let low_form = both_true (is_formed l) (list_all is_formed (e ∷ flat_map extent_exprs xs)) f in
      let forms = both_true (is_formed e) (list_all is_formed (flat_map extent_exprs xs)) low_form.1 in
      let low_parted = none_of_both test (nodes l) (flat_map nodes (e ∷ flat_map extent_exprs xs)) free in
      let parted = none_of_both test (nodes e) (flat_map nodes (flat_map extent_exprs xs)) low_parted.1 in
      let low = folded_unused v l constant_low.0 in
      let here = expr_names P S same p v count test mentions right e high.1 forms.0 parted.0 in
      let none = right.no_support (codes "Top") in
      let more = extents_names a (suc d) xs both.1 forms.1 parted.1 in
      omega (arith, low, here, none, more)

  pub resizes_names : (preserve : Bool) (rs : List Resize) → covers_resizes (uses_in P p mentions) preserve rs ≡ true
      → list_all is_formed (flat_map resize_exprs rs) ≡ true → list_any test (flat_map nodes (flat_map resize_exprs rs)) ≡ false
      → total (uses v) (flat_map resize_exprs rs) ≡ total (names count) (flat_map redim_exps (map (resized_array S) rs))
  resizes_names preserve [] h f free = refl
  resizes_names preserve (r ∷ rs) h f free =
      let xs : List Expr = flat_map extent_exprs r.extents in
      let rest : List Expr = flat_map resize_exprs rs in
      let both = both_true (covers_resize (uses_in P p mentions) preserve r) (covers_resizes (uses_in P p mentions) preserve rs) h in
      let own = resize_parts (uses_in P p mentions) preserve r both.0 in
      let form = both_true (is_formed r.array) (list_all is_formed (xs ++ rest)) f in
      let forms = all_parted is_formed xs rest form.1 in
      let array_parted = none_of_both test (nodes r.array) (flat_map nodes (xs ++ rest)) free in
      let parted = none_parted test xs rest array_parted.1 in
      let array = array_names P S p v count test mentions right r.array own.0 in
      let here = extents_names (declared_at S.declarations r.array) 0 r.extents own.1 forms.0 parted.0 in
      let more = resizes_names preserve rs both.1 forms.1 parted.1 in
      let left = total_append (uses v) xs rest in
      let other =
      total_append (names count) (listed (extents_exps S (declared_at S.declarations r.array) 0 r.extents)) (flat_map redim_exps (map (resized_array S) rs)) in
      omega (arith, array, here, more, left, other)

  empty_names : (rank : ℕ) → exps_name count (empty_extents rank) ≡ 0
  empty_names zero = refl
  empty_names (suc rank) = let more = empty_names rank in omega (arith, more)

  -- an array that is erased is given one without elements
  pub erased_names : (e : Expr) (ty : TypeName) (rank : ℕ) → covers_array (uses_in P p mentions) e ≡ true
      → total (uses v) (e ∷ []) ≡ total (names count) (exp_of S e ∷ net.new_array ty (empty_extents rank) ∷ [])
  erased_names e ty rank h =
      let here = array_names P S p v count test mentions right e h in
      let none = empty_names rank in
      omega (arith, here, none)
