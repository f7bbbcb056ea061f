-- The bounds of a ReDim are Longs.
use Rattle.std.proofs.Common.{◌≡◌, refl, sym, ap, ◌∙◌, ℕ, suc, ◌+◌, true, List, [], ◌∷◌, ◌++◌, map, Option, Some, None, arith}
use Rattle.std.specs.Prelude.{drop, slice_get}
use Rattle.std.specs.List.{flat_map, list_all}
use Rattle.up_base.proofs.Tests.{and_true}
use Rattle.vb_tree.specs.Tree.{Bounds, Exp, ReDimItem}
use Rattle.bound_tree.specs.Tree.{Declarations, Expr}
use Rattle.bound_facts.specs.Parts.{extents, resizes, total}
use Rattle.expression_words.specs.Flaws.{Typed}
use Rattle.expression_words.specs.Meanings.{Scope}
use Rattle.binder.specs.declared.parts.Task.TheVariants as task
use Rattle.binder.specs.Parts.{Part, bound_parts, part, redim_parts}
use Rattle.binder.specs.Lines.{settled, settled_at, settled_from}
use Rattle.typing_laws.specs.Typed.{is_typed_bound, is_typed_extent, is_typed_low, is_typed_resize}

pub no_more : (j : ℕ) → 0 + j ≡ j
no_more j = omega arith

first_place : (i : ℕ) → i + 0 ≡ i
first_place i = omega arith

next_place : (i j : ℕ) → (i + 1) + j ≡ i + suc j
next_place i j = omega arith

one_more : (n : ℕ) → 1 + n ≡ suc n
one_more n = omega arith

two_more : (n : ℕ) → 2 + n ≡ suc (suc n)
two_more n = omega arith

-- each expression is that of its part
pub settled_each : (S : Scope) (ps qs : List Part) (i : ℕ) (f : Part → Typed) → ((j : ℕ) → slice_get ps (i + j) ≡ slice_get qs j)
    → settled_from S ps i (map f qs) ≡ map (λ q. settled S q (f q)) qs
settled_each S ps [] i f h = refl
settled_each S ps (q ∷ qs) i f h =
    ap (λ o. settled_at S o (f q) ++ settled_from S ps (i + 1) (map f qs)) (ap (λ n. slice_get ps n) (sym (first_place i)) ∙ h 0)
    ∙ ap (λ es. settled S q (f q) ∷ es) (settled_each S ps qs (i + 1) f (λ j. ap (λ n. slice_get ps n) (next_place i j) ∙ h (suc j)))

module _ (D : Declarations) (g : Part → Expr) (bound : (e : Exp) → is_typed_bound D (g (part task.Bound e)) ≡ true) where
  extent_typed : (low : Option Expr) (e : Exp) → is_typed_low D low ≡ true → is_typed_extent D (low, g (part task.Bound e)) ≡ true
  extent_typed low e h = and_true (is_typed_low D low) (is_typed_bound D (g (part task.Bound e))) h (bound e)

  abbrev with_bounds : (lower : Option Exp) → (upper : Exp) → Bounds
  with_bounds lower upper = record { lower = lower; upper = upper }

  -- one bound, and those behind it
  one_typed : (lower : Option Exp) (upper : Exp) (bs : List Bounds) (es : List Expr) → list_all (is_typed_extent D) (extents bs es) ≡ true
      → list_all (is_typed_extent D) (extents (with_bounds lower upper ∷ bs) (map g (bound_parts (with_bounds lower upper)) ++ es)) ≡ true
  one_typed None upper bs [] h = and_true (is_typed_extent D (None, g (part task.Bound upper))) true (extent_typed None upper refl) refl
  one_typed None upper bs (e ∷ es) h =
      and_true (is_typed_extent D (None, g (part task.Bound upper))) (list_all (is_typed_extent D) (extents bs (e ∷ es))) (extent_typed None upper refl) h
  one_typed (Some low) upper bs es h =
      let l : Expr = g (part task.Bound low) in
      and_true (is_typed_extent D (Some l, g (part task.Bound upper))) (list_all (is_typed_extent D) (extents bs es)) (extent_typed (Some l) upper (bound low)) h

  -- the expressions of parts that are joined
  mapped : (ps qs : List Part) → map g (ps ++ qs) ≡ map g ps ++ map g qs
  mapped [] qs = refl
  mapped (p ∷ ps) qs = ap (λ es. g p ∷ es) (mapped ps qs)

  joined : (ps qs rs : List Part) → (ps ++ qs) ++ rs ≡ ps ++ (qs ++ rs)
  joined [] qs rs = refl
  joined (p ∷ ps) qs rs = ap (λ es. p ∷ es) (joined ps qs rs)

  abbrev exprs : List Bounds → List Part → List Expr
  exprs bs more = map g (flat_map bound_parts bs ++ more)

  split_at : (b : Bounds) (bs : List Bounds) (more : List Part) → exprs (b ∷ bs) more ≡ map g (bound_parts b) ++ exprs bs more
  split_at b bs more = ap (λ ps. map g ps) (joined (bound_parts b) (flat_map bound_parts bs) more) ∙ mapped (bound_parts b) (flat_map bound_parts bs ++ more)

  extents_typed : (bs : List Bounds) (more : List Part) → list_all (is_typed_extent D) (extents bs (exprs bs more)) ≡ true
  extents_typed [] more = refl
  extents_typed (b ∷ bs) more =
      ap (λ es. list_all (is_typed_extent D) (extents (b ∷ bs) es)) (split_at b bs more) ∙ one_typed b.lower b.upper bs (exprs bs more) (extents_typed bs more)

  one_dropped : (lower : Option Exp) (upper : Exp) (bs : List Bounds) (es : List Expr)
      → drop (total (with_bounds lower upper ∷ bs)) (map g (bound_parts (with_bounds lower upper)) ++ es) ≡ drop (total bs) es
  one_dropped None upper bs es = ap (λ n. drop n (g (part task.Bound upper) ∷ es)) (one_more (total bs))
  one_dropped (Some low) upper bs es = ap (λ n. drop n (g (part task.Bound low) ∷ g (part task.Bound upper) ∷ es)) (two_more (total bs))

  -- behind the bounds of an array
  behind_bounds : (bs : List Bounds) (more : List Part) → drop (total bs) (exprs bs more) ≡ map g more
  behind_bounds [] more = refl
  behind_bounds (b ∷ bs) more =
      ap (λ es. drop (total (b ∷ bs)) es) (split_at b bs more) ∙ one_dropped b.lower b.upper bs (exprs bs more) ∙ behind_bounds bs more

  pub resizes_typed : (items : List ReDimItem) → list_all (is_typed_resize D) (resizes items (map g (flat_map redim_parts items))) ≡ true
  resizes_typed [] = refl
  resizes_typed (i ∷ items) =
      let more : List Part = flat_map redim_parts items in
      and_true (list_all (is_typed_extent D) (extents i.bounds (exprs i.bounds more)))
      (list_all (is_typed_resize D) (resizes items (drop (total i.bounds) (exprs i.bounds more)))) (extents_typed i.bounds more)
      (ap (λ es. list_all (is_typed_resize D) (resizes items es)) (behind_bounds i.bounds more) ∙ resizes_typed items)
