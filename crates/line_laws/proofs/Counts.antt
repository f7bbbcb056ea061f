-- Counters go on, and pass their limits, as what is written for them.
use Rattle.std.proofs.Common.{◌≡◌, ◌∙◌, refl, sym, ap, subst, arith, ℕ, ℤ, pos, negsuc, int_lt, int_cmp, is_lt, is_gt, Bool, true, false, not, eq-eqb, eqb-true, Option, Some, None, [], true≢false}
use Rattle.std.proofs.lemmas.Int.{ints}
use Rattle.std.specs.Prelude.{slice_get}
use Rattle.vb_tree.specs.BoundTree as types
use Rattle.vb_tree.specs.BoundTree.{Ty}
use Rattle.vb_tree.specs.declared.declared.Owner.{Owner}
use Rattle.vb_tree.specs.declared.declared.Owner.TheVariants as owner
use Rattle.vb_tree.specs.declared.expression.BinOp.TheVariants as b
use Rattle.vb_tree.specs.declared.value.Value6.{Value6}
use Rattle.vb_tree.specs.declared.value.Value6.TheVariants as scalar6
use Rattle.vb6_meaning.specs.Answers.{Answer, then_answer}
use Rattle.vb6_meaning.specs.Answers as answer
use Rattle.vb6_meaning.specs.Values.{coerce}
use Rattle.vb6_meaning.specs.Values as six
use Rattle.bound_tree.specs.Tree.{Variable}
use Rattle.bound_facts.specs.Effects.{is_own_owner, is_own_variable}
use Rattle.net_tree.specs.declared.expression.NetBin.TheVariants as op
use Rattle.net_tree.specs.declared.expression.OpN.TheVariants.{Bin}
use Rattle.net_meaning.specs.declared.value.ValueN.{ValueN}
use Rattle.net_meaning.specs.declared.value.ValueN.TheVariants as net_scalar
use Rattle.net_meaning.specs.Operators.{operate_net}
use Rattle.net_meaning.specs.SameValues as values
use Rattle.net_meaning.specs.ValueMatch.{Matches, integers, longs}
use Rattle.meaning_laws.proofs.SameRows as same_rows
use Rattle.run_base.specs.Outcomes.{Outcome, gives, after, then, answered}
use Rattle.vb6_run.specs.Expressions as source
use Rattle.vb6_run.specs.Lines as source_lines
use Rattle.vb6_run.specs.Lines.{branch, goes_if, has_passed, passed_by, sum_of}
use Rattle.vb6_run.specs.Programs.{is_local_of}
use Rattle.vb6_run.specs.Store.{Memory, SourceFrame}
use Rattle.vb6_run.specs.Values.{scalar}
use Rattle.net_run.specs.Blocks.{counted, counts_on, is_within, one_as}
use Rattle.net_run.specs.Lines.{NetFrame}
use Rattle.net_run.specs.Store as net_store
use Rattle.net_run.specs.Values as net_value
use Rattle.net_run.specs.Values.{single}
use Rattle.run_matches.specs.Upgrades.{Upgrade}
use Rattle.run_matches.specs.Maps.{World}
use Rattle.run_matches.specs.Likeness.{LikeV, like_scalar, are_same}
use Rattle.run_matches.specs.Match.{MemoryMatch}
use Rattle.run_matches.specs.Pledges.{Pledge}
use Rattle.run_matches.specs.Agreeing.{Agrees}
use Rattle.run_matches.specs.CoveredVariables.{covers_type}
use Rattle.run_matches.specs.CoveredLines.{is_counter, is_local_in}
use Rattle.run_matches.specs.Frames.{is_own_of}
use Rattle.run_statements.specs.Frames.{ScalarMatch}
use Rattle.agreeing_laws.proofs.Agreeing.{agrees_gives, agrees_outside, agrees_raises, left_alone, right_alone}

-- ---- counters

pub counter_covered : (ty : Ty) → is_counter ty ≡ true → covers_type ty ≡ true
counter_covered types.integer c = refl
counter_covered types.long c = refl
counter_covered _ c = absurd (true≢false (sym c))

local_owner : (p : ℕ) (o : Owner) → is_local_of p o ≡ true → is_own_owner p o ≡ true
local_owner p (owner.Local q) h = eq-eqb q.0 p (sym (eqb-true p q.0 h))
local_owner p _ h = absurd (true≢false (sym h))

local_own : (p : ℕ) (o : Option Variable) → is_local_in p o ≡ true → is_own_variable p o ≡ true
local_own p None h = absurd (true≢false (sym h))
local_own p (Some x) h = local_owner p x.owner h

-- a local variable is the procedure's own
pub own_local : (U : Upgrade) (p v : ℕ) → is_local_in p (slice_get U.program.declarations.vars v) ≡ true → is_own_of U p v ≡ true
own_local U p v h = local_own p (slice_get U.program.declarations.vars v) h

-- ---- the limit

above : (i j : ℤ) → is_gt (int_cmp i j) ≡ not (not (int_lt j i))
above i j = grind (arith, ints)

below : (i j : ℤ) → is_lt (int_cmp i j) ≡ not (not (int_lt i j))
below i j = grind (arith, ints)

upward : (m : ℕ) → is_lt (int_cmp (pos m) (pos 0)) ≡ false
upward m = grind (arith, ints)

downward : (m : ℕ) → is_lt (int_cmp (negsuc m) (pos 0)) ≡ true
downward m = grind (arith, ints)

integer_passes : (k i j : ℤ) → has_passed (scalar6.Int k) (scalar6.Int i) (scalar6.Int j) ≡ answer.gives (scalar6.Boolean (not (is_within i j k)))
integer_passes (pos m) i j =
    ap (λ t. passed_by (scalar6.Boolean t) (scalar6.Int i) (scalar6.Int j)) (upward m) ∙ ap (λ t. answer.gives (scalar6.Boolean t)) (above i j)
integer_passes (negsuc m) i j =
    ap (λ t. passed_by (scalar6.Boolean t) (scalar6.Int i) (scalar6.Int j)) (downward m) ∙ ap (λ t. answer.gives (scalar6.Boolean t)) (below i j)

long_passes : (k i j : ℤ) → has_passed (scalar6.Long k) (scalar6.Long i) (scalar6.Long j) ≡ answer.gives (scalar6.Boolean (not (is_within i j k)))
long_passes (pos m) i j =
    ap (λ t. passed_by (scalar6.Boolean t) (scalar6.Long i) (scalar6.Long j)) (upward m) ∙ ap (λ t. answer.gives (scalar6.Boolean t)) (above i j)
long_passes (negsuc m) i j =
    ap (λ t. passed_by (scalar6.Boolean t) (scalar6.Long i) (scalar6.Long j)) (downward m) ∙ ap (λ t. answer.gives (scalar6.Boolean t)) (below i j)

-- whether a counter is within its limit
pub record CountsSame (s i j : Value6) (s' i' j' : ValueN) : Type 0 where
  pub within : Bool
  pub passed : has_passed s i j ≡ answer.gives (scalar6.Boolean (not within))
  pub counts : counts_on (single i') (single j') (single s') ≡ answer.gives within

counts_same : (r : ℕ → ℕ → Bool) (ty : Ty) → is_counter ty ≡ true → (s i j : Value6) (s' i' j' : ValueN) → Matches r ty s s' → Matches r ty i i'
    → Matches r ty j j' → CountsSame s i j s' i' j'
counts_same r types.integer c _ _ _ _ _ _ (integers k e) (integers i h) (integers j d) =
    record { within = is_within i j k; passed = integer_passes k i j; counts = refl }
counts_same r types.long c _ _ _ _ _ _ (longs k e) (longs i h) (longs j d) = record { within = is_within i j k; passed = long_passes k i j; counts = refl }
counts_same r _ c s i j s' i' j' m n o = absurd (true≢false (sym c))

-- ---- the next count

sum_same : (r : ℕ → ℕ → Bool) (ty : Ty) → is_counter ty ≡ true → (v u : Value6) (x y : ValueN) → Matches r ty v x → Matches r ty u y
    → values.Agrees (Matches r ty) (six.typed b.Add v u) (operate_net (Bin op.Add) x y)
sum_same r types.integer c v u x y m n = same_rows.add r types.integer types.integer v u x y refl refl m n
sum_same r types.long c v u x y m n = same_rows.add r types.long types.long v u x y refl refl m n
sum_same r _ c v u x y m n = absurd (true≢false (sym c))

-- ---- the step that isn't written

pub record OneOf (r : ℕ → ℕ → Bool) (ty : Ty) (x : ValueN) : Type 0 where
  pub one6 : Value6
  pub one_net : ValueN
  pub coerced : coerce (scalar6.Int (pos 1)) ty ≡ answer.gives one6
  pub as_one : one_as (single x) ≡ answer.gives (single one_net)
  pub match : Matches r ty one6 one_net

one_of : (r : ℕ → ℕ → Bool) (ty : Ty) → is_counter ty ≡ true → (v : Value6) (x : ValueN) → Matches r ty v x → OneOf r ty x
one_of r types.integer c _ _ (integers k e) =
    record { one6 = scalar6.Int (pos 1); one_net = net_scalar.Short (pos 1); coerced = refl; as_one = refl; match = integers (pos 1) refl }
one_of r types.long c _ _ (longs k e) =
    record { one6 = scalar6.Long (pos 1); one_net = net_scalar.Integer (pos 1); coerced = refl; as_one = refl; match = longs (pos 1) refl }
one_of r _ c v x m = absurd (true≢false (sym c))

-- ---- in memories that match

module _ (U : Upgrade) (K : Pledge) (w : World) (h : MemoryMatch U w) (ty : Ty) (c : is_counter ty ≡ true) where
  -- where a For goes by its counter
  pub counted_agrees : (R : World → SourceFrame → NetFrame → Type 0) (C : source.Context) (inside behind : Option ℕ)
      (go : Bool → net_store.Memory → Outcome net_store.Memory NetFrame) → Agrees U K w R (goes_if C inside w.src) (go true w.net)
      → Agrees U K w R (goes_if C behind w.src) (go false w.net) → (i j s : Value6) (i' j' s' : net_value.Value) → LikeV U w (scalar ty i) i'
      → LikeV U w (scalar ty j) j' → LikeV U w (scalar ty s) s'
      → Agrees U K w R (source_lines.counted C inside behind (scalar ty i) (scalar ty j) (scalar ty s) w.src) (then (answered (counts_on i' j' s') w.net) go)
  counted_agrees R C inside behind go within past _ _ _ _ _ _ (like_scalar _ i i' m) (like_scalar _ j j' n) (like_scalar _ s s' o) =
      let z : CountsSame s i j s' i' j' = counts_same (are_same w) ty c s i j s' i' j' o m n in
      let passes : Outcome Memory SourceFrame = then (answered (has_passed s i j) w.src) (branch C behind inside) in
      let goes : Outcome net_store.Memory NetFrame = then (answered (counts_on (single i') (single j') (single s')) w.net) go in
      left_alone U K w R (after [] (after [] passes)) goes
      (left_alone U K w R (after [] passes) goes
      (left_alone U K w R passes goes
      (subst (λ q. Agrees U K w R (then (answered q w.src) (branch C behind inside)) goes) (sym z.passed)
      (subst (λ q. Agrees U K w R (then (answered (answer.gives (scalar6.Boolean (not z.within))) w.src) (branch C behind inside)) (then (answered q w.net) go))
      (sym z.counts) (by z.within)))))
    where
      by : (t : Bool) → Agrees U K w R (then (answered (answer.gives (scalar6.Boolean (not t))) w.src) (branch C behind inside))
          (then (answered (answer.gives t) w.net) go)
      by true = left_alone U K w R (goes_if C inside w.src) (after [] (go true w.net)) (right_alone U K w R (goes_if C inside w.src) (go true w.net) within)
      by false = left_alone U K w R (goes_if C behind w.src) (after [] (go false w.net)) (right_alone U K w R (goes_if C behind w.src) (go false w.net) past)

  summed_by : (a : Answer Value6) (d : Answer ValueN) → values.Agrees (Matches (are_same w) ty) a d
      → Agrees U K w (ScalarMatch U ty) (then (answered a w.src) (λ z s. gives [] (scalar ty z) s))
      (answered (then_answer d (λ y. answer.gives (single y))) w.net)
  summed_by (answer.gives v) d m =
      subst (λ q. Agrees U K w (ScalarMatch U ty) (gives [] (scalar ty v) w.src) (answered (then_answer q (λ y. answer.gives (single y))) w.net)) (sym m.1)
      (agrees_gives U K w (ScalarMatch U ty) (scalar ty v) (single m.0) h (v, refl, like_scalar ty v m.0 m.2))
  summed_by (answer.raises e) d m =
      subst (λ q. Agrees U K w (ScalarMatch U ty) (then (answered (answer.raises e) w.src) (λ z s. gives [] (scalar ty z) s))
      (answered (then_answer q (λ y. answer.gives (single y))) w.net)) (sym m)
      (agrees_raises U K w (ScalarMatch U ty) e h)
  summed_by answer.outside d m = agrees_outside U K w (ScalarMatch U ty) (answered (then_answer d (λ y. answer.gives (single y))) w.net)

  -- the counter of the next round
  pub sum_agrees : (v s : Value6) (x y : net_value.Value) → LikeV U w (scalar ty v) x → LikeV U w (scalar ty s) y
      → Agrees U K w (ScalarMatch U ty) (sum_of (scalar ty v) (scalar ty s) w.src) (answered (counted x y) w.net)
  sum_agrees _ _ _ _ (like_scalar _ v x m) (like_scalar _ s y n) =
      summed_by (six.typed b.Add v s) (operate_net (Bin op.Add) x y) (sum_same (are_same w) ty c v s x y m n)

  -- the step that isn't written
  pub one_agrees : (v : Value6) (x : net_value.Value) → LikeV U w (scalar ty v) x
      → Agrees U K w (ScalarMatch U ty) (then (answered (coerce (scalar6.Int (pos 1)) ty) w.src) (λ z s. gives [] (scalar ty z) s)) (answered (one_as x) w.net)
  one_agrees _ _ (like_scalar _ v x m) =
      let z : OneOf (are_same w) ty x = one_of (are_same w) ty c v x m in
      subst (λ q. Agrees U K w (ScalarMatch U ty) (then (answered q w.src) (λ z s. gives [] (scalar ty z) s)) (answered (one_as (single x)) w.net)) (sym z.coerced)
      (subst (λ q. Agrees U K w (ScalarMatch U ty) (gives [] (scalar ty z.one6) w.src) (answered q w.net)) (sym z.as_one)
      (agrees_gives U K w (ScalarMatch U ty) (scalar ty z.one6) (single z.one_net) h (z.one6, refl, like_scalar ty z.one6 z.one_net z.match)))
