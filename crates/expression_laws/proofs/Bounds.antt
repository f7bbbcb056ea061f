-- The bounds of arrays.
use Rattle.std.proofs.Common.{◌≡◌, refl, sym, ap, subst, ◌∙◌, ℕ, zero, suc, ◌+◌, ◌*◌, ℤ, pos, negsuc, ◌+ℤ◌, ◌-ℤ◌, Bool, true, false, cond, ◌&&◌, List, [], ◌∷◌, Option, Some, None, codes, arith, true≢false}
use Rattle.std.proofs.lemmas.Int.{ints}
use Rattle.std.specs.Cmp.{signed_Decides}
use Rattle.std.specs.Ordering.{int_eq}
use Rattle.std.specs.Prelude.{nat_le, nat_lt, option_and_then, slice_get}
use Rattle.vb_tree.specs.BoundTree.{Ty, long}
use Rattle.vb_tree.specs.BoundTree as types
use Rattle.vb_tree.specs.declared.bound.LibCall.{LibCall}
use Rattle.vb_tree.specs.declared.bound.LibCall.TheVariants as lib
use Rattle.vb_tree.specs.declared.declared.VarId.{VarId}
use Rattle.vb_tree.specs.declared.value.Value6.{Value6}
use Rattle.vb_tree.specs.declared.value.Value6.TheVariants as v6
use Rattle.vb6_meaning.specs.Answers.{Answer}
use Rattle.vb6_meaning.specs.Answers as value
use Rattle.bound_tree.specs.Tree.{Declarations, Expr, typed, variable, library, Exprs, no_exprs, next_expr}
use Rattle.bound_facts.specs.Folded.{converted_value, folded}
use Rattle.bound_facts.specs.Locks.{is_same_type}
use Rattle.bound_facts.specs.Node.{auto_class}
use Rattle.net_tree.specs.Tree.{Exp, path}
use Rattle.net_meaning.specs.declared.value.ValueN.{ValueN}
use Rattle.net_meaning.specs.declared.value.ValueN.TheVariants as n
use Rattle.net_meaning.specs.declared.whole.WholeKind.TheVariants.{Integer}
use Rattle.net_meaning.specs.ValueMatch.{longs}
use Rattle.net_meaning.specs.Whole.{is_whole}
use Rattle.run_base.specs.Frames.{Given, by_value}
use Rattle.run_base.specs.Positions.{Position}
use Rattle.run_base.specs.Outcomes.{Outcome, after, gives, raises, some_of, then}
use Rattle.written_trees.specs.Conversions.{one, support_call, three, two}
use Rattle.written_trees.specs.Exprs.{exp_of}
use Rattle.written_trees.specs.Library.{dimension, dimension_by, low_at, low_exp}
use Rattle.written_trees.specs.Library as written_library
use Rattle.written_trees.specs.Literals.{number}
use Rattle.written_trees.specs.Names.{Scope, support, variable_path}
use Rattle.vb6_run.specs.Arrays.{Side, lower, upper, are_lows, array_bound, bound_at, bound_of, has_lows, have_long_lows, is_long, with_held_array}
use Rattle.vb6_run.specs.Expressions as source
use Rattle.vb6_run.specs.Expressions.{Context, at_address, dimension_in, lows_at, number_before}
use Rattle.vb6_run.specs.Forms.{SourceLine}
use Rattle.vb6_run.specs.Runnables.{variable_address}
use Rattle.vb6_run.specs.Shapes.{Shape, simple}
use Rattle.vb6_run.specs.Store.{Address, Memory, SourceCalls, SourceFrame, constant, provided}
use Rattle.vb6_run.specs.Values.{Dimension, Value, Values, are_small, is_small, product, scalar, size}
use Rattle.net_run.specs.Calls.{performed, value_answered}
use Rattle.net_run.specs.Expressions.{args_of, read, value_of}
use Rattle.net_run.specs.Functions.{high_of, if_held, integer_row, low_of, upper_row}
use Rattle.net_run.specs.Lines.{NetFrame, NetLine, scope_of}
use Rattle.net_run.specs.Making.{Jobs}
use Rattle.net_run.specs.Members.{Code}
use Rattle.net_run.specs.Names as net_names
use Rattle.net_run.specs.Names.{to_support}
use Rattle.net_run.specs.Store as net
use Rattle.net_run.specs.Values as net_value
use Rattle.net_run.specs.Values.{single}
use Rattle.row_laws.specs.Follows.{answers}
use Rattle.row_laws.specs.Uncaptured.{IsUncaptured}
use Rattle.row_laws.proofs.Calls.{answer_taken, call_gives}
use Rattle.row_laws.proofs.Composing.{after_nil, then_assoc}
use Rattle.row_laws.proofs.Support.{support_start}
use Rattle.run_matches.specs.Agreeing.{Agrees}
use Rattle.run_matches.specs.CoveredExprs.{is_bound}
use Rattle.run_matches.specs.Formed.{is_row_of_call}
use Rattle.run_matches.specs.Likeness.{SameCounts, counts_of, like_scalar, no_counts, same_counts}
use Rattle.run_matches.specs.Maps.{World, moved_at}
use Rattle.run_matches.specs.Match.{MemoryMatch}
use Rattle.run_matches.specs.Pledges.{Pledge}
use Rattle.run_matches.specs.Upgrades.{Upgrade}
use Rattle.run_statements.specs.Frames.{IsArray, ScalarMatch, context_of}
use Rattle.agreeing_laws.proofs.Agreeing.{agrees_gives, agrees_outside, agrees_raises, left_alone}
use Rattle.expression_laws.specs.Images.{HasImage}
use Rattle.expression_laws.proofs.Checks.{TermMatch, term_agrees}
use Rattle.expression_laws.proofs.ElementValues.{elements_of, sizes_of}
use Rattle.expression_laws.proofs.Elements.{ArrayThere, address_source, array_there}
use Rattle.expression_laws.proofs.UsedShapes.{array_stands}
use Rattle.expression_laws.proofs.IndexRows.{low_given, low_integer, low_value, most_is}
use Rattle.expression_laws.proofs.Types.{both_true, same_of}
use Rattle.expression_laws.proofs.Variables.{known_exp, known_none, path_read}

-- ---- one dimension

low_is : (low : ℕ → ℤ) (j k : ℕ) (dims : List Dimension) (x : Dimension) → are_lows low j dims ≡ true → slice_get dims k ≡ Some x → low (j + k) ≡ x.low
low_is low j k [] x lows at = absurd (cc at)
low_is low j zero (d ∷ dims) x lows at =
    let is : d ≡ x = cc at in
    ap low (here j) ∙ (signed_Decides (low j) d.low).0 (both_true (int_eq (low j) d.low) (are_lows low (suc j) dims) lows).0
    ∙ ap (λ (y : Dimension). y.low) is
  where
    here : (j : ℕ) → j + 0 ≡ j
    here j = omega arith
low_is low j (suc k) (d ∷ dims) x lows at =
    ap low (further j k) ∙ low_is low (suc j) k dims x (both_true (int_eq (low j) d.low) (are_lows low (suc j) dims) lows).1 at
  where
    further : (j k : ℕ) → j + suc k ≡ suc j + k
    further j k = omega arith

first_is : (k : ℕ) → k ≡ 0 + k
first_is k = omega arith

long_is : (k : ℕ) (dims : List Dimension) (x : Dimension) → have_long_lows dims ≡ true → slice_get dims k ≡ Some x → is_long x.low ≡ true
long_is k [] x are_long at = absurd (cc at)
long_is zero (d ∷ dims) x are_long at =
    let is : d ≡ x = cc at in
    subst (λ (y : Dimension). is_long y.low ≡ true) is (both_true (is_long d.low) (have_long_lows dims) are_long).0
long_is (suc k) (d ∷ dims) x are_long at = long_is k dims x (both_true (is_long d.low) (have_long_lows dims) are_long).1 at

count_is : (k : ℕ) (dims : List Dimension) (x : Dimension) → slice_get dims k ≡ Some x → slice_get (counts_of dims) k ≡ Some x.count
count_is k [] x at = absurd (cc at)
count_is zero (d ∷ dims) x at = let is : d ≡ x = cc at in ap (λ (y : Dimension). Some y.count) is
count_is (suc k) (d ∷ dims) x at = count_is k dims x at

product_is : (dims : List Dimension) → net.product (counts_of dims) ≡ product dims
product_is [] = refl
product_is (d ∷ dims) = ap (λ m. d.count * m) (product_is dims)

-- ---- what is asked of the target

abbrev bound_row : Side → net.Array → (dimension : ℕ) → ValueN → Answer ValueN
bound_row upper a k y = high_of a (n.Integer (pos k)) y
bound_row lower a k y = low_of a y

held_none : (a : net.Array) (row : Answer ValueN) → net.product a.counts ≡ 0 → if_held a row ≡ value.raises 9
held_none a row e = ap (λ m. cond (nat_lt 0 m) (cond (nat_le m net.most_elements) row value.outside) (value.raises 9)) e

held_some : (a : net.Array) (row : Answer ValueN) (m : ℕ) → net.product a.counts ≡ m → nat_lt 0 m ≡ true → is_small m ≡ true → if_held a row ≡ row
held_some a row m e some small =
    ap (λ m. cond (nat_lt 0 m) (cond (nat_le m net.most_elements) row value.outside) (value.raises 9)) e
    ∙ ap (λ b. cond b (cond (nat_le m net.most_elements) row value.outside) (value.raises 9)) some
    ∙ ap (λ b. cond b row value.outside) (most_is m ∙ small)

none_raises : (side : Side) (a : net.Array) (k : ℕ) (low : ℤ) → net.product a.counts ≡ 0 → bound_row side a k (n.Integer low) ≡ value.raises 9
none_raises upper a k low e = held_none a (upper_row low (slice_get a.counts k)) e
none_raises lower a k low e = held_none a (value.gives (n.Integer low)) e

whole_is : (z : ℤ) → is_long z ≡ true → is_whole Integer z ≡ true
whole_is (pos m) e = sym (most_is m) ∙ e
whole_is (negsuc m) e = sym (most_is m) ∙ (sym (and_true (nat_le m 2147483647)) ∙ e)
  where
    and_true : (b : Bool) → (b && true) ≡ b
    and_true true = refl
    and_true false = refl

high_is : (low : ℤ) (count : ℕ) → (pos count +ℤ negsuc 0) +ℤ low ≡ low +ℤ (pos count -ℤ pos 1)
high_is low count = omega (arith, ints)

bound_is : (side : Side) (a : net.Array) (k : ℕ) (x : Dimension) (m : ℕ) → net.product a.counts ≡ m → nat_lt 0 m ≡ true → is_small m ≡ true
    → slice_get a.counts k ≡ Some x.count → is_long (bound_at side x) ≡ true → bound_row side a k (n.Integer x.low) ≡ value.gives (n.Integer (bound_at side x))
bound_is upper a k x m e some small at fits =
    held_some a (upper_row x.low (slice_get a.counts k)) m e some small
    ∙ ap (upper_row x.low) at
    ∙ ap integer_row (high_is x.low x.count)
    ∙ ap (λ b. cond b (value.gives (n.Integer (bound_at upper x))) value.outside) (whole_is (bound_at upper x) fits)
bound_is lower a k x m e some small at fits = held_some a (value.gives (n.Integer x.low)) m e some small

-- ---- the bound on both sides

module _ (U : Upgrade) (K : Pledge) (w : World) (start : MemoryMatch U w) where
  abbrev Asks : Side → net.Array → ℕ → ℤ → Outcome Memory Value → Type 0
  Asks side a k low r = Agrees U K w (TermMatch U long) (then r source.value_parts) (answers (bound_row side a k (low_value low)) w.net)

  free_agrees : (side : Side) (a : net.Array) (k : ℕ) (low : ℤ) → net.product a.counts ≡ 0 → Asks side a k low (raises [] 9 w.src)
  free_agrees side a k low e =
      let l = low_integer low in
      subst (λ z. Agrees U K w (TermMatch U long) (raises [] 9 w.src) (answers z w.net))
      (sym (ap (bound_row side a k) l.1 ∙ none_raises side a k l.0 e)) (agrees_raises U K w (TermMatch U long) 9 start)

  some_agrees : (side : Side) (low : ℕ → ℤ) (k : ℕ) (dims : List Dimension) (a : net.Array) (m : ℕ) → a.counts ≡ counts_of dims → product dims ≡ m → nat_lt 0 m ≡ true
      → is_small m ≡ true → are_lows low 0 dims ≡ true → have_long_lows dims ≡ true → (o : Option Dimension) → slice_get dims k ≡ o
      → Asks side a k (low k) (some_of o (λ d w. provided (is_long (bound_at side d)) (λ w. gives [] (scalar long (v6.Long (bound_at side d))) w) w) w.src)
  some_agrees side low k dims a m sized e some small lows are_long None at =
      agrees_outside U K w (TermMatch U long) (answers (bound_row side a k (low_value (low k))) w.net)
  some_agrees side low k dims a m sized e some small lows are_long (Some x) at =
      let is : low k ≡ x.low = ap low (first_is k) ∙ low_is low 0 k dims x lows at in
      let given : low_value (low k) ≡ n.Integer x.low = ap low_value is ∙ low_given x.low (long_is k dims x are_long at) in
      by (is_long (bound_at side x)) refl given
    where
      by : (b : Bool) → is_long (bound_at side x) ≡ b → low_value (low k) ≡ n.Integer x.low
          → Asks side a k (low k) (provided b (λ w. gives [] (scalar long (v6.Long (bound_at side x))) w) w.src)
      by false fits given = agrees_outside U K w (TermMatch U long) (answers (bound_row side a k (low_value (low k))) w.net)
      by true fits given =
          subst (λ z. Agrees U K w (TermMatch U long) (gives [] (at_address (constant (scalar long (v6.Long (bound_at side x))))) w.src) (answers z w.net))
          (sym (ap (bound_row side a k) given
          ∙ bound_is side a k x m (ap net.product sized ∙ product_is dims ∙ e) some small (ap (λ cs. slice_get cs k) sized ∙ count_is k dims x at) fits))
          (agrees_gives U K w (TermMatch U long) (at_address (constant (scalar long (v6.Long (bound_at side x))))) (single (n.Integer (bound_at side x))) start
          (v6.Long (bound_at side x), refl, like_scalar long (v6.Long (bound_at side x)) (n.Integer (bound_at side x)) (longs (bound_at side x) fits)))

  dims_agree : (side : Side) (low : ℕ → ℤ) (k : ℕ) (dims : List Dimension) (counts : List ℕ) (a : net.Array) → SameCounts dims counts → a.counts ≡ counts
      → (has_lows (Some low) dims && have_long_lows dims) ≡ true → Asks side a k (low k) (bound_of side k dims w.src)
  dims_agree side low k _ _ a (no_counts counts none) sized tests = free_agrees side a k (low k) (ap net.product sized ∙ none)
  dims_agree side low k _ _ a (same_counts d dims some within) sized tests =
      let both = both_true (are_lows low 0 (d ∷ dims)) (have_long_lows (d ∷ dims)) tests in
      some_agrees side low k (d ∷ dims) a (product (d ∷ dims)) sized refl some
      (both_true (are_small (d ∷ dims)) (is_small (size (d ∷ dims))) within).1 both.0 both.1 (slice_get (d ∷ dims) k) refl

  asked_agrees : (side : Side) (low : ℕ → ℤ) (k : ℕ) (dims : List Dimension) (a : net.Array) → SameCounts dims a.counts
      → Asks side a k (low k) (provided (has_lows (Some low) dims && have_long_lows dims) (bound_of side k dims) w.src)
  asked_agrees side low k dims a sizes = by (has_lows (Some low) dims && have_long_lows dims) refl
    where
      by : (b : Bool) → (has_lows (Some low) dims && have_long_lows dims) ≡ b → Asks side a k (low k) (provided b (bound_of side k dims) w.src)
      by true e = dims_agree side low k dims a.counts a sizes refl e
      by false e = agrees_outside U K w (TermMatch U long) (answers (bound_row side a k (low_value (low k))) w.net)

-- ---- the dimension

number_is : (x : Value6) (k : ℕ) → number_before x ≡ Some k → dimension_by x ≡ k
number_is (v6.Long (pos (suc m))) k e = cc e
number_is (v6.Long (pos zero)) k e = absurd (cc e)
number_is (v6.Long (negsuc m)) k e = absurd (cc e)
number_is _ k e = absurd (cc e)

dimension_is : (rest : Exprs) (k : ℕ) → dimension_in rest ≡ Some k → dimension rest ≡ k
dimension_is no_exprs k e = cc e
dimension_is (next_expr d rest) k e = by (converted_value long (folded d)) e
  where
    by : (o : Option Value6) → option_and_then number_before o ≡ Some k → written_library.dimension_in o ≡ k
    by None h = absurd (cc h)
    by (Some x) h = number_is x k h

-- ---- what is written

module _ (S : net_names.Scope) (oracle : Jobs) (free : IsUncaptured S) (a : Exp) (k : ℕ) (w : net.Memory) (there : value_of S oracle a w ≡ gives [] (single (n.Array k)) w) where
  hi_gives : (d : ℕ) (low : ℤ)
      → value_of S oracle (support_call (codes "Hi") (three a (number d) (low_exp low))) w ≡ answers (bound_row upper (w.arrays k) d (low_value low)) w
  hi_gives d low =
      let row = bound_row upper (w.arrays k) d (low_value low) in
      let done = λ (gs : List (Given net_value.Value net.Address)) (w : net.Memory). then (performed S oracle (to_support (codes "Hi")) gs w) read in
      call_gives S oracle (to_support (codes "Hi")) (support (codes "Hi")) (support_start S oracle free (codes "Hi")) refl (three a (number d) (low_exp low)) w
      ∙ ap (λ r. then (then (then r (λ v w. gives [] (by_value v) w))
      (λ g w. then (args_of S oracle [] (two (number d) (low_exp low)) w) (λ gs w. gives [] (g ∷ gs) w))) done) there
      ∙ after_nil (then (after [] (value_answered row w)) read)
      ∙ ap (λ z. then z read) (after_nil (value_answered row w))
      ∙ answer_taken row w

  lo_gives : (low : ℤ) → value_of S oracle (support_call (codes "Lo") (two a (low_exp low))) w ≡ answers (bound_row lower (w.arrays k) 0 (low_value low)) w
  lo_gives low =
      let row = bound_row lower (w.arrays k) 0 (low_value low) in
      let done = λ (gs : List (Given net_value.Value net.Address)) (w : net.Memory). then (performed S oracle (to_support (codes "Lo")) gs w) read in
      call_gives S oracle (to_support (codes "Lo")) (support (codes "Lo")) (support_start S oracle free (codes "Lo")) refl (two a (low_exp low)) w
      ∙ ap (λ r. then (then (then r (λ v w. gives [] (by_value v) w))
      (λ g w. then (args_of S oracle [] (one (low_exp low)) w) (λ gs w. gives [] (g ∷ gs) w))) done) there
      ∙ after_nil (then (after [] (value_answered row w)) read)
      ∙ ap (λ z. then z read) (after_nil (value_answered row w))
      ∙ answer_taken row w

-- ---- both

-- a bound is a Long
pub long_bound : (function : LibCall) (ts : List Ty) (ty : Ty) → is_bound function ≡ true → is_row_of_call function ts ty ≡ true → is_same_type long ty ≡ true
long_bound lib.UBound ts ty is h = h
long_bound lib.LBound ts ty is h = h
long_bound _ ts ty is h = absurd (true≢false (sym is))

module _ (U : Upgrade) (K : Pledge) (p : ℕ) (f : SourceFrame) (g : NetFrame) (oracle : SourceCalls) (net_oracle : Jobs) (l : SourceLine) (k : NetLine)
    (c : Code) (T : Scope) (same_declarations : T.declarations ≡ U.program.declarations) (facts : T.facts ≡ U.facts) (free : IsUncaptured (scope_of U.written c g k))
    (element : Ty) (rank : ℕ) (v : VarId) (qualified : Bool) (r : IsArray U v.0 element) (w : World) (start : MemoryMatch U w)
    (named : (qualified : Bool) → Bool) (is_named : named qualified ≡ true)
    (have : (a : Address) → variable_address U.program.declarations f v.0 ≡ Some a → HasImage U K w (scope_of U.written c g k) T named v.0 a) where
  abbrev C : Context
  C = context_of U oracle p f l

  abbrev S : net_names.Scope
  S = scope_of U.written c g k

  abbrev D : Declarations
  D = U.program.declarations

  abbrev the_array : Expr
  the_array = typed (types.array element rank) (variable v qualified)

  array_exp : exp_of T the_array ≡ path (variable_path T qualified v.0)
  array_exp =
      known_exp T (types.array element rank) v qualified r.known.variable (ap (λ E. slice_get E.vars v.0) same_declarations ∙ r.known.is_variable) r.known.plain

  array_source : source.address_of C the_array w.src ≡ some_of (variable_address D f v.0) (λ a w. gives [] a w) w.src
  array_source =
      address_source C (variable_address D f v.0) (auto_class (slice_get D.vars v.0)) (known_none D.vars v.0 r.known.variable r.known.is_variable r.known.plain) w.src

  low_same : (d : ℕ) → low_at T the_array d ≡ U.facts.low v.0 d
  low_same d = ap (λ F. F.low v.0 d) facts

  -- what is asked of an array, and then of its bound
  abbrev asks : Side → Exprs → Address → Memory → Outcome Memory source.Parts
  asks side rest a w = some_of (dimension_in rest) (λ d w. then (array_bound (lows_at C the_array) side d a w) source.value_parts) w

  -- what is written asks for it too
  abbrev IsAsked : Side → (ℕ → Exp) → Type 0
  IsAsked side whole =
      (array d : ℕ) → value_of S net_oracle (exp_of T the_array) w.net ≡ gives [] (single (n.Array array)) w.net
      → value_of S net_oracle (whole d) w.net ≡ answers (bound_row side (w.net.arrays array) d (low_value (low_at T the_array d))) w.net

  array_value : (a : Address) (x : HasImage U K w S T named v.0 a) (q : Position) (there : ArrayThere U w (simple element) q x.address)
      → value_of S net_oracle (exp_of T the_array) w.net ≡ gives [] (single (n.Array there.array)) w.net
  array_value a x q there =
      ap (λ e. value_of S net_oracle e w.net) array_exp
      ∙ path_read S net_oracle (variable_path T qualified v.0) x.address w.net (x.found qualified is_named)
      ∙ ap (λ z. gives [] z w.net) (ap (λ z. net.looked_up z w.net) there.stands ∙ ap net.held there.cell)

  sizes_there : (q : Position) (b : net.Address) (there : ArrayThere U w (simple element) q b) → SameCounts there.dims (w.net.arrays there.array).counts
  sizes_there q b there =
      sizes_of U w (simple element) there.dims there.values (w.net.arrays there.array)
      (elements_of U w (w.src.held q) (w.net.cell (moved_at U w.map q)) (simple element) there.dims there.values there.array (start.stores.values q there.is_matched)
      there.held there.cell)

  bound_agrees : (side : Side) (rest : Exprs) (whole : ℕ → Exp) → IsAsked side whole
      → Agrees U K w (TermMatch U long) (then (source.address_of C the_array w.src) (asks side rest)) (value_of S net_oracle (whole (dimension rest)) w.net)
  bound_agrees side rest whole asked =
      subst (λ z. Agrees U K w (TermMatch U long) (then z (asks side rest)) (value_of S net_oracle (whole (dimension rest)) w.net)) (sym array_source)
      (by (variable_address D f v.0) refl)
    where
      at : (a : Address) → HasImage U K w S T named v.0 a → (o : Option ℕ) → dimension_in rest ≡ o
          → Agrees U K w (TermMatch U long) (some_of o (λ d w. then (array_bound (lows_at C the_array) side d a w) source.value_parts) w.src)
          (value_of S net_oracle (whole (dimension rest)) w.net)
      at a x None e = agrees_outside U K w (TermMatch U long) (value_of S net_oracle (whole (dimension rest)) w.net)
      at a x (Some d) e =
          let stands = array_stands U v.0 element r a (x.image r.exact).position (x.image r.exact).stands in
          let there : ArrayThere U w (simple element) (x.image r.exact).position x.address =
          array_there U K w (simple element) stands.0 (x.image r.exact).position a x.address stands.1 (x.image r.exact).same in
          let go = λ (e : Shape) (dims : List Dimension) (xs : Values) (w : Memory).
          provided (has_lows (lows_at C the_array) dims && have_long_lows dims) (bound_of side d dims) w in
          subst (λ z. Agrees U K w (TermMatch U long) (then (array_bound (lows_at C the_array) side d a w.src) source.value_parts) (value_of S net_oracle (whole z) w.net))
          (sym (dimension_is rest d e))
          (subst (λ z. Agrees U K w (TermMatch U long) (then (array_bound (lows_at C the_array) side d a w.src) source.value_parts) z)
          (sym (asked there.array d (array_value a x (x.image r.exact).position there)
          ∙ ap (λ y. answers (bound_row side (w.net.arrays there.array) d (low_value y)) w.net) (low_same d)))
          (subst (λ z. Agrees U K w (TermMatch U long) (then (array_bound (lows_at C the_array) side d z w.src) source.value_parts)
          (answers (bound_row side (w.net.arrays there.array) d (low_value (U.facts.low v.0 d))) w.net)) (sym stands.1)
          (subst (λ h. Agrees U K w (TermMatch U long) (then (with_held_array h go w.src) source.value_parts)
          (answers (bound_row side (w.net.arrays there.array) d (low_value (U.facts.low v.0 d))) w.net)) (sym there.held)
          (asked_agrees U K w start side (U.facts.low v.0) d there.dims (w.net.arrays there.array) (sizes_there (x.image r.exact).position x.address there)))))

      by : (o : Option Address) → variable_address U.program.declarations f v.0 ≡ o
          → Agrees U K w (TermMatch U long) (then (some_of o (λ a w. gives [] a w) w.src) (asks side rest)) (value_of S net_oracle (whole (dimension rest)) w.net)
      by None is = agrees_outside U K w (TermMatch U long) (value_of S net_oracle (whole (dimension rest)) w.net)
      by (Some a) is =
          left_alone U K w (TermMatch U long) (asks side rest a w.src) (value_of S net_oracle (whole (dimension rest)) w.net) (at a (have a is) (dimension_in rest) refl)

  abbrev call_of_bound : LibCall → Ty → Exprs → Expr
  call_of_bound function ty rest = typed ty (library function (next_expr the_array rest))

  asked_call : (function : LibCall) → is_bound function ≡ true → (rest : Exprs)
      → Agrees U K w (TermMatch U long) (source.term_parts C long (library function (next_expr the_array rest)) w.src)
      (value_of S net_oracle (exp_of T (call_of_bound function long rest)) w.net)
  asked_call lib.UBound is rest =
      subst (λ z. Agrees U K w (TermMatch U long) z (value_of S net_oracle (exp_of T (call_of_bound lib.UBound long rest)) w.net))
      (then_assoc (source.parts_of C the_array w.src) source.finished (asks upper rest))
      (bound_agrees upper rest (λ d. support_call (codes "Hi") (three (exp_of T the_array) (number d) (low_exp (low_at T the_array d))))
      (λ array d there. hi_gives S net_oracle free (exp_of T the_array) array w.net there d (low_at T the_array d)))
  asked_call lib.LBound is rest =
      subst (λ z. Agrees U K w (TermMatch U long) z (value_of S net_oracle (exp_of T (call_of_bound lib.LBound long rest)) w.net))
      (then_assoc (source.parts_of C the_array w.src) source.finished (asks lower rest))
      (bound_agrees lower rest (λ d. support_call (codes "Lo") (two (exp_of T the_array) (low_exp (low_at T the_array d))))
      (λ array d there. lo_gives S net_oracle free (exp_of T the_array) array w.net there (low_at T the_array d)))
  asked_call _ is rest = absurd (true≢false (sym is))

  pub bounds_agree : (function : LibCall) (ty : Ty) (rest : Exprs) → is_bound function ≡ true → is_same_type long ty ≡ true
      → Agrees U K w (ScalarMatch U ty) (source.value_of C (call_of_bound function ty rest) w.src)
      (value_of S net_oracle (exp_of T (call_of_bound function ty rest)) w.net)
  bounds_agree function ty rest is same =
      subst (λ z. Agrees U K w (ScalarMatch U z) (source.value_of C (call_of_bound function z rest) w.src)
      (value_of S net_oracle (exp_of T (call_of_bound function z rest)) w.net)) (sym (same_of long ty refl same))
      (term_agrees U K C long long (library function (next_expr the_array rest)) w (value_of S net_oracle (exp_of T (call_of_bound function long rest)) w.net) refl refl
      start (asked_call function is rest))
