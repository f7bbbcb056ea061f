-- A line that breaks no rule on arrays uses them as their ranks and lower bounds are.
use Rattle.std.proofs.Common.{◌≡◌, ℕ, zero, suc, ◌+◌, ◌<◌, Bool, true, false, List, [], ◌∷◌, ◌++◌, length, Some, None, refl, ap, sym, subst, ◌∙◌, arith, nat_eq, nat_lt, eqb-true, ltb-false, lt-ltb, ⊎_elim}
use Rattle.std.specs.Prelude.{ℤ, pos, ◌&&◌, ◌||◌, not, cond, IsTrue, Option, is_some, slice_get}
use Rattle.std.specs.List.{Contains, flat_map, list_any}
use Rattle.std.proofs.lemmas.List.Elements.{Contains-append_cases, Contains-append_left, Contains-append_right}
use Rattle.std.proofs.lemmas.Option.{none-some, same_Some}
use Rattle.vb_tree.specs.BoundTree.{Ty, array}
use Rattle.vb_tree.specs.declared.bound.LibCall.{LibCall}
use Rattle.vb_tree.specs.declared.bound.LibCall.TheVariants as lib
use Rattle.vb_tree.specs.declared.declared.ProcId.{ProcId}
use Rattle.vb_tree.specs.declared.declared.VarId.{VarId}
use Rattle.vb_tree.specs.declared.value.Value6.{Value6}
use Rattle.vb_tree.specs.declared.value.Value6.TheVariants as v6
use Rattle.vb_tree.specs.Tree.{Form, ReDimItem}
use Rattle.vb_tree.specs.Tree as source
use Rattle.bound_tree.specs.declared.rule_set.RuleSet.{RuleSet}
use Rattle.bound_tree.specs.RuleSets.{has, is_broken, none, rule_numbers, with_if}
use Rattle.bound_tree.specs.Tree.{Declarations, Expr, typed, Term, element, call, library, loose, Exprs, no_exprs, next_expr, Object, Argument, by_value, by_reference, Passed, no_passed, next_passed, Line, Program, Variable}
use Rattle.bound_tree.proofs.RuleLaws.{has_with_if}
use Rattle.bound_facts.specs.Bounds.{argument_tie, argument_ties, array_at, declared_lows, declared_ranks, fixed_rank, given, home_base, low_at, low_in, low_items, lows, node_ties, rank_items, ranks, resize_low, resize_rank, store_ties, tie, tie_items, ties, whole_of}
use Rattle.bound_facts.specs.Calls.{count_variables}
use Rattle.bound_facts.specs.Effects.{params_at, params_of}
use Rattle.bound_facts.specs.Folded.{folded}
use Rattle.bound_facts.specs.Items.{project_items}
use Rattle.bound_facts.specs.Node.{args_at, called, called_by, declared_at, is_array_type, type_at}
use Rattle.bound_facts.specs.Nodes.{line_nodes, nodes, nodes_in}
use Rattle.bound_facts.specs.Parts.{Extent, Resize, line_uses, resized_by, resizes, target_nodes, used_nodes}
use Rattle.reach_table.specs.Chains.{empty}
use Rattle.typing_rows.specs.Library.{dimension_of}
use Rattle.array_bounds.specs.Declaring.{breaks_variable, is_array_of_made, splits_variable}
use Rattle.array_bounds.specs.Elements as elements
use Rattle.array_bounds.specs.Elements.{asks_above, breaks_forms, breaks_node, count, gives_fixed, is_above, misfits, rank_at}
use Rattle.array_bounds.specs.Facts.{AreFacts, IsSplit, IsTorn}
use Rattle.array_bounds.specs.Known.{Known}
use Rattle.array_bounds.specs.Locking.{breaks_locks}
use Rattle.array_bounds.specs.Resizing.{breaks_form, breaks_lows, breaks_resize, has_open, is_free_array, is_loose, is_open, is_over}
use Rattle.array_bounds.specs.Rows.{line_rules, variable_rules}
use Rattle.written_trees.specs.Facts as deciding
use Rattle.written_trees.specs.Facts.{Facts, is_array_variable}
use Rattle.written_trees.specs.Library.{low_of}
use Rattle.run_matches.specs.Formed.{types_of}
use Rattle.run_matches.specs.Upgrades.{Upgrade, is_flagged, parameter_rank, rank_of_id, rank_of_some}
use Rattle.run_statements.specs.Fitting.{FitsArgument, FitsBounds, FitsExtent, FitsLine, FitsNode, FitsPassed, FitsRank, FitsResize, HasConstantLow, HasDimension, IsDimension, IsSoundArray, is_array_id, low_in_dimension, rank_of, takes_array}
use Rattle.upgrade_laws.proofs.Breaking.{passes}
use Rattle.upgrade_laws.proofs.Lists.{here, in_none, there}
use Rattle.upgrade_laws.proofs.Ranks.{array_below, below, contains_flat, got_in, low_given, project_contains, rank_given, rank_is, tied, tied_rank}
use Rattle.upgrade_laws.proofs.Tests.{left_false, right_false}

-- ---- tests and lists

negated : (c : Bool) → not c ≡ false → c ≡ true
negated true h = refl
negated false h = absurd (cc h)

second_false : (a b : Bool) → (a && b) ≡ false → a ≡ true → b ≡ false
second_false true b h e = h
second_false false b h e = absurd (cc e)

any_false : {A : Type 0} (test : A → Bool) (xs : List A) (x : A) → Contains xs x → list_any test xs ≡ false → test x ≡ false
any_false test [] x i h = absurd (in_none x i)
any_false test (y ∷ ys) x (zero, l, e) h = ap test (sym e) ∙ left_false (test y) (list_any test ys) h
any_false test (y ∷ ys) x (suc k, l, e) h = any_false test ys x (k, omega (arith, l), e) (right_false (test y) (list_any test ys) h)

-- ---- sets of rules

has_not : (s : RuleSet) (i n : ℕ) → slice_get rule_numbers i ≡ Some n → is_broken s ≡ false → has s n ≡ false
has_not s i n e h = any_false (has s) rule_numbers n (got_in rule_numbers i n e) (sym (passes (has s) rule_numbers) ∙ h)

-- a line breaks neither rule 9 nor rule 11
pub line_parts : (a b c : Bool) → is_broken (with_if (with_if (with_if none 9 a) 10 b) 11 c) ≡ false → (a ≡ false) × (c ≡ false)
line_parts a b c h =
    let one = with_if none 9 a in
    let two = with_if one 10 b in
    let all = with_if two 11 c in
    let lows : has all 9 ≡ (a || has none 9) = has_with_if two 11 9 c ∙ has_with_if one 10 9 b ∙ has_with_if none 9 9 a in
    let forms : has all 11 ≡ (c || has two 11) = has_with_if two 11 11 c in (
      left_false a (has none 9) (sym lows ∙ has_not all 8 9 refl h),
      left_false c (has two 11) (sym forms ∙ has_not all 10 11 refl h),
    )

-- and neither does a declaration
pub variable_parts : (a b : Bool) → is_broken (with_if (with_if none 9 a) 11 b) ≡ false → (a ≡ false) × (b ≡ false)
variable_parts a b h =
    let one = with_if none 9 a in
    let all = with_if one 11 b in
    let lows : has all 9 ≡ (a || has none 9) = has_with_if one 11 9 b ∙ has_with_if none 9 9 a in
    let forms : has all 11 ≡ (b || has one 11) = has_with_if one 11 11 b in (
      left_false a (has none 9) (sym lows ∙ has_not all 8 9 refl h),
      left_false b (has one 11) (sym forms ∙ has_not all 10 11 refl h),
    )

-- ---- expressions

declared_is : (D : Declarations) (a : Expr) (v : ℕ) → array_at D a ≡ Some v → declared_at D a ≡ Some v
declared_is D a v h = by (is_array_type (type_at a)) h
  where
    by : (b : Bool) → cond b (declared_at D a) None ≡ Some v → declared_at D a ≡ Some v
    by true e = e
    by false e = absurd (none-some v e)

not_loose : (D : Declarations) (a : Expr) (v : ℕ) → array_at D a ≡ Some v → is_loose a ≡ false
not_loose D (typed ty (loose e rules)) v h = absurd (none-some v (declared_is D (typed ty (loose e rules)) v h))
not_loose D (typed ty _) v h = refl

folded_sound : (e : Expr) → is_some (folded e) ≡ true → is_loose e ≡ false
folded_sound (typed ty (loose e rules)) h = absurd (cc h)
folded_sound (typed ty _) h = refl

count_types : (es : Exprs) → length (types_of es) ≡ count es
count_types no_exprs = refl
count_types (next_expr e rest) = ap suc (count_types rest)

dimension_is : (k : ℕ) → k < 2 → dimension_of (v6.Long (pos (suc k))) ≡ Some (suc k)
dimension_is zero h = refl
dimension_is (suc zero) h = refl
dimension_is (suc (suc k)) h = absurd (omega arith)

target_in : (e d : Expr) → Contains (target_nodes e) d → Contains (nodes e) d
target_in (typed ty t) d h = by (is_some (called_by t)) h
  where
    by : (b : Bool) → Contains (cond b (nodes (typed ty t)) (nodes_in t)) d → Contains (nodes (typed ty t)) d
    by true i = i
    by false i = there (typed ty t) (nodes_in t) d i

used_in : (f : Form) (es : List Expr) (d : Expr) → Contains (used_nodes f es) d → Contains (flat_map nodes es) d
used_in (source.set target value) [] d h = h
used_in (source.set target value) (e ∷ es) d h =
    ⊎_elim (λ l. Contains-append_left (nodes e) (flat_map nodes es) d (target_in e d l)) (λ r. Contains-append_right (nodes e) (flat_map nodes es) d r)
    (Contains-append_cases (target_nodes e) (flat_map nodes es) d h)
used_in _ es d h = h

low_found : (base : ℤ) (o : Option Expr) → HasConstantLow o → is_open o ≡ false → (z : ℤ) × (low_in base o ≡ Some z)
low_found base None h n = (base, refl)
low_found base (Some e) h n = by (whole_of (folded e)) refl (sym (ap {B = Bool} (λ b. not b && not (is_some (whole_of (folded e)))) (folded_sound e h)) ∙ n)
  where
    by : (o : Option ℤ) → whole_of (folded e) ≡ o → not (is_some o) ≡ false → (z : ℤ) × (whole_of (folded e) ≡ Some z)
    by None e c = absurd (cc c)
    by (Some z) e c = (z, e)

declared_in : (first i v n : ℕ) (xs : List Variable) (x : Variable) → v ≡ first + i → slice_get xs i ≡ Some x → fixed_rank x.ty ≡ Some n
    → Contains (declared_ranks first xs) (v, n)
declared_in first i v n [] x s e h = absurd (none-some x e)
declared_in first zero v n (y ∷ xs) x s e h =
    let here_is : fixed_rank y.ty ≡ Some n = ap (λ (z : Variable). fixed_rank z.ty) (same_Some y x e) ∙ h in
    Contains-append_left (given (Some first) (fixed_rank y.ty)) (declared_ranks (suc first) xs) (v, n)
    (subst (λ (o : Option ℕ). Contains (given (Some first) o) (v, n)) (sym here_is)
    (subst (λ (m : ℕ). Contains {X = ℕ × ℕ} ((m, n) ∷ []) (v, n)) (let t : v ≡ first = omega (arith, s) in t) (here (v, n) [])))
declared_in first (suc i) v n (y ∷ xs) x s e h =
    Contains-append_right (given (Some first) (fixed_rank y.ty)) (declared_ranks (suc first) xs) (v, n)
    (declared_in (suc first) i v n xs x (omega (arith, s)) e h)

-- ---- by facts

module _ (U : Upgrade) (F : Known) (f : AreFacts U.program F) (g : deciding.AreFacts U.program U.facts)
    (whole : (v : ℕ) (x : Variable) → slice_get U.program.declarations.vars v ≡ Some x → is_flagged U v ≡ false → is_broken (variable_rules F v x) ≡ false) where
  abbrev D : Declarations
  D = U.program.declarations

  same_rank : (v : ℕ) → is_array_variable (slice_get D.vars v) ≡ true → F.rank v ≡ U.facts.rank v
  same_rank v h = rank_is (f.rank_is v (array_below U.program v h)) (g.ranks v h)

  own_rank : (a : Expr) (s : IsSoundArray U a) → rank_of U a ≡ U.facts.rank s.variable
  own_rank a s = ap (rank_of_some U) (declared_is D a s.variable s.declares)

  known_rank : (a : Expr) (s : IsSoundArray U a) → rank_at F (array_at D a) ≡ rank_of U a
  known_rank a s = ap (rank_at F) s.declares ∙ same_rank s.variable s.is_array ∙ sym (own_rank a s)

  -- neither lower bounds nor ranks differ
  alone : (v : ℕ) → is_array_variable (slice_get D.vars v) ≡ true → is_flagged U v ≡ false → (IsSplit U.program v → ⊥) × (IsTorn U.program v → ⊥)
  alone v h sound = by (slice_get D.vars v) refl h
    where
      by : (o : Option Variable) → slice_get D.vars v ≡ o → is_array_variable o ≡ true → (IsSplit U.program v → ⊥) × (IsTorn U.program v → ⊥)
      by None e c = absurd (cc c)
      by (Some x) e c =
          let low = array_below U.program v h in
          let parts = variable_parts (splits_variable F v x) (breaks_variable F v x) (whole v x e sound) in
          let splits = second_false (is_array_type x.ty) (F.splits v) parts.0 c in
          let tears = second_false (is_array_type x.ty) (F.tears v) (left_false (is_array_type x.ty && F.tears v) (is_array_of_made F x.ty) parts.1) c in (
            (λ i. cc ((f.splits_are v low).1 i, splits)),
            (λ i. cc ((f.tears_are v low).1 i, tears)),
          )

  -- ---- nodes

  element_fits : (a : Expr) (indexes : Exprs) → not (nat_eq (count indexes) (rank_at F (array_at D a))) ≡ false → FitsRank U a indexes
  element_fits a indexes h s =
      count_types indexes
      ∙ eqb-true (count indexes) (rank_at F (array_at D a)) (negated (nat_eq (count indexes) (rank_at F (array_at D a))) h)
      ∙ known_rank a s

  dimension_fits : (a d : Expr) (rest : Exprs) → asks_above D F (next_expr a (next_expr d rest)) ≡ false → HasDimension U a d
  dimension_fits a d rest h s k is =
      let found : elements.dimension_in (folded d) ≡ Some (suc k) = ap elements.dimension_in is.1 ∙ dimension_is k is.0 in
      let above : nat_lt (rank_at F (array_at D a)) (suc k) ≡ false = sym (ap {B = Bool} (λ o. is_above o (rank_at F (array_at D a))) found) ∙ h in
      let within = ltb-false (rank_at F (array_at D a)) (suc k) above in
      let rank = known_rank a s in
      omega (arith, within, rank)

  library_fits : (function : LibCall) (args : Exprs) → (elements.is_bound_lib function && asks_above D F args) ≡ false → FitsBounds U function args
  library_fits lib.UBound no_exprs h = tt
  library_fits lib.UBound (next_expr a no_exprs) h = tt
  library_fits lib.UBound (next_expr a (next_expr d rest)) h = dimension_fits a d rest h
  library_fits lib.LBound no_exprs h = tt
  library_fits lib.LBound (next_expr a no_exprs) h = tt
  library_fits lib.LBound (next_expr a (next_expr d rest)) h = dimension_fits a d rest h
  library_fits _ args h = tt

  argument_fits : (q i : ℕ) (a : Argument)
      → ((v w : ℕ) → Contains (argument_tie D (slice_get (params_at (slice_get D.procs q)) i) a) (v, w) → Contains (ties U.program) (v, w)) → FitsArgument U q i a
  argument_fits q i (by_value e) t = tt
  argument_fits q i (by_reference e) t = λ s takes. by s (slice_get (params_at (slice_get D.procs q)) i) t takes
    where
      by : (s : IsSoundArray U e) (o : Option VarId) → ((v w : ℕ) → Contains (argument_tie D o (by_reference e)) (v, w) → Contains (ties U.program) (v, w))
          → is_array_id D o ≡ true → rank_of U e ≡ rank_of_id U o
      by s None t c = absurd (cc c)
      by s (Some w) t c =
          let is : Contains (tie (array_at D e) (Some w.0)) (s.variable, w.0) =
          subst (λ (o : Option ℕ). Contains (tie o (Some w.0)) (s.variable, w.0)) (sym s.declares) (here (s.variable, w.0) []) in
          let tied_to = tied U.program s.variable w.0 (array_below U.program s.variable s.is_array) (array_below U.program w.0 c) (t s.variable w.0 is) in
          own_rank e s ∙ tied_rank U.program s.variable w.0 tied_to (g.ranks s.variable s.is_array) (g.ranks w.0 c)

  passed_fits : (q i : ℕ) (args : Passed)
      → ((v w : ℕ) → Contains (argument_ties D (params_at (slice_get D.procs q)) i args) (v, w) → Contains (ties U.program) (v, w)) → FitsPassed U q i args
  passed_fits q i no_passed t = tt
  passed_fits q i (next_passed a rest) t =
      let params = params_at (slice_get D.procs q) in
      let first = argument_tie D (slice_get params i) a in (
        argument_fits q i a (λ v w c. t v w (Contains-append_left first (argument_ties D params (i + 1) rest) (v, w) c)),
        passed_fits q (suc i) rest
            (λ v w c. t v w (Contains-append_right first (argument_ties D params (i + 1) rest) (v, w)
            (subst (λ n. Contains (argument_ties D params n rest) (v, w)) (let n : suc i ≡ i + 1 = omega arith in n) c))),
      )

  node_fits : (e : Expr) → misfits D F e ≡ false → ((v w : ℕ) → Contains (node_ties D e) (v, w) → Contains (ties U.program) (v, w)) → FitsNode U e
  node_fits (typed ty (element a indexes)) h t = element_fits a indexes h
  node_fits (typed ty (call q qualified of args)) h t = passed_fits q.0 0 args t
  node_fits (typed ty (library function args)) h t = library_fits function args h
  node_fits (typed ty _) h t = tt

  -- ---- lines

  module _ (p k : ℕ) (lines : List Line) (l : Line) (at : slice_get U.program.bodies p ≡ Some lines) (got : slice_get lines k ≡ Some l)
      (unbroken : is_broken (line_rules D F l) ≡ false) where
    sound_rules : (breaks_lows l ≡ false) × (breaks_forms D F l ≡ false)
    sound_rules = line_parts (breaks_lows l) (breaks_locks D F l) (breaks_forms D F l) unbroken

    pub uses_fit : (d : Expr) → Contains (line_uses l) d → FitsNode U d
    uses_fit d i =
        let among = used_in l.source.form l.bindings.exprs d i in
        let sound = any_false (breaks_node D F) (line_nodes l) d among
        (right_false (breaks_form l.source.form l.bindings.exprs) (list_any (breaks_node D F) (line_nodes l)) sound_rules.1) in
        node_fits d (left_false (misfits D F d) (gives_fixed F (params_of D.procs (called d)) 0 (args_at d)) sound)
        (λ v w c. project_contains (tie_items D) U.program.bodies p k lines l (v, w) at got
        (Contains-append_right (store_ties D l.source.form l.bindings.exprs) (flat_map (node_ties D) (line_uses l)) (v, w)
        (contains_flat (node_ties D) (line_uses l) d (v, w) i c)))

    not_over : (fm : Form) (es : List Expr) (r : Resize) → Contains (resized_by fm es) r → breaks_form fm es ≡ false → is_loose r.array ≡ false
        → nat_lt 2 (length r.extents) ≡ false
    not_over (source.redim preserve items) es r i h typed_array =
        let sound = any_false (breaks_resize preserve) (resizes items es) r i h in
        let over = second_false (not (is_loose r.array)) (not (is_free_array r.array) || is_over preserve (length r.extents)) sound
        (ap {B = Bool} not typed_array) in
        left_false (nat_lt 2 (length r.extents)) (preserve && nat_lt 1 (length r.extents))
        (right_false (not (is_free_array r.array)) (is_over preserve (length r.extents)) over)
    not_over _ es r i h typed_array = absurd (in_none r i)

    extent_fits : (r : Resize) → Contains (resized_by l.source.form l.bindings.exprs) r → (s : IsSoundArray U r.array) → (d : ℕ) (x : Extent)
        → slice_get r.extents d ≡ Some x → HasConstantLow x.0 → U.facts.rank s.variable ≡ length r.extents
        → low_in (home_base D (slice_get D.procs p)) x.0 ≡ Some (low_in_dimension U r.array d)
    extent_fits r i s d x e constant_low rank =
        let v : ℕ = s.variable in
        let base : ℤ = home_base D (slice_get D.procs p) in
        let sound = any_false has_open (resized_by l.source.form l.bindings.exprs) r i sound_rules.0 in
        let closed = any_false (λ (y : Extent). is_open y.0) r.extents x (got_in r.extents d x e) sound in
        let low = low_found base x.0 constant_low closed in
        let few = ltb-false 2 (length r.extents)
        (not_over l.source.form l.bindings.exprs r i (left_false (breaks_form l.source.form l.bindings.exprs) (list_any (breaks_node D F) (line_nodes l)) sound_rules.1)
        (not_loose D r.array v s.declares)) in
        let place = below r.extents d x e in
        let in_two : d < 2 = omega (arith, few, place) in
        let in_rank : d < U.facts.rank v = omega (arith, rank, place) in
        let found : low_at base (slice_get r.extents d) ≡ Some low.0 = ap (low_at base) e ∙ low.1 in
        let given_low : Contains (lows U.program d) (v, low.0) =
        Contains-append_right (declared_lows d 0 D.vars) (project_items (low_items D d) U.program.bodies) (v, low.0)
        (project_contains (low_items D d) U.program.bodies p k lines l (v, low.0) at got
        (contains_flat (resize_low D base d) (resized_by l.source.form l.bindings.exprs) r (v, low.0) i
        (subst (λ (o : Option ℤ). Contains (given (array_at D r.array) o) (v, low.0)) (sym found)
        (subst (λ (o : Option ℕ). Contains (given o (Some low.0)) (v, low.0)) (sym s.declares) (here (v, low.0) []))))) in
        let same : U.facts.low v d ≡ low.0 =
        low_given U.program d v low.0 (g.lows v d s.is_array (lt-ltb d 2 in_two) (lt-ltb d (U.facts.rank v) in_rank)) (v, empty v, given_low) (alone v s.is_array s.sound).0 in
        low.1 ∙ ap Some (sym same ∙ sym (ap (λ (o : Option ℕ). low_of U.facts o d) (declared_is D r.array v s.declares)))

    pub resizes_fit : FitsLine U p l
    resizes_fit r i s =
        let v : ℕ = s.variable in
        let apart = alone v s.is_array s.sound in
        let n : ℕ = length r.extents in
        let given_rank : Contains (ranks U.program) (v, n) =
        Contains-append_right (declared_ranks 0 D.vars) (project_items (rank_items D) U.program.bodies) (v, n)
        (project_contains (rank_items D) U.program.bodies p k lines l (v, n) at got
        (contains_flat (resize_rank D) (resized_by l.source.form l.bindings.exprs) r (v, n) i
        (subst (λ (o : Option ℕ). Contains (given o (Some n)) (v, n)) (sym s.declares) (here (v, n) [])))) in
        let rank : U.facts.rank v ≡ n = rank_given U.program v n (g.ranks v s.is_array) (v, empty v, given_rank) apart.1 in
        record {
          rank = sym rank ∙ sym (own_rank r.array s);
          extents = λ d x e constant_low. extent_fits r i s d x e constant_low rank;
        }

  -- ---- fixed arrays

  pub ranks_fit : (v : ℕ) (x : Variable) (e : Ty) (rank : ℕ) → slice_get D.vars v ≡ Some x → x.ty ≡ array e (suc rank) → is_flagged U v ≡ false
      → U.facts.rank v ≡ suc rank
  ranks_fit v x e rank at is sound =
      let declares : is_array_variable (slice_get D.vars v) ≡ true = ap is_array_variable at ∙ ap is_array_type is in
      let given_rank : Contains (ranks U.program) (v, suc rank) =
      Contains-append_left (declared_ranks 0 D.vars) (project_items (rank_items D) U.program.bodies) (v, suc rank)
      (declared_in 0 v v (suc rank) D.vars x (omega arith) at (ap fixed_rank is)) in
      rank_given U.program v (suc rank) (g.ranks v declares) (v, empty v, given_rank) (alone v declares sound).1
