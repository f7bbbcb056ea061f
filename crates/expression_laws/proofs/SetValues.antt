-- The value that a Let or a Set of a property takes, as its last argument.
use Rattle.std.proofs.Common.{◌≡◌, ◌⊎◌, inl, inr, refl, sym, ap, subst, ◌∙◌, ℕ, suc, ◌+◌, Bool, true, false, cond, not, ◌&&◌, nat_eq, true≢false, eqb-true, Option, Some, None, List, [], ◌∷◌, ◌++◌, length}
use Rattle.std.specs.List.{list_all}
use Rattle.std.specs.Prelude.{slice_get}
use Rattle.vb_tree.specs.BoundTree.{Ty}
use Rattle.vb_tree.specs.declared.declared.ProcKind.{ProcKind}
use Rattle.vb_tree.specs.declared.declared.ProcKind.TheVariants as kind
use Rattle.vb_tree.specs.declared.declared.VarId.{VarId}
use Rattle.vb_tree.specs.declared.value.Value6.{Value6}
use Rattle.bound_tree.specs.Tree.{Procedure, Declarations, typed, Term, variable, convert, Argument, by_reference, Passed, no_passed, next_passed}
use Rattle.bound_tree.specs.Tree as tree
use Rattle.bound_facts.specs.Effects.{params_at}
use Rattle.reach_table.specs.Chains.{empty}
use Rattle.net_meaning.specs.declared.value.ValueN.TheVariants as n
use Rattle.run_base.specs.Frames.{by_value}
use Rattle.run_base.specs.Outcomes.{Outcome, gives, raises, spent, outside, then}
use Rattle.vb6_run.specs.Expressions as source
use Rattle.vb6_run.specs.Expressions.{Context}
use Rattle.vb6_run.specs.Store.{Memory, SourceGiven}
use Rattle.vb6_run.specs.Shapes.{simple, user_shapes}
use Rattle.vb6_run.specs.Values.{Value, scalar, fields, elements}
use Rattle.net_run.specs.Values as net_value
use Rattle.written_trees.specs.Arguments.{is_property, is_property_at, is_property_kind}
use Rattle.written_trees.specs.Exprs.{has_none}
use Rattle.written_trees.specs.Heads.{index_params, is_function, without_last}
use Rattle.written_trees.specs.Puts.{last_of}
use Rattle.run_matches.specs.Covered.{hands_argument, hands_passed, covers_all_calls, covers_body, covers_head, covers_joined, covers_names, covers_parameter, covers_procedure, covers_result, covers_site, covers_variables, is_type_at}
use Rattle.run_matches.specs.CoveredExprs.{count_passed, is_giving, is_taking, is_typed_variable, takes_value}
use Rattle.run_matches.specs.CoveredVariables.{covers_group_type, covers_type}
use Rattle.run_matches.specs.IndexArguments.{goes_as_index, goes_as_index_term, hands_index}
use Rattle.run_matches.specs.Keeping.{given_by, given_types}
use Rattle.run_matches.specs.Likeness.{LikeV, are_flat, is_flat, numbers_of}
use Rattle.run_matches.specs.Maps.{World}
use Rattle.run_matches.specs.Pledges.{Later, NetGiven, Pledge, arrays_in, arrays_in_all, still}
use Rattle.run_matches.specs.Sites.{site_of}
use Rattle.run_matches.specs.Upgrades.{Upgrade}
use Rattle.run_statements.specs.Frames.{type_shape}
use Rattle.run_statements.specs.Groups.{ValueMatch}
use Rattle.run_statements.specs.Properties.{MayFollow}
use Rattle.run_statements.specs.Written.{Passes}
use Rattle.agreeing_laws.specs.Promises.{Yields}
use Rattle.agreeing_laws.proofs.Outputs.{yields_then}
use Rattle.agreeing_laws.proofs.Scalars.{same_later}
use Rattle.agreeing_laws.proofs.Still.{stays_still}
use Rattle.memory_laws.proofs.Flat.{flat_value}
use Rattle.run_statements.specs.Arguments.{ArgumentsMatch, IsIndex, next_address, next_index, next_value, no_arguments}
use Rattle.expression_laws.specs.Statements.{ParametersAreSound}
use Rattle.expression_laws.proofs.Arguments.{no_arrays}
use Rattle.expression_laws.proofs.GroupArguments.{group_lasts}
use Rattle.expression_laws.proofs.IndexValues.{index_later}
use Rattle.expression_laws.proofs.References.{further, here}
use Rattle.expression_laws.proofs.Types.{both_true, is_group, simple_type}
use Rattle.run_matches.specs.Addresses.{TakesValue}

-- ---- parts of properties that take a value

-- what passes is declared, and covered as it stands there
pub record IsDeclared (U : Upgrade) (q : ℕ) : Type 0 where
  pub procedure : Procedure
  pub is_procedure : slice_get U.program.declarations.procs q ≡ Some procedure
  pub joined : covers_joined U.program.declarations q procedure ≡ true

declared_head : (U : Upgrade) (q : ℕ) (o : Option Procedure) → slice_get U.program.declarations.procs q ≡ o → covers_head U.program q o ≡ true → IsDeclared U q
declared_head U q None is h = absurd (true≢false (sym h))
declared_head U q (Some x) is h =
    let D : Declarations = U.program.declarations in
    record {
      procedure = x;
      is_procedure = is;
      joined = (both_true (covers_joined D q x) (list_all (covers_parameter U.program q) x.params && covers_result D q x) h).0;
    }

pub declared : (U : Upgrade) (q : ℕ) → Passes U q → IsDeclared U q
declared U q passes =
    let P = U.program in
    let D : Declarations = P.declarations in
    let head = covers_head P q (slice_get D.procs q) in
    let rest = covers_site D q (site_of D q) && (covers_variables P q && covers_body P q (slice_get P.bodies q)) in
    let covered : covers_procedure P q ≡ true = passes.1 q (empty q) in
    let a = both_true (covers_all_calls P q (slice_get P.bodies q)) (covers_names D && (head && rest)) covered in
    declared_head U q (slice_get D.procs q) refl (both_true head rest (both_true (covers_names D) (head && rest) a.1).1).0

takes_as_part : (k : ProcKind) → not (takes_value k) ≡ false → is_property_kind k ≡ true
takes_as_part kind.Sub h = absurd (true≢false h)
takes_as_part kind.Function h = absurd (true≢false h)
takes_as_part _ h = refl

pub is_part : (U : Upgrade) (q : ℕ) → IsDeclared U q → is_giving (slice_get U.program.declarations.procs q) ≡ false
    → is_property U.program.declarations q ≡ true
is_part U q x h = ap is_property_at x.is_procedure ∙ takes_as_part x.procedure.kind (sym (ap is_giving x.is_procedure) ∙ h)

-- ---- the parameter of the value

abbrev holds_if_some : {A : Type 0} → (A → Bool) → Option A → Bool
holds_if_some test None = true
holds_if_some test (Some x) = test x

-- it stands behind the index parameters
last_there : (vs : List VarId) → slice_get vs (length (without_last vs)) ≡ last_of vs
last_there [] = refl
last_there (v ∷ []) = refl
last_there (v ∷ u ∷ vs) = last_there (u ∷ vs)

behind_indexes : (k : ProcKind) (vs : List VarId) (n : ℕ) → takes_value k ≡ true → nat_eq n (length (cond (is_function k) vs (without_last vs))) ≡ true
    → slice_get vs n ≡ last_of vs
behind_indexes kind.Let vs n takes e = ap (λ m. slice_get vs m) (eqb-true n (length (without_last vs)) e) ∙ last_there vs
behind_indexes kind.Set vs n takes e = ap (λ m. slice_get vs m) (eqb-true n (length (without_last vs)) e) ∙ last_there vs
behind_indexes _ vs n takes e = absurd (true≢false (sym takes))

last_is_typed : (D : Declarations) (ty : Ty) (o : Option VarId) → is_typed_variable D ty o ≡ true → is_type_at D ty o ≡ true
last_is_typed D ty None h = h
last_is_typed D ty (Some v) h = h

-- it takes a value of its type
takes_typed : (U : Upgrade) (q n : ℕ) (ty : Ty) → IsDeclared U q → is_taking U.program.declarations n ty (slice_get U.program.declarations.procs q) ≡ true
    → is_type_at U.program.declarations ty (slice_get (params_at (slice_get U.program.declarations.procs q)) n) ≡ true
takes_typed U q n ty x h =
    let D : Declarations = U.program.declarations in
    let typed = is_typed_variable D ty (last_of x.procedure.params) in
    let counted = nat_eq n (length (index_params x.procedure)) in
    let both = both_true (takes_value x.procedure.kind) (counted && typed) (sym (ap (is_taking D n ty) x.is_procedure) ∙ h) in
    let rest = both_true counted typed both.1 in
    ap (λ o. is_type_at D ty (slice_get (params_at o) n)) x.is_procedure
    ∙ ap (is_type_at D ty) (behind_indexes x.procedure.kind x.procedure.params n both.0 rest.0)
    ∙ last_is_typed D ty (last_of x.procedure.params) rest.1

-- ---- the value as an argument

module _ (U : Upgrade) (K : Pledge) (q n : ℕ) (takes_value : TakesValue U q n) (w : World) (x : Value) (y : net_value.Value) where
  scalar_given : (s : Ty) (v : Value6) → LikeV U w (scalar s v) y → ArgumentsMatch U K q n w (by_value (scalar s v) ∷ []) (by_value y ∷ [])
  scalar_given s v like = next_value n w (scalar s v) y [] [] like tt takes_value (no_arrays U w s v y like) (no_arguments (suc n) w)

  pub value_given : ParametersAreSound U → Passes U q → (ty : Ty) → is_taking U.program.declarations n ty (slice_get U.program.declarations.procs q) ≡ true
      → (covers_type ty ≡ true) ⊎ (covers_group_type U.program.declarations ty ≡ true) → ValueMatch U (type_shape U ty) w x y
      → ArgumentsMatch U K q n w (by_value x ∷ []) (by_value y ∷ [])
  value_given sound passes ty takes (inl covers) m =
      of_scalar x (subst (λ s. ValueMatch U s w x y) (simple_type (user_shapes U.program.declarations) [] ty covers) m) refl
    where
      of_scalar : (z : Value) → ValueMatch U (simple ty) w z y → x ≡ z → ArgumentsMatch U K q n w (by_value x ∷ []) (by_value y ∷ [])
      of_scalar (scalar s v) m is =
          subst (λ z. ArgumentsMatch U K q n w (by_value z ∷ []) (by_value y ∷ [])) (sym is) (scalar_given s v m.1)
      of_scalar (fields t xs) m is = absurd m.0
      of_scalar (elements e dims xs) m is = absurd m.0
  value_given sound passes ty takes (inr covers) m =
      let lasts = group_lasts U K q n ty
      (sound q n ty passes (is_group U.program.declarations ty covers) (takes_typed U q n ty (declared U q passes) takes)) in
      next_value n w x y [] [] (lasts.like w x y m) (lasts.givable w x y m) takes_value (lasts.no_arrays w x y m) (no_arguments (suc n) w)

-- ---- behind the indexes

-- it goes behind the arguments that are there
pub value_behind : (U : Upgrade) (K : Pledge) (q i : ℕ) (w : World) (x : Value) (y : net_value.Value) (xs : List SourceGiven) (ys : List NetGiven)
    → ArgumentsMatch U K q i w xs ys → ArgumentsMatch U K q (i + length xs) w (by_value x ∷ []) (by_value y ∷ [])
    → ArgumentsMatch U K q i w (xs ++ by_value x ∷ []) (ys ++ by_value y ∷ [])
value_behind U K q _ _ x y _ _ (no_arguments i w) last =
    subst (λ m. ArgumentsMatch U K q m w (by_value x ∷ []) (by_value y ∷ [])) (here i) last
value_behind U K q _ _ x y _ _ (next_value i w a b xs ys like givable takes none rest) last =
    next_value i w a b (xs ++ by_value x ∷ []) (ys ++ by_value y ∷ []) like givable takes none
    (value_behind U K q (suc i) w x y xs ys rest
    (subst (λ m. ArgumentsMatch U K q m w (by_value x ∷ []) (by_value y ∷ [])) (further i (length xs)) last))
value_behind U K q _ _ x y _ _ (next_address i w a b xs ys same target whole plain suits rest) last =
    next_address i w a b (xs ++ by_value x ∷ []) (ys ++ by_value y ∷ []) same target whole plain suits
    (value_behind U K q (suc i) w x y xs ys rest
    (subst (λ m. ArgumentsMatch U K q m w (by_value x ∷ []) (by_value y ∷ [])) (further i (length xs)) last))
value_behind U K q _ _ x y _ _ (next_index i w a b xs ys index rest) last =
    next_index i w a b (xs ++ by_value x ∷ []) (ys ++ by_value y ∷ []) index
    (value_behind U K q (suc i) w x y xs ys rest
    (subst (λ m. ArgumentsMatch U K q m w (by_value x ∷ []) (by_value y ∷ [])) (further i (length xs)) last))

-- values without arrays
nothing_left : (xs ys : List ℕ) → xs ++ ys ≡ [] → (xs ≡ []) × (ys ≡ [])
nothing_left [] ys e = (refl, e)
nothing_left (x ∷ xs) ys e = absurd (cc e)

mutual
  flat_of_none : (y : net_value.Value) → arrays_in y ≡ [] → is_flat y ≡ true
  flat_of_none net_value.unknown e = refl
  flat_of_none (net_value.single (n.Array k)) e = absurd (cc e)
  flat_of_none (net_value.single _) e = refl
  flat_of_none (net_value.fields ys) e = flat_of_none_all ys e

  flat_of_none_all : (ys : net_value.Values) → arrays_in_all ys ≡ [] → are_flat ys ≡ true
  flat_of_none_all net_value.no_values e = refl
  flat_of_none_all (net_value.next_value y ys) e =
      let both = nothing_left (arrays_in y) (arrays_in_all ys) e in
      ap (λ b. b && are_flat ys) (flat_of_none y both.0) ∙ flat_of_none_all ys both.1

-- what is given to a part of a property stays while nothing changes
module _ (U : Upgrade) (K : Pledge) (q : ℕ) (part : is_property U.program.declarations q ≡ true) (u w : World) (l : Later U K u w) where
  arguments_later : Later U (still K u) u w → (i : ℕ) (v : World) (xs : List SourceGiven) (ys : List NetGiven) → v ≡ u → ArgumentsMatch U K q i v xs ys
      → ArgumentsMatch U K q i w xs ys
  arguments_later s _ _ _ _ at (no_arguments i v) = no_arguments i w
  arguments_later s _ _ _ _ at (next_value i v x y xs ys like givable takes none rest) =
      next_value i w x y xs ys
      (flat_value U (numbers_of u) (numbers_of w) (same_later u w l.extends l.grows) x y (flat_of_none y none) (subst (λ z. LikeV U z x y) at like)) givable takes
      none (arguments_later s (suc i) v xs ys at rest)
  arguments_later s _ _ _ _ at (next_address i v a b xs ys same target whole plain suits rest) = absurd (true≢false (sym part ∙ suits.1.1))
  arguments_later s _ _ _ _ at (next_index i v a y xs ys x rest) =
      let now : IsIndex U q i u a y = subst (λ z. IsIndex U q i z a y) at x in
      next_index i w a y xs ys
      (index_later U q i u a y now (still K u) w s (stays_still U K u now.position now.is_made now.plain)) (arguments_later s (suc i) v xs ys at rest)

  none_given : (i : ℕ) (v : World) (xs : List SourceGiven) (ys : List NetGiven) → length xs ≡ 0 → ArgumentsMatch U K q i v xs ys
      → ArgumentsMatch U K q i w xs ys
  none_given _ _ _ _ none (no_arguments i v) = no_arguments i w
  none_given _ _ _ _ none (next_value i v x y xs ys like givable takes no_array rest) = absurd (cc none)
  none_given _ _ _ _ none (next_address i v a b xs ys same target whole plain suits rest) = absurd (cc none)
  none_given _ _ _ _ none (next_index i v a y xs ys x rest) = absurd (cc none)

  none_counted : (args : Passed) → has_none args ≡ true → count_passed args ≡ 0
  none_counted no_passed h = refl
  none_counted (next_passed a rest) h = absurd (true≢false (sym h))

  pub arguments_follow : (args : Passed) → MayFollow U K u w args → (xs : List SourceGiven) (ys : List NetGiven) → length xs ≡ count_passed args
      → ArgumentsMatch U K q 0 u xs ys → ArgumentsMatch U K q 0 w xs ys
  arguments_follow args (inl none) xs ys counted m = none_given 0 u xs ys (counted ∙ none_counted args none) m
  arguments_follow args (inr s) xs ys counted m = arguments_later s 0 u xs ys refl m

-- ---- how many

-- there are as many as are written
pub args_counted : (C : Context) (q i : ℕ) (args : Passed) (w : Memory)
    → Yields (λ (gs : List SourceGiven) (w : Memory). length gs ≡ count_passed args) (source.args_of C q i args w)
args_counted C q i no_passed w = refl
args_counted C q i (next_passed a rest) w =
    yields_then (λ (gs : List SourceGiven) (w : Memory). length gs ≡ suc (count_passed rest)) (source.argument_of C (C.runnable.quiet q i) a w)
    (λ g w. then (source.args_of C q (suc i) rest w) (λ gs w. gives [] (g ∷ gs) w))
    (λ g v. one_more g (source.args_of C q (suc i) rest v) (args_counted C q (suc i) rest v))
  where
    one_more : (g : SourceGiven) (r : Outcome Memory (List SourceGiven)) → Yields (λ (gs : List SourceGiven) (w : Memory). length gs ≡ count_passed rest) r
        → Yields (λ (gs : List SourceGiven) (w : Memory). length gs ≡ suc (count_passed rest)) (then r (λ gs w. gives [] (g ∷ gs) w))
    one_more g (gives o gs w) h = ap suc h
    one_more g (raises o e w) h = tt
    one_more g (spent o w) h = tt
    one_more g (outside o) h = tt

-- no element goes to a part of a property
pub no_elements_given : (U : Upgrade) (q i : ℕ) (args : Passed) → is_property U.program.declarations q ≡ true → hands_passed U.program q i args ≡ true
    → given_types args ≡ []
no_elements_given U q i no_passed part h = refl
no_elements_given U q i (next_passed a rest) part h =
    let index = hands_index U.program q i a rest in
    let first = both_true (hands_argument U.program q i a) (index && hands_passed U.program q (suc i) rest) h in
    let both = both_true index (hands_passed U.program q (suc i) rest) first.1 in
    ap (λ ts. ts ++ given_types rest)
    (none_by a (subst (λ b. cond b (goes_as_index U.program q i a rest) true ≡ true) part both.0))
    ∙ no_elements_given U q (suc i) rest part both.1
  where
    no_element : (ty : Ty) (t : Term) → goes_as_index_term U.program q i t rest ≡ true → given_by (by_reference (typed ty t)) ≡ []
    no_element ty (variable v qualified) h = refl
    no_element ty (convert to e) h = refl
    no_element ty _ h = absurd (true≢false (sym h))

    none_by : (a : Argument) → goes_as_index U.program q i a rest ≡ true → given_by a ≡ []
    none_by (tree.by_value e) h = refl
    none_by (by_reference (typed ty t)) h = no_element ty t (both_true (covers_type ty) (goes_as_index_term U.program q i t rest) h).1
