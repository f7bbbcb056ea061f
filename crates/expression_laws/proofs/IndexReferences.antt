-- A variable that is given by reference to an index parameter of a property: what is written gives its value, which the later arguments
-- leave as it is.
use Rattle.std.proofs.Common.{◌≡◌, ◌∙◌, ◌⊎◌, inl, inr, refl, sym, ap, subst, ℕ, suc, Bool, true, false, not, ◌&&◌, ◌||◌, Option, Some, None, List, [], ◌∷◌, true≢false}
use Rattle.std.specs.Prelude.{is_some, slice_get}
use Rattle.vb_tree.specs.BoundTree as types
use Rattle.vb_tree.specs.BoundTree.{Ty}
use Rattle.vb_tree.specs.declared.declared.VarId.{VarId}
use Rattle.vb_tree.specs.declared.value.Value6.{Value6}
use Rattle.bound_tree.specs.Tree.{Declarations, Expr, typed, variable, convert, by_reference, Passed}
use Rattle.bound_facts.specs.Node.{auto_class, called}
use Rattle.bound_facts.specs.Nodes.{nodes_of_passed}
use Rattle.net_tree.specs.declared.declaration.NetPassing.{NetPassing}
use Rattle.net_tree.specs.declared.declaration.NetPassing.TheVariants as passing
use Rattle.net_tree.specs.Tree.{path}
use Rattle.run_base.specs.Frames.{Given, by_address, by_value}
use Rattle.run_base.specs.Outcomes.{Outcome, after, found, gives, some_of, then}
use Rattle.run_base.specs.Positions.{Position}
use Rattle.vb6_run.specs.Expressions as source
use Rattle.vb6_run.specs.Expressions.{Context}
use Rattle.vb6_run.specs.Forms.{SourceLine}
use Rattle.vb6_run.specs.Runnables.{variable_address}
use Rattle.vb6_run.specs.Shapes.{simple}
use Rattle.vb6_run.specs.Store.{Address, Held, Memory, SourceCalls, SourceFrame, SourceGiven, root, single}
use Rattle.vb6_run.specs.Values.{scalar}
use Rattle.net_run.specs.Calls.{Arguments}
use Rattle.net_run.specs.Expressions as target
use Rattle.net_run.specs.Lines.{NetFrame, NetLine, scope_of}
use Rattle.net_run.specs.Making.{Jobs}
use Rattle.net_run.specs.Members.{Code}
use Rattle.net_run.specs.Names as net_names
use Rattle.net_run.specs.Names.{at_place, path_start, starts}
use Rattle.net_run.specs.Store as net
use Rattle.net_run.specs.Values as net_value
use Rattle.written_trees.specs.Arguments.{argument_exp, is_conversion, is_property}
use Rattle.written_trees.specs.Exprs.{exp_of}
use Rattle.written_trees.specs.Names.{Scope, variable_path}
use Rattle.run_matches.specs.Addresses.{AllMatched, IsPlain, IsScalarAt, IsTarget, IsVariable, IsWhole, Same, TakesValue, is_element, position_of, same_item, same_root}
use Rattle.run_matches.specs.Agreeing.{Agrees}
use Rattle.run_matches.specs.CoveredExprs.{Uses, are_still, covers_array, covers_expr, is_auto_use, is_new, is_passable, is_relied_on, is_seen_inward}
use Rattle.run_matches.specs.CoveredVariables.{covers_group_type, covers_type, takes_value_at}
use Rattle.run_matches.specs.Frames.{is_mirrored}
use Rattle.run_matches.specs.IndexArguments.{change_nothing, goes_as_index, goes_as_index_term, is_auto_node, is_inward_called, is_seen_quiet}
use Rattle.run_matches.specs.Likeness.{LikeV, like_scalar}
use Rattle.run_matches.specs.Maps.{World, moved_at}
use Rattle.run_matches.specs.Match.{Holds, MemoryMatch, holds_blank, holds_parts, holds_single, holds_table}
use Rattle.run_matches.specs.Pledges.{NetGiven, Pledge, is_inward, still}
use Rattle.run_matches.specs.Upgrades.{Upgrade, runnable_of}
use Rattle.run_statements.specs.Frames.{AreReadable, IsKnown, IsReadable, context_of}
use Rattle.agreeing_laws.proofs.Agreeing.{agrees_gives, agrees_outside, agrees_promised, left_alone, right_alone, then_agrees}
use Rattle.agreeing_laws.proofs.PlainUses.{auto_is}
use Rattle.agreeing_laws.proofs.Still.{stays_still, still_more}
use Rattle.memory_laws.proofs.Making.{readable_type}
use Rattle.memory_laws.proofs.Reading.{ScalarImage, scalar_image}
use Rattle.run_statements.specs.Arguments.{ArgumentsMatch, IsIndex, next_address, next_index, next_value, no_arguments}
use Rattle.expression_laws.specs.Images.{HasImage, HaveImages, IsImage}
use Rattle.expression_laws.proofs.Calls.{given_is}
use Rattle.expression_laws.proofs.IndexValues.{index_found, index_later}
use Rattle.expression_laws.proofs.References.{IsPassed, passed_exact, reference_is, scalar_used, source_given}
use Rattle.expression_laws.proofs.Types.{both_true}
use Rattle.expression_laws.proofs.UsedShapes.{known_scalar, not_auto, scalar_stands}
use Rattle.expression_laws.proofs.Variables.{known_exp, known_none, path_read}

-- ---- later arguments

-- what changes nothing is still
module _ (U : Upgrade) (T : Scope) (uses : Uses) (readable : AreReadable U T uses) where
  no_auto_use : (ty : Ty) (v : VarId) → is_some (auto_class (slice_get U.program.declarations.vars v.0)) ≡ false → uses.auto v ty ≡ false
  no_auto_use ty v none = by (uses.auto v ty) refl
    where
      by : (b : Bool) → uses.auto v ty ≡ b → b ≡ false
      by true auto =
          let r = readable.autos v ty auto in
          absurd (true≢false (sym (ap is_some (auto_is U v.0 r.0 r.2)) ∙ none))
      by false auto = refl

  auto_seen : (d : Expr) → is_auto_node U.program.declarations d ≡ false → is_auto_use uses d ≡ false
  auto_seen (typed ty (variable v qualified)) h = no_auto_use ty v h
  auto_seen (typed ty _) h = refl

  inward_seen : (o : Option ℕ) → is_inward_called U.program o ≡ true → is_seen_inward uses o ≡ true
  inward_seen None h = refl
  inward_seen (Some q) h = readable.sees_inward q h

  none_of_two : (a b c : Bool) → (b ≡ false → c ≡ false) → not (a || b) ≡ true → not (a || c) ≡ true
  none_of_two true b c f h = h
  none_of_two false true c f h = absurd (true≢false (sym h))
  none_of_two false false c f h = ap not (f refl)

  pub nothing_changes : (es : List Expr) → change_nothing U.program es ≡ true → are_still uses es ≡ true
  nothing_changes [] h = refl
  nothing_changes (d ∷ es) h =
      let auto = is_auto_node U.program.declarations d in
      let both = both_true (not (is_new d || auto) && is_inward_called U.program (called d)) (change_nothing U.program es) h in
      let here = both_true (not (is_new d || auto)) (is_inward_called U.program (called d)) both.0 in
      ap (λ b. (b && is_seen_inward uses (called d)) && are_still uses es)
      (none_of_two (is_new d) auto (is_auto_use uses d) (auto_seen d) here.0)
      ∙ ap (λ b. b && are_still uses es) (inward_seen (called d) here.1) ∙ nothing_changes es both.1

-- ---- what stands at the variable

-- a scalar is given as one
scalar_given : (U : Upgrade) (T : Scope) (uses : Uses) → AreReadable U T uses → (ty : Ty) (v : VarId) (qualified : Bool) → covers_type ty ≡ true
    → IsPassed uses (typed ty (variable v qualified)) → (is_passable uses (typed ty (variable v qualified)) && covers_expr uses (typed ty (variable v qualified))) ≡ true
scalar_given U T uses readable ty v qualified c (inl h) = h
scalar_given U T uses readable (types.array e rank) v qualified c (inr (inl h)) = absurd (true≢false (sym c))
scalar_given U T uses readable ty v qualified c (inr (inl h)) = absurd (no_array ty c h)
  where
    no_array : (ty : Ty) → covers_type ty ≡ true → covers_array uses (typed ty (variable v qualified)) ≡ true → ⊥
    no_array (types.array e rank) c h = true≢false (sym c)
    no_array _ c h = true≢false (sym h)
scalar_given U T uses readable ty v qualified c (inr (inr h)) =
    absurd (no_group ty c (readable.groups v ty (both_true (uses.group v ty) (uses.named v qualified) h).0).covers)
  where
    no_group : (ty : Ty) → covers_type ty ≡ true → covers_group_type U.program.declarations ty ≡ true → ⊥
    no_group (types.user t) c h = true≢false (sym c)
    no_group (types.class k) c h = true≢false (sym c)
    no_group _ c h = true≢false (sym h)

whole_root : (ty : Ty) (a : Address) (q : Position) → IsWhole a → IsScalarAt ty a q → a ≡ root (simple ty) q
whole_root ty a q whole (inl e) = e
whole_root ty a q whole (inr e) = absurd (true≢false (sym (ap is_element e.1) ∙ whole))

variable_only : (U : Upgrade) (a : Address) → IsWhole a → IsTarget U a → IsVariable U a
variable_only U a whole (inl v) = v
variable_only U a whole (inr e) = absurd (true≢false (sym (ap is_element e.stands) ∙ whole))

-- a scalar on both sides
record ScalarThere (U : Upgrade) (w : World) (ty : Ty) (a : Address) (b : net.Address) : Type 0 where
  position : Position
  stands : a ≡ root (simple ty) position
  matched : AllMatched U w (simple ty) position
  looked : net.looked_up b w.net ≡ net.held (w.net.cell (moved_at U w.map position))

abbrev MatchedAt : Upgrade → World → Address → Type 0
MatchedAt U w (root s q) = AllMatched U w s q
MatchedAt U w _ = Unit {0}

matched_at : (U : Upgrade) (K : Pledge) (w : World) (a : Address) (b : net.Address) → Same U K w a b → MatchedAt U w a
matched_at U K w _ _ (same_root s d q sh m r) = m
matched_at U K w _ _ (same_item e s d q k j inside keeps m has part sh) = tt

scalar_there : (U : Upgrade) (K : Pledge) (w : World) (ty : Ty) (q : Position) (a : Address) (b : net.Address) → a ≡ root (simple ty) q → covers_type ty ≡ true
    → Same U K w a b → ScalarThere U w ty a b
scalar_there U K w ty q a b e c same =
    let i : ScalarImage U w ty a b = scalar_image U K w ty a b c same (q, e) in
    record {
      position = i.position;
      stands = i.at_source;
      matched = subst (λ z. MatchedAt U w z) i.at_source (matched_at U K w a b same);
      looked = ap (λ z. net.looked_up z w.net) i.at_target;
    }

like_held : (U : Upgrade) (w : World) (ty : Ty) (x : Value6) (h : Held) (y : net.Cell) → h ≡ single ty x → Holds U w h y → LikeV U w (scalar ty x) (net.held y)
like_held U w ty x _ _ e (holds_single t z y m) =
    let a : t ≡ ty = cc e in
    let b : z ≡ x = cc e in
    subst (λ s. LikeV U w (scalar s x) (net_value.single y)) a (subst (λ s. LikeV U w (scalar t s) (net_value.single y)) b (like_scalar t z y m))
like_held U w ty x _ _ e holds_blank = absurd (cc e)
like_held U w ty x _ _ e (holds_table f dims xs k l) = absurd (cc e)
like_held U w ty x _ _ e holds_parts = absurd (cc e)

-- ---- under the promise that nothing changes

-- what is given to a part of a property lasts without it
arguments_back : (U : Upgrade) (K L : Pledge) (q i : ℕ) (w : World) (xs : List SourceGiven) (ys : List NetGiven) → is_property U.program.declarations q ≡ true
    → ArgumentsMatch U L q i w xs ys → ArgumentsMatch U K q i w xs ys
arguments_back U K L q _ _ _ _ part (no_arguments i w) = no_arguments i w
arguments_back U K L q _ _ _ _ part (next_value i w x y xs ys like givable takes none rest) =
    next_value i w x y xs ys like givable takes none (arguments_back U K L q (suc i) w xs ys part rest)
arguments_back U K L q _ _ _ _ part (next_address i w a b xs ys same target whole plain suits rest) = absurd (true≢false (sym part ∙ suits.1.1))
arguments_back U K L q _ _ _ _ part (next_index i w a y xs ys x rest) = next_index i w a y xs ys x (arguments_back U K L q (suc i) w xs ys part rest)

-- ---- both

module _ (U : Upgrade) (K : Pledge) (p : ℕ) (f : SourceFrame) (g : NetFrame) (oracle : SourceCalls) (net_oracle : Jobs) (l : SourceLine) (k : NetLine) (c : Code)
    (T : Scope) (uses : Uses) (same_declarations : T.declarations ≡ U.program.declarations) (readable : AreReadable U T uses) (q i : ℕ)
    (part : is_property U.program.declarations q ≡ true) where
  abbrev C : Context
  C = context_of U oracle p f l

  abbrev S : net_names.Scope
  S = scope_of U.written c g k

  -- the rest is evaluated while nothing changes
  rest_agrees : (w : World) (a : Address) (y : net_value.Value) (rest : Memory → Outcome Memory (List SourceGiven))
      (rest' : net.Memory → Outcome net.Memory Arguments) → MemoryMatch U w → IsIndex U q i w a y
      → Agrees U (still K w) w (ArgumentsMatch U (still K w) q (suc i)) (rest w.src) (rest' w.net)
      → Agrees U K w (ArgumentsMatch U K q i) (then (gives [] (by_address a) w.src) (λ g w. then (rest w) (λ gs w. gives [] (g ∷ gs) w)))
      (then (gives [] (by_value y) w.net) (λ g w. then (rest' w) (λ gs w. gives [] (g ∷ gs) w)))
  rest_agrees w a y rest rest' start x more =
      let R = ArgumentsMatch U K q i in
      let r = then (rest w.src) (λ gs w. gives [] (by_address a ∷ gs) w) in
      let r' = then (rest' w.net) (λ gs w. gives [] (by_value y ∷ gs) w) in
      left_alone U K w R r (after [] r')
      (right_alone U K w R r r'
      (agrees_promised U K (still K w) w R r r' start (still_more K w)
      (then_agrees U (still K w) w (ArgumentsMatch U (still K w) q (suc i)) R (rest w.src) (rest' w.net) (λ gs w. gives [] (by_address a ∷ gs) w)
      (λ gs w. gives [] (by_value y ∷ gs) w) start more
      (λ xs ys u given later.
      agrees_gives U (still K w) u R (by_address a ∷ xs) (by_value y ∷ ys) later.match
      (next_index i u a y xs ys (index_later U q i w a y x (still K w) u later (stays_still U K w x.position x.is_made x.plain))
      (arguments_back U K (still K w) q (suc i) u xs ys part given))))))

  -- the source reads the variable first
  given_as_index : (w : World) (a : Address) (y : net_value.Value) (rest : Memory → Outcome Memory (List SourceGiven))
      (rest' : net.Memory → Outcome net.Memory Arguments) → MemoryMatch U w → IsIndex U q i w a y
      → Agrees U (still K w) w (ArgumentsMatch U (still K w) q (suc i)) (rest w.src) (rest' w.net)
      → Agrees U K w (ArgumentsMatch U K q i) (then (source.given_address true a w.src) (λ g w. then (rest w) (λ gs w. gives [] (g ∷ gs) w)))
      (then (gives [] (by_value y) w.net) (λ g w. then (rest' w) (λ gs w. gives [] (g ∷ gs) w)))
  given_as_index w a y rest rest' start x more =
      subst (λ o. Agrees U K w (ArgumentsMatch U K q i)
      (then (then (found o w.src) (λ x w. gives [] (by_address a) w)) (λ g w. then (rest w) (λ gs w. gives [] (g ∷ gs) w)))
      (then (gives [] (by_value y) w.net) (λ g w. then (rest' w) (λ gs w. gives [] (g ∷ gs) w)))) (sym (index_found U q i w a y x))
      (rest_agrees w a y rest rest' start x more)

  -- a scalar that both sides have
  index_is : (w : World) (v : ℕ) (r : IsReadable U v) (a : Address) (b : net.Address) → IsWhole a → MemoryMatch U w → IsImage U K w v a b
      → (runnable_of U).quiet q i ≡ true → is_inward U q ≡ true → TakesValue U q i → IsPlain U w a → covers_type r.variable.ty ≡ true
      → IsIndex U q i w a (net.looked_up b w.net)
  index_is w v r a b whole start image quiet inward takes plain covers =
      let ty = r.variable.ty in
      let here : a ≡ root (simple ty) image.position = whole_root ty a image.position whole (scalar_stands U v r a image.position image.stands) in
      let there : ScalarThere U w ty a b = scalar_there U K w ty image.position a b here covers image.same in
      let kind : (z : Value6) × (w.src.held there.position ≡ single ty z) = there.matched.1 in
      record {
        variable = variable_only U a whole image.target;
        ty = ty;
        covers = covers;
        position = there.position;
        stands = there.stands;
        value = kind.0;
        held = kind.1;
        like =
            subst (λ z. LikeV U w (scalar ty kind.0) z) (sym there.looked)
            (like_held U w ty kind.0 (w.src.held there.position) (w.net.cell (moved_at U w.map there.position)) kind.1
            (start.stores.values there.position there.matched.0));
        is_made = there.matched.0.is_made;
        plain = plain there.position (ap position_of there.stands);
        quiet = quiet;
        inward = inward;
        takes = takes;
      }

  abbrev FirstAgrees : World → (quiet : Bool) → NetPassing → (referred : Bool) → Expr → (Memory → Outcome Memory (List SourceGiven))
      → (net.Memory → Outcome net.Memory Arguments) → Type 0
  FirstAgrees w quiet mode referred e rest rest' =
      Agrees U K w (ArgumentsMatch U K q i)
      (then (source.argument_of (context_of U oracle p f l) quiet (by_reference e) w.src) (λ g w. then (rest w) (λ gs w. gives [] (g ∷ gs) w)))
      (then (target.given (scope_of U.written c g k) net_oracle mode
      (target.reach (scope_of U.written c g k) net_oracle false (argument_exp T referred (by_reference e) (exp_of T e)) w.net))
      (λ g w. then (rest' w) (λ gs w. gives [] (g ∷ gs) w)))

  value_given : (mode : NetPassing) (names : List (List ℕ)) (b : net.Address) (w : net.Memory) → mode ≡ passing.Value
      → path_start S false names ≡ starts (at_place b) []
      → target.given S net_oracle mode (target.reach S net_oracle false (path names) w) ≡ gives [] (by_value (net.looked_up b w)) w
  value_given mode names b w m at = given_is S net_oracle mode (path names) w m ∙ ap (λ r. then r (λ v w. gives [] (by_value v) w)) (path_read S net_oracle names b w at)

  pub variable_as_index : (w : World) (quiet : Bool) (mode : NetPassing) (referred : Bool) (e : Expr) (args : Passed) (rest : Memory → Outcome Memory (List SourceGiven))
      (rest' : net.Memory → Outcome net.Memory Arguments) → is_conversion e ≡ false → goes_as_index U.program q i (by_reference e) args ≡ true
      → (is_seen_quiet U.program q i ≡ true → ((runnable_of U).quiet q i ≡ true) × (is_inward U q ≡ true)) → quiet ≡ (runnable_of U).quiet q i
      → mode ≡ passing.Value → IsPassed uses e → MemoryMatch U w → HaveImages U K w f (scope_of U.written c g k) T uses
      → (change_nothing U.program (nodes_of_passed args) ≡ true → Agrees U (still K w) w (ArgumentsMatch U (still K w) q (suc i)) (rest w.src) (rest' w.net))
      → FirstAgrees w quiet mode referred e rest rest'
  variable_as_index w quiet mode referred (typed ty (variable v qualified)) args rest rest' converts goes known is_quiet takes passed start have more =
      let e : Expr = typed ty (variable v qualified) in
      let D : Declarations = U.program.declarations in
      let one = both_true (covers_type ty) (goes_as_index_term U.program q i (variable v qualified) args) goes in
      let two =
      both_true (is_relied_on U.program v.0 && takes_value_at U.program q i) (is_seen_quiet U.program q i && change_nothing U.program (nodes_of_passed args)) one.1 in
      let there = both_true (is_relied_on U.program v.0) (takes_value_at U.program q i) two.0 in
      let three = both_true (is_seen_quiet U.program q i) (change_nothing U.program (nodes_of_passed args)) two.1 in
      let given = scalar_given U T uses readable ty v qualified one.0 passed in
      let used = scalar_used uses ty v qualified (both_true (is_passable uses e) (covers_expr uses e) given).1 in
      let r : IsReadable U v.0 = readable.scalars v used.0 in
      let there_is : IsKnown U v.0 = known_scalar U v.0 r in
      let facts = known three.0 in
      let source_goes = λ (z : Outcome Memory SourceGiven). then z (λ g w. then (rest w) (λ gs w. gives [] (g ∷ gs) w)) in
      let target_goes = λ (z : Outcome net.Memory (Given net_value.Value net.Address)). then z (λ g w. then (rest' w) (λ gs w. gives [] (g ∷ gs) w)) in
      let written : argument_exp T referred (by_reference e) (exp_of T e) ≡ path (variable_path T qualified v.0) =
      reference_is T referred ty v qualified (exp_of T e)
      ∙ known_exp T ty v qualified there_is.variable (ap (λ E. slice_get E.vars v.0) same_declarations ∙ there_is.is_variable) there_is.plain in
      subst (λ z. Agrees U K w (ArgumentsMatch U K q i) (source_goes z)
      (target_goes (target.given S net_oracle mode (target.reach S net_oracle false (argument_exp T referred (by_reference e) (exp_of T e)) w.net))))
      (sym (source_given C quiet ty v qualified (variable_address D f v.0) (auto_class (slice_get D.vars v.0))
      (known_none D.vars v.0 there_is.variable there_is.is_variable there_is.plain) w.src))
      (subst (λ z. Agrees U K w (ArgumentsMatch U K q i) (source_goes (some_of (variable_address D f v.0) (source.given_address quiet) w.src))
      (target_goes (target.given S net_oracle mode (target.reach S net_oracle false z w.net)))) (sym written)
      (subst (λ t. Agrees U K w (ArgumentsMatch U K q i) (source_goes (some_of (variable_address D f v.0) (source.given_address t) w.src))
      (target_goes (target.given S net_oracle mode (target.reach S net_oracle false (path (variable_path T qualified v.0)) w.net)))) (sym (is_quiet ∙ facts.0))
      (by (variable_address D f v.0) refl r used (passed_exact U T uses readable ty v qualified passed) there.0 there.1 facts (more three.1))))
    where
      by : (o : Option Address) → variable_address U.program.declarations f v.0 ≡ o → IsReadable U v.0
          → (uses.scalar v ≡ true) × (uses.named v qualified ≡ true) → is_mirrored U v.0 ≡ false → is_relied_on U.program v.0 ≡ true → TakesValue U q i
          → ((runnable_of U).quiet q i ≡ true) × (is_inward U q ≡ true)
          → Agrees U (still K w) w (ArgumentsMatch U (still K w) q (suc i)) (rest w.src) (rest' w.net)
          → Agrees U K w (ArgumentsMatch U K q i) (then (some_of o (source.given_address true) w.src) (λ g w. then (rest w) (λ gs w. gives [] (g ∷ gs) w)))
          (then (target.given (scope_of U.written c g k) net_oracle mode
          (target.reach (scope_of U.written c g k) net_oracle false (path (variable_path T qualified v.0)) w.net))
          (λ g w. then (rest' w) (λ gs w. gives [] (g ∷ gs) w)))
      by None at r used loud relied value facts more =
          agrees_outside U K w (ArgumentsMatch U K q i)
          (then (target.given (scope_of U.written c g k) net_oracle mode
          (target.reach (scope_of U.written c g k) net_oracle false (path (variable_path T qualified v.0)) w.net))
          (λ g w. then (rest' w) (λ gs w. gives [] (g ∷ gs) w)))
      by (Some a) at r used loud relied value facts more =
          let x : HasImage U K w (scope_of U.written c g k) T (uses.named v) v.0 a = have v a (inl used.0) at in
          let y : IsImage U K w v.0 a x.address = x.image loud in
          subst (λ z. Agrees U K w (ArgumentsMatch U K q i)
          (then (source.given_address true a w.src) (λ g w. then (rest w) (λ gs w. gives [] (g ∷ gs) w)))
          (then z (λ g w. then (rest' w) (λ gs w. gives [] (g ∷ gs) w))))
          (sym (value_given mode (variable_path T qualified v.0) x.address w.net takes (x.found qualified used.1)))
          (given_as_index w a (net.looked_up x.address w.net) rest rest' start
          (index_is w v.0 r a x.address (x.whole relied) start y facts.0 facts.1 value (y.plain (not_auto U v.0 (known_scalar U v.0 r))) (readable_type U v.0 r))
          more)
  variable_as_index w quiet mode referred (typed ty (convert to e)) args rest rest' converts goes known is_quiet takes passed start have more =
      absurd (true≢false converts)
  variable_as_index w quiet mode referred (typed ty t) args rest rest' converts goes known is_quiet takes passed start have more =
      absurd (true≢false (sym (both_true (covers_type ty) (goes_as_index_term U.program q i t args) goes).1))
