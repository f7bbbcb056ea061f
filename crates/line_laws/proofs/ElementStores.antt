-- An assignment to an element of an array does the same as what is written for it.
use Rattle.std.proofs.Common.{◌≡◌, ◌∙◌, ◌⊎◌, inl, inr, ⊎_elim, refl, sym, ap, subst, ℕ, ℤ, Bool, true, false, ◌&&◌, ◌||◌, Some, List, [], ◌∷◌, codes, ◌++◌, true≢false}
use Rattle.vb_tree.specs.BoundTree as types
use Rattle.vb_tree.specs.BoundTree.{Ty}
use Rattle.vb_tree.specs.declared.value.Value6.{Value6}
use Rattle.bound_tree.specs.Tree.{Expr, typed, element, Exprs}
use Rattle.bound_facts.proofs.Chains.{both_true}
use Rattle.bound_facts.specs.Node.{type_at}
use Rattle.bound_facts.specs.Nodes.{nodes, nodes_of_all}
use Rattle.net_tree.specs.Tree as net
use Rattle.net_tree.specs.Types.{TypeName}
use Rattle.net_meaning.specs.declared.value.ValueN.TheVariants as n
use Rattle.run_base.specs.Frames.{by_value}
use Rattle.run_base.specs.Outcomes.{Outcome, after, gives, some_of, then}
use Rattle.run_base.specs.Positions.{Position}
use Rattle.written_trees.specs.Conversions.{support_call, two}
use Rattle.written_trees.specs.Exprs.{exp_of}
use Rattle.written_trees.specs.Names.{Scope}
use Rattle.vb6_run.specs.Arrays.{with_held_array}
use Rattle.vb6_run.specs.Expressions as source
use Rattle.vb6_run.specs.Expressions.{element_parts, lows_at}
use Rattle.vb6_run.specs.Forms.{SourceLine}
use Rattle.vb6_run.specs.Lines.{let_to}
use Rattle.vb6_run.specs.Runnables.{variable_address}
use Rattle.vb6_run.specs.Shapes as source_shape
use Rattle.vb6_run.specs.Shapes.{simple}
use Rattle.vb6_run.specs.Store.{Address, Memory, provided, root, table, SourceCalls, SourceFrame}
use Rattle.vb6_run.specs.Values.{Dimension, Value, Values, scalar}
use Rattle.net_run.specs.Calls.{value_put}
use Rattle.net_run.specs.Expressions as target
use Rattle.net_run.specs.Expressions.{given_by, reach, referred_parts}
use Rattle.net_run.specs.Lines.{NetFrame, NetLine, scope_of, assigned, assignment}
use Rattle.net_run.specs.Making.{Jobs}
use Rattle.net_run.specs.Members.{Code}
use Rattle.net_run.specs.Names as net_names
use Rattle.net_run.specs.Shapes as shape
use Rattle.net_run.specs.Store as net_store
use Rattle.net_run.specs.Values as net_value
use Rattle.row_laws.proofs.Composing.{then_assoc, then_gives}
use Rattle.run_matches.specs.Agreeing.{Agrees, world_of}
use Rattle.run_matches.specs.Addresses.{IsPlain}
use Rattle.run_matches.specs.CoveredVariables.{covers_type}
use Rattle.run_matches.specs.CoveredExprs.{Uses, are_calm, are_still, covers_array, covers_expr, covers_exprs, is_calm, is_literal_value}
use Rattle.run_matches.specs.Formed.{are_formed, are_longs, has_elements, is_formed, types_of}
use Rattle.run_matches.specs.Frames.{FrameMatch, IsOwnAddress, OwnsAll}
use Rattle.run_matches.specs.Likeness.{LikeV, SameShape, same_class, same_scalar, scalar_word}
use Rattle.run_matches.specs.Maps.{Map, World, is_auto_root}
use Rattle.run_matches.specs.Match.{MemoryMatch}
use Rattle.run_matches.specs.Pledges.{IsOld, Later, Pledge, still}
use Rattle.run_matches.specs.Runs.{CallsAgree}
use Rattle.run_matches.specs.Upgrades.{Upgrade}
use Rattle.run_statements.specs.Frames.{AllCalled, AnyUnits, AreReadable, ArePlaced, ElementMatch, ElementsAgree, ExpressionsAgree, IsKnown, IsOpen, IsPlaced, ScalarMatch, context_of, demands}
use Rattle.run_statements.specs.Elements.{IndexedMatch, IndexesAgree, takes}
use Rattle.run_statements.specs.Memory.{ElementsAreWritten}
use Rattle.run_statements.specs.Written.{Passes}
use Rattle.agreeing_laws.proofs.Agreeing.{agrees_gives, agrees_later, agrees_outside, agrees_weaker, agrees_yields, left_alone, right_alone, then_agrees}
use Rattle.agreeing_laws.proofs.Lasting.{later_now, later_then}
use Rattle.agreeing_laws.proofs.Scalars.{scalar_later}
use Rattle.agreeing_laws.specs.Promises.{Yields}
use Rattle.line_laws.specs.Lasting.{GoOnMatching}
use Rattle.line_laws.proofs.Bounds.{some_is}
use Rattle.line_laws.proofs.EitherOrder.{parts_first, value_first}
use Rattle.line_laws.proofs.Elements.{ArrayVariable, IsElementIn, array_variable, element_array, element_in, let_is, indexed, known_found, own_element, parts_are, parts_by, spelt, stored_by}
use Rattle.line_laws.proofs.Calm.{IsConstant, calm_still, literal_is_constant, literal_still, scalar_part}
use Rattle.line_laws.proofs.Orders.{element_stays, indexed_stays, stable_behind, stable_later}
use Rattle.line_laws.proofs.Standing.{Stable, calm_known, indexes_known, longs_are, known_plain, known_there}
use Rattle.line_laws.proofs.Still.{frame_still}
use Rattle.agreeing_laws.proofs.StillCalls.{called_in_still, called_in_still_all}
use Rattle.agreeing_laws.proofs.PlainUses.{no_auto_use}
use Rattle.line_laws.proofs.Puts.{PutOf, put_is, put_stores}
use Rattle.line_laws.proofs.OwnTargets.{IsOwnTarget, target_changes}
use Rattle.line_laws.proofs.Prints.{AnyAddress}

-- ---- shapes

some_word : (a b : TypeName) → Some a ≡ Some b → a ≡ b
some_word a b e = some_is a b e

-- an element of a scalar type has the shape of its word
scalar_shape : (U : Upgrade) (ty : Ty) (word : TypeName) (d : shape.Shape) → covers_type ty ≡ true → scalar_word ty ≡ Some word → SameShape U (simple ty) d
    → d ≡ shape.scalar word
scalar_shape U _ word _ c e (same_scalar ty t i) = ap shape.scalar (some_word t word (sym i ∙ e))
scalar_shape U _ word _ c e (same_class k home i) = absurd (true≢false (sym c))

pub either_true : (a b : Bool) → (a || b) ≡ true → (a ≡ true) ⊎ (b ≡ true)
either_true true b h = inl refl
either_true false b h = inr h

-- ---- stores

module _ (U : Upgrade) (expressions : ExpressionsAgree U) (elements : ElementsAgree U) (indexes_agree : IndexesAgree U) (writes : ElementsAreWritten U) (K : Pledge) (p : ℕ) (f : SourceFrame)
    (g : NetFrame) (l : SourceLine) (k : NetLine) (c : Code) (T : Scope) (declared : T.declarations ≡ U.program.declarations) (oracle : SourceCalls)
    (net_oracle : Jobs) (is_open : IsOpen (scope_of U.written c g k)) (uses : Uses) (readable : AreReadable U T uses)
    (placed : ArePlaced U p f (scope_of U.written c g k) T uses) (agree : CallsAgree U (Passes U) oracle net_oracle)
    (ty : Ty) (a : Expr) (indexes : Exprs) (e : Expr) (is_covered : covers_type ty ≡ true) (array : covers_array uses a ≡ true)
    (all_indexes : covers_exprs uses indexes ≡ true) (formed : is_formed (typed ty (element a indexes)) ≡ true)
    (can : AllCalled (demands U K p l k (scope_of U.written c g k) T) (typed ty (element a indexes))) where
  abbrev C : source.Context
  C = context_of U oracle p f l

  abbrev S : net_names.Scope
  S = scope_of U.written c g k

  abbrev to : Expr
  to = typed ty (element a indexes)

  -- an element of an array that may be changed
  abbrev OwnElement : World → source.Parts → net_names.Reached → Type 0
  OwnElement w x r = (m : ElementMatch U ty w x r) × (K.steady → IsOld K m.position.root → ⊥)

  -- of one that no use of it makes
  abbrev PlainElement : World → source.Parts → net_names.Reached → Type 0
  PlainElement w x r = (o : OwnElement w x r) × (is_auto_root U w.map o.0.position.root ≡ false)

  -- the array may change
  abbrev StoresOwn : Type 0
  StoresOwn = IsOwnTarget U K p f a

  abbrev variable : ArrayVariable uses a
  variable = array_variable uses a array

  known : IsKnown U variable.number.0
  known = (readable.arrays variable.number variable.of variable.used).known

  place : IsPlaced U p f S T variable.number.0
  place = placed.places variable.number (inr (inl (variable.of, variable.used)))

  array_changes : (w : World) → FrameMatch U K w p f g → OwnsAll U K p f → StoresOwn → K.steady → (b : Address)
      → variable_address U.program.declarations f variable.number.0 ≡ Some b → IsOwnAddress K b
  array_changes w F owns own steady b found =
      target_changes U K w p f g F owns S T variable.number.0 known place (subst (λ d. IsOwnTarget U K p f d) variable.is own steady) b found

  in_array : (s : Memory) → Yields (IsElementIn U f variable.number.0) (source.term_parts C ty (element a indexes) s)
  in_array s =
      subst (λ b. Yields (IsElementIn U f variable.number.0) (source.term_parts C ty (element b indexes) s)) (sym variable.is)
      (element_in U C refl ty (types.array variable.of variable.rank) variable.number variable.qualified known indexes s)

  element_is : (w : World) → MemoryMatch U w → GoOnMatching U K p f g w → OwnsAll U K p f → StoresOwn
      → Agrees U K w PlainElement (source.term_parts C ty (element a indexes) w.src) (reach S net_oracle false (exp_of T to) w.net)
  element_is w h G owns inward =
      agrees_weaker U K w (λ u x r. ElementMatch U ty u x r × IsElementIn U f variable.number.0 x u.src) PlainElement
      (source.term_parts C ty (element a indexes) w.src) (reach S net_oracle false (exp_of T to) w.net)
      (λ u x r later y.
      let d : source_shape.Shape = source_shape.array (simple ty) y.0.bounds in (
        (y.0, λ steady. own_element U K f variable.number.0 (array_changes w (G w (later_now U K w h)) owns inward steady) x u.src y.1 y.0.position d y.0.indexes y.0.stands),
        subst (λ b. IsPlain U u b) (element_array y.1.0 x y.0.position d y.0.indexes y.1.2 y.0.stands)
            (known_plain U K u p f g k c T declared (G u later) variable.number.0 known place y.1.0 y.1.1) y.0.position refl,
      ))
      (agrees_yields U K w (ElementMatch U ty) (IsElementIn U f variable.number.0) (source.term_parts C ty (element a indexes) w.src)
      (reach S net_oracle false (exp_of T to) w.net) (in_array w.src)
      (elements K w p f g oracle net_oracle l k c T uses ty a indexes h (G w (later_now U K w h)) declared is_open readable placed agree can array all_indexes formed))

  -- a value behind the parts of the element, on both sides
  written : (w : World) → MemoryMatch U w → (x : source.Parts) (r : net_names.Reached) → OwnElement w x r → (z : Value6) (y : net_value.Value)
      → LikeV U w (scalar ty z) y → Agrees U K w AnyUnits (stored_by C ty a indexes z x w.src) (assigned S net_oracle r y w.net)
  written w h x r o z y like =
      subst (λ q. Agrees U K w AnyUnits (stored_by C ty a indexes z x w.src) (assigned S net_oracle q y w.net)) (sym o.0.net_stands)
      (writes K w f.env ty x (net_names.at_element o.0.written (net_value.single (n.Array o.0.array)) o.0.net_indexes) z y is_covered h (spelt U ty w x r o.0) o.1 like)

  abbrev Stored : World → Outcome Memory Unit
  Stored w = then (source.value_of C e w.src) (let_to C to)

  -- ---- by a Put function

  module _ (put : PutOf ty) where
    abbrev called : net.Exp
    called = support_call (codes "Put" ++ put.name) (two (exp_of T e) (exp_of T to))

    abbrev put_by : net_value.Value → net_store.Address → net_store.Memory → Outcome net_store.Memory net_store.Address
    put_by y b t = value_put put.of (by_value y ∷ given_by b ∷ []) t

    abbrev put_at : net_value.Value → net_names.Reached → net_store.Memory → Outcome net_store.Memory net_store.Address
    put_at y r t = then (referred_parts S net_oracle r t) (λ q t. then (target.finished q t) (put_by y))

    put_written : (w : World) → MemoryMatch U w → (x : source.Parts) (r : net_names.Reached) → OwnElement w x r → (z : Value6) (y : net_value.Value)
        → LikeV U w (scalar ty z) y → Agrees U K w AnyAddress (stored_by C ty a indexes z x w.src) (put_at y r w.net)
    put_written w h x r o z y like =
        let d : shape.Shape = o.0.written in
        let q : net_names.Parts = net_names.at_element d (net_value.single (n.Array o.0.array)) o.0.net_indexes in
        let stores : Outcome Memory Unit = stored_by C ty a indexes z x w.src in
        let net_stores : Outcome net_store.Memory Unit = then (target.finished q w.net) (λ b t. net_store.written b y t) in
        subst (λ i. Agrees U K w AnyAddress stores (put_at y i w.net)) (sym o.0.net_stands)
        (right_alone U K w AnyAddress stores (then (target.finished q w.net) (put_by y))
        (subst (λ i. Agrees U K w AnyAddress stores i)
        (sym (put_stores put.of d o.0.array o.0.net_indexes y w.net
        (ap (λ i. shape.is_same_shape i (shape.scalar put.of)) (scalar_shape U ty put.of d is_covered put.is_word o.0.same) ∙ put.alike)))
        (subst (λ i. Agrees U K w AnyAddress i (then net_stores (λ u t. gives [] net_store.nowhere t))) (then_gives stores)
        (then_agrees U K w AnyUnits AnyAddress stores net_stores (λ u s. gives [] u s) (λ u t. gives [] net_store.nowhere t) h
        (writes K w f.env ty x q z y is_covered h (spelt U ty w x r o.0) o.1 like)
        (λ u i w1 m later. agrees_gives U K w1 AnyAddress u net_store.nowhere later.match tt)))))

    -- the element, whose index is checked at once
    abbrev element_given : net_store.Memory → Outcome net_store.Memory net_store.Address
    element_given t = then (then (reach S net_oracle false (exp_of T to) t) (referred_parts S net_oracle)) target.finished

    given_is : (y : net_value.Value) (t : net_store.Memory) → then (element_given t) (put_by y) ≡ then (reach S net_oracle false (exp_of T to) t) (put_at y)
    given_is y t =
        then_assoc (then (reach S net_oracle false (exp_of T to) t) (referred_parts S net_oracle)) target.finished (put_by y)
        ∙ then_assoc (reach S net_oracle false (exp_of T to) t) (referred_parts S net_oracle) (λ q t. then (target.finished q t) (put_by y))

    pub put_agrees : (w : World) → MemoryMatch U w → GoOnMatching U K p f g w → OwnsAll U K p f → StoresOwn
        → AllCalled (demands U K p l k (scope_of U.written c g k) T) e → covers_expr uses e ≡ true → is_formed e ≡ true → type_at e ≡ ty
        → Agrees U K w AnyAddress (Stored w) (target.address_of S net_oracle called w.net)
    put_agrees w h G owns inward can_value covers formed_value same =
        subst (λ i. Agrees U K w AnyAddress (Stored w) i)
        (sym (put_is S net_oracle is_open.support (codes "Put" ++ put.name) put.of put.does (exp_of T e) (exp_of T to) w.net))
        (then_agrees U K w (ScalarMatch U (type_at e)) AnyAddress (source.value_of C e w.src) (target.value_of S net_oracle (exp_of T e) w.net) (let_to C to)
        (λ y t. then (element_given t) (put_by y)) h
        (expressions K w p f g oracle net_oracle l k c T uses e h (G w (later_now U K w h)) declared is_open readable placed agree can_value covers formed_value)
        (λ x y w1 m later.
        subst (λ i. Agrees U K w1 AnyAddress (let_to C to i w1.src) (then (element_given w1.net) (put_by y))) (sym (m.1 ∙ ap (λ t. scalar t m.0) same))
        (subst (λ i. Agrees U K w1 AnyAddress i (then (element_given w1.net) (put_by y))) (sym (let_is C ty a indexes m.0 w1.src))
        (subst (λ i. Agrees U K w1 AnyAddress (then (source.term_parts C ty (element a indexes) w1.src) (stored_by C ty a indexes m.0)) i)
        (sym (given_is y w1.net))
        (then_agrees U K w1 PlainElement AnyAddress (source.term_parts C ty (element a indexes) w1.src) (reach S net_oracle false (exp_of T to) w1.net)
        (stored_by C ty a indexes m.0) (put_at y) later.match (element_is w1 later.match (λ u more. G u (later_then U K w w1 u h later more)) owns inward)
        (λ x r w2 o more.
        put_written w2 more.match x r o.0 m.0 y
        (scalar_later U K w1 w2 ty m.0 y more (subst (λ t. LikeV U w1 (scalar t m.0) y) same m.2))))))))

  -- ---- the value is known, and the same behind the indexes

  abbrev SteadyValue : World → World → Value → net_value.Value → Type 0
  SteadyValue w u x y = ScalarMatch U ty u x y × Later U (still K w) w u

  -- the value is the same z now and behind the parts
  steady_value : (w : World) → MemoryMatch U w → (z : Value6) (X : World → Type 0) → source.value_of C e w.src ≡ gives [] (scalar ty z) w.src
      → ((u : World) → X u → source.value_of C e u.src ≡ gives [] (scalar ty z) u.src)
      → Agrees U K w (λ u x r. PlainElement u x r × X u) (source.term_parts C ty (element a indexes) w.src) (reach S net_oracle false (exp_of T to) w.net)
      → ((u : World) → Later U K w u → Agrees U K u (SteadyValue u) (source.value_of C e u.src) (target.value_of S net_oracle (exp_of T e) u.net))
      → Agrees U K w AnyUnits (Stored w) (assignment S net_oracle (exp_of T to) (exp_of T e) w.net)
  steady_value w h z X now later parts value =
      value_first U K w h source.Parts (source.value_of C e) (target.value_of S net_oracle (exp_of T e)) (source.term_parts C ty (element a indexes))
      (reach S net_oracle false (exp_of T to)) (let_to C to) (assigned S net_oracle) PlainElement SteadyValue value (scalar ty z) (stored_by C ty a indexes z) now
      (let_is C ty a indexes z)
      (agrees_weaker U K w (λ u x r. PlainElement u x r × X u) (λ u x r. PlainElement u x r × (source.value_of C e u.src ≡ gives [] (scalar ty z) u.src))
      (source.term_parts C ty (element a indexes) w.src) (reach S net_oracle false (exp_of T to) w.net) (λ u x r lat m. (m.0, later u m.1)) parts)
      (λ u v x r y m more val. written v more.match x r (element_stays U K u v val.1 ty x r m.0.0 m.1, m.0.1) z y (like_as v y val.0))
    where
      like_as : (u : World) (y : net_value.Value) → ScalarMatch U ty u (scalar ty z) y → LikeV U u (scalar ty z) y
      like_as u y m = subst (λ (x : Value6). LikeV U u (scalar ty x) y) (sym (ap (λ x. scalar_part x z) m.1)) m.2

  -- ---- the parts are known, and the same behind the value

  abbrev at_parts : Value6 → Outcome Memory source.Parts → Outcome Memory Unit
  at_parts z r = then (after [] r) (stored_by C ty a indexes z)

  parts_at : (d : source_shape.Shape) (q : Position) (zs : List ℤ) (s : Memory) (of : source_shape.Shape) (dims : List Dimension) (xs : Values)
      → s.held q ≡ table of dims xs
      → element_parts C a (root d q) zs s ≡ provided (takes (lows_at C a) dims zs) (λ w. gives [] (source.at_element (root d q) zs) w) s
  parts_at d q zs s of dims xs is =
      ap (λ i. with_held_array i (λ o ds ys w. provided (takes (lows_at C a) ds zs) (λ w. gives [] (source.at_element (root d q) zs) w) w) s) is

  -- the source takes the indexes, or is outside
  from_test : (u : World) → MemoryMatch U u → (d : source_shape.Shape) (q : Position) (zs : List ℤ) (r : net_names.Reached) (z : Value6) (y : net_value.Value)
      → (b : Bool) → (b ≡ true → OwnElement u (source.at_element (root d q) zs) r) → LikeV U u (scalar ty z) y
      → Agrees U K u AnyUnits (at_parts z (provided b (λ w. gives [] (source.at_element (root d q) zs) w) u.src)) (assigned S net_oracle r y u.net)
  from_test u h d q zs r z y true o like =
      left_alone U K u AnyUnits (stored_by C ty a indexes z (source.at_element (root d q) zs) u.src) (assigned S net_oracle r y u.net)
      (written u h (source.at_element (root d q) zs) r (o refl) z y like)
  from_test u h d q zs r z y false o like = agrees_outside U K u AnyUnits (assigned S net_oracle r y u.net)

  from_parts : (u : World) → MemoryMatch U u → (x : Address × List ℤ) (r : net_names.Reached) (z : Value6) (y : net_value.Value)
      → IndexedMatch U (lows_at C a) ty u x r → (K.steady → (q : Position) (d : source_shape.Shape) → x.0 ≡ root d q → IsOld K q.root → ⊥)
      → LikeV U u (scalar ty z) y → Agrees U K u AnyUnits (at_parts z (element_parts C a x.0 x.1 u.src)) (assigned S net_oracle r y u.net)
  from_parts u h x r z y m own like =
      let d : source_shape.Shape = source_shape.array (simple ty) m.bounds in
      let b : Bool = takes (lows_at C a) m.has.dims x.1 in
      subst (λ i. Agrees U K u AnyUnits (at_parts z i) (assigned S net_oracle r y u.net))
      (sym (ap (λ i. element_parts C a i x.1 u.src) m.stands ∙ parts_at d m.position x.1 u.src (simple ty) m.has.dims m.has.values m.has.held))
      (from_test u h d m.position x.1 r z y b
      (λ e. (
        record {
          position = m.position;
          bounds = m.bounds;
          written = m.written;
          array = m.array;
          is_matched = m.is_matched;
          plain = m.plain;
          has = m.has;
          same = m.same;
          indexes = x.1;
          net_indexes = m.net_indexes;
          stands = refl;
          net_stands = m.net_stands;
          same_indexes = m.same_indexes e;
          counted = m.counted;
        },
        λ steady. own steady m.position d m.stands,
      )) like)

  steady_parts : (w : World) → MemoryMatch U w → (x : Address × List ℤ) → indexed C ty a indexes w.src ≡ gives [] x w.src
      → ((u : World) (m : Map) (t : net_store.Memory) → Later U K w (world_of m w.src t) → Later U (still K (world_of m w.src t)) (world_of m w.src t) u
      → indexed C ty a indexes u.src ≡ gives [] x u.src)
      → Agrees U K w (IndexedMatch U (lows_at C a) ty) (indexed C ty a indexes w.src) (reach S net_oracle false (exp_of T to) w.net)
      → (K.steady → (q : Position) (d : source_shape.Shape) → x.0 ≡ root d q → IsOld K q.root → ⊥)
      → ((u : World) → Later U K w u → Agrees U K u (SteadyValue u) (source.value_of C e u.src) (target.value_of S net_oracle (exp_of T e) u.net))
      → Agrees U K w AnyUnits (Stored w) (assignment S net_oracle (exp_of T to) (exp_of T e) w.net)
  steady_parts w h x now later parts own value =
      parts_first U K w h (Address × List ℤ) (source.value_of C e) (target.value_of S net_oracle (exp_of T e)) (indexed C ty a indexes)
      (reach S net_oracle false (exp_of T to)) (let_to C to) (assigned S net_oracle) (IndexedMatch U (lows_at C a) ty) SteadyValue value x now parts
      (λ q t r v i y m lat val more.
      let z : Value6 = val.0.0 in
      let target_stores : Outcome net_store.Memory Unit = assigned S net_oracle r y v.net in
      subst (λ j. Agrees U K v AnyUnits (let_to C to j v.src) target_stores) (sym val.0.1)
      (subst (λ j. Agrees U K v AnyUnits j target_stores)
      (sym (let_is C ty a indexes z v.src
      ∙ ap (λ j. then j (stored_by C ty a indexes z)) (parts_are C ty a indexes v.src ∙ ap (λ j. then j (parts_by C ty a indexes)) (later v q t lat val.1))))
      (from_parts v more.match x r z y (indexed_stays U K (world_of q w.src t) v val.1 (lows_at C a) ty x r m) own val.0.2)))

  -- ---- the orders

  module _ (w : World) (h : MemoryMatch U w) (G : GoOnMatching U K p f g w) (owns : OwnsAll U K p f) (inward : StoresOwn)
      (can_value : AllCalled (demands U K p l k (scope_of U.written c g k) T) e) (covers : covers_expr uses e ≡ true) (formed_value : is_formed e ≡ true)
      (same : type_at e ≡ ty) where
    F : FrameMatch U K w p f g
    F = G w (later_now U K w h)

    -- a value that is still changes nothing that is there
    value_steady : are_still uses (nodes e) ≡ true → (u : World) → Later U K w u
        → Agrees U K u (SteadyValue u) (source.value_of C e u.src) (target.value_of S net_oracle (exp_of T e) u.net)
    value_steady is_still u lat =
        subst (λ t. Agrees U K u (λ z x y. ScalarMatch U t z x y × Later U (still K u) u z) (source.value_of C e u.src) (target.value_of S net_oracle (exp_of T e) u.net)) same
        (agrees_later U K (still K u) u (ScalarMatch U (type_at e)) (ScalarMatch U (type_at e)) (source.value_of C e u.src)
        (target.value_of S net_oracle (exp_of T e) u.net) (λ i x. x)
        (expressions K u p f g oracle net_oracle l k c T uses e lat.match (G u lat) declared is_open readable placed agree can_value covers formed_value)
        (expressions (still K u) u p f g oracle net_oracle l k c T uses e lat.match (frame_still U K u lat.match p f g (G u lat)) declared is_open readable placed agree
        (called_in_still U K p l k u S T uses readable e covers is_still can_value) covers formed_value))

    abbrev Goal : Type 0
    Goal = Agrees U K w AnyUnits (Stored w) (assignment S net_oracle (exp_of T to) (exp_of T e) w.net)

    -- a constant
    constant_first : is_literal_value e ≡ true → Goal
    constant_first is =
        let x : IsConstant C e = literal_is_constant C uses e is covers formed_value in
        let gives_it : (s : Memory) → source.value_of C e s ≡ gives [] (scalar ty x.value) s =
        λ s. x.gives s ∙ ap (λ t. gives [] (scalar t x.value) s) same in
        steady_value w h x.value (λ u. Unit {0}) (gives_it w.src) (λ u i. gives_it u.src)
        (agrees_weaker U K w PlainElement (λ u x r. PlainElement u x r × Unit {0}) (source.term_parts C ty (element a indexes) w.src)
        (reach S net_oracle false (exp_of T to) w.net) (λ u x r lat y. (y, tt)) (element_is w h G owns inward))
        (value_steady (literal_still uses e is))

    -- a calm value, and still indexes
    calm_first : is_calm uses e ≡ true → are_still uses (nodes_of_all indexes) ≡ true → Goal
    calm_first calm is_still =
        let x = calm_known U expressions K p f g l k c T declared oracle net_oracle is_open uses readable placed agree w h F e calm can_value covers formed_value in
        let gives_it : (s : Memory) → Stable U w s
        → source.value_of C e s ≡ gives [] (scalar ty x.value) s =
        λ s stable. x.gives s stable ∙ ap (λ t. gives [] (scalar t x.value) s) same in
        steady_value w h x.value (λ u. Later U (still K w) w u) (gives_it w.src (λ q m i j. refl)) (λ u lat. gives_it u.src (stable_later U K w u lat))
        (agrees_later U K (still K w) w PlainElement (ElementMatch U ty) (source.term_parts C ty (element a indexes) w.src)
        (reach S net_oracle false (exp_of T to) w.net) (λ i x. x) (element_is w h G owns inward)
        (elements (still K w) w p f g oracle net_oracle l k c T uses ty a indexes h (frame_still U K w h p f g F) declared is_open readable placed agree
        (can.0, called_in_still_all U K p l k w S T uses readable indexes all_indexes is_still can.1) array all_indexes formed))
        (value_steady (calm_still uses (λ v ty scalar. no_auto_use U T uses readable v ty (inl scalar)) e calm))

    -- calm indexes, and a still value
    still_first : are_calm uses indexes ≡ true → are_still uses (nodes e) ≡ true → Goal
    still_first calm is_still =
        let well = both_true (has_elements (type_at a) ty) (are_longs (types_of indexes) && are_formed indexes) formed in
        let two = both_true (are_longs (types_of indexes)) (are_formed indexes) well.1 in
        let zs = indexes_known U expressions K p f g l k c T declared oracle net_oracle is_open uses readable placed agree w h F indexes calm can.1 all_indexes
        (longs_are (types_of indexes) two.0) two.1 in
        let b = known_there U K w p f g k c T declared F variable.number.0 known place in
        let address : (s : Memory) → source.address_of C a s ≡ gives [] b.0 s =
        λ s.
        subst (λ i. source.address_of C i s ≡ gives [] b.0 s) (sym variable.is)
        (known_found U C refl (types.array variable.of variable.rank) variable.number variable.qualified known s
        ∙ ap (λ o. some_of o (λ a w. gives [] a w) s) b.1) in
        let gives_it : (s : Memory) → Stable U w s
        → indexed C ty a indexes s ≡ gives [] (b.0, zs.0) s =
        λ s stable.
        ap (λ r. then r (λ i s. then (source.indexes_of C indexes s) (λ zs s. gives [] (i, zs) s))) (address s)
        ∙ ap (λ r. after [] (then r (λ zs s. gives [] (b.0, zs) s))) (zs.1 s stable) in
        steady_parts w h (b.0, zs.0) (gives_it w.src (λ q m i j. refl))
        (λ u m t lat more. gives_it u.src (stable_behind U K w m t u lat more))
        (indexes_agree K w p f g oracle net_oracle l k c T uses ty a indexes h F declared is_open readable placed agree can array all_indexes formed)
        (λ steady q d is old.
        subst (λ i. IsOwnAddress K i) is
        (array_changes w F owns inward steady b.0 b.1) q refl old)
        (value_steady is_still)

    pub plain_agrees : (is_literal_value e || ((are_calm uses indexes && are_still uses (nodes e)) || (is_calm uses e && are_still uses (nodes_of_all indexes)))) ≡ true → Goal
    plain_agrees test =
        ⊎_elim constant_first
        (λ x. ⊎_elim (λ y. let both = both_true (are_calm uses indexes) (are_still uses (nodes e)) y in still_first both.0 both.1)
        (λ y. let both = both_true (is_calm uses e) (are_still uses (nodes_of_all indexes)) y in calm_first both.0 both.1)
        (either_true (are_calm uses indexes && are_still uses (nodes e)) (is_calm uses e && are_still uses (nodes_of_all indexes)) x))
        (either_true (is_literal_value e) ((are_calm uses indexes && are_still uses (nodes e)) || (is_calm uses e && are_still uses (nodes_of_all indexes))) test)
