-- A new object as a value: it is made on both sides, and then what is written for its Class_Initialize is called for it.
use Rattle.std.proofs.Common.{◌≡◌, ◌∙◌, refl, sym, ap, subst, ℕ, ◌<◌, ◌≤◌, Bool, true, false, cond, Option, Some, None, List, [], arith, eqb-true, ne_eqb, true≢false}
use Rattle.std.specs.Prelude.{is_none, nat_eq, slice_get}
use Rattle.vb_tree.specs.BoundTree as types
use Rattle.vb_tree.specs.BoundTree.{Ty}
use Rattle.vb_tree.specs.declared.declared.ClassId.{ClassId}
use Rattle.vb_tree.specs.declared.value.Value6.TheVariants as v6
use Rattle.bound_tree.specs.Tree.{Declarations, Expr, typed, new_object}
use Rattle.bound_facts.specs.Members.{class_files, class_variables, initializer, variables_from}
use Rattle.net_tree.specs.Tree as tree
use Rattle.net_tree.specs.Types.{TypeName, named}
use Rattle.net_meaning.specs.declared.value.ValueN.TheVariants as n
use Rattle.run_base.specs.Machines.{enters}
use Rattle.run_base.specs.Outcomes.{after, gives, some_of, then}
use Rattle.run_base.specs.Positions.{Root, shared, made, field}
use Rattle.vb6_run.specs.Expressions as source
use Rattle.vb6_run.specs.Expressions.{Context, Parts, declared, value_parts}
use Rattle.vb6_run.specs.Forms.{SourceLine}
use Rattle.vb6_run.specs.Objects as objects
use Rattle.vb6_run.specs.Objects.{lay_fields, with_new_object}
use Rattle.vb6_run.specs.Shapes.{simple}
use Rattle.vb6_run.specs.Store.{Memory, SourceCalls, SourceFrame, provided}
use Rattle.vb6_run.specs.Values.{Value, is_of_shape, scalar}
use Rattle.net_run.specs.Expressions as target
use Rattle.net_run.specs.Lines.{NetFrame, NetLine, scope_of}
use Rattle.net_run.specs.Making as making
use Rattle.net_run.specs.Making.{Jobs, members_made, with_object}
use Rattle.net_run.specs.Members.{Code}
use Rattle.net_run.specs.Names as net_names
use Rattle.net_run.specs.Names.{at_place}
use Rattle.net_run.specs.Shapes as shape
use Rattle.net_run.specs.Store as net
use Rattle.net_run.specs.Values as net_value
use Rattle.written_trees.specs.Exprs.{exp_of}
use Rattle.written_trees.specs.Names.{Scope, class_path}
use Rattle.run_matches.specs.Agreeing.{Agrees, ResultMatch}
use Rattle.run_matches.specs.CoveredExprs.{Uses, covers_group, is_class_of}
use Rattle.run_matches.specs.CoveredVariables.{covers_made}
use Rattle.run_matches.specs.Maps.{IsMade, Mark, World, mark}
use Rattle.run_matches.specs.Match.{MemoryMatch}
use Rattle.run_matches.specs.Pledges.{Later, Pledge, is_inward, is_own, is_self_made, is_that_object}
use Rattle.run_matches.specs.Runs.{CallsAgree, call_pledge, own_in_call}
use Rattle.run_matches.specs.Upgrades.{Upgrade}
use Rattle.run_statements.specs.Frames.{AnyUnits, AreReadable, CanInitialize, CanMake, Initializes, context_of, type_shape, written_initialized}
use Rattle.run_statements.specs.Groups.{ValueMatch}
use Rattle.run_statements.specs.Objects.{ClassesAreWritten, IsMakeable, MadeObject, ObjectMade}
use Rattle.run_statements.specs.Written.{Passes}
use Rattle.row_laws.proofs.Composing.{then_assoc, then_gives}
use Rattle.row_laws.proofs.Values.{value_behind}
use Rattle.agreeing_laws.specs.Promises.{Weaker}
use Rattle.agreeing_laws.proofs.Agreeing.{agrees_gives, agrees_promised, left_alone, then_agrees}
use Rattle.agreeing_laws.proofs.Made.{below_self}
use Rattle.agreeing_laws.proofs.Moves.{locks_promised}
use Rattle.agreeing_laws.proofs.Scalars.{scalar_later}
use Rattle.memory_laws.proofs.Objects.{objects_are_made}
use Rattle.run_statements.specs.Arguments.{no_arguments}
use Rattle.expression_laws.specs.Calls.{Stands}
use Rattle.expression_laws.proofs.Arguments.{arguments_ok, loose_in_none, stands_later, callee_lasts}
use Rattle.expression_laws.proofs.Checks.{provided_agrees, source_then}
use Rattle.expression_laws.proofs.Entered.{object_stands}
use Rattle.expression_laws.proofs.Types.{both_true}

-- ---- what a Class_Initialize promises

older : (k b o : ℕ) → k < b → b ≤ o → o ≡ k → ⊥
older k b o lt le e = omega arith

not_that : (a b : Bool) (o k : ℕ) → nat_eq o k ≡ false → is_that_object (cond a None (cond b (Some o) None)) k ≡ false
not_that true b o k e = refl
not_that false true o k e = e
not_that false false o k e = refl

-- what was made at a mark that lies before the object isn't its own
new_foreign : (U : Upgrade) (q : ℕ) (a : Mark) (o : ℕ) → a.objects ≤ o → (r : Root) → IsMade a r → is_own (own_in_call U q (Some o)) r ≡ false
new_foreign U q a o low (shared k) m = refl
new_foreign U q a o low (made k) m = refl
new_foreign U q a o low (field k key) m = not_that (is_inward U q) (is_self_made U q) o k (ne_eqb o k (older k a.objects o m low))

initializer_is_weaker : (U : Upgrade) (K : Pledge) (class q : ℕ) (w : World) (o : ℕ) → CanInitialize U K class q → K.base.objects ≤ o
    → Weaker w K (call_pledge U q (mark w.src) (Some o) [] [])
initializer_is_weaker U K class q w o can low = record {
  keeps = can.keeps;
  steady = can.steady;
  old = λ r m s old. record { is_made = m; foreign = new_foreign U q K.base o low r old.is_made };
  takes = λ k lt x. loose_in_none [] k refl x;
}

-- ---- what is covered

new_class : (c : ℕ) (ty : Ty) → is_class_of (Some c) ty ≡ true → ty ≡ types.class c
new_class c (types.class d) h = ap types.class (eqb-true d c h)
new_class c _ h = absurd (true≢false (sym h))

-- ---- what is written

-- a new object of a class, by the name that leads to it
new_gives : (S : net_names.Scope) (oracle : Jobs) (ty : TypeName) (home : ℕ) → shape.shape_of S.project S.home ty ≡ shape.class home → (w : net.Memory)
    → target.value_of S oracle (tree.new_object ty tree.no_exps) w ≡ making.created S.project oracle home w
new_gives S oracle ty home leads w =
    let r = making.created S.project oracle home w in
    let f = λ (y : net_value.Value) (w : net.Memory). gives [] (net.constant (shape.class home) y) w in
    let at = λ (a : net.Address) (w : net.Memory). gives [] (at_place a) w in
    ap (λ s. target.value_from S oracle (target.as_reached (target.object_new S oracle s w))) leads
    ∙ ap (target.value_from S oracle) (then_assoc r f at)
    ∙ value_behind S oracle r (λ y w. then (f y w) at)
    ∙ then_gives r

module _ (U : Upgrade) (K : Pledge) (p : ℕ) (f : SourceFrame) (g : NetFrame) (oracle : SourceCalls) (net_oracle : Jobs) (l : SourceLine) (k : NetLine)
    (c : Code) (T : Scope) (agree : CallsAgree U (Passes U) oracle net_oracle) (w : World)
    (start : MemoryMatch U w) (stands : Stands U K w p f g) where
  abbrev C : Context
  C = context_of U oracle p f l

  abbrev S : net_names.Scope
  S = scope_of U.written c g k

  abbrev D : Declarations
  D = U.program.declarations

  -- ---- an object of a class

  module _ (class : ℕ) (m : IsMakeable U class) (can : CanMake U K (scope_of U.written c g k) T class) where
    -- the objects of both sides
    abbrev o : ℕ
    o = w.src.next_object

    abbrev o' : ℕ
    o' = w.net.next_object

    abbrev x : Value
    x = scalar (types.class class) (v6.Object o)

    abbrev y : net_value.Value
    y = net_value.single (n.Object o')

    abbrev R : World → Value → net_value.Value → Type 0
    R = ValueMatch U (simple (types.class class))

    initialized_agrees : (i : Option ℕ) → Initializes U K class m.home i → (v : World) → Later U K w v → ObjectMade U w class v
        → Agrees U K v AnyUnits (objects.initialized oracle f.env o i v.src) (written_initialized U m.home net_oracle o' v.net)
    initialized_agrees None calls v later is =
        subst (λ z. Agrees U K v AnyUnits (gives [] tt v.src) z) (sym (calls net_oracle o' v.net)) (agrees_gives U K v AnyUnits tt tt later.match tt)
    initialized_agrees (Some q) calls v later is =
        let L : Pledge = call_pledge U q (mark v.src) (Some o) [] [] in
        let weaker : Weaker v K L = initializer_is_weaker U K class q v o calls.0 stands.low.objects in
        let r = oracle (enters q (Some o) f.env []) v.src in
        let r' = λ (j : ℕ). net_oracle (enters calls.0.number (Some j) tt []) v.net in
        subst (λ z. Agrees U K v AnyUnits (then r (λ x s. gives [] tt s)) z) (sym (calls.1 net_oracle o' v.net))
        (then_agrees U K v (ResultMatch U) AnyUnits r (r' o') (λ x s. gives [] tt s) (λ x s. gives [] tt s) later.match
        (agrees_promised U K L v (ResultMatch U) r (r' o') later.match weaker
        (subst (λ j. Agrees U L v (ResultMatch U) r (r' j)) is.goes
        (agree q calls.0.number (Some o) (mark v.src) f.env [] [] v calls.0.passes calls.0.is_number (below_self (mark v.src)) is.is_made
        (object_stands U v q class o calls.0.stands is.is_made is.is_class)
        (locks_promised U K L v v f.env weaker (stands_later U K w v p f g later stands).locks)
        (arguments_ok U K L v q [] [] weaker (callee_lasts U q v (Some o) [] []) (no_arguments 0 v)) later.match)))
        (λ x r u m behind. agrees_gives U K u AnyUnits tt tt behind.match tt))

    created_is : objects.created D oracle f.env class w.src ≡ objects.created_as D oracle f.env class o (variables_from m.file 0 D.vars) w.src
    created_is =
        let go = λ (xs : List ℕ) (s : Memory). objects.created_as D oracle f.env class s.next_object xs s in
        ap (λ t. provided (is_none t) (some_of (class_variables D (slice_get (class_files D.project) class)) go) w.src) m.no_terminator
        ∙ ap (λ file. some_of (class_variables D file) go w.src) m.is_file

    pub created_agrees : Agrees U K w (ValueMatch U (simple (types.class class))) (objects.created U.program.declarations oracle f.env class w.src)
        (making.created U.written net_oracle m.home w.net)
    created_agrees =
        subst (λ z. Agrees U K w R z (making.created U.written net_oracle m.home w.net)) (sym created_is)
        (then_agrees U K w (MadeObject U w class) R (lay_fields D o (variables_from m.file 0 D.vars) (with_new_object class o w.src))
        (members_made U.written (field o') m.home 0 (shape.members_of (shape.module_at U.written m.home)) (with_object m.home w.net))
        (λ u s. then (objects.initialized oracle f.env o (initializer D class) s) (λ u s. gives [] x s))
        (λ u s. then (written_initialized U m.home net_oracle o' s) (λ u s. gives [] y s)) start (objects_are_made U K w class m start)
        (λ u u' v is later.
        then_agrees U K v AnyUnits R (objects.initialized oracle f.env o (initializer D class) v.src) (written_initialized U m.home net_oracle o' v.net)
        (λ u s. gives [] x s) (λ u s. gives [] y s) later.match
        (initialized_agrees (initializer D class) (can.initializes m.home m.is_home) v later is)
        (λ u u' z any behind.
        agrees_gives U K z R x y behind.match (refl, scalar_later U K v z (types.class class) (v6.Object o) y behind is.like))))

  -- ---- as a value

  module _ (class : ClassId) (m : IsMakeable U class.0) (can : CanMake U K (scope_of U.written c g k) T class.0) where
    abbrev ty : Ty
    ty = types.class class.0

    abbrev e : Expr
    e = typed (types.class class.0) (new_object class)

    abbrev Q : World → Value → net_value.Value → Type 0
    Q = ValueMatch U (simple (types.class class.0))

    -- it is checked to be of its class
    checked : (x : Value) (y : net_value.Value) (v : World) → Q v x y → MemoryMatch U v
        → Agrees U K v Q (then (value_parts x v.src) (λ q s. then (source.as_new C (new_object class) q s) (source.value_in C e))) (gives [] y v.net)
    checked x y v same match =
        let y' = gives [] y v.net in
        let is = provided (is_of_shape (source.type_shape (declared C) ty) x) (λ s. gives [] x s) v.src in
        left_alone U K v Q (after [] (after [] is)) y'
        (left_alone U K v Q (after [] is) y'
        (left_alone U K v Q is y'
        (provided_agrees U K v Q (is_of_shape (source.type_shape (declared C) ty) x) x y' (λ ok. agrees_gives U K v Q x y match same))))

    value_agrees : Agrees U K w Q (source.value_of C e w.src) (target.value_of S net_oracle (exp_of T e) w.net)
    value_agrees =
        let r = objects.created D oracle f.env class.0 w.src in
        let r' = making.created U.written net_oracle m.home w.net in
        let goes = λ (q : Parts) (s : Memory). then (source.as_new C (new_object class) q s) (source.value_in C e) in
        subst (λ z. Agrees U K w Q (source.value_of C e w.src) z)
        (sym (new_gives S net_oracle (named (class_path T.declarations class.0)) m.home (can.leads m.home m.is_home) w.net))
        (subst (λ z. Agrees U K w Q z r')
        (sym (then_assoc (then r value_parts) (source.as_new C (new_object class)) (source.value_in C e) ∙ then_assoc r value_parts goes))
        (source_then U K w Q Q r r' (λ x s. then (value_parts x s) goes) start (created_agrees class.0 m can)
        (λ x y v same later. checked x y v same later.match)))

  -- what is covered is so
  pub new_agrees : (uses : Uses) → AreReadable U T uses → ClassesAreWritten U → (ty : Ty) (class : ClassId)
      → (covers_made U.program class.0 ≡ true → CanMake U K (scope_of U.written c g k) T class.0)
      → covers_group uses (typed ty (new_object class)) ≡ true
      → Agrees U K w (ValueMatch U (type_shape U ty)) (source.value_of (context_of U oracle p f l) (typed ty (new_object class)) w.src)
      (target.value_of (scope_of U.written c g k) net_oracle (exp_of T (typed ty (new_object class))) w.net)
  new_agrees uses readable classes ty class can covers =
      let both = both_true (is_class_of (Some class.0) ty) (uses.made class.0) covers in
      let made = readable.made class.0 both.1 in
      subst
      (λ z. Agrees U K w (ValueMatch U (type_shape U z)) (source.value_of C (typed z (new_object class)) w.src)
      (target.value_of S net_oracle (exp_of T (typed z (new_object class))) w.net))
      (sym (new_class class.0 ty both.0)) (value_agrees class (classes class.0 made) (can made))
