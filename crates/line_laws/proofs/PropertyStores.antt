-- A Let or a Set of a property takes its value on both sides, whichever of its object, its indexes and the value is evaluated first.
use Rattle.std.proofs.Common.{◌≡◌, ◌∙◌, ◌⊎◌, refl, sym, ap, subst, ⊎_elim, ℕ, Bool, true, false, not, nat_eq, length, Option, Some, None, List, [], ◌∷◌, ◌++◌, slice_get, true≢false, ◌&&◌}
use Rattle.vb_tree.specs.BoundTree as types
use Rattle.vb_tree.specs.BoundTree.{Ty}
use Rattle.vb_tree.specs.declared.declared.ProcId.{ProcId}
use Rattle.vb_tree.specs.declared.declared.ProcKind.{ProcKind}
use Rattle.vb_tree.specs.declared.declared.ProcKind.TheVariants as kind
use Rattle.vb_tree.specs.declared.value.Value6.{Value6}
use Rattle.bound_tree.specs.Tree.{Procedure, Declarations, Expr, typed, call, Object, no_object, Passed, no_passed}
use Rattle.bound_facts.proofs.Chains.{both_true}
use Rattle.bound_facts.specs.Node.{type_at}
use Rattle.net_tree.specs.Tree as net
use Rattle.run_base.specs.Frames.{by_value}
use Rattle.run_base.specs.Outcomes.{Outcome, after, gives, then}
use Rattle.written_trees.specs.Arguments.{is_property, is_property_at, is_property_kind}
use Rattle.written_trees.specs.Exprs.{exp_of, is_bare}
use Rattle.written_trees.specs.Heads.{index_params}
use Rattle.written_trees.specs.Names.{Scope}
use Rattle.written_trees.specs.Puts.{last_of}
use Rattle.vb6_run.specs.Expressions as source
use Rattle.vb6_run.specs.Expressions.{Receiver, caller}
use Rattle.vb6_run.specs.Forms.{SourceLine}
use Rattle.vb6_run.specs.Lines.{let_to}
use Rattle.vb6_run.specs.Store.{Memory, SourceCalls, SourceFrame, SourceGiven}
use Rattle.vb6_run.specs.Values.{Value, scalar}
use Rattle.net_run.specs.Expressions as target
use Rattle.net_run.specs.Expressions.{reach}
use Rattle.net_run.specs.Lines.{NetFrame, NetLine, assigned, scope_of}
use Rattle.net_run.specs.Making.{Jobs}
use Rattle.net_run.specs.Members.{Code}
use Rattle.net_run.specs.Names as net_names
use Rattle.net_run.specs.Names.{Reached}
use Rattle.net_run.specs.Store as net_store
use Rattle.net_run.specs.Values as net_value
use Rattle.run_matches.specs.Agreeing.{Agrees, world_of}
use Rattle.run_matches.specs.CoveredExprs.{Uses, are_still, count_passed, covers_passed, covers_receiver, is_giving, is_taking, is_typed_variable, takes_value}
use Rattle.run_matches.specs.CoveredVariables.{covers_group_type, covers_type}
use Rattle.run_matches.specs.Formed.{passed_are_formed}
use Rattle.run_matches.specs.Frames.{OwnsAll}
use Rattle.run_matches.specs.Maps.{Map, World}
use Rattle.run_matches.specs.Match.{MemoryMatch}
use Rattle.run_matches.specs.Pledges.{Later, Pledge, still}
use Rattle.run_matches.specs.Runs.{CallsAgree}
use Rattle.run_matches.specs.Upgrades.{Upgrade}
use Rattle.run_statements.specs.Frames.{AllCalled, AnyUnits, AreReadable, ArePlaced, context_of, demands, type_shape, IsOpen}
use Rattle.run_statements.specs.Groups.{ValueMatch}
use Rattle.run_statements.specs.Properties.{MayFollow, PropertiesAreSet, SetterMatch, SettersAgree, set_parts}
use Rattle.run_statements.specs.Ways.{IsWay, Way, as_get, as_procedure, as_set}
use Rattle.run_statements.specs.Written.{Passes}
use Rattle.row_laws.proofs.Composing.{after_nil, then_assoc}
use Rattle.agreeing_laws.proofs.Agreeing.{agrees_later, agrees_weaker, left_alone}
use Rattle.agreeing_laws.proofs.Lasting.{later_now, later_then}
use Rattle.line_laws.specs.Lasting.{GoOnMatching}
use Rattle.line_laws.proofs.Calm.{Gives, IsConstant}
use Rattle.line_laws.proofs.EitherOrder.{parts_first, value_first}
use Rattle.line_laws.proofs.Orders.{stable_behind, stable_later}
use Rattle.line_laws.proofs.Standing.{Stable}
use Rattle.line_laws.proofs.Still.{frame_still}
use Rattle.agreeing_laws.proofs.StillCalls.{passed_in_still, receiver_in_still}
use Rattle.line_laws.proofs.Targets.{SameStore}
use Rattle.bound_facts.specs.Nodes.{nodes_of_object, nodes_of_passed}

-- ---- procedures that take a value

value_kind : (k : ProcKind) → takes_value k ≡ true → is_property_kind k ≡ true
value_kind kind.Let h = refl
value_kind kind.Set h = refl
value_kind _ h = absurd (true≢false (sym h))

pub taking_property : (D : Declarations) (n : ℕ) (ty : Ty) (o : Option Procedure) → is_taking D n ty o ≡ true → is_property_at o ≡ true
taking_property D n ty None h = absurd (true≢false (sym h))
taking_property D n ty (Some x) h =
    value_kind x.kind (both_true (takes_value x.kind) (nat_eq n (length (index_params x)) && is_typed_variable D ty (last_of x.params)) h).0

pub taking_gives : (D : Declarations) (n : ℕ) (ty : Ty) (o : Option Procedure) → is_taking D n ty o ≡ true → is_giving o ≡ false
taking_gives D n ty None h = refl
taking_gives D n ty (Some x) h = ap not (both_true (takes_value x.kind) (nat_eq n (length (index_params x)) && is_typed_variable D ty (last_of x.params)) h).0

-- what is written for one stands bare where it has no arguments
pub taking_bare : (U : Upgrade) (S : net_names.Scope) (T : Scope) (way : Way) (q : ℕ) (qualified : Bool) (of : Object) → IsWay U S T way q qualified of no_passed
    → is_property U.program.declarations q ≡ true → is_giving (slice_get U.program.declarations.procs q) ≡ false → is_bare T q qualified of no_passed ≡ true
taking_bare U S T as_procedure q qualified of way property giving = absurd (true≢false (sym property ∙ way))
taking_bare U S T (as_get set) q qualified of way property giving = absurd (true≢false (sym way.1 ∙ giving))
taking_bare U S T (as_set get) q qualified of way property giving = (way.0.alone refl).bare

module _ (U : Upgrade) (setters : SettersAgree U) (sets : PropertiesAreSet U) (K : Pledge) (p : ℕ) (f : SourceFrame) (g : NetFrame) (l : SourceLine)
    (k : NetLine) (c : Code) (T : Scope) (declared : T.declarations ≡ U.program.declarations) (oracle : SourceCalls) (net_oracle : Jobs)
    (is_open : IsOpen (scope_of U.written c g k)) (uses : Uses)
    (readable : AreReadable U T uses) (placed : ArePlaced U p f (scope_of U.written c g k) T uses) (agree : CallsAgree U (Passes U) oracle net_oracle)
    (w : World) (h : MemoryMatch U w) (G : GoOnMatching U K p f g w) (owns : OwnsAll U K p f) (ty : Ty) (q : ProcId) (qualified : Bool) (args : Passed) (e : Expr)
    (takes : uses.takes q.0 (count_passed args) (type_at e) ≡ true)
    (of_type : (covers_type (type_at e) ≡ true) ⊎ (covers_group_type U.program.declarations (type_at e) ≡ true)) where
  abbrev C : source.Context
  C = context_of U oracle p f l

  abbrev S : net_names.Scope
  S = scope_of U.written c g k

  abbrev D : Declarations
  D = U.program.declarations

  abbrev count : ℕ
  count = count_passed args

  abbrev Matched : World → Value → net_value.Value → Type 0
  Matched u x y = ValueMatch U (type_shape U (type_at e)) u x y

  abbrev pub Values : Pledge → World → Type 0
  Values L u = Agrees U L u Matched (source.value_of C e u.src) (target.value_of S net_oracle (exp_of T e) u.net)

  -- behind indexes it changes nothing
  abbrev pub Followed : World → Type 0
  Followed u =
      Agrees U K u (λ v x y. Matched v x y × MayFollow U K u v args) (source.value_of C e u.src) (target.value_of S net_oracle (exp_of T e) u.net)

  taking : is_taking D count (type_at e) (slice_get D.procs q.0) ≡ true
  taking = (readable.takes q.0 count (type_at e) takes).0

  no_giving : is_giving (slice_get D.procs q.0) ≡ false
  no_giving = taking_gives D count (type_at e) (slice_get D.procs q.0) taking

  abbrev Parts : Type 0
  Parts = Receiver × List SourceGiven

  module _ (of : Object) (covers : covers_receiver uses of ≡ true) (covers_args : covers_passed uses args ≡ true) (formed : passed_are_formed args ≡ true)
      (can : AllCalled (demands U K p l k S T) (typed ty (call q qualified of args))) where
    abbrev to : Expr
    to = typed ty (call q qualified of args)

    abbrev pub Goal : Type 0
    Goal = SameStore U K w C S T net_oracle to e

    -- what takes the value, and the frames there go on to match
    abbrev Taken : World → Parts → Reached → Type 0
    Taken u r x = SetterMatch U K q.0 count can.0.way can.0.number of u r.0 r.1 x × Later U K w u

    abbrev parts : Memory → Outcome Memory Parts
    parts s = set_parts C q.0 of args s

    taken : Agrees U K w Taken (parts w.src) (reach S net_oracle false (exp_of T to) w.net)
    taken =
        agrees_weaker U K w (λ u r x. SetterMatch U K q.0 count can.0.way can.0.number of u r.0 r.1 x) Taken (parts w.src)
        (reach S net_oracle false (exp_of T to) w.net) (λ u r x lat m. (m, lat))
        (setters K K w p f g oracle net_oracle l k c T uses ty q qualified of args h (G w (later_now U K w h)) declared is_open readable placed agree can.0 can.1 can.2
        no_giving covers covers_args formed)

    -- both enter it with the value
    abbrev entered : Value → Parts → Memory → Outcome Memory Unit
    entered x r s = then (source.entered C q.0 r.0 (r.1 ++ by_value x ∷ []) s) (λ z s. gives [] tt s)

    -- the source assigns by looking for the object and the indexes
    lets_are : (x : Value) (s : Memory) → let_to C to x s ≡ then (parts s) (entered x)
    lets_are x s =
        let takes_all = λ (r : Receiver) (s : Memory). then (source.args_of C q.0 0 args s) (λ gs s. gives [] (r, gs) s) in
        let one = λ (r : Receiver) (s : Memory).
        sym (then_assoc (source.args_of C q.0 0 args s) (λ gs s. gives [] (r, gs) s) (entered x)
        ∙ ap (λ j. then (source.args_of C q.0 0 args s) j) (λ i gs s. after_nil (entered x (r, gs) s) i)) in
        sym (then_assoc (source.receiver_of C of s) takes_all (entered x)
        ∙ ap (λ j. then (source.receiver_of C of s) j) (λ i r s. let e = sym (one r s) in e i))

    both_enter : (u v : World) → MemoryMatch U v → (r : Parts) (x : Reached) → Taken u r x → Later U K u v → MayFollow U K u v args → (z : Value)
        (y : net_value.Value) → Matched v z y → Agrees U K v AnyUnits (entered z r v.src) (assigned S net_oracle x y v.net)
    both_enter u v start r x at more may z y match =
        sets K u v p f g oracle net_oracle l k c T (type_at e) q.0 qualified of args r.0 r.1 x z y more may start (G v (later_then U K w u v h at.1 more)) agree
        can.0 no_giving at.0 taking (readable.takes q.0 count (type_at e) takes).1 of_type match

    -- the value is known, and the same behind the parts
    known_value : (z : Value6) → Gives C e z w.src
        → Agrees U K w (λ u r x. Taken u r x × Gives C e z u.src) (parts w.src) (reach S net_oracle false (exp_of T to) w.net)
        → ((u : World) → Later U K w u → Followed u) → Goal
    known_value z now agrees values =
        value_first U K w h Parts (source.value_of C e) (target.value_of S net_oracle (exp_of T e)) parts (reach S net_oracle false (exp_of T to)) (let_to C to)
        (assigned S net_oracle) Taken (λ u v x y. Matched v x y × MayFollow U K u v args) values (scalar (type_at e) z) (entered (scalar (type_at e) z)) now
        (λ s. lets_are (scalar (type_at e) z) s) agrees
        (λ u v r x y at more match. both_enter u v more.match r x at more match.1 (scalar (type_at e) z) y match.0)

    -- a constant
    pub constant_set : IsConstant C e → ((u : World) → Later U K w u → Followed u) → Goal
    constant_set x values =
        known_value x.value (x.gives w.src)
        (agrees_weaker U K w Taken (λ u r y. Taken u r y × Gives C e x.value u.src) (parts w.src)
        (reach S net_oracle false (exp_of T to) w.net) (λ u r y lat m. (m, x.gives u.src)) taken)
        values

    -- a value that is the same while nothing changes, and parts that are still
    pub calm_set : are_still uses (nodes_of_object of) ≡ true → are_still uses (nodes_of_passed args) ≡ true → (z : Value6)
        → ((s : Memory) → Stable U w s → Gives C e z s) → ((u : World) → Later U K w u → Followed u) → Goal
    calm_set is_still args_still z is values =
        known_value z (is w.src (λ q made plain held. refl))
        (agrees_weaker U K w (λ u r y. Taken u r y × Later U (still K w) w u) (λ u r y. Taken u r y × Gives C e z u.src) (parts w.src)
        (reach S net_oracle false (exp_of T to) w.net) (λ u r y lat m. (m.0, is u.src (stable_later U K w u m.1)))
        (agrees_later U K (still K w) w Taken (λ u r x. SetterMatch U (still K w) q.0 count can.0.way can.0.number of u r.0 r.1 x) (parts w.src)
        (reach S net_oracle false (exp_of T to) w.net) (λ i x. x) taken
        (setters (still K w) K w p f g oracle net_oracle l k c T uses ty q qualified of args h (frame_still U K w h p f g (G w (later_now U K w h))) declared is_open
        readable placed agree can.0 (passed_in_still U K p l k w S T uses readable args covers_args args_still can.1)
        (receiver_in_still U K p l k w S T uses readable of covers is_still can.2) no_giving covers covers_args formed)))
        values

    -- the parts are known, and the same behind the value
    known_parts : (X : World → World → Type 0) (r : Parts) → parts w.src ≡ gives [] r w.src
        → ((m : Map) (t : net_store.Memory) (v : World) → Later U K w (world_of m w.src t) → X (world_of m w.src t) v → parts v.src ≡ gives [] r v.src)
        → ((u : World) → Later U K w u
        → Agrees U K u (λ v x y. (Matched v x y × MayFollow U K u v args) × X u v) (source.value_of C e u.src) (target.value_of S net_oracle (exp_of T e) u.net)) → Goal
    known_parts X r now behind values =
        parts_first U K w h Parts (source.value_of C e) (target.value_of S net_oracle (exp_of T e)) parts
        (reach S net_oracle false (exp_of T to)) (let_to C to) (assigned S net_oracle) Taken (λ u v x y. (Matched v x y × MayFollow U K u v args) × X u v) values r
        now taken
        (λ m t x v z y at lat match more.
        let enters : Parts → Memory → Outcome Memory Unit = entered z in
        subst (λ i. Agrees U K v AnyUnits i (assigned S net_oracle x y v.net))
        (sym (lets_are z v.src ∙ ap (λ i. then i enters) (behind m t v lat match.1)))
        (left_alone U K v AnyUnits (entered z r v.src) (assigned S net_oracle x y v.net)
        (both_enter (world_of m w.src t) v more.match r x at more match.0.1 z y match.0.0)))

    abbrev IsKnown : {A : Type 0} → (Memory → Outcome Memory A) → A → Type 0
    IsKnown r a = (s : Memory) → Stable U w s → r s ≡ gives [] a s

    -- an object and indexes that are the same while nothing changes, and a value that changes nothing
    pub parts_known : (r : Receiver) (xs : List SourceGiven) → IsKnown (source.receiver_of C of) r → IsKnown (source.args_of C q.0 0 args) xs
        → ((u : World) → Later U K w u → Followed u) → ((u : World) → Later U K w u → Values (still K u) u) → Goal
    parts_known r xs receives given values quiet =
        let all : (s : Memory) → Stable U w s → parts s ≡ gives [] (r, xs) s =
        λ s stable.
        ap (λ z. then z (λ r s. then (source.args_of C q.0 0 args s) (λ gs s. gives [] (r, gs) s))) (receives s stable)
        ∙ ap (λ z. after [] (then z (λ gs s. gives [] (r, gs) s))) (given s stable) in
        known_parts (λ u v. Later U (still K u) u v) (r, xs) (all w.src (λ i made plain held. refl))
        (λ m t v lat quiet. all v.src (stable_behind U K w m t v lat quiet))
        (λ u lat.
        agrees_later U K (still K u) u (λ v x y. Matched v x y × MayFollow U K u v args) Matched (source.value_of C e u.src)
        (target.value_of S net_oracle (exp_of T e) u.net) (λ i x. x) (values u lat) (quiet u lat))

  -- ---- without indexes

  -- for no object
  pub alone_set : args ≡ no_passed → (covers_args : covers_passed uses args ≡ true) (formed : passed_are_formed args ≡ true)
      (can : AllCalled (demands U K p l k S T) (typed ty (call q qualified no_object args))) → ((u : World) → Later U K w u → Followed u)
      → Goal no_object refl covers_args formed can
  alone_set none covers_args formed can values =
      known_parts no_object refl covers_args formed can (λ u v. Unit {0}) (caller, []) (parts_are w.src) (λ m t v lat x. parts_are v.src)
      (λ u lat.
      agrees_weaker U K u (λ v x y. Matched v x y × MayFollow U K u v args) (λ v x y. (Matched v x y × MayFollow U K u v args) × Unit {0})
      (source.value_of C e u.src) (target.value_of S net_oracle (exp_of T e) u.net) (λ v x y lat m. (m, tt)) (values u lat))
    where
      parts_are : (s : Memory) → set_parts C q.0 no_object args s ≡ gives [] (caller, []) s
      parts_are s = ap (λ a. set_parts C q.0 no_object a s) none
