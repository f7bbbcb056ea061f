-- A value is stored to a variable of an object on both sides, whichever of the object and the value is evaluated first.
use Rattle.std.proofs.Common.{◌≡◌, ◌∙◌, ◌⊎◌, refl, sym, ap, subst, ⊎_elim, ℕ, true, false, List, []}
use Rattle.vb_tree.specs.BoundTree as types
use Rattle.vb_tree.specs.BoundTree.{Ty}
use Rattle.vb_tree.specs.declared.value.Value6.{Value6}
use Rattle.bound_tree.specs.Tree.{Expr, typed, Term, field, with_object}
use Rattle.bound_tree.specs.declared.expression.Root.{Root}
use Rattle.bound_facts.specs.Node.{type_at}
use Rattle.run_base.specs.Outcomes.{Outcome, gives, outside, then}
use Rattle.written_trees.specs.Exprs.{exp_of, field_name, member_in}
use Rattle.written_trees.specs.Names.{Scope}
use Rattle.vb6_run.specs.Expressions as source
use Rattle.vb6_run.specs.Expressions.{at_field}
use Rattle.vb6_run.specs.Forms.{SourceLine}
use Rattle.vb6_run.specs.Lines.{let_to, store_at}
use Rattle.vb6_run.specs.Shapes.{variable_shape}
use Rattle.vb6_run.specs.Store.{Address, Memory, SourceCalls, SourceFrame, write}
use Rattle.vb6_run.specs.Values.{Value, scalar}
use Rattle.net_run.specs.Expressions as target
use Rattle.net_run.specs.Expressions.{reach}
use Rattle.net_run.specs.Lines.{NetFrame, NetLine, assigned, scope_of}
use Rattle.net_run.specs.Making.{Jobs}
use Rattle.net_run.specs.Members.{Code}
use Rattle.net_run.specs.Names as net_names
use Rattle.net_run.specs.Store as net_store
use Rattle.net_run.specs.Values as net_value
use Rattle.run_matches.specs.Agreeing.{Agrees, world_of}
use Rattle.run_matches.specs.CoveredVariables.{covers_type}
use Rattle.run_matches.specs.CoveredExprs.{Uses, are_still, covers_object_term, is_calm_object}
use Rattle.run_matches.specs.Frames.{FrameMatch, OwnsAll}
use Rattle.run_matches.specs.Likeness.{LikeV}
use Rattle.run_matches.specs.Maps.{World}
use Rattle.run_matches.specs.Match.{MemoryMatch}
use Rattle.run_matches.specs.Pledges.{Later, Pledge, still}
use Rattle.run_matches.specs.Upgrades.{Upgrade}
use Rattle.run_matches.specs.UserTypes.{is_class_type}
use Rattle.run_statements.specs.Frames.{AllCalled, AnyUnits, AreReadable, ArePlaced, IsMember, ScalarMatch, context_of, demands, IsOpen}
use Rattle.run_statements.specs.Members.{MemberFound, MembersAgree, MembersAreFound, ReachedMember}
use Rattle.agreeing_laws.proofs.Agreeing.{agrees_later, agrees_weaker, agrees_yields, left_alone, then_agrees}
use Rattle.agreeing_laws.proofs.Lasting.{later_now}
use Rattle.agreeing_laws.proofs.Scalars.{scalar_later}
use Rattle.line_laws.specs.Lasting.{GoOnMatching}
use Rattle.line_laws.proofs.Calm.{Gives, IsConstant}
use Rattle.line_laws.proofs.CalmObjects.{calm_object}
use Rattle.line_laws.proofs.EitherOrder.{parts_first, value_first}
use Rattle.line_laws.proofs.MemberParts.{member_later, member_let, member_none, member_parts, member_target, stored_by}
use Rattle.line_laws.proofs.MyMembers.{HasMyParts, IsMyAddress, my_address, my_parts}
use Rattle.line_laws.proofs.Orders.{stable_behind, stable_later}
use Rattle.line_laws.proofs.Standing.{Stable}
use Rattle.line_laws.proofs.Still.{frame_still}
use Rattle.line_laws.proofs.Targets.{outside_stored}
use Rattle.run_matches.specs.Runs.{CallsAgree}
use Rattle.run_statements.specs.Written.{Passes}
use Rattle.bound_facts.specs.Nodes.{nodes}
use Rattle.agreeing_laws.proofs.StillCalls.{object_in_still}

module _ (U : Upgrade) (members : MembersAgree U) (finds : MembersAreFound U) (K : Pledge) (p : ℕ) (f : SourceFrame) (g : NetFrame) (l : SourceLine)
    (k : NetLine) (c : Code) (T : Scope) (declared : T.declarations ≡ U.program.declarations) (oracle : SourceCalls) (net_oracle : Jobs)
    (is_open : IsOpen (scope_of U.written c g k)) (uses : Uses) (readable : AreReadable U T uses)
    (placed : ArePlaced U p f (scope_of U.written c g k) T uses) (agree : CallsAgree U (Passes U) oracle net_oracle) (w : World) (h : MemoryMatch U w)
    (G : GoOnMatching U K p f g w) (owns : OwnsAll U K p f) (ty : Ty) (of_class i : ℕ) (t : Term) (member_type : Ty)
    (m : IsMember U of_class i member_type) (of_type : (covers_type member_type ≡ true) ⊎ (is_class_type member_type ≡ true))
    (covers : covers_object_term uses (types.class of_class) t ≡ true)
    (can : AllCalled (demands U K p l k (scope_of U.written c g k) T) (typed (types.class of_class) t)) (e : Expr)
    (writes : (u : World) (a : Address) (b : net_store.Address) (z : Value6) (y : net_value.Value) → MemoryMatch U u → MemberFound U K m.number u a b
    → IsMyAddress U f of_class m.number t a → LikeV U u (scalar (type_at e) z) y
    → Agrees U K u AnyUnits (write f.env (scalar (type_at e) z) a u.src) (net_store.written b y u.net)) where
  abbrev C : source.Context
  C = context_of U oracle p f l

  abbrev S : net_names.Scope
  S = scope_of U.written c g k

  abbrev to : Expr
  to = typed ty (field (typed (types.class of_class) t) i)

  abbrev Goal : Type 0
  Goal =
      Agrees U K w AnyUnits (then (source.value_of C e w.src) (let_to C to))
      (then (reach S net_oracle false (exp_of T to) w.net) (λ r t. then (target.value_of S net_oracle (exp_of T e) t) (λ y t. assigned S net_oracle r y t)))

  abbrev Values : Pledge → World → Type 0
  Values L u = Agrees U L u (ScalarMatch U (type_at e)) (source.value_of C e u.src) (target.value_of S net_oracle (exp_of T e) u.net)

  F : FrameMatch U K w p f g
  F = G w (later_now U K w h)

  abbrev by : Value6 → source.Parts → Memory → Outcome Memory Unit
  by z = stored_by U of_class i member_type m oracle p f l ty t (type_at e) z

  -- the parts of the variable
  abbrev Reached : World → source.Parts → net_names.Reached → Type 0
  Reached u x r = ReachedMember U of_class m.number u x r × HasMyParts U f of_class m.number t x

  abbrev Found : World → Address → net_store.Address → Type 0
  Found u a b = MemberFound U K m.number u a b × IsMyAddress U f of_class m.number t a

  reached : (L : Pledge) → FrameMatch U L w p f g → AllCalled (demands U L p l k S T) (typed (types.class of_class) t)
      → Agrees U L w Reached (source.parts_of C to w.src) (reach S net_oracle false (exp_of T to) w.net)
  reached L now can_now =
      agrees_yields U L w (ReachedMember U of_class m.number) (λ x s. HasMyParts U f of_class m.number t x) (source.parts_of C to w.src)
      (reach S net_oracle false (exp_of T to) w.net) (my_parts U L p f g l k c T oracle uses placed w now of_class i member_type m ty t covers)
      (members L w p f g oracle net_oracle l k c T uses ty of_class i t member_type m h now declared is_open readable placed agree can_now covers)

  -- a value behind the parts, on both sides
  written : (u v : World) → MemoryMatch U v → (x : source.Parts) (r : net_names.Reached) → Reached u x r → Later U K u v
      → (z : Value6) (y : net_value.Value) → LikeV U v (scalar (type_at e) z) y → Agrees U K v AnyUnits (by z x v.src) (assigned S net_oracle r y v.net)
  written u v start x r at later z y like =
      let reached_at = at.0 in
      subst (λ q. Agrees U K v AnyUnits (by z x v.src) (assigned S net_oracle q y v.net)) (sym reached_at.1)
      (then_agrees U K v Found AnyUnits (source.finished x v.src) (target.finished reached_at.0 v.net) (write f.env (scalar (type_at e) z))
      (λ b t. net_store.written b y t) start
      (agrees_yields U K v (MemberFound U K m.number) (λ a s. IsMyAddress U f of_class m.number t a) (source.finished x v.src)
      (target.finished reached_at.0 v.net) (my_address U f of_class m.number t x v.src at.1)
      (finds K v of_class i member_type m x reached_at.0 of_type start (member_later U K u v of_class m.number x reached_at.0 later reached_at.2)))
      (λ a b v1 found more. writes v1 a b z y more.match found.0 found.1 (scalar_later U K v v1 (type_at e) z y more like)))

  like_as : (u : World) (z : Value6) (x : Value) (y : net_value.Value) → x ≡ scalar (type_at e) z → ScalarMatch U (type_at e) u x y
      → LikeV U u (scalar (type_at e) z) y
  like_as u z x y is match = subst (λ v. LikeV U u v y) (sym match.1 ∙ is) match.2

  -- the value is known, and the same behind the object
  known_first : (X : World → Type 0) (z : Value6) → Gives C e z w.src → ((u : World) → X u → Gives C e z u.src)
      → Agrees U K w (λ u x r. Reached u x r × X u) (source.parts_of C to w.src) (reach S net_oracle false (exp_of T to) w.net)
      → ((u : World) → Later U K w u → Values K u) → Goal
  known_first X z now later agree values =
      value_first U K w h source.Parts (source.value_of C e) (target.value_of S net_oracle (exp_of T e)) (source.parts_of C to)
      (reach S net_oracle false (exp_of T to)) (let_to C to) (assigned S net_oracle) Reached
      (λ u v x y. ScalarMatch U (type_at e) v x y) values (scalar (type_at e) z) (by z) now
      (member_let U of_class i member_type m oracle p f l ty t (type_at e) z)
      (agrees_weaker U K w (λ u x r. Reached u x r × X u)
      (λ u x r. Reached u x r × (source.value_of C e u.src ≡ gives [] (scalar (type_at e) z) u.src)) (source.parts_of C to w.src)
      (reach S net_oracle false (exp_of T to) w.net) (λ u x r lat y. (y.0, later u y.1)) agree)
      (λ u v x r y at more match. written u v more.match x r at more z y (like_as v z (scalar (type_at e) z) y refl match))

  -- a constant
  pub constant_stored : IsConstant C e → ((u : World) → Later U K w u → Values K u) → Goal
  constant_stored x values =
      known_first (λ u. Unit {0}) x.value (x.gives w.src) (λ u i. x.gives u.src)
      (agrees_weaker U K w Reached (λ u x r. Reached u x r × Unit {0}) (source.parts_of C to w.src)
      (reach S net_oracle false (exp_of T to) w.net) (λ u x r lat y. (y, tt)) (reached K F can)) values

  -- a value that is the same while nothing changes, and an object that is still
  pub calm_stored : are_still uses (nodes (typed (types.class of_class) t)) ≡ true → (z : Value6) → ((s : Memory) → Stable U w s → Gives C e z s)
      → ((u : World) → Later U K w u → Values K u) → Goal
  calm_stored is_still z is values =
      known_first (λ u. Later U (still K w) w u) z (is w.src (λ q made plain held. refl)) (λ u lat. is u.src (stable_later U K w u lat))
      (agrees_later U K (still K w) w Reached Reached (source.parts_of C to w.src)
      (reach S net_oracle false (exp_of T to) w.net) (λ i x. x) (reached K F can)
      (reached (still K w) (frame_still U K w h p f g F)
      (object_in_still U K p l k w S T uses readable (typed (types.class of_class) t) covers is_still can))) values

  abbrev object : Expr
  object = typed (types.class of_class) t

  -- no object, which a With was to keep
  none_stored : (r : Root) → t ≡ with_object r → ((s : Memory) → source.parts_of C object s ≡ outside []) → Values K w → Goal
  none_stored r is none values =
      let name : List ℕ = field_name T object i in
      let reached : reach S net_oracle false (exp_of T to) w.net ≡ gives [] (net_names.member_at S S.around name w.net) w.net =
      ap (λ a. reach S net_oracle false a w.net)
      (sym (member_target U of_class i member_type m T declared ty t) ∙ ap (λ z. member_in z (exp_of T object) name) is) in
      outside_stored U K w h C S T net_oracle to e (ScalarMatch U (type_at e)) values (net_names.member_at S S.around name w.net) reached
      (λ x s. ap (λ q. then q (store_at C to x)) (member_none U of_class i member_type m oracle p f l ty t s (none s)))

  -- an object that is known, and a value that changes nothing
  known_stored : (x : (x : Value6) × ((s : Memory) → Stable U w s → Gives C object x s)) → ((u : World) → Later U K w u → Values K u)
      → ((u : World) → Later U K w u → Values (still K u) u) → Goal
  known_stored x values quiet =
      let parts : source.Parts = at_field (scalar (types.class of_class) x.0) of_class (variable_shape U.program.declarations m.number) m.number in
      let parts_are : (s : Memory) → Stable U w s → source.parts_of C to s ≡ gives [] parts s =
      λ s before. member_parts U of_class i member_type m oracle p f l ty t x.0 s (x.1 s before) in
      parts_first U K w h source.Parts (source.value_of C e) (target.value_of S net_oracle (exp_of T e)) (source.parts_of C to)
      (reach S net_oracle false (exp_of T to)) (let_to C to) (assigned S net_oracle) Reached
      (λ u v x y. ScalarMatch U (type_at e) v x y × Later U (still K u) u v)
      (λ u lat.
      agrees_later U K (still K u) u (ScalarMatch U (type_at e)) (ScalarMatch U (type_at e)) (source.value_of C e u.src)
      (target.value_of S net_oracle (exp_of T e) u.net) (λ i x. x) (values u lat) (quiet u lat))
      parts (parts_are w.src (λ q made plain held. refl)) (reached K F can)
      (λ q s r v y z at lat match more.
      subst (λ i. Agrees U K v AnyUnits i (assigned S net_oracle r z v.net))
      (sym (ap (λ i. let_to C to i v.src) match.0.1 ∙ member_let U of_class i member_type m oracle p f l ty t (type_at e) match.0.0 v.src
      ∙ ap (λ i. then i (by match.0.0)) (parts_are v.src (stable_behind U K w q s v lat match.1))))
      (left_alone U K v AnyUnits (by match.0.0 parts v.src) (assigned S net_oracle r z v.net)
      (written (world_of q w.src s) v more.match parts r at more match.0.0 z match.0.2)))

  -- a calm object
  pub object_stored : is_calm_object uses (typed (types.class of_class) t) ≡ true → ((u : World) → Later U K w u → Values K u)
      → ((u : World) → Later U K w u → Values (still K u) u) → Goal
  object_stored calm values quiet =
      ⊎_elim (λ x. known_stored x values quiet) (λ x. none_stored x.0 x.1 x.2 (values w (later_now U K w h)))
      (calm_object U K p f g l k c T declared oracle net_oracle uses readable placed w h F owns of_class t calm covers can)
