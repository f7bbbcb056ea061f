-- A Set of an As New variable does the same as what is written for it: no object is made for it, and its place is the same before and behind
-- the value.
use Rattle.std.proofs.Common.{◌≡◌, ◌∙◌, inr, refl, sym, ap, subst, ℕ, Bool, true, false, not, ◌&&◌, Some, [], true≢false, slice_get}
use Rattle.std.specs.Prelude.{is_some}
use Rattle.vb_tree.specs.BoundTree as types
use Rattle.vb_tree.specs.BoundTree.{Ty}
use Rattle.vb_tree.specs.declared.declared.Owner.{Owner}
use Rattle.vb_tree.specs.declared.declared.Owner.TheVariants as owner
use Rattle.vb_tree.specs.declared.declared.VarId.{VarId}
use Rattle.bound_tree.specs.Tree.{Expr, typed, Term, variable}
use Rattle.bound_facts.proofs.Chains.{both_true}
use Rattle.bound_facts.specs.Facts.{Known, is_quiet_owner, is_quiet_variable}
use Rattle.run_base.specs.Outcomes.{Outcome, gives, then, after, some_of}
use Rattle.written_trees.specs.Exprs.{exp_of, target_exp}
use Rattle.written_trees.specs.Names.{Scope, variable_path}
use Rattle.vb6_run.specs.Expressions as source
use Rattle.vb6_run.specs.Expressions.{at_address, finished}
use Rattle.vb6_run.specs.Forms.{SourceLine}
use Rattle.vb6_run.specs.Lines.{set_to, store_at}
use Rattle.vb6_run.specs.Shapes.{declared_shape, shape_by, simple, user_shapes, variable_shape}
use Rattle.vb6_run.specs.Store.{Address, Memory, SourceCalls, SourceFrame, write}
use Rattle.vb6_run.specs.Values.{Value, scalar}
use Rattle.net_run.specs.Expressions as target
use Rattle.net_run.specs.Lines.{NetFrame, NetLine, assigned, assignment, scope_of}
use Rattle.net_run.specs.Making.{Jobs}
use Rattle.net_run.specs.Members.{Code}
use Rattle.net_run.specs.Names as net_names
use Rattle.net_run.specs.Names.{Reached, at_place}
use Rattle.net_run.specs.Store as net_store
use Rattle.net_run.specs.Values as net_value
use Rattle.run_matches.specs.Agreeing.{Agrees}
use Rattle.run_matches.specs.Covered.{is_reference_owner_of}
use Rattle.run_matches.specs.CoveredExprs.{Uses, covers_group}
use Rattle.run_matches.specs.CoveredLines.{is_auto_target}
use Rattle.run_matches.specs.CoveredVariables.{covers_auto_owner, covers_made}
use Rattle.run_matches.specs.Formed.{is_formed}
use Rattle.run_matches.specs.Frames.{FrameMatch, StandsAs, is_mirrored, is_scalar_in}
use Rattle.run_matches.specs.Likeness.{SameShape}
use Rattle.run_matches.specs.Maps.{World, is_auto_variable}
use Rattle.run_matches.specs.Match.{MemoryMatch}
use Rattle.run_matches.specs.Pledges.{Later, Pledge, type_of_shape}
use Rattle.run_matches.specs.Runs.{CallsAgree}
use Rattle.run_matches.specs.SoundShapes.{IsSoundShape}
use Rattle.run_matches.specs.Upgrades.{Upgrade, type_of_some}
use Rattle.run_statements.specs.Autos.{AutoMatch, AutosAreSet}
use Rattle.run_statements.specs.Frames.{AllCalled, AnyUnits, AreReadable, ArePlaced, IsAutoOf, IsOpen, ScalarMatch, context_of, demands}
use Rattle.run_statements.specs.Groups.{GroupsAgree, ValueMatch}
use Rattle.run_statements.specs.Written.{Passes}
use Rattle.agreeing_laws.proofs.Agreeing.{agrees_weaker, left_alone, right_alone, then_agrees}
use Rattle.agreeing_laws.proofs.Made.{same_variable}
use Rattle.agreeing_laws.proofs.Moves.{address_later}
use Rattle.agreeing_laws.proofs.UserShapes.{class_written}
use Rattle.line_laws.proofs.Flat.{object_stands}
use Rattle.line_laws.proofs.MemberSets.{object_value}
use Rattle.line_laws.proofs.Placed.{FlatImages, IsDeclared, IsFlatAs, PlacedVariable, placed_declared}
use Rattle.agreeing_laws.proofs.PlainUses.{auto_is}
use Rattle.line_laws.proofs.Standing.{same_matched}
use Rattle.line_laws.proofs.Uses.{variable_reached}

-- ---- As New variables

class_number : (c d : ℕ) → types.class c ≡ types.class d → c ≡ d
class_number c d e = cc e

-- none is given by reference
no_reference : (p : ℕ) (o : Owner) → covers_auto_owner o ≡ true → is_reference_owner_of p o ≡ true → ⊥
no_reference p (owner.Reference q) covers h = true≢false (sym covers)
no_reference p _ covers h = true≢false (sym h)

auto_loud : (F : Known) (o : Owner) → covers_auto_owner o ≡ true → is_quiet_owner F o ≡ false
auto_loud F (owner.Reference q) covers = absurd (true≢false (sym covers))
auto_loud F _ covers = refl

module _ (U : Upgrade) (v class : ℕ) (r : IsAutoOf U v class) where
  declared_auto : IsDeclared U v
  declared_auto = record {
    variable = r.variable;
    is_variable = r.is_variable;
    sound = r.sound;
    unreferenced = λ auto p of. no_reference p r.variable.owner r.owner of;
  }

  loud : is_mirrored U v ≡ false
  loud =
      ap (λ b. b && is_scalar_in (slice_get U.program.declarations.vars v))
      (ap (λ b. b && not (U.known.touched v)) (ap (is_quiet_variable U.known) r.is_variable ∙ auto_loud U.known r.variable.owner r.owner))

  shape_is : variable_shape U.program.declarations v ≡ simple (types.class class)
  shape_is =
      ap (declared_shape (user_shapes U.program.declarations)) r.is_variable
      ∙ ap (shape_by (user_shapes U.program.declarations) r.variable.bounds) r.is_type

  flat_auto : IsFlatAs U v
  flat_auto d same = record {
    shape =
        subst (λ s. IsSoundShape U s) (sym shape_is)
        (inr (class_written U (types.class class) d refl (subst (λ s. SameShape U s d) shape_is same)));
    of_type = ap type_of_some r.is_variable ∙ ap (λ z. Some z) r.is_type ∙ ap (λ s. Some (type_of_shape s)) (sym shape_is);
  }

-- images of one stay so
auto_later : (U : Upgrade) (K : Pledge) (w u : World) (class : ℕ) (a : Address) (b : net_store.Address) → Later U K w u → AutoMatch U K class w a b
    → AutoMatch U K class u a b
auto_later U K w u class a b l m = record {
  position = m.position;
  stands = m.stands;
  same = address_later U K w u a b l m.same;
  target = m.target;
  is_auto =
      subst (λ v. is_auto_variable U v ≡ true)
      (sym (same_variable U w u l.extends m.position.root (same_matched U K w (types.class class) m.position a b m.stands m.same).0.is_made)) m.is_auto;
}

-- ---- the Set

module _ (U : Upgrade) (groups : GroupsAgree U) (autos : AutosAreSet U) (K : Pledge) (p : ℕ) (f : SourceFrame) (g : NetFrame) (l : SourceLine) (k : NetLine)
    (c : Code) (T : Scope) (declared : T.declarations ≡ U.program.declarations) (oracle : SourceCalls) (net_oracle : Jobs)
    (is_open : IsOpen (scope_of U.written c g k)) (uses : Uses) (readable : AreReadable U T uses) (placed : ArePlaced U p f (scope_of U.written c g k) T uses)
    (agree : CallsAgree U (Passes U) oracle net_oracle) (w : World) (h : MemoryMatch U w) (F : FrameMatch U K w p f g) where
  abbrev C : source.Context
  C = context_of U oracle p f l

  abbrev S : net_names.Scope
  S = scope_of U.written c g k

  module _ (class : ℕ) (v : VarId) (qualified : Bool) (used : uses.auto v (types.class class) ≡ true) (named : uses.named v qualified ≡ true) where
    abbrev ty : Ty
    ty = types.class class

    abbrev to : Expr
    to = typed ty (variable v qualified)

    auto : IsAutoOf U v.0 class
    auto =
        let r : (d : ℕ) × (ty ≡ types.class d) × IsAutoOf U v.0 d × (covers_made U.program d ≡ true) = readable.autos v ty used in
        subst (λ n. IsAutoOf U v.0 n) (sym (class_number class r.0 r.1)) r.2

    there : PlacedVariable U K w f S T v.0
    there = placed_declared U K w p f g k c T declared F v.0 (declared_auto U v.0 class auto) (placed.places v (inr (inr (inr (ty, used)))))

    images : FlatImages U K w v.0 there.address there.net_address
    images = there.flat h (flat_auto U v.0 class auto) (loud U v.0 class auto)

    matched : AutoMatch U K class w there.address there.net_address
    matched = record {
      position = images.position;
      stands =
          object_stands U ty there.address images.position auto.covers images.target
          (subst (λ s. StandsAs s there.address images.position) (shape_is U v.0 class auto) images.stands);
      same = images.same;
      target = images.target;
      is_auto = images.auto (ap is_some (auto_is U v.0 class auto));
    }

    found : (s : Memory) → then (source.term_parts C ty (variable v qualified) s) finished ≡ gives [] there.address s
    found s = ap (λ o. then (some_of o (λ a w. gives [] (at_address a) w) s) finished) there.found

    leads : (t : net_store.Memory) → target.reach S net_oracle false (target_exp T to) t ≡ gives [] (at_place there.net_address) t
    leads t = variable_reached S net_oracle (variable_path T qualified v.0) there.net_address t (there.leads qualified (placed.named v qualified named))

    stored : (x : Value) (y : net_value.Value) (u : World) → ScalarMatch U ty u x y → Later U K w u
        → Agrees U K u AnyUnits (set_to C to x u.src) (assigned S net_oracle (at_place there.net_address) y u.net)
    stored x y u m later =
        let a : Address = there.address in
        let b : net_store.Address = there.net_address in
        let writes : Outcome Memory Unit = write f.env (scalar ty m.0) a u.src in
        subst (λ r. Agrees U K u AnyUnits r (assigned S net_oracle (at_place b) y u.net))
        (sym (ap (λ r. then r (store_at C to x)) (found u.src) ∙ ap (λ i. after [] (store_at C to i a u.src)) m.1))
        (left_alone U K u AnyUnits writes (assigned S net_oracle (at_place b) y u.net)
        (right_alone U K u AnyUnits writes (net_store.written b y u.net)
        (autos K u class a b f.env m.0 y later.match (auto_later U K w u class a b later matched) m.2)))

    set_by : (e : Expr) → Agrees U K w (ScalarMatch U ty) (source.value_of C e w.src) (target.value_of S net_oracle (exp_of T e) w.net)
        → Agrees U K w AnyUnits (then (source.value_of C e w.src) (set_to C to)) (assignment S net_oracle (target_exp T to) (exp_of T e) w.net)
    set_by e values =
        let stores : Outcome Memory Unit = then (source.value_of C e w.src) (set_to C to) in
        let rest : Reached → net_store.Memory → Outcome net_store.Memory Unit =
        λ r t. then (target.value_of S net_oracle (exp_of T e) t) (λ y t. assigned S net_oracle r y t) in
        subst (λ z. Agrees U K w AnyUnits stores (then z rest)) (sym (leads w.net))
        (right_alone U K w AnyUnits stores (rest (at_place there.net_address) w.net)
        (then_agrees U K w (ScalarMatch U ty) AnyUnits (source.value_of C e w.src) (target.value_of S net_oracle (exp_of T e) w.net) (set_to C to)
        (λ y t. assigned S net_oracle (at_place there.net_address) y t) h values stored))

  pub auto_set_agrees : (class : ℕ) (to from : Term) → is_auto_target uses (typed (types.class class) to) ≡ true
      → AllCalled (demands U K p l k S T) (typed (types.class class) from) → covers_group uses (typed (types.class class) from) ≡ true
      → is_formed (typed (types.class class) from) ≡ true
      → Agrees U K w AnyUnits (then (source.value_of C (typed (types.class class) from) w.src) (set_to C (typed (types.class class) to)))
      (assignment S net_oracle (target_exp T (typed (types.class class) to)) (exp_of T (typed (types.class class) from)) w.net)
  auto_set_agrees class (variable v qualified) from is can covers formed =
      let e : Expr = typed (types.class class) from in
      let both = both_true (uses.auto v (types.class class)) (uses.named v qualified) is in
      set_by class v qualified both.0 both.1 e
      (agrees_weaker U K w (ValueMatch U (simple (types.class class))) (ScalarMatch U (types.class class)) (source.value_of C e w.src)
      (target.value_of S net_oracle (exp_of T e) w.net) (λ u x y lat m. object_value U u class x y m)
      (groups K w p f g oracle net_oracle l k c T uses (types.class class) from h F declared is_open readable placed agree can covers formed))
  auto_set_agrees class _ from is can covers formed = absurd (true≢false (sym is))
