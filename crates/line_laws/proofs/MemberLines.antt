-- An assignment of a scalar to a variable of an object does the same as what is written for it.
use Rattle.std.proofs.Common.{◌≡◌, ◌∙◌, refl, sym, ap, inl, ⊎_elim, ℕ, ℤ, Bool, true, ◌&&◌, ◌||◌, Option, Some, None, List, [], ◌∷◌, true≢false}
use Rattle.std.proofs.lemmas.Bool.{or_cases}
use Rattle.vb_tree.specs.BoundTree as types
use Rattle.vb_tree.specs.BoundTree.{Ty}
use Rattle.vb_tree.specs.declared.value.Value6.{Value6}
use Rattle.bound_tree.specs.Tree.{Expr, typed, Term, field}
use Rattle.bound_facts.proofs.Chains.{both_true}
use Rattle.bound_facts.specs.Node.{type_at}
use Rattle.bound_facts.specs.Nodes.{nodes}
use Rattle.run_base.specs.Positions as position
use Rattle.run_base.specs.Positions.{Position, whole}
use Rattle.written_trees.specs.Exprs.{exp_of}
use Rattle.written_trees.specs.Names.{Scope}
use Rattle.vb6_run.specs.Expressions as source
use Rattle.vb6_run.specs.Forms.{SourceLine}
use Rattle.vb6_run.specs.Shapes.{simple, declared_shape, shape_by, user_shapes, variable_shape}
use Rattle.vb6_run.specs.Store as source_store
use Rattle.vb6_run.specs.Store.{Address, SourceCalls, SourceFrame, write}
use Rattle.vb6_run.specs.Values.{scalar}
use Rattle.net_run.specs.Expressions as target
use Rattle.net_run.specs.Lines.{NetFrame, NetLine, scope_of}
use Rattle.net_run.specs.Making.{Jobs}
use Rattle.net_run.specs.Members.{Code}
use Rattle.net_run.specs.Names as net_names
use Rattle.net_run.specs.Store as net_store
use Rattle.net_run.specs.Values as net_value
use Rattle.run_matches.specs.Agreeing.{Agrees}
use Rattle.run_matches.specs.CoveredVariables.{covers_type}
use Rattle.run_matches.specs.CoveredExprs.{Uses, are_still, covers_object, has_member, is_calm, is_calm_object, is_literal_value, is_passing, keeps_object}
use Rattle.run_matches.specs.Frames.{OwnsAll}
use Rattle.run_matches.specs.Likeness.{LikeV}
use Rattle.run_matches.specs.Maps.{World}
use Rattle.run_matches.specs.Match.{MemoryMatch}
use Rattle.run_matches.specs.Pledges.{Later, Pledge, still}
use Rattle.run_matches.specs.Runs.{CallsAgree}
use Rattle.run_matches.specs.Upgrades.{Upgrade}
use Rattle.run_statements.specs.Frames.{AllCalled, AnyUnits, AreReadable, ArePlaced, ExpressionsAgree, IsMember, IsOpen, ScalarMatch, ScalarsAreWritten, context_of, demands}
use Rattle.run_statements.specs.Members.{MemberFound, MembersAgree, MembersAreFound}
use Rattle.run_statements.specs.Written.{Passes}
use Rattle.agreeing_laws.proofs.Lasting.{later_now}
use Rattle.line_laws.specs.Lasting.{GoOnMatching}
use Rattle.line_laws.proofs.Calm.{literal_is_constant}
use Rattle.line_laws.proofs.MemberStores.{calm_stored, constant_stored, object_stored}
use Rattle.line_laws.proofs.MyMembers.{IsMyAddress, member_change}
use Rattle.line_laws.proofs.OwnTargets.{IsOwnTarget}
use Rattle.line_laws.proofs.Standing.{calm_known}
use Rattle.line_laws.proofs.Still.{frame_still}
use Rattle.agreeing_laws.proofs.StillCalls.{called_in_still}
use Rattle.line_laws.proofs.Stores.{scalar_written}
use Rattle.line_laws.proofs.Targets.{SameStore}
use Rattle.line_laws.proofs.Uses.{good_parts, is_good, simple_type, type_covered}

-- ---- what a variable of an object is

pub passing_type : (test : Ty → Bool) (o : Option Ty) → is_passing test o ≡ true → (ty : Ty) × (o ≡ Some ty) × (test ty ≡ true)
passing_type test None h = absurd (true≢false (sym h))
passing_type test (Some ty) h = (ty, refl, h)

module _ (U : Upgrade) (of_class i : ℕ) (ty : Ty) (m : IsMember U of_class i ty) where
  -- its shape is that of its type
  pub member_shape : ((bounds : List (ℤ × ℤ)) → shape_by (user_shapes U.program.declarations) bounds ty ≡ simple ty)
      → variable_shape U.program.declarations m.number ≡ simple ty
  member_shape alone =
      ap (declared_shape (user_shapes U.program.declarations)) m.known.is_variable
      ∙ ap (shape_by (user_shapes U.program.declarations) m.known.variable.bounds) m.is_type ∙ alone m.known.variable.bounds

  -- of which it is found
  pub member_stands : (K : Pledge) (u : World) (a : Address) (b : net_store.Address) → variable_shape U.program.declarations m.number ≡ simple ty
      → MemberFound U K m.number u a b → (q : Position) × (a ≡ source_store.root (simple ty) q)
  member_stands K u a b shaped found =
      let q : Position = whole (position.field found.object (m.number ∷ [])) in (q, found.stands ∙ ap (λ s. source_store.root s q) shaped)

-- ---- the assignment

module _ (U : Upgrade) (expressions : ExpressionsAgree U) (scalars : ScalarsAreWritten U) (members : MembersAgree U) (finds : MembersAreFound U) (K : Pledge)
    (p : ℕ) (f : SourceFrame) (g : NetFrame) (l : SourceLine) (k : NetLine) (c : Code) (T : Scope) (declared : T.declarations ≡ U.program.declarations)
    (oracle : SourceCalls) (net_oracle : Jobs) (is_open : IsOpen (scope_of U.written c g k)) (uses : Uses) (readable : AreReadable U T uses)
    (placed : ArePlaced U p f (scope_of U.written c g k) T uses) (agree : CallsAgree U (Passes U) oracle net_oracle) (w : World) (h : MemoryMatch U w)
    (G : GoOnMatching U K p f g w) (owns : OwnsAll U K p f) (e : Expr) (can : AllCalled (demands U K p l k (scope_of U.written c g k) T) e)
    (well : is_good uses e ≡ true) (ty : Ty) (of_class i : ℕ) (t : Term)
    (can_object : AllCalled (demands U K p l k (scope_of U.written c g k) T) (typed (types.class of_class) t)) where
  abbrev C : source.Context
  C = context_of U oracle p f l

  abbrev S : net_names.Scope
  S = scope_of U.written c g k

  abbrev d : Expr
  d = typed (types.class of_class) t

  abbrev to : Expr
  to = typed ty (field d i)

  abbrev Goal : Type 0
  Goal = SameStore U K w C S T net_oracle to e

  abbrev Values : Pledge → World → Type 0
  Values L u = Agrees U L u (ScalarMatch U (type_at e)) (source.value_of C e u.src) (target.value_of S net_oracle (exp_of T e) u.net)

  values : (u : World) → Later U K w u → Values K u
  values u lat =
      let parts = good_parts uses e well in
      expressions K u p f g oracle net_oracle l k c T uses e lat.match (G u lat) declared is_open readable placed agree can parts.0 parts.1

  still_values : are_still uses (nodes e) ≡ true → (u : World) → Later U K w u → Values (still K u) u
  still_values is_still u lat =
      let parts = good_parts uses e well in
      expressions (still K u) u p f g oracle net_oracle l k c T uses e lat.match (frame_still U K u lat.match p f g (G u lat)) declared is_open readable placed agree
      (called_in_still U K p l k u S T uses readable e parts.0 is_still can) parts.0 parts.1

  module _ (own : IsOwnTarget U K p f to) (keeps : keeps_object uses d e ≡ true)
      (covers : covers_object uses d ≡ true) (member_type : Ty) (m : IsMember U of_class i member_type) (of_type : covers_type member_type ≡ true) where
    writes : (u : World) (a : Address) (b : net_store.Address) (z : Value6) (y : net_value.Value) → MemoryMatch U u → MemberFound U K m.number u a b
        → IsMyAddress U f of_class m.number t a → LikeV U u (scalar (type_at e) z) y
        → Agrees U K u AnyUnits (write f.env (scalar (type_at e) z) a u.src) (net_store.written b y u.net)
    writes u a b z y start found mine like =
        let at : (q : Position) × (a ≡ source_store.root (simple member_type) q) =
        member_stands U of_class i member_type m K u a b
        (member_shape U of_class i member_type m (λ bounds. simple_type (user_shapes U.program.declarations) bounds member_type of_type)) found in
        scalar_written U scalars K u start member_type of_type a b at.0 found.same (inl at.1) found.target (member_change U K p f of_class m.number i ty t a own mine) f.env
        (type_at e) (type_covered uses e (good_parts uses e well).0) z y like

    kept : Goal
    kept =
        let parts = good_parts uses e well in
        ⊎_elim
        (λ x.
        constant_stored U members finds K p f g l k c T declared oracle net_oracle is_open uses readable placed agree w h G owns ty of_class i t member_type
        m (inl of_type)
        covers can_object e writes (literal_is_constant C uses e x parts.0 parts.1) values)
        (λ x.
        ⊎_elim
        (λ y.
        let both = both_true (is_calm_object uses d) (are_still uses (nodes e)) y in
        object_stored U members finds K p f g l k c T declared oracle net_oracle is_open uses readable placed agree w h G owns ty of_class i t member_type m
        (inl of_type)
        covers can_object e writes both.0 values (still_values both.1))
        (λ y.
        let both = both_true (is_calm uses e) (are_still uses (nodes d)) y in
        let x = calm_known U expressions K p f g l k c T declared oracle net_oracle is_open uses readable placed agree w h (G w (later_now U K w h)) e
        both.0 can parts.0 parts.1 in
        calm_stored U members finds K p f g l k c T declared oracle net_oracle is_open uses readable placed agree w h G owns ty of_class i t member_type m
        (inl of_type)
        covers can_object e writes both.1 x.value x.gives values)
        (or_cases (is_calm_object uses d && are_still uses (nodes e)) (is_calm uses e && are_still uses (nodes d)) x))
        (or_cases (is_literal_value e) ((is_calm_object uses d && are_still uses (nodes e)) || (is_calm uses e && are_still uses (nodes d))) keeps)

  pub member_stored : IsOwnTarget U K p f to → keeps_object uses d e ≡ true
      → (has_member uses (types.class of_class) i covers_type && covers_object uses d) ≡ true → Goal
  member_stored own keeps covers =
      let both = both_true (has_member uses (types.class of_class) i covers_type) (covers_object uses d) covers in
      let of = passing_type covers_type (uses.member_type of_class i) both.0 in
      kept own keeps both.1 of.0 (readable.members of_class i of.0 of.1) of.2
