-- A Set of a variable of an object does the same as what is written for it.
use Rattle.std.proofs.Common.{◌≡◌, ◌∙◌, refl, sym, ap, subst, inr, ⊎_elim, ℕ, Bool, true, false, ◌&&◌, ◌||◌, true≢false, inl}
use Rattle.std.proofs.lemmas.Bool.{or_cases}
use Rattle.vb_tree.specs.BoundTree as types
use Rattle.vb_tree.specs.BoundTree.{Ty}
use Rattle.vb_tree.specs.declared.value.Value6.{Value6}
use Rattle.vb_tree.specs.declared.value.Value6.TheVariants as v
use Rattle.bound_tree.specs.declared.expression.Origin.{Origin}
use Rattle.bound_tree.specs.Tree.{Expr, typed, Term, constant, variable, field, convert}
use Rattle.bound_facts.proofs.Chains.{both_true}
use Rattle.bound_facts.specs.Locks.{is_same_type}
use Rattle.bound_facts.specs.Node.{type_at}
use Rattle.bound_facts.specs.Nodes.{nodes}
use Rattle.run_base.specs.Outcomes.{then}
use Rattle.run_base.specs.Positions.{Position}
use Rattle.written_trees.specs.Exprs.{exp_of, target_exp}
use Rattle.written_trees.specs.Names.{Scope}
use Rattle.vb6_run.specs.Expressions as source
use Rattle.vb6_run.specs.Forms.{SourceLine}
use Rattle.vb6_run.specs.Lines.{set_to}
use Rattle.vb6_run.specs.Shapes.{simple, variable_shape}
use Rattle.vb6_run.specs.Store as source_store
use Rattle.vb6_run.specs.Store.{Address, SourceCalls, SourceFrame, write}
use Rattle.vb6_run.specs.Values.{Value, scalar, fields, elements}
use Rattle.net_run.specs.Expressions as target
use Rattle.net_run.specs.Lines.{NetFrame, NetLine, assignment, scope_of}
use Rattle.net_run.specs.Making.{Jobs}
use Rattle.net_run.specs.Members.{Code}
use Rattle.net_run.specs.Names as net_names
use Rattle.net_run.specs.Store as net_store
use Rattle.net_run.specs.Values as net_value
use Rattle.run_matches.specs.Addresses.{IsTarget, Same}
use Rattle.run_matches.specs.Agreeing.{Agrees}
use Rattle.run_matches.specs.CoveredVariables.{covers_type}
use Rattle.run_matches.specs.CoveredExprs.{Uses, are_still, covers_group, covers_object, has_member, is_calm, is_calm_object, is_literal_value, is_nothing, keeps_object, widens}
use Rattle.run_matches.specs.CoveredLines.{covers_set_member, is_member_ordered}
use Rattle.run_matches.specs.Formed.{is_formed}
use Rattle.run_matches.specs.Frames.{OwnsAll}
use Rattle.run_matches.specs.Likeness.{LikeV, SameShape}
use Rattle.run_matches.specs.Maps.{World}
use Rattle.run_matches.specs.Match.{MemoryMatch}
use Rattle.run_matches.specs.Pledges.{Later, Pledge, still}
use Rattle.run_matches.specs.Runs.{CallsAgree}
use Rattle.run_matches.specs.Upgrades.{Upgrade}
use Rattle.run_matches.specs.UserTypes.{is_class_type}
use Rattle.run_statements.specs.Frames.{AllCalled, AnyUnits, AreReadable, ArePlaced, IsGroup, IsMember, IsOpen, IsReadable, MayChange, ScalarMatch, context_of, demands}
use Rattle.run_statements.specs.Groups.{GroupsAgree, GroupsAreWritten, ValueMatch}
use Rattle.run_statements.specs.Members.{MemberFound, MembersAgree, MembersAreFound}
use Rattle.run_statements.specs.Written.{Passes}
use Rattle.agreeing_laws.proofs.Agreeing.{agrees_weaker}
use Rattle.agreeing_laws.proofs.UserShapes.{class_written}
use Rattle.agreeing_laws.proofs.WithPlaces.{class_is}
use Rattle.line_laws.specs.Lasting.{GoOnMatching}
use Rattle.line_laws.proofs.Bounds.{some_is}
use Rattle.line_laws.proofs.Calm.{IsConstant, typed_converted}
use Rattle.line_laws.proofs.Me.{same_class}
use Rattle.line_laws.proofs.MemberLines.{member_shape, member_stands, passing_type}
use Rattle.line_laws.proofs.MemberParts.{member_set, member_target}
use Rattle.line_laws.proofs.MemberStores.{constant_stored, object_stored}
use Rattle.line_laws.proofs.MyMembers.{IsMyAddress, member_change}
use Rattle.line_laws.proofs.OwnTargets.{IsOwnTarget}
use Rattle.line_laws.proofs.Still.{frame_still}
use Rattle.agreeing_laws.proofs.StillCalls.{group_in_still}
use Rattle.agreeing_laws.proofs.PlainUses.{no_auto_use}
use Rattle.line_laws.proofs.Targets.{SameStore}
use Rattle.line_laws.proofs.Uses.{scalar_type}

-- ---- objects as values

-- an object is a scalar
pub object_value : (U : Upgrade) (u : World) (of_class : ℕ) (x : Value) (y : net_value.Value) → ValueMatch U (simple (types.class of_class)) u x y
    → ScalarMatch U (types.class of_class) u x y
object_value U u of_class (scalar ty z) y m = (z, ap (λ t. scalar t z) m.0, subst (λ t. LikeV U u (scalar t z) y) m.0 m.1)
object_value U u of_class (fields t xs) y m = absurd m.0
object_value U u of_class (elements e dims xs) y m = absurd m.0

nothing_is : (e : Expr) → is_nothing e ≡ true → (o : Origin) × (e ≡ typed types.nothing (constant v.Nothing o))
nothing_is (typed types.nothing (constant v.Nothing o)) h = (o, refl)
nothing_is (typed types.nothing (constant _ o)) h = absurd (true≢false (sym h))
nothing_is (typed types.nothing _) h = absurd (true≢false (sym h))
nothing_is (typed _ t) h = absurd (true≢false (sym h))

-- Nothing is a constant, and the only one
pub literal_object : (C : source.Context) (uses : Uses) (of_class : ℕ) (t : Term) → is_literal_value (typed (types.class of_class) t) ≡ true
    → covers_group uses (typed (types.class of_class) t) ≡ true → IsConstant C (typed (types.class of_class) t)
literal_object C uses of_class (constant x o) is covers = absurd (true≢false (sym covers))
literal_object C uses of_class (convert to e) is covers =
    let ty : Ty = types.class of_class in
    let given = both_true (uses.given ty) (is_same_type ty to && is_nothing e) covers in
    let both = both_true (is_same_type ty to) (is_nothing e) given.1 in
    let of = nothing_is e both.1 in
    subst (λ z. IsConstant C (typed ty (convert z e))) (sym (class_is of_class to both.0))
    (subst (λ d. IsConstant C (typed ty (convert ty d))) (sym of.1)
    (record {
      value = v.Nothing;
      gives = λ s.
          typed_converted C ty (typed types.nothing (constant v.Nothing of.0)) v.Nothing v.Nothing s refl (ap (λ b. b && true) (same_class of_class)) refl refl;
    }))
literal_object C uses of_class _ is covers = absurd (true≢false (sym is))

-- no user type and no object is calm, since none is a scalar
pub no_calm_group : (U : Upgrade) (T : Scope) (uses : Uses) → AreReadable U T uses → (ty : Ty) → covers_type ty ≡ false → (t : Term)
    → is_calm uses (typed ty t) ≡ true → covers_group uses (typed ty t) ≡ true → ⊥
no_calm_group U T uses readable ty none (constant x o) calm covers = true≢false (sym covers)
no_calm_group U T uses readable ty none (variable x qualified) calm covers =
    let used = (both_true (uses.scalar x && uses.named x qualified) (uses.exact x && (uses.is_of x ty && uses.relied x)) calm).0 in
    let r : IsReadable U x.0 = readable.scalars x (both_true (uses.scalar x) (uses.named x qualified) used).0 in
    let scalar = (both_true (uses.scalar x) (uses.named x qualified) used).0 in
    ⊎_elim
    (λ y.
    let o : IsGroup U x.0 ty = readable.groups x ty (both_true (uses.group x ty) (uses.named x qualified) y).0 in
    let same : r.variable.ty ≡ ty = ap (λ z. z.ty) (some_is r.variable o.known.variable (sym r.is_variable ∙ o.known.is_variable)) ∙ o.is_type in
    true≢false (sym (subst (λ z. covers_type z ≡ true) same (scalar_type U x.0 r)) ∙ none))
    (λ y. true≢false (sym (both_true (uses.auto x ty) (uses.named x qualified) y).0 ∙ no_auto_use U T uses readable x ty (inl scalar)))
    (or_cases (uses.group x ty && uses.named x qualified) (uses.auto x ty && uses.named x qualified) covers)
no_calm_group U T uses readable ty none (convert to e) calm covers =
    let given = both_true (uses.given ty) (is_class_type ty && (is_same_type ty to && is_nothing e)) covers in
    let of_class = both_true (is_class_type ty) (is_same_type ty to && is_nothing e) given.1 in
    let of = nothing_is e (both_true (is_same_type ty to) (is_nothing e) of_class.1).1 in
    let all = both_true (is_same_type to ty) (widens (type_at e) to && is_calm uses e) calm in
    let wide = (both_true (widens (type_at e) to) (is_calm uses e) all.1).0 in
    true≢false (sym (subst (λ d. widens (type_at d) to ≡ true) of.1 wide))
no_calm_group U T uses readable ty none _ calm covers = true≢false (sym calm)

-- ---- the Set

module _ (U : Upgrade) (groups : GroupsAgree U) (writes_groups : GroupsAreWritten U) (members : MembersAgree U) (finds : MembersAreFound U) (K : Pledge)
    (p : ℕ) (f : SourceFrame) (g : NetFrame) (l : SourceLine) (k : NetLine) (c : Code) (T : Scope) (declared : T.declarations ≡ U.program.declarations)
    (oracle : SourceCalls) (net_oracle : Jobs) (is_open : IsOpen (scope_of U.written c g k)) (uses : Uses) (readable : AreReadable U T uses)
    (placed : ArePlaced U p f (scope_of U.written c g k) T uses) (agree : CallsAgree U (Passes U) oracle net_oracle) (w : World) (h : MemoryMatch U w)
    (G : GoOnMatching U K p f g w) (owns : OwnsAll U K p f) where
  abbrev C : source.Context
  C = context_of U oracle p f l

  abbrev S : net_names.Scope
  S = scope_of U.written c g k

  abbrev Can : Expr → Type 0
  Can e = AllCalled (demands U K p l k S T) e

  abbrev SameSet : (to value : Expr) → Type 0
  SameSet to e =
      Agrees U K w AnyUnits (then (source.value_of C e w.src) (set_to C to)) (assignment S net_oracle (target_exp T to) (exp_of T e) w.net)

  -- a variable of the class j, which objects of another class may have, and an object of the class j
  module _ (of_class j i : ℕ) (t from : Term) (can : Can (typed (types.class j) from)) (covers_from : covers_group uses (typed (types.class j) from) ≡ true)
      (formed : is_formed (typed (types.class j) from) ≡ true) (can_object : Can (typed (types.class of_class) t)) where
    abbrev ty : Ty
    ty = types.class j

    abbrev e : Expr
    e = typed ty from

    abbrev d : Expr
    d = typed (types.class of_class) t

    abbrev to : Expr
    to = typed ty (field d i)

    abbrev Values : Pledge → World → Type 0
    Values L u = Agrees U L u (ScalarMatch U ty) (source.value_of C e u.src) (target.value_of S net_oracle (exp_of T e) u.net)

    as_scalars : (L : Pledge) (u : World)
        → Agrees U L u (ValueMatch U (simple ty)) (source.value_of C e u.src) (target.value_of S net_oracle (exp_of T e) u.net) → Values L u
    as_scalars L u x =
        agrees_weaker U L u (ValueMatch U (simple ty)) (ScalarMatch U ty) (source.value_of C e u.src) (target.value_of S net_oracle (exp_of T e) u.net)
        (λ u x y lat m. object_value U u j x y m) x

    values : (u : World) → Later U K w u → Values K u
    values u lat =
        as_scalars K u (groups K u p f g oracle net_oracle l k c T uses ty from lat.match (G u lat) declared is_open readable placed agree can covers_from formed)

    still_values : are_still uses (nodes e) ≡ true → (u : World) → Later U K w u → Values (still K u) u
    still_values is_still u lat =
        as_scalars (still K u) u
        (groups (still K u) u p f g oracle net_oracle l k c T uses ty from lat.match (frame_still U K u lat.match p f g (G u lat)) declared is_open readable placed
        agree (group_in_still U K p l k u S T uses readable e covers_from is_still can) covers_from formed)

    module _ (own : IsOwnTarget U K p f to) (m : IsMember U of_class i ty) where
      shaped : variable_shape U.program.declarations m.number ≡ simple ty
      shaped = member_shape U of_class i ty m (λ bounds. refl)

      writes : (u : World) (a : Address) (b : net_store.Address) (z : Value6) (y : net_value.Value) → MemoryMatch U u → MemberFound U K m.number u a b
          → IsMyAddress U f of_class m.number t a → LikeV U u (scalar ty z) y → Agrees U K u AnyUnits (write f.env (scalar ty z) a u.src) (net_store.written b y u.net)
      writes u a b z y start found mine like =
          let at : (q : Position) × (a ≡ source_store.root (simple ty) q) = member_stands U of_class i ty m K u a b shaped found in
          subst (λ x. Agrees U K u AnyUnits (write f.env (scalar ty z) x u.src) (net_store.written b y u.net)) (sym at.1)
          (writes_groups K u (simple ty) at.0 b f.env (scalar ty z) y
          (inr (class_written U ty m.written refl (subst (λ s. SameShape U s m.written) shaped m.same))) start (subst (λ x. Same U K u x b) at.1 found.same)
          (subst (λ x. IsTarget U x) at.1 found.target) (subst (λ x. MayChange K x) at.1 (member_change U K p f of_class m.number i ty t a own mine)) (refl, like))

      kept : keeps_object uses d e ≡ true → covers_object uses d ≡ true → SameStore U K w C S T net_oracle to e
      kept keeps covers =
          ⊎_elim
          (λ x.
          constant_stored U members finds K p f g l k c T declared oracle net_oracle is_open uses readable placed agree w h G owns ty of_class i t ty m
          (inr refl) covers can_object e writes
          (literal_object C uses j from x covers_from) values)
          (λ x.
          ⊎_elim
          (λ y.
          let both = both_true (is_calm_object uses d) (are_still uses (nodes e)) y in
          object_stored U members finds K p f g l k c T declared oracle net_oracle is_open uses readable placed agree w h G owns ty of_class i t ty m
          (inr refl) covers can_object e writes
          both.0 values (still_values both.1))
          (λ y. absurd (no_calm_group U T uses readable (types.class j) refl from (both_true (is_calm uses e) (are_still uses (nodes d)) y).0 covers_from))
          (or_cases (is_calm_object uses d && are_still uses (nodes e)) (is_calm uses e && are_still uses (nodes d)) x))
          (or_cases (is_literal_value e) ((is_calm_object uses d && are_still uses (nodes e)) || (is_calm uses e && are_still uses (nodes d))) keeps)

      kept_set : keeps_object uses d e ≡ true → covers_object uses d ≡ true → SameSet to e
      kept_set keeps covers =
          subst (λ a. Agrees U K w AnyUnits (then (source.value_of C e w.src) (set_to C to)) (assignment S net_oracle a (exp_of T e) w.net))
          (sym (member_target U of_class i ty m T declared ty t))
          (subst (λ go. Agrees U K w AnyUnits (then (source.value_of C e w.src) go) (assignment S net_oracle (exp_of T to) (exp_of T e) w.net))
          (λ n x s. sym (member_set U of_class i ty m oracle p f l ty t x s) n) (kept keeps covers))

  member_kept : (of_class j i : ℕ) (t from : Term) → Can (typed (types.class of_class) t) → Can (typed (types.class j) from)
      → covers_object uses (typed (types.class j) (field (typed (types.class of_class) t) i)) ≡ true
      → covers_group uses (typed (types.class j) from) ≡ true → is_formed (typed (types.class j) from) ≡ true
      → keeps_object uses (typed (types.class of_class) t) (typed (types.class j) from) ≡ true
      → IsOwnTarget U K p f (typed (types.class j) (field (typed (types.class of_class) t) i))
      → SameSet (typed (types.class j) (field (typed (types.class of_class) t) i)) (typed (types.class j) from)
  member_kept of_class j i t from can_object can covers_to covers_from formed keeps own =
      let d : Expr = typed (types.class of_class) t in
      let both = both_true (has_member uses (types.class of_class) i (is_same_type (types.class j))) (covers_object uses d) covers_to in
      let of = passing_type (is_same_type (types.class j)) (uses.member_type of_class i) both.0 in
      let m : IsMember U of_class i (types.class j) = subst (λ z. IsMember U of_class i z) (class_is j of.0 of.2) (readable.members of_class i of.0 of.1) in
      kept_set of_class j i t from can covers_from formed can_object own m keeps both.1

  to_class : (j : ℕ) (to from : Term) → Can (typed (types.class j) to) → Can (typed (types.class j) from) → is_member_ordered uses (typed (types.class j) to) (typed (types.class j) from) ≡ true
      → covers_object uses (typed (types.class j) to) ≡ true → covers_group uses (typed (types.class j) from) ≡ true
      → is_formed (typed (types.class j) from) ≡ true → IsOwnTarget U K p f (typed (types.class j) to) → SameSet (typed (types.class j) to) (typed (types.class j) from)
  to_class j (field (typed (types.class of_class) t) i) from can_to can ordered covers_to covers_from formed own =
      member_kept of_class j i t from can_to can covers_to covers_from formed ordered own
  to_class j (field (typed _ t) i) from can_to can ordered covers_to covers_from formed own = absurd (true≢false (sym ordered))
  to_class j _ from can_to can ordered covers_to covers_from formed own = absurd (true≢false (sym ordered))

  pub member_set_agrees : (j : ℕ) (to : Term) (e : Expr) → Can (typed (types.class j) to) → Can e → covers_set_member uses (typed (types.class j) to) e ≡ true → is_formed e ≡ true
      → IsOwnTarget U K p f (typed (types.class j) to) → SameSet (typed (types.class j) to) e
  member_set_agrees j to (typed of from) can_to can covers formed own =
      let d : Expr = typed (types.class j) to in
      let e : Expr = typed of from in
      let values : Bool = covers_object uses d && covers_group uses e in
      let first = both_true (is_member_ordered uses d e) (is_same_type (types.class j) of && values) covers in
      let second = both_true (is_same_type (types.class j) of) values first.1 in
      let third = both_true (covers_object uses d) (covers_group uses e) second.1 in
      subst
      (λ z. Can (typed z from) → is_member_ordered uses d (typed z from) ≡ true → covers_group uses (typed z from) ≡ true → is_formed (typed z from) ≡ true
      → SameSet d (typed z from))
      (sym (class_is j of second.0))
      (λ can_from ordered covers_from is. to_class j to from can_to can_from ordered third.0 covers_from is own) can first.0 third.1 formed
