-- Objects that are kept, and variables of objects: what is written reaches them.
use Rattle.std.proofs.Common.{◌≡◌, ◌⊎◌, ◌∙◌, refl, sym, ap, subst, inr, ℕ, Bool, true, false, true≢false, List, [], ◌∷◌, Option, Some, None, lt-ltb}
use Rattle.std.proofs.lemmas.Bool.{eq-eqb}
use Rattle.std.specs.Prelude.{nat_eq, nat_lt, slice_get}
use Rattle.up_base.proofs.Tests.{and_true}
use Rattle.vb_tree.specs.BoundTree as types
use Rattle.vb_tree.specs.BoundTree.{Ty}
use Rattle.vb_tree.specs.declared.declared.VarId.{VarId}
use Rattle.vb_tree.specs.declared.value.Value6.TheVariants as v6
use Rattle.bound_tree.specs.Tree.{Declarations, Expr, typed, Term, variable, field, me, with_object}
use Rattle.bound_tree.specs.declared.expression.Root as expression
use Rattle.bound_facts.specs.Members.{field_of}
use Rattle.bound_facts.specs.Node.{auto_class, variable_number}
use Rattle.net_meaning.specs.declared.value.ValueN.TheVariants as n
use Rattle.net_meaning.specs.ValueMatch.{objects_of}
use Rattle.run_base.specs.Outcomes.{Outcome, after, gives, outside, then, some_of}
use Rattle.run_base.specs.Positions as position
use Rattle.run_base.specs.Positions.{Position, whole}
use Rattle.vb6_run.specs.Expressions as source
use Rattle.vb6_run.specs.Expressions.{Context, at_field, declared}
use Rattle.vb6_run.specs.Forms.{SourceLine}
use Rattle.vb6_run.specs.Shapes.{simple, variable_shape}
use Rattle.vb6_run.specs.Store as store
use Rattle.vb6_run.specs.Store.{Address, root, Memory, SourceCalls, SourceFrame}
use Rattle.vb6_run.specs.Values.{Value, is_of_shape, scalar}
use Rattle.net_run.specs.Expressions as target
use Rattle.net_run.specs.Lines.{NetFrame, NetLine, scope_of}
use Rattle.net_run.specs.Making.{Jobs}
use Rattle.net_run.specs.Members.{Code}
use Rattle.net_run.specs.Names as net_names
use Rattle.net_run.specs.Names.{at_place}
use Rattle.net_run.specs.Shapes as shape
use Rattle.net_run.specs.Store as net
use Rattle.net_run.specs.Values as net_value
use Rattle.written_trees.specs.Exprs.{exp_of, made_if, member_of}
use Rattle.net_tree.specs.Tree.{call_of, path}
use Rattle.written_trees.specs.Conversions.{one}
use Rattle.written_trees.specs.Names.{Scope, auto_name, support, variable_name, variable_name_of, variable_path}
use Rattle.run_matches.specs.Addresses.{Same}
use Rattle.run_matches.specs.Agreeing.{Agrees}
use Rattle.run_matches.specs.CoveredExprs.{Uses, covers_place, is_passing}
use Rattle.run_matches.specs.CoveredVariables.{covers_made, covers_type}
use Rattle.run_matches.specs.Likeness.{like_scalar}
use Rattle.run_matches.specs.Maps.{World}
use Rattle.run_matches.specs.Match.{MemoryMatch}
use Rattle.run_matches.specs.Pledges.{Pledge}
use Rattle.run_matches.specs.SoundShapes.{IsSoundShape}
use Rattle.run_matches.specs.Upgrades.{Upgrade}
use Rattle.run_matches.specs.UserTypes.{is_class_type}
use Rattle.run_statements.specs.Frames.{AreReadable, CanMake, CanMakeAt, IsAutoOf, IsKnown, IsMember, IsOpen, LeadsToClass, context_of}
use Rattle.run_statements.specs.Members.{MemberFound, ReachedMember, ObjectMatch}
use Rattle.row_laws.proofs.Composing.{then_assoc, then_gives}
use Rattle.agreeing_laws.proofs.Agreeing.{agrees_gives, agrees_outside, left_alone, right_alone, then_agrees}
use Rattle.agreeing_laws.proofs.Members.{Reaches, call_leads, me_leads, member_behind, member_reaches, with_leads}
use Rattle.memory_laws.proofs.Members.{member_shape, member_sound, members_are_found}
use Rattle.run_matches.specs.Runs.{CallsAgree}
use Rattle.run_statements.specs.Objects.{ClassesAreWritten}
use Rattle.run_statements.specs.Written.{Passes}
use Rattle.expression_laws.specs.Calls.{Stands}
use Rattle.expression_laws.proofs.AutoUses.{auto_exp, use_agrees}
use Rattle.expression_laws.proofs.Autos.{AutoIs, auto_is, auto_used, here, no_variable}
use Rattle.expression_laws.proofs.ObjectMatches.{ObjectIs, no_value, object_read, reached, value_by_address}
use Rattle.expression_laws.proofs.UsedShapes.{auto_made}
use Rattle.expression_laws.proofs.BeforeArguments.{auto_before, field_before, me_before, variable_before, with_before}
use Rattle.expression_laws.proofs.Checks.{provided_agrees}
use Rattle.expression_laws.proofs.Me.{IsMe}
use Rattle.expression_laws.proofs.Places.{place_is}
use Rattle.expression_laws.proofs.Types.{both_true}
use Rattle.expression_laws.proofs.Variables.{Checked, known_none}
use Rattle.expression_laws.proofs.Withs.{HavePlaces, ObjectKept, PlaceIs, kept, missing, none_kept, placed}

-- ---- variables of objects

-- objects of a class have a variable of a type that passes
pub member_declared : (U : Upgrade) (T : Scope) (uses : Uses) → AreReadable U T uses → (test : Ty → Bool) (of_class i : ℕ) (o : Option Ty)
    → uses.member_type of_class i ≡ o → is_passing test o ≡ true → (ty : Ty) × (test ty ≡ true) × IsMember U of_class i ty
member_declared U T uses readable test of_class i None is h = absurd (true≢false (sym h))
member_declared U T uses readable test of_class i (Some ty) is h = (ty, h, readable.members of_class i ty is)

same_home : (a b : ℕ) → Some a ≡ Some b → a ≡ b
same_home a b e = cc

module _ (U : Upgrade) (K : Pledge) (p : ℕ) (f : SourceFrame) (g : NetFrame) (oracle : SourceCalls) (net_oracle : Jobs) (l : SourceLine) (k : NetLine)
    (c : Code) (T : Scope) (same_declarations : T.declarations ≡ U.program.declarations) (w : World) (start : MemoryMatch U w) where
  abbrev C : Context
  C = context_of U oracle p f l

  abbrev S : net_names.Scope
  S = scope_of U.written c g k

  abbrev D : Declarations
  D = U.program.declarations

  abbrev Is : (of_class : ℕ) → Term → Type 0
  Is of_class t = ObjectIs U K C S net_oracle T w of_class t

  module _ (of_class i : ℕ) (t : Term) (member_type : Ty) (m : IsMember U of_class i member_type) (ty : Ty) where
    abbrev e : Expr
    e = typed (types.class of_class) t

    abbrev the_member : Expr
    the_member = typed ty (field e i)

    abbrev name : List ℕ
    name = m.known.variable.name

    abbrev goes : Value → Memory → Outcome Memory source.Parts
    goes x v = gives [] (at_field x of_class (variable_shape D m.number) m.number) v

    not_made : auto_class (variable_number D.vars (field_of D (types.class of_class) i)) ≡ None
    not_made =
        ap (λ o. auto_class (variable_number D.vars o)) m.declares ∙ known_none D.vars m.number m.known.variable m.known.is_variable m.known.plain

    parts_are : source.parts_of C the_member w.src ≡ then (source.value_of C e w.src) goes
    parts_are =
        let r = source.parts_of C e w.src in
        let found = then r (source.field_parts C e i (types.class of_class)) in
        ap (λ o. then found (source.made_for C o)) not_made ∙ then_gives found
        ∙ sym (then_assoc r (source.value_in C e)
        (λ x v. some_of (field_of D (types.class of_class) i) (λ y v. gives [] (at_field x of_class (variable_shape D y) y) v) v))
        ∙ ap (λ o. then (source.value_of C e w.src) (λ x v. some_of o (λ y v. gives [] (at_field x of_class (variable_shape D y) y) v) v)) m.declares

    -- what is written is a member
    member_exp : exp_of T the_member ≡ member_of e (exp_of T e) name
    member_exp =
        ap (λ (E : Declarations). made_if E (auto_class (variable_number E.vars (field_of E (types.class of_class) i)))
        (member_of e (exp_of T e) (variable_name E (field_of E (types.class of_class) i)))) same_declarations
        ∙ ap (λ o. made_if D o (member_of e (exp_of T e) (variable_name D (field_of D (types.class of_class) i)))) not_made
        ∙ ap (λ o. member_of e (exp_of T e) (variable_name D o)) m.declares ∙ ap (λ o. member_of e (exp_of T e) (variable_name_of o)) m.known.is_variable

    member_there : (v : World) (x : Value) (a : net.Address) → ObjectMatch U of_class v x a
        → ReachedMember U of_class m.number v (at_field x of_class (variable_shape D m.number) m.number) (net_names.member_at S a name v.net)
    member_there v x a o =
        let y : net_value.Value = net.looked_up a v.net in (
          net_names.at_field m.written y m.key,
          ap (λ d. net_names.member_by S a d name v.net) (o.shaped ∙ ap shape.class (same_home o.home m.home (sym o.is_home ∙ m.is_home))) ∙ m.leads S y refl,
          record {
            object = o.like.0;
            stands = ap (λ z. at_field z of_class (variable_shape D m.number) m.number) o.like.1;
            written = m.written;
            net_object = y;
            key = m.key;
            net_stands = refl;
            is_key = m.is_key;
            same = m.same;
            like = o.like.2;
          },
        )

    absent : source.value_of C e w.src ≡ outside [] → source.parts_of C the_member w.src ≡ outside []
    absent none = parts_are ∙ ap (λ z. then z goes) none

    -- its parts
    pub member_parts : ObjectIs U K (context_of U oracle p f l) (scope_of U.written c g k) net_oracle T w of_class t
        → Agrees U K w (ReachedMember U of_class m.number)
        (source.parts_of (context_of U oracle p f l) (typed ty (field (typed (types.class of_class) t) i)) w.src)
        (target.reach (scope_of U.written c g k) net_oracle false (exp_of T (typed ty (field (typed (types.class of_class) t) i))) w.net)
    member_parts (no_value none) =
        let r' = target.reach S net_oracle false (exp_of T the_member) w.net in
        subst (λ z. Agrees U K w (ReachedMember U of_class m.number) z r') (sym (absent none)) (agrees_outside U K w (ReachedMember U of_class m.number) r')
    member_parts (reached r leads before agrees) =
        let R = ReachedMember U of_class m.number in
        subst (λ z. Agrees U K w R z (target.reach S net_oracle false (exp_of T the_member) w.net)) (sym parts_are)
        (subst (λ z. Agrees U K w R (then (source.value_of C e w.src) goes) z)
        (sym ((member_reaches S net_oracle T e r leads ty i name member_exp).reached refl w.net))
        (then_agrees U K w (ObjectMatch U of_class) R (source.value_of C e w.src) (target.address_from S net_oracle (r w.net)) goes
        (λ a v. gives [] (net_names.member_at S a name v) v) start agrees
        (λ x a v o later.
        agrees_gives U K v R (at_field x of_class (variable_shape D m.number) m.number) (net_names.member_at S a name v.net) later.match
        (member_there v x a o))))

    module _ (of : (covers_type member_type ≡ true) ⊎ (is_class_type member_type ≡ true))
        (object : ObjectIs U K (context_of U oracle p f l) (scope_of U.written c g k) net_oracle T w of_class t) where
      -- its address, where there is an object
      member_found : Agrees U K w (MemberFound U K m.number) (source.address_of C the_member w.src) (target.address_of S net_oracle (exp_of T the_member) w.net)
      member_found =
          let Q = MemberFound U K m.number in
          let r' = target.reach S net_oracle false (exp_of T the_member) w.net in
          subst (λ z. Agrees U K w Q (source.address_of C the_member w.src) z) (sym (then_assoc r' (target.parts_by S net_oracle) target.finished))
          (then_agrees U K w (ReachedMember U of_class m.number) Q (source.parts_of C the_member w.src) r' source.finished
          (λ z v. then (target.parts_by S net_oracle z v) target.finished) start (member_parts object)
          (λ x z v there later.
          subst (λ y. Agrees U K v Q (source.finished x v.src) (then (target.parts_by S net_oracle y v.net) target.finished)) (sym there.1)
          (right_alone U K v Q (source.finished x v.src) (target.finished there.0 v.net)
          (members_are_found U K v of_class i member_type m x there.0 of later.match there.2))))

      -- what is read there
      pub member_read : {B : Type 0} (Q : World → Value → B → Type 0) (go : net.Address → net.Memory → Outcome net.Memory B)
          → ((a : Address) (b : net.Address) (v : World) → MemberFound U K m.number v a b → MemoryMatch U v
          → Agrees U K v Q (then (store.read a v.src) (Checked (context_of U oracle p f l) ty)) (go b v.net))
          → Agrees U K w Q (source.value_of (context_of U oracle p f l) (typed ty (field (typed (types.class of_class) t) i)) w.src)
          (then
          (target.address_of (scope_of U.written c g k) net_oracle (exp_of T (typed ty (field (typed (types.class of_class) t) i))) w.net) go)
      member_read Q go reads =
          let b = target.address_of S net_oracle (exp_of T the_member) w.net in
          subst (λ z. Agrees U K w Q z (then b go)) (sym (value_by_address C the_member w.src))
          (then_agrees U K w (MemberFound U K m.number) Q (source.address_of C the_member w.src) b (λ a v. then (store.read a v) (Checked C ty)) go start member_found
          (λ a b v found later. reads a b v found later.match))

  -- an object that is a variable of one
  module _ (of_class i : ℕ) (t : Term) (d : ℕ) (m : IsMember U of_class i (types.class d)) where
    abbrev inner : Expr
    inner = typed (types.class of_class) t

    abbrev whole_object : Expr
    whole_object = typed (types.class d) (field inner i)

    reads : (a : Address) (b : net.Address) (v : World) → MemberFound U K m.number v a b → MemoryMatch U v
        → Agrees U K v (ObjectMatch U d) (then (store.read a v.src) (Checked C (types.class d))) (gives [] b v.net)
    reads a b v found match =
        let q : Position = whole (position.field found.object (m.number ∷ [])) in
        let shaped : variable_shape D m.number ≡ simple (types.class d) = member_shape U of_class i (types.class d) m (inr refl) in
        let is : a ≡ root (simple (types.class d)) q = found.stands ∙ ap (λ s. root s q) shaped in
        subst (λ z. Agrees U K v (ObjectMatch U d) (then (store.read z v.src) (Checked C (types.class d))) (gives [] b v.net)) (sym is)
        (object_read U K C d q b v (subst (λ s. IsSoundShape U s) shaped (member_sound U of_class i (types.class d) m (inr refl))) match
        (subst (λ z. Same U K v z b) is found.same))

    pub member_is : ObjectIs U K (context_of U oracle p f l) (scope_of U.written c g k) net_oracle T w of_class t
        → ObjectIs U K (context_of U oracle p f l) (scope_of U.written c g k) net_oracle T w d (field (typed (types.class of_class) t) i)
    member_is (no_value none) = no_value (ap (λ z. then z (source.value_in C whole_object)) (absent of_class i t (types.class d) m (types.class d) none))
    member_is (reached r leads before agrees) =
        let name = m.known.variable.name in
        let there : Reaches S net_oracle T whole_object (member_behind S net_oracle r name) =
        member_reaches S net_oracle T inner r leads (types.class d) i name (member_exp of_class i t (types.class d) m (types.class d)) in
        reached (member_behind S net_oracle r name) there (field_before S net_oracle T (types.class d) inner i)
        (subst (λ z. Agrees U K w (ObjectMatch U d) (source.value_of C whole_object w.src) (target.address_from S net_oracle z)) (there.reached refl w.net)
        (subst (λ z. Agrees U K w (ObjectMatch U d) (source.value_of C whole_object w.src) z)
        (then_gives (target.address_of S net_oracle (exp_of T whole_object) w.net))
        (member_read of_class i t (types.class d) m (types.class d) (inr refl) (reached r leads before agrees) (ObjectMatch U d) (λ b v. gives [] b v) reads)))

  -- ---- what keeps an object

  module _ (uses : Uses) (readable : AreReadable U T uses) (have : HavePlaces U p f g oracle net_oracle l k c T uses K w)
      (opened : IsOpen (scope_of U.written c g k)) (agree : CallsAgree U (Passes U) oracle net_oracle) (classes : ClassesAreWritten U)
      (stands : Stands U K w p f g) where
    -- an As New variable, whose use makes an object
    pub auto_use : (d : ℕ) (v : VarId) (qualified : Bool) → CanMakeAt U K (scope_of U.written c g k) T v.0 → uses.auto v (types.class d) ≡ true
        → uses.named v qualified ≡ true
        → ObjectIs U K (context_of U oracle p f l) (scope_of U.written c g k) net_oracle T w d (variable v qualified)
    auto_use d v qualified can used named = by (auto_is U K p f g oracle net_oracle l k c T uses readable w have.variables d v qualified used named)
      where
        the_variable : Expr
        the_variable = typed (types.class d) (variable v qualified)

        one_of : IsAutoOf U v.0 d × (covers_made U.program d ≡ true)
        one_of = auto_used U T uses readable d v used

        making : CanMake U K S T d × LeadsToClass U S T d
        making = can d (auto_made U v.0 d one_of.0) one_of.1

        by : AutoIs U K C S net_oracle T w d v qualified → Is d (variable v qualified)
        by (no_variable none) =
            no_value (ap (λ z. then (then z (source.as_new C (variable v qualified))) (source.value_in C the_variable)) (none w.src))
        by (here x) =
            let is =
            auto_exp U K p f g oracle net_oracle l k c T same_declarations opened agree w start stands d v qualified one_of.0 (classes d one_of.1) making.0
            making.1 x in
            let makes = path (support (auto_name T.declarations d)) in
            let to = one (path (variable_path T qualified v.0)) in
            reached (λ t. target.reach S net_oracle false (call_of makes to) t) (call_leads S net_oracle T the_variable makes to is (λ name. refl))
            (auto_before S net_oracle T (types.class d) v qualified makes to is)
            (use_agrees U K p f g oracle net_oracle l k c T same_declarations opened agree w start stands d v qualified one_of.0 (classes d one_of.1) making.0
            making.1 x)

    -- another variable
    pub variable_is : (d : ℕ) (v : VarId) (qualified : Bool) → covers_place uses (typed (types.class d) (variable v qualified)) ≡ true
        → CanMakeAt U K (scope_of U.written c g k) T v.0
        → ObjectIs U K (context_of U oracle p f l) (scope_of U.written c g k) net_oracle T w d (variable v qualified)
    variable_is d v qualified covers can =
        by
        (place_is U K p f g oracle net_oracle l k c T uses same_declarations readable w have (types.class d) (variable v qualified) can covers)
      where
        the_variable : Expr
        the_variable = typed (types.class d) (variable v qualified)

        known : IsKnown U v.0
        known = (readable.groups v (types.class d) (both_true (uses.group v (types.class d)) (uses.named v qualified) covers).0).known

        declared : slice_get T.declarations.vars v.0 ≡ Some known.variable
        declared = ap (λ (E : Declarations). slice_get E.vars v.0) same_declarations ∙ known.is_variable

        by : PlaceIs U K C S net_oracle T w (types.class d) the_variable → Is d (variable v qualified)
        by (missing none) = no_value (ap (λ z. then z (source.value_in C the_variable)) (none w.src))
        by (placed r plain x) =
            let a : Address = root (simple (types.class d)) x.position in
            reached (λ t. gives [] (at_place x.address) t) x.written (variable_before S net_oracle T (types.class d) v qualified known.variable declared known.plain)
            (subst (λ z. Agrees U K w (ObjectMatch U d) z (gives [] x.address w.net))
            (sym (value_by_address C the_variable w.src
            ∙ ap (λ z. then (then z source.finished) (λ a v. then (store.read a v) (Checked C (types.class d)))) (x.found w.src)))
            (left_alone U K w (ObjectMatch U d) (then (store.read a w.src) (Checked C (types.class d))) (gives [] x.address w.net)
            (object_read U K C d x.position x.address w x.sound start x.same)))

    -- Me
    pub mine_is : (d : ℕ) → IsMe U f (scope_of U.written c g k) w d
        → ObjectIs U K (context_of U oracle p f l) (scope_of U.written c g k) net_oracle T w d me
    mine_is d x =
        reached (λ t. gives [] (at_place (target.own_object S)) t) (me_leads S net_oracle T (types.class d)) (me_before S net_oracle T (types.class d)) agrees
      where
        z : Value
        z = scalar (types.class d) (v6.Object x.object)

        b : net.Address
        b = net.constant (shape.class x.home) (net_value.single (n.Object (w.map.objects x.object)))

        is : Outcome Memory Value
        is = Checked C (types.class d) z w.src

        value_is : source.value_of C (typed (types.class d) me) w.src ≡ after [] (after [] is)
        value_is =
            ap (λ o. then (then (source.me_value (types.class d) o w.src) (source.as_new C me)) (source.value_in C (typed (types.class d) me))) x.is_me

        there : ObjectMatch U d w z b
        there = record {
          like = (
            v6.Object x.object,
            refl,
            like_scalar (types.class d) (v6.Object x.object) (n.Object (w.map.objects x.object))
                (objects_of d x.object (w.map.objects x.object)
                (and_true (nat_lt x.object w.src.next_object) (nat_eq (w.map.objects x.object) (w.map.objects x.object))
                (lt-ltb x.object w.src.next_object x.is_made) (eq-eqb (w.map.objects x.object) (w.map.objects x.object) refl))),
          );
          home = x.home;
          is_home = x.is_home;
          shaped = refl;
        }

        agrees : Agrees U K w (ObjectMatch U d) (source.value_of C (typed (types.class d) me) w.src) (gives [] (target.own_object S) w.net)
        agrees =
            subst (λ y. Agrees U K w (ObjectMatch U d) (source.value_of C (typed (types.class d) me) w.src) (gives [] y w.net)) (sym x.written)
            (subst (λ y. Agrees U K w (ObjectMatch U d) y (gives [] b w.net)) (sym value_is)
            (left_alone U K w (ObjectMatch U d) (after [] is) (gives [] b w.net)
            (left_alone U K w (ObjectMatch U d) is (gives [] b w.net)
            (provided_agrees U K w (ObjectMatch U d) (is_of_shape (source.type_shape (declared C) (types.class d)) z) z (gives [] b w.net)
            (λ ok. agrees_gives U K w (ObjectMatch U d) z b start there)))))

    -- what a With keeps
    pub with_is : (d : ℕ) (r : expression.Root)
        → ObjectKept U (context_of U oracle p f l) (scope_of U.written c g k) w d (typed (types.class d) (with_object r))
        → ObjectIs U K (context_of U oracle p f l) (scope_of U.written c g k) net_oracle T w d (with_object r)
    with_is d r (none_kept none) = no_value (ap (λ z. then z (source.value_in C (typed (types.class d) (with_object r)))) (none w.src))
    with_is d r (kept x) =
        reached (λ t. gives [] (at_place S.around) t) (with_leads S net_oracle T (types.class d) r) (with_before S net_oracle T (types.class d) r) agrees
      where
        z : Value
        z = scalar (types.class d) x.object

        b : net.Address
        b = net.constant (shape.class x.home) x.value

        is : Outcome Memory Value
        is = Checked C (types.class d) z w.src

        value_is : source.value_of C (typed (types.class d) (with_object r)) w.src ≡ after [] (after [] is)
        value_is = ap (λ o. then o (source.value_in C (typed (types.class d) (with_object r)))) (x.found w.src)

        there : ObjectMatch U d w z b
        there = record { like = (x.object, refl, x.like); home = x.home; is_home = x.is_home; shaped = refl }

        agrees : Agrees U K w (ObjectMatch U d) (source.value_of C (typed (types.class d) (with_object r)) w.src) (gives [] S.around w.net)
        agrees =
            subst (λ y. Agrees U K w (ObjectMatch U d) (source.value_of C (typed (types.class d) (with_object r)) w.src) (gives [] y w.net)) (sym x.around)
            (subst (λ y. Agrees U K w (ObjectMatch U d) y (gives [] b w.net)) (sym value_is)
            (left_alone U K w (ObjectMatch U d) (after [] is) (gives [] b w.net)
            (left_alone U K w (ObjectMatch U d) is (gives [] b w.net)
            (provided_agrees U K w (ObjectMatch U d) (is_of_shape (source.type_shape (declared C) (types.class d)) z) z (gives [] b w.net)
            (λ ok. agrees_gives U K w (ObjectMatch U d) z b start there)))))
