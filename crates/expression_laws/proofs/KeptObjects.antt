-- Objects that are kept or given: what is written reaches them.
use Rattle.std.proofs.Common.{◌≡◌, refl, ⊎_elim, ◌||◌, ◌&&◌, ◌∙◌, sym, ap, subst, ℕ, Bool, true, true≢false}
use Rattle.vb_tree.specs.BoundTree as types
use Rattle.vb_tree.specs.BoundTree.{Ty}
use Rattle.bound_tree.specs.Tree.{Expr, typed, Term, variable, field, call, me, with_object, Object, no_object, of_object, no_passed}
use Rattle.bound_facts.specs.Locks.{is_same_type}
use Rattle.vb6_run.specs.Expressions as source
use Rattle.vb6_run.specs.Expressions.{Context}
use Rattle.vb6_run.specs.Forms.{SourceLine}
use Rattle.vb6_run.specs.Store.{SourceCalls, SourceFrame}
use Rattle.net_run.specs.Expressions as target
use Rattle.net_run.specs.Lines.{NetFrame, NetLine, scope_of}
use Rattle.net_run.specs.Making.{Jobs}
use Rattle.net_run.specs.Members.{Code}
use Rattle.net_run.specs.Names as net_names
use Rattle.written_trees.specs.Exprs.{exp_of}
use Rattle.written_trees.specs.Names.{Scope}
use Rattle.run_matches.specs.CoveredExprs.{Uses, covers_object, covers_receiver, has_member}
use Rattle.run_matches.specs.Agreeing.{Agrees}
use Rattle.run_matches.specs.Formed.{is_formed}
use Rattle.run_matches.specs.Maps.{World}
use Rattle.run_matches.specs.Match.{MemoryMatch}
use Rattle.run_matches.specs.Pledges.{Pledge}
use Rattle.run_matches.specs.Runs.{CallsAgree}
use Rattle.run_matches.specs.Upgrades.{Upgrade}
use Rattle.run_statements.specs.Frames.{AllCalled, AllCalledOf, AreReadable, IsMember, IsOpen, context_of, demands}
use Rattle.run_statements.specs.Members.{ObjectMatch}
use Rattle.run_statements.specs.Objects.{ClassesAreWritten}
use Rattle.run_statements.specs.Written.{Passes}
use Rattle.agreeing_laws.proofs.Agreeing.{agrees_outside}
use Rattle.agreeing_laws.proofs.Members.{is_alone}
use Rattle.expression_laws.specs.Calls.{Stands}
use Rattle.expression_laws.specs.Statements.{MembersAgreeBy, ObjectsAgreeBy}
use Rattle.expression_laws.proofs.Arguments.{stands_now}
use Rattle.expression_laws.proofs.GivenObjects.{given_is}
use Rattle.expression_laws.proofs.Me.{numbered}
use Rattle.expression_laws.proofs.ObjectMatches.{ObjectIs, no_value, reached}
use Rattle.expression_laws.proofs.Objects.{auto_use, member_declared, member_is, member_parts, mine_is, variable_is, with_is}
use Rattle.expression_laws.proofs.Receivers.{ReceiverIs, for_none, for_object, object_class}
use Rattle.expression_laws.proofs.Types.{both_true, either_true, same_class}
use Rattle.expression_laws.proofs.Withs.{HavePlaces, places_now}

both_are : (a b : Bool) → a ≡ true → b ≡ true → (a && b) ≡ true
both_are a b e f = ap (λ x. x && b) e ∙ f

module _ (U : Upgrade) (K : Pledge) (p : ℕ) (f : SourceFrame) (g : NetFrame) (oracle : SourceCalls) (net_oracle : Jobs) (l : SourceLine) (k : NetLine)
    (c : Code) (T : Scope) (uses : Uses) (same_declarations : T.declarations ≡ U.program.declarations) (readable : AreReadable U T uses) (w : World)
    (start : MemoryMatch U w) (have : HavePlaces U p f g oracle net_oracle l k c T uses K w) (opened : IsOpen (scope_of U.written c g k))
    (agree : CallsAgree U (Passes U) oracle net_oracle) (classes : ClassesAreWritten U) (stands : Stands U K w p f g) where
  mutual
    pub object_is : (d : ℕ) (t : Term) → AllCalled (demands U K p l k (scope_of U.written c g k) T) (typed (types.class d) t)
        → covers_object uses (typed (types.class d) t) ≡ true
        → ObjectIs U K (context_of U oracle p f l) (scope_of U.written c g k) net_oracle T w d t
    object_is d (variable v qualified) can covers =
        let both = both_true (uses.group v (types.class d) || uses.auto v (types.class d)) (uses.named v qualified) covers in
        ⊎_elim (λ group.
        variable_is U K p f g oracle net_oracle l k c T same_declarations w start uses readable have opened agree classes stands d v qualified
        (both_are (uses.group v (types.class d)) (uses.named v qualified) group both.1) can)
        (λ auto.
        auto_use U K p f g oracle net_oracle l k c T same_declarations w start uses readable have opened agree classes stands d v qualified can auto both.1)
        (either_true (uses.group v (types.class d)) (uses.auto v (types.class d)) both.0)
    object_is d (field (typed (types.class of_class) t) i) can covers =
        let both = both_true (has_member uses (types.class of_class) i (is_same_type (types.class d))) (covers_object uses (typed (types.class of_class) t)) covers in
        let x = member_declared U T uses readable (is_same_type (types.class d)) of_class i (uses.member_type of_class i) refl both.0 in
        member_is U K p f g oracle net_oracle l k c T same_declarations w start of_class i t d
        (subst (λ z. IsMember U of_class i z) (same_class d x.0 x.1) x.2) (object_is of_class t can both.1)
    object_is d (field (typed _ t) i) can covers = absurd (true≢false (sym covers))
    object_is d me can covers =
        mine_is U K p f g oracle net_oracle l k c T same_declarations w start uses readable have opened agree classes stands d
        (have.me d (numbered d uses.me covers))
    object_is d (with_object r) can covers =
        with_is U K p f g oracle net_oracle l k c T same_declarations w start uses readable have opened agree classes stands d r (have.objects d r can)
    object_is d (call q qualified of no_passed) can covers =
        let results : Bool = uses.results q.0 (types.class d) && covers_receiver uses of in
        let inner = both_true (uses.gives q.0) results (both_true (uses.given (types.class d)) (uses.gives q.0 && results) covers).1 in
        let both = both_true (uses.results q.0 (types.class d)) (covers_receiver uses of) inner.1 in
        given_is U K p f g oracle net_oracle l k c T same_declarations agree w start stands d q qualified (readable.gives q.0 inner.0)
        (readable.results q.0 (types.class d) both.0) of can.0 (receiver_is of can.2 both.1)
    object_is d _ can covers = absurd (true≢false (sym covers))

    pub receiver_is : (of : Object) → AllCalledOf (demands U K p l k (scope_of U.written c g k) T) of → covers_receiver uses of ≡ true
        → ReceiverIs U K (context_of U oracle p f l) (scope_of U.written c g k) net_oracle T w of
    receiver_is no_object can covers = for_none
    receiver_is (of_object (typed ty t)) can covers =
        let x = object_class uses ty t covers in
        subst (λ z. ReceiverIs U K (context_of U oracle p f l) (scope_of U.written c g k) net_oracle T w (of_object (typed z t))) (sym x.1)
        (for_object x.0 t
        (object_is x.0 t (subst (λ z. AllCalled (demands U K p l k (scope_of U.written c g k) T) (typed z t)) x.1 can)
        (subst (λ z. covers_object uses (typed z t) ≡ true) x.1 covers)))

-- what is formed is no object of a With, for which nothing is written by itself
formed_alone : (ty : Ty) (t : Term) → is_formed (typed ty t) ≡ true → is_alone (typed ty t) ≡ true
formed_alone ty (with_object r) h = h
formed_alone ty _ h = refl

-- ---- the laws

pub members_agree_by : (U : Upgrade) → ClassesAreWritten U → (K : Pledge) → MembersAgreeBy U K
members_agree_by U classes K w p f g oracle net_oracle l k c T uses ty of_class i tm member_type m start frames declarations opened readable there agree can
    covers =
    member_parts U K p f g oracle net_oracle l k c T declarations w start of_class i tm member_type m ty
    (object_is U K p f g oracle net_oracle l k c T uses declarations readable w start
    (places_now U p f g oracle net_oracle l k c T uses K w frames start declarations readable there) opened agree classes (stands_now U K w p f g frames)
    of_class tm can covers)

pub objects_agree_by : (U : Upgrade) → ClassesAreWritten U → (K : Pledge) → ObjectsAgreeBy U K
objects_agree_by U classes K w p f g oracle net_oracle l k c T uses of_class tm start frames declarations opened readable there agree can covers formed =
    by
    (object_is U K p f g oracle net_oracle l k c T uses declarations readable w start
    (places_now U p f g oracle net_oracle l k c T uses K w frames start declarations readable there) opened agree classes (stands_now U K w p f g frames)
    of_class tm can covers)
  where
    C : Context
    C = context_of U oracle p f l

    S : net_names.Scope
    S = scope_of U.written c g k

    e : Expr
    e = typed (types.class of_class) tm

    Goal : Type 0
    Goal = Agrees U K w (ObjectMatch U of_class) (source.value_of C e w.src) (target.address_of S net_oracle (exp_of T e) w.net)

    by : ObjectIs U K C S net_oracle T w of_class tm → Goal
    by (no_value none) =
        let r' = target.address_of S net_oracle (exp_of T e) w.net in
        subst (λ z. Agrees U K w (ObjectMatch U of_class) z r') (sym none) (agrees_outside U K w (ObjectMatch U of_class) r')
    by (reached r leads before agrees) =
        subst (λ z. Agrees U K w (ObjectMatch U of_class) (source.value_of C e w.src) (target.address_from S net_oracle z))
        (sym (leads.reached (formed_alone (types.class of_class) tm formed) w.net)) agrees
