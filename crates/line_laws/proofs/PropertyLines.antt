-- An assignment or a Set of a property does the same as what is written for it.
use Rattle.std.proofs.Common.{◌≡◌, ◌∙◌, ◌⊎◌, inl, inr, refl, sym, ap, subst, ⊎_elim, ℕ, Bool, true, false, not, ◌&&◌, ◌||◌, Option, Some, List, [], ◌++◌, true≢false}
use Rattle.std.proofs.lemmas.Bool.{or_cases, or_right}
use Rattle.vb_tree.specs.BoundTree as types
use Rattle.vb_tree.specs.BoundTree.{Ty}
use Rattle.vb_tree.specs.declared.declared.ProcId.{ProcId}
use Rattle.vb_tree.specs.declared.value.Value6.{Value6}
use Rattle.bound_tree.specs.Tree.{Declarations, Expr, typed, Term, constant, variable, field, call, convert, me, new_object, Object, no_object, of_object, Passed, no_passed, next_passed}
use Rattle.bound_facts.proofs.Chains.{both_true}
use Rattle.bound_facts.specs.Locks.{is_same_type}
use Rattle.bound_facts.specs.Node.{called, type_at}
use Rattle.bound_facts.specs.Nodes.{nodes, nodes_of_object, nodes_of_passed}
use Rattle.net_tree.specs.Tree as net
use Rattle.run_base.specs.Outcomes.{gives, then}
use Rattle.written_trees.specs.Exprs.{exp_of, has_none}
use Rattle.written_trees.specs.Names.{Scope}
use Rattle.written_trees.specs.Puts.{store_line}
use Rattle.vb6_run.specs.Expressions as source
use Rattle.vb6_run.specs.Expressions.{caller, receiver}
use Rattle.vb6_run.specs.Forms.{SourceLine}
use Rattle.vb6_run.specs.Shapes.{simple, user_shapes}
use Rattle.vb6_run.specs.Store.{Memory, SourceCalls, SourceFrame, SourceGiven}
use Rattle.vb6_run.specs.Values.{Value, scalar}
use Rattle.net_run.specs.Expressions as target
use Rattle.net_run.specs.Lines.{NetFrame, NetLine, scope_of}
use Rattle.net_run.specs.Making.{Jobs}
use Rattle.net_run.specs.Members.{Code}
use Rattle.net_run.specs.Names as net_names
use Rattle.net_run.specs.Values as net_value
use Rattle.run_matches.specs.Agreeing.{Agrees}
use Rattle.run_matches.specs.CoveredExprs.{Uses, are_still, count_passed, is_auto_use, is_new, is_seen_inward, covers_base, covers_expr, covers_group, covers_object, covers_object_term, covers_passed, covers_receiver, covers_term, has_inner, has_member, is_calm, is_calm_object, is_class_of, is_literal_value, is_nothing, keeps_object}
use Rattle.run_matches.specs.CoveredLines.{are_calm_passed, are_parts_ordered, covers_property, covers_property_term, is_calm_receiver, is_object, is_property_ordered, is_receiver_ordered, is_with_term}
use Rattle.run_matches.specs.CoveredVariables.{covers_group_type, covers_type}
use Rattle.run_matches.specs.Formed.{is_formed, passed_are_formed}
use Rattle.run_matches.specs.Frames.{OwnsAll}
use Rattle.run_matches.specs.Maps.{World}
use Rattle.run_matches.specs.Match.{MemoryMatch}
use Rattle.run_matches.specs.Pledges.{Later, Pledge, still}
use Rattle.run_matches.specs.Runs.{CallsAgree}
use Rattle.run_matches.specs.Upgrades.{Upgrade}
use Rattle.run_matches.specs.UserTypes.{is_class_type, is_group_type}
use Rattle.run_statements.specs.Frames.{AllCalled, AreReadable, ArePlaced, ExpressionsAgree, IsOpen, ScalarMatch, context_of, demands, type_shape}
use Rattle.run_statements.specs.Groups.{GroupsAgree, ValueMatch}
use Rattle.run_statements.specs.Properties.{MayFollow, PropertiesAreSet, SettersAgree}
use Rattle.run_statements.specs.Written.{Passes}
use Rattle.agreeing_laws.proofs.Agreeing.{agrees_later, agrees_weaker}
use Rattle.agreeing_laws.proofs.Lasting.{later_now}
use Rattle.agreeing_laws.proofs.WithPlaces.{class_is, same_user}
use Rattle.line_laws.specs.Lasting.{GoOnMatching}
use Rattle.line_laws.proofs.Calm.{Gives, IsConstant, literal_is_constant}
use Rattle.line_laws.proofs.Copies.{copy_is}
use Rattle.line_laws.proofs.MemberSets.{literal_object, no_calm_group}
use Rattle.line_laws.proofs.CalmArguments.{calm_passed}
use Rattle.line_laws.proofs.CalmObjects.{calm_object}
use Rattle.line_laws.proofs.CalmProperties.{object_set}
use Rattle.line_laws.proofs.PropertyStores.{alone_set, calm_set, constant_set, parts_known}
use Rattle.line_laws.proofs.Standing.{Stable, calm_known}
use Rattle.line_laws.proofs.Still.{frame_still}
use Rattle.agreeing_laws.proofs.StillCalls.{all_left, all_right, called_in_still, group_in_still}
use Rattle.line_laws.proofs.Stores.{line_is, same_type}
use Rattle.line_laws.proofs.TakenTypes.{group_taken, no_scalar}
use Rattle.line_laws.proofs.Targets.{SameStore}
use Rattle.line_laws.proofs.Uses.{simple_type}

-- ---- types

-- a property of a type that has values
same_from : (s t : Ty) → (covers_type t || is_group_type t) ≡ true → is_same_type s t ≡ true → s ≡ t
same_from types.boolean t good e = sym (same_type types.boolean t refl e)
same_from types.byte t good e = sym (same_type types.byte t refl e)
same_from types.integer t good e = sym (same_type types.integer t refl e)
same_from types.long t good e = sym (same_type types.long t refl e)
same_from types.currency t good e = sym (same_type types.currency t refl e)
same_from types.str t good e = sym (same_type types.str t refl e)
same_from (types.user n) t good e = sym (same_user n t e)
same_from (types.class n) t good e = sym (class_is n t e)
same_from (types.fixed n) (types.fixed m) good e = absurd (true≢false (sym good))
same_from (types.array x n) (types.array y m) good e = absurd (true≢false (sym good))
same_from types.object types.object good e = absurd (true≢false (sym good))
same_from types.variant types.variant good e = absurd (true≢false (sym good))
same_from types.nothing types.nothing good e = absurd (true≢false (sym good))
same_from types.unknown types.unknown good e = absurd (true≢false (sym good))
same_from _ _ good e = absurd (true≢false (sym e))

group_kind : (D : Declarations) (ty : Ty) → covers_group_type D ty ≡ true → is_group_type ty ≡ true
group_kind D (types.user t) h = refl
group_kind D (types.class c) h = refl
group_kind D _ h = absurd (true≢false (sym h))

class_kind : (ty : Ty) → is_class_type ty ≡ true → is_group_type ty ≡ true
class_kind (types.class c) h = refl
class_kind _ h = absurd (true≢false (sym h))

of_class_kind : (o : Option ℕ) (ty : Ty) → is_class_of o ty ≡ true → is_group_type ty ≡ true
of_class_kind o (types.class c) h = refl
of_class_kind o _ h = absurd (true≢false (sym h))

inner_kind : (uses : Uses) (of : Ty) (k : ℕ) (ty : Ty) → has_inner uses of k ty ≡ true → is_group_type ty ≡ true
inner_kind uses of k (types.user t) h = refl
inner_kind uses of k _ h = absurd (true≢false (sym h))

-- a scalar as a value of a shape
whole : (U : Upgrade) (u : World) (ty : Ty) (x : Value) (y : net_value.Value) → covers_type ty ≡ true → ScalarMatch U ty u x y → ValueMatch U (type_shape U ty) u x y
whole U u ty x y c m =
    subst (λ s. ValueMatch U s u x y) (sym (simple_type (user_shapes U.program.declarations) [] ty c))
    (subst (λ z. ValueMatch U (simple ty) u z y) (sym m.1) (refl, m.2))

-- ---- values

literal_group : (C : source.Context) (uses : Uses) (ty : Ty) (t : Term) → is_literal_value (typed ty t) ≡ true → covers_group uses (typed ty t) ≡ true
    → IsConstant C (typed ty t)
literal_group C uses (types.class c) t literal covers = literal_object C uses c t literal covers
literal_group C uses ty (constant x o) literal covers = absurd (true≢false (sym covers))
literal_group C uses ty (convert to e) literal covers =
    absurd (true≢false (sym (both_true (uses.given ty) (false && (is_same_type ty to && is_nothing e)) covers).1))
literal_group C uses ty _ literal covers = absurd (true≢false (sym literal))

module _ (U : Upgrade) (T : Scope) (uses : Uses) (readable : AreReadable U T uses) where
  value_kind : (ty : Ty) (t : Term) → covers_group uses (typed ty t) ≡ true → is_group_type ty ≡ true
  value_kind ty (variable v qualified) covers =
      ⊎_elim
      (λ x. group_kind U.program.declarations ty (readable.groups v ty (both_true (uses.group v ty) (uses.named v qualified) x).0).covers)
      (λ x. ap is_group_type (readable.autos v ty (both_true (uses.auto v ty) (uses.named v qualified) x).0).1)
      (or_cases (uses.group v ty && uses.named v qualified) (uses.auto v ty && uses.named v qualified) covers)
  value_kind ty (field e k) covers =
      let object : Bool = covers_object_term uses ty (field e k) in
      ⊎_elim (λ x. inner_kind uses (type_at e) k ty (both_true (has_inner uses (type_at e) k ty) (covers_base uses e) x).0)
      (λ x. class_kind ty (both_true (is_class_type ty) (has_member uses (type_at e) k (is_same_type ty) && covers_object uses e) x).0)
      (or_cases (has_inner uses (type_at e) k ty && covers_base uses e) object covers)
  value_kind ty (call p qualified of args) covers =
      group_kind U.program.declarations ty
      (readable.given ty (both_true (uses.given ty) (uses.gives p.0 && (covers_receiver uses of && covers_passed uses args)) covers).0)
  value_kind ty me covers = of_class_kind uses.me ty covers
  value_kind ty (new_object c) covers = of_class_kind (Some c.0) ty (both_true (is_class_of (Some c.0) ty) (uses.made c.0) covers).0
  value_kind ty (convert to e) covers =
      group_kind U.program.declarations ty (readable.given ty (both_true (uses.given ty) (is_class_type ty && (is_same_type ty to && is_nothing e)) covers).0)
  value_kind ty _ covers = absurd (true≢false (sym covers))

-- ---- the property

module _ (U : Upgrade) (expressions : ExpressionsAgree U) (groups : GroupsAgree U) (setters : SettersAgree U) (sets : PropertiesAreSet U) (K : Pledge) (p : ℕ)
    (f : SourceFrame) (g : NetFrame) (l : SourceLine) (k : NetLine) (c : Code) (T : Scope) (declared : T.declarations ≡ U.program.declarations)
    (oracle : SourceCalls) (net_oracle : Jobs) (is_open : IsOpen (scope_of U.written c g k)) (uses : Uses) (readable : AreReadable U T uses)
    (placed : ArePlaced U p f (scope_of U.written c g k) T uses) (agree : CallsAgree U (Passes U) oracle net_oracle) (w : World) (h : MemoryMatch U w)
    (G : GoOnMatching U K p f g w) (owns : OwnsAll U K p f) where
  abbrev C : source.Context
  C = context_of U oracle p f l

  abbrev S : net_names.Scope
  S = scope_of U.written c g k

  abbrev D : Declarations
  D = U.program.declarations

  abbrev Can : Expr → Type 0
  Can e = AllCalled (demands U K p l k S T) e

  abbrev IsKnownType : Ty → Type 0
  IsKnownType ty = (covers_type ty ≡ true) ⊎ (covers_group_type D ty ≡ true)

  abbrev Values : Expr → Pledge → World → Type 0
  Values e L u = Agrees U L u (ValueMatch U (type_shape U (type_at e))) (source.value_of C e u.src) (target.value_of S net_oracle (exp_of T e) u.net)

  -- a value that a property takes
  record Takes (e : Expr) : Type 0 where
    values : (u : World) → Later U K w u → Values e K u
    still_values : are_still uses (nodes e) ≡ true → (u : World) → Later U K w u → Values e (still K u) u
    literal : is_literal_value e ≡ true → IsConstant C e
    calm : is_calm uses e ≡ true → (z : Value6) × ((s : Memory) → Stable U w s → Gives C e z s)

  takes_scalar : (e : Expr) → Can e → covers_type (type_at e) ≡ true → covers_expr uses e ≡ true → is_formed e ≡ true → Takes e
  takes_scalar e can of covers formed =
      let as_whole : (L : Pledge) (u : World)
      → Agrees U L u (ScalarMatch U (type_at e)) (source.value_of C e u.src) (target.value_of S net_oracle (exp_of T e) u.net) → Values e L u =
      λ L u.
      agrees_weaker U L u (ScalarMatch U (type_at e)) (ValueMatch U (type_shape U (type_at e))) (source.value_of C e u.src)
      (target.value_of S net_oracle (exp_of T e) u.net) (λ v x y lat m. whole U v (type_at e) x y of m) in
      record {
        values = λ u lat.
            as_whole K u (expressions K u p f g oracle net_oracle l k c T uses e lat.match (G u lat) declared is_open readable placed agree can covers formed);
        still_values = λ is_still u lat.
            as_whole (still K u) u
            (expressions (still K u) u p f g oracle net_oracle l k c T uses e lat.match (frame_still U K u lat.match p f g (G u lat)) declared is_open readable placed
            agree (called_in_still U K p l k u S T uses readable e covers is_still can) covers formed);
        literal = λ x. literal_is_constant C uses e x covers formed;
        calm = λ x.
            let y =
            calm_known U expressions K p f g l k c T declared oracle net_oracle is_open uses readable placed agree w h (G w (later_now U K w h)) e x can covers formed in
            (y.value, y.gives);
      }

  takes_group : (of : Ty) (from : Term) → Can (typed of from) → covers_group uses (typed of from) ≡ true → is_formed (typed of from) ≡ true → Takes (typed of from)
  takes_group of from can covers formed =
      let e : Expr = typed of from in
      record {
        values = λ u lat. groups K u p f g oracle net_oracle l k c T uses of from lat.match (G u lat) declared is_open readable placed agree can covers formed;
        still_values = λ is_still u lat.
            groups (still K u) u p f g oracle net_oracle l k c T uses of from lat.match (frame_still U K u lat.match p f g (G u lat)) declared is_open readable placed
            agree (group_in_still U K p l k u S T uses readable e covers is_still can) covers formed;
        literal = λ x. literal_group C uses of from x covers;
        calm = λ x. absurd (no_calm_group U T uses readable of (no_scalar of (value_kind U T uses readable of from covers)) from x covers);
      }

  -- a value is followed by nothing else, or changes nothing
  followed : (args : Passed) (e : Expr) → Takes e → (has_none args ≡ true) ⊎ (are_still uses (nodes e) ≡ true) → (u : World) → Later U K w u
      → Agrees U K u (λ v x y. ValueMatch U (type_shape U (type_at e)) v x y × MayFollow U K u v args) (source.value_of C e u.src)
      (target.value_of S net_oracle (exp_of T e) u.net)
  followed args e x (inl none) u lat =
      agrees_weaker U K u (ValueMatch U (type_shape U (type_at e))) (λ v x y. ValueMatch U (type_shape U (type_at e)) v x y × MayFollow U K u v args)
      (source.value_of C e u.src) (target.value_of S net_oracle (exp_of T e) u.net) (λ v x y more m. (m, inl none)) (x.values u lat)
  followed args e x (inr is_still) u lat =
      agrees_weaker U K u (λ v x y. ValueMatch U (type_shape U (type_at e)) v x y × Later U (still K u) u v)
      (λ v x y. ValueMatch U (type_shape U (type_at e)) v x y × MayFollow U K u v args) (source.value_of C e u.src)
      (target.value_of S net_oracle (exp_of T e) u.net) (λ v x y more m. (m.0, inr m.1))
      (agrees_later U K (still K u) u (ValueMatch U (type_shape U (type_at e))) (ValueMatch U (type_shape U (type_at e))) (source.value_of C e u.src)
      (target.value_of S net_oracle (exp_of T e) u.net) (λ i x. x) (x.values u lat) (x.still_values is_still u lat))

  -- ---- without indexes

  module _ (ty : Ty) (q : ProcId) (qualified : Bool) (e : Expr) (takes : uses.takes q.0 0 (type_at e) ≡ true) (of_type : IsKnownType (type_at e)) (x : Takes e) where
    abbrev to : Object → Expr
    to of = typed ty (call q qualified of no_passed)

    for_object : (of_class : ℕ) (t : Term) → Can (to (of_object (typed (types.class of_class) t))) → covers_object_term uses (types.class of_class) t ≡ true
        → keeps_object uses (typed (types.class of_class) t) e ≡ true → SameStore U K w C S T net_oracle (to (of_object (typed (types.class of_class) t))) e
    for_object of_class t can covers keeps =
        let d : Expr = typed (types.class of_class) t in
        let of : Object = of_object d in
        let values = followed no_passed e x (inl refl) in
        ⊎_elim
        (λ y.
        constant_set U setters sets K p f g l k c T declared oracle net_oracle is_open uses readable placed agree w h G owns ty q qualified no_passed e takes of_type
        of covers refl refl can (x.literal y) values)
        (λ y.
        ⊎_elim
        (λ z.
        let both = both_true (is_calm_object uses d) (are_still uses (nodes e)) z in
        object_set U setters sets K p f g l k c T declared oracle net_oracle is_open uses readable placed agree w h G owns ty q qualified e takes of_type
        of_class t covers can both.0 values (x.still_values both.1))
        (λ z.
        let both = both_true (is_calm uses e) (are_still uses (nodes d)) z in
        let v = x.calm both.0 in
        calm_set U setters sets K p f g l k c T declared oracle net_oracle is_open uses readable placed agree w h G owns ty q qualified no_passed e takes of_type of
        covers refl refl can both.1 refl v.0 v.1 values)
        (or_cases (is_calm_object uses d && are_still uses (nodes e)) (is_calm uses e && are_still uses (nodes d)) y))
        (or_cases (is_literal_value e) ((is_calm_object uses d && are_still uses (nodes e)) || (is_calm uses e && are_still uses (nodes d))) keeps)

    for_any : (of : Object) → Can (to of) → is_receiver_ordered uses of e ≡ true → covers_receiver uses of ≡ true → SameStore U K w C S T net_oracle (to of) e
    for_any no_object can ordered covers =
        alone_set U setters sets K p f g l k c T declared oracle net_oracle is_open uses readable placed agree w h G owns ty q qualified no_passed e takes of_type refl
        refl refl can (followed no_passed e x (inl refl))
    for_any (of_object (typed (types.class of_class) t)) can ordered covers = for_object of_class t can covers ordered
    for_any (of_object (typed of t)) can ordered covers = absurd (true≢false (sym ordered))

  -- ---- behind indexes

  module _ (ty : Ty) (q : ProcId) (qualified : Bool) (args : Passed) (covers_args : covers_passed uses args ≡ true) (formed_args : passed_are_formed args ≡ true)
      (e : Expr) (takes : uses.takes q.0 (count_passed args) (type_at e) ≡ true) (of_type : IsKnownType (type_at e)) (x : Takes e)
      (is_still : are_still uses (nodes e) ≡ true) where
    abbrev indexed : Object → Expr
    indexed of = typed ty (call q qualified of args)

    abbrev Stored : Object → Type 0
    Stored of = SameStore U K w C S T net_oracle (typed ty (call q qualified of args)) e

    values : (u : World) → Later U K w u
        → Agrees U K u (λ v x y. ValueMatch U (type_shape U (type_at e)) v x y × MayFollow U K u v args) (source.value_of C e u.src)
        (target.value_of S net_oracle (exp_of T e) u.net)
    values = followed args e x (inr is_still)

    abbrev Known : Type 0
    Known = (xs : List SourceGiven) × ((s : Memory) → Stable U w s → source.args_of C q.0 0 args s ≡ gives [] xs s)

    abbrev seen : Expr → Bool
    seen d = not (is_new d || is_auto_use uses d) && is_seen_inward uses (called d)

    -- the object is known, and so are the indexes
    calm_parts : (of : Object) → Can (indexed of) → is_object of ≡ true → covers_receiver uses of ≡ true → is_calm_receiver uses of ≡ true
        → are_calm_passed uses args ≡ true → Stored of
    calm_parts of can object covers calm calm_args =
        let known =
        calm_passed U expressions K p f g l k c T declared oracle net_oracle is_open uses readable placed agree w h (G w (later_now U K w h)) q.0 0 args calm_args
        can.1 formed_args in
        by of can object covers calm known
      where
        by : (of : Object) → Can (indexed of) → is_object of ≡ true → covers_receiver uses of ≡ true → is_calm_receiver uses of ≡ true → Known → Stored of
        by no_object can object covers calm known =
            parts_known U setters sets K p f g l k c T declared oracle net_oracle is_open uses readable placed agree w h G owns ty q qualified args e takes of_type
            no_object covers covers_args formed_args can caller known.0 (λ s stable. refl) known.1 values (x.still_values is_still)
        by (of_object (typed (types.class of_class) t)) can object covers calm known =
            let both = both_true (is_calm_object uses (typed (types.class of_class) t)) (not (is_with_term t)) calm in
            ⊎_elim
            (λ y.
            parts_known U setters sets K p f g l k c T declared oracle net_oracle is_open uses readable placed agree w h G owns ty q qualified args e takes of_type
            (of_object (typed (types.class of_class) t)) covers covers_args formed_args can (receiver (Some of_class) (scalar (types.class of_class) y.0)) known.0
            (λ s stable. ap (λ r. then r (λ z w. gives [] (receiver (Some of_class) z) w)) (y.1 s stable)) known.1 values (x.still_values is_still))
            (λ y. absurd (true≢false (sym both.1 ∙ ap (λ z. not (is_with_term z)) y.1)))
            (calm_object U K p f g l k c T declared oracle net_oracle uses readable placed w h (G w (later_now U K w h)) owns of_class t both.0 covers can.2)
        by (of_object (typed _ t)) can object covers calm known = absurd (true≢false (sym object))

    indexes_stored : (of : Object) → Can (indexed of) → are_parts_ordered uses of args e ≡ true → covers_receiver uses of ≡ true → Stored of
    indexes_stored of can ordered covers =
        let calm_first = is_calm_receiver uses of && are_calm_passed uses args in
        let calm_value = is_calm uses e && are_still uses (nodes_of_object of ++ nodes_of_passed args) in
        let both = both_true (is_object of && are_still uses (nodes e)) (is_literal_value e || (calm_first || calm_value)) ordered in
        let object = (both_true (is_object of) (are_still uses (nodes e)) both.0).0 in
        ⊎_elim
        (λ y.
        constant_set U setters sets K p f g l k c T declared oracle net_oracle is_open uses readable placed agree w h G owns ty q qualified args e takes of_type
        of covers covers_args formed_args can (x.literal y) values)
        (λ y.
        ⊎_elim
        (λ z. let parts = both_true (is_calm_receiver uses of) (are_calm_passed uses args) z in calm_parts of can object covers parts.0 parts.1)
        (λ z.
        let parts = both_true (is_calm uses e) (are_still uses (nodes_of_object of ++ nodes_of_passed args)) z in
        let v = x.calm parts.0 in
        calm_set U setters sets K p f g l k c T declared oracle net_oracle is_open uses readable placed agree w h G owns ty q qualified args e takes of_type of
        covers covers_args formed_args can (all_left seen (nodes_of_object of) (nodes_of_passed args) parts.1)
        (all_right seen (nodes_of_object of) (nodes_of_passed args) parts.1) v.0 v.1 values)
        (or_cases calm_first calm_value y))
        (or_cases (is_literal_value e) (calm_first || calm_value) both.1)

  -- ---- the line

  -- a value of the type of the property, which takes it as it is
  record IsTaken (ty : Ty) (t : Term) (e : Expr) : Type 0 where
    of_type : IsKnownType (type_at e)
    stored : SameStore U K w C S T net_oracle (typed ty t) e

  value_stored : (ty : Ty) (q : ProcId) (qualified : Bool) (of : Object) (args : Passed) (e : Expr) → Can (typed ty (call q qualified of args))
      → uses.takes q.0 (count_passed args) (type_at e) ≡ true → is_property_ordered uses of args e ≡ true → covers_receiver uses of ≡ true
      → covers_passed uses args ≡ true → passed_are_formed args ≡ true → IsKnownType (type_at e) → Takes e
      → SameStore U K w C S T net_oracle (typed ty (call q qualified of args)) e
  value_stored ty q qualified of no_passed e can takes ordered covers covers_args formed of_type x = for_any ty q qualified e takes of_type x of can ordered covers
  value_stored ty q qualified of (next_passed a rest) e can takes ordered covers covers_args formed of_type x =
      let args : Passed = next_passed a rest in
      let calm = is_literal_value e || ((is_calm_receiver uses of && are_calm_passed uses args)
      || (is_calm uses e && are_still uses (nodes_of_object of ++ nodes_of_passed args))) in
      let is_still = (both_true (is_object of) (are_still uses (nodes e)) (both_true (is_object of && are_still uses (nodes e)) calm ordered).0).1 in
      indexes_stored ty q qualified args covers_args formed e takes of_type x is_still of can ordered covers

  is_taken : (ty : Ty) (t : Term) (e : Expr) → Can (typed ty t) → Can e → covers_property_term uses t e ≡ true → is_formed (typed ty t) ≡ true
      → is_formed e ≡ true → IsTaken ty t e
  is_taken ty (call q qualified of args) (typed s from) can_to can covers formed_to formed =
      let e : Expr = typed s from in
      let valued : Bool = covers_expr uses e || covers_group uses e in
      let last : Bool = covers_receiver uses of && (covers_passed uses args && valued) in
      let first = both_true (uses.takes q.0 (count_passed args) s && is_property_ordered uses of args e) last covers in
      let start = both_true (uses.takes q.0 (count_passed args) s) (is_property_ordered uses of args e) first.0 in
      let second = both_true (covers_receiver uses of) (covers_passed uses args && valued) first.1 in
      let third = both_true (covers_passed uses args) valued second.1 in
      ⊎_elim
      (λ y.
      let of_type : covers_type s ≡ true = (both_true (covers_type s) (covers_term uses from) y).0 in
      record {
        of_type = inl of_type;
        stored =
            value_stored ty q qualified of args e can_to start.0 start.1 second.0 third.0 formed_to (inl of_type) (takes_scalar e can of_type y formed);
      })
      (λ y.
      let of_type : covers_group_type D s ≡ true =
      group_taken U q.0 (count_passed args) s can_to.0.passes (readable.takes q.0 (count_passed args) s start.0).0 (value_kind U T uses readable s from y) in
      record {
        of_type = inr of_type;
        stored =
            value_stored ty q qualified of args e can_to start.0 start.1 second.0 third.0 formed_to (inr of_type) (takes_group s from can y formed);
      })
      (or_cases (covers_expr uses e) (covers_group uses e) third.1)
  is_taken ty _ e can_to can covers formed_to formed = absurd (true≢false (sym covers))

  pub property_stored : (ty : Ty) (t : Term) (e : Expr) → Can (typed ty t) → Can e → covers_property_term uses t e ≡ true → is_formed (typed ty t) ≡ true
      → is_formed e ≡ true → SameStore U K w C S T net_oracle (typed ty t) e
  property_stored ty t e can_to can covers formed_to formed = (is_taken ty t e can_to can covers formed_to formed).stored

  -- a call is no part of what is stored to, and its value is no copy
  line_by : (ty : Ty) (q : ProcId) (qualified : Bool) (of : Object) (args : Passed) (e : Expr) → IsKnownType ty
      → store_line T (typed ty (call q qualified of args)) e ≡ net.assign (exp_of T (typed ty (call q qualified of args))) (exp_of T e)
  line_by ty q qualified of args e (inl c) = line_is T (typed ty (call q qualified of args)) e refl c
  line_by (types.user t) q qualified of args e (inr c) = copy_is U T readable.facts t (readable.flat t c) (call q qualified of args) e
  line_by (types.class n) q qualified of args e (inr c) = refl
  line_by _ q qualified of args e (inr c) = absurd (true≢false (sym c))

  good_type : (ty : Ty) → IsKnownType ty → (covers_type ty || is_group_type ty) ≡ true
  good_type ty (inl c) = ap (λ b. b || is_group_type ty) c
  good_type ty (inr c) = or_right (covers_type ty) (is_group_type ty) (group_kind D ty c)

  -- what holds of a line that assigns so
  pub property_assigned : (P : net.Line → Type 0) (to e : Expr) → Can to → Can e → covers_property uses to e ≡ true → is_formed to ≡ true → is_formed e ≡ true
      → (SameStore U K w C S T net_oracle to e → P (net.assign (exp_of T to) (exp_of T e))) → P (store_line T to e)
  property_assigned P (typed ty (call q qualified of args)) e can_to can covers formed_to formed go =
      let t : Term = call q qualified of args in
      let both = both_true (is_same_type ty (type_at e)) (covers_property_term uses t e) covers in
      let x : IsTaken ty t e = is_taken ty t e can_to can both.1 formed_to formed in
      let same : ty ≡ type_at e = same_from ty (type_at e) (good_type (type_at e) x.of_type) both.0 in
      subst (λ z. P z) (sym (line_by ty q qualified of args e (subst (λ z. IsKnownType z) (sym same) x.of_type))) (go x.stored)
  property_assigned P (typed ty t) e can_to can covers formed_to formed go =
      absurd (true≢false (sym (both_true (is_same_type ty (type_at e)) false covers).1))
