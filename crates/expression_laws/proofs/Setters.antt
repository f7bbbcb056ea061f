-- Properties that take a value: how both sides come to the object and to the indexes, and the call of the Let or the Set with the value.
use Rattle.std.proofs.Common.{◌≡◌, ◌⊎◌, inl, inr, refl, sym, ap, subst, ◌∙◌, ℕ, Bool, true, false, not, ◌&&◌, true≢false, Option, Some, None, List, [], ◌∷◌, ◌++◌, length}
use Rattle.std.specs.Prelude.{slice_get}
use Rattle.up_base.proofs.Tests.{by_test}
use Rattle.vb_tree.specs.BoundTree as types
use Rattle.vb_tree.specs.BoundTree.{Ty}
use Rattle.vb_tree.specs.declared.declared.ProcId.{ProcId}
use Rattle.bound_tree.specs.Tree.{Expr, typed, call, Object, no_object, of_object, Passed, no_passed}
use Rattle.net_tree.specs.Tree.{Exp, Exps, path}
use Rattle.run_base.specs.Frames.{by_value}
use Rattle.run_base.specs.Outcomes.{Outcome, after, gives, then}
use Rattle.vb6_run.specs.Expressions as source
use Rattle.vb6_run.specs.Expressions.{Context, Receiver, caller, receiver}
use Rattle.vb6_run.specs.Forms.{SourceLine}
use Rattle.vb6_run.specs.Store.{Memory, SourceCalls, SourceFrame, SourceGiven}
use Rattle.vb6_run.specs.Values.{Value, scalar}
use Rattle.net_run.specs.Calls.{Arguments, procedure_does}
use Rattle.net_run.specs.Expressions as target
use Rattle.net_run.specs.Lines.{NetFrame, NetLine, assigned, scope_of}
use Rattle.net_run.specs.Making.{Jobs}
use Rattle.net_run.specs.Members.{Code}
use Rattle.net_run.specs.Names as net_names
use Rattle.net_run.specs.Names.{Callee, Reached, Scope, named, path_start}
use Rattle.net_run.specs.Store as net
use Rattle.net_run.specs.Values as net_value
use Rattle.written_trees.specs.Arguments.{is_property}
use Rattle.written_trees.specs.Exprs.{called, callee_of, exp_of, has_none, is_bare, passed_of, reads_itself}
use Rattle.written_trees.specs.Names as written_names
use Rattle.written_trees.specs.Names.{procedure_name, procedure_path}
use Rattle.run_matches.specs.Agreeing.{Agrees}
use Rattle.run_matches.specs.CoveredExprs.{count_passed, is_giving}
use Rattle.run_matches.specs.Frames.{frame_pledge}
use Rattle.run_matches.specs.Keeping.{given_types}
use Rattle.run_matches.specs.Maps.{World}
use Rattle.run_matches.specs.Match.{MemoryMatch}
use Rattle.run_matches.specs.Pledges.{Later, NetGiven, Pledge}
use Rattle.run_matches.specs.Runs.{CallsAgree}
use Rattle.run_matches.specs.Upgrades.{Upgrade}
use Rattle.run_statements.specs.Arguments.{ArgumentsMatch, no_arguments}
use Rattle.run_statements.specs.Members.{ObjectMatch}
use Rattle.run_statements.specs.Frames.{AnyUnits, CanCall, IsOne, context_of}
use Rattle.run_statements.specs.Objects.{ClassesAreWritten}
use Rattle.run_statements.specs.Properties.{IsReachedAs, MayFollow, PropertiesAreSet, PropertiesAreSetBy, SetterMatch, SettersAgree, SettersAgreeBy, set_for_none, set_for_object, set_parts}
use Rattle.run_statements.specs.Ways.{IsWay, LeadsAlone, Way, as_get, as_procedure, as_set, callee_by, passings_by}
use Rattle.run_statements.specs.Written.{Passes}
use Rattle.row_laws.proofs.Composing.{after_nil, then_assoc, then_gives}
use Rattle.agreeing_laws.proofs.Agreeing.{agrees_gives, agrees_outside, agrees_yields, left_alone, right_alone, then_agrees}
use Rattle.agreeing_laws.proofs.Lasting.{later_now}
use Rattle.agreeing_laws.proofs.Members.{member_behind, member_reached}
use Rattle.agreeing_laws.proofs.Scalars.{scalar_later}
use Rattle.expression_laws.specs.Calls.{GivenMatch, Stands}
use Rattle.expression_laws.specs.Statements.{ParametersAreSound}
use Rattle.expression_laws.proofs.Arguments.{stands_later, stands_now}
use Rattle.expression_laws.proofs.Callees.{back, none_passed, not_bare}
use Rattle.expression_laws.proofs.Calls.{entered_agrees, object_entered}
use Rattle.expression_laws.proofs.CallsGiven.{from_first}
use Rattle.expression_laws.proofs.Entered.{caller_received}
use Rattle.expression_laws.proofs.Expressions.{passed_agree}
use Rattle.expression_laws.proofs.KeptObjects.{receiver_is}
use Rattle.expression_laws.proofs.ObjectMatches.{no_value, reached}
use Rattle.expression_laws.proofs.References.{first}
use Rattle.expression_laws.proofs.Receivers.{ReceiverIs, for_none, for_object}
use Rattle.expression_laws.proofs.SetValues.{args_counted, arguments_follow, declared, is_part, no_elements_given, value_behind, value_given}
use Rattle.expression_laws.proofs.Withs.{HavePlaces, places_later, places_now}

-- ---- the way of a Let and a Set

module _ (U : Upgrade) (S : Scope) (T : written_names.Scope) (q : ℕ) (qualified : Bool) (of : Object) (args : Passed) (passes : Passes U q)
    (sets : is_giving (slice_get U.program.declarations.procs q) ≡ false) where
  part : is_property U.program.declarations q ≡ true
  part = is_part U q (declared U q passes) sets

  -- its indexes go as values
  values_taken : (way : Way) → IsWay U S T way q qualified of args → (n : ℕ) → passings_by U.written way n ≡ []
  values_taken as_procedure is n = absurd (true≢false (sym part ∙ is))
  values_taken (as_get set) is n = refl
  values_taken (as_set get) is n = refl

  -- what is written for it stands by its name alone where there are none
  alone_or_called : (way : Way) → IsWay U S T way q qualified of args
      → ((args ≡ no_passed) × ((is_bare T q qualified of args ≡ true) × LeadsAlone S T q qualified of)) ⊎ (is_bare T q qualified of args ≡ false)
  alone_or_called as_procedure is = absurd (true≢false (sym part ∙ is))
  alone_or_called (as_get set) is = absurd (true≢false (sym is.1 ∙ sets))
  alone_or_called (as_set get) is =
      by_test (has_none args) (λ b. has_none args ≡ b
      → ((args ≡ no_passed) × ((is_bare T q qualified of args ≡ true) × LeadsAlone S T q qualified of)) ⊎ (is_bare T q qualified of args ≡ false))
      (λ none e. inl (none_passed args none, ((is.0.alone none).bare, (is.0.alone none).leads)))
      (λ some e. inr (not_bare (has_none args) (is_property T.declarations q) (not (reads_itself T q qualified of)) some)) refl

  -- it takes the value behind them
  setter_does : (oracle : Jobs) (way : Way) → IsWay U S T way q qualified of args → (object : Option net_value.Value) (n : ℕ) (ys : Arguments) (r : Reached)
      → IsReachedAs (callee_by way object n) ys r → (y : net_value.Value) (w : net.Memory)
      → assigned S oracle r y w ≡ then (procedure_does S oracle object n (ys ++ by_value y ∷ []) w) (λ a w. gives [] tt w)
  setter_does oracle as_procedure is object n ys r at y w = absurd (true≢false (sym part ∙ is))
  setter_does oracle (as_get set) is object n ys r at y w = absurd (true≢false (sym is.1 ∙ sets))
  setter_does oracle (as_set get) is object n ys r (inl at) y w =
      subst (λ z. assigned S oracle z y w ≡ then (procedure_does S oracle object n (ys ++ by_value y ∷ []) w) (λ a w. gives [] tt w)) (sym at.1)
      (subst (λ z. assigned S oracle (named (callee_by (as_set get) object n)) y w
      ≡ then (procedure_does S oracle object n (z ++ by_value y ∷ []) w) (λ a w. gives [] tt w)) (sym at.0) refl)
  setter_does oracle (as_set get) is object n ys r (inr at) y w = ap (λ z. assigned S oracle z y w) at

-- ---- the object and the indexes

-- what is evaluated behind the name: nothing where it stands alone
abbrev taken_by : Scope → Jobs → (bare : Bool) → Exps → Reached → net.Memory → Outcome net.Memory Reached
taken_by S oracle true passed r w = gives [] r w
taken_by S oracle false passed r w =
    target.applied S oracle (λ modes w. target.args_of S oracle modes passed w) (λ w. target.values_of S oracle passed w) r w

reached_then : (S : Scope) (oracle : Jobs) (bare : Bool) (e : Exp) (passed : Exps) (w : net.Memory)
    → target.reach S oracle false (called bare e passed) w ≡ then (target.reach S oracle (not bare) e w) (taken_by S oracle bare passed)
reached_then S oracle true e passed w = sym (then_gives (target.reach S oracle false e w))
reached_then S oracle false e passed w = refl

module _ (U : Upgrade) (K : Pledge) (p : ℕ) (f : SourceFrame) (g : NetFrame) (oracle : SourceCalls) (net_oracle : Jobs) (l : SourceLine) (k : NetLine)
    (c : Code) (T : written_names.Scope) where
  abbrev C : Context
  C = context_of U oracle p f l

  abbrev S : Scope
  S = scope_of U.written c g k

  abbrev Can : Pledge → (q : ℕ) → (qualified : Bool) → Object → Passed → Type 0
  Can L q qualified of args = CanCall U L (scope_of U.written c g k) T p q qualified of args

  module _ (L : Pledge) (ty : Ty) (q : ProcId) (qualified : Bool) (args : Passed) (sets : is_giving (slice_get U.program.declarations.procs q.0) ≡ false)
      (w : World) (start : MemoryMatch U w)
      (given : (v : World) → Later U K w v
      → Agrees U K v (λ u xs ys. ArgumentsMatch U K q.0 0 u xs ys × (length xs ≡ count_passed args)) (source.args_of (context_of U oracle p f l) q.0 0 args v.src)
      (target.args_of (scope_of U.written c g k) net_oracle [] (passed_of T q.0 0 args) v.net)) where
    abbrev passed : Exps
    passed = passed_of T q.0 0 args

    -- the indexes on one side, and what takes them on the other
    record Taken (callee : Callee) (u : World) (xs : List SourceGiven) (r : Reached) : Type 0 where
      net_given : List NetGiven
      match : ArgumentsMatch U K q.0 0 u xs net_given
      counted : length xs ≡ count_passed args
      is_reached : IsReachedAs callee net_given r

    indexes_taken : (of : Object) (can : Can L q.0 qualified of args) (object : Option net_value.Value) (bare : Bool) (v : World) → Later U K w v
        → ((args ≡ no_passed) × (bare ≡ true)) ⊎ (bare ≡ false)
        → Agrees U K v (Taken (callee_by can.way object can.number)) (source.args_of C q.0 0 args v.src)
        (taken_by S net_oracle bare passed (named (callee_by can.way object can.number)) v.net)
    indexes_taken of can object bare v later (inl alone) =
        let callee : Callee = callee_by can.way object can.number in
        subst (λ b. Agrees U K v (Taken callee) (source.args_of C q.0 0 args v.src) (taken_by S net_oracle b passed (named callee) v.net)) (sym alone.1)
        (subst (λ a. Agrees U K v (Taken callee) (source.args_of C q.0 0 a v.src) (gives [] (named callee) v.net)) (sym alone.0)
        (agrees_gives U K v (Taken callee) [] (named callee) later.match
        (record { net_given = []; match = no_arguments 0 v; counted = sym (ap count_passed alone.0); is_reached = inl (refl, refl) })))
    indexes_taken of can object bare v later (inr many) =
        subst (λ b. Agrees U K v (Taken (callee_by can.way object can.number)) (source.args_of C q.0 0 args v.src)
        (taken_by S net_oracle b passed (named (callee_by can.way object can.number)) v.net)) (sym many) (by can.way can.is_way)
      where
        by : (way : Way) → IsWay U S T way q.0 qualified of args
            → Agrees U K v (Taken (callee_by way object can.number)) (source.args_of C q.0 0 args v.src)
            (taken_by S net_oracle false passed (named (callee_by way object can.number)) v.net)
        by as_procedure is = absurd (true≢false (sym (part U S T q.0 qualified of args can.passes sets) ∙ is))
        by (as_get set) is = absurd (true≢false (sym is.1 ∙ sets))
        by (as_set get) is =
            let callee : Callee = callee_by (as_set get) object can.number in
            let r = source.args_of C q.0 0 args v.src in
            let r' = target.args_of S net_oracle [] passed v.net in
            subst (λ z. Agrees U K v (Taken callee) z (then r' (λ gs w. gives [] (net_names.called callee gs) w))) (then_gives r)
            (then_agrees U K v (λ u xs ys. ArgumentsMatch U K q.0 0 u xs ys × (length xs ≡ count_passed args)) (Taken callee) r r' (λ gs w. gives [] gs w)
            (λ gs w. gives [] (net_names.called callee gs) w) later.match (given v later)
            (λ xs ys u m more.
            agrees_gives U K u (Taken callee) xs (net_names.called callee ys) more.match
            (record { net_given = ys; match = m.0; counted = m.1; is_reached = inr refl })))

    -- all of them behind the object
    abbrev Parts : Type 0
    Parts = Receiver × List SourceGiven

    abbrev Sets : (of : Object) → Can L q.0 qualified of args → World → Parts → Reached → Type 0
    Sets of can u x r = SetterMatch U K q.0 (count_passed args) can.way can.number of u x.0 x.1 r

    abbrev with_receiver : Receiver → Memory → Outcome Memory Parts
    with_receiver r s = then (source.args_of C q.0 0 args s) (λ gs s. gives [] (r, gs) s)

    parts_agree : (of : Object) (can : Can L q.0 qualified of args) (object : Option net_value.Value) (bare : Bool) (v : World) → Later U K w v
        → ((args ≡ no_passed) × (bare ≡ true)) ⊎ (bare ≡ false) → (r : Receiver)
        → ((u : World) (xs : List SourceGiven) (z : Reached) → Later U K v u → Taken (callee_by can.way object can.number) u xs z → Sets of can u (r, xs) z)
        → Agrees U K v (Sets of can) (with_receiver r v.src) (taken_by S net_oracle bare passed (named (callee_by can.way object can.number)) v.net)
    parts_agree of can object bare v later how r go =
        let callee : Callee = callee_by can.way object can.number in
        let z = taken_by S net_oracle bare passed (named callee) v.net in
        subst (λ x. Agrees U K v (Sets of can) (with_receiver r v.src) x) (then_gives z)
        (then_agrees U K v (Taken callee) (Sets of can) (source.args_of C q.0 0 args v.src) z (λ gs s. gives [] (r, gs) s) (λ a s. gives [] a s) later.match
        (indexes_taken of can object bare v later how)
        (λ xs a u m more. agrees_gives U K u (Sets of can) (r, xs) a more.match (go u xs a more m)))

    -- alone by its name, or called
    abbrev How : Bool → Type 0
    How bare =
        ((args ≡ no_passed) × ((bare ≡ true) × (path_start S false (procedure_path T qualified q.0) ≡ path_start S true (procedure_path T qualified q.0))))
        ⊎ (bare ≡ false)

    setter_reached : (of : Object) (can : Can L q.0 qualified of args) → ReceiverIs U K C S net_oracle T w of
        → Agrees U K w (Sets of can) (set_parts C q.0 of args w.src)
        (target.reach S net_oracle false (exp_of T (typed ty (call q qualified of args))) w.net)
    setter_reached _ can for_none =
        let bare : Bool = is_bare T q.0 qualified no_object args in
        let how = alone_or_called U S T q.0 qualified no_object args can.passes sets can.way can.is_way in
        let callee : Callee = callee_by can.way None can.number in
        let names = procedure_path T qualified q.0 in
        let z = taken_by S net_oracle bare passed (named callee) w.net in
        subst (λ x. Agrees U K w (Sets no_object can) (set_parts C q.0 no_object args w.src) x)
        (sym (reached_then S net_oracle bare (path names) passed w.net
        ∙ ap (λ s. then (target.started S net_oracle s w.net) (taken_by S net_oracle bare passed)) (path_leads bare how ∙ can.found)))
        (left_alone U K w (Sets no_object can) (with_receiver caller w.src) (after [] z)
        (right_alone U K w (Sets no_object can) (with_receiver caller w.src) z
        (parts_agree no_object can None bare w (later_now U K w start) (alone_is bare how) caller
        (λ u xs a more m. set_for_none u xs m.net_given a m.counted m.match m.is_reached))))
      where
        path_leads : (bare : Bool) → How bare → path_start S (not bare) (procedure_path T qualified q.0) ≡ path_start S true (procedure_path T qualified q.0)
        path_leads bare (inl x) = ap (λ b. path_start S (not b) (procedure_path T qualified q.0)) x.1.0 ∙ x.1.1
        path_leads bare (inr x) = ap (λ b. path_start S (not b) (procedure_path T qualified q.0)) x

        alone_is : (bare : Bool) → How bare → ((args ≡ no_passed) × (bare ≡ true)) ⊎ (bare ≡ false)
        alone_is bare (inl x) = inl (x.0, x.1.0)
        alone_is bare (inr x) = inr x
    setter_reached _ can (for_object d t (no_value none)) =
        let e : Expr = typed (types.class d) t in
        let r' = target.reach S net_oracle false (exp_of T (typed ty (call q qualified (of_object e) args))) w.net in
        subst (λ z. Agrees U K w (Sets (of_object e) can) z r')
        (sym (ap (λ z. then (then z (λ x s. gives [] (receiver (Some d) x) s)) with_receiver) none)) (agrees_outside U K w (Sets (of_object e) can) r')
    setter_reached _ can (for_object d t (reached r leads before agrees)) =
        let e : Expr = typed (types.class d) t in
        let of : Object = of_object e in
        let bare : Bool = is_bare T q.0 qualified of args in
        let callee : Exp = callee_of T q.0 qualified of in
        let name : List ℕ = procedure_name T.declarations q.0 in
        let how = alone_or_called U S T q.0 qualified of args can.passes sets can.way can.is_way in
        let behind = taken_by S net_oracle bare passed in
        let at = member_behind S net_oracle r name w.net in
        let source_is : set_parts C q.0 of args w.src ≡ then (source.value_of C e w.src) (λ x s. with_receiver (receiver (Some d) x) s) =
        then_assoc (source.value_of C e w.src) (λ x s. gives [] (receiver (Some d) x) s) with_receiver
        ∙ ap (λ j. then (source.value_of C e w.src) j) (λ i x s. after_nil (with_receiver (receiver (Some d) x) s) i) in
        let target_is : target.reach S net_oracle false (exp_of T (typed ty (call q qualified of args))) w.net
        ≡ then (target.address_from S net_oracle (r w.net)) (λ a s. behind (net_names.member_at S a name s) s) =
        reached_then S net_oracle bare callee passed w.net
        ∙ ap (λ z. then z behind) (before_or_not bare w.net (before name w.net) ∙ member_reached S net_oracle T e r leads name w.net)
        ∙ then_assoc (target.address_from S net_oracle (r w.net)) (λ a s. gives [] (net_names.member_at S a name s) s) behind
        ∙ ap (λ j. then (target.address_from S net_oracle (r w.net)) j) (λ i a s. after_nil (behind (net_names.member_at S a name s) s) i) in
        subst (λ z. Agrees U K w (Sets of can) z (target.reach S net_oracle false (exp_of T (typed ty (call q qualified of args))) w.net)) (sym source_is)
        (subst (λ z. Agrees U K w (Sets of can) (then (source.value_of C e w.src) (λ x s. with_receiver (receiver (Some d) x) s)) z) (sym target_is)
        (then_agrees U K w (ObjectMatch U d) (Sets of can) (source.value_of C e w.src) (target.address_from S net_oracle (r w.net))
        (λ x s. with_receiver (receiver (Some d) x) s) (λ a s. behind (net_names.member_at S a name s) s) start agrees
        (λ x a v o later.
        let y : net_value.Value = net.looked_up a v.net in
        subst (λ z. Agrees U K v (Sets of can) (with_receiver (receiver (Some d) x) v.src) (behind z v.net))
        (sym (ap (λ b. net_names.member_by S a b name v.net) o.shaped ∙ can.found d o.home y refl o.is_home))
        (subst (λ z. Agrees U K v (Sets of can) (with_receiver (receiver (Some d) z) v.src) (behind (named (callee_by can.way (Some y) can.number)) v.net))
        (sym o.like.1)
        (parts_agree of can (Some y) bare v later (alone_is bare how) (receiver (Some d) (scalar (types.class d) o.like.0))
        (λ u xs z more m.
        set_for_object d t u o.like.0 y xs m.net_given z (scalar_later U K v u (types.class d) o.like.0 y more o.like.2) m.counted m.match m.is_reached))))))
      where
        alone_is : (bare : Bool) → ((args ≡ no_passed) × ((bare ≡ true) × Unit {0})) ⊎ (bare ≡ false) → ((args ≡ no_passed) × (bare ≡ true)) ⊎ (bare ≡ false)
        alone_is bare (inl x) = inl (x.0, x.1.0)
        alone_is bare (inr x) = inr x

        before_or_not : (bare : Bool) (m : net.Memory) → target.reach S net_oracle true (callee_of T q.0 qualified (of_object (typed (types.class d) t))) m
            ≡ target.reach S net_oracle false (callee_of T q.0 qualified (of_object (typed (types.class d) t))) m
            → target.reach S net_oracle (not bare) (callee_of T q.0 qualified (of_object (typed (types.class d) t))) m
            ≡ target.reach S net_oracle false (callee_of T q.0 qualified (of_object (typed (types.class d) t))) m
        before_or_not true m e = refl
        before_or_not false m e = e

  -- ---- the call

  module _ (agree : CallsAgree U (Passes U) oracle net_oracle) where
    -- whatever a Let or Set gives is left
    units_agree : (number : ℕ) (w : World) (r : Outcome Memory (Option Value)) (r' : Outcome net.Memory net.Address) → MemoryMatch U w
        → Agrees U K w (GivenMatch U number) (then r back) r'
        → Agrees U K w AnyUnits (then r (λ z w. gives [] tt w)) (then r' (λ a w. gives [] tt w))
    units_agree number w r r' start h =
        subst (λ z. Agrees U K w AnyUnits z (then r' (λ a w. gives [] tt w))) (then_assoc r back (λ x w. gives [] tt w))
        (then_agrees U K w (GivenMatch U number) AnyUnits (then r back) r' (λ x w. gives [] tt w) (λ a w. gives [] tt w) start h
        (λ x a v m later. agrees_gives U K v AnyUnits tt tt later.match tt))

    setter_called : (q : ℕ) (qualified : Bool) (of : Object) (args : Passed) (can : Can K q qualified of args)
        → is_giving (slice_get U.program.declarations.procs q) ≡ false → (u w : World) → Later U K u w → MayFollow U K u w args → (x : Value)
        (y : net_value.Value) → MemoryMatch U w → Stands U K w p f g → ArgumentsMatch U K q (count_passed args) w (by_value x ∷ []) (by_value y ∷ [])
        → (r : Receiver) (xs : List SourceGiven) (z : Reached) → SetterMatch U K q (count_passed args) can.way can.number of u r xs z
        → Agrees U K w AnyUnits (then (source.entered C q r (xs ++ by_value x ∷ []) w.src) (λ z w. gives [] tt w)) (assigned S net_oracle z y w.net)
    setter_called q qualified _ args can sets _ w later may x y start stands value _ _ _ (set_for_none u xs ys z counted given is_reached) =
        let all = value_behind U K q 0 w x y xs ys
        (arguments_follow U K q (part U S T q qualified no_object args can.passes sets) u w later args may xs ys counted given)
        (subst (λ n. ArgumentsMatch U K q n w (by_value x ∷ []) (by_value y ∷ [])) (sym counted ∙ first (length xs)) value) in
        let r = source.entered C q caller (xs ++ by_value x ∷ []) w.src in
        let r' = procedure_does S net_oracle None can.number (ys ++ by_value y ∷ []) w.net in
        subst (λ t. Agrees U K w AnyUnits (then r (λ z w. gives [] tt w)) t)
        (sym (setter_does U S T q qualified no_object args can.passes sets net_oracle can.way can.is_way None can.number ys z is_reached y w.net))
        (units_agree can.number w r r' start
        (entered_agrees U K p f g oracle net_oracle l k c T agree q qualified no_object args can w f.me g.me (xs ++ by_value x ∷ []) (ys ++ by_value y ∷ [])
        stands.me stands.object (caller_received U w p q f.me can.receives stands.own_object) stands.locks start all))
    setter_called q qualified _ args can sets _ w later may x y start stands value _ _ _ (set_for_object d t u v o xs ys z like counted given is_reached) =
        let e : Expr = typed (types.class d) t in
        let all = value_behind U K q 0 w x y xs ys
        (arguments_follow U K q (part U S T q qualified (of_object e) args can.passes sets) u w later args may xs ys counted given)
        (subst (λ n. ArgumentsMatch U K q n w (by_value x ∷ []) (by_value y ∷ [])) (sym counted ∙ first (length xs)) value) in
        let r = source.entered C q (receiver (Some d) (scalar (types.class d) v)) (xs ++ by_value x ∷ []) w.src in
        let r' = procedure_does S net_oracle (Some o) can.number (ys ++ by_value y ∷ []) w.net in
        subst (λ t. Agrees U K w AnyUnits (then r (λ z w. gives [] tt w)) t)
        (sym (setter_does U S T q qualified (of_object e) args can.passes sets net_oracle can.way can.is_way (Some o) can.number ys z is_reached y w.net))
        (units_agree can.number w r r' start
        (object_entered U K p f g oracle net_oracle l k c T agree q qualified d t args can w (xs ++ by_value x ∷ []) (ys ++ by_value y ∷ []) stands.locks start all
        v o (scalar_later U K u w (types.class d) v o later like)))

-- ---- the laws

no_one : (ts : List Ty) (t : Ty) → ts ≡ [] → IsOne ts t → ⊥
no_one [] t e h = h
no_one (s ∷ ts) t e h = absurd (cc e)

pub setters_agree_by : (U : Upgrade) → ParametersAreSound U → ClassesAreWritten U → (K L : Pledge) → SettersAgreeBy U K L
setters_agree_by U sound classes K L w p f g oracle net_oracle l k c T uses ty q qualified of args start frames declarations opened readable placed agree can
    can_args can_of sets covers covers_args formed =
    let C : Context = context_of U oracle p f l in
    let S : Scope = scope_of U.written c g k in
    let have : HavePlaces U p f g oracle net_oracle l k c T uses K w =
    places_now U p f g oracle net_oracle l k c T uses K w frames start declarations readable placed in
    let stands : Stands U K w p f g = stands_now U K w p f g frames in
    let none = no_elements_given U q.0 0 args (part U S T q.0 qualified of args can.passes sets) can.hands in
    let modes = passings_by U.written can.way can.number in
    setter_reached U K p f g oracle net_oracle l k c T L ty q qualified args sets w start
    (λ v later.
    agrees_yields U K v (ArgumentsMatch U K q.0 0) (λ (gs : List SourceGiven) (s : Memory). length gs ≡ count_passed args) (source.args_of C q.0 0 args v.src)
    (target.args_of S net_oracle [] (passed_of T q.0 0 args) v.net) (args_counted C q.0 0 args v.src)
    (subst (λ m. Agrees U K v (ArgumentsMatch U K q.0 0) (source.args_of C q.0 0 args v.src) (target.args_of S net_oracle m (passed_of T q.0 0 args) v.net))
    (values_taken U S T q.0 qualified of args can.passes sets can.way can.is_way can.number)
    (passed_agree U p f g oracle net_oracle l k c T uses declarations opened readable placed.leads agree sound classes K q.0 0 can.passes args modes v
    (from_first U p f g oracle net_oracle l k c T agree L can) can.suits can.hands can.quiet later.match
    (places_later U p f g oracle net_oracle l k c T uses K w v start later have) (stands_later U K w v p f g later stands)
    can_args covers_args formed can.ranks (λ t o. absurd (no_one (given_types args) t none o)))))
    of can (receiver_is U K p f g oracle net_oracle l k c T uses declarations readable w start have opened agree classes stands of can_of covers)

pub properties_are_set_by : (U : Upgrade) → ParametersAreSound U → (K : Pledge) → PropertiesAreSetBy U K
properties_are_set_by U sound K u w p f g oracle net_oracle l k c T ty q qualified of args r xs z x y later may start frames agree can sets found takes value covers
    match =
    setter_called U K p f g oracle net_oracle l k c T agree q qualified of args can sets u w later may x y start (stands_now U K w p f g frames)
    (value_given U K q (count_passed args) value w x y sound can.passes ty takes covers match) r xs z found

pub setters_agree : (U : Upgrade) → ParametersAreSound U → ClassesAreWritten U → SettersAgree U
setters_agree U sound classes K L = setters_agree_by U sound classes K L

pub properties_are_set : (U : Upgrade) → ParametersAreSound U → PropertiesAreSet U
properties_are_set U sound K = properties_are_set_by U sound K

-- under the pledge of a frame

pub frame_setters_agree : (U : Upgrade) (sound : ParametersAreSound U) (classes : ClassesAreWritten U) (p q : ℕ) (w u : World) (f g : SourceFrame)
    → SettersAgreeBy U (frame_pledge U p w f) (frame_pledge U q u g)
frame_setters_agree U sound classes p q w u f g = setters_agree_by U sound classes (frame_pledge U p w f) (frame_pledge U q u g)

pub frame_properties_are_set : (U : Upgrade) (sound : ParametersAreSound U) (p : ℕ) (w : World) (f : SourceFrame)
    → PropertiesAreSetBy U (frame_pledge U p w f)
frame_properties_are_set U sound p w f = properties_are_set_by U sound (frame_pledge U p w f)
