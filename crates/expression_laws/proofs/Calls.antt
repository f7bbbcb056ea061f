-- Calls: how both sides come to their arguments, to the callee, and to what it gives.
use Rattle.std.proofs.Common.{◌≡◌, refl, sym, ap, subst, ◌∙◌, ℕ, suc, Bool, true, false, cond, ◌&&◌, ◌<◌, Option, Some, None, option_map, List, [], ◌∷◌, eqb-true, ltb-true}
use Rattle.std.specs.Prelude.{nat_eq, nat_lt}
use Rattle.vb_tree.specs.BoundTree as types
use Rattle.vb_tree.specs.BoundTree.{Ty}
use Rattle.vb_tree.specs.declared.declared.ProcId.{ProcId}
use Rattle.vb_tree.specs.declared.value.Value6.{Value6}
use Rattle.bound_tree.specs.Tree.{Expr, typed, Term, call, Object, no_object, of_object, Passed}
use Rattle.bound_tree.specs.Tree as tree
use Rattle.bound_facts.specs.Node.{type_at}
use Rattle.net_tree.specs.declared.declaration.NetPassing.{NetPassing}
use Rattle.net_tree.specs.declared.declaration.NetPassing.TheVariants as passing
use Rattle.net_tree.specs.Tree.{Exp}
use Rattle.net_meaning.specs.declared.value.ValueN.{ValueN}
use Rattle.net_meaning.specs.ValueMatch.{Matches, no_object_of, objects_of}
use Rattle.run_base.specs.Frames.{by_address, by_value}
use Rattle.run_matches.specs.Addresses.{AllLocked, IsPlain, IsTarget, Same, GivesWhole, SuitsParameter}
use Rattle.run_base.specs.Machines.{enters}
use Rattle.run_base.specs.Outcomes.{Outcome, gives, after, then}
use Rattle.vb6_run.specs.Expressions as source
use Rattle.vb6_run.specs.Expressions.{Context, Parts, declared, receiver, result_parts, type_shape}
use Rattle.vb6_run.specs.Forms.{SourceLine}
use Rattle.vb6_run.specs.Objects.{is_class}
use Rattle.vb6_run.specs.Store.{Memory, SourceCalls, SourceFrame, SourceGiven, provided, Address}
use Rattle.vb6_run.specs.Values.{Value, is_of_shape, scalar}
use Rattle.net_run.specs.Calls as net_calls
use Rattle.net_run.specs.Calls.{Arguments, procedure_does, result_address}
use Rattle.net_run.specs.Expressions as target
use Rattle.net_run.specs.Lines.{NetFrame, NetLine, scope_of}
use Rattle.net_run.specs.Making.{Jobs}
use Rattle.net_run.specs.Members.{Code}
use Rattle.net_run.specs.Names as net_names
use Rattle.net_run.specs.Names.{Scope}
use Rattle.net_run.specs.Shapes as shape
use Rattle.net_run.specs.Store as net
use Rattle.net_run.specs.Values as net_value
use Rattle.written_trees.specs.Arguments.{argument_exp, copy_by, needs_copy, temporary_exp, value_exp}
use Rattle.written_trees.specs.Exprs.{called, callee_of, exp_of, passed_of}
use Rattle.written_trees.specs.Facts.{Facts, holds_array}
use Rattle.written_trees.specs.Names as written_names
use Rattle.written_trees.specs.Names.{procedure_name}
use Rattle.run_matches.specs.Agreeing.{Agrees, ResultMatch}
use Rattle.run_matches.specs.CoveredVariables.{covers_type}
use Rattle.run_matches.specs.Frames.{HasOwnObject}
use Rattle.run_matches.specs.Likeness.{LikeV, are_same, like_scalar}
use Rattle.run_matches.specs.Maps.{World, mark}
use Rattle.run_matches.specs.Match.{MemoryMatch}
use Rattle.run_matches.specs.Pledges.{Later, NetGiven, Pledge}
use Rattle.run_matches.specs.Runs.{CallsAgree, IsObject, call_pledge}
use Rattle.run_matches.specs.Upgrades.{Upgrade}
use Rattle.run_statements.specs.Members.{ObjectMatch}
use Rattle.run_statements.specs.Frames.{CanCall, ScalarMatch, context_of}
use Rattle.run_statements.specs.Ways.{Way, passings_by}
use Rattle.run_statements.specs.Written.{Passes}
use Rattle.row_laws.proofs.Composing.{then_assoc}
use Rattle.agreeing_laws.specs.Promises.{Weaker}
use Rattle.agreeing_laws.proofs.Agreeing.{agrees_gives, agrees_outside, agrees_promised, agrees_raises, left_alone, right_alone, then_agrees}
use Rattle.agreeing_laws.proofs.Made.{below_self}
use Rattle.agreeing_laws.proofs.Lasting.{later_now}
use Rattle.agreeing_laws.proofs.Members.{member_reached}
use Rattle.agreeing_laws.proofs.Moves.{address_later, locks_promised}
use Rattle.agreeing_laws.proofs.Scalars.{scalar_later}
use Rattle.run_statements.specs.Arguments.{ArgumentsMatch, next_address}
use Rattle.expression_laws.specs.Calls.{GivenMatch, Stands, result_shape}
use Rattle.expression_laws.proofs.Arguments.{arguments_ok, callee_is_weaker, callee_lasts, stands_later}
use Rattle.expression_laws.proofs.Callees.{IsCalled, back, call_address, enters_with, member_address, named_does, object_parts, takes}
use Rattle.expression_laws.proofs.LastingImages.{plain_later}
use Rattle.expression_laws.proofs.Checks.{value_checked}
use Rattle.expression_laws.proofs.ObjectMatches.{no_value, reached}
use Rattle.expression_laws.proofs.Entered.{caller_received, class_is, object_received}
use Rattle.expression_laws.proofs.Receivers.{ReceiverIs, for_none, for_object}
use Rattle.expression_laws.proofs.Types.{both_true}

-- ---- what is written for an argument

pub no_copy : (F : Facts) (ty : Ty) (copied : Bool) → covers_type ty ≡ true → (holds_array F ty && copied) ≡ false
no_copy F (types.user t) copied h = absurd (cc h)
no_copy F _ copied h = refl

-- an argument by value of which no copy is made stands as it is written
pub argument_is : (T : written_names.Scope) (referred : Bool) (e : Expr) → referred ≡ false → needs_copy T.facts e ≡ false
    → argument_exp T referred (tree.by_value e) (exp_of T e) ≡ exp_of T e
argument_is T referred e h uncopied =
    ap (λ b. cond b (temporary_exp T e (exp_of T e)) (value_exp T.facts e (exp_of T e))) h
    ∙ ap (λ b. cond b (copy_by (type_at e) (exp_of T e)) (exp_of T e)) uncopied

-- ---- what the target does

-- the target takes a value where the callee does
pub given_is : (S : Scope) (oracle : Jobs) (mode : NetPassing) (e : Exp) (w : net.Memory) → mode ≡ passing.Value
    → target.given S oracle mode (target.reach S oracle false e w) ≡ then (target.value_of S oracle e w) (λ v w. gives [] (by_value v) w)
given_is S oracle mode e w h = ap (λ m. target.given S oracle m (target.reach S oracle false e w)) h

-- ---- arguments on both sides

module _ (U : Upgrade) (K : Pledge) where
  -- one more variable by reference
  pub address_agrees : (q i : ℕ) (w : World) (a : Address) (b : net.Address) (rest : Memory → Outcome Memory (List SourceGiven))
      (rest' : net.Memory → Outcome net.Memory Arguments) → MemoryMatch U w → Same U K w a b → IsTarget U a
      → GivesWhole U q i a → IsPlain U w a → SuitsParameter U q i a b → Agrees U K w (ArgumentsMatch U K q (suc i)) (rest w.src) (rest' w.net)
      → Agrees U K w (ArgumentsMatch U K q i) (then (gives [] (by_address a) w.src) (λ g w. then (rest w) (λ gs w. gives [] (g ∷ gs) w)))
      (then (gives [] (by_address b) w.net) (λ g w. then (rest' w) (λ gs w. gives [] (g ∷ gs) w)))
  address_agrees q i w a b rest rest' start same target whole plain ranked more =
      left_alone U K w (ArgumentsMatch U K q i) (then (rest w.src) (λ gs w. gives [] (by_address a ∷ gs) w))
      (after [] (then (rest' w.net) (λ gs w. gives [] (by_address b ∷ gs) w)))
      (right_alone U K w (ArgumentsMatch U K q i) (then (rest w.src) (λ gs w. gives [] (by_address a ∷ gs) w))
      (then (rest' w.net) (λ gs w. gives [] (by_address b ∷ gs) w))
      (then_agrees U K w (ArgumentsMatch U K q (suc i)) (ArgumentsMatch U K q i) (rest w.src) (rest' w.net) (λ gs w. gives [] (by_address a ∷ gs) w)
      (λ gs w. gives [] (by_address b ∷ gs) w) start more
      (λ xs ys u given later.
      agrees_gives U K u (ArgumentsMatch U K q i) (by_address a ∷ xs) (by_address b ∷ ys) later.match
      (next_address i u a b xs ys (address_later U K w u a b later same) target whole (plain_later U K w u a b later same plain) ranked given))))

-- ---- the call

module _ (U : Upgrade) (K : Pledge) (p : ℕ) (f : SourceFrame) (g : NetFrame) (oracle : SourceCalls) (net_oracle : Jobs) (l : SourceLine) (k : NetLine)
    (c : Code) (T : written_names.Scope) (agree : CallsAgree U (Passes U) oracle net_oracle) where
  abbrev C : Context
  C = context_of U oracle p f l

  abbrev S : Scope
  S = scope_of U.written c g k

  -- a call with values that match, for the object of the frame that is entered
  pub entered_agrees : (q : ℕ) (qualified : Bool) (of : Object) (args : Passed) (can : CanCall U K S T p q qualified of args) (w : World) (me me' : Option ℕ)
      (xs : List SourceGiven) (ys : List NetGiven) → me' ≡ option_map w.map.objects me → IsObject w me → HasOwnObject U w q me
      → AllLocked U K w f.env → MemoryMatch U w → ArgumentsMatch U K q 0 w xs ys
      → Agrees U K w (GivenMatch U can.number) (then (oracle (enters q me f.env xs) w.src) back) (net_calls.entered S net_oracle can.number me' ys w.net)
  entered_agrees q qualified of args can w me me' xs ys same object own locks start h =
      let L : Pledge = call_pledge U q (mark w.src) me xs ys in
      let weaker : Weaker w K L = callee_is_weaker U K S T p q qualified of args w me xs ys can h in
      then_agrees U K w (ResultMatch U) (GivenMatch U can.number) (oracle (enters q me f.env xs) w.src) (net_oracle (enters can.number me' tt ys) w.net) back
      (λ r w. gives [] (result_address (result_shape U can.number) r) w) start
      (agrees_promised U K L w (ResultMatch U) (oracle (enters q me f.env xs) w.src) (net_oracle (enters can.number me' tt ys) w.net) start weaker
      (subst (λ m. Agrees U L w (ResultMatch U) (oracle (enters q me f.env xs) w.src) (net_oracle (enters can.number m tt ys) w.net)) (sym same)
      (agree q can.number me (mark w.src) f.env xs ys w can.passes can.is_number (below_self (mark w.src)) object own
      (locks_promised U K L w w f.env weaker locks) (arguments_ok U K L w q xs ys weaker (callee_lasts U q w me xs ys) h) start)))
      (λ x r v m later. agrees_gives U K v (GivenMatch U can.number) (result_parts x) (result_address (result_shape U can.number) r) later.match
      (record { given = x; net_given = r; is_given = refl; is_net_given = refl; match = m }))

  -- the object of a call is looked at behind the arguments: it is one of the class, or both raise 91
  module _ (q : ℕ) (qualified : Bool) (d : ℕ) (t : Term) (args : Passed)
      (can : CanCall U K (scope_of U.written c g k) T p q qualified (of_object (typed (types.class d) t)) args) (w : World) (xs : List SourceGiven)
      (ys : List NetGiven) (locks : AllLocked U K w f.env) (start : MemoryMatch U w) (h : ArgumentsMatch U K q 0 w xs ys) where
    class_entered : (o j : ℕ) → o < w.src.next_object → w.map.objects o ≡ j → (b : Bool) → is_class d (w.src.class_of o) ≡ b
        → Agrees U K w (GivenMatch U can.number) (then (provided b (λ s. oracle (enters q (Some o) f.env xs) s) w.src) back)
        (net_calls.entered S net_oracle can.number (Some j) ys w.net)
    class_entered o j is_made goes true e =
        entered_agrees q qualified (of_object (typed (types.class d) t)) args can w (Some o) (Some j) xs ys (ap (λ n. Some n) (sym goes)) is_made
        (object_received U w p q d t o can.receives is_made (class_is d (w.src.class_of o) e)) locks start h
    class_entered o j is_made goes false e = agrees_outside U K w (GivenMatch U can.number) (net_calls.entered S net_oracle can.number (Some j) ys w.net)

    scalar_entered : (x : Value6) (y : ValueN) → Matches (are_same w) (types.class d) x y
        → Agrees U K w (GivenMatch U can.number) (then (source.entered C q (receiver (Some d) (scalar (types.class d) x)) xs w.src) back)
        (procedure_does S net_oracle (Some (net_value.single y)) can.number ys w.net)
    scalar_entered _ _ (no_object_of _) = agrees_raises U K w (GivenMatch U can.number) 91 start
    scalar_entered _ _ (objects_of _ o j e) =
        let both = both_true (nat_lt o w.src.next_object) (nat_eq (w.map.objects o) j) e in
        class_entered o j (ltb-true o w.src.next_object both.0) (eqb-true (w.map.objects o) j both.1) (is_class d (w.src.class_of o)) refl

    pub object_entered : (x : Value6) (y : net_value.Value) → LikeV U w (scalar (types.class d) x) y
        → Agrees U K w (GivenMatch U can.number) (then (source.entered C q (receiver (Some d) (scalar (types.class d) x)) xs w.src) back)
        (procedure_does S net_oracle (Some y) can.number ys w.net)
    object_entered _ _ (like_scalar _ x y m) = scalar_entered x y m

  module _ (ty : Ty) (q : ProcId) (qualified : Bool) (args : Passed) where
    abbrev Takes : Way → (number : ℕ) → World → Type 0
    Takes way n v =
        Agrees U K v (ArgumentsMatch U K q.0 0) (source.args_of (context_of U oracle p f l) q.0 0 args v.src)
        (target.args_of (scope_of U.written c g k) net_oracle (passings_by U.written way n) (passed_of T q.0 0 args) v.net)

    -- A call whose arguments agree where they are evaluated.
    -- its object is found under another pledge, which is kept too
    pub call_agrees : (L : Pledge) → ((v : World) → Weaker v L K) → (of : Object) (can : CanCall U K S T p q.0 qualified of args) (bare : Bool)
        → IsCalled S T can.way bare q.0 qualified of args → (w : World) → ReceiverIs U L C S net_oracle T w of
        → ((v : World) → Later U L w v → Stands U K v p f g) → MemoryMatch U w → ((v : World) → Later U L w v → Takes can.way can.number v)
        → Agrees U L w (GivenMatch U can.number) (source.term_parts C ty (call q qualified of args) w.src)
        (target.address_of S net_oracle (called bare (callee_of T q.0 qualified of) (passed_of T q.0 0 args)) w.net)
    call_agrees L weaker _ can bare is w for_none stands start given =
        let r = source.args_of C q.0 0 args w.src in
        let r' = target.args_of S net_oracle (passings_by U.written can.way can.number) (passed_of T q.0 0 args) w.net in
        let go = λ (gs : List SourceGiven) (w : Memory). then (oracle (enters q.0 f.me f.env gs) w) back in
        let go' = λ (gs : Arguments) (w : net.Memory). procedure_does S net_oracle None can.number gs w in
        subst (λ z. Agrees U L w (GivenMatch U can.number) (after [] (then r go)) z)
        (sym (call_address S net_oracle T q.0 qualified args can.way bare is can.number can.found w.net))
        (left_alone U L w (GivenMatch U can.number) (then r go) (then r' go')
        (agrees_promised U L K w (GivenMatch U can.number) (then r go) (then r' go') start (weaker w)
        (then_agrees U K w (ArgumentsMatch U K q.0 0) (GivenMatch U can.number) r r' go go' start (given w (later_now U L w start))
        (λ xs ys v m later.
        let now : Stands U K v p f g = stands_later U K w v p f g later (stands w (later_now U L w start)) in
        entered_agrees q.0 qualified no_object args can v f.me g.me xs ys now.me now.object (caller_received U v p q.0 f.me can.receives now.own_object)
        now.locks later.match m))))
    call_agrees L weaker _ can bare is w (for_object d t (no_value none)) stands start given =
        let r' =
        target.address_of S net_oracle (called bare (callee_of T q.0 qualified (of_object (typed (types.class d) t))) (passed_of T q.0 0 args)) w.net in
        subst (λ z. Agrees U L w (GivenMatch U can.number) z r')
        (sym (object_parts C ty q qualified (typed (types.class d) t) args w.src
        ∙ ap (λ z. then z (λ x s. enters_with C q.0 args (receiver (Some d) x) s)) none))
        (agrees_outside U L w (GivenMatch U can.number) r')
    call_agrees L weaker _ can bare is w (for_object d t (reached r leads before agrees)) stands start given =
        let e : Expr = typed (types.class d) t in
        let name = procedure_name T.declarations q.0 in
        let callee : Exp = callee_of T q.0 qualified (of_object e) in
        let G = GivenMatch U can.number in
        let take = takes S net_oracle bare (passed_of T q.0 0 args) in
        let r' = λ (v : World). target.args_of S net_oracle (passings_by U.written can.way can.number) (passed_of T q.0 0 args) v.net in
        subst (λ z. Agrees U L w G z (target.address_of S net_oracle (called bare callee (passed_of T q.0 0 args)) w.net))
        (sym (object_parts C ty q qualified e args w.src))
        (subst (λ z. Agrees U L w G (then (source.value_of C e w.src) (λ x s. enters_with C q.0 args (receiver (Some d) x) s)) z)
        (sym (member_address S net_oracle T q.0 qualified args bare callee r name w.net (before name w.net)
        (member_reached S net_oracle T e r leads name w.net)))
        (then_agrees U L w (ObjectMatch U d) G (source.value_of C e w.src) (target.address_from S net_oracle (r w.net))
        (λ x s. enters_with C q.0 args (receiver (Some d) x) s) (λ a s. take (net_names.member_at S a name s) s) start agrees
        (λ x a v o later.
        let y : net_value.Value = net.looked_up a v.net in
        let does = λ (gs : Arguments) (s : net.Memory). procedure_does S net_oracle (Some y) can.number gs s in
        subst (λ z. Agrees U L v G (enters_with C q.0 args (receiver (Some d) x) v.src) z)
        (sym (ap (λ b. take (net_names.member_by S a b name v.net) v.net) o.shaped ∙ ap (λ z. take z v.net) (can.found d o.home y refl o.is_home)
        ∙ named_does S net_oracle T q.0 qualified args (of_object e) can.way bare is (Some y) can.number v.net))
        (subst (λ z. Agrees U L v G (enters_with C q.0 args (receiver (Some d) z) v.src) (then (r' v) does)) (sym o.like.1)
        (agrees_promised U L K v G (enters_with C q.0 args (receiver (Some d) (scalar (types.class d) o.like.0)) v.src) (then (r' v) does) later.match
        (weaker v)
        (then_agrees U K v (ArgumentsMatch U K q.0 0) G (source.args_of C q.0 0 args v.src) (r' v)
        (λ gs s. then (source.entered C q.0 (receiver (Some d) (scalar (types.class d) o.like.0)) gs s) back) does later.match (given v later)
        (λ xs ys u m behind.
        let now : Stands U K u p f g = stands_later U K v u p f g behind (stands v later) in
        object_entered q.0 qualified d t args can u xs ys now.locks behind.match m o.like.0 y
        (scalar_later U K v u (types.class d) o.like.0 y behind o.like.2))))))))

  -- ---- what it gives, as a value

  module _ (ty : Ty) (q : ProcId) (qualified : Bool) (of : Object) (args : Passed) (number : ℕ) (covers : covers_type ty ≡ true) where
    abbrev e : Expr
    e = typed ty (call q qualified of args)

    abbrev behind : Parts → Memory → Outcome Memory Value
    behind x v = then (source.as_new C (call q qualified of args) x v) (source.value_in C e)

    result_agrees : (v : World) (o : Option Value) (o' : Option net_value.Value) (s : shape.Shape) → MemoryMatch U v → ResultMatch U v o o'
        → Agrees U K v (ScalarMatch U ty) (behind (result_parts o) v.src) (target.read (result_address s o') v.net)
    result_agrees v None None s start m = agrees_outside U K v (ScalarMatch U ty) (target.read (result_address s None) v.net)
    result_agrees v None (Some y) s start m = absurd m
    result_agrees v (Some x) None s start m = absurd m
    result_agrees v (Some x) (Some y) s start m =
        let is = provided (is_of_shape (type_shape (declared C) ty) x) (λ w. gives [] x w) v.src in
        left_alone U K v (ScalarMatch U ty) (after [] is) (gives [] y v.net)
        (left_alone U K v (ScalarMatch U ty) is (gives [] y v.net) (value_checked U K C ty x y v covers start m.like))

    -- a call that gives what matches gives a value that does
    pub call_value_agrees : (w : World) (r' : Outcome net.Memory net.Address) → MemoryMatch U w
        → Agrees U K w (GivenMatch U number) (source.term_parts C ty (call q qualified of args) w.src) r'
        → Agrees U K w (ScalarMatch U ty) (source.value_of C e w.src) (then r' target.read)
    call_value_agrees w r' start h =
        let r = source.term_parts C ty (call q qualified of args) w.src in
        subst (λ z. Agrees U K w (ScalarMatch U ty) z (then r' target.read))
        (sym (then_assoc r (source.as_new C (call q qualified of args)) (source.value_in C e)))
        (then_agrees U K w (GivenMatch U number) (ScalarMatch U ty) r r' behind target.read start h
        (λ x a v m later.
        subst (λ z. Agrees U K v (ScalarMatch U ty) (behind z v.src) (target.read a v.net)) (sym m.is_given)
        (subst (λ z. Agrees U K v (ScalarMatch U ty) (behind (result_parts m.given) v.src) (target.read z v.net)) (sym m.is_net_given)
        (result_agrees v m.given m.net_given (result_shape U number) later.match m.match))))
