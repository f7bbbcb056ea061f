-- An object that a Function or a property gives, which is called without arguments: what is written reaches it.
use Rattle.std.proofs.Common.{◌≡◌, ◌∙◌, refl, sym, ap, subst, ℕ, Bool, true, false, [], Option, Some, None, inl, inr, true≢false}
use Rattle.std.specs.Prelude.{slice_get}
use Rattle.vb_tree.specs.BoundTree as types
use Rattle.vb_tree.specs.declared.declared.ProcId.{ProcId}
use Rattle.bound_tree.specs.Tree.{Expr, typed, call, Object, no_object, of_object, no_passed}
use Rattle.net_tree.specs.Tree.{no_exps, path}
use Rattle.run_base.specs.Outcomes.{Outcome, after, gives, then}
use Rattle.vb6_run.specs.Expressions as source
use Rattle.vb6_run.specs.Expressions.{Context, Parts, declared, receiver, result_parts}
use Rattle.vb6_run.specs.Forms.{SourceLine}
use Rattle.vb6_run.specs.Shapes.{simple}
use Rattle.vb6_run.specs.Store.{Memory, SourceCalls, SourceFrame, provided}
use Rattle.vb6_run.specs.Values.{Value, is_of_shape}
use Rattle.net_run.specs.Calls.{result_address}
use Rattle.net_run.specs.Expressions as target
use Rattle.net_run.specs.Lines.{NetFrame, NetLine, scope_of}
use Rattle.net_run.specs.Making.{Jobs}
use Rattle.net_run.specs.Members.{Code}
use Rattle.net_run.specs.Names as net_names
use Rattle.net_run.specs.Names.{Reached, named, path_start, starts, to_property}
use Rattle.net_run.specs.Store as net
use Rattle.net_run.specs.Values as net_value
use Rattle.written_trees.specs.Exprs.{called, callee_of, exp_of, is_bare}
use Rattle.written_trees.specs.Names.{Scope, procedure_name, procedure_path}
use Rattle.run_matches.specs.Agreeing.{Agrees, ResultMatch}
use Rattle.run_matches.specs.CoveredExprs.{has_result_type, is_giving}
use Rattle.run_matches.specs.Keeping.{given_types}
use Rattle.run_matches.specs.Likeness.{SameShape}
use Rattle.run_matches.specs.Maps.{World}
use Rattle.run_matches.specs.Match.{MemoryMatch}
use Rattle.run_matches.specs.Pledges.{Later, Pledge}
use Rattle.run_matches.specs.Runs.{CallsAgree}
use Rattle.run_matches.specs.Upgrades.{Upgrade}
use Rattle.run_statements.specs.Members.{ObjectMatch}
use Rattle.run_statements.specs.Frames.{CanCall, context_of}
use Rattle.run_statements.specs.Ways.{Way, as_get, as_procedure, as_set, callee_by}
use Rattle.run_statements.specs.Written.{Passes}
use Rattle.row_laws.proofs.Composing.{then_assoc, then_gives}
use Rattle.agreeing_laws.proofs.Agreeing.{agrees_gives, agrees_outside, left_alone, then_agrees}
use Rattle.agreeing_laws.proofs.FieldPaths.{property_more}
use Rattle.agreeing_laws.proofs.Members.{Reaches, behind_reaches, call_leads, path_reaches}
use Rattle.run_statements.specs.Arguments.{ArgumentsMatch, no_arguments}
use Rattle.expression_laws.specs.Calls.{GivenMatch, Stands, result_shape}
use Rattle.expression_laws.proofs.BeforeArguments.{IsBefore, method_before, named_before}
use Rattle.expression_laws.proofs.Callees.{IsCalled, called_as_written, enters_with, object_parts}
use Rattle.expression_laws.proofs.CallsGiven.{ArgumentsAgree, call_made}
use Rattle.expression_laws.proofs.Checks.{provided_agrees}
use Rattle.expression_laws.proofs.Giving.{giving}
use Rattle.expression_laws.proofs.GroupCalls.{group_value}
use Rattle.expression_laws.proofs.Nothings.{as_scalar}
use Rattle.expression_laws.proofs.ObjectMatches.{ObjectIs, class_shaped, no_value, reached}
use Rattle.expression_laws.proofs.Receivers.{ReceiverIs, for_none, for_object}

module _ (U : Upgrade) (K : Pledge) (p : ℕ) (f : SourceFrame) (g : NetFrame) (oracle : SourceCalls) (net_oracle : Jobs) (l : SourceLine) (k : NetLine)
    (c : Code) (T : Scope) (same_declarations : T.declarations ≡ U.program.declarations) (agree : CallsAgree U (Passes U) oracle net_oracle) (w : World)
    (start : MemoryMatch U w) (stands : Stands U K w p f g) (d : ℕ) (q : ProcId) (qualified : Bool) where
  abbrev C : Context
  C = context_of U oracle p f l

  abbrev S : net_names.Scope
  S = scope_of U.written c g k

  abbrev whole : Object → Expr
  whole of = typed (types.class d) (call q qualified of no_passed)

  abbrev R : World → Value → net.Address → Type 0
  R = ObjectMatch U d

  -- ---- what is given

  module _ (of : Object) (number : ℕ) (same : SameShape U (simple (types.class d)) (result_shape U number)) where
    abbrev behind : Parts → Memory → Outcome Memory Value
    behind x v = then (source.as_new C (call q qualified of no_passed) x v) (source.value_in C (whole of))

    result_agrees : (v : World) (o : Option Value) (o' : Option net_value.Value) → MemoryMatch U v → ResultMatch U v o o'
        → Agrees U K v R (behind (result_parts o) v.src) (gives [] (result_address (result_shape U number) o') v.net)
    result_agrees v None None start m = agrees_outside U K v R (gives [] (result_address (result_shape U number) None) v.net)
    result_agrees v None (Some y) start m = absurd m
    result_agrees v (Some x) None start m = absurd m
    result_agrees v (Some x) (Some y) start m =
        let s = source.type_shape (declared C) (types.class d) in
        let is = provided (is_of_shape s x) (λ w. gives [] x w) v.src in
        let b : net.Address = net.constant (result_shape U number) y in
        let there = class_shaped U d (result_shape U number) same in
        left_alone U K v R (after [] is) (gives [] b v.net)
        (left_alone U K v R is (gives [] b v.net)
        (provided_agrees U K v R (is_of_shape s x) x (gives [] b v.net) (λ ok.
        agrees_gives U K v R x b start (record {
          like = as_scalar U d v x y (group_value U (types.class d) x refl ok m.whole, m.like);
          home = there.0;
          is_home = there.1;
          shaped = there.2;
        }))))

    object_agrees : (r' : Outcome net.Memory net.Address)
        → Agrees U K w (GivenMatch U number) (source.term_parts C (types.class d) (call q qualified of no_passed) w.src) r'
        → Agrees U K w R (source.value_of C (whole of) w.src) r'
    object_agrees r' h =
        let r = source.term_parts C (types.class d) (call q qualified of no_passed) w.src in
        subst (λ z. Agrees U K w R (source.value_of C (whole of) w.src) z) (then_gives r')
        (subst (λ z. Agrees U K w R z (then r' (λ a v. gives [] a v)))
        (sym (then_assoc r (source.as_new C (call q qualified of no_passed)) (source.value_in C (whole of))))
        (then_agrees U K w (GivenMatch U number) R r r' behind (λ a v. gives [] a v) start h
        (λ x a v m later.
        subst (λ z. Agrees U K v R (behind z v.src) (gives [] a v.net)) (sym m.is_given)
        (subst (λ z. Agrees U K v R (behind (result_parts m.given) v.src) (gives [] z v.net)) (sym m.is_net_given)
        (result_agrees v m.given m.net_given later.match m.match)))))

  -- ---- what is written

  abbrev Leads : Object → Type 0
  Leads of = (r : net.Memory → Outcome net.Memory Reached) × Reaches S net_oracle T (whole of) r

  module _ (of : Object) where
    -- as a call, which stands before the members
    as_call : (b : Bool) → b ≡ false → exp_of T (whole of) ≡ called b (callee_of T q.0 qualified of) no_exps → Leads of
    as_call b e is = (
      _,
      call_leads S net_oracle T (whole of) (callee_of T q.0 qualified of) no_exps
          (is ∙ ap (λ z. called z (callee_of T q.0 qualified of) no_exps) e) (λ name. refl),
    )

  -- a property's name, behind which the names of members stand
  none_leads : (way : Way) (b : Bool) → IsCalled S T way b q.0 qualified no_object no_passed
      → exp_of T (whole no_object) ≡ called b (path (procedure_path T qualified q.0)) no_exps → (n : ℕ)
      → path_start S true (procedure_path T qualified q.0) ≡ starts (named (callee_by way None n)) [] → Leads no_object
  none_leads as_procedure b by_way is n found = as_call no_object b by_way is
  none_leads (as_get set) true (inr apart) is n found = absurd (true≢false apart)
  none_leads (as_get set) true (inl by_way) is n found = (
    _,
    path_reaches S net_oracle T (whole no_object) (named (to_property None (Some n) set)) (procedure_path T qualified q.0) is (λ name. refl)
        (λ more t. ap (λ z. target.started S net_oracle z t) (property_more S None (Some n) set (procedure_path T qualified q.0) more (by_way.1 ∙ found))),
  )
  none_leads (as_get set) false by_way is n found = as_call no_object false refl is
  none_leads (as_set get) b by_way is n found = absurd by_way

  -- that of a property of an object is a member, behind which members stand
  method_leads : (e : Expr) (r : net.Memory → Outcome net.Memory Reached) → Reaches S net_oracle T e r → (b : Bool)
      → exp_of T (whole (of_object e)) ≡ called b (callee_of T q.0 qualified (of_object e)) no_exps → Leads (of_object e)
  method_leads e r leads true is = (_, behind_reaches S net_oracle T e r leads (whole (of_object e)) (procedure_name T.declarations q.0) is (λ next. refl))
  method_leads e r leads false is = as_call (of_object e) false refl is

  -- ---- the object

  abbrev Is : Object → Type 0
  Is of = ObjectIs U K C S net_oracle T w d (call q qualified of no_passed)

  module _ (giving_one : is_giving (slice_get U.program.declarations.procs q.0) ≡ true)
      (gives_object : has_result_type (types.class d) (slice_get U.program.declarations.procs q.0) ≡ true) where
    reached_by : (of : Object) → Leads of → IsBefore S net_oracle T (whole of)
        → Agrees U K w R (source.value_of C (whole of) w.src) (target.address_of S net_oracle (exp_of T (whole of)) w.net) → Is of
    reached_by of leads before agrees =
        reached leads.0 leads.1 before
        (subst (λ z. Agrees U K w R (source.value_of C (whole of) w.src) (target.address_from S net_oracle z)) (leads.1.reached refl w.net) agrees)

    module _ (of : Object) (can : CanCall U K S T p q.0 qualified of no_passed) where
      abbrev bare : Bool
      bare = is_bare T q.0 qualified of no_passed

      by_way : IsCalled S T can.way bare q.0 qualified of no_passed
      by_way = called_as_written U S T q.0 qualified of no_passed same_declarations can.way can.is_way giving_one

      no_arguments_agree : (v : World) → Later U K w v → ArgumentsAgree U p f g oracle net_oracle l k c T agree K q no_passed can.way can.number v
      no_arguments_agree v later =
          let L : Pledge = giving K (given_types no_passed) in
          agrees_gives U L v (ArgumentsMatch U L q.0 0) [] [] later.match (no_arguments 0 v)

      value_agrees : ReceiverIs U K C S net_oracle T w of
          → Agrees U K w R (source.value_of C (whole of) w.src) (target.address_of S net_oracle (exp_of T (whole of)) w.net)
      value_agrees is =
          object_agrees of can.number (can.result d gives_object) (target.address_of S net_oracle (exp_of T (whole of)) w.net)
          (call_made U p f g oracle net_oracle l k c T agree K (types.class d) q qualified of no_passed w start stands can bare by_way is no_arguments_agree)

    pub given_is : (of : Object) → CanCall U K (scope_of U.written c g k) T p q.0 qualified of no_passed
        → ReceiverIs U K (context_of U oracle p f l) (scope_of U.written c g k) net_oracle T w of
        → ObjectIs U K (context_of U oracle p f l) (scope_of U.written c g k) net_oracle T w d (call q qualified of no_passed)
    given_is _ can for_none =
        reached_by no_object (none_leads can.way (bare no_object can) (by_way no_object can) refl can.number can.found)
        (named_before S net_oracle T (types.class d) q qualified no_passed (callee_by can.way None can.number) can.found)
        (value_agrees no_object can for_none)
    given_is _ can (for_object of_class t (no_value none)) =
        let e : Expr = typed (types.class of_class) t in
        no_value
        (ap (λ z. then (then z (source.as_new C (call q qualified (of_object e) no_passed))) (source.value_in C (whole (of_object e))))
        (object_parts C (types.class d) q qualified e no_passed w.src
        ∙ ap (λ z. then z (λ x s. enters_with C q.0 no_passed (receiver (Some of_class) x) s)) none))
    given_is _ can (for_object of_class t (reached r leads before agrees)) =
        let e : Expr = typed (types.class of_class) t in
        reached_by (of_object e) (method_leads e r leads (bare (of_object e) can) refl)
        (method_before S net_oracle T (types.class d) q qualified e no_passed)
        (value_agrees (of_object e) can (for_object of_class t (reached r leads before agrees)))
