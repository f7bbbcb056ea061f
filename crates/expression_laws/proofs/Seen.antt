-- What is written for the call of an object is seen to be one where the object is evaluated.
use Rattle.std.proofs.Common.{◌≡◌, refl, sym, ap, subst, ◌∙◌, ℕ, Bool, false, Some, List, [], ◌++◌}
use Rattle.vb_tree.specs.BoundTree as types
use Rattle.vb_tree.specs.BoundTree.{Ty}
use Rattle.vb_tree.specs.declared.declared.ProcId.{ProcId}
use Rattle.bound_tree.specs.Tree.{Expr, typed, Term, call, me, of_object, Passed}
use Rattle.net_tree.specs.Tree as tree
use Rattle.net_tree.specs.Tree.{Exp, call_of}
use Rattle.net_tree.specs.declared.declaration.NetPassing.{NetPassing}
use Rattle.run_base.specs.Outcomes.{Outcome, Output, gives, outputs, outside, raises, spent, then}
use Rattle.vb6_run.specs.Expressions as source
use Rattle.vb6_run.specs.Expressions.{Context, receiver}
use Rattle.vb6_run.specs.Store.{Memory, SourceFrame}
use Rattle.vb6_run.specs.Values.{Value}
use Rattle.net_run.specs.Calls.{Arguments, passings_at}
use Rattle.net_run.specs.Expressions as target
use Rattle.net_run.specs.Making.{Jobs}
use Rattle.net_run.specs.Names as net_names
use Rattle.net_run.specs.Names.{Reached, Scope, at_place, called, named, to_procedure}
use Rattle.net_run.specs.Store as net
use Rattle.written_trees.specs.Arguments.{is_property}
use Rattle.written_trees.specs.Exprs.{callee_of, exp_of, passed_of}
use Rattle.written_trees.specs.Names as written_names
use Rattle.written_trees.specs.Names.{procedure_name}
use Rattle.run_matches.specs.Agreeing.{Agrees}
use Rattle.run_matches.specs.Maps.{World}
use Rattle.run_matches.specs.Pledges.{Pledge}
use Rattle.run_matches.specs.Upgrades.{Upgrade}
use Rattle.run_statements.specs.Members.{ObjectMatch}
use Rattle.run_statements.specs.Frames.{CanCall}
use Rattle.run_statements.specs.Ways.{callee_by}
use Rattle.agreeing_laws.specs.Promises.{Yields}
use Rattle.agreeing_laws.proofs.Members.{member_reached}
use Rattle.agreeing_laws.proofs.Outputs.{outputs_then}
use Rattle.expression_laws.proofs.Callees.{callee_is, enters_with, object_parts, way_of_procedure}
use Rattle.expression_laws.proofs.Handled.{IsHandled, yields_behind, yields_then}
use Rattle.expression_laws.proofs.Me.{IsMe}
use Rattle.expression_laws.proofs.ObjectMatches.{ObjectIs, no_value, reached}

-- It leads to a value or to a call that is no property's; or the source has left before, and what is written has put out the same until then.
pub data IsSeen (C : Context) (S : Scope) (oracle : Jobs) (w : World) (e : Expr) (a : Exp) : Type 0 where
  leads : Yields IsHandled (target.reach S oracle false a w.net) → IsSeen C S oracle w e a
  leaves : (o rest : List Output) → source.parts_of C e w.src ≡ outside o → outputs (target.reach S oracle false a w.net) ≡ o ++ rest
      → IsSeen C S oracle w e a

-- so it is where the source goes on from the expression
pub seen_within : (C : Context) (S : Scope) (oracle : Jobs) (w : World) (d e : Expr)
    → ((o : List Output) → source.parts_of C d w.src ≡ outside o → source.parts_of C e w.src ≡ outside o) → (a : Exp) → IsSeen C S oracle w d a
    → IsSeen C S oracle w e a
seen_within C S oracle w d e f a (leads h) = leads h
seen_within C S oracle w d e f a (leaves o rest is out) = leaves o rest (f o is) out

module _ (U : Upgrade) (C : Context) (S : Scope) (oracle : Jobs) (w : World) where
  -- Me
  pub me_seen : (f : SourceFrame) (ty : Ty) (d : ℕ) → IsMe U f S w d → IsSeen C S oracle w (typed ty me) tree.me
  me_seen f ty d x = leads (subst (λ b. Yields IsHandled (gives [] (at_place b) w.net)) (sym x.written) tt)

  module _ (K : Pledge) (T : written_names.Scope) (p : ℕ) (ty : Ty) (q : ProcId) (qualified : Bool) (d : ℕ) (t : Term) (args : Passed)
      (can : CanCall U K S T p q.0 qualified (of_object (typed (types.class d) t)) args)
      (none : is_property U.program.declarations q.0 ≡ false) (plain : is_property T.declarations q.0 ≡ false) where
    abbrev object : Expr
    object = typed (types.class d) t

    abbrev e : Expr
    e = typed ty (call q qualified (of_object object) args)

    abbrev callee : Exp
    callee = callee_of T q.0 qualified (of_object object)

    abbrev name : List ℕ
    name = procedure_name T.declarations q.0

    abbrev take : Reached → net.Memory → Outcome net.Memory Reached
    take r s =
        target.applied S oracle (λ (m : List NetPassing) (s : net.Memory). target.args_of S oracle m (passed_of T q.0 0 args) s)
        (λ s. target.values_of S oracle (passed_of T q.0 0 args) s) r s

    abbrev member_of_it : net.Address → net.Memory → Outcome net.Memory Reached
    member_of_it a s = gives [] (net_names.member_at S a name s) s

    -- what the source does where the object is outside
    leaves_so : (o : List Output) → source.value_of C object w.src ≡ outside o → source.parts_of C e w.src ≡ outside o
    leaves_so o is =
        ap (λ z. then z (source.as_new C (call q qualified (of_object object) args)))
        (object_parts C ty q qualified object args w.src ∙ ap (λ z. then z (λ x s. enters_with C q.0 args (receiver (Some d) x) s)) is)

    -- the member of an object of the class is the procedure
    named_is : (v : World) (x : Value) (a : net.Address) → ObjectMatch U d v x a → (s : net.Memory)
        → net_names.member_at S a name s ≡ named (to_procedure (Some (net.looked_up a s)) can.number)
    named_is v x a o s =
        ap (λ b. net_names.member_by S a b name s) o.shaped ∙ can.found d o.home (net.looked_up a s) refl o.is_home
        ∙ ap (λ y. named (callee_by y (Some (net.looked_up a s)) can.number))
        (way_of_procedure U S T q.0 qualified (of_object object) args can.way can.is_way none)

    abbrev Whole : Outcome net.Memory net.Address → Outcome net.Memory Reached
    Whole z = then (then z member_of_it) take

    called_seen : (z : Outcome Memory Value) (z' : Outcome net.Memory net.Address) → source.value_of C object w.src ≡ z → Agrees U K w (ObjectMatch U d) z z'
        → target.reach S oracle false (call_of callee (passed_of T q.0 0 args)) w.net ≡ Whole z'
        → IsSeen C S oracle w e (call_of callee (passed_of T q.0 0 args))
    called_seen (gives o x s) (gives r a v) is h goes =
        leads
        (subst (λ y. Yields IsHandled y) (sym goes)
        (yields_behind (r ++ []) (take (net_names.member_at S a name v) v)
        (subst (λ y. Yields IsHandled (take y v)) (sym (named_is _ x a h.2 v))
        (yields_then (target.args_of S oracle (passings_at S.project (Some can.number)) (passed_of T q.0 0 args) v)
        (λ (gs : Arguments) (s : net.Memory). gives [] (called (to_procedure (Some (net.looked_up a v)) can.number) gs) s) (λ gs s. tt)))))
    called_seen (raises o n s) (raises r m v) is h goes = leads (subst (λ y. Yields IsHandled y) (sym goes) tt)
    called_seen (spent o s) (spent r v) is h goes = leads (subst (λ y. Yields IsHandled y) (sym goes) tt)
    called_seen (outside o) z' is h goes =
        let x = outputs_then o h.0 z' member_of_it h.1 in
        let y = outputs_then o x.0 (then z' member_of_it) take x.1 in
        leaves o y.0 (leaves_so o is) (ap outputs goes ∙ y.1)
    called_seen _ _ is h goes = absurd h

    pub object_call_seen : ObjectIs U K C S oracle T w d t
        → IsSeen C S oracle w (typed ty (call q qualified (of_object (typed (types.class d) t)) args))
        (exp_of T (typed ty (call q qualified (of_object (typed (types.class d) t)) args)))
    object_call_seen (no_value none) =
        leaves [] (outputs (target.reach S oracle false (exp_of T e) w.net)) (leaves_so [] none) refl
    object_call_seen (reached r leads_to before agrees) =
        subst (λ a. IsSeen C S oracle w e a) (sym (callee_is T ty q qualified (of_object object) args plain))
        (called_seen (source.value_of C object w.src) (target.address_from S oracle (r w.net)) refl agrees
        (ap (λ z. then z take) (before name w.net ∙ member_reached S oracle T object r leads_to name w.net)))
