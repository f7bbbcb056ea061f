-- Calls where their uses are placed: their objects are found before their arguments.
use Rattle.vb_tree.specs.declared.declared.ProcId.{ProcId}
use Rattle.run_matches.specs.Keeping.{given_types}
use Rattle.expression_laws.proofs.Giving.{called_giving_for, giving, giving_more, stands_giving}
use Rattle.std.proofs.Common.{◌≡◌, ℕ, Bool, true}
use Rattle.vb_tree.specs.BoundTree.{Ty}
use Rattle.bound_tree.specs.Tree.{Expr, typed, call, Object, Passed}
use Rattle.run_base.specs.Outcomes.{Outcome}
use Rattle.vb6_run.specs.Expressions as source
use Rattle.vb6_run.specs.Expressions.{Context}
use Rattle.vb6_run.specs.Forms.{SourceLine}
use Rattle.vb6_run.specs.Store.{SourceCalls, SourceFrame}
use Rattle.net_run.specs.Expressions as target
use Rattle.net_run.specs.Lines.{NetFrame, NetLine, scope_of}
use Rattle.net_run.specs.Making.{Jobs}
use Rattle.net_run.specs.Members.{Code}
use Rattle.net_run.specs.Names as net_names
use Rattle.net_run.specs.Store as net
use Rattle.net_run.specs.Values as net_value
use Rattle.written_trees.specs.Exprs.{called, callee_of, exp_of, passed_of}
use Rattle.written_trees.specs.Names.{Scope}
use Rattle.run_matches.specs.Agreeing.{Agrees}
use Rattle.run_matches.specs.CoveredExprs.{Uses, covers_receiver}
use Rattle.run_matches.specs.Maps.{World}
use Rattle.run_matches.specs.Match.{MemoryMatch}
use Rattle.run_matches.specs.Pledges.{Pledge}
use Rattle.run_matches.specs.Upgrades.{Upgrade}
use Rattle.run_matches.specs.Runs.{CallsAgree}
use Rattle.run_statements.specs.Frames.{AllCalled, AllCalledFor, AreReadable, CanCall, Demands, IsOpen, demands, context_of}
use Rattle.run_statements.specs.Objects.{ClassesAreWritten}
use Rattle.run_statements.specs.Written.{Passes}
use Rattle.expression_laws.specs.Calls.{GivenMatch, Stands}
use Rattle.expression_laws.proofs.Arguments.{stands_later}
use Rattle.expression_laws.proofs.Callees.{IsCalled}
use Rattle.expression_laws.proofs.CallsGiven.{ArgumentsAgree, call_made}
use Rattle.expression_laws.proofs.KeptObjects.{receiver_is}
use Rattle.expression_laws.proofs.Withs.{HavePlaces, places_later, places_promised}

module _ (U : Upgrade) (p : ℕ) (f : SourceFrame) (g : NetFrame) (oracle : SourceCalls) (net_oracle : Jobs)
    (l : SourceLine) (k : NetLine) (c : Code) (T : Scope) (agree : CallsAgree U (Passes U) oracle net_oracle) where
  abbrev C : Context
  C = context_of U oracle p f l

  abbrev S : net_names.Scope
  S = scope_of U.written c g k

  abbrev written : Expr → World → Outcome net.Memory net_value.Value
  written e w = target.value_of S net_oracle (exp_of T e) w.net

  abbrev Can : Pledge → ℕ → (qualified : Bool) → Object → Passed → Type 0
  Can K q qualified of called_with = CanCall U K (scope_of U.written c g k) T p q qualified of called_with

  abbrev Asked : Pledge → Demands
  Asked K = demands U K p l k (scope_of U.written c g k) T

  -- a call, which keeps the arrays of the elements that it is given
  abbrev kept_with : Pledge → Passed → Pledge
  kept_with K args = giving K (given_types args)

  module _ (uses : Uses) (same_declarations : T.declarations ≡ U.program.declarations) (readable : AreReadable U T uses)
      (opened : IsOpen (scope_of U.written c g k)) (classes : ClassesAreWritten U) where
    abbrev Have : Pledge → World → Type 0
    Have K w = HavePlaces U p f g oracle net_oracle l k c T uses K w

    pub call_placed : (K : Pledge) (ty : Ty) (q : ProcId) (qualified : Bool) (of : Object) (args : Passed) (w : World) → MemoryMatch U w → Have K w
        → Stands U K w p f g → (can : AllCalled (Asked K) (typed ty (call q qualified of args))) → (bare : Bool)
        → IsCalled S T can.0.way bare q.0 qualified of args → covers_receiver uses of ≡ true
        → ((v : World) → MemoryMatch U v → Have (kept_with K args) v → Stands U (kept_with K args) v p f g
        → AllCalledFor (Asked (kept_with K args)) args → ArgumentsAgree U p f g oracle net_oracle l k c T agree K q args can.0.way can.0.number v)
        → Agrees U K w (GivenMatch U can.0.number) (source.term_parts C ty (call q qualified of args) w.src)
        (target.address_of S net_oracle (called bare (callee_of T q.0 qualified of) (passed_of T q.0 0 args)) w.net)
    call_placed K ty q qualified of args w start have stands can bare by_way covers given =
        let ts = given_types args in
        call_made U p f g oracle net_oracle l k c T agree K ty q qualified of args w start stands can.0 bare by_way
        (receiver_is U K p f g oracle net_oracle l k c T uses same_declarations readable w start have opened agree classes stands of can.2 covers)
        (λ v later.
        given v later.match
        (places_promised U p f g oracle net_oracle l k c T uses K (kept_with K args) v later.match (giving_more K ts v)
        (places_later U p f g oracle net_oracle l k c T uses K w v start later have))
        (stands_giving U K ts v later.match p f g (stands_later U K w v p f g later stands)) (called_giving_for U K S T ts p l k args can.0.inside can.1))
