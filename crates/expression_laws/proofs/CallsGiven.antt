-- Calls while the arrays of the elements that they are given are kept.
use Rattle.vb_tree.specs.declared.declared.ProcId.{ProcId}
use Rattle.run_matches.specs.Keeping.{given_types}
use Rattle.expression_laws.proofs.Giving.{can_giving, giving, giving_more, stands_giving}
use Rattle.std.proofs.Common.{◌≡◌, ◌∙◌, ap, ℕ, ◌+◌, Bool}
use Rattle.vb_tree.specs.BoundTree.{Ty}
use Rattle.bound_tree.specs.Tree.{Expr, call, Object, Passed}
use Rattle.run_base.specs.Outcomes.{Outcome}
use Rattle.vb6_run.specs.Expressions as source
use Rattle.vb6_run.specs.Expressions.{Context}
use Rattle.vb6_run.specs.Forms.{SourceLine}
use Rattle.vb6_run.specs.Store.{SourceCalls, SourceFrame}
use Rattle.net_run.specs.Expressions as target
use Rattle.net_run.specs.Lines.{NetFrame, NetLine, scope_of}
use Rattle.net_run.specs.Making.{Jobs}
use Rattle.net_run.specs.Members.{Code}
use Rattle.net_run.specs.Names as net_names
use Rattle.net_run.specs.Store as net
use Rattle.net_run.specs.Values as net_value
use Rattle.written_trees.specs.Exprs.{called, callee_of, exp_of, passed_of}
use Rattle.written_trees.specs.Names.{Scope}
use Rattle.run_matches.specs.Agreeing.{Agrees}
use Rattle.run_matches.specs.Maps.{World}
use Rattle.run_matches.specs.Match.{MemoryMatch}
use Rattle.run_matches.specs.Pledges.{Later, Pledge}
use Rattle.run_matches.specs.Upgrades.{Upgrade}
use Rattle.run_matches.specs.Runs.{CallsAgree}
use Rattle.run_statements.specs.Frames.{CanCall, Demands, demands, context_of, passing_at, passing_by}
use Rattle.run_statements.specs.Ways.{Way, passings_by}
use Rattle.run_statements.specs.Written.{Passes}
use Rattle.run_statements.specs.Arguments.{ArgumentsMatch}
use Rattle.expression_laws.specs.Calls.{GivenMatch, Stands}
use Rattle.expression_laws.proofs.Arguments.{stands_later}
use Rattle.expression_laws.proofs.Callees.{IsCalled}
use Rattle.expression_laws.proofs.Calls.{call_agrees}
use Rattle.expression_laws.proofs.Receivers.{ReceiverIs}
use Rattle.expression_laws.proofs.References.{first}
use Rattle.run_matches.specs.Covered.{takes_address}

module _ (U : Upgrade) (p : ℕ) (f : SourceFrame) (g : NetFrame) (oracle : SourceCalls) (net_oracle : Jobs)
    (l : SourceLine) (k : NetLine) (c : Code) (T : Scope) (agree : CallsAgree U (Passes U) oracle net_oracle) where
  abbrev C : Context
  C = context_of U oracle p f l

  abbrev S : net_names.Scope
  S = scope_of U.written c g k

  abbrev written : Expr → World → Outcome net.Memory net_value.Value
  written e w = target.value_of S net_oracle (exp_of T e) w.net

  abbrev Can : Pledge → ℕ → (qualified : Bool) → Object → Passed → Type 0
  Can K q qualified of called_with = CanCall U K (scope_of U.written c g k) T p q qualified of called_with

  abbrev Asked : Pledge → Demands
  Asked K = demands U K p l k (scope_of U.written c g k) T

  pub from_first : (K : Pledge) {q : ℕ} {qualified : Bool} {of : Object} {called_with : Passed} (can : Can K q qualified of called_with)
      → (n : ℕ) → passing_at (passings_by U.written can.way can.number) n ≡ passing_by (takes_address U.program.declarations q (0 + n))
  from_first K {q} can n = can.passings n ∙ ap (λ m. passing_by (takes_address U.program.declarations q m)) (first n)

  -- a call, which keeps the arrays of the elements that it is given
  abbrev kept_with : Pledge → Passed → Pledge
  kept_with K args = giving K (given_types args)

  -- the arguments agree, where they are evaluated
  abbrev pub ArgumentsAgree : Pledge → (q : ProcId) → Passed → Way → (number : ℕ) → World → Type 0
  ArgumentsAgree K q args way n v =
      Agrees U (giving K (given_types args)) v (ArgumentsMatch U (giving K (given_types args)) q.0 0)
      (source.args_of (context_of U oracle p f l) q.0 0 args v.src)
      (target.args_of (scope_of U.written c g k) net_oracle (passings_by U.written way n) (passed_of T q.0 0 args) v.net)

  pub call_made : (K : Pledge) (ty : Ty) (q : ProcId) (qualified : Bool) (of : Object) (args : Passed) (w : World) → MemoryMatch U w → Stands U K w p f g
      → (can : Can K q.0 qualified of args) → (bare : Bool) → IsCalled S T can.way bare q.0 qualified of args
      → ReceiverIs U K C S net_oracle T w of → ((v : World) → Later U K w v → ArgumentsAgree K q args can.way can.number v)
      → Agrees U K w (GivenMatch U can.number) (source.term_parts C ty (call q qualified of args) w.src)
      (target.address_of S net_oracle (called bare (callee_of T q.0 qualified of) (passed_of T q.0 0 args)) w.net)
  call_made K ty q qualified of args w start stands can bare by_way is given =
      let ts = given_types args in
      call_agrees U (giving K ts) p f g oracle net_oracle l k c T agree ty q qualified args K (giving_more K ts) of
      (can_giving U K S T ts p q.0 qualified of args can.given can) bare by_way w is
      (λ v later. stands_giving U K ts v later.match p f g (stands_later U K w v p f g later stands)) start given
