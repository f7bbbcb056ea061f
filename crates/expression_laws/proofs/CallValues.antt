-- What a call gives, as a value.
use Rattle.std.proofs.Common.{◌≡◌, ℕ, Bool, true}
use Rattle.vb_tree.specs.BoundTree.{Ty}
use Rattle.vb_tree.specs.declared.declared.ProcId.{ProcId}
use Rattle.bound_tree.specs.Tree.{Expr, typed, call, Object, Passed}
use Rattle.vb6_run.specs.Expressions as source
use Rattle.vb6_run.specs.Expressions.{Context}
use Rattle.vb6_run.specs.Forms.{SourceLine}
use Rattle.vb6_run.specs.Store.{SourceCalls, SourceFrame}
use Rattle.net_run.specs.Expressions as target
use Rattle.net_run.specs.Lines.{NetFrame, NetLine, scope_of}
use Rattle.net_run.specs.Making.{Jobs}
use Rattle.net_run.specs.Members.{Code}
use Rattle.net_run.specs.Names as net_names
use Rattle.written_trees.specs.Exprs.{exp_of}
use Rattle.written_trees.specs.Names.{Scope}
use Rattle.run_matches.specs.Agreeing.{Agrees}
use Rattle.run_matches.specs.CoveredVariables.{covers_type}
use Rattle.run_matches.specs.Maps.{World}
use Rattle.run_matches.specs.Match.{MemoryMatch}
use Rattle.run_matches.specs.Pledges.{Pledge}
use Rattle.run_matches.specs.Runs.{CallsAgree}
use Rattle.run_matches.specs.Upgrades.{Upgrade}
use Rattle.run_matches.specs.UserTypes.{is_group_type}
use Rattle.run_statements.specs.Frames.{ScalarMatch, context_of, type_shape}
use Rattle.run_statements.specs.Groups.{ValueMatch}
use Rattle.run_statements.specs.Written.{Passes}
use Rattle.expression_laws.specs.Calls.{GivenMatch}
use Rattle.expression_laws.proofs.Calls.{call_value_agrees}
use Rattle.expression_laws.proofs.GroupCalls.{group_value_agrees}

module _ (U : Upgrade) (K : Pledge) (p : ℕ) (f : SourceFrame) (g : NetFrame) (oracle : SourceCalls) (net_oracle : Jobs) (l : SourceLine) (k : NetLine)
    (c : Code) (T : Scope) (agree : CallsAgree U (Passes U) oracle net_oracle)
    (ty : Ty) (q : ProcId) (qualified : Bool) (of : Object) (args : Passed) (number : ℕ) (w : World) (start : MemoryMatch U w) where
  abbrev C : Context
  C = context_of U oracle p f l

  abbrev S : net_names.Scope
  S = scope_of U.written c g k

  abbrev e : Expr
  e = typed ty (call q qualified of args)

  abbrev IsGiven : Type 0
  IsGiven = Agrees U K w (GivenMatch U number) (source.term_parts C ty (call q qualified of args) w.src) (target.address_of S net_oracle (exp_of T e) w.net)

  pub call_value : covers_type ty ≡ true → IsGiven
      → Agrees U K w (ScalarMatch U ty) (source.value_of C e w.src) (target.value_of S net_oracle (exp_of T e) w.net)
  call_value covers given =
      let r' = target.address_of S net_oracle (exp_of T e) w.net in
      call_value_agrees U K p f g oracle net_oracle l k c T agree ty q qualified of args number covers w r' start given

  -- of a user type or a class
  pub call_gives : is_group_type ty ≡ true → IsGiven
      → Agrees U K w (ValueMatch U (type_shape U ty)) (source.value_of C e w.src) (target.value_of S net_oracle (exp_of T e) w.net)
  call_gives grouped given =
      group_value_agrees U K p f oracle l ty grouped q qualified of args number w (target.address_of S net_oracle (exp_of T e) w.net) start given
