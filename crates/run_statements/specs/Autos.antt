-- What becomes of As New variables in frames and memories that match.
use Rattle.std.specs.Prelude.{◌≡◌, ℕ, Bool, true}
use Rattle.vb_tree.specs.BoundTree as types
use Rattle.vb_tree.specs.declared.declared.VarId.{VarId}
use Rattle.vb_tree.specs.declared.value.Value6.{Value6}
use Rattle.bound_tree.specs.Tree.{typed, variable}
use Rattle.run_base.specs.Positions.{Position}
use Rattle.vb6_run.specs.Expressions as source
use Rattle.vb6_run.specs.Forms.{SourceLine}
use Rattle.run_base.specs.Outcomes.{then}
use Rattle.vb6_run.specs.Shapes.{simple}
use Rattle.vb6_run.specs.Store.{Address, root, Locked, SourceCalls, SourceFrame, write}
use Rattle.vb6_run.specs.Values.{scalar}
use Rattle.net_run.specs.Expressions as target
use Rattle.net_run.specs.Lines.{NetFrame, NetLine, scope_of}
use Rattle.net_run.specs.Making.{Jobs}
use Rattle.net_run.specs.Members.{Code}
use Rattle.net_run.specs.Store as net
use Rattle.net_run.specs.Values as net_value
use Rattle.written_trees.specs.Exprs.{target_exp}
use Rattle.written_trees.specs.Names.{Scope}
use Rattle.run_matches.specs.Addresses.{IsTarget, Same}
use Rattle.run_matches.specs.Agreeing.{Agrees}
use Rattle.run_matches.specs.CoveredExprs.{Uses}
use Rattle.run_matches.specs.Frames.{FrameMatch}
use Rattle.run_matches.specs.Likeness.{LikeV}
use Rattle.run_matches.specs.Maps.{World, is_auto_root}
use Rattle.run_matches.specs.Match.{MemoryMatch}
use Rattle.run_matches.specs.Pledges.{Pledge}
use Rattle.run_matches.specs.Upgrades.{Upgrade}
use Rattle.run_statements.specs.Frames.{AnyUnits, AreReadable, ArePlaced, context_of}

-- the images of an As New variable
pub record AutoMatch (U : Upgrade) (K : Pledge) (class : ℕ) (w : World) (a : Address) (b : net.Address) : Type 0 where
  pub position : Position
  pub stands : a ≡ root (simple (types.class class)) position
  pub same : Same U K w a b
  pub target : IsTarget U a
  pub is_auto : is_auto_root U w.map position.root ≡ true

-- the address of an As New variable, of which no object is made
abbrev pub AutosAreReached : Upgrade → Type 1
AutosAreReached U =
    (K : Pledge) (w : World) (p : ℕ) (f : SourceFrame) (g : NetFrame) (oracle : SourceCalls) (net_oracle : Jobs) (l : SourceLine) (k : NetLine) (c : Code)
    (T : Scope) (uses : Uses) (class : ℕ) (v : VarId) (qualified : Bool) → MemoryMatch U w → FrameMatch U K w p f g
    → T.declarations ≡ U.program.declarations → AreReadable U T uses → ArePlaced U p f (scope_of U.written c g k) T uses
    → uses.auto v (types.class class) ≡ true → uses.named v qualified ≡ true
    → Agrees U K w (AutoMatch U K class)
    (then (source.term_parts (context_of U oracle p f l) (types.class class) (variable v qualified) w.src) source.finished)
    (target.address_of (scope_of U.written c g k) net_oracle (target_exp T (typed (types.class class) (variable v qualified))) w.net)

-- An As New variable is set, by a Set or by the use that makes its object. No promise is broken by that: nothing else reads it.
abbrev pub AutosAreSetBy : Upgrade → Pledge → Type 0
AutosAreSetBy U K =
    (w : World) (class : ℕ) (a : Address) (b : net.Address) (locked : Locked) (x : Value6) (y : net_value.Value) → MemoryMatch U w
    → AutoMatch U K class w a b → LikeV U w (scalar (types.class class) x) y
    → Agrees U K w AnyUnits (write locked (scalar (types.class class) x) a w.src) (net.written b y w.net)

abbrev pub AutosAreSet : Upgrade → Type 1
AutosAreSet U = (K : Pledge) → AutosAreSetBy U K
