-- What the expressions, the lines and the runs of a well-typed procedure end with.
use Rattle.std.specs.Prelude.{ℕ, List, Option}
use Rattle.vb_tree.specs.declared.value.Value6.{Value6}
use Rattle.vb_tree.specs.Tree.{Form}
use Rattle.bound_tree.specs.Tree.{Procedure, Expr}
use Rattle.bound_facts.specs.Node.{type_at}
use Rattle.run_base.specs.Outcomes.{Outcome, gives, raises, spent, outside}
use Rattle.vb6_run.specs.Expressions.{Context, declared}
use Rattle.vb6_run.specs.Runnables.{Runnable, declarations_of}
use Rattle.vb6_run.specs.Store.{Memory, SourceFrame, SourceGiven}
use Rattle.vb6_run.specs.Values.{Value}
use Rattle.typing_laws.specs.Calls.{SourceJob, EndsAsCall}
use Rattle.typing_laws.specs.Frames.{Footprint, IsTypedFrame, Keeps, footprint_of, ground}
use Rattle.typing_laws.specs.Leaving.{Leaves, LineLeaves, RunLeaves}
use Rattle.typing_laws.specs.Plain.{Plain}

-- An expression gives a value of its type, raises an error or runs out of steps. It is outside only where it leaves.
abbrev pub IsResult : Context → Footprint → (SourceJob → Memory → Type 0) → Expr → Memory → Outcome Memory Value6 → Type 0
IsResult C F X e w (gives o x v) = Keeps (ground (declared C) F) w v × Plain (type_at e) x
IsResult C F X e w (raises o n v) = Keeps (ground (declared C) F) w v
IsResult C F X e w (spent o v) = Keeps (ground (declared C) F) w v
IsResult C F X e w (outside o) = Leaves C X e w

-- A line leaves a frame that is well typed in the memory behind it; after an error the frame is as it was. It is outside only where it leaves.
abbrev pub IsLineResult : Context → Footprint → (SourceJob → Memory → Type 0) → Form → List Expr → Memory → Outcome Memory SourceFrame → Type 0
IsLineResult C F X f es w (gives o g v) = Keeps (ground (declared C) F) w v × IsTypedFrame F C.runnable C.procedure v g
IsLineResult C F X f es w (raises o n v) = Keeps (ground (declared C) F) w v × IsTypedFrame F C.runnable C.procedure v C.frame
IsLineResult C F X f es w (spent o v) = Keeps (ground (declared C) F) w v
IsLineResult C F X f es w (outside o) = LineLeaves C X f es w

-- A run writes to its footprint alone and keeps the types of what stands there, and gives what its procedure does. It is outside only where a
-- turn of it leaves.
abbrev pub IsRunResult : Runnable → (turns : ℕ) → Procedure → List SourceGiven → SourceJob → Memory → Outcome Memory (Option Value) → Type 0
IsRunResult R n x gs job w r = EndsAsCall (ground (declarations_of R) (footprint_of w gs)) (RunLeaves R n) x job w r
