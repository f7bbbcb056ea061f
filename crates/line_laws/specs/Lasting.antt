-- Frames that go on to match at later worlds, and lines in them.
use Rattle.std.specs.Prelude.{◌≡◌, ℕ, true, Option, Some}
use Rattle.std.specs.List.{Contains}
use Rattle.bound_tree.specs.Tree.{Expr}
use Rattle.bound_facts.specs.Node.{args_at, called}
use Rattle.bound_facts.specs.Parts.{line_uses}
use Rattle.run_base.specs.Machines.{go}
use Rattle.written_trees.specs.Bodies.{inside_procedure}
use Rattle.vb6_run.specs.Forms.{SourceLine}
use Rattle.vb6_run.specs.Programs as source
use Rattle.vb6_run.specs.Store.{SourceFrame}
use Rattle.net_run.specs.Lines.{NetFrame, NetLine, scope_of}
use Rattle.net_run.specs.Members.{Code, code_at}
use Rattle.net_run.specs.Program as target
use Rattle.run_matches.specs.Upgrades.{Upgrade, code_of, runnable_of}
use Rattle.run_matches.specs.Maps.{World}
use Rattle.run_matches.specs.Match.{MemoryMatch}
use Rattle.run_matches.specs.Pledges.{Pledge, Later}
use Rattle.run_matches.specs.Agreeing.{Agrees}
use Rattle.run_matches.specs.CoveredExprs.{uses_in}
use Rattle.run_matches.specs.CoveredLines.{covers_line}
use Rattle.run_matches.specs.Frames.{HasNames, FrameMatch, OwnsAll, frame_pledge, GivenStand}
use Rattle.run_matches.specs.Runs.{line_result, CallsAgree}
use Rattle.run_matches.specs.Sites.{Site}
use Rattle.run_statements.specs.Fitting.{FitsLine, FitsNode}
use Rattle.run_statements.specs.Frames.{AreReadable, IsOpen}
use Rattle.run_statements.specs.Kept.{LineStands, StoresAreOwn, UsesArePlaced, CanCallFrom, CanMakeFrom, CanMakeAtFrom, made_at, qualified_at, receiver_at, used_at}
use Rattle.run_statements.specs.Written.{WrittenLine, Passes, site_scope}

-- ---- frames

-- frames match now and as long as the pledge is kept
abbrev pub GoOnMatching : Upgrade → Pledge → (procedure : ℕ) → SourceFrame → NetFrame → World → Type 0
GoOnMatching U K p f g w = (w1 : World) → Later U K w w1 → FrameMatch U K w1 p f g

pub record SteadyNext (U : Upgrade) (K : Pledge) (p : ℕ) (me : Option ℕ) (w : World) (f : SourceFrame) (g : NetFrame) : Type 0 where
  pub same_object : f.me ≡ me
  pub frames : GoOnMatching U K p f g w
  pub owns : OwnsAll U K p f

-- ---- lines

-- from such frames at the line of a number, a line of the procedure p and the written line lead to such frames, with so many turns for calls
abbrev pub SameSteadyLine : Upgrade → (p q number turns : ℕ) → SourceLine → NetLine → Type 0
SameSteadyLine U p q number turns l k =
    (w : World) (f : SourceFrame) (g : NetFrame) → f.line ≡ number → MemoryMatch U w → GoOnMatching U (frame_pledge U p w f) p f g w
    → GivenStand U p f l.form
    → Agrees U (frame_pledge U p w f) w (SteadyNext U (frame_pledge U p w f) p f.me)
    (line_result (source.machine_of (runnable_of U)) turns p f l w.src)
    (line_result (target.machine_of U.written) turns q g k w.net)

-- a covered line and what is written for it do the same
abbrev pub SteadyLinesAgree : Upgrade → Type 0
SteadyLinesAgree U =
    (p : ℕ) (s : Site) (written number turns : ℕ) (l : SourceLine) (c : Code) (L : WrittenLine U p s written number l) → code_at U.written written ≡ Some c
    → ((g : NetFrame) (k : NetLine) → HasNames (code_of U p) g → IsOpen (scope_of U.written c g k))
    → AreReadable U (inside_procedure (site_scope U s) p) (uses_in U.program p l.form.bindings.mentions)
    → UsesArePlaced U p s c l.form → StoresAreOwn U p l.form
    → CallsAgree U (Passes U) (go (source.machine_of (runnable_of U)) turns) (go (target.machine_of U.written) turns)
    → ((d : Expr) (q : ℕ) → Contains (line_uses l.form) d → called d ≡ Some q → CanCallFrom U p s c q (qualified_at d) (receiver_at d) (args_at d))
    → ((d : Expr) (class : ℕ) → Contains (line_uses l.form) d → made_at d ≡ Some class → CanMakeFrom U p s c class)
    → ((d : Expr) (v : ℕ) → Contains (line_uses l.form) d → used_at d ≡ Some v → CanMakeAtFrom U p s c v)
    → ((d : Expr) → Contains (line_uses l.form) d → FitsNode U d)
    → FitsLine U p l.form
    → covers_line U.program p l.form ≡ true
    → LineStands U p s written c number l
    → SameSteadyLine U p written number turns l L.line
