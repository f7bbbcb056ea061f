-- The statements: a line, and a call of a procedure, do the same in both languages.
use Rattle.std.specs.Prelude.{◌≡◌, ℕ, ◌<◌, Option, Some, None, option_map, List}
use Rattle.run_base.specs.Machines.{Line, Machine, enters, go, handled, line_at, stepped}
use Rattle.run_base.specs.Frames.{Frame}
use Rattle.run_base.specs.Outcomes.{Outcome}
use Rattle.vb6_run.specs.Forms.{SourceLine}
use Rattle.vb6_run.specs.Programs as source
use Rattle.vb6_run.specs.Programs.{run6}
use Rattle.vb6_run.specs.Store.{Locked, SourceCalls, SourceFrame, SourceGiven}
use Rattle.net_run.specs.Lines.{NetFrame, NetLine}
use Rattle.net_run.specs.Making.{Jobs}
use Rattle.net_run.specs.Program as target
use Rattle.net_run.specs.Program.{run_net}
use Rattle.net_run.specs.Store as net
use Rattle.std.specs.List.{Contains}
use Rattle.run_matches.specs.Upgrades.{Upgrade, runnable_of, written_number}
use Rattle.run_matches.specs.Maps.{World, Mark, mark, Below}
use Rattle.run_matches.specs.Match.{StoreMatch, MemoryMatch}
use Rattle.run_matches.specs.Pledges.{Own, Pledge, pledge, own_object, no_places, taken_by, NetGiven}
use Rattle.run_matches.specs.Addresses.{ArgsOk, AllLocked}
use Rattle.run_matches.specs.Agreeing.{Agrees, ResultMatch}
use Rattle.run_matches.specs.Frames.{FrameMatch, GivenStand, HasOwnObject, NextMatch, frame_pledge}

-- ---- calls

-- the object of a call is one that was made
abbrev pub IsObject : World → Option ℕ → Type 0
IsObject w None = Unit {0}
IsObject w (Some o) = o < w.src.next_object

abbrev pub own_in_call : Upgrade → (procedure : ℕ) → (me : Option ℕ) → Own
own_in_call U p me = record { places = no_places; object = own_object U p me }

-- what a call of a procedure promises from where it is made
abbrev pub call_pledge : Upgrade → (procedure : ℕ) → Mark → (me : Option ℕ) → List SourceGiven → List NetGiven → Pledge
call_pledge U p base me xs ys = pledge U p base (own_in_call U p me) (λ k. Contains (taken_by xs ys) k)

-- Stores, objects and arguments from which a procedure is called match.
pub record Start (U : Upgrade) (w : World) (p : ℕ) (me : Option ℕ) (xs : List SourceGiven) (ys : List NetGiven) : Type 0 where
  pub stores : StoreMatch U w
  pub object : IsObject w me
  pub own_object : HasOwnObject U w p me
  pub args : ArgsOk U (call_pledge U p (mark w.src) me xs ys) w p xs ys

abbrev pub with_inputs : List (List ℕ) → net.Memory → net.Memory
with_inputs inputs t = record t { inputs = inputs }

-- From stores, objects and arguments that match under any map, with the same inputs and within any number of steps, the procedure p and
-- the written procedure q do the same: they put out the same, and end alike, with results and stores that match under a map that extends
-- the first one.
abbrev pub SameRun : Upgrade → (p q : ℕ) → Type 0
SameRun U p q =
    (w : World) (me : Option ℕ) (xs : List SourceGiven) (ys : List NetGiven) (inputs : List (List ℕ)) (n : ℕ) → Start U w p me xs ys
    → Agrees U (call_pledge U p (mark w.src) me xs ys) w (ResultMatch U)
    (run6 (runnable_of U) p me xs inputs n w.src)
    (run_net U.written n q (option_map w.map.objects me) ys (with_inputs inputs w.net))

-- a procedure has one that is written for it, and both do the same
pub record RunsTheSame (U : Upgrade) (p : ℕ) : Type 0 where
  pub written : ℕ
  pub is_written : written_number U p ≡ Some written
  pub same : SameRun U p written

-- ---- lines

-- a line in one step, with what an error in it leads to, and with at most so many turns for what it calls
abbrev pub line_result : {M K V A E L : Type 0} → Machine M K V A E L → (turns procedure : ℕ) → Frame K V A E → Line L → M → Outcome M (Frame K V A E)
line_result machine turns p f l w = stepped machine (machine.left w) (λ w. handled machine f l (machine.line_does (go machine turns) p f l w)) w

-- From frames that match at the line of a number, a line of the procedure p and the written line lead to frames that match.
abbrev pub SameLine : Upgrade → (p q number : ℕ) → SourceLine → NetLine → Type 0
SameLine U p q number l k =
    (w : World) (f : SourceFrame) (g : NetFrame) (turns : ℕ) → f.line ≡ number → MemoryMatch U w → FrameMatch U (frame_pledge U p w f) w p f g
    → GivenStand U p f l.form
    → Agrees U (frame_pledge U p w f) w (NextMatch U (frame_pledge U p w f) p f.me)
    (line_result (source.machine_of (runnable_of U)) turns p f l w.src)
    (line_result (target.machine_of U.written) turns q g k w.net)

-- the line of a number has one that is written for it, and both do the same
pub record LineDoesTheSame (U : Upgrade) (p number : ℕ) : Type 0 where
  pub written : ℕ
  pub is_written : written_number U p ≡ Some written
  pub line : SourceLine
  pub is_line : line_at (source.machine_of (runnable_of U)) p number ≡ Some line
  pub written_line : NetLine
  pub is_written_line : line_at (target.machine_of U.written) written number ≡ Some written_line
  pub same : SameLine U p written number line written_line

-- ---- what an induction on the number of turns has of calls

-- what calls of the procedures that pass do agrees, for fewer turns; the marks of their pledges may lie further back
abbrev pub CallsAgree : Upgrade → (passes : ℕ → Type 0) → SourceCalls → Jobs → Type 0
CallsAgree U passes oracle net_oracle =
    (p q : ℕ) (me : Option ℕ) (base : Mark) (locked : Locked) (xs : List SourceGiven) (ys : List NetGiven) (w : World)
    → passes p → written_number U p ≡ Some q → Below base (mark w.src) → IsObject w me → HasOwnObject U w p me → AllLocked U (call_pledge U p base me xs ys) w locked
    → ArgsOk U (call_pledge U p base me xs ys) w p xs ys → MemoryMatch U w
    → Agrees U (call_pledge U p base me xs ys) w (ResultMatch U) (oracle (enters p me locked xs) w.src)
    (net_oracle (enters q (option_map w.map.objects me) tt ys) w.net)
