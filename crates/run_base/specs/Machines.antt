-- How lines and procedures follow each other: one definition for both languages.
use Rattle.std.specs.Prelude.{ℕ, zero, suc, Bool, true, false, cond, List, [], Option, Some, None, slice_get, option_map}
use Rattle.bound_tree.specs.Targets.{Aims}
use Rattle.run_base.specs.Outcomes.{Output, Outcome, gives, raises, spent, outside, then, some_of}
use Rattle.run_base.specs.Frames.{Given, Handler, none, next_line, at_line, Frame, to_line, at_handler, resumed_at}

-- What one turn of a run is about: the entry of a procedure with an object, what is handed down and arguments; or the next line of one.
-- Procedures go by their numbers, counted from 0.
pub data Job (K V A E : Type 0) : Type 0 where
  enters : ℕ → Option ℕ → E → List (Given V A) → Job K V A E
  runs : ℕ → Frame K V A E → Job K V A E

-- what the jobs of a run do from a memory; a procedure gives its result, and none where it is a Sub
abbrev pub Calls : (M K V A E : Type 0) → Type 0
Calls M K V A E = Job K V A E → M → Outcome M (Option V)

-- A code line: what it is, where control goes from it, and whether it is the head or a closing line of a block that computes something.
-- After an error at such a line nothing says where to go on.
pub record Line (L : Type 0) : Type 0 where
  pub form : L
  pub aims : Aims
  pub tests : Bool

-- What a run needs of a program: memories of type M with the steps that are left and the Err number; the lines of each procedure; and for
-- the number of a procedure the frame that its entry makes, what a line does, which says the frame that goes on, and the result that is
-- left with. Calls inside a line go through the first argument of `line_does`.
pub record Machine (M K V A E L : Type 0) : Type 0 where
  pub left : M → ℕ
  pub with_left : ℕ → M → M
  pub set_err : ℕ → M → M
  pub bodies : List (List (Line L))
  pub enter : ℕ → Option ℕ → E → List (Given V A) → M → Outcome M (Frame K V A E)
  pub line_does : Calls M K V A E → ℕ → Frame K V A E → Line L → M → Outcome M (Frame K V A E)
  pub result : ℕ → Frame K V A E → M → Outcome M (Option V)

-- takes one of the steps that are left
abbrev pub stepped : {M K V A E L B : Type 0} → Machine M K V A E L → ℕ → (M → Outcome M B) → M → Outcome M B
stepped machine zero go w = spent [] w
stepped machine (suc n) go w = go (machine.with_left n w)

-- the line of a number, counted from 1
abbrev pub nth_line : {X : Type 0} → List X → ℕ → Option X
nth_line lines zero = None
nth_line lines (suc n) = slice_get lines n

abbrev pub line_in : {L : Type 0} → Option (List (Line L)) → ℕ → Option (Line L)
line_in None n = None
line_in (Some lines) n = nth_line lines n

abbrev pub line_at : {M K V A E L : Type 0} → Machine M K V A E L → (procedure line : ℕ) → Option (Line L)
line_at machine p n = line_in (slice_get machine.bodies p) n

-- ---- errors

-- what becomes of an error at a line, which has set the Err number: it leaves the procedure where there is no handler or it is active
abbrev pub caught : {M K V A E L : Type 0} → Frame K V A E → Line L → (active : Bool) → Handler → List Output → ℕ → M → Outcome M (Frame K V A E)
caught f l true h o e w = raises o e w
caught f l false none o e w = raises o e w
caught f l false next_line o e w = cond l.tests (outside o) (gives o (to_line l.aims.after f) w)
caught f l false (at_line n) o e w = gives o (at_handler n f) w

abbrev pub handled : {M K V A E L : Type 0} → Machine M K V A E L → Frame K V A E → Line L → Outcome M (Frame K V A E) → Outcome M (Frame K V A E)
handled machine f l (gives o g w) = gives o g w
handled machine f l (raises o e w) = caught f l f.active f.handler o e (machine.set_err e w)
handled machine f l (spent o w) = spent o w
handled machine f l (outside o) = outside o

-- a Resume while an error is handled; else it raises 20
abbrev pub if_active : {M K V A E L : Type 0} → Machine M K V A E L → Frame K V A E → (active : Bool) → (M → Outcome M (Frame K V A E)) → M → Outcome M (Frame K V A E)
if_active machine f true go w = go (machine.set_err 0 w)
if_active machine f false go w = raises [] 20 w

-- goes on where an error was, at that line or behind it
abbrev pub behind_error : {M K V A E L : Type 0} → (Line L → ℕ) → Frame K V A E → Line L → M → Outcome M (Frame K V A E)
behind_error place f l w = cond l.tests (outside []) (gives [] (resumed_at (place l) f) w)

abbrev pub resume : {M K V A E L : Type 0} → Machine M K V A E L → (procedure : ℕ) → Frame K V A E → M → Outcome M (Frame K V A E)
resume machine p f w = if_active machine f f.active (some_of (line_at machine p f.resume) (behind_error (λ l. f.resume) f)) w

abbrev pub resume_next : {M K V A E L : Type 0} → Machine M K V A E L → (procedure : ℕ) → Frame K V A E → M → Outcome M (Frame K V A E)
resume_next machine p f w = if_active machine f f.active (some_of (line_at machine p f.resume) (behind_error (λ l. l.aims.after) f)) w

abbrev pub resume_at : {M K V A E L : Type 0} → Machine M K V A E L → (line : ℕ) → Frame K V A E → M → Outcome M (Frame K V A E)
resume_at machine n f w = if_active machine f f.active (λ w. gives [] (resumed_at n f) w) w

-- ---- turns

-- the line takes one step; where there is none, the procedure ends
abbrev pub line_turn : {M K V A E L : Type 0} → Machine M K V A E L → Calls M K V A E → ℕ → Frame K V A E → Option (Line L) → M → Outcome M (Option V)
line_turn machine oracle p f None w = machine.result p f w
line_turn machine oracle p f (Some l) w =
    stepped machine (machine.left w) (λ w. then (handled machine f l (machine.line_does oracle p f l w)) (λ g w. oracle (runs p g) w)) w

abbrev pub body_turn : {M K V A E L : Type 0} → Machine M K V A E L → Calls M K V A E → ℕ → Frame K V A E → Option (List (Line L)) → M → Outcome M (Option V)
body_turn machine oracle p f None w = outside []
body_turn machine oracle p f (Some lines) w = line_turn machine oracle p f (nth_line lines f.line) w

-- one turn of a run, the entry of a procedure, which makes its variables in the same step, or one line; the oracle does what follows
abbrev pub turn : {M K V A E L : Type 0} → Machine M K V A E L → Calls M K V A E → Calls M K V A E
turn machine oracle (enters p me env args) w = stepped machine (machine.left w) (λ w. then (machine.enter p me env args w) (λ f w. oracle (runs p f) w)) w
turn machine oracle (runs p f) w = body_turn machine oracle p f (slice_get machine.bodies p) w

-- at most n turns, one inside or after another, each of which but a procedure's last takes a step
abbrev pub go : {M K V A E L : Type 0} → Machine M K V A E L → ℕ → Calls M K V A E
go machine zero job w = spent [] w
go machine (suc n) job w = turn machine (go machine n) job w

-- a call of the procedure p with at most n steps
abbrev pub run : {M K V A E L : Type 0} → Machine M K V A E L → ℕ → ℕ → Option ℕ → E → List (Given V A) → M → Outcome M (Option V)
run machine n p me env args w = go machine (suc n) (enters p me env args) (machine.with_left n w)
