-- One more turn: a covered procedure does the same as what is written for it, where calls and the rest with fewer turns do.
use Rattle.std.proofs.Common.{◌≡◌, refl, sym, ap, subst, ◌∙◌, ℕ, zero, suc, true, Option, Some, None, List}
use Rattle.std.specs.Prelude.{slice_get}
use Rattle.std.specs.List.{list_all}
use Rattle.run_base.specs.Machines.{body_turn, go, handled, line_at, line_in, line_turn, nth_line, runs, stepped, Machine}
use Rattle.run_base.specs.Outcomes.{Outcome, then}
use Rattle.vb6_run.specs.Forms.{SourceLine, SourceMachine}
use Rattle.vb6_run.specs.Programs as source
use Rattle.vb6_run.specs.Store.{Memory, SourceFrame, SourceGiven}
use Rattle.net_run.specs.Lines.{NetFrame, NetLine, NetMachine}
use Rattle.net_run.specs.Program as target
use Rattle.net_run.specs.Store as net
use Rattle.net_tree.specs.Tree.{Project}
use Rattle.vb6_run.specs.Runnables.{Runnable}
use Rattle.run_matches.specs.Agreeing.{Agrees, ResultMatch}
use Rattle.run_matches.specs.CoveredLines.{covers_line}
use Rattle.run_matches.specs.Frames.{FrameMatch, NextMatch, frame_pledge, lines_of}
use Rattle.run_matches.specs.Maps.{Mark, World}
use Rattle.run_matches.specs.Match.{MemoryMatch}
use Rattle.run_matches.specs.Pledges.{NetGiven, Pledge}
use Rattle.run_matches.specs.Runs.{CallsAgree, call_pledge, line_result}
use Rattle.run_matches.specs.Upgrades.{Upgrade, runnable_of}
use Rattle.run_statements.specs.Kept.{SameLineIn}
use Rattle.run_statements.specs.Written.{Passes}
use Rattle.agreeing_laws.specs.Promises.{Yields}
use Rattle.agreeing_laws.proofs.Agreeing.{agrees_promised, agrees_yields, then_agrees}
use Rattle.run_laws.specs.Entered.{RunMatch}
use Rattle.run_laws.proofs.Covered.{not_none}
use Rattle.run_laws.proofs.Keeping.{HasVars}
use Rattle.run_laws.proofs.Pledged.{call_is_weaker, frame_goes_on}

-- a line takes its step, then the rest follows
stepped_then : {M K V A E L B C : Type 0} (machine : Machine M K V A E L) (n : ℕ) (does : M → Outcome M B) (k : B → M → Outcome M C) (w : M)
    → stepped machine n (λ v. then (does v) k) w ≡ then (stepped machine n does w) k
stepped_then machine zero does k w = refl
stepped_then machine (suc n) does k w = refl

-- what is written for a line, with which it does the same where calls with fewer turns do; and it leaves the variables of the frame as they are
pub record LineRuns (U : Upgrade) (p q n : ℕ) (l : SourceLine) : Type 0 where
  pub line : NetLine
  pub is_line : line_at (target.machine_of U.written) q n ≡ Some line
  pub same :
      (turns : ℕ) → CallsAgree U (Passes U) (go (source.machine_of (runnable_of U)) turns) (go (target.machine_of U.written) turns)
      → SameLineIn U p q n turns l line
  pub keeps : (f : SourceFrame) (turns : ℕ) (w : Memory) → Yields (HasVars f) (line_result (source.machine_of (runnable_of U)) turns p f l w)

-- A covered procedure and what is written for it: their lines, the ends of both, and what is left with.
pub record BodyRuns (U : Upgrade) (p q : ℕ) : Type 0 where
  pub lines : List SourceLine
  pub are_lines : slice_get (source.machine_of (runnable_of U)).bodies p ≡ Some lines
  pub net_lines : List NetLine
  pub are_net_lines : slice_get (target.machine_of U.written).bodies q ≡ Some net_lines
  pub line : (n : ℕ) (l : SourceLine) → line_at (source.machine_of (runnable_of U)) p n ≡ Some l → LineRuns U p q n l
  pub ends : (n : ℕ) → line_at (source.machine_of (runnable_of U)) p n ≡ None → line_at (target.machine_of U.written) q n ≡ None
  pub result :
      (base : Mark) (me : Option ℕ) (xs : List SourceGiven) (ys : List NetGiven) (w : World) (f : SourceFrame) (g : NetFrame) → MemoryMatch U w
      → FrameMatch U (frame_pledge U p w f) w p f g
      → Agrees U (call_pledge U p base me xs ys) w (ResultMatch U) ((source.machine_of (runnable_of U)).result p f w.src) ((target.machine_of U.written).result q g w.net)
  pub covers : list_all (covers_line U.program p) (lines_of U p) ≡ true

module _ (U : Upgrade) (p q : ℕ) (b : BodyRuns U p q) (base : Mark) (me : Option ℕ) (xs : List SourceGiven) (ys : List NetGiven) where
  abbrev R : Runnable
  R = runnable_of U

  abbrev N : Project
  N = U.written

  abbrev K : Pledge
  K = call_pledge U p base me xs ys

  abbrev GoesOn : World → SourceFrame → World → SourceFrame → NetFrame → Type 0
  GoesOn w f u f2 g2 = NextMatch U (frame_pledge U p w f) p f.me u f2 g2 × HasVars f f2 u.src

  -- frames that match, with fewer turns
  abbrev pub Rest : ℕ → Type 0
  Rest n =
      (w : World) (f : SourceFrame) (g : NetFrame) → RunMatch U K p me w f g → MemoryMatch U w
      → Agrees U K w (ResultMatch U) (go (source.machine_of R) n (runs p f) w.src) (go (target.machine_of N) n (runs q g) w.net)

  -- calls with so many turns
  abbrev Calls : ℕ → Type 0
  Calls n = CallsAgree U (Passes U) (go (source.machine_of R) n) (go (target.machine_of N) n)

  line_agrees : (n : ℕ) → Rest n → Calls n → (w : World) (f : SourceFrame) (g : NetFrame) → RunMatch U K p me w f g → MemoryMatch U w → (l : SourceLine)
      → (x : LineRuns U p q f.line l)
      → Agrees U K w (ResultMatch U) (line_turn (source.machine_of R) (go (source.machine_of R) n) p f (Some l) w.src)
      (line_turn (target.machine_of N) (go (target.machine_of N) n) q g (Some x.line) w.net)
  line_agrees n rest calls w f g r h l x =
      let M : SourceMachine = source.machine_of R in
      let T : NetMachine = target.machine_of N in
      let k = λ (f2 : SourceFrame) (s : Memory). go M n (runs p f2) s in
      let k' = λ (g2 : NetFrame) (t : net.Memory). go T n (runs q g2) t in
      let does = λ (s : Memory). handled M f l (M.line_does (go M n) p f l s) in
      let does' = λ (t : net.Memory). handled T g x.line (T.line_does (go T n) q g x.line t) in
      let one = line_result M n p f l w.src in
      let one' = line_result T n q g x.line w.net in
      subst (λ z. Agrees U K w (ResultMatch U) z (stepped T (T.left w.net) (λ t. then (does' t) k') w.net)) (sym (stepped_then M (M.left w.src) does k w.src))
      (subst (λ z. Agrees U K w (ResultMatch U) (then one k) z) (sym (stepped_then T (T.left w.net) does' k' w.net))
      (then_agrees U K w (GoesOn w f) (ResultMatch U) one one' k k' h
      (agrees_yields U K w (NextMatch U (frame_pledge U p w f) p f.me) (HasVars f) one one' (x.keeps f n w.src)
      (agrees_promised U K (frame_pledge U p w f) w (NextMatch U (frame_pledge U p w f) p f.me) one one' h
      (call_is_weaker U p base me xs ys w f r.same_object r.low r.places)
      (x.same n calls w f g refl h r.frames (λ v a used is e. r.given v.0 a e is))))
      (λ f2 g2 u m lat. rest u f2 g2 (frame_goes_on U p K me w f g r u f2 g2 lat.match lat.grows m.1 m.0) lat.match)))

  at_agrees : (n : ℕ) → Rest n → Calls n → (w : World) (f : SourceFrame) (g : NetFrame) → RunMatch U K p me w f g → MemoryMatch U w
      → (o : Option SourceLine) (i : Option NetLine) → line_at (source.machine_of R) p f.line ≡ o → line_at (target.machine_of N) q f.line ≡ i
      → Agrees U K w (ResultMatch U) (line_turn (source.machine_of R) (go (source.machine_of R) n) p f o w.src)
      (line_turn (target.machine_of N) (go (target.machine_of N) n) q g i w.net)
  at_agrees n rest calls w f g r h None None e d = b.result base me xs ys w f g h r.frames
  at_agrees n rest calls w f g r h None (Some k) e d = absurd (not_none (sym (b.ends f.line e) ∙ d))
  at_agrees n rest calls w f g r h (Some l) i e d =
      let x : LineRuns U p q f.line l = b.line f.line l e in
      subst (λ z. Agrees U K w (ResultMatch U) (line_turn (source.machine_of R) (go (source.machine_of R) n) p f (Some l) w.src)
      (line_turn (target.machine_of N) (go (target.machine_of N) n) q g z w.net)) (sym x.is_line ∙ d) (line_agrees n rest calls w f g r h l x)

  pub body_agrees : (n : ℕ) → Rest n → Calls n → (w : World) (f : SourceFrame) (g : NetFrame) → RunMatch U K p me w f g → MemoryMatch U w
      → Agrees U K w (ResultMatch U) (go (source.machine_of R) (suc n) (runs p f) w.src) (go (target.machine_of N) (suc n) (runs q g) w.net)
  body_agrees n rest calls w f g r h =
      let M : SourceMachine = source.machine_of R in
      let T : NetMachine = target.machine_of N in
      subst (λ z. Agrees U K w (ResultMatch U) (body_turn M (go M n) p f z w.src) (body_turn T (go T n) q g (slice_get T.bodies q) w.net)) (sym b.are_lines)
      (subst (λ z. Agrees U K w (ResultMatch U) (line_turn M (go M n) p f (nth_line b.lines f.line) w.src) (body_turn T (go T n) q g z w.net)) (sym b.are_net_lines)
      (subst (λ z. Agrees U K w (ResultMatch U) (line_turn M (go M n) p f (nth_line b.lines f.line) w.src) (line_turn T (go T n) q g (nth_line b.net_lines z) w.net))
      (sym r.frames.line)
      (at_agrees n rest calls w f g r h (nth_line b.lines f.line) (nth_line b.net_lines f.line) (ap (λ z. line_in z f.line) b.are_lines)
      (ap (λ z. line_in z f.line) b.are_net_lines))))
