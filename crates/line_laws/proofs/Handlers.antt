-- Handlers of errors are set on both sides alike, and a Resume goes on at lines of the same number.
use Rattle.std.proofs.Common.{◌≡◌, refl, sym, ap, subst, ℕ, Bool, true, false, cond, Option, Some, None, []}
use Rattle.run_base.specs.Frames.{Handler, at_line, resumed_at, with_handler}
use Rattle.run_base.specs.Machines.{behind_error, if_active, line_at, resume, resume_at, resume_next}
use Rattle.run_base.specs.Outcomes.{Outcome, gives, outside, some_of}
use Rattle.vb6_run.specs.Expressions as source
use Rattle.vb6_run.specs.Forms.{SourceLine, SourceMachine, idle_machine}
use Rattle.vb6_run.specs.Lines.{handles_by}
use Rattle.vb6_run.specs.Store as source_store
use Rattle.vb6_run.specs.Store.{Memory, SourceCalls, SourceFrame}
use Rattle.net_run.specs.Lines.{NetFrame, NetLine, NetMachine, handler_set, set_err}
use Rattle.net_run.specs.Program as target_program
use Rattle.net_run.specs.Store as net
use Rattle.run_matches.specs.Upgrades.{Upgrade, runnable_of}
use Rattle.run_matches.specs.Maps.{World}
use Rattle.run_matches.specs.Match.{MemoryMatch}
use Rattle.run_matches.specs.Pledges.{Pledge, Later}
use Rattle.run_matches.specs.Agreeing.{Agrees, world_of}
use Rattle.run_matches.specs.Frames.{FrameMatch}
use Rattle.run_statements.specs.Frames.{context_of}
use Rattle.run_statements.specs.Kept.{AllSameWays, SameWays}
use Rattle.agreeing_laws.proofs.Agreeing.{agrees_from, agrees_gives, agrees_outside, agrees_raises}
use Rattle.agreeing_laws.proofs.Beside.{later_errors}
use Rattle.agreeing_laws.proofs.Lasting.{later_now, weaker_self}
use Rattle.line_laws.proofs.FrameLater.{placed}

-- both frames may go on at another line with another handler, which is active or not
abbrev pub Places : Upgrade → Pledge → World → (World → SourceFrame → NetFrame → Type 0) → SourceFrame → NetFrame → Type 0
Places U K w R f g =
    (n m : ℕ) (i j : Handler) (t u : Bool) → m ≡ n → j ≡ i → u ≡ t → (w1 : World) → Later U K w w1
    → R w1 (placed n i t f.resume f) (placed m j u g.resume g)

module _ (U : Upgrade) (K : Pledge) (R : World → SourceFrame → NetFrame → Type 0) (p q : ℕ) (oracle : SourceCalls) (f : SourceFrame) (l : SourceLine) (g : NetFrame)
    (w : World) (h : MemoryMatch U w) (F : FrameMatch U K w p f g) (place : Places U K w R f g) where
  abbrev C : source.Context
  C = context_of U oracle p f l

  -- ---- the Err number is cleared first

  abbrev cleared : World
  cleared = world_of w.map (source_store.set_err 0 w.src) (set_err 0 w.net)

  cleared_later : Later U K w (world_of w.map (source_store.set_err 0 w.src) (set_err 0 w.net))
  cleared_later = later_errors U K w w.map w.src w.net 0 0 refl (later_now U K w h)

  from_cleared : (r : Outcome Memory SourceFrame) (r' : Outcome net.Memory NetFrame)
      → Agrees U K (world_of w.map (source_store.set_err 0 w.src) (set_err 0 w.net)) R r r' → Agrees U K w R r r'
  from_cleared r r' x = agrees_from U K K w cleared R r r' h.stores (weaker_self w K) cleared_later x

  -- ---- On Error

  module _ (k : NetLine) (aims : k.aims ≡ l.aims) where
    pub handler_agrees : (i : Handler) → Agrees U K w R (handles_by (context_of U oracle p f l) i w.src) (handler_set g k i w.net)
    handler_agrees i =
        from_cleared (gives [] (with_handler i l.aims.after f) cleared.src) (gives [] (with_handler i k.aims.after g) cleared.net)
        (agrees_gives U K cleared R (with_handler i l.aims.after f) (with_handler i k.aims.after g) cleared_later.match
        (place l.aims.after k.aims.after i i f.active g.active (ap (λ a. a.after) aims) refl F.active cleared cleared_later))

    some_handler : (n : Option ℕ)
        → Agrees U K w R (some_of n (λ n w. handles_by C (at_line n) w) w.src) (some_of n (λ n w. handler_set g k (at_line n) w) w.net)
    some_handler None = agrees_outside U K w R (outside [])
    some_handler (Some n) = handler_agrees (at_line n)

    -- with a label, where there is one
    pub handler_at_agrees : (n m : Option ℕ) → m ≡ n
        → Agrees U K w R (some_of n (λ n w. handles_by (context_of U oracle p f l) (at_line n) w) w.src) (some_of m (λ n w. handler_set g k (at_line n) w) w.net)
    handler_at_agrees n m e =
        subst (λ z. Agrees U K w R (some_of n (λ n w. handles_by C (at_line n) w) w.src) (some_of z (λ n w. handler_set g k (at_line n) w) w.net)) (sym e)
        (some_handler n)

  -- ---- Resume

  abbrev S : SourceMachine
  S = idle_machine (runnable_of U)

  abbrev N : NetMachine
  N = target_program.frames_of U.written

  -- while an error is handled, else both raise the same number
  active_agrees : (t : Bool) (go : Memory → Outcome Memory SourceFrame) (go' : net.Memory → Outcome net.Memory NetFrame)
      → Agrees U K cleared R (go cleared.src) (go' cleared.net) → Agrees U K w R (if_active S f t go w.src) (if_active N g t go' w.net)
  active_agrees true go go' x = from_cleared (go cleared.src) (go' cleared.net) x
  active_agrees false go go' x = agrees_raises U K w R 20 h

  both_active : (go : Memory → Outcome Memory SourceFrame) (go' : net.Memory → Outcome net.Memory NetFrame)
      → Agrees U K cleared R (go cleared.src) (go' cleared.net) → Agrees U K w R (if_active S f f.active go w.src) (if_active N g g.active go' w.net)
  both_active go go' x =
      subst (λ t. Agrees U K w R (if_active S f f.active go w.src) (if_active N g t go' w.net)) (sym F.active) (active_agrees f.active go go' x)

  resumed_agrees : (n m : ℕ) → m ≡ n → Agrees U K cleared R (gives [] (resumed_at n f) cleared.src) (gives [] (resumed_at m g) cleared.net)
  resumed_agrees n m e =
      agrees_gives U K cleared R (resumed_at n f) (resumed_at m g) cleared_later.match
      (place n m f.handler g.handler false false e F.handler refl cleared cleared_later)

  module _ (from : SourceLine → ℕ) (to : NetLine → ℕ) (same : (m : SourceLine) (k : NetLine) → k.aims ≡ m.aims → to k ≡ from m) where
    by_test : (b : Bool) (m : SourceLine) (k : NetLine) → k.aims ≡ m.aims
        → Agrees U K cleared R (cond b (outside []) (gives [] (resumed_at (from m) f) cleared.src))
        (cond b (outside []) (gives [] (resumed_at (to k) g) cleared.net))
    by_test true m k e = agrees_outside U K cleared R (outside [])
    by_test false m k e = resumed_agrees (from m) (to k) (same m k e)

    -- at lines from which control goes the same ways
    behind_agrees : (o : Option SourceLine) (z : Option NetLine) → SameWays o z
        → Agrees U K cleared R (some_of o (behind_error from f) cleared.src) (some_of z (behind_error to g) cleared.net)
    behind_agrees None z ways = agrees_outside U K cleared R (some_of z (behind_error to g) cleared.net)
    behind_agrees (Some m) None ways = absurd ways
    behind_agrees (Some m) (Some k) ways =
        subst (λ b. Agrees U K cleared R (behind_error from f m cleared.src) (cond b (outside []) (gives [] (resumed_at (to k) g) cleared.net))) (sym ways.1)
        (by_test m.tests m k ways.0)

    at_error : AllSameWays U p q
        → Agrees U K cleared R (some_of (line_at S p f.resume) (behind_error from f) cleared.src) (some_of (line_at N q g.resume) (behind_error to g) cleared.net)
    at_error ways =
        subst (λ n. Agrees U K cleared R (some_of (line_at S p f.resume) (behind_error from f) cleared.src) (some_of (line_at N q n) (behind_error to g) cleared.net))
        (sym F.resume) (behind_agrees (line_at S p f.resume) (line_at N q f.resume) (ways f.resume))

  pub resume_agrees : AllSameWays U p q
      → Agrees U K w R (resume (idle_machine (runnable_of U)) p f w.src) (resume (target_program.frames_of U.written) q g w.net)
  resume_agrees ways =
      both_active (some_of (line_at S p f.resume) (behind_error (λ m. f.resume) f)) (some_of (line_at N q g.resume) (behind_error (λ k. g.resume) g))
      (at_error (λ m. f.resume) (λ k. g.resume) (λ m k e. F.resume) ways)

  pub resume_next_agrees : AllSameWays U p q
      → Agrees U K w R (resume_next (idle_machine (runnable_of U)) p f w.src) (resume_next (target_program.frames_of U.written) q g w.net)
  resume_next_agrees ways =
      both_active (some_of (line_at S p f.resume) (behind_error (λ m. m.aims.after) f)) (some_of (line_at N q g.resume) (behind_error (λ k. k.aims.after) g))
      (at_error (λ m. m.aims.after) (λ k. k.aims.after) (λ m k e. ap (λ a. a.after) e) ways)

  some_resumed : (n : Option ℕ) → Agrees U K w R (some_of n (λ n w. resume_at S n f w) w.src) (some_of n (λ n w. resume_at N n g w) w.net)
  some_resumed None = agrees_outside U K w R (outside [])
  some_resumed (Some n) = both_active (λ w. gives [] (resumed_at n f) w) (λ w. gives [] (resumed_at n g) w) (resumed_agrees n n refl)

  -- at a label, where there is one
  pub resume_at_agrees : (n m : Option ℕ) → m ≡ n
      → Agrees U K w R (some_of n (λ n w. resume_at (idle_machine (runnable_of U)) n f w) w.src)
      (some_of m (λ n w. resume_at (target_program.frames_of U.written) n g w) w.net)
  resume_at_agrees n m e =
      subst (λ z. Agrees U K w R (some_of n (λ n w. resume_at S n f w) w.src) (some_of z (λ n w. resume_at N n g w) w.net)) (sym e) (some_resumed n)
