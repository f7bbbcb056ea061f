-- Steps, and errors with their handlers, on both sides.
use Rattle.std.proofs.Common.{◌≡◌, ◌∙◌, refl, sym, subst, ℕ, zero, suc, Bool, true, false, cond, List, [], append-nil, true≢false}
use Rattle.net_tree.specs.Tree.{Project}
use Rattle.run_base.specs.Outcomes.{Output, Outcome, gives, raises, spent, outside, outputs}
use Rattle.run_base.specs.Frames.{Handler, none, next_line, at_line, to_line, at_handler}
use Rattle.run_base.specs.Machines.{stepped, caught, handled}
use Rattle.vb6_run.specs.Forms.{SourceLine}
use Rattle.vb6_run.specs.Programs as source
use Rattle.vb6_run.specs.Runnables.{Runnable}
use Rattle.vb6_run.specs.Store.{Memory, SourceFrame}
use Rattle.net_run.specs.Lines.{NetFrame, NetLine}
use Rattle.net_run.specs.Program as target
use Rattle.net_run.specs.Store as net
use Rattle.run_matches.specs.Upgrades.{Upgrade}
use Rattle.run_matches.specs.Maps.{Map, World}
use Rattle.run_matches.specs.Match.{MemoryMatch}
use Rattle.run_matches.specs.Pledges.{Pledge, Later}
use Rattle.run_matches.specs.Agreeing.{world_of, Agrees}
use Rattle.agreeing_laws.specs.Beside.{with_steps}
use Rattle.agreeing_laws.proofs.Lasting.{weaker_self}
use Rattle.agreeing_laws.proofs.Agreeing.{agrees_spent, agrees_from}
use Rattle.agreeing_laws.proofs.Beside.{later_steps, later_errors}

-- ---- a step

module _ (U : Upgrade) (Q : Runnable) (N : Project) where
  steps_agree : {A B : Type 0} (K : Pledge) (w : World) (R : World → A → B → Type 0) (n : ℕ) (go : Memory → Outcome Memory A)
      (go' : net.Memory → Outcome net.Memory B) → MemoryMatch U w
      → ((j : ℕ) → n ≡ suc j → Later U K w (with_steps w j) → Agrees U K (with_steps w j) R (go (with_steps w j).src) (go' (with_steps w j).net))
      → Agrees U K w R (stepped (source.machine_of Q) n go w.src) (stepped (target.machine_of N) n go' w.net)
  steps_agree K w R zero go go' h rest = agrees_spent U K w R h
  steps_agree K w R (suc j) go go' h rest =
      let l : Later U K w (with_steps w j) = later_steps U K w j h in
      agrees_from U K K w (with_steps w j) R (go (with_steps w j).src) (go' (with_steps w j).net) h.stores (weaker_self w K) l (rest j refl l)

  -- both take one of the steps that are left
  pub stepped_agrees : {A B : Type 0} (K : Pledge) (w : World) (R : World → A → B → Type 0) (go : Memory → Outcome Memory A)
      (go' : net.Memory → Outcome net.Memory B) → MemoryMatch U w
      → ((j : ℕ) → w.src.left ≡ suc j → Later U K w (with_steps w j)
      → Agrees U K (with_steps w j) R (go (with_steps w j).src) (go' (with_steps w j).net))
      → Agrees U K w R (stepped (source.machine_of Q) w.src.left go w.src) (stepped (target.machine_of N) w.net.left go' w.net)
  stepped_agrees K w R go go' h rest =
      subst (λ k. Agrees U K w R (stepped (source.machine_of Q) w.src.left go w.src) (stepped (target.machine_of N) k go' w.net)) (sym h.steps)
      (steps_agree K w R w.src.left go go' h rest)

-- ---- errors

outputs_by : (b : Bool) (q : List Output) (g : NetFrame) (t : net.Memory) → outputs (cond b (outside q) (gives q g t)) ≡ q
outputs_by true q g t = refl
outputs_by false q g t = refl

module _ (U : Upgrade) (Q : Runnable) (N : Project) (K : Pledge) (w0 : World) (R : World → SourceFrame → NetFrame → Type 0) where
  next_agrees : (b c : Bool) (o q : List Output) (f : SourceFrame) (g : NetFrame) (m : Map) (s : Memory) (t : net.Memory) → (b ≡ false → c ≡ false) → q ≡ o
      → R (world_of m s t) f g → Later U K w0 (world_of m s t)
      → Agrees U K w0 R (cond b (outside o) (gives o f s)) (cond c (outside q) (gives q g t))
  next_agrees true c o q f g m s t tests e r l = ([], outputs_by c q g t ∙ e ∙ sym (append-nil o))
  next_agrees false true o q f g m s t tests e r l = absurd (true≢false (tests refl))
  next_agrees false false o q f g m s t tests e r l = (e, m, r, l)

  -- what a line goes on with after an error, in frames at which a handler leads to the same
  module _ (f : SourceFrame) (g : NetFrame) (l : SourceLine) (k : NetLine) (tests : l.tests ≡ false → k.tests ≡ false)
      (next : (w : World) → Later U K w0 w → R w (to_line l.aims.after f) (to_line k.aims.after g))
      (at : (n : ℕ) (w : World) → Later U K w0 w → R w (at_handler n f) (at_handler n g)) where
    caught_agrees : (active : Bool) (h : Handler) (o q : List Output) (e d : ℕ) (m : Map) (s : Memory) (t : net.Memory) → q ≡ o → d ≡ e
        → Later U K w0 (world_of m s t) → Agrees U K w0 R (caught f l active h o e s) (caught g k active h q d t)
    caught_agrees true h o q e d m s t x y z = (x, y, m, z)
    caught_agrees false none o q e d m s t x y z = (x, y, m, z)
    caught_agrees false next_line o q e d m s t x y z =
        next_agrees l.tests k.tests o q (to_line l.aims.after f) (to_line k.aims.after g) m s t tests x (next (world_of m s t) z) z
    caught_agrees false (at_line n) o q e d m s t x y z = (x, m, at n (world_of m s t) z, z)

    pub handled_agrees : g.active ≡ f.active → g.handler ≡ f.handler → (r : Outcome Memory SourceFrame) (r' : Outcome net.Memory NetFrame) → Agrees U K w0 R r r'
        → Agrees U K w0 R (handled (source.machine_of Q) f l r) (handled (target.machine_of N) g k r')
    handled_agrees a b (gives o x s) (gives q y t) h = h
    handled_agrees a b (raises o e s) (raises q d t) h =
        subst (λ z. Agrees U K w0 R (caught f l f.active f.handler o e (record s { err = e })) (caught g k z g.handler q d (record t { err = d }))) (sym a)
        (subst (λ z. Agrees U K w0 R (caught f l f.active f.handler o e (record s { err = e })) (caught g k f.active z q d (record t { err = d }))) (sym b)
        (caught_agrees f.active f.handler o q e d h.2 (record s { err = e }) (record t { err = d }) h.0 h.1 (later_errors U K w0 h.2 s t e d h.1 h.3)))
    handled_agrees a b (spent o s) (spent q t) h = h
    handled_agrees a b (outside o) (gives q y t) h = h
    handled_agrees a b (outside o) (raises q d t) h = (h.0, outputs_caught g.active g.handler q d (record t { err = d }) ∙ h.1)
      where
        outputs_caught : (active : Bool) (i : Handler) (p : List Output) (c : ℕ) (u : net.Memory) → outputs (caught g k active i p c u) ≡ p
        outputs_caught true i p c u = refl
        outputs_caught false none p c u = refl
        outputs_caught false next_line p c u = outputs_by k.tests p (to_line k.aims.after g) u
        outputs_caught false (at_line n) p c u = refl
    handled_agrees a b (outside o) (spent q t) h = h
    handled_agrees a b (outside o) (outside q) h = h
    handled_agrees a b _ _ h = absurd h
