-- Where a line goes that tests nothing: on, to a label, or out of what it stands in.
use Rattle.std.proofs.Common.{◌≡◌, refl, sym, subst, ℕ, Option, Some, None, []}
use Rattle.vb_tree.specs.declared.form_parts.ExitKind.{ExitKind}
use Rattle.vb_tree.specs.declared.form_parts.ExitKind.TheVariants as leaving
use Rattle.bound_tree.specs.Targets.{exit_to}
use Rattle.run_base.specs.Frames.{to_line}
use Rattle.run_base.specs.Outcomes.{gives}
use Rattle.written_trees.specs.Lines.{exit_of}
use Rattle.vb6_run.specs.Expressions as source
use Rattle.vb6_run.specs.Lines as source_lines
use Rattle.vb6_run.specs.Lines.{goes_if}
use Rattle.vb6_run.specs.Store as source_store
use Rattle.vb6_run.specs.Store.{SourceFrame}
use Rattle.net_run.specs.Lines.{NetFrame, NetLine, at_some, cleared, exit_does, set_err}
use Rattle.net_run.specs.Steps.{exit_kind, leaves}
use Rattle.run_matches.specs.Upgrades.{Upgrade}
use Rattle.run_matches.specs.Maps.{World}
use Rattle.run_matches.specs.Match.{MemoryMatch}
use Rattle.run_matches.specs.Pledges.{Pledge, Later}
use Rattle.run_matches.specs.Agreeing.{Agrees, world_of}
use Rattle.agreeing_laws.proofs.Agreeing.{agrees_from, agrees_gives, agrees_outside}
use Rattle.agreeing_laws.proofs.Beside.{later_errors}
use Rattle.agreeing_laws.proofs.Lasting.{later_now, weaker_self}

module _ (U : Upgrade) (K : Pledge) (R : World → SourceFrame → NetFrame → Type 0) (C : source.Context) (g : NetFrame) (k : NetLine) (aims : k.aims ≡ C.aims)
    (w : World) (h : MemoryMatch U w)
    (next : (n m : ℕ) → m ≡ n → (w1 : World) → Later U K w w1 → R w1 (to_line n C.frame) (to_line m g)) where
  -- to the line of a number, where there is one
  leads_to : (n : Option ℕ) (w1 : World) → Later U K w w1 → Agrees U K w1 R (goes_if C n w1.src) (at_some g n w1.net)
  leads_to None w1 later = agrees_outside U K w1 R (at_some g None w1.net)
  leads_to (Some n) w1 later = agrees_gives U K w1 R (to_line n C.frame) (to_line n g) later.match (next n n refl w1 later)

  pub leads : (n m : Option ℕ) → m ≡ n → (w1 : World) → Later U K w w1 → Agrees U K w1 R (goes_if C n w1.src) (at_some g m w1.net)
  leads n m e w1 later = subst (λ z. Agrees U K w1 R (goes_if C n w1.src) (at_some g z w1.net)) (sym e) (leads_to n w1 later)

  pub goes_behind : (n m : ℕ) → m ≡ n → (w1 : World) → Later U K w w1 → Agrees U K w1 R (gives [] (to_line n C.frame) w1.src) (gives [] (to_line m g) w1.net)
  goes_behind n m e w1 later = agrees_gives U K w1 R (to_line n C.frame) (to_line m g) later.match (next n m e w1 later)

  -- the Err number is cleared first
  cleared_leads : (n : Option ℕ)
      → Agrees U K w R (goes_if C n (source_store.set_err 0 w.src)) (at_some g n (set_err 0 w.net))
  cleared_leads n =
      let w1 : World = world_of w.map (source_store.set_err 0 w.src) (set_err 0 w.net) in
      let later : Later U K w w1 = later_errors U K w w.map w.src w.net 0 0 refl (later_now U K w h) in
      agrees_from U K K w w1 R (goes_if C n w1.src) (at_some g n w1.net) h.stores (weaker_self w K) later (leads_to n w1 later)

  leaves_by : (kind : ExitKind)
      → Agrees U K w R (source_lines.exit_does C kind w.src)
      (at_some g (exit_to C.aims (exit_kind (exit_of kind))) (cleared (leaves (exit_of kind)) w.net))
  leaves_by leaving.Sub = cleared_leads (exit_to C.aims leaving.Sub)
  leaves_by leaving.Function = cleared_leads (exit_to C.aims leaving.Function)
  leaves_by leaving.Property = cleared_leads (exit_to C.aims leaving.Property)
  leaves_by leaving.For = leads_to (exit_to C.aims leaving.For) w (later_now U K w h)
  leaves_by leaving.Do = leads_to (exit_to C.aims leaving.Do) w (later_now U K w h)

  pub exit_agrees : (kind : ExitKind) → Agrees U K w R (source_lines.exit_does C kind w.src) (exit_does g k (exit_of kind) w.net)
  exit_agrees kind =
      subst (λ a. Agrees U K w R (source_lines.exit_does C kind w.src) (at_some g (exit_to a (exit_kind (exit_of kind))) (cleared (leaves (exit_of kind)) w.net))) (sym aims)
      (leaves_by kind)
