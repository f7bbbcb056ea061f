-- Frames that go on to match do so behind a line.
use Rattle.std.proofs.Common.{◌≡◌, refl, ℕ, Bool, true}
use Rattle.run_base.specs.Frames.{Handler, Kept, to_line, at_handler, keeping}
use Rattle.vb6_run.specs.Store.{Address, SourceFrame}
use Rattle.vb6_run.specs.Values.{Value}
use Rattle.net_run.specs.Lines.{NetFrame}
use Rattle.net_run.specs.Store as net_store
use Rattle.net_run.specs.Values as net_value
use Rattle.run_matches.specs.Upgrades.{Upgrade}
use Rattle.run_matches.specs.Maps.{World}
use Rattle.run_matches.specs.Match.{MemoryMatch}
use Rattle.run_matches.specs.Pledges.{Pledge, Later}
use Rattle.run_matches.specs.Addresses.{KeptMatch}
use Rattle.run_matches.specs.Frames.{FrameMatch, OwnsAll}
use Rattle.agreeing_laws.proofs.Lasting.{later_now, later_then}
use Rattle.line_laws.specs.Lasting.{GoOnMatching, SteadyNext}
use Rattle.line_laws.proofs.Bounds.{kept_later}
use Rattle.line_laws.proofs.FrameLater.{frame_keeping, frame_placed, heads_keeping, KeptHere, placed}
use Rattle.line_laws.proofs.KeptPlaces.{can_keep_later}

module _ (U : Upgrade) (K : Pledge) (p : ℕ) (f : SourceFrame) (g : NetFrame) (w : World) (h : MemoryMatch U w) (F : GoOnMatching U K p f g w) where
  pub steady_later : (w1 : World) → Later U K w w1 → GoOnMatching U K p f g w1
  steady_later w1 l w2 m = F w2 (later_then U K w w1 w2 h l m)

  module _ (owns : OwnsAll U K p f) (w1 : World) (l : Later U K w w1) where
    abbrev at : (w2 : World) → Later U K w1 w2 → FrameMatch U K w2 p f g
    at w2 m = F w2 (later_then U K w w1 w2 h l m)

    -- at a line where control goes on
    pub next_at : (n m : ℕ) → m ≡ n → SteadyNext U K p f.me w1 (to_line n f) (to_line m g)
    next_at n m e = record {
      same_object = refl;
      frames = λ w2 x.
          frame_placed U K w2 p f g n m f.handler g.handler f.active g.active f.resume g.resume e (at w2 x).handler (at w2 x).active (at w2 x).resume
          (at w2 x);
      owns = record { variables = owns.variables; heads = owns.heads };
    }

    -- and with another handler, which is active or not
    pub placed_at : (n m : ℕ) (i j : Handler) (t u : Bool) → m ≡ n → j ≡ i → u ≡ t → SteadyNext U K p f.me w1 (placed n i t f.resume f) (placed m j u g.resume g)
    placed_at n m i j t u e d c = record {
      same_object = refl;
      frames = λ w2 x. frame_placed U K w2 p f g n m i j t u f.resume g.resume e d c (at w2 x).resume (at w2 x);
      owns = record { variables = owns.variables; heads = owns.heads };
    }

    -- and with what the line keeps
    pub keeping_at : (x : Kept Value Address) (y : Kept net_value.Value net_store.Address) → ((exact : Bool) → KeptMatch U K w1 exact x y)
        → KeptHere U K p f w1 x y → (n m : ℕ) → m ≡ n → SteadyNext U K p f.me w1 (keeping x n f) (keeping y m g)
    keeping_at x y kept here n m e = record {
      same_object = refl;
      frames = λ w2 later.
          frame_keeping U K w2 p f g x y (λ exact. kept_later U K w1 w2 l.match later exact x y (kept exact))
          (λ z is. can_keep_later U K p f w1 w2 later z.source.form z.bindings.exprs x y (here z is)) (at w2 later) n m e;
      owns = heads_keeping U K w1 p f g x y kept here (at w1 (later_now U K w1 l.match)) n owns;
    }

    -- at a handler of an error
    pub handler_at : (n : ℕ) → SteadyNext U K p f.me w1 (at_handler n f) (at_handler n g)
    handler_at n = record {
      same_object = refl;
      frames = λ w2 x. frame_placed U K w2 p f g n n f.handler g.handler true true f.line g.line refl (at w2 x).handler refl (at w2 x).line (at w2 x);
      owns = record { variables = owns.variables; heads = owns.heads };
    }
