-- What lasts under the pledges of frames and calls.
use Rattle.std.specs.Prelude.{ℕ, Option, List}
use Rattle.vb6_run.specs.Store.{SourceFrame, SourceGiven}
use Rattle.run_matches.specs.Upgrades.{Upgrade}
use Rattle.run_matches.specs.Maps.{Mark, World}
use Rattle.run_matches.specs.Match.{MemoryMatch}
use Rattle.run_matches.specs.Pledges.{Later, NetGiven}
use Rattle.run_matches.specs.Frames.{frame_pledge}
use Rattle.run_matches.specs.Runs.{call_pledge}
use Rattle.agreeing_laws.specs.Promises.{Weaker}
use Rattle.agreeing_laws.proofs.Lasting.{later_then, later_from}

pub frame_lasts : (U : Upgrade) (p : ℕ) (f : SourceFrame) (w w0 w1 w2 : World) → MemoryMatch U w0 → Later U (frame_pledge U p w f) w0 w1
    → Later U (frame_pledge U p w f) w1 w2 → Later U (frame_pledge U p w f) w0 w2
frame_lasts U p f w w0 w1 w2 h a b = later_then U (frame_pledge U p w f) w0 w1 w2 h a b

pub call_lasts : (U : Upgrade) (p q : ℕ) (f : SourceFrame) (base : Mark) (me : Option ℕ) (xs : List SourceGiven) (ys : List NetGiven) (w w0 w1 w2 : World)
    → MemoryMatch U w0 → Weaker w0 (frame_pledge U p w f) (call_pledge U q base me xs ys) → Later U (frame_pledge U p w f) w0 w1
    → Later U (call_pledge U q base me xs ys) w1 w2 → Later U (frame_pledge U p w f) w0 w2
call_lasts U p q f base me xs ys w w0 w1 w2 h less a b = later_from U (frame_pledge U p w f) (call_pledge U q base me xs ys) w0 w1 w2 h.stores less a b
