-- Frames that match do so under the promise that nothing changes.
use Rattle.std.proofs.Common.{ℕ, Bool, not}
use Rattle.run_base.specs.Frames.{Kept}
use Rattle.run_base.specs.Machines.{nth_line}
use Rattle.vb6_run.specs.Store.{Address, SourceFrame}
use Rattle.vb6_run.specs.Values.{Value}
use Rattle.net_run.specs.Lines.{NetFrame}
use Rattle.net_run.specs.Store as net
use Rattle.net_run.specs.Values as net_value
use Rattle.run_matches.specs.Addresses.{Bound, images, mirrored, KeptMatch, both_nothing, both_limits, both_choices, both_objects, both_arrays, both_addresses}
use Rattle.run_matches.specs.Frames.{FrameMatch, is_exact_head, lines_of, is_mirrored}
use Rattle.run_matches.specs.Maps.{World, mark}
use Rattle.run_matches.specs.Match.{MemoryMatch}
use Rattle.run_matches.specs.Pledges.{Pledge, still}
use Rattle.run_matches.specs.Upgrades.{Upgrade}
use Rattle.agreeing_laws.proofs.Lasting.{later_weaker}
use Rattle.agreeing_laws.proofs.Made.{below_self}
use Rattle.agreeing_laws.proofs.Moves.{address_promised, locks_promised}
use Rattle.agreeing_laws.proofs.Still.{still_more}
use Rattle.line_laws.proofs.KeptPlaces.{place_kept_promised}

module _ (U : Upgrade) (K : Pledge) (w : World) (h : MemoryMatch U w) where
  bound_still : (exact : Bool) (a : Address) (b : net.Address) → Bound U K w exact a b → Bound U (still K w) w exact a b
  bound_still _ _ _ (images t a b s) = images t a b (address_promised U K (still K w) w w a b (still_more K w) s)
  bound_still _ _ _ (mirrored a b m) = mirrored a b (record { holds = λ w1 l. m.holds w1 (later_weaker U K (still K w) w w1 h (still_more K w) l) })

  kept_still : (exact : Bool) (a : Kept Value Address) (b : Kept net_value.Value net.Address) → KeptMatch U K w exact a b → KeptMatch U (still K w) w exact a b
  kept_still exact _ _ both_nothing = both_nothing
  kept_still exact _ _ (both_limits a b ty tz y s z d same m i) =
      both_limits a b ty tz y s z d (address_promised U K (still K w) w w a b (still_more K w) same) m i
  kept_still exact _ _ (both_choices ty x y m) = both_choices ty x y m
  kept_still exact _ _ (both_objects ty x s y m home) = both_objects ty x s y m home
  kept_still exact _ _ (both_arrays e dims xs s y) = both_arrays e dims xs s y
  kept_still exact _ _ (both_addresses a b m) = both_addresses a b (bound_still exact a b m)

  pub frame_still : (p : ℕ) (f : SourceFrame) (g : NetFrame) → FrameMatch U K w p f g → FrameMatch U (still K w) w p f g
  frame_still p f g F = record {
    line = F.line;
    handler = F.handler;
    active = F.active;
    resume = F.resume;
    me = F.me;
    me_made = F.me_made;
    own_object = F.own_object;
    names = F.names;
    vars = λ v a e s.
        let x = F.vars v a e s in
        record { address = x.address; found = x.found; bound = bound_still (not (is_mirrored U v)) a x.address x.bound; ranked = x.ranked; plain = x.plain };
    statics = F.statics;
    own = F.own;
    own_heads = F.own_heads;
    kept = λ i. kept_still (is_exact_head U (nth_line (lines_of U p) i)) (f.kept i) (g.kept i) (F.kept i);
    covered_heads = F.covered_heads;
    covered_withs = λ h l is covers with. place_kept_promised U K (still K w) w (still_more K w) l.bindings.exprs (f.kept h) (g.kept h) (F.covered_withs h l is covers with);
    has_locals = F.has_locals;
    has_passing = F.has_passing;
    locks = locks_promised U K (still K w) w w f.env (still_more K w) F.locks;
    low = below_self (mark w.src);
  }
