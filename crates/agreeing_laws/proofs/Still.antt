-- What is still changes nothing that was there: the promise of it.
use Rattle.std.proofs.Common.{◌≡◌, refl, false}
use Rattle.run_base.specs.Positions.{Root, shared, made, field, Position}
use Rattle.run_matches.specs.Maps.{World, IsMade, is_auto_root, mark}
use Rattle.run_matches.specs.Pledges.{IsLasting, Pledge, is_own, owns_nothing, still}
use Rattle.run_matches.specs.Upgrades.{Upgrade}
use Rattle.agreeing_laws.specs.Promises.{Weaker}

foreign : (r : Root) → is_own owns_nothing r ≡ false
foreign (shared k) = refl
foreign (made m) = refl
foreign (field o k) = refl

pub stays_still : (U : Upgrade) (K : Pledge) (w : World) (q : Position) → IsMade (mark w.src) q.root → is_auto_root U w.map q.root ≡ false
    → IsLasting U (still K w) w q
stays_still U K w q m plain = record { steady = tt; old = record { is_made = m; foreign = foreign q.root }; plain = plain }

pub still_more : (K : Pledge) (w : World) → Weaker w K (still K w)
still_more K w = record {
  keeps = λ ty x. x;
  steady = λ x. tt;
  old = λ r m s x. record { is_made = m; foreign = foreign r };
  takes = λ k lt x. x;
}
