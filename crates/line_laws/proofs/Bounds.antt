-- Addresses that are bound to each other stay so at a later world.
use Rattle.std.proofs.Common.{◌≡◌, sym, ap, subst, Bool, true, false, Option, Some, None, true≢false}
use Rattle.run_base.specs.Frames.{Kept}
use Rattle.run_base.specs.Positions.{Position}
use Rattle.vb6_run.specs.Store.{Address}
use Rattle.vb6_run.specs.Values.{Value}
use Rattle.net_run.specs.Store as net
use Rattle.net_run.specs.Values as net_value
use Rattle.run_matches.specs.Upgrades.{Upgrade}
use Rattle.run_matches.specs.Maps.{World, IsMade, Extends, is_auto_variable, mark}
use Rattle.run_matches.specs.Match.{MemoryMatch}
use Rattle.run_matches.specs.Pledges.{Pledge, Later}
use Rattle.run_matches.specs.Addresses.{Same, same_root, same_item, Bound, images, mirrored, position_of, IsPlain, KeptMatch, both_nothing, both_limits, both_choices, both_objects, both_arrays, both_addresses}
use Rattle.agreeing_laws.proofs.Made.{same_variable}
use Rattle.agreeing_laws.proofs.Lasting.{later_now, later_then}
use Rattle.agreeing_laws.proofs.Moves.{address_later, matched_whole}
use Rattle.agreeing_laws.proofs.Scalars.{scalar_later}

abbrev or_that : {A : Type 0} → A → Option A → A
or_that a None = a
or_that a (Some b) = b

pub some_is : {A : Type 0} (a b : A) → Some a ≡ Some b → a ≡ b
some_is a b e = ap (or_that a) e

-- ---- what was made

module _ (U : Upgrade) (K : Pledge) (w : World) where
  pub same_made : (a : Address) (b : net.Address) → Same U K w a b → (q : Position) → position_of a ≡ Some q → IsMade (mark w.src) q.root
  same_made _ _ (same_root s d p sh m r) q e =
      subst (λ (z : Position). IsMade (mark w.src) z.root) (some_is p q e) (matched_whole U w s p m).is_made
  same_made _ _ (same_item x s d p k j path keeps m has part sh) q e = subst (λ (z : Position). IsMade (mark w.src) z.root) (some_is p q e) m.is_made

  pub bound_made : (exact : Bool) (a : Address) (b : net.Address) → MemoryMatch U w → Bound U K w exact a b → (q : Position)
      → position_of a ≡ Some q → IsMade (mark w.src) q.root
  bound_made _ _ _ h (images t a b s) q e = same_made a b s q e
  bound_made _ _ _ h (mirrored a b m) q e = (m.holds w (later_now U K w h)).is_made q e

  -- what is no quiet parameter is the same on both sides
  pub exactly : (exact : Bool) (a : Address) (b : net.Address) → exact ≡ true → Bound U K w exact a b → Same U K w a b
  exactly _ _ _ e (images t a b s) = s
  exactly _ _ _ e (mirrored a b m) = absurd (true≢false (sym e))

-- ---- later

pub plain_later : (U : Upgrade) (w0 w1 : World) (a : Address) → Extends w0 w1 → ((q : Position) → position_of a ≡ Some q → IsMade (mark w0.src) q.root)
    → IsPlain U w0 a → IsPlain U w1 a
plain_later U w0 w1 a x m h q e =
    subst (λ v. is_auto_variable U v ≡ false) (sym (same_variable U w0 w1 x q.root (m q e))) (h q e)

module _ (U : Upgrade) (K : Pledge) (w0 w1 : World) (h : MemoryMatch U w0) (l : Later U K w0 w1) where
  pub bound_later : (exact : Bool) (a : Address) (b : net.Address) → Bound U K w0 exact a b → Bound U K w1 exact a b
  bound_later _ _ _ (images t a b s) = images t a b (address_later U K w0 w1 a b l s)
  bound_later _ _ _ (mirrored a b m) = mirrored a b (record { holds = λ w2 x. m.holds w2 (later_then U K w0 w1 w2 h l x) })

  pub kept_later : (exact : Bool) (a : Kept Value Address) (b : Kept net_value.Value net.Address) → KeptMatch U K w0 exact a b → KeptMatch U K w1 exact a b
  kept_later exact _ _ both_nothing = both_nothing
  kept_later exact _ _ (both_limits a b ty tz y s z d same m n) =
      both_limits a b ty tz y s z d (address_later U K w0 w1 a b l same) (scalar_later U K w0 w1 ty y z l m) (scalar_later U K w0 w1 tz s d l n)
  kept_later exact _ _ (both_choices ty x y m) = both_choices ty x y (scalar_later U K w0 w1 ty x y l m)
  kept_later exact _ _ (both_objects ty x s y m home) = both_objects ty x s y (scalar_later U K w0 w1 ty x y l m) home
  kept_later exact _ _ (both_arrays e dims xs s y) = both_arrays e dims xs s y
  kept_later exact _ _ (both_addresses a b m) = both_addresses a b (bound_later exact a b m)
