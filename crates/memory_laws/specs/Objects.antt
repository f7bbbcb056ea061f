-- A new object of each side, whose variables are laid one after the other.
use Rattle.std.specs.Prelude.{◌≡◌, ◌⊎◌, ℕ, suc, true, Option, None, List, [], ◌∷◌}
use Rattle.run_base.specs.Outcomes.{Outcome, gives, outside}
use Rattle.run_base.specs.Positions.{Position, Root, field, updated_at, whole}
use Rattle.vb6_run.specs.Shapes.{variable_shape}
use Rattle.vb6_run.specs.Store.{Held, Memory}
use Rattle.net_run.specs.Store as net
use Rattle.run_matches.specs.Kinds.{AreKinds}
use Rattle.run_matches.specs.Maps.{World}
use Rattle.run_matches.specs.Pledges.{Later, Pledge}
use Rattle.run_matches.specs.Upgrades.{Upgrade, is_flagged}
use Rattle.run_statements.specs.Frames.{IsOne}

-- the next objects, of which each stands for the other, with their classes
abbrev pub with_objects : World → (class home : Option ℕ) → World
with_objects w c d = record {
  map = record w.map { objects = updated_at w.map.objects w.src.next_object w.net.next_object };
  src = record w.src { class_of = updated_at w.src.class_of w.src.next_object c; next_object = suc w.src.next_object };
  net = record w.net { class_of = updated_at w.net.class_of w.net.next_object d; next_object = suc w.net.next_object };
}

-- what stands somewhere has changed, and with it arrays of the target
abbrev pub refilled : World → (Position → Held) → (Position → net.Cell) → (arrays : ℕ → net.Array) → (next : ℕ) → World
refilled w h c a n = record { map = w.map; src = record w.src { held = h }; net = record w.net { cell = c; arrays = a; next_array = n } }

-- The memories match while the variables are laid, but for the classes of the objects: those tell that all variables are there.
abbrev pub unclassed : World → (Position → Held) → (Position → net.Cell) → (arrays : ℕ → net.Array) → (next : ℕ) → World
unclassed w h c a n = refilled (with_objects w None None) h c a n

-- a variable of the new object
abbrev pub own_root : World → (variable : ℕ) → Root
own_root w v = field w.src.next_object (v ∷ [])

-- Variables were laid, on both sides, and nothing else changes in the source.
pub record AreLaid (U : Upgrade) (K : Pledge) (w : World) (class home : Option ℕ) (vs : List ℕ) (h : Position → Held) (r : Outcome Memory (Unit {0}))
    (r' : Outcome net.Memory (Unit {0})) : Type 0 where
  pub held : Position → Held
  pub cells : Position → net.Cell
  pub arrays : ℕ → net.Array
  pub next : ℕ
  pub later : Later U K w (unclassed w held cells arrays next)
  pub others : (p : Position) → ((v : ℕ) → IsOne vs v → own_root w v ≡ p.root → ⊥) → held p ≡ h p
  pub laid : (v : ℕ) → IsOne vs v → (is_flagged U v ≡ true) ⊎ AreKinds (variable_shape U.program.declarations v) (whole (own_root w v)) held
  pub source_is : r ≡ gives [] tt (refilled (with_objects w class home) held cells arrays next).src
  pub target_is : r' ≡ gives [] tt (refilled (with_objects w class home) held cells arrays next).net

-- or the source can't lay them
abbrev pub Lays : Upgrade → Pledge → World → (class home : Option ℕ) → List ℕ → (Position → Held) → Outcome Memory (Unit {0}) → Outcome net.Memory (Unit {0}) → Type 0
Lays U K w c d vs h r r' = (r ≡ outside []) ⊎ AreLaid U K w c d vs h r r'
