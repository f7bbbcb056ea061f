-- What stands at one position changes, and with it arrays of the target.
use Rattle.std.specs.Prelude.{◌≡◌, ℕ, ◌<◌, ◌≤◌, ◌^◌, Some, length}
use Rattle.net_meaning.specs.declared.value.ValueN.TheVariants as n
use Rattle.run_base.specs.Positions.{Position}
use Rattle.vb6_run.specs.Shapes.{Shape}
use Rattle.vb6_run.specs.Store.{Held, with_held}
use Rattle.net_run.specs.Store as net
use Rattle.run_matches.specs.Likeness.{numbers_of}
use Rattle.run_matches.specs.Maps.{World, IsMatched, IsUnmade, IsUnmapped, root_variable, net_mark, moved_at}
use Rattle.run_matches.specs.Match.{HasArray, HasRank, HeldLike, IsLoose}
use Rattle.run_matches.specs.Pledges.{Pledge, IsHeld, IsLasting, Stays}
use Rattle.run_matches.specs.Upgrades.{Upgrade, part_variable}
use Rattle.memory_laws.specs.Changes.{IsSuited}

-- a position of the source holds something else, and the target has these cells and arrays
abbrev pub rearranged : World → Position → Held → (cells : Position → net.Cell) → (arrays : ℕ → net.Array) → (next : ℕ) → World
rearranged w q x cells arrays next =
    record { map = w.map; src = with_held q x w.src; net = record w.net { cell = cells; arrays = arrays; next_array = next } }

-- What stands at the position matches, no other cell changes, and no array that another cell has.
pub record Rearranges (U : Upgrade) (w : World) (q : Position) (x : Held) (cells : Position → net.Cell) (arrays : ℕ → net.Array) (next : ℕ) : Type 0 where
  pub suits : IsSuited U w q x
  pub like : HeldLike U (numbers_of (rearranged w q x cells arrays next)) x (cells (moved_at U w.map q))
  pub others : (p : Position) → IsMatched U w p → (q ≡ p → ⊥) → cells (moved_at U w.map p) ≡ w.net.cell (moved_at U w.map p)
  pub unmapped : (p : Position) → IsUnmapped U w p → cells p ≡ w.net.cell p
  pub unmade : (p : Position) → IsUnmade (net_mark w.net) p.root → cells p ≡ net.blank
  pub same_arrays :
      (p : Position) (k : ℕ) → IsMatched U w p → (q ≡ p → ⊥) → w.net.cell (moved_at U w.map p) ≡ net.holds (n.Array k) → arrays k ≡ w.net.arrays k
  pub once :
      (p : Position) (k : ℕ) → IsMatched U w p → (q ≡ p → ⊥) → w.net.cell (moved_at U w.map p) ≡ net.holds (n.Array k)
      → cells (moved_at U w.map q) ≡ net.holds (n.Array k) → ⊥
  pub known : (k : ℕ) → cells (moved_at U w.map q) ≡ net.holds (n.Array k) → k < next
  pub grows : w.net.next_array ≤ next
  pub ranked : (rank : ℕ) → HasRank U w q rank → HasRank U (rearranged w q x cells arrays next) q rank
  pub ranks :
      (v u k : ℕ) → root_variable w.map q.root ≡ Some v → part_variable U v q.path ≡ Some u → cells (moved_at U w.map q) ≡ net.holds (n.Array k)
      → length (arrays k).counts ≡ U.facts.rank u
  pub short : (k : ℕ) → length (arrays k).elements < 2 ^ 31
  pub loose : (k : ℕ) → k < w.net.next_array → IsLoose U w k → (arrays k ≡ w.net.arrays k) × (cells (moved_at U w.map q) ≡ net.holds (n.Array k) → ⊥)

-- The pledge lets it change, or nothing stood there yet, and an array that stays is there.
pub record MayRearrange (U : Upgrade) (K : Pledge) (w : World) (q : Position) (x : Held) (cells : Position → net.Cell) (arrays : ℕ → net.Array) (next : ℕ) : Type 0 where
  pub free : IsLasting U K w q → IsHeld w q → ⊥
  pub stays : (e : Shape) (k : ℕ) → Stays U K w q e → HasArray U w q e k → HasArray U (rearranged w q x cells arrays next) q e k
