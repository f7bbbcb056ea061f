-- An array is laid on both sides at a position where nothing stands.
use Rattle.std.proofs.Common.{◌≡◌, ℕ, ◌<◌, ◌^◌, Some, List, length}
use Rattle.run_base.specs.Positions.{Position}
use Rattle.vb6_run.specs.Shapes.{Shape}
use Rattle.vb6_run.specs.Store.{blank, table}
use Rattle.vb6_run.specs.Values.{Dimension, Values}
use Rattle.net_run.specs.Store as net
use Rattle.run_matches.specs.Likeness.{numbers_of, ArrayLike}
use Rattle.run_matches.specs.Maps.{World, IsMatched, moved_at, root_variable}
use Rattle.run_matches.specs.Match.{MemoryMatch}
use Rattle.run_matches.specs.Pledges.{Later, Pledge}
use Rattle.run_matches.specs.Upgrades.{Upgrade, part_variable}
use Rattle.memory_laws.specs.Changes.{GoesAlone, IsSuited}
use Rattle.memory_laws.proofs.Making.{no_array_in, no_table_in}
use Rattle.memory_laws.proofs.Renewed.{renewed, new_array_later}

module _ (U : Upgrade) (w : World) (q : Position) (e : Shape) (dims : List Dimension) (xs : Values) (a : net.Array) (h : MemoryMatch U w)
    (m : IsMatched U w q) (alone : GoesAlone U w q) (none : w.src.held q ≡ blank) (net_none : w.net.cell (moved_at U w.map q) ≡ net.blank)
    (like : ArrayLike U (numbers_of w) e dims xs a) (short : length a.elements < 2 ^ 31) (suits : IsSuited U w q (table e dims xs))
    (ranked : (v u : ℕ) → root_variable w.map q.root ≡ Some v → part_variable U v q.path ≡ Some u → length a.counts ≡ U.facts.rank u) where
  pub laid_later : (K : Pledge) → Later U K w (renewed U w q e dims xs a)
  laid_later K =
      new_array_later U w q e dims xs a h m alone like short suits
      (λ rank r. absurd (no_array_in (w.net.cell (moved_at U w.map q)) net_none r.0 r.1)) ranked K
      (record { free = λ l i. i none; stays = λ d k s old. absurd (no_table_in (w.src.held q) none d old.dims old.values old.held) })
