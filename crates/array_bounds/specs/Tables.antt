-- The lower bounds and the ranks of arrays by the ranges of their classes.
use Rattle.std.specs.Prelude.{◌≡◌, ◌↔◌, IsTrue, ℕ, ◌<◌, ◌≤◌, ℤ, Bool, slice_get}
use Rattle.bound_tree.specs.Tree.{Declarations, Program}
use Rattle.bound_facts.specs.Bounds.{LowIs, RankIs, file_of, option_base_of}
use Rattle.bound_facts.specs.Calls.{count_variables}
use Rattle.array_bounds.specs.declared.bounds.ArrayBounds.{ArrayBounds}
use Rattle.array_bounds.specs.Facts.{IsSplit, IsTorn}
use Rattle.array_bounds.specs.Ranges.{array_row, is_split, is_torn, low_or, range_at, rank_or_one}

abbrev pub low_by : Declarations → ArrayBounds → (dimension array : ℕ) → ℤ
low_by D b d a = low_or (option_base_of D (file_of (slice_get D.vars a))) (range_at (array_row b.lows.items b.classes.items a) d)

abbrev pub rank_by : ArrayBounds → ℕ → ℕ
rank_by b a = rank_or_one (range_at (array_row b.ranks.items b.classes.items a) 0)

abbrev pub splits_by : ArrayBounds → ℕ → Bool
splits_by b a = is_split (array_row b.lows.items b.classes.items a)

abbrev pub tears_by : ArrayBounds → ℕ → Bool
tears_by b a = is_torn (range_at (array_row b.ranks.items b.classes.items a) 0)

-- they are those of a project
pub record AreBounds (P : Program) (b : ArrayBounds) : Type 0 where
  pub low_is : (d a : ℕ) → a < count_variables P → LowIs P d a (low_by P.declarations b d a)
  pub rank_is : (a : ℕ) → a < count_variables P → RankIs P a (rank_by b a)
  pub no_rank : (a : ℕ) → count_variables P ≤ a → rank_by b a ≡ 1
  pub splits_are : (a : ℕ) → a < count_variables P → IsTrue (splits_by b a) ↔ IsSplit P a
  pub tears_are : (a : ℕ) → a < count_variables P → IsTrue (tears_by b a) ↔ IsTorn P a
