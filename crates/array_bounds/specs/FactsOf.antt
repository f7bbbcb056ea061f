-- The facts that the code has, as tests, and the marks by them.
use Rattle.std.specs.Prelude.{ℕ, List}
use Rattle.reach_table.specs.Chains.{is_marked}
use Rattle.bound_tree.specs.declared.marks.Marks.{Marks}
use Rattle.bound_tree.specs.Tree.{Program}
use Rattle.bound_tree.specs.View.{declarations_of}
use Rattle.array_bounds.specs.declared.facts.Facts.{Facts}
use Rattle.array_bounds.specs.Facts.{AreFactsBy, LocksBy}
use Rattle.array_bounds.specs.Known.{Known}
use Rattle.array_bounds.specs.LockTables.{locks_in}
use Rattle.array_bounds.specs.Rows.{AreMarksOf}
use Rattle.array_bounds.specs.Tables.{low_by, rank_by, splits_by, tears_by}

abbrev pub known_of : Facts → Known
known_of f = record {
  low = low_by (declarations_of f.declared.now) f.bounds;
  rank = rank_by f.bounds;
  splits = splits_by f.bounds;
  tears = tears_by f.bounds;
  resized = is_marked f.resized.items;
  holds_array = is_marked f.holds_array.items;
  holds_made = is_marked f.holds_made.items;
  locks = locks_in f.locks.items;
}

-- the marks of a project, where the facts on calls go by given pairs
abbrev pub AreMarksBy : Program → List (ℕ × ℕ) → Marks → Type 0
AreMarksBy P pairs m = (F : Known) × AreFactsBy P (LocksBy P pairs) F × AreMarksOf P F m
