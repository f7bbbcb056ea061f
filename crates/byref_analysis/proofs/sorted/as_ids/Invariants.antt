use Rattle.std.proofs.Common.{◌≡◌, map, take}
use Rattle.byref_analysis.specs.Rows.{numbers_of}
use Rattle.byref_analysis.proofs.sorted.as_ids.Given as goal

abbrev pub invariant-loop-p : goal.invariant-loop-p
invariant-loop-p l = map numbers_of l.ids.items ≡ take l.p-index l.pairs
