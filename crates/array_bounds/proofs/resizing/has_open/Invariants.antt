use Rattle.std.proofs.Common.{◌≡◌, map, drop}
use Rattle.std.specs.List.{list_any}
use Rattle.bound_facts.specs.Parts.{Extent}
use Rattle.array_bounds.specs.Resizing.{is_open}
use Rattle.array_bounds.specs.Views.{extent_of}
use Rattle.array_bounds.proofs.resizing.has_open.Given as goal

abbrev pub invariant-loop-extent : goal.invariant-loop-extent
invariant-loop-extent l = list_any (λ (x : Extent). is_open x.0) (map extent_of l.extents) ≡ list_any (λ (x : Extent). is_open x.0) (map extent_of (drop l.extent-index l.extents))
