use Rattle.std.proofs.Common.{◌≡◌, map, take}
use Rattle.std.specs.List.{flat_map}
use Rattle.binder.specs.ImplicitLocals.{part_words}
use Rattle.binder.specs.View.{part_of, word_of}
use Rattle.binder.proofs.words.words_of_parts.Given as goal

abbrev pub invariant-loop-part : goal.invariant-loop-part
invariant-loop-part l =
    map word_of l.all.items ≡ flat_map part_words (map part_of (take l.part-index l.parts))
