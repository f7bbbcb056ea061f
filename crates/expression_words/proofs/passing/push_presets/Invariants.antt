use Rattle.std.proofs.Common.{◌≡◌, ◌++◌, drop, map}
use Rattle.expression_words.specs.Passing.{preset_slot}
use Rattle.expression_words.specs.View.{declared_in, slot_of}
use Rattle.expression_words.proofs.passing.push_presets.Given as goal

abbrev pub invariant-loop-v : goal.invariant-loop-v
invariant-loop-v l =
    map slot_of l.to.items ++ map (preset_slot (declared_in l.context)) (drop l.v-index l.params)
    ≡ map slot_of l.initial.to.items ++ map (preset_slot (declared_in l.context)) l.params
