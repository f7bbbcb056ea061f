use Rattle.std.proofs.Common.{◌≡◌, drop}
use Rattle.expression_words.specs.Converting.{presets}
use Rattle.expression_words.specs.View.{declared_in, passed_before}
use Rattle.expression_words.proofs.converting.presets.Given as goal

abbrev pub invariant-loop-v : goal.invariant-loop-v
invariant-loop-v l =
    passed_before l.args.items (presets (declared_in l.context) (drop l.v-index l.params)) ≡ presets (declared_in l.context) l.params
