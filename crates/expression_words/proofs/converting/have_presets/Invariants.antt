use Rattle.std.proofs.Common.{◌≡◌, drop}
use Rattle.std.specs.List.{list_all}
use Rattle.expression_words.specs.Converting.{has_preset}
use Rattle.expression_words.specs.View.{declared_in}
use Rattle.expression_words.proofs.converting.have_presets.Given as goal

abbrev pub invariant-loop-v : goal.invariant-loop-v
invariant-loop-v l = list_all (has_preset (declared_in l.context)) (drop l.v-index l.params) ≡ list_all (has_preset (declared_in l.context)) l.params
