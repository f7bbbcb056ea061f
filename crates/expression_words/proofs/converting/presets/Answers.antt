use Rattle.std.proofs.Common.{sym, ap, ◌∙◌}
use Rattle.std.proofs.lemmas.List.{drop_all}
use Rattle.expression_words.specs.Converting.{presets}
use Rattle.expression_words.specs.View.{declared_in, passed_before}
use Rattle.expression_words.proofs.Pushes.{passed_alone}
use Rattle.expression_words.proofs.converting.presets.Goals as goal

pub returns : goal.returns
returns c =
    sym (passed_alone c.loop-v.args.items)
    ∙ ap (λ vs. passed_before c.loop-v.args.items (presets (declared_in c.args.context) vs)) (sym (drop_all c.loop-v.v-index c.args.params.now c.loop-v-test.false))
    ∙ c.loop-v.invariant
