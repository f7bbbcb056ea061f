use Rattle.std.proofs.Common.{◌∙◌, map}
use Rattle.expression_words.specs.View.{scope_of}
use Rattle.binder.specs.View.{implicit_of, placed_of}
use Rattle.binder.proofs.Gathering.{words_more}
use Rattle.binder.proofs.locals.gather_words.Goals as goal

pub loop-word-preserved : goal.loop-word-preserved
loop-word-preserved c = record {
  all =
      words_more (scope_of c.args.search.scope) c.args.search.procedure (placed_of c.args.line.now) (map implicit_of c.loop-word.to.variables.items) (map implicit_of c.gather_word.new.to.variables.items)
      c.args.words.now c.loop-word.word-index c.word-item.result c.loop-word-test.true c.word-item.is c.in_ok-gather_word.ensures.all
      ∙ c.loop-word.invariant.all;
  table = c.in_ok-gather_word.ensures.table;
}
