use Rattle.std.proofs.Common.{◌≡◌, ◌++◌, map, drop}
use Rattle.expression_words.specs.View.{scope_of}
use Rattle.binder.specs.ImplicitLocals.{implicit_words, with_new}
use Rattle.binder.specs.View.{implicit_of, placed_of, word_of, IsGathered}
use Rattle.binder.proofs.locals.gather_words.Given as goal

abbrev pub invariant-loop-word : goal.invariant-loop-word
invariant-loop-word l = record {
  all :
      with_new (map implicit_of l.to.variables.items) (implicit_words (scope_of l.search.scope) l.search.procedure (placed_of l.line) (map word_of (drop l.word-index l.words)))
      ≡ with_new (map implicit_of l.initial.to.variables.items) (implicit_words (scope_of l.search.scope) l.search.procedure (placed_of l.line) (map word_of l.words));
  table : IsGathered l.to;
}
