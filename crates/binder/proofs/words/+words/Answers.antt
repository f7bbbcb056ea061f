use Rattle.std.proofs.Common.{map}
use Rattle.binder.specs.View.{word_of}
use Rattle.binder.proofs.IndexWords.{index_words}
use Rattle.binder.proofs.words.+words.Goals as goal

pub push_words-returns-in_ok-push_args-in-Index : goal.push_words-returns-in_ok-push_args-in-Index
push_words-returns-in_ok-push_args-in-Index t c =
    index_words c.args.lookup c.with_list.result c.args.e.now c.deref-in-Index.result.now c.in-Index.of c.in-Index.args c.deref-in-Index-2.result.now
    (map word_of c.args.to.now.items) (map word_of c.push_words-in-Index.new.to.items) (map word_of c.push_args.new.to.items)
    c.in_ok-push_words-in-Index.ensures c.with_list.ensures c.deref-in-Index.ensures c.in_ok-push_args-in-Index.ensures c.deref-in-Index-2.ensures.value c.in-Index.is
