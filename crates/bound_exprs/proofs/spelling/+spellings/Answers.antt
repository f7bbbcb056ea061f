use Rattle.expression_words.specs.View.{scope_of}
use Rattle.bound_exprs.proofs.SpelledLists.{index_joined}
use Rattle.bound_exprs.proofs.spelling.+spellings.Goals as goal

pub spelled-returns-in_ok-index-in-Index : goal.spelled-returns-in_ok-index-in-Index
spelled-returns-in_ok-index-in-Index t c =
    index_joined (scope_of c.args.scope) c.args.lookup c.with_list.result c.args.e.now c.deref-in-Index.result.now c.in-Index.of c.in-Index.args
    c.in_ok-index-in-Index.field-0 c.in_ok-of-in-Index.of c.in_ok-args-in-Index.args.items c.deref-in-Index-2.result.now
    c.in_ok-index-in-Index.ensures c.in_ok-of-in-Index.ensures c.deref-in-Index.ensures c.in_ok-args-in-Index.ensures c.deref-in-Index-2.ensures.value c.with_list.ensures c.in-Index.is
