use Rattle.std.proofs.Common.{map}
use Rattle.expression_words.specs.View.{meaning_of, scope_of, supplied_of}
use Rattle.bound_exprs.proofs.ArgumentLists.{index_means}
use Rattle.bound_exprs.proofs.resolving.+meanings.Goals as goal

pub meaning-returns-in_ok-list_meaning-in-Index : goal.meaning-returns-in_ok-list_meaning-in-Index
meaning-returns-in_ok-list_meaning-in-Index t c =
    index_means (scope_of c.args.scope) c.args.lookup c.with_list.result c.args.e.now c.deref-in-Index.result.now c.in-Index.of c.in-Index.args
    c.deref-in-Index-2.result.now (meaning_of c.in_ok-list_meaning-in-Index.field-0) (meaning_of c.in_ok-of-in-Index.of)
    (map supplied_of c.in_ok-args-in-Index.args.items) c.in_ok-list_meaning-in-Index.ensures c.in_ok-of-in-Index.ensures c.with_list.ensures
    c.deref-in-Index.ensures c.in_ok-args-in-Index.ensures c.deref-in-Index-2.ensures.value c.in-Index.is
