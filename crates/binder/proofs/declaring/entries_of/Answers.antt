use Rattle.std.proofs.Common.{◌+◌, ◌++◌, ◌∙◌, ap, length, map, List}
use Rattle.binder.specs.declared.locals.Implicit.{Implicit}
use Rattle.binder.specs.ImplicitLocals.{entries_from}
use Rattle.binder.specs.View.{implicit_of}
use Rattle.binder.proofs.LocalEntries.{entries_more}
use Rattle.binder.proofs.declaring.entries_of.Goals as goal

pub loop-own-preserved : goal.loop-own-preserved
loop-own-preserved c =
    entries_more c.loop-own.next c.in_ok-next.next c.args.locals.now c.loop-own.own-index c.own-item.result c.loop-own.all.items c.push_entries.new.to.items
    c.loop-own-test.true c.own-item.is
    (c.in_ok-next.ensures.entries ∙ ap (λ (xs : List Implicit). c.loop-own.all.items ++ entries_from c.loop-own.next (map implicit_of xs)) c.deref.ensures.value)
    (c.in_ok-next.ensures.next ∙ ap (λ (xs : List Implicit). c.loop-own.next + length xs) c.deref.ensures.value)
    ∙ c.loop-own.invariant
