use Rattle.std.proofs.Common.{sym, ◌∙◌, ap, drop, map, length}
use Rattle.std.proofs.lemmas.List.{map-id}
use Rattle.std.specs.Vec.Iter.{into_iter_items}
use Rattle.std.specs.String.{string_bytes}
use Rattle.std.proofs.lemmas.Iterator.Adapters.{YieldsList-from_vec}
use Rattle.std.proofs.lemmas.Iterator.Consumers.{YieldsList-end}
use Rattle.vbup.proofs.VecItems.{len-items, after-first}
use Rattle.vbup.proofs.arguments.words_of.Goals as goal

pub returns : goal.returns
returns c =
    let rest = ap into_iter_items c.into_iter-argument-iterator.ensures.into_iter_gives ∙ after-first c.args.arguments c.next.result c.next.new.self c.next.ensures.cases in
    let all = YieldsList-from_vec (drop 1 (into_iter_items c.args.arguments)) rest (len-items c.into_iter-argument-iterator.result ∙ ap length rest) in
    let end = YieldsList-end all c.loop-argument.yielded _ c.loop-argument.yielded_by _ c.next-in-loop-argument.new.self c.in-None.is c.next-in-loop-argument.ensures.steps in
    c.loop-argument.invariant ∙ ap (map string_bytes) (sym (map-id _) ∙ end.0)
