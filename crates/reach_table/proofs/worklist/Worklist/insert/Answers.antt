use Rattle.std.proofs.Common.{◌<◌, ◌∙◌, ap, arith, false, length, sym}
use Rattle.std.proofs.lemmas.List.{get_or_read}
use Rattle.reach_table.specs.Worklists.{Reached}
use Rattle.reach_table.proofs.Nodes.{IsMarkedList-push}
use Rattle.reach_table.proofs.worklist.Worklist.insert.Goals as goal

pub invariant_of-self-2 : goal.invariant_of-self-2
invariant_of-self-2 c =
    let limit = ap (λ (r : Reached). r.limit) c.self.view_is in
    let within : c.args.node < length c.self.inside.marks.items = omega (arith, limit) in
    let new = sym (get_or_read c.self.inside.marks.items c.args.node _ within c.index.ensures false) ∙ c.if-index.false in
    rw c.in_ok-push.ensures.items (IsMarkedList-push c.self.inside.marks.items c.self.inside.nodes.items c.args.node within new c.self.invariant)
