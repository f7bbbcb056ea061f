use Rattle.std.proofs.Common.{◌<◌, ◌∙◌, ap, arith, sym}
use Rattle.reach_table.specs.Table.{Table}
use Rattle.reach_table.proofs.Runs.{count_by-from_index}
use Rattle.reach_table.proofs.arrows.Arrows.run_of.Goals as goal

pub returns-then-number-eq0-clause-number : goal.returns-then-number-eq0-clause-number
returns-then-number-eq0-clause-number c =
    let nodes = ap (λ (t : Table). t.nodes) c.self.view_is in
    let below : c.args.node < c.self.inside.nodes = omega (arith, nodes) in
    rw (← c.self.view_is) (sym c.if-number-eq0.true ∙ sym (count_by-from_index c.self.inside.nodes c.self.inside.pairs.items c.self.inside.starts.items c.args.node _ _ c.self.invariant.index below c.index-first.ensures c.index.ensures))

pub returns-else-number-eq0-clause-number : goal.returns-else-number-eq0-clause-number
returns-else-number-eq0-clause-number c =
    let nodes = ap (λ (t : Table). t.nodes) c.self.view_is in
    let below : c.args.node < c.self.inside.nodes = omega (arith, nodes) in
    rw (← c.self.view_is) (sym (count_by-from_index c.self.inside.nodes c.self.inside.pairs.items c.self.inside.starts.items c.args.node _ _ c.self.invariant.index below c.index-first.ensures c.index.ensures))
