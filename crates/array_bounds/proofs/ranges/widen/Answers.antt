use Rattle.array_bounds.proofs.Cells.{cell_set}
use Rattle.array_bounds.proofs.ranges.widen.Goals as goal

pub returns : goal.returns
returns c k d =
    cell_set c.args.table.now c.args.class c.args.g.now.dimension c.args.g.now.number c.index-table-class.result c.widen_row.new.row c.requires c.in_ok-widen_row.ensures k d
