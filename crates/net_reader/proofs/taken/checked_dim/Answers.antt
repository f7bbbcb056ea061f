use Rattle.std.proofs.Common.{sym, ◌∙◌}
use Rattle.net_tree.specs.View.{dim_of}
use Rattle.net_reader.specs.StateView.{body_of}
use Rattle.net_reader.proofs.Compared.{dim_differs}
use Rattle.net_reader.proofs.taken.checked_dim.Goals as goal

pub returns-then-not-same : goal.returns-then-not-same
returns-then-not-same c =
    dim_differs c.args.depth (body_of c.args.body.now) c.args.line.now (dim_of c.args.dim) (sym c.in_ok-same.ensures ∙ c.if-not-same.true)
