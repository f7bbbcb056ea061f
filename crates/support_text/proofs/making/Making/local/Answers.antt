use Rattle.net_tree.specs.View.{exp_of, dim_of}
use Rattle.support_text.specs.MadeView.{made}
use Rattle.support_text.proofs.Made.{local_made}
use Rattle.support_text.proofs.making.Making.local.Goals as goal

pub returns : goal.returns
returns c =
    local_made c.args.name.now c.args.ty (made c.args.self.now) (made c.pop.new.self) (made c.add_dim.new.self) (exp_of c.in_ok-value.value) (dim_of c.in_ok-dim.dim)
    c.in_ok-value.ensures c.in_ok-dim.ensures c.in_ok-add_dim.ensures
