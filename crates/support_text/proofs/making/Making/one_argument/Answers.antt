use Rattle.net_tree.specs.View.{exp_of, exps_of}
use Rattle.support_text.specs.MadeView.{made}
use Rattle.support_text.proofs.Made.{one_stands}
use Rattle.support_text.proofs.making.Making.one_argument.Goals as goal

pub returns : goal.returns
returns c =
    one_stands (made c.args.self.now) (made c.pop.new.self) (exp_of c.in_ok-a.a) (exps_of c.in_ok-one.field-0.items)
    c.in_ok-a.ensures c.in_ok-one.ensures
