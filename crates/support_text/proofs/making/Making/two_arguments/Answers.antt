use Rattle.net_tree.specs.View.{exp_of, exps_of}
use Rattle.support_text.specs.MadeView.{made}
use Rattle.support_text.proofs.Made.{two_stand}
use Rattle.support_text.proofs.making.Making.two_arguments.Goals as goal

pub returns : goal.returns
returns c =
    two_stand (made c.args.self.now) (made c.pop.new.self) (made c.pop-2.new.self) (exp_of c.in_ok-a.a) (exp_of c.in_ok-b.b) (exps_of c.in_ok-both.field-0.items)
    c.in_ok-b.ensures c.in_ok-a.ensures c.in_ok-both.ensures
