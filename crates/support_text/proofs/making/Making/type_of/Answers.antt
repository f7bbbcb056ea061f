use Rattle.net_tree.specs.Tree as net
use Rattle.net_tree.specs.View.{exp_of}
use Rattle.support_text.specs.MadeView.{made}
use Rattle.support_text.specs.Steps.{simple_type}
use Rattle.support_text.proofs.Made.{one_made}
use Rattle.support_text.proofs.making.Making.type_of.Goals as goal

pub returns : goal.returns
returns c =
    one_made (λ a. net.type_of a (simple_type c.args.ty)) (made c.args.self.now) (made c.pop.new.self) (made c.push.new.self) (exp_of c.in_ok-a.a) (exp_of c.in_ok-e.e)
    c.in_ok-a.ensures c.in_ok-e.ensures c.in_ok-push.ensures
