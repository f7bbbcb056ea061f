use Rattle.net_tree.specs.View.{exp_of, exps_of}
use Rattle.support_text.specs.MadeView.{made}
use Rattle.support_text.proofs.Made.{call_made}
use Rattle.support_text.proofs.making.Making.call.Goals as goal

pub returns : goal.returns
returns c =
    call_made c.args.count (made c.args.self.now) (made c.arguments.new.self) (made c.pop.new.self) (made c.push.new.self)
    (exps_of c.in_ok-arguments.arguments.items) (exp_of c.in_ok-callee.callee) (exp_of c.in_ok-e.e)
    c.in_ok-arguments.ensures c.in_ok-callee.ensures c.in_ok-e.ensures c.in_ok-push.ensures
