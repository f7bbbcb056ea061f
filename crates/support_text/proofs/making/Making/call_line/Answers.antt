use Rattle.net_tree.specs.View.{exp_of, exps_of, line_of}
use Rattle.support_text.specs.MadeView.{made}
use Rattle.support_text.proofs.Made.{call_line_made}
use Rattle.support_text.proofs.making.Making.call_line.Goals as goal

pub returns : goal.returns
returns c =
    call_line_made c.args.count (made c.args.self.now) (made c.arguments.new.self) (made c.pop.new.self) (made c.add_line.new.self)
    (exps_of c.in_ok-arguments.arguments.items) (exp_of c.in_ok-callee.callee) (line_of c.in_ok-line.line)
    c.in_ok-arguments.ensures c.in_ok-callee.ensures c.in_ok-line.ensures c.in_ok-add_line.ensures
