use Rattle.net_tree.specs.Tree as net
use Rattle.net_tree.specs.View.{exp_of, line_of}
use Rattle.support_text.specs.MadeView.{made}
use Rattle.support_text.proofs.Made.{line_made}
use Rattle.support_text.proofs.making.Making.if_line.Goals as goal

pub returns : goal.returns
returns c =
    line_made net.if_head (made c.args.self.now) (made c.pop.new.self) (made c.add_line.new.self) (exp_of c.in_ok-condition.condition) (line_of c.in_ok-line.line)
    c.in_ok-condition.ensures c.in_ok-line.ensures c.in_ok-add_line.ensures
