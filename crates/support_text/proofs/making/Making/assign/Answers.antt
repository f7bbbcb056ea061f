use Rattle.std.specs.Prelude.{[], ◌∷◌}
use Rattle.net_tree.specs.Tree as net
use Rattle.net_tree.specs.View.{exp_of, line_of}
use Rattle.support_text.specs.MadeView.{made}
use Rattle.support_text.proofs.Made.{line_made}
use Rattle.support_text.proofs.making.Making.assign.Goals as goal

pub returns : goal.returns
returns c =
    line_made (net.assign (net.path (c.args.target.now ∷ []))) (made c.args.self.now) (made c.pop.new.self) (made c.add_line.new.self) (exp_of c.in_ok-value.value) (line_of c.in_ok-line.line)
    c.in_ok-value.ensures c.in_ok-line.ensures c.in_ok-add_line.ensures
