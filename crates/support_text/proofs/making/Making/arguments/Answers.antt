use Rattle.std.proofs.Common.{ap}
use Rattle.net_tree.specs.View.{exps_of}
use Rattle.support_text.specs.MadeView.{made}
use Rattle.support_text.proofs.Made.{none_stands}
use Rattle.support_text.proofs.making.Making.arguments.Goals as goal

pub returns-in-Zero : goal.returns-in-Zero
returns-in-Zero c = none_stands c.args.count (made c.args.self.now) (exps_of c.new.result.items) c.in-Zero.is (ap exps_of c.new.ensures.items)
