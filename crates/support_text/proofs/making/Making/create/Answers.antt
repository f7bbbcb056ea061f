use Rattle.std.specs.Prelude.{map}
use Rattle.net_tree.specs.View.{exp_of, exps_of}
use Rattle.support_text.specs.MadeView.{made}
use Rattle.support_text.proofs.Made.{object_made}
use Rattle.support_text.proofs.making.Making.create.Goals as goal

pub returns : goal.returns
returns c =
    object_made (map (λ n. n.now) c.args.class.now) c.in_ok-class.class c.args.count (made c.args.self.now) (made c.arguments.new.self) (made c.push.new.self)
    (exps_of c.in_ok-arguments.arguments.items) (exp_of c.new_object.result)
    c.in_ok-class.ensures c.in_ok-arguments.ensures c.new_object.ensures c.in_ok-push.ensures
