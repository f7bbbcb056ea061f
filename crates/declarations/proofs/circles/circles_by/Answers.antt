use Rattle.std.proofs.Common.{rules}
use Rattle.declarations.proofs.Circling.{all_marked, one_more}
use Rattle.declarations.proofs.circles.circles_by.Goals as goal

pub loop-x-preserved : goal.loop-x-preserved
loop-x-preserved c =
    one_more c.args.types c.args.pairs.now c.args.vars.now c.loop-x.x-index c.x-item.result c.loop-x.all.items c.push.new.self.items c.in_ok-is_circle.field-0
    c.loop-x-test.true c.x-item.is (search rules) (search rules) c.loop-x.invariant

pub returns : goal.returns
returns c = all_marked c.args.types c.args.pairs.now c.args.vars.now c.loop-x.x-index c.loop-x.all.items c.loop-x-test.false c.loop-x.invariant
