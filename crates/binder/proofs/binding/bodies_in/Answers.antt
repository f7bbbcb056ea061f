use Rattle.std.proofs.Common.{◌∙◌, map}
use Rattle.name_tables.specs.View.{shown_declarations}
use Rattle.expression_words.specs.View.{declared_in}
use Rattle.binder.specs.View.{body_shown}
use Rattle.binder.proofs.BoundPrograms.{bodies_more}
use Rattle.binder.proofs.binding.bodies_in.Goals as goal

pub loop-home-preserved : goal.loop-home-preserved
loop-home-preserved c =
    bodies_more (shown_declarations c.args.whole.written.declared) (declared_in c.args.whole.context) c.args.locals.now c.loop-home.p c.in_ok-p.p c.args.homes.now
    c.loop-home.home-index c.home-item.result c.get.result (map body_shown c.loop-home.all) (map body_shown c.push_body.new.to)
    c.loop-home-test.true c.home-item.is c.in_ok-push_body.ensures c.get.ensures.lookup c.in_ok-p.ensures
    ∙ c.loop-home.invariant
