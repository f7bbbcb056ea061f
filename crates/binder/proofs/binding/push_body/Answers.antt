use Rattle.name_tables.specs.View.{shown_declarations}
use Rattle.expression_words.specs.View.{declared_in}
use Rattle.binder.specs.View.{home_of}
use Rattle.binder.proofs.BoundPrograms.{body_put}
use Rattle.binder.proofs.binding.push_body.Goals as goal

pub returns-in_ok-push-in-Some : goal.returns-in_ok-push-in-Some
returns-in_ok-push-in-Some c =
    body_put (shown_declarations c.args.whole.written.declared) (declared_in c.args.whole.context) c.args.p (home_of c.args.home.now) c.args.locals c.in-Some.locals c.deref.result.now
    c.args.to.now c.push.new.self (record { procedure = c.args.p; lines = c.in_ok-lines-in-Some.lines })
    c.in-Some.is c.deref.ensures.value c.in_ok-lines-in-Some.ensures c.in_ok-push-in-Some.ensures.ok
