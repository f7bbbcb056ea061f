use Rattle.std.proofs.Common.{refl}
use Rattle.project_file.proofs.Saying.{takes_blank, takes_other, takes_not_carried, adds_not_carried}
use Rattle.project_file.proofs.reading.ProjectReading.take_form.Goals as goal

pub returns-in-Blank-clause-ok : goal.returns-in-Blank-clause-ok
returns-in-Blank-clause-ok c = rw c.in-Blank.is (takes_blank c.args.number c.args.self.now)

pub returns-in-Other-clause-ok : goal.returns-in-Other-clause-ok
returns-in-Other-clause-ok c = rw c.in-Other.is (takes_other c.args.number c.args.self.now)

pub returns-in_ok-push-in-NotCarried-clause-ok : goal.returns-in_ok-push-in-NotCarried-clause-ok
returns-in_ok-push-in-NotCarried-clause-ok c = rw c.in-NotCarried.is (takes_not_carried c.args.number c.args.self.now _ (adds_not_carried c.args.number c.args.self.now _ refl refl refl c.in_ok-push-in-NotCarried.ensures.ok refl refl refl))
