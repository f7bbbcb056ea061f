use Rattle.std.proofs.Common.{◌≡◌, ◌++◌, map, drop}
use Rattle.expression_words.specs.View.{declared_in}
use Rattle.binder.specs.ImplicitLocals.{locals_from}
use Rattle.binder.specs.View.{home_of, locals_shown}
use Rattle.binder.proofs.locals.project_locals.Given as goal

abbrev pub invariant-loop-home : goal.invariant-loop-home
invariant-loop-home l =
    map locals_shown l.all.items ++ locals_from (declared_in l.survey.context) l.p l.next (map home_of (drop l.home-index l.homes))
    ≡ locals_from (declared_in l.survey.context) 0 l.first (map home_of l.homes)
