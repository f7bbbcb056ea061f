use Rattle.std.proofs.Common.{◌≡◌, ◌++◌, map, drop}
use Rattle.name_tables.specs.View.{shown_declarations}
use Rattle.expression_words.specs.View.{declared_in}
use Rattle.binder.specs.Programs.{bodies_from}
use Rattle.binder.specs.View.{body_shown, home_of, lines_shown, locals_shown}
use Rattle.binder.proofs.binding.bodies_in.Given as goal

abbrev pub invariant-loop-home : goal.invariant-loop-home
invariant-loop-home l =
    map body_shown l.all ++ map lines_shown (bodies_from (shown_declarations l.whole.written.declared) (declared_in l.whole.context) (map locals_shown l.locals) l.p (map home_of (drop l.home-index l.homes)))
    ≡ map lines_shown (bodies_from (shown_declarations l.whole.written.declared) (declared_in l.whole.context) (map locals_shown l.locals) 0 (map home_of l.homes))
