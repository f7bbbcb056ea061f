use Rattle.std.proofs.Common.{◌∙◌, ap, map}
use Rattle.bound_tree.specs.Tree.{Declarations}
use Rattle.bound_tree.specs.View.{declarations_of}
use Rattle.binder.specs.ImplicitLocals.{homes}
use Rattle.binder.specs.Programs.{bodies_from}
use Rattle.binder.specs.View.{lines_shown, locals_shown}
use Rattle.binder.proofs.binding.bodies_between.Goals as goal

pub bodies_by-requires : goal.bodies_by-requires
bodies_by-requires c = record { tables = c.requires.tables; written = c.written_by-written.ensures.tables }

pub returns : goal.returns
returns c =
    c.in_ok-bodies_by.ensures
    ∙ ap (λ (D : Declarations). map lines_shown (bodies_from D (declarations_of c.args.declared.now) (map locals_shown c.args.locals.now) 0 (homes (declarations_of c.args.declared.now).project)))
    c.written_by-written.ensures.shown
