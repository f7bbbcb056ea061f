use Rattle.std.proofs.Common.{◌≡◌, map, drop}
use Rattle.vb_tree.specs.View.{line_of}
use Rattle.declared_names.specs.Declaring.{locals_declare, with_declared}
use Rattle.declared_names.specs.View.{names_of}
use Rattle.declared_names.proofs.procedures.put_locals.Given as goal

abbrev pub invariant-loop-line : goal.invariant-loop-line
invariant-loop-line l =
    with_declared (locals_declare l.procedure l.next (map (λ x. line_of x.now) (drop l.line-index l.lines))) (names_of l.to)
    ≡ with_declared (locals_declare l.procedure l.statement (map (λ x. line_of x.now) l.lines)) (names_of l.initial.to)
