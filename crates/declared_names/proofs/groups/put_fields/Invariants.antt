use Rattle.std.proofs.Common.{◌≡◌, map, drop}
use Rattle.vb_tree.specs.View.{line_of}
use Rattle.declared_names.specs.Declaring.{fields_declare, with_declared}
use Rattle.declared_names.specs.View.{names_of}
use Rattle.declared_names.proofs.groups.put_fields.Given as goal

abbrev pub invariant-loop-line : goal.invariant-loop-line
invariant-loop-line l =
    with_declared (fields_declare l.owner l.next (map line_of (drop l.line-index l.lines))) (names_of l.to)
    ≡ with_declared (fields_declare l.owner l.statement (map line_of l.lines)) (names_of l.initial.to)
