use Rattle.std.proofs.Common.{◌≡◌, drop, map}
use Rattle.vb_tree.specs.View.{line_of}
use Rattle.bound_tree.specs.View.{procedure_of}
use Rattle.declarations.specs.Defaults.{default_in}
use Rattle.declarations.proofs.defaults.default_in.Given as goal

abbrev pub invariant-loop-line : goal.invariant-loop-line
invariant-loop-line l = default_in l.file (map procedure_of l.procs) (map (λ x. line_of x.now) (drop l.line-index l.lines)) ≡ default_in l.file (map procedure_of l.procs) (map (λ x. line_of x.now) l.lines)
