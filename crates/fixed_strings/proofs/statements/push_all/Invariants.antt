use Rattle.std.proofs.Common.{◌≡◌, ◌++◌, map, take}
use Rattle.vb_tree.specs.View.{line_of}
use Rattle.fixed_strings.proofs.statements.push_all.Given as goal

abbrev pub invariant-loop-line : goal.invariant-loop-line
invariant-loop-line l = map (λ x. line_of x.now) l.lines.items ≡ map (λ x. line_of x.now) l.initial.lines.items ++ map (λ x. line_of x.now) (take l.line-index l.more)
