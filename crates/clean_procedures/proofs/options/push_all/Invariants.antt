use Rattle.std.proofs.Common.{◌≡◌, ◌++◌, map, take}
use Rattle.vb_tree.specs.View.{line_of}
use Rattle.clean_procedures.specs.Options.{is_broken_line}
use Rattle.clean_procedures.proofs.options.push_all.Given as goal

abbrev pub invariant-loop-line : goal.invariant-loop-line
invariant-loop-line l = l.to.items ≡ l.initial.to.items ++ map is_broken_line (map (λ x. line_of x.now) (take l.line-index l.lines))
