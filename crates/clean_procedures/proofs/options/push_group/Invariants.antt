use Rattle.std.proofs.Common.{◌≡◌, ◌++◌, map, take}
use Rattle.vb_tree.specs.View.{line_of}
use Rattle.clean_procedures.specs.Options.{is_broken_line}
use Rattle.clean_procedures.proofs.options.push_group.Given as goal

abbrev pub invariant-loop-line : goal.invariant-loop-line
invariant-loop-line l = l.to.items ≡ l.initial.to.items ++ map is_broken_line (map line_of (take l.line-index l.group))
