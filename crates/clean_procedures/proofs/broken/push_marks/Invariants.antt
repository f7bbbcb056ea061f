use Rattle.std.proofs.Common.{◌≡◌, ◌++◌, map, take}
use Rattle.clean_procedures.specs.Broken.{mark_points}
use Rattle.clean_procedures.specs.Numbers.{number}
use Rattle.clean_procedures.specs.Verdicts.{shown_marks}
use Rattle.clean_procedures.proofs.broken.push_marks.Given as goal

abbrev pub invariant-loop-one : goal.invariant-loop-one
invariant-loop-one l = l.to.items ≡ l.initial.to.items ++ map number (mark_points (map shown_marks (take l.one-index l.marks)))
