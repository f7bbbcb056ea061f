use Rattle.std.proofs.Common.{◌≡◌, ◌++◌, map, drop}
use Rattle.bound_tree.specs.View.{constant_of}
use Rattle.clean_procedures.specs.Broken.{is_constant_among, those_from}
use Rattle.clean_procedures.proofs.broken.constants_among.Given as goal

abbrev pub invariant-loop-i : goal.invariant-loop-i
invariant-loop-i l = l.all.items ++ those_from (is_constant_among l.set.keys) l.i (map constant_of (drop l.i l.consts)) ≡ those_from (is_constant_among l.set.keys) 0 (map constant_of l.consts)
