use Rattle.std.proofs.Common.{◌≡◌, map, drop}
use Rattle.bound_tree.specs.View.{procedure_of}
use Rattle.bound_facts.specs.Members.{sub_from}
use Rattle.net_rewrite.specs.Starts.{special_name}
use Rattle.net_rewrite.proofs.starts.sub_in.Given as goal

abbrev pub invariant-loop-i : goal.invariant-loop-i
invariant-loop-i l = sub_from l.file (special_name l.special) 0 (map procedure_of l.procs) ≡ sub_from l.file (special_name l.special) l.i (map procedure_of (drop l.i l.procs))
