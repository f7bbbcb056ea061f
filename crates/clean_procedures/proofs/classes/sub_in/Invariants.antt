use Rattle.std.proofs.Common.{◌≡◌, map, drop}
use Rattle.bound_tree.specs.View.{procedure_of}
use Rattle.bound_facts.specs.Members.{sub_from}
use Rattle.clean_procedures.specs.Classes.{sub_name}
use Rattle.clean_procedures.proofs.classes.sub_in.Given as goal

abbrev pub invariant-loop-i : goal.invariant-loop-i
invariant-loop-i l = sub_from l.file (sub_name l.when) 0 (map procedure_of l.procs) ≡ sub_from l.file (sub_name l.when) l.i (map procedure_of (drop l.i l.procs))
