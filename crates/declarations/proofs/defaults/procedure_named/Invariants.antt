use Rattle.std.proofs.Common.{◌≡◌, drop, map}
use Rattle.bound_tree.specs.View.{procedure_of}
use Rattle.declarations.specs.Defaults.{procedure_named}
use Rattle.declarations.proofs.defaults.procedure_named.Given as goal

abbrev pub invariant-loop-p : goal.invariant-loop-p
invariant-loop-p l = procedure_named l.file l.name (map procedure_of (drop l.p-index l.procs)) ≡ procedure_named l.file l.name (map procedure_of l.procs)
