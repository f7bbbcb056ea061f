use Rattle.std.proofs.Common.{◌≡◌, ◌++◌, map, take}
use Rattle.bound_facts.specs.Clean.{variable}
use Rattle.clean_procedures.specs.Numbers.{number}
use Rattle.clean_procedures.proofs.broken.push_variables.Given as goal

abbrev pub invariant-loop-n : goal.invariant-loop-n
invariant-loop-n l = l.to.items ≡ l.initial.to.items ++ map number (map variable (take l.n-index l.list))
