use Rattle.std.proofs.Common.{◌≡◌, ◌++◌, drop}
use Rattle.declarations.specs.Constants.{member_numbers}
use Rattle.declarations.proofs.constants.member_numbers.Given as goal

abbrev pub invariant-loop-e : goal.invariant-loop-e
invariant-loop-e l = l.all.items ++ member_numbers (drop l.e-index l.enums) ≡ member_numbers l.enums
