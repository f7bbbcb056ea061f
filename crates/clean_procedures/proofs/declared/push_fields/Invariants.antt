use Rattle.std.proofs.Common.{◌≡◌, ◌++◌, take}
use Rattle.clean_procedures.specs.Pairs.{field_pairs}
use Rattle.clean_procedures.proofs.declared.push_fields.Given as goal

abbrev pub invariant-loop-f : goal.invariant-loop-f
invariant-loop-f l = l.to.items ≡ l.initial.to.items ++ field_pairs l.k (take l.f-index l.fields)
