use Rattle.std.proofs.Common.{◌≡◌, ◌+◌, ◌≤◌, drop, length}
use Rattle.std.specs.Prelude.{filter}
use Rattle.expression_words.specs.Operators.{is_other}
use Rattle.expression_words.proofs.operators.count_others.Given as goal

abbrev pub invariant-loop-unit : goal.invariant-loop-unit
invariant-loop-unit l = record {
  bounded : l.count ≤ l.unit-index;
  counted : l.count + length (filter is_other (drop l.unit-index l.units)) ≡ length (filter is_other l.units);
}
