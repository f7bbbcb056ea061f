use Rattle.std.proofs.Common.{◌≡◌, ℕ, length, take, nat_lt}
use Rattle.std.specs.Prelude.{◌&&◌}
use Rattle.reach_table.specs.Chains.{is_marked}
use Rattle.bound_facts.specs.Leading.{is_in}
use Rattle.bound_facts.proofs.numbers.marks_of.Given as goal

abbrev pub invariant-loop-n : goal.invariant-loop-n
invariant-loop-n l = record {
  len : length l.marks.items ≡ l.nodes;
  marks : (m : ℕ) → is_marked l.marks.items m ≡ (nat_lt m l.nodes && is_in (take l.n-index l.list) m);
}
