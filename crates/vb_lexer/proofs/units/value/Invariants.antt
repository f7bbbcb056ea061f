use Rattle.std.proofs.Common.{◌≡◌, ◌≤◌, drop}
use Rattle.vb_tree.specs.Tokens.{value_from}
use Rattle.vb_lexer.proofs.units.value.Given as goal

abbrev pub invariant-loop-c : goal.invariant-loop-c
invariant-loop-c l = (value_from l.base l.n (drop l.c-index l.digits) ≡ value_from l.base 0 l.digits) × (l.n ≤ l.most)
