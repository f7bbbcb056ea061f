use Rattle.std.proofs.Common.{◌≡◌, ◌≤◌, true, drop, length}
use Rattle.std.specs.List.{list_all}
use Rattle.vb_tree.specs.Tokens.{is_blank}
use Rattle.vb_lexer.proofs.physical.solid_units.Given as goal

abbrev pub invariant-blanks : goal.invariant-blanks
invariant-blanks l = record {
  within : l.n ≤ length l.line;
  blank : list_all is_blank (drop l.n l.line) ≡ true;
}

abbrev pub decreases-blanks : goal.decreases-blanks
decreases-blanks l = l.n
