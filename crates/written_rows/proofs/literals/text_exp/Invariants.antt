-- What is joined so far, with what is left behind it.
use Rattle.std.proofs.Common.{◌≡◌, [], length}
use Rattle.net_tree.specs.View.{exp_of}
use Rattle.written_trees.specs.Literals.{pieces_of, joined, text_exp}
use Rattle.written_rows.proofs.literals.text_exp.Given as goal

abbrev pub invariant-loop-rest : goal.invariant-loop-rest
invariant-loop-rest l = record {
  begins : (pieces_of l.rest).first ≡ [];
  together : joined (exp_of l.so_far) (pieces_of l.rest).more ≡ text_exp l.units;
}

abbrev pub decreases-loop-rest : goal.decreases-loop-rest
decreases-loop-rest l = length l.rest
