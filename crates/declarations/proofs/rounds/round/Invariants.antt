use Rattle.std.proofs.Common.{◌≡◌, false, drop, map}
use Rattle.reach_table.specs.Chains.{is_marked}
use Rattle.declared_names.specs.View.{constant_of as named_constant}
use Rattle.declarations.specs.Constants.{round}
use Rattle.declarations.specs.View.{filled_by, IsFixed}
use Rattle.declarations.proofs.rounds.round.Given as goal

abbrev pub invariant-loop-c : goal.invariant-loop-c
invariant-loop-c l = record {
  counted : l.k ≡ l.c-index;
  round :
      round (is_marked l.fixed.members.now) (filled_by l.fixed l.filled) l.k (map named_constant (drop l.c-index l.all))
      ≡ round (is_marked l.fixed.members.now) (filled_by l.fixed l.initial.filled) 0 (map named_constant l.all);
  same : l.changed ≡ false → filled_by l.fixed l.filled ≡ filled_by l.fixed l.initial.filled;
  fixed : IsFixed l.fixed l.filled;
}
