use Rattle.std.proofs.Common.{◌≡◌, ◌-◌, length, map}
use Rattle.reach_table.specs.Chains.{is_marked}
use Rattle.declared_names.specs.View.{constant_of as named_constant}
use Rattle.declarations.specs.Constants.{rounds}
use Rattle.declarations.specs.View.{filled_by, IsFixed}
use Rattle.declarations.proofs.rounds.rounds.Given as goal

abbrev pub invariant-loop-round : goal.invariant-loop-round
invariant-loop-round l = record {
  rounds :
      rounds (is_marked l.fixed.members.now) (length l.all - l._round) (map named_constant l.all) (filled_by l.fixed l.filled)
      ≡ rounds (is_marked l.fixed.members.now) (length l.all) (map named_constant l.all) (filled_by l.fixed l.initial.filled);
  fixed : IsFixed l.fixed l.filled;
}
