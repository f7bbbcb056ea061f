use Rattle.std.proofs.Common.{◌≡◌, ◌-◌, map, length, sym, ◌∙◌, rules}
use Rattle.reach_table.specs.Chains.{is_marked}
use Rattle.declared_names.specs.View.{constant_of as named_constant}
use Rattle.declarations.specs.View.{filled_by}
use Rattle.declarations.proofs.Turns.{rounds_end}
use Rattle.declarations.proofs.rounds.rounds.Goals as goal

pub returns-then-not-branch-clause-rounds : goal.returns-then-not-branch-clause-rounds
returns-then-not-branch-clause-rounds c =
    let x = c.args.fixed.now in
    let D = filled_by x c.loop-round.filled in
    let same : filled_by x c.round.new.filled ≡ D = c.in_ok-round.ensures.same (search rules) in
    same
    ∙ sym (rounds_end (is_marked x.members.now) (map named_constant c.args.all.now) (length c.args.all.now - c.loop-round._round) D (sym c.in_ok-round.ensures.round ∙ same))
    ∙ c.loop-round.invariant.rounds
