use Rattle.std.proofs.Common.{ap, arith, length}
use Rattle.wizard_cli.proofs.Listing.{one_more_rule, rules_room}
use Rattle.wizard_cli.proofs.answer.push_rules.Goals as goal

pub push-requires : goal.push-requires
push-requires c =
    let room = rules_room c.loop-k.k c.loop-k-test.true in
    let same = ap length c.loop-k.invariant in omega (arith, room, same)

pub loop-k-preserved : goal.loop-k-preserved
loop-k-preserved c =
    one_more_rule c.loop-k.k c.loop-k.message c.push.new.self c.push_rule-in-loop-k.new.message c.loop-k.invariant c.push.ensures c.push_rule-in-loop-k.ensures.rule
