use Rattle.reach_table.specs.Chains.{is_marked}
use Rattle.clean_procedures.proofs.Above.{flags_are}
use Rattle.clean_procedures.proofs.reaching.leading.Goals as goal

pub returns : goal.returns
returns c n =
    flags_are c.in_ok-nodes.nodes c.args.pairs.now c.args.list.now n (is_marked c.in_ok-leading_to.field-0.items n) c.in_ok-nodes.ensures (c.in_ok-leading_to.ensures n)
