use Rattle.base_tests.proofs.reach.symmetric_table.Goals as goal

pub returns : goal.returns
returns g c a b h = (c.in_ok-table.ensures.pairs (b, a)).1 (c.assert_symmetric.ensures a b ((c.in_ok-table.ensures.pairs (a, b)).0 h))
