use Rattle.std.proofs.Common.{sym, arith}
use Rattle.bound_tree.specs.View.{declarations_of}
use Rattle.array_bounds.specs.FactsOf.{known_of}
use Rattle.array_bounds.proofs.Firsts.{asks_few}
use Rattle.array_bounds.proofs.misfits.asks_above.Goals as goal

pub returns-in-len1 : goal.returns-in-len1
returns-in-len1 c = sym (asks_few (declarations_of c.args.facts.now.declared.now) (known_of c.args.facts.now) c.args.args.now (omega (arith, c.in-len1.len_below)))
