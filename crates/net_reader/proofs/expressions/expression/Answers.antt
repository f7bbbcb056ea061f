use Rattle.net_reader.proofs.expressions.expression.Goals as goal
use Rattle.net_reader.specs.LineReader.{exp_at}

pub returns-clause-answers : goal.returns-clause-answers
unfolding exp_at
returns-clause-answers c = c.read_expression.ensures.answers
