use Rattle.phrase_laws.proofs.ReadBack.{nested_expression_reads}
use Rattle.phrase_laws.proofs.laws.nested_expressions_are_read.Goals as goal

pub returns : goal.returns
returns c = nested_expression_reads
