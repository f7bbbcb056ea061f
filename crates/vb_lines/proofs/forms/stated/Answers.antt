use Rattle.vb_lines.proofs.Meanings.{states_answer}
use Rattle.vb_lines.proofs.forms.stated.Goals as goal

pub returns : goal.returns
returns c = states_answer c.args.tokens.now c.read_statement.result c.boxed_pieces.result c.read_statement.ensures c.boxed_pieces.ensures
