use Rattle.row_laws.proofs.Stated as stated
use Rattle.row_laws.proofs.laws.question_is_answered.Goals as goal

pub returns : goal.returns
returns c = stated.question_is_answered
