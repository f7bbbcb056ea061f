use Rattle.std.proofs.Common.{sym, ap, ◌∙◌}
use Rattle.expression_words.specs.Members.{without_last}
use Rattle.expression_words.proofs.LastOnes.{all_but_last}
use Rattle.expression_words.proofs.members.without_last.Goals as goal

pub returns-in-Some : goal.returns-in-Some
returns-in-Some c = sym (ap without_last c.in-Some.ensures.cases.0 ∙ all_but_last _ _)
