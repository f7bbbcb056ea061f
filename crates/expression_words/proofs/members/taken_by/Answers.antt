use Rattle.std.proofs.Common.{sym, ap, ◌∙◌}
use Rattle.expression_words.specs.Members.{last_type}
use Rattle.expression_words.specs.View.{declared_in}
use Rattle.expression_words.proofs.LastOnes.{last_one}
use Rattle.expression_words.proofs.members.taken_by.Goals as goal

pub returns-in_ok-type_of_variable-in-Some : goal.returns-in_ok-type_of_variable-in-Some
returns-in_ok-type_of_variable-in-Some c =
    c.in_ok-type_of_variable-in-Some.ensures
    ∙ sym (ap (last_type (declared_in c.args.context)) c.in-Some.ensures.cases.0 ∙ last_one (declared_in c.args.context) c.in-Some.field-0-1.now c.in-Some.v.now)
    ∙ ap (last_type (declared_in c.args.context)) c.params_of.ensures
