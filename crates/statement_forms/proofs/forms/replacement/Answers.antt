use Rattle.std.proofs.Common.{map}
use Rattle.form_parts.specs.Arguments.{argument_of, argument_depth}
use Rattle.form_parts.specs.Items.{deepest}
use Rattle.statement_forms.specs.LineForms.{IsReplacement}
use Rattle.statement_forms.proofs.Making.{kept_answers}
use Rattle.statement_forms.proofs.forms.replacement.Goals as goal

pub returns : goal.returns
returns c = kept_answers (map argument_of) (IsReplacement c.args.tokens.now) (deepest argument_depth) c.args.tokens.now c.replacement.result c.kept_if.result c.replacement.ensures c.kept_if.ensures
