use Rattle.std.proofs.Common.{map}
use Rattle.vb_tree.specs.View.{exp_of}
use Rattle.vb_tree.specs.Expressions.{depth_of}
use Rattle.form_parts.specs.Arguments.{argument_of, argument_depth}
use Rattle.form_parts.specs.Chains.{IsCallee}
use Rattle.form_parts.specs.Items.{deepest}
use Rattle.statement_forms.specs.LineForms.{AreArguments}
use Rattle.statement_forms.proofs.Sharing.{both_known, invocation_answers}
use Rattle.statement_forms.proofs.parts.invocation.Goals as goal

pub returns : goal.returns
returns c =
    let name = c.split_at.result.0.now in
    let rest = c.split_at.result.1.now in
    invocation_answers c.args.tokens.now name rest c.callee_length.result c.callee_length.ensures c.split_at.ensures.front c.split_at.ensures.back c.both.result (both_known exp_of (map argument_of) (IsCallee name) (AreArguments rest) depth_of (deepest argument_depth) c.callee.result c.arguments.result c.both.result c.callee.ensures c.arguments.ensures c.both.ensures)
