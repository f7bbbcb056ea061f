use Rattle.std.proofs.Common.{ap, ◌∙◌}
use Rattle.bound_tree.specs.declared.rule_set.RuleSet.{RuleSet}
use Rattle.bound_tree.specs.RuleSets.{with_if}
use Rattle.bound_tree.specs.View.{declarations_of, procedure_of}
use Rattle.object_rules.specs.Properties.{breaks_shape}
use Rattle.object_rules.specs.Terminators.{is_terminator}
use Rattle.object_rules.proofs.Noting.{noted_is}
use Rattle.object_rules.proofs.heads.head_rules.Goals as goal

pub returns : goal.returns
returns c =
    let D = declarations_of c.args.declared.now in
    let p = procedure_of c.args.p.now in
    let shape = c.breaks_noted.ensures ∙ noted_is D c.args.noted.now p c.requires in
    let first = c.with_if.ensures ∙ ap (λ b. with_if c.new.result 7 b) shape ∙ ap (λ (s : RuleSet). with_if s 7 (breaks_shape D p)) c.new.ensures in
    c.with_if-2.ensures ∙ ap (λ b. with_if c.with_if.result 13 b) c.is_terminator.ensures ∙ ap (λ (s : RuleSet). with_if s 13 (is_terminator D p)) first
