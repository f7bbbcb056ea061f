use Rattle.std.proofs.Common.{inl, inr, refl}
use Rattle.wizard_cli.specs.Runs.{asks_nothing, checks, lists, makes, upgrades, wants_memory}
use Rattle.wizard_cli.proofs.Generating.{nothing_fails}
use Rattle.wizard_cli.proofs.Translating.{failed_before}
use Rattle.wizard_cli.proofs.commands.answer.Goals as goal

pub returns-in-Ok-Upgrade-clause-answer : goal.returns-in-Ok-Upgrade-clause-answer
returns-in-Ok-Upgrade-clause-answer g c = upgrades c.in-Ok-Upgrade.file c.in-Ok-Upgrade.settings (rw c.in-Ok-Upgrade.field-0-is at c.in-Ok-Upgrade.ensures.asks) c.upgrade.ensures.answer

pub returns-in-Ok-Upgrade-clause-unwritten : goal.returns-in-Ok-Upgrade-clause-unwritten
returns-in-Ok-Upgrade-clause-unwritten g c = λ none. absurd (none c.in-Ok-Upgrade.file c.in-Ok-Upgrade.settings (rw c.in-Ok-Upgrade.field-0-is at c.in-Ok-Upgrade.ensures.asks))

pub returns-in-Ok-Upgrade-clause-unread : goal.returns-in-Ok-Upgrade-clause-unread
returns-in-Ok-Upgrade-clause-unread g c = λ none. absurd (none c.in-Ok-Upgrade.file c.in-Ok-Upgrade.settings (inl (rw c.in-Ok-Upgrade.field-0-is at c.in-Ok-Upgrade.ensures.asks)))

pub returns-in-Ok-Check-clause-answer : goal.returns-in-Ok-Check-clause-answer
returns-in-Ok-Check-clause-answer g c = checks c.in-Ok-Check.file c.in-Ok-Check.settings (rw c.in-Ok-Check.field-0-is at c.in-Ok-Check.ensures.asks) c.check.ensures.answer refl

pub returns-in-Ok-Check-clause-failed : goal.returns-in-Ok-Check-clause-failed
returns-in-Ok-Check-clause-failed g c = failed_before _ _ ⊥ _ c.check.result (λ x. x) (λ x. absurd x) c.check.ensures.failed

pub returns-in-Ok-Check-clause-unread : goal.returns-in-Ok-Check-clause-unread
returns-in-Ok-Check-clause-unread g c = λ none. absurd (none c.in-Ok-Check.file c.in-Ok-Check.settings (inr (rw c.in-Ok-Check.field-0-is at c.in-Ok-Check.ensures.asks)))

pub returns-in-Ok-Make-clause-answer : goal.returns-in-Ok-Make-clause-answer
returns-in-Ok-Make-clause-answer g c = makes c.in-Ok-Make.modules (rw c.in-Ok-Make.field-0-is at c.in-Ok-Make.ensures.asks) c.make.ensures refl refl

pub returns-in-Ok-Make-clause-failed : goal.returns-in-Ok-Make-clause-failed
returns-in-Ok-Make-clause-failed g c = nothing_fails _ _ c.in-Ok-Make.modules c.make.result c.make.ensures

pub returns-in-Ok-Rules-clause-answer : goal.returns-in-Ok-Rules-clause-answer
returns-in-Ok-Rules-clause-answer g c = lists (rw c.in-Ok-Rules.field-0-is at c.in-Ok-Rules.ensures.asks) refl refl refl

pub returns-in-Err-NoForm-clause-answer : goal.returns-in-Err-NoForm-clause-answer
returns-in-Err-NoForm-clause-answer g c = asks_nothing ((rw c.in-Err-NoForm.field-0-is at c.in-Err-NoForm.ensures.no_form) refl) refl refl refl

pub returns-in-Err-Mem-clause-answer : goal.returns-in-Err-Mem-clause-answer
returns-in-Err-Mem-clause-answer g c = wants_memory refl refl refl
