use Rattle.std.proofs.Common.{◌∙◌}
use Rattle.command_words.proofs.Found.{last_seen}
use Rattle.command_words.proofs.behind.ends_in_dashes.Goals as goal

pub returns-in-Some : goal.returns-in-Some
returns-in-Some c = c.eq.ensures ∙ last_seen c.args.texts.now _ c.in-Some.ensures.value
