use Rattle.std.proofs.Common.{◌∙◌}
use Rattle.settings_file.proofs.Tables.{alone_by_keys}
use Rattle.settings_file.proofs.settings.has_settings_alone.Goals as goal

pub returns : goal.returns
returns c = c.are_settings.ensures ∙ alone_by_keys c.args.table.now.entries
