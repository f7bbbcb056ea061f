use Rattle.std.proofs.Common.{◌∙◌}
use Rattle.net_reader.proofs.Befores.{last_is}
use Rattle.net_reader.proofs.project_files.is_last_support.Goals as goal

pub returns-in-len1-up : goal.returns-in-len1-up
returns-in-len1-up c = c.is_support.ensures ∙ last_is c.args.modules.now c.last-item.result c.in-len1-up.len_at_least c.last-item.is
