use Rattle.net_reader.proofs.Befores.{one_more}
use Rattle.net_reader.proofs.project_files.behind_module.Goals as goal

pub returns : goal.returns
returns c = one_more c.args.before.note c.args.source.note c.args.before.modules.items c.push.new.self.items c.args.source.tree c.in_ok-push.ensures.items
