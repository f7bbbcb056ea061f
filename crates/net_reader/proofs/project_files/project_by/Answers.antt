use Rattle.net_reader.proofs.Befores.{none_by, without_last}
use Rattle.net_reader.proofs.project_files.project_by.Goals as goal

pub returns-in-Some : goal.returns-in-Some
returns-in-Some c =
    without_last c.args.before.note c.args.main c.args.before.modules.items c.pop.new.self.items c.from_vec.result c.in-Some.support c.is_none.result c.note_before.result c.in-Some.ensures.items
    (none_by c.args.main c.is_none.result c.is_none.ensures) c.note_before.ensures c.from_vec.ensures
