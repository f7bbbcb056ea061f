use Rattle.project_loader.proofs.Taking.{first_left, loaded_more}
use Rattle.project_loader.proofs.modules.load_modules.Goals as goal

pub loop-rest-preserved : goal.loop-rest-preserved
loop-rest-preserved g c =
    loaded_more _ (g.F.Folder.held c.loop-rest.folder) (g.F.Folder.held c.take.new.folder) _ (g.F.Folder.faults c.loop-rest.folder) (g.F.Folder.faults c.take.new.folder)
    _ (g.F.Folder.calls c.loop-rest.folder) (g.F.Folder.calls c.take.new.folder) c.args.before c.args.entries.now c.loop-rest.rest.now _ c.entry-item.result c.loop-rest.list c.take.new.self
    (first_left c.loop-rest.rest.now c.entry-item.result c.in-len1-up.len_at_least c.entry-item.is) c.loop-rest.invariant
    c.in_default-take.ensures.takes c.take.ensures.calls c.take.ensures.held c.take.ensures.faults
