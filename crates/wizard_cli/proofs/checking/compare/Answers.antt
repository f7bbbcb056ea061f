use Rattle.wizard_cli.proofs.Compares.{differs_at, stopped_at}
use Rattle.wizard_cli.proofs.checking.compare.Goals as goal

pub returns-in-Differs-clause-answer : goal.returns-in-Differs-clause-answer
returns-in-Differs-clause-answer g c =
    differs_at (g.F.Folder.held c.args.folder.now) (g.F.Folder.calls c.args.folder.now) (g.F.Folder.calls c.compare_all.new.folder) c.args.written.files.items c.as_slice.result.now c.in-Err.field-0.place c.swap_remove-name.result
    c.as_slice.ensures.value c.in-Err.ensures.place c.swap_remove-name.ensures.value c.in-Err.ensures.comes (c.in-Err.ensures.unlike (cc (c.in-Err.why-is, c.in-Differs.is)))

pub returns-in-Failed-clause-answer : goal.returns-in-Failed-clause-answer
returns-in-Failed-clause-answer g c =
    stopped_at (g.F.Folder.held c.args.folder.now) (g.F.Folder.calls c.args.folder.now) (g.F.Folder.calls c.compare_all.new.folder) c.args.written.files.items c.as_slice.result.now c.in-Err.field-0.place c.swap_remove-name.result
    c.as_slice.ensures.value c.in-Err.ensures.place c.swap_remove-name.ensures.value c.in-Err.ensures.comes
