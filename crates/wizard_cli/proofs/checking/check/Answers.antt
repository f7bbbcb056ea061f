use Rattle.up_base.specs.Outside.{Rose}
use Rattle.project_loader.proofs.Taking.{rose_later}
use Rattle.wizard_cli.proofs.Translating.{check_stops, ends_comparing, failed_before}
use Rattle.wizard_cli.proofs.checking.check.Goals as goal

pub returns-in-Ok-clause-answer : goal.returns-in-Ok-clause-answer
returns-in-Ok-clause-answer g c =
    ends_comparing (g.F.Folder.held c.args.folder.now) (g.F.Folder.held c.files_to_write.new.folder) (g.F.Folder.calls c.args.folder.now) (g.F.Folder.calls c.files_to_write.new.folder) (g.F.Folder.calls c.compare.new.folder)
    c.args.file.now c.args.settings c.in-Ok.written c.compare.result c.files_to_write.ensures.held c.in-Ok.ensures.written c.compare.ensures.answer

pub returns-in-Ok-clause-failed : goal.returns-in-Ok-clause-failed
returns-in-Ok-clause-failed g c =
    failed_before (Rose (g.F.Folder.faults c.files_to_write.new.folder) (g.F.Folder.faults c.compare.new.folder)) (Rose (g.F.Folder.faults c.args.folder.now) (g.F.Folder.faults c.compare.new.folder)) ⊥ ⊥ c.compare.result
    (λ rose. rose_later _ _ _ c.files_to_write.ensures.faults rose) (λ x. x) c.compare.ensures.failed

pub returns-in-Err-clause-answer : goal.returns-in-Err-clause-answer
returns-in-Err-clause-answer g c =
    check_stops (g.F.Folder.held c.args.folder.now) (g.F.Folder.calls c.args.folder.now) (g.F.Folder.calls c.files_to_write.new.folder) c.args.file.now c.args.settings c.in-Err.answer c.in-Err.ensures.stops
