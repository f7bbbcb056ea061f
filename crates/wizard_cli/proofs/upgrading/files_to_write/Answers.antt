use Rattle.std.proofs.Common.{sym, subst}
use Rattle.up_base.specs.Outside.{Rose}
use Rattle.vb_tree.specs.View.{project_of}
use Rattle.project_loader.proofs.Taking.{rose_later}
use Rattle.wizard_cli.specs.Runs.{OnFault}
use Rattle.wizard_cli.specs.Settings.{given_of}
use Rattle.wizard_cli.specs.Steps.{StopsTranslating}
use Rattle.wizard_cli.proofs.Translating.{failed_later, stops_first, stops_later, to_write}
use Rattle.wizard_cli.proofs.upgrading.files_to_write.Goals as goal

pub returns-in-Ok-translate-clause-written : goal.returns-in-Ok-translate-clause-written
returns-in-Ok-translate-clause-written g c =
    to_write (g.F.Folder.held c.args.folder.now) (g.F.Folder.held c.settings_of.new.folder) (g.F.Folder.calls c.args.folder.now) (g.F.Folder.calls c.settings_of.new.folder) (g.F.Folder.calls c.load_project.new.folder) c.args.file.now c.args.settings (given_of c.in-Ok.settings)
    (project_of c.in-Ok-load_project.project) c.in-Ok-translate.written c.settings_of.ensures.held c.in-Ok.ensures.set c.in-Ok.ensures.reads c.in-Ok-load_project.ensures.held_project c.in-Ok-load_project.ensures.reads c.in-Ok-load_project.ensures.grammar
    c.in-Ok-translate.ensures

pub returns-in-Err-load_project-clause-stops : goal.returns-in-Err-load_project-clause-stops
returns-in-Err-load_project-clause-stops g c =
    subst (StopsTranslating (g.F.Folder.held c.args.folder.now) (g.F.Folder.calls c.args.folder.now) (g.F.Folder.calls c.load_project.new.folder) c.args.file.now c.args.settings) (sym c.answer_to.ensures)
    (stops_later (g.F.Folder.held c.args.folder.now) (g.F.Folder.held c.settings_of.new.folder) (g.F.Folder.calls c.args.folder.now) (g.F.Folder.calls c.settings_of.new.folder) (g.F.Folder.calls c.load_project.new.folder) c.args.file.now c.args.settings (given_of c.in-Ok.settings)
    c.in-Err-load_project.fail c.settings_of.ensures.held c.in-Ok.ensures.set c.in-Ok.ensures.reads c.in-Err-load_project.ensures.stops)

pub returns-in-Err-load_project-clause-failed : goal.returns-in-Err-load_project-clause-failed
returns-in-Err-load_project-clause-failed g c =
    subst (λ a. OnFault a (Rose (g.F.Folder.faults c.args.folder.now) (g.F.Folder.faults c.load_project.new.folder)) ⊥) (sym c.answer_to.ensures)
    (failed_later Rose ⊥ (g.F.Folder.faults c.args.folder.now) (g.F.Folder.faults c.settings_of.new.folder) (g.F.Folder.faults c.load_project.new.folder) c.in-Err-load_project.fail (λ rose. rose_later _ _ _ c.settings_of.ensures.faults rose) c.in-Err-load_project.ensures.failed)

pub returns-in-Err-clause-stops : goal.returns-in-Err-clause-stops
returns-in-Err-clause-stops g c = stops_first (g.F.Folder.held c.args.folder.now) (g.F.Folder.calls c.args.folder.now) (g.F.Folder.calls c.settings_of.new.folder) c.args.file.now c.args.settings c.in-Err.answer c.in-Err.ensures.stops
