use Rattle.std.proofs.Common.{refl}
use Rattle.wizard_cli.specs.Runs.{Told}
use Rattle.wizard_cli.proofs.Translating.{failed_before, upgrade_stops}
use Rattle.wizard_cli.proofs.Upgrades.{ends_writing}
use Rattle.wizard_cli.proofs.upgrading.upgrade.Goals as goal

pub returns-in-Ok-clause-answer : goal.returns-in-Ok-clause-answer
returns-in-Ok-clause-answer g c =
    let told : Told = record { held = g.F.Folder.held c.args.folder.now; reads_before = g.F.Folder.calls c.args.folder.now; reads_after = g.F.Folder.calls c.files_to_write.new.folder; outlet_before = g.O.Outlet.held c.args.outlet.now; outlet_after = g.O.Outlet.held c.put_files.new.outlet; puts_before = g.O.Outlet.calls c.args.outlet.now; puts_after = g.O.Outlet.calls c.put_files.new.outlet } in
    ends_writing told _ c.args.file.now c.args.settings c.in-Ok.written c.put_files.result c.in-Ok.ensures.written c.put_files.ensures.answer

pub returns-in-Ok-clause-failed : goal.returns-in-Ok-clause-failed
returns-in-Ok-clause-failed g c = failed_before ⊥ _ _ _ c.put_files.result (λ x. absurd x) (λ x. x) c.put_files.ensures.failed

pub returns-in-Err-clause-answer : goal.returns-in-Err-clause-answer
returns-in-Err-clause-answer g c =
    let told : Told = record { held = g.F.Folder.held c.args.folder.now; reads_before = g.F.Folder.calls c.args.folder.now; reads_after = g.F.Folder.calls c.files_to_write.new.folder; outlet_before = g.O.Outlet.held c.args.outlet.now; outlet_after = g.O.Outlet.held c.args.outlet.now; puts_before = g.O.Outlet.calls c.args.outlet.now; puts_after = g.O.Outlet.calls c.args.outlet.now } in
    upgrade_stops told _ c.args.file.now c.args.settings c.in-Err.answer refl c.in-Err.ensures.stops

pub returns-in-Err-clause-failed : goal.returns-in-Err-clause-failed
returns-in-Err-clause-failed g c = failed_before _ _ ⊥ _ c.in-Err.answer (λ x. x) (λ x. absurd x) c.in-Err.ensures.failed
