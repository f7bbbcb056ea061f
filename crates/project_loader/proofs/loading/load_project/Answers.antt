use Rattle.project_loader.specs.Loading.{StopsLoading}
use Rattle.project_loader.specs.Steps.{StopsAtEntry}
use Rattle.project_loader.proofs.Loads.{stops_first, stops_later}
use Rattle.project_loader.proofs.Taking.{err_passed}
use Rattle.project_loader.proofs.loading.load_project.Goals as goal

pub returns-in-Err-clause-stops : goal.returns-in-Err-clause-stops
returns-in-Err-clause-stops g c =
    stops_first (g.F.Folder.held c.args.folder.now) (g.F.Folder.calls c.args.folder.now) (g.F.Folder.calls c.load_file.new.folder) c.args.name.now c.in-Err.stop c.fail_of.result
    c.load_file.ensures.calls c.in-Err.ensures.fault c.fail_of.ensures

pub returns-in_err-modules-clause-stops : goal.returns-in_err-modules-clause-stops
returns-in_err-modules-clause-stops g c =
    let held = g.F.Folder.held c.args.folder.now in
    let before = g.F.Folder.calls c.args.folder.now in
    let between = g.F.Folder.calls c.load_file.new.folder in
    let after = g.F.Folder.calls c.load_modules.new.folder in
    let stops = rw (c.as_slice.ensures, c.load_file.ensures.held) at c.load_modules.ensures.stops in
    err_passed (StopsAtEntry held between after c.args.name.now c.in-Ok.loaded.bytes c.in-Ok.loaded.file.entries) (StopsLoading held before after c.args.name.now)
    c.load_modules.result c.from_residual.result c.in_err-modules.field-0.0 c.in_err-modules.was c.from_residual.ensures.1
    (λ fail h. stops_later held before between after c.args.name.now c.in-Ok.loaded.file c.in-Ok.loaded.bytes fail c.load_file.ensures.calls c.in-Ok.ensures.held_file h)
    stops
