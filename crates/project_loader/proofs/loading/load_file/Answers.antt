use Rattle.project_loader.specs.Steps.{TextFileFault}
use Rattle.project_loader.specs.Texts.{decoded}
use Rattle.project_loader.proofs.Loads.{file_stopped}
use Rattle.project_loader.proofs.Taking.{reading_stopped}
use Rattle.project_loader.proofs.loading.load_file.Goals as goal

pub returns-in_err-file-clause-fault : goal.returns-in_err-file-clause-fault
returns-in_err-file-clause-fault g c =
    let fault = rw c.as_slice.ensures at c.text_file.ensures.fault in
    file_stopped (g.F.Folder.held c.args.folder.now) c.args.name.now c.in_ok-bytes.bytes c.from_residual-in_err-file.result c.in_ok-bytes.ensures.bytes
    (reading_stopped (TextFileFault (decoded c.in_ok-bytes.bytes)) c.text_file.result c.from_residual-in_err-file.result
    c.in_err-file.field-0.0 c.in_err-file.was c.from_residual-in_err-file.ensures.1 fault)
