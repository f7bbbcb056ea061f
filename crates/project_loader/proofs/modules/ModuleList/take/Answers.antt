use Rattle.std.proofs.Common.{◌+◌, ◌∙◌, map, refl, ap}
use Rattle.std.proofs.lemmas.List.{map_push}
use Rattle.vb_tree.specs.View.{module_of}
use Rattle.project_loader.specs.Faults.{EntryFault}
use Rattle.project_loader.specs.Modules.{TextFault}
use Rattle.project_loader.specs.Texts.{decoded}
use Rattle.project_loader.proofs.Taking.{stop_passed, reading_stopped, text_stopped, takes_entry}
use Rattle.project_loader.proofs.modules.ModuleList.take.Goals as goal

pub returns-in_err-bytes-clause-fault : goal.returns-in_err-bytes-clause-fault
returns-in_err-bytes-clause-fault g c =
    let number = c.args.self.now.count + 1 in
    stop_passed (g.F.Folder.held c.args.folder.now)
    (λ files f. EntryFault files c.args.self.now.bytes number c.args.entry.now f)
    (λ files f. EntryFault files c.args.self.now.bytes number c.args.entry.now f)
    c.entry_bytes.result c.from_residual.result c.in_err-bytes.field-0.0 c.in_err-bytes.was c.from_residual.ensures.1 (λ files f e p. p) (c.entry_bytes.ensures.fault number)

pub returns-in_err-module-clause-fault : goal.returns-in_err-module-clause-fault
returns-in_err-module-clause-fault g c =
    let number = c.args.self.now.count + 1 in
    text_stopped (g.F.Folder.held c.args.folder.now) c.args.self.now.bytes number c.args.entry.now c.in_ok-bytes.bytes c.from_residual-in_err-module.result
    c.in_ok-bytes.ensures.within c.in_ok-bytes.ensures.bytes
    (reading_stopped (TextFault c.args.entry.now number (decoded c.in_ok-bytes.bytes)) c.entry_module.result c.from_residual-in_err-module.result
    c.in_err-module.field-0.0 c.in_err-module.was c.from_residual-in_err-module.ensures.1 c.entry_module.ensures.fault)

pub returns-clause-takes : goal.returns-clause-takes
returns-clause-takes g c =
    takes_entry (g.F.Folder.held c.args.folder.now) c.args.entry.now c.args.self.now _ (module_of c.in_ok-module.module) c.in_ok-bytes.bytes
    (ap (map module_of) c.in_ok-push.ensures.ok ∙ map_push module_of c.args.self.now.modules c.in_ok-module.module)
    refl (ap (λ n. c.args.self.now.bytes + n) c.len-length.ensures) c.in_ok-bytes.ensures.within c.in_ok-module.ensures.is c.in_ok-bytes.ensures.bytes
