-- What the reader's answer says of the files.
use Rattle.std.proofs.Common.{◌≡◌, ℕ, List, Ok, Err, Result}
use Rattle.std.specs.Prelude.{IfOk}
use Rattle.net_tree.specs.Text.{NetText, files_of}
use Rattle.net_tree.specs.Tree.{Project}
use Rattle.net_tree.specs.View.{project_of}
use Rattle.net_tree.specs.declared.project.NetProject.{NetProject}
use Rattle.net_reader.specs.ProjectReader.{project_in}
use Rattle.net_reader.specs.Places.{IsReadable}
use Rattle.net_reader.specs.Reads.{FaultIs, Gives, IsNoRefusal, IsPlaceOf, NotRefused, TellsPlace}
use Rattle.net_reader.specs.declared.fail.NetReadFail.{NetReadFail}
use Rattle.net_reader.specs.declared.fail.NetReadFail.TheVariants as fail
use Rattle.net_reader.proofs.FileFaults.{file_faults, files_stand}
use Rattle.net_reader.proofs.ModulesRead.{module_reads}
use Rattle.net_reader.proofs.ModulesStand.{module_faults, modules_stand}
use Rattle.net_reader.proofs.OneFault.{faulty_files_stand_for_none}

abbrev File : Type 0
File = List ℕ × List ℕ

pub stands : (files : List File) (answer : Result NetProject NetReadFail) → Gives (project_in files) answer → IfOk answer (λ N. NetText (project_of N) files)
stands files (Ok N) h = (files_stand module_reads (module_faults module_reads) modules_stand (project_of N) files h).1
stands files (Err e) h = tt

pub is_readable : (files : List File) (answer : Result NetProject NetReadFail) → Gives (project_in files) answer → IfOk answer (λ N. IsReadable (project_of N))
is_readable files (Ok N) h = (files_stand module_reads (module_faults module_reads) modules_stand (project_of N) files h).0
is_readable files (Err e) h = tt

is_place : (files : List File) (e : NetReadFail) → FaultIs (project_in files) e → IsPlaceOf files e
is_place files (fail.NotNet place) h = file_faults module_reads (module_faults module_reads) modules_stand files place.file place.line h
is_place files fail.Mem h = tt

pub tells_place : (files : List File) (answer : Result NetProject NetReadFail) → Gives (project_in files) answer → TellsPlace files answer
tells_place files (Ok N) h = tt
tells_place files (Err e) h = is_place files e h

no_refusal : (files : List File) (e : NetReadFail) → IsPlaceOf files e → (N : Project) → IsReadable N → files_of N ≡ files → IsNoRefusal e
no_refusal files (fail.NotNet place) h N is same = faulty_files_stand_for_none files place.file place.line h N is same
no_refusal files fail.Mem h N is same = tt

pub not_refused : (files : List File) (answer : Result NetProject NetReadFail) → TellsPlace files answer → (N : Project) → IsReadable N → files_of N ≡ files → NotRefused answer
not_refused files (Ok N) h M is same = tt
not_refused files (Err e) h M is same = no_refusal files e h M is same
