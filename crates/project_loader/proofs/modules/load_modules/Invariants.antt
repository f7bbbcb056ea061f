use Rattle.std.proofs.Common.{◌≡◌, ◌≤◌, ◌+◌, List, ◌++◌, length}
use Rattle.up_base.specs.Outside.{IfTold}
use Rattle.vb_tree.specs.declared.project.Entry.{Entry}
use Rattle.project_loader.specs.Steps.{HasTaken}
use Rattle.project_loader.proofs.modules.load_modules.Given as goal

abbrev pub invariant-loop-rest : goal.invariant-loop-rest
invariant-loop-rest g l =
    (done : List Entry) × (done ++ l.rest ≡ l.entries) × HasTaken (g.F.Folder.held l.initial.folder) l.before done l.list
    × IfTold (g.F.Folder.calls l.initial.folder) (g.F.Folder.calls l.folder) (λ b a. a ≡ b + length done)
    × (g.F.Folder.held l.folder ≡ g.F.Folder.held l.initial.folder)
    × (g.F.Folder.faults l.initial.folder ≤ g.F.Folder.faults l.folder)

abbrev pub decreases-loop-rest : goal.decreases-loop-rest
decreases-loop-rest g l = length l.rest
