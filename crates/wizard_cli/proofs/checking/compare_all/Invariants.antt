use Rattle.std.proofs.Common.{◌≡◌, ◌+◌, ◌≤◌, take}
use Rattle.std.specs.Prelude.{IfSome}
use Rattle.up_base.specs.Outside.{IfTold}
use Rattle.wizard_cli.specs.Headline.{HoldFiles}
use Rattle.wizard_cli.proofs.checking.compare_all.Given as goal

abbrev pub invariant-loop-place : goal.invariant-loop-place
invariant-loop-place g l =
    record {
      same : IfSome (g.F.Folder.held l.fn.folder) (HoldFiles (take l.place l.files));
      calls : IfTold (g.F.Folder.calls l.fn.folder) (g.F.Folder.calls l.folder) (λ b a. a ≡ b + l.place);
      held : g.F.Folder.held l.folder ≡ g.F.Folder.held l.fn.folder;
      faults : g.F.Folder.faults l.fn.folder ≤ g.F.Folder.faults l.folder;
    }
