use Rattle.std.proofs.Common.{arith, ◌∙◌}
use Rattle.project_loader.proofs.Taking.{rose_later}
use Rattle.wizard_cli.proofs.Compares.{hold_more, unlike_at}
use Rattle.wizard_cli.proofs.Puts.{call_more}
use Rattle.wizard_cli.proofs.checking.compare_all.Goals as goal

pub loop-place-preserved : goal.loop-place-preserved
loop-place-preserved g c =
    record {
      same = hold_more (g.F.Folder.held c.args.folder.now) (g.F.Folder.held c.loop-place.folder) c.args.files.now c.loop-place.place c.index-files-place.result c.loop-place.invariant.held c.loop-place-test.true c.index-files-place.is
          c.loop-place.invariant.same (rw c.as_slice.ensures at c.in-Ok.ensures.same);
      calls = call_more (g.F.Folder.calls c.args.folder.now) (g.F.Folder.calls c.loop-place.folder) (g.F.Folder.calls c.compare_file.new.folder) c.loop-place.place c.loop-place.invariant.calls c.compare_file.ensures.calls;
      held = c.compare_file.ensures.held ∙ c.loop-place.invariant.held;
      faults = omega (arith, c.compare_file.ensures.faults);
    }

pub returns-in-Err-clause-comes : goal.returns-in-Err-clause-comes
returns-in-Err-clause-comes g c =
    record {
      same = c.loop-place.invariant.same;
      calls = call_more (g.F.Folder.calls c.args.folder.now) (g.F.Folder.calls c.loop-place.folder) (g.F.Folder.calls c.compare_file.new.folder) c.loop-place.place c.loop-place.invariant.calls c.compare_file.ensures.calls;
    }

pub returns-in-Err-clause-unlike : goal.returns-in-Err-clause-unlike
returns-in-Err-clause-unlike g c =
    λ e. unlike_at (g.F.Folder.held c.args.folder.now) (g.F.Folder.held c.loop-place.folder) c.args.files.now c.loop-place.place c.index-files-place.result c.loop-place.invariant.held c.loop-place-test.true c.index-files-place.is
    (rw c.as_slice.ensures at (c.in-Err.ensures.unlike e))

pub returns-in-Err-clause-failed : goal.returns-in-Err-clause-failed
returns-in-Err-clause-failed g c = λ e. rose_later _ _ _ c.loop-place.invariant.faults (c.in-Err.ensures.failed e)

pub returns-in-Err-clause-held : goal.returns-in-Err-clause-held
returns-in-Err-clause-held g c = c.compare_file.ensures.held ∙ c.loop-place.invariant.held

pub returns-in-Err-clause-faults : goal.returns-in-Err-clause-faults
returns-in-Err-clause-faults g c = let more = c.compare_file.ensures.faults in let before = c.loop-place.invariant.faults in omega (arith, more, before)
