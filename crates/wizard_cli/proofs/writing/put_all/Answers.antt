use Rattle.std.proofs.Common.{arith}
use Rattle.up_base.specs.declared.Failed.{Failed}
use Rattle.wizard_cli.proofs.Puts.{put_more, call_more}
use Rattle.wizard_cli.proofs.writing.put_all.Goals as goal

pub loop-k-preserved : goal.loop-k-preserved
loop-k-preserved g c =
    record {
      whole = put_more Failed (g.O.Outlet.held c.args.outlet.now) (g.O.Outlet.held c.loop-k.outlet) (g.O.Outlet.held c.put_file.new.self) c.args.files.now c.loop-k.k c.index-files-k.result tt c.loop-k-test.true c.index-files-k.is c.loop-k.invariant.whole
          (rw c.as_slice.ensures at c.in-Ok.ensures.held);
      calls = call_more (g.O.Outlet.calls c.args.outlet.now) (g.O.Outlet.calls c.loop-k.outlet) (g.O.Outlet.calls c.put_file.new.self) c.loop-k.k c.loop-k.invariant.calls c.put_file.ensures.calls;
      faults = omega (arith, c.put_file.ensures.faults);
    }
