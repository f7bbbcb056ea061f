use Rattle.std.proofs.Common.{◌≡◌, ◌+◌, ◌≤◌, take}
use Rattle.up_base.specs.Outside.{IfTold}
use Rattle.wizard_cli.specs.Headline.{PutAll}
use Rattle.wizard_cli.proofs.writing.put_all.Given as goal

abbrev pub invariant-loop-k : goal.invariant-loop-k
invariant-loop-k g l =
    record {
      whole : IfTold (g.O.Outlet.held l.fn.outlet) (g.O.Outlet.held l.outlet) (PutAll (take l.k l.files));
      calls : IfTold (g.O.Outlet.calls l.fn.outlet) (g.O.Outlet.calls l.outlet) (λ b a. a ≡ b + l.k);
      faults : g.O.Outlet.faults l.fn.outlet ≤ g.O.Outlet.faults l.outlet;
    }
