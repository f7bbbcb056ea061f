use Rattle.std.proofs.Common.{subst, sym}
use Rattle.bound_tree.specs.Tree.{Declarations}
use Rattle.binder.specs.View.{AreTablesOf, IsFound}
use Rattle.binder.proofs.binding.plan_with.Goals as goal

pub find_locals-requires : goal.find_locals-requires
find_locals-requires c = subst (λ (D : Declarations). AreTablesOf c.args.tables D) (sym c.of-d.ensures) c.requires

pub returns-in-Ok : goal.returns-in-Ok
returns-in-Ok c = record {
  tables = c.requires;
  found = subst (λ (D : Declarations). IsFound c.in-Ok.found D) c.of-d.ensures c.in-Ok.ensures;
}
