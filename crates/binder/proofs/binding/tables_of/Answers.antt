use Rattle.std.proofs.Common.{subst}
use Rattle.bound_tree.specs.Tree.{Declarations}
use Rattle.binder.specs.View.{AreTablesOf}
use Rattle.binder.proofs.binding.tables_of.Goals as goal

pub returns : goal.returns
returns c = subst (λ (D : Declarations). AreTablesOf c.in_ok-tables_by.field-0 D) c.of-d.ensures c.in_ok-tables_by.ensures
