use Rattle.std.proofs.Common.{List, map, subst}
use Rattle.vb_tree.specs.declared.module.Module6.{Module6}
use Rattle.vb_tree.specs.View.{module_of}
use Rattle.name_tables.specs.Tables.{AreModules}
use Rattle.name_tables.proofs.tables.NameTables.make.Goals as goal

pub returns : goal.returns
returns c = record {
  scopes = c.in_ok-scopes.ensures;
  modules = subst (λ (ms : List Module6). AreModules c.in_ok-modules.modules (map module_of ms)) c.as_slice.ensures c.in_ok-modules.ensures;
  events = c.in_ok-events.ensures;
  homes = c.in_ok-homes.ensures;
}
