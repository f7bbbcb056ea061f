use Rattle.vb_tree.specs.View.{module_of}
use Rattle.name_tables.specs.Homes.{home_in}
use Rattle.name_tables.specs.View.{shown_declarations}
use Rattle.name_tables.proofs.HomeLists.{filtered_step}
use Rattle.name_tables.proofs.homes.homes_among.Goals as goal

pub loop-module-preserved : goal.loop-module-preserved
loop-module-preserved c =
    filtered_step (home_in (shown_declarations c.args.d.now) c.args.key.now) module_of c.args.modules.now c.loop-module.module-index c.module-item.result _ _ c.home_in.result
    c.loop-module-test.true c.module-item.is c.loop-module.invariant c.home_in.ensures c.in_ok-push_home.ensures
