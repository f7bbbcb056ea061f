use Rattle.std.proofs.Common.{◌∙◌}
use Rattle.name_tables.specs.Homes.{homes_of, is_public_name}
use Rattle.name_tables.specs.View.{shown_declarations}
use Rattle.name_tables.proofs.HomeLists.{any_end, homes_listed}
use Rattle.name_tables.proofs.homes.all_homes.Goals as goal

pub returns : goal.returns
returns c = λ key.
    homes_listed c.loop-e.all (shown_declarations c.args.d.now) key
    (c.loop-e.invariant key
    ∙ any_end (is_public_name key) c.args.d.now.names.now c.loop-e.e-index (homes_of (shown_declarations c.args.d.now) key) c.loop-e-test.false)
