use Rattle.std.proofs.Common.{ap, false, ◌∙◌}
use Rattle.bound_tree.specs.declared.declared.Named.TheVariants as named
use Rattle.name_tables.specs.Homes.{foreign_at}
use Rattle.name_tables.specs.Scopes.{joined}
use Rattle.name_tables.specs.View.{shown_declarations}
use Rattle.name_tables.proofs.HomeLists.{only_step}
use Rattle.name_tables.proofs.foreign.only_foreign.Goals as goal

pub loop-home-preserved : goal.loop-home-preserved
loop-home-preserved c =
    only_step (foreign_at (shown_declarations c.args.d.now) c.args.kinds c.args.from) c.args.homes.now c.loop-home.home-index
    (record { file = 0; class = false; named = named.Var (record { 0 = 0 }); enum_member = false }) _ _ c.loop-home-test.true c.loop-home.invariant
    (c.joined-only.ensures ∙ ap (joined c.loop-home.only) c.foreign_at.ensures)
