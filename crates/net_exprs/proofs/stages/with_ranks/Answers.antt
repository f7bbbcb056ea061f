use Rattle.std.proofs.Common.{◌+◌, length, arith, sym, ◌∙◌}
use Rattle.std.proofs.lemmas.Bool.{leb-false}
use Rattle.net_tree.specs.Depth.{depth_type, most_nested}
use Rattle.net_tree.specs.View.{type_name_of}
use Rattle.net_exprs.proofs.Staging.{deep_misfit}
use Rattle.net_exprs.proofs.stages.with_ranks.Goals as goal

pub returns-then-not-has_room-clause-misfits : goal.returns-then-not-has_room-clause-misfits
returns-then-not-has_room-clause-misfits c =
    let more = leb-false (length c.args.ranks.now + depth_type (type_name_of c.args.ty)) most_nested (sym c.has_room.ensures ∙ c.if-not-has_room.true) in
    λ e. deep_misfit (type_name_of c.args.ty) c.args.ranks.now (omega (arith, more))
