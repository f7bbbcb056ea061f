use Rattle.std.proofs.lemmas.Result.{IfOk-weaker}
use Rattle.project_upgrade.specs.Upgrades.{IsMade}
use Rattle.project_upgrade.proofs.upgrade.made_of_bound.Goals as goal

pub returns : goal.returns
returns c =
    IfOk-weaker c.made-upgraded.result _ (λ u. IsMade c.args.bound.now c.args.further.items u)
    (λ u made. record { found = c.in_ok-found.found; are_found = c.in_ok-found.ensures; made = made }) c.made-upgraded.ensures
