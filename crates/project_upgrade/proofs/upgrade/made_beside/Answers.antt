use Rattle.std.proofs.lemmas.Result.{IfOk-weaker}
use Rattle.vb_tree.specs.View.{project_of}
use Rattle.project_upgrade.specs.Upgrades.{IsMadeBeside}
use Rattle.project_upgrade.proofs.upgrade.made_beside.Goals as goal

pub returns : goal.returns
returns c =
    IfOk-weaker c.made_of_bound-upgraded.result _ (λ u. IsMadeBeside (project_of c.args.project) c.args.further.items u)
    (λ u made. record { bound = c.in_ok-bound.bound; is_bound = c.in_ok-bound.ensures; made = made }) c.made_of_bound-upgraded.ensures
