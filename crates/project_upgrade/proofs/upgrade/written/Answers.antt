use Rattle.std.proofs.lemmas.Result.{IfOk-weaker}
use Rattle.bound_tree.specs.View.{program_of}
use Rattle.broken_rules.specs.Marks.{all_marks}
use Rattle.broken_rules.specs.View.{passes_of}
use Rattle.net_tree.specs.View.{project_of}
use Rattle.written_rows.specs.View.{facts_of}
use Rattle.project_upgrade.specs.Upgrades.{IsWritten}
use Rattle.project_upgrade.proofs.upgrade.written.Goals as goal

pub returns : goal.returns
returns c =
    IfOk-weaker c.rewrite-tree.result _ (λ tree. IsWritten (program_of c.args.bound.now) (all_marks (passes_of c.args.bound.now c.args.found.now)) (project_of tree))
    (λ tree e. record { facts = facts_of c.in_ok-facts.facts; are_facts = c.in_ok-facts.ensures; exact = e }) c.rewrite-tree.ensures
