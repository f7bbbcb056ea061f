use Rattle.std.proofs.Common.{false, map, ap, ◌∙◌}
use Rattle.bound_tree.specs.View.{declarations_of}
use Rattle.net_tree.specs.Tree.{Module}
use Rattle.net_tree.specs.View.{member_of, module_of}
use Rattle.written_rows.specs.View.{facts_of}
use Rattle.support_modules.proofs.Whole.{whole_module}
use Rattle.support_modules.proofs.needed.support_module.Goals as goal

pub returns : goal.returns
returns c =
    ap {B = Module} (λ name. record { name = name; class = false; members = map member_of c.in_ok-members.members }) c.in_ok-from_valid.ensures
    ∙ whole_module (declarations_of c.args.declared.now) (facts_of c.args.facts.now) (map module_of c.args.modules.now) (map member_of c.in_ok-members.members) c.in_ok-members.ensures
