-- The issues of what is made of a project are its broken rules.
use Rattle.std.proofs.Common.{◌≡◌, List, subst}
use Rattle.up_base.specs.declared.issue.Issue.{Issue}
use Rattle.vb_tree.specs.Tree.{Project}
use Rattle.bound_tree.specs.View.{program_of}
use Rattle.broken_rules.specs.Broken.{AreBroken}
use Rattle.broken_rules.specs.Further.{further_issues}
use Rattle.broken_rules.specs.View.{passes_of}
use Rattle.project_upgrade.specs.declared.upgrade.Upgraded.{Upgraded}
use Rattle.project_upgrade.specs.Upgrades.{IsMadeBeside, IsUpgraded}

pub upgraded_beside : (P : Project) (further : List Issue) (u : Upgraded) → further ≡ further_issues P → IsMadeBeside P further u → IsUpgraded P u
upgraded_beside P further u same made = subst (λ (fs : List Issue). IsMadeBeside P fs u) same made

pub are_broken : (P : Project) (u : Upgraded) → IsUpgraded P u → AreBroken P u.issues
are_broken P u made =
    let bound = made.is_bound in
    let found = made.made.found in
    let are = made.made.are_found in
    record {
      program = program_of made.bound;
      passes = passes_of made.bound found;
      marks = record {
        declarations = bound.declarations;
        declared = bound.declared;
        program = bound.program;
        marked = record {
          bound = bound.marks;
          objects = are.objects;
          facts = are.facts;
          facts_are = are.facts_are;
          references = are.references;
          fixed = are.fixed;
          handlers = are.handlers;
          arrays = are.arrays;
        };
      };
      exact = made.made.made.issues;
    }
