-- What is made of a project is a translation of it.
use Rattle.std.proofs.Common.{ap}
use Rattle.vb_tree.specs.Tree.{Project}
use Rattle.bound_tree.specs.View.{program_of}
use Rattle.net_tree.specs.View.{project_of}
use Rattle.broken_rules.specs.View.{passes_of}
use Rattle.project_loader.specs.Held.{IsOfGrammar}
use Rattle.project_upgrade.specs.declared.upgrade.Upgraded.{Upgraded}
use Rattle.project_upgrade.specs.Files.{with_settings}
use Rattle.project_upgrade.specs.Upgrades.{IsUpgraded}
use Rattle.settings_file.specs.Settings.{Given}
use Rattle.upgrade_laws.specs.Upgrades.{Parts}
use Rattle.upgrade_laws.proofs.Making.{translation_parts}
use Rattle.placing_laws.proofs.Placing.{procedures_are_written}
use Rattle.run_laws.proofs.Composed.{same_lines, same_runs}
use Rattle.correspondence.proofs.Corresponding.{corresponds}
use Rattle.wizard_cli.specs.Headline.{IsTranslation}
use Rattle.wizard_cli.specs.Upgrading.{HasProcedures}

-- a project has the procedures that are counted
pub has_procedures : (P : Project) (made : Upgraded) → IsUpgraded P made → HasProcedures P made.procedures made.clean
has_procedures P made is =
    let bound = is.is_bound in
    let found = is.made.found in
    let are = is.made.are_found in
    record {
      program = program_of is.bound;
      passes = passes_of is.bound found;
      marks = record {
        declarations = bound.declarations;
        declared = bound.declared;
        program = bound.program;
        marked = record {
          bound = bound.marks;
          objects = are.objects;
          facts = are.facts;
          facts_are = are.facts_are;
          references = are.references;
          fixed = are.fixed;
          handlers = are.handlers;
          arrays = are.arrays;
        };
      };
      all = is.made.made.procedures;
      are_clean = is.made.made.clean;
    }

pub translates : (P : Project) (made : Upgraded) (given : Given) → IsOfGrammar P → IsUpgraded P made → IsTranslation P given made.issues (with_settings given.library given.note (project_of made.tree))
translates P made given grammar is =
    let p : Parts P made = translation_parts P made grammar is in
    record {
      broken = p.broken;
      upgrade = p.upgrade;
      program = p.program;
      marks = p.marks;
      written = ap (with_settings given.library given.note) p.tree;
      is_written = p.is_written.is_written;
      files_correspond = corresponds p.upgrade p.is_written (procedures_are_written p.upgrade p.is_written);
      same_lines = same_lines p.upgrade p.is_written;
      same_runs = same_runs p.upgrade p.is_written;
    }
