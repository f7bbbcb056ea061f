use Rattle.std.proofs.Common.{List, ap, subst, ◌∙◌}
use Rattle.up_base.specs.declared.issue.Issue.{Issue}
use Rattle.vb_tree.specs.View.{project_of}
use Rattle.bound_tree.specs.View.{program_of}
use Rattle.issue_sets.specs.Marked.{AreIssues}
use Rattle.broken_rules.specs.Marks.{all_marks}
use Rattle.broken_rules.specs.View.{passes_of}
use Rattle.broken_rules.proofs.passes.broken_rules.Goals as goal

pub returns-in_ok-analysed_beside-in-Ok-clause-project : goal.returns-in_ok-analysed_beside-in-Ok-clause-project
returns-in_ok-analysed_beside-in-Ok-clause-project c =
    let made = c.in_ok-analysed_beside-in-Ok.ensures in ap project_of made.project ∙ made.is_bound.project

pub returns-in_ok-analysed_beside-in-Ok-clause-issues : goal.returns-in_ok-analysed_beside-in-Ok-clause-issues
returns-in_ok-analysed_beside-in-Ok-clause-issues c =
    let made = c.in_ok-analysed_beside-in-Ok.ensures in
    let bound = made.is_bound in
    let found = made.found in
    record {
      program = program_of made.bound;
      passes = passes_of made.bound found.found;
      marks = record {
        declarations = bound.declarations;
        declared = bound.declared;
        program = bound.program;
        marked = record {
          bound = bound.marks;
          objects = found.are_found.objects;
          facts = found.are_found.facts;
          facts_are = found.are_found.facts_are;
          references = found.are_found.references;
          fixed = found.are_found.fixed;
          handlers = found.are_found.handlers;
          arrays = found.are_found.arrays;
        };
      };
      exact = subst (λ (fs : List Issue). AreIssues (program_of made.bound) (all_marks (passes_of made.bound found.found)) fs c.in_ok-analysed_beside-in-Ok.field-0.issues) c.in-Ok.ensures found.exact;
    }
