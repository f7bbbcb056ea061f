-- What is made of a project is what the laws on runs are said of.
use Rattle.std.proofs.Common.{ℕ, List, [], ◌∷◌, refl, sym, subst, arith}
use Rattle.vb_tree.specs.Tree.{Project}
use Rattle.bound_tree.specs.declared.marks.Marks.{Marks}
use Rattle.bound_tree.specs.Tree.{Program}
use Rattle.bound_tree.specs.View.{program_of}
use Rattle.bound_facts.specs.Facts.{AreFacts, Known}
use Rattle.net_tree.specs.View.{project_of}
use Rattle.broken_rules.specs.Marks.{all_marks}
use Rattle.broken_rules.specs.declared.passes.Found.{Found}
use Rattle.broken_rules.specs.View.{AreFound, passes_of}
use Rattle.byref_analysis.specs.Tests.{Tells}
use Rattle.written_facts.specs.United.{AreUnited}
use Rattle.project_loader.specs.Held.{IsOfGrammar}
use Rattle.project_upgrade.specs.declared.upgrade.Upgraded.{Upgraded}
use Rattle.project_upgrade.specs.Upgrades.{IsCleanCount, IsUpgraded}
use Rattle.run_matches.specs.Upgrades.{Upgrade}
use Rattle.run_statements.specs.Written.{IsWritten}
use Rattle.upgrade_laws.specs.Ordered.{AreOrderly}
use Rattle.upgrade_laws.specs.Separate.{HaveDifferentFiles}
use Rattle.upgrade_laws.specs.Upgrades.{CountsClean, Parts, UpgradeOf}
use Rattle.upgrade_laws.proofs.Bodies.{bodies_are_bound}
use Rattle.upgrade_laws.proofs.Cleanness.{clean_apart, clean_together}
use Rattle.upgrade_laws.proofs.Firsts.{firsts_are_parts}
use Rattle.upgrade_laws.proofs.Fitted.{dimensions_suit, ranks_suit, resizes_suit, uses_suit}
use Rattle.upgrade_laws.proofs.Forms.{forms_are_quiet}
use Rattle.upgrade_laws.proofs.Named.{types_are_named}
use Rattle.upgrade_laws.proofs.PropertiesApart.{properties_apart}
use Rattle.upgrade_laws.proofs.Read.{grammar_orderly}
use Rattle.upgrade_laws.proofs.SiteHomes.{sites_are_home}
use Rattle.upgrade_laws.proofs.Together.{parts_stand_together}

counts_clean : (P : Program) (g : Marks) (ms : List Marks) (m : Marks) (n : ℕ) → AreUnited (g ∷ ms) m → IsCleanCount P (g ∷ ms) n → CountsClean P m n
counts_clean P g ms m n u c = record {
  flags = c.flags;
  counted = c.are_clean.count;
  tell = λ p low. (
    (λ e. clean_together P g ms m u p ((c.are_clean.tell p low).0 e)),
    (λ h. (c.are_clean.tell p low).1 (clean_apart P g ms m u p h)),
  );
  count = c.count;
}

-- the facts of a program: those that the rules on references ask for, and that of arrays
abbrev known_of : (P : Program) (f : Found) → AreFound P f → Known
known_of P f are = record {
  outward = are.facts.outward;
  touched = are.facts.touched;
  resized = are.arrays.0.resized;
  unplain = are.facts.unplain;
}

facts_are_known : (P : Program) (f : Found) (are : AreFound P f) → AreFacts P (known_of P f are)
facts_are_known P f are = record {
  outward_are = are.facts_are.outward_are;
  touched_are = are.facts_are.touched_are;
  resized_are = are.arrays.1.resized_are;
  unplain_are = are.facts_are.unplain_are;
}

tells_known : (P : Program) (f : Found) (are : AreFound P f) → Tells P (known_of P f are)
tells_known P f are = record {
  outward_are = are.facts_are.outward_are;
  touched_are = are.facts_are.touched_are;
  unplain_are = are.facts_are.unplain_are;
}

-- what is made of a project, as the laws on runs see it
abbrev made_upgrade : (P : Project) (u : Upgraded) → IsUpgraded P u → Upgrade
made_upgrade P u is = record {
  program = program_of is.bound;
  known = known_of (program_of is.bound) is.made.found is.made.are_found;
  facts = is.made.made.tree.facts;
  written = project_of u.tree;
}

written_for : (P : Project) (u : Upgraded) (is : IsUpgraded P u) → AreOrderly P.modules → IsWritten (made_upgrade P u is)
written_for P u is orderly =
    let b = is.bound in
    let w = is.made.made.tree in
    let ms = all_marks (passes_of b is.made.found) in
    let arrays = is.made.found.arrays.marks in
    let U = made_upgrade P u is in
    record {
      known = facts_are_known (program_of b) is.made.found is.made.are_found;
      is_written = w.exact;
      parts = parts_stand_together P b is.is_bound orderly;
      firsts = firsts_are_parts P b is.is_bound orderly;
      bodies = bodies_are_bound P b is.is_bound;
      forms = forms_are_quiet (program_of b) (all_marks (passes_of b is.made.found)) w.facts w.are_facts
          (subst (λ (Q : Project). HaveDifferentFiles Q.modules) (sym is.is_bound.project) orderly.files);
      fits = uses_suit U ms w.are_facts.marks w.are_facts.are arrays (6, omega arith, refl) is.made.are_found.arrays;
      resizes = resizes_suit U ms w.are_facts.marks w.are_facts.are arrays (6, omega arith, refl) is.made.are_found.arrays;
      ranks = ranks_suit U ms w.are_facts.marks w.are_facts.are arrays (6, omega arith, refl) is.made.are_found.arrays;
      dimensions = dimensions_suit U ms w.are_facts.marks w.are_facts.are arrays (6, omega arith, refl) is.made.are_found.arrays;
      arrays = w.are_facts.are.arrays;
      made = w.are_facts.are.made;
      named = types_are_named P b is.is_bound;
      apart = λ p x e property whole.
          properties_apart P b is.is_bound is.made.found is.made.are_found w.facts w.are_facts.marks p x e property whole;
      homes = sites_are_home P b is.is_bound orderly;
    }

pub upgrade_is_written : (P : Project) (u : Upgraded) → IsUpgraded P u → AreOrderly P.modules → UpgradeOf P u
upgrade_is_written P u is orderly =
    let b = is.bound in
    let f = is.made.found in
    let w = is.made.made.tree in
    let passes = passes_of b f in
    record {
      bound = b;
      is_bound = is.is_bound;
      found = f;
      are_found = is.made.are_found;
      upgrade = made_upgrade P u is;
      program = refl;
      read = is.is_bound.project;
      project = is.is_bound.project;
      known = tells_known (program_of b) f is.made.are_found;
      facts = w.are_facts;
      united = w.are_facts.marks;
      tree = refl;
      exact = w.exact;
      is_written = written_for P u is orderly;
      clean = counts_clean (program_of b) passes.declared
          (passes.bound ∷ passes.objects ∷ passes.references ∷ passes.fixed ∷ passes.handlers ∷ passes.arrays ∷ [])
          w.facts.marks u.clean w.are_facts.marks is.made.made.clean;
    }

pub grammar_is_written : (P : Project) (u : Upgraded) → IsOfGrammar P → IsUpgraded P u → UpgradeOf P u
grammar_is_written P u read is = upgrade_is_written P u is (grammar_orderly P read)

pub translation_parts : (P : Project) (u : Upgraded) → IsOfGrammar P → IsUpgraded P u → Parts P u
translation_parts P u read is =
    let b = is.bound in
    let f = is.made.found in
    let are = is.made.are_found in
    let w = is.made.made.tree in
    let passes = passes_of b f in
    record {
      broken = record {
        program = program_of b;
        passes = passes;
        marks = record {
          declarations = is.is_bound.declarations;
          declared = is.is_bound.declared;
          program = is.is_bound.program;
          marked = record {
            bound = is.is_bound.marks;
            objects = are.objects;
            facts = are.facts;
            facts_are = are.facts_are;
            references = are.references;
            fixed = are.fixed;
            handlers = are.handlers;
            arrays = are.arrays;
          };
        };
        exact = is.made.made.issues;
      };
      upgrade = made_upgrade P u is;
      program = refl;
      marks = w.are_facts.marks;
      tree = refl;
      is_written = written_for P u is (grammar_orderly P read);
    }
