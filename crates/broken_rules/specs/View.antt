-- Which plain values those of the code stand for.
use Rattle.std.specs.Prelude.{◌≡◌, List}
use Rattle.up_base.specs.declared.issue.Issue.{Issue}
use Rattle.vb_tree.specs.View.{project_of}
use Rattle.vb_tree.specs.Tree.{Project}
use Rattle.bound_tree.specs.declared.body.Bound.{Bound}
use Rattle.bound_tree.specs.Tree.{Declarations, Program}
use Rattle.bound_tree.specs.View.{program_of}
use Rattle.bound_facts.specs.Facts.{Known}
use Rattle.array_bounds.specs.Facts.{AreCalls}
use Rattle.bound_tree.specs.declared.facts.RefFacts.{RefFacts}
use Rattle.byref_analysis.specs.Tests.{Tells}
use Rattle.declarations.specs.Finals.{IsDeclared}
use Rattle.array_bounds.specs.Found.{AreLows, AreRanks}
use Rattle.array_bounds.specs.Rows as arrays
use Rattle.error_handlers.specs.Rows as handlers
use Rattle.issue_sets.specs.Marked.{AreIssues}
use Rattle.binder.specs.Programs.{bound_marks, bound_program}
use Rattle.broken_rules.specs.declared.passes.Analysed.{Analysed}
use Rattle.broken_rules.specs.declared.passes.Found.{Found}
use Rattle.broken_rules.specs.Marks.{AreOfFixed, AreOfObjects, AreOfReferences, Passes, all_marks, quiet_params}

abbrev pub passes_of : Bound → Found → Passes
passes_of b f = record {
  declared = b.declared.marks;
  bound = b.marks;
  objects = f.objects.marks;
  references = f.refs.marks;
  fixed = f.fixed.marks;
  handlers = f.handlers.marks;
  arrays = f.arrays.marks;
}

-- what is found of references, by facts
pub record AreRefs (P : Program) (r : RefFacts) : Type 0 where
  pub facts : Known
  pub facts_are : Tells P facts
  pub references : AreOfReferences P facts r.marks
  pub quiet : r.quiet ≡ quiet_params P facts
  pub calls : AreCalls P r.calls

-- what the analyses find in a program
pub record AreFound (P : Program) (f : Found) : Type 0 where
  pub objects : AreOfObjects P f.objects.marks
  pub facts : Known
  pub facts_are : Tells P facts
  pub references : AreOfReferences P facts f.refs.marks
  pub fixed : AreOfFixed P facts f.fixed.marks
  pub handlers : handlers.AreOfLines f.handlers.marks (handlers.line_rules P)
  pub arrays : arrays.AreMarks P f.arrays.marks
  pub lows : AreLows P f.arrays.lows
  pub ranks : AreRanks P f.arrays.ranks

-- issues of a bound project with further ones
pub record AreFoundIn (b : Bound) (further issues : List Issue) : Type 0 where
  pub found : Found
  pub are_found : AreFound (program_of b) found
  pub exact : AreIssues (program_of b) (all_marks (passes_of b found)) further issues

-- a project that is bound
pub record IsBoundTo (P : Project) (b : Bound) : Type 0 where
  pub declarations : Declarations
  pub declared : IsDeclared P declarations b.declared.marks
  pub program : program_of b ≡ bound_program declarations
  pub marks : b.marks ≡ bound_marks declarations
  pub project : project_of b.declared.project ≡ P

-- what is made of a project with further issues
pub record IsAnalysed (P : Project) (further : List Issue) (a : Analysed) : Type 0 where
  pub bound : Bound
  pub is_bound : IsBoundTo P bound
  pub project : a.project ≡ bound.declared.project
  pub found : AreFoundIn bound further a.issues
