-- What the passes mark: the declarations and their names, the bound lines, and each analysis.
use Rattle.std.specs.Prelude.{◌≡◌, ℕ, List, [], ◌∷◌}
use Rattle.vb_tree.specs.Tree.{Project}
use Rattle.bound_tree.specs.declared.marks.Marks.{Marks}
use Rattle.bound_tree.specs.Tree.{Declarations, Program}
use Rattle.bound_facts.specs.Facts.{Known, is_quiet, stirs}
use Rattle.declarations.specs.Finals.{IsDeclared}
use Rattle.binder.specs.Programs.{bound_marks, bound_program}
use Rattle.object_rules.specs.Rows as objects
use Rattle.byref_analysis.specs.Quiet.{quiet_flags}
use Rattle.byref_analysis.specs.Rows as references
use Rattle.byref_analysis.specs.Tests.{Tells}
use Rattle.fixed_strings.specs.Given.{Quiet}
use Rattle.fixed_strings.specs.Rows as fixed
use Rattle.error_handlers.specs.Rows as handlers
use Rattle.array_bounds.specs.Rows as arrays

pub record Passes : Type 0 where
  pub declared : Marks
  pub bound : Marks
  pub objects : Marks
  pub references : Marks
  pub fixed : Marks
  pub handlers : Marks
  pub arrays : Marks

abbrev pub all_marks : Passes → List Marks
all_marks p = p.declared ∷ p.bound ∷ p.objects ∷ p.references ∷ p.fixed ∷ p.handlers ∷ p.arrays ∷ []

-- ---- each analysis

-- rules 7, 13 and 24
pub record AreOfObjects (P : Program) (m : Marks) : Type 0 where
  pub lines : m.lines ≡ objects.lines_rules P
  pub heads : m.heads ≡ objects.heads_rules P.declarations
  pub vars : m.vars ≡ objects.variables_rules P.declarations
  pub others : objects.HasNoOthers m

-- rules 7, 8 and 26, by facts
pub record AreOfReferences (P : Program) (F : Known) (m : Marks) : Type 0 where
  pub lines : m.lines ≡ references.lines_rules P (is_quiet P.declarations F) (stirs P.declarations F)
  pub heads : m.heads ≡ references.heads_rules P.declarations (is_quiet P.declarations F)
  pub others : references.HasNoOthers m

-- for each procedure which of its parameters are quiet
abbrev pub quiet_params : Program → Known → Quiet
quiet_params P F = quiet_flags (is_quiet P.declarations F) P.declarations.procs

-- rule 12, by the parameters that are quiet
pub record AreFixedBy (P : Program) (quiet : Quiet) (m : Marks) : Type 0 where
  pub lines : m.lines ≡ fixed.lines_rules P quiet
  pub vars : fixed.AreBroken P.declarations m.vars
  pub others : fixed.HasNoOthers m

-- rule 12, by facts
abbrev pub AreOfFixed : Program → Known → Marks → Type 0
AreOfFixed P F m = AreFixedBy P (quiet_params P F) m

-- ---- all passes

-- what is marked in a program that is bound to declarations
pub record AreMarked (D : Declarations) (P : Program) (p : Passes) : Type 0 where
  pub bound : p.bound ≡ bound_marks D
  pub objects : AreOfObjects P p.objects
  pub facts : Known
  pub facts_are : Tells P facts
  pub references : AreOfReferences P facts p.references
  pub fixed : AreOfFixed P facts p.fixed
  pub handlers : handlers.AreOfLines p.handlers (handlers.line_rules P)
  pub arrays : arrays.AreMarks P p.arrays

-- what is marked in a project
pub record AreMarks (P : Project) (Q : Program) (p : Passes) : Type 0 where
  pub declarations : Declarations
  pub declared : IsDeclared P declarations p.declared
  pub program : Q ≡ bound_program declarations
  pub marked : AreMarked declarations Q p
