-- A project whose names are bound.
use Rattle.std.specs.Prelude.{◌≡◌, ℕ, ◌+◌, Option, Some, None, List, [], ◌∷◌, ◌++◌, map, slice_get}
use Rattle.vb_tree.specs.declared.declared.ProcId.{ProcId}
use Rattle.bound_tree.specs.declared.body.Bound.{Bound}
use Rattle.bound_tree.specs.declared.declared.Declared.{Declared}
use Rattle.bound_tree.specs.declared.marks.Marks.{Marks}
use Rattle.bound_tree.specs.declared.rule_set.RuleSet.{RuleSet}
use Rattle.bound_tree.specs.RuleSets.{none}
use Rattle.bound_tree.specs.Source.{code_of}
use Rattle.bound_tree.specs.Tree.{Declarations, Line, Program, Variable}
use Rattle.bound_tree.specs.View.{declarations_of, program_of}
use Rattle.binder.specs.ImplicitLocals.{Home, Locals, all_variables, homes, procedure_id, project_locals, rules_of, with_locals}
use Rattle.binder.specs.Bodies.{Inside, bound_body}

abbrev pub inside : (written all : Declarations) → ProcId → Home → Locals → Inside
inside written all p h l = record {
  declarations = all;
  written = written;
  site = record { file = h.file; procedure = Some p };
  lines = code_of h.body;
  laters = l.laters;
}

abbrev pub body_with : (written all : Declarations) → ProcId → Home → Option Locals → List (List Line)
body_with written all p h None = []
body_with written all p h (Some l) = bound_body (inside written all p h l) h.body ∷ []

-- the code lines of procedures from the one with the number p on, each with the locals of its number
abbrev pub bodies_from : (written all : Declarations) → List Locals → (p : ℕ) → List Home → List (List Line)
bodies_from written all ls p [] = []
bodies_from written all ls p (h ∷ hs) = body_with written all (procedure_id p) h (slice_get ls p) ++ bodies_from written all ls (p + 1) hs

-- all declarations of a project whose lines declare these
abbrev pub all_declarations : Declarations → Declarations
all_declarations D = with_locals D (all_variables (project_locals D))

abbrev pub all_bodies : Declarations → List (List Line)
all_bodies D = bodies_from D (all_declarations D) (project_locals D) 0 (homes D.project)

-- what a project is bound to whose lines declare these
abbrev pub bound_program : Declarations → Program
bound_program D = record { declarations = all_declarations D; bodies = all_bodies D }

-- ---- rules

abbrev pub body_rules : List Line → List RuleSet
body_rules ls = map (λ (l : Line). l.bindings.rules) ls

-- the rules that code lines and implicit locals break
abbrev pub bound_marks : Declarations → Marks
bound_marks D = record {
  lines = map body_rules (all_bodies D);
  heads = [];
  vars = map (λ (v : Variable). none) D.vars ++ map (rules_of D) (all_variables (project_locals D));
  consts = [];
  types = [];
  enums = [];
}

-- ---- the whole

-- what is bound to declarations; their own rules stay with them
pub record IsBound (d : Declared) (b : Bound) : Type 0 where
  pub program : program_of b ≡ bound_program (declarations_of d)
  pub marks : b.marks ≡ bound_marks (declarations_of d)
  pub declared_marks : b.declared.marks ≡ d.marks
  pub interfaces : b.interfaces.interfaces ≡ []
  pub interface_parts : b.interfaces.parts ≡ []
