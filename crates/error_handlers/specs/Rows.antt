-- The rules on handlers and jumps that the lines of a project break: 14 at heads of blocks, 15 at jumps.
use Rattle.std.specs.Prelude.{◌≡◌, ℕ, suc, Bool, false, cond, nat_eq, Option, Some, None, List, [], ◌∷◌, map, slice_get}
use Rattle.vb_tree.specs.declared.declared.ProcKind.{ProcKind}
use Rattle.vb_tree.specs.Tree as vb
use Rattle.bound_tree.specs.declared.marks.Marks.{Marks}
use Rattle.bound_tree.specs.declared.rule_set.RuleSet.{RuleSet}
use Rattle.bound_tree.specs.RuleSets.{none, with_if}
use Rattle.bound_tree.specs.Tree.{Line, Procedure, Declarations, Program}
use Rattle.bound_facts.specs.Facts.{is_resumable}
use Rattle.error_handlers.specs.Heads.{breaks_head}
use Rattle.error_handlers.specs.Jumps.{breaks_jumps}

-- what is asked of the procedure that a line stands in: its kind, its code lines, whether it goes on after an error
pub record Home : Type 0 where
  pub kind : Option ProcKind
  pub lines : List vb.Line
  pub resumable : Bool

abbrev pub kind_of : Option Procedure → Option ProcKind
kind_of None = None
kind_of (Some p) = Some p.kind

abbrev pub sources : List Line → List vb.Line
sources lines = map (λ (l : Line). l.source) lines

abbrev pub home_of : Option Procedure → List Line → Home
home_of p lines = record { kind = kind_of p; lines = sources lines; resumable = is_resumable lines }

-- whether the code line n of a procedure breaks a rule
abbrev pub breaks : Declarations → Home → ℕ → Line → (rule : ℕ) → Bool
breaks D home n l rule =
    cond (nat_eq rule 14) (breaks_head D home.resumable l) (cond (nat_eq rule 15) (breaks_jumps home.kind home.lines n l.source.form) false)

-- the set of these rules
abbrev pub rules_of : Declarations → Home → ℕ → Line → RuleSet
rules_of D home n l = with_if (with_if none 14 (breaks_head D home.resumable l)) 15 (breaks_jumps home.kind home.lines n l.source.form)

-- those of lines that are numbered from n
abbrev pub rules_from : Declarations → Home → ℕ → List Line → List RuleSet
rules_from D home n [] = []
rules_from D home n (l ∷ lines) = rules_of D home n l ∷ rules_from D home (suc n) lines

-- those of the lines of a procedure, which are numbered from 1
abbrev pub body_rules : Declarations → Option Procedure → List Line → List RuleSet
body_rules D p lines = rules_from D (home_of p lines) 1 lines

-- those of procedures that are numbered from i
abbrev pub bodies_rules : Declarations → ℕ → List (List Line) → List (List RuleSet)
bodies_rules D i [] = []
bodies_rules D i (lines ∷ rest) = body_rules D (slice_get D.procs i) lines ∷ bodies_rules D (suc i) rest

-- for each procedure of a project the sets of its code lines
abbrev pub line_rules : Program → List (List RuleSet)
line_rules P = bodies_rules P.declarations 0 P.bodies

-- for each procedure whether it goes on after an error
abbrev pub resumables : Program → List Bool
resumables P = map is_resumable P.bodies

-- marks with these sets of code lines, and none of declarations
abbrev pub AreOfLines : Marks → List (List RuleSet) → Type 0
AreOfLines m lines = (m.lines ≡ lines) × (m.heads ≡ []) × (m.vars ≡ []) × (m.consts ≡ []) × (m.types ≡ []) × (m.enums ≡ [])
