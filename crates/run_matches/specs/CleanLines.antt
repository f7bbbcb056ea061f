-- Code lines that are clean by themselves, in whatever procedure they stand.
use Rattle.std.specs.Prelude.{◌≡◌, ℕ, Bool, false, cond, ◌&&◌, nat_eq, Option, Some, None, List, [], ◌∷◌, ◌++◌, map, filter, slice_get}
use Rattle.std.specs.List.{Contains, flat_map}
use Rattle.vb_tree.specs.declared.block.BlockKind.{BlockKind}
use Rattle.vb_tree.specs.declared.block.BlockKind.TheVariants as kind
use Rattle.vb_tree.specs.declared.form_parts.ExitKind.{ExitKind}
use Rattle.vb_tree.specs.declared.form_parts.ExitKind.TheVariants as leaving
use Rattle.vb_tree.specs.declared.declared.VarId.{VarId}
use Rattle.vb_tree.specs.Tree.{Form, exit}
use Rattle.bound_tree.specs.declared.declared.NamedEntry.{NamedEntry}
use Rattle.bound_tree.specs.declared.declared.Scope.{Scope}
use Rattle.bound_tree.specs.declared.declared.Scope.TheVariants as scope
use Rattle.bound_tree.specs.declared.marks.Marks.{Marks}
use Rattle.bound_tree.specs.declared.rule_set.RuleSet.{RuleSet}
use Rattle.bound_tree.specs.Targets.{Step, plain, opens, parts, closes, steps, heads_round, innermost, is_same_kind}
use Rattle.bound_tree.specs.Tree.{Line, Procedure, Declarations, Program}
use Rattle.bound_facts.specs.Calls.{line_calls}
use Rattle.bound_facts.specs.Clean.{Point, procedure, variable, Path, arrows, line_arrows, options_of, point_broken, set_broken, captures, named_point, capturing}
use Rattle.run_base.specs.Machines.{nth_line}

-- ---- the blocks of a procedure's lines, which are numbered from 1

abbrev pub or_none : Option (List Line) → List Line
or_none None = []
or_none (Some lines) = lines

abbrev pub lines_at : Program → (procedure : ℕ) → List Line
lines_at P p = or_none (slice_get P.bodies p)

abbrev pub steps_at : Program → (procedure : ℕ) → List Step
steps_at P p = steps (map (λ (l : Line). l.source) (lines_at P p))

-- the head of the block that a line opens, parts or closes
abbrev pub block_of : List Step → (number : ℕ) → Option Step → Option ℕ
block_of all n None = None
block_of all n (Some plain) = None
block_of all n (Some (opens k tests)) = Some n
block_of all n (Some (parts k tests)) = innermost (heads_round all n)
block_of all n (Some (closes k)) = innermost (heads_round all n)

abbrev pub block_at : List Step → (number : ℕ) → Option ℕ
block_at all n = block_of all n (nth_line all n)

-- the heads of the With blocks round a line
abbrev pub withs_round : List Step → (number : ℕ) → List ℕ
withs_round all n = map (λ (h : BlockKind × ℕ). h.1) (filter (λ (h : BlockKind × ℕ). is_same_kind kind.With h.0) (heads_round all n))

-- ---- what a line mentions

abbrev pub answer_point : Option VarId → List Point
answer_point None = []
answer_point (Some v) = variable v.0 ∷ []

abbrev pub answer_of : Option Procedure → List Point
answer_of None = []
answer_of (Some x) = answer_point x.answer

-- Exit Function and Exit Property mention the result of their procedure
abbrev pub exit_points : Declarations → (procedure : ℕ) → ExitKind → List Point
exit_points D p leaving.Sub = []
exit_points D p leaving.Function = answer_of (slice_get D.procs p)
exit_points D p leaving.Property = answer_of (slice_get D.procs p)
exit_points D p leaving.For = []
exit_points D p leaving.Do = []

abbrev pub result_points : Declarations → (procedure : ℕ) → Form → List Point
result_points D p (exit k) = exit_points D p k
result_points D p f = []

abbrev pub line_points : Declarations → (procedure : ℕ) → Line → List Point
line_points D p l =
    map (λ a. a.1) (line_arrows D p l) ++ (map (λ (c : ℕ × ℕ). procedure c.1) (line_calls D p l) ++ result_points D p l.source.form)

abbrev pub option_points : Declarations → Option Procedure → List Point
option_points D None = []
option_points D (Some x) = options_of x.module_number D.project.modules

-- the declarations of the procedure or its module whose names capture others
abbrev pub is_local_of : (procedure : ℕ) → Scope → Bool
is_local_of p (scope.Local q) = nat_eq p q.0
is_local_of p _ = false

abbrev pub local_capturing : Declarations → (procedure : ℕ) → NamedEntry → List Point
local_capturing D p x = cond (is_local_of p x.scope && captures D.project.modules x.name x.named) (named_point x.named) []

abbrev pub captured_points : Declarations → (procedure : ℕ) → Option Procedure → List Point
captured_points D p None = []
captured_points D p (Some x) = capturing D x.module_number ++ flat_map (local_capturing D p) D.names

-- ---- clean lines

-- no chain leads from there to what breaks a rule
abbrev pub IsSoundPoint : Program → Marks → Point → Type 0
IsSoundPoint P M a = (b : Point) → Path (arrows P) a b → point_broken P.declarations M b ≡ false

abbrev pub broken_in : Option (List RuleSet) → (number : ℕ) → Bool
broken_in None n = false
broken_in (Some sets) n = set_broken (nth_line sets n)

-- the line breaks a rule
abbrev pub is_broken_line : Marks → (procedure number : ℕ) → Bool
is_broken_line M p n = broken_in (slice_get M.lines p) n

-- A line breaks no rule, and no chain from what it mentions, from the Option and Def lines of its module, or from declarations there whose
-- names capture others, ends at what does.
pub record IsSoundLine (P : Program) (M : Marks) (p number : ℕ) : Type 0 where
  pub line : Line
  pub is_line : nth_line (lines_at P p) number ≡ Some line
  pub unbroken : is_broken_line M p number ≡ false
  pub mentions : (a : Point) → Contains (line_points P.declarations p line) a → IsSoundPoint P M a
  pub options : (a : Point) → Contains (option_points P.declarations (slice_get P.declarations.procs p)) a → IsSoundPoint P M a
  pub names : (a : Point) → Contains (captured_points P.declarations p (slice_get P.declarations.procs p)) a → IsSoundPoint P M a

-- So it is clean by itself, where that holds of all lines that open, part and close the same block, and no head of a With round it breaks
-- a rule.
pub record IsCleanLine (P : Program) (M : Marks) (p number : ℕ) : Type 0 where
  pub itself : IsSoundLine P M p number
  pub block :
      (h m : ℕ) → block_at (steps_at P p) number ≡ Some h → block_at (steps_at P p) m ≡ Some h → IsSoundLine P M p m
  pub withs : (h : ℕ) → Contains (withs_round (steps_at P p) number) h → is_broken_line M p h ≡ false
