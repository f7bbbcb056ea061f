-- Which written lines are to control what the lines of the source are, and the written lines of a procedure in order.
use Rattle.std.specs.Prelude.{ℕ, suc, ◌+◌, ◌≡◌, pos, negsuc, Bool, true, false, not, cond, is_some, List, [], ◌∷◌, Option, Some, None, slice_get}
use Rattle.std.specs.List.{list_all}
use Rattle.vb_tree.specs.FlatLines.{code_lines, flat_lines}
use Rattle.vb_tree.specs.Tree.{Form, for_head, for_each, Nodes}
use Rattle.bound_tree.specs.declared.rule_set.RuleSet.{RuleSet}
use Rattle.bound_tree.specs.Labels.{Label, word, number, label_in, is_label}
use Rattle.bound_tree.specs.Tree.{Expr, Line, Program}
use Rattle.net_tree.specs.Tree as net
use Rattle.vb6_run.specs.Lines.{lines_in}
use Rattle.written_trees.specs.Bodies.{code_at, replaced_in}
use Rattle.written_trees.specs.Lines.{replaced_by, written_line}
use Rattle.written_trees.specs.Names.{Scope}
use Rattle.written_trees.specs.Placing.{Placed}
use Rattle.written_trees.specs.Prologues.{Code}

-- ---- lines

-- the counter, the start and the limit of a For
abbrev pub has_three : List Expr → Bool
has_three [] = false
has_three (counter ∷ []) = false
has_three (counter ∷ start ∷ []) = false
has_three (counter ∷ start ∷ limit ∷ es) = true

-- Whether what is written opens, parts or closes what the line does. Where no rule replaces it, nothing is written for a For Each, nor for
-- a For without its three expressions.
abbrev pub keeps_step_by : Option ℕ → Form → List Expr → Bool
keeps_step_by (Some rule) f es = true
keeps_step_by None (for_head counter start limit step) es = has_three es
keeps_step_by None (for_each name suffix items) es = false
keeps_step_by None _ es = true

abbrev pub keeps_step : RuleSet → Line → Bool
keeps_step rules l = keeps_step_by (replaced_by rules) l.source.form l.bindings.exprs

-- Whether what is written computes something for its block where the line does. What replaces a For Each does, and the line, whose meaning
-- is left open, doesn't.
abbrev pub keeps_tests_by : Option ℕ → Form → List Expr → Bool
keeps_tests_by (Some rule) (for_each name suffix items) es = false
keeps_tests_by (Some rule) _ es = true
keeps_tests_by None (for_head counter start limit step) es = has_three es
keeps_tests_by None _ es = true

abbrev pub keeps_tests : RuleSet → Line → Bool
keeps_tests rules l = keeps_tests_by (replaced_by rules) l.source.form l.bindings.exprs

abbrev pub keep_steps : List Code → Bool
keep_steps code = list_all (λ (c : Code). keeps_step c.0 c.1) code

abbrev pub keep_tests : List Code → Bool
keep_tests code = list_all (λ (c : Code). keeps_tests c.0 c.1) code

-- ---- procedures

-- the lines that are bound in a procedure with the rules that they break
abbrev pub code_of : Program → Scope → Placed → Nodes → List Code
code_of P S p body = code_at P S (suc p.at.statement) p.at.procedure (flat_lines body)

-- the lines that are bound in a procedure are the code lines of its body
abbrev pub AreBound : Program → Placed → Nodes → Type 0
AreBound P p body = lines_in (slice_get P.bodies p.at.procedure) ≡ code_lines (flat_lines body)

-- what is written for code lines, before which k heads of For were replaced
abbrev pub written_from : Scope → List (Option Label) → (k : ℕ) → List Code → List net.Line
written_from S labels k [] = []
written_from S labels k (c ∷ code) = written_line S labels c.0 (suc k) c.1 ∷ written_from S labels (k + replaced_in (c ∷ [])) code

-- ---- labels

-- no line number of the source is negative
abbrev pub is_unsigned : Label → Bool
is_unsigned (word name) = true
is_unsigned (number (pos n)) = true
is_unsigned (number (negsuc n)) = false

abbrev pub is_unsigned_in : Option Label → Bool
is_unsigned_in None = true
is_unsigned_in (Some a) = is_unsigned a

-- whether the first line with a label isn't replaced
abbrev pub keeps_label : Label → List Code → Bool
keeps_label a [] = true
keeps_label a (c ∷ code) = cond (is_label a (label_in c.1.source.form)) (not (is_some (replaced_by c.0))) (keeps_label a code)
