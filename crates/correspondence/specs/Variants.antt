-- Which written line a code line has, by its form.
use Rattle.std.specs.Prelude.{◌≡◌, ◌⊎◌, ℕ, Bool, true, false, is_some, codes, Option, Some, None, List, [], ◌∷◌, ◌++◌}
use Rattle.std.specs.List.{list_any}
use Rattle.vb_tree.specs.Tree.{Form, CaseItem}
use Rattle.vb_tree.specs.Tree as source
use Rattle.bound_tree.specs.declared.rule_set.RuleSet.{RuleSet}
use Rattle.bound_tree.specs.Labels.{Label, label_of}
use Rattle.bound_tree.specs.RuleSets.{has}
use Rattle.bound_tree.specs.Tree.{Expr, Line, Program}
use Rattle.net_tree.specs.Tree as net
use Rattle.net_tree.specs.Types.{TypeName}
use Rattle.written_trees.specs.Conversions.{one, two}
use Rattle.written_trees.specs.Lines.{replacing, replaced_by, flagged_line, line_of, jump, net_label, comparison, exit_of, print_name}
use Rattle.written_trees.specs.Names.{Scope, support}
use Rattle.run_matches.specs.CoveredLines.{covers_line}
use Rattle.correspondence.specs.Uses.{FormCorresponds}
use Rattle.correspondence.specs.Lists.{Pairwise}

-- ---- expressions of a line

abbrev pub has_one : List Expr → Bool
has_one [] = false
has_one (e ∷ es) = true

abbrev pub has_two : List Expr → Bool
has_two [] = false
has_two (e ∷ es) = has_one es

abbrev pub has_none : List Expr → Bool
has_none [] = true
has_none (e ∷ es) = false

abbrev pub has_step : Option source.Exp → List Expr → Bool
has_step None es = has_none es
has_step (Some e) es = has_one es

abbrev pub has_counting : Option source.Exp → List Expr → Bool
has_counting step [] = false
has_counting step (counter ∷ []) = false
has_counting step (counter ∷ start ∷ []) = false
has_counting step (counter ∷ start ∷ limit ∷ es) = has_step step es

-- whether a bound line has the expressions of its form
abbrev pub has_expressions : Form → List Expr → Bool
has_expressions (source.assign target value) es = has_two es
has_expressions (source.set target value) es = has_two es
has_expressions (source.call callee) es = has_one es
has_expressions (source.invoke callee args) es = has_one es
has_expressions (source.for_head counter start limit step) es = has_counting step es
has_expressions (source.erase array) es = has_one es
has_expressions _ es = true

-- ---- written lines

-- an assignment, or a call of the function that evaluates the value before the target
abbrev pub IsStored : net.Line → Type 0
IsStored w =
    ((target : net.Exp) × (value : net.Exp) × (w ≡ net.assign target value))
    ⊎ ((ty : List ℕ) × (target : net.Exp) × (value : net.Exp) × (w ≡ net.call (net.path (support (codes "Put" ++ ty))) (two value target)))

abbrev pub CaseCorresponds : CaseItem → net.CaseItem → Type 0
CaseCorresponds (source.case_value e) w = (a : net.Exp) × (w ≡ net.case_value a)
CaseCorresponds (source.case_range e f) w = (a : net.Exp) × (c : net.Exp) × (w ≡ net.case_range a c)
CaseCorresponds (source.case_is o e) w = (a : net.Exp) × (w ≡ net.case_is (comparison o) a)

-- The written variant of each form, in a procedure with these labels. A form that has none isn't translated.
abbrev pub IsVariant : List (Option Label) → Form → net.Line → Type 0
IsVariant labels (source.assign target value) w = IsStored w
IsVariant labels (source.set target value) w = (t : net.Exp) × (v : net.Exp) × (w ≡ net.assign t v)
IsVariant labels (source.call callee) w = (a : net.Exp) × (args : net.Exps) × (w ≡ net.call a args)
IsVariant labels (source.invoke callee given) w = (a : net.Exp) × (args : net.Exps) × (w ≡ net.call a args)
IsVariant labels (source.debug_print items ended) w = (text : net.Exp) × (w ≡ net.call (net.path (support (print_name ended))) (one text))
IsVariant labels (source.if_head condition) w = (e : net.Exp) × (w ≡ net.if_head e)
IsVariant labels (source.line_if condition) w = (e : net.Exp) × (w ≡ net.if_head e)
IsVariant labels (source.else_if condition) w = (e : net.Exp) × (w ≡ net.else_if e)
IsVariant labels source.else_line w = w ≡ net.else_line
IsVariant labels source.end_if w = w ≡ net.end_if
IsVariant labels (source.select value) w = (e : net.Exp) × (w ≡ net.select e)
IsVariant labels (source.case_line items) w = (ws : List net.CaseItem) × (w ≡ net.case_line ws) × Pairwise CaseCorresponds items ws
IsVariant labels source.case_else w = w ≡ net.case_else
IsVariant labels source.end_select w = w ≡ net.end_select
IsVariant labels (source.for_head counter start limit step) w =
    (c : net.Exp) × (from : net.Exp) × (to : net.Exp) × (by : Option net.Exp) × (w ≡ net.for_head c from to by) × (is_some by ≡ is_some step)
IsVariant labels (source.next name) w = w ≡ net.next
IsVariant labels source.do_head w = w ≡ net.do_head
IsVariant labels (source.do_while condition) w = (e : net.Exp) × (w ≡ net.do_while e)
IsVariant labels (source.do_until condition) w = (e : net.Exp) × (w ≡ net.do_until e)
IsVariant labels source.loop w = w ≡ net.loop
IsVariant labels (source.loop_while condition) w = (e : net.Exp) × (w ≡ net.loop_while e)
IsVariant labels (source.loop_until condition) w = (e : net.Exp) × (w ≡ net.loop_until e)
IsVariant labels (source.while_head condition) w = (e : net.Exp) × (w ≡ net.while_head e)
IsVariant labels source.wend w = w ≡ net.end_while
IsVariant labels (source.with_head object) w = (e : net.Exp) × (w ≡ net.with_head e)
IsVariant labels source.end_with w = w ≡ net.end_with
IsVariant labels (source.goto l) w = w ≡ net.goto (jump labels l)
IsVariant labels (source.label l) w = w ≡ net.label (net_label (label_of l))
IsVariant labels (source.on_error_goto l) w = w ≡ net.on_error_goto (jump labels l)
IsVariant labels source.on_error_goto_zero w = w ≡ net.on_error_goto_zero
IsVariant labels source.on_error_resume_next w = w ≡ net.on_error_resume_next
IsVariant labels source.resume w = w ≡ net.resume
IsVariant labels source.resume_next w = w ≡ net.resume_next
IsVariant labels (source.resume_at l) w = w ≡ net.resume_at (jump labels l)
IsVariant labels (source.exit kind) w = w ≡ net.exit (exit_of kind)
IsVariant labels (source.redim preserve items) w = (ws : List net.ReDimItem) × (w ≡ net.redim preserve ws)
IsVariant labels (source.erase array) w = (a : net.Exp) × (ty : TypeName) × (bounds : net.Exps) × (w ≡ net.assign a (net.new_array ty bounds))
IsVariant labels _ w = Unit {0}

-- ---- code lines

-- whether one of the rules is broken that replace a line
abbrev pub is_replaced : RuleSet → Bool
is_replaced rules = list_any (has rules) replacing

-- What is written for a code line with the rules that it breaks: where one of these replaces it, the NotUpgraded form of the least one,
-- else the written variant of its form, with what is written for its expressions. A covered one names each variable as often as the source
-- uses it.
pub record LineCorresponds (P : Program) (S : Scope) (procedure : ℕ) (labels : List (Option Label)) (c : RuleSet × Line) (w : net.Line) : Type 0 where
  pub replaced : is_replaced c.0 ≡ true → (n : ℕ) × (k : ℕ) × (replaced_by c.0 ≡ Some n) × (w ≡ flagged_line n k c.1.source.form)
  pub variant : is_replaced c.0 ≡ false → has_expressions c.1.source.form c.1.bindings.exprs ≡ true → IsVariant labels c.1.source.form w
  pub whole : is_replaced c.0 ≡ false → w ≡ line_of S labels c.1.source.form c.1.bindings.exprs
  pub covered : is_replaced c.0 ≡ false → covers_line P procedure c.1 ≡ true → FormCorresponds S procedure c.1.source.form c.1.bindings.exprs w
