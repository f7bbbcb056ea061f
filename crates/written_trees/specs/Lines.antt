-- What is written for code lines: each gives one line.
use Rattle.std.specs.Prelude.{ℕ, zero, suc, ℤ, negsuc, unsigned_abs, Bool, true, false, cond, ◌&&◌, is_some, find, List, [], ◌∷◌, ◌++◌, map, codes, Option, Some, None}
use Rattle.std.specs.Fmt.{decimal}
use Rattle.vb_tree.specs.BoundTree as vb
use Rattle.vb_tree.specs.BoundTree.{Ty}
use Rattle.vb_tree.specs.declared.expression.BinOp.{BinOp}
use Rattle.vb_tree.specs.declared.expression.BinOp.TheVariants as b
use Rattle.vb_tree.specs.declared.form_parts.ExitKind.{ExitKind}
use Rattle.vb_tree.specs.declared.form_parts.ExitKind.TheVariants as leaving
use Rattle.vb_tree.specs.declared.form_parts.Label6.{Label6}
use Rattle.vb_tree.specs.Tree.{Form, CaseItem}
use Rattle.vb_tree.specs.Tree as source
use Rattle.bound_tree.specs.declared.rule_set.RuleSet.{RuleSet}
use Rattle.bound_tree.specs.Labels.{Label, label_of, is_label}
use Rattle.bound_tree.specs.Labels as label
use Rattle.bound_tree.specs.RuleSets.{has, first}
use Rattle.bound_tree.specs.Tree.{Expr, Line}
use Rattle.bound_facts.specs.Bounds.{low_in, option_base_of}
use Rattle.bound_facts.specs.Node.{type_at, declared_at}
use Rattle.bound_facts.specs.Parts.{Extent, Resize, resizes}
use Rattle.net_tree.specs.declared.expression.CastWord.TheVariants as word
use Rattle.net_tree.specs.declared.expression.NetBin.{NetBin}
use Rattle.net_tree.specs.declared.expression.NetBin.TheVariants as op
use Rattle.net_tree.specs.declared.line.NetExit.{NetExit}
use Rattle.net_tree.specs.declared.line.NetExit.TheVariants as out
use Rattle.net_tree.specs.declared.line.NetLabel.{NetLabel}
use Rattle.net_tree.specs.declared.line.NetLabel.TheVariants as mark
use Rattle.net_tree.specs.Tree as net
use Rattle.written_trees.specs.Names.{Scope, alone, support}
use Rattle.written_trees.specs.Types.{written_type, element_type}
use Rattle.written_trees.specs.Literals.{number, text}
use Rattle.written_trees.specs.Conversions.{one, two, support_call}
use Rattle.written_trees.specs.Library.{low_exp}
use Rattle.written_trees.specs.Exprs.{exp_of, target_exp}
use Rattle.written_trees.specs.Puts.{rank_of, store_line}

-- where nothing is written for a line, this stands; no line of a program has it
abbrev pub no_line : net.Line
no_line = net.call (net.path []) net.no_exps

-- ---- labels

abbrev pub or_label : Label → Option (Option Label) → Label
or_label l None = l
or_label l (Some None) = l
or_label l (Some (Some m)) = m

-- the label of a procedure that is meant, which has its own spelling
abbrev pub meant : List (Option Label) → Label → Label
meant labels l = or_label l (find (is_label l) labels)

abbrev pub net_label : Label → NetLabel
net_label (label.word name) = mark.Word name
net_label (label.number z) = mark.Number (unsigned_abs z)

abbrev pub jump : List (Option Label) → Label6 → NetLabel
jump labels l = net_label (meant labels (label_of l))

-- ---- printed items

-- numbers have their own text, others are Strings
abbrev pub printed : Ty → net.Exp → net.Exp
printed vb.boolean a = net.cast word.CStr a
printed vb.byte a = support_call (codes "PrintNum") (one (net.cast word.CDec a))
printed vb.integer a = support_call (codes "PrintNum") (one (net.cast word.CDec a))
printed vb.long a = support_call (codes "PrintNum") (one (net.cast word.CDec a))
printed vb.currency a = support_call (codes "PrintNum") (one a)
printed vb.variant a = support_call (codes "PrintVar") (one a)
printed _ a = a

abbrev pub printed_item : Scope → Expr → net.Exp
printed_item S e = printed (type_at e) (exp_of S e)

-- joined from the left
abbrev pub joined_items : Scope → net.Exp → List Expr → net.Exp
joined_items S a [] = a
joined_items S a (e ∷ es) = joined_items S (net.binary op.Concat a (printed_item S e)) es

abbrev pub items_exp : Scope → List Expr → net.Exp
items_exp S [] = text []
items_exp S (e ∷ es) = joined_items S (printed_item S e) es

abbrev pub print_name : (ended : Bool) → List ℕ
print_name ended = cond ended (codes "PrintPart") (codes "PrintLine")

-- ---- lines by their expressions

-- a call as a line; a name alone is called without arguments
abbrev pub as_call : net.Exp → net.Line
as_call (net.call_of callee args) = net.call callee args
as_call e = net.call e net.no_exps

abbrev pub call_line : Scope → List Expr → net.Line
call_line S [] = no_line
call_line S (e ∷ es) = as_call (exp_of S e)

abbrev pub assign_line : Scope → List Expr → net.Line
assign_line S (to ∷ e ∷ es) = store_line S to e
assign_line S _ = no_line

abbrev pub set_line : Scope → List Expr → net.Line
set_line S (to ∷ e ∷ es) = net.assign (target_exp S to) (exp_of S e)
set_line S _ = no_line

-- the first expression of a line
abbrev pub first_exp : Scope → List Expr → net.Exp
first_exp S [] = net.nothing
first_exp S (e ∷ es) = exp_of S e

abbrev pub rest_of : List Expr → List Expr
rest_of [] = []
rest_of (e ∷ es) = es

-- ---- Case

abbrev pub comparison : BinOp → NetBin
comparison b.NotEqual = op.NotEqual
comparison b.Less = op.Less
comparison b.Greater = op.Greater
comparison b.LessEqual = op.LessEqual
comparison b.GreaterEqual = op.GreaterEqual
comparison _ = op.Equal

abbrev pub case_items : Scope → List CaseItem → List Expr → List net.CaseItem
case_items S [] es = []
case_items S (source.case_value e ∷ items) es = net.case_value (first_exp S es) ∷ case_items S items (rest_of es)
case_items S (source.case_range e f ∷ items) es =
    net.case_range (first_exp S es) (first_exp S (rest_of es)) ∷ case_items S items (rest_of (rest_of es))
case_items S (source.case_is o e ∷ items) es = net.case_is (comparison o) (first_exp S es) ∷ case_items S items (rest_of es)

-- ---- For

abbrev pub step_exp : Scope → List Expr → Option net.Exp
step_exp S [] = None
step_exp S (e ∷ es) = Some (exp_of S e)

abbrev pub for_line : Scope → List Expr → net.Line
for_line S (counter ∷ start ∷ limit ∷ es) = net.for_head (exp_of S counter) (exp_of S start) (exp_of S limit) (step_exp S es)
for_line S _ = no_line

-- ---- ReDim and Erase

abbrev pub or_number : Option ℤ → ℤ → ℤ
or_number None z = z
or_number (Some y) z = y

-- the Option Base of the module
abbrev pub base : Scope → ℤ
base S = option_base_of S.declarations S.file

-- the lower bound that a ReDim gives: that of the array, and of what is no array the constant that stands there, or Option Base
abbrev pub resized_low : Scope → Option ℕ → (dimension : ℕ) → Extent → ℤ
resized_low S None d x = or_number (low_in (base S) x.0) (base S)
resized_low S (Some a) d x = S.facts.low a d

abbrev pub extent_exp : Scope → Option ℕ → (dimension : ℕ) → Extent → net.Exp
extent_exp S a d x = support_call (codes "Top") (two (exp_of S x.1) (low_exp (resized_low S a d x)))

-- those from a dimension on
abbrev pub extents_exps : Scope → Option ℕ → (dimension : ℕ) → List Extent → net.Exps
extents_exps S a d [] = net.no_exps
extents_exps S a d (x ∷ xs) = net.next_exp (extent_exp S a d x) (extents_exps S a (suc d) xs)

abbrev pub resized_array : Scope → Resize → net.ReDimItem
resized_array S r = record { array = exp_of S r.array; bounds = extents_exps S (declared_at S.declarations r.array) 0 r.extents }

-- an extent, which is -1 where there is no element
abbrev pub extent : ℤ → net.Exp
extent z = net.lit (net.integer z false)

-- as many extents of an empty array as it has dimensions
abbrev pub empty_extents : (rank : ℕ) → net.Exps
empty_extents zero = net.no_exps
empty_extents (suc rank) = net.next_exp (extent (negsuc 0)) (empty_extents rank)

abbrev pub erase_line : Scope → List Expr → net.Line
erase_line S [] = no_line
erase_line S (e ∷ es) =
    net.assign (exp_of S e)
    (net.new_array (written_type S (element_type (type_at e))) (empty_extents (rank_of S.facts (declared_at S.declarations e))))

-- ---- forms

abbrev pub exit_of : ExitKind → NetExit
exit_of leaving.Sub = out.Sub
exit_of leaving.Function = out.Function
exit_of leaving.Property = out.Property
exit_of leaving.For = out.For
exit_of leaving.Do = out.Do

-- the line that is written for a form with its expressions, in a procedure with these labels
abbrev pub line_of : Scope → List (Option Label) → Form → List Expr → net.Line
line_of S labels (source.assign target value) es = assign_line S es
line_of S labels (source.set target value) es = set_line S es
line_of S labels (source.call callee) es = call_line S es
line_of S labels (source.invoke callee args) es = call_line S es
line_of S labels (source.debug_print items ended) es = net.call (net.path (support (print_name ended))) (one (items_exp S es))
line_of S labels (source.if_head condition) es = net.if_head (first_exp S es)
line_of S labels (source.line_if condition) es = net.if_head (first_exp S es)
line_of S labels (source.else_if condition) es = net.else_if (first_exp S es)
line_of S labels source.else_line es = net.else_line
line_of S labels source.end_if es = net.end_if
line_of S labels (source.select value) es = net.select (first_exp S es)
line_of S labels (source.case_line items) es = net.case_line (case_items S items es)
line_of S labels source.case_else es = net.case_else
line_of S labels source.end_select es = net.end_select
line_of S labels (source.for_head counter start limit step) es = for_line S es
line_of S labels (source.next name) es = net.next
line_of S labels source.do_head es = net.do_head
line_of S labels (source.do_while condition) es = net.do_while (first_exp S es)
line_of S labels (source.do_until condition) es = net.do_until (first_exp S es)
line_of S labels source.loop es = net.loop
line_of S labels (source.loop_while condition) es = net.loop_while (first_exp S es)
line_of S labels (source.loop_until condition) es = net.loop_until (first_exp S es)
line_of S labels (source.while_head condition) es = net.while_head (first_exp S es)
line_of S labels source.wend es = net.end_while
line_of S labels (source.with_head object) es = net.with_head (first_exp S es)
line_of S labels source.end_with es = net.end_with
line_of S labels (source.goto l) es = net.goto (jump labels l)
line_of S labels (source.label l) es = net.label (net_label (label_of l))
line_of S labels (source.on_error_goto l) es = net.on_error_goto (jump labels l)
line_of S labels source.on_error_goto_zero es = net.on_error_goto_zero
line_of S labels source.on_error_resume_next es = net.on_error_resume_next
line_of S labels source.resume es = net.resume
line_of S labels source.resume_next es = net.resume_next
line_of S labels (source.resume_at l) es = net.resume_at (jump labels l)
line_of S labels (source.exit kind) es = net.exit (exit_of kind)
line_of S labels (source.redim preserve items) es = net.redim preserve (map (resized_array S) (resizes items es))
line_of S labels (source.erase array) es = erase_line S es
line_of S labels _ es = no_line

-- ---- lines that break a rule

-- the rules that replace a code line
abbrev pub replacing : List ℕ
replacing = 1 ∷ 2 ∷ 3 ∷ 4 ∷ 5 ∷ 6 ∷ 11 ∷ 15 ∷ 18 ∷ 19 ∷ 20 ∷ 21 ∷ 22 ∷ 25 ∷ []

-- the least of these that a line breaks
abbrev pub replaced_by : RuleSet → Option ℕ
replaced_by rules = first (has rules) replacing

abbrev pub not_upgraded : (rule : ℕ) → net.Exp
not_upgraded n = support_call (codes "NotUpgraded") (one (number n))

abbrev pub flagged_condition : (rule : ℕ) → net.Exp
flagged_condition n = net.binary op.NotEqual (not_upgraded n) (number 0)

-- the counter of a For whose head is replaced, by its number in the procedure from 1
abbrev pub counter_name : ℕ → List ℕ
counter_name k = codes "_f" ++ decimal k

abbrev pub flagged_for : (rule k : ℕ) → net.Line
flagged_for n k = net.for_head (net.path (alone (counter_name k))) (number 1) (not_upgraded n) None

-- what opens, parts and closes blocks goes on doing so
abbrev pub flagged_line : (rule k : ℕ) → Form → net.Line
flagged_line n k (source.if_head condition) = net.if_head (flagged_condition n)
flagged_line n k (source.line_if condition) = net.if_head (flagged_condition n)
flagged_line n k (source.else_if condition) = net.else_if (flagged_condition n)
flagged_line n k source.else_line = net.else_line
flagged_line n k source.end_if = net.end_if
flagged_line n k (source.select value) = net.select (not_upgraded n)
flagged_line n k (source.case_line items) = net.case_line (net.case_value (not_upgraded n) ∷ [])
flagged_line n k source.case_else = net.case_else
flagged_line n k source.end_select = net.end_select
flagged_line n k (source.for_head counter start limit step) = flagged_for n k
flagged_line n k (source.for_each name suffix items) = flagged_for n k
flagged_line n k (source.next name) = net.next
flagged_line n k source.do_head = net.do_head
flagged_line n k (source.do_while condition) = net.do_while (flagged_condition n)
flagged_line n k (source.do_until condition) = net.do_until (flagged_condition n)
flagged_line n k source.loop = net.loop
flagged_line n k (source.loop_while condition) = net.loop_while (flagged_condition n)
flagged_line n k (source.loop_until condition) = net.loop_until (flagged_condition n)
flagged_line n k (source.while_head condition) = net.while_head (flagged_condition n)
flagged_line n k source.wend = net.end_while
flagged_line n k (source.with_head object) = net.with_head (not_upgraded n)
flagged_line n k source.end_with = net.end_with
flagged_line n k _ = net.call (net.path (support (codes "NotUpgraded"))) (one (number n))

abbrev pub is_for : Form → Bool
is_for (source.for_head counter start limit step) = true
is_for (source.for_each name suffix items) = true
is_for _ = false

-- whether a line is written as a For with a counter of its own
abbrev pub is_flagged_for : RuleSet → Form → Bool
is_flagged_for rules f = is_for f && is_some (replaced_by rules)

abbrev pub line_by : Scope → List (Option Label) → (k : ℕ) → Form → List Expr → Option ℕ → net.Line
line_by S labels k f es None = line_of S labels f es
line_by S labels k f es (Some n) = flagged_line n k f

-- the line that is written for a code line that breaks these rules; k numbers the For heads that are replaced
abbrev pub written_line : Scope → List (Option Label) → RuleSet → (k : ℕ) → Line → net.Line
written_line S labels rules k l = line_by S labels k l.source.form l.bindings.exprs (replaced_by rules)
