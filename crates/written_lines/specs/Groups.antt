-- The forms of code lines in groups, and what is written for those of each.
use Rattle.std.specs.Prelude.{ℕ, List, [], ◌∷◌, map, codes, Option, Some, None}
use Rattle.vb_tree.specs.Tree.{Form}
use Rattle.vb_tree.specs.Tree as source
use Rattle.bound_tree.specs.Labels.{Label, label_of}
use Rattle.bound_tree.specs.Tree.{Expr}
use Rattle.bound_facts.specs.Node.{declared_at, type_at}
use Rattle.bound_facts.specs.Parts.{resizes}
use Rattle.net_tree.specs.Tree as net
use Rattle.written_trees.specs.Conversions.{one}
use Rattle.written_trees.specs.Lines as rows
use Rattle.written_trees.specs.Literals.{number}
use Rattle.written_trees.specs.Names.{Scope, support}
use Rattle.written_trees.specs.Puts.{rank_of}
use Rattle.written_trees.specs.Types.{element_type, written_type}
use Rattle.written_lines.specs.declared.blocks.Head.{Head}
use Rattle.written_lines.specs.declared.blocks.Head.TheVariants as head

abbrev pub or_line : Option net.Line → net.Line → net.Line
or_line None l = l
or_line (Some m) l = m

-- ---- blocks

-- the lines of blocks that have no expression
abbrev pub plain_line : Form → Option net.Line
plain_line source.else_line = Some net.else_line
plain_line source.end_if = Some net.end_if
plain_line source.case_else = Some net.case_else
plain_line source.end_select = Some net.end_select
plain_line (source.next name) = Some net.next
plain_line source.do_head = Some net.do_head
plain_line source.loop = Some net.loop
plain_line source.wend = Some net.end_while
plain_line source.end_with = Some net.end_with
plain_line _ = None

-- those that have one
abbrev pub head_of : Form → Option Head
head_of (source.if_head condition) = Some head.If
head_of (source.line_if condition) = Some head.If
head_of (source.else_if condition) = Some head.ElseIf
head_of (source.select value) = Some head.Select
head_of (source.do_while condition) = Some head.DoWhile
head_of (source.do_until condition) = Some head.DoUntil
head_of (source.loop_while condition) = Some head.LoopWhile
head_of (source.loop_until condition) = Some head.LoopUntil
head_of (source.while_head condition) = Some head.While
head_of (source.with_head object) = Some head.With
head_of _ = None

abbrev pub headed : Head → net.Exp → net.Line
headed head.If a = net.if_head a
headed head.ElseIf a = net.else_if a
headed head.Select a = net.select a
headed head.DoWhile a = net.do_while a
headed head.DoUntil a = net.do_until a
headed head.LoopWhile a = net.loop_while a
headed head.LoopUntil a = net.loop_until a
headed head.While a = net.while_head a
headed head.With a = net.with_head a

abbrev pub headed_line : Option Head → net.Exp → Option net.Line
headed_line None a = None
headed_line (Some h) a = Some (headed h a)

-- ---- jumps

abbrev pub jump_line : List (Option Label) → Form → Option net.Line
jump_line labels (source.goto l) = Some (net.goto (rows.jump labels l))
jump_line labels (source.label l) = Some (net.label (rows.net_label (label_of l)))
jump_line labels (source.on_error_goto l) = Some (net.on_error_goto (rows.jump labels l))
jump_line labels source.on_error_goto_zero = Some net.on_error_goto_zero
jump_line labels source.on_error_resume_next = Some net.on_error_resume_next
jump_line labels source.resume = Some net.resume
jump_line labels source.resume_next = Some net.resume_next
jump_line labels (source.resume_at l) = Some (net.resume_at (rows.jump labels l))
jump_line labels (source.exit kind) = Some (net.exit (rows.exit_of kind))
jump_line labels _ = None

-- ---- the rest

abbrev pub statement_line : Scope → Form → List Expr → net.Line
statement_line S (source.assign target value) es = rows.assign_line S es
statement_line S (source.set target value) es = rows.set_line S es
statement_line S (source.call callee) es = rows.call_line S es
statement_line S (source.invoke callee args) es = rows.call_line S es
statement_line S (source.debug_print items ended) es = net.call (net.path (support (rows.print_name ended))) (one (rows.items_exp S es))
statement_line S (source.case_line items) es = net.case_line (rows.case_items S items es)
statement_line S (source.for_head counter start limit step) es = rows.for_line S es
statement_line S (source.redim preserve items) es = net.redim preserve (map (rows.resized_array S) (resizes items es))
statement_line S (source.erase array) es = rows.erase_line S es
statement_line S _ es = rows.no_line

-- an array of the type of an expression that has no element
abbrev pub erased : Scope → Expr → net.Exp
erased S e = net.new_array (written_type S (element_type (type_at e))) (rows.empty_extents (rank_of S.facts (declared_at S.declarations e)))

-- ---- lines that break a rule

abbrev pub flagged_value : (rule : ℕ) → Head → net.Exp
flagged_value n head.Select = rows.not_upgraded n
flagged_value n head.With = rows.not_upgraded n
flagged_value n _ = rows.flagged_condition n

abbrev pub flagged_call : (rule : ℕ) → net.Line
flagged_call n = net.call (net.path (support (codes "NotUpgraded"))) (one (number n))

abbrev pub flagged_case : (rule : ℕ) → net.Line
flagged_case n = net.case_line (net.case_value (rows.not_upgraded n) ∷ [])

-- those that are no lines of blocks with one expression or without
abbrev pub flagged_other : (rule k : ℕ) → Form → net.Line
flagged_other n k (source.for_head counter start limit step) = rows.flagged_for n k
flagged_other n k (source.for_each name suffix items) = rows.flagged_for n k
flagged_other n k (source.case_line items) = flagged_case n
flagged_other n k _ = flagged_call n

abbrev pub flagged_head : (rule : ℕ) → Option Head → net.Line → net.Line
flagged_head n None l = l
flagged_head n (Some h) l = headed h (flagged_value n h)
