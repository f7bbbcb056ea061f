-- How a line of a procedure is read.
use Rattle.std.specs.Prelude.{ℕ, zero, suc, Bool, true, false, cond, List, [], ◌∷◌, length, drop, codes, Option, Some, None, option_map, option_and_then}
use Rattle.net_tree.specs.declared.expression.NetBin.{NetBin}
use Rattle.net_tree.specs.declared.expression.NetBin.TheVariants as op
use Rattle.net_tree.specs.declared.line.NetExit.{NetExit}
use Rattle.net_tree.specs.declared.line.NetExit.TheVariants as leaving
use Rattle.net_tree.specs.declared.line.NetLabel.{NetLabel}
use Rattle.net_tree.specs.declared.line.NetLabel.TheVariants.{Word, Number}
use Rattle.net_tree.specs.Tree.{CaseItem, Exp, Line, ReDimItem, assign, call, call_of, case_else, case_is, case_line, case_range, case_value, comment, do_head, do_until, do_while, else_if, else_line, end_if, end_select, end_while, end_with, exit, for_head, goto, if_head, label, loop, loop_until, loop_while, next, on_error_goto, on_error_goto_zero, on_error_resume_next, redim, resume, resume_at, resume_next, select, while_head, with_head}
use Rattle.net_tree.specs.Depth.{most_nested}
use Rattle.net_exprs.specs.Names.{label_at}
use Rattle.net_exprs.specs.Expressions.{exp_within}
use Rattle.net_exprs.specs.Ends.{begins_with}
use Rattle.net_exprs.specs.Readers.{look_up}
use Rattle.net_reader.specs.FileLines.{units_in}
use Rattle.net_reader.specs.Items.{items_at}
use Rattle.net_reader.specs.Words as w
use Rattle.net_reader.specs.Words.{behind_word, ends_with, keyword_at}

-- an expression that is nested no deeper than one that can stand in a line
unfoldable pub exp_at : List ℕ → Option (Exp × List ℕ)
exp_at text = exp_within most_nested text

abbrev pub label_in : List ℕ → Option NetLabel
label_in text = option_map (λ (r : NetLabel × List ℕ). r.0) (label_at text)

-- the line behind an End
abbrev pub end_of : Option w.Word → Option Line
end_of (Some w.if_word) = Some end_if
end_of (Some w.select_word) = Some end_select
end_of (Some w.while_word) = Some end_while
end_of (Some w.with_word) = Some end_with
end_of _ = None

-- where an error is sent to: the label 0 is none
abbrev pub handler_of : NetLabel → Line
handler_of (Word name) = on_error_goto (Word name)
handler_of (Number zero) = on_error_goto_zero
handler_of (Number (suc n)) = on_error_goto (Number (suc n))

-- an On Error, by the word behind it and what follows that
abbrev pub on_error_of : Option w.Word → List ℕ → Option Line
on_error_of (Some w.goto_word) text = option_map handler_of (label_in text)
on_error_of (Some w.resume_word) text = Some on_error_resume_next
on_error_of _ text = None

-- a Resume, by the word behind it and the text there
abbrev pub resume_of : Option w.Word → List ℕ → Option Line
resume_of None [] = Some resume
resume_of None (c ∷ cs) = option_map resume_at (label_in (c ∷ cs))
resume_of (Some w.next_word) text = Some resume_next
resume_of (Some _) text = None

abbrev pub exit_of : Option w.Word → Option NetExit
exit_of (Some w.sub_word) = Some leaving.Sub
exit_of (Some w.function_word) = Some leaving.Function
exit_of (Some w.property_word) = Some leaving.Property
exit_of (Some w.for_word) = Some leaving.For
exit_of (Some w.do_word) = Some leaving.Do
exit_of _ = None

-- what stands before the first blank
abbrev pub before_blank : List ℕ → List ℕ
before_blank [] = []
before_blank (c ∷ cs) = cond (begins_with 32 (c ∷ cs)) [] (c ∷ before_blank cs)

abbrev pub comparisons : List (List ℕ × NetBin)
comparisons =
    (codes "=", op.Equal) ∷ (codes "<>", op.NotEqual) ∷ (codes "<", op.Less) ∷ (codes ">", op.Greater) ∷ (codes "<=", op.LessEqual)
    ∷ (codes ">=", op.GreaterEqual) ∷ []

-- an array with its bounds, which reads as a call
abbrev pub redim_item_of : Exp → List ℕ → Option (ReDimItem × List ℕ)
redim_item_of (call_of array bounds) text = Some (record { array = array; bounds = bounds }, text)
redim_item_of _ text = None

-- a line that is an expression is a call
abbrev pub call_in : Exp → Option Line
call_in (call_of callee arguments) = Some (call callee arguments)
call_in _ = None

-- the expression that a text begins with, whatever stands behind it
abbrev pub exp_in : List ℕ → Option Exp
exp_in text = option_map (λ (r : Exp × List ℕ). r.0) (exp_at text)

-- a Do and a Loop, by the word behind them and what follows it
abbrev pub do_of : Option w.Word → List ℕ → Option Line
do_of None text = Some do_head
do_of (Some w.while_word) text = option_map do_while (exp_in text)
do_of (Some w.until_word) text = option_map do_until (exp_in text)
do_of (Some _) text = None

abbrev pub loop_of : Option w.Word → List ℕ → Option Line
loop_of None text = Some loop
loop_of (Some w.while_word) text = option_map loop_while (exp_in text)
loop_of (Some w.until_word) text = option_map loop_until (exp_in text)
loop_of (Some _) text = None

abbrev pub step_in : List ℕ → Option (Option Exp)
step_in [] = Some None
step_in (c ∷ cs) = option_map (λ (e : Exp). Some e) (exp_in (drop 6 (c ∷ cs)))

-- the counter of a For, its limits and its step
abbrev pub for_in : List ℕ → Option Line
for_in text = option_and_then (λ (c : Exp × List ℕ). option_and_then (λ (from : Exp × List ℕ). option_and_then (λ (to : Exp × List ℕ).
    option_map (for_head c.0 from.0 to.0) (step_in to.1)) (exp_at (drop 4 from.1))) (exp_at (drop 3 c.1))) (exp_at text)

-- a comparison, by its sign and what stands behind it
abbrev pub case_is_of : Option NetBin → List ℕ → Option (CaseItem × List ℕ)
case_is_of None text = None
case_is_of (Some o) text = option_map (λ (r : Exp × List ℕ). (case_is o r.0, r.1)) (exp_at text)

abbrev pub case_is_at : List ℕ → Option (CaseItem × List ℕ)
case_is_at text = case_is_of (look_up (before_blank text) comparisons) (drop 1 (drop (length (before_blank text)) text))

-- a value, or a range where a To follows
abbrev pub case_value_of : Exp → List ℕ → Option (CaseItem × List ℕ)
case_value_of e text =
    cond (begins_with 32 text) (option_map (λ (r : Exp × List ℕ). (case_range e r.0, r.1)) (exp_at (drop 4 text))) (Some (case_value e, text))

abbrev pub case_item_by : Option w.Word → List ℕ → Option (CaseItem × List ℕ)
case_item_by (Some w.is_word) text = case_is_at (drop 3 text)
case_item_by (Some _) text = None
case_item_by None text = option_and_then (λ (r : Exp × List ℕ). case_value_of r.0 r.1) (exp_at text)

abbrev pub case_item_at : List ℕ → Option (CaseItem × List ℕ)
case_item_at text = case_item_by (keyword_at text) text

-- a Case, by the word behind it and the text there
abbrev pub case_of : Option w.Word → List ℕ → Option Line
case_of (Some w.else_word) text = Some case_else
case_of _ text = option_map (λ (r : List CaseItem × List ℕ). case_line r.0) (items_at case_item_at (suc (length text)) text)

abbrev pub redim_item_at : List ℕ → Option (ReDimItem × List ℕ)
redim_item_at text = option_and_then (λ (r : Exp × List ℕ). redim_item_of r.0 r.1) (exp_at text)

abbrev pub redim_in : Bool → List ℕ → Option Line
redim_in preserve text = option_map (λ (r : List ReDimItem × List ℕ). redim preserve r.0) (items_at redim_item_at (suc (length text)) text)

abbrev pub redim_by : Option w.Word → List ℕ → Option Line
redim_by None text = redim_in false text
redim_by (Some w.preserve_word) text = redim_in true (drop 9 text)
redim_by (Some _) text = None

-- the line that a word begins, by what stands behind the word and a blank
abbrev pub line_of_word : w.Word → List ℕ → Option Line
line_of_word w.if_word text = option_map if_head (exp_in text)
line_of_word w.else_if_word text = option_map else_if (exp_in text)
line_of_word w.else_word text = Some else_line
line_of_word w.end_word text = end_of (keyword_at text)
line_of_word w.select_word text = option_map select (exp_in (drop 5 text))
line_of_word w.case_word text = case_of (keyword_at text) text
line_of_word w.for_word text = for_in text
line_of_word w.next_word text = Some next
line_of_word w.do_word text = do_of (keyword_at text) (drop 6 text)
line_of_word w.loop_word text = loop_of (keyword_at text) (drop 6 text)
line_of_word w.while_word text = option_map while_head (exp_in text)
line_of_word w.with_word text = option_map with_head (exp_in text)
line_of_word w.goto_word text = option_map goto (label_in text)
line_of_word w.on_word text = on_error_of (keyword_at (drop 6 text)) (drop 11 text)
line_of_word w.resume_word text = resume_of (keyword_at text) text
line_of_word w.exit_word text = option_map exit (exit_of (keyword_at text))
line_of_word w.redim_word text = redim_by (keyword_at text) text
line_of_word _ text = None

-- a call, or an assignment where text follows its first expression
abbrev pub statement_of : Exp → List ℕ → Option Line
statement_of e [] = call_in e
statement_of e (c ∷ cs) = option_map (assign e) (exp_in (drop 3 (c ∷ cs)))

-- the line that no word begins: a label has a colon at its end
abbrev pub plain_line : List ℕ → Option Line
plain_line text =
    cond (ends_with 58 text) (option_map label (label_in text)) (option_and_then (λ (r : Exp × List ℕ). statement_of r.0 r.1) (exp_at text))

abbrev pub line_by : Option w.Word → List ℕ → Option Line
line_by None text = plain_line text
line_by (Some word) text = line_of_word word (drop 1 (behind_word text))

abbrev pub line_at : List ℕ → Option Line
line_at text = cond (begins_with 39 text) (option_map comment (units_in (drop 1 text))) (line_by (keyword_at text) text)
