-- Lines of procedures are read back.
use Rattle.std.proofs.Common.{◌≡◌, ℕ, zero, suc, Bool, true, false, not, ◌&&◌, ◌==◌, List, [], ◌∷◌, ◌++◌, length, map, codes, refl, sym, ap, ◌∙◌, append_assoc, append-nil, Option, Some}
use Rattle.std.specs.Prelude.{drop, option_map, option_and_then}
use Rattle.std.specs.List.{list_all}
use Rattle.std.proofs.lemmas.Bool.{not-true}
use Rattle.net_tree.specs.declared.expression.NetBin.{NetBin}
use Rattle.net_tree.specs.declared.expression.NetBin.TheVariants as op
use Rattle.net_tree.specs.declared.line.NetExit.{NetExit}
use Rattle.net_tree.specs.declared.line.NetExit.TheVariants as leaving
use Rattle.net_tree.specs.declared.line.NetLabel.{NetLabel}
use Rattle.net_tree.specs.declared.line.NetLabel.TheVariants.{Word, Number}
use Rattle.net_tree.specs.Tree.{CaseItem, Exp, Line, ReDimItem, assign, call, call_of, case_else, case_is, case_line, case_range, case_value, comment, do_head, do_until, do_while, else_if, else_line, end_if, end_select, end_while, end_with, exit, for_head, goto, if_head, label, loop, loop_until, loop_while, next, on_error_goto, on_error_goto_zero, on_error_resume_next, redim, resume, resume_at, resume_next, select, while_head, with_head}
use Rattle.net_tree.specs.Spelling.{label_text, separated, is_handler_label, is_label}
use Rattle.net_tree.specs.Depth.{is_shallow}
use Rattle.net_tree.specs.Expressions.{exp_text, is_writable_exp, is_writable_whole}
use Rattle.net_tree.specs.Lines.{case_item_text, is_writable_case, is_writable_line, is_writable_option, is_writable_redim, line_text, redim_item_text, step_text}
use Rattle.net_exprs.specs.Ends.{begins_with, ends_expression, ends_name}
use Rattle.net_exprs.specs.Fitting.{fits_exp, fits_label}
use Rattle.net_exprs.proofs.Words.{both_true, never}
use Rattle.phrase_laws.proofs.Numbers.{label_reads}
use Rattle.phrase_laws.proofs.ReadBack.{shallow_expression_reads}
use Rattle.net_reader.specs.Fits.{fits_case, fits_line, fits_option, fits_redim}
use Rattle.net_reader.specs.Items.{items_at}
use Rattle.net_reader.specs.LineReader.{case_item_at, case_item_by, case_of, case_value_of, exp_at, exp_in, for_in, handler_of, label_in, line_at, line_by, plain_line, redim_by, redim_in, redim_item_at, redim_item_of, resume_of, statement_of, step_in}
use Rattle.net_reader.specs.Words.{ends_with, keyword_at, line_words}
use Rattle.net_reader.proofs.Colons.{ends_both, ends_last, whole_ends}
use Rattle.net_reader.proofs.ItemsRead.{all_items_read}
use Rattle.net_reader.proofs.Openings.{Opens, begins_text, decimal_begins, digit_opens, whole_opens, name_opens, then_opens}
use Rattle.net_reader.proofs.Tests.{if_false, if_true, all_both}
use Rattle.net_reader.proofs.Units.{units_read}

-- ---- parts

label_reads_in : (l : NetLabel) (rest : List ℕ) → is_label l ≡ true → fits_label l ≡ true → ends_name rest ≡ true → label_in (label_text l ++ rest) ≡ Some l
label_reads_in l rest h k ends = ap (option_map (λ (r : NetLabel × List ℕ). r.0)) (label_reads l rest h k ends)

label_reads_all : (l : NetLabel) → is_label l ≡ true → fits_label l ≡ true → label_in (label_text l) ≡ Some l
label_reads_all l h k = ap label_in (sym (append-nil (label_text l))) ∙ label_reads_in l [] h k refl

pub label_opens : (l : NetLabel) → is_label l ≡ true → Opens (label_text l)
label_opens (Word name) h = name_opens name h
label_opens (Number n) h = digit_opens _ (decimal_begins n)

pub no_keyword : (text : List ℕ) → Opens text → keyword_at text ≡ Option.None
no_keyword text o = ap keyword_at (sym (append-nil text)) ∙ o.word [] refl

no_mark : (text : List ℕ) → begins_text text ≡ true → begins_with 39 text ≡ false
no_mark [] h = never h
no_mark (c ∷ cs) h = not-true (c == 39) (both_true (not (c == 32)) (not (c == 39)) h).1

-- what stands behind the first item
abbrev pub behind_first : {X : Type 0} → (X → List ℕ) → List X → List ℕ
behind_first text_of [] = []
behind_first text_of (y ∷ ys) = 44 ∷ 32 ∷ separated (codes ", ") (map text_of (y ∷ ys))

pub first_item : {X : Type 0} (text_of : X → List ℕ) (x : X) (xs : List X) → separated (codes ", ") (map text_of (x ∷ xs)) ≡ text_of x ++ behind_first text_of xs
first_item text_of x [] = sym (append-nil (text_of x))
first_item text_of x (y ∷ ys) = append_assoc (text_of x) (codes ", ") (separated (codes ", ") (map text_of (y ∷ ys)))

behind_first_ends : {X : Type 0} (text_of : X → List ℕ) (xs : List X) → ends_name (behind_first text_of xs) ≡ true
behind_first_ends text_of [] = refl
behind_first_ends text_of (y ∷ ys) = refl

expression_reads : (e : Exp) (rest : List ℕ) → is_writable_whole e ≡ true → fits_exp e ≡ true → ends_expression rest ≡ true →
    exp_at (exp_text e ++ rest) ≡ Some (e, rest)
unfolding exp_at
expression_reads e rest h k ends =
    let parts = both_true (is_shallow e) (is_writable_exp e) h in
    shallow_expression_reads e rest parts.0 parts.1 k ends

pub exp_reads_in : (e : Exp) (rest : List ℕ) → is_writable_whole e ≡ true → fits_exp e ≡ true → ends_expression rest ≡ true → exp_in (exp_text e ++ rest) ≡ Some e
exp_reads_in e rest h k ends = ap (option_map (λ (r : Exp × List ℕ). r.0)) (expression_reads e rest h k ends)

pub exp_reads : (e : Exp) → is_writable_whole e ≡ true → fits_exp e ≡ true → exp_in (exp_text e) ≡ Some e
exp_reads e h k = ap exp_in (sym (append-nil (exp_text e))) ∙ exp_reads_in e [] h k refl

-- a line that opens with no word and ends with no colon
plain_reads : (text : List ℕ) → Opens text → line_at text ≡ plain_line text
plain_reads text o =
    if_false (begins_with 39 text) _ (line_by (keyword_at text) text) (no_mark text o.begins) ∙ ap (λ k. line_by k text) (no_keyword text o)

statement_reads : (text : List ℕ) → Opens text → ends_with 58 text ≡ false → line_at text ≡ option_and_then (λ (r : Exp × List ℕ). statement_of r.0 r.1) (exp_at text)
statement_reads text o other = plain_reads text o ∙ if_false (ends_with 58 text) _ _ other

-- ---- a statement of expressions

assign_reads : (a b : Exp) → is_writable_whole a ≡ true → is_writable_whole b ≡ true → fits_exp a ≡ true → fits_exp b ≡ true →
    line_at (line_text (assign a b)) ≡ Some (assign a b)
assign_reads a b h i k l =
    let behind = codes " = " ++ exp_text b in
    let again : exp_text a ++ codes " = " ++ exp_text b ≡ exp_text a ++ (codes " = " ++ exp_text b) = append_assoc (exp_text a) (codes " = ") (exp_text b) in
    ap line_at again
    ∙ statement_reads (exp_text a ++ (codes " = " ++ exp_text b)) (then_opens (exp_text a) (codes " = " ++ exp_text b) (whole_opens a h) (λ rest. refl))
    (ends_both (exp_text a) (codes " = " ++ exp_text b) (whole_ends a h) (ends_both (codes " = ") (exp_text b) refl (whole_ends b i)))
    ∙ ap (option_and_then (λ (r : Exp × List ℕ). statement_of r.0 r.1)) (expression_reads a (codes " = " ++ exp_text b) h k refl)
    ∙ ap (option_map (assign a)) (exp_reads b i l)

call_reads : (e : Exp) → is_writable_whole e ≡ true → fits_exp e ≡ true → line_at (exp_text e) ≡ statement_of e []
call_reads e h k =
    statement_reads (exp_text e) (whole_opens e h) (whole_ends e h)
    ∙ ap (λ text. option_and_then (λ (r : Exp × List ℕ). statement_of r.0 r.1) (exp_at text)) (sym (append-nil (exp_text e)))
    ∙ ap (option_and_then (λ (r : Exp × List ℕ). statement_of r.0 r.1)) (expression_reads e [] h k refl)

label_line_reads : (l : NetLabel) → is_label l ≡ true → fits_label l ≡ true → line_at (label_text l ++ codes ":") ≡ Some (label l)
label_line_reads l h k =
    plain_reads (label_text l ++ codes ":") (then_opens (label_text l) (codes ":") (label_opens l h) (λ rest. refl))
    ∙ if_true (ends_with 58 (label_text l ++ codes ":")) _ _ (ends_last (label_text l) 58 [])
    ∙ ap (option_map label) (label_reads_in l (codes ":") h k refl)

-- ---- For

for_again : (c from to step : List ℕ) → c ++ codes " = " ++ from ++ codes " To " ++ to ++ step ≡ c ++ (codes " = " ++ (from ++ (codes " To " ++ (to ++ step))))
for_again c from to step = simp append_assoc

step_reads : (step : Option Exp) → is_writable_option step ≡ true → fits_option step ≡ true → step_in (step_text step) ≡ Some step
step_reads Option.None h k = refl
step_reads (Some e) h k = ap (option_map (λ (e : Exp). Some e)) (exp_reads e h k)

step_ends : (step : Option Exp) → ends_expression (step_text step) ≡ true
step_ends Option.None = refl
step_ends (Some e) = refl

for_reads : (c from to : Exp) (step : Option Exp) →
    is_writable_whole c && is_writable_whole from && is_writable_whole to && is_writable_option step ≡ true →
    fits_exp c && fits_exp from && fits_exp to && fits_option step ≡ true →
    line_at (line_text (for_head c from to step)) ≡ Some (for_head c from to step)
unfolding line_words
for_reads c from to step h k =
    let writable_three = both_true (is_writable_whole c && is_writable_whole from && is_writable_whole to) (is_writable_option step) h in
    let writable_two = both_true (is_writable_whole c && is_writable_whole from) (is_writable_whole to) writable_three.0 in
    let writable = both_true (is_writable_whole c) (is_writable_whole from) writable_two.0 in
    let fit_three = both_true (fits_exp c && fits_exp from && fits_exp to) (fits_option step) k in
    let fit_two = both_true (fits_exp c && fits_exp from) (fits_exp to) fit_three.0 in
    let fit = both_true (fits_exp c) (fits_exp from) fit_two.0 in
    ap for_in (for_again (exp_text c) (exp_text from) (exp_text to) (step_text step))
    ∙ ap (option_and_then (λ (c : Exp × List ℕ). option_and_then (λ (from : Exp × List ℕ). option_and_then (λ (to : Exp × List ℕ).
    option_map (for_head c.0 from.0 to.0) (step_in to.1)) (exp_at (drop 4 from.1))) (exp_at (drop 3 c.1))))
    (expression_reads c (codes " = " ++ (exp_text from ++ (codes " To " ++ (exp_text to ++ step_text step)))) writable.0 fit.0 refl)
    ∙ ap (option_and_then (λ (from : Exp × List ℕ). option_and_then (λ (to : Exp × List ℕ).
    option_map (for_head c from.0 to.0) (step_in to.1)) (exp_at (drop 4 from.1))))
    (expression_reads from (codes " To " ++ (exp_text to ++ step_text step)) writable.1 fit.1 refl)
    ∙ ap (option_and_then (λ (to : Exp × List ℕ). option_map (for_head c from to.0) (step_in to.1)))
    (expression_reads to (step_text step) writable_two.1 fit_two.1 (step_ends step))
    ∙ ap (option_map (for_head c from to)) (step_reads step writable_three.1 fit_three.1)

-- ---- Case

-- what may stand behind an item of a Case
abbrev ends_item : List ℕ → Bool
ends_item rest = ends_expression rest && not (begins_with 32 rest)

abbrev is_read_case : CaseItem → Bool
is_read_case item = is_writable_case item && fits_case item

exp_ends_name : (rest : List ℕ) → ends_expression rest ≡ true → ends_name rest ≡ true
exp_ends_name [] h = refl
exp_ends_name (c ∷ cs) h = (both_true _ _ (both_true _ _ (both_true _ _ (both_true _ _ h).0).0).0).0

compared : (o : NetBin) (e : Exp) (rest : List ℕ) → is_writable_whole e && fits_exp e ≡ true → ends_expression rest ≡ true →
    option_map {U = CaseItem × List ℕ} (λ (r : Exp × List ℕ). (case_is o r.0, r.1)) (exp_at (exp_text e ++ rest)) ≡ Some (case_is o e, rest)
compared o e rest h ends =
    let can = both_true (is_writable_whole e) (fits_exp e) h in
    ap (option_map {U = CaseItem × List ℕ} (λ (r : Exp × List ℕ). (case_is o r.0, r.1))) (expression_reads e rest can.0 can.1 ends)

case_is_reads : (o : NetBin) (e : Exp) (rest : List ℕ) → is_read_case (case_is o e) ≡ true → ends_expression rest ≡ true →
    case_item_at (case_item_text (case_is o e) ++ rest) ≡ Some (case_is o e, rest)
unfolding line_words
case_is_reads op.Equal e rest h ends = compared op.Equal e rest h ends
case_is_reads op.NotEqual e rest h ends = compared op.NotEqual e rest h ends
case_is_reads op.Less e rest h ends = compared op.Less e rest h ends
case_is_reads op.Greater e rest h ends = compared op.Greater e rest h ends
case_is_reads op.LessEqual e rest h ends = compared op.LessEqual e rest h ends
case_is_reads op.GreaterEqual e rest h ends = compared op.GreaterEqual e rest h ends
case_is_reads _ e rest h ends = never h

case_item_reads : (item : CaseItem) (rest : List ℕ) → is_read_case item ≡ true → ends_item rest ≡ true → case_item_at (case_item_text item ++ rest) ≡ Some (item, rest)
case_item_reads (case_value e) rest h ends =
    let can = both_true (is_writable_whole e) (fits_exp e) h in
    let end = both_true (ends_expression rest) (not (begins_with 32 rest)) ends in
    ap (λ k. case_item_by k (exp_text e ++ rest)) ((whole_opens e can.0).word rest (exp_ends_name rest end.0))
    ∙ ap (option_and_then (λ (r : Exp × List ℕ). case_value_of r.0 r.1)) (expression_reads e rest can.0 can.1 end.0)
    ∙ if_false (begins_with 32 rest) _ _ (not-true (begins_with 32 rest) end.1)
case_item_reads (case_range a b) rest h ends =
    let can = both_true (is_writable_whole a && is_writable_whole b) (fits_exp a && fits_exp b) h in
    let writable = both_true (is_writable_whole a) (is_writable_whole b) can.0 in
    let fit = both_true (fits_exp a) (fits_exp b) can.1 in
    let again : exp_text a ++ codes " To " ++ exp_text b ++ rest ≡ exp_text a ++ (codes " To " ++ (exp_text b ++ rest)) = simp append_assoc in
    ap case_item_at again
    ∙ ap (λ k. case_item_by k (exp_text a ++ (codes " To " ++ (exp_text b ++ rest)))) ((whole_opens a writable.0).word (codes " To " ++ (exp_text b ++ rest)) refl)
    ∙ ap (option_and_then (λ (r : Exp × List ℕ). case_value_of r.0 r.1)) (expression_reads a (codes " To " ++ (exp_text b ++ rest)) writable.0 fit.0 refl)
    ∙ ap (option_map (λ (r : Exp × List ℕ). (case_range a r.0, r.1))) (expression_reads b rest writable.1 fit.1 (both_true (ends_expression rest) _ ends).0)
case_item_reads (case_is o e) rest h ends = case_is_reads o e rest h (both_true (ends_expression rest) _ ends).0

abbrev cases_in : List ℕ → Option Line
cases_in text = option_map (λ (r : List CaseItem × List ℕ). case_line r.0) (items_at case_item_at (suc (length text)) text)

-- a Case begins with no Else
case_begins : (item : CaseItem) (rest text : List ℕ) → is_read_case item ≡ true → ends_name rest ≡ true →
    case_of (keyword_at (case_item_text item ++ rest)) text ≡ cases_in text
unfolding line_words
case_begins (case_value e) rest text h ends =
    ap (λ k. case_of k text) ((whole_opens e (both_true (is_writable_whole e) _ h).0).word rest ends)
case_begins (case_range a b) rest text h ends =
    let writable = both_true (is_writable_whole a && is_writable_whole b) (fits_exp a && fits_exp b) h in
    let again : exp_text a ++ codes " To " ++ exp_text b ++ rest ≡ exp_text a ++ (codes " To " ++ (exp_text b ++ rest)) = simp append_assoc in
    ap (λ z. case_of (keyword_at z) text) again
    ∙ ap (λ k. case_of k text) ((whole_opens a (both_true (is_writable_whole a) _ writable.0).0).word (codes " To " ++ (exp_text b ++ rest)) refl)
case_begins (case_is o e) rest text h ends = refl

case_reads : (x : CaseItem) (xs : List CaseItem) → list_all is_writable_case (x ∷ xs) ≡ true → list_all fits_case (x ∷ xs) ≡ true →
    line_at (line_text (case_line (x ∷ xs))) ≡ Some (case_line (x ∷ xs))
unfolding line_words
case_reads x xs h k =
    let all = all_both is_writable_case fits_case (x ∷ xs) h k in
    let text = separated (codes ", ") (map case_item_text (x ∷ xs)) in
    ap (λ z. case_of (keyword_at z) text) (first_item case_item_text x xs)
    ∙ case_begins x (behind_first case_item_text xs) text (both_true (is_read_case x) (list_all is_read_case xs) all).0 (behind_first_ends case_item_text xs)
    ∙ ap cases_in (sym (append-nil text))
    ∙ ap (option_map (λ (r : List CaseItem × List ℕ). case_line r.0)) (all_items_read case_item_at case_item_text is_read_case ends_item case_item_reads (λ more. refl) x xs [] all refl refl)

-- ---- ReDim

abbrev is_read_redim : ReDimItem → Bool
is_read_redim item = is_writable_redim item && fits_redim item

redim_item_reads : (item : ReDimItem) (rest : List ℕ) → is_read_redim item ≡ true → ends_expression rest ≡ true → redim_item_at (redim_item_text item ++ rest) ≡ Some (item, rest)
redim_item_reads item rest h ends =
    let can = both_true (is_writable_redim item) (fits_redim item) h in
    ap (option_and_then (λ (r : Exp × List ℕ). redim_item_of r.0 r.1)) (expression_reads (call_of item.array item.bounds) rest can.0 can.1 ends)

redim_reads : (preserve : Bool) (x : ReDimItem) (xs : List ReDimItem) → list_all is_writable_redim (x ∷ xs) ≡ true → list_all fits_redim (x ∷ xs) ≡ true →
    redim_in preserve (separated (codes ", ") (map redim_item_text (x ∷ xs))) ≡ Some (redim preserve (x ∷ xs))
redim_reads preserve x xs h k =
    let all = all_both is_writable_redim fits_redim (x ∷ xs) h k in
    ap (redim_in preserve) (sym (append-nil (separated (codes ", ") (map redim_item_text (x ∷ xs)))))
    ∙ ap (option_map (λ (r : List ReDimItem × List ℕ). redim preserve r.0))
    (all_items_read redim_item_at redim_item_text is_read_redim ends_expression redim_item_reads (λ more. refl) x xs [] all refl refl)

redim_begins : (x : ReDimItem) (xs : List ReDimItem) → is_writable_redim x ≡ true → keyword_at (separated (codes ", ") (map redim_item_text (x ∷ xs))) ≡ Option.None
redim_begins x xs h =
    ap keyword_at (first_item redim_item_text x xs)
    ∙ (whole_opens (call_of x.array x.bounds) h).word (behind_first redim_item_text xs) (behind_first_ends redim_item_text xs)

redim_line_reads : (preserve : Bool) (x : ReDimItem) (xs : List ReDimItem) → list_all is_writable_redim (x ∷ xs) ≡ true → list_all fits_redim (x ∷ xs) ≡ true →
    line_at (line_text (redim preserve (x ∷ xs))) ≡ Some (redim preserve (x ∷ xs))
unfolding line_words
redim_line_reads true x xs h k = redim_reads true x xs h k
redim_line_reads false x xs h k =
    ap (λ word. redim_by word (separated (codes ", ") (map redim_item_text (x ∷ xs)))) (redim_begins x xs (both_true (is_writable_redim x) (list_all is_writable_redim xs) h).0)
    ∙ redim_reads false x xs h k

-- ---- words alone, and one expression

resume_from : (text : List ℕ) → begins_text text ≡ true → resume_of Option.None text ≡ option_map resume_at (label_in text)
resume_from [] h = never h
resume_from (c ∷ cs) h = refl

resume_reads : (l : NetLabel) → is_label l ≡ true → fits_label l ≡ true → line_at (line_text (resume_at l)) ≡ Some (resume_at l)
unfolding line_words
resume_reads l h k =
    ap (λ word. resume_of word (label_text l)) (no_keyword (label_text l) (label_opens l h))
    ∙ resume_from (label_text l) (label_opens l h).begins
    ∙ ap (option_map resume_at) (label_reads_all l h k)

handler_label : (l : NetLabel) → is_handler_label l ≡ true → (is_label l ≡ true) × (handler_of l ≡ on_error_goto l)
handler_label (Word name) h = (h, refl)
handler_label (Number zero) h = never h
handler_label (Number (suc n)) h = (refl, refl)

exit_reads : (what : NetExit) → line_at (line_text (exit what)) ≡ Some (exit what)
unfolding line_words
exit_reads leaving.Sub = refl
exit_reads leaving.Function = refl
exit_reads leaving.Property = refl
exit_reads leaving.For = refl
exit_reads leaving.Do = refl

pub line_reads : (l : Line) → is_writable_line l ≡ true → fits_line l ≡ true → line_at (line_text l) ≡ Some l
unfolding line_words
line_reads (comment units) h k = ap (option_map comment) (units_read units h k)
line_reads (assign a b) h k =
    let writable = both_true (is_writable_whole a) (is_writable_whole b) h in
    let fit = both_true (fits_exp a) (fits_exp b) k in
    assign_reads a b writable.0 writable.1 fit.0 fit.1
line_reads (call callee arguments) h k = call_reads (call_of callee arguments) h k
line_reads (if_head e) h k = ap (option_map if_head) (exp_reads_in e (codes " Then") h k refl)
line_reads (else_if e) h k = ap (option_map else_if) (exp_reads_in e (codes " Then") h k refl)
line_reads else_line h k = refl
line_reads end_if h k = refl
line_reads (select e) h k = ap (option_map select) (exp_reads e h k)
line_reads (case_line []) h k = never h
line_reads (case_line (x ∷ xs)) h k = case_reads x xs h k
line_reads case_else h k = refl
line_reads end_select h k = refl
line_reads (for_head c from to step) h k = for_reads c from to step h k
line_reads next h k = refl
line_reads do_head h k = refl
line_reads (do_while e) h k = ap (option_map do_while) (exp_reads e h k)
line_reads (do_until e) h k = ap (option_map do_until) (exp_reads e h k)
line_reads loop h k = refl
line_reads (loop_while e) h k = ap (option_map loop_while) (exp_reads e h k)
line_reads (loop_until e) h k = ap (option_map loop_until) (exp_reads e h k)
line_reads (while_head e) h k = ap (option_map while_head) (exp_reads e h k)
line_reads end_while h k = refl
line_reads (with_head e) h k = ap (option_map with_head) (exp_reads e h k)
line_reads end_with h k = refl
line_reads (goto l) h k = ap (option_map goto) (label_reads_all l h k)
line_reads (label l) h k = label_line_reads l h k
line_reads (on_error_goto l) h k =
    let handler = handler_label l h in
    ap (option_map handler_of) (label_reads_all l handler.0 k) ∙ ap (λ (l : Line). Some l) handler.1
line_reads on_error_goto_zero h k = refl
line_reads on_error_resume_next h k = refl
line_reads resume h k = refl
line_reads resume_next h k = refl
line_reads (resume_at l) h k = resume_reads l h k
line_reads (exit what) h k = exit_reads what
line_reads (redim preserve []) h k = never h
line_reads (redim preserve (x ∷ xs)) h k = redim_line_reads preserve x xs h k
