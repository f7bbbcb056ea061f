-- Labels stand at the same lines.
use Rattle.std.proofs.Common.{nat_eq, ◌≡◌, ℕ, suc, ◌+◌, pos, negsuc, Bool, true, false, not, cond, List, [], ◌∷◌, map, Option, Some, None, option_map, refl, sym, ap, ◌∙◌}
use Rattle.std.specs.Prelude.{find, is_some, slice_get}
use Rattle.std.specs.Cmp.Lexicographic.{pointwise, bytes_decides}
use Rattle.std.specs.List.{list_all}
use Rattle.std.specs.Ordering.{int_eq}
use Rattle.std.proofs.lemmas.Bool.Decides.{Decides-int_eq}
use Rattle.up_base.specs.Names.{lower_case}
use Rattle.up_base.proofs.Lists.{all_first, all_more, all_rest}
use Rattle.vb_tree.specs.Blocks as source_blocks
use Rattle.vb_tree.specs.declared.form_parts.Label6.{Label6}
use Rattle.vb_tree.specs.FlatLines.{code_lines, flat_lines}
use Rattle.vb_tree.specs.Tree.{Form, Nodes}
use Rattle.vb_tree.specs.Tree as source
use Rattle.bound_tree.specs.Labels.{Label, word, number, label_of, label_in, labels, is_same_label, is_label, first_at, label_at}
use Rattle.bound_tree.specs.Tree.{Expr, Line, Program}
use Rattle.net_tree.specs.declared.declaration.NetClose.{NetClose}
use Rattle.net_tree.specs.FlatLines as net_flat
use Rattle.net_tree.specs.Tree as net
use Rattle.net_run.specs.Lines.{target_of}
use Rattle.net_run.specs.Members.{Code}
use Rattle.net_run.specs.Steps as net_steps
use Rattle.vb6_run.specs.Lines.{lines_in, source_lines}
use Rattle.written_trees.specs.Bodies.{inside_procedure, procedure_with, replaced_in}
use Rattle.written_trees.specs.Bodies as bound
use Rattle.written_trees.specs.Lines.{flagged_line, jump, line_by, line_of, meant, net_label, or_label, replaced_by}
use Rattle.written_trees.specs.Names.{Scope}
use Rattle.written_trees.specs.Placing.{Placed}
use Rattle.written_trees.specs.Prologues as prologues
use Rattle.written_trees.specs.Prologues.{code_sets}
use Rattle.target_laws.specs.Kept.{AreBound, code_of, is_unsigned, is_unsigned_in, keeps_label, written_from}
use Rattle.target_laws.proofs.Bodies.{bound_sources, enough_lines, enough_sets, lines_in_order, second_parts}
use Rattle.target_laws.proofs.Plain.{assigned, called, erased, object_set}

-- ---- labels

same_itself : (a : Label) → is_same_label a a ≡ true
same_itself (word name) = (bytes_decides (lower_case name) (lower_case name)).1 refl
same_itself (number n) = (Decides-int_eq n n).1 refl

-- the same label is found where a label is
same_label : (b a x : Label) → is_same_label b a ≡ true → is_same_label b x ≡ is_same_label a x
same_label (word b) (word a) (word x) e = ap (λ n. pointwise nat_eq n (lower_case x)) ((bytes_decides (lower_case b) (lower_case a)).0 e)
same_label (word b) (word a) (number x) e = refl
same_label (word b) (number a) x e = absurd (cc e)
same_label (number b) (word a) x e = absurd (cc e)
same_label (number b) (number a) (word x) e = refl
same_label (number b) (number a) (number x) e = ap (λ n. int_eq n x) ((Decides-int_eq b a).0 e)

same_is : (b a : Label) (l : Option Label) → is_same_label b a ≡ true → is_label b l ≡ is_label a l
same_is b a None e = refl
same_is b a (Some x) e = same_label b a x e

same_first : (b a : Label) (ls : List (Option Label)) (n : ℕ) → is_same_label b a ≡ true → first_at b ls n ≡ first_at a ls n
same_first b a [] n e = refl
same_first b a (l ∷ ls) n e =
    let one = same_is b a l e in
    let more = same_first b a ls (suc n) e in
    λ i. cond (one i) (Some n) (more i)

-- ---- the label that is meant

meant_same : (ls : List (Option Label)) (a : Label) → is_same_label a (meant ls a) ≡ true
meant_same [] a = same_itself a
meant_same (None ∷ ls) a = meant_same ls a
meant_same (Some x ∷ ls) a = by (is_same_label a x) refl (meant_same ls a)
  where
    by : (b : Bool) → is_same_label a x ≡ b → is_same_label a (meant ls a) ≡ true → is_same_label a (or_label a (cond b (Some (Some x)) (find (is_label a) ls))) ≡ true
    by true e more = e
    by false e more = more

meant_unsigned : (ls : List (Option Label)) (a : Label) → list_all is_unsigned_in ls ≡ true → is_unsigned a ≡ true → is_unsigned (meant ls a) ≡ true
meant_unsigned [] a h u = u
meant_unsigned (None ∷ ls) a h u = meant_unsigned ls a (all_rest is_unsigned_in None ls h) u
meant_unsigned (Some x ∷ ls) a h u = by (is_same_label a x) (all_first is_unsigned_in (Some x) ls h) (meant_unsigned ls a (all_rest is_unsigned_in (Some x) ls h) u)
  where
    by : (b : Bool) → is_unsigned x ≡ true → is_unsigned (meant ls a) ≡ true → is_unsigned (or_label a (cond b (Some (Some x)) (find (is_label a) ls))) ≡ true
    by true own more = own
    by false own more = more

-- ---- written labels

abbrev spelt : Label → Label
spelt a = net_steps.label_of (net_label a)

spelt_same : (a : Label) → is_unsigned a ≡ true → spelt a ≡ a
spelt_same (word name) h = refl
spelt_same (number (pos n)) h = refl
spelt_same (number (negsuc n)) h = absurd (cc h)

-- a label that is replaced is none
abbrev label_by : Option ℕ → Option Label → Option Label
label_by None l = option_map spelt l
label_by (Some n) l = None

abbrev label_for : prologues.Code → Option Label
label_for c = label_by (replaced_by c.0) (label_in c.1.source.form)

flagged_label : (n k : ℕ) (f : Form) → net_steps.label_in (flagged_line n k f) ≡ None
flagged_label n k (source.if_head condition) = refl
flagged_label n k _ = refl

form_label : (S : Scope) (ls : List (Option Label)) (f : Form) (es : List Expr) → net_steps.label_in (line_of S ls f es) ≡ option_map spelt (label_in f)
form_label S ls (source.assign target value) es = (assigned S es).is_no_label
form_label S ls (source.set target value) es = (object_set S es).is_no_label
form_label S ls (source.call callee) es = (called S es).is_no_label
form_label S ls (source.invoke callee args) es = (called S es).is_no_label
form_label S ls (source.erase array) es = (erased S es).is_no_label
form_label S ls (source.for_head counter start limit step) [] = refl
form_label S ls (source.for_head counter start limit step) (a ∷ []) = refl
form_label S ls (source.for_head counter start limit step) (a ∷ b ∷ []) = refl
form_label S ls (source.for_head counter start limit step) (a ∷ b ∷ c ∷ es) = refl
form_label S ls _ es = refl

label_is : (S : Scope) (ls : List (Option Label)) (k : ℕ) (f : Form) (es : List Expr) (o : Option ℕ) → net_steps.label_in (line_by S ls k f es o) ≡ label_by o (label_in f)
label_is S ls k f es None = form_label S ls f es
label_is S ls k f es (Some n) = flagged_label n k f

labels_written : (S : Scope) (ls : List (Option Label)) (k : ℕ) (code : List prologues.Code) → net_steps.labels (written_from S ls k code) ≡ map label_for code
labels_written S ls k [] = refl
labels_written S ls k (c ∷ code) =
    let one = label_is S ls (suc k) c.1.source.form c.1.bindings.exprs (replaced_by c.0) in
    let more = labels_written S ls (k + replaced_in (c ∷ [])) code in
    λ i. one i ∷ more i

-- ---- where a label is found

found_here : (a : Label) (o : Option ℕ) (l : Option Label) → is_unsigned_in l ≡ true → (is_label a l ≡ true → not (is_some o) ≡ true) → is_label a (label_by o l) ≡ is_label a l
found_here a None None u h = refl
found_here a None (Some x) u h = ap (is_same_label a) (spelt_same x u)
found_here a (Some n) None u h = refl
found_here a (Some n) (Some x) u h = by (is_same_label a x) h
  where
    by : (b : Bool) → (b ≡ true → false ≡ true) → false ≡ b
    by true h = h refl
    by false h = refl

same_place : (a : Label) (code : List prologues.Code) (n : ℕ) → list_all is_unsigned_in (map (λ (c : prologues.Code). label_in c.1.source.form) code) ≡ true → keeps_label a code ≡ true
    → first_at a (map label_for code) n ≡ first_at a (map (λ (c : prologues.Code). label_in c.1.source.form) code) n
same_place a [] n u h = refl
same_place a (c ∷ code) n u h =
    let l = label_in c.1.source.form in
    let ls = map (λ (c : prologues.Code). label_in c.1.source.form) code in
    by (is_label a (label_in c.1.source.form)) refl (all_first is_unsigned_in l ls u) h (same_place a code (suc n) (all_rest is_unsigned_in l ls u))
  where
    by : (b : Bool) → is_label a (label_in c.1.source.form) ≡ b → is_unsigned_in (label_in c.1.source.form) ≡ true → cond b (not (is_some (replaced_by c.0))) (keeps_label a code) ≡ true
        → (keeps_label a code ≡ true → first_at a (map label_for code) (suc n) ≡ first_at a (map (λ (c : prologues.Code). label_in c.1.source.form) code) (suc n))
        → cond (is_label a (label_for c)) (Some n) (first_at a (map label_for code) (suc n))
        ≡ cond b (Some n) (first_at a (map (λ (c : prologues.Code). label_in c.1.source.form) code) (suc n))
    by true e u h more = ap (λ b. cond b (Some n) (first_at a (map label_for code) (suc n))) (found_here a (replaced_by c.0) (label_in c.1.source.form) u (λ t. h) ∙ e)
    by false e u h more =
        ap (λ b. cond b (Some n) (first_at a (map label_for code) (suc n))) (found_here a (replaced_by c.0) (label_in c.1.source.form) u (λ t. absurd (cc (sym e ∙ t))) ∙ e)
        ∙ more h

-- ---- the labels of a procedure

unsigned_code : (ls : List source.Line) → list_all is_unsigned_in (labels ls) ≡ true → list_all is_unsigned_in (labels (code_lines ls)) ≡ true
unsigned_code [] h = refl
unsigned_code (l ∷ ls) h = by (source_blocks.is_code l.form) (all_first is_unsigned_in (label_in l.form) (labels ls) h) (unsigned_code ls (all_rest is_unsigned_in (label_in l.form) (labels ls) h))
  where
    by : (b : Bool) → is_unsigned_in (label_in l.form) ≡ true → list_all is_unsigned_in (labels (code_lines ls)) ≡ true
        → list_all is_unsigned_in (labels (cond b (l ∷ code_lines ls) (code_lines ls))) ≡ true
    by true own more = all_more is_unsigned_in (label_in l.form) (labels (code_lines ls)) own more
    by false own more = more

bound_labels : (ls : List Line) → map (λ (l : Line). label_in l.source.form) ls ≡ labels (source_lines ls)
bound_labels [] = refl
bound_labels (l ∷ ls) = ap (λ more. label_in l.source.form ∷ more) (bound_labels ls)

code_labels : (P : Program) (S : Scope) (p : Placed) (body : Nodes) → AreBound P p body
    → map (λ (c : prologues.Code). label_in c.1.source.form) (code_of P S p body) ≡ labels (lines_in (slice_get P.bodies p.at.procedure))
code_labels P S p body are =
    let ls = bound.lines_in (slice_get P.bodies p.at.procedure) in
    second_parts (λ (l : Line). label_in l.source.form) (code_sets S p.at.procedure (suc p.at.statement) 0 (flat_lines body)) ls (enough_sets P S p body (enough_lines P p body are))
    ∙ bound_labels ls
    ∙ ap labels (sym (bound_sources (slice_get P.bodies p.at.procedure)))

pub same_labels : (P : Program) (S : Scope) (p : Placed) (body : Nodes) (head : net.Head) (close : NetClose) (c : Code) (l : Label6)
    → c.procedure ≡ procedure_with P S p body head close
    → AreBound P p body
    → list_all is_unsigned_in (labels (flat_lines body)) ≡ true
    → is_unsigned (label_of l) ≡ true
    → keeps_label (label_of l) (code_of P S p body) ≡ true
    → target_of c (jump (labels (flat_lines body)) l) ≡ label_at (labels (lines_in (slice_get P.bodies p.at.procedure))) (label_of l)
same_labels P S p body head close c l is are unsigned own keeps =
    let a = label_of l in
    let ls = labels (flat_lines body) in
    let m = meant ls a in
    let code = code_of P S p body in
    let of_code = code_labels P S p body are in
    let sound = ap (list_all is_unsigned_in) (of_code ∙ ap labels are) ∙ unsigned_code (flat_lines body) unsigned in
    ap (λ (q : net.Procedure). label_at (net_steps.labels (net_flat.code_lines q)) (spelt m)) is
    ∙ ap (λ (xs : List net.Line). label_at (net_steps.labels xs) (spelt m)) (lines_in_order P S p body head close)
    ∙ ap (λ (xs : List (Option Label)). label_at xs (spelt m)) (labels_written (inside_procedure S p.at.procedure) ls 0 code)
    ∙ ap (label_at (map label_for code)) (spelt_same m (meant_unsigned ls a unsigned own))
    ∙ sym (same_first a m (map label_for code) 1 (meant_same ls a))
    ∙ same_place a code 1 sound keeps
    ∙ ap (λ (xs : List (Option Label)). label_at xs a) of_code
