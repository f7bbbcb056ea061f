-- The code lines of a written procedure are what is written for its bound lines, one by one.
use Rattle.std.proofs.Common.{◌≡◌, ◌≤◌, ℕ, suc, ◌+◌, Bool, true, false, cond, List, [], ◌∷◌, ◌++◌, map, length, Option, Some, None, refl, ap, ◌∙◌, arith}
use Rattle.std.specs.Prelude.{slice_get, zip}
use Rattle.std.specs.List.{filter}
use Rattle.std.proofs.lemmas.List.{append-nil, length-map}
use Rattle.std.proofs.lemmas.List.Elements.{filter-append}
use Rattle.vb_tree.specs.Blocks as source_blocks
use Rattle.vb_tree.specs.FlatLines.{code_lines, flat_lines}
use Rattle.vb_tree.specs.Tree.{Form, Nodes}
use Rattle.vb_tree.specs.Tree as source
use Rattle.bound_tree.specs.declared.rule_set.RuleSet.{RuleSet}
use Rattle.bound_tree.specs.Labels.{Label, labels}
use Rattle.bound_tree.specs.RuleSets.{both}
use Rattle.bound_tree.specs.Tree.{Expr, Line, Program}
use Rattle.net_tree.specs.Blocks.{is_code}
use Rattle.net_tree.specs.declared.declaration.NetClose.{NetClose}
use Rattle.net_tree.specs.FlatLines as net_flat
use Rattle.net_tree.specs.Tree as net
use Rattle.written_trees.specs.Bodies.{body_from, code_lines_of, inside_procedure, left, lines_at, procedure_with, replaced_in, taken}
use Rattle.written_trees.specs.Bodies as bound
use Rattle.written_trees.specs.Comments.{Comment, past, texts, up_to, upgrade_texts}
use Rattle.written_trees.specs.DeclaredMembers.{line_comments, statement_comments}
use Rattle.written_trees.specs.Lines.{flagged_line, line_by, line_of, replaced_by, written_line}
use Rattle.written_trees.specs.Names.{Scope}
use Rattle.written_trees.specs.Placing.{Placed}
use Rattle.written_trees.specs.Facts.{line_set}
use Rattle.written_trees.specs.Prologues.{Code, code_sets, one_if, set_if, statement_set}
use Rattle.vb6_run.specs.Lines.{lines_in, source_lines}
use Rattle.target_laws.specs.Kept.{AreBound, code_of, written_from}
use Rattle.target_laws.proofs.Plain.{assigned, called, erased, object_set}

-- ---- no line is written as a comment

flagged_code : (n k : ℕ) (f : Form) → is_code (flagged_line n k f) ≡ true
flagged_code n k (source.if_head condition) = refl
flagged_code n k _ = refl

form_code : (S : Scope) (ls : List (Option Label)) (f : Form) (es : List Expr) → is_code (line_of S ls f es) ≡ true
form_code S ls (source.assign target value) es = (assigned S es).is_no_comment
form_code S ls (source.set target value) es = (object_set S es).is_no_comment
form_code S ls (source.call callee) es = (called S es).is_no_comment
form_code S ls (source.invoke callee args) es = (called S es).is_no_comment
form_code S ls (source.erase array) es = (erased S es).is_no_comment
form_code S ls (source.for_head counter start limit step) [] = refl
form_code S ls (source.for_head counter start limit step) (a ∷ []) = refl
form_code S ls (source.for_head counter start limit step) (a ∷ b ∷ []) = refl
form_code S ls (source.for_head counter start limit step) (a ∷ b ∷ c ∷ es) = refl
form_code S ls _ es = refl

code_by : (S : Scope) (ls : List (Option Label)) (k : ℕ) (f : Form) (es : List Expr) (o : Option ℕ) → is_code (line_by S ls k f es o) ≡ true
code_by S ls k f es None = form_code S ls f es
code_by S ls k f es (Some n) = flagged_code n k f

no_code : (units : List (List ℕ)) → filter is_code (line_comments units) ≡ []
no_code [] = refl
no_code (u ∷ units) = no_code units

behind_comments : (units : List (List ℕ)) (ls : List net.Line) → filter is_code (line_comments units ++ ls) ≡ filter is_code ls
behind_comments units ls = filter-append is_code (line_comments units) ls ∙ ap (λ xs. xs ++ filter is_code ls) (no_code units)

one_code : (S : Scope) (ls : List (Option Label)) (k : ℕ) (c : Code) → filter is_code (code_lines_of S ls k c ++ []) ≡ written_line S ls c.0 k c.1 ∷ []
one_code S ls k c =
    let w = written_line S ls c.0 k c.1 in
    ap (filter is_code) (append-nil (code_lines_of S ls k c))
    ∙ behind_comments (upgrade_texts c.0 c.1.source.text) (w ∷ [])
    ∙ ap (λ b. cond b (w ∷ []) []) (code_by S ls k c.1.source.form c.1.bindings.exprs (replaced_by c.0))

-- ---- bodies

pub body_code : (S : Scope) (ls : List (Option Label)) (cs : List Comment) (n k : ℕ) (lines : List source.Line) (code : List Code) → length code ≤ length (code_lines lines)
    → filter is_code (body_from S ls cs n k lines code) ≡ written_from S ls k code
body_code S ls cs n k [] [] h = no_code (texts cs)
body_code S ls cs n k [] (c ∷ code) h = absurd (omega (arith, h))
body_code S ls cs n k (l ∷ lines) code h =
    let b = source_blocks.is_code l.form in
    let here = lines_at S ls n (suc k) l b (taken b code) in
    let more = body_from S ls (past l.place.line cs) (suc n) (k + replaced_in (taken b code)) lines (left b code) in
    behind_comments (texts (up_to l.place.line cs)) (here ++ more)
    ∙ filter-append is_code here more
    ∙ by (source_blocks.is_code l.form) code h (λ j rest fewer. body_code S ls (past l.place.line cs) (suc n) j lines rest fewer)
  where
    by : (b : Bool) (code : List Code) → length code ≤ length (cond b (l ∷ code_lines lines) (code_lines lines))
        → ((j : ℕ) (rest : List Code) → length rest ≤ length (code_lines lines) → filter is_code (body_from S ls (past l.place.line cs) (suc n) j lines rest) ≡ written_from S ls j rest)
        → filter is_code (lines_at S ls n (suc k) l b (taken b code))
        ++ filter is_code (body_from S ls (past l.place.line cs) (suc n) (k + replaced_in (taken b code)) lines (left b code))
        ≡ written_from S ls k code
    by true [] h more = more (k + replaced_in []) [] (omega arith)
    by true (c ∷ code) h more =
        ap (λ xs. xs ++ filter is_code (body_from S ls (past l.place.line cs) (suc n) (k + replaced_in (c ∷ [])) lines code)) (one_code S ls (suc k) c)
        ∙ ap (λ xs. written_line S ls c.0 (suc k) c.1 ∷ xs) (more (k + replaced_in (c ∷ [])) code (omega (arith, h)))
    by false code h more =
        let number : k + replaced_in [] ≡ k = omega arith in
        ap (λ xs. xs ++ filter is_code (body_from S ls (past l.place.line cs) (suc n) (k + replaced_in []) lines code)) (no_code (statement_comments S n l))
        ∙ more (k + replaced_in []) code h
        ∙ ap (λ j. written_from S ls j code) number

-- ---- as many rules as code lines

as_many_sets : (S : Scope) (p n i : ℕ) (lines : List source.Line) → length (code_sets S p n i lines) ≡ length (code_lines lines)
as_many_sets S p n i [] = refl
as_many_sets S p n i (l ∷ lines) =
    let s = both (line_set S.facts p i) (statement_set S.declarations S.facts S.file n) in
    by (source_blocks.is_code l.form) s (as_many_sets S p (suc n) (i + one_if (source_blocks.is_code l.form)) lines)
  where
    by : (b : Bool) (s : RuleSet) → length (code_sets S p (suc n) (i + one_if b) lines) ≡ length (code_lines lines)
        → length (set_if b s ++ code_sets S p (suc n) (i + one_if b) lines) ≡ length (cond b (l ∷ code_lines lines) (code_lines lines))
    by true s h = ap suc h
    by false s h = h

zip_within : {A B : Type 0} (xs : List A) (ys : List B) → length (zip xs ys) ≤ length xs
zip_within [] ys = omega arith
zip_within (x ∷ xs) [] = omega arith
zip_within (x ∷ xs) (y ∷ ys) = let more = zip_within xs ys in omega (arith, more)

pub lines_in_order : (P : Program) (S : Scope) (p : Placed) (body : Nodes) (head : net.Head) (close : NetClose)
    → net_flat.code_lines (procedure_with P S p body head close) ≡ written_from (inside_procedure S p.at.procedure) (labels (flat_lines body)) 0 (code_of P S p body)
lines_in_order P S p body head close =
    let n = suc p.at.statement in
    let lines = flat_lines body in
    let sets = code_sets S p.at.procedure n 0 lines in
    let within = zip_within sets (bound.lines_in (slice_get P.bodies p.at.procedure)) in
    let many = as_many_sets S p.at.procedure n 0 lines in
    body_code (inside_procedure S p.at.procedure) (labels lines) p.inside n 0 lines (code_of P S p body) (omega (arith, within, many))

-- ---- bound lines

pub second_parts : {A B C : Type 0} (f : B → C) (xs : List A) (ys : List B) → length ys ≤ length xs → map (λ (p : A × B). f p.1) (zip xs ys) ≡ map f ys
second_parts f [] [] h = refl
second_parts f [] (y ∷ ys) h = absurd (omega (arith, h))
second_parts f (x ∷ xs) [] h = refl
second_parts f (x ∷ xs) (y ∷ ys) h = ap (λ more. f y ∷ more) (second_parts f xs ys (omega (arith, h)))

pub bound_sources : (o : Option (List Line)) → lines_in o ≡ source_lines (bound.lines_in o)
bound_sources None = refl
bound_sources (Some ls) = refl

-- as many as there are code lines suffice
pub enough_lines : (P : Program) (p : Placed) (body : Nodes) → AreBound P p body → length (lines_in (slice_get P.bodies p.at.procedure)) ≤ length (code_lines (flat_lines body))
enough_lines P p body h = let same = ap length h in omega (arith, same)

pub enough_sets : (P : Program) (S : Scope) (p : Placed) (body : Nodes) → length (lines_in (slice_get P.bodies p.at.procedure)) ≤ length (code_lines (flat_lines body))
    → length (bound.lines_in (slice_get P.bodies p.at.procedure)) ≤ length (code_sets S p.at.procedure (suc p.at.statement) 0 (flat_lines body))
enough_sets P S p body h =
    let ls = bound.lines_in (slice_get P.bodies p.at.procedure) in
    let many = as_many_sets S p.at.procedure (suc p.at.statement) 0 (flat_lines body) in
    let same = ap length (bound_sources (slice_get P.bodies p.at.procedure)) in
    let mapped = length-map ls (λ (l : Line). l.source) in
    omega (arith, h, many, same, mapped)
