-- The comments in a written body are those inside of the procedure, and UPGRADE comments right before their lines.
use Rattle.std.proofs.Common.{◌≡◌, ℕ, suc, ◌+◌, Bool, true, false, cond, List, [], ◌∷◌, ◌++◌, map, Option, Some, None, refl, sym, ap, ◌∙◌, subst, append-nil}
use Rattle.std.specs.Prelude.{zip}
use Rattle.std.proofs.lemmas.Grind.{flat_map-append}
use Rattle.vb_tree.specs.Blocks.{is_code}
use Rattle.vb_tree.specs.FlatLines.{code_lines}
use Rattle.vb_tree.specs.Tree.{Form}
use Rattle.vb_tree.specs.Tree as source
use Rattle.bound_tree.specs.Labels.{Label}
use Rattle.bound_tree.specs.RuleSets.{both}
use Rattle.bound_tree.specs.Tree.{Expr, Line}
use Rattle.net_tree.specs.Tree as net
use Rattle.written_trees.specs.Bodies.{body_from, code_lines_of, inside_procedure, left, lines_at, replaced_in, taken}
use Rattle.bound_facts.specs.Node.{type_at}
use Rattle.written_trees.specs.Exprs.{exp_of}
use Rattle.written_trees.specs.Puts.{order_shows, put_type, store_by, stored_value}
use Rattle.written_trees.specs.Comments.{Comment, past, texts, up_to, upgrade_texts}
use Rattle.written_trees.specs.Facts.{line_set}
use Rattle.written_trees.specs.Lines.{as_call, flagged_line, line_by, line_of, replaced_by, written_line}
use Rattle.written_trees.specs.Names.{Scope}
use Rattle.written_trees.specs.Prologues.{Code, code_sets, one_if, set_if, statement_set}
use Rattle.correspondence.specs.Comments.{line_comment, comments_of_lines, line_rules, body_upgrades}
use Rattle.correspondence.specs.Lists.{Merges}
use Rattle.correspondence.proofs.Merging.{merges_first, second_then, comments_then, lines_back, behind_lines}

-- ---- no code line is a comment

call_none : (e : net.Exp) → line_comment (as_call e) ≡ []
call_none (net.call_of callee args) = refl
call_none e = refl

store_none : (shows : Bool) (ty : Option (List ℕ)) (target value : net.Exp) → line_comment (store_by shows ty target value) ≡ []
store_none shows None target value = refl
store_none true (Some ty) target value = refl
store_none false (Some ty) target value = refl

flagged_none : (n k : ℕ) (f : Form) → line_comment (flagged_line n k f) ≡ []
flagged_none n k (source.if_head condition) = refl
flagged_none n k _ = refl

form_none : (S : Scope) (ls : List (Option Label)) (f : Form) (es : List Expr) → line_comment (line_of S ls f es) ≡ []
form_none S ls (source.assign target value) [] = refl
form_none S ls (source.assign target value) (to ∷ []) = refl
form_none S ls (source.assign target value) (to ∷ e ∷ es) = store_none (order_shows S.declarations to e) (put_type (type_at to)) (exp_of S to) (stored_value S to e)
form_none S ls (source.set target value) [] = refl
form_none S ls (source.set target value) (to ∷ []) = refl
form_none S ls (source.set target value) (to ∷ e ∷ es) = refl
form_none S ls (source.call callee) [] = refl
form_none S ls (source.call callee) (e ∷ es) = call_none (exp_of S e)
form_none S ls (source.invoke callee args) [] = refl
form_none S ls (source.invoke callee args) (e ∷ es) = call_none (exp_of S e)
form_none S ls (source.erase array) [] = refl
form_none S ls (source.erase array) (e ∷ es) = refl
form_none S ls (source.for_head counter start limit step) [] = refl
form_none S ls (source.for_head counter start limit step) (a ∷ []) = refl
form_none S ls (source.for_head counter start limit step) (a ∷ b ∷ []) = refl
form_none S ls (source.for_head counter start limit step) (a ∷ b ∷ c ∷ es) = refl
form_none S ls _ es = refl

written_none : (S : Scope) (ls : List (Option Label)) (k : ℕ) (f : Form) (es : List Expr) (o : Option ℕ) → line_comment (line_by S ls k f es o) ≡ []
written_none S ls k f es None = form_none S ls f es
written_none S ls k f es (Some n) = flagged_none n k f

one_line : (S : Scope) (ls : List (Option Label)) (k : ℕ) (c : Code) → comments_of_lines (code_lines_of S ls k c ++ []) ≡ upgrade_texts c.0 c.1.source.text
one_line S ls k c =
    let w = written_line S ls c.0 k c.1 in
    let us = upgrade_texts c.0 c.1.source.text in
    ap comments_of_lines (append-nil (code_lines_of S ls k c))
    ∙ behind_lines us (w ∷ [])
    ∙ ap {B = List (List ℕ)} (λ vs. us ++ (vs ++ [])) (written_none S ls k c.1.source.form c.1.bindings.exprs (replaced_by c.0))
    ∙ append-nil us

-- ---- bodies

abbrev pub source_of : Line → source.Line
source_of l = l.source

module _ (S : Scope) (q p : ℕ) (ls : List (Option Label)) where
  abbrev Goes : (cs : List Comment) → (n k i : ℕ) → List source.Line → List Line → Type 0
  Goes cs n k i lines bound =
      Merges (texts cs) (body_upgrades S p n i lines)
      (comments_of_lines (body_from (inside_procedure S q) ls cs n k lines (zip (code_sets S p n i lines) bound)))

  -- a line, and the lines behind it
  step : (l : source.Line) (lines : List source.Line) (cs : List Comment) (n k i : ℕ) (b : Bool) (bound : List Line)
      → map source_of bound ≡ cond b (l ∷ code_lines lines) (code_lines lines)
      → ((j : ℕ) (rest : List Line) → map source_of rest ≡ code_lines lines → Goes cs (suc n) j (i + one_if b) lines rest)
      → (code : List Code) → code ≡ zip (set_if b (both (line_set S.facts p i) (statement_set S.declarations S.facts S.file n)) ++ code_sets S p (suc n) (i + one_if b) lines) bound
      → Merges (texts cs) (upgrade_texts (line_rules S p n i b) l.text ++ body_upgrades S p (suc n) (i + one_if b) lines)
      (comments_of_lines (lines_at (inside_procedure S q) ls n (suc k) l b (taken b code))
      ++ comments_of_lines (body_from (inside_procedure S q) ls cs (suc n) (k + replaced_in (taken b code)) lines (left b code)))
  step l lines cs n k i true [] h more code e = absurd (cc h)
  step l lines cs n k i true (d ∷ bound) h more code e =
      let s = both (line_set S.facts p i) (statement_set S.declarations S.facts S.file n) in
      let T = inside_procedure S q in
      let us = upgrade_texts s l.text in
      let all : List Code = (s, d) ∷ zip (code_sets S p (suc n) (i + one_if true) lines) bound in
      let first : d.source ≡ l = cc h in
      let rest : map source_of bound ≡ code_lines lines = cc h in
      let here : comments_of_lines (code_lines_of T ls (suc k) (s, d) ++ []) ≡ us =
      one_line T ls (suc k) (s, d) ∙ ap (λ (m : source.Line). upgrade_texts s m.text) first in
      subst
      (λ (c : List Code). Merges (texts cs) (us ++ body_upgrades S p (suc n) (i + one_if true) lines)
      (comments_of_lines (lines_at T ls n (suc k) l true (taken true c))
      ++ comments_of_lines (body_from T ls cs (suc n) (k + replaced_in (taken true c)) lines (left true c)))) (sym e)
      (subst
      (λ (vs : List (List ℕ)). Merges (texts cs) (us ++ body_upgrades S p (suc n) (i + one_if true) lines)
      (vs ++ comments_of_lines (body_from T ls cs (suc n) (k + replaced_in (taken true all)) lines (left true all)))) (sym here)
      (second_then us (texts cs) (body_upgrades S p (suc n) (i + one_if true) lines)
      (comments_of_lines (body_from T ls cs (suc n) (k + replaced_in (taken true all)) lines (left true all)))
      (more (k + replaced_in (taken true all)) bound rest)))
  step l lines cs n k i false bound h more code e =
      let T = inside_procedure S q in
      let us = upgrade_texts (statement_set S.declarations S.facts S.file n) l.text in
      let all = zip (code_sets S p (suc n) (i + one_if false) lines) bound in
      subst
      (λ (c : List Code). Merges (texts cs) (us ++ body_upgrades S p (suc n) (i + one_if false) lines)
      (comments_of_lines (lines_at T ls n (suc k) l false (taken false c))
      ++ comments_of_lines (body_from T ls cs (suc n) (k + replaced_in (taken false c)) lines (left false c)))) (sym e)
      (subst
      (λ (vs : List (List ℕ)). Merges (texts cs) (us ++ body_upgrades S p (suc n) (i + one_if false) lines)
      (vs ++ comments_of_lines (body_from T ls cs (suc n) (k + replaced_in (taken false all)) lines (left false all)))) (sym (lines_back us))
      (second_then us (texts cs) (body_upgrades S p (suc n) (i + one_if false) lines)
      (comments_of_lines (body_from T ls cs (suc n) (k + replaced_in (taken false all)) lines (left false all)))
      (more (k + replaced_in (taken false all)) bound h)))

  pub body_merges : (cs : List Comment) (n k i : ℕ) (lines : List source.Line) (bound : List Line) → map source_of bound ≡ code_lines lines → Goes cs n k i lines bound
  body_merges cs n k i [] bound h = subst (Merges (texts cs) []) (sym (lines_back (texts cs))) (merges_first (texts cs))
  body_merges cs n k i (l ∷ lines) bound h =
      let T = inside_procedure S q in
      let b = is_code l.form in
      let code = zip (code_sets S p n i (l ∷ lines)) bound in
      let ds = past l.place.line cs in
      let here = lines_at T ls n (suc k) l b (taken b code) in
      let more = body_from T ls ds (suc n) (k + replaced_in (taken b code)) lines (left b code) in
      let us = body_upgrades S p n i (l ∷ lines) in
      subst (Merges (texts cs) us)
      (sym (behind_lines (texts (up_to l.place.line cs)) (here ++ more)
      ∙ ap {B = List (List ℕ)} (λ vs. texts (up_to l.place.line cs) ++ vs) (flat_map-append line_comment here more)))
      (comments_then l.place.line cs us (comments_of_lines here ++ comments_of_lines more)
      (step l lines ds n k i b bound h (λ j rest e. body_merges ds (suc n) j (i + one_if b) lines rest e) code refl))
