-- A text without a fault has at most 200 entries, and their names are apart.
use Rattle.std.proofs.Common.{◌≡◌, ℕ, suc, ◌+◌, ◌≤◌, Bool, true, false, ◌&&◌, ◌||◌, not, ◌==◌, List, [], ◌∷◌, ◌++◌, length, refl, sym, ◌∙◌, ap, subst, arith, nat_le, Ok}
use Rattle.std.specs.List.{list_all, list_any, take_while}
use Rattle.std.proofs.lemmas.List.{append-nil, append_assoc, length-append}
use Rattle.std.proofs.lemmas.List.Elements.{filter_map-append}
use Rattle.std.proofs.lemmas.List.Folds.{list_all-append}
use Rattle.std.proofs.lemmas.Bool.Decides.{nat_tests}
use Rattle.vb_tree.specs.declared.project.Entry.{Entry}
use Rattle.vb_tree.specs.ProjectLines.{ProjectLine, blank, head, entry, type_line, startup_line, not_carried, other, malformed, is_no_head, project_line, entry_at, entries_of, read_lines, has_head, with_earlier, is_control, is_taken, is_new, is_named, are_apart, form_fault, lines_of, HasNoFault, IsProjectAnswer}
use Rattle.vb_tree.specs.declared.project.ProjectFile.{ProjectFile}
use Rattle.project_file.proofs.EntryNames.{named_entries}
use Rattle.project_file.proofs.Saying.{earlier_push}
use Rattle.project_file.proofs.Steps.{read_push, read_stays, fault_here}
use Rattle.up_base.proofs.Tests.{neither}

below_limit : (n : ℕ) → nat_le 200 n ≡ false → n + 1 ≤ 200
below_limit n h = grind (arith, nat_tests)

-- entries within the limit and apart
record AreRight (es : List Entry) : Type 0 where
  few : length es ≤ 200
  apart : are_apart es ≡ true

apart_push : (es : List Entry) (e : Entry) → are_apart es ≡ true → is_taken es e.name ≡ false → are_apart (es ++ e ∷ []) ≡ true
apart_push es e apart new = ap (list_all is_new) (earlier_push [] es e) ∙ list_all-append is_new (with_earlier [] es) ((es, e) ∷ []) ∙ by (are_apart es) (is_taken es e.name) apart new
  where
    by : (a t : Bool) → a ≡ true → t ≡ false → (a && (not t && true)) ≡ true
    by true true p q = cc
    by true false p q = refl
    by false t p q = cc

none_more : (es : List Entry) → AreRight es → AreRight (es ++ [])
none_more es h = subst AreRight (sym (append-nil es)) h

-- the entries with those that a right line adds
entries_more : (es : List Entry) (n : ℕ) (line : ProjectLine) → ((kind : ℕ) → form_fault es line kind ≡ false) → AreRight es → AreRight (es ++ entries_of (take_while is_no_head ((n, line) ∷ [])))
entries_more es n blank f h = none_more es h
entries_more es n head f h = none_more es h
entries_more es n (entry class name file) f h =
    let e : Entry = record { line = n; class = class; name = name; file = file } in
    let fits = below_limit (length es) (neither (nat_le 200 (length es)) false (f 3)).0 in
    record { few = subst (λ k. k ≤ 200) (sym (length-append es (e ∷ []))) fits; apart = apart_push es e h.apart (f 5) }
entries_more es n (type_line value) f h = none_more es h
entries_more es n (startup_line value) f h = none_more es h
entries_more es n not_carried f h = none_more es h
entries_more es n other f h = none_more es h
entries_more es n malformed f h = none_more es h

form_right : (a c h f : Bool) → ((a && c) || (not h && f)) ≡ false → h ≡ false → f ≡ false
form_right a c true f g e = cc
form_right a c false f g e = (neither (a && c) f g).1

abbrev AreRightIn : List (List ℕ) → Type 0
AreRightIn lines = AreRight (entries_of (read_lines lines))

one_more : (front : List (List ℕ)) (line : List ℕ) (rest : List (List ℕ)) → HasNoFault (front ++ line ∷ rest) → AreRightIn front → AreRightIn (front ++ line ∷ [])
one_more front line rest right h = by (has_head front) refl
  where
    by : (b : Bool) → has_head front ≡ b → AreRightIn (front ++ line ∷ [])
    by true e = subst (λ l. AreRight (entries_of l)) (sym (read_stays front line e)) h
    by false e =
        let es = entries_of (read_lines front) in
        let added = take_while is_no_head ((length front + 1, project_line line) ∷ []) in
        let form = λ (kind : ℕ). form_right (kind == 6) (list_any is_control line) (has_head front) (form_fault es (project_line line) kind) (sym (fault_here front line rest (length front) kind refl) ∙ right (suc (length front)) kind) e in
        let parts : entries_of (read_lines (front ++ line ∷ [])) ≡ es ++ entries_of added = ap entries_of (read_push front line (length front + 1) refl e) ∙ filter_map-append entry_at (read_lines front) added in
        subst AreRight (sym parts) (entries_more es (length front + 1) (project_line line) form h)

all_more : (front rest : List (List ℕ)) → HasNoFault (front ++ rest) → AreRightIn front → AreRightIn (front ++ rest)
all_more front [] right h = subst AreRightIn (sym (append-nil front)) h
all_more front (line ∷ rest) right h =
    let same : (front ++ line ∷ []) ++ rest ≡ front ++ line ∷ rest = append_assoc front (line ∷ []) rest in
    subst AreRightIn same (all_more (front ++ line ∷ []) rest (subst HasNoFault (sym same) right) (one_more front line rest right h))

right_entries : (lines : List (List ℕ)) → HasNoFault lines → AreRightIn lines
right_entries lines right = all_more [] lines right (record { few = omega arith; apart = refl })

pub few_entries : (lines : List (List ℕ)) → HasNoFault lines → length (entries_of (read_lines lines)) ≤ 200
few_entries lines right = (right_entries lines right).few

pub entries_apart : (lines : List (List ℕ)) → HasNoFault lines → are_apart (entries_of (read_lines lines)) ≡ true
entries_apart lines right = (right_entries lines right).apart

-- ---- what is answered

pub answer_few : (text : List ℕ) (file : ProjectFile) → IsProjectAnswer text (Ok file) → length file.entries ≤ 200
answer_few text file h = subst (λ (f : ProjectFile). length f.entries ≤ 200) (sym h.1) (few_entries (lines_of text) h.0)

pub answer_apart : (text : List ℕ) (file : ProjectFile) → IsProjectAnswer text (Ok file) → are_apart file.entries ≡ true
answer_apart text file h = ap (λ f. are_apart f.entries) h.1 ∙ entries_apart (lines_of text) h.0

pub answer_named : (text : List ℕ) (file : ProjectFile) → IsProjectAnswer text (Ok file) → list_all is_named file.entries ≡ true
answer_named text file h = ap (λ f. list_all is_named f.entries) h.1 ∙ named_entries (lines_of text)
