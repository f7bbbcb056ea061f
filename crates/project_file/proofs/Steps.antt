-- Lines of a project file and one more: what they say and which faults they have.
use Rattle.std.proofs.Common.{◌≡◌, ◌⊎◌, inl, inr, ℕ, zero, suc, ◌+◌, ◌<◌, ◌≤◌, Bool, true, false, ◌&&◌, ◌||◌, not, cond, ◌==◌, List, [], ◌∷◌, ◌++◌, length, map, take, refl, sym, ◌∙◌, ap, subst, arith, add-one, Option, Some, None, Result, Ok, Err, IsErrAnd}
use Rattle.std.specs.List.{list_all, list_any, slice_get, take_while, enumerate_from}
use Rattle.std.proofs.lemmas.List.{append-nil, append_assoc, map_push, take-append-le, take_at, length-append, length-map, length_push}
use Rattle.std.proofs.lemmas.List.Sums.{take_while-cons}
use Rattle.std.proofs.lemmas.List.Folds.{list_all-append}
use Rattle.std.proofs.lemmas.Bool.{false≢true}
use Rattle.up_base.specs.declared.place.Fault.{Fault}
use Rattle.up_base.specs.declared.place.ReadFail.{ReadFail}
use Rattle.up_base.specs.declared.place.ReadFail.TheVariants as fail
use Rattle.vb_tree.specs.declared.project.ProjectFile.{ProjectFile}
use Rattle.vb_tree.specs.ProjectLines.{lines_of, file_of, IsProjectAnswer, is_no_head, project_line, numbered_lines, read_lines, has_head, entries_of, is_control, form_fault, line_fault, fault_on, is_fault, ComesFirst, IsFirstFault, HasNoFault}
use Rattle.project_file.specs.declared.reading.ProjectReading.{ProjectReading}
use Rattle.project_file.specs.Reading.{OnFault, IsAtLine, HasSaid, TakesLine, HasNoFormFault, IsFirstKind, HasRead, HasReadTo, ReadsLine, IsFirstOfLine}
use Rattle.up_base.proofs.Tests.{not_true, not_false}

-- ---- numbered lines

enumerate_push : {X : Type 0} (n : ℕ) (xs : List X) (x : X) → enumerate_from n (xs ++ x ∷ []) ≡ enumerate_from n xs ++ (n + length xs, x) ∷ []
enumerate_push n [] x = let e : n ≡ n + 0 = omega arith in ap (λ k. (k, x) ∷ []) e
enumerate_push n (y ∷ ys) x = ap (λ l. (n, y) ∷ l) (enumerate_push (n + 1) ys x ∙ ap (λ k. enumerate_from (n + 1) ys ++ (k, x) ∷ []) (shifted n (length ys)))
  where
    shifted : (n m : ℕ) → n + 1 + m ≡ n + suc m
    shifted n m = omega arith

numbered_push : (earlier : List (List ℕ)) (line : List ℕ) (n : ℕ) → n ≡ length earlier + 1 → numbered_lines (earlier ++ line ∷ []) ≡ numbered_lines earlier ++ (n, project_line line) ∷ []
numbered_push earlier line n e =
    let number : 1 + length (map project_line earlier) ≡ n = omega (arith, length-map earlier project_line) in
    ap (enumerate_from 1) (map_push project_line earlier line) ∙ enumerate_push 1 (map project_line earlier) (project_line line)
    ∙ ap (λ k. numbered_lines earlier ++ (k, project_line line) ∷ []) number

while_passes : {X : Type 0} (p : X → Bool) (xs ys : List X) → list_all p xs ≡ true → take_while p (xs ++ ys) ≡ xs ++ take_while p ys
while_passes p [] ys h = refl
while_passes {X} p (x ∷ xs) ys h = take_while-cons p x (xs ++ ys) ∙ by (p x) h (while_passes p xs ys)
  where
    by : (b : Bool) → (b && list_all p xs) ≡ true → (list_all p xs ≡ true → take_while p (xs ++ ys) ≡ xs ++ take_while p ys) → cond b (x ∷ take_while p (xs ++ ys)) [] ≡ x ∷ (xs ++ take_while p ys)
    by true g more = ap (λ (l : List X). x ∷ l) (more g)
    by false g more = cc

while_stops : {X : Type 0} (p : X → Bool) (xs ys : List X) → list_all p xs ≡ false → take_while p (xs ++ ys) ≡ take_while p xs
while_stops p [] ys h = cc
while_stops {X} p (x ∷ xs) ys h = take_while-cons p x (xs ++ ys) ∙ by (p x) h (while_stops p xs ys) ∙ sym (take_while-cons p x xs)
  where
    by : (b : Bool) → (b && list_all p xs) ≡ false → (list_all p xs ≡ false → take_while p (xs ++ ys) ≡ take_while p xs) → cond b (x ∷ take_while p (xs ++ ys)) [] ≡ cond b (x ∷ take_while p xs) []
    by true g more = ap (λ (l : List X). x ∷ l) (more g)
    by false g more = refl

while_all : {X : Type 0} (p : X → Bool) (xs : List X) → list_all p xs ≡ true → take_while p xs ≡ xs
while_all p xs h = sym (ap (take_while p) (append-nil xs)) ∙ while_passes p xs [] h ∙ append-nil xs

-- a line more before the first head
pub read_push : (earlier : List (List ℕ)) (line : List ℕ) (n : ℕ) → n ≡ length earlier + 1 → has_head earlier ≡ false → read_lines (earlier ++ line ∷ []) ≡ read_lines earlier ++ take_while is_no_head ((n, project_line line) ∷ [])
read_push earlier line n e h =
    let all = not_false (list_all is_no_head (numbered_lines earlier)) h in
    ap (take_while is_no_head) (numbered_push earlier line n e) ∙ while_passes is_no_head (numbered_lines earlier) ((n, project_line line) ∷ []) all
    ∙ ap (λ l. l ++ take_while is_no_head ((n, project_line line) ∷ [])) (sym (while_all is_no_head (numbered_lines earlier) all))

-- a line more after a head
pub read_stays : (earlier : List (List ℕ)) (line : List ℕ) → has_head earlier ≡ true → read_lines (earlier ++ line ∷ []) ≡ read_lines earlier
read_stays earlier line h =
    ap (take_while is_no_head) (numbered_push earlier line (length earlier + 1) refl)
    ∙ while_stops is_no_head (numbered_lines earlier) ((length earlier + 1, project_line line) ∷ []) (not_true (list_all is_no_head (numbered_lines earlier)) h)

head_of : (a b : Bool) → not (a && (b && true)) ≡ (not a || not b)
head_of true true = refl
head_of true false = refl
head_of false b = refl

head_push : (earlier : List (List ℕ)) (line : List ℕ) (n : ℕ) → n ≡ length earlier + 1 → has_head (earlier ++ line ∷ []) ≡ (has_head earlier || not (is_no_head (n, project_line line)))
head_push earlier line n e =
    ap (λ l. not (list_all is_no_head l)) (numbered_push earlier line n e)
    ∙ ap not (list_all-append is_no_head (numbered_lines earlier) ((n, project_line line) ∷ []))
    ∙ head_of (list_all is_no_head (numbered_lines earlier)) (is_no_head (n, project_line line))

-- ---- the faults of lines

get_before : {X : Type 0} (front rest : List X) (i : ℕ) → i < length front → slice_get (front ++ rest) i ≡ slice_get front i
get_before [] rest i h = absurd (omega arith)
get_before (x ∷ xs) rest zero h = refl
get_before (x ∷ xs) rest (suc i) h = get_before xs rest i (omega arith)

get_at : {X : Type 0} (front : List X) (x : X) (rest : List X) → slice_get (front ++ x ∷ rest) (length front) ≡ Some x
get_at [] x rest = refl
get_at (y ∷ ys) x rest = get_at ys x rest

get_past : {X : Type 0} (xs : List X) (i : ℕ) → length xs ≤ i → slice_get xs i ≡ None
get_past [] i h = refl
get_past (x ∷ xs) zero h = absurd (omega arith)
get_past (x ∷ xs) (suc i) h = get_past xs i (omega arith)

fault_before : (front rest : List (List ℕ)) (i k : ℕ) → i < length front → is_fault (front ++ rest) (suc i) k ≡ is_fault front (suc i) k
fault_before front rest i k h =
    let short : i ≤ length front = omega arith in
    rw (take-append-le i front rest short, get_before front rest i h)

pub fault_here : (front : List (List ℕ)) (line : List ℕ) (rest : List (List ℕ)) (i k : ℕ) → i ≡ length front → is_fault (front ++ line ∷ rest) (suc i) k ≡ line_fault front line k
fault_here front line rest i k e = rw e (rw (take_at front (line ∷ rest) (length front) refl, get_at front line rest))

fault_past : (lines : List (List ℕ)) (i k : ℕ) → length lines ≤ i → is_fault lines (suc i) k ≡ false
fault_past lines i k h = ap (λ (o : Option (List ℕ)). fault_on (take i lines) o k) (get_past lines i h)

-- a number is below another one, is it, or is above it
place : (i n : ℕ) → (i < n) ⊎ ((i ≡ n) ⊎ (n < i))
place zero zero = inr (inl refl)
place zero (suc n) = inl (omega arith)
place (suc i) zero = inr (inr (omega arith))
place (suc i) (suc n) = elim (place i n) [ inl h ↦ inl (omega arith) | inr h ↦ inr (elim h [ inl e ↦ inl (ap suc e) | inr g ↦ inr (omega arith) ]) ]

right_push : (earlier : List (List ℕ)) (line : List ℕ) → HasNoFault earlier → ((k : ℕ) → line_fault earlier line k ≡ false) → HasNoFault (earlier ++ line ∷ [])
right_push earlier line right none zero k = refl
right_push earlier line right none (suc i) k = by (place i (length earlier))
  where
    by : (i < length earlier) ⊎ ((i ≡ length earlier) ⊎ (length earlier < i)) → is_fault (earlier ++ line ∷ []) (suc i) k ≡ false
    by (inl h) = fault_before earlier (line ∷ []) i k h ∙ right (suc i) k
    by (inr (inl e)) = fault_here earlier line [] i k e ∙ none k
    by (inr (inr h)) = fault_past (earlier ++ line ∷ []) i k (omega (arith, length-append earlier (line ∷ [])))

-- the first fault of a line after right lines is the first of all lines
pub first_fault : (front : List (List ℕ)) (line : List ℕ) (rest : List (List ℕ)) (n kind : ℕ) → n ≡ length front + 1 → HasNoFault front → IsFirstKind (line_fault front line) kind → IsFirstFault (front ++ line ∷ rest) n kind
first_fault front line rest n kind e right h = rw e (rw add-one (record { is = fault_here front line rest (length front) kind refl ∙ h.is; first = first }))
  where
    none : {P : Type 0} (b : Bool) → b ≡ false → b ≡ true → P
    none b p q = absurd (false≢true (sym p ∙ q))

    first : (m k : ℕ) → is_fault (front ++ line ∷ rest) m k ≡ true → ComesFirst (suc (length front)) kind m k
    first zero k g = absurd (false≢true g)
    first (suc i) k g = by (place i (length front))
      where
        by : (i < length front) ⊎ ((i ≡ length front) ⊎ (length front < i)) → ComesFirst (suc (length front)) kind (suc i) k
        by (inl l) = none _ (right (suc i) k) (sym (fault_before front (line ∷ rest) i k l) ∙ g)
        by (inr (inl s)) = inr (ap suc (sym s), h.first k (sym (fault_here front line rest i k s) ∙ g))
        by (inr (inr l)) = inl (omega arith)

-- ---- one line

passed_over : (a c h f : Bool) → c ≡ false → h ≡ true → ((a && c) || (not h && f)) ≡ false
passed_over true true h f p q = cc
passed_over true false true f p q = refl
passed_over true false false f p q = cc
passed_over false c true f p q = refl
passed_over false c false f p q = cc

only_form : (a c h f : Bool) → c ≡ false → h ≡ false → ((a && c) || (not h && f)) ≡ f
only_form true true h f p q = cc
only_form true false true f p q = cc
only_form true false false f p q = refl
only_form false c true f p q = cc
only_form false c false f p q = refl

-- a line without a control unit before the first head has the faults of its form
form_faults : (earlier : List (List ℕ)) (line : List ℕ) (old : ProjectReading) (k : ℕ) → list_any is_control line ≡ false → old.has_ended ≡ false → HasRead earlier old → line_fault earlier line k ≡ form_fault old.file.entries (project_line line) k
form_faults earlier line old k c n h =
    only_form (k == 6) (list_any is_control line) (has_head earlier) (form_fault (entries_of (read_lines earlier)) (project_line line) k) c (sym h.ended ∙ n)
    ∙ ap (λ f. form_fault f.entries (project_line line) k) (sym h.says.file)

-- a line after a head
pub head_reads : (n : ℕ) (line : List ℕ) (old : ProjectReading) → list_any is_control line ≡ false → old.has_ended ≡ true → ReadsLine n line old old
head_reads n line old c ended = λ earlier e h.
    let head : has_head earlier ≡ true = sym h.ended ∙ ended in
    record {
      right = right_push earlier line h.right (λ k. passed_over (k == 6) _ _ _ c head);
      ended = ended ∙ sym (head_push earlier line n e ∙ ap (λ b. b || not (is_no_head (n, project_line line))) head);
      says = subst (λ l. HasSaid l old) (sym (read_stays earlier line head)) h.says;
    }

-- a right line before the first head
pub form_reads : (n : ℕ) (line : List ℕ) (old new : ProjectReading) → list_any is_control line ≡ false → old.has_ended ≡ false
    → TakesLine n (project_line line) old new → HasNoFormFault old.file.entries (project_line line) → ReadsLine n line old new
form_reads n line old new c open_yet takes right = λ earlier e h.
    let no_head : has_head earlier ≡ false = sym h.ended ∙ open_yet in
    record {
      right = right_push earlier line h.right (λ k. form_faults earlier line old k c open_yet h ∙ right k);
      ended = takes.ended ∙ sym (head_push earlier line n e ∙ ap (λ b. b || not (is_no_head (n, project_line line))) (sym h.ended));
      says = subst (λ l. HasSaid l new) (sym (read_push earlier line n e no_head)) (takes.says (read_lines earlier) h.says);
    }

-- ---- the whole text

none_faulty : HasNoFault []
none_faulty zero k = refl
none_faulty (suc i) k = refl

-- before the first line
pub nothing_read : (r : ProjectReading) → r.has_ended ≡ false → HasSaid [] r → HasRead [] r
nothing_read r e says = record { right = none_faulty; ended = e; says = says }

pub starts : (text rest : List ℕ) (r : ProjectReading) → rest ≡ text → HasRead [] r → HasReadTo text r 0 (lines_of rest)
starts text rest r e h = record { front = []; parts = ap lines_of (sym e); counted = refl; read = h }

-- one more line
pub reads_on : (text line : List ℕ) (left more : List (List ℕ)) (n : ℕ) (old new : ProjectReading) → HasReadTo text old n left → left ≡ line ∷ more → ReadsLine (n + 1) line old new → HasReadTo text new (n + 1) more
reads_on text line left more n old new h e reads = record {
  front = h.front ++ line ∷ [];
  parts = h.parts ∙ ap (λ l. h.front ++ l) e ∙ sym (append_assoc h.front (line ∷ []) more);
  counted = ap (λ k. k + 1) h.counted ∙ sym (length_push h.front line);
  read = reads h.front (ap (λ k. k + 1) h.counted) h.read;
}

-- all lines are read
pub answers : (text rest : List ℕ) (n : ℕ) (r : ProjectReading) → HasReadTo text r n (lines_of rest) → rest ≡ [] → IsProjectAnswer text (Ok r.file)
answers text rest n r h e =
    let whole : h.front ≡ lines_of text = sym (append-nil h.front) ∙ ap (λ t. h.front ++ lines_of t) (sym e) ∙ sym h.parts in
    (subst HasNoFault whole h.read.right, h.read.says.file ∙ ap (λ l. file_of (read_lines l)) whole)

-- a line is refused
refuses : (text line : List ℕ) (left more : List (List ℕ)) (n : ℕ) (old : ProjectReading) (f : Fault) → HasReadTo text old n left → left ≡ line ∷ more → IsAtLine (n + 1) f × IsFirstOfLine line f.kind old → (f.place.file ≡ 0) × IsFirstFault (lines_of text) f.place.line f.kind
refuses text line left more n old f h e g =
    let first = first_fault h.front line more f.place.line f.kind (g.0.1 ∙ ap (λ k. k + 1) h.counted) h.read.right (g.1 h.front h.read) in
    (g.0.0, subst (λ l. IsFirstFault l f.place.line f.kind) (ap (λ l. h.front ++ l) (sym e) ∙ sym h.parts) first)

pub fails : (text line : List ℕ) (left more : List (List ℕ)) (n : ℕ) (old : ProjectReading) {U : Type 0} (from : Result U ReadFail) (result : Result ProjectFile ReadFail) (e : ReadFail)
    → from ≡ Err e → IsErrAnd result (λ x. x ≡ e) → OnFault from (λ f. IsAtLine (n + 1) f × IsFirstOfLine line f.kind old) → HasReadTo text old n left → left ≡ line ∷ more → IsProjectAnswer text result
fails text line left more n old from (Ok file) e was s said h cut = absurd s
fails text line left more n old {U} from (Err x) e was s said h cut = rw s (by e (rw was at said))
  where
    by : (e : ReadFail) → OnFault {T = U} (Err e) (λ f. IsAtLine (n + 1) f × IsFirstOfLine line f.kind old) → IsProjectAnswer text (Err e)
    by (fail.Fault f) g = refuses text line left more n old f h cut g
    by fail.Mem g = tt
