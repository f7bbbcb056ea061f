-- The head of a class file is the first lines of it.
use Rattle.std.proofs.Common.{◌≡◌, Bool, true, false, ◌||◌, if◌then◌else◌, List, [], ◌∷◌, ◌++◌, codes, length, drop, ◌-◌, ◌≤◌, sym, ap, ◌∙◌, arith}
use Rattle.std.proofs.lemmas.List.{length-append}
use Rattle.std.proofs.Math.Seq.{drop-append_seam}
use Rattle.vb_tree.specs.declared.token.Line.{Line}
use Rattle.vb_lines.specs.Modules.{Head, ended, malformed, is_one_word, is_blank_line, is_setting, begins_version, settings, begin_line, class_head, head_of}

-- these lines stand at the end of others
abbrev EndsWith : List Line → List Line → Type 0
EndsWith body lines = (front : List Line) × (lines ≡ front ++ body)

behind_one : (l : Line) (body lines : List Line) → EndsWith body lines → EndsWith body (l ∷ lines)
behind_one l body lines end = (l ∷ end.0, ap (λ ls. l ∷ ls) end.1)

at_once : (l : Line) (body lines : List Line) → ended lines ≡ ended body → EndsWith body (l ∷ lines)
at_once l body lines e = let same : lines ≡ body = cc in (l ∷ [], ap (λ ls. l ∷ ls) same)

either : (b : Bool) (x y z : Head) (P : Type 0) → (x ≡ z → P) → (y ≡ z → P) → (if b then x else y) ≡ z → P
either true x y z P first second e = first e
either false x y z P first second e = second e

settings_end : (lines body : List Line) → settings lines ≡ ended body → EndsWith body lines
settings_end [] body e = absurd cc
settings_end (l ∷ lines) body e =
    either (is_one_word (codes "end") l.tokens) (ended lines) (if is_blank_line l || is_setting l.tokens then settings lines else malformed l.place) (ended body)
    (EndsWith body (l ∷ lines))
    (at_once l body lines)
    (either (is_blank_line l || is_setting l.tokens) (settings lines) (malformed l.place) (ended body) (EndsWith body (l ∷ lines))
    (λ h. behind_one l body lines (settings_end lines body h)) (λ h. absurd cc))
    e

begin_end : (lines body : List Line) → begin_line lines ≡ ended body → EndsWith body lines
begin_end [] body e = absurd cc
begin_end (l ∷ lines) body e =
    either (is_one_word (codes "begin") l.tokens) (settings lines) (if is_blank_line l then begin_line lines else malformed l.place) (ended body)
    (EndsWith body (l ∷ lines))
    (λ h. behind_one l body lines (settings_end lines body h))
    (either (is_blank_line l) (begin_line lines) (malformed l.place) (ended body) (EndsWith body (l ∷ lines))
    (λ h. behind_one l body lines (begin_end lines body h)) (λ h. absurd cc))
    e

class_end : (lines body : List Line) → class_head lines ≡ ended body → EndsWith body lines
class_end [] body e = absurd cc
class_end (l ∷ lines) body e =
    either (begins_version l.tokens) (begin_line lines) (if is_blank_line l then class_head lines else malformed l.place) (ended body)
    (EndsWith body (l ∷ lines))
    (λ h. behind_one l body lines (begin_end lines body h))
    (either (is_blank_line l) (class_head lines) (malformed l.place) (ended body) (EndsWith body (l ∷ lines))
    (λ h. behind_one l body lines (class_end lines body h)) (λ h. absurd cc))
    e

whole_end : (body lines : List Line) → ended lines ≡ ended body → EndsWith body lines
whole_end body lines e = let same : lines ≡ body = cc in ([], same)

head_end : (class : Bool) (lines body : List Line) → head_of class lines ≡ ended body → EndsWith body lines
head_end true lines body e = class_end lines body e
head_end false lines body e = whole_end body lines e

pub no_longer : (class : Bool) (lines body : List Line) → head_of class lines ≡ ended body → length body ≤ length lines
no_longer class lines body e =
    let end = head_end class lines body e in
    omega (arith, ap length end.1, length-append end.0 body)

pub dropped_head : (class : Bool) (lines body : List Line) → head_of class lines ≡ ended body → head_of class lines ≡ ended (drop (length lines - length body) lines)
dropped_head class lines body e =
    let end = head_end class lines body e in
    let count : length lines - length body ≡ length end.0 = omega (arith, ap length end.1, length-append end.0 body) in
    let left : drop (length lines - length body) lines ≡ body = ap (λ n. drop n lines) count ∙ ap (drop (length end.0)) end.1 ∙ drop-append_seam end.0 body in
    e ∙ ap ended (sym left)
