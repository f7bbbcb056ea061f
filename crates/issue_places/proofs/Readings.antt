-- The logical lines of the text of a file stand in it, and so do those behind the head of a class file.
use Rattle.std.proofs.Common.{ℕ, ◌+◌, Bool, true, false, ◌||◌, if◌then◌else◌, Option, Some, None, List, [], ◌∷◌, codes}
use Rattle.std.specs.List.{AllByRecursion as Each}
use Rattle.up_base.specs.declared.place.Fault.{Fault}
use Rattle.up_base.specs.declared.place.Place.{Place}
use Rattle.vb_tree.specs.declared.token.Line.{Line}
use Rattle.vb_tree.specs.LogicalLines.{physical_lines, joined, joints, Reading, reading, readings_from, readings, lines_before_fault}
use Rattle.vb_lines.specs.Modules.{begins_version, is_one_word, is_setting, Head, ended, malformed, unended, is_blank_line, settings, begin_line, class_head, head_of}
use Rattle.issue_places.proofs.Standing.{InFile}

abbrev pub TextStands : (Place → Type 0) → List Line → Type 0
TextStands F lines = Each (λ (l : Line). F l.place) lines

-- ---- readings

before_others : (F : Place → Type 0) (r : Reading) (rs : List Reading) → F r.line.place → TextStands F (lines_before_fault rs) → TextStands F (lines_before_fault (r ∷ rs))
before_others F r rs p h = of_fault r.fault
  where
    of_fault : (o : Option Fault) → TextStands F (elim o [ Some fault ↦ [] | None ↦ r.line ∷ lines_before_fault rs ])
    of_fault (Some fault) = tt
    of_fault None = (p, h)

readings_stand : (F : Place → Type 0) (file : ℕ) → InFile F file → (number : ℕ) (lines : List (List ℕ)) → TextStands F (lines_before_fault (readings_from file number lines))
unfolding reading
readings_stand F file p number [] = tt
readings_stand F file p number (units ∷ lines) =
    let later = number + 1 + joints units in
    before_others F (reading file number units) (readings_from file later lines) (p number) (readings_stand F file p later lines)

pub text_stands : (F : Place → Type 0) (file : ℕ) → InFile F file → (text : List ℕ) → TextStands F (lines_before_fault (readings file text))
unfolding readings
text_stands F file p text = readings_stand F file p 1 (joined (physical_lines text))

-- ---- heads

abbrev pub HeadStands : (Place → Type 0) → Head → Type 0
HeadStands F (ended body) = TextStands F body
HeadStands F (malformed place) = Unit {0}
HeadStands F unended = Unit {0}

either_head : (F : Place → Type 0) (b : Bool) (x y : Head) → HeadStands F x → HeadStands F y → HeadStands F (if b then x else y)
either_head F true x y h k = h
either_head F false x y h k = k

settings_stand : (F : Place → Type 0) (lines : List Line) → TextStands F lines → HeadStands F (settings lines)
settings_stand F [] h = tt
settings_stand F (l ∷ lines) h =
    either_head F (is_one_word (codes "end") l.tokens) (ended lines) (if is_blank_line l || is_setting l.tokens then settings lines else malformed l.place) h.1
    (either_head F (is_blank_line l || is_setting l.tokens) (settings lines) (malformed l.place) (settings_stand F lines h.1) tt)

begin_stands : (F : Place → Type 0) (lines : List Line) → TextStands F lines → HeadStands F (begin_line lines)
begin_stands F [] h = tt
begin_stands F (l ∷ lines) h =
    either_head F (is_one_word (codes "begin") l.tokens) (settings lines) (if is_blank_line l then begin_line lines else malformed l.place) (settings_stand F lines h.1)
    (either_head F (is_blank_line l) (begin_line lines) (malformed l.place) (begin_stands F lines h.1) tt)

class_stands : (F : Place → Type 0) (lines : List Line) → TextStands F lines → HeadStands F (class_head lines)
class_stands F [] h = tt
class_stands F (l ∷ lines) h =
    either_head F (begins_version l.tokens) (begin_line lines) (if is_blank_line l then class_head lines else malformed l.place) (begin_stands F lines h.1)
    (either_head F (is_blank_line l) (class_head lines) (malformed l.place) (class_stands F lines h.1) tt)

pub head_stands : (F : Place → Type 0) (class : Bool) (lines : List Line) → TextStands F lines → HeadStands F (head_of class lines)
head_stands F class lines h = either_head F class (class_head lines) (ended lines) (class_stands F lines h) h
