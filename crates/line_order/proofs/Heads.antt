-- The numbers of the lines behind the head of a class file rise.
use Rattle.std.proofs.Common.{ℕ, Bool, true, false, ◌||◌, if◌then◌else◌, List, [], ◌∷◌, codes}
use Rattle.vb_tree.specs.declared.token.Line.{Line}
use Rattle.vb_lines.specs.Modules.{begins_version, is_one_word, is_setting, Head, ended, malformed, unended, is_blank_line, settings, begin_line, class_head, head_of}
use Rattle.line_order.specs.Order.{AreRising}
use Rattle.line_order.proofs.Readings.{numbers}
use Rattle.line_order.proofs.Rising.{behind_first}

-- what stands behind a head rises from a number
abbrev pub RisingHead : ℕ → Head → Type 0
RisingHead low (ended body) = AreRising low (numbers body)
RisingHead low (malformed place) = Unit {0}
RisingHead low unended = Unit {0}

either_head : (low : ℕ) (b : Bool) (x y : Head) → RisingHead low x → RisingHead low y → RisingHead low (if b then x else y)
either_head low true x y h k = h
either_head low false x y h k = k

settings_rise : (low : ℕ) (lines : List Line) → AreRising low (numbers lines) → RisingHead low (settings lines)
settings_rise low [] h = tt
settings_rise low (l ∷ lines) h =
    let rest = behind_first low l.place.line (numbers lines) h in
    either_head low (is_one_word (codes "end") l.tokens) (ended lines) (if is_blank_line l || is_setting l.tokens then settings lines else malformed l.place) rest
    (either_head low (is_blank_line l || is_setting l.tokens) (settings lines) (malformed l.place) (settings_rise low lines rest) tt)

begin_rises : (low : ℕ) (lines : List Line) → AreRising low (numbers lines) → RisingHead low (begin_line lines)
begin_rises low [] h = tt
begin_rises low (l ∷ lines) h =
    let rest = behind_first low l.place.line (numbers lines) h in
    either_head low (is_one_word (codes "begin") l.tokens) (settings lines) (if is_blank_line l then begin_line lines else malformed l.place) (settings_rise low lines rest)
    (either_head low (is_blank_line l) (begin_line lines) (malformed l.place) (begin_rises low lines rest) tt)

class_rises : (low : ℕ) (lines : List Line) → AreRising low (numbers lines) → RisingHead low (class_head lines)
class_rises low [] h = tt
class_rises low (l ∷ lines) h =
    let rest = behind_first low l.place.line (numbers lines) h in
    either_head low (begins_version l.tokens) (begin_line lines) (if is_blank_line l then class_head lines else malformed l.place) (begin_rises low lines rest)
    (either_head low (is_blank_line l) (class_head lines) (malformed l.place) (class_rises low lines rest) tt)

pub head_rises : (low : ℕ) (class : Bool) (lines : List Line) → AreRising low (numbers lines) → RisingHead low (head_of class lines)
head_rises low class lines h = either_head low class (class_head lines) (ended lines) (class_rises low lines h) h
