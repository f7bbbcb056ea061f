-- Reading a project file line by line: what its lines have given so far.
use Rattle.std.specs.Prelude.{◌≡◌, ℕ, ◌≤◌, Bool, true, false, ◌||◌, not, List, [], ◌∷◌, ◌++◌, ◌+◌, length, Result, Ok, Err}
use Rattle.std.specs.List.{take_while}
use Rattle.up_base.specs.declared.place.Fault.{Fault}
use Rattle.up_base.specs.declared.place.ReadFail.{ReadFail}
use Rattle.up_base.specs.declared.place.ReadFail.TheVariants as fail
use Rattle.vb_tree.specs.declared.project.Entry.{Entry}
use Rattle.vb_tree.specs.ProjectLines.{ProjectLine, lines_of, is_no_head, types_of, startups_of, is_nonempty, file_of, read_lines, has_head, form_fault, line_fault, rank, HasNoFault}
use Rattle.project_file.specs.declared.reading.ProjectReading.{ProjectReading}

-- what is said of the fault at which a text is refused
abbrev pub OnFault : {T : Type 0} → Result T ReadFail → (Fault → Type 0) → Type 0
OnFault (Ok x) P = Unit {0}
OnFault (Err (fail.Fault f)) P = P f
OnFault (Err fail.Mem) P = Unit {0}

-- a fault of the project file at a line
abbrev pub IsAtLine : ℕ → Fault → Type 0
IsAtLine number f = (f.place.file ≡ 0) × (f.place.line ≡ number)

-- these lines before the first head have given this
pub record HasSaid (lines : List (ℕ × ProjectLine)) (r : ProjectReading) : Type 0 where
  pub file : r.file ≡ file_of lines
  pub has_type : r.has_type ≡ is_nonempty (types_of lines)
  pub has_startup : r.has_startup ≡ is_nonempty (startups_of lines)

-- a line more leads from one reading to another
pub record AddsLine (number : ℕ) (line : ProjectLine) (old new : ProjectReading) : Type 0 where
  pub ended : new.has_ended ≡ old.has_ended
  pub says : (lines : List (ℕ × ProjectLine)) → HasSaid lines old → HasSaid (lines ++ (number, line) ∷ []) new

-- the same for a line that may be a head
pub record TakesLine (number : ℕ) (line : ProjectLine) (old new : ProjectReading) : Type 0 where
  pub ended : new.has_ended ≡ (old.has_ended || not (is_no_head (number, line)))
  pub says : (lines : List (ℕ × ProjectLine)) → HasSaid lines old → HasSaid (lines ++ take_while is_no_head ((number, line) ∷ [])) new

-- a line has no fault after these entries
abbrev pub HasNoFormFault : List Entry → ProjectLine → Type 0
HasNoFormFault entries line = (kind : ℕ) → form_fault entries line kind ≡ false

-- the first of a line's faults
pub record IsFirstKind (has : ℕ → Bool) (kind : ℕ) : Type 0 where
  pub is : has kind ≡ true
  pub first : (k : ℕ) → has k ≡ true → rank kind ≤ rank k

-- these lines have no fault, and have given this
pub record HasRead (lines : List (List ℕ)) (r : ProjectReading) : Type 0 where
  pub right : HasNoFault lines
  pub ended : r.has_ended ≡ has_head lines
  pub says : HasSaid (read_lines lines) r

-- a line more leads from one reading to another, whatever right lines came before it
abbrev pub ReadsLine : ℕ → List ℕ → ProjectReading → ProjectReading → Type 0
ReadsLine number line old new = (earlier : List (List ℕ)) → number ≡ length earlier + 1 → HasRead earlier old → HasRead (earlier ++ line ∷ []) new

-- the fault of a kind is the first of a line, whatever right lines came before it
abbrev pub IsFirstOfLine : List ℕ → ℕ → ProjectReading → Type 0
IsFirstOfLine line kind old = (earlier : List (List ℕ)) → HasRead earlier old → IsFirstKind (line_fault earlier line) kind

-- the lines of a text up to those that are left have given this, n lines in all
pub record HasReadTo (text : List ℕ) (r : ProjectReading) (n : ℕ) (left : List (List ℕ)) : Type 0 where
  pub front : List (List ℕ)
  pub parts : lines_of text ≡ front ++ left
  pub counted : n ≡ length front
  pub read : HasRead front r
