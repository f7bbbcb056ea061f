-- Project files: their lines, what each line is, what they say, and their faults.
use Rattle.std.specs.Prelude.{◌≡◌, ◌⊎◌, ℕ, zero, suc, ◌+◌, ◌<◌, ◌≤◌, Bool, true, false, ◌&&◌, ◌||◌, not, cond, ◌==◌, nat_eq, nat_le, nat_lt, Option, Some, None, List, [], ◌∷◌, ◌++◌, length, map, reverse, take, drop, codes, slice_get, option_map, Result, Ok, Err}
use Rattle.std.specs.List.{list_all, list_any, filter_map, enumerate_from, onto_first, position, take_while, starts_with, ends_with}
use Rattle.std.specs.Cmp.Lexicographic.{pointwise}
use Rattle.up_base.specs.Names.{is_name, is_same_name, lower_case}
use Rattle.up_base.specs.declared.place.ReadFail.{ReadFail}
use Rattle.up_base.specs.declared.place.ReadFail.TheVariants.{Fault, Mem}
use Rattle.vb_tree.specs.declared.project.ProjectKind.{ProjectKind}
use Rattle.vb_tree.specs.declared.project.ProjectKind.TheVariants.{Exe, OleDll}
use Rattle.vb_tree.specs.declared.project.Entry.{Entry}
use Rattle.vb_tree.specs.declared.project.ProjectFile.{ProjectFile}

-- ---- the lines of a text

-- what a unit is to the lines of a text
pub data UnitRole : Type 0 where
  within : UnitRole
  ends_line : UnitRole
  -- the CR of CR LF, which are one line end
  joins_end : UnitRole

abbrev pub begins_with_feed : List ℕ → Bool
begins_with_feed [] = false
begins_with_feed (c ∷ cs) = c == 10

-- the role of a unit before these
abbrev pub unit_role : ℕ → List ℕ → UnitRole
unit_role c cs = cond (c == 10) ends_line (cond (c == 13) (cond (begins_with_feed cs) joins_end ends_line) within)

-- a unit before the lines that follow it
abbrev pub placed : UnitRole → ℕ → List (List ℕ) → List (List ℕ)
placed within c lines = onto_first c lines
placed ends_line c lines = [] ∷ lines
placed joins_end c lines = lines

-- The lines of a text without their ends, which are CR LF, LF and CR. A line end at the end begins no further line.
abbrev pub lines_of : List ℕ → List (List ℕ)
lines_of [] = []
lines_of (c ∷ cs) = placed (unit_role c cs) c (lines_of cs)

-- ---- what a line is

pub data ProjectLine : Type 0 where
  blank : ProjectLine
  -- the head of a section
  head : ProjectLine
  entry : (class : Bool) (name file : List ℕ) → ProjectLine
  type_line : (value : List ℕ) → ProjectLine
  startup_line : (value : List ℕ) → ProjectLine
  -- names what isn't carried over
  not_carried : ProjectLine
  -- a setting of another key
  other : ProjectLine
  malformed : ProjectLine

abbrev pub is_blank : ℕ → Bool
is_blank c = (c == 32) || (c == 9)

abbrev pub past_blanks : List ℕ → List ℕ
past_blanks [] = []
past_blanks (c ∷ cs) = cond (is_blank c) (past_blanks cs) (c ∷ cs)

-- without the blanks at both ends
abbrev pub trimmed : List ℕ → List ℕ
trimmed text = reverse (past_blanks (reverse (past_blanks text)))

-- what stands before the first such sign and after it
abbrev pub parted : ℕ → List ℕ → Option (List ℕ × List ℕ)
parted sign text = option_map (λ at. (take at text, drop (at + 1) text)) (position (λ c. c == sign) text)

-- whether a key is spelt so, in any case; the word is in small letters
abbrev pub is_key : List ℕ → List ℕ → Bool
is_key key word = pointwise nat_eq (lower_case key) word

abbrev pub is_letter : ℕ → Bool
is_letter c = (nat_le 65 c && nat_le c 90) || (nat_le 97 c && nat_le c 122)

abbrev pub is_name_unit : ℕ → Bool
is_name_unit c = is_letter c || (nat_le 48 c && nat_le c 57) || (c == 95)

-- a letter and at most 254 letters, digits and `_`
abbrev pub is_module_name : List ℕ → Bool
is_module_name [] = false
is_module_name (c ∷ cs) = is_letter c && nat_le (length cs) 254 && list_all is_name_unit cs

abbrev pub named_entry : Bool → List ℕ → List ℕ → ProjectLine
named_entry class name file = cond (is_module_name name && is_name file) (entry class name file) malformed

-- `NAME; FILE`
abbrev pub entry_line : Bool → Option (List ℕ × List ℕ) → ProjectLine
entry_line class None = malformed
entry_line class (Some parts) = named_entry class parts.0 (trimmed parts.1)

-- the keys of what isn't carried over
abbrev pub is_left_behind : List ℕ → Bool
is_left_behind key =
    is_key key (codes "form") || is_key key (codes "usercontrol") || is_key key (codes "userdocument") || is_key key (codes "propertypage")
    || is_key key (codes "designer") || is_key key (codes "resfile32") || is_key key (codes "object")

abbrev pub setting_line : List ℕ → List ℕ → ProjectLine
setting_line key value =
    cond (is_key key (codes "module")) (entry_line false (parted 59 value))
    (cond (is_key key (codes "class")) (entry_line true (parted 59 value))
    (cond (is_key key (codes "type")) (type_line value)
    (cond (is_key key (codes "startup")) (startup_line value)
    (cond (is_left_behind key) not_carried other))))

-- `KEY=VALUE`
abbrev pub keyed_line : Option (List ℕ × List ℕ) → ProjectLine
keyed_line None = malformed
keyed_line (Some parts) = setting_line (trimmed parts.0) (trimmed parts.1)

-- whether a line without its blanks begins with `[` and ends with `]`
abbrev pub is_head : List ℕ → Bool
is_head content = starts_with nat_eq content (91 ∷ []) && ends_with nat_eq content (93 ∷ [])

abbrev pub content_line : List ℕ → ProjectLine
content_line [] = blank
content_line (c ∷ cs) = cond (is_head (c ∷ cs)) head (keyed_line (parted 61 (c ∷ cs)))

-- what a line is
abbrev pub project_line : List ℕ → ProjectLine
project_line line = content_line (trimmed line)

-- ---- what the lines say

abbrev pub is_no_head : ℕ × ProjectLine → Bool
is_no_head (n, blank) = true
is_no_head (n, head) = false
is_no_head (n, entry class name file) = true
is_no_head (n, type_line value) = true
is_no_head (n, startup_line value) = true
is_no_head (n, not_carried) = true
is_no_head (n, other) = true
is_no_head (n, malformed) = true

-- what each line is, with its number from 1
abbrev pub numbered_lines : List (List ℕ) → List (ℕ × ProjectLine)
numbered_lines lines = enumerate_from 1 (map project_line lines)

-- the lines before the first head
abbrev pub read_lines : List (List ℕ) → List (ℕ × ProjectLine)
read_lines lines = take_while is_no_head (numbered_lines lines)

abbrev pub entry_at : ℕ × ProjectLine → Option Entry
entry_at (n, blank) = None
entry_at (n, head) = None
entry_at (n, entry class name file) = Some (record { line = n; class = class; name = name; file = file })
entry_at (n, type_line value) = None
entry_at (n, startup_line value) = None
entry_at (n, not_carried) = None
entry_at (n, other) = None
entry_at (n, malformed) = None

-- the value of a `Type` line
abbrev pub type_at : ℕ × ProjectLine → Option (List ℕ)
type_at (n, blank) = None
type_at (n, head) = None
type_at (n, entry class name file) = None
type_at (n, type_line value) = Some value
type_at (n, startup_line value) = None
type_at (n, not_carried) = None
type_at (n, other) = None
type_at (n, malformed) = None

-- a `Startup` line's number and value
abbrev pub startup_at : ℕ × ProjectLine → Option (ℕ × List ℕ)
startup_at (n, blank) = None
startup_at (n, head) = None
startup_at (n, entry class name file) = None
startup_at (n, type_line value) = None
startup_at (n, startup_line value) = Some (n, value)
startup_at (n, not_carried) = None
startup_at (n, other) = None
startup_at (n, malformed) = None

abbrev pub entries_of : List (ℕ × ProjectLine) → List Entry
entries_of lines = filter_map entry_at lines

abbrev pub types_of : List (ℕ × ProjectLine) → List (List ℕ)
types_of lines = filter_map type_at lines

abbrev pub startups_of : List (ℕ × ProjectLine) → List (ℕ × List ℕ)
startups_of lines = filter_map startup_at lines

abbrev pub is_exe : List ℕ → Bool
is_exe value = pointwise nat_eq value (codes "Exe")

abbrev pub is_known_type : List ℕ → Bool
is_known_type value = is_exe value || pointwise nat_eq value (codes "OleDll")

-- the first `Type` counts; a project without one is a program
abbrev pub kind_of : List (List ℕ) → ProjectKind
kind_of [] = Exe
kind_of (value ∷ values) = cond (is_exe value) Exe OleDll

abbrev pub is_sub_main : List ℕ → Bool
is_sub_main value = pointwise nat_eq value (codes "\"Sub Main\"")

abbrev pub is_known_startup : List ℕ → Bool
is_known_startup value = is_sub_main value || pointwise nat_eq value (codes "\"(None)\"") || pointwise nat_eq value (codes "\"!(None)!\"")

-- the first `Startup` counts
abbrev pub startup_of : List (ℕ × List ℕ) → Option (ℕ × List ℕ)
startup_of [] = None
startup_of (start ∷ starts) = cond (is_sub_main start.1) (Some (start.0, codes "Sub Main")) None

abbrev pub is_nonempty : {X : Type 0} → List X → Bool
is_nonempty [] = false
is_nonempty (x ∷ xs) = true

-- each item with those before it
abbrev pub with_earlier : {X : Type 0} → List X → List X → List (List X × X)
with_earlier earlier [] = []
with_earlier earlier (x ∷ xs) = (earlier, x) ∷ with_earlier (earlier ++ x ∷ []) xs

-- Whether a line says what isn't carried over: its key, or a value that isn't known in the first `Type` or `Startup`.
abbrev pub is_dropped : List (ℕ × ProjectLine) → ProjectLine → Bool
is_dropped earlier blank = false
is_dropped earlier head = false
is_dropped earlier (entry class name file) = false
is_dropped earlier (type_line value) = not (is_nonempty (types_of earlier)) && not (is_known_type value)
is_dropped earlier (startup_line value) = not (is_nonempty (startups_of earlier)) && not (is_known_startup value)
is_dropped earlier not_carried = true
is_dropped earlier other = false
is_dropped earlier malformed = false

abbrev pub dropped_at : List (ℕ × ProjectLine) × (ℕ × ProjectLine) → Option ℕ
dropped_at (earlier, (n, line)) = cond (is_dropped earlier line) (Some n) None

abbrev pub dropped_of : List (ℕ × ProjectLine) → List ℕ
dropped_of lines = filter_map dropped_at (with_earlier [] lines)

-- what lines before the first head say
abbrev pub file_of : List (ℕ × ProjectLine) → ProjectFile
file_of lines = record {
  kind = kind_of (types_of lines);
  startup = startup_of (startups_of lines);
  entries = entries_of lines;
  dropped = dropped_of lines;
}

-- what a text says that has no fault
abbrev pub project_file : List ℕ → ProjectFile
project_file text = file_of (read_lines (lines_of text))

-- ---- faults

-- a unit that stands for no character, or a control character other than tab, CR and LF
abbrev pub is_control : ℕ → Bool
is_control c = (nat_lt c 32 && not (c == 9) && not (c == 10) && not (c == 13)) || (c == 127)

-- the most entries of a project
abbrev pub entry_limit : ℕ
entry_limit = 200

-- the names that the program itself uses
abbrev pub is_reserved : List ℕ → Bool
is_reserved name = is_same_name name (codes "UpgradeSupport") || is_same_name name (codes "System") || is_same_name name (codes "Microsoft")

-- whether a name is reserved or that of one of these entries, without case
abbrev pub is_taken : List Entry → List ℕ → Bool
is_taken entries name = is_reserved name || list_any (λ e. is_same_name name e.name) entries

-- whether an entry has the name of a module and the name of a file
abbrev pub is_named : Entry → Bool
is_named e = is_module_name e.name && is_name e.file

-- whether no entry before it has an entry's name, and it isn't reserved
abbrev pub is_new : List Entry × Entry → Bool
is_new (earlier, e) = not (is_taken earlier e.name)

-- whether no entry has a name that is reserved or that of an earlier one
abbrev pub are_apart : List Entry → Bool
are_apart entries = list_all is_new (with_earlier [] entries)

-- whether a line has the fault of a number, after these entries: 3 past the limit of entries, 4 not of its form, 5 a name
-- used twice or reserved
abbrev pub form_fault : List Entry → ProjectLine → ℕ → Bool
form_fault entries blank kind = false
form_fault entries head kind = false
form_fault entries (entry class name file) kind = ((kind == 3) && nat_le entry_limit (length entries)) || ((kind == 5) && is_taken entries name)
form_fault entries (type_line value) kind = false
form_fault entries (startup_line value) kind = false
form_fault entries not_carried kind = false
form_fault entries other kind = false
form_fault entries malformed kind = kind == 4

-- whether one of the lines is a head
abbrev pub has_head : List (List ℕ) → Bool
has_head lines = not (list_all is_no_head (numbered_lines lines))

-- Whether a line has the fault of a number, after these lines: 6 a control unit, in lines that are passed over too.
abbrev pub line_fault : List (List ℕ) → List ℕ → ℕ → Bool
line_fault earlier line kind =
    ((kind == 6) && list_any is_control line) || (not (has_head earlier) && form_fault (entries_of (read_lines earlier)) (project_line line) kind)

abbrev pub fault_on : List (List ℕ) → Option (List ℕ) → ℕ → Bool
fault_on earlier None kind = false
fault_on earlier (Some line) kind = line_fault earlier line kind

-- whether the line of a number, from 1, has the fault of a kind
abbrev pub is_fault : List (List ℕ) → ℕ → ℕ → Bool
is_fault lines zero kind = false
is_fault lines (suc i) kind = fault_on (take i lines) (slice_get lines i) kind

-- the order of the faults of one line: 6 before the others
abbrev pub rank : ℕ → ℕ
rank kind = cond (kind == 6) 0 (kind + 1)

-- a fault comes before another one or is it
abbrev pub ComesFirst : (line kind other_line other_kind : ℕ) → Type 0
ComesFirst line kind other_line other_kind = (line < other_line) ⊎ ((line ≡ other_line) × (rank kind ≤ rank other_kind))

-- the first fault of lines, by line
pub record IsFirstFault (lines : List (List ℕ)) (line kind : ℕ) : Type 0 where
  pub is : is_fault lines line kind ≡ true
  pub first : (n k : ℕ) → is_fault lines n k ≡ true → ComesFirst line kind n k

-- no line has a fault
abbrev pub HasNoFault : List (List ℕ) → Type 0
HasNoFault lines = (n k : ℕ) → is_fault lines n k ≡ false

-- The answer to a text: what it says where it has no fault, and else its first fault. Want of memory is tied to nothing.
abbrev pub IsProjectAnswer : List ℕ → Result ProjectFile ReadFail → Type 0
IsProjectAnswer text (Ok file) = HasNoFault (lines_of text) × (file ≡ project_file text)
IsProjectAnswer text (Err (Fault f)) = (f.place.file ≡ 0) × IsFirstFault (lines_of text) f.place.line f.kind
IsProjectAnswer text (Err Mem) = Unit {0}

-- it is an answer, and no want of memory
abbrev pub IsAnswered : Result ProjectFile ReadFail → Type 0
IsAnswered (Ok file) = Unit {0}
IsAnswered (Err (Fault f)) = Unit {0}
IsAnswered (Err Mem) = ⊥

-- one text has one answer
abbrev pub OneProjectAnswer : Type 0
OneProjectAnswer = (text : List ℕ) (a b : Result ProjectFile ReadFail) → IsProjectAnswer text a → IsProjectAnswer text b → IsAnswered a → IsAnswered b → a ≡ b
