-- The lines of a file, and the UTF-16 units of a text in UTF-8.
use Rattle.std.specs.Prelude.{ℕ, suc, cond, ◌==◌, List, [], ◌∷◌, Option, Some, None}
use Rattle.std.specs.List.{flat_map}
use Rattle.std.specs.Str.{chars, is_utf8}
use Rattle.std.specs.Char.Escape.{encode_utf16}
use Rattle.up_base.specs.LineEnd.{line_end}
use Rattle.net_tree.specs.Spelling.{is_same_text}

-- a byte in front of the first of some lines
abbrev pub onto_first : ℕ → List (List ℕ) → List (List ℕ)
onto_first c [] = (c ∷ []) ∷ []
onto_first c (line ∷ lines) = (c ∷ line) ∷ lines

-- a byte before some lines: a line feed is the last of its line
abbrev pub before_lines : ℕ → List (List ℕ) → List (List ℕ)
before_lines c lines = cond (c == 10) ((c ∷ []) ∷ lines) (onto_first c lines)

-- the lines of a file, each up to its line feed; the last may have none
abbrev pub file_lines : List ℕ → List (List ℕ)
file_lines [] = []
file_lines (c ∷ cs) = before_lines c (file_lines cs)

-- the length of the first of them
abbrev pub line_length : List ℕ → ℕ
line_length [] = 0
line_length (c ∷ cs) = cond (c == 10) 1 (suc (line_length cs))

-- a line without the carriage return and the line feed at its end
abbrev pub without_end : List ℕ → List ℕ
without_end [] = []
without_end (c ∷ cs) = cond (is_same_text (c ∷ cs) line_end) [] (c ∷ without_end cs)

-- a line without the blanks at its front
abbrev pub without_indent : List ℕ → List ℕ
without_indent [] = []
without_indent (c ∷ cs) = cond (c == 32) (without_indent cs) (c ∷ cs)

-- what a line says
abbrev pub text_of_line : List ℕ → List ℕ
text_of_line line = without_indent (without_end line)

-- the units of a text in UTF-8
abbrev pub units_in : List ℕ → Option (List ℕ)
units_in bytes = cond (is_utf8 bytes) (Some (flat_map encode_utf16 (chars bytes))) None
