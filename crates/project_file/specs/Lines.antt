-- Parts of a text, as the reader cuts it.
use Rattle.std.specs.Prelude.{◌≡◌, ℕ, Bool, true, ◌||◌, cond, ◌==◌, List, [], ◌∷◌, Option, Some, None}
use Rattle.vb_tree.specs.ProjectLines.{ProjectLine, blank, head, entry, type_line, startup_line, not_carried, other, malformed, is_module_name}
use Rattle.std.specs.Borrow.{Bor}
use Rattle.up_base.specs.Names.{is_name}
use Rattle.project_file.specs.declared.project_line.LineText.{LineText}
use Rattle.project_file.specs.declared.project_line.LineText.TheVariants as text

-- whether a unit stands in a line end
abbrev pub is_line_end : ℕ → Bool
is_line_end c = (c == 10) || (c == 13)

abbrev pub past_feed : List ℕ → List ℕ
past_feed [] = []
past_feed (c ∷ cs) = cond (c == 10) cs (c ∷ cs)

-- a text without the line end that it begins with
abbrev pub past_line_end : List ℕ → List ℕ
past_line_end [] = []
past_line_end (c ∷ cs) = cond (c == 13) (past_feed cs) cs

abbrev pub both_now : Option (Bor (List ℕ) × Bor (List ℕ)) → Option (List ℕ × List ℕ)
both_now None = None
both_now (Some parts) = Some (parts.0.now, parts.1.now)

-- the line that the parts of a text stand for
abbrev pub line_seen : LineText → ProjectLine
line_seen text.Blank = blank
line_seen text.Head = head
line_seen (text.Entry class name file) = entry class name.now file.now
line_seen (text.Type value) = type_line value.now
line_seen (text.Startup value) = startup_line value.now
line_seen text.NotCarried = not_carried
line_seen text.Other = other
line_seen text.Malformed = malformed

-- an entry has the name of a module and the name of a file
abbrev pub HasNames : LineText → Type 0
HasNames text.Blank = Unit {0}
HasNames text.Head = Unit {0}
HasNames (text.Entry class name file) = (is_module_name name.now ≡ true) × (is_name file.now ≡ true)
HasNames (text.Type value) = Unit {0}
HasNames (text.Startup value) = Unit {0}
HasNames text.NotCarried = Unit {0}
HasNames text.Other = Unit {0}
HasNames text.Malformed = Unit {0}
