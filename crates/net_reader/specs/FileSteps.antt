-- What is read of files step by step: a line of a response file, one file more, and the last.
use Rattle.std.specs.Prelude.{◌≡◌, ◌≢◌, ℕ, suc, Bool, false, cond, List, [], ◌∷◌, Option, Some, None, option_map, MatchOption}
use Rattle.std.specs.Borrow.{Bor}
use Rattle.net_tree.specs.Spelling.{at_depth}
use Rattle.net_tree.specs.Text.{is_support}
use Rattle.net_tree.specs.Tree.{Module, Project}
use Rattle.net_reader.specs.FileLines.{file_lines}
use Rattle.net_reader.specs.ModuleReader.{Reading, complete, is_line, module_in, stuck}
use Rattle.net_reader.specs.ProjectReader.{Before, Outcome, behind_module, faulty, main_line, module_name, modules_before, project_with, response_in, whole}

-- ---- the response file

-- the lines behind a first line of this text
abbrev pub behind_text : (text : List ℕ) → List (List ℕ) → Option (List (List ℕ))
behind_text text [] = None
behind_text text (line ∷ lines) = cond (is_line 0 text line) (Some lines) None

-- the lines of what is left of a file
abbrev pub lines_of : Option (Bor (List ℕ)) → Option (List (List ℕ))
lines_of rest = option_map (λ rest. file_lines rest.now) rest

-- What is found is the name in a line for the module that the program starts in.
abbrev pub IsMainLine : (line : List ℕ) → Option (Bor (List ℕ)) → Type 0
IsMainLine line found = MatchOption found ((name : List ℕ) → line ≢ at_depth 0 (main_line name)) (λ name. line ≡ at_depth 0 (main_line name.now))

-- ---- one file

-- what is made of what is read
abbrev pub read_as : {A B : Type 0} → (A → B) → Reading A → Reading B
read_as make (stuck line) = stuck line
read_as make (complete x) = complete (make x)

-- what is read of the files up to one more, by the module that it is named for
abbrev pub named_reading : Before → Option (List ℕ) → (text : List ℕ) → Reading Before
named_reading b None text = stuck 0
named_reading b (Some name) text = read_as (behind_module b) (module_in b.note name text)

-- what is read of the files up to one more, which is a module's
abbrev pub file_reading : Before → (name text : List ℕ) → Reading Before
file_reading b name text = named_reading b (module_name name) text

-- whether the last module is that of the support functions
abbrev pub is_last_support : Option Module → Bool
is_last_support None = false
is_last_support (Some m) = is_support m

-- the project of the modules, of which the last is that of the support functions
abbrev pub project_by : Before → Option Module → (main : Option (List ℕ)) → Reading Project
project_by b None main = stuck 0
project_by b (Some m) main = complete (project_with b m main)

-- the project that starts as the response file says
abbrev pub started_by : Before → Option Module → Reading (Option (List ℕ)) → Reading Project
started_by b last (stuck line) = stuck line
started_by b last (complete main) = project_by b last main

-- what is read of the response file behind a last module
abbrev pub last_by : Before → Option Module → (text : List ℕ) → Reading Project
last_by b last text = cond (is_last_support last) (started_by b last (response_in (modules_before b) text)) (stuck 0)

-- what is read of the files up to one more, which is the response file
abbrev pub last_reading : Before → (text : List ℕ) → Reading Project
last_reading b text = last_by b b.last text

-- what is read of all files, where none may stand behind the response file
abbrev pub ended_by : (file : ℕ) → Reading Project → (is_last : Bool) → Outcome
ended_by k (stuck line) is_last = faulty k line
ended_by k (complete N) is_last = cond is_last (whole N) (faulty (suc k) 0)

-- the modules but the last
abbrev pub but_last : List Module → List Module
but_last [] = []
but_last (m ∷ []) = []
but_last (m ∷ n ∷ ms) = m ∷ but_last (n ∷ ms)

-- the last of them
abbrev pub last_of : List Module → Option Module
last_of [] = None
last_of (m ∷ []) = Some m
last_of (m ∷ n ∷ ms) = last_of (n ∷ ms)

-- what is read of files by the comment at their heads and their modules
abbrev pub before_with : Option (Option (List ℕ)) → List Module → Before
before_with note ms = record { note = note; earlier = but_last ms; last = last_of ms }
