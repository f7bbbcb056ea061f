-- How the files of a project are read.
use Rattle.std.specs.Prelude.{ℕ, suc, true, false, cond, ◌&&◌, List, [], ◌∷◌, ◌++◌, map, codes, Option, Some, None, is_none, option_map}
use Rattle.up_base.specs.Names.{is_name}
use Rattle.net_tree.specs.Spelling.{at_depth, is_identifier, is_same_text}
use Rattle.net_tree.specs.Text.{file_name, is_support, target_text}
use Rattle.net_tree.specs.Tree.{Module, Project}
use Rattle.net_exprs.specs.Fitting.{fits_name}
use Rattle.net_exprs.specs.Readers.{after}
use Rattle.net_reader.specs.FileLines.{file_lines, text_of_line}
use Rattle.net_reader.specs.ModuleReader.{NotedModule, Reading, behind_line, complete, is_line, module_in, stuck, taken}

-- what is read of the files before one: the comment at their heads, where there is a file, and their modules
pub record Before : Type 0 where
  pub note : Option (Option (List ℕ))
  pub earlier : List Module
  pub last : Option Module

abbrev pub none_before : Before
none_before = record { note = None; earlier = []; last = None }

abbrev pub listed : Option Module → List Module
listed None = []
listed (Some m) = m ∷ []

abbrev pub modules_before : Before → List Module
modules_before b = b.earlier ++ listed b.last

abbrev pub behind_module : Before → NotedModule → Before
behind_module b m = record { note = Some m.note; earlier = modules_before b; last = Some m.tree }

-- ---- the response file

-- where in it the next line stands, with the module that the program starts in
pub data ResponseState : Type 0 where
  at_target : ResponseState
  at_main : ResponseState
  among_texts : (main : Option (List ℕ)) → (texts : List (List ℕ)) → ResponseState

-- its lines behind the target and the module that the program starts in
abbrev pub response_lines : List Module → List (List ℕ)
response_lines ms = codes "/optionexplicit+" ∷ codes "/optionstrict-" ∷ map file_name ms

abbrev pub main_line : List ℕ → List ℕ
main_line name = codes "/main:" ++ name

abbrev pub target_step : List Module → (line : List ℕ) → Option ResponseState
target_step ms line = cond (is_line 0 (target_text true) line) (Some (among_texts None (response_lines ms)))
    (cond (is_line 0 (target_text false) line) (Some at_main) None)

-- the module that a line says the program starts in
abbrev pub main_in : (line : List ℕ) → Option (List ℕ)
main_in line =
    taken (λ (name : List ℕ). is_identifier name && fits_name name) (λ (name : List ℕ). at_depth 0 (main_line name)) line
    (after (codes "/main:") (text_of_line line))

abbrev pub main_step : List Module → (line : List ℕ) → Option ResponseState
main_step ms line = option_map (λ (name : List ℕ). among_texts (Some name) (response_lines ms)) (main_in line)

abbrev pub response_step : List Module → ResponseState → (line : List ℕ) → Option ResponseState
response_step ms at_target line = target_step ms line
response_step ms at_main line = main_step ms line
response_step ms (among_texts main []) line = None
response_step ms (among_texts main (text ∷ texts)) line = cond (is_line 0 text line) (Some (among_texts main texts)) None

-- at the end of the file, where this would be the next line
abbrev pub response_end : ResponseState → (number : ℕ) → Reading (Option (List ℕ))
response_end (among_texts main []) number = complete main
response_end _ number = stuck number

abbrev pub run_response : List Module → ResponseState → (number : ℕ) → List (List ℕ) → Reading (Option (List ℕ))
run_response ms s number [] = response_end s number
run_response ms s number (line ∷ lines) = behind_line number (response_step ms s line) (λ next. run_response ms next (suc number) lines)

-- the module that the program starts in
abbrev pub response_in : List Module → (file : List ℕ) → Reading (Option (List ℕ))
response_in ms file = run_response ms at_target 1 (file_lines file)

-- ---- all files

-- what is read of a list of files: its project, or the first line that isn't taken, with the number of its file; line 0 is the name
pub data Outcome : Type 0 where
  whole : Project → Outcome
  faulty : (file line : ℕ) → Outcome

-- what stands before `.vb`
abbrev pub base_name : List ℕ → Option (List ℕ)
base_name [] = None
base_name (c ∷ cs) = cond (is_same_text (c ∷ cs) (codes ".vb")) (Some []) (option_map (λ name. c ∷ name) (base_name cs))

abbrev pub checked_name : (file : List ℕ) → Option (List ℕ) → Option (List ℕ)
checked_name file None = None
checked_name file (Some name) = cond (is_identifier name && is_name file) (Some name) None

-- the module that a file is named for
abbrev pub module_name : (file : List ℕ) → Option (List ℕ)
module_name file = checked_name file (base_name file)

abbrev pub note_before : Option (Option (List ℕ)) → Option (List ℕ)
note_before None = None
note_before (Some note) = note

abbrev pub project_with : Before → (support : Module) → (main : Option (List ℕ)) → Project
project_with b support main = record { library = is_none main; main = main; note = note_before b.note; modules = b.earlier; support = support }

-- the response file is the last
abbrev pub finished : (file : ℕ) → Before → (support : Module) → Reading (Option (List ℕ)) → (files : List (List ℕ × List ℕ)) → Outcome
finished k b support (stuck line) files = faulty k line
finished k b support (complete main) [] = whole (project_with b support main)
finished k b support (complete main) (file ∷ files) = faulty (suc k) 0

-- the response file stands behind the module of the support functions
abbrev pub response_by : (file : ℕ) → Before → Option Module → (text : List ℕ) → (files : List (List ℕ × List ℕ)) → Outcome
response_by k b None text files = faulty k 0
response_by k b (Some m) text files = cond (is_support m) (finished k b m (response_in (modules_before b) text) files) (faulty k 0)

abbrev pub module_by : (file : ℕ) → Before → Reading NotedModule → (Before → Outcome) → Outcome
module_by k b (stuck line) go = faulty k line
module_by k b (complete m) go = go (behind_module b m)

abbrev pub named_by : (file : ℕ) → Before → Option (List ℕ) → (text : List ℕ) → (Before → Outcome) → Outcome
named_by k b None text go = faulty k 0
named_by k b (Some name) text go = module_by k b (module_in b.note name text) go

-- a missing file counts as an empty one
abbrev pub read_from : (file : ℕ) → Before → List (List ℕ × List ℕ) → Outcome
read_from k b [] = faulty k 1
read_from k b (file ∷ files) = cond (is_same_text file.0 (codes "upgrade.rsp")) (response_by k b b.last file.1 files)
    (named_by k b (module_name file.0) file.1 (λ next. read_from (suc k) next files))

-- what is read of the files of a project
abbrev pub project_in : List (List ℕ × List ℕ) → Outcome
project_in files = read_from 0 none_before files
