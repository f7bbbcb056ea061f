-- The files that stand for a project, and which projects can be written.
use Rattle.std.specs.Prelude.{◌≡◌, ℕ, Bool, true, false, not, ◌&&◌, nat_le, List, [], ◌∷◌, ◌++◌, length, map, codes, Option, Some, None, is_none}
use Rattle.std.specs.List.{flat_map, list_all}
use Rattle.up_base.specs.Names.{is_name, is_printable}
use Rattle.net_tree.specs.Tree.{Module, Project}
use Rattle.net_tree.specs.Spelling.{at_depth, name_text, is_identifier, is_same_text}
use Rattle.net_tree.specs.Declarations.{member_text, is_writable_member}

-- the comment at the head of a file, where there is one
abbrev pub note_text : Option (List ℕ) → List ℕ
note_text None = []
note_text (Some note) = at_depth 0 (codes "' " ++ note)

-- the mark of UTF-8
abbrev pub byte_order_mark : List ℕ
byte_order_mark = 0xEF ∷ 0xBB ∷ 0xBF ∷ []

abbrev pub options_text : List ℕ
options_text = at_depth 0 (codes "Option Explicit On") ++ at_depth 0 (codes "Option Strict Off") ++ at_depth 0 (codes "Option Compare Binary")

-- the word of a class or of a standard module
abbrev pub kind_text : (class : Bool) → List ℕ
kind_text true = codes "Class"
kind_text false = codes "Module"

abbrev pub module_text : Option (List ℕ) → Module → List ℕ
module_text note m =
    byte_order_mark ++ note_text note ++ options_text ++ at_depth 0 (codes "Public " ++ kind_text m.class ++ codes " " ++ name_text m.name)
    ++ flat_map member_text m.members ++ at_depth 0 (codes "End " ++ kind_text m.class)

abbrev pub target_text : Bool → List ℕ
target_text true = codes "/target:library"
target_text false = codes "/target:exe"

abbrev pub main_text : Option (List ℕ) → List ℕ
main_text None = []
main_text (Some name) = at_depth 0 (codes "/main:" ++ name)

-- the name of a module's file
abbrev pub file_name : Module → List ℕ
file_name m = m.name ++ codes ".vb"

-- the modules in the order in which they are written
abbrev pub written_modules : Project → List Module
written_modules N = N.modules ++ N.support ∷ []

-- the response file of the compiler
abbrev pub response_text : Project → List ℕ
response_text N =
    at_depth 0 (target_text N.library) ++ main_text N.main ++ at_depth 0 (codes "/optionexplicit+") ++ at_depth 0 (codes "/optionstrict-")
    ++ flat_map (λ m. at_depth 0 (file_name m)) (written_modules N)

-- the files that stand for a project, by name, in the order in which they are written
abbrev pub files_of : Project → List (List ℕ × List ℕ)
files_of N = map (λ m. (file_name m, module_text N.note m)) (written_modules N) ++ (codes "upgrade.rsp", response_text N) ∷ []

abbrev pub is_writable_module : Module → Bool
is_writable_module m = is_identifier m.name && list_all is_writable_member m.members

-- the module of the support functions is no class, and has its own name
abbrev pub is_support : Module → Bool
is_support m = not m.class && is_same_text m.name (codes "UpgradeSupport")

-- 0 to 200 printable ASCII characters
abbrev pub is_note : Option (List ℕ) → Bool
is_note None = true
is_note (Some note) = nat_le (length note) 200 && list_all is_printable note

abbrev pub is_main : Option (List ℕ) → Bool
is_main None = true
is_main (Some name) = is_identifier name

-- the projects that some list of files stands for
pub record IsWritable (N : Project) : Type 0 where
  pub note : is_note N.note ≡ true
  pub main : is_main N.main ≡ true
  -- a program starts with a module, and a library with none
  pub target : N.library ≡ is_none N.main
  pub modules : list_all is_writable_module (written_modules N) ≡ true
  pub support : is_support N.support ≡ true
  pub file_names : list_all (λ m. is_name (file_name m)) (written_modules N) ≡ true

-- the files stand for the project
pub record NetText (N : Project) (files : List (List ℕ × List ℕ)) : Type 0 where
  pub writable : IsWritable N
  pub are_files : files ≡ files_of N

-- The law of the text: files stand for at most one project, among projects whose numbers fit their types.
abbrev pub StandForOne : (Project → Type 0) → Type 0
StandForOne FitsTypes =
    (M N : Project) (files : List (List ℕ × List ℕ)) → FitsTypes M → FitsTypes N → NetText M files → NetText N files → M ≡ N

-- A project has one list of files.
abbrev pub HasOneList : Type 0
HasOneList = (N : Project) (a b : List (List ℕ × List ℕ)) → NetText N a → NetText N b → a ≡ b
