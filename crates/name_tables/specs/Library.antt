-- Which words are names of Visual Basic's own libraries. Outside of brackets they are no undeclared variables.
use Rattle.std.specs.Prelude.{ℕ, nat_eq, Bool, false, ◌||◌, codes, List}
use Rattle.std.specs.Cmp.Lexicographic.{pointwise}
use Rattle.typing_rows.specs.LibraryNames.{is_library_word}
use Rattle.name_tables.specs.declared.uses.Spelling.{Spelling}
use Rattle.name_tables.specs.declared.uses.Spelling.TheVariants as spelling

-- whether a word that finds no declaration is one of the libraries' names; Err is one without a suffix alone
abbrev pub is_library : Spelling → List ℕ → Bool
is_library spelling.Plain key = is_library_word key || pointwise nat_eq key (codes "err")
is_library spelling.Suffixed key = is_library_word key
is_library spelling.Bracketed key = false
