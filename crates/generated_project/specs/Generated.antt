-- The project that `make n` translates: a project file, and n modules whose numbers are 1 to n.
use Rattle.std.specs.Prelude.{ℕ, ◌%◌, ◌==◌, if◌then◌else◌, List, [], ◌∷◌, ◌++◌, map, codes}
use Rattle.std.specs.List.{flat_map, range_with_len}
use Rattle.std.specs.Fmt.{decimal}
use Rattle.up_base.specs.LineEnd.{line_end}

-- ---- lines and names

-- lines as a text, each with its end
abbrev pub text_of : List (List ℕ) → List ℕ
text_of lines = flat_map (λ text. text ++ line_end) lines

abbrev pub module_numbers : ℕ → List ℕ
module_numbers n = range_with_len 1 n

abbrev pub module_name : ℕ → List ℕ
module_name k = codes "Gen" ++ decimal k

abbrev pub file_name : ℕ → List ℕ
file_name k = module_name k ++ codes ".bas"

-- ---- the project file

-- the line that names a module and its file
abbrev pub entry_line : ℕ → List ℕ
entry_line k = codes "Module=" ++ module_name k ++ codes "; " ++ file_name k

abbrev pub project_lines : ℕ → List (List ℕ)
project_lines n =
    codes "Type=Exe"
    ∷ map entry_line (module_numbers n)
    ++ codes "Startup=\"Sub Main\""
    ∷ codes "Name=\"Gen\""
    ∷ []

-- ---- the modules

abbrev pub declaration_lines : List (List ℕ)
declaration_lines =
    codes "Option Explicit"
    ∷ codes "Public total As Long"
    ∷ []

-- the line that fills an item of the array
abbrev pub product_line : ℕ → List ℕ
product_line k = codes "a(i) = i * " ++ decimal (k % 7)

-- the line of each third module that breaks a rule, by its `/`
abbrev pub halving_lines : ℕ → List (List ℕ)
halving_lines k = if k % 3 == 0 then codes "total = total / 2" ∷ [] else []

abbrev pub work_lines : ℕ → List (List ℕ)
work_lines k =
    codes "Public Sub Work(ByVal n As Long)"
    ∷ codes "Dim a(1 To 10) As Integer"
    ∷ codes "Dim i As Integer"
    ∷ codes "For i = 1 To 10"
    ∷ product_line k
    ∷ codes "total = total + a(i) * n"
    ∷ codes "Next i"
    ∷ codes "Debug.Print total"
    ∷ halving_lines k
    ++ codes "End Sub"
    ∷ []

-- the procedure at which the program starts, in the first module
abbrev pub main_lines : ℕ → List (List ℕ)
main_lines k =
    if k == 1 then codes "Public Sub Main()" ∷ codes "Work 3" ∷ codes "End Sub" ∷ []
    else []

abbrev pub module_lines : ℕ → List (List ℕ)
module_lines k = declaration_lines ++ work_lines k ++ main_lines k

-- ---- the files, each with its name

abbrev pub project_file : ℕ → List ℕ × List ℕ
project_file n = (codes "Gen.vbp", text_of (project_lines n))

abbrev pub module_file : ℕ → List ℕ × List ℕ
module_file k = (file_name k, text_of (module_lines k))

-- the project file, and the files of the modules by their numbers
abbrev pub generated_files : ℕ → List (List ℕ × List ℕ)
generated_files n = project_file n ∷ map module_file (module_numbers n)
