-- Projects that were written out by hand.
use Rattle.std.specs.Prelude.{codes}
use Rattle.std.proofs.Common.{◌≡◌, ℕ, List, [], ◌∷◌, ◌++◌, refl}
use Rattle.std.specs.Fmt.{digits}
use Rattle.generated_project.specs.Generated.{generated_files}

abbrev crlf : List ℕ
crlf = 13 ∷ 10 ∷ []

-- the text of a module, by its name and by what differs from module to module
abbrev module_with : List ℕ → List ℕ → List ℕ → List ℕ
module_with product halving main =
    codes "Option Explicit" ++ crlf
    ++ codes "Public total As Long" ++ crlf
    ++ codes "Public Sub Work(ByVal n As Long)" ++ crlf
    ++ codes "Dim a(1 To 10) As Integer" ++ crlf
    ++ codes "Dim i As Integer" ++ crlf
    ++ codes "For i = 1 To 10" ++ crlf
    ++ product ++ crlf
    ++ codes "total = total + a(i) * n" ++ crlf
    ++ codes "Next i" ++ crlf
    ++ codes "Debug.Print total" ++ crlf
    ++ halving
    ++ codes "End Sub" ++ crlf
    ++ main

abbrev main_procedure : List ℕ
main_procedure = codes "Public Sub Main()" ++ crlf ++ codes "Work 3" ++ crlf ++ codes "End Sub" ++ crlf

no_module : generated_files 0 ≡
    (codes "Gen.vbp", codes "Type=Exe" ++ crlf ++ codes "Startup=\"Sub Main\"" ++ crlf ++ codes "Name=\"Gen\"" ++ crlf)
    ∷ []
no_module = refl

one_module : generated_files 1 ≡
    (codes "Gen.vbp", codes "Type=Exe" ++ crlf ++ codes "Module=Gen1; Gen1.bas" ++ crlf ++ codes "Startup=\"Sub Main\"" ++ crlf ++ codes "Name=\"Gen\"" ++ crlf)
    ∷ (codes "Gen1.bas", module_with (codes "a(i) = i * 1") [] main_procedure)
    ∷ []
unfolding digits
one_module = refl

three_modules : generated_files 3 ≡
    (codes "Gen.vbp", codes "Type=Exe" ++ crlf ++ codes "Module=Gen1; Gen1.bas" ++ crlf ++ codes "Module=Gen2; Gen2.bas" ++ crlf ++ codes "Module=Gen3; Gen3.bas" ++ crlf ++ codes "Startup=\"Sub Main\"" ++ crlf ++ codes "Name=\"Gen\"" ++ crlf)
    ∷ (codes "Gen1.bas", module_with (codes "a(i) = i * 1") [] main_procedure)
    ∷ (codes "Gen2.bas", module_with (codes "a(i) = i * 2") [] [])
    ∷ (codes "Gen3.bas", module_with (codes "a(i) = i * 3") (codes "total = total / 2" ++ crlf) [])
    ∷ []
unfolding digits
three_modules = refl
