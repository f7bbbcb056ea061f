-- Worked examples: what texts say and which faults they have, computed.
use Rattle.std.proofs.Common.{◌≡◌, ℕ, false, List, [], ◌∷◌, ◌++◌, refl, codes, Some, map, cond}
use Rattle.std.specs.List.{range_with_len}
use Rattle.vb_tree.specs.declared.project.ProjectKind.TheVariants.{OleDll}
use Rattle.vb_tree.specs.ProjectLines.{lines_of, project_file, is_fault}

abbrev line_end : List ℕ
line_end = 13 ∷ 10 ∷ []

-- each line end once, a head, and a line after it
abbrev text : List ℕ
text =
    codes "Type=Other" ++ line_end ++ codes "Form=F.frm" ++ 13 ∷ [] ++ 13 ∷ [] ++ codes "MODULE = A;  A.bas " ++ 10 ∷ []
    ++ codes "\tStartup=\"Sub Main\"" ++ line_end ++ codes "Type=Exe" ++ line_end ++ codes " [x] " ++ line_end ++ codes "Form=G" ++ line_end

says : project_file text ≡ record {
  kind = OleDll;
  startup = Some (5, codes "Sub Main");
  entries = (record { line = 4; class = false; name = codes "A"; file = codes "A.bas" }) ∷ [];
  dropped = 1 ∷ 2 ∷ [];
}
says = refl

abbrev faulty : List (List ℕ) → ℕ → ℕ → ℕ
faulty lines line kind = cond (is_fault lines line kind) kind 0

-- for each of the first lines, which of the faults 3 to 6 it has
abbrev faults : List ℕ → ℕ → List (List ℕ)
faults text n = map (λ line. map (faulty (lines_of text) line) (3 ∷ 4 ∷ 5 ∷ 6 ∷ [])) (range_with_len 0 n)

no_faults : faults text 9 ≡ map (λ line. 0 ∷ 0 ∷ 0 ∷ 0 ∷ []) (range_with_len 0 9)
no_faults = refl

-- a reserved name, a name used twice, a blank behind a name with a control unit behind it, and a control unit after a head
abbrev faulty_text : List ℕ
faulty_text =
    codes "Module=system; A.bas" ++ line_end ++ codes "Class=B; B.cls" ++ line_end ++ codes "Class=b; A.bas" ++ line_end
    ++ codes "Module=C ; C.bas" ++ 1 ∷ [] ++ line_end ++ codes "[x]" ++ line_end ++ 127 ∷ [] ++ line_end ++ codes "Module=B; A.bas"

some_faults : faults faulty_text 8 ≡ (0 ∷ 0 ∷ 0 ∷ 0 ∷ []) ∷ (0 ∷ 0 ∷ 5 ∷ 0 ∷ []) ∷ (0 ∷ 0 ∷ 0 ∷ 0 ∷ []) ∷ (0 ∷ 0 ∷ 5 ∷ 0 ∷ []) ∷ (0 ∷ 4 ∷ 0 ∷ 6 ∷ []) ∷ (0 ∷ 0 ∷ 0 ∷ 0 ∷ []) ∷ (0 ∷ 0 ∷ 0 ∷ 6 ∷ []) ∷ (0 ∷ 0 ∷ 0 ∷ 0 ∷ []) ∷ []
some_faults = refl
