-- Where control goes from the lines of a few procedures, worked out by hand.
use Rattle.std.proofs.Common.{◌≡◌, ℕ, true, false, List, [], ◌∷◌, map, Option, Some, None, refl, pos, codes, slice_get}
use Rattle.vb_tree.specs.declared.block.BlockKind.TheVariants.{If, Select, For, Do, With}
use Rattle.bound_tree.specs.Labels.{Label, word, number, label_at}
use Rattle.bound_tree.specs.Targets.{plain, opens, parts, closes, Aims, aims_of}

-- where a line goes on, where it goes if it doesn't hold, where it goes back to, where an Exit For, an Exit Do and another
-- Exit go, and the head of the block that it parts or closes; 0 for none
abbrev shown : Option ℕ → ℕ
shown None = 0
shown (Some n) = n

abbrev row : Aims → List ℕ
row a = a.after ∷ shown a.otherwise ∷ shown a.back ∷ shown a.for_end ∷ shown a.do_end ∷ a.procedure_end ∷ shown a.own ∷ []

loop_in_a_branch : map row (aims_of (opens If true ∷ opens For true ∷ plain ∷ closes For ∷ parts If false ∷ closes If ∷ [])) ≡
    (2 ∷ 5 ∷ 0 ∷ 0 ∷ 0 ∷ 7 ∷ 0 ∷ [])  -- 1 If: its branch, or the Else
    ∷ (3 ∷ 6 ∷ 0 ∷ 0 ∷ 0 ∷ 7 ∷ 0 ∷ [])  -- 2 For: behind it the branch ends, so End If
    ∷ (4 ∷ 0 ∷ 0 ∷ 6 ∷ 0 ∷ 7 ∷ 0 ∷ [])  -- 3
    ∷ (6 ∷ 0 ∷ 3 ∷ 6 ∷ 0 ∷ 7 ∷ 2 ∷ [])  -- 4 Next: back behind the For
    ∷ (6 ∷ 0 ∷ 0 ∷ 0 ∷ 0 ∷ 7 ∷ 1 ∷ [])  -- 5 Else: its branch is empty
    ∷ (7 ∷ 0 ∷ 0 ∷ 0 ∷ 0 ∷ 7 ∷ 1 ∷ [])  -- 6 End If: the end of the procedure
    ∷ []
loop_in_a_branch = refl

cases_in_a_loop : map row (aims_of (opens Do false ∷ opens Select false ∷ parts Select true ∷ opens With false ∷ closes With ∷ parts Select false ∷ plain ∷ closes Select ∷ closes Do ∷ [])) ≡
    (2 ∷ 0 ∷ 0 ∷ 0 ∷ 0 ∷ 10 ∷ 0 ∷ [])  -- 1 Do
    ∷ (3 ∷ 0 ∷ 0 ∷ 0 ∷ 10 ∷ 10 ∷ 0 ∷ [])  -- 2 Select Case: the first Case
    ∷ (4 ∷ 6 ∷ 0 ∷ 0 ∷ 10 ∷ 10 ∷ 2 ∷ [])  -- 3 Case: its branch, or the Case Else
    ∷ (5 ∷ 0 ∷ 0 ∷ 0 ∷ 10 ∷ 10 ∷ 0 ∷ [])  -- 4 With
    ∷ (8 ∷ 0 ∷ 0 ∷ 0 ∷ 10 ∷ 10 ∷ 4 ∷ [])  -- 5 End With: the branch ends, so End Select
    ∷ (7 ∷ 0 ∷ 0 ∷ 0 ∷ 10 ∷ 10 ∷ 2 ∷ [])  -- 6 Case Else
    ∷ (8 ∷ 0 ∷ 0 ∷ 0 ∷ 10 ∷ 10 ∷ 0 ∷ [])  -- 7
    ∷ (9 ∷ 0 ∷ 0 ∷ 0 ∷ 10 ∷ 10 ∷ 2 ∷ [])  -- 8 End Select
    ∷ (10 ∷ 0 ∷ 1 ∷ 0 ∷ 10 ∷ 10 ∷ 1 ∷ [])  -- 9 Loop: back to the Do
    ∷ []
cases_in_a_loop = refl

-- the heads of the blocks round the With and its closing line, which stands in it, and round the line behind Case Else
abbrev numbers : Option Aims → List ℕ
numbers None = []
numbers (Some a) = map (λ h. h.1) a.around

abbrev heads : List Aims → ℕ → List ℕ
heads lines n = numbers (slice_get lines n)

abbrev in_a_loop : List Aims
in_a_loop = aims_of (opens Do false ∷ opens Select false ∷ parts Select true ∷ opens With false ∷ closes With ∷ parts Select false ∷ plain ∷ closes Select ∷ closes Do ∷ [])

round_the_with : heads in_a_loop 3 ≡ 2 ∷ 1 ∷ []
round_the_with = refl

round_its_end : heads in_a_loop 4 ≡ 4 ∷ 2 ∷ 1 ∷ []
round_its_end = refl

round_the_else : heads in_a_loop 6 ≡ 2 ∷ 1 ∷ []
round_the_else = refl

-- of two labels that differ in case alone the first is meant; a number is no word
abbrev three_labels : List (Option Label)
three_labels = None ∷ Some (word (codes "Here")) ∷ None ∷ Some (word (codes "HERE")) ∷ Some (number (pos 10)) ∷ []

found_first : label_at three_labels (word (codes "here")) ≡ Some 2
found_first = refl

found_number : label_at three_labels (number (pos 10)) ≡ Some 5
found_number = refl

found_nowhere : label_at three_labels (word (codes "There")) ≡ None
found_nowhere = refl
