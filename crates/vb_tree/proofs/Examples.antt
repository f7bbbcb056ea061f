-- Where control goes in nested blocks, worked out by hand.
use Rattle.std.proofs.Common.{◌≡◌, ℕ, List, [], ◌∷◌, map, refl, Option, Some, None}
use Rattle.vb_tree.specs.declared.form_parts.ExitKind.TheVariants as leaving
use Rattle.vb_tree.specs.declared.form_parts.VarWord.TheVariants.{Dim}
use Rattle.vb_tree.specs.Tree.{me, Form, variables, assign, if_head, else_if, else_line, end_if, line_if, select, case_line, case_else, end_select, for_head, next, do_head, do_while, loop, loop_until, while_head, wend, with_head, end_with, exit, Line, Node, line, block, Nodes, no_nodes, next_node, no_middles, next_middle}
use Rattle.vb_tree.specs.FlatLines.{Flat, flat_lines, code_lines, flat_body}

abbrev at : Form → Line
at form = record { place = record { file = 1; line = 1 }; text = []; form = form }

abbrev nodes : List Node → Nodes
nodes [] = no_nodes
nodes (a ∷ more) = next_node a (nodes more)

abbrev statement : Node
statement = line (at (assign me me))

abbrev leaves : Form → Node
leaves form = line (at form)

-- a For with a statement and an Exit For
abbrev for_block : Node
for_block = block (at (for_head me me me None)) (nodes (statement ∷ leaves (exit leaving.For) ∷ [])) no_middles (at (next None))

-- a Do While with an Exit Do and a While in it
abbrev do_block : Node
do_block =
    block (at (do_while me)) (nodes (
    leaves (exit leaving.Do)
    ∷ block (at (while_head me)) (nodes (statement ∷ [])) no_middles (at wend)
    ∷ [])) no_middles (at loop)

-- a Select with a statement before its first Case, and an empty With in its last
abbrev select_block : Node
select_block =
    block (at (select me)) (nodes (statement ∷ []))
    (next_middle (at (case_line [])) (nodes (do_block ∷ []))
    (next_middle (at case_else) (nodes (block (at (with_head me)) no_nodes no_middles (at end_with) ∷ []))
    no_middles)) (at end_select)

-- an If whose last branch is empty, a declaration, a Do that an Exit Sub leaves, an If on one line, and a statement
abbrev body : Nodes
body = nodes (
    block (at (if_head me)) (nodes (for_block ∷ []))
    (next_middle (at (else_if me)) (nodes (select_block ∷ []))
    (next_middle (at else_line) no_nodes no_middles)) (at end_if)
    ∷ leaves (variables Dim [])
    ∷ block (at do_head) (nodes (leaves (exit leaving.Sub) ∷ [])) no_middles (at (loop_until me))
    ∷ block (at (line_if me)) (nodes (statement ∷ [])) no_middles (at end_if)
    ∷ statement ∷ [])

-- what stands in a table for a target: 0 for none
abbrev shown : Option ℕ → ℕ
shown None = 0
shown (Some n) = n

-- where a line goes on, where it goes if it doesn't hold, where it goes back to, and where it leaves to
abbrev targets : Flat → List ℕ
targets f = f.after ∷ shown f.otherwise ∷ shown f.back ∷ shown f.leave ∷ []

worked : map targets (flat_body body) ≡
    (2 ∷ 6 ∷ 0 ∷ 0 ∷ [])  -- 1 If: its branch, or the ElseIf
    ∷ (3 ∷ 21 ∷ 0 ∷ 0 ∷ [])  -- 2 For: behind it the branch ends, so End If
    ∷ (4 ∷ 0 ∷ 0 ∷ 0 ∷ [])  -- 3
    ∷ (5 ∷ 0 ∷ 0 ∷ 21 ∷ [])  -- 4 Exit For
    ∷ (21 ∷ 0 ∷ 3 ∷ 0 ∷ [])  -- 5 Next: back behind the For
    ∷ (7 ∷ 20 ∷ 0 ∷ 0 ∷ [])  -- 6 ElseIf: its branch, or the Else
    ∷ (9 ∷ 0 ∷ 0 ∷ 0 ∷ [])  -- 7 Select Case: the first Case
    ∷ (19 ∷ 0 ∷ 0 ∷ 0 ∷ [])  -- 8 before the first Case
    ∷ (10 ∷ 16 ∷ 0 ∷ 0 ∷ [])  -- 9 Case: its branch, or the next Case
    ∷ (11 ∷ 19 ∷ 0 ∷ 0 ∷ [])  -- 10 Do While: behind it the branch ends, so End Select
    ∷ (12 ∷ 0 ∷ 0 ∷ 19 ∷ [])  -- 11 Exit Do
    ∷ (13 ∷ 15 ∷ 0 ∷ 0 ∷ [])  -- 12 While: or behind the Wend
    ∷ (14 ∷ 0 ∷ 0 ∷ 0 ∷ [])  -- 13
    ∷ (15 ∷ 0 ∷ 12 ∷ 0 ∷ [])  -- 14 Wend: back to the While
    ∷ (19 ∷ 0 ∷ 10 ∷ 0 ∷ [])  -- 15 Loop: back to the Do
    ∷ (17 ∷ 0 ∷ 0 ∷ 0 ∷ [])  -- 16 Case Else
    ∷ (18 ∷ 0 ∷ 0 ∷ 0 ∷ [])  -- 17 With
    ∷ (19 ∷ 0 ∷ 0 ∷ 0 ∷ [])  -- 18 End With
    ∷ (21 ∷ 0 ∷ 0 ∷ 0 ∷ [])  -- 19 End Select: the branch ends, so End If
    ∷ (21 ∷ 0 ∷ 0 ∷ 0 ∷ [])  -- 20 Else: its branch is empty
    ∷ (22 ∷ 0 ∷ 0 ∷ 0 ∷ [])  -- 21 End If
    ∷ (23 ∷ 0 ∷ 0 ∷ 0 ∷ [])  -- 22 Do
    ∷ (24 ∷ 0 ∷ 0 ∷ 29 ∷ [])  -- 23 Exit Sub: the end of the procedure
    ∷ (25 ∷ 0 ∷ 22 ∷ 0 ∷ [])  -- 24 Loop Until: back to the Do
    ∷ (26 ∷ 27 ∷ 0 ∷ 0 ∷ [])  -- 25 If on one line: its part, or its End If
    ∷ (27 ∷ 0 ∷ 0 ∷ 0 ∷ [])  -- 26
    ∷ (28 ∷ 0 ∷ 0 ∷ 0 ∷ [])  -- 27 End If
    ∷ (29 ∷ 0 ∷ 0 ∷ 0 ∷ [])  -- 28
    ∷ []
worked = refl

-- the flat lines are the code lines in order; the declaration is none of them
in_order : map (λ f. f.line) (flat_body body) ≡ code_lines (flat_lines body)
in_order = refl
