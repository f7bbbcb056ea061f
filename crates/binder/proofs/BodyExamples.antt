-- Worked examples of bodies and of a project.
use Rattle.std.proofs.Common.{◌≡◌, false, List, [], ◌∷◌, refl, codes, map, length}
use Rattle.vb_tree.specs.BoundTree.{long, user, variant}
use Rattle.vb_tree.specs.Tree.{Nodes, assign, block, case_line, case_value, end_select, end_with, next_middle, next_node, no_middles, no_nodes, select, with_head, with_member}
use Rattle.bound_tree.specs.declared.expression.Root.TheVariants as root
use Rattle.bound_tree.specs.Source.{code_of}
use Rattle.bound_tree.specs.Tree.{Expr, Line, convert, field, typed, variable, with_object}
use Rattle.declared_names.specs.Rules.{reserved_names}
use Rattle.typing_rows.specs.LibraryNames.{names_a_to_c, names_d_to_i, names_j_to_p, names_q_to_y}
use Rattle.expression_words.specs.Meanings.{type_words}
use Rattle.binder.specs.Bodies.{Inside, bound_body}
use Rattle.binder.specs.Programs.{all_declarations, bound_program}
use Rattle.binder.proofs.Sample.{D, S, body_from, line_at, long_number, number, one, plain, total, w}

abbrev inside : Nodes → Inside
inside body = record { declarations = S.declarations; written = S.declarations; site = S.site; lines = code_of body; laters = [] }

abbrev exprs_of : List Line → List (List Expr)
exprs_of ls = map (λ (l : Line). l.bindings.exprs) ls

abbrev spot : Expr
spot = typed (user 0) (variable (w 2) false)

-- With Spot / .x = 1 / End With / Total = 1
abbrev in_with : Nodes
in_with =
    next_node
    (block (line_at 11 (with_head (plain (codes "Spot")))) (body_from 12 (assign (with_member (codes "X")) one ∷ [])) no_middles (line_at 13 end_with))
    (body_from 14 (assign (plain (codes "Total")) one ∷ []))

fields_of_spot : exprs_of (bound_body (inside in_with) in_with) ≡
    (spot ∷ [])
    ∷ (typed long (field (typed (user 0) (with_object (root.Variable (w 2)))) 0) ∷ long_number ∷ [])
    ∷ []
    ∷ (total ∷ long_number ∷ [])
    ∷ []
fields_of_spot = refl

-- Select Case Total / Case 1 / End Select
abbrev in_select : Nodes
in_select =
    next_node
    (block (line_at 11 (select (plain (codes "Total")))) no_nodes (next_middle (line_at 12 (case_line (case_value one ∷ []))) no_nodes no_middles) (line_at 13 end_select))
    no_nodes

compared_as_longs : exprs_of (bound_body (inside in_select) in_select) ≡ (total ∷ []) ∷ (long_number ∷ []) ∷ [] ∷ []
compared_as_longs = refl

-- each code line once, in order
same_lines : map (λ (l : Line). l.source) (bound_body (inside in_with) in_with) ≡ code_of in_with
same_lines = refl

-- ---- a project

-- n = 1 / Total = n
abbrev run : Nodes
run = body_from 11 (assign (plain (codes "n")) one ∷ assign (plain (codes "Total")) (plain (codes "N")) ∷ [])

n_is_declared : length (all_declarations (D run)).vars ≡ 7
unfolding type_words reserved_names names_a_to_c names_d_to_i names_j_to_p names_q_to_y
n_is_declared = refl

bound_to_n : map exprs_of (bound_program (D run)).bodies ≡
    ((typed variant (variable (w 6) false) ∷ typed variant (convert variant number) ∷ [])
    ∷ (total ∷ typed long (convert long (typed variant (variable (w 6) false))) ∷ [])
    ∷ [])
    ∷ []
unfolding type_words reserved_names names_a_to_c names_d_to_i names_j_to_p names_q_to_y
bound_to_n = refl
