-- Where control goes from the lines of small procedures.
use Rattle.std.proofs.Common.{◌≡◌, ℕ, true, List, [], ◌∷◌, map, refl}
use Rattle.std.specs.Prelude.{Option, Some, None}
use Rattle.net_tree.specs.declared.line.NetExit.TheVariants as leaving
use Rattle.net_tree.specs.Tree.{Exp, Line, assign, boolean, case_else, case_line, do_head, else_line, end_if, end_select, exit, for_head, if_head, lit, loop_while, next, select}
use Rattle.net_tree.specs.FlatLines.{flat_from}

abbrev holds : Exp
holds = lit (boolean true)

abbrev plain : Line
plain = assign holds holds

-- where control goes from each line: after, otherwise, back and leave
abbrev targets : List Line → List (ℕ × Option ℕ × Option ℕ × Option ℕ)
targets lines = map (λ f. (f.after, f.otherwise, f.back, f.leave)) (flat_from lines 1 lines)

-- a branch that ends goes on at the closing line
branches : targets (if_head holds ∷ plain ∷ else_line ∷ plain ∷ end_if ∷ exit leaving.Sub ∷ []) ≡ (2, Some 3, None, None) ∷ (5, None, None, None) ∷ (4, None, None, None) ∷ (5, None, None, None) ∷ (6, None, None, None) ∷ (7, None, None, Some 7) ∷ []
branches = refl

-- a branch without lines, too
empty_branches : targets (if_head holds ∷ else_line ∷ end_if ∷ []) ≡ (3, Some 2, None, None) ∷ (3, None, None, None) ∷ (4, None, None, None) ∷ []
empty_branches = refl

-- an Exit goes behind the innermost loop of its kind, and a For goes back to its first line
loops : targets (for_head holds holds holds None ∷ do_head ∷ if_head holds ∷ exit leaving.For ∷ exit leaving.Do ∷ end_if ∷ loop_while holds ∷ next ∷ []) ≡ (2, Some 9, None, None) ∷ (3, None, None, None) ∷ (4, Some 6, None, None) ∷ (5, None, None, Some 9) ∷ (6, None, None, Some 8) ∷ (7, None, None, None) ∷ (8, None, Some 2, None) ∷ (9, None, Some 2, None) ∷ []
loops = refl

-- Select goes to its first Case, past the lines before it
cases : targets (select holds ∷ plain ∷ case_line [] ∷ plain ∷ case_else ∷ end_select ∷ []) ≡ (3, None, None, None) ∷ (6, None, None, None) ∷ (4, Some 5, None, None) ∷ (6, None, None, None) ∷ (6, None, None, None) ∷ (7, None, None, None) ∷ []
cases = refl
