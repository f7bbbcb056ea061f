-- What a line uses and stores, by the code's ways to it.
use Rattle.std.proofs.Common.{◌≡◌, Bool, true, false, cond, List, [], ◌∷◌, ◌++◌, map, drop, refl, ap, ◌∙◌, suc, zero, ℕ}
use Rattle.std.specs.Prelude.{not, is_some}
use Rattle.std.specs.List.{flat_map}
use Rattle.vb_tree.specs.Tree.{Form, set, ReDimItem}
use Rattle.bound_tree.specs.Tree.{Expr, typed, Term}
use Rattle.bound_facts.specs.Node.{called_by}
use Rattle.bound_facts.specs.Nodes.{nodes, nodes_in}
use Rattle.bound_facts.specs.Parts.{Resize, resizes, total, used_nodes}
use Rattle.byref_analysis.specs.Lines.{arrays_in, is_set_alone}

-- ---- uses

alone : (ty : _) (t : Term) (more : List Expr) (b : Bool)
    → cond (not b) (drop 1 ((typed ty t ∷ nodes_in t) ++ more)) ((typed ty t ∷ nodes_in t) ++ more) ≡ cond b (typed ty t ∷ nodes_in t) (nodes_in t) ++ more
alone ty t more true = refl
alone ty t more false = refl

pub uses_are : (f : Form) (es : List Expr) → cond (is_set_alone f es) (drop 1 (flat_map nodes es)) (flat_map nodes es) ≡ used_nodes f es
uses_are (set target value) [] = refl
uses_are (set target value) (typed ty t ∷ es) = alone ty t (flat_map nodes es) (is_some (called_by t))
uses_are _ es = refl

-- ---- the arrays of a ReDim

nothing_behind : (n : ℕ) → drop {A = Expr} n [] ≡ []
nothing_behind zero = refl
nothing_behind (suc n) = refl

none_in : (items : List ReDimItem) → arrays_in items [] ≡ []
none_in [] = refl
none_in (i ∷ items) = ap (λ (es : List Expr). arrays_in items es) (nothing_behind (total i.bounds)) ∙ none_in items

pub arrays_are : (items : List ReDimItem) (es : List Expr) → arrays_in items es ≡ map (λ (r : Resize). r.array) (resizes items es)
arrays_are [] es = refl
arrays_are (i ∷ items) [] = none_in (i ∷ items)
arrays_are (i ∷ items) (e ∷ es) = ap (λ xs. e ∷ xs) (arrays_are items (drop (total i.bounds) es))
