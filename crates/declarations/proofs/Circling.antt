-- Marks of the fields that stand in circles.
use Rattle.std.proofs.Common.{◌≡◌, ◌↔◌, ℕ, zero, suc, ◌+◌, ◌<◌, ◌≤◌, Bool, true, false, List, [], ◌∷◌, ◌++◌, length, get_or, drop, map, ap, sym, ◌∙◌, subst, append_assoc}
use Rattle.std.proofs.lemmas.List.{append-nil, at_drop_more, drop_all}
use Rattle.std.specs.Prelude.{slice_get, IsTrue, Option, Some, None}
use Rattle.bound_tree.specs.declared.declared.VarDecl.{VarDecl}
use Rattle.bound_tree.specs.Tree.{Variable}
use Rattle.bound_tree.specs.View.{variable_of}
use Rattle.reach_table.specs.Chains.{is_marked}
use Rattle.bound_facts.specs.Leading.{LeadsTo}
use Rattle.declarations.specs.Circles.{IsCircle, circle, pair_at, pair_of}

-- for each variable whether it stands in one
abbrev pub MarkCircles : ℕ → List (ℕ × ℕ) → List Bool → List Variable → Type 0
MarkCircles types pairs marks vars = (k : ℕ) → (is_marked marks k ≡ true) ↔ IsCircle types pairs (pair_at (slice_get vars k))

from_circle : (types : ℕ) (pairs : List (ℕ × ℕ)) {t u : ℕ} → IsCircle types pairs (Some (t, u)) → LeadsTo types pairs (t ∷ []) u
from_circle types pairs (circle t u leads) = leads

pub leads_back : (types : ℕ) (pairs : List (ℕ × ℕ)) (p : ℕ × ℕ) (b : Bool) (marks : List Bool) → b ≡ is_marked marks p.1
    → IsTrue (is_marked marks p.1) ↔ LeadsTo types pairs (p.0 ∷ []) p.1 → (b ≡ true) ↔ IsCircle types pairs (Some p)
leads_back types pairs p b marks e leads =
    ((λ yes. circle p.0 p.1 (leads.0 (sym e ∙ yes))), (λ is. e ∙ leads.1 (from_circle types pairs {t = p.0} {u = p.1} is)))

no_pair : (types : ℕ) (pairs : List (ℕ × ℕ)) (p : Option (ℕ × ℕ)) → p ≡ None → IsCircle types pairs p → false ≡ true
no_pair types pairs _ e (circle t u leads) = absurd (cc e)

no_marks : (types : ℕ) (pairs : List (ℕ × ℕ)) → MarkCircles types pairs [] []
no_marks types pairs k = ((λ e. absurd (cc e)), no_pair types pairs None cc)

more_marks : (types : ℕ) (pairs : List (ℕ × ℕ)) (b : Bool) (marks : List Bool) (x : Variable) (vars : List Variable)
    → ((b ≡ true) ↔ IsCircle types pairs (pair_of x)) → MarkCircles types pairs marks vars → MarkCircles types pairs (b ∷ marks) (x ∷ vars)
more_marks types pairs b marks x vars first rest zero = first
more_marks types pairs b marks x vars first rest (suc k) = rest k

-- those so far are marked, if the others are
abbrev pub MarkSoFar : ℕ → List (ℕ × ℕ) → List VarDecl → List Bool → ℕ → Type 0
MarkSoFar types pairs vs marks i = (rest : List Bool) → MarkCircles types pairs rest (map variable_of (drop i vs)) → MarkCircles types pairs (marks ++ rest) (map variable_of vs)

next_drop : (vs : List VarDecl) (i : ℕ) (x : VarDecl) → i < length vs → x ≡ get_or vs i x → drop i vs ≡ x ∷ drop (i + 1) vs
next_drop vs i x h is = at_drop_more (λ xs. xs) vs i x h ∙ ap (λ y. y ∷ drop (i + 1) vs) (sym is)

pub one_more : (types : ℕ) (pairs : List (ℕ × ℕ)) (vs : List VarDecl) (i : ℕ) (x : VarDecl) (marks new : List Bool) (b : Bool)
    → i < length vs → x ≡ get_or vs i x → new ≡ marks ++ b ∷ [] → ((b ≡ true) ↔ IsCircle types pairs (pair_of (variable_of x)))
    → MarkSoFar types pairs vs marks i → MarkSoFar types pairs vs new (i + 1)
one_more types pairs vs i x marks new b h is pushed first so_far rest marked =
    subst (λ bs. MarkCircles types pairs bs (map variable_of vs)) (sym (ap (λ bs. bs ++ rest) pushed ∙ append_assoc marks (b ∷ []) rest))
    (so_far (b ∷ rest)
    (subst (λ ds. MarkCircles types pairs (b ∷ rest) (map variable_of ds)) (sym (next_drop vs i x h is))
    (more_marks types pairs b rest (variable_of x) (map variable_of (drop (i + 1) vs)) first marked)))

pub all_marked : (types : ℕ) (pairs : List (ℕ × ℕ)) (vs : List VarDecl) (i : ℕ) (marks : List Bool) → length vs ≤ i → MarkSoFar types pairs vs marks i
    → MarkCircles types pairs marks (map variable_of vs)
all_marked types pairs vs i marks h so_far =
    subst (λ bs. MarkCircles types pairs bs (map variable_of vs)) (append-nil marks)
    (so_far [] (subst (λ ds. MarkCircles types pairs [] (map variable_of ds)) (sym (drop_all i vs h)) (no_marks types pairs)))
