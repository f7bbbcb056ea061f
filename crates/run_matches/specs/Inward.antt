-- Which procedures are seen to be inward: a set of procedures is grown from the outward ones along calls, and holds all that lead there
-- where nothing more leads into it.
use Rattle.std.specs.Prelude.{ℕ, zero, suc, Bool, cond, not, ◌&&◌, ◌||◌, List, [], ◌∷◌}
use Rattle.std.specs.List.{list_all}
use Rattle.bound_tree.specs.Tree.{Program}
use Rattle.bound_facts.specs.Calls.{calls, count_procedures}
use Rattle.bound_facts.specs.Effects.{outward}
use Rattle.bound_facts.specs.Leading.{is_in, within}

-- with the first number of each pair that leads into the list
abbrev pub led_in : List (ℕ × ℕ) → List ℕ → List ℕ
led_in [] list = list
led_in (p ∷ pairs) list = led_in pairs (cond (is_in list p.1 && not (is_in list p.0)) (p.0 ∷ list) list)

abbrev pub grown : (turns : ℕ) → List (ℕ × ℕ) → List ℕ → List ℕ
grown zero pairs list = list
grown (suc n) pairs list = grown n pairs (led_in pairs list)

abbrev pub is_closed : List (ℕ × ℕ) → List ℕ → Bool
is_closed pairs list = list_all (λ (p : ℕ × ℕ). not (is_in list p.1) || is_in list p.0) pairs

-- no chain of calls leads from the procedure to an outward one
abbrev pub is_apart : List (ℕ × ℕ) → List ℕ → ℕ → Bool
is_apart pairs list q = is_closed pairs list && not (is_in list q)

abbrev pub is_inward_in : Program → (procedure : ℕ) → Bool
is_inward_in P q = is_apart (within (count_procedures P) (calls P)) (grown (count_procedures P) (within (count_procedures P) (calls P)) (outward P)) q
