-- Which procedures are inward and which parameters quiet, as lists.
use Rattle.std.specs.Prelude.{◌≡◌, ◌<◌, ◌↔◌, IsTrue, ℕ, suc, Bool, not, List, [], ◌∷◌, length, map}
use Rattle.reach_table.specs.Chains.{is_marked}
use Rattle.vb_tree.specs.declared.declared.VarId.{VarId}
use Rattle.bound_tree.specs.Tree.{Procedure, Program}
use Rattle.bound_facts.specs.Calls.{count_procedures}
use Rattle.bound_facts.specs.Facts.{IsInward}

-- whether each procedure is inward, by a test that tells which aren't, where they are numbered from i
abbrev pub inward_from : (outward : ℕ → Bool) → ℕ → List Procedure → List Bool
inward_from outward i [] = []
inward_from outward i (p ∷ ps) = not (outward i) ∷ inward_from outward (suc i) ps

abbrev pub inward_flags : (outward : ℕ → Bool) → List Procedure → List Bool
inward_flags outward procs = inward_from outward 0 procs

-- what these flags mean: neither the procedure nor anything that it reaches does one of the four things
pub record AreInward (P : Program) (flags : List Bool) : Type 0 where
  pub len : length flags ≡ count_procedures P
  pub each : (p : ℕ) → p < count_procedures P → IsTrue (is_marked flags p) ↔ IsInward P p

abbrev pub quiet_params : (quiet : ℕ → Bool) → List VarId → List Bool
quiet_params quiet params = map (λ (w : VarId). quiet w.0) params

-- for each procedure, and for each of its parameters, whether it is quiet
abbrev pub quiet_flags : (quiet : ℕ → Bool) → List Procedure → List (List Bool)
quiet_flags quiet procs = map (λ (p : Procedure). quiet_params quiet p.params) procs
