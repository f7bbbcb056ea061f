-- The table of the code is that of the definition.
use Rattle.std.proofs.Common.{◌≡◌, ℕ, List, [], ◌∷◌, Option, Some, Bool, true, false, refl, ap, ◌∙◌, map, option_map, find, nat_eq, cond, Bor}
use Rattle.std.specs.Cmp.Lexicographic.{pointwise}
use Rattle.declaration_forms.specs.Words.{leads, lead_in}
use Rattle.declaration_forms.specs.declared.words.Lead.{Lead}

abbrev Rows : Type 0
Rows = List (List ℕ × Lead)

abbrev found_in : Rows → List ℕ → Option Lead
found_in rows w = option_map (λ r. r.1) (find (λ r. pointwise nat_eq w r.0) rows)

abbrev read_rows : List (Bor (List ℕ) × Lead) → Rows
read_rows rows = map (λ r. (r.0.now, r.1)) rows

found_rows : (rows : List (Bor (List ℕ) × Lead)) (w : List ℕ) → option_map (λ r. r.1) (find (λ r. pointwise nat_eq w r.0.now) rows) ≡ found_in (read_rows rows) w
found_rows [] w = refl
found_rows (r ∷ rows) w = go (pointwise nat_eq w r.0.now) (found_rows rows w)
  where
    go : (b : Bool) → option_map (λ r. r.1) (find (λ r. pointwise nat_eq w r.0.now) rows) ≡ found_in (read_rows rows) w → option_map (λ r. r.1) (cond b (Some r) (find (λ r. pointwise nat_eq w r.0.now) rows)) ≡ option_map (λ r. r.1) (cond b (Some (r.0.now, r.1)) (find (λ r. pointwise nat_eq w r.0) (read_rows rows)))
    go true e = refl
    go false e = e

pub row_is_lead : (rows : List (Bor (List ℕ) × Lead)) (w : List ℕ) → map (λ r. (r.0.now, r.1)) rows ≡ leads → option_map (λ r. r.1) (find (λ r. pointwise nat_eq w r.0.now) rows) ≡ lead_in w
unfolding lead_in
row_is_lead rows w same = found_rows rows w ∙ ap (λ x. found_in x w) same
