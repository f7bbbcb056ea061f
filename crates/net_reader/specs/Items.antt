-- How items with a comma and a blank between them are read.
use Rattle.std.specs.Prelude.{ℕ, zero, suc, cond, List, [], ◌∷◌, drop, Option, Some, None, option_map, option_and_then}
use Rattle.net_exprs.specs.Ends.{begins_with}

module _ {X : Type 0} (item_at : List ℕ → Option (X × List ℕ)) where
  -- one item and those behind it, up to so many
  abbrev pub items_at : ℕ → List ℕ → Option (List X × List ℕ)
  items_at zero text = None
  items_at (suc most) text = option_and_then (λ (r : X × List ℕ).
      cond (begins_with 44 r.1) (option_map (λ (more : List X × List ℕ). (r.0 ∷ more.0, more.1)) (items_at most (drop 2 r.1))) (Some (r.0 ∷ [], r.1)))
      (item_at text)
