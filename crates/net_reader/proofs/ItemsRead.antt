-- Items with a comma and a blank between them are read back.
use Rattle.std.proofs.Common.{◌≡◌, ℕ, zero, suc, ◌≤◌, Bool, true, false, cond, List, [], ◌∷◌, ◌++◌, length, map, codes, ap, ◌∙◌, arith, append_assoc, length-append, Option, Some}
use Rattle.std.specs.Prelude.{drop, option_map, option_and_then}
use Rattle.std.specs.List.{list_all}
use Rattle.net_tree.specs.Spelling.{separated}
use Rattle.net_exprs.specs.Ends.{begins_with}
use Rattle.net_exprs.proofs.Words.{both_true}
use Rattle.net_reader.specs.Items.{items_at}
use Rattle.net_reader.proofs.Tests.{if_false}

module _ {X : Type 0} (item_at : List ℕ → Option (X × List ℕ)) (text_of : X → List ℕ) (can : X → Bool) (ends : List ℕ → Bool) where
  -- an item is read back where nothing more of it follows
  abbrev pub ItemsRead : Type 0
  ItemsRead = (x : X) (rest : List ℕ) → can x ≡ true → ends rest ≡ true → item_at (text_of x ++ rest) ≡ Some (x, rest)

  abbrev with_more : X → List ℕ → Option (List X × List ℕ) → Option (List X × List ℕ)
  with_more x rest more = cond (begins_with 44 rest) (option_map (λ (more : List X × List ℕ). (x ∷ more.0, more.1)) more) (Some (x ∷ [], rest))

  pub items_read : ItemsRead → ((more : List ℕ) → ends (44 ∷ 32 ∷ more) ≡ true) → (most : ℕ) (x : X) (xs : List X) (rest : List ℕ) →
      list_all can (x ∷ xs) ≡ true → ends rest ≡ true → begins_with 44 rest ≡ false → length xs ≤ most →
      items_at item_at (suc most) (separated (codes ", ") (map text_of (x ∷ xs)) ++ rest) ≡ Some (x ∷ xs, rest)
  items_read each comma most x [] rest h e other long =
      ap (option_and_then (λ (r : X × List ℕ). with_more r.0 r.1 (items_at item_at most (drop 2 r.1)))) (each x rest (both_true (can x) true h).0 e)
      ∙ if_false (begins_with 44 rest) _ _ other
  items_read each comma zero x (y ∷ xs) rest h e other long = absurd (omega arith)
  items_read each comma (suc most) x (y ∷ xs) rest h e other long =
      let both = both_true (can x) (list_all can (y ∷ xs)) h in
      let more = separated (codes ", ") (map text_of (y ∷ xs)) in
      let again : (text_of x ++ codes ", " ++ more) ++ rest ≡ text_of x ++ (44 ∷ 32 ∷ (more ++ rest)) = simp append_assoc in
      ap (items_at item_at (suc (suc most))) again
      ∙ ap (option_and_then (λ (r : X × List ℕ). with_more r.0 r.1 (items_at item_at (suc most) (drop 2 r.1)))) (each x (44 ∷ 32 ∷ (more ++ rest)) both.0 (comma (more ++ rest)))
      ∙ ap (option_map (λ (more : List X × List ℕ). (x ∷ more.0, more.1))) (items_read each comma most y xs rest both.1 e other (omega arith))

  items_no_more : (x : X) (xs : List X) (rest : List ℕ) → length xs ≤ length (separated (codes ", ") (map text_of (x ∷ xs)) ++ rest)
  items_no_more x [] rest = omega arith
  items_no_more x (y ∷ xs) rest =
      let more = separated (codes ", ") (map text_of (y ∷ xs)) in
      let again : (text_of x ++ codes ", " ++ more) ++ rest ≡ text_of x ++ (44 ∷ 32 ∷ (more ++ rest)) = simp append_assoc in
      omega (arith, ap length again, length-append (text_of x) (44 ∷ 32 ∷ (more ++ rest)), items_no_more y xs rest)

  -- so many as the text has characters
  pub all_items_read : ItemsRead → ((more : List ℕ) → ends (44 ∷ 32 ∷ more) ≡ true) → (x : X) (xs : List X) (rest : List ℕ) →
      list_all can (x ∷ xs) ≡ true → ends rest ≡ true → begins_with 44 rest ≡ false →
      items_at item_at (suc (length (separated (codes ", ") (map text_of (x ∷ xs)) ++ rest))) (separated (codes ", ") (map text_of (x ∷ xs)) ++ rest) ≡ Some (x ∷ xs, rest)
  all_items_read each comma x xs rest h e other =
      items_read each comma (length (separated (codes ", ") (map text_of (x ∷ xs)) ++ rest)) x xs rest h e other (items_no_more x xs rest)
