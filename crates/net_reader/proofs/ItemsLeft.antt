-- Items that are read one by one.
use Rattle.std.proofs.Common.{◌≡◌, ℕ, zero, suc, ◌≤◌, ◌<◌, Bool, true, false, cond, ◌&&◌, List, [], ◌∷◌, ◌++◌, length, map, drop, refl, sym, ap, ◌∙◌, arith, append_assoc, Option, Some, None, option_map, option_and_then}
use Rattle.std.specs.List.{list_all}
use Rattle.std.proofs.lemmas.List.{length-drop}
use Rattle.net_exprs.specs.Answers.{Misfits}
use Rattle.net_exprs.specs.Ends.{begins_with}
use Rattle.net_exprs.proofs.Words.{by_test}
use Rattle.net_reader.specs.Items.{items_at}
use Rattle.net_reader.proofs.Tests.{if_false, if_true}

pushed_view : {A X : Type 0} (view : A → X) (xs : List A) (x : A) → map view (xs ++ x ∷ []) ≡ map view xs ++ view x ∷ []
pushed_view view [] x = refl
pushed_view view (y ∷ xs) x = ap (λ ys. view y ∷ ys) (pushed_view view xs x)

pub pushed : {A X : Type 0} (view : A → X) (xs more : List A) (x : A) → more ≡ xs ++ x ∷ [] → map view xs ++ view x ∷ [] ≡ map view more
pushed view xs more x h = rw h (sym (pushed_view view xs x))

pub all_pushed : {X : Type 0} (fits : X → Bool) (xs : List X) (x : X) → list_all fits xs ≡ true → fits x ≡ true → list_all fits (xs ++ x ∷ []) ≡ true
all_pushed fits [] x h k = rw k refl
all_pushed fits (y ∷ xs) x h k =
    by_test (fits y) (λ b. b && list_all fits xs ≡ true → b && list_all fits (xs ++ x ∷ []) ≡ true) (λ t h. all_pushed fits xs x h k) (λ t h. h) h

all_behind : {X : Type 0} (fits : X → Bool) (xs ys : List X) → list_all fits ys ≡ false → list_all fits (xs ++ ys) ≡ false
all_behind fits [] ys h = h
all_behind fits (x ∷ xs) ys h = by_test (fits x) (λ b. b && list_all fits (xs ++ ys) ≡ false) (λ t. all_behind fits xs ys h) (λ t. refl)

module _ {X : Type 0} (item_at : List ℕ → Option (X × List ℕ)) where
  abbrev Found : Type 0
  Found = Option (List X × List ℕ)

  abbrev all_from : List ℕ → Found
  all_from text = items_at item_at (suc (length text)) text

  abbrev with_items : List X → Found → Found
  with_items before o = option_map (λ (p : List X × List ℕ). (before ++ p.0, p.1)) o

  -- items were read, and the list goes on at what is left
  pub record ItemsLeft (text : List ℕ) (before : List X) (rest : List ℕ) : Type 0 where
    pub most : ℕ
    pub long : length rest ≤ most
    pub is : all_from text ≡ with_items before (items_at item_at (suc most) rest)

  pub items_begin : (text : List ℕ) → ItemsLeft text [] text
  items_begin text = record { most = length text; long = omega arith; is = same (all_from text) }
    where
      same : (o : Found) → o ≡ with_items [] o
      same None = refl
      same (Some p) = refl

  -- an item, and those behind it where a comma follows
  abbrev more : X → List ℕ → Found → Found
  more x rest o = cond (begins_with 44 rest) (option_map (λ (m : List X × List ℕ). (x ∷ m.0, m.1)) o) (Some (x ∷ [], rest))

  from_item : (m : ℕ) (rest : List ℕ) (x : X) (b : List ℕ) → item_at rest ≡ Some (x, b) → items_at item_at (suc m) rest ≡ more x b (items_at item_at m (drop 2 b))
  from_item m rest x b h = ap (option_and_then (λ (r : X × List ℕ). more r.0 r.1 (items_at item_at m (drop 2 r.1)))) h

  again : (before : List X) (x : X) (o : Found) → with_items before (option_map (λ (m : List X × List ℕ). (x ∷ m.0, m.1)) o) ≡ with_items (before ++ x ∷ []) o
  again before x None = refl
  again before x (Some p) = ap (λ xs. Some (xs, p.1)) (sym (append_assoc before (x ∷ []) p.0))

  pub items_go_on : (text : List ℕ) (before : List X) (rest : List ℕ) (x : X) (b : List ℕ) → ItemsLeft text before rest → item_at rest ≡ Some (x, b) → length b < length rest
      → begins_with 44 b ≡ true → ItemsLeft text (before ++ x ∷ []) (drop 2 b)
  items_go_on text before rest x b left h less comma = go left.most left.long left.is
    where
      go : (m : ℕ) → length rest ≤ m → all_from text ≡ with_items before (items_at item_at (suc m) rest) → ItemsLeft text (before ++ x ∷ []) (drop 2 b)
      go zero long is = absurd (omega (arith, less, long))
      go (suc n) long is = record {
        most = n;
        long = omega (arith, less, long, length-drop 2 b);
        is = is ∙ ap (with_items before) (from_item (suc n) rest x b h ∙ if_true (begins_with 44 b) _ _ comma) ∙ again before x (items_at item_at (suc n) (drop 2 b));
      }

  pub items_stop : (text : List ℕ) (before : List X) (rest : List ℕ) (x : X) (b : List ℕ) → ItemsLeft text before rest → item_at rest ≡ Some (x, b)
      → begins_with 44 b ≡ false → all_from text ≡ Some (before ++ x ∷ [], b)
  items_stop text before rest x b left h other = left.is ∙ ap (with_items before) (from_item left.most rest x b h ∙ if_false (begins_with 44 b) _ _ other)

  -- ---- an item that doesn't fit

  pub items_misfit : (fits : X → Bool) (text : List ℕ) (before : List X) (rest : List ℕ) → ItemsLeft text before rest → Misfits fits (item_at rest) → Misfits (list_all fits) (all_from text)
  items_misfit fits text before rest left h = rw left.is (item (item_at rest) h)
    where
      first : (x : X) (xs : List X) → fits x ≡ false → list_all fits (before ++ x ∷ xs) ≡ false
      first x xs k = all_behind fits before (x ∷ xs) (rw k refl)

      goes_on : (x : X) → fits x ≡ false → (o : Found) → Misfits (list_all fits) (with_items before (option_map (λ (m : List X × List ℕ). (x ∷ m.0, m.1)) o))
      goes_on x k None = tt
      goes_on x k (Some p) = first x p.0 k

      by_comma : (x : X) (b : List ℕ) (comma : Bool) → fits x ≡ false → (o : Found)
          → Misfits (list_all fits) (with_items before (cond comma (option_map (λ (m : List X × List ℕ). (x ∷ m.0, m.1)) o) (Some (x ∷ [], b))))
      by_comma x b true k o = goes_on x k o
      by_comma x b false k o = first x [] k

      item : (o : Option (X × List ℕ)) → Misfits fits o
          → Misfits (list_all fits) (with_items before (option_and_then (λ (r : X × List ℕ). more r.0 r.1 (items_at item_at left.most (drop 2 r.1))) o))
      item None k = tt
      item (Some p) k = by_comma p.0 p.1 (begins_with 44 p.1) k (items_at item_at left.most (drop 2 p.1))
