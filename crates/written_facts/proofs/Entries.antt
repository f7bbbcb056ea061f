-- What entries make of the shape of a variable: the last one that is an entry of it counts.
use Rattle.std.proofs.Common.{◌≡◌, ℕ, suc, Bool, true, false, cond, List, [], ◌∷◌, refl, ap, ◌∙◌, arith, nat_eq}
use Rattle.std.specs.Prelude.{◌||◌}
use Rattle.std.specs.List.{Contains, list_any}
use Rattle.std.proofs.lemmas.Bool.{eqb-true}
use Rattle.written_rows.specs.declared.facts.ArrayShape.{ArrayShape}
use Rattle.written_facts.specs.Shapes.{by_entries, by_entry}

here : {X : Type 0} (x : X) (xs : List X) → Contains (x ∷ xs) x
here x xs = (0, omega arith, refl)

there : {X : Type 0} (x y : X) (xs : List X) → Contains xs y → Contains (x ∷ xs) y
there x y xs h = (suc h.0, (let l = h.1 in omega arith), h.2)

first_test : (a b : Bool) → (a || b) ≡ true → b ≡ false → a ≡ true
first_test true b h e = refl
first_test false b h e = absurd (cc (h, e))

none_first : (a b : Bool) → (a || b) ≡ false → a ≡ false
none_first true b h = absurd (cc h)
none_first false b h = refl

none_second : (a b : Bool) → (a || b) ≡ false → b ≡ false
none_second true b h = absurd (cc h)
none_second false b h = h

module _ {X : Type 0} (of : X → ℕ) (change : X → ArrayShape → ArrayShape) (v : ℕ) where
  -- whether there is an entry of the variable
  abbrev has : List X → Bool
  has xs = list_any (λ x. nat_eq (of x) v) xs

  unchanged : (xs : List X) (s : ArrayShape) → has xs ≡ false → by_entries of change v xs s ≡ s
  unchanged [] s h = refl
  unchanged (x ∷ xs) s h =
      ap (λ b. by_entries of change v xs (cond b (change x s) s)) (none_first (nat_eq (of x) v) (has xs) h) ∙ unchanged xs s (none_second (nat_eq (of x) v) (has xs) h)

  abbrev pub Last : List X → ArrayShape → Type 0
  Last xs made = (x : X) × (s : ArrayShape) × Contains xs x × (of x ≡ v) × (made ≡ change x s)

  pub last_entry : (xs : List X) (s : ArrayShape) → has xs ≡ true → Last xs (by_entries of change v xs s)
  last_entry [] s h = absurd (cc h)
  last_entry (x ∷ xs) s h = by_more (has xs) refl (λ e. last_entry xs (by_entry of change v x s) e)
    where
      by_more : (b : Bool) → has xs ≡ b → (has xs ≡ true → Last xs (by_entries of change v xs (by_entry of change v x s)))
          → Last (x ∷ xs) (by_entries of change v xs (by_entry of change v x s))
      by_more true e last = let more = last e in (more.0, more.1, there x more.0 xs more.2, more.3, more.4)
      by_more false e last =
          let own = first_test (nat_eq (of x) v) (has xs) h e in
          (x, s, here x xs, eqb-true (of x) v own, unchanged xs (by_entry of change v x s) e ∙ ap (λ b. cond b (change x s) s) own)

  -- what no entry changes stays as it is
  pub kept : {Y : Type 0} (f : ArrayShape → Y) → ((x : X) (s : ArrayShape) → f (change x s) ≡ f s) → (xs : List X) (s : ArrayShape) → f (by_entries of change v xs s) ≡ f s
  kept f same [] s = refl
  kept f same (x ∷ xs) s = kept f same xs (by_entry of change v x s) ∙ by_own (nat_eq (of x) v)
    where
      by_own : (b : Bool) → f (cond b (change x s) s) ≡ f s
      by_own true = same x s
      by_own false = refl
