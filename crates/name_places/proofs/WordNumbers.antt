-- A word's number is the place of the first row that has it, so that a table of places by numbers is one by words.
use Rattle.std.proofs.Common.{◌≡◌, ℕ, Bool, true, false, List, get_or, refl, ap, sym, ◌∙◌, ◌==◌, ◌&&◌, Global}
use Rattle.std.specs.Prelude.{Vec, Option, Some, None, is_some, position}
use Rattle.std.specs.Cmp.Lexicographic.{bytes_decides}
use Rattle.std.proofs.lemmas.Bool.{and_parts, eqb-true, eq-eqb, and_right}
use Rattle.std.proofs.lemmas.List.Quantifiers.{position-Some}
use Rattle.up_base.specs.Names.{lower_case}
use Rattle.indexmap.specs.IndexMap.{IndexMap, get}
use Rattle.name_places.specs.Places.{Keyed, has_key, has_word, is_at, is_home, is_housed, is_same_pair, noted, place_of_word}
use Rattle.name_places.proofs.Firsts.{position_like, position_none}

module _ {X S : Type 0} (f : X → Keyed) (xs : List X) (words : IndexMap (Vec ℕ Global) ℕ S)
    (numbered : (key : List ℕ) → noted words key ≡ position (λ x. is_housed key (f x)) xs) where
  -- the row at a word's number has the word
  name_at : (key : List ℕ) (w : ℕ) (d : X) → noted words key ≡ Some w → lower_case (f (get_or xs w d)).name ≡ key
  name_at key w d e =
      let p = position-Some (λ x. is_housed key (f x)) xs w d (sym (numbered key) ∙ e) in
      (bytes_decides (lower_case (f (get_or xs w d)).name) key).0 (and_parts (is_some (f (get_or xs w d)).home) (has_key key (f (get_or xs w d)).name) p.1).1

  -- words with one number are one word
  one_word : (a b : List ℕ) (w : ℕ) (d : X) → noted words a ≡ Some w → noted words b ≡ Some w → a ≡ b
  one_word a b w d p q = sym (name_at a w d p) ∙ name_at b w d q

  number_is : (key : List ℕ) (w : ℕ) → noted words key ≡ Some w → (x : X) → is_home w (noted words (lower_case (f x).name)) ≡ has_key key (f x).name
  number_is key w e x = by (has_key key (f x).name) refl
    where
      other : (v : ℕ) → noted words (lower_case (f x).name) ≡ Some v → has_key key (f x).name ≡ false → (b : Bool) → (v == w) ≡ b → b ≡ false
      other v n differs false s = refl
      other v n differs true s =
          let same = one_word (lower_case (f x).name) key w x (n ∙ ap Some (eqb-true v w s)) e in
          sym ((bytes_decides (lower_case (f x).name) key).1 same) ∙ differs

      unlike : (o : Option ℕ) → noted words (lower_case (f x).name) ≡ o → has_key key (f x).name ≡ false → is_home w o ≡ false
      unlike None n differs = refl
      unlike (Some v) n differs = other v n differs (v == w) refl

      by : (b : Bool) → has_key key (f x).name ≡ b → is_home w (noted words (lower_case (f x).name)) ≡ b
      by true h = ap (λ k. is_home w (noted words k)) ((bytes_decides (lower_case (f x).name) key).0 h) ∙ ap (is_home w) e ∙ eq-eqb w w refl
      by false h = unlike (noted words (lower_case (f x).name)) refl h

  -- a row that has no home, or not the word, isn't the one of a home and the word
  elsewhere : (h : ℕ) (key : List ℕ) (x : X) → is_housed key (f x) ≡ false → is_at h key (f x) ≡ false
  elsewhere h key x = by (f x).home (has_key key (f x).name)
    where
      by : (o : Option ℕ) (b : Bool) → (is_some o && b) ≡ false → (is_home h o && b) ≡ false
      by None b e = refl
      by (Some y) true e = cc
      by (Some y) false e = and_right (y == h) false refl

  pub by_words : {T : Type 0} (places : IndexMap (ℕ × ℕ) ℕ T) → ((h w : ℕ) → get is_same_pair places (h, w) ≡ position (λ x. has_word words h w (f x)) xs)
      → (h : ℕ) (key : List ℕ) → place_of_word places h (noted words key) ≡ position (λ x. is_at h key (f x)) xs
  by_words places placed h key = by (noted words key) refl
    where
      by : (o : Option ℕ) → noted words key ≡ o → place_of_word places h o ≡ position (λ x. is_at h key (f x)) xs
      by None e = sym (position_none (λ x. is_housed key (f x)) (λ x. is_at h key (f x)) (elsewhere h key) xs (sym (numbered key) ∙ e))
      by (Some w) e =
          placed h w
          ∙ position_like (λ x. has_word words h w (f x)) (λ x. is_at h key (f x)) (λ x. ap (λ b. is_home h (f x).home && b) (number_is key w e x)) xs
