-- Lists that a loop goes through, and the text that is written piece by piece.
use Rattle.std.proofs.Common.{◌≡◌, ℕ, ◌+◌, ◌<◌, ◌≤◌, ◌==◌, Bool, true, false, ◌&&◌, if◌then◌else◌, List, [], ◌∷◌, ◌++◌, length, map, take, get_or, refl, sym, ap, ◌∙◌, append_assoc, arith}
use Rattle.std.specs.List.{list_all}
use Rattle.std.proofs.Math.ListN.{get_or-map}
use Rattle.std.proofs.lemmas.List.{length-map, take_all}
use Rattle.std.proofs.lemmas.List.Folds.{list_all_at, list_all-map, list_all-append}
use Rattle.std.proofs.lemmas.Grind.{common_steps}
use Rattle.net_tree.specs.Spelling.{separated}

true_unless_false : (b : Bool) → (b ≡ false → ⊥) → b ≡ true
true_unless_false true refute = refl
true_unless_false false refute = absurd (refute refl)

-- the same place in a list and in what is made of each of its items
pub below_map : {X Y : Type 0} (f : X → Y) (xs : List X) (i : ℕ) → i < length xs → i < length (map f xs)
below_map f xs i within = rw length-map within

pub at_map : {X Y : Type 0} (f : X → Y) (xs : List X) (i : ℕ) (x : X) → x ≡ get_or xs i x → f x ≡ get_or (map f xs) i (f x)
at_map f xs i x at = ap f at ∙ sym (get_or-map f xs i x)

-- what holds of each item holds of the one that the loop is at
pub passes_at : {X Y : Type 0} (test : Y → Bool) (view : X → Y) (xs : List X) (i : ℕ) (x : X) → list_all test (map view xs) ≡ true → i < length xs → x ≡ get_or xs i x → test (view x) ≡ true
passes_at test view xs i x all within at =
    true_unless_false (test (view x)) (λ fails. cc (list_all_at (λ y. test (view y)) xs i x within (rw (← at) fails), list_all-map test view xs, all))

pub and-left : (a b : Bool) → (a && b) ≡ true → a ≡ true
and-left true b h = refl
and-left false b h = h

pub and-right : (a b : Bool) → (a && b) ≡ true → b ≡ true
and-right true b h = h
and-right false b h = cc

-- what holds of each item and of one more holds of each item
pub passes_before : {Y : Type 0} (test : Y → Bool) (ys : List Y) (y : Y) → list_all test (ys ++ y ∷ []) ≡ true → list_all test ys ≡ true
passes_before test ys y all = and-left (list_all test ys) _ (rw list_all-append at all)

pub passes_last : {Y : Type 0} (test : Y → Bool) (ys : List Y) (y : Y) → list_all test (ys ++ y ∷ []) ≡ true → test y ≡ true
passes_last test ys y all = and-left (test y) true (and-right (list_all test ys) _ (rw list_all-append at all))

-- one more text at the end
separated-push : (separator : List ℕ) (texts : List (List ℕ)) (text : List ℕ) → separated separator (texts ++ text ∷ []) ≡ (separated separator texts ++ (if length texts == 0 then [] else separator)) ++ text
separated-push separator [] text = grind (arith, common_steps)
separated-push separator (t ∷ []) text = grind (arith, common_steps)
separated-push separator (t ∷ u ∷ ts) text = grind (arith, common_steps, separated-push separator (u ∷ ts) text)

separated-take : (separator : List ℕ) (texts : List (List ℕ)) (i : ℕ) (text : List ℕ) → i < length texts → text ≡ get_or texts i text → separated separator (take (i + 1) texts) ≡ (separated separator (take i texts) ++ (if i == 0 then [] else separator)) ++ text
separated-take separator texts i text within at = grind (arith, common_steps, separated-push separator (take i texts) text)

-- a turn of a loop that writes what stands before a text, and the text
pub separated_turn : (separator : List ℕ) (texts : List (List ℕ)) (i : ℕ) (text start before between after : List ℕ) → i < length texts → text ≡ get_or texts i text → before ≡ start ++ separated separator (take i texts) → between ≡ before ++ (if i == 0 then [] else separator) → after ≡ between ++ text → after ≡ start ++ separated separator (take (i + 1) texts)
separated_turn separator texts i text start before between after within at e f g =
    rw (g, f, e, separated-take separator texts i text within at) (simp append_assoc)

-- five pieces after a start
pub five_pieces : (start a b c d e to_a to_b to_c to_d to_e : List ℕ) → to_a ≡ start ++ a → to_b ≡ to_a ++ b → to_c ≡ to_b ++ c → to_d ≡ to_c ++ d → to_e ≡ to_d ++ e → to_e ≡ start ++ (a ++ b ++ c ++ d ++ e)
five_pieces start a b c d e to_a to_b to_c to_d to_e p q r s t = rw (t, s, r, q, p) (simp append_assoc)

-- eight pieces after a start, three of which are written together
pub eight_pieces : (start a b c d e f g h to_a to_b to_e to_f to_g to_h : List ℕ) → to_a ≡ start ++ a → to_b ≡ to_a ++ b → to_e ≡ to_b ++ c ++ d ++ e → to_f ≡ to_e ++ f → to_g ≡ to_f ++ g → to_h ≡ to_g ++ h → to_h ≡ start ++ (a ++ b ++ c ++ d ++ e ++ f ++ g ++ h)
eight_pieces start a b c d e f g h to_a to_b to_e to_f to_g to_h p q r s t u = rw (u, t, s, r, q, p) (simp append_assoc)

-- a turn of a loop that makes an item of each item of a list
pub map_turn : {X Y Z : Type 0} (f : Y → Z) (view : X → Y) (xs : List X) (i : ℕ) (x : X) (made : Z) (before after : List Z) → i < length xs → x ≡ get_or xs i x → before ≡ map f (map view (take i xs)) → made ≡ f (view x) → after ≡ before ++ made ∷ [] → after ≡ map f (map view (take (i + 1) xs))
map_turn f view xs i x made before after within at e h g = grind (arith, common_steps)

-- what the loop made, with an item of one more and a last item
pub map_end : {X Y Z : Type 0} (f : Y → Z) (view : X → Y) (xs : List X) (i : ℕ) (y : Y) (one last : Z) (before between after : List Z) → length xs ≤ i → before ≡ map f (map view (take i xs)) → one ≡ f y → between ≡ before ++ one ∷ [] → after ≡ between ++ last ∷ [] → after ≡ map f (map view xs ++ y ∷ []) ++ last ∷ []
map_end f view xs i y one last before between after past e h g k = grind (arith, common_steps)

-- what holds of each item holds of the one at a place
pub passes_here : {X : Type 0} (test : X → Bool) (xs : List X) (i : ℕ) (x : X) → list_all test xs ≡ true → i < length xs → x ≡ get_or xs i x → test x ≡ true
passes_here test xs i x all within at = true_unless_false (test x) (λ fails. cc (list_all_at test xs i x within (rw (← at) fails), all))

-- the last item is written, and what stands behind all of them
pub closed_list : (separator opening closing : List ℕ) (texts : List (List ℕ)) (i : ℕ) (start opened before after : List ℕ) → length texts ≤ i → opened ≡ start ++ opening → before ≡ opened ++ separated separator (take i texts) → after ≡ before ++ closing → after ≡ start ++ (opening ++ separated separator texts ++ closing)
closed_list separator opening closing texts i start opened before after past a b c =
    rw (c, b, a, take_all i texts past) (simp append_assoc)

-- two pieces after a start
pub two_pieces : (start a b to_a to_b : List ℕ) → to_a ≡ start ++ a → to_b ≡ to_a ++ b → to_b ≡ start ++ (a ++ b)
two_pieces start a b to_a to_b p q = rw (q, p) (append_assoc start a b)

pub three_pieces : (start a b c to_a to_b to_c : List ℕ) → to_a ≡ start ++ a → to_b ≡ to_a ++ b → to_c ≡ to_b ++ c → to_c ≡ start ++ (a ++ b ++ c)
three_pieces start a b c to_a to_b to_c p q r = rw (r, q, p) (simp append_assoc)

pub four_pieces : (start a b c d to_a to_b to_c to_d : List ℕ) → to_a ≡ start ++ a → to_b ≡ to_a ++ b → to_c ≡ to_b ++ c → to_d ≡ to_c ++ d → to_d ≡ start ++ (a ++ b ++ c ++ d)
four_pieces start a b c d to_a to_b to_c to_d p q r s = rw (s, r, q, p) (simp append_assoc)

-- a line of two pieces, with its indentation and its end
pub line_of_two : (start blanks a b end to_blanks to_a to_b to_end : List ℕ) → to_blanks ≡ start ++ blanks → to_a ≡ to_blanks ++ a → to_b ≡ to_a ++ b → to_end ≡ to_b ++ end → to_end ≡ start ++ (blanks ++ (a ++ b) ++ end)
line_of_two start blanks a b end to_blanks to_a to_b to_end p q r s = rw (s, r, q, p) (simp append_assoc)
