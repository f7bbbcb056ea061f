-- Maps from words and from pairs of numbers, to which one entry is added.
use Rattle.std.proofs.Common.{◌≡◌, ℕ, Bool, true, false, cond, List, [], ◌∷◌, ◌++◌, refl, ap, sym, ◌∙◌, Global, nat_eq, ◌==◌, ◌&&◌}
use Rattle.std.specs.Prelude.{Vec, Option, Some, None, not, is_some}
use Rattle.std.specs.Borrow.{Bor}
use Rattle.std.specs.Option.{option_copied}
use Rattle.std.specs.Map.{lookup}
use Rattle.std.specs.Cmp.Lexicographic.{pointwise}
use Rattle.std.proofs.lemmas.Bool.{eqb-true, eqb-false, eq-eqb, ne_eqb}
use Rattle.indexmap.specs.IndexMap.{IndexMap, get, insert_entry}
use Rattle.indexmap.proofs.CallerLemmas.{insert_entry-new}
use Rattle.name_places.specs.Places.{first_of, is_same_pair, noted}
use Rattle.name_places.proofs.Firsts.{cond_first}

pub eq_symm : (a b : ℕ) → (a == b) ≡ (b == a)
eq_symm a b = by (a == b) refl
  where
    by : (t : Bool) → (a == b) ≡ t → t ≡ (b == a)
    by true e = sym (eq-eqb b a (sym (eqb-true a b e)))
    by false e = sym (ne_eqb b a (λ h. eqb-false a b e (sym h)))

pub same_symm : (xs ys : List ℕ) → pointwise nat_eq xs ys ≡ pointwise nat_eq ys xs
same_symm [] [] = refl
same_symm [] (y ∷ ys) = refl
same_symm (x ∷ xs) [] = refl
same_symm (x ∷ xs) (y ∷ ys) = ap (λ b. b && pointwise nat_eq xs ys) (eq_symm x y) ∙ ap (λ b. nat_eq y x && b) (same_symm xs ys)

-- a look-up where one more entry stands last
pub lookup_last : {K X : Type 0} (test : K → Bool) (es : List (K × X)) (k : K) (v : X)
    → lookup test (es ++ (k, v) ∷ []) ≡ first_of (lookup test es) (cond (test k) (Some v) None)
lookup_last test [] k v = refl
lookup_last test (e ∷ es) k v = ap (cond (test e.0) (Some e.1)) (lookup_last test es k v) ∙ cond_first (test e.0) e.1 (lookup test es) _

abbrev pub same_items : Vec ℕ Global → Vec ℕ Global → Bool
same_items x y = pointwise nat_eq x.items y.items

pub word_added : {X S : Type 0} (m n : IndexMap (Vec ℕ Global) X S) (k : Vec ℕ Global) (word : List ℕ) (v : X) → k.items ≡ word → noted m word ≡ None
    → n.entries ≡ insert_entry same_items m.entries k v
    → (key : List ℕ) → noted n key ≡ first_of (noted m key) (cond (pointwise nat_eq word key) (Some v) None)
word_added m n k word v copied absent added key =
    ap (λ es. lookup (λ (x : Vec ℕ Global). pointwise nat_eq key x.items) es)
    (added ∙ insert_entry-new same_items m k v (ap (λ w. noted m w) copied ∙ absent))
    ∙ lookup_last (λ (x : Vec ℕ Global). pointwise nat_eq key x.items) m.entries k v
    ∙ ap (λ b. first_of (noted m key) (cond b (Some v) None)) (ap (pointwise nat_eq key) copied ∙ same_symm key word)

pub pair_added : {X S : Type 0} (m n : IndexMap (ℕ × ℕ) X S) (home word : ℕ) (v : X) → get is_same_pair m (home, word) ≡ None
    → n.entries ≡ insert_entry is_same_pair m.entries (home, word) v
    → (h w : ℕ) → get is_same_pair n (h, w) ≡ first_of (get is_same_pair m (h, w)) (cond ((home == h) && (word == w)) (Some v) None)
pair_added m n home word v absent added h w =
    ap (λ es. lookup (is_same_pair (h, w)) es) (added ∙ insert_entry-new is_same_pair m (home, word) v absent)
    ∙ lookup_last (is_same_pair (h, w)) m.entries (home, word) v
    ∙ ap (λ b. first_of (get is_same_pair m (h, w)) (cond b (Some v) None))
    (ap (λ b. b && (w == word)) (eq_symm h home) ∙ ap (λ b. (home == h) && b) (eq_symm w word))

pub none_copied : {X : Type 0} (r : Option (Bor X)) (b : Bool) → is_some r ≡ not b → b ≡ true → option_copied r ≡ None
none_copied None b e h = refl
none_copied (Some x) b e h = let f : true ≡ false = e ∙ ap not h in cc
