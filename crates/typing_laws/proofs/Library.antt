-- Calls of the library on arguments of the types that they take give a value of their type, raise an error, or are at an edge.
use Rattle.std.proofs.Common.{◌≡◌, refl, sym, ap, ◌∙◌, subst, ℕ, ◌-◌, ◌==◌, ◌^◌, ℤ, pos, negsuc, unsigned_abs, Bool, true, false, cond, ◌&&◌, ◌||◌, List, [], ◌∷◌, length, take, drop, replicate, map, true≢false, arith, leb-true, le-leb}
use Rattle.std.specs.Prelude.{nat_le, nat_lt, is_some}
use Rattle.std.specs.Cmp.Lexicographic.{pointwise}
use Rattle.std.specs.List.{list_all}
use Rattle.up_base.proofs.Tests.{both_true}
use Rattle.vb_tree.specs.BoundTree as types
use Rattle.vb_tree.specs.BoundTree.{Ty}
use Rattle.vb_tree.specs.declared.bound.LibCall.{LibCall}
use Rattle.vb_tree.specs.declared.bound.LibCall.TheVariants as lib
use Rattle.vb_tree.specs.declared.value.Value6.{Value6}
use Rattle.vb_tree.specs.declared.value.Value6.TheVariants as v
use Rattle.vb6_meaning.specs.Answers.{Answer, gives, raises, outside}
use Rattle.vb6_meaning.specs.declared.number.NumberKind.TheVariants as kinds
use Rattle.vb6_meaning.specs.Kinds.{checked_value, fits}
use Rattle.vb6_meaning.specs.Library as meaning
use Rattle.vb6_meaning.specs.Library.{call, from_place, counted, plain, capital, small, character, place_in}
use Rattle.vb6_meaning.specs.Values.{coerce, text}
use Rattle.bound_facts.specs.Locks.{is_same_type}
use Rattle.net_meaning.specs.WrittenRows.{write_conversion}
use Rattle.run_matches.specs.CoveredVariables.{covers_type}
use Rattle.run_matches.specs.Formed.{is_call, is_conversion_to, is_row_of_call, is_signed}
use Rattle.typing_laws.specs.Edges.{IsLibraryEdge, capital_past_127, small_past_127, blanks_too_long, character_past_127, number_past_127, is_plain_unit}
use Rattle.typing_laws.proofs.Plain.{Plain, a_boolean, a_byte, an_integer, a_long, a_currency, a_text, is_covered, same_as}
pub use Rattle.typing_laws.specs.Inert.{gives_itself}
use Rattle.typing_laws.proofs.Rows.{IsAnswer, conversion_answer}

-- ---- values of types

abbrev pub ArePlain : List Ty → List Value6 → Type 0
ArePlain [] [] = Unit {0}
ArePlain (t ∷ ts) (x ∷ xs) = Plain t x × ArePlain ts xs
ArePlain [] (x ∷ xs) = ⊥
ArePlain (t ∷ ts) [] = ⊥

no : false ≡ true → ⊥
no h = true≢false (sym h)

and_no : (b : Bool) → b && false ≡ true → ⊥
and_no true h = no h
and_no false h = no h

text_in : (t : Ty) (x : Value6) → Plain t x → is_same_type t types.str ≡ true → (s : List ℕ) × (x ≡ v.Str s)
text_in _ _ (a_text s) h = (s, refl)
text_in _ _ (a_boolean b) h = absurd (no h)
text_in _ _ (a_byte m i) h = absurd (no h)
text_in _ _ (an_integer z i) h = absurd (no h)
text_in _ _ (a_long z i) h = absurd (no h)
text_in _ _ (a_currency z i) h = absurd (no h)

count_in : (t : Ty) (x : Value6) → Plain t x → is_same_type t types.long ≡ true → (z : ℤ) × (x ≡ v.Long z)
count_in _ _ (a_long z i) h = (z, refl)
count_in _ _ (a_text s) h = absurd (no h)
count_in _ _ (a_boolean b) h = absurd (no h)
count_in _ _ (a_byte m i) h = absurd (no h)
count_in _ _ (an_integer z i) h = absurd (no h)
count_in _ _ (a_currency z i) h = absurd (no h)

-- ---- lists of arguments

one_value : (u : Ty) (ts : List Ty) (xs : List Value6) → ArePlain ts xs → pointwise is_same_type ts (u ∷ []) ≡ true
    → (t : Ty) × (x : Value6) × (ts ≡ t ∷ []) × (xs ≡ x ∷ []) × Plain t x × (is_same_type t u ≡ true)
one_value u [] xs p h = absurd (no h)
one_value u (t ∷ []) (x ∷ []) p h = (t, x, refl, refl, p.0, (both_true (is_same_type t u) true h).0)
one_value u (t ∷ s ∷ ts) xs p h = absurd (and_no (is_same_type t u) h)
one_value u (t ∷ []) [] p h = absurd p
one_value u (t ∷ []) (x ∷ y ∷ xs) p h = absurd p.1

one_text : (ts : List Ty) (xs : List Value6) → ArePlain ts xs → pointwise is_same_type ts (types.str ∷ []) ≡ true → (s : List ℕ) × (xs ≡ v.Str s ∷ [])
one_text ts xs p h =
    let a = one_value types.str ts xs p h in
    let b = text_in a.0 a.1 a.4 a.5 in
    (b.0, a.3 ∙ ap (λ x. x ∷ []) b.1)

one_count : (ts : List Ty) (xs : List Value6) → ArePlain ts xs → pointwise is_same_type ts (types.long ∷ []) ≡ true → (z : ℤ) × (xs ≡ v.Long z ∷ [])
one_count ts xs p h =
    let a = one_value types.long ts xs p h in
    let b = count_in a.0 a.1 a.4 a.5 in
    (b.0, a.3 ∙ ap (λ x. x ∷ []) b.1)

-- the first argument, and those behind it
first_of : (u : Ty) (us ts : List Ty) (xs : List Value6) → ArePlain ts xs → pointwise is_same_type ts (u ∷ us) ≡ true
    → (t : Ty) × (x : Value6) × (more : List Ty) × (ys : List Value6) × (xs ≡ x ∷ ys) × Plain t x × (is_same_type t u ≡ true)
    × ArePlain more ys × (pointwise is_same_type more us ≡ true)
first_of u us [] xs p h = absurd (no h)
first_of u us (t ∷ ts) [] p h = absurd p
first_of u us (t ∷ ts) (x ∷ xs) p h =
    let b = both_true (is_same_type t u) (pointwise is_same_type ts us) h in
    (t, x, ts, xs, refl, p.0, b.0, p.1, b.1)

text_and_count : (ts : List Ty) (xs : List Value6) → ArePlain ts xs → pointwise is_same_type ts (types.str ∷ types.long ∷ []) ≡ true
    → (s : List ℕ) × (z : ℤ) × (xs ≡ v.Str s ∷ v.Long z ∷ [])
text_and_count ts xs p h =
    let a = first_of types.str (types.long ∷ []) ts xs p h in
    let s = text_in a.0 a.1 a.5 a.6 in
    let z = one_count a.2 a.3 a.7 a.8 in
    (s.0, z.0, a.4 ∙ ap (λ x. x ∷ a.3) s.1 ∙ ap (λ ys. v.Str s.0 ∷ ys) z.1)

two_texts : (ts : List Ty) (xs : List Value6) → ArePlain ts xs → pointwise is_same_type ts (types.str ∷ types.str ∷ []) ≡ true
    → (s t : List ℕ) × (xs ≡ v.Str s ∷ v.Str t ∷ [])
two_texts ts xs p h =
    let a = first_of types.str (types.str ∷ []) ts xs p h in
    let s = text_in a.0 a.1 a.5 a.6 in
    let z = one_text a.2 a.3 a.7 a.8 in
    (s.0, z.0, a.4 ∙ ap (λ x. x ∷ a.3) s.1 ∙ ap (λ ys. v.Str s.0 ∷ ys) z.1)

text_and_counts : (ts : List Ty) (xs : List Value6) → ArePlain ts xs → pointwise is_same_type ts (types.str ∷ types.long ∷ types.long ∷ []) ≡ true
    → (s : List ℕ) × (z y : ℤ) × (xs ≡ v.Str s ∷ v.Long z ∷ v.Long y ∷ [])
text_and_counts ts xs p h =
    let a = first_of types.str (types.long ∷ types.long ∷ []) ts xs p h in
    let s = text_in a.0 a.1 a.5 a.6 in
    let b = first_of types.long (types.long ∷ []) a.2 a.3 a.7 a.8 in
    let z = count_in b.0 b.1 b.5 b.6 in
    let y = one_count b.2 b.3 b.7 b.8 in
    (s.0, z.0, y.0, a.4 ∙ ap (λ x. x ∷ a.3) s.1 ∙ ap (λ ys. v.Str s.0 ∷ ys) (b.4 ∙ ap (λ x. x ∷ b.3) z.1 ∙ ap (λ ys. v.Long z.0 ∷ ys) y.1))

-- ---- answers

pub long_answer : (E : Type 0) (z : ℤ) → IsAnswer types.long E (checked_value kinds.Long z)
long_answer E z = by (fits kinds.Long z) refl
  where
    by : (b : Bool) → fits kinds.Long z ≡ b → IsAnswer types.long E (cond b (gives (v.Long z)) (raises 6))
    by true e = a_long z e
    by false e = tt

pub integer_answer : (E : Type 0) (z : ℤ) → IsAnswer types.integer E (checked_value kinds.Integer z)
integer_answer E z = by (fits kinds.Integer z) refl
  where
    by : (b : Bool) → fits kinds.Integer z ≡ b → IsAnswer types.integer E (cond b (gives (v.Int z)) (raises 6))
    by true e = an_integer z e
    by false e = tt

currency_answer : (E : Type 0) (z : ℤ) → IsAnswer types.currency E (checked_value kinds.Currency z)
currency_answer E z = by (fits kinds.Currency z) refl
  where
    by : (b : Bool) → fits kinds.Currency z ≡ b → IsAnswer types.currency E (cond b (gives (v.Cur z)) (raises 6))
    by true e = a_currency z e
    by false e = tt

counted_answer : (ty : Ty) (E : Type 0) (z : ℤ) (row : ℕ → Answer Value6) → ((n : ℕ) → z ≡ pos n → IsAnswer ty E (row n)) → IsAnswer ty E (counted z row)
counted_answer ty E (pos n) row h = h n refl
counted_answer ty E (negsuc n) row h = tt

place_answer : (ty : Ty) (E : Type 0) (z : ℤ) (row : ℕ → Answer Value6) → ((n : ℕ) → IsAnswer ty E (row n)) → IsAnswer ty E (from_place z row)
place_answer ty E z row h = counted_answer ty E z (λ i. cond (i == 0) (raises 5) (row (i - 1))) (λ n e. by n (n == 0))
  where
    by : (n : ℕ) (b : Bool) → IsAnswer ty E (cond b (raises 5) (row (n - 1)))
    by n true = tt
    by n false = h (n - 1)

plain_answer : (ty : Ty) (E : Type 0) (s : List ℕ) (a : Answer Value6) → (list_all is_plain_unit s ≡ true → IsAnswer ty E a)
    → (list_all is_plain_unit s ≡ false → E) → IsAnswer ty E (plain s a)
plain_answer ty E s a h out = by (list_all is_plain_unit s) refl
  where
    by : (b : Bool) → list_all is_plain_unit s ≡ b → IsAnswer ty E (cond b a outside)
    by true e = h e
    by false e = out e

text_answer : (E : Type 0) (s : List ℕ) → (nat_lt (length s) (2 ^ 31) ≡ false → E) → IsAnswer types.str E (text s)
text_answer E s out = by (nat_lt (length s) (2 ^ 31)) refl
  where
    by : (b : Bool) → nat_lt (length s) (2 ^ 31) ≡ b → IsAnswer types.str E (cond b (gives (v.Str s)) outside)
    by true e = a_text s
    by false e = out e

character_answer : (n : ℕ) → IsAnswer types.str (IsLibraryEdge lib.Chr (v.Long (pos n) ∷ [])) (character (pos n))
character_answer n = by (nat_le n 127) refl (nat_le n 255) refl
  where
    by : (b : Bool) → nat_le n 127 ≡ b → (c : Bool) → nat_le n 255 ≡ c
        → IsAnswer types.str (IsLibraryEdge lib.Chr (v.Long (pos n) ∷ [])) (cond b (gives (v.Str (n ∷ []))) (cond c outside (raises 5)))
    by true e c f = a_text (n ∷ [])
    by false e true f = character_past_127 n e f
    by false e false f = tt

character_of : (z : ℤ) → IsAnswer types.str (IsLibraryEdge lib.Chr (v.Long z ∷ [])) (character z)
character_of (pos n) = character_answer n
character_of (negsuc n) = tt

small_integer : (c : ℕ) → nat_le c 127 ≡ true → fits kinds.Integer (pos c) ≡ true
small_integer c h =
    let l = leb-true c 127 h in
    le-leb c 32767 (omega (arith, l))

number_of_text : (s : List ℕ) → IsAnswer types.integer (IsLibraryEdge lib.Asc (v.Str s ∷ [])) (meaning.character_number s)
number_of_text [] = tt
number_of_text (c ∷ s) = by (nat_le c 127) refl
  where
    by : (b : Bool) → nat_le c 127 ≡ b
        → IsAnswer types.integer (IsLibraryEdge lib.Asc (v.Str (c ∷ s) ∷ [])) (cond (b && true) (gives (v.Int (pos c))) outside)
    by true e = an_integer (pos c) (small_integer c e)
    by false e = number_past_127 c s e

spaces_answer : (z : ℤ) → IsAnswer types.str (IsLibraryEdge lib.Space (v.Long z ∷ [])) (counted z (λ n. text (replicate n 32)))
spaces_answer (pos n) = text_answer (IsLibraryEdge lib.Space (v.Long (pos n) ∷ [])) (replicate n 32) (λ e. blanks_too_long n e)
spaces_answer (negsuc n) = tt

left_answer : (E : Type 0) (s : List ℕ) (z : ℤ) → IsAnswer types.str E (meaning.left s z)
left_answer E s z = counted_answer types.str E z (λ n. gives (v.Str (take n s))) (λ n e. a_text (take n s))

right_answer : (E : Type 0) (s : List ℕ) (z : ℤ) → IsAnswer types.str E (meaning.right s z)
right_answer E s z = counted_answer types.str E z (λ n. gives (v.Str (drop (length s - n) s))) (λ n e. a_text (drop (length s - n) s))

middle_answer : (E : Type 0) (s : List ℕ) (z : ℤ) → IsAnswer types.str E (meaning.mid (v.Str s ∷ v.Long z ∷ []))
middle_answer E s z = place_answer types.str E z (λ i. gives (v.Str (drop i s))) (λ i. a_text (drop i s))

middle_of : (E : Type 0) (s : List ℕ) (z y : ℤ) → IsAnswer types.str E (meaning.mid (v.Str s ∷ v.Long z ∷ v.Long y ∷ []))
middle_of E s z y =
    place_answer types.str E z (λ i. counted y (λ n. gives (v.Str (take n (drop i s)))))
    (λ i. counted_answer types.str E y (λ n. gives (v.Str (take n (drop i s)))) (λ n e. a_text (take n (drop i s))))

absolute_answer : (E : Type 0) (ty : Ty) (x : Value6) → is_signed ty ≡ true → Plain ty x → IsAnswer ty E (call lib.Abs (x ∷ []))
absolute_answer E _ _ h (an_integer z i) = integer_answer E (pos (unsigned_abs z))
absolute_answer E _ _ h (a_long z i) = long_answer E (pos (unsigned_abs z))
absolute_answer E _ _ h (a_currency z i) = currency_answer E (pos (unsigned_abs z))
absolute_answer E _ _ h (a_boolean b) = absurd (no h)
absolute_answer E _ _ h (a_byte m i) = absurd (no h)
absolute_answer E _ _ h (a_text s) = absurd (no h)

-- ---- all calls

weaker : (ty : Ty) (E F : Type 0) (a : Answer Value6) → (E → F) → IsAnswer ty E a → IsAnswer ty F a
weaker ty E F (gives z) leads h = h
weaker ty E F (raises n) leads h = h
weaker ty E F outside leads h = leads h

module _ (f : LibCall) (ty : Ty) (c : covers_type ty ≡ true) (ts : List Ty) (xs : List Value6) (p : ArePlain ts xs) where
  abbrev Holds : Type 0
  Holds = IsAnswer ty (IsLibraryEdge f xs) (call f xs)

  -- a call of a type with arguments of these
  as_call : (takes : List Ty) (gives_ : Ty) → is_call takes gives_ ts ty ≡ true
      → (pointwise is_same_type ts takes ≡ true → IsAnswer gives_ (IsLibraryEdge f xs) (call f xs)) → Holds
  as_call takes gives_ h go =
      let b = both_true (is_same_type gives_ ty) (pointwise is_same_type ts takes) h in
      subst (λ t. IsAnswer t (IsLibraryEdge f xs) (call f xs)) (same_as gives_ ty c b.0) (go b.1)

  over_text : (gives_ : Ty) → is_call (types.str ∷ []) gives_ ts ty ≡ true
      → ((s : List ℕ) → IsAnswer gives_ (IsLibraryEdge f (v.Str s ∷ [])) (call f (v.Str s ∷ []))) → Holds
  over_text gives_ h go =
      as_call (types.str ∷ []) gives_ h
      (λ e.
      let a = one_text ts xs p e in
      subst (λ ys. IsAnswer gives_ (IsLibraryEdge f ys) (call f ys)) (sym a.1) (go a.0))

  over_count : (gives_ : Ty) → is_call (types.long ∷ []) gives_ ts ty ≡ true
      → ((z : ℤ) → IsAnswer gives_ (IsLibraryEdge f (v.Long z ∷ [])) (call f (v.Long z ∷ []))) → Holds
  over_count gives_ h go =
      as_call (types.long ∷ []) gives_ h
      (λ e.
      let a = one_count ts xs p e in
      subst (λ ys. IsAnswer gives_ (IsLibraryEdge f ys) (call f ys)) (sym a.1) (go a.0))

  over_text_and_count : (gives_ : Ty) → is_call (types.str ∷ types.long ∷ []) gives_ ts ty ≡ true
      → ((s : List ℕ) (z : ℤ) → IsAnswer gives_ (IsLibraryEdge f (v.Str s ∷ v.Long z ∷ [])) (call f (v.Str s ∷ v.Long z ∷ []))) → Holds
  over_text_and_count gives_ h go =
      as_call (types.str ∷ types.long ∷ []) gives_ h
      (λ e.
      let a = text_and_count ts xs p e in
      subst (λ ys. IsAnswer gives_ (IsLibraryEdge f ys) (call f ys)) (sym a.2) (go a.0 a.1))

  over_texts : (gives_ : Ty) → is_call (types.str ∷ types.str ∷ []) gives_ ts ty ≡ true
      → ((s t : List ℕ) → IsAnswer gives_ (IsLibraryEdge f (v.Str s ∷ v.Str t ∷ [])) (call f (v.Str s ∷ v.Str t ∷ []))) → Holds
  over_texts gives_ h go =
      as_call (types.str ∷ types.str ∷ []) gives_ h
      (λ e.
      let a = two_texts ts xs p e in
      subst (λ ys. IsAnswer gives_ (IsLibraryEdge f ys) (call f ys)) (sym a.2) (go a.0 a.1))

  over_text_and_counts : (gives_ : Ty) → is_call (types.str ∷ types.long ∷ types.long ∷ []) gives_ ts ty ≡ true
      → ((s : List ℕ) (z y : ℤ) → IsAnswer gives_ (IsLibraryEdge f (v.Str s ∷ v.Long z ∷ v.Long y ∷ [])) (call f (v.Str s ∷ v.Long z ∷ v.Long y ∷ [])))
      → Holds
  over_text_and_counts gives_ h go =
      as_call (types.str ∷ types.long ∷ types.long ∷ []) gives_ h
      (λ e.
      let a = text_and_counts ts xs p e in
      subst (λ ys. IsAnswer gives_ (IsLibraryEdge f ys) (call f ys)) (sym a.3) (go a.0 a.1 a.2))

  over_signed : is_signed ty && is_call (ty ∷ []) ty ts ty ≡ true
      → ((x : Value6) → is_signed ty ≡ true → Plain ty x → IsAnswer ty (IsLibraryEdge f (x ∷ [])) (call f (x ∷ []))) → Holds
  over_signed h go =
      let b = both_true (is_signed ty) (is_call (ty ∷ []) ty ts ty) h in
      as_call (ty ∷ []) ty b.1
      (λ e.
      let a = one_value ty ts xs p e in
      subst (λ ys. IsAnswer ty (IsLibraryEdge f ys) (call f ys)) (sym a.3)
      (go a.1 b.0 (subst (λ t. Plain t a.1) (same_as a.0 ty c a.5) a.4)))

  -- a conversion
  converting : (to : Ty) → covers_type to ≡ true → ((x : Value6) → call f (x ∷ []) ≡ coerce x to) → (us : List Ty) → us ≡ ts
      → is_conversion_to to us ty ≡ true → Holds
  converting to d is [] e h = absurd (no h)
  converting to d is (s ∷ t ∷ us) e h = absurd (no h)
  converting to d is (s ∷ []) e h =
      by xs (subst (λ us. ArePlain us xs) (sym e) p)
    where
      by : (ys : List Value6) → ArePlain (s ∷ []) ys → IsAnswer ty (IsLibraryEdge f ys) (call f ys)
      by [] q = absurd q
      by (x ∷ y ∷ ys) q = absurd q.1
      by (x ∷ []) q =
          let b = both_true (is_same_type to ty) (is_some (write_conversion s to)) h in
          subst (λ t. IsAnswer t (IsLibraryEdge f (x ∷ [])) (call f (x ∷ []))) (same_as to ty c b.0)
          (subst (λ a. IsAnswer to (IsLibraryEdge f (x ∷ [])) a) (sym (is x))
          (weaker to ⊥ (IsLibraryEdge f (x ∷ [])) (coerce x to) (λ n. absurd n) (conversion_answer s to x (is_covered s x q.0) d b.1 q.0)))

middle : (ty : Ty) (c : covers_type ty ≡ true) (ts : List Ty) (xs : List Value6) (p : ArePlain ts xs) (b : Bool)
    → is_call (types.str ∷ types.long ∷ []) types.str ts ty ≡ b
    → b || is_call (types.str ∷ types.long ∷ types.long ∷ []) types.str ts ty ≡ true → IsAnswer ty (IsLibraryEdge lib.Mid xs) (call lib.Mid xs)
middle ty c ts xs p true e h = over_text_and_count lib.Mid ty c ts xs p types.str e (λ s z. middle_answer _ s z)
middle ty c ts xs p false e h = over_text_and_counts lib.Mid ty c ts xs p types.str h (λ s z y. middle_of _ s z y)

pub library_answer : (f : LibCall) (ty : Ty) (c : covers_type ty ≡ true) (ts : List Ty) (xs : List Value6) (p : ArePlain ts xs) → gives_itself f ≡ true
    → is_row_of_call f ts ty ≡ true → IsAnswer ty (IsLibraryEdge f xs) (call f xs)
library_answer lib.Len ty c ts xs p g h = over_text lib.Len ty c ts xs p types.long h (λ s. long_answer _ (pos (length s)))
library_answer lib.Left ty c ts xs p g h = over_text_and_count lib.Left ty c ts xs p types.str h (λ s z. left_answer _ s z)
library_answer lib.Right ty c ts xs p g h = over_text_and_count lib.Right ty c ts xs p types.str h (λ s z. right_answer _ s z)
library_answer lib.Mid ty c ts xs p g h = middle ty c ts xs p (is_call (types.str ∷ types.long ∷ []) types.str ts ty) refl h
library_answer lib.Trim ty c ts xs p g h = over_text lib.Trim ty c ts xs p types.str h (λ s. a_text _)
library_answer lib.LTrim ty c ts xs p g h = over_text lib.LTrim ty c ts xs p types.str h (λ s. a_text _)
library_answer lib.RTrim ty c ts xs p g h = over_text lib.RTrim ty c ts xs p types.str h (λ s. a_text _)
library_answer lib.UCase ty c ts xs p g h =
    over_text lib.UCase ty c ts xs p types.str h
    (λ s. plain_answer types.str _ s (gives (v.Str (map capital s))) (λ e. a_text (map capital s)) (λ e. capital_past_127 s e))
library_answer lib.LCase ty c ts xs p g h =
    over_text lib.LCase ty c ts xs p types.str h
    (λ s. plain_answer types.str _ s (gives (v.Str (map small s))) (λ e. a_text (map small s)) (λ e. small_past_127 s e))
library_answer lib.Space ty c ts xs p g h = over_count lib.Space ty c ts xs p types.str h (λ z. spaces_answer z)
library_answer lib.Chr ty c ts xs p g h = over_count lib.Chr ty c ts xs p types.str h (λ z. character_of z)
library_answer lib.Asc ty c ts xs p g h = over_text lib.Asc ty c ts xs p types.integer h (λ s. number_of_text s)
library_answer lib.InStr ty c ts xs p g h = over_texts lib.InStr ty c ts xs p types.long h (λ s t. long_answer _ (pos (place_in 1 s t)))
library_answer lib.Abs ty c ts xs p g h = over_signed lib.Abs ty c ts xs p h (λ x i q. absolute_answer _ ty x i q)
library_answer lib.CBool ty c ts xs p g h = converting lib.CBool ty c ts xs p types.boolean refl (λ x. refl) ts refl h
library_answer lib.CByte ty c ts xs p g h = converting lib.CByte ty c ts xs p types.byte refl (λ x. refl) ts refl h
library_answer lib.CInt ty c ts xs p g h = converting lib.CInt ty c ts xs p types.integer refl (λ x. refl) ts refl h
library_answer lib.CLng ty c ts xs p g h = converting lib.CLng ty c ts xs p types.long refl (λ x. refl) ts refl h
library_answer lib.CCur ty c ts xs p g h = converting lib.CCur ty c ts xs p types.currency refl (λ x. refl) ts refl h
library_answer lib.CStr ty c ts xs p g h = converting lib.CStr ty c ts xs p types.str refl (λ x. refl) ts refl h
library_answer lib.IsEmpty ty c ts xs p g h = absurd (no g)
library_answer lib.UBound ty c ts xs p g h = absurd (no g)
library_answer lib.LBound ty c ts xs p g h = absurd (no g)
library_answer lib.MsgBox ty c ts xs p g h = absurd (no g)
library_answer lib.InputBox ty c ts xs p g h = absurd (no g)

-- ---- edges

pub library_edge_is_outside : (f : LibCall) (xs : List Value6) → IsLibraryEdge f xs → call f xs ≡ outside
library_edge_is_outside _ _ (capital_past_127 s h) = ap (λ b. cond b (gives (v.Str (map capital s))) outside) h
library_edge_is_outside _ _ (small_past_127 s h) = ap (λ b. cond b (gives (v.Str (map small s))) outside) h
library_edge_is_outside _ _ (blanks_too_long n h) = ap (λ b. cond b (gives (v.Str (replicate n 32))) outside) h
library_edge_is_outside _ _ (character_past_127 n h i) =
    ap (λ b. cond b (gives (v.Str (n ∷ []))) (cond (nat_le n 255) outside (raises 5))) h ∙ ap (λ b. cond b outside (raises 5)) i
library_edge_is_outside _ _ (number_past_127 c s h) = ap (λ b. cond (b && true) (gives (v.Int (pos c))) outside) h
