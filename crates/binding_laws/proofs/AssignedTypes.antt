-- The value of an assignment has the type that its target takes, where both have one.
use Rattle.std.proofs.Common.{◌≡◌, ℕ, Bool, true, false, cond, ◌||◌, refl, sym, nat_eq, true≢false}
use Rattle.vb_tree.specs.BoundTree.{Ty, boolean, byte, integer, long, currency, str, fixed, user, class, object, variant, array, nothing, unknown}
use Rattle.bound_tree.specs.Tree.{Declarations, Expr, typed, convert}
use Rattle.bound_facts.specs.Locks as locks
use Rattle.bound_facts.specs.Node.{type_at}
use Rattle.typing_rows.specs.declared.conversions.Conversion.{Conversion}
use Rattle.typing_rows.specs.declared.conversions.Conversion.TheVariants.{Stands, To, Breaks}
use Rattle.typing_rows.specs.declared.conversions.Conversion.TheVariants as conversions
use Rattle.typing_rows.specs.declared.simple_types.SimpleType.{SimpleType}
use Rattle.typing_rows.specs.declared.simple_types.SimpleType.TheVariants as simple
use Rattle.typing_rows.specs.Conversions.{counted, valued, to_number, to_value, is_array, to_object, to_class, to_user, to_array, to_nothing, is_same_type, is_user, is_nothing, is_without_type, converts, taken_type, assigned}
use Rattle.typing_rows.specs.Types.{is_type, ty_of, operand_of}
use Rattle.expression_words.specs.Flaws as flaws
use Rattle.expression_words.specs.Flaws.{Typed, known, breaks, on_known}
use Rattle.expression_words.specs.Converting.{gives_none, fails, converted, plain, finally, by_conversion, wanted}
use Rattle.typing_laws.specs.Typed.{is_unknown, takes}
use Rattle.binding_laws.proofs.TypedParts.{same_self}

-- ---- a value of a type where one is wanted

abbrev pub Fits : (wanted_type value : Ty) → Type 0
Fits t s = locks.is_same_type t s || (is_unknown t || is_unknown s) ≡ true

first_fits : (a b : Bool) → a ≡ true → a || b ≡ true
first_fits true b h = refl
first_fits false b h = absurd (true≢false (sym h))

last_fits : (a b : Bool) → a || (b || true) ≡ true
last_fits true b = refl
last_fits false true = refl
last_fits false false = refl

middle_fits : (a b : Bool) → a || (true || b) ≡ true
middle_fits true b = refl
middle_fits false b = refl

same_fits : (t s : Ty) → locks.is_same_type t s ≡ true → Fits t s
same_fits t s h = first_fits (locks.is_same_type t s) (is_unknown t || is_unknown s) h

-- what a conversion makes of a value of a type fits
abbrev pub Makes : (wanted_type value : Ty) → Conversion → Type 0
Makes t s Stands = Fits t s
Makes t s (To u) = Fits t (ty_of u)
Makes t s conversions.ByDefault = Unit {0}
Makes t s (Breaks rule) = Unit {0}

either_makes : (t s : Ty) (b : Bool) (c d : Conversion) → (b ≡ true → Makes t s c) → Makes t s d → Makes t s (cond b c d)
either_makes t s true c d h k = h refl
either_makes t s false c d h k = k

-- ---- types that are tested

type_same : (u : SimpleType) (s : Ty) → is_type u s ≡ true → locks.is_same_type (ty_of u) s ≡ true
type_same simple.Boolean boolean h = refl
type_same simple.Byte byte h = refl
type_same simple.Integer integer h = refl
type_same simple.Long long h = refl
type_same simple.Currency currency h = refl
type_same simple.Str str h = refl
type_same (simple.Fixed m) (fixed n) h = h
type_same (simple.Class k) (class l) h = h
type_same simple.Object object h = refl
type_same simple.Variant variant h = refl
type_same _ _ h = cc

equal_types : (t s : Ty) → is_same_type t s ≡ true → locks.is_same_type t s ≡ true
equal_types boolean s h = type_same simple.Boolean s h
equal_types byte s h = type_same simple.Byte s h
equal_types integer s h = type_same simple.Integer s h
equal_types long s h = type_same simple.Long s h
equal_types currency s h = type_same simple.Currency s h
equal_types str s h = type_same simple.Str s h
equal_types (fixed units) s h = type_same (simple.Fixed units) s h
equal_types (user k) s h = user_same k s h
  where
    user_same : (k : ℕ) (s : Ty) → is_user k s ≡ true → locks.is_same_type (user k) s ≡ true
    user_same k (user l) h = h
    user_same k _ h = absurd (true≢false (sym h))
equal_types (class k) s h = type_same (simple.Class k) s h
equal_types object s h = type_same simple.Object s h
equal_types variant s h = type_same simple.Variant s h
equal_types (array e rank) (array f other) h = equal_types e f h
equal_types (array e rank) _ h = absurd (true≢false (sym h))
equal_types nothing s h = nothing_same s h
  where
    nothing_same : (s : Ty) → is_nothing s ≡ true → locks.is_same_type nothing s ≡ true
    nothing_same nothing h = refl
    nothing_same _ h = absurd (true≢false (sym h))
equal_types unknown s h = unknown_same s h
  where
    unknown_same : (s : Ty) → is_without_type s ≡ true → locks.is_same_type unknown s ≡ true
    unknown_same unknown h = refl
    unknown_same _ h = absurd (true≢false (sym h))

-- ---- all conversions

simple_self : (u : SimpleType) → Fits (ty_of u) (ty_of u)
simple_self u = same_fits (ty_of u) (ty_of u) (same_self (ty_of u))

counted_makes : (u : SimpleType) (s : Ty) → Makes (ty_of u) s (counted u (operand_of s))
counted_makes u boolean = simple_self u
counted_makes u byte = simple_self u
counted_makes u integer = simple_self u
counted_makes u long = simple_self u
counted_makes u currency = simple_self u
counted_makes u str = tt
counted_makes u (fixed units) = tt
counted_makes u (user k) = tt
counted_makes u (class k) = tt
counted_makes u object = tt
counted_makes u variant = simple_self u
counted_makes u (array e rank) = tt
counted_makes u nothing = tt
counted_makes u unknown = last_fits (locks.is_same_type (ty_of u) unknown) (is_unknown (ty_of u))

valued_makes : (u : SimpleType) (s : Ty) → Makes (ty_of u) s (valued u (operand_of s))
valued_makes u boolean = simple_self u
valued_makes u byte = simple_self u
valued_makes u integer = simple_self u
valued_makes u long = simple_self u
valued_makes u currency = simple_self u
valued_makes u str = simple_self u
valued_makes u (fixed units) = simple_self u
valued_makes u (user k) = tt
valued_makes u (class k) = tt
valued_makes u object = tt
valued_makes u variant = simple_self u
valued_makes u (array e rank) = tt
valued_makes u nothing = tt
valued_makes u unknown = last_fits (locks.is_same_type (ty_of u) unknown) (is_unknown (ty_of u))

type_makes : (u : SimpleType) (s : Ty) → is_type u s ≡ true → Makes (ty_of u) s Stands
type_makes u s h = same_fits (ty_of u) s (type_same u s h)

number_makes : (u : SimpleType) (s : Ty) → Makes (ty_of u) s (to_number u s)
number_makes u s = either_makes (ty_of u) s (is_type u s) Stands (counted u (operand_of s)) (type_makes u s) (counted_makes u s)

value_makes : (u : SimpleType) (s : Ty) → Makes (ty_of u) s (to_value u s)
value_makes u s = either_makes (ty_of u) s (is_type u s) Stands (valued u (operand_of s)) (type_makes u s) (valued_makes u s)

object_makes : (s : Ty) → Makes object s (to_object s)
object_makes object = refl
object_makes (class k) = refl
object_makes nothing = refl
object_makes unknown = refl
object_makes _ = tt

class_makes : (k : ℕ) (s : Ty) → Makes (class k) s (to_class k s)
class_makes k (class l) = either_makes (class k) (class l) (nat_eq k l) Stands (Breaks 21) (λ h. same_fits (class k) (class l) h) tt
class_makes k nothing = simple_self (simple.Class k)
class_makes k unknown = refl
class_makes k _ = tt

user_makes : (k : ℕ) (s : Ty) → Makes (user k) s (to_user k s)
user_makes k (user l) = either_makes (user k) (user l) (nat_eq k l) Stands (Breaks 21) (λ h. same_fits (user k) (user l) h) tt
user_makes k (class l) = tt
user_makes k object = tt
user_makes k unknown = refl
user_makes k _ = tt

array_makes : (e : Ty) (rank : ℕ) (s : Ty) → Makes (array e rank) s (to_array e s)
array_makes e rank (array f other) =
    either_makes (array e rank) (array f other) (is_same_type e f) Stands (Breaks 21) (λ h. same_fits (array e rank) (array f other) (equal_types e f h)) tt
array_makes e rank unknown = refl
array_makes e rank _ = tt

nothing_makes : (s : Ty) → Makes nothing s (to_nothing s)
nothing_makes nothing = refl
nothing_makes unknown = refl
nothing_makes _ = tt

pub converts_makes : (s t : Ty) → Makes t s (converts s t)
converts_makes s boolean = number_makes simple.Boolean s
converts_makes s byte = number_makes simple.Byte s
converts_makes s integer = number_makes simple.Integer s
converts_makes s long = number_makes simple.Long s
converts_makes s currency = number_makes simple.Currency s
converts_makes s str = value_makes simple.Str s
converts_makes s (fixed units) = value_makes (simple.Fixed units) s
converts_makes s (user k) = user_makes k s
converts_makes s (class k) = class_makes k s
converts_makes s object = object_makes s
converts_makes s variant = either_makes variant s (is_array s) (Breaks 5) (to_value simple.Variant s) (λ h. tt) (value_makes simple.Variant s)
converts_makes s (array e rank) = array_makes e rank s
converts_makes s nothing = nothing_makes s
converts_makes s unknown = middle_fits (locks.is_same_type unknown s) (is_unknown s)

-- ---- values

abbrev pub IsTaken : (target : Ty) → Typed → Type 0
IsTaken t (known e) = takes t (type_at e) ≡ true
IsTaken t (flaws.unknown f) = Unit {0}

taken_is : (t s : Ty) → Fits (taken_type t) s → takes t s ≡ true
taken_is (fixed units) s h = h
taken_is boolean s h = h
taken_is byte s h = h
taken_is integer s h = h
taken_is long s h = h
taken_is currency s h = h
taken_is str s h = h
taken_is (user k) s h = h
taken_is (class k) s h = h
taken_is object s h = h
taken_is variant s h = h
taken_is (array e rank) s h = h
taken_is nothing s h = h
taken_is unknown s h = h

module _ (t : Ty) where
  either_taken : (b : Bool) (x y : Typed) → IsTaken t x → IsTaken t y → IsTaken t (cond b x y)
  either_taken true x y h k = h
  either_taken false x y h k = k

  over_taken : (next : Expr → Typed) (x : Typed) → ((e : Expr) → IsTaken t (next e)) → IsTaken t (on_known next x)
  over_taken next (known e) h = h e
  over_taken next (flaws.unknown f) h = tt

  converted_taken : (to : Ty) (e : Expr) → takes t to ≡ true → IsTaken t (converted to e)
  converted_taken to e h =
      either_taken (gives_none e) (flaws.unknown (breaks 21)) (cond (fails to e) (flaws.unknown (breaks 25)) (known (typed to (convert to e)))) tt
      (either_taken (fails to e) (flaws.unknown (breaks 25)) (known (typed to (convert to e))) tt h)

  finally_taken : (e : Expr) (c : Conversion) → Makes (taken_type t) (type_at e) c → IsTaken t (finally e c)
  finally_taken e Stands h = taken_is t (type_at e) h
  finally_taken e (To u) h = converted_taken (ty_of u) e (taken_is t (ty_of u) h)
  finally_taken e conversions.ByDefault h = tt
  finally_taken e (Breaks rule) h = tt

  -- the value of an assignment
  pub assigned_taken : (D : Declarations) (x : Typed) → IsTaken t (on_known (wanted D (λ (s : Ty). assigned s t)) x)
  assigned_taken D x = over_taken (wanted D (λ (s : Ty). assigned s t)) x (λ e. by e (assigned (type_at e) t) (converts_makes (type_at e) (taken_type t)))
    where
      by : (e : Expr) (c : Conversion) → Makes (taken_type t) (type_at e) c → IsTaken t (by_conversion D (λ (s : Ty). assigned s t) e c)
      by e Stands h = taken_is t (type_at e) h
      by e (To u) h = converted_taken (ty_of u) e (taken_is t (ty_of u) h)
      by e conversions.ByDefault h =
          over_taken (λ (y : Expr). finally y (assigned (type_at y) t)) (plain D e)
          (λ y. finally_taken y (assigned (type_at y) t) (converts_makes (type_at y) (taken_type t)))
      by e (Breaks rule) h = tt
