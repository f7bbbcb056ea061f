-- Where the first of several rows with a name stands, and the table that knows it. A row is a name in a home, which has a number.
use Rattle.std.specs.Prelude.{ℕ, Bool, false, ◌==◌, ◌&&◌, nat_eq, is_some, List, Vec, Option, Some, None}
use Rattle.std.specs.Cmp.Lexicographic.{pointwise}
use Rattle.std.proofs.Common.{Global}
use Rattle.up_base.specs.Names.{lower_case}
use Rattle.indexmap.specs.IndexMap.{IndexMap, get, get_by}
use Rattle.name_places.specs.declared.places.NamePlaces.{NamePlaces}
use Rattle.name_places.specs.declared.places.Row.{Row}

-- whether a name is the one of a key, which is in small letters
abbrev pub has_key : List ℕ → List ℕ → Bool
has_key key name = pointwise nat_eq (lower_case name) key

-- the first of two answers that there is
abbrev pub first_of : {X : Type 0} → Option X → Option X → Option X
first_of (Some x) y = Some x
first_of None y = y

-- a name, and the number of its home, where it has one
pub record Keyed : Type 0 where
  pub home : Option ℕ
  pub name : List ℕ

abbrev pub keyed : Row → Keyed
keyed r = record { home = r.home; name = r.name.now }

abbrev pub is_home : ℕ → Option ℕ → Bool
is_home h None = false
is_home h (Some x) = x == h

-- whether a row has a name in a home
abbrev pub is_at : ℕ → List ℕ → Keyed → Bool
is_at h key k = is_home h k.home && has_key key k.name

-- whether a row has a name, in any home
abbrev pub is_housed : List ℕ → Keyed → Bool
is_housed key k = is_some k.home && has_key key k.name

-- what a map whose keys are bytes has for a list
abbrev pub noted : {X S : Type 0} → IndexMap (Vec ℕ Global) X S → List ℕ → Option X
noted m key = get_by (λ (k : Vec ℕ Global). pointwise nat_eq key k.items) m

abbrev pub is_same_pair : ℕ × ℕ → ℕ × ℕ → Bool
is_same_pair x y = (x.0 == y.0) && (x.1 == y.1)

abbrev pub place_of_word : {S : Type 0} → IndexMap (ℕ × ℕ) ℕ S → ℕ → Option ℕ → Option ℕ
place_of_word m h None = None
place_of_word m h (Some w) = get is_same_pair m (h, w)

-- the place that a table has for a name in a home
abbrev pub placed : NamePlaces → ℕ → List ℕ → Option ℕ
placed t h key = place_of_word t.places h (noted t.words key)

-- whether a row has a home and a word, each by its number
abbrev pub has_word : {S : Type 0} → IndexMap (Vec ℕ Global) ℕ S → ℕ → ℕ → Keyed → Bool
has_word words h w k = is_home h k.home && is_home w (noted words (lower_case k.name))
