-- The facts on arrays by the lists that an analysis made of them.
use Rattle.std.proofs.Common.{◌≡◌, ℕ, zero, suc, ◌+◌, ◌<◌, Bool, true, false, cond, List, [], ◌∷◌, ◌++◌, map, length, min, refl, ap, sym, subst, ◌∙◌, arith, nat_eq, nat_lt, Some, None}
use Rattle.std.specs.Prelude.{◌||◌, ◌↔◌, IsTrue, ℤ, pos, Option, slice_get}
use Rattle.std.specs.List.{Contains, list_any}
use Rattle.std.proofs.lemmas.Bool.{eq-eqb, ltb-true}
use Rattle.std.proofs.lemmas.List.Elements.{All-contains}
use Rattle.std.proofs.lemmas.List.Folds.{list_any-append}
use Rattle.std.proofs.lemmas.List.Sums.{AllPass-from_list_all}
use Rattle.reach_table.specs.Chains.{is_marked}
use Rattle.vb_tree.specs.declared.declared.VarId.{VarId}
use Rattle.bound_tree.specs.Tree.{Variable, Program}
use Rattle.bound_facts.specs.Bounds.{LowIs, RankIs, least_rank, no_rank}
use Rattle.bound_facts.specs.Node.{is_array_type}
use Rattle.array_bounds.specs.Found.{AreLows, AreRanks, SecondLowIs, arrays_from, one_dimension, two_dimensions}
use Rattle.array_bounds.specs.Types as found
use Rattle.written_trees.specs.Facts.{AreFacts, is_array_variable, is_made_type}
use Rattle.written_rows.specs.declared.facts.ArrayShape.{ArrayShape}
use Rattle.written_rows.specs.declared.facts.WrittenFacts.{WrittenFacts}
use Rattle.written_rows.specs.View.{facts_of, shape_low, shape_rank}
use Rattle.written_facts.specs.Shapes.{are_exact, by_entries, is_exact, low_variable, no_shape, rank_variable, shape_at, shape_of, with_low, with_rank}
use Rattle.written_facts.proofs.Entries.{kept, last_entry}
use Rattle.written_facts.proofs.Holders.{same_holders, same_made}

abbrev LowEntry : Type 0
LowEntry = VarId × ℤ × ℤ

abbrev RankEntry : Type 0
RankEntry = VarId × ℕ

-- ---- arrays are listed

abbrev is_of : ℕ → VarId → Bool
is_of a id = nat_eq id.0 a

or_true : (b : Bool) → (b || true) ≡ true
or_true true = refl
or_true false = refl

listed_from : (k : ℕ) (vs : List Variable) (a : ℕ) → is_array_variable (slice_get vs a) ≡ true → list_any (is_of (k + a)) (arrays_from k vs) ≡ true
listed_from k [] a h = absurd (cc h)
listed_from k (v ∷ vs) zero h =
    ap (λ b. list_any (is_of (k + 0)) (cond b (record { 0 = k } ∷ []) [] ++ arrays_from (suc k) vs)) h
    ∙ ap (λ b. b || list_any (is_of (k + 0)) (arrays_from (suc k) vs)) (eq-eqb k (k + 0) (omega arith))
listed_from k (v ∷ vs) (suc a) h =
    let more = listed_from (suc k) vs a h in
    list_any-append (is_of (k + suc a)) (cond (is_array_type v.ty) (record { 0 = k } ∷ []) []) (arrays_from (suc k) vs)
    ∙ ap (λ b. list_any (is_of (k + suc a)) (cond (is_array_type v.ty) (record { 0 = k } ∷ []) []) || b)
    (ap (λ n. list_any (is_of n) (arrays_from (suc k) vs)) (let e : k + suc a ≡ suc k + a = omega arith in e) ∙ more)
    ∙ or_true (list_any (is_of (k + suc a)) (cond (is_array_type v.ty) (record { 0 = k } ∷ []) []))

any_id : {X : Type 0} (id : X → VarId) (a : ℕ) → (xs : List X) → list_any (λ x. nat_eq (id x).0 a) xs ≡ list_any (is_of a) (map id xs)
any_id id a [] = refl
any_id id a (x ∷ xs) = ap (λ b. nat_eq (id x).0 a || b) (any_id id a xs)

from_zero : (a : ℕ) (ids : List VarId) → list_any (is_of (0 + a)) ids ≡ list_any (is_of a) ids
from_zero a ids = ap (λ n. list_any (is_of n) ids) (let e : 0 + a ≡ a = omega arith in e)

-- ---- ranks

one_rank : {P : Program} {a r s : ℕ} → RankIs P a r → RankIs P a s → r ≡ s
one_rank (least_rank r own least) (least_rank s more small) = let up = least s more in let down = small r own in omega arith
one_rank (least_rank r own least) (no_rank never) = absurd (never r own)
one_rank (no_rank never) (least_rank s more small) = absurd (never s more)
one_rank (no_rank never) (no_rank too) = refl

below_kept : (n r : ℕ) → n < 255 → n ≡ min r 255 → r ≡ n
below_kept n r low is = omega arith

module _ (P : Program) (lows : List LowEntry) (ranks : List RankEntry) (lows_are : AreLows P lows) (ranks_are : AreRanks P ranks) (exact : (x : RankEntry) → Contains ranks x → x.1 < 255) (a : ℕ)
    (is_array : is_array_variable (slice_get P.declarations.vars a) ≡ true) where
  low_listed : list_any (λ (x : LowEntry). nat_eq (low_variable x) a) lows ≡ true
  low_listed =
      any_id (λ (x : LowEntry). x.0) a lows ∙ ap (λ (ids : List VarId). list_any (is_of a) ids) lows_are.arrays_are
      ∙ sym (from_zero a (arrays_from 0 P.declarations.vars)) ∙ listed_from 0 P.declarations.vars a is_array

  rank_listed : list_any (λ (x : RankEntry). nat_eq (rank_variable x) a) ranks ≡ true
  rank_listed =
      any_id (λ (x : RankEntry). x.0) a ranks ∙ ap (λ (ids : List VarId). list_any (is_of a) ids) ranks_are.arrays_are
      ∙ sym (from_zero a (arrays_from 0 P.declarations.vars)) ∙ listed_from 0 P.declarations.vars a is_array

  abbrev low_shape : ArrayShape
  low_shape = by_entries low_variable with_low a lows no_shape

  pub rank_right : RankIs P a (shape_of lows ranks a).rank
  rank_right =
      let last = last_entry rank_variable with_rank a ranks low_shape rank_listed in
      let x = last.0 in
      let rank = ranks_are.rank_is x last.2 in
      let is : rank.0 ≡ x.1 = below_kept x.1 rank.0 (exact x last.2) rank.2 in
      subst (λ r. RankIs P a r) (is ∙ sym (ap (λ (s : ArrayShape). s.rank) last.4)) (subst (λ v. RankIs P v rank.0) last.3 rank.1)

  pub low_right : LowIs P 0 a (shape_of lows ranks a).low
  low_right =
      let last = last_entry low_variable with_low a lows no_shape low_listed in
      let x = last.0 in
      let is : (shape_of lows ranks a).low ≡ x.1 =
      kept rank_variable with_rank a (λ (s : ArrayShape). s.low) (λ y s. refl) ranks low_shape ∙ ap (λ (s : ArrayShape). s.low) last.4 in
      subst (λ z. LowIs P 0 a z) (sym is) (subst (λ v. LowIs P 0 v x.1) last.3 (lows_are.first_is x last.2))

  second_of : (z : ℤ) → SecondLowIs P a z → (r : ℕ) → RankIs P a r → 1 < r → LowIs P 1 a z
  second_of _ (one_dimension one) r rank over = let same : 1 ≡ r = one_rank one rank in absurd (omega arith)
  second_of _ (two_dimensions s has differs z low) r rank over = low

  pub second_right : 1 < (shape_of lows ranks a).rank → LowIs P 1 a (shape_of lows ranks a).second
  second_right over =
      let last = last_entry low_variable with_low a lows no_shape low_listed in
      let x = last.0 in
      let is : (shape_of lows ranks a).second ≡ x.2 =
      kept rank_variable with_rank a (λ (s : ArrayShape). s.second) (λ y s. refl) ranks low_shape ∙ ap (λ (s : ArrayShape). s.second) last.4 in
      subst (λ z. LowIs P 1 a z) (sym is)
      (second_of x.2 (subst (λ v. SecondLowIs P v x.2) last.3 (lows_are.second_is x last.2)) (shape_of lows ranks a).rank rank_right over)

-- ---- the facts

exact_each : (ranks : List RankEntry) → are_exact ranks ≡ true → (x : RankEntry) → Contains ranks x → x.1 < 255
exact_each ranks h x among = ltb-true x.1 255 (All-contains (λ (y : RankEntry). is_exact y ≡ true) ranks x (AllPass-from_list_all is_exact ranks h) among)

in_range : (vs : List Variable) (a : ℕ) → is_array_variable (slice_get vs a) ≡ true → a < length vs
in_range [] a h = absurd (cc h)
in_range (v ∷ vs) zero h = omega arith
in_range (v ∷ vs) (suc a) h = let more = in_range vs a h in omega arith

rank_shown : (shapes : List ArrayShape) (v : ℕ) → shape_rank (slice_get shapes v) ≡ (shape_at shapes v).rank
rank_shown [] v = refl
rank_shown (s ∷ ss) zero = refl
rank_shown (s ∷ ss) (suc v) = rank_shown ss v

low_shown : (shapes : List ArrayShape) (v : ℕ) → shape_low (slice_get shapes v) 0 ≡ (shape_at shapes v).low
low_shown [] v = refl
low_shown (s ∷ ss) zero = refl
low_shown (s ∷ ss) (suc v) = low_shown ss v

second_shown : (shapes : List ArrayShape) (v : ℕ) → shape_low (slice_get shapes v) 1 ≡ (shape_at shapes v).second
second_shown [] v = refl
second_shown (s ∷ ss) zero = refl
second_shown (s ∷ ss) (suc v) = second_shown ss v

further_low : (o : Option ArrayShape) (d : ℕ) → shape_low o (suc (suc d)) ≡ pos 0
further_low None d = refl
further_low (Some s) d = refl

pub facts_are : (P : Program) (f : WrittenFacts) (lows : List LowEntry) (ranks : List RankEntry) → AreLows P lows → AreRanks P ranks → are_exact ranks ≡ true
    → ((v : ℕ) → v < length P.declarations.vars → shape_at f.shapes v ≡ shape_of lows ranks v)
    → ((t : ℕ) → IsTrue (is_marked f.holds_array t) ↔ found.Holds P.declarations is_array_type t)
    → ((t : ℕ) → IsTrue (is_marked f.is_made t) ↔ found.Holds P.declarations found.is_made t)
    → AreFacts P (facts_of f)
facts_are P f lows ranks lows_are ranks_are exact shapes arrays made = record {
  ranks = ranks_of;
  lows = lows_of;
  further_lows = λ a d. further_low (slice_get f.shapes a) d;
  arrays = λ t. same_holders P.declarations is_array_type is_array_type (λ ty. refl) (is_marked f.holds_array t) t (arrays t);
  made = λ t. same_holders P.declarations found.is_made is_made_type same_made (is_marked f.is_made t) t (made t);
}
  where
    right : (a : ℕ) → is_array_variable (slice_get P.declarations.vars a) ≡ true → shape_at f.shapes a ≡ shape_of lows ranks a
    right a h = shapes a (in_range P.declarations.vars a h)

    rank_is : (a : ℕ) → is_array_variable (slice_get P.declarations.vars a) ≡ true → shape_rank (slice_get f.shapes a) ≡ (shape_of lows ranks a).rank
    rank_is a h = rank_shown f.shapes a ∙ ap (λ (s : ArrayShape). s.rank) (right a h)

    ranks_of : (a : ℕ) → is_array_variable (slice_get P.declarations.vars a) ≡ true → RankIs P a (shape_rank (slice_get f.shapes a))
    ranks_of a h = subst (λ r. RankIs P a r) (sym (rank_is a h)) (rank_right P lows ranks lows_are ranks_are (exact_each ranks exact) a h)

    lows_of : (a d : ℕ) → is_array_variable (slice_get P.declarations.vars a) ≡ true → nat_lt d 2 ≡ true → nat_lt d (shape_rank (slice_get f.shapes a)) ≡ true → LowIs P d a (shape_low (slice_get f.shapes a) d)
    lows_of a zero h two below =
        subst (λ z. LowIs P 0 a z) (sym (low_shown f.shapes a ∙ ap (λ (s : ArrayShape). s.low) (right a h)))
        (low_right P lows ranks lows_are ranks_are (exact_each ranks exact) a h)
    lows_of a (suc zero) h two below =
        let over : 1 < (shape_of lows ranks a).rank = omega (arith, ltb-true 1 (shape_rank (slice_get f.shapes a)) below, rank_is a h) in
        subst (λ z. LowIs P 1 a z) (sym (second_shown f.shapes a ∙ ap (λ (s : ArrayShape). s.second) (right a h)))
        (second_right P lows ranks lows_are ranks_are (exact_each ranks exact) a h over)
    lows_of a (suc (suc d)) h two below = absurd (omega (arith, ltb-true (suc (suc d)) 2 two))
