-- Where the variables that no line declares stand: procedure by procedure, at the lines of their first uses.
use Rattle.std.proofs.Common.{◌≡◌, ◌⊎◌, inl, inr, ℕ, zero, suc, ◌+◌, ◌<◌, ◌≤◌, Bool, true, false, nat_eq, List, [], ◌∷◌, ◌++◌, length, map, Some, slice_get, refl, sym, ap, subst, ◌∙◌, append_assoc, arith}
use Rattle.std.specs.Prelude.{cond, filter, ◌||◌}
use Rattle.std.specs.List.{AllByRecursion as Each, flat_map}
use Rattle.std.proofs.lemmas.Bool.Decides.{nat_tests}
use Rattle.std.proofs.lemmas.List.{map-append}
use Rattle.std.proofs.lemmas.Option.{none-some, same_Some}
use Rattle.vb_tree.specs.declared.declared.Owner.TheVariants as owner
use Rattle.vb_tree.specs.declared.declared.ProcId.{ProcId}
use Rattle.vb_tree.specs.Blocks.{is_code}
use Rattle.vb_tree.specs.FlatLines.{flat_lines}
use Rattle.vb_tree.specs.Tree.{Line}
use Rattle.bound_tree.specs.Tree.{Declarations}
use Rattle.expression_words.specs.Meanings.{Scope}
use Rattle.binder.specs.ImplicitLocals.{Home, Implicit, Placed, all_variables, implicit_at, implicit_in, is_among, is_explicit, is_missing, line_words, locals_from, locals_of, placed_from, procedure_id, with_new, written_scope}
use Rattle.vb6_run.specs.Programs.{is_local_of}
use Rattle.upgrade_laws.specs.Ordered.{StandsIn}
use Rattle.upgrade_laws.proofs.Lists.{each_append, each_from, each_joined}
use Rattle.upgrade_laws.proofs.Slots.{Slot, IsAt, Laid, ends, laid_within}
use Rattle.upgrade_laws.proofs.Tests.{first_false, less, same}
use Rattle.upgrade_laws.proofs.Tests as tests
use Rattle.upgrade_laws.proofs.Standing.{IsWithin, away_before, away_behind}
use Rattle.upgrade_laws.proofs.Stretches.{IsAway, IsOwn, Stretch, stretch_before, stretch_behind}
use Rattle.upgrade_laws.proofs.Walked.{slot}

abbrev pub slot_for : Implicit → Slot
slot_for x = slot (owner.Local x.procedure) x.place x.statement

abbrev slots_for : List Implicit → List Slot
slots_for xs = map slot_for xs

-- ---- one name once

new_append : (all xs ys : List Implicit) → with_new all (xs ++ ys) ≡ with_new (with_new all xs) ys
new_append all [] ys = refl
new_append all (x ∷ xs) ys = new_append (cond (is_among all x) all (all ++ x ∷ [])) xs ys

record New (P : Implicit → Type 0) (all result : List Implicit) : Type 0 where
  new : List Implicit
  split : result ≡ all ++ new
  each : Each P new

new_of : (P : Implicit → Type 0) (all xs : List Implicit) → Each P xs → New P all (with_new all xs)
new_of P all [] h = record { new = []; split = sym (ends all); each = tt }
new_of P all (x ∷ xs) h = by (is_among all x) (λ more. new_of P more xs h.1)
  where
    by : (b : Bool) → ((more : List Implicit) → New P more (with_new more xs)) → New P all (with_new (cond b all (all ++ x ∷ [])) xs)
    by true go = go all
    by false go =
        let rest : New P (all ++ x ∷ []) (with_new (all ++ x ∷ []) xs) = go (all ++ x ∷ []) in
        record { new = x ∷ rest.new; split = rest.split ∙ append_assoc all (x ∷ []) rest.new; each = (h.0, rest.each) }

-- ---- lines

abbrev IsUsedAt : (file n : ℕ) → ProcId → Implicit → Type 0
IsUsedAt file n q x = (x.place.file ≡ file) × (x.statement ≡ n) × (x.procedure ≡ q)

each_made : {A X : Type 0} (P : X → Type 0) (f : A → X) → ((a : A) → P (f a)) → (xs : List A) → Each P (map f xs)
each_made P f h [] = tt
each_made P f h (a ∷ xs) = (h a, each_made P f h xs)

used_at : (S : Scope) (q : ProcId) (explicit : Bool) (file n : ℕ) (l : Line) → l.place.file ≡ file
    → Each (IsUsedAt file n q) (implicit_in S q explicit (record { line = l; statement = n }))
used_at S q true file n l e = tt
used_at S q false file n l e =
    let p : Placed = record { line = l; statement = n } in
    each_made (IsUsedAt file n q) (implicit_at S.site.file q p) (λ w. (e, refl, refl)) (filter (is_missing S) (line_words l.form))

record NewLaid (file n : ℕ) (q : ProcId) (ls : List Line) (all result : List Implicit) : Type 0 where
  new : List Implicit
  split : result ≡ all ++ new
  laid : Laid file is_code n ls (slots_for new)
  owned : Each (λ (x : Implicit). x.procedure ≡ q) new

each_slots : (file n : ℕ) (xs : List Implicit) → Each (λ (x : Implicit). IsAt file n (slot_for x)) xs → Each (IsAt file n) (slots_for xs)
each_slots file n [] h = tt
each_slots file n (x ∷ xs) h = (h.0, each_slots file n xs h.1)

one : (n : ℕ) → n + 1 ≡ suc n
one n = omega arith

new_laid : (S : Scope) (q : ProcId) (explicit : Bool) (file n : ℕ) (ls : List Line) (all : List Implicit) → Each (StandsIn file) ls
    → NewLaid file n q ls all (with_new all (flat_map (implicit_in S q explicit) (placed_from n ls)))
new_laid S q explicit file n [] all e = record { new = []; split = sym (ends all); laid = refl; owned = tt }
new_laid S q explicit file n (l ∷ ls) all e = by (is_code l.form) refl (λ more. new_laid S q explicit file (n + 1) ls more e.1)
  where
    p : Placed
    p = record { line = l; statement = n }

    rest : List Placed
    rest = placed_from (n + 1) ls

    f : Placed → List Implicit
    f x = implicit_in S q explicit x

    by : (b : Bool) → is_code l.form ≡ b → ((more : List Implicit) → NewLaid file (n + 1) q ls more (with_new more (flat_map f rest)))
        → NewLaid file n q (l ∷ ls) all (with_new all (flat_map f (cond b (p ∷ rest) rest)))
    by true is go =
        let a : New (IsUsedAt file n q) all (with_new all (f p)) = new_of (IsUsedAt file n q) all (f p) (used_at S q explicit file n l e.0) in
        let b : NewLaid file (n + 1) q ls (all ++ a.new) (with_new (all ++ a.new) (flat_map f rest)) = go (all ++ a.new) in
        record {
          new = a.new ++ b.new;
          split =
              new_append all (f p) (flat_map f rest)
              ∙ ap (λ (x : List Implicit). with_new x (flat_map f rest)) a.split
              ∙ b.split
              ∙ append_assoc all a.new b.new;
          laid = (
            slots_for a.new,
            slots_for b.new,
            map-append slot_for a.new b.new,
            each_slots file n a.new (each_from (IsUsedAt file n q) (λ (x : Implicit). IsAt file n (slot_for x)) (λ x h. (h.0, h.1)) a.new a.each),
            (λ no. absurd (cc (no, is))),
            subst (λ (m : ℕ). Laid file is_code m ls (slots_for b.new)) (one n) b.laid,
          );
          owned =
              each_append (λ (x : Implicit). x.procedure ≡ q) a.new b.new
              (each_from (IsUsedAt file n q) (λ (x : Implicit). x.procedure ≡ q) (λ x h. h.2) a.new a.each) b.owned;
        }
    by false is go =
        let b : NewLaid file (n + 1) q ls all (with_new all (flat_map f rest)) = go all in
        record {
          new = b.new;
          split = b.split;
          laid = ([], slots_for b.new, refl, tt, (λ no. refl), subst (λ (m : ℕ). Laid file is_code m ls (slots_for b.new)) (one n) b.laid);
          owned = b.owned;
        }

-- ---- one procedure

-- the lines of a procedure stand in its file
abbrev pub IsFiled : Home → Type 0
IsFiled h = Each (StandsIn h.file) (flat_lines h.body)

pub record UsedIn (q : ProcId) (h : Home) (xs : List Implicit) : Type 0 where
  pub laid : Laid h.file is_code h.first (flat_lines h.body) (slots_for xs)
  pub owned : Each (λ (x : Implicit). x.procedure ≡ q) xs

used_in : (D : Declarations) (q : ProcId) (first : ℕ) (h : Home) → IsFiled h → UsedIn q h (locals_of D q first h).variables
used_in D q first h e =
    let made : NewLaid h.file h.first q (flat_lines h.body) [] (locals_of D q first h).variables =
    new_laid (written_scope D h.file q) q (is_explicit D h) h.file h.first (flat_lines h.body) [] e in
    record {
      laid = subst (λ (xs : List Implicit). Laid h.file is_code h.first (flat_lines h.body) (slots_for xs)) (sym made.split) made.laid;
      owned = subst (λ (xs : List Implicit). Each (λ (x : Implicit). x.procedure ≡ q) xs) (sym made.split) made.owned;
    }

own_slots : (q : ProcId) (xs : List Implicit) → Each (λ (x : Implicit). x.procedure ≡ q) xs → Each (IsOwn q.0) (slots_for xs)
own_slots q [] h = tt
own_slots q (x ∷ xs) h = (ap (λ (p : ProcId). nat_eq q.0 p.0 || false) h.0 ∙ ap (λ (b : Bool). b || false) (same q.0), own_slots q xs h.1)

other_slots : (p : ℕ) (q : ProcId) (xs : List Implicit) → nat_eq p q.0 ≡ false → Each (λ (x : Implicit). x.procedure ≡ q) xs
    → Each (λ (s : Slot). is_local_of p s.owner ≡ false) (slots_for xs)
other_slots p q [] ne h = tt
other_slots p q (x ∷ xs) ne h = (ap (λ (y : ProcId). nat_eq p y.0) h.0 ∙ ne, other_slots p q xs ne h.1)

-- ---- other procedures

-- where a procedure stands apart from so many statements of a file
pub data StandsApart (file n count : ℕ) (h : Home) : Type 0 where
  other_file : nat_eq h.file file ≡ false → StandsApart file n count h
  above : h.first + length (flat_lines h.body) ≤ n → StandsApart file n count h
  below : n + count ≤ h.first → StandsApart file n count h

away_of : (p file n count : ℕ) (h : Home) (s : Slot) → h.file ≡ file → (h.first + length (flat_lines h.body) ≤ n) ⊎ (n + count ≤ h.first)
    → IsWithin p h.file h.first (h.first + length (flat_lines h.body)) s → IsAway p file n count s
away_of p file n count h s e (inl a) w =
    away_before p file n count h.first (h.first + length (flat_lines h.body)) s a
    (subst (λ (f : ℕ). IsWithin p f h.first (h.first + length (flat_lines h.body)) s) e w)
away_of p file n count h s e (inr a) w =
    away_behind p file n count h.first (h.first + length (flat_lines h.body)) s a
    (subst (λ (f : ℕ). IsWithin p f h.first (h.first + length (flat_lines h.body)) s) e w)

away_elsewhere : (p file n count : ℕ) (h : Home) (s : Slot) → nat_eq h.file file ≡ false → IsWithin p h.file h.first (h.first + length (flat_lines h.body)) s
    → IsAway p file n count s
away_elsewhere p file n count h s ne w = record {
  misses = λ j l u. first_false (nat_eq s.file file) (nat_eq s.statement j) (ap (λ (f : ℕ). nat_eq f file) w.is_file ∙ ne);
  foreign = w.foreign;
}

in_file : (a b : ℕ) → (a ≡ b) ⊎ (nat_eq a b ≡ false)
in_file a b = by (nat_eq a b) refl
  where
    by : (c : Bool) → nat_eq a b ≡ c → (a ≡ b) ⊎ (nat_eq a b ≡ false)
    by true h = inl (grind (arith, nat_tests))
    by false h = inr h

away_home : (p file n count : ℕ) (h : Home) (s : Slot) → StandsApart file n count h → IsWithin p h.file h.first (h.first + length (flat_lines h.body)) s
    → IsAway p file n count s
away_home p file n count h s (other_file ne) w = away_elsewhere p file n count h s ne w
away_home p file n count h s (above a) w = by (in_file h.file file)
  where
    by : (h.file ≡ file) ⊎ (nat_eq h.file file ≡ false) → IsAway p file n count s
    by (inl e) = away_of p file n count h s e (inl a) w
    by (inr ne) = away_elsewhere p file n count h s ne w
away_home p file n count h s (below a) w = by (in_file h.file file)
  where
    by : (h.file ≡ file) ⊎ (nat_eq h.file file ≡ false) → IsAway p file n count s
    by (inl e) = away_of p file n count h s e (inr a) w
    by (inr ne) = away_elsewhere p file n count h s ne w

home_away : (D : Declarations) (p file n count : ℕ) (q : ProcId) (first : ℕ) (h : Home) → nat_eq p q.0 ≡ false → IsFiled h → StandsApart file n count h
    → Each (IsAway p file n count) (slots_for (locals_of D q first h).variables)
home_away D p file n count q first h ne e apart =
    let u : UsedIn q h (locals_of D q first h).variables = used_in D q first h e in
    let ss : List Slot = slots_for (locals_of D q first h).variables in
    let last : ℕ = h.first + length (flat_lines h.body) in
    each_joined (λ (s : Slot). (s.file ≡ h.file) × (h.first ≤ s.statement) × (s.statement < last)) (λ (s : Slot). is_local_of p s.owner ≡ false) (IsAway p file n count)
    (λ s x f. away_home p file n count h s apart (record { is_file = x.0; low_end = x.1; high_end = x.2; foreign = f })) ss
    (laid_within h.file is_code h.first (flat_lines h.body) ss u.laid) (other_slots p q (locals_of D q first h).variables ne u.owned)

-- ---- all procedures

used_slots : (D : Declarations) (q first : ℕ) (h : Home) (hs : List Home) → slots_for (all_variables (locals_from D q first (h ∷ hs)))
    ≡ slots_for (locals_of D (procedure_id q) first h).variables
    ++ slots_for (all_variables (locals_from D (q + 1) (first + length (locals_of D (procedure_id q) first h).variables) hs))
used_slots D q first h hs =
    map-append slot_for (locals_of D (procedure_id q) first h).variables
    (all_variables (locals_from D (q + 1) (first + length (locals_of D (procedure_id q) first h).variables) hs))

homes_away : (D : Declarations) (p file n count q first : ℕ) (hs : List Home) → p < q → Each IsFiled hs → Each (StandsApart file n count) hs
    → Each (IsAway p file n count) (slots_for (all_variables (locals_from D q first hs)))
homes_away D p file n count q first [] low e a = tt
homes_away D p file n count q first (h ∷ hs) low e a =
    let more : ℕ = first + length (locals_of D (procedure_id q) first h).variables in
    subst (λ (x : List Slot). Each (IsAway p file n count) x) (sym (used_slots D q first h hs))
    (each_append (IsAway p file n count) (slots_for (locals_of D (procedure_id q) first h).variables) (slots_for (all_variables (locals_from D (q + 1) more hs)))
    (home_away D p file n count (procedure_id q) first h (less p q low) e.0 a.0)
    (homes_away D p file n count (q + 1) more hs (omega (arith, low)) e.1 a.1))

-- all but the home of a number
abbrev pub OthersApart : (file n count : ℕ) → (j : ℕ) → List Home → Type 0
OthersApart file n count j [] = Unit {0}
OthersApart file n count zero (h ∷ hs) = Each (StandsApart file n count) hs
OthersApart file n count (suc j) (h ∷ hs) = StandsApart file n count h × OthersApart file n count j hs

pub homes_found : (D : Declarations) (p q first j : ℕ) (hs : List Home) (h : Home) → slice_get hs j ≡ Some h → p ≡ q + j → Each IsFiled hs
    → OthersApart h.file h.first (length (flat_lines h.body)) j hs
    → Stretch p h.file is_code h.first (flat_lines h.body) (slots_for (all_variables (locals_from D q first hs)))
homes_found D p q first j [] h got is e a = absurd (none-some h got)
homes_found D p q first zero (x ∷ hs) h got is e a =
    let ls : List Line = flat_lines h.body in
    let more : ℕ = first + length (locals_of D (procedure_id q) first x).variables in
    let it : x ≡ h = same_Some x h got in
    let u : UsedIn (procedure_id q) h (locals_of D (procedure_id q) first x).variables =
    subst (λ (y : Home). UsedIn (procedure_id q) y (locals_of D (procedure_id q) first x).variables) it (used_in D (procedure_id q) first x e.0) in
    let own : List Slot = slots_for (locals_of D (procedure_id q) first x).variables in
    let mine : Stretch p h.file is_code h.first ls own = record {
      before = [];
      mid = own;
      after = [];
      parts = sym (ends own);
      first = tt;
      last = tt;
      laid = u.laid;
      owned = subst (λ (i : ℕ). Each (IsOwn i) own) (start q p is) (own_slots (procedure_id q) (locals_of D (procedure_id q) first x).variables u.owned);
    } in
    subst (λ (y : List Slot). Stretch p h.file is_code h.first ls y) (sym (used_slots D q first x hs))
    (stretch_before p h.file is_code h.first ls own (slots_for (all_variables (locals_from D (q + 1) more hs))) mine
    (homes_away D p h.file h.first (length ls) (q + 1) more hs (omega (arith, is)) e.1 a))
  where
    start : (q p : ℕ) → p ≡ q + 0 → q ≡ p
    start q p h = omega (arith, h)
homes_found D p q first (suc j) (x ∷ hs) h got is e a =
    let ls : List Line = flat_lines h.body in
    let more : ℕ = first + length (locals_of D (procedure_id q) first x).variables in
    subst (λ (y : List Slot). Stretch p h.file is_code h.first ls y) (sym (used_slots D q first x hs))
    (stretch_behind p h.file is_code h.first ls (slots_for (locals_of D (procedure_id q) first x).variables) (slots_for (all_variables (locals_from D (q + 1) more hs)))
    (home_away D p h.file h.first (length ls) (procedure_id q) first x (bigger p q j is) e.0 a.0)
    (homes_found D p (q + 1) more j hs h got (omega (arith, is)) e.1 a.1))
  where
    bigger : (p q j : ℕ) → p ≡ q + suc j → nat_eq p q ≡ false
    bigger p q j h = tests.more p q (omega (arith, h))
