-- The flags of clean procedures.
use Rattle.std.proofs.Common.{◌≡◌, ℕ, ◌*◌, ◌<◌, suc, zero, Bool, true, false, List, [], ◌∷◌, ◌++◌, map, length, refl, ap, sym, subst, ◌∙◌, arith, inl, inr, ⊎_elim}
use Rattle.std.specs.Prelude.{◌⊎◌, ◌↔◌, IsTrue, not}
use Rattle.std.proofs.lemmas.List.{length-append}
use Rattle.reach_table.specs.Chains.{is_marked}
use Rattle.bound_tree.specs.declared.marks.Marks.{Marks}
use Rattle.bound_tree.specs.Tree.{Program}
use Rattle.bound_facts.specs.Clean.{point_broken}
use Rattle.clean_procedures.specs.Broken.{broken_points}
use Rattle.clean_procedures.specs.Numbers.{number}
use Rattle.clean_procedures.specs.Pairs.{all_pairs}
use Rattle.clean_procedures.specs.Reaching.{LeadTo}
use Rattle.clean_procedures.specs.Verdicts.{AreClean, IsCleanByAll, clean_to}
use Rattle.clean_procedures.proofs.Among.{Among, among, contains}
use Rattle.clean_procedures.proofs.Paths.{dirty_leads, leads_dirty}

count_is : (dirty : List Bool) (n : ℕ) → length (clean_to dirty n) ≡ n
count_is dirty zero = refl
count_is dirty (suc n) = length-append (clean_to dirty n) (not (is_marked dirty (5 * n)) ∷ []) ∙ (let e = count_is dirty n in omega (arith, e))

at_end : (xs : List Bool) (x : Bool) (n : ℕ) → length xs ≡ n → is_marked (xs ++ x ∷ []) n ≡ x
at_end [] x n e = rw (sym e) refl
at_end (y ∷ xs) x zero e = absurd (omega (arith, e))
at_end (y ∷ xs) x (suc n) e = at_end xs x n (omega (arith, e))

before_end : (xs : List Bool) (x : Bool) (p : ℕ) → p < length xs → is_marked (xs ++ x ∷ []) p ≡ is_marked xs p
before_end [] x p h = absurd (omega (arith, h))
before_end (y ∷ xs) x zero h = refl
before_end (y ∷ xs) x (suc p) h = before_end xs x p (omega (arith, h))

less_or_same : (p n : ℕ) → p < suc n → (p < n) ⊎ (p ≡ n)
less_or_same zero zero h = inr refl
less_or_same zero (suc n) h = inl (omega arith)
less_or_same (suc p) zero h = absurd (omega (arith, h))
less_or_same (suc p) (suc n) h = ⊎_elim (λ l. inl (omega (arith, l))) (λ e. inr (ap suc e)) (less_or_same p n (omega (arith, h)))

flag_is : (dirty : List Bool) (n p : ℕ) → p < n → is_marked (clean_to dirty n) p ≡ not (is_marked dirty (5 * p))
flag_is dirty zero p h = absurd (omega (arith, h))
flag_is dirty (suc n) p h =
    let x = not (is_marked dirty (5 * n)) in
    ⊎_elim
    (λ l. before_end (clean_to dirty n) x p (let e = count_is dirty n in omega (arith, e, l)) ∙ flag_is dirty n p l)
    (λ e. subst (λ q. is_marked (clean_to dirty (suc n)) q ≡ not (is_marked dirty (5 * q))) (sym e) (at_end (clean_to dirty n) x n (count_is dirty n))) (less_or_same p n h)

-- ---- one procedure

true_false : (b : Bool) → b ≡ true → b ≡ false → ⊥
true_false b e f = absurd (cc (e, f))

not_is_true : (b : Bool) → not b ≡ true → b ≡ false
not_is_true true h = absurd (cc h)
not_is_true false h = refl

is_false : (b : Bool) → (b ≡ true → ⊥) → b ≡ false
is_false true h = absurd (h refl)
is_false false h = refl

not_dirty : (b : Bool) → (b ≡ true → ⊥) → not b ≡ true
not_dirty true h = absurd (h refl)
not_dirty false h = refl

clean_is : (P : Program) (ms : List Marks) (m : Marks) (p : ℕ) (d : Bool) → Among ms m
    → IsTrue d ↔ LeadTo (all_pairs P) (map number (broken_points P.declarations ms)) (5 * p) → (not d ≡ true) ↔ IsCleanByAll P ms p
clean_is P ms m p d a h = (
  (λ clean n there q path. is_false (point_broken P.declarations n q)
      (λ broken. true_false d (h.1 (dirty_leads P ms p (n, q, among ms n there, path, broken))) (not_is_true d clean))),
  (λ clean. not_dirty d (λ t. let dirty = leads_dirty P ms m p a (h.0 t) in
      true_false (point_broken P.declarations dirty.0 dirty.1) dirty.4 (clean dirty.0 (contains ms dirty.0 dirty.2) dirty.1 dirty.3))),
)

pub are_clean : (P : Program) (ms : List Marks) (m : Marks) (dirty flags : List Bool) → Among ms m
    → ((n : ℕ) → IsTrue (is_marked dirty n) ↔ LeadTo (all_pairs P) (map number (broken_points P.declarations ms)) n) → flags ≡ clean_to dirty (length P.declarations.procs) → AreClean P ms flags
are_clean P ms m dirty flags a h is =
    let size : length flags ≡ length P.declarations.procs = ap length is ∙ count_is dirty (length P.declarations.procs) in
    record {
      count = size;
      tell = λ p less.
          let flag = ap (λ (xs : List Bool). is_marked xs p) is ∙ flag_is dirty (length P.declarations.procs) p (subst (λ n. p < n) size less) in
          let one = clean_is P ms m p (is_marked dirty (5 * p)) a (h (5 * p)) in
          ((λ e. one.0 (sym flag ∙ e)), (λ c. flag ∙ one.1 c));
    }

-- one of those that are shown
pub some_shown : {X Y : Type 0} (f : X → Y) (xs : List X) → 0 < length xs → (y : Y) × Among (map f xs) y
some_shown f [] h = absurd (omega (arith, h))
some_shown f (x ∷ xs) h = (f x, inl refl)
