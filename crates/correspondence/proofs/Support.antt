-- The support module has the functions that are used.
use Rattle.std.proofs.Common.{◌≡◌, ℕ, zero, suc, true, List, [], ◌∷◌, length, refl, sym, ap, ◌∙◌, subst, inl, inr, arith}
use Rattle.std.specs.Prelude.{◌⊎◌}
use Rattle.std.specs.Cmp.Lexicographic.{bytes_decides}
use Rattle.std.specs.List.{filter, list_any}
use Rattle.bound_tree.specs.Tree.{Declarations}
use Rattle.net_tree.specs.Tree as net
use Rattle.net_tree.specs.Tree.{Procedure}
use Rattle.written_trees.specs.Facts.{Facts}
use Rattle.written_trees.specs.Supports.{all_functions, is_used, calls, is_same_function, function_name, leads_within, is_needed, support_module}
use Rattle.correspondence.specs.Lists.{In}
use Rattle.correspondence.specs.Support.{Leads, itself, calling, IsNeeded, SupportCorresponds}
use Rattle.correspondence.proofs.Among.{any_has, from_filter, has_any, in_filter, or_cases, or_left, or_right}

same_function : (g : Procedure) → is_same_function g g ≡ true
same_function g = (bytes_decides (function_name g) (function_name g)).1 refl

-- ---- chains of so many calls

data Within (all : List Procedure) : ℕ → Procedure → Procedure → Type 0 where
  at_once : {n : ℕ} {f g : Procedure} → is_same_function f g ≡ true → Within all n f g
  by_call : {n : ℕ} {f g h : Procedure} → In h all → calls f h ≡ true → Within all n h g → Within all (suc n) f g

leads_by : (all : List Procedure) (n : ℕ) (f g : Procedure) → leads_within all n f g ≡ true → Leads all f g
leads_by all zero f g h = itself h
leads_by all (suc n) f g h =
    elim (or_cases (is_same_function f g) (list_any (λ k. leads_within all n k g) (filter (calls f) all)) h) [
      | inl e ↦ itself e
      | inr e ↦ further (λ k i. leads_by all n k g i) e
    ]
  where
    further : ((k : Procedure) → leads_within all n k g ≡ true → Leads all k g) → list_any (λ k. leads_within all n k g) (filter (calls f) all) ≡ true → Leads all f g
    further more e =
        let w = any_has (λ k. leads_within all n k g) (filter (calls f) all) e in
        let k = from_filter (calls f) all w.0 w.1 in
        calling k.0 k.1 (more w.0 w.2)

within_itself : (all : List Procedure) (n : ℕ) (f g : Procedure) → is_same_function f g ≡ true → leads_within all n f g ≡ true
within_itself all zero f g h = h
within_itself all (suc n) f g h = or_left (is_same_function f g) (list_any (λ k. leads_within all n k g) (filter (calls f) all)) h

within_by : (all : List Procedure) (n : ℕ) (f g : Procedure) → Within all n f g → leads_within all n f g ≡ true
within_by all n f g (at_once h) = within_itself all n f g h
within_by all (suc n) f g (by_call {h = k} i c more) =
    or_right (is_same_function f g) (list_any (λ h. leads_within all n h g) (filter (calls f) all))
    (has_any (λ h. leads_within all n h g) (filter (calls f) all) k (in_filter (calls f) all k i c) (within_by all n k g more))

-- ---- no chain of calls needs more than there are functions

abbrev without : (xs : List Procedure) (h : Procedure) → In h xs → List Procedure
without [] h i = absurd i
without (x ∷ xs) h (inl e) = xs
without (x ∷ xs) h (inr i) = x ∷ without xs h i

one_fewer : (xs : List Procedure) (h : Procedure) (i : In h xs) → length xs ≡ suc (length (without xs h i))
one_fewer [] h i = absurd i
one_fewer (x ∷ xs) h (inl e) = refl
one_fewer (x ∷ xs) h (inr i) = ap suc (one_fewer xs h i)

still_in : (xs : List Procedure) (h : Procedure) (i : In h xs) (k : Procedure) → In k (without xs h i) → In k xs
still_in [] h i k j = absurd i
still_in (x ∷ xs) h (inl e) k j = inr j
still_in (x ∷ xs) h (inr i) k (inl e) = inl e
still_in (x ∷ xs) h (inr i) k (inr j) = inr (still_in xs h i k j)

same_or_in : (xs : List Procedure) (h : Procedure) (i : In h xs) (k : Procedure) → In k xs → (k ≡ h) ⊎ In k (without xs h i)
same_or_in [] h i k j = absurd i
same_or_in (x ∷ xs) h (inl e) k (inl f) = inl (f ∙ sym e)
same_or_in (x ∷ xs) h (inl e) k (inr j) = inr j
same_or_in (x ∷ xs) h (inr i) k (inl f) = inr (inl f)
same_or_in (x ∷ xs) h (inr i) k (inr j) = behind (same_or_in xs h i k j)
  where
    behind : (k ≡ h) ⊎ In k (without xs h i) → (k ≡ h) ⊎ In k (x ∷ without xs h i)
    behind (inl e) = inl e
    behind (inr l) = inr (inr l)

-- a chain that doesn't come to h, or what is left of it behind its last h
last_visit : (xs : List Procedure) (h : Procedure) (i : In h xs) (f g : Procedure) → Leads xs f g → Leads (without xs h i) f g ⊎ Leads (without xs h i) h g
last_visit xs h i f g (itself e) = inl (itself e)
last_visit xs h i f g (calling {h = k} j c more) = by (last_visit xs h i k g more) (same_or_in xs h i k j)
  where
    by : Leads (without xs h i) k g ⊎ Leads (without xs h i) h g → (k ≡ h) ⊎ In k (without xs h i) → Leads (without xs h i) f g ⊎ Leads (without xs h i) h g
    by (inr l) m = inr l
    by (inl l) (inl e) = inr (subst (λ (z : Procedure). Leads (without xs h i) z g) e l)
    by (inl l) (inr m) = inl (calling m c l)

from_here : (xs : List Procedure) (h : Procedure) (i : In h xs) (g : Procedure) → Leads xs h g → Leads (without xs h i) h g
from_here xs h i g l = by (last_visit xs h i h g l)
  where
    by : Leads (without xs h i) h g ⊎ Leads (without xs h i) h g → Leads (without xs h i) h g
    by (inl k) = k
    by (inr k) = k

bounded : (all : List Procedure) (n : ℕ) (xs : List Procedure) (f g : Procedure) → length xs ≡ n → ((k : Procedure) → In k xs → In k all) → Leads xs f g → Within all n f g
bounded all n xs f g e sub (itself h) = at_once h
bounded all zero [] f g e sub (calling {h = k} i c more) = absurd i
bounded all zero (x ∷ xs) f g e sub (calling {h = k} i c more) = absurd (omega (arith, e))
bounded all (suc n) xs f g e sub (calling {h = k} i c more) =
    let fewer = one_fewer xs k i in
    by_call (sub k i) c (bounded all n (without xs k i) k g (omega (arith, e, fewer)) (λ l j. sub l (still_in xs k i l j)) (from_here xs k i g more))

-- ---- what is needed

needed_by : (all : List Procedure) (modules : List net.Module) (g : Procedure) → IsNeeded all modules g → is_needed all modules g ≡ true
needed_by all modules g h =
    has_any (λ f. leads_within all (length all) f g) (filter (is_used modules) all) h.user (in_filter (is_used modules) all h.user h.among h.used)
    (within_by all (length all) h.user g (bounded all (length all) all h.user g refl (λ k i. i) h.leads))

needs : (all : List Procedure) (modules : List net.Module) (g : Procedure) → is_needed all modules g ≡ true → IsNeeded all modules g
needs all modules g h =
    let w = any_has (λ f. leads_within all (length all) f g) (filter (is_used modules) all) h in
    let k = from_filter (is_used modules) all w.0 w.1 in
    record { user = w.0; among = k.0; used = k.1; leads = leads_by all (length all) w.0 g w.2 }

pub support_corresponds : (D : Declarations) (F : Facts) (modules : List net.Module) → SupportCorresponds D F modules (support_module D F modules)
support_corresponds D F modules =
    let all = all_functions D F in
    record {
      name = refl;
      class = refl;
      set = is_needed all modules;
      members = refl;
      has_used = λ g i h. needed_by all modules g (record { user = g; among = i; used = h; leads = itself (same_function g) });
      has_needed = λ g i h. needed_by all modules g h;
      least = λ g h. needs all modules g h;
    }
