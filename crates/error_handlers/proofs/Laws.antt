-- Heads that are kept from the outermost on.
use Rattle.std.proofs.Common.{◌≡◌, ℕ, zero, suc, Bool, true, false, cond, List, [], ◌∷◌, ◌++◌, length, take, drop, refl, ap, sym, ◌∙◌, arith, nat_eq}
use Rattle.std.specs.Prelude.{◌||◌, ◌&&◌, ◌-◌, not, reverse}
use Rattle.std.specs.List.{list_any}
use Rattle.std.proofs.lemmas.Grind.{reverse_onto}
use Rattle.std.proofs.lemmas.List.{reverse-reverse}
use Rattle.std.proofs.lemmas.List.Folds.{list_any-append}
use mathlib.Core.Path.{fun_ext}
use Rattle.vb_tree.specs.declared.block.BlockKind.{BlockKind}
use Rattle.bound_tree.specs.Targets.{Step, plain, opens, parts, closes, heads_behind, is_same_kind}
use Rattle.error_handlers.specs.Jumps.{Head, is_kept, is_among, enters, is_in_kind}
use Rattle.error_handlers.specs.Walks.{change_by, changed}

pub changed_is : (s : Step) (n : ℕ) (heads : List Head) → changed (change_by s) n heads ≡ heads_behind s n heads
changed_is plain n heads = refl
changed_is (opens kind tests) n heads = refl
changed_is (parts kind tests) n heads = refl
changed_is (closes kind) n heads = refl

-- ---- lists from the other end

turned_or : (a b : Bool) → (a || (b || false)) ≡ (b || a)
turned_or true true = refl
turned_or true false = refl
turned_or false true = refl
turned_or false false = refl

pub any_turned : {X : Type 0} (p : X → Bool) (xs : List X) → list_any p (reverse xs) ≡ list_any p xs
any_turned p [] = refl
any_turned p (x ∷ xs) =
    ap (list_any p) (reverse_onto xs x []) ∙ list_any-append p (reverse xs) (x ∷ [])
    ∙ ap (λ b. b || (p x || false)) (any_turned p xs) ∙ turned_or (list_any p xs) (p x)

less_one : (n : ℕ) → suc n - 1 ≡ n
less_one n = omega (arith)

length_front : {X : Type 0} (xs : List X) (x : X) → length (xs ++ x ∷ []) ≡ suc (length xs)
length_front [] x = refl
length_front (y ∷ ys) x = ap suc (length_front ys x)

take_front : {X : Type 0} (xs : List X) (x : X) → take (length xs) (xs ++ x ∷ []) ≡ xs
take_front [] x = refl
take_front (y ∷ ys) x = ap (λ zs. y ∷ zs) (take_front ys x)

front_of_turned : {X : Type 0} (xs : List X) → reverse (take (length (reverse xs) - 1) (reverse xs)) ≡ drop 1 xs
front_of_turned [] = refl
front_of_turned (x ∷ xs) =
    let back = reverse xs in
    ap (λ ys. reverse (take (length ys - 1) ys)) (reverse_onto xs x [])
    ∙ ap (λ n. reverse (take (n - 1) (back ++ x ∷ []))) (length_front back x)
    ∙ ap (λ n. reverse (take n (back ++ x ∷ []))) (less_one (length back))
    ∙ ap reverse (take_front back x) ∙ reverse-reverse xs

-- a list without its last item
pub popped : {X : Type 0} (xs : List X) (n : ℕ) → n ≡ length xs → reverse (take (n - 1) xs) ≡ drop 1 (reverse xs)
popped xs n h =
    ap (λ m. reverse (take (m - 1) xs)) h ∙ ap (λ ys. reverse (take (length ys - 1) ys)) (sym (reverse-reverse xs)) ∙ front_of_turned (reverse xs)

-- ---- tests on heads

pub enters_turned : (from to : List Head) → enters (reverse from) (reverse to) ≡ enters from to
enters_turned from to =
    let same : is_among (reverse from) ≡ is_among from = fun_ext (λ n. any_turned (λ (h : Head). nat_eq n h.1) from) in
    any_turned (λ (h : Head). is_kept h.0 && not (is_among (reverse from) h.1)) to
    ∙ ap (λ (f : ℕ → Bool). list_any (λ (h : Head). is_kept h.0 && not (f h.1)) to) same

pub kind_turned : (kind : BlockKind) (heads : List Head) → is_in_kind kind (reverse heads) ≡ is_in_kind kind heads
kind_turned kind heads = any_turned (λ (h : Head). is_same_kind kind h.0) heads
