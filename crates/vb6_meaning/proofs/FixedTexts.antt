-- Texts that are cut or padded to a length.
use Rattle.std.proofs.Common.{◌≡◌, ℕ, zero, suc, ◌-◌, ◌≤◌, List, [], ◌∷◌, ◌++◌, length, take, refl, ap, arith, length-append}
use Rattle.std.proofs.lemmas.List.{length-take, length-replicate}
use Rattle.std.specs.Prelude.{replicate}
use Rattle.vb6_meaning.specs.Values.{fixed_text}

append_nothing : (xs : List ℕ) → xs ++ [] ≡ xs
append_nothing [] = refl
append_nothing (x ∷ xs) = ap (λ ys. x ∷ ys) (append_nothing xs)

take_all : (xs : List ℕ) (n : ℕ) → length xs ≤ n → take n xs ≡ xs
take_all [] zero le = refl
take_all [] (suc n) le = refl
take_all (x ∷ xs) zero le = absurd (omega arith)
take_all (x ∷ xs) (suc n) le = ap (λ ys. x ∷ ys) (take_all xs n (omega arith))

pub cut : (n : ℕ) (units : List ℕ) → n ≤ length units → fixed_text n units ≡ take n units
cut n units le = let e : n - length units ≡ 0 = omega arith in rw e (append_nothing (take n units))

pub padded : (n : ℕ) (units : List ℕ) → length units ≤ n → fixed_text n units ≡ units ++ replicate (n - length units) 32
padded n units le = ap (λ t. t ++ replicate (n - length units) 32) (take_all units n le)

pub fixed_length : (n : ℕ) (units : List ℕ) → length (fixed_text n units) ≡ n
fixed_length n units = simp (length-append, length-take, length-replicate) (omega arith)
