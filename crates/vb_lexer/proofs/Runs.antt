-- Runs of units that pass a test.
use Rattle.std.proofs.Common.{◌≡◌, ℕ, ◌<◌, ◌&&◌, ◌||◌, ◌==◌, ◌+◌, drop, add_comm, add-one, Bool, true, false, List, [], ◌∷◌, take, length, ◌≤◌, arith, refl}
use Rattle.std.specs.List.{list_all}
use Rattle.std.specs.Prelude.{nat_le}
use Rattle.std.proofs.lemmas.Bool.Decides.{nat_tests}
use Rattle.up_base.specs.Names.{is_name, is_printable}
use Rattle.vb_tree.specs.Tokens.{run, begins, is_digit, is_letter, is_name_unit, fraction_units}
pub use Rattle.up_base.proofs.Tests.{both_true}

-- each unit of a run passes
pub run_all : (p : ℕ → Bool) (units : List ℕ) → list_all p (take (run p units) units) ≡ true
run_all p [] = refl
run_all p (c ∷ cs) = go (run_all p cs) (p c) refl
  where
    go : list_all p (take (run p cs) cs) ≡ true → (b : Bool) → p c ≡ b → list_all p (take (run p (c ∷ cs)) (c ∷ cs)) ≡ true
    go rest true e = rw e (rw add_comm (rw add-one (rw e rest)))
    go rest false e = rw e refl

-- a letter begins a run of units of a name
pub run_some : (units : List ℕ) → begins is_letter units ≡ true → 0 < run is_name_unit units
run_some [] h = absurd cc
run_some (c ∷ cs) h = rw h (omega arith)

-- a decimal number has a digit or a point
pub decimal_some : (c : ℕ) (units : List ℕ) → (is_digit c || (c == 46 && begins is_digit units)) ≡ true
    → 0 < run is_digit (c ∷ units) + fraction_units (drop (run is_digit (c ∷ units)) (c ∷ units))
decimal_some c units h = go (is_digit c) refl h
  where
    go : (b : Bool) → is_digit c ≡ b → (b || (c == 46 && begins is_digit units)) ≡ true
        → 0 < run is_digit (c ∷ units) + fraction_units (drop (run is_digit (c ∷ units)) (c ∷ units))
    go true e t = rw e (omega arith)
    go false e t = let point = both_true (c == 46) (begins is_digit units) t in rw e (rw point.0 (omega arith))

pub is_printable_unit : (c : ℕ) → is_name_unit c ≡ true → is_printable c ≡ true
is_printable_unit c h = grind (arith, nat_tests)

-- the units of a name are printable
pub are_printable : (units : List ℕ) → list_all is_name_unit units ≡ true → list_all is_printable units ≡ true
are_printable [] h = refl
are_printable (c ∷ cs) h =
    let parts = both_true (is_name_unit c) (list_all is_name_unit cs) h in
    rw (is_printable_unit c parts.0) (are_printable cs parts.1)

in_limits : (n : ℕ) → 0 < n → n ≤ 255 → (nat_le 1 n && nat_le n 512) ≡ true
in_limits n some few = grind (arith, nat_tests)

-- such units are a name
pub are_name : (units front : List ℕ) → front ≡ units → list_all is_name_unit units ≡ true → 0 < length units → length units ≤ 255 → is_name front ≡ true
are_name units front same all some few = rw same (rw (in_limits (length units) some few) (are_printable units all))
