-- A table with another row for one class.
use Rattle.std.proofs.Common.{◌≡◌, ◌≢◌, ℕ, zero, suc, ◌<◌, Bool, true, false, List, [], ◌∷◌, length, get_or, refl, ap, sym, subst, ◌∙◌, arith, nat_eq, Global}
use Rattle.std.specs.Prelude.{ℤ, ◌&&◌, Option, Some, Vec, if◌then◌else◌, slice_set}
use Rattle.std.proofs.lemmas.Bool.{eqb-true}
use Rattle.std.proofs.lemmas.Bool.Decides.{nat_tests}
use Rattle.array_bounds.specs.declared.ranges.Range.{Range}
use Rattle.array_bounds.specs.Ranges.{Table, cell, range_at, row_at, wider}

abbrev Row : Type 0
Row = Vec (Option Range) Global

row_read : (table : Table) (c : ℕ) (any : Row) → c < length table → row_at table c ≡ (get_or table c any).items
row_read [] c any h = absurd (omega arith)
row_read (x ∷ xs) zero any h = refl
row_read (x ∷ xs) (suc c) any h = row_read xs c any (omega arith)

row_set_same : (table : Table) (c : ℕ) (row : Row) → c < length table → row_at (slice_set table c row) c ≡ row.items
row_set_same [] c row h = absurd (omega arith)
row_set_same (x ∷ xs) zero row h = refl
row_set_same (x ∷ xs) (suc c) row h = row_set_same xs c row (omega arith)

row_set_other : (table : Table) (class c : ℕ) (row : Row) → class ≢ c → row_at (slice_set table class row) c ≡ row_at table c
row_set_other [] class c row ne = refl
row_set_other (x ∷ xs) zero zero row ne = absurd (ne refl)
row_set_other (x ∷ xs) zero (suc c) row ne = refl
row_set_other (x ∷ xs) (suc class) zero row ne = refl
row_set_other (x ∷ xs) (suc class) (suc c) row ne = row_set_other xs class c row (λ e. ne (ap suc e))

module _ (table : Table) (class dimension : ℕ) (z : ℤ) (any new : Row) (inside : class < length table)
    (is : (e : ℕ) → range_at new.items e ≡ (if nat_eq dimension e then Some (wider (range_at (get_or table class any).items e) z) else range_at (get_or table class any).items e)) where
  cell_by : (c d : ℕ) (here : Bool) → nat_eq class c ≡ here
      → cell (slice_set table class new) c d ≡ (if here && nat_eq dimension d then Some (wider (cell table c d) z) else cell table c d)
  cell_by c d true e =
      let same : class ≡ c = eqb-true class c e in
      subst (λ (k : ℕ). cell (slice_set table class new) k d ≡ (if nat_eq dimension d then Some (wider (cell table k d) z) else cell table k d)) same
      (ap (λ (row : List (Option Range)). range_at row d) (row_set_same table class new inside) ∙ is d
      ∙ ap (λ (row : List (Option Range)). if nat_eq dimension d then Some (wider (range_at row d) z) else range_at row d) (sym (row_read table class any inside)))
  cell_by c d false e = ap (λ (row : List (Option Range)). range_at row d) (row_set_other table class c new (λ s. absurd (grind (arith, nat_tests))))

  pub cell_set : (c d : ℕ) → cell (slice_set table class new) c d ≡ (if nat_eq class c && nat_eq dimension d then Some (wider (cell table c d) z) else cell table c d)
  cell_set c d = cell_by c d (nat_eq class c) refl
