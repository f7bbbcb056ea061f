-- Parts of different fields stand at different positions, so that what is laid in one changes none of the others.
use Rattle.std.proofs.Common.{◌≡◌, refl, sym, ap, ◌∙◌, ℕ, ◌≤◌, suc, ◌+◌, List, [], ◌∷◌, ◌++◌, append_assoc, length, arith}
use Rattle.std.proofs.lemmas.List.{length-append}
use Rattle.run_base.specs.Positions.{Position, inner, updated}
use Rattle.vb6_run.specs.Store.{Held, single, table, parts}
use Rattle.vb6_run.specs.Values.{Value, scalar, fields, elements, Values, no_values, next_value}
use Rattle.net_run.specs.Store as net
use Rattle.net_run.specs.Values as net_value
use Rattle.memory_laws.specs.Laying.{held_with, all_held_with, cells_with, all_cells_with}
use Rattle.memory_laws.proofs.Positions.{at, updated_other}

-- ---- paths

-- the field by which a path leads on from an outer one
same_field : (xs ys p : List ℕ) (j k : ℕ) → xs ++ (j ∷ p) ≡ ys ++ (k ∷ p) → j ≡ k
same_field [] [] p j k e = cc
same_field [] (y ∷ ys) p j k e = absurd (too_long (ap length e ∙ ap suc (length-append ys (k ∷ p))))
  where
    too_long : suc (length p) ≡ suc (length ys + suc (length p)) → ⊥
    too_long f = omega arith
same_field (x ∷ xs) [] p j k e = absurd (too_long (sym (ap length e) ∙ ap suc (length-append xs (j ∷ p))))
  where
    too_long : suc (length p) ≡ suc (length xs + suc (length p)) → ⊥
    too_long f = omega arith
same_field (x ∷ xs) (y ∷ ys) p j k e = same_field xs ys p j k (tail_is e)
  where
    tail_is : x ∷ (xs ++ (j ∷ p)) ≡ y ∷ (ys ++ (k ∷ p)) → xs ++ (j ∷ p) ≡ ys ++ (k ∷ p)
    tail_is f = cc

not_outer : (xs p : List ℕ) (k : ℕ) → xs ++ (k ∷ p) ≡ p → ⊥
not_outer xs p k e = too_long (sym (ap length e) ∙ length-append xs (k ∷ p))
  where
    too_long : length p ≡ length xs + suc (length p) → ⊥
    too_long f = omega arith

-- ---- positions

-- the part of a position at a path of fields
abbrev pub part : Position → List ℕ → Position
part q path = at q.root (path ++ q.path)

-- no part of a position is another one
abbrev pub Apart : Position → Position → Type 0
Apart q p = (path : List ℕ) → part q path ≡ p → ⊥

-- nor is a part of a field of it, from one on
abbrev pub ApartFrom : Position → (field : ℕ) → Position → Type 0
ApartFrom q k p = (j : ℕ) → k ≤ j → Apart (inner q j) p

path_of : (p q : Position) → p ≡ q → p.path ≡ q.path
path_of p q e = ap (λ (z : Position). z.path) e

apart_inner : (q p : Position) (k : ℕ) → Apart q p → Apart (inner q k) p
apart_inner q p k a path e = a (path ++ (k ∷ [])) (ap (at q.root) (append_assoc path (k ∷ []) q.path) ∙ e)

pub apart_all : (q p : Position) (k : ℕ) → Apart q p → ApartFrom q k p
apart_all q p k a j le = apart_inner q p j a

not_same : (k j : ℕ) → suc k ≤ j → j ≡ k → ⊥
not_same k j le e = omega arith

up_one : (k j : ℕ) → suc k ≤ j → k ≤ j
up_one k j le = omega arith

self : (k : ℕ) → k ≤ k
self k = omega arith

pub apart_later : (q p : Position) (k : ℕ) → ApartFrom q k p → ApartFrom q (suc k) p
apart_later q p k a j le = a j (up_one k j le)

pub whole_apart : (q : Position) (k : ℕ) → ApartFrom q k q
whole_apart q k j le path e = not_outer path q.path j (path_of (part (inner q j) path) q e)

pub here : (q p : Position) (k : ℕ) → ApartFrom q k p → Apart (inner q k) p
here q p k a = a k (self k)

-- a part of a field is apart from those behind it
pub field_apart : (q : Position) (k : ℕ) (path : List ℕ) → ApartFrom q (suc k) (part (inner q k) path)
field_apart q k path j le rest e =
    not_same k j le (same_field rest path q.path j k (path_of (part (inner q j) rest) (part (inner q k) path) e))

-- nor is one of another root
pub root_apart : (q p : Position) → (q.root ≡ p.root → ⊥) → Apart q p
root_apart q p o path e = o (ap (λ (z : Position). z.root) e)

-- ---- what is laid elsewhere

mutual
  pub held_apart : (x : Value) (q : Position) (h : Position → Held) (p : Position) → Apart q p → held_with x q h p ≡ h p
  held_apart (scalar ty z) q h p a = updated_other h q (single ty z) p (a [])
  held_apart (fields t xs) q h p a = all_held_apart xs q 0 (updated h q parts) p (apart_all q p 0 a) ∙ updated_other h q parts p (a [])
  held_apart (elements e dims xs) q h p a = updated_other h q (table e dims xs) p (a [])

  pub all_held_apart : (xs : Values) (q : Position) (k : ℕ) (h : Position → Held) (p : Position) → ApartFrom q k p → all_held_with xs q k h p ≡ h p
  all_held_apart no_values q k h p a = refl
  all_held_apart (next_value x xs) q k h p a =
      all_held_apart xs q (suc k) (held_with x (inner q k) h) p (apart_later q p k a) ∙ held_apart x (inner q k) h p (here q p k a)

-- so it is with cells of another root
mutual
  pub cells_apart : (y : net_value.Value) (q : Position) (c : Position → net.Cell) (p : Position) → (q.root ≡ p.root → ⊥) → cells_with y q c p ≡ c p
  cells_apart net_value.unknown q c p o = refl
  cells_apart (net_value.single y) q c p o = updated_other c q (net.holds y) p (λ e. o (ap (λ (z : Position). z.root) e))
  cells_apart (net_value.fields ys) q c p o =
      all_cells_apart ys q 0 (updated c q net.structure) p o ∙ updated_other c q net.structure p (λ e. o (ap (λ (z : Position). z.root) e))

  all_cells_apart : (ys : net_value.Values) (q : Position) (k : ℕ) (c : Position → net.Cell) (p : Position) → (q.root ≡ p.root → ⊥)
      → all_cells_with ys q k c p ≡ c p
  all_cells_apart net_value.no_values q k c p o = refl
  all_cells_apart (net_value.next_value y ys) q k c p o =
      all_cells_apart ys q (suc k) (cells_with y (inner q k) c) p o ∙ cells_apart y (inner q k) c p o
