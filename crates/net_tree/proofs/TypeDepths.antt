-- How many arrays a type is, within a room.
use Rattle.std.proofs.Common.{◌≡◌, ℕ, suc, ◌&&◌, ◌==◌, Bool, true, false, not, nat_le, refl, sym, true≢false, arith, le-leb, leb-true}
use Rattle.std.proofs.lemmas.Bool.{and_from, leb-false, lt-leb}
use Rattle.net_tree.specs.Depth.{depth_type, is_shallow_type, most_nested}
use Rattle.net_tree.specs.Expressions.{is_spelt_type, is_writable_type}
use Rattle.net_tree.specs.Types as ty
use Rattle.net_tree.specs.Types.{TypeName}

-- no array is within no room
pub without_room : (d : ℕ) (room : ℕ) → room ≡ 0 → nat_le (suc d) room ≡ false
without_room d room h = lt-leb (suc d) room (omega (arith, h))

-- one array less, in a room with one less
pub one_level : (d room : ℕ) → nat_le (suc d) (suc room) ≡ nat_le d room
one_level d room = go (nat_le d room) refl
  where
    go : (b : Bool) → nat_le d room ≡ b → nat_le (suc d) (suc room) ≡ b
    go true p = let h = leb-true d room p in le-leb (suc d) (suc room) (omega arith)
    go false p = let h = leb-false d room p in lt-leb (suc d) (suc room) (omega arith)

both : (a b : Bool) → a && b ≡ true → (a ≡ true) × (b ≡ true)
both true b h = (refl, h)
both false b h = absurd (true≢false (sym h))

-- the element type of an array that can be written can be, and the array has a dimension
pub element_can : (element : TypeName) (rank : ℕ) → is_writable_type (ty.array_of element rank) ≡ true → (is_writable_type element ≡ true) × (not (rank == 0) ≡ true)
element_can element rank h =
    let deep = both (nat_le (suc (depth_type element)) most_nested) (is_spelt_type element && not (rank == 0)) h in
    let spelt = both (is_spelt_type element) (not (rank == 0)) deep.1 in
    let less = leb-true (suc (depth_type element)) most_nested deep.0 in
    (and_from (is_shallow_type element) (is_spelt_type element) (le-leb (depth_type element) most_nested (omega (arith, less))) spelt.0, spelt.1)
