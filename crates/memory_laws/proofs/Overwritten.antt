-- A value that is stored over what a new variable begins with stands there as if it had been laid at once.
use Rattle.std.proofs.Common.{◌≡◌, refl, sym, ap, subst, ◌∙◌, ℕ, suc, Bool, true, false, cond, []}
use Rattle.vb_tree.specs.BoundTree.{Ty}
use Rattle.vb_tree.specs.declared.value.Value6.{Value6}
use Rattle.run_base.specs.Outcomes.{after, gives, then}
use Rattle.run_base.specs.Positions.{Position, inner, is_same_position, updated}
use Rattle.vb6_run.specs.Shapes.{Shape, simple, group, array, endless, Shapes, no_shapes, next_shape}
use Rattle.vb6_run.specs.Store.{Held, Locked, Memory, single, parts, provided, put_single, store, store_all, with_held}
use Rattle.vb6_run.specs.Values.{Value, scalar, fields, elements, Values, no_values, next_value, first_scalar, first_value, first_values}
use Rattle.run_matches.specs.Kinds.{IsValueOf, AreValuesOf}
use Rattle.run_matches.specs.SoundShapes.{IsSoundShape, AreSoundShapes}
use Rattle.run_matches.specs.Upgrades.{Upgrade}
use Rattle.memory_laws.specs.Laying.{held_with, all_held_with}
use Rattle.memory_laws.proofs.LaidValues.{field_swapped}
use Rattle.memory_laws.proofs.Positions.{updated_here}
use Rattle.memory_laws.proofs.SimpleShapes.{type_itself}

-- of two changes of one position the last stays
twice : (b : Bool) (x y h : Held) → cond b y (cond b x h) ≡ cond b y h
twice true x y h = refl
twice false x y h = refl

overwritten : (h : Position → Held) (q : Position) (x y : Held) → updated (updated h q x) q y ≡ updated h q y
overwritten h q x y = λ i p. twice (is_same_position q p) x y (h p) i

abbrev holding : Memory → (Position → Held) → Memory
holding w h = record w { held = h }

module _ (U : Upgrade) (locked : Locked) where
  scalar_over : (ty : Ty) (z : Value6) (q : Position) (w : Memory)
      → store locked (scalar ty z) q (holding w (updated w.held q (single ty (first_scalar ty)))) ≡ gives [] tt (holding w (updated w.held q (single ty z)))
  scalar_over ty z q w =
      let old : Held = single ty (first_scalar ty) in
      ap (λ h. put_single h q ty z (holding w (updated w.held q old))) (updated_here w.held q old)
      ∙ (ap (λ b. provided b (λ v. gives [] tt (with_held q (single ty z) v)) (holding w (updated w.held q old))) (type_itself ty)
      ∙ ap (λ h. gives [] tt (holding w h)) (overwritten w.held q old (single ty z)))

  mutual
    pub stored_over : (s : Shape) (x : Value) (q : Position) (w : Memory) → IsSoundShape U s → IsValueOf s x
        → store locked x q (holding w (held_with (first_value s) q w.held)) ≡ gives [] tt (holding w (held_with x q w.held))
    stored_over (simple ty) (scalar t z) q w c of =
        subst
        (λ u. store locked (scalar u z) q (holding w (held_with (first_value (simple ty)) q w.held)) ≡ gives [] tt (holding w (held_with (scalar u z) q w.held)))
        (sym of) (scalar_over ty z q w)
    stored_over (simple ty) (fields u xs) q w c of = absurd of
    stored_over (simple ty) (elements e dims xs) q w c of = absurd of
    stored_over (group t fs) (scalar s z) q w c of = absurd of
    stored_over (group t fs) (fields u xs) q w c of = all_stored_over t 0 fs xs q 0 (holding w (updated w.held q parts)) c of.1
    stored_over (group t fs) (elements e dims xs) q w c of = absurd of
    stored_over (array e bounds) x q w c of = absurd c
    stored_over endless x q w c of = absurd c

    all_stored_over : (t i : ℕ) (fs : Shapes) (xs : Values) (q : Position) (k : ℕ) (w : Memory) → AreSoundShapes U t i fs → AreValuesOf fs xs
        → store_all locked xs q k (holding w (all_held_with (first_values fs) q k w.held)) ≡ gives [] tt (holding w (all_held_with xs q k w.held))
    all_stored_over t i no_shapes no_values q k w c of = refl
    all_stored_over t i no_shapes (next_value x xs) q k w c of = absurd of
    all_stored_over t i (next_shape s rest) no_values q k w c of = absurd of
    all_stored_over t i (next_shape s rest) (next_value x xs) q k w c of =
        let others : Values = first_values rest in
        let behind : Position → Held = all_held_with others q (suc k) w.held in
        let now : Memory = holding w (held_with x (inner q k) w.held) in
        ap (λ h. then (store locked x (inner q k) (holding w h)) (λ u v. store_all locked xs q (suc k) v)) (sym (field_swapped (first_value s) others q k w.held))
        ∙ (ap (λ r. then r (λ u v. store_all locked xs q (suc k) v)) (stored_over s x (inner q k) (holding w behind) c.1 of.0)
        ∙ (ap (λ h. then (gives [] (tt {0}) (holding w h)) (λ u v. store_all locked xs q (suc k) v)) (field_swapped x others q k w.held)
        ∙ ap (λ r. after [] r) (all_stored_over t (suc i) rest xs q (suc k) now c.2 of.1)))
