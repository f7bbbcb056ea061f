-- Scalar variables are made on both sides.
use Rattle.std.proofs.Common.{◌≡◌, refl, sym, ap, subst, ◌∙◌, ℕ, suc, ℤ, true, not, ◌&&◌, cond, Option, Some, List, [], true≢false}
use Rattle.up_base.proofs.Tests.{both_true}
use Rattle.vb_tree.specs.BoundTree.{Ty}
use Rattle.vb_tree.specs.BoundTree as types
use Rattle.vb_tree.specs.declared.value.Value6.{Value6}
use Rattle.net_tree.specs.Types.{TypeName}
use Rattle.net_meaning.specs.declared.value.ValueN.{ValueN}
use Rattle.net_meaning.specs.declared.value.ValueN.TheVariants as n
use Rattle.run_base.specs.Outcomes.{gives, outside}
use Rattle.run_base.specs.Positions.{made, whole}
use Rattle.vb6_run.specs.Shapes.{Shape, simple, shape_by, user_shapes, declared_shape, variable_shape}
use Rattle.vb6_run.specs.Store.{root, Held, blank, single, table, make}
use Rattle.vb6_run.specs.Values.{first_scalar}
use Rattle.net_run.specs.Shapes as shape
use Rattle.net_run.specs.Store as net
use Rattle.run_matches.specs.Kinds.{IsKind, KeepsKind}
use Rattle.run_matches.specs.Upgrades.{Upgrade}
use Rattle.run_matches.specs.Maps.{World, IsMatched, is_sound_part, moved_at}
use Rattle.run_matches.specs.Likeness.{Like, are_same, scalar_word, same_scalar}
use Rattle.run_matches.specs.Match.{holds_single, MemoryMatch}
use Rattle.run_matches.specs.Pledges.{Pledge, Later}
use Rattle.run_matches.specs.Addresses.{same_root}
use Rattle.run_matches.specs.Agreeing.{Agrees}
use Rattle.run_matches.specs.CoveredVariables.{covers_type, covers_owner}
use Rattle.run_statements.specs.Frames.{IsReadable, MadeMatch, LocalsAreMade}
use Rattle.agreeing_laws.proofs.Lasting.{later_then}
use Rattle.memory_laws.specs.Changes.{changed, with_place, IsNoTable, IsNoArray, IsSuited}
use Rattle.memory_laws.proofs.Changes.{changed_later}
use Rattle.memory_laws.proofs.Moved.{no_variable_place, place_goes_alone}
use Rattle.memory_laws.proofs.Places.{place_here, declared_here, place_is_matched, place_is_blank, net_place_is_blank, place_later}
use Rattle.memory_laws.proofs.Positions.{updated_here}
use Rattle.memory_laws.proofs.Scalars.{scalar_is_no_array, FirstMatch, first_match}

-- ---- a place in which a scalar stands

pub no_table_in : (h : Held) → h ≡ blank → IsNoTable h
no_table_in h e d dims xs f = no_table (sym e ∙ f)
  where
    no_table : blank ≡ table d dims xs → ⊥
    no_table g = cc

pub no_array_in : (c : net.Cell) → c ≡ net.blank → IsNoArray c
no_array_in c e k f = no_array (sym e ∙ f)
  where
    no_array : net.blank ≡ net.holds (n.Array k) → ⊥
    no_array g = cc

pub blank_keeps : (h k : Held) → h ≡ blank → KeepsKind h k
blank_keeps h k e = subst (λ z. KeepsKind z k) (sym e) tt

-- a new place takes whatever is laid there, and is no variable of a module
pub place_suits : (U : Upgrade) (w : World) (d : Option ℕ) → MemoryMatch U w → (x : Held) → IsSuited U (with_place w d) (whole (made w.src.next)) x
place_suits U w d h x = record {
  kept = blank_keeps (w.src.held (whole (made w.src.next))) x (place_is_blank U w d h);
  laid = λ r v of at b. absurd (no_variable_place w.src.next v r of at);
}

module _ (U : Upgrade) (K : Pledge) (w : World) (d : Option ℕ) (ty : Ty) (z : Value6) (y : ValueN) where
  abbrev pub scalar_made : World
  scalar_made = changed U (with_place w d) (whole (made w.src.next)) (single ty z) (net.holds y)

  pub scalar_is_made : MemoryMatch U w → is_sound_part U d [] ≡ true → Like w ty z y → Later U K w scalar_made
  scalar_is_made h sound like =
      let first : Later U K w (with_place w d) = place_later U w d h K in
      let m : IsMatched U (with_place w d) (whole (made w.src.next)) = place_is_matched U w d sound in
      later_then U K w (with_place w d) scalar_made h first
      (changed_later U (with_place w d) (whole (made w.src.next)) (single ty z) (net.holds y) first.match m
      (place_goes_alone U (with_place w d) first.match.stores w.src.next [] m) (holds_single ty z y like)
      (no_table_in (w.src.held (whole (made w.src.next))) (place_is_blank U w d h))
      (no_array_in (w.net.cell (moved_at U (with_place w d).map (whole (made w.src.next)))) (net_place_is_blank U w d h))
      (scalar_is_no_array (are_same w) ty z y like) (place_suits U w d h (single ty z)) K (λ l i. i (place_is_blank U w d h)))

-- ---- a local variable

pub covered_shape : (users : ℕ → Shape) (bounds : List (ℤ × ℤ)) (ty : Ty) → covers_type ty ≡ true → shape_by users bounds ty ≡ simple ty
covered_shape users bounds types.boolean c = refl
covered_shape users bounds types.byte c = refl
covered_shape users bounds types.integer c = refl
covered_shape users bounds types.long c = refl
covered_shape users bounds types.currency c = refl
covered_shape users bounds types.str c = refl
covered_shape users bounds _ c = absurd (true≢false (sym c))

module _ (U : Upgrade) where
  pub readable_type : (v : ℕ) (r : IsReadable U v) → covers_type r.variable.ty ≡ true
  readable_type v r =
      (both_true (covers_type r.variable.ty) (not r.variable.auto)
      (both_true (covers_owner r.variable.owner) (covers_type r.variable.ty && not r.variable.auto) r.covers).1).0

  pub readable_shape : (v : ℕ) (r : IsReadable U v) → variable_shape U.program.declarations v ≡ simple r.variable.ty
  readable_shape v r =
      ap (declared_shape (user_shapes U.program.declarations)) r.is_variable
      ∙ covered_shape (user_shapes U.program.declarations) r.variable.bounds r.variable.ty (readable_type v r)

  kind_made : (K : Pledge) (w : World) (v : ℕ) (ty : Ty) (z : Value6) (y : ValueN)
      → IsKind (simple ty) ((scalar_made U K w (Some v) ty z y).src.held (whole (made w.src.next)))
  kind_made K w v ty z y = (z, updated_here w.src.held (whole (made w.src.next)) (single ty z))

  pub made_match : (K : Pledge) (w : World) (v : ℕ) (ty : Ty) (t : TypeName) (z : Value6) (y : ValueN) → variable_shape U.program.declarations v ≡ simple ty
      → scalar_word ty ≡ Some t → IsMatched U (scalar_made U K w (Some v) ty z y) (whole (made w.src.next))
      → MadeMatch U K v ty t (scalar_made U K w (Some v) ty z y) (root (simple ty) (whole (made w.src.next)))
      (net.root (shape.scalar t) (whole (made ((with_place w (Some v)).map.places w.src.next))))
  made_match K w v ty t z y shaped e m = record {
    place = record { place = w.src.next; stands = ap (λ s. root s (whole (made w.src.next))) (sym shaped); is_made = m.is_made; declared = declared_here U w (Some v) };
    same = same_root (simple ty) (shape.scalar t) (whole (made w.src.next)) (same_scalar ty t e) (m, kind_made K w v ty z y) tt;
    source_shape = (w.src.next, refl);
    target_shape = ((with_place w (Some v)).map.places w.src.next, refl);
  }

  -- with a first value that matches
  pub local_is_made : (K : Pledge) (w : World) (v : ℕ) (ty : Ty) (t : TypeName) (y : ValueN) → variable_shape U.program.declarations v ≡ simple ty → MemoryMatch U w
      → is_sound_part U (Some v) [] ≡ true → scalar_word ty ≡ Some t → Like w ty (first_scalar ty) y
      → Agrees U K w (MadeMatch U K v ty t) (make (simple ty) w.src)
      (gives [] (net.root (shape.scalar t) (whole (made w.net.next)))
      (net.with_cell (whole (made w.net.next)) (net.holds y) (record w.net { next = suc w.net.next })))
  local_is_made K w v ty t y shaped h sound e like =
      let l : Later U K w (scalar_made U K w (Some v) ty (first_scalar ty) y) = scalar_is_made U K w (Some v) ty (first_scalar ty) y h sound like in
      let m : IsMatched U (with_place w (Some v)) (whole (made w.src.next)) = place_is_matched U w (Some v) sound in
      subst
      (λ k. Agrees U K w (MadeMatch U K v ty t) (make (simple ty) w.src)
      (gives [] (net.root (shape.scalar t) (whole (made k))) (net.with_cell (whole (made k)) (net.holds y) (record w.net { next = suc w.net.next }))))
      (place_here U w (Some v)) (
        refl,
        (with_place w (Some v)).map,
        made_match K w v ty t (first_scalar ty) y shaped e (record { is_made = m.is_made; counterpart = m.counterpart; sound = m.sound }),
        l,
      )

  first_is_made : (K : Pledge) (w : World) (v : ℕ) (ty : Ty) (t : TypeName) (f : FirstMatch (are_same w) ty t) → variable_shape U.program.declarations v ≡ simple ty → MemoryMatch U w
      → is_sound_part U (Some v) [] ≡ true → scalar_word ty ≡ Some t
      → Agrees U K w (MadeMatch U K v ty t) (make (simple ty) w.src) (net.made_with (shape.scalar t) (shape.default_of (shape.scalar t)) w.net)
  first_is_made K w v ty t f shaped h sound e =
      subst (λ x. Agrees U K w (MadeMatch U K v ty t) (make (simple ty) w.src) (net.made_with (shape.scalar t) x w.net)) (sym f.is_value)
      (subst
      (λ b. Agrees U K w (MadeMatch U K v ty t) (make (simple ty) w.src)
      (cond b
      (gives [] (net.root (shape.scalar t) (whole (made w.net.next)))
      (net.with_cell (whole (made w.net.next)) (net.holds f.value) (record w.net { next = suc w.net.next })))
      (outside [])))
      (sym f.of_word) (local_is_made K w v ty t f.value shaped h sound e f.like))

  pub locals_are_made : LocalsAreMade U
  locals_are_made K w v r t e h =
      subst
      (λ s. Agrees U K w (MadeMatch U K v r.variable.ty t) (make s w.src) (net.made_with (shape.scalar t) (shape.default_of (shape.scalar t)) w.net))
      (sym (readable_shape v r))
      (first_is_made K w v r.variable.ty t (first_match (are_same w) r.variable.ty t (readable_type v r) e) (readable_shape v r) h (ap not r.sound) e)
