-- Scalar variables are made with values that are given.
use Rattle.std.proofs.Common.{◌≡◌, refl, sym, ap, subst, ◌∙◌, ℕ, suc, Bool, true, false, not, cond, ◌&&◌, Option, Some, None, List, [], true≢false}
use Rattle.up_base.proofs.Tests.{by_test}
use Rattle.vb_tree.specs.BoundTree.{Ty}
use Rattle.vb_tree.specs.BoundTree as types
use Rattle.vb_tree.specs.declared.value.Value6.{Value6}
use Rattle.bound_facts.specs.Locks.{is_same_type}
use Rattle.net_tree.specs.Types.{TypeName}
use Rattle.net_meaning.specs.declared.value.ValueN.{ValueN}
use Rattle.net_meaning.specs.declared.value.ValueN.TheVariants as n
use Rattle.run_base.specs.Outcomes.{Outcome, gives, outside, some_of, then}
use Rattle.run_base.specs.Positions.{Position, made, whole, is_same_position}
use Rattle.vb6_run.specs.Shapes.{Shape, simple, variable_shape}
use Rattle.vb6_run.specs.Store.{Address, Memory, root, Held, single, provided, with_held, put_single, store, make_with}
use Rattle.vb6_run.specs.Values.{Value, Values, Dimension, scalar, fields, elements, first_scalar, if_of_shape, is_typed, kept_as}
use Rattle.net_run.specs.Shapes as shape
use Rattle.net_run.specs.Store as net
use Rattle.net_run.specs.Values as net_value
use Rattle.run_matches.specs.Upgrades.{Upgrade}
use Rattle.run_matches.specs.Maps.{World, IsMatched, is_sound_part}
use Rattle.run_matches.specs.Likeness.{LikeV, like_scalar, like_fields, like_elements, Like, are_same, scalar_word}
use Rattle.run_matches.specs.Match.{MemoryMatch}
use Rattle.run_matches.specs.Pledges.{Pledge, Later}
use Rattle.run_matches.specs.Agreeing.{Agrees}
use Rattle.run_matches.specs.CoveredVariables.{covers_type}
use Rattle.run_statements.specs.Frames.{MadeMatch, ValuesAreMade}
use Rattle.agreeing_laws.proofs.Agreeing.{agrees_outside, left_alone}
use Rattle.agreeing_laws.proofs.Scalars.{matches_more, same_later}
use Rattle.memory_laws.specs.Changes.{with_place}
use Rattle.memory_laws.proofs.Making.{made_match, readable_shape, readable_type, scalar_is_made, scalar_made}
use Rattle.memory_laws.proofs.Places.{place_here, place_is_matched}
use Rattle.memory_laws.proofs.Positions.{updated_here}
use Rattle.memory_laws.proofs.Scalars.{kept_scalar, same_covered, scalar_of_word}

-- ---- what is kept of a value

-- a value of another type is kept by no variable of a covered one
pub kept_by : (s t : Ty) (z : Value6) → covers_type s ≡ true → kept_as (simple s) (scalar t z) ≡ if_of_shape (is_same_type s t && is_typed t z) (scalar t z)
kept_by types.boolean t z c = refl
kept_by types.byte t z c = refl
kept_by types.integer t z c = refl
kept_by types.long t z c = refl
kept_by types.currency t z c = refl
kept_by types.str t z c = refl
kept_by _ t z c = absurd (true≢false (sym c))

pub no_fields : (s : Ty) (t : ℕ) (xs : Values) → covers_type s ≡ true → kept_as (simple s) (fields t xs) ≡ None
no_fields types.boolean t xs c = refl
no_fields types.byte t xs c = refl
no_fields types.integer t xs c = refl
no_fields types.long t xs c = refl
no_fields types.currency t xs c = refl
no_fields types.str t xs c = refl
no_fields _ t xs c = absurd (true≢false (sym c))

pub no_elements : (s : Ty) (e : Shape) (dims : List Dimension) (xs : Values) → covers_type s ≡ true → kept_as (simple s) (elements e dims xs) ≡ None
no_elements types.boolean e dims xs c = refl
no_elements types.byte e dims xs c = refl
no_elements types.integer e dims xs c = refl
no_elements types.long e dims xs c = refl
no_elements types.currency e dims xs c = refl
no_elements types.str e dims xs c = refl
no_elements _ e dims xs c = absurd (true≢false (sym c))

same_itself : (s : Ty) → covers_type s ≡ true → is_same_type s s ≡ true
same_itself types.boolean c = refl
same_itself types.byte c = refl
same_itself types.integer c = refl
same_itself types.long c = refl
same_itself types.currency c = refl
same_itself types.str c = refl
same_itself _ c = absurd (true≢false (sym c))

-- ---- a place that is written to at once

abbrev with_next : Memory → Memory
with_next w = record w { next = suc w.next }

-- of two changes of one position the last stays
twice : (b : Bool) (x y h : Held) → cond b y (cond b x h) ≡ cond b y h
twice true x y h = refl
twice false x y h = refl

rewritten : (q : Position) (x y : Held) (w : Memory) → with_held q y (with_held q x w) ≡ with_held q y w
rewritten q x y w = ap (λ (h : Position → Held). record w { held = h }) (λ i p. twice (is_same_position q p) x y (w.held p) i)

module _ (ty : Ty) (w : Memory) where
  abbrev q : Position
  q = whole (made w.next)

  abbrev first : Memory
  first = with_held q (single ty (first_scalar ty)) (with_next w)

  abbrev rest : Option Value → Outcome Memory Address
  rest o = then (some_of o (λ x v. store [] x q v) first) (λ u v. gives [] (root (simple ty) q) v)

  -- the value is held in place of the first one
  made_with_scalar : (z : Value6) → covers_type ty ≡ true
      → rest (Some (scalar ty z)) ≡ gives [] (root (simple ty) q) (with_held q (single ty z) (with_next w))
  made_with_scalar z c =
      ap (λ h. then (put_single h q ty z first) (λ u v. gives [] (root (simple ty) q) v))
      (updated_here (with_next w).held q (single ty (first_scalar ty)))
      ∙ ap (λ b. then (provided b (λ v. gives [] tt (with_held q (single ty z) v)) first) (λ u v. gives [] (root (simple ty) q) v)) (same_itself ty c)
      ∙ ap (λ v. gives [] (root (simple ty) q) v) (rewritten q (single ty (first_scalar ty)) (single ty z) (with_next w))

module _ (U : Upgrade) where
  -- a variable that holds a value which matches
  placed_is_made : (K : Pledge) (w : World) (v : ℕ) (ty : Ty) (t : TypeName) (z : Value6) (y : ValueN) → variable_shape U.program.declarations v ≡ simple ty
      → MemoryMatch U w → is_sound_part U (Some v) [] ≡ true → scalar_word ty ≡ Some t → Like w ty z y
      → Agrees U K w (MadeMatch U K v ty t)
      (gives [] (root (simple ty) (whole (made w.src.next))) (with_held (whole (made w.src.next)) (single ty z) (with_next w.src)))
      (gives [] (net.root (shape.scalar t) (whole (made w.net.next)))
      (net.with_cell (whole (made w.net.next)) (net.holds y) (record w.net { next = suc w.net.next })))
  placed_is_made K w v ty t z y shaped h sound e like =
      let l : Later U K w (scalar_made U K w (Some v) ty z y) = scalar_is_made U K w (Some v) ty z y h sound like in
      let m : IsMatched U (with_place w (Some v)) (whole (made w.src.next)) = place_is_matched U w (Some v) sound in
      subst
      (λ k. Agrees U K w (MadeMatch U K v ty t)
      (gives [] (root (simple ty) (whole (made w.src.next))) (with_held (whole (made w.src.next)) (single ty z) (with_next w.src)))
      (gives [] (net.root (shape.scalar t) (whole (made k))) (net.with_cell (whole (made k)) (net.holds y) (record w.net { next = suc w.net.next }))))
      (place_here U w (Some v)) (
        refl,
        (with_place w (Some v)).map,
        made_match U K w v ty t z y shaped e (record { is_made = m.is_made; counterpart = m.counterpart; sound = m.sound }),
        l,
      )

  module _ (K : Pledge) (w0 w : World) (v : ℕ) (ty : Ty) (t : TypeName) (c : covers_type ty ≡ true) (shaped : variable_shape U.program.declarations v ≡ simple ty)
      (later : Later U K w0 w) (sound : is_sound_part U (Some v) [] ≡ true) (e : scalar_word ty ≡ Some t) where
    abbrev Made : net_value.Value → Outcome Memory Address → Type 0
    Made y r = Agrees U K w (MadeMatch U K v ty t) r (net.made_with (shape.scalar t) y w.net)

    same_is_made : (z : Value6) (y : ValueN) → Like w ty z y → Made (net_value.single y) (make_with (simple ty) (scalar ty z) w.src)
    same_is_made z y like =
        left_alone U K w (MadeMatch U K v ty t) (rest ty w.src (kept_as (simple ty) (scalar ty z))) (net.made_with (shape.scalar t) (net_value.single y) w.net)
        (subst (λ o. Made (net_value.single y) (rest ty w.src o)) (sym (kept_scalar (are_same w) ty z y c like))
        (subst (λ r. Made (net_value.single y) r) (sym (made_with_scalar ty w.src z c))
        (subst
        (λ b. Agrees U K w (MadeMatch U K v ty t)
        (gives [] (root (simple ty) (whole (made w.src.next))) (with_held (whole (made w.src.next)) (single ty z) (with_next w.src)))
        (cond b
        (gives [] (net.root (shape.scalar t) (whole (made w.net.next)))
        (net.with_cell (whole (made w.net.next)) (net.holds y) (record w.net { next = suc w.net.next })))
        (outside [])))
        (sym (scalar_of_word (are_same w) ty z y t c e like)) (placed_is_made K w v ty t z y shaped later.match sound e like))))

    none_is_made : (x : Value) (y : net_value.Value) → kept_as (simple ty) x ≡ None → Made y (make_with (simple ty) x w.src)
    none_is_made x y none =
        left_alone U K w (MadeMatch U K v ty t) (rest ty w.src (kept_as (simple ty) x)) (net.made_with (shape.scalar t) y w.net)
        (subst (λ o. Made y (rest ty w.src o)) (sym none) (agrees_outside U K w (MadeMatch U K v ty t) (net.made_with (shape.scalar t) y w.net)))

    value_is_made : (x : Value) (y : net_value.Value) → LikeV U w0 x y → Made y (make_with (simple ty) x w.src)
    value_is_made _ _ (like_scalar s z y like) =
        by_test (is_same_type ty s) (λ b. is_same_type ty s ≡ b → Made (net_value.single y) (make_with (simple ty) (scalar s z) w.src))
        (λ is test. other s (same_covered ty s c is) (matches_more (are_same w0) (are_same w) (same_later w0 w later.extends later.grows) s z y like))
        (λ no test. none_is_made (scalar s z) (net_value.single y) (kept_by ty s z c ∙ ap (λ b. if_of_shape (b && is_typed s z) (scalar s z)) no)) refl
      where
        other : (s : Ty) → s ≡ ty → Like w s z y → Made (net_value.single y) (make_with (simple ty) (scalar s z) w.src)
        other s same l =
            subst (λ u. Made (net_value.single y) (make_with (simple ty) (scalar u z) w.src)) (sym same)
            (same_is_made z y (subst (λ u. Like w u z y) same l))
    value_is_made _ _ (like_fields u xs ys l) = none_is_made (fields u xs) (net_value.fields ys) (no_fields ty u xs c)
    value_is_made _ _ (like_elements d dims xs k l) = none_is_made (elements d dims xs) (net_value.single (n.Array k)) (no_elements ty d dims xs c)

  pub values_are_made : ValuesAreMade U
  values_are_made K w0 w v r t x y e later like =
      subst (λ s. Agrees U K w (MadeMatch U K v r.variable.ty t) (make_with s x w.src) (net.made_with (shape.scalar t) y w.net))
      (sym (readable_shape U v r))
      (value_is_made K w0 w v r.variable.ty t (readable_type U v r) (readable_shape U v r) later (ap not r.sound) e x y like)
