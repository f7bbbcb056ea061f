-- A scalar variable is read on both sides.
use Rattle.std.proofs.Common.{◌≡◌, refl, sym, ap, subst, ◌∙◌, ℕ, Bool, true, false, Option, Some, None, List, [], true≢false}
use Rattle.up_base.proofs.Tests.{by_test}
use Rattle.vb_tree.specs.BoundTree.{Ty}
use Rattle.vb_tree.specs.declared.value.Value6.{Value6}
use Rattle.bound_facts.specs.Locks.{is_same_type}
use Rattle.net_tree.specs.Types.{TypeName}
use Rattle.run_base.specs.Outcomes.{gives, found}
use Rattle.run_base.specs.Positions.{Position}
use Rattle.vb6_run.specs.Shapes.{Shape, simple, endless}
use Rattle.vb6_run.specs.Store.{Address, root, item, constant, Held, blank, single, table, parts, value_if, single_in, held_at, read}
use Rattle.vb6_run.specs.Values.{Value, scalar}
use Rattle.net_run.specs.Expressions as target
use Rattle.net_run.specs.Shapes as shape
use Rattle.net_run.specs.Store as net
use Rattle.net_run.specs.Values as net_value
use Rattle.run_matches.specs.Upgrades.{Upgrade}
use Rattle.run_matches.specs.Maps.{World, IsMatched, moved_at}
use Rattle.run_matches.specs.Match.{Holds, holds_blank, holds_single, holds_table, holds_parts, MemoryMatch}
use Rattle.run_matches.specs.Likeness.{SameShape, same_scalar, same_class, scalar_word, LikeV, like_scalar}
use Rattle.run_matches.specs.Pledges.{Pledge}
use Rattle.run_matches.specs.Addresses.{Same, same_root, same_item, images, mirrored, HoldsSame}
use Rattle.run_matches.specs.Agreeing.{Agrees}
use Rattle.run_matches.specs.CoveredVariables.{covers_type}
use Rattle.run_statements.specs.Frames.{ScalarMatch}
use Rattle.agreeing_laws.proofs.Lasting.{later_now}
use Rattle.agreeing_laws.specs.Promises.{Follows, from_none, from_some}
use Rattle.agreeing_laws.proofs.Moves.{matched_whole}
use Rattle.agreeing_laws.proofs.Agreeing.{agrees_outside, agrees_gives}
use Rattle.memory_laws.specs.Statements.{VariablesAreRead}
use Rattle.memory_laws.proofs.Scalars.{same_covered}

-- ---- a scalar's address

abbrev shape_in : Address → Shape
shape_in (root s q) = s
shape_in (item e q j path) = endless
shape_in (constant x) = endless

-- the image of the address of a scalar variable
pub record ScalarImage (U : Upgrade) (w : World) (ty : Ty) (a : Address) (b : net.Address) : Type 0 where
  pub position : Position
  pub type_name : TypeName
  pub at_source : a ≡ root (simple ty) position
  pub at_target : b ≡ net.root (shape.scalar type_name) (moved_at U w.map position)
  pub is_name : scalar_word ty ≡ Some type_name
  pub is_matched : IsMatched U w position

abbrev pub HasWord : Ty → shape.Shape → Type 0
HasWord ty d = (t : TypeName) × (d ≡ shape.scalar t) × (scalar_word ty ≡ Some t)

pub word_of_shape : (U : Upgrade) (ty : Ty) (d : shape.Shape) → covers_type ty ≡ true → SameShape U (simple ty) d → HasWord ty d
word_of_shape U _ _ c (same_scalar ty t e) = (t, refl, e)
word_of_shape U _ _ c (same_class k home e) = absurd (true≢false (sym c))

pub scalar_image : (U : Upgrade) (K : Pledge) (w : World) (ty : Ty) (a : Address) (b : net.Address) → covers_type ty ≡ true → Same U K w a b
    → ((q : Position) × (a ≡ root (simple ty) q)) → ScalarImage U w ty a b
scalar_image U K w ty _ _ c (same_root s d q sh m r) at =
    let e : s ≡ simple ty = ap shape_in at.1 in
    let h : HasWord ty d = word_of_shape U ty d c (subst (λ z. SameShape U z d) e sh) in
    record {
      position = q;
      type_name = h.0;
      at_source = ap (λ z. root z q) e;
      at_target = ap (λ z. net.root z (moved_at U w.map q)) h.1;
      is_name = h.2;
      is_matched = matched_whole U w s q m;
    }
scalar_image U K w ty _ _ c (same_item e s d q k j path keeps m has part sh) at = absurd (no_root e q j path (simple ty) at.0 at.1)
  where
    no_root : (e : Shape) (q : Position) (j : ℕ) (path : List ℕ) (s : Shape) (p : Position) → item e q j path ≡ root s p → ⊥
    no_root e q j path s p x = cc

-- ---- what is there

single_there : (ty t : Ty) (x : Value6) (v : Value) → covers_type ty ≡ true → value_if (is_same_type ty t) (scalar t x) ≡ Some v → v ≡ scalar ty x
single_there ty t x v c =
    by_test (is_same_type ty t) (λ b. value_if b (scalar t x) ≡ Some v → v ≡ scalar ty x)
    (λ y e. from_value (scalar t x) v e ∙ ap (λ z. scalar z x) (same_covered ty t c y)) (λ y e. absurd (no_value (scalar t x) e))
  where
    from_value : (u v : Value) → Some u ≡ Some v → v ≡ u
    from_value u v e = cc

    no_value : (u : Value) → None ≡ Some v → ⊥
    no_value u e = cc

-- what is read in a held scalar is one of the type
pub scalar_there : (ty : Ty) (h : Held) (v : Value) → covers_type ty ≡ true → single_in ty h ≡ Some v → (z : Value6) × (v ≡ scalar ty z)
scalar_there ty blank v c e = cc
scalar_there ty (single t x) v c e = (x, single_there ty t x v c e)
scalar_there ty (table d dims xs) v c e = cc
scalar_there ty parts v c e = cc

module _ (U : Upgrade) where
  value_follows : (w : World) (ty t : Ty) (x : Value6) (y : net_value.Value) (b : Bool) → (b ≡ true → t ≡ ty) → LikeV U w (scalar t x) y
      → Follows (ScalarMatch U ty w) (value_if b (scalar t x)) (Some y)
  value_follows w ty t x y true same l =
      from_some (scalar t x) y (x, ap (λ z. scalar z x) (same refl), subst (λ z. LikeV U w (scalar z x) y) (same refl) l)
  value_follows w ty t x y false same l = from_none (Some y)

  held_follows : (w : World) (ty : Ty) (h : Held) (c : net.Cell) → covers_type ty ≡ true → Holds U w h c
      → Follows (ScalarMatch U ty w) (single_in ty h) (Some (net.held c))
  held_follows w ty _ _ c holds_blank = from_none (Some (net.held net.blank))
  held_follows w ty _ _ c (holds_single t x y m) =
      value_follows w ty t x (net_value.single y) (is_same_type ty t) (λ e. same_covered ty t c e) (like_scalar t x y m)
  held_follows w ty _ _ c (holds_table e dims xs k l) = from_none _
  held_follows w ty _ _ c holds_parts = from_none _

  found_follows : (K : Pledge) (w : World) (ty : Ty) (o : Option Value) (y : net_value.Value) → MemoryMatch U w → Follows (ScalarMatch U ty w) o (Some y)
      → Agrees U K w (ScalarMatch U ty) (found o w.src) (gives [] y w.net)
  found_follows K w ty o y h (from_none b) = agrees_outside U K w (ScalarMatch U ty) (gives [] y w.net)
  found_follows K w ty o y h (from_some x z q) = agrees_gives U K w (ScalarMatch U ty) x y h q

  -- ---- images

  image_is_read : (K : Pledge) (w : World) (ty : Ty) (a : Address) (b : net.Address) → covers_type ty ≡ true → MemoryMatch U w → ScalarImage U w ty a b
      → Agrees U K w (ScalarMatch U ty) (read a w.src) (target.read b w.net)
  image_is_read K w ty a b c h i =
      subst (λ z. Agrees U K w (ScalarMatch U ty) (read z w.src) (target.read b w.net)) (sym i.at_source)
      (subst (λ z. Agrees U K w (ScalarMatch U ty) (read (root (simple ty) i.position) w.src) (target.read z w.net)) (sym i.at_target)
      (found_follows K w ty (single_in ty (w.src.held i.position)) (net.held (w.net.cell (moved_at U w.map i.position))) h
      (held_follows w ty (w.src.held i.position) (w.net.cell (moved_at U w.map i.position)) c (h.stores.values i.position i.is_matched))))

  -- ---- values alone

  known_is_read : (K : Pledge) (w : World) (ty : Ty) (q : Position) (v : Value) (b : net.Address) → covers_type ty ≡ true → MemoryMatch U w
      → single_in ty (w.src.held q) ≡ Some v → LikeV U w v (net.looked_up b w.net)
      → Agrees U K w (ScalarMatch U ty) (read (root (simple ty) q) w.src) (target.read b w.net)
  known_is_read K w ty q v b c h e l =
      let s : (z : Value6) × (v ≡ scalar ty z) = scalar_there ty (w.src.held q) v c e in
      subst (λ o. Agrees U K w (ScalarMatch U ty) (found o w.src) (target.read b w.net)) (sym e)
      (agrees_gives U K w (ScalarMatch U ty) v (net.looked_up b w.net) h
      (s.0, s.1, subst (λ z. LikeV U w z (net.looked_up b w.net)) s.1 l))

  pub variables_are_read : VariablesAreRead U
  variables_are_read K w exact a b ty c h (images _ _ _ same) at = image_is_read K w ty a b c h (scalar_image U K w ty a b c same at)
  variables_are_read K w exact a b ty c h (mirrored _ _ m) at =
      let same : HoldsSame U w a b = m.holds w (later_now U K w h) in
      subst (λ z. Agrees U K w (ScalarMatch U ty) (read z w.src) (target.read b w.net)) (sym at.1)
      (known_is_read K w ty at.0 same.value b c h (subst (λ z. held_at z w.src.held ≡ Some same.value) at.1 same.source) same.like)
