-- A scalar is written to a variable on both sides.
use Rattle.memory_laws.proofs.Elements.{item_agrees}
use Rattle.run_matches.specs.Addresses.{IsInPlace, IsTarget, IsVariable, Same, same_root, same_item}
use Rattle.std.proofs.Common.{◌≡◌, refl, sym, ap, subst, ◌∙◌, inl, inr, ℕ, true, cond, Some, [], ◌∷◌, List}
use Rattle.up_base.proofs.Tests.{by_test}
use Rattle.vb_tree.specs.BoundTree.{Ty}
use Rattle.vb_tree.specs.declared.value.Value6.{Value6}
use Rattle.bound_facts.specs.Locks.{is_same_type}
use Rattle.net_tree.specs.Types.{TypeName}
use Rattle.net_meaning.specs.declared.value.ValueN.{ValueN}
use Rattle.net_meaning.specs.declared.value.ValueN.TheVariants as n
use Rattle.run_base.specs.Outcomes.{gives, outside, some_of}
use Rattle.run_base.specs.Positions.{Position, made, shared, field}
use Rattle.vb6_run.specs.Shapes.{Shape, simple, variable_shape, endless, part_shape}
use Rattle.vb6_run.specs.Store.{Address, root, Locked, Held, blank, single, table, provided, with_held, put_single, store, write, item, constant}
use Rattle.vb6_run.specs.Values.{scalar}
use Rattle.net_run.specs.Shapes as shape
use Rattle.net_run.specs.Store as net
use Rattle.net_run.specs.Values as net_value
use Rattle.run_matches.specs.Kinds.{KeepsKind}
use Rattle.run_matches.specs.Upgrades.{Upgrade}
use Rattle.run_matches.specs.Maps.{World, IsMatched, moved_at}
use Rattle.run_matches.specs.Likeness.{LikeV, like_scalar, Like, are_same, scalar_word, SameShape}
use Rattle.run_matches.specs.Match.{Holds, holds_blank, holds_single, holds_table, holds_parts, MemoryMatch, HasArray}
use Rattle.run_matches.specs.Pledges.{Pledge, Later, IsLasting, IsHeld, IsOld}
use Rattle.run_matches.specs.Agreeing.{Agrees}
use Rattle.run_matches.specs.CoveredVariables.{covers_type}
use Rattle.run_matches.specs.Frames.{HasPlace, IsOwnAddress}
use Rattle.run_statements.specs.Frames.{AnyUnits, ScalarsAreWritten, MayChange}
use Rattle.agreeing_laws.proofs.Agreeing.{agrees_outside}
use Rattle.memory_laws.specs.Changes.{changed, IsNoTable, IsSuited, GoesAlone}
use Rattle.memory_laws.specs.Statements.{ScalarsAreWrittenInPlaces}
use Rattle.memory_laws.proofs.Changes.{changed_later}
use Rattle.memory_laws.proofs.Moved.{field_goes_alone, part_goes_alone, place_goes_alone}
use Rattle.memory_laws.proofs.Positions.{at}
use Rattle.memory_laws.proofs.Reading.{ScalarImage, scalar_image, HasWord, word_of_shape}
use Rattle.memory_laws.proofs.Scalars.{scalar_is_no_array, kept_scalar, scalar_of_word, covered_same}

no_table_in : (t : Ty) (x : Value6) (h : Held) → h ≡ single t x → IsNoTable h
no_table_in t x h e d dims xs f = no_table (sym e ∙ f)
  where
    no_table : single t x ≡ table d dims xs → ⊥
    no_table g = cc

not_blank : (t : Ty) (x : Value6) (h : Held) → h ≡ single t x → h ≡ blank → ⊥
not_blank t x h e f = no_single (sym e ∙ f)
  where
    no_single : single t x ≡ blank → ⊥
    no_single g = cc

module _ (U : Upgrade) (K : Pledge) (w : World) (ty : Ty) (z : Value6) (y : ValueN) (q : Position) (same : (t : Ty) → is_same_type t ty ≡ true → t ≡ ty)
    (h : MemoryMatch U w) (m : IsMatched U w q) (alone : GoesAlone U w q) (free : IsLasting U K w q → IsHeld w q → ⊥) (like : Like w ty z y) where
  single_suits : (t : Ty) (old : Value6) → w.src.held q ≡ single t old → IsSuited U w q (single t z)
  single_suits t old is = record {
    kept = subst (λ k. KeepsKind k (single t z)) (sym is) (z, refl);
    laid = λ r v key at b. absurd (not_blank t old (w.src.held q) is b);
  }

  written_later : (t : Ty) (old : Value6) (before : ValueN) → t ≡ ty → w.src.held q ≡ single t old → w.net.cell (moved_at U w.map q) ≡ net.holds before
      → Like w t old before → Later U K w (changed U w q (single t z) (net.holds y))
  written_later t old before is_type is net_is l =
      changed_later U w q (single t z) (net.holds y) h m alone (holds_single t z y (subst (λ u. Like w u z y) (sym is_type) like))
      (no_table_in t old (w.src.held q) is) (λ k e. scalar_is_no_array (are_same w) t old before l k (sym net_is ∙ e))
      (scalar_is_no_array (are_same w) ty z y like) (single_suits t old is) K free

  typed_agrees : (t : Ty) (old : Value6) (before : ValueN) → w.src.held q ≡ single t old → w.net.cell (moved_at U w.map q) ≡ net.holds before
      → Like w t old before
      → Agrees U K w AnyUnits (provided (is_same_type t ty) (λ v. gives [] tt (with_held q (single t z) v)) w.src)
      (gives [] tt (net.with_cell (moved_at U w.map q) (net.holds y) w.net))
  typed_agrees t old before is net_is l =
      by_test (is_same_type t ty)
      (λ b. Agrees U K w AnyUnits (provided b (λ v. gives [] tt (with_held q (single t z) v)) w.src)
      (gives [] tt (net.with_cell (moved_at U w.map q) (net.holds y) w.net)))
      (λ e. (refl, w.map, tt, written_later t old before (same t e) is net_is l))
      (λ e. agrees_outside U K w AnyUnits (gives [] tt (net.with_cell (moved_at U w.map q) (net.holds y) w.net)))

  pub put_agrees : (x : Held) (d : net.Cell) → w.src.held q ≡ x → w.net.cell (moved_at U w.map q) ≡ d → Holds U w x d
      → Agrees U K w AnyUnits (put_single x q ty z w.src) (net.put d (moved_at U w.map q) y w.net)
  put_agrees _ _ is net_is holds_blank = agrees_outside U K w AnyUnits (net.put net.blank (moved_at U w.map q) y w.net)
  put_agrees _ _ is net_is (holds_single t old before l) = typed_agrees t old before is net_is l
  put_agrees _ _ is net_is (holds_table e dims xs k l) =
      agrees_outside U K w AnyUnits (net.put (net.holds (n.Array k)) (moved_at U w.map q) y w.net)
  put_agrees _ _ is net_is holds_parts = agrees_outside U K w AnyUnits (net.put net.structure (moved_at U w.map q) y w.net)

  -- a value of the type is written
  pub value_is_written : (locked : Locked) (t : TypeName) → covers_type ty ≡ true → scalar_word ty ≡ Some t
      → Agrees U K w AnyUnits (write locked (scalar ty z) (root (simple ty) q) w.src)
      (net.written (net.root (shape.scalar t) (moved_at U w.map q)) (net_value.single y) w.net)
  value_is_written locked t c e =
      subst
      (λ o. Agrees U K w AnyUnits (some_of o (λ x v. store locked x q v) w.src)
      (net.written (net.root (shape.scalar t) (moved_at U w.map q)) (net_value.single y) w.net))
      (sym (kept_scalar (are_same w) ty z y c like))
      (subst
      (λ b. Agrees U K w AnyUnits (put_single (w.src.held q) q ty z w.src)
      (cond b (net.put (w.net.cell (moved_at U w.map q)) (moved_at U w.map q) y w.net) (outside [])))
      (sym (scalar_of_word (are_same w) ty z y t c e like))
      (put_agrees (w.src.held q) (w.net.cell (moved_at U w.map q)) refl refl (h.stores.values q m)))

module _ (U : Upgrade) where
  like_is_written : (K : Pledge) (w : World) (locked : Locked) (ty : Ty) (z : Value6) (y : net_value.Value) (q : Position) (t : TypeName)
      → covers_type ty ≡ true → MemoryMatch U w → IsMatched U w q → GoesAlone U w q → (IsLasting U K w q → IsHeld w q → ⊥) → scalar_word ty ≡ Some t
      → LikeV U w (scalar ty z) y
      → Agrees U K w AnyUnits (write locked (scalar ty z) (root (simple ty) q) w.src)
      (net.written (net.root (shape.scalar t) (moved_at U w.map q)) y w.net)
  like_is_written K w locked _ _ _ q t c h m alone free e (like_scalar ty z y l) =
      value_is_written U K w ty z y q (λ s x. covered_same s ty c x) h m alone free l locked t c e

  -- where no other position goes to where the variable stands
  image_is_written : (K : Pledge) (w : World) (a : Address) (b : net.Address) (locked : Locked) (ty : Ty) (z : Value6) (y : net_value.Value)
      → covers_type ty ≡ true → MemoryMatch U w → (i : ScalarImage U w ty a b) → GoesAlone U w i.position → MayChange K a → LikeV U w (scalar ty z) y
      → Agrees U K w AnyUnits (write locked (scalar ty z) a w.src) (net.written b y w.net)
  image_is_written K w a b locked ty z y c h i alone own like =
      subst (λ x. Agrees U K w AnyUnits (write locked (scalar ty z) x w.src) (net.written b y w.net)) (sym i.at_source)
      (subst (λ x. Agrees U K w AnyUnits (write locked (scalar ty z) (root (simple ty) i.position) w.src) (net.written x y w.net)) (sym i.at_target)
      (like_is_written K w locked ty z y i.position i.type_name c h i.is_matched alone
      (λ l x. subst (λ u. IsOwnAddress K u) i.at_source (own l.steady) i.position refl l.old) i.is_name like))

  same_in : (s t : Shape) (q r : Position) → root s q ≡ root t r → q ≡ r
  same_in s t q r e = cc

  target_alone : (w : World) (ty : Ty) (a : Address) (b : net.Address) → MemoryMatch U w → (i : ScalarImage U w ty a b) → IsVariable U a
      → GoesAlone U w i.position
  target_alone w ty a b h i (inl p) =
      let s : i.position ≡ at (made p.place) p.path = same_in (simple ty) p.shape i.position (at (made p.place) p.path) (sym i.at_source ∙ p.stands) in
      subst (λ x. GoesAlone U w x) (sym s) (place_goes_alone U w h.stores p.place p.path (subst (λ x. IsMatched U w x) s i.is_matched))
  target_alone w ty a b h i (inr (inl k)) =
      let q : Position = at (shared (k.variable ∷ [])) k.path in
      let s : i.position ≡ q = same_in (simple ty) k.of_shape i.position q (sym i.at_source ∙ k.stands) in
      subst (λ x. GoesAlone U w x) (sym s) (part_goes_alone U w k.variable k.key k.is_key k.differs k.path)
  target_alone w ty a b h i (inr (inr k)) =
      let q : Position = at (field k.object (k.variable ∷ [])) k.path in
      let s : i.position ≡ q = same_in (simple ty) k.of_shape i.position q (sym i.at_source ∙ k.stands) in
      let m : IsMatched U w q = subst (λ x. IsMatched U w x) s i.is_matched in
      subst (λ x. GoesAlone U w x) (sym s) (field_goes_alone U w h.stores k.object k.variable k.key k.is_key k.differs m.is_made k.path)

  -- a root is no element
  root_is_variable : (ty : Ty) (q : Position) (a : Address) → a ≡ root (simple ty) q → IsTarget U a → IsVariable U a
  root_is_variable ty q a e (inl v) = v
  root_is_variable ty q a e (inr x) = absurd (no_item x.ty ty x.array q x.index (sym x.stands ∙ e))
    where
      no_item : (s t : Ty) (q p : Position) (j : ℕ) → item (simple s) q j [] ≡ root (simple t) p → ⊥
      no_item s t q p j f = cc

  variable_is_written : (K : Pledge) (w : World) (a : Address) (b : net.Address) (locked : Locked) (ty : Ty) (z : Value6) (y : net_value.Value)
      → covers_type ty ≡ true → MemoryMatch U w → Same U K w a b → ((q : Position) × (a ≡ root (simple ty) q)) → IsTarget U a → MayChange K a
      → LikeV U w (scalar ty z) y → Agrees U K w AnyUnits (write locked (scalar ty z) a w.src) (net.written b y w.net)
  variable_is_written K w a b locked ty z y c h same at goes own like =
      let i : ScalarImage U w ty a b = scalar_image U K w ty a b c same at in
      image_is_written K w a b locked ty z y c h i (target_alone w ty a b h i (root_is_variable ty at.0 a at.1 goes)) own like

  -- an element of an array
  element_of_like : (K : Pledge) (w : World) (locked : Locked) (ty : Ty) (z : Value6) (y : net_value.Value) (q : Position) (k j : ℕ) (d : shape.Shape)
      → covers_type ty ≡ true → MemoryMatch U w → IsMatched U w q → HasArray U w q (simple ty) k → (K.steady → IsOld K q.root → ⊥)
      → SameShape U (simple ty) d → LikeV U w (scalar ty z) y
      → Agrees U K w AnyUnits (write locked (scalar ty z) (item (simple ty) q j []) w.src) (net.written (net.item d k j []) y w.net)
  element_of_like K w locked _ _ _ q k j d c h m has own same (like_scalar ty z y like) =
      let t : HasWord ty d = word_of_shape U ty d c same in
      subst (λ s. Agrees U K w AnyUnits (write locked (scalar ty z) (item (simple ty) q j []) w.src) (net.written (net.item s k j []) (net_value.single y) w.net))
      (sym t.1) (item_agrees U K w ty z y h q k m has own like j locked t.0 c t.2)

  item_is_written : (K : Pledge) (w : World) (a : Address) (b : net.Address) (locked : Locked) (ty : Ty) (z : Value6) (y : net_value.Value) (p : Position)
      (i : ℕ) → covers_type ty ≡ true → MemoryMatch U w → a ≡ item (simple ty) p i [] → Same U K w a b → MayChange K a → LikeV U w (scalar ty z) y
      → Agrees U K w AnyUnits (write locked (scalar ty z) a w.src) (net.written b y w.net)
  item_is_written K w _ _ locked ty z y p i c h at (same_root s d q sh m r) own like = absurd (cc at)
  item_is_written K w _ _ locked ty z y p i c h at (same_item e s d q k j path keeps m has part sh) own like =
      let of : e ≡ simple ty = ap element_in at in
      let inside : path ≡ [] = ap path_in at in
      let shaped : s ≡ simple ty = some_shape (sym part ∙ (ap (λ x. part_shape x e) inside ∙ ap (λ x. Some x) of)) in
      subst (λ x. Agrees U K w AnyUnits (write locked (scalar ty z) (item e q j x) w.src) (net.written (net.item d k j x) y w.net)) (sym inside)
      (subst (λ x. Agrees U K w AnyUnits (write locked (scalar ty z) (item x q j []) w.src) (net.written (net.item d k j []) y w.net)) (sym of)
      (element_of_like K w locked ty z y q k j d c h m (subst (λ x. HasArray U w q x k) of has) (λ steady old. own steady q refl old)
      (subst (λ x. SameShape U x d) shaped sh) like))
    where
      element_in : Address → Shape
      element_in (root s q) = s
      element_in (item e q j path) = e
      element_in (constant x) = endless

      path_in : Address → List ℕ
      path_in (root s q) = []
      path_in (item e q j path) = path
      path_in (constant x) = []

      some_shape : {s t : Shape} → Some s ≡ Some t → s ≡ t
      some_shape f = cc f

  pub scalars_are_written_in_places : ScalarsAreWrittenInPlaces U
  scalars_are_written_in_places K w a b locked ty z y c h same (q, inl e) goes own like =
      variable_is_written K w a b locked ty z y c h same (q, e) goes own like
  scalars_are_written_in_places K w a b locked ty z y c h same (q, inr x) goes own like =
      item_is_written K w a b locked ty z y q x.0 c h x.1 same own like

  pub scalars_are_written : ScalarsAreWritten U
  scalars_are_written = scalars_are_written_in_places

-- the place of a variable
pub is_in_place : (U : Upgrade) (w : World) (v : ℕ) (a : Address) → HasPlace U w v a → IsInPlace a
is_in_place U w v a p = record { place = p.place; shape = variable_shape U.program.declarations v; path = []; stands = p.stands }
