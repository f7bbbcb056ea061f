-- The shape of an As New variable, which is set on both sides. A steady procedure may do so too: what lasts is no As New variable.
use Rattle.std.proofs.Common.{◌≡◌, refl, sym, ap, subst, ◌∙◌, inr, ℕ, true, cond, Option, None, Some, List, [], true≢false}
use Rattle.vb_tree.specs.BoundTree as types
use Rattle.vb_tree.specs.declared.value.Value6.{Value6}
use Rattle.net_tree.specs.Types.{TypeName}
use Rattle.run_base.specs.Outcomes.{outside, some_of}
use Rattle.run_base.specs.Positions.{Position}
use Rattle.vb6_run.specs.Shapes.{Shape, declared_shape, shape_by, simple, user_shapes, variable_shape}
use Rattle.vb6_run.specs.Store.{Address, root, item, Locked, store, write}
use Rattle.vb6_run.specs.Values.{scalar}
use Rattle.net_run.specs.Shapes as shape
use Rattle.net_run.specs.Store as net
use Rattle.net_run.specs.Values as net_value
use Rattle.run_matches.specs.Upgrades.{Upgrade, type_of_some}
use Rattle.run_matches.specs.Maps.{World, IsMatched, is_auto_root, moved_at}
use Rattle.run_matches.specs.Match.{MemoryMatch}
use Rattle.run_matches.specs.Likeness.{SameShape, same_array, same_class, same_group, same_scalar, scalar_word, LikeV, like_scalar}
use Rattle.run_matches.specs.Pledges.{Pledge, type_of_shape}
use Rattle.run_matches.specs.Addresses.{IsTarget, Same, same_item, same_root}
use Rattle.run_matches.specs.Agreeing.{Agrees}
use Rattle.run_matches.specs.SoundShapes.{IsSoundShape}
use Rattle.run_statements.specs.Autos.{AutosAreSet}
use Rattle.run_statements.specs.Frames.{AnyUnits, IsAutoOf}
use Rattle.agreeing_laws.proofs.Moves.{matched_whole}
use Rattle.agreeing_laws.proofs.SoundParts.{part_type}
use Rattle.memory_laws.proofs.GroupValues.{value_kept, value_suits}
use Rattle.memory_laws.proofs.GroupWriting.{StandsAlone, target_stands_alone}
use Rattle.memory_laws.proofs.SimpleShapes.{simple_same}
use Rattle.memory_laws.proofs.Writing.{put_agrees}

-- ---- its shape

-- a variable of a class has a written shape where the class is written
class_sound : (U : Upgrade) (c : ℕ) (s : Shape) (d : shape.Shape) → s ≡ simple (types.class c) → SameShape U s d → IsSoundShape U s
class_sound U c _ _ e (same_scalar ty t word) = absurd (no_word t (sym (ap word_in e) ∙ word))
  where
    word_in : Shape → Option TypeName
    word_in (simple ty) = scalar_word ty
    word_in s = None

    no_word : (t : TypeName) → None ≡ Some t → ⊥
    no_word t f = cc
class_sound U c _ _ e (same_class k home is) = inr (k, home, refl, is)
class_sound U c _ _ e (same_group t home member fs gs is sh) = cc
class_sound U c _ _ e (same_array f bounds d rank sh) = cc

module _ (U : Upgrade) (v class : ℕ) (r : IsAutoOf U v class) where
  pub auto_shape_is : variable_shape U.program.declarations v ≡ simple (types.class class)
  auto_shape_is =
      ap (declared_shape (user_shapes U.program.declarations)) r.is_variable
      ∙ ap (shape_by (user_shapes U.program.declarations) r.variable.bounds) r.is_type

  pub auto_sound : (d : shape.Shape) → SameShape U (variable_shape U.program.declarations v) d
      → IsSoundShape U (variable_shape U.program.declarations v)
  auto_sound d sh = class_sound U class (variable_shape U.program.declarations v) d auto_shape_is sh

  pub auto_type : part_type U v [] ≡ Some (type_of_shape (variable_shape U.program.declarations v))
  auto_type =
      ap type_of_some r.is_variable ∙ (ap (λ z. Some z) r.is_type ∙ ap (λ s. Some (type_of_shape s)) (sym auto_shape_is))

-- ---- it is set

module _ (U : Upgrade) (K : Pledge) (w : World) (class : ℕ) (locked : Locked) where
  object_is_set : (d : shape.Shape) (q : Position) (x : Value6) (y : net_value.Value) → MemoryMatch U w → SameShape U (simple (types.class class)) d
      → IsMatched U w q → StandsAlone U q.root → is_auto_root U w.map q.root ≡ true → LikeV U w (scalar (types.class class) x) y
      → Agrees U K w AnyUnits (write locked (scalar (types.class class) x) (root (simple (types.class class)) q) w.src)
      (net.written (net.root d (moved_at U w.map q)) y w.net)
  object_is_set d q _ _ h sh m alone auto (like_scalar ty x y l) =
      let p : Position = moved_at U w.map q in
      let c : IsSoundShape U (simple (types.class class)) = class_sound U class (simple (types.class class)) d refl sh in
      subst
      (λ o. Agrees U K w AnyUnits (some_of o (λ z v. store locked z q v) w.src) (net.written (net.root d p) (net_value.single y) w.net))
      (sym (value_kept U w (simple (types.class class)) (scalar (types.class class) x) (net_value.single y) c refl (like_scalar (types.class class) x y l)))
      (subst
      (λ b. Agrees U K w AnyUnits (store locked (scalar (types.class class) x) q w.src) (cond b (net.stored (net_value.single y) p w.net) (outside [])))
      (sym
      (value_suits U w (simple (types.class class)) d (scalar (types.class class) x) (net_value.single y) c sh refl (like_scalar (types.class class) x y l)))
      (put_agrees U K w (types.class class) x y q (λ t s. simple_same U t (types.class class) c s) h m (alone w h.stores q.path m)
      (λ lasts held. true≢false (sym auto ∙ lasts.plain)) l (w.src.held q) (w.net.cell p) refl refl (h.stores.values q m)))

  same_shape : (s t : Shape) (q p : Position) → root s q ≡ root t p → s ≡ t
  same_shape s t q p e = cc

  same_place : (s t : Shape) (q p : Position) → root s q ≡ root t p → p ≡ q
  same_place s t q p e = cc

  no_item : (e : Shape) (q : Position) (j : ℕ) (path : List ℕ) (s : Shape) (p : Position) → item e q j path ≡ root s p → ⊥
  no_item e q j path s p x = cc

  root_is_set : (a : Address) (b : net.Address) (q : Position) (x : Value6) (y : net_value.Value) → MemoryMatch U w
      → a ≡ root (simple (types.class class)) q → Same U K w a b → IsTarget U a → is_auto_root U w.map q.root ≡ true
      → LikeV U w (scalar (types.class class) x) y
      → Agrees U K w AnyUnits (write locked (scalar (types.class class) x) a w.src) (net.written b y w.net)
  root_is_set _ _ q x y h at (same_root s d p sh m r) target auto like =
      let is : s ≡ simple (types.class class) = same_shape s (simple (types.class class)) p q at in
      subst
      (λ t. Agrees U K w AnyUnits (write locked (scalar (types.class class) x) (root t p) w.src) (net.written (net.root d (moved_at U w.map p)) y w.net))
      (sym is)
      (object_is_set d p x y h (subst (λ t. SameShape U t d) is sh) (matched_whole U w s p m) (target_stands_alone U s p target)
      (subst (λ z. is_auto_root U w.map z.root ≡ true) (same_place s (simple (types.class class)) p q at) auto) like)
  root_is_set _ _ q x y h at (same_item e s d p k j path keeps m has part sh) target auto like =
      absurd (no_item e p j path (simple (types.class class)) q at)

pub autos_are_set : (U : Upgrade) → AutosAreSet U
autos_are_set U K w class a b locked x y h m like = root_is_set U K w class locked a b m.position x y h m.stands m.same m.target m.is_auto like
