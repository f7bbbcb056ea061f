-- Variables of user types are given values as a whole, field by field, and those of classes objects.
use Rattle.std.proofs.Common.{◌≡◌, refl, sym, ap, subst, ◌∙◌, inl, inr, ℕ, suc, true, false, not, cond, List, [], ◌∷◌, true≢false}
use Rattle.vb_tree.specs.BoundTree.{Ty}
use Rattle.vb_tree.specs.declared.value.Value6.{Value6}
use Rattle.net_meaning.specs.declared.value.ValueN.{ValueN}
use Rattle.net_meaning.specs.ValueMatch.{Matches}
use Rattle.run_base.specs.Outcomes.{outside, some_of, then}
use Rattle.run_base.specs.Positions.{Root, Position, inner, made, shared, field}
use Rattle.vb6_run.specs.Shapes.{Shape, simple, group, array, endless, Shapes, no_shapes, next_shape}
use Rattle.vb6_run.specs.Store.{root, item, Locked, provided, is_fixed_array, store, store_all, write}
use Rattle.vb6_run.specs.Values.{Value, scalar, fields, Values, no_values, next_value, kept_as}
use Rattle.net_run.specs.Shapes as shape
use Rattle.net_run.specs.Store as net
use Rattle.net_run.specs.Values as net_value
use Rattle.run_matches.specs.Upgrades.{Upgrade, is_flagged_field}
use Rattle.run_matches.specs.Maps.{World, IsMade, IsMatched, mark, moved_at}
use Rattle.run_matches.specs.Match.{MemoryMatch, StoreMatch}
use Rattle.run_matches.specs.Likeness.{SameShape, LikeV, like_scalar, like_fields, like_elements, FieldsLike, like_none, like_field, like_flagged, are_same, numbers_of}
use Rattle.run_matches.specs.Pledges.{IsOld, Later, Pledge, type_of_shape}
use Rattle.run_matches.specs.Addresses.{AllMatched, FieldsMatched, IsTarget, Same, same_root}
use Rattle.run_matches.specs.Agreeing.{Agrees}
use Rattle.run_matches.specs.SoundShapes.{IsSoundShape, AreSoundShapes}
use Rattle.run_statements.specs.Frames.{AnyUnits}
use Rattle.run_matches.specs.Kinds.{IsValueOf, AreValuesOf}
use Rattle.run_statements.specs.Groups.{GroupsAreWritten}
use Rattle.agreeing_laws.proofs.Agreeing.{agrees_gives, then_agrees}
use Rattle.agreeing_laws.proofs.Made.{made_more, same_at}
use Rattle.agreeing_laws.proofs.Moves.{fields_matched_later, matched_whole}
use Rattle.memory_laws.specs.Changes.{GoesAlone}
use Rattle.memory_laws.proofs.GroupValues.{value_kept, value_suits, values_later}
use Rattle.memory_laws.proofs.Groups.{field_sound, unflagged}
use Rattle.memory_laws.proofs.Moved.{field_goes_alone, part_goes_alone, place_goes_alone}
use Rattle.memory_laws.proofs.Positions.{at}
use Rattle.memory_laws.proofs.SimpleShapes.{simple_same}
use Rattle.memory_laws.proofs.Writing.{put_agrees}

-- no other position goes to where the parts of a root stand
abbrev pub StandsAlone : Upgrade → Root → Type 0
StandsAlone U r = (w : World) → StoreMatch U w → (path : List ℕ) → IsMatched U w (at r path) → GoesAlone U w (at r path)

same_root_of : (s t : Shape) (q p : Position) → root s q ≡ root t p → q.root ≡ p.root
same_root_of s t q p e = ap (λ (z : Position). z.root) (same_place s t q p e)
  where
    same_place : (s t : Shape) (q p : Position) → root s q ≡ root t p → q ≡ p
    same_place s t q p e = cc

pub target_stands_alone : (U : Upgrade) (s : Shape) (q : Position) → IsTarget U (root s q) → StandsAlone U q.root
target_stands_alone U s q (inl (inl p)) =
    subst (λ r. StandsAlone U r) (sym (same_root_of s p.shape q (at (made p.place) p.path) p.stands)) (λ w h path m. place_goes_alone U w h p.place path m)
target_stands_alone U s q (inl (inr (inl k))) =
    subst (λ r. StandsAlone U r) (sym (same_root_of s k.of_shape q (at (shared (k.variable ∷ [])) k.path) k.stands))
    (λ w h path m. part_goes_alone U w k.variable k.key k.is_key k.differs path)
target_stands_alone U s q (inl (inr (inr k))) =
    subst (λ r. StandsAlone U r) (sym (same_root_of s k.of_shape q (at (field k.object (k.variable ∷ [])) k.path) k.stands))
    (λ w h path m. field_goes_alone U w h k.object k.variable k.key k.is_key k.differs m.is_made path)
target_stands_alone U s q (inr x) = absurd (no_item x.ty x.array x.index s q (sym x.stands))
  where
    no_item : (t : Ty) (p : Position) (j : ℕ) (s : Shape) (q : Position) → item (simple t) p j [] ≡ root s q → ⊥
    no_item t p j s q f = cc

module _ (U : Upgrade) (K : Pledge) (locked : Locked) where
  scalar_stored : (w : World) (ty s : Ty) (z : Value6) (y : ValueN) (q : Position) → MemoryMatch U w → IsSoundShape U (simple ty) → s ≡ ty → IsMatched U w q
      → StandsAlone U q.root → (K.steady → IsOld K q.root → ⊥) → Matches (are_same w) s z y
      → Agrees U K w AnyUnits (store locked (scalar s z) q w.src) (net.stored (net_value.single y) (moved_at U w.map q) w.net)
  scalar_stored w ty s z y q h c e m alone free l =
      put_agrees U K w s z y q (λ t x. simple_same U t s (subst (λ u. IsSoundShape U (simple u)) (sym e) c) x) h m (alone w h.stores q.path m)
      (λ lasts held. free lasts.steady lasts.old) l (w.src.held q) (w.net.cell (moved_at U w.map q)) refl refl (h.stores.values q m)

  mutual
    pub value_stored : (w : World) (s : Shape) (q : Position) (x : Value) (y : net_value.Value) → MemoryMatch U w → IsSoundShape U s → AllMatched U w s q
        → StandsAlone U q.root → (K.steady → IsOld K q.root → ⊥) → IsValueOf s x → LikeV U w x y
        → Agrees U K w AnyUnits (store locked x q w.src) (net.stored y (moved_at U w.map q) w.net)
    value_stored w (simple ty) q _ _ h c m alone free of (like_scalar s z y l) = scalar_stored w ty s z y q h c of m.0 alone free l
    value_stored w (simple ty) q _ _ h c m alone free of (like_fields u xs ys l) = absurd of
    value_stored w (simple ty) q _ _ h c m alone free of (like_elements e dims xs j l) = absurd of
    value_stored w (group t fs) q _ _ h c m alone free of (like_scalar s z y l) = absurd of
    value_stored w (group t fs) q _ _ h c m alone free of (like_fields u xs ys l) =
        values_stored w t 0 fs q xs ys h c m.0.is_made m.2 alone free of.1 (subst (λ z. FieldsLike U (numbers_of w) z 0 xs ys) of.0 l)
    value_stored w (group t fs) q _ _ h c m alone free of (like_elements e dims xs j l) = absurd of
    value_stored w (array f bounds) q x y h c m alone free of l = absurd c
    value_stored w endless q x y h c m alone free of l = absurd c

    values_stored : (w : World) (t k : ℕ) (fs : Shapes) (q : Position) (xs : Values) (ys : net_value.Values) → MemoryMatch U w → AreSoundShapes U t k fs
        → IsMade (mark w.src) q.root → FieldsMatched U w t k fs q → StandsAlone U q.root → (K.steady → IsOld K q.root → ⊥) → AreValuesOf fs xs
        → FieldsLike U (numbers_of w) t k xs ys
        → Agrees U K w AnyUnits (store_all locked xs q k w.src) (net.all_stored ys (moved_at U w.map q) k w.net)
    values_stored w t k no_shapes q _ _ h c there m alone free of (like_none _ _) = agrees_gives U K w AnyUnits tt tt h tt
    values_stored w t k (next_shape s rest) q _ _ h c there m alone free of (like_none _ _) = absurd of
    values_stored w t k no_shapes q _ _ h c there m alone free of (like_field _ _ x y xs ys l ranked more) = absurd of
    values_stored w t k (next_shape s rest) q _ _ h c there m alone free of (like_field _ _ x y xs ys l ranked more) =
        then_agrees U K w AnyUnits AnyUnits (store locked x (inner q k) w.src) (net.stored y (inner (moved_at U w.map q) k) w.net)
        (λ u v. store_all locked xs q (suc k) v) (λ u v. net.all_stored ys (moved_at U w.map q) (suc k) v) h
        (value_stored w s (inner q k) x y h c.1 (unflagged (is_flagged_field U t k) (field_sound U t k (type_of_shape s) c.0) m.0) alone free of.0 l)
        (λ a b v r lat.
        subst (λ p. Agrees U K v AnyUnits (store_all locked xs q (suc k) v.src) (net.all_stored ys p (suc k) v.net)) (same_at U w v lat.extends q there)
        (values_stored v t (suc k) rest q xs ys lat.match c.2 (made_more (mark w.src) (mark v.src) lat.grows q.root there)
        (fields_matched_later U K w v lat t (suc k) rest q m.1) alone free of.1 (values_later U K w v lat t (suc k) rest xs ys c.2 of.1 more)))
    values_stored w t k no_shapes q _ _ h c there m alone free of (like_flagged _ _ x y xs ys flagged more) = absurd of
    values_stored w t k (next_shape s rest) q _ _ h c there m alone free of (like_flagged _ _ x y xs ys flagged more) =
        absurd (true≢false (sym flagged ∙ field_sound U t k (type_of_shape s) c.0))

pub not_fixed : (U : Upgrade) (s : Shape) → IsSoundShape U s → not (is_fixed_array s) ≡ true
not_fixed U (simple ty) c = refl
not_fixed U (group t fs) c = refl
not_fixed U (array e bounds) c = absurd c
not_fixed U endless c = refl

pub groups_are_written : (U : Upgrade) → GroupsAreWritten U
groups_are_written U K w s q _ locked x y c h (same_root _ d _ sh m r) target own like =
    let p : Position = moved_at U w.map q in
    subst (λ b. Agrees U K w AnyUnits (provided b (λ v. some_of (kept_as s x) (λ z v. store locked z q v) v) w.src) (net.written (net.root d p) y w.net))
    (sym (not_fixed U s c))
    (subst (λ o. Agrees U K w AnyUnits (some_of o (λ z v. store locked z q v) w.src) (net.written (net.root d p) y w.net))
    (sym (value_kept U w s x y c like.0 like.1))
    (subst (λ b. Agrees U K w AnyUnits (store locked x q w.src) (cond b (net.stored y p w.net) (outside []))) (sym (value_suits U w s d x y c sh like.0 like.1))
    (value_stored U K locked w s q x y h c m (target_stands_alone U s q target) (λ steady old. own steady q refl old) like.0 like.1)))
