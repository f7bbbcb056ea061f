-- The image of an array variable, and that it is none of the arrays that are locked.
use Rattle.std.proofs.Common.{◌≡◌, refl, sym, ap, subst, ◌∙◌, inl, inr, ℕ, ℤ, true, false, ◌||◌, List, [], ◌∷◌, length, Some, true≢false}
use Rattle.vb_tree.specs.BoundTree.{Ty}
use Rattle.net_tree.specs.Types.{TypeName}
use Rattle.net_meaning.specs.declared.value.ValueN.TheVariants as n
use Rattle.run_base.specs.Positions.{Position, made, shared, field}
use Rattle.vb6_run.specs.Shapes.{Shape, simple, array}
use Rattle.vb6_run.specs.Store.{Address, root, Locked, table, contains, item}
use Rattle.vb6_run.specs.Values.{Dimension, Values}
use Rattle.net_run.specs.Shapes as shape
use Rattle.net_run.specs.Store as net
use Rattle.run_matches.specs.Upgrades.{Upgrade}
use Rattle.run_matches.specs.Maps.{World, IsMatched, is_fixed_position, moved_at}
use Rattle.run_matches.specs.Likeness.{SameShape, same_scalar, same_class, same_array, scalar_word}
use Rattle.run_matches.specs.Match.{HasRank, MemoryMatch}
use Rattle.run_matches.specs.Pledges.{Pledge, type_of_shape}
use Rattle.run_matches.specs.Addresses.{Same, same_root, same_item, AllMatched, AllRanked, AllLocked, IsTarget}
use Rattle.run_matches.specs.CoveredVariables.{covers_type}
use Rattle.run_statements.specs.Frames.{ArrayMatch}
use Rattle.run_statements.specs.Memory.{MayResize}
use Rattle.memory_laws.specs.Changes.{GoesAlone}
use Rattle.memory_laws.proofs.Moved.{field_goes_alone, part_goes_alone, place_goes_alone}
use Rattle.memory_laws.proofs.Positions.{at, other_position}

-- ---- an array variable on both sides

pub record ArrayImage (U : Upgrade) (w : World) (ty : Ty) (rank : ℕ) (a : Address) (b : net.Address) : Type 0 where
  pub position : Position
  pub bounds : List (ℤ × ℤ)
  pub word : TypeName
  pub is_word : scalar_word ty ≡ Some word
  pub at_source : a ≡ root (array (simple ty) bounds) position
  pub at_target : b ≡ net.root (shape.array (shape.scalar word) rank) (moved_at U w.map position)
  pub is_matched : IsMatched U w position
  pub movable : is_fixed_position U w.map position ≡ true → bounds ≡ [] → ⊥
  pub dims : List Dimension
  pub values : Values
  pub held : w.src.held position ≡ table (simple ty) dims values
  pub number : ℕ
  pub stands : w.net.cell (moved_at U w.map position) ≡ net.holds (n.Array number)
  pub counted : length (w.net.arrays number).counts ≡ rank

abbrev pub HasWord : Ty → shape.Shape → Type 0
HasWord ty d = (t : TypeName) × (d ≡ shape.scalar t) × (scalar_word ty ≡ Some t)

pub word_of : (U : Upgrade) (ty : Ty) (d : shape.Shape) → covers_type ty ≡ true → SameShape U (simple ty) d → HasWord ty d
word_of U _ _ c (same_scalar ty t e) = (t, refl, e)
word_of U _ _ c (same_class k home e) = absurd (true≢false (sym c))

array_written : (U : Upgrade) (e : Shape) (bounds : List (ℤ × ℤ)) (d : shape.Shape) → SameShape U (array e bounds) d
    → (x : shape.Shape) × (rank : ℕ) × (d ≡ shape.array x rank) × SameShape U e x
array_written U _ _ _ (same_array e bounds d rank s) = (d, rank, refl, s)

root_shape : (s t : Shape) (q p : Position) → root s q ≡ root t p → s ≡ t
root_shape s t q p e = cc

root_position : (s t : Shape) (q p : Position) → root s q ≡ root t p → q ≡ p
root_position s t q p e = cc

module _ (U : Upgrade) (K : Pledge) (w : World) (ty : Ty) (rank : ℕ) (c : covers_type ty ≡ true) where
  image_by : (s : Shape) (d : shape.Shape) (q : Position) (bounds : List (ℤ × ℤ)) → s ≡ array (simple ty) bounds → SameShape U s d → AllMatched U w s q
      → AllRanked U w s d q → shape.rank_of d ≡ rank → ArrayImage U w ty rank (root s q) (net.root d (moved_at U w.map q))
  image_by s d q bounds is same m r ranked =
      let x = array_written U (simple ty) bounds d (subst (λ z. SameShape U z d) is same) in
      let word : HasWord ty x.0 = word_of U ty x.0 c x.3 in
      let all : AllMatched U w (array (simple ty) bounds) q = subst (λ z. AllMatched U w z q) is m in
      let shaped : d ≡ shape.array (shape.scalar word.0) rank =
      x.2 ∙ (ap (λ z. shape.array z x.1) word.1 ∙ ap (λ z. shape.array (shape.scalar word.0) z) (sym (ap shape.rank_of x.2) ∙ ranked)) in
      let has : HasRank U w q rank = subst (λ z. AllRanked U w (array (simple ty) bounds) z q) shaped (subst (λ z. AllRanked U w z d q) is r) in
      record {
        position = q;
        bounds = bounds;
        word = word.0;
        is_word = word.2;
        at_source = ap (λ z. root z q) is;
        at_target = ap (λ z. net.root z (moved_at U w.map q)) shaped;
        is_matched = all.0;
        movable = all.2;
        dims = all.1.0;
        values = all.1.1;
        held = all.1.2;
        number = has.0;
        stands = has.1;
        counted = has.2;
      }

  same_image : (a : Address) (b : net.Address) (bounds : List (ℤ × ℤ)) (p : Position) → a ≡ root (array (simple ty) bounds) p → Same U K w a b
      → shape.rank_of (net.shape_at b) ≡ rank → ArrayImage U w ty rank a b
  same_image _ _ bounds p is (same_root s d q sh m r) ranked = image_by s d q bounds (root_shape s (array (simple ty) bounds) q p is) sh m r ranked
  same_image _ _ bounds p is (same_item e s d q k j path keeps m has part sh) ranked = absurd (cc is)

  pub array_image : (a : Address) (b : net.Address) → ArrayMatch U K ty rank w a b → ArrayImage U w ty rank a b
  array_image a b m = same_image a b m.bounds m.position m.stands m.same m.ranked

  pub array_alone : (a : Address) (b : net.Address) → MemoryMatch U w → (i : ArrayImage U w ty rank a b) → IsTarget U a → GoesAlone U w i.position
  array_alone a b h i (inl (inl p)) =
      let s : i.position ≡ at (made p.place) p.path =
      root_position (array (simple ty) i.bounds) p.shape i.position (at (made p.place) p.path) (sym i.at_source ∙ p.stands) in
      subst (λ x. GoesAlone U w x) (sym s) (place_goes_alone U w h.stores p.place p.path (subst (λ x. IsMatched U w x) s i.is_matched))
  array_alone a b h i (inl (inr (inl k))) =
      let q : Position = at (shared (k.variable ∷ [])) k.path in
      let s : i.position ≡ q = root_position (array (simple ty) i.bounds) k.of_shape i.position q (sym i.at_source ∙ k.stands) in
      subst (λ x. GoesAlone U w x) (sym s) (part_goes_alone U w k.variable k.key k.is_key k.differs k.path)
  array_alone a b h i (inl (inr (inr k))) =
      let q : Position = at (field k.object (k.variable ∷ [])) k.path in
      let s : i.position ≡ q = root_position (array (simple ty) i.bounds) k.of_shape i.position q (sym i.at_source ∙ k.stands) in
      let m : IsMatched U w q = subst (λ x. IsMatched U w x) s i.is_matched in
      subst (λ x. GoesAlone U w x) (sym s) (field_goes_alone U w h.stores k.object k.variable k.key k.is_key k.differs m.is_made k.path)
  array_alone a b h i (inr x) = absurd (no_item x.ty x.array i.position x.index (array (simple ty) i.bounds) (sym x.stands ∙ i.at_source))
    where
      no_item : (t : Ty) (q p : Position) (j : ℕ) (s : Shape) → item (simple t) q j [] ≡ root s p → ⊥
      no_item t q p j s f = cc

  -- ---- locks

  other_element : (e : Shape) (dims others : List Dimension) (xs ys : Values) → table e dims xs ≡ table (simple ty) others ys → e ≡ simple ty
  other_element e dims others xs ys f = cc

  -- it is none of the arrays that are locked
  pub unlocked : (q : Position) (dims : List Dimension) (xs : Values) → w.src.held q ≡ table (simple ty) dims xs → MayResize K ty → (locked : Locked)
      → AllLocked U K w locked → contains locked q ≡ false
  unlocked q dims xs held free [] locks = refl
  unlocked q dims xs held free (p ∷ rest) locks =
      ap (λ b. b || contains rest q)
      (other_position p q
      (λ s. free (subst (λ z. K.keeps (type_of_shape z))
      (other_element locks.0.element locks.0.stands.dims dims locks.0.stands.values xs (sym locks.0.stands.held ∙ (ap w.src.held s ∙ held)))
      locks.0.kept)))
      ∙ unlocked q dims xs held free rest locks.1
