-- Addresses and locks stand for one another at a later world, and by a stronger pledge.
use Rattle.std.proofs.Common.{◌≡◌, inl, inr, ⊎_elim, subst, ℕ, suc, true, List, [], ◌∷◌}
use Rattle.run_base.specs.Positions.{Root, Position, inner}
use Rattle.vb6_run.specs.Shapes.{Shape, simple, group, array, endless, Shapes, no_shapes, next_shape}
use Rattle.vb6_run.specs.Store.{Address, root, Locked}
use Rattle.net_run.specs.Shapes as shape
use Rattle.net_run.specs.Store as net
use Rattle.run_matches.specs.Kinds.{IsKind}
use Rattle.run_matches.specs.Upgrades.{Upgrade}
use Rattle.run_matches.specs.Maps.{World, Below, IsMade, IsMatched, Extends, is_fixed_whole, is_fixed_variable, mark}
use Rattle.run_matches.specs.Pledges.{Pledge, Later, kept_type}
use Rattle.run_matches.specs.Addresses.{AllMatched, FieldsMatched, AllRanked, FieldsRanked, Same, same_root, same_item, LockOk, AllLocked}
use Rattle.agreeing_laws.specs.Promises.{Weaker}
use Rattle.agreeing_laws.proofs.SameKinds.{kind_kept}
use Rattle.agreeing_laws.proofs.Made.{same_at, same_variable, matched_later}

-- ---- variables

fixed_before : (U : Upgrade) (w0 w1 : World) → Extends w0 w1 → (r : Root) (path : List ℕ) → IsMade (mark w0.src) r → is_fixed_whole U w1.map r path ≡ true
    → is_fixed_whole U w0.map r path ≡ true
fixed_before U w0 w1 x r [] m e = subst (λ v. is_fixed_variable U v ≡ true) (same_variable U w0 w1 x r m) e
fixed_before U w0 w1 x r (i ∷ path) m e = e

pub matched_whole : (U : Upgrade) (w : World) (s : Shape) (q : Position) → AllMatched U w s q → IsMatched U w q
matched_whole U w (simple ty) q h = h.0
matched_whole U w (group t fs) q h = h.0
matched_whole U w (array e bounds) q h = h.0
matched_whole U w endless q h = absurd h

pub kind_whole : (U : Upgrade) (w : World) (s : Shape) (q : Position) → AllMatched U w s q → IsKind s (w.src.held q)
kind_whole U w (simple ty) q h = h.1
kind_whole U w (group t fs) q h = h.1
kind_whole U w (array e bounds) q h = h.1
kind_whole U w endless q h = absurd h

kind_later : (U : Upgrade) (K : Pledge) (w0 w1 : World) → Later U K w0 w1 → (s : Shape) (q : Position) → IsKind s (w0.src.held q) → IsKind s (w1.src.held q)
kind_later U K w0 w1 l s q k = kind_kept s (w0.src.held q) (w1.src.held q) k (l.same_kinds q)

mutual
  pub all_matched_later : (U : Upgrade) (K : Pledge) (w0 w1 : World) → Later U K w0 w1 → (s : Shape) (q : Position) → AllMatched U w0 s q
      → AllMatched U w1 s q
  all_matched_later U K w0 w1 l (simple ty) q h = (matched_later U w0 w1 l.extends l.grows q h.0, kind_later U K w0 w1 l (simple ty) q h.1)
  all_matched_later U K w0 w1 l (group t fs) q h =
      (matched_later U w0 w1 l.extends l.grows q h.0, kind_later U K w0 w1 l (group t fs) q h.1, fields_matched_later U K w0 w1 l t 0 fs q h.2)
  all_matched_later U K w0 w1 l (array e bounds) q h = (
    matched_later U w0 w1 l.extends l.grows q h.0,
    kind_later U K w0 w1 l (array e bounds) q h.1,
    λ f b. h.2 (fixed_before U w0 w1 l.extends q.root q.path h.0.is_made f) b,
  )
  all_matched_later U K w0 w1 l endless q h = h

  pub fields_matched_later : (U : Upgrade) (K : Pledge) (w0 w1 : World) → Later U K w0 w1 → (t k : ℕ) (fs : Shapes) (q : Position)
      → FieldsMatched U w0 t k fs q → FieldsMatched U w1 t k fs q
  fields_matched_later U K w0 w1 l t k no_shapes q h = tt
  fields_matched_later U K w0 w1 l t k (next_shape s rest) q h =
      (⊎_elim (λ z. inl z) (λ z. inr (all_matched_later U K w0 w1 l s (inner q k) z)) h.0, fields_matched_later U K w0 w1 l t (suc k) rest q h.1)

mutual
  pub all_ranked_later : (U : Upgrade) (K : Pledge) (w0 w1 : World) → Later U K w0 w1 → (s : Shape) (d : shape.Shape) (q : Position) → AllMatched U w0 s q
      → AllRanked U w0 s d q → AllRanked U w1 s d q
  all_ranked_later U K w0 w1 l (array e bounds) (shape.array d rank) q m r = l.same_ranks q rank m.0 r
  all_ranked_later U K w0 w1 l (group t fs) (shape.structured home member gs) q m r = fields_ranked_later U K w0 w1 l t 0 fs gs q m.2 r
  all_ranked_later U K w0 w1 l _ _ q m r = tt

  fields_ranked_later : (U : Upgrade) (K : Pledge) (w0 w1 : World) → Later U K w0 w1 → (t k : ℕ) (fs : Shapes) (gs : shape.Fields) (q : Position)
      → FieldsMatched U w0 t k fs q → FieldsRanked U w0 t k fs gs q → FieldsRanked U w1 t k fs gs q
  fields_ranked_later U K w0 w1 l t k (next_shape s rest) (shape.next_field name d others) q m r = (
    ⊎_elim (λ z. inl z)
        (λ n. ⊎_elim (λ z. inl z) (λ z. inr (all_ranked_later U K w0 w1 l s d (inner q k) z n)) m.0) r.0,
    fields_ranked_later U K w0 w1 l t (suc k) rest others q m.1 r.1,
  )
  fields_ranked_later U K w0 w1 l t k _ _ q m r = tt

-- ---- addresses

pub address_later : (U : Upgrade) (K : Pledge) (w0 w1 : World) (a : Address) (b : net.Address) → Later U K w0 w1 → Same U K w0 a b → Same U K w1 a b
address_later U K w0 w1 _ _ l (same_root s d q sh m r) =
    subst (λ p. Same U K w1 (root s q) (net.root d p)) (same_at U w0 w1 l.extends q (matched_whole U w0 s q m).is_made)
    (same_root s d q sh (all_matched_later U K w0 w1 l s q m) (all_ranked_later U K w0 w1 l s d q m r))
address_later U K w0 w1 _ _ l (same_item e s d q k j path keeps m has part sh) =
    same_item e s d q k j path keeps (matched_later U w0 w1 l.extends l.grows q m) (l.same_arrays q e k m (kept_type keeps) has) part sh

pub address_promised : (U : Upgrade) (L K : Pledge) (w0 w : World) (a : Address) (b : net.Address) → Weaker w0 L K → Same U L w a b → Same U K w a b
address_promised U L K w0 w _ _ f (same_root s d q sh m r) = same_root s d q sh m r
address_promised U L K w0 w _ _ f (same_item e s d q k j path keeps m has part sh) = same_item e s d q k j path (f.keeps _ keeps) m has part sh

-- ---- locks

pub lock_later : (U : Upgrade) (K : Pledge) (w0 w1 : World) (q : Position) → Later U K w0 w1 → LockOk U K w0 q → LockOk U K w1 q
lock_later U K w0 w1 q l x = record {
  element = x.element;
  array = x.array;
  is_matched = matched_later U w0 w1 l.extends l.grows q x.is_matched;
  stands = l.same_arrays q x.element x.array x.is_matched (kept_type x.kept) x.stands;
  kept = x.kept;
}

pub locks_later : (U : Upgrade) (K : Pledge) (w0 w1 : World) (locked : Locked) → Later U K w0 w1 → AllLocked U K w0 locked → AllLocked U K w1 locked
locks_later U K w0 w1 [] l x = tt
locks_later U K w0 w1 (q ∷ rest) l x = (lock_later U K w0 w1 q l x.0, locks_later U K w0 w1 rest l x.1)

lock_promised : (U : Upgrade) (L K : Pledge) (w0 w : World) (q : Position) → Weaker w0 L K → LockOk U L w q → LockOk U K w q
lock_promised U L K w0 w q f x =
    record { element = x.element; array = x.array; is_matched = x.is_matched; stands = x.stands; kept = f.keeps _ x.kept }

pub locks_promised : (U : Upgrade) (L K : Pledge) (w0 w : World) (locked : Locked) → Weaker w0 L K → AllLocked U L w locked → AllLocked U K w locked
locks_promised U L K w0 w [] f x = tt
locks_promised U L K w0 w (q ∷ rest) f x = (lock_promised U L K w0 w q f x.0, locks_promised U L K w0 w rest f x.1)
