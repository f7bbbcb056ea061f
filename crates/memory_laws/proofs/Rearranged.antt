-- The memories match after what stands at one position has changed, and with it arrays.
use Rattle.std.proofs.Common.{◌≡◌, ◌⊎◌, inl, inr, ⊎_elim, refl, sym, ap, subst, ◌∙◌, ℕ, ◌<◌, Some, length}
use Rattle.net_meaning.specs.declared.value.ValueN.TheVariants as n
use Rattle.run_base.specs.Positions.{Position, updated}
use Rattle.vb6_run.specs.Shapes.{Shape}
use Rattle.vb6_run.specs.Store.{Held}
use Rattle.net_run.specs.Store as net
use Rattle.run_matches.specs.Likeness.{numbers_of}
use Rattle.run_matches.specs.Maps.{World, IsMatched, IsUnmade, mark, net_mark, moved_at, root_variable}
use Rattle.run_matches.specs.Match.{HasArray, HasRank, Holds, MemoryMatch, StoreMatch}
use Rattle.run_matches.specs.Pledges.{Pledge, IsHeld, IsLasting, Later, Stays}
use Rattle.run_matches.specs.Upgrades.{Upgrade, part_variable}
use Rattle.agreeing_laws.proofs.Made.{below_self, held_if_array, more}
use Rattle.memory_laws.specs.Rearranged.{rearranged, Rearranges, MayRearrange}
use Rattle.memory_laws.proofs.Changes.{holds_as, none_between}
use Rattle.memory_laws.proofs.Moved.{not_both_made}
use Rattle.memory_laws.proofs.Positions.{either_position, updated_here, updated_other}
use Rattle.memory_laws.proofs.Flat.{held_more}
use Rattle.memory_laws.proofs.Suited.{fields_suited, kinds_suited, same_kinds_suited}

module _ (U : Upgrade) (w : World) (q : Position) (x : Held) (cells : Position → net.Cell) (arrays : ℕ → net.Array) (next : ℕ) where
  abbrev after : World
  after = rearranged w q x cells arrays next

  was_matched : (p : Position) → IsMatched U after p → IsMatched U w p
  was_matched p m = record { is_made = m.is_made; counterpart = m.counterpart; sound = m.sound }

  module _ (h : MemoryMatch U w) (m : IsMatched U w q) (g : Rearranges U w q x cells arrays next) where
    -- an array in a cell is the one at the position, or one that was there
    abbrev Stood : Position → ℕ → Type 0
    Stood p k = ((q ≡ p) × (cells (moved_at U w.map q) ≡ net.holds (n.Array k)))
        ⊎ ((q ≡ p → ⊥) × (w.net.cell (moved_at U w.map p) ≡ net.holds (n.Array k)))

    array_at : (p : Position) (k : ℕ) → IsMatched U w p → cells (moved_at U w.map p) ≡ net.holds (n.Array k) → Stood p k
    array_at p k i f =
        ⊎_elim (λ s. inl (s, subst (λ z. cells (moved_at U w.map z) ≡ net.holds (n.Array k)) (sym s) f))
        (λ o. inr (o, sym (g.others p i o) ∙ f)) (either_position q p)

    -- ---- the stores

    like_at : (p : Position) → IsMatched U w p → Holds U after (updated w.src.held q x p) (cells (moved_at U w.map p))
    like_at p i =
        ⊎_elim
        (λ s. subst (λ z. Holds U after (updated w.src.held q x z) (cells (moved_at U w.map z))) s
        (subst (λ z. Holds U after z (cells (moved_at U w.map q))) (sym (updated_here w.src.held q x)) g.like))
        (λ o. holds_as U after (w.src.held p) (updated w.src.held q x p) (w.net.cell (moved_at U w.map p)) (cells (moved_at U w.map p))
        (sym (updated_other w.src.held q x p o)) (sym (g.others p i o))
        (held_more U (numbers_of w) (numbers_of after) (λ j k t. t) (w.src.held p) (w.net.cell (moved_at U w.map p))
        (λ k c. g.same_arrays p k i o c) (h.stores.values p i)))
        (either_position q p)

    apart_by : (p r : Position) (k : ℕ) → IsMatched U w p → IsMatched U w r → Stood p k → Stood r k → p ≡ r
    apart_by p r k i j (inl s) (inl t) = sym s.0 ∙ t.0
    apart_by p r k i j (inl s) (inr t) = absurd (g.once r k j t.0 t.1 s.1)
    apart_by p r k i j (inr s) (inl t) = absurd (g.once p k i s.0 s.1 t.1)
    apart_by p r k i j (inr s) (inr t) = h.stores.apart p r k i j s.1 t.1

    known_by : (p : Position) (k : ℕ) → IsMatched U w p → Stood p k → k < next
    known_by p k i (inl s) = g.known k s.1
    known_by p k i (inr s) = more k w.net.next_array next g.grows (h.stores.known p k i s.1)

    ranks_by : (p : Position) (v u k : ℕ) → IsMatched U w p → root_variable w.map p.root ≡ Some v → part_variable U v p.path ≡ Some u → Stood p k
        → length (arrays k).counts ≡ U.facts.rank u
    ranks_by p v u k i r y (inl s) =
        g.ranks v u k (subst (λ (z : Position). root_variable w.map z.root ≡ Some v) (sym s.0) r)
        (subst (λ (z : Position). part_variable U v z.path ≡ Some u) (sym s.0) y) s.1
    ranks_by p v u k i r y (inr s) = ap (λ (z : net.Array). length z.counts) (g.same_arrays p k i s.0 s.1) ∙ h.stores.ranks p v u k i r y s.1

    stores_rearranged : StoreMatch U after
    stores_rearranged = record {
      into = h.stores.into;
      one_to_one = h.stores.one_to_one;
      objects_into = h.stores.objects_into;
      objects_one_to_one = h.stores.objects_one_to_one;
      classes = h.stores.classes;
      values = λ p i. like_at p (was_matched p i);
      apart = λ p r k i j e f. apart_by p r k (was_matched p i) (was_matched r j) (array_at p k (was_matched p i) e) (array_at r k (was_matched r j) f);
      known = λ p k i e. known_by p k (was_matched p i) (array_at p k (was_matched p i) e);
      ranks = λ p v u k i r y e. ranks_by p v u k (was_matched p i) r y (array_at p k (was_matched p i) e);
      short = g.short;
      unmade = λ p u.
          updated_other w.src.held q x p (λ s. not_both_made (mark w.src) q.root m.is_made (subst (λ (z : Position). IsUnmade (mark w.src) z.root) (sym s) u))
          ∙ h.stores.unmade p u;
      net_unmade = g.unmade;
      errors = h.stores.errors;
      kinds = kinds_suited U w q x g.suits h.stores;
      fields = fields_suited U w q x g.suits h.stores;
    }

    -- ---- what lasts

    module _ (K : Pledge) (may : MayRearrange U K w q x cells arrays next) where
      not_here : (p : Position) → IsLasting U K w p → IsHeld w p → q ≡ p → ⊥
      not_here p l i s = may.free (subst (λ z. IsLasting U K w z) (sym s) l) (subst (λ z. IsHeld w z) (sym s) i)

      array_there : (p : Position) (e : Shape) (k : ℕ) → IsMatched U w p → HasArray U w p e k → (q ≡ p → ⊥) → HasArray U after p e k
      array_there p e k i a o = record {
        dims = a.dims;
        values = a.values;
        held = updated_other w.src.held q x p o ∙ a.held;
        cell = g.others p i o ∙ a.cell;
      }

      loose_by : (p : Position) (k : ℕ) → IsMatched U w p → Stood p k → (cells (moved_at U w.map q) ≡ net.holds (n.Array k) → ⊥)
          → (w.net.cell (moved_at U w.map p) ≡ net.holds (n.Array k) → ⊥) → ⊥
      loose_by p k i (inl s) a b = a s.1
      loose_by p k i (inr s) a b = b s.1

      pub rearranged_later : Later U K w after
      rearranged_later = record {
        match = record { stores = stores_rearranged; steps = h.steps; inputs = h.inputs };
        extends = record {
          same_places = λ p lt. refl;
          same_objects = λ o lt. refl;
          same_alone = λ p lt. refl;
          same_declared = λ p lt. refl;
          new_places = λ p le lt c. absurd (none_between w.src.next p le lt);
          new_objects = λ o le lt. absurd (none_between w.src.next_object o le lt);
        };
        grows = below_self (mark w.src);
        net_grows = below_self (net_mark w.net);
        arrays_grow = g.grows;
        same_classes = λ o lt. refl;
        same_kinds = same_kinds_suited U w q x g.suits;
        same_values = λ p l i. updated_other w.src.held q x p (not_here p l i);
        same_cells = λ p j l i. g.others p j (not_here p l i);
        same_elements = λ p k j l e. g.same_arrays p k j (not_here p l (held_if_array U w p k h.stores j e)) e;
        same_arrays = λ p e k j s a.
            ⊎_elim
            (λ z. subst (λ y. HasArray U after y e k) z
            (may.stays e k (subst (λ y. Stays U K w y e) (sym z) s) (subst (λ y. HasArray U w y e k) (sym z) a)))
            (λ o. array_there p e k j a o) (either_position q p);
        same_ranks = λ p rank j r.
            ⊎_elim (λ z. subst (λ y. HasRank U after y rank) z (g.ranked rank (subst (λ y. HasRank U w y rank) (sym z) r)))
            (λ o. (r.0, g.others p j o ∙ r.1, ap (λ (z : net.Array). length z.counts) (g.same_arrays p r.0 j o r.1) ∙ r.2)) (either_position q p);
        same_loose = λ k lt l t.
            ((g.loose k lt l).0, λ p j e. loose_by p k (was_matched p j) (array_at p k (was_matched p j) e) (g.loose k lt l).1 (l p (was_matched p j)));
        same_alone = λ p j u. updated_other w.src.held q x p (λ s. u (subst (λ z. IsMatched U w z) s m));
        same_unmapped = λ p j u. g.unmapped p u;
      }
