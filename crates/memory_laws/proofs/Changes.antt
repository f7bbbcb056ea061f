-- What stands at one position changes on both sides, and no array does.
use Rattle.std.proofs.Common.{◌≡◌, ⊎_elim, refl, sym, subst, ◌∙◌, ℕ, ◌<◌, ◌≤◌, arith}
use Rattle.net_meaning.specs.declared.value.ValueN.TheVariants as n
use Rattle.run_base.specs.Positions.{Position, updated}
use Rattle.vb6_run.specs.Store.{Held, table}
use Rattle.net_run.specs.Store as net
use Rattle.run_matches.specs.Upgrades.{Upgrade}
use Rattle.run_matches.specs.Maps.{World, Extends, IsUnmade, IsMatched, mark, net_mark, moved_at}
use Rattle.run_matches.specs.Match.{Holds, StoreMatch, MemoryMatch}
use Rattle.run_matches.specs.Pledges.{Pledge, IsLasting, IsHeld, Later}
use Rattle.agreeing_laws.proofs.Made.{below_self, up_self}
use Rattle.memory_laws.specs.Changes.{changed, IsNoTable, IsNoArray, IsSuited, GoesAlone}
use Rattle.memory_laws.proofs.Moved.{not_both_made, moved_is_made}
use Rattle.memory_laws.proofs.Positions.{either_position, updated_here, updated_other, updated_cases}
use Rattle.memory_laws.proofs.Suited.{fields_suited, kinds_suited, same_kinds_suited}

pub none_between : (a b : ℕ) → a ≤ b → b < a → ⊥
none_between a b le lt = omega arith

pub holds_as : (U : Upgrade) (w : World) (x y : Held) (c d : net.Cell) → x ≡ y → c ≡ d → Holds U w x c → Holds U w y d
holds_as U w x y c d e f h = subst (λ z. Holds U w y z) f (subst (λ z. Holds U w z c) e h)

module _ (U : Upgrade) (w : World) (q : Position) (x : Held) (c : net.Cell) where
  was_matched : (p : Position) → IsMatched U (changed U w q x c) p → IsMatched U w p
  was_matched p m = record { is_made = m.is_made; counterpart = m.counterpart; sound = m.sound }

  same_map : Extends w (changed U w q x c)
  same_map = record {
    same_places = λ p lt. refl;
    same_objects = λ o lt. refl;
    same_alone = λ p lt. refl;
    same_declared = λ p lt. refl;
    new_places = λ p le lt a. absurd (none_between w.src.next p le lt);
    new_objects = λ o le lt. absurd (none_between w.src.next_object o le lt);
  }

  module _ (h : MemoryMatch U w) (m : IsMatched U w q) (alone : GoesAlone U w q) (like : Holds U w x c) (plain : IsNoTable (w.src.held q))
      (net_plain : IsNoArray (w.net.cell (moved_at U w.map q))) (new_plain : IsNoArray c) (suits : IsSuited U w q x) where
    old_array : (p : Position) (k : ℕ) → updated w.net.cell (moved_at U w.map q) c p ≡ net.holds (n.Array k) → w.net.cell p ≡ net.holds (n.Array k)
    old_array p k e =
        ⊎_elim (λ s. absurd (new_plain k s)) (λ o. o) (updated_cases w.net.cell (moved_at U w.map q) c p (net.holds (n.Array k)) e)

    like_here : Holds U w (updated w.src.held q x q) (updated w.net.cell (moved_at U w.map q) c (moved_at U w.map q))
    like_here =
        holds_as U w x (updated w.src.held q x q) c (updated w.net.cell (moved_at U w.map q) c (moved_at U w.map q)) (sym (updated_here w.src.held q x))
        (sym (updated_here w.net.cell (moved_at U w.map q) c)) like

    like_at : (p : Position) → IsMatched U w p → Holds U w (updated w.src.held q x p) (updated w.net.cell (moved_at U w.map q) c (moved_at U w.map p))
    like_at p i =
        ⊎_elim (λ s. subst (λ z. Holds U w (updated w.src.held q x z) (updated w.net.cell (moved_at U w.map q) c (moved_at U w.map z))) s like_here)
        (λ o. holds_as U w (w.src.held p) (updated w.src.held q x p) (w.net.cell (moved_at U w.map p))
        (updated w.net.cell (moved_at U w.map q) c (moved_at U w.map p)) (sym (updated_other w.src.held q x p o))
        (sym (updated_other w.net.cell (moved_at U w.map q) c (moved_at U w.map p) (λ s. o (alone p i s)))) (h.stores.values p i))
        (either_position q p)

    stores_changed : StoreMatch U (changed U w q x c)
    stores_changed = record {
      into = h.stores.into;
      one_to_one = h.stores.one_to_one;
      objects_into = h.stores.objects_into;
      objects_one_to_one = h.stores.objects_one_to_one;
      classes = h.stores.classes;
      values = λ p i. like_at p (was_matched p i);
      apart = λ p r k i j e f. h.stores.apart p r k (was_matched p i) (was_matched r j) (old_array (moved_at U w.map p) k e) (old_array (moved_at U w.map r) k f);
      known = λ p k i e. h.stores.known p k (was_matched p i) (old_array (moved_at U w.map p) k e);
      ranks = λ p v u k i r y e. h.stores.ranks p v u k (was_matched p i) r y (old_array (moved_at U w.map p) k e);
      short = h.stores.short;
      unmade = λ p u.
          updated_other w.src.held q x p (λ s. not_both_made (mark w.src) q.root m.is_made (subst (λ z. IsUnmade (mark w.src) z.root) (sym s) u))
          ∙ h.stores.unmade p u;
      net_unmade = λ p u.
          updated_other w.net.cell (moved_at U w.map q) c p
          (λ s. not_both_made (net_mark w.net) (moved_at U w.map q).root (moved_is_made U w h.stores q.root m.is_made m.counterpart)
          (subst (λ z. IsUnmade (net_mark w.net) z.root) (sym s) u))
          ∙ h.stores.net_unmade p u;
      errors = h.stores.errors;
      kinds = kinds_suited U w q x suits h.stores;
      fields = fields_suited U w q x suits h.stores;
    }

    -- what lasts may change where nothing stood yet
    pub changed_later : (K : Pledge) → (IsLasting U K w q → IsHeld w q → ⊥) → Later U K w (changed U w q x c)
    changed_later K free = record {
      match = record { stores = stores_changed; steps = h.steps; inputs = h.inputs };
      extends = same_map;
      grows = below_self (mark w.src);
      net_grows = below_self (net_mark w.net);
      arrays_grow = up_self w.net.next_array;
      same_classes = λ o lt. refl;
      same_kinds = same_kinds_suited U w q x suits;
      same_values = λ p l i.
          updated_other w.src.held q x p (λ s. free (subst (λ z. IsLasting U K w z) (sym s) l) (subst (λ z. IsHeld w z) (sym s) i));
      same_cells = λ p j l i.
          updated_other w.net.cell (moved_at U w.map q) c (moved_at U w.map p)
          (λ s. free (subst (λ z. IsLasting U K w z) (sym (alone p j s)) l) (subst (λ z. IsHeld w z) (sym (alone p j s)) i));
      same_elements = λ p k j l e. refl;
      same_arrays = λ p e k j s a. record {
        dims = a.dims;
        values = a.values;
        held =
            updated_other w.src.held q x p (λ z. plain e a.dims a.values (subst (λ y. w.src.held y ≡ table e a.dims a.values) (sym z) a.held)) ∙ a.held;
        cell = not_here p k a.cell ∙ a.cell;
      };
      same_ranks = λ p rank j r. (r.0, not_here p r.0 r.1 ∙ r.1, r.2);
      same_loose = λ k lt l t. (refl, λ p j e. l p (was_matched p j) (old_array (moved_at U w.map p) k e));
      same_alone = λ p j u. updated_other w.src.held q x p (λ s. u (subst (λ z. IsMatched U w z) s m));
      same_unmapped = λ p j u. updated_other w.net.cell (moved_at U w.map q) c p (λ s. u q m s);
    }
      where
        not_here : (p : Position) (k : ℕ) → w.net.cell (moved_at U w.map p) ≡ net.holds (n.Array k)
            → updated w.net.cell (moved_at U w.map q) c (moved_at U w.map p) ≡ w.net.cell (moved_at U w.map p)
        not_here p k e =
            updated_other w.net.cell (moved_at U w.map q) c (moved_at U w.map p)
            (λ s. net_plain k (subst (λ z. w.net.cell z ≡ net.holds (n.Array k)) (sym s) e))
