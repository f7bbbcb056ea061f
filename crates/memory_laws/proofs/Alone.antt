-- A place that the target alone makes, which stands for nothing of the source.
use Rattle.std.proofs.Common.{◌≡◌, refl, sym, subst, ◌∙◌, ℕ, suc, ◌<◌, ◌≤◌, arith}
use Rattle.net_meaning.specs.declared.value.ValueN.TheVariants as n
use Rattle.run_base.specs.Positions.{Root, shared, made, field, Position, updated, whole}
use Rattle.net_run.specs.Store as net
use Rattle.run_matches.specs.Upgrades.{Upgrade}
use Rattle.run_matches.specs.Maps.{World, Mark, Below, Extends, IsMade, IsUnmade, IsMatched, IsUnmapped, mark, net_mark, moved_at}
use Rattle.run_matches.specs.Match.{StoreMatch, MemoryMatch}
use Rattle.run_matches.specs.Pledges.{Pledge, Later}
use Rattle.agreeing_laws.proofs.SameKinds.{keeps_self}
use Rattle.agreeing_laws.proofs.Made.{below_self, up, up_self}
use Rattle.memory_laws.proofs.Changes.{holds_as, none_between}
use Rattle.memory_laws.proofs.Moved.{moved_is_made, not_both_made}
use Rattle.memory_laws.proofs.Positions.{updated_here, updated_other}

one_more : (a : ℕ) → a ≤ suc a
one_more a = omega arith

here_more : (a : ℕ) → a < suc a
here_more a = omega arith

below_more : (a b : ℕ) → a < b → a < suc b
below_more a b lt = omega arith

not_behind : (a : ℕ) → suc a ≤ a → ⊥
not_behind a le = omega arith

not_itself : (a : ℕ) → a < a → ⊥
not_itself a lt = omega arith

unmade_before : (a b : Mark) → Below a b → (r : Root) → IsUnmade b r → IsUnmade a r
unmade_before a b le (shared k) u = u
unmade_before a b le (made p) u = up a.places b.places p le.places u
unmade_before a b le (field o k) u = up a.objects b.objects o le.objects u

abbrev pub fresh_place : World → Position
fresh_place w = whole (made w.net.next)

-- the target has one more place, in which this stands
abbrev pub with_fresh : World → net.Cell → World
with_fresh w c = record { map = w.map; src = w.src; net = net.with_cell (fresh_place w) c (record w.net { next = suc w.net.next }) }

module _ (U : Upgrade) (w : World) (c : net.Cell) where
  was_matched : (p : Position) → IsMatched U (with_fresh w c) p → IsMatched U w p
  was_matched p m = record { is_made = m.is_made; counterpart = m.counterpart; sound = m.sound }

  same_map : Extends w (with_fresh w c)
  same_map = record {
    same_places = λ p lt. refl;
    same_objects = λ o lt. refl;
    same_alone = λ p lt. refl;
    same_declared = λ p lt. refl;
    new_places = λ p le lt a. absurd (none_between w.src.next p le lt);
    new_objects = λ o le lt. absurd (none_between w.src.next_object o le lt);
  }

  net_fresh_grows : Below (net_mark w.net) (net_mark (with_fresh w c).net)
  net_fresh_grows = record { places = one_more w.net.next; objects = up_self w.net.next_object }

  module _ (h : MemoryMatch U w) where
    -- nothing that is compared goes there
    not_there : (q : Position) → IsMatched U w q → fresh_place w ≡ moved_at U w.map q → ⊥
    not_there q m e =
        not_both_made (net_mark w.net) (moved_at U w.map q).root (moved_is_made U w h.stores q.root m.is_made m.counterpart)
        (subst (λ (z : Position). IsUnmade (net_mark w.net) z.root) e (up_self w.net.next))

    same_cell : (q : Position) → IsMatched U w q → updated w.net.cell (fresh_place w) c (moved_at U w.map q) ≡ w.net.cell (moved_at U w.map q)
    same_cell q m = updated_other w.net.cell (fresh_place w) c (moved_at U w.map q) (not_there q m)

    old_array : (q : Position) (k : ℕ) → IsMatched U w q → updated w.net.cell (fresh_place w) c (moved_at U w.map q) ≡ net.holds (n.Array k)
        → w.net.cell (moved_at U w.map q) ≡ net.holds (n.Array k)
    old_array q k m e = sym (same_cell q m) ∙ e

    fresh_stores : StoreMatch U (with_fresh w c)
    fresh_stores = record {
      into = λ a lt alone. below_more (w.map.places a) w.net.next (h.stores.into a lt alone);
      one_to_one = h.stores.one_to_one;
      objects_into = h.stores.objects_into;
      objects_one_to_one = h.stores.objects_one_to_one;
      classes = h.stores.classes;
      values = λ q m.
          holds_as U w (w.src.held q) (w.src.held q) (w.net.cell (moved_at U w.map q)) (updated w.net.cell (fresh_place w) c (moved_at U w.map q)) refl
          (sym (same_cell q (was_matched q m))) (h.stores.values q (was_matched q m));
      apart = λ p q k m i e f.
          h.stores.apart p q k (was_matched p m) (was_matched q i) (old_array p k (was_matched p m) e) (old_array q k (was_matched q i) f);
      known = λ q k m e. h.stores.known q k (was_matched q m) (old_array q k (was_matched q m) e);
      ranks = λ q v u k m r i e. h.stores.ranks q v u k (was_matched q m) r i (old_array q k (was_matched q m) e);
      short = h.stores.short;
      unmade = h.stores.unmade;
      net_unmade = λ q u.
          updated_other w.net.cell (fresh_place w) c q
          (λ s. not_behind w.net.next (subst (λ (z : Position). IsUnmade (net_mark (with_fresh w c).net) z.root) (sym s) u))
          ∙ h.stores.net_unmade q (unmade_before (net_mark w.net) (net_mark (with_fresh w c).net) net_fresh_grows q.root u);
      errors = h.stores.errors;
      kinds = h.stores.kinds;
      fields = h.stores.fields;
    }

    pub fresh_later : (K : Pledge) → Later U K w (with_fresh w c)
    fresh_later K = record {
      match = record { stores = fresh_stores; steps = h.steps; inputs = h.inputs };
      extends = same_map;
      grows = below_self (mark w.src);
      net_grows = net_fresh_grows;
      arrays_grow = up_self w.net.next_array;
      same_classes = λ o lt. refl;
      same_kinds = λ q. keeps_self (w.src.held q);
      same_values = λ q l i. refl;
      same_cells = λ q m l i. same_cell q m;
      same_elements = λ q k m l e. refl;
      same_arrays = λ q e k m s a. record { dims = a.dims; values = a.values; held = a.held; cell = same_cell q m ∙ a.cell };
      same_ranks = λ q rank m r. (r.0, same_cell q m ∙ r.1, r.2);
      same_loose = λ k lt l t. (refl, λ q m e. l q (was_matched q m) (old_array q k (was_matched q m) e));
      same_alone = λ q m u. refl;
      same_unmapped = λ p m u.
          updated_other w.net.cell (fresh_place w) c p
          (λ s. not_itself w.net.next (subst (λ (z : Position). IsMade (net_mark w.net) z.root) (sym s) m));
    }

    fresh_unmapped : IsUnmapped U (with_fresh w c) (fresh_place w)
    fresh_unmapped q m e = not_there q (was_matched q m) (sym e)

    -- what stands there stays
    pub fresh_lasts : (K : Pledge) (w1 : World) → Later U K (with_fresh w c) w1 → w1.net.cell (fresh_place w) ≡ c
    fresh_lasts K w1 l = l.same_unmapped (fresh_place w) (here_more w.net.next) fresh_unmapped ∙ updated_here w.net.cell (fresh_place w) c
