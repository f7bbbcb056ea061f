-- The Err number, the inputs and the steps that are left may change on both sides alike.
use Rattle.std.proofs.Common.{◌≡◌, refl, ℕ, List}
use Rattle.vb6_run.specs.Shapes.{Shape}
use Rattle.run_base.specs.Positions.{Position}
use Rattle.run_matches.specs.Upgrades.{Upgrade}
use Rattle.vb6_run.specs.Store.{Memory}
use Rattle.net_run.specs.Store as net
use Rattle.run_matches.specs.Maps.{Map, World, IsMatched, Extends, mark, net_mark}
use Rattle.run_matches.specs.Match.{HasArray, StoreMatch, MemoryMatch}
use Rattle.run_matches.specs.Pledges.{Pledge, Later}
use Rattle.run_matches.specs.Agreeing.{world_of}
use Rattle.agreeing_laws.specs.Beside.{beside, with_steps}
use Rattle.agreeing_laws.proofs.SameKinds.{keeps_self}
use Rattle.agreeing_laws.proofs.Made.{below_self, extends_self, up_self}
use Rattle.agreeing_laws.proofs.Lasting.{later_now}

module _ (U : Upgrade) (w : World) (e d : ℕ) (i j : List (List ℕ)) (n k : ℕ) where
  pub matched_beside : (q : Position) → IsMatched U w q → IsMatched U (beside w e d i j n k) q
  matched_beside q m = record { is_made = m.is_made; counterpart = m.counterpart; sound = m.sound }

  pub matched_without : (q : Position) → IsMatched U (beside w e d i j n k) q → IsMatched U w q
  matched_without q m = record { is_made = m.is_made; counterpart = m.counterpart; sound = m.sound }

  stores_beside : d ≡ e → StoreMatch U w → StoreMatch U (beside w e d i j n k)
  stores_beside same h = record {
    into = h.into;
    one_to_one = h.one_to_one;
    objects_into = h.objects_into;
    objects_one_to_one = h.objects_one_to_one;
    classes = h.classes;
    values = λ q m. h.values q (matched_without q m);
    apart = λ p q a m l x y. h.apart p q a (matched_without p m) (matched_without q l) x y;
    known = λ q a m x. h.known q a (matched_without q m) x;
    ranks = λ q v u a m r x y. h.ranks q v u a (matched_without q m) r x y;
    short = h.short;
    unmade = h.unmade;
    net_unmade = h.net_unmade;
    errors = same;
    kinds = h.kinds;
    fields = h.fields;
  }

  pub match_beside : d ≡ e → j ≡ i → k ≡ n → MemoryMatch U w → MemoryMatch U (beside w e d i j n k)
  match_beside errors inputs steps h = record { stores = stores_beside errors h.stores; steps = steps; inputs = inputs }

  array_beside : (q : Position) (s : Shape) (b : ℕ) → HasArray U w q s b → HasArray U (beside w e d i j n k) q s b
  array_beside q s b a = record { dims = a.dims; values = a.values; held = a.held; cell = a.cell }

  pub later_beside : (K : Pledge) (w0 : World) → d ≡ e → j ≡ i → k ≡ n → Later U K w0 w → Later U K w0 (beside w e d i j n k)
  later_beside K w0 errors inputs steps l = record {
    match = match_beside errors inputs steps l.match;
    extends = record {
      same_places = l.extends.same_places;
      same_objects = l.extends.same_objects;
      same_alone = l.extends.same_alone;
      same_declared = l.extends.same_declared;
      new_places = l.extends.new_places;
      new_objects = l.extends.new_objects;
    };
    grows = l.grows;
    net_grows = l.net_grows;
    arrays_grow = l.arrays_grow;
    same_classes = l.same_classes;
    same_kinds = l.same_kinds;
    same_values = l.same_values;
    same_cells = l.same_cells;
    same_elements = l.same_elements;
    same_arrays = λ q s b m x a. array_beside q s b (l.same_arrays q s b m x a);
    same_ranks = l.same_ranks;
    same_loose = λ b lt y t. let x = l.same_loose b lt y t in (x.0, λ q m z. x.1 q (matched_without q m) z);
    same_alone = l.same_alone;
    same_unmapped = l.same_unmapped;
  }

module _ (U : Upgrade) where
  pub later_steps : (K : Pledge) (w : World) (n : ℕ) → MemoryMatch U w → Later U K w (with_steps w n)
  later_steps K w n h =
      later_beside U w w.src.err w.net.err w.src.inputs w.net.inputs n n K w h.stores.errors h.inputs refl (later_now U K w h)

  -- both sides raise the same number
  pub later_errors : (K : Pledge) (w0 : World) (m : Map) (s : Memory) (t : net.Memory) (e d : ℕ) → d ≡ e → Later U K w0 (world_of m s t)
      → Later U K w0 (world_of m (record s { err = e }) (record t { err = d }))
  later_errors K w0 m s t e d same l =
      later_beside U (world_of m s t) e d s.inputs t.inputs s.left t.left K w0 same l.match.inputs l.match.steps l

  -- A run begins with inputs and steps of its own, from stores that match.
  pub later_start : (K : Pledge) (w : World) (i : List (List ℕ)) (n : ℕ) → StoreMatch U w → Later U K w (beside w w.src.err w.net.err i i n n)
  later_start K w i n h =
      let x : Extends w w = extends_self w in
      record {
        match = record { stores = stores_beside U w w.src.err w.net.err i i n n h.errors h; steps = refl; inputs = refl };
        extends = record {
          same_places = x.same_places;
          same_objects = x.same_objects;
          same_alone = x.same_alone;
          same_declared = x.same_declared;
          new_places = x.new_places;
          new_objects = x.new_objects;
        };
        grows = below_self (mark w.src);
        net_grows = below_self (net_mark w.net);
        arrays_grow = up_self w.net.next_array;
        same_classes = λ o lt. refl;
        same_kinds = λ q. keeps_self (w.src.held q);
        same_values = λ q l y. refl;
        same_cells = λ q m l y. refl;
        same_elements = λ q k m l e. refl;
        same_arrays = λ q e k m s a. array_beside U w w.src.err w.net.err i i n n q e k a;
        same_ranks = λ q rank m r. r;
        same_loose = λ k lt l t. (refl, λ q m z. l q (matched_without U w w.src.err w.net.err i i n n q m) z);
        same_alone = λ q m u. refl;
        same_unmapped = λ p m u. refl;
      }
