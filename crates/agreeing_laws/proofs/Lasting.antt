-- What lasts from one world to a second, and from there to a third.
use Rattle.std.proofs.Common.{◌≡◌, refl, sym, ap, subst, ◌∙◌, ℕ, ◌≤◌, false}
use Rattle.vb6_run.specs.Shapes.{Shape}
use Rattle.vb6_run.specs.Store.{Memory}
use Rattle.run_base.specs.Positions.{Position}
use Rattle.net_run.specs.Store as net
use Rattle.run_matches.specs.Upgrades.{Upgrade}
use Rattle.run_matches.specs.Maps.{Map, World, Below, IsMade, IsMatched, Extends, is_auto_variable, mark, net_mark}
use Rattle.run_matches.specs.Match.{HasArray, StoreMatch, MemoryMatch}
use Rattle.run_matches.specs.Pledges.{Pledge, IsLasting, IsHeld, Stays, kept_type, lasting, fixed_array, Later}
use Rattle.run_matches.specs.Agreeing.{world_of}
use Rattle.agreeing_laws.specs.Promises.{Weaker}
use Rattle.agreeing_laws.proofs.SameKinds.{keeps_self, keeps_then}
use Rattle.agreeing_laws.proofs.Made.{up, up_self, more, below_self, below_then, made_more, made_if_held, held_if_array, same_at, same_variable, matched_later, matched_before, fixed_later, still_unmapped, extends_self, extends_then}

pub weaker_self : (w : World) (K : Pledge) → Weaker w K K
weaker_self w K = record { keeps = λ ty x. x; steady = λ x. x; old = λ r m s x. x; takes = λ k lt x. x }

pub weaker_then : (w : World) (M L K : Pledge) → Weaker w M L → Weaker w L K → Weaker w M K
weaker_then w M L K f g = record {
  keeps = λ ty x. g.keeps ty (f.keeps ty x);
  steady = λ x. g.steady (f.steady x);
  old = λ r m s x. g.old r m (f.steady s) (f.old r m s x);
  takes = λ k lt x. f.takes k lt (g.takes k lt x);
}

-- what is weaker from a later world on is weaker from an earlier one
pub weaker_before : (w0 w1 : World) (L K : Pledge) → Below (mark w0.src) (mark w1.src) → w0.net.next_array ≤ w1.net.next_array → Weaker w1 L K → Weaker w0 L K
weaker_before w0 w1 L K g le f = record {
  keeps = f.keeps;
  steady = f.steady;
  old = λ r m s x. f.old r (made_more (mark w0.src) (mark w1.src) g r m) s x;
  takes = λ k lt x. f.takes k (more k w0.net.next_array w1.net.next_array le lt) x;
}

pub later_now : (U : Upgrade) (K : Pledge) (w : World) → MemoryMatch U w → Later U K w w
later_now U K w h = record {
  match = h;
  extends = extends_self w;
  grows = below_self (mark w.src);
  net_grows = below_self (net_mark w.net);
  arrays_grow = up_self w.net.next_array;
  same_classes = λ o lt. refl;
  same_kinds = λ q. keeps_self (w.src.held q);
  same_values = λ q l i. refl;
  same_cells = λ q m l i. refl;
  same_elements = λ q k m l e. refl;
  same_arrays = λ q e k m s a. a;
  same_ranks = λ q rank m r. r;
  same_loose = λ k lt l t. (refl, l);
  same_alone = λ q m u. refl;
  same_unmapped = λ p m u. refl;
}

lasting_later : (U : Upgrade) (w0 w1 : World) (L K : Pledge) → Extends w0 w1 → Weaker w0 L K → (q : Position) → IsMade (mark w0.src) q.root → IsLasting U L w0 q
    → IsLasting U K w1 q
lasting_later U w0 w1 L K x f q m l = record {
  steady = f.steady l.steady;
  old = f.old q.root m l.steady l.old;
  plain = subst (λ v. is_auto_variable U v ≡ false) (sym (same_variable U w0 w1 x q.root m)) l.plain;
}

stays_later : (U : Upgrade) (w0 w1 : World) (L K : Pledge) → Extends w0 w1 → Weaker w0 L K → (q : Position) (e : Shape) → IsMade (mark w0.src) q.root
    → Stays U L w0 q e → Stays U K w1 q e
stays_later U w0 w1 L K x f q e m (kept_type k) = kept_type (f.keeps _ k)
stays_later U w0 w1 L K x f q e m (lasting l) = lasting (lasting_later U w0 w1 L K x f q m l)
stays_later U w0 w1 L K x f q e m (fixed_array a) = fixed_array (fixed_later U w0 w1 x q.root q.path m a)

-- The second step may promise more: what it takes was made since the first world, say.
pub later_from : (U : Upgrade) (L K : Pledge) (w0 w1 w2 : World) → StoreMatch U w0 → Weaker w0 L K → Later U L w0 w1 → Later U K w1 w2 → Later U L w0 w2
later_from U L K w0 w1 w2 h f a b =
    let x : Extends w0 w1 = a.extends in
    let held1 : (q : Position) → IsLasting U L w0 q → IsHeld w0 q → IsHeld w1 q = λ q l i z. i (sym (a.same_values q l i) ∙ z) in
    let go : (q : Position) → IsMade (mark w0.src) q.root → IsLasting U L w0 q → IsLasting U K w1 q = lasting_later U w0 w1 L K x f in
    let at1 : (q : Position) → IsMatched U w0 q → IsMatched U w1 q = matched_later U w0 w1 x a.grows in
    record {
      match = b.match;
      extends = extends_then w0 w1 w2 a.grows a.net_grows x b.extends;
      grows = below_then (mark w0.src) (mark w1.src) (mark w2.src) a.grows b.grows;
      net_grows = below_then (net_mark w0.net) (net_mark w1.net) (net_mark w2.net) a.net_grows b.net_grows;
      arrays_grow = up w0.net.next_array w1.net.next_array w2.net.next_array a.arrays_grow b.arrays_grow;
      same_classes = λ o lt.
          b.same_classes o (more o w0.src.next_object w1.src.next_object a.grows.objects lt) ∙ a.same_classes o lt;
      same_kinds = λ q. keeps_then (w0.src.held q) (w1.src.held q) (w2.src.held q) (a.same_kinds q) (b.same_kinds q);
      same_values = λ q l i. b.same_values q (go q (made_if_held U w0 h q i) l) (held1 q l i) ∙ a.same_values q l i;
      same_cells = λ q m l i.
          ap w2.net.cell (sym (same_at U w0 w1 x q m.is_made))
          ∙ (b.same_cells q (at1 q m) (go q m.is_made l) (held1 q l i)
          ∙ (ap w1.net.cell (same_at U w0 w1 x q m.is_made) ∙ a.same_cells q m l i));
      same_elements = λ q k m l e.
          b.same_elements q k (at1 q m) (go q m.is_made l)
          (ap w1.net.cell (same_at U w0 w1 x q m.is_made) ∙ (a.same_cells q m l (held_if_array U w0 q k h m e) ∙ e))
          ∙ a.same_elements q k m l e;
      same_arrays = λ q e k m s t. b.same_arrays q e k (at1 q m) (stays_later U w0 w1 L K x f q e m.is_made s) (a.same_arrays q e k m s t);
      same_ranks = λ q rank m r. b.same_ranks q rank (at1 q m) (a.same_ranks q rank m r);
      same_loose = λ k lt l t.
          let first = a.same_loose k lt l t in
          let second = b.same_loose k (more k w0.net.next_array w1.net.next_array a.arrays_grow lt) first.1 (λ z. t (f.takes k lt z)) in
          (second.0 ∙ first.0, second.1);
      same_alone = λ q m u.
          b.same_alone q (made_more (mark w0.src) (mark w1.src) a.grows q.root m) (λ z. u (matched_before U w0 w1 x q m z)) ∙ a.same_alone q m u;
      same_unmapped = λ p m u.
          b.same_unmapped p (made_more (net_mark w0.net) (net_mark w1.net) a.net_grows p.root m) (still_unmapped U w0 w1 x p m u) ∙ a.same_unmapped p m u;
    }

pub later_then : (U : Upgrade) (K : Pledge) (w0 w1 w2 : World) → MemoryMatch U w0 → Later U K w0 w1 → Later U K w1 w2 → Later U K w0 w2
later_then U K w0 w1 w2 h a b = later_from U K K w0 w1 w2 h.stores (weaker_self w0 K) a b

pub later_weaker : (U : Upgrade) (L K : Pledge) (w0 w : World) → MemoryMatch U w0 → Weaker w0 L K → Later U K w0 w → Later U L w0 w
later_weaker U L K w0 w h f a = later_from U L K w0 w0 w h.stores f (later_now U L w0 h) a

-- ---- two maps to the same memories

array_at : (U : Upgrade) (w0 : World) (m p : Map) (s : Memory) (t : net.Memory) (q : Position) (e : Shape) (k : ℕ) → IsMade (mark w0.src) q.root
    → Extends w0 (world_of m s t) → Extends w0 (world_of p s t) → HasArray U (world_of m s t) q e k → HasArray U (world_of p s t) q e k
array_at U w0 m p s t q e k old x y a = record {
  dims = a.dims;
  values = a.values;
  held = a.held;
  cell = ap t.cell (same_at U w0 (world_of p s t) y q old ∙ sym (same_at U w0 (world_of m s t) x q old)) ∙ a.cell;
}

-- What another promise says of the memories holds under either map.
pub later_moved : (U : Upgrade) (L K : Pledge) (w0 : World) (m p : Map) (s : Memory) (t : net.Memory) → ((k : ℕ) → K.takes k → L.takes k)
    → Later U L w0 (world_of m s t) → Later U K w0 (world_of p s t) → Later U L w0 (world_of p s t)
later_moved U L K w0 m p s t takes a b = record {
  match = b.match;
  extends = b.extends;
  grows = b.grows;
  net_grows = b.net_grows;
  arrays_grow = b.arrays_grow;
  same_classes = b.same_classes;
  same_kinds = b.same_kinds;
  same_values = a.same_values;
  same_cells = a.same_cells;
  same_elements = a.same_elements;
  same_arrays = λ q e k i stays has. array_at U w0 m p s t q e k i.is_made a.extends b.extends (a.same_arrays q e k i stays has);
  same_ranks = b.same_ranks;
  same_loose = λ k lt l free. b.same_loose k lt l (λ z. free (takes k z));
  same_alone = b.same_alone;
  same_unmapped = b.same_unmapped;
}
