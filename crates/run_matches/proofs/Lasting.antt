-- What lasts composes, and the places of a procedure that has ended may be left.
use Rattle.std.proofs.Common.{◌≡◌, ◌⊎◌, inl, inr, ⊎_elim, refl, sym, ap, subst, ◌∙◌, ℕ, ◌<◌, ◌≤◌, Bool, true, false, cond, not, List, [], ◌∷◌, arith}
use Rattle.std.specs.Prelude.{nat_lt}
use Rattle.std.proofs.lemmas.Bool.{true≢false, ltb-true, ltb-false, lt-ltb}
use Rattle.vb6_run.specs.Shapes.{Shape}
use Rattle.run_base.specs.Positions.{Root, shared, made, field, Position}
use Rattle.vb6_run.specs.Store.{Held, blank, single, table, parts}
use Rattle.net_meaning.specs.declared.value.ValueN.TheVariants as n
use Rattle.net_run.specs.Store as net
use Rattle.run_matches.specs.Upgrades.{Upgrade}
use Rattle.run_matches.specs.Maps.{World, Mark, Below, IsMade, IsMatched, IsUnmapped, Extends, is_sound_part, is_auto_variable, is_fixed_variable, is_fixed_position, has_counterpart, root_variable, mark, net_mark, moved, moved_at, moved_key}
use Rattle.run_matches.specs.Kinds.{KeepsKind}
use Rattle.run_matches.specs.Match.{Holds, holds_single, holds_table, HasArray, StoreMatch, MemoryMatch}
use Rattle.run_matches.specs.Pledges.{Pledge, IsLasting, IsHeld, Stays, kept_type, lasting, fixed_array, Later}

abbrev at : Root → List ℕ → Position
at r path = record { root = r; path = path }

more : (a b : Mark) → Below a b → (r : Root) → IsMade a r → IsMade b r
more a b le (shared k) m = tt
more a b le (made p) m = let x = le.places in omega arith
more a b le (field o k) m = let x = le.objects in omega arith

more_number : (p a b : ℕ) → a ≤ b → p < a → p < b
more_number p a b le lt = omega arith

more_at : (p a b : ℕ) → a ≤ b → p < a → p < b
more_at p a b le lt = omega arith

below_then : (a b c : Mark) → Below a b → Below b c → Below a c
below_then a b c x y = let p = x.places in let q = y.places in let r = x.objects in let s = y.objects in record { places = omega arith; objects = omega arith }

not_alone : (a : Bool) → not a ≡ true → a ≡ false
not_alone true e = absurd (true≢false (sym e))
not_alone false e = refl

tell_by : (a b : ℕ) (t : Bool) → nat_lt a b ≡ t → (a < b) ⊎ (b ≤ a)
tell_by a b true e = inl (ltb-true a b e)
tell_by a b false e = inr (ltb-false a b e)

tell : (a b : ℕ) → (a < b) ⊎ (b ≤ a)
tell a b = tell_by a b (nat_lt a b) refl

not_blank : (U : Upgrade) (w : World) (h : Held) (k : ℕ) → Holds U w h (net.holds (n.Array k)) → h ≡ blank → ⊥
not_blank U w _ k (holds_single ty x y z) e = cc
not_blank U w _ k (holds_table f dims xs j z) e = cc

pub keeps_self : (h : Held) → KeepsKind h h
keeps_self blank = tt
keeps_self (single ty x) = (x, refl)
keeps_self (table e dims xs) = (dims, xs, refl)
keeps_self parts = refl

keeps_then : (g h k : Held) → KeepsKind g h → KeepsKind h k → KeepsKind g k
keeps_then blank h k a b = tt
keeps_then (single ty x) h k a b = subst (λ z. KeepsKind z k) a.1 b
keeps_then (table e dims xs) h k a b = subst (λ z. KeepsKind z k) a.2 b
keeps_then parts h k a b = subst (λ z. KeepsKind z k) a b

-- ---- what was made at the first of two worlds goes on to be what it was

module _ (U : Upgrade) (w0 w1 : World) (x : Extends w0 w1) where
  same_moved : (r : Root) → IsMade (mark w0.src) r → moved U w1.map r ≡ moved U w0.map r
  same_moved (shared k) m = refl
  same_moved (made p) m = ap made (x.same_places p m)
  same_moved (field o k) m = ap (λ i. field i (moved_key U k)) (x.same_objects o m)

  same_at : (q : Position) → IsMade (mark w0.src) q.root → moved_at U w1.map q ≡ moved_at U w0.map q
  same_at q m = ap (λ r. at r q.path) (same_moved q.root m)

  same_counterpart : (r : Root) → IsMade (mark w0.src) r → has_counterpart U w1.map r ≡ has_counterpart U w0.map r
  same_counterpart (shared k) m = refl
  same_counterpart (made p) m = ap not (x.same_alone p m)
  same_counterpart (field o k) m = refl

  same_variable : (r : Root) → IsMade (mark w0.src) r → root_variable w1.map r ≡ root_variable w0.map r
  same_variable (shared k) m = refl
  same_variable (made p) m = x.same_declared p m
  same_variable (field o k) m = refl

  matched_later : Below (mark w0.src) (mark w1.src) → (q : Position) → IsMatched U w0 q → IsMatched U w1 q
  matched_later le q m = record {
    is_made = more (mark w0.src) (mark w1.src) le q.root m.is_made;
    counterpart = same_counterpart q.root m.is_made ∙ m.counterpart;
    sound = subst (λ v. is_sound_part U v q.path ≡ true) (sym (same_variable q.root m.is_made)) m.sound;
  }

  matched_before : (q : Position) → IsMade (mark w0.src) q.root → IsMatched U w1 q → IsMatched U w0 q
  matched_before q there m = record {
    is_made = there;
    counterpart = sym (same_counterpart q.root there) ∙ m.counterpart;
    sound = subst (λ v. is_sound_part U v q.path ≡ true) (same_variable q.root there) m.sound;
  }

  lasting_later : (K : Pledge) → Below K.base (mark w0.src) → (q : Position) → IsLasting U K w0 q → IsLasting U K w1 q
  lasting_later K low q l = record {
    steady = l.steady;
    old = l.old;
    plain = subst (λ v. is_auto_variable U v ≡ false) (sym (same_variable q.root (more K.base (mark w0.src) low q.root l.old.is_made))) l.plain;
  }

  fixed_later : (r : Root) (path : List ℕ) → IsMade (mark w0.src) r → is_fixed_position U w0.map (at r path) ≡ true
      → is_fixed_position U w1.map (at r path) ≡ true
  fixed_later r [] m e = subst (λ v. is_fixed_variable U v ≡ true) (sym (same_variable r m)) e
  fixed_later r (i ∷ path) m e = e

  -- what was made since goes to what was made since
  was_made : (r : Root) → IsMade (mark w1.src) r → has_counterpart U w1.map r ≡ true → IsMade (net_mark w0.net) (moved U w1.map r)
      → IsMade (mark w0.src) r
  was_made (shared k) m c there = tt
  was_made (made p) m c there =
      ⊎_elim (λ lt. lt) (λ le. let new : w0.net.next ≤ w1.map.places p = x.new_places p le m (not_alone (w1.map.alone p) c) in absurd (omega arith)) (tell p w0.src.next)
  was_made (field o k) m c there =
      ⊎_elim (λ lt. lt) (λ le. let new : w0.net.next_object ≤ w1.map.objects o = x.new_objects o le m in absurd (omega arith)) (tell o w0.src.next_object)

  still_unmapped : (p : Position) → IsMade (net_mark w0.net) p.root → IsUnmapped U w0 p → IsUnmapped U w1 p
  still_unmapped p there u q m e =
      let old : IsMade (mark w0.src) q.root = was_made q.root m.is_made m.counterpart (subst (λ z. IsMade (net_mark w0.net) z.root) (sym e) there) in
      u q (matched_before q old m) (sym (same_at q old) ∙ e)

stays_later : (U : Upgrade) (K : Pledge) (w0 w1 : World) (x : Extends w0 w1) → Below K.base (mark w0.src) → (q : Position) (e : Shape)
    → IsMatched U w0 q → Stays U K w0 q e → Stays U K w1 q e
stays_later U K w0 w1 x low q e m (kept_type k) = kept_type k
stays_later U K w0 w1 x low q e m (lasting l) = lasting (lasting_later U w0 w1 x K low q l)
stays_later U K w0 w1 x low q e m (fixed_array f) = fixed_array (fixed_later U w0 w1 x q.root q.path m.is_made f)

up : (a b c : ℕ) → a ≤ b → b ≤ c → a ≤ c
up a b c x y = omega arith

held_there : (U : Upgrade) (w : World) (q : Position) (k : ℕ) → StoreMatch U w → IsMatched U w q
    → w.net.cell (moved_at U w.map q) ≡ net.holds (n.Array k) → IsHeld w q
held_there U w q k h m e z = not_blank U w (w.src.held q) k (subst (λ c. Holds U w (w.src.held q) c) e (h.values q m)) z

-- what lasts from one world to a second and from there to a third
pub then_later : (U : Upgrade) (K : Pledge) (w0 w1 w2 : World) → Below K.base (mark w0.src) → MemoryMatch U w0 → Later U K w0 w1 → Later U K w1 w2
    → Later U K w0 w2
then_later U K w0 w1 w2 low h a b =
    let x = a.extends in
    let y = b.extends in
    let ga = a.grows in
    let gb = b.grows in
    let na = a.net_grows in
    let nb = b.net_grows in
    let la = a.arrays_grow in
    let lb = b.arrays_grow in
    let at1 : (q : Position) → IsMatched U w0 q → IsMatched U w1 q = matched_later U w0 w1 x ga in
    let go : (q : Position) → IsLasting U K w0 q → IsLasting U K w1 q = lasting_later U w0 w1 x K low in
    record {
      match = b.match;
      extends = record {
        same_places = λ p lt. y.same_places p (more_number p w0.src.next w1.src.next ga.places lt) ∙ x.same_places p lt;
        same_objects = λ o lt. y.same_objects o (more_number o w0.src.next_object w1.src.next_object ga.objects lt) ∙ x.same_objects o lt;
        same_alone = λ p lt. y.same_alone p (more_number p w0.src.next w1.src.next ga.places lt) ∙ x.same_alone p lt;
        same_declared = λ p lt. y.same_declared p (more_number p w0.src.next w1.src.next ga.places lt) ∙ x.same_declared p lt;
        new_places = λ p le lt c.
            ⊎_elim
            (λ z. let c1 : w1.map.alone p ≡ false = sym (y.same_alone p z) ∙ c in
            subst (λ k. w0.net.next ≤ k) (sym (y.same_places p z)) (x.new_places p le z c1))
            (λ z. up w0.net.next w1.net.next (w2.map.places p) na.places (y.new_places p z lt c)) (tell p w1.src.next);
        new_objects = λ o le lt.
            ⊎_elim
            (λ z. subst (λ k. w0.net.next_object ≤ k) (sym (y.same_objects o z)) (x.new_objects o le z))
            (λ z. up w0.net.next_object w1.net.next_object (w2.map.objects o) na.objects (y.new_objects o z lt)) (tell o w1.src.next_object);
      };
      grows = below_then (mark w0.src) (mark w1.src) (mark w2.src) ga gb;
      net_grows = below_then (net_mark w0.net) (net_mark w1.net) (net_mark w2.net) na nb;
      arrays_grow = omega arith;
      same_classes = λ o lt. b.same_classes o (more_number o w0.src.next_object w1.src.next_object ga.objects lt) ∙ a.same_classes o lt;
      same_kinds = λ q. keeps_then (w0.src.held q) (w1.src.held q) (w2.src.held q) (a.same_kinds q) (b.same_kinds q);
      same_values = λ q l i. b.same_values q (go q l) (λ z. i (sym (a.same_values q l i) ∙ z)) ∙ a.same_values q l i;
      same_cells = λ q m l i.
          ap w2.net.cell (sym (same_at U w0 w1 x q m.is_made))
          ∙ (b.same_cells q (at1 q m) (go q l) (λ z. i (sym (a.same_values q l i) ∙ z))
          ∙ (ap w1.net.cell (same_at U w0 w1 x q m.is_made) ∙ a.same_cells q m l i));
      same_elements = λ q k m l e.
          let i : IsHeld w0 q = held_there U w0 q k h.stores m e in
          let e1 : w1.net.cell (moved_at U w1.map q) ≡ net.holds (n.Array k) = ap w1.net.cell (same_at U w0 w1 x q m.is_made) ∙ (a.same_cells q m l i ∙ e) in
          b.same_elements q k (at1 q m) (go q l) e1 ∙ a.same_elements q k m l e;
      same_arrays = λ q e k m s t. b.same_arrays q e k (at1 q m) (stays_later U K w0 w1 x low q e m s) (a.same_arrays q e k m s t);
      same_ranks = λ q rank m r. b.same_ranks q rank (at1 q m) (a.same_ranks q rank m r);
      same_loose = λ k lt l t.
          let first = a.same_loose k lt l t in
          let second = b.same_loose k (more_at k w0.net.next_array w1.net.next_array la lt) first.1 t in
          (second.0 ∙ first.0, second.1);
      same_alone = λ q m u.
          b.same_alone q (more (mark w0.src) (mark w1.src) ga q.root m) (λ z. u (matched_before U w0 w1 x q m z)) ∙ a.same_alone q m u;
      same_unmapped = λ p m u.
          b.same_unmapped p (more (net_mark w0.net) (net_mark w1.net) na p.root m) (still_unmapped U w0 w1 x p m u) ∙ a.same_unmapped p m u;
    }

-- ---- a procedure has ended: no place that was made since the first world is compared any more

abbrev pub dropped : World → World → World
dropped w0 w = record w { map = record w.map { alone = λ p. cond (nat_lt p w0.src.next) (w.map.alone p) true } }

was_false : (b a : Bool) → cond b a true ≡ false → a ≡ false
was_false true a e = e
was_false false a e = absurd (true≢false e)

was_true : (b a : Bool) → not (cond b a true) ≡ true → not a ≡ true
was_true true a e = e
was_true false a e = absurd (true≢false (sym e))

undropped : (U : Upgrade) (w0 w : World) (r : Root) (path : List ℕ) → IsMatched U (dropped w0 w) (at r path) → IsMatched U w (at r path)
undropped U w0 w (shared k) path h = record { is_made = h.is_made; counterpart = h.counterpart; sound = h.sound }
undropped U w0 w (made p) path h =
    record { is_made = h.is_made; counterpart = was_true (nat_lt p w0.src.next) (w.map.alone p) h.counterpart; sound = h.sound }
undropped U w0 w (field o k) path h = record { is_made = h.is_made; counterpart = h.counterpart; sound = h.sound }

stores_dropped : (U : Upgrade) (w0 w : World) → StoreMatch U w → StoreMatch U (dropped w0 w)
stores_dropped U w0 w h = record {
  into = λ a lt e. h.into a lt (was_false _ _ e);
  one_to_one = λ a b lt more e f same. h.one_to_one a b lt more (was_false _ _ e) (was_false _ _ f) same;
  objects_into = h.objects_into;
  objects_one_to_one = h.objects_one_to_one;
  classes = h.classes;
  values = λ q m. h.values q (undropped U w0 w q.root q.path m);
  apart = λ p q k m l e f. h.apart p q k (undropped U w0 w p.root p.path m) (undropped U w0 w q.root q.path l) e f;
  known = λ q k m e. h.known q k (undropped U w0 w q.root q.path m) e;
  ranks = λ q x y k m r i e. h.ranks q x y k (undropped U w0 w q.root q.path m) r i e;
  short = h.short;
  unmade = h.unmade;
  net_unmade = h.net_unmade;
  errors = h.errors;
  kinds = h.kinds;
  fields = h.fields;
}

kept_alone : (b a c : Bool) → b ≡ true → a ≡ c → cond b a true ≡ c
kept_alone true a c e f = f
kept_alone false a c e f = absurd (true≢false (sym e))

array_dropped : (U : Upgrade) (w0 w : World) (q : Position) (e : Shape) (k : ℕ) → HasArray U w q e k → HasArray U (dropped w0 w) q e k
array_dropped U w0 w q e k a = record { dims = a.dims; values = a.values; held = a.held; cell = a.cell }

pub drops : (U : Upgrade) (K : Pledge) (w0 w : World) → Later U K w0 w → Later U K w0 (dropped w0 w)
drops U K w0 w l = record {
  match = record { stores = stores_dropped U w0 w l.match.stores; steps = l.match.steps; inputs = l.match.inputs };
  extends = record {
    same_places = l.extends.same_places;
    same_objects = l.extends.same_objects;
    same_alone = λ p lt. kept_alone (nat_lt p w0.src.next) (w.map.alone p) (w0.map.alone p) (lt-ltb p w0.src.next lt) (l.extends.same_alone p lt);
    same_declared = l.extends.same_declared;
    new_places = λ p le lt a. l.extends.new_places p le lt (was_false _ _ a);
    new_objects = l.extends.new_objects;
  };
  grows = l.grows;
  net_grows = l.net_grows;
  arrays_grow = l.arrays_grow;
  same_classes = l.same_classes;
  same_kinds = l.same_kinds;
  same_values = l.same_values;
  same_cells = l.same_cells;
  same_elements = l.same_elements;
  same_arrays = λ q e k m s a. array_dropped U w0 w q e k (l.same_arrays q e k m s a);
  same_ranks = l.same_ranks;
  same_loose = λ k lt i t. ((l.same_loose k lt i t).0, λ q m e. (l.same_loose k lt i t).1 q (undropped U w0 w q.root q.path m) e);
  same_alone = l.same_alone;
  same_unmapped = l.same_unmapped;
}
