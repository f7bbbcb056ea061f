-- What was made at the first of two worlds goes on to be what it was.
use Rattle.std.proofs.Common.{◌≡◌, ◌⊎◌, inl, inr, ⊎_elim, refl, sym, ap, subst, ◌∙◌, ℕ, ◌<◌, ◌≤◌, Bool, true, false, not, List, [], ◌∷◌, arith, true≢false, ltb-true, ltb-false}
use Rattle.std.specs.Prelude.{nat_lt}
use Rattle.run_base.specs.Positions.{Root, shared, made, field, Position}
use Rattle.vb6_run.specs.Store.{Held, blank}
use Rattle.net_meaning.specs.declared.value.ValueN.TheVariants as n
use Rattle.net_run.specs.Store as net
use Rattle.run_matches.specs.Upgrades.{Upgrade}
use Rattle.run_matches.specs.Maps.{World, Mark, Below, IsMade, IsUnmade, IsMatched, IsUnmapped, Extends, is_sound_part, is_fixed_variable, is_fixed_whole, has_counterpart, root_variable, mark, net_mark, moved, moved_at, moved_key}
use Rattle.run_matches.specs.Match.{Holds, holds_single, holds_table, StoreMatch}
use Rattle.run_matches.specs.Pledges.{IsHeld}

abbrev at : Root → List ℕ → Position
at r path = record { root = r; path = path }

-- ---- numbers

pub up : (a b c : ℕ) → a ≤ b → b ≤ c → a ≤ c
up a b c x y = omega arith

pub more : (p a b : ℕ) → a ≤ b → p < a → p < b
more p a b le lt = omega arith

pub up_self : (a : ℕ) → a ≤ a
up_self a = omega arith

tell_by : (a b : ℕ) (t : Bool) → nat_lt a b ≡ t → (a < b) ⊎ (b ≤ a)
tell_by a b true e = inl (ltb-true a b e)
tell_by a b false e = inr (ltb-false a b e)

pub tell : (a b : ℕ) → (a < b) ⊎ (b ≤ a)
tell a b = tell_by a b (nat_lt a b) refl

not_both : (a b c : ℕ) → a ≤ b → b < c → c ≤ a → ⊥
not_both a b c x y z = omega arith

-- ---- marks

pub below_self : (a : Mark) → Below a a
below_self a = record { places = omega arith; objects = omega arith }

pub below_then : (a b c : Mark) → Below a b → Below b c → Below a c
below_then a b c x y = record {
  places = up a.places b.places c.places x.places y.places;
  objects = up a.objects b.objects c.objects x.objects y.objects;
}

pub made_more : (a b : Mark) → Below a b → (r : Root) → IsMade a r → IsMade b r
made_more a b le (shared k) m = tt
made_more a b le (made p) m = more p a.places b.places le.places m
made_more a b le (field o k) m = more o a.objects b.objects le.objects m

pub made_or_not : (a : Mark) (r : Root) → IsMade a r ⊎ IsUnmade a r
made_or_not a (shared k) = inl tt
made_or_not a (made p) = tell p a.places
made_or_not a (field o k) = tell o a.objects

not_alone : (a : Bool) → not a ≡ true → a ≡ false
not_alone true e = absurd (true≢false (sym e))
not_alone false e = refl

-- ---- what stands somewhere was made

pub made_if_held : (U : Upgrade) (w : World) → StoreMatch U w → (q : Position) → IsHeld w q → IsMade (mark w.src) q.root
made_if_held U w h q i = ⊎_elim (λ m. m) (λ u. absurd (i (h.unmade q u))) (made_or_not (mark w.src) q.root)

not_blank : (U : Upgrade) (w : World) (h : Held) (k : ℕ) → Holds U w h (net.holds (n.Array k)) → h ≡ blank → ⊥
not_blank U w _ k (holds_single ty x y z) e = cc
not_blank U w _ k (holds_table f dims xs j z) e = cc

pub held_if_array : (U : Upgrade) (w : World) (q : Position) (k : ℕ) → StoreMatch U w → IsMatched U w q
    → w.net.cell (moved_at U w.map q) ≡ net.holds (n.Array k) → IsHeld w q
held_if_array U w q k h m e z = not_blank U w (w.src.held q) k (subst (λ c. Holds U w (w.src.held q) c) e (h.values q m)) z

-- ---- under a map that was extended

module _ (U : Upgrade) (w0 w1 : World) (x : Extends w0 w1) where
  same_moved : (r : Root) → IsMade (mark w0.src) r → moved U w1.map r ≡ moved U w0.map r
  same_moved (shared k) m = refl
  same_moved (made p) m = ap made (x.same_places p m)
  same_moved (field o k) m = ap (λ i. field i (moved_key U k)) (x.same_objects o m)

  pub same_at : (q : Position) → IsMade (mark w0.src) q.root → moved_at U w1.map q ≡ moved_at U w0.map q
  same_at q m = ap (λ r. at r q.path) (same_moved q.root m)

  same_counterpart : (r : Root) → IsMade (mark w0.src) r → has_counterpart U w1.map r ≡ has_counterpart U w0.map r
  same_counterpart (shared k) m = refl
  same_counterpart (made p) m = ap not (x.same_alone p m)
  same_counterpart (field o k) m = refl

  pub same_variable : (r : Root) → IsMade (mark w0.src) r → root_variable w1.map r ≡ root_variable w0.map r
  same_variable (shared k) m = refl
  same_variable (made p) m = x.same_declared p m
  same_variable (field o k) m = refl

  pub matched_later : Below (mark w0.src) (mark w1.src) → (q : Position) → IsMatched U w0 q → IsMatched U w1 q
  matched_later le q m = record {
    is_made = made_more (mark w0.src) (mark w1.src) le q.root m.is_made;
    counterpart = same_counterpart q.root m.is_made ∙ m.counterpart;
    sound = subst (λ v. is_sound_part U v q.path ≡ true) (sym (same_variable q.root m.is_made)) m.sound;
  }

  pub matched_before : (q : Position) → IsMade (mark w0.src) q.root → IsMatched U w1 q → IsMatched U w0 q
  matched_before q there m = record {
    is_made = there;
    counterpart = sym (same_counterpart q.root there) ∙ m.counterpart;
    sound = subst (λ v. is_sound_part U v q.path ≡ true) (same_variable q.root there) m.sound;
  }

  pub fixed_later : (r : Root) (path : List ℕ) → IsMade (mark w0.src) r → is_fixed_whole U w0.map r path ≡ true → is_fixed_whole U w1.map r path ≡ true
  fixed_later r [] m e = subst (λ v. is_fixed_variable U v ≡ true) (sym (same_variable r m)) e
  fixed_later r (i ∷ path) m e = e

  -- what was made since goes to what was made since
  was_made : (r : Root) → IsMade (mark w1.src) r → has_counterpart U w1.map r ≡ true → IsMade (net_mark w0.net) (moved U w1.map r)
      → IsMade (mark w0.src) r
  was_made (shared k) m c there = tt
  was_made (made p) m c there =
      ⊎_elim (λ lt. lt) (λ le. absurd (not_both w0.net.next (w1.map.places p) w0.net.next (x.new_places p le m (not_alone (w1.map.alone p) c)) there (up_self w0.net.next)))
      (tell p w0.src.next)
  was_made (field o k) m c there =
      ⊎_elim (λ lt. lt) (λ le. absurd (not_both w0.net.next_object (w1.map.objects o) w0.net.next_object (x.new_objects o le m) there (up_self w0.net.next_object)))
      (tell o w0.src.next_object)

  pub still_unmapped : (p : Position) → IsMade (net_mark w0.net) p.root → IsUnmapped U w0 p → IsUnmapped U w1 p
  still_unmapped p there u q m e =
      let old : IsMade (mark w0.src) q.root = was_made q.root m.is_made m.counterpart (subst (λ z. IsMade (net_mark w0.net) z.root) (sym e) there) in
      u q (matched_before q old m) (sym (same_at q old) ∙ e)

pub extends_self : (w : World) → Extends w w
extends_self w = record {
  same_places = λ p lt. refl;
  same_objects = λ o lt. refl;
  same_alone = λ p lt. refl;
  same_declared = λ p lt. refl;
  new_places = λ p le lt c. absurd (not_both w.src.next p w.src.next le lt (up_self w.src.next));
  new_objects = λ o le lt. absurd (not_both w.src.next_object o w.src.next_object le lt (up_self w.src.next_object));
}

pub extends_then : (w0 w1 w2 : World) → Below (mark w0.src) (mark w1.src) → Below (net_mark w0.net) (net_mark w1.net) → Extends w0 w1 → Extends w1 w2
    → Extends w0 w2
extends_then w0 w1 w2 g ng x y = record {
  same_places = λ p lt. y.same_places p (more p w0.src.next w1.src.next g.places lt) ∙ x.same_places p lt;
  same_objects = λ o lt. y.same_objects o (more o w0.src.next_object w1.src.next_object g.objects lt) ∙ x.same_objects o lt;
  same_alone = λ p lt. y.same_alone p (more p w0.src.next w1.src.next g.places lt) ∙ x.same_alone p lt;
  same_declared = λ p lt. y.same_declared p (more p w0.src.next w1.src.next g.places lt) ∙ x.same_declared p lt;
  new_places = λ p le lt c.
      ⊎_elim
      (λ z. subst (λ k. w0.net.next ≤ k) (sym (y.same_places p z)) (x.new_places p le z (sym (y.same_alone p z) ∙ c)))
      (λ z. up w0.net.next w1.net.next (w2.map.places p) ng.places (y.new_places p z lt c)) (tell p w1.src.next);
  new_objects = λ o le lt.
      ⊎_elim
      (λ z. subst (λ k. w0.net.next_object ≤ k) (sym (y.same_objects o z)) (x.new_objects o le z))
      (λ z. up w0.net.next_object w1.net.next_object (w2.map.objects o) ng.objects (y.new_objects o z lt)) (tell o w1.src.next_object);
}
