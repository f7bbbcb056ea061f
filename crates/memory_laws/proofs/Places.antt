-- A place is made on both sides, before anything stands in it.
use Rattle.std.proofs.Common.{◌≡◌, ◌⊎◌, inl, inr, ⊎_elim, refl, sym, ap, subst, ◌∙◌, ℕ, suc, ◌<◌, ◌≤◌, true, false, not, Option, [], arith}
use Rattle.net_meaning.specs.declared.value.ValueN.TheVariants as n
use Rattle.run_base.specs.Positions.{Root, shared, made, field, Position, whole}
use Rattle.vb6_run.specs.Store.{blank}
use Rattle.net_run.specs.Store as net
use Rattle.run_matches.specs.Upgrades.{Upgrade}
use Rattle.run_matches.specs.Maps.{World, Mark, Below, Extends, IsMade, IsUnmade, IsMatched, is_sound_part, mark, net_mark, moved, moved_at}
use Rattle.run_matches.specs.Match.{Holds, holds_blank, StoreMatch, MemoryMatch}
use Rattle.run_matches.specs.Pledges.{Pledge, Later}
use Rattle.agreeing_laws.proofs.SameKinds.{keeps_self}
use Rattle.agreeing_laws.proofs.Made.{up, up_self, tell, same_at, same_variable, matched_before}
use Rattle.memory_laws.specs.Changes.{with_place}
use Rattle.memory_laws.proofs.Changes.{none_between, holds_as}
use Rattle.memory_laws.proofs.Positions.{updated_at_here, updated_at_below}

pub one_more : (a : ℕ) → a ≤ suc a
one_more a = omega arith

pub below_more : (a b : ℕ) → a < b → a < suc b
below_more a b lt = omega arith

pub here_more : (a : ℕ) → a < suc a
here_more a = omega arith

pub the_last : (a b : ℕ) → a ≤ b → b < suc a → a ≡ b
the_last a b le lt = omega arith

pub not_here : (a b : ℕ) → a < b → a ≡ b → ⊥
not_here a b lt e = omega arith

pub unmade_before : (a b : Mark) → Below a b → (r : Root) → IsUnmade b r → IsUnmade a r
unmade_before a b le (shared k) u = u
unmade_before a b le (made p) u = up a.places b.places p le.places u
unmade_before a b le (field o k) u = up a.objects b.objects o le.objects u

pub array_in_blank : (c : net.Cell) (k : ℕ) → c ≡ net.blank → c ≡ net.holds (n.Array k) → ⊥
array_in_blank c k e f = no_array_in (sym e ∙ f)
  where
    no_array_in : net.blank ≡ net.holds (n.Array k) → ⊥
    no_array_in g = cc

module _ (U : Upgrade) (w : World) (d : Option ℕ) where
  -- the new place goes to the new place
  pub place_here : (with_place w d).map.places w.src.next ≡ w.net.next
  place_here = updated_at_here w.map.places w.src.next w.net.next

  alone_here : (with_place w d).map.alone w.src.next ≡ false
  alone_here = updated_at_here w.map.alone w.src.next false

  pub declared_here : (with_place w d).map.declares w.src.next ≡ d
  declared_here = updated_at_here w.map.declares w.src.next d

  place_before : (p : ℕ) → p < w.src.next → (with_place w d).map.places p ≡ w.map.places p
  place_before p lt = updated_at_below w.map.places w.src.next w.net.next p lt

  alone_before : (p : ℕ) → p < w.src.next → (with_place w d).map.alone p ≡ w.map.alone p
  alone_before p lt = updated_at_below w.map.alone w.src.next false p lt

  place_extends : Extends w (with_place w d)
  place_extends = record {
    same_places = place_before;
    same_objects = λ o lt. refl;
    same_alone = alone_before;
    same_declared = λ p lt. updated_at_below w.map.declares w.src.next d p lt;
    new_places = λ p le lt a.
        subst (λ z. w.net.next ≤ (with_place w d).map.places z) (the_last w.src.next p le lt)
        (subst (λ z. w.net.next ≤ z) (sym place_here) (up_self w.net.next));
    new_objects = λ o le lt. absurd (none_between w.src.next_object o le lt);
  }

  place_grows : Below (mark w.src) (mark (with_place w d).src)
  place_grows = record { places = one_more w.src.next; objects = up_self w.src.next_object }

  net_place_grows : Below (net_mark w.net) (net_mark (with_place w d).net)
  net_place_grows = record { places = one_more w.net.next; objects = up_self w.net.next_object }

  -- what is made was made before, or is the new place
  made_by_number : (p : ℕ) → p < suc w.src.next → (p < w.src.next) ⊎ (made p ≡ made w.src.next)
  made_by_number p lt = ⊎_elim (λ z. inl z) (λ z. inr (ap made (sym (the_last w.src.next p z lt)))) (tell p w.src.next)

  made_before : (r : Root) → IsMade (mark (with_place w d).src) r → IsMade (mark w.src) r ⊎ (r ≡ made w.src.next)
  made_before (shared k) m = inl tt
  made_before (made p) m = made_by_number p m
  made_before (field o k) m = inl m

  pub place_is_matched : is_sound_part U d [] ≡ true → IsMatched U (with_place w d) (whole (made w.src.next))
  place_is_matched sound = record {
    is_made = here_more w.src.next;
    counterpart = ap not alone_here;
    sound = subst (λ z. is_sound_part U z [] ≡ true) (sym declared_here) sound;
  }

  module _ (h : MemoryMatch U w) where
    -- nothing stands in the new place
    blank_at : (q : Position) → q.root ≡ made w.src.next → w.src.held q ≡ blank
    blank_at q e = h.stores.unmade q (subst (λ r. IsUnmade (mark w.src) r) (sym e) (up_self w.src.next))

    net_blank_at : (q : Position) → q.root ≡ made w.src.next → w.net.cell (moved_at U (with_place w d).map q) ≡ net.blank
    net_blank_at q e =
        h.stores.net_unmade (moved_at U (with_place w d).map q)
        (subst (λ r. IsUnmade (net_mark w.net) (moved U (with_place w d).map r)) (sym e) (subst (λ k. w.net.next ≤ k) (sym place_here) (up_self w.net.next)))

    pub place_is_blank : w.src.held (whole (made w.src.next)) ≡ blank
    place_is_blank = blank_at (whole (made w.src.next)) refl

    pub net_place_is_blank : w.net.cell (moved_at U (with_place w d).map (whole (made w.src.next))) ≡ net.blank
    net_place_is_blank = net_blank_at (whole (made w.src.next)) refl

    same_cell : (q : Position) → IsMade (mark w.src) q.root → w.net.cell (moved_at U (with_place w d).map q) ≡ w.net.cell (moved_at U w.map q)
    same_cell q m = ap w.net.cell (same_at U w (with_place w d) place_extends q m)

    like_at : (q : Position) → IsMatched U (with_place w d) q → Holds U (with_place w d) (w.src.held q) (w.net.cell (moved_at U (with_place w d).map q))
    like_at q m =
        ⊎_elim
        (λ old. holds_as U (with_place w d) (w.src.held q) (w.src.held q) (w.net.cell (moved_at U w.map q))
        (w.net.cell (moved_at U (with_place w d).map q)) refl (sym (same_cell q old))
        (h.stores.values q (matched_before U w (with_place w d) place_extends q old m)))
        (λ new. holds_as U (with_place w d) blank (w.src.held q) net.blank (w.net.cell (moved_at U (with_place w d).map q)) (sym (blank_at q new))
        (sym (net_blank_at q new)) holds_blank)
        (made_before q.root m.is_made)

    -- an array stands where one stood before
    old_array : (q : Position) (k : ℕ) → IsMatched U (with_place w d) q → w.net.cell (moved_at U (with_place w d).map q) ≡ net.holds (n.Array k)
        → IsMatched U w q × (w.net.cell (moved_at U w.map q) ≡ net.holds (n.Array k))
    old_array q k m e =
        ⊎_elim (λ old. (matched_before U w (with_place w d) place_extends q old m, sym (same_cell q old) ∙ e))
        (λ new. absurd (array_in_blank (w.net.cell (moved_at U (with_place w d).map q)) k (net_blank_at q new) e)) (made_before q.root m.is_made)

    -- ---- places go to places

    old_into : (a : ℕ) → a < w.src.next → (with_place w d).map.alone a ≡ false → (with_place w d).map.places a < w.net.next
    old_into a lt c = subst (λ k. k < w.net.next) (sym (place_before a lt)) (h.stores.into a lt (sym (alone_before a lt) ∙ c))

    new_into : (a : ℕ) → w.src.next ≡ a → (with_place w d).map.places a ≡ w.net.next
    new_into a e = ap (with_place w d).map.places (sym e) ∙ place_here

    places_into : (a : ℕ) → a < suc w.src.next → (with_place w d).map.alone a ≡ false → (with_place w d).map.places a < suc w.net.next
    places_into a lt c =
        ⊎_elim (λ z. below_more ((with_place w d).map.places a) w.net.next (old_into a z c))
        (λ z. subst (λ k. k < suc w.net.next) (sym (new_into a (the_last w.src.next a z lt))) (here_more w.net.next)) (tell a w.src.next)

    places_one_to_one : (a b : ℕ) → a < suc w.src.next → b < suc w.src.next → (with_place w d).map.alone a ≡ false → (with_place w d).map.alone b ≡ false
        → (with_place w d).map.places a ≡ (with_place w d).map.places b → a ≡ b
    places_one_to_one a b x y c e s =
        ⊎_elim
        (λ i. ⊎_elim
        (λ j. h.stores.one_to_one a b i j (sym (alone_before a i) ∙ c) (sym (alone_before b j) ∙ e) (sym (place_before a i) ∙ (s ∙ place_before b j)))
        (λ j. absurd (not_here ((with_place w d).map.places a) w.net.next (old_into a i c) (s ∙ new_into b (the_last w.src.next b j y)))) (tell b w.src.next))
        (λ i. ⊎_elim
        (λ j. absurd (not_here ((with_place w d).map.places b) w.net.next (old_into b j e) (sym s ∙ new_into a (the_last w.src.next a i x))))
        (λ j. sym (the_last w.src.next a i x) ∙ the_last w.src.next b j y) (tell b w.src.next))
        (tell a w.src.next)

    place_stores : StoreMatch U (with_place w d)
    place_stores = record {
      into = places_into;
      one_to_one = places_one_to_one;
      objects_into = h.stores.objects_into;
      objects_one_to_one = h.stores.objects_one_to_one;
      classes = h.stores.classes;
      values = like_at;
      apart = λ p q k m i e f. h.stores.apart p q k (old_array p k m e).0 (old_array q k i f).0 (old_array p k m e).1 (old_array q k i f).1;
      known = λ q k m e. h.stores.known q k (old_array q k m e).0 (old_array q k m e).1;
      ranks = λ q v u k m r i e.
          h.stores.ranks q v u k (old_array q k m e).0
          (sym (same_variable U w (with_place w d) place_extends q.root (old_array q k m e).0.is_made) ∙ r) i (old_array q k m e).1;
      short = h.stores.short;
      unmade = λ q u. h.stores.unmade q (unmade_before (mark w.src) (mark (with_place w d).src) place_grows q.root u);
      net_unmade = λ q u. h.stores.net_unmade q (unmade_before (net_mark w.net) (net_mark (with_place w d).net) net_place_grows q.root u);
      errors = h.stores.errors;
      kinds = h.stores.kinds;
      fields = h.stores.fields;
    }

    pub place_later : (K : Pledge) → Later U K w (with_place w d)
    place_later K = record {
      match = record { stores = place_stores; steps = h.steps; inputs = h.inputs };
      extends = place_extends;
      grows = place_grows;
      net_grows = net_place_grows;
      arrays_grow = up_self w.net.next_array;
      same_classes = λ o lt. refl;
      same_kinds = λ q. keeps_self (w.src.held q);
      same_values = λ q l i. refl;
      same_cells = λ q m l i. refl;
      same_elements = λ q k m l e. refl;
      same_arrays = λ q e k m s a. record { dims = a.dims; values = a.values; held = a.held; cell = same_cell q m.is_made ∙ a.cell };
      same_ranks = λ q rank m r. (r.0, same_cell q m.is_made ∙ r.1, r.2);
      same_loose = λ k lt l t. (refl, λ q m e. l q (old_array q k m e).0 (old_array q k m e).1);
      same_alone = λ q m u. refl;
      same_unmapped = λ p m u. refl;
    }
