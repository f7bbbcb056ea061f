-- The next object of each side stands for that of the other, before anything stands in it; it has its class when all its variables are laid.
use Rattle.std.proofs.Common.{◌≡◌, ◌⊎◌, inl, inr, ⊎_elim, refl, sym, ap, subst, ◌∙◌, ℕ, suc, ◌<◌, ◌≤◌, false, Option, None, Some, [], ◌∷◌}
use Rattle.std.specs.Prelude.{slice_get}
use Rattle.bound_tree.specs.Tree.{Variable}
use Rattle.net_meaning.specs.declared.value.ValueN.TheVariants as n
use Rattle.run_base.specs.Positions.{Key, Root, shared, made, field, Position}
use Rattle.vb6_run.specs.Shapes.{Shape}
use Rattle.vb6_run.specs.Store.{Held, blank}
use Rattle.net_run.specs.Store as net
use Rattle.run_matches.specs.Upgrades.{Upgrade, is_flagged}
use Rattle.run_matches.specs.Likeness.{numbers_of}
use Rattle.run_matches.specs.Maps.{World, Below, Extends, IsMade, IsUnmade, IsMatched, mark, net_mark, moved, moved_at}
use Rattle.run_matches.specs.Match.{HasArray, HeldAs, Holds, holds_blank, SameClass, StoreMatch, MemoryMatch, is_class_variable}
use Rattle.run_matches.specs.Pledges.{Pledge, Later}
use Rattle.agreeing_laws.proofs.Scalars.{same_later}
use Rattle.agreeing_laws.proofs.SameKinds.{keeps_self}
use Rattle.agreeing_laws.proofs.Made.{up_self, tell, same_at, same_variable, matched_before}
use Rattle.memory_laws.specs.Objects.{with_objects, refilled, unclassed, own_root}
use Rattle.memory_laws.proofs.Changes.{none_between, holds_as}
use Rattle.memory_laws.proofs.Flat.{held_more}
use Rattle.memory_laws.proofs.Places.{array_in_blank, below_more, here_more, not_here, one_more, the_last, unmade_before}
use Rattle.memory_laws.proofs.Positions.{updated_at_here, updated_at_below}

-- ---- the classes of objects

module _ (w : World) (c d : Option ℕ) where
  -- the new object goes to the new object
  pub object_here : (with_objects w c d).map.objects w.src.next_object ≡ w.net.next_object
  object_here = updated_at_here w.map.objects w.src.next_object w.net.next_object

  pub object_before : (o : ℕ) → o < w.src.next_object → (with_objects w c d).map.objects o ≡ w.map.objects o
  object_before o lt = updated_at_below w.map.objects w.src.next_object w.net.next_object o lt

  pub class_here : (with_objects w c d).src.class_of w.src.next_object ≡ c
  class_here = updated_at_here w.src.class_of w.src.next_object c

  pub class_before : (o : ℕ) → o < w.src.next_object → (with_objects w c d).src.class_of o ≡ w.src.class_of o
  class_before o lt = updated_at_below w.src.class_of w.src.next_object c o lt

  module _ (U : Upgrade) (same : SameClass U c d) (h : StoreMatch U w) where
    abbrev AreOf : ℕ → Type 0
    AreOf o = SameClass U ((with_objects w c d).src.class_of o) ((with_objects w c d).net.class_of ((with_objects w c d).map.objects o))

    old_classes : (o : ℕ) → o < w.src.next_object → AreOf o
    old_classes o lt =
        subst (λ k. SameClass U ((with_objects w c d).src.class_of o) ((with_objects w c d).net.class_of k)) (sym (object_before o lt))
        (subst (λ x. SameClass U x ((with_objects w c d).net.class_of (w.map.objects o))) (sym (class_before o lt))
        (subst (λ x. SameClass U (w.src.class_of o) x)
        (sym (updated_at_below w.net.class_of w.net.next_object d (w.map.objects o) (h.objects_into o lt))) (h.classes o lt)))

    new_classes : AreOf w.src.next_object
    new_classes =
        subst (λ k. SameClass U ((with_objects w c d).src.class_of w.src.next_object) ((with_objects w c d).net.class_of k)) (sym object_here)
        (subst (λ x. SameClass U x ((with_objects w c d).net.class_of w.net.next_object)) (sym class_here)
        (subst (λ x. SameClass U c x) (sym (updated_at_here w.net.class_of w.net.next_object d)) same))

    pub same_classes : (o : ℕ) → o < suc w.src.next_object → AreOf o
    same_classes o lt =
        ⊎_elim (λ old. old_classes o old) (λ new. subst AreOf (the_last w.src.next_object o new lt) new_classes) (tell o w.src.next_object)

-- ---- before anything stands in it

module _ (U : Upgrade) (w : World) where
  abbrev there : World
  there = with_objects w None None

  object_extends : Extends w there
  object_extends = record {
    same_places = λ p lt. refl;
    same_objects = object_before w None None;
    same_alone = λ p lt. refl;
    same_declared = λ p lt. refl;
    new_places = λ p le lt a. absurd (none_between w.src.next p le lt);
    new_objects = λ o le lt.
        subst (λ z. w.net.next_object ≤ there.map.objects z) (the_last w.src.next_object o le lt)
        (subst (λ z. w.net.next_object ≤ z) (sym (object_here w None None)) (up_self w.net.next_object));
  }

  object_grows : Below (mark w.src) (mark there.src)
  object_grows = record { places = up_self w.src.next; objects = one_more w.src.next_object }

  net_object_grows : Below (net_mark w.net) (net_mark there.net)
  net_object_grows = record { places = up_self w.net.next; objects = one_more w.net.next_object }

  -- in the new object
  abbrev IsNew : Root → Type 0
  IsNew r = (k : Key) × (r ≡ field w.src.next_object k)

  made_by_number : (o : ℕ) (k : Key) → o < suc w.src.next_object → (o < w.src.next_object) ⊎ IsNew (field o k)
  made_by_number o k lt =
      ⊎_elim (λ z. inl z) (λ z. inr (k, ap (λ p. field p k) (sym (the_last w.src.next_object o z lt)))) (tell o w.src.next_object)

  made_before : (r : Root) → IsMade (mark there.src) r → IsMade (mark w.src) r ⊎ IsNew r
  made_before (shared k) m = inl tt
  made_before (made p) m = inl m
  made_before (field o k) m = made_by_number o k m

  module _ (h : MemoryMatch U w) where
    -- nothing stands in the new object
    blank_at : (q : Position) → IsNew q.root → w.src.held q ≡ blank
    blank_at q i = h.stores.unmade q (subst (λ r. IsUnmade (mark w.src) r) (sym i.1) (up_self w.src.next_object))

    net_blank_at : (q : Position) → IsNew q.root → w.net.cell (moved_at U there.map q) ≡ net.blank
    net_blank_at q i =
        h.stores.net_unmade (moved_at U there.map q)
        (subst (λ r. IsUnmade (net_mark w.net) (moved U there.map r)) (sym i.1)
        (subst (λ k. w.net.next_object ≤ k) (sym (object_here w None None)) (up_self w.net.next_object)))

    same_cell : (q : Position) → IsMade (mark w.src) q.root → w.net.cell (moved_at U there.map q) ≡ w.net.cell (moved_at U w.map q)
    same_cell q m = ap w.net.cell (same_at U w there object_extends q m)

    like_at : (q : Position) → IsMatched U there q → Holds U there (w.src.held q) (w.net.cell (moved_at U there.map q))
    like_at q m =
        ⊎_elim
        (λ old. holds_as U there (w.src.held q) (w.src.held q) (w.net.cell (moved_at U w.map q)) (w.net.cell (moved_at U there.map q)) refl
        (sym (same_cell q old))
        (held_more U (numbers_of w) (numbers_of there) (same_later w there object_extends object_grows) (w.src.held q) (w.net.cell (moved_at U w.map q))
        (λ k e. refl) (h.stores.values q (matched_before U w there object_extends q old m))))
        (λ new. holds_as U there blank (w.src.held q) net.blank (w.net.cell (moved_at U there.map q)) (sym (blank_at q new)) (sym (net_blank_at q new)) holds_blank)
        (made_before q.root m.is_made)

    -- an array stands where one stood before
    old_array : (q : Position) (k : ℕ) → IsMatched U there q → w.net.cell (moved_at U there.map q) ≡ net.holds (n.Array k)
        → IsMatched U w q × (w.net.cell (moved_at U w.map q) ≡ net.holds (n.Array k))
    old_array q k m e =
        ⊎_elim (λ old. (matched_before U w there object_extends q old m, sym (same_cell q old) ∙ e))
        (λ new. absurd (array_in_blank (w.net.cell (moved_at U there.map q)) k (net_blank_at q new) e)) (made_before q.root m.is_made)

    -- ---- objects go to objects

    old_into : (a : ℕ) → a < w.src.next_object → there.map.objects a < w.net.next_object
    old_into a lt = subst (λ k. k < w.net.next_object) (sym (object_before w None None a lt)) (h.stores.objects_into a lt)

    new_into : (a : ℕ) → w.src.next_object ≡ a → there.map.objects a ≡ w.net.next_object
    new_into a e = ap there.map.objects (sym e) ∙ object_here w None None

    objects_into : (a : ℕ) → a < suc w.src.next_object → there.map.objects a < suc w.net.next_object
    objects_into a lt =
        ⊎_elim (λ z. below_more (there.map.objects a) w.net.next_object (old_into a z))
        (λ z. subst (λ k. k < suc w.net.next_object) (sym (new_into a (the_last w.src.next_object a z lt))) (here_more w.net.next_object))
        (tell a w.src.next_object)

    objects_one_to_one : (a b : ℕ) → a < suc w.src.next_object → b < suc w.src.next_object → there.map.objects a ≡ there.map.objects b → a ≡ b
    objects_one_to_one a b x y s =
        ⊎_elim
        (λ i. ⊎_elim
        (λ j. h.stores.objects_one_to_one a b i j (sym (object_before w None None a i) ∙ (s ∙ object_before w None None b j)))
        (λ j. absurd (not_here (there.map.objects a) w.net.next_object (old_into a i) (s ∙ new_into b (the_last w.src.next_object b j y))))
        (tell b w.src.next_object))
        (λ i. ⊎_elim
        (λ j. absurd (not_here (there.map.objects b) w.net.next_object (old_into b j) (sym s ∙ new_into a (the_last w.src.next_object a i x))))
        (λ j. sym (the_last w.src.next_object a i x) ∙ the_last w.src.next_object b j y) (tell b w.src.next_object))
        (tell a w.src.next_object)

    no_class : (c : ℕ) → None ≡ Some c → ⊥
    no_class c e = cc

    old_fields : (o c v : ℕ) (x : Variable) → o < suc w.src.next_object → there.src.class_of o ≡ Some c → slice_get U.program.declarations.vars v ≡ Some x
        → is_flagged U v ≡ false
        → HeldAs U.program.declarations v (is_class_variable U.program.declarations c x.owner) (field o (v ∷ [])) w.src.held
    old_fields o c v x lt of is sound =
        ⊎_elim (λ old. h.stores.fields o c v x old (sym (class_before w None None o old) ∙ of) is sound)
        (λ new. absurd (no_class c (sym (class_here w None None) ∙ (ap there.src.class_of (the_last w.src.next_object o new lt) ∙ of))))
        (tell o w.src.next_object)

    object_stores : StoreMatch U there
    object_stores = record {
      into = h.stores.into;
      one_to_one = h.stores.one_to_one;
      objects_into = objects_into;
      objects_one_to_one = objects_one_to_one;
      classes = same_classes w None None U tt h.stores;
      values = like_at;
      apart = λ p q k m i e f. h.stores.apart p q k (old_array p k m e).0 (old_array q k i f).0 (old_array p k m e).1 (old_array q k i f).1;
      known = λ q k m e. h.stores.known q k (old_array q k m e).0 (old_array q k m e).1;
      ranks = λ q v u k m r i e.
          h.stores.ranks q v u k (old_array q k m e).0
          (sym (same_variable U w there object_extends q.root (old_array q k m e).0.is_made) ∙ r) i (old_array q k m e).1;
      short = h.stores.short;
      unmade = λ q u. h.stores.unmade q (unmade_before (mark w.src) (mark there.src) object_grows q.root u);
      net_unmade = λ q u. h.stores.net_unmade q (unmade_before (net_mark w.net) (net_mark there.net) net_object_grows q.root u);
      errors = h.stores.errors;
      kinds = h.stores.kinds;
      fields = old_fields;
    }

    pub object_later : (K : Pledge) → Later U K w there
    object_later K = record {
      match = record { stores = object_stores; steps = h.steps; inputs = h.inputs };
      extends = object_extends;
      grows = object_grows;
      net_grows = net_object_grows;
      arrays_grow = up_self w.net.next_array;
      same_classes = class_before w None None;
      same_kinds = λ q. keeps_self (w.src.held q);
      same_values = λ q l i. refl;
      same_cells = λ q m l i. refl;
      same_elements = λ q k m l e. refl;
      same_arrays = λ q e k m s a. record { dims = a.dims; values = a.values; held = a.held; cell = same_cell q m.is_made ∙ a.cell };
      same_ranks = λ q rank m r. (r.0, same_cell q m.is_made ∙ r.1, r.2);
      same_loose = λ k lt l t. (refl, λ q m e. l q (old_array q k m e).0 (old_array q k m e).1);
      same_alone = λ q m u. refl;
      same_unmapped = λ p m u. refl;
    }

-- ---- when its variables are laid

module _ (U : Upgrade) (K : Pledge) (w : World) (start : MemoryMatch U w) (c d : Option ℕ) (same : SameClass U c d) (h : Position → Held)
    (t : Position → net.Cell) (a : ℕ → net.Array) (n : ℕ) (l : Later U K w (unclassed w h t a n))
    (laid : (e v : ℕ) (x : Variable) → c ≡ Some e → slice_get U.program.declarations.vars v ≡ Some x → is_flagged U v ≡ false
    → HeldAs U.program.declarations v (is_class_variable U.program.declarations e x.owner) (own_root w v) h) where
  abbrev before : World
  before = unclassed w h t a n

  abbrev after : World
  after = refilled (with_objects w c d) h t a n

  was_matched : (q : Position) → IsMatched U after q → IsMatched U before q
  was_matched q m = record { is_made = m.is_made; counterpart = m.counterpart; sound = m.sound }

  all_fields : (o e v : ℕ) (x : Variable) → o < suc w.src.next_object → after.src.class_of o ≡ Some e → slice_get U.program.declarations.vars v ≡ Some x
      → is_flagged U v ≡ false → HeldAs U.program.declarations v (is_class_variable U.program.declarations e x.owner) (field o (v ∷ [])) h
  all_fields o e v x lt of is sound =
      ⊎_elim
      (λ old. l.match.stores.fields o e v x lt (class_before w None None o old ∙ (sym (class_before w c d o old) ∙ of)) is sound)
      (λ new. subst
      (λ p. HeldAs U.program.declarations v (is_class_variable U.program.declarations e x.owner) (field p (v ∷ [])) h)
      (the_last w.src.next_object o new lt)
      (laid e v x (sym (class_here w c d) ∙ (ap after.src.class_of (the_last w.src.next_object o new lt) ∙ of)) is sound))
      (tell o w.src.next_object)

  classed_stores : StoreMatch U after
  classed_stores =
      let s : StoreMatch U before = l.match.stores in
      record {
        into = s.into;
        one_to_one = s.one_to_one;
        objects_into = s.objects_into;
        objects_one_to_one = s.objects_one_to_one;
        classes = same_classes w c d U same start.stores;
        values = λ q m. s.values q (was_matched q m);
        apart = λ p q k m i e f. s.apart p q k (was_matched p m) (was_matched q i) e f;
        known = λ q k m e. s.known q k (was_matched q m) e;
        ranks = λ q v u k m r i e. s.ranks q v u k (was_matched q m) r i e;
        short = s.short;
        unmade = s.unmade;
        net_unmade = s.net_unmade;
        errors = s.errors;
        kinds = s.kinds;
        fields = all_fields;
      }

  pub classed_later : Later U K w after
  classed_later = record {
    match = record { stores = classed_stores; steps = l.match.steps; inputs = l.match.inputs };
    extends = record {
      same_places = l.extends.same_places;
      same_objects = l.extends.same_objects;
      same_alone = l.extends.same_alone;
      same_declared = l.extends.same_declared;
      new_places = l.extends.new_places;
      new_objects = l.extends.new_objects;
    };
    grows = l.grows;
    net_grows = l.net_grows;
    arrays_grow = l.arrays_grow;
    same_classes = class_before w c d;
    same_kinds = l.same_kinds;
    same_values = l.same_values;
    same_cells = l.same_cells;
    same_elements = l.same_elements;
    same_arrays = λ q e k m s has. classed_array q e k (l.same_arrays q e k m s has);
    same_ranks = l.same_ranks;
    same_loose = λ k lt free takes.
        ((l.same_loose k lt free takes).0, λ q m e. (l.same_loose k lt free takes).1 q (was_matched q m) e);
    same_alone = l.same_alone;
    same_unmapped = l.same_unmapped;
  }
    where
      classed_array : (q : Position) (e : Shape) (k : ℕ) → HasArray U before q e k → HasArray U after q e k
      classed_array q e k has = record { dims = has.dims; values = has.values; held = has.held; cell = has.cell }
