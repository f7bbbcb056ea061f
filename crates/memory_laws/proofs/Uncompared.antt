-- In a new object changes what is not compared: a variable whose declaration carries an issue, and what is written as a variable of it.
use Rattle.std.proofs.Common.{◌≡◌, ⊎_elim, inl, inr, refl, sym, ap, subst, ◌∙◌, ℕ, ◌<◌, ◌≤◌, Bool, true, false, List, [], ◌∷◌, ◌++◌, true≢false}
use Rattle.bound_tree.specs.Tree.{Declarations}
use Rattle.run_base.specs.Positions.{Key, Position, Root, field, shared, whole}
use Rattle.vb6_run.specs.Programs.{is_module_variable}
use Rattle.vb6_run.specs.Shapes.{Shape, variable_shape}
use Rattle.vb6_run.specs.Store.{Held, blank, table}
use Rattle.vb6_run.specs.Values.{Dimension, Values}
use Rattle.net_run.specs.Store as net
use Rattle.run_matches.specs.Kinds.{KeepsKind}
use Rattle.run_matches.specs.Maps.{World, Extends, IsMade, IsMatched, IsUnmade, is_sound_part, mark, moved, moved_at, net_mark, root_variable}
use Rattle.run_matches.specs.Match.{HasArray, HeldAs, StoreMatch, is_class_variable}
use Rattle.run_matches.specs.Pledges.{Later, Pledge}
use Rattle.run_matches.specs.Upgrades.{Upgrade, is_flagged}
use Rattle.agreeing_laws.proofs.Made.{matched_later}
use Rattle.memory_laws.specs.Laying.{filled}
use Rattle.memory_laws.proofs.Changes.{holds_as}
use Rattle.memory_laws.proofs.Filling.{keeps_blank}
use Rattle.memory_laws.proofs.LaidValues.{kinds_by}
use Rattle.memory_laws.proofs.Moved.{moved_is_made, not_both_made, sound_root}
use Rattle.memory_laws.proofs.Positions.{at, either_root}

held_by : (D : Declarations) (v : ℕ) (laid : Bool) (r : Root) (g h : Position → Held) → ((path : List ℕ) → h (at r path) ≡ g (at r path))
    → HeldAs D v laid r g → HeldAs D v laid r h
held_by D v laid r g h same (inl b) = inl (λ path. same path ∙ b.0 path, b.1)
held_by D v laid r g h same (inr k) = inr (kinds_by (variable_shape D v) (whole r) g h (λ path. same_part path) k)
  where
    same_part : (path : List ℕ) → h (at r (path ++ [])) ≡ g (at r (path ++ []))
    same_part path = same (path ++ [])

not_table : (e : Shape) (dims : List Dimension) (xs : Values) (h : Held) → h ≡ blank → h ≡ table e dims xs → ⊥
not_table e dims xs h b f = cc

extends_as : (w0 w : World) (h : Position → Held) (c : Position → net.Cell) → Extends w0 w → Extends w0 (filled w h c)
extends_as w0 w h c x = record {
  same_places = x.same_places;
  same_objects = x.same_objects;
  same_alone = x.same_alone;
  same_declared = x.same_declared;
  new_places = x.new_places;
  new_objects = x.new_objects;
}

-- ---- a variable of the source

module _ (U : Upgrade) (K : Pledge) (w0 w : World) (start : StoreMatch U w0) (l : Later U K w0 w) (o v : ℕ) (new : w0.src.next_object ≤ o)
    (there : o < w.src.next_object) (flagged : is_flagged U v ≡ true) (h : Position → Held)
    (others : (p : Position) → (field o (v ∷ []) ≡ p.root → ⊥) → h p ≡ w.src.held p) where
  abbrev r : Root
  r = field o (v ∷ [])

  abbrev after : World
  after = filled w h w.net.cell

  was_matched : (p : Position) → IsMatched U after p → IsMatched U w p
  was_matched p m = record { is_made = m.is_made; counterpart = m.counterpart; sound = m.sound }

  -- it isn't compared
  not_compared : (p : Position) → IsMatched U w p → r ≡ p.root → ⊥
  not_compared p m e =
      true≢false
      (sym flagged ∙ sound_root U v p.path (subst (λ z. is_sound_part U (root_variable w.map z) p.path ≡ true) (sym e) m.sound))

  as_before : (p : Position) → IsMatched U w p → h p ≡ w.src.held p
  as_before p m = others p (not_compared p m)

  -- nothing stood there at first
  first_blank : (p : Position) → r ≡ p.root → w0.src.held p ≡ blank
  first_blank p e = start.unmade p (subst (λ z. IsUnmade (mark w0.src) z) e new)

  same_kind : (p : Position) → KeepsKind (w0.src.held p) (h p)
  same_kind p =
      ⊎_elim (λ e. keeps_blank (w0.src.held p) (h p) (first_blank p e))
      (λ d. subst (λ z. KeepsKind (w0.src.held p) z) (sym (others p d)) (l.same_kinds p)) (either_root r p.root)

  -- the variables of other roots
  held_elsewhere : (u : ℕ) (laid : Bool) (s : Root) → (r ≡ s → ⊥) → HeldAs U.program.declarations u laid s w.src.held
      → HeldAs U.program.declarations u laid s h
  held_elsewhere u laid s d k = held_by U.program.declarations u laid s w.src.held h (λ path. others (at s path) d) k

  not_shared : (k : Key) → r ≡ shared k → ⊥
  not_shared k e = cc

  other_field : (p u : ℕ) → is_flagged U u ≡ false → r ≡ field p (u ∷ []) → ⊥
  other_field p u sound e = true≢false (sym flagged ∙ (ap (is_flagged U) (same_number e) ∙ sound))
    where
      same_number : r ≡ field p (u ∷ []) → v ≡ u
      same_number e = cc

  stores : StoreMatch U after
  stores =
      let s : StoreMatch U w = l.match.stores in
      record {
        into = s.into;
        one_to_one = s.one_to_one;
        objects_into = s.objects_into;
        objects_one_to_one = s.objects_one_to_one;
        classes = s.classes;
        values = λ p m.
            holds_as U w (w.src.held p) (h p) (w.net.cell (moved_at U w.map p)) (w.net.cell (moved_at U w.map p)) (sym (as_before p (was_matched p m))) refl
            (s.values p (was_matched p m));
        apart = λ p q k m i e f. s.apart p q k (was_matched p m) (was_matched q i) e f;
        known = λ p k m e. s.known p k (was_matched p m) e;
        ranks = λ p x u k m i y e. s.ranks p x u k (was_matched p m) i y e;
        short = s.short;
        unmade = λ p u.
            others p (λ e. not_both_made (mark w.src) r there (subst (λ z. IsUnmade (mark w.src) z) (sym e) u)) ∙ s.unmade p u;
        net_unmade = s.net_unmade;
        errors = s.errors;
        kinds = λ u x is sound.
            held_elsewhere u (is_module_variable U.program.declarations x.owner) (shared (u ∷ [])) (not_shared (u ∷ [])) (s.kinds u x is sound);
        fields = λ p c u x lt of is sound.
            held_elsewhere u (is_class_variable U.program.declarations c x.owner) (field p (u ∷ [])) (other_field p u sound) (s.fields p c u x lt of is sound);
      }

  same_array : (p : Position) (e : Shape) (k : ℕ) → HasArray U w0 p e k → HasArray U w p e k → HasArray U after p e k
  same_array p e k first has = record {
    dims = has.dims;
    values = has.values;
    held = others p (λ i. not_table e first.dims first.values (w0.src.held p) (first_blank p i) first.held) ∙ has.held;
    cell = has.cell;
  }

  pub source_changed : Later U K w0 after
  source_changed = record {
    match = record { stores = stores; steps = l.match.steps; inputs = l.match.inputs };
    extends = extends_as w0 w h w.net.cell l.extends;
    grows = l.grows;
    net_grows = l.net_grows;
    arrays_grow = l.arrays_grow;
    same_classes = l.same_classes;
    same_kinds = same_kind;
    same_values = λ p s i. others p (λ e. i (first_blank p e)) ∙ l.same_values p s i;
    same_cells = l.same_cells;
    same_elements = l.same_elements;
    same_arrays = λ p e k m s has. same_array p e k has (l.same_arrays p e k m s has);
    same_ranks = l.same_ranks;
    same_loose = λ k lt free t. ((l.same_loose k lt free t).0, λ p m e. (l.same_loose k lt free t).1 p (was_matched p m) e);
    same_alone = λ p m u.
        others p (λ e. not_both_made (mark w0.src) p.root m (subst (λ z. IsUnmade (mark w0.src) z) e new)) ∙ l.same_alone p m u;
    same_unmapped = l.same_unmapped;
  }

-- ---- a variable of the target

module _ (U : Upgrade) (K : Pledge) (w0 w : World) (start : StoreMatch U w0) (l : Later U K w0 w) (j : ℕ) (key : Key) (new : w0.net.next_object ≤ j)
    (there : j < w.net.next_object) (unmapped : (p : Position) → IsMatched U w p → field j key ≡ moved U w.map p.root → ⊥) (c : Position → net.Cell)
    (others : (p : Position) → (field j key ≡ p.root → ⊥) → c p ≡ w.net.cell p) where
  abbrev to : Root
  to = field j key

  abbrev changed : World
  changed = filled w w.src.held c

  still_matched : (p : Position) → IsMatched U changed p → IsMatched U w p
  still_matched p m = record { is_made = m.is_made; counterpart = m.counterpart; sound = m.sound }

  same_cell : (p : Position) → IsMatched U w p → c (moved_at U w.map p) ≡ w.net.cell (moved_at U w.map p)
  same_cell p m = others (moved_at U w.map p) (unmapped p m)

  -- what was made at first is elsewhere
  first_cell : (p : Position) → IsMade (net_mark w0.net) p.root → c p ≡ w.net.cell p
  first_cell p m = others p (λ e. not_both_made (net_mark w0.net) p.root m (subst (λ z. IsUnmade (net_mark w0.net) z) e new))

  cells : StoreMatch U changed
  cells =
      let s : StoreMatch U w = l.match.stores in
      record {
        into = s.into;
        one_to_one = s.one_to_one;
        objects_into = s.objects_into;
        objects_one_to_one = s.objects_one_to_one;
        classes = s.classes;
        values = λ p m.
            holds_as U w (w.src.held p) (w.src.held p) (w.net.cell (moved_at U w.map p)) (c (moved_at U w.map p)) refl
            (sym (same_cell p (still_matched p m))) (s.values p (still_matched p m));
        apart = λ p q k m i e f.
            s.apart p q k (still_matched p m) (still_matched q i) (sym (same_cell p (still_matched p m)) ∙ e) (sym (same_cell q (still_matched q i)) ∙ f);
        known = λ p k m e. s.known p k (still_matched p m) (sym (same_cell p (still_matched p m)) ∙ e);
        ranks = λ p x u k m i y e. s.ranks p x u k (still_matched p m) i y (sym (same_cell p (still_matched p m)) ∙ e);
        short = s.short;
        unmade = s.unmade;
        net_unmade = λ p u.
            others p (λ e. not_both_made (net_mark w.net) to there (subst (λ z. IsUnmade (net_mark w.net) z) (sym e) u)) ∙ s.net_unmade p u;
        errors = s.errors;
        kinds = s.kinds;
        fields = s.fields;
      }

  same_array_there : (p : Position) (e : Shape) (k : ℕ) → IsMatched U w p → HasArray U w p e k → HasArray U changed p e k
  same_array_there p e k m has = record { dims = has.dims; values = has.values; held = has.held; cell = same_cell p m ∙ has.cell }

  pub target_changed : Later U K w0 changed
  target_changed = record {
    match = record { stores = cells; steps = l.match.steps; inputs = l.match.inputs };
    extends = extends_as w0 w w.src.held c l.extends;
    grows = l.grows;
    net_grows = l.net_grows;
    arrays_grow = l.arrays_grow;
    same_classes = l.same_classes;
    same_kinds = l.same_kinds;
    same_values = l.same_values;
    same_cells = λ p m s i. first_cell (moved_at U w0.map p) (moved_is_made U w0 start p.root m.is_made m.counterpart) ∙ l.same_cells p m s i;
    same_elements = l.same_elements;
    same_arrays = λ p e k m s has. same_array_there p e k (matched_later U w0 w l.extends l.grows p m) (l.same_arrays p e k m s has);
    same_ranks = λ p rank m r.
        let i = l.same_ranks p rank m r in
        (i.0, same_cell p (matched_later U w0 w l.extends l.grows p m) ∙ i.1, i.2);
    same_loose = λ k lt free t.
        ((l.same_loose k lt free t).0, λ p m e. (l.same_loose k lt free t).1 p (still_matched p m) (sym (same_cell p (still_matched p m)) ∙ e));
    same_alone = l.same_alone;
    same_unmapped = λ p m u. first_cell p m ∙ l.same_unmapped p m u;
  }
