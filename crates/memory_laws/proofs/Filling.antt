-- A root where nothing stands is filled as a whole, on both sides.
use Rattle.std.proofs.Common.{◌≡◌, inl, inr, ⊎_elim, refl, sym, ap, subst, ◌∙◌, ℕ, ◌<◌, Bool, Some, List, [], ◌∷◌}
use Rattle.std.specs.Prelude.{slice_get}
use Rattle.bound_tree.specs.Tree.{Variable}
use Rattle.net_meaning.specs.declared.value.ValueN.TheVariants as n
use Rattle.run_base.specs.Positions.{Position, Root, field, shared, updated, whole}
use Rattle.vb6_run.specs.Programs.{is_module_variable}
use Rattle.vb6_run.specs.Shapes.{Shape, variable_shape}
use Rattle.vb6_run.specs.Store.{Held, blank, table}
use Rattle.vb6_run.specs.Values.{Dimension, Values}
use Rattle.net_run.specs.Store as net
use Rattle.run_matches.specs.Kinds.{AreKinds, KeepsKind}
use Rattle.run_matches.specs.Maps.{World, IsMade, IsMatched, IsUnmade, mark, moved_at, net_mark}
use Rattle.run_matches.specs.Match.{HeldAs, Holds, holds_blank, IsBlank, StoreMatch, MemoryMatch, is_class_variable}
use Rattle.run_matches.specs.Pledges.{Later, Pledge}
use Rattle.run_matches.specs.Upgrades.{Upgrade, is_flagged}
use Rattle.agreeing_laws.proofs.Made.{below_self, up_self}
use Rattle.agreeing_laws.proofs.SameKinds.{keeps_as, kinds_kept}
use Rattle.memory_laws.specs.Changes.{root_key}
use Rattle.memory_laws.specs.Laying.{Fills, IsStep, filled}
use Rattle.memory_laws.proofs.Changes.{holds_as, none_between}
use Rattle.memory_laws.proofs.Moved.{moved_is_made, not_both_made}
use Rattle.memory_laws.proofs.Positions.{at, either_position, either_root, updated_cases, updated_here, updated_other}

-- ---- one position after the other

module _ (U : Upgrade) (w : World) (r : Root) where
  pub fills_none : StoreMatch U w → Fills U w r w.src.held w.net.cell
  fills_none s = record {
    like = s.values;
    others = λ p o. refl;
    other_cells = λ p m o. refl;
    alone = λ p m. refl;
    unmapped = λ p u. refl;
    old_arrays = λ p k e. e;
  }

  module _ (h : Position → Held) (c : Position → net.Cell) (q : Position) (x : Held) (d : net.Cell) (s : IsStep U w r q x d) (f : Fills U w r h c) where
    abbrev to : Position
    to = moved_at U w.map q

    like_here : Holds U w (updated h q x q) (updated c to d to)
    like_here = holds_as U w x (updated h q x q) d (updated c to d to) (sym (updated_here h q x)) (sym (updated_here c to d)) s.like

    like_at : (p : Position) → IsMatched U w p → Holds U w (updated h q x p) (updated c to d (moved_at U w.map p))
    like_at p m =
        ⊎_elim (λ e. subst (λ z. Holds U w (updated h q x z) (updated c to d (moved_at U w.map z))) e like_here)
        (λ o. holds_as U w (h p) (updated h q x p) (c (moved_at U w.map p)) (updated c to d (moved_at U w.map p)) (sym (updated_other h q x p o))
        (sym (updated_other c to d (moved_at U w.map p) (λ e. o (s.alone p m e)))) (f.like p m))
        (either_position q p)

    not_there : (p : Position) → (r ≡ p.root → ⊥) → q ≡ p → ⊥
    not_there p o e = o (s.in_root ∙ ap (λ (z : Position). z.root) e)

    pub fills_more : Fills U w r (updated h q x) (updated c to d)
    fills_more = record {
      like = like_at;
      others = λ p o. updated_other h q x p (not_there p o) ∙ f.others p o;
      other_cells = λ p m o.
          updated_other c to d (moved_at U w.map p) (λ e. not_there p o (s.alone p m e)) ∙ f.other_cells p m o;
      alone = λ p m. updated_other h q x p (λ e. m (subst (λ z. IsMatched U w z) e s.matched)) ∙ f.alone p m;
      unmapped = λ p u. updated_other c to d p (λ e. u q s.matched e) ∙ f.unmapped p u;
      old_arrays = λ p k e.
          ⊎_elim (λ i. absurd (s.plain k i)) (λ i. f.old_arrays p k i) (updated_cases c to d p (net.holds (n.Array k)) e);
    }

-- ---- the whole root

pub cell_blank : (U : Upgrade) (w : World) (h : Held) (c : net.Cell) → Holds U w h c → h ≡ blank → c ≡ net.blank
cell_blank U w _ _ holds_blank e = refl
cell_blank U w _ _ _ e = cc

no_table : (e : Shape) (dims : List Dimension) (xs : Values) (h : Held) → h ≡ table e dims xs → h ≡ blank → ⊥
no_table e dims xs h f b = cc

no_array : (c : net.Cell) (k : ℕ) → c ≡ net.holds (n.Array k) → c ≡ net.blank → ⊥
no_array c k f b = cc

pub keeps_blank : (g h : Held) → g ≡ blank → KeepsKind g h
keeps_blank g h e = subst (λ z. KeepsKind z h) (sym e) tt

module _ (U : Upgrade) (w : World) (r : Root) (h : Position → Held) (c : Position → net.Cell) (start : MemoryMatch U w) (is_made : IsMade (mark w.src) r)
    (none : IsBlank r w.src.held) (f : Fills U w r h c)
    (laid : (s : Root) (v : ℕ) → root_key s ≡ Some (v ∷ []) → r ≡ s → AreKinds (variable_shape U.program.declarations v) (whole s) h) where
  abbrev after : World
  after = filled w h c

  was_matched : (p : Position) → IsMatched U after p → IsMatched U w p
  was_matched p m = record { is_made = m.is_made; counterpart = m.counterpart; sound = m.sound }

  blank_at : (p : Position) → r ≡ p.root → w.src.held p ≡ blank
  blank_at p e = subst (λ z. w.src.held (at z p.path) ≡ blank) e (none p.path)

  cell_blank_at : (p : Position) → IsMatched U w p → r ≡ p.root → w.net.cell (moved_at U w.map p) ≡ net.blank
  cell_blank_at p m e =
      cell_blank U w (w.src.held p) (w.net.cell (moved_at U w.map p)) (start.stores.values p m) (blank_at p e)

  same_kind : (p : Position) → KeepsKind (w.src.held p) (h p)
  same_kind p =
      ⊎_elim (λ e. keeps_blank (w.src.held p) (h p) (blank_at p e)) (λ o. keeps_as (w.src.held p) (h p) (f.others p o)) (either_root r p.root)

  held_filled : (s : Root) (v : ℕ) → root_key s ≡ Some (v ∷ []) → (l : Bool) → HeldAs U.program.declarations v l s w.src.held
      → HeldAs U.program.declarations v l s h
  held_filled s v key l k =
      ⊎_elim
      (λ b. ⊎_elim (λ e. inr (laid s v key e)) (λ o. inl (λ path. f.others (at s path) o ∙ b.0 path, b.1)) (either_root r s))
      (λ i. inr (kinds_kept (variable_shape U.program.declarations v) (whole s) w.src.held h same_kind i)) k

  stores_filled : StoreMatch U after
  stores_filled = record {
    into = start.stores.into;
    one_to_one = start.stores.one_to_one;
    objects_into = start.stores.objects_into;
    objects_one_to_one = start.stores.objects_one_to_one;
    classes = start.stores.classes;
    values = λ p m. f.like p (was_matched p m);
    apart = λ p s k m i e g.
        start.stores.apart p s k (was_matched p m) (was_matched s i) (f.old_arrays (moved_at U w.map p) k e) (f.old_arrays (moved_at U w.map s) k g);
    known = λ p k m e. start.stores.known p k (was_matched p m) (f.old_arrays (moved_at U w.map p) k e);
    ranks = λ p v u k m i y e. start.stores.ranks p v u k (was_matched p m) i y (f.old_arrays (moved_at U w.map p) k e);
    short = start.stores.short;
    unmade = λ p u.
        f.others p (λ e. not_both_made (mark w.src) r is_made (subst (λ z. IsUnmade (mark w.src) z) (sym e) u)) ∙ start.stores.unmade p u;
    net_unmade = λ p u.
        f.unmapped p
        (λ q m e. not_both_made (net_mark w.net) (moved_at U w.map q).root (moved_is_made U w start.stores q.root m.is_made m.counterpart)
        (subst (λ (z : Position). IsUnmade (net_mark w.net) z.root) (sym e) u))
        ∙ start.stores.net_unmade p u;
    errors = start.stores.errors;
    kinds = λ v y is sound.
        held_filled (shared (v ∷ [])) v refl (is_module_variable U.program.declarations y.owner) (start.stores.kinds v y is sound);
    fields = λ o g v y lt of is sound.
        held_filled (field o (v ∷ [])) v refl (is_class_variable U.program.declarations g y.owner) (start.stores.fields o g v y lt of is sound);
  }

  -- what stands somewhere stands elsewhere
  elsewhere : (p : Position) → (w.src.held p ≡ blank → ⊥) → r ≡ p.root → ⊥
  elsewhere p i e = i (blank_at p e)

  same_array : (p : Position) (k : ℕ) → IsMatched U w p → w.net.cell (moved_at U w.map p) ≡ net.holds (n.Array k)
      → c (moved_at U w.map p) ≡ w.net.cell (moved_at U w.map p)
  same_array p k m e =
      f.other_cells p m (λ i. no_array (w.net.cell (moved_at U w.map p)) k e (cell_blank_at p m i))

  pub filled_later : (K : Pledge) → Later U K w after
  filled_later K = record {
    match = record { stores = stores_filled; steps = start.steps; inputs = start.inputs };
    extends = record {
      same_places = λ p lt. refl;
      same_objects = λ o lt. refl;
      same_alone = λ p lt. refl;
      same_declared = λ p lt. refl;
      new_places = λ p le lt a. absurd (none_between w.src.next p le lt);
      new_objects = λ o le lt. absurd (none_between w.src.next_object o le lt);
    };
    grows = below_self (mark w.src);
    net_grows = below_self (net_mark w.net);
    arrays_grow = up_self w.net.next_array;
    same_classes = λ o lt. refl;
    same_kinds = same_kind;
    same_values = λ p l i. f.others p (elsewhere p i);
    same_cells = λ p m l i. f.other_cells p m (elsewhere p i);
    same_elements = λ p k m l e. refl;
    same_arrays = λ p e k m s a. record {
      dims = a.dims;
      values = a.values;
      held = f.others p (elsewhere p (no_table e a.dims a.values (w.src.held p) a.held)) ∙ a.held;
      cell = same_array p k m a.cell ∙ a.cell;
    };
    same_ranks = λ p rank m i. (i.0, same_array p i.0 m i.1 ∙ i.1, i.2);
    same_loose = λ k lt l t. (refl, λ p m e. l p (was_matched p m) (f.old_arrays (moved_at U w.map p) k e));
    same_alone = λ p made m. f.alone p m;
    same_unmapped = λ p made u. f.unmapped p u;
  }
