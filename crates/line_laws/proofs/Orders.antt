-- An element stays where it was while nothing that was there changes.
use Rattle.std.proofs.Common.{◌≡◌, ◌∙◌, sym, ap, subst, ℕ, ℤ, false, List, length}
use Rattle.vb_tree.specs.BoundTree.{Ty}
use Rattle.net_meaning.specs.declared.value.ValueN.TheVariants as n
use Rattle.run_base.specs.Positions.{Position}
use Rattle.vb6_run.specs.Arrays.{Lows}
use Rattle.vb6_run.specs.Expressions as source
use Rattle.vb6_run.specs.Shapes.{Shape, simple}
use Rattle.vb6_run.specs.Store.{Address, Held, blank, table}
use Rattle.vb6_run.specs.Values.{Dimension, Values}
use Rattle.net_run.specs.Names as net_names
use Rattle.net_run.specs.Store as net
use Rattle.run_matches.specs.Agreeing.{world_of}
use Rattle.run_matches.specs.Maps.{Map, World, IsMatched, is_auto_root, is_auto_variable, moved_at}
use Rattle.run_matches.specs.Match.{HasArray}
use Rattle.run_matches.specs.Pledges.{IsLasting, Later, Pledge, lasting, still}
use Rattle.run_matches.specs.Upgrades.{Upgrade}
use Rattle.run_statements.specs.Elements.{IndexedMatch}
use Rattle.run_statements.specs.Frames.{ElementMatch}
use Rattle.agreeing_laws.proofs.Made.{matched_later, same_variable}
use Rattle.line_laws.proofs.Standing.{Stable}
use Rattle.agreeing_laws.proofs.Still.{stays_still}

pub held_array : (h : Held) (e : Shape) (dims : List Dimension) (xs : Values) → h ≡ table e dims xs → h ≡ blank → ⊥
held_array h e dims xs a b = cc

module _ (U : Upgrade) (K : Pledge) (w u : World) (l : Later U (still K w) w u) (q : Position) (m : IsMatched U w q) (plain : is_auto_root U w.map q.root ≡ false) where
  abbrev stays : IsLasting U (still K w) w q
  stays = stays_still U K w q m.is_made plain

  -- an array with the same dimensions
  abbrev pub array_stays : (e : Shape) (k : ℕ) (has : HasArray U w q e k) → HasArray U u q e k
  array_stays e k has = record {
    dims = has.dims;
    values = has.values;
    held = l.same_values q stays (held_array (w.src.held q) e has.dims has.values has.held) ∙ has.held;
    cell = (l.same_arrays q e k m (lasting stays) has).cell;
  }

  pub elements_stay : (k : ℕ) → w.net.cell (moved_at U w.map q) ≡ net.holds (n.Array k) → u.net.arrays k ≡ w.net.arrays k
  elements_stay k is = l.same_elements q k m stays is

  pub plain_stays : is_auto_root U u.map q.root ≡ false
  plain_stays = subst (λ v. is_auto_variable U v ≡ false) (sym (same_variable U w u l.extends q.root m.is_made)) plain

  pub matched_stays : IsMatched U u q
  matched_stays = matched_later U w u l.extends l.grows q m

abbrev pub element_stays : (U : Upgrade) (K : Pledge) (w u : World) → Later U (still K w) w u → (ty : Ty) (x : source.Parts) (r : net_names.Reached) (m : ElementMatch U ty w x r)
    → is_auto_root U w.map m.position.root ≡ false → ElementMatch U ty u x r
element_stays U K w u l ty x r m plain = record {
  position = m.position;
  bounds = m.bounds;
  written = m.written;
  array = m.array;
  is_matched = matched_stays U K w u l m.position m.is_matched plain;
  plain = plain_stays U K w u l m.position m.is_matched plain;
  has = array_stays U K w u l m.position m.is_matched plain (simple ty) m.array m.has;
  same = m.same;
  indexes = m.indexes;
  net_indexes = m.net_indexes;
  stands = m.stands;
  net_stands = m.net_stands;
  same_indexes = m.same_indexes;
  counted = ap (λ (a : net.Array). length a.counts) (elements_stay U K w u l m.position m.is_matched plain m.array m.has.cell) ∙ m.counted;
}

pub indexed_stays : (U : Upgrade) (K : Pledge) (w u : World) → Later U (still K w) w u → (lows : Lows) (ty : Ty) (x : Address × List ℤ) (r : net_names.Reached)
    → IndexedMatch U lows ty w x r → IndexedMatch U lows ty u x r
indexed_stays U K w u l lows ty x r m = record {
  position = m.position;
  bounds = m.bounds;
  written = m.written;
  array = m.array;
  is_matched = matched_stays U K w u l m.position m.is_matched m.plain;
  plain = plain_stays U K w u l m.position m.is_matched m.plain;
  has = array_stays U K w u l m.position m.is_matched m.plain (simple ty) m.array m.has;
  same = m.same;
  net_indexes = m.net_indexes;
  stands = m.stands;
  net_stands = m.net_stands;
  same_indexes = m.same_indexes;
  counted = ap (λ (a : net.Array). length a.counts) (elements_stay U K w u l m.position m.is_matched m.plain m.array m.has.cell) ∙ m.counted;
}

-- what was there is as it was
pub stable_later : (U : Upgrade) (K : Pledge) (w u : World) → Later U (still K w) w u → Stable U w u.src
stable_later U K w u l q made plain held = l.same_values q (stays_still U K w q made plain) held

-- so is what was there before the target alone changed
pub stable_behind : (U : Upgrade) (K : Pledge) (w : World) (m : Map) (t : net.Memory) (u : World) → Later U K w (world_of m w.src t)
    → Later U (still K (world_of m w.src t)) (world_of m w.src t) u → Stable U w u.src
stable_behind U K w m t u lat l q made plain held =
    l.same_values q
    (stays_still U K (world_of m w.src t) q made
    (subst (λ v. is_auto_variable U v ≡ false) (sym (same_variable U w (world_of m w.src t) lat.extends q.root made)) plain)) held
