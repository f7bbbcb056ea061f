-- Two memories in which one position has changed, or a place was made.
use Rattle.std.specs.Prelude.{◌≡◌, ℕ, suc, false, Option, Some, None, List, [], ◌∷◌}
use Rattle.net_meaning.specs.declared.value.ValueN.TheVariants as n
use Rattle.run_base.specs.Positions.{Key, Position, Root, field, made, shared, updated, updated_at, whole}
use Rattle.vb6_run.specs.Shapes.{Shape, variable_shape}
use Rattle.vb6_run.specs.Store.{Held, blank, table, with_held}
use Rattle.vb6_run.specs.Values.{Dimension, Values}
use Rattle.net_run.specs.Store as net
use Rattle.run_matches.specs.Kinds.{AreKinds, KeepsKind}
use Rattle.run_matches.specs.Upgrades.{Upgrade}
use Rattle.run_matches.specs.Maps.{World, IsMatched, moved_at}

-- a position of the source holds something else, and so does the cell that stands for it
abbrev pub changed : Upgrade → World → Position → Held → net.Cell → World
changed U w q x c = record { map = w.map; src = with_held q x w.src; net = net.with_cell (moved_at U w.map q) c w.net }

-- a place of each side, in which nothing stands; it may be known by the variable that declares it
abbrev pub with_place : World → (declared : Option ℕ) → World
with_place w d = record {
  map = record w.map {
    places = updated_at w.map.places w.src.next w.net.next;
    alone = updated_at w.map.alone w.src.next false;
    declares = updated_at w.map.declares w.src.next d;
  };
  src = record w.src { next = suc w.src.next };
  net = record w.net { next = suc w.net.next };
}

abbrev pub IsNoTable : Held → Type 0
IsNoTable x = (e : Shape) (dims : List Dimension) (xs : Values) → x ≡ table e dims xs → ⊥

abbrev pub IsNoArray : net.Cell → Type 0
IsNoArray c = (k : ℕ) → c ≡ net.holds (n.Array k) → ⊥

-- no other position that is compared goes where this one goes
abbrev pub GoesAlone : Upgrade → World → Position → Type 0
GoesAlone U w q = (p : Position) → IsMatched U w p → moved_at U w.map q ≡ moved_at U w.map p → q ≡ p

-- the key of a variable of a module or of an object, and of a Static
abbrev pub root_key : Root → Option Key
root_key (shared k) = Some k
root_key (made n) = None
root_key (field o k) = Some k

-- What is put at a position is of the kind of what stood there, and what its variable declares where nothing stood there yet.
pub record IsSuited (U : Upgrade) (w : World) (q : Position) (x : Held) : Type 0 where
  pub kept : KeepsKind (w.src.held q) x
  pub laid :
      (r : Root) (v : ℕ) → root_key r ≡ Some (v ∷ []) → q.root ≡ r → w.src.held q ≡ blank
      → AreKinds (variable_shape U.program.declarations v) (whole r) (updated w.src.held q x)
