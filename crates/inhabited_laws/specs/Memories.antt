-- Memories from which the program runs, and the map between them: the place 0 of the source is the place 17 of the target.
use Rattle.std.specs.Prelude.{ℕ, zero, suc, ◌+◌, Bool, true, false, cond, nat_eq, pos, None, List, [], ◌∷◌}
use Rattle.vb_tree.specs.BoundTree.{long}
use Rattle.vb_tree.specs.declared.value.Value6.TheVariants as v
use Rattle.net_meaning.specs.declared.value.ValueN.TheVariants as n
use Rattle.net_tree.specs.Types as word
use Rattle.run_base.specs.Outcomes.{Outcome, gives, raises, spent, outside}
use Rattle.run_base.specs.Positions.{Root, shared, made}
use Rattle.vb6_run.specs.Shapes.{simple}
use Rattle.vb6_run.specs.Store.{Memory, Held, blank, single, table}
use Rattle.vb6_run.specs.Values.{Dimension, Values, scalar, no_values, next_value}
use Rattle.net_run.specs.Shapes as shape
use Rattle.net_run.specs.Store as net
use Rattle.net_run.specs.Values as net_value
use Rattle.run_matches.specs.Maps.{Map, World}

-- ---- the source: total has 0, 0 and 5, and the place 0 holds 7

abbrev pub three : Dimension
three = record { low = pos 1; count = 3 }

abbrev pub items : Values
items =
    next_value (scalar long (v.Long (pos 0)))
    (next_value (scalar long (v.Long (pos 0))) (next_value (scalar long (v.Long (pos 5))) no_values))

abbrev pub held_at : Root → List ℕ → Held
held_at (shared (zero ∷ [])) [] = table (simple long) (three ∷ []) items
held_at (made zero) [] = single long (v.Long (pos 7))
held_at r path = blank

abbrev pub sample_source : Memory
sample_source = record { held = λ q. held_at q.root q.path; next = 1; class_of = λ o. None; next_object = 0; err = 0; inputs = []; left = 0 }

-- ---- the target: total has the array 0, and the place 17 holds 7

abbrev pub seven_if : Bool → net.Cell
seven_if b = cond b (net.holds (n.Integer (pos 7))) net.blank

abbrev pub cell_at : Root → List ℕ → net.Cell
cell_at (shared (zero ∷ zero ∷ [])) [] = net.holds (n.Array 0)
cell_at (made p) [] = seven_if (nat_eq p 17)
cell_at r path = net.blank

abbrev pub arrays_at : ℕ → net.Array
arrays_at zero = record {
  element = shape.scalar word.integer;
  counts = 3 ∷ [];
  elements = net_value.single (n.Integer (pos 0)) ∷ net_value.single (n.Integer (pos 0)) ∷ net_value.single (n.Integer (pos 5)) ∷ [];
}
arrays_at (suc k) = net.no_array

abbrev pub sample_target : net.Memory
sample_target = record {
  cell = λ q. cell_at q.root q.path;
  next = 18;
  arrays = arrays_at;
  next_array = 1;
  class_of = λ o. None;
  next_object = 5;
  err = 0;
  inputs = [];
  left = 0;
}

-- ---- the map

abbrev pub sample_map : Map
sample_map = record { places = λ p. p + 17; objects = λ o. o + 5; alone = λ p. false; declares = λ p. None }

abbrev pub sample_world : World
sample_world = record { map = sample_map; src = sample_source; net = sample_target }

-- ---- how a run ends

-- it gives its result
abbrev pub is_given : {M A : Type 0} → Outcome M A → Bool
is_given (gives o a w) = true
is_given (raises o e w) = false
is_given (spent o w) = false
is_given (outside o) = false
