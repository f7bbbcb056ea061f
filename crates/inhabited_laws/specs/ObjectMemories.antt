-- Memories from which the second program runs, and the map between them: the object 0 of the source is the object 5 of the target.
use Rattle.std.specs.Prelude.{ℕ, zero, suc, ◌+◌, false, cond, nat_eq, pos, Some, None, List, [], ◌∷◌, ◌++◌, codes, map}
use Rattle.vb_tree.specs.BoundTree.{class, long}
use Rattle.vb_tree.specs.declared.value.Value6.TheVariants as v
use Rattle.net_meaning.specs.declared.value.ValueN.TheVariants as n
use Rattle.run_base.specs.Outcomes.{Output, printed}
use Rattle.run_base.specs.Positions.{Root, shared, field}
use Rattle.vb6_run.specs.Store.{Memory, Held, blank, single, parts}
use Rattle.net_run.specs.Store as net
use Rattle.run_matches.specs.Maps.{Map, World}

-- ---- the source: held has the object 0, whose n is 7, and best has 1 and 2

abbrev pub held_at : Root → List ℕ → Held
held_at (shared (suc (suc zero) ∷ [])) [] = single (class 0) (v.Object 0)
held_at (shared (suc (suc (suc zero)) ∷ [])) [] = parts
held_at (shared (suc (suc (suc zero)) ∷ [])) (zero ∷ []) = single long (v.Long (pos 1))
held_at (shared (suc (suc (suc zero)) ∷ [])) (suc zero ∷ []) = single long (v.Long (pos 2))
held_at (field zero (suc (suc (suc (suc (suc (suc (suc (suc (suc zero)))))))) ∷ [])) [] = single long (v.Long (pos 7))
held_at (field zero (suc (suc (suc (suc (suc (suc (suc (suc (suc (suc zero))))))))) ∷ [])) [] = single (class 0) v.Nothing
held_at r path = blank

abbrev pub object_source : Memory
object_source = record {
  held = λ q. held_at q.root q.path;
  next = 0;
  class_of = λ o. cond (nat_eq o 0) (Some 0) None;
  next_object = 1;
  err = 0;
  inputs = [];
  left = 0;
}

-- ---- the target: held has the object 5; the first member of the module is the structure Pair

-- the variables of an object of Counter, behind the Sub New that stands first in the class
abbrev pub counter_at : List ℕ → List ℕ → net.Cell
counter_at (suc zero ∷ suc zero ∷ []) [] = net.holds (n.Integer (pos 7))
counter_at (suc zero ∷ suc (suc zero) ∷ []) [] = net.holds n.Nothing
counter_at k path = net.blank

abbrev pub cell_at : Root → List ℕ → net.Cell
cell_at (shared (zero ∷ suc zero ∷ [])) [] = net.holds (n.Object 5)
cell_at (shared (zero ∷ suc (suc zero) ∷ [])) [] = net.structure
cell_at (shared (zero ∷ suc (suc zero) ∷ [])) (zero ∷ []) = net.holds (n.Integer (pos 1))
cell_at (shared (zero ∷ suc (suc zero) ∷ [])) (suc zero ∷ []) = net.holds (n.Integer (pos 2))
cell_at (field o k) path = cond (nat_eq o 5) (counter_at k path) net.blank
cell_at r path = net.blank

abbrev pub object_target : net.Memory
object_target = record {
  cell = λ q. cell_at q.root q.path;
  next = 0;
  arrays = λ k. net.no_array;
  next_array = 0;
  class_of = λ o. cond (nat_eq o 5) (Some 1) None;
  next_object = 6;
  err = 0;
  inputs = [];
  left = 0;
}

-- ---- the map

abbrev pub object_map : Map
object_map = record { places = λ p. p; objects = λ o. o + 5; alone = λ p. false; declares = λ p. None }

abbrev pub object_world : World
object_world = record { map = object_map; src = object_source; net = object_target }

-- ---- what is printed

-- n, what With sets, that following is c, n of what With keeps, which its Level raised, that c is Nothing, n of the new object, n of the one that d
-- makes, raised by Add, and of the next one, which isn't Nothing, and the number of the error
abbrev pub said : List Output
said =
    map (λ (s : List ℕ). printed (s ++ 13 ∷ 10 ∷ []))
    (codes " 10 " ∷ codes " 10  11 " ∷ codes " 1 " ∷ codes " 12 " ∷ codes " 2 " ∷ codes " 8 " ∷ codes " 21 " ∷ codes " 20 " ∷ codes " 91 " ∷ [])
