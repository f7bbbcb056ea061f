-- Stores in which something stands: a variable, an object with a field, a local and an array, whose places are exchanged in the target.
use Rattle.std.proofs.Common.{◌≡◌, inl, inr, refl, sym, ap, subst, ◌∙◌, ℕ, zero, suc, ◌<◌, ◌^◌, pos, Bool, true, false, List, [], ◌∷◌, length, Option, Some, None, arith}
use Rattle.std.proofs.lemmas.Bool.{true≢false}
use Rattle.std.specs.Prelude.{slice_get}
use Rattle.vb_tree.specs.BoundTree.{integer, long, currency}
use Rattle.vb_tree.specs.declared.value.Value6.TheVariants as v
use Rattle.bound_tree.specs.RuleSets.{has, none, both}
use Rattle.bound_tree.specs.Tree.{Variable}
use Rattle.net_meaning.specs.declared.value.ValueN.TheVariants as n
use Rattle.net_meaning.specs.ValueMatch.{integers, longs, currencies}
use Rattle.net_tree.specs.Types as word
use Rattle.run_base.specs.Positions.{Root, shared, made, field, Position, whole}
use Rattle.vb6_run.specs.Programs.{is_module_variable}
use Rattle.vb6_run.specs.Shapes.{simple}
use Rattle.vb6_run.specs.Store.{Memory, Held, blank, single, table}
use Rattle.vb6_run.specs.Values.{Dimension, Values, scalar, no_values, next_value}
use Rattle.net_run.specs.Shapes as shape
use Rattle.net_run.specs.Store as net
use Rattle.net_run.specs.Values as net_value
use Rattle.run_matches.specs.Maps.{World, IsMatched, mark, net_mark, IsUnmade, root_variable, moved_at}
use Rattle.run_matches.specs.Likeness.{same_scalar, same_counts, like_scalar, no_items, next_item, same_elements}
use Rattle.run_matches.specs.Match.{HeldAs, is_class_variable, Holds, holds_blank, holds_single, holds_table, SameClass, StoreMatch}
use Rattle.run_matches.proofs.Samples.{program, upgrade}

-- ---- the source: n is 7, the object 0 of Node has 3 in k, the place 0 is c with 1.1, and the place 1 an array from 1 to 2 with 5 and 6

abbrev two : Dimension
two = record { low = pos 1; count = 2 }

abbrev items : Values
items = next_value (scalar integer (v.Int (pos 5))) (next_value (scalar integer (v.Int (pos 6))) no_values)

abbrev held_at : Root → List ℕ → Held
held_at (shared (zero ∷ [])) [] = single long (v.Long (pos 7))
held_at (field zero (suc (suc (suc (suc zero))) ∷ [])) [] = single long (v.Long (pos 3))
held_at (made zero) [] = single currency (v.Cur (pos 11000))
held_at (made (suc zero)) [] = table (simple integer) (two ∷ []) items
held_at r path = blank

abbrev classes_at : ℕ → Option ℕ
classes_at zero = Some 0
classes_at (suc o) = None

abbrev source : Memory
source = record { held = λ q. held_at q.root q.path; next = 2; class_of = classes_at; next_object = 1; err = 0; inputs = []; left = 0 }

-- ---- the target: its object 1 stands for the object, its place 1 for c, and its place 0 for the array, which has the number 0

abbrev cell_at : Root → List ℕ → net.Cell
cell_at (shared (zero ∷ zero ∷ [])) [] = net.holds (n.Integer (pos 7))
cell_at (field (suc zero) (suc zero ∷ suc zero ∷ [])) [] = net.holds (n.Integer (pos 3))
cell_at (made (suc zero)) [] = net.holds (n.Decimal (pos 11) 1)
cell_at (made zero) [] = net.holds (n.Array 0)
cell_at r path = net.blank

abbrev arrays_at : ℕ → net.Array
arrays_at zero = record { element = shape.scalar word.short; counts = 2 ∷ []; elements = net_value.single (n.Short (pos 5)) ∷ net_value.single (n.Short (pos 6)) ∷ [] }
arrays_at (suc k) = net.no_array

abbrev homes_at : ℕ → Option ℕ
homes_at zero = None
homes_at (suc zero) = Some 1
homes_at (suc (suc o)) = None

abbrev target : net.Memory
target = record {
  cell = λ q. cell_at q.root q.path;
  next = 2;
  arrays = arrays_at;
  next_array = 1;
  class_of = homes_at;
  next_object = 2;
  err = 0;
  inputs = [];
  left = 0;
}

abbrev exchanged : ℕ → ℕ
exchanged zero = 1
exchanged (suc zero) = 0
exchanged (suc (suc p)) = suc (suc p)

abbrev declared_by : ℕ → Option ℕ
declared_by zero = Some 3
declared_by (suc p) = None

abbrev world : World
world = record { map = record { places = exchanged; objects = suc; alone = λ p. false; declares = declared_by }; src = source; net = target }

-- ---- they match

abbrev at : Root → List ℕ → Position
at r path = record { root = r; path = path }

holds_at : (r : Root) (path : List ℕ) → IsMatched upgrade world (at r path)
    → Holds upgrade world (held_at r path) (target.cell (moved_at upgrade world.map (at r path)))
unfolding has none both
holds_at (shared []) path h = holds_blank
holds_at (shared (zero ∷ [])) [] h = holds_single long (v.Long (pos 7)) (n.Integer (pos 7)) (longs (pos 7) refl)
holds_at (shared (zero ∷ [])) (i ∷ path) h = holds_blank
holds_at (shared (suc zero ∷ [])) path h = holds_blank
holds_at (shared (suc (suc zero) ∷ [])) path h = holds_blank
holds_at (shared (suc (suc (suc zero)) ∷ [])) path h = holds_blank
holds_at (shared (suc (suc (suc (suc zero))) ∷ [])) path h = holds_blank
holds_at (shared (suc (suc (suc (suc (suc zero)))) ∷ [])) path h = holds_blank
holds_at (shared (suc (suc (suc (suc (suc (suc x))))) ∷ [])) path h = absurd (true≢false (sym h.counterpart))
holds_at (shared (x ∷ y ∷ more)) path h = absurd (true≢false (sym h.counterpart))
holds_at (made zero) [] h = holds_single currency (v.Cur (pos 11000)) (n.Decimal (pos 11) 1) (currencies (pos 11000) (pos 11) 1 refl (omega arith, refl))
holds_at (made zero) (i ∷ path) h = holds_blank
holds_at (made (suc zero)) [] h =
    holds_table (simple integer) (two ∷ []) items 0
    (same_elements (simple integer) (two ∷ []) items _ (same_scalar integer word.short refl) (same_counts two [] refl refl)
    (next_item _ _ _ _ (like_scalar integer (v.Int (pos 5)) (n.Short (pos 5)) (integers (pos 5) refl))
    (next_item _ _ _ _ (like_scalar integer (v.Int (pos 6)) (n.Short (pos 6)) (integers (pos 6) refl)) no_items)) refl refl)
holds_at (made (suc zero)) (i ∷ path) h = holds_blank
holds_at (made (suc (suc p))) path h = let lt : suc (suc p) < 2 = h.is_made in absurd (omega arith)
holds_at (field zero []) path h = holds_blank
holds_at (field zero (zero ∷ [])) path h = holds_blank
holds_at (field zero (suc zero ∷ [])) path h = holds_blank
holds_at (field zero (suc (suc zero) ∷ [])) path h = holds_blank
holds_at (field zero (suc (suc (suc zero)) ∷ [])) path h = holds_blank
holds_at (field zero (suc (suc (suc (suc zero))) ∷ [])) [] h = holds_single long (v.Long (pos 3)) (n.Integer (pos 3)) (longs (pos 3) refl)
holds_at (field zero (suc (suc (suc (suc zero))) ∷ [])) (i ∷ path) h = holds_blank
holds_at (field zero (suc (suc (suc (suc (suc zero)))) ∷ [])) path h = holds_blank
holds_at (field zero (suc (suc (suc (suc (suc (suc x))))) ∷ [])) path h = absurd (true≢false (sym h.counterpart))
holds_at (field zero (x ∷ y ∷ more)) path h = absurd (true≢false (sym h.counterpart))
holds_at (field (suc o) k) path h = let lt : suc o < 1 = h.is_made in absurd (omega arith)

-- the array stands in one cell
array_at : (r : Root) (path : List ℕ) (k : ℕ) → cell_at r path ≡ net.holds (n.Array k) → (at r path ≡ whole (made 0)) × (k ≡ 0)
array_at (made zero) [] k e = (refl, cc)
array_at (made zero) (i ∷ path) k e = cc
array_at (made (suc zero)) [] k e = cc
array_at (made (suc zero)) (i ∷ path) k e = cc
array_at (made (suc (suc p))) path k e = cc
array_at (shared []) path k e = cc
array_at (shared (zero ∷ [])) path k e = cc
array_at (shared (zero ∷ zero ∷ [])) [] k e = cc
array_at (shared (zero ∷ zero ∷ [])) (i ∷ path) k e = cc
array_at (shared (zero ∷ zero ∷ x ∷ more)) path k e = cc
array_at (shared (zero ∷ suc x ∷ more)) path k e = cc
array_at (shared (suc x ∷ more)) path k e = cc
array_at (field zero key) path k e = cc
array_at (field (suc zero) []) path k e = cc
array_at (field (suc zero) (zero ∷ more)) path k e = cc
array_at (field (suc zero) (suc zero ∷ [])) path k e = cc
array_at (field (suc zero) (suc zero ∷ zero ∷ more)) path k e = cc
array_at (field (suc zero) (suc zero ∷ suc zero ∷ [])) [] k e = cc
array_at (field (suc zero) (suc zero ∷ suc zero ∷ [])) (i ∷ path) k e = cc
array_at (field (suc zero) (suc zero ∷ suc zero ∷ x ∷ more)) path k e = cc
array_at (field (suc zero) (suc zero ∷ suc (suc x) ∷ more)) path k e = cc
array_at (field (suc zero) (suc (suc x) ∷ more)) path k e = cc
array_at (field (suc (suc o)) key) path k e = cc

-- so one position of the source leads there
abbrev is_place : Position → Bool
is_place p = is_place_root p.root
  where
    is_place_root : Root → Bool
    is_place_root (shared k) = false
    is_place_root (made m) = true
    is_place_root (field o k) = false

abbrev number_in : Root → ℕ
number_in (shared k) = 0
number_in (made p) = p
number_in (field o k) = 0

abbrev number_of : Position → ℕ
number_of p = number_in p.root

not_first : (p : ℕ) → suc p ≡ 0 → ⊥
not_first p e = cc

not_empty : (i : ℕ) (path : List ℕ) → (i ∷ path) ≡ [] → ⊥
not_empty i path e = cc

abbrev path_of : Position → List ℕ
path_of p = p.path

from_place : (p : ℕ) (path : List ℕ) → at (made (exchanged p)) path ≡ whole (made 0) → at (made p) path ≡ whole (made 1)
from_place zero path e = absurd (not_first 0 (ap number_of e))
from_place (suc zero) [] e = refl
from_place (suc zero) (i ∷ path) e = absurd (not_empty i path (ap path_of e))
from_place (suc (suc p)) path e = absurd (not_first (suc p) (ap number_of e))

from_array : (r : Root) (path : List ℕ) → moved_at upgrade world.map (at r path) ≡ whole (made 0) → at r path ≡ whole (made 1)
from_array (shared k) path e = absurd (true≢false (sym (ap is_place e)))
from_array (field o k) path e = absurd (true≢false (sym (ap is_place e)))
from_array (made p) path e = from_place p path e

array_from : (q : Position) (k : ℕ) → target.cell (moved_at upgrade world.map q) ≡ net.holds (n.Array k) → q ≡ whole (made 1)
array_from q k e =
    let p = moved_at upgrade world.map q in
    from_array q.root q.path (array_at p.root p.path k e).0

array_number : (q : Position) (k : ℕ) → target.cell (moved_at upgrade world.map q) ≡ net.holds (n.Array k) → k < 1
array_number q k e =
    let p = moved_at upgrade world.map q in
    let same : k ≡ 0 = (array_at p.root p.path k e).1 in
    omega arith

exchanged_into : (a : ℕ) → a < 2 → exchanged a < 2
exchanged_into zero lt = omega arith
exchanged_into (suc zero) lt = omega arith
exchanged_into (suc (suc a)) lt = lt

exchanged_once : (a b : ℕ) → exchanged a ≡ exchanged b → a ≡ b
exchanged_once zero zero e = refl
exchanged_once zero (suc zero) e = cc
exchanged_once zero (suc (suc b)) e = cc
exchanged_once (suc zero) zero e = cc
exchanged_once (suc zero) (suc zero) e = refl
exchanged_once (suc zero) (suc (suc b)) e = cc
exchanged_once (suc (suc a)) zero e = cc
exchanged_once (suc (suc a)) (suc zero) e = cc
exchanged_once (suc (suc a)) (suc (suc b)) e = e

short_at : (k : ℕ) → length (arrays_at k).elements < 2 ^ 31
short_at zero = omega arith
short_at (suc k) = omega arith

unmade_at : (r : Root) (path : List ℕ) → IsUnmade (mark source) r → held_at r path ≡ blank
unmade_at (shared k) path u = absurd u
unmade_at (made zero) path u = absurd (omega arith)
unmade_at (made (suc zero)) path u = absurd (omega arith)
unmade_at (made (suc (suc p))) path u = refl
unmade_at (field zero k) path u = absurd (omega arith)
unmade_at (field (suc o) k) path u = refl

net_unmade_at : (r : Root) (path : List ℕ) → IsUnmade (net_mark target) r → cell_at r path ≡ net.blank
net_unmade_at (shared k) path u = absurd u
net_unmade_at (made zero) path u = absurd (omega arith)
net_unmade_at (made (suc zero)) path u = absurd (omega arith)
net_unmade_at (made (suc (suc p))) path u = refl
net_unmade_at (field zero k) path u = refl
net_unmade_at (field (suc zero) k) path u = absurd (omega arith)
net_unmade_at (field (suc (suc o)) k) path u = refl

no_rank : (q : Position) (x : ℕ) → q ≡ whole (made 1) → root_variable world.map q.root ≡ Some x → ⊥
no_rank q x e r = cc

class_at : (o : ℕ) → o < 1 → SameClass upgrade (classes_at o) (homes_at (suc o))
class_at zero lt = (refl, refl)
class_at (suc o) lt = absurd (omega arith)

-- n holds a Long, and nothing else stands in a standard module
not_module : (x y : Variable) → Some x ≡ Some y → is_module_variable program.declarations x.owner ≡ false
    → is_module_variable program.declarations y.owner ≡ false
not_module x y e f = subst (λ z. is_module_variable program.declarations z.owner ≡ false) (from_some x y e) f
  where
    from_some : (x y : Variable) → Some x ≡ Some y → x ≡ y
    from_some x y e = cc

kinds_at : (x : ℕ) (y : Variable) → slice_get program.declarations.vars x ≡ Some y
    → HeldAs program.declarations x (is_module_variable program.declarations y.owner) (shared (x ∷ [])) (λ q. held_at q.root q.path)
kinds_at zero y e = inr (v.Long (pos 7), refl)
kinds_at (suc zero) y e = inl (λ path. refl, not_module _ y e refl)
kinds_at (suc (suc zero)) y e = inl (λ path. refl, not_module _ y e refl)
kinds_at (suc (suc (suc zero))) y e = inl (λ path. refl, not_module _ y e refl)
kinds_at (suc (suc (suc (suc zero)))) y e = inl (λ path. refl, not_module _ y e refl)
kinds_at (suc (suc (suc (suc (suc zero))))) y e = inl (λ path. refl, not_module _ y e refl)
kinds_at (suc (suc (suc (suc (suc (suc x)))))) y e = cc

-- the field of the object holds a Long, and its class has no other
not_class : (x y : Variable) → Some x ≡ Some y → is_class_variable program.declarations 0 x.owner ≡ false
    → is_class_variable program.declarations 0 y.owner ≡ false
not_class x y e f = subst (λ z. is_class_variable program.declarations 0 z.owner ≡ false) (from_some x y e) f
  where
    from_some : (x y : Variable) → Some x ≡ Some y → x ≡ y
    from_some x y e = cc

fields_at : (x : ℕ) (y : Variable) → slice_get program.declarations.vars x ≡ Some y
    → HeldAs program.declarations x (is_class_variable program.declarations 0 y.owner) (field 0 (x ∷ [])) (λ q. held_at q.root q.path)
fields_at zero y e = inl (λ path. refl, not_class _ y e refl)
fields_at (suc zero) y e = inl (λ path. refl, not_class _ y e refl)
fields_at (suc (suc zero)) y e = inl (λ path. refl, not_class _ y e refl)
fields_at (suc (suc (suc zero))) y e = inl (λ path. refl, not_class _ y e refl)
fields_at (suc (suc (suc (suc zero)))) y e = inr (v.Long (pos 3), refl)
fields_at (suc (suc (suc (suc (suc zero))))) y e = inl (λ path. refl, not_class _ y e refl)
fields_at (suc (suc (suc (suc (suc (suc x)))))) y e = cc

fields_of : (o c x : ℕ) (y : Variable) → o < 1 → classes_at o ≡ Some c → slice_get program.declarations.vars x ≡ Some y
    → HeldAs program.declarations x (is_class_variable program.declarations c y.owner) (field o (x ∷ [])) (λ q. held_at q.root q.path)
fields_of zero c x y lt of e =
    subst (λ d. HeldAs program.declarations x (is_class_variable program.declarations d y.owner) (field 0 (x ∷ [])) (λ q. held_at q.root q.path)) (only c of)
    (fields_at x y e)
  where
    only : (c : ℕ) → Some 0 ≡ Some c → 0 ≡ c
    only c e = cc
fields_of (suc o) c x y lt of e = absurd (omega arith)

stores_match : StoreMatch upgrade world
stores_match = record {
  into = λ a lt e. exchanged_into a lt;
  one_to_one = λ a b lt more e f same. exchanged_once a b same;
  objects_into = λ o lt. omega arith;
  objects_one_to_one = λ a b lt more same. omega arith;
  classes = class_at;
  values = λ q h. holds_at q.root q.path h;
  apart = λ p q k h i e f. array_from p k e ∙ sym (array_from q k f);
  known = λ q k h e. array_number q k e;
  ranks = λ q x y k h r i e. absurd (no_rank q x (array_from q k e) r);
  short = short_at;
  unmade = λ q u. unmade_at q.root q.path u;
  net_unmade = λ q u. net_unmade_at q.root q.path u;
  errors = refl;
  kinds = λ x y e f. kinds_at x y e;
  fields = λ o c x y lt of e f. fields_of o c x y lt of e;
}
