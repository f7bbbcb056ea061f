-- The memories match under the map, so that Main may be called.
use Rattle.std.proofs.Common.{◌≡◌, inl, inr, refl, sym, ap, subst, ◌∙◌, ℕ, zero, suc, ◌+◌, ◌<◌, ◌^◌, pos, Bool, true, false, cond, List, [], ◌∷◌, length, Some, None, arith, true≢false}
use Rattle.std.proofs.lemmas.Bool.{eqb-true, true≢false}
use Rattle.std.specs.Prelude.{nat_eq, slice_get}
use Rattle.bound_facts.specs.SelfMade.{module_of}
use Rattle.vb6_run.specs.Runnables.{is_class_file}
use Rattle.vb6_run.specs.Programs.{is_module_variable}
use Rattle.vb_tree.specs.BoundTree.{long}
use Rattle.vb_tree.specs.declared.value.Value6.TheVariants as v
use Rattle.bound_tree.specs.RuleSets.{has, none, both}
use Rattle.bound_tree.specs.Tree.{Variable}
use Rattle.net_meaning.specs.declared.value.ValueN.TheVariants as n
use Rattle.net_meaning.specs.ValueMatch.{longs}
use Rattle.net_tree.specs.Types as word
use Rattle.run_base.specs.Positions.{Root, shared, made, field, Position, whole}
use Rattle.vb6_run.specs.Programs.{is_module_variable}
use Rattle.vb6_run.specs.Shapes.{simple}
use Rattle.vb6_run.specs.Store.{blank}
use Rattle.net_run.specs.Store as net
use Rattle.run_matches.specs.Addresses.{ArgsOk, no_args}
use Rattle.run_matches.specs.Likeness.{same_scalar, same_counts, like_scalar, no_items, next_item, same_elements}
use Rattle.run_matches.specs.Maps.{IsMatched, World, has_key, mark, net_mark, IsUnmade, moved_at}
use Rattle.run_matches.specs.Pledges.{stands_in_class}
use Rattle.run_matches.specs.Match.{HeldAs, Holds, holds_blank, holds_single, holds_table, StoreMatch}
use Rattle.run_matches.specs.Runs.{Start, call_pledge}
use Rattle.run_matches.specs.Upgrades.{Upgrade}
use Rattle.vb_tree.specs.declared.declared.Owner.{Owner}
use Rattle.name_laws.proofs.Lists.{some_same}
use Rattle.run_laws.proofs.Covered.{not_none}
use Rattle.inhabited_laws.specs.Memories.{arrays_at, cell_at, held_at, items, sample_map, sample_source, sample_target, sample_world, seven_if, three}
use Rattle.inhabited_laws.specs.Sample.{program, sample}

abbrev pub at : Root → List ℕ → Position
at r path = record { root = r; path = path }

-- of the variables total alone has a key
no_key : (x : ℕ) → has_key sample (Some (suc x)) ≡ false
unfolding has none both
no_key zero = refl
no_key (suc zero) = refl
no_key (suc (suc zero)) = refl
no_key (suc (suc (suc zero))) = refl
no_key (suc (suc (suc (suc zero)))) = refl
no_key (suc (suc (suc (suc (suc x))))) = refl

holds_at : (r : Root) (path : List ℕ) → IsMatched sample sample_world (at r path)
    → Holds sample sample_world (held_at r path) (sample_target.cell (moved_at sample sample_map (at r path)))
unfolding has none both
holds_at (shared []) path h = holds_blank
holds_at (shared (zero ∷ [])) [] h =
    holds_table (simple long) (three ∷ []) items 0
    (same_elements (simple long) (three ∷ []) items _ (same_scalar long word.integer refl) (same_counts three [] refl refl)
    (next_item _ _ _ _ (like_scalar long (v.Long (pos 0)) (n.Integer (pos 0)) (longs (pos 0) refl))
    (next_item _ _ _ _ (like_scalar long (v.Long (pos 0)) (n.Integer (pos 0)) (longs (pos 0) refl))
    (next_item _ _ _ _ (like_scalar long (v.Long (pos 5)) (n.Integer (pos 5)) (longs (pos 5) refl)) no_items))) refl refl)
holds_at (shared (zero ∷ [])) (i ∷ path) h = holds_blank
holds_at (shared (suc x ∷ [])) path h = absurd (true≢false (sym h.counterpart ∙ no_key x))
holds_at (shared (x ∷ y ∷ more)) path h = absurd (true≢false (sym h.counterpart))
holds_at (made zero) [] h = holds_single long (v.Long (pos 7)) (n.Integer (pos 7)) (longs (pos 7) refl)
holds_at (made zero) (i ∷ path) h = holds_blank
holds_at (made (suc p)) path h = let lt : suc p < 1 = h.is_made in absurd (omega arith)
holds_at (field o k) path h = let lt : o < 0 = h.is_made in absurd (omega arith)

-- ---- the array stands in one cell

seven_no_array : (b : Bool) (k : ℕ) → seven_if b ≡ net.holds (n.Array k) → ⊥
seven_no_array true k e = cc
seven_no_array false k e = cc

array_at : (r : Root) (path : List ℕ) (k : ℕ) → cell_at r path ≡ net.holds (n.Array k) → (at r path ≡ whole (shared (0 ∷ 0 ∷ []))) × (k ≡ 0)
array_at (shared []) path k e = cc
array_at (shared (zero ∷ [])) path k e = cc
array_at (shared (zero ∷ zero ∷ [])) [] k e = (refl, cc)
array_at (shared (zero ∷ zero ∷ [])) (i ∷ path) k e = cc
array_at (shared (zero ∷ zero ∷ x ∷ more)) path k e = cc
array_at (shared (zero ∷ suc x ∷ more)) path k e = cc
array_at (shared (suc x ∷ more)) path k e = cc
array_at (made p) [] k e = absurd (seven_no_array (nat_eq p 17) k e)
array_at (made p) (i ∷ path) k e = cc
array_at (field o key) path k e = cc

abbrev is_shared_root : Root → Bool
is_shared_root (shared k) = true
is_shared_root (made p) = false
is_shared_root (field o k) = false

abbrev is_shared : Position → Bool
is_shared p = is_shared_root p.root

abbrev path_of : Position → List ℕ
path_of p = p.path

-- so one position of the source leads there
from_array : (r : Root) (path : List ℕ) → IsMatched sample sample_world (at r path) → moved_at sample sample_map (at r path) ≡ whole (shared (0 ∷ 0 ∷ []))
    → at r path ≡ whole (shared (0 ∷ []))
unfolding has none both
from_array (shared []) path h e = absurd (true≢false (sym h.counterpart))
from_array (shared (zero ∷ [])) [] h e = refl
from_array (shared (zero ∷ [])) (i ∷ path) h e = absurd (not_empty i path (ap path_of e))
  where
    not_empty : (i : ℕ) (path : List ℕ) → (i ∷ path) ≡ [] → ⊥
    not_empty i path e = cc
from_array (shared (suc x ∷ [])) path h e = absurd (true≢false (sym h.counterpart ∙ no_key x))
from_array (shared (x ∷ y ∷ more)) path h e = absurd (true≢false (sym h.counterpart))
from_array (made p) path h e = absurd (true≢false (sym (ap is_shared e)))
from_array (field o k) path h e = absurd (true≢false (sym (ap is_shared e)))

array_from : (q : Position) (k : ℕ) → IsMatched sample sample_world q → sample_target.cell (moved_at sample sample_map q) ≡ net.holds (n.Array k)
    → q ≡ whole (shared (0 ∷ []))
array_from q k h e =
    let p = moved_at sample sample_map q in
    from_array q.root q.path h (array_at p.root p.path k e).0

array_number : (q : Position) (k : ℕ) → sample_target.cell (moved_at sample sample_map q) ≡ net.holds (n.Array k) → k ≡ 0
array_number q k e =
    let p = moved_at sample sample_map q in
    (array_at p.root p.path k e).1

array_rank : (k : ℕ) → k ≡ 0 → length (arrays_at k).counts ≡ 1
array_rank zero e = refl
array_rank (suc k) e = absurd (omega arith)

known_at : (k : ℕ) → k ≡ 0 → k < 1
known_at k e = omega arith

short_at : (k : ℕ) → length (arrays_at k).elements < 2 ^ 31
short_at zero = omega arith
short_at (suc k) = omega arith

-- ---- nothing stands where nothing was made

unmade_at : (r : Root) (path : List ℕ) → IsUnmade (mark sample_source) r → held_at r path ≡ blank
unmade_at (shared k) path u = absurd u
unmade_at (made zero) path u = absurd (omega (arith, u))
unmade_at (made (suc p)) path u = refl
unmade_at (field o k) path u = refl

-- nor behind the last number that was made
pub behind : (last n : ℕ) (b : Bool) (c : net.Cell) → nat_eq n last ≡ b → last < n → cond b c net.blank ≡ net.blank
behind last n true c e lt = absurd (let same : n ≡ last = eqb-true n last e in omega arith)
behind last n false c e lt = refl

net_unmade_at : (r : Root) (path : List ℕ) → IsUnmade (net_mark sample_target) r → cell_at r path ≡ net.blank
net_unmade_at (shared k) path u = absurd u
net_unmade_at (made p) [] u = behind 17 p (nat_eq p 17) (net.holds (n.Integer (pos 7))) refl u
net_unmade_at (made p) (i ∷ path) u = refl
net_unmade_at (field o k) path u = refl

pub below_zero : (a : ℕ) {B : Type 0} → a < 0 → B
below_zero a lt = absurd (omega arith)

pub into_at : (by a : ℕ) → a < 1 → a + by < suc by
into_at by a lt = omega arith

pub moved_once : (by a b : ℕ) → a + by ≡ b + by → a ≡ b
moved_once by a b e = omega arith

-- ---- total is an array of Longs, and nothing else stands in a standard module

pub not_laid : (laid : Owner → Bool) (x y : Variable) → Some x ≡ Some y → laid x.owner ≡ false → laid y.owner ≡ false
not_laid laid x y e f = subst (λ (z : Variable). laid z.owner ≡ false) (some_same x y e) f

kinds_at : (x : ℕ) (y : Variable) → slice_get program.declarations.vars x ≡ Some y
    → HeldAs program.declarations x (is_module_variable program.declarations y.owner) (shared (x ∷ [])) (λ q. held_at q.root q.path)
kinds_at zero y e = inr (three ∷ [], items, refl)
kinds_at (suc zero) y e = inl (λ path. refl, not_laid (is_module_variable program.declarations) _ y e refl)
kinds_at (suc (suc zero)) y e = inl (λ path. refl, not_laid (is_module_variable program.declarations) _ y e refl)
kinds_at (suc (suc (suc zero))) y e = inl (λ path. refl, not_laid (is_module_variable program.declarations) _ y e refl)
kinds_at (suc (suc (suc (suc zero)))) y e = inl (λ path. refl, not_laid (is_module_variable program.declarations) _ y e refl)
kinds_at (suc (suc (suc (suc (suc zero))))) y e = inl (λ path. refl, not_laid (is_module_variable program.declarations) _ y e refl)
kinds_at (suc (suc (suc (suc (suc (suc x)))))) y e = absurd (not_none e)

stores_match : StoreMatch sample sample_world
stores_match = record {
  into = λ a lt e. into_at 17 a lt;
  one_to_one = λ a b lt more e f same. moved_once 17 a b same;
  objects_into = λ o lt. below_zero o lt;
  objects_one_to_one = λ a b lt more same. below_zero a lt;
  classes = λ o lt. below_zero o lt;
  values = λ q h. holds_at q.root q.path h;
  apart = λ p q k h i e f. array_from p k h e ∙ sym (array_from q k i f);
  known = λ q k h e. known_at k (array_number q k e);
  ranks = λ q x y k h r i e. array_rank k (array_number q k e);
  short = short_at;
  unmade = λ q u. unmade_at q.root q.path u;
  net_unmade = λ q u. net_unmade_at q.root q.path u;
  errors = refl;
  kinds = λ x y e f. kinds_at x y e;
  fields = λ o c x y lt of e f. below_zero o lt;
}

-- the first procedure stands in no class
pub no_class : (U : Upgrade) (file : ℕ) → stands_in_class U (module_of (slice_get U.program.declarations.procs 0)) ≡ false
    → module_of (slice_get U.program.declarations.procs 0) ≡ Some file → is_class_file U.program.declarations file ≡ true → ⊥
no_class U file not of class = true≢false (sym class ∙ subst (λ o. stands_in_class U o ≡ false) of not)

-- no arguments are given to it
pub no_arguments : (U : Upgrade) (w : World) → ArgsOk U (call_pledge U 0 (mark w.src) None [] []) w 0 [] []
no_arguments U w = record { match = no_args 0; loose = λ k c. below_zero c.0 c.1; once = λ i j d lt more. below_zero j more }

pub may_start : Start sample sample_world 0 None [] []
may_start = record {
  stores = stores_match;
  object = tt;
  own_object = λ file of class. absurd (no_class sample file refl of class);
  args = no_arguments sample sample_world;
}
