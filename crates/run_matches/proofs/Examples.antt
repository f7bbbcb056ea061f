-- The relation speaks of something: where things of a small program stand in what is written for it, that its stores match at the start,
-- and what is covered.
use Rattle.std.proofs.Common.{◌≡◌, inl, inr, refl, sym, subst, ◌∙◌, ℕ, zero, suc, ◌+◌, ◌<◌, ◌≤◌, pos, Bool, true, false, cond, List, [], ◌∷◌, ◌++◌, codes, Some, None, arith}
use Rattle.std.proofs.lemmas.Bool.{true≢false}
use Rattle.vb_tree.specs.BoundTree.{long}
use Rattle.vb_tree.specs.declared.value.Value6.TheVariants as v
use Rattle.std.specs.Fmt.{digits}
use Rattle.std.specs.Prelude.{slice_get}
use Rattle.bound_facts.specs.SelfMade.{module_of}
use Rattle.vb6_run.specs.Runnables.{is_class_file}
use Rattle.bound_facts.specs.Calls.{Reaches}
use Rattle.bound_tree.specs.RuleSets.{has, none, both}
use Rattle.bound_tree.specs.Tree.{Variable}
use Rattle.reach_table.specs.Chains.{empty, longer}
use Rattle.run_base.specs.Outcomes.{Outcome, gives, raises, spent, outside, outputs, printed}
use Rattle.run_base.specs.Positions.{Root, shared, made, field, Position, whole, is_same_position}
use Rattle.vb6_run.specs.Programs.{run_program, empty_memory, is_module_variable, lay_module_variables}
use Rattle.vb6_run.specs.Store.{Memory, blank, single}
use Rattle.net_meaning.specs.declared.value.ValueN.TheVariants as n
use Rattle.net_run.specs.Program.{program_runs, modules_start}
use Rattle.net_run.specs.Store as net
use Rattle.run_matches.specs.Upgrades.{Upgrade, written_number, class_home, variable_key, runnable_of}
use Rattle.run_matches.specs.Maps.{World, Mark, Below, IsMatched, mark, net_mark, IsUnmade, moved_at}
use Rattle.run_matches.specs.Match.{MemoryMatch, HeldAs, Holds, holds_blank, holds_single, StoreMatch}
use Rattle.run_matches.specs.Addresses.{no_args}
use Rattle.run_matches.specs.Pledges.{Pledge, Later, stands_in_class}
use Rattle.run_matches.specs.Runs.{Start}
use Rattle.net_meaning.specs.ValueMatch.{longs}
use Rattle.run_matches.specs.Covered.{covers_procedure, IsCovered}
use Rattle.run_matches.proofs.Lasting.{keeps_self}
use Rattle.run_matches.proofs.Samples.{program, upgrade}

-- ---- where things stand

-- the Get of a property stands before its Let, and a Sub New before Class_Initialize
let_goes : written_number upgrade 0 ≡ Some 1
unfolding has none both
let_goes = refl

get_goes : written_number upgrade 1 ≡ Some 0
unfolding has none both
get_goes = refl

main_goes : written_number upgrade 2 ≡ Some 2
unfolding has none both
main_goes = refl

initializer_goes : written_number upgrade 3 ≡ Some 4
unfolding has none both
initializer_goes = refl

-- a variable of a standard module, one of a class behind its Sub New, a Static by its procedure, and a local, which has no key
module_variable : variable_key upgrade 0 ≡ Some (0 ∷ 0 ∷ [])
unfolding has none both
module_variable = refl

class_variable : variable_key upgrade 4 ≡ Some (1 ∷ 1 ∷ [])
unfolding has none both
class_variable = refl

static_variable : variable_key upgrade 5 ≡ Some (1 ∷ 2 ∷ 0 ∷ 0 ∷ [])
unfolding has none both
static_variable = refl

local_variable : variable_key upgrade 3 ≡ None
local_variable = refl

class_goes : class_home upgrade 0 ≡ Some 1
class_goes = refl

-- ---- both runs

says_two : outputs (run_program (runnable_of upgrade) 2 [] 9) ≡ printed (codes " 2.2 " ++ 13 ∷ 10 ∷ []) ∷ []
unfolding digits
says_two = refl

says_two_net : outputs (program_runs upgrade.written 9 2 []) ≡ printed (codes " 2.2 " ++ 13 ∷ 10 ∷ []) ∷ []
unfolding digits has none both
says_two_net = refl

-- ---- the stores that both runs begin from match, though nothing is mapped yet

-- the memory that a computation ends with
abbrev memory_of : {M A : Type 0} → M → Outcome M A → M
memory_of w (gives o a s) = s
memory_of w (raises o e s) = s
memory_of w (spent o s) = s
memory_of w (outside o) = w

abbrev start : Memory
start = memory_of empty_memory (lay_module_variables (runnable_of upgrade).program.declarations (0 ∷ []) empty_memory)

abbrev net_start : net.Memory
net_start = memory_of (net.empty_memory []) (modules_start upgrade.written 0 upgrade.written.modules (net.empty_memory []))

start_held : (q : Position) → start.held q ≡ cond (is_same_position (whole (shared (0 ∷ []))) q) (single long (v.Long (pos 0))) blank
start_held q = refl

net_start_cell : (q : Position) → net_start.cell q ≡ cond (is_same_position (whole (shared (0 ∷ 0 ∷ []))) q) (net.holds (n.Integer (pos 0))) net.blank
unfolding has none both
net_start_cell q = refl

-- a map that moves places by 17 and objects by 5
abbrev world : World
world = record { map = record { places = λ p. p + 17; objects = λ o. o + 5; alone = λ p. false; declares = λ p. None }; src = start; net = net_start }

holds_at : (r : Root) (path : List ℕ) → IsMatched upgrade world (record { root = r; path = path })
    → Holds upgrade world (start.held (record { root = r; path = path })) (net_start.cell (moved_at upgrade world.map (record { root = r; path = path })))
unfolding has none both
holds_at (shared []) path h = holds_blank
holds_at (shared (zero ∷ [])) [] h = holds_single long (v.Long (pos 0)) (n.Integer (pos 0)) (longs (pos 0) refl)
holds_at (shared (zero ∷ [])) (i ∷ path) h = holds_blank
holds_at (shared (suc zero ∷ [])) path h = holds_blank
holds_at (shared (suc (suc zero) ∷ [])) path h = holds_blank
holds_at (shared (suc (suc (suc zero)) ∷ [])) path h = holds_blank
holds_at (shared (suc (suc (suc (suc zero))) ∷ [])) path h = holds_blank
holds_at (shared (suc (suc (suc (suc (suc zero)))) ∷ [])) path h = holds_blank
holds_at (shared (suc (suc (suc (suc (suc (suc x))))) ∷ [])) path h = absurd (true≢false (sym h.counterpart))
holds_at (shared (x ∷ y ∷ more)) path h = absurd (true≢false (sym h.counterpart))
holds_at (made p) path h = holds_blank
holds_at (field o k) path h = holds_blank

no_array_in : (b : Bool) (k : ℕ) → cond b (net.holds (n.Integer (pos 0))) net.blank ≡ net.holds (n.Array k) → ⊥
no_array_in true k e = cc
no_array_in false k e = cc

no_array : (p : Position) (k : ℕ) → net_start.cell p ≡ net.holds (n.Array k) → ⊥
no_array p k e = no_array_in (is_same_position (whole (shared (0 ∷ 0 ∷ []))) p) k (sym (net_start_cell p) ∙ e)

nothing_unmade : (r : Root) (path : List ℕ) → IsUnmade (mark start) r → start.held (record { root = r; path = path }) ≡ blank
nothing_unmade (shared k) path u = absurd u
nothing_unmade (made p) path u = refl
nothing_unmade (field o k) path u = refl

nothing_net_unmade : (r : Root) (path : List ℕ) → IsUnmade (net_mark net_start) r → net_start.cell (record { root = r; path = path }) ≡ net.blank
unfolding has none both
nothing_net_unmade (shared k) path u = absurd u
nothing_net_unmade (made p) path u = refl
nothing_net_unmade (field o k) path u = refl

below_zero : (a : ℕ) {B : Type 0} → a < 0 → B
below_zero a lt = absurd (omega arith)

-- n holds a Long, and nothing else stands in a standard module
not_module : (x y : Variable) → Some x ≡ Some y → is_module_variable program.declarations x.owner ≡ false
    → is_module_variable program.declarations y.owner ≡ false
not_module x y e f = subst (λ z. is_module_variable program.declarations z.owner ≡ false) (from_some x y e) f
  where
    from_some : (x y : Variable) → Some x ≡ Some y → x ≡ y
    from_some x y e = cc

kinds_at : (x : ℕ) (y : Variable) → slice_get program.declarations.vars x ≡ Some y
    → HeldAs program.declarations x (is_module_variable program.declarations y.owner) (shared (x ∷ [])) start.held
kinds_at zero y e = inr (v.Long (pos 0), refl)
kinds_at (suc zero) y e = inl (λ path. refl, not_module _ y e refl)
kinds_at (suc (suc zero)) y e = inl (λ path. refl, not_module _ y e refl)
kinds_at (suc (suc (suc zero))) y e = inl (λ path. refl, not_module _ y e refl)
kinds_at (suc (suc (suc (suc zero)))) y e = inl (λ path. refl, not_module _ y e refl)
kinds_at (suc (suc (suc (suc (suc zero))))) y e = inl (λ path. refl, not_module _ y e refl)
kinds_at (suc (suc (suc (suc (suc (suc x)))))) y e = cc

stores_match : StoreMatch upgrade world
unfolding has none both
stores_match = record {
  into = λ a lt e. below_zero a lt;
  one_to_one = λ a b lt more e f same. below_zero a lt;
  objects_into = λ o lt. below_zero o lt;
  objects_one_to_one = λ a b lt more same. below_zero a lt;
  classes = λ o lt. below_zero o lt;
  values = λ q h. holds_at q.root q.path h;
  apart = λ p q k h i e f. absurd (no_array (moved_at upgrade world.map p) k e);
  known = λ q k h e. absurd (no_array (moved_at upgrade world.map q) k e);
  ranks = λ q x y k h r i e. absurd (no_array (moved_at upgrade world.map q) k e);
  short = λ k. omega arith;
  unmade = λ q u. nothing_unmade q.root q.path u;
  net_unmade = λ q u. nothing_net_unmade q.root q.path u;
  errors = refl;
  kinds = λ x y e f. kinds_at x y e;
  fields = λ o c x y lt of e f. below_zero o lt;
}

no_class : (file : ℕ) → module_of (slice_get program.declarations.procs 2) ≡ Some file → is_class_file program.declarations file ≡ true → ⊥
no_class file of class = true≢false (sym class ∙ subst (λ o. stands_in_class upgrade o ≡ false) of refl)

-- so do arguments, of which there are none
may_start : Start upgrade world 2 None [] []
may_start = record {
  stores = stores_match;
  object = tt;
  own_object = λ file of class. absurd (no_class file of class);
  args = record { match = no_args 0; loose = λ k c. below_zero c.0 c.1; once = λ i j d lt more. below_zero j more };
}

-- ---- nothing is lost where nothing is done

below_itself : (a : Mark) → Below a a
below_itself a = record { places = omega arith; objects = omega arith }

not_both : (a b : ℕ) {B : Type 0} → a ≤ b → b < a → B
not_both a b le lt = absurd (omega arith)

lasts : (U : Upgrade) (K : Pledge) (w : World) → MemoryMatch U w → Later U K w w
lasts U K w h = record {
  match = h;
  extends = record {
    same_places = λ p lt. refl;
    same_objects = λ o lt. refl;
    same_alone = λ p lt. refl;
    same_declared = λ p lt. refl;
    new_places = λ p le lt a. not_both w.src.next p le lt;
    new_objects = λ o le lt. not_both w.src.next_object o le lt;
  };
  grows = below_itself (mark w.src);
  net_grows = below_itself (net_mark w.net);
  arrays_grow = omega arith;
  same_classes = λ o lt. refl;
  same_kinds = λ q. keeps_self (w.src.held q);
  same_values = λ q l i. refl;
  same_cells = λ q m l i. refl;
  same_elements = λ q k m l e. refl;
  same_arrays = λ q e k m s a. a;
  same_ranks = λ q rank m r. r;
  same_loose = λ k lt l t. (refl, l);
  same_alone = λ q m n. refl;
  same_unmapped = λ p m u. refl;
}

-- ---- what is covered

main_covered : covers_procedure program 2 ≡ true
main_covered = refl

-- it calls nothing
reaches_itself : (q : ℕ) → Reaches program 2 q → covers_procedure program q ≡ true
reaches_itself q (empty a) = refl
reaches_itself q (longer a b c chain pair) = below_zero pair.0 pair.1

main_is_covered : IsCovered program 2
main_is_covered = reaches_itself

-- the parts of a property
let_covered : covers_procedure program 0 ≡ true
let_covered = refl

get_covered : covers_procedure program 1 ≡ true
get_covered = refl
