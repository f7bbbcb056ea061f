-- Arrays of scalars are made on both sides: in places, and where a Static is not there yet.
use Rattle.std.proofs.Common.{◌≡◌, inl, inr, refl, sym, ap, subst, ◌∙◌, ℕ, suc, ℤ, Bool, true, not, cond, true≢false, Option, None, Some, List, [], ◌∷◌, length, map, replicate}
use Rattle.std.specs.Prelude.{is_some, slice_get}
use Rattle.up_base.proofs.Tests.{by_test}
use Rattle.vb_tree.specs.BoundTree.{Ty}
use Rattle.net_tree.specs.Tree as net_tree
use Rattle.net_tree.specs.Types.{TypeName}
use Rattle.net_meaning.specs.declared.value.ValueN.TheVariants as n
use Rattle.run_base.specs.Outcomes.{Outcome, gives, outside, after, answered, then}
use Rattle.run_base.specs.Positions.{Key, Position, Root, field, made, whole, updated, updated_at}
use Rattle.vb6_run.specs.Programs.{lay_if_blank}
use Rattle.vb6_run.specs.Shapes.{Shape, simple, array, declared_shape, shape_by, user_shapes, variable_shape}
use Rattle.vb6_run.specs.Store.{root, Held, Memory, blank, table, provided, laid, lay, make}
use Rattle.vb6_run.specs.Values.{Dimension, Values, dimension_of, first_scalar, is_within_limits, repeated, scalar, size}
use Rattle.net_run.specs.Making.{laid_as, variable_made}
use Rattle.net_run.specs.Program.{made_once}
use Rattle.net_run.specs.Shapes as shape
use Rattle.net_run.specs.Store as net
use Rattle.net_run.specs.Structures.{initial_value}
use Rattle.net_run.specs.Values as net_value
use Rattle.run_matches.specs.Addresses.{same_root}
use Rattle.run_matches.specs.Agreeing.{Agrees}
use Rattle.run_matches.specs.Kinds.{AreKinds}
use Rattle.run_matches.specs.Likeness.{are_same, numbers_of, same_array, same_scalar, scalar_word}
use Rattle.run_matches.specs.Maps.{World, IsMatched, is_fixed_position, is_fixed_variable, key_or_none, moved, moved_at, moved_key, root_variable}
use Rattle.run_matches.specs.Match.{Holds, holds_blank, holds_single, holds_table, holds_parts, MemoryMatch}
use Rattle.run_matches.specs.Pledges.{Later, Pledge}
use Rattle.run_matches.specs.Upgrades.{Upgrade, has_bounds, is_fixed, part_variable, variable_key}
use Rattle.run_statements.specs.Arrays.{ArrayMade, ArraysAreMade, StaticArraysAreLaid, array_initial, array_shape}
use Rattle.run_statements.specs.Frames.{AnyUnits, IsArray, IsStaticRoot}
use Rattle.agreeing_laws.proofs.Agreeing.{agrees_gives, agrees_outside}
use Rattle.agreeing_laws.proofs.Lasting.{later_then}
use Rattle.memory_laws.specs.Changes.{IsSuited, with_place}
use Rattle.memory_laws.specs.Objects.{AreLaid, Lays, own_root, refilled, unclassed, with_objects}
use Rattle.memory_laws.proofs.Filling.{cell_blank}
use Rattle.memory_laws.proofs.FirstArrays.{counted_first, first_counts, first_fits, first_like, first_short, written_counts}
use Rattle.memory_laws.proofs.Laid.{laid_later}
use Rattle.memory_laws.proofs.Making.{blank_keeps, covered_shape, place_suits}
use Rattle.memory_laws.proofs.Moved.{field_goes_alone, place_goes_alone}
use Rattle.memory_laws.proofs.NewObjects.{object_here}
use Rattle.memory_laws.proofs.ObjectFields.{laid_alone}
use Rattle.memory_laws.proofs.Places.{declared_here, here_more, net_place_is_blank, place_here, place_is_blank, place_is_matched, place_later}
use Rattle.memory_laws.proofs.Positions.{updated_here, updated_other}
use Rattle.memory_laws.proofs.Renewed.{array_here, cell_here, renewed}
use Rattle.memory_laws.proofs.Scalars.{FirstMatch, first_match}
use Rattle.memory_laws.proofs.StaticRoots.{StaticStands, static_stands}
use Rattle.memory_laws.proofs.Suited.{root_laid}

from_some : (a b : ℕ) → Some a ≡ Some b → a ≡ b
from_some a b e = cc

-- ---- what is made

module _ (U : Upgrade) (v : ℕ) (ty : Ty) (r : IsArray U v ty) (t : TypeName) (word : scalar_word ty ≡ Some t) (some : U.facts.rank v ≡ 0 → ⊥) (home : ℕ)
    (shaped : shape.shape_of U.written home t ≡ shape.scalar t) where
  abbrev bounds : List (ℤ × ℤ)
  bounds = r.known.variable.bounds

  abbrev dims : List Dimension
  dims = map dimension_of bounds

  abbrev rank : ℕ
  rank = U.facts.rank v

  abbrev counts : List ℕ
  counts = first_counts rank bounds

  abbrev values : Values
  values = repeated (size dims) (scalar ty (first_scalar ty))

  abbrev there : Shape
  there = array (simple ty) bounds

  pub shape_is : variable_shape U.program.declarations v ≡ there
  shape_is =
      ap (declared_shape (user_shapes U.program.declarations)) r.known.is_variable
      ∙ (ap (λ s. shape_by (user_shapes U.program.declarations) bounds s) r.is_array
      ∙ ap (λ s. array s bounds) (covered_shape (user_shapes U.program.declarations) [] ty r.covers))

  -- a variable without bounds is no fixed array
  not_fixed : is_fixed U v ≡ true → bounds ≡ [] → ⊥
  not_fixed e none =
      true≢false (sym e ∙ (ap has_bounds r.known.is_variable ∙ ap (λ (z : List (ℤ × ℤ)). is_some (slice_get z 0)) none))

  module _ (same : ℕ → ℕ → Bool) where
    first : FirstMatch same ty t
    first = first_match same ty t r.covers word

    abbrev new : net.Array
    new = record { element = shape.scalar t; counts = counts; elements = replicate (net.product counts) (net_value.single first.value) }

    -- the target makes an array first, which no cell has yet
    initial_is : (w : net.Memory) → is_within_limits dims ≡ true
        → initial_value U.written home (array_shape U v t) (Some (array_initial U v t bounds)) w
        ≡ gives [] (net_value.single (n.Array w.next_array))
        (record w { arrays = updated_at w.arrays w.next_array new; next_array = suc w.next_array })
    initial_is w small =
        ap (λ a. then (answered a w) (λ c s. net.array_made (shape.shape_of U.written home t) c s)) (written_counts rank bounds r.bounds)
        ∙ (ap (λ d. after [] (net.array_made d counts w)) shaped
        ∙ (ap (λ b. after [] (cond b
        (net.new_array (record { element = shape.scalar t; counts = counts; elements = replicate (net.product counts) (shape.default_of_word t) }) w)
        (outside [])))
        (first_fits U (record { same = same; arrays = w.arrays }) ty first.value first.like t word rank bounds r.bounds some small)
        ∙ ap (λ x. after [] (net.new_array (record { element = shape.scalar t; counts = counts; elements = replicate (net.product counts) x }) w))
        first.is_value))

  -- ---- in a place

  module _ (K : Pledge) (w : World) (h : MemoryMatch U w) where
    abbrev q : Position
    q = whole (made w.src.next)

    abbrev placed : World
    placed = with_place w (Some v)

    abbrev done : World
    done = renewed U placed q (simple ty) dims values (new (are_same w))

    matched : IsMatched U placed q
    matched = place_is_matched U w (Some v) (ap not r.known.sound)

    place_ranked : (x u : ℕ) → placed.map.declares w.src.next ≡ Some x → part_variable U x [] ≡ Some u → length counts ≡ U.facts.rank u
    place_ranked x u e f =
        counted_first rank bounds r.bounds ∙ ap U.facts.rank (from_some v x (sym (declared_here U w (Some v)) ∙ e) ∙ from_some x u f)

    made_later : is_within_limits dims ≡ true → Later U K w done
    made_later small =
        let l : Later U K w placed = place_later U w (Some v) h K in
        later_then U K w placed done h l
        (laid_later U placed q (simple ty) dims values (new (are_same w)) l.match matched
        (place_goes_alone U placed l.match.stores w.src.next [] matched) (place_is_blank U w (Some v) h) (net_place_is_blank U w (Some v) h)
        (first_like U (numbers_of w) ty (first (are_same w)).value (first (are_same w)).like t word rank bounds r.bounds some small)
        (first_short U (numbers_of w) ty (first (are_same w)).value (first (are_same w)).like t word rank bounds r.bounds some small)
        (place_suits U w (Some v) h (table (simple ty) dims values)) place_ranked K)

    place_not_fixed : is_fixed_position U done.map q ≡ true → bounds ≡ [] → ⊥
    place_not_fixed e none = not_fixed (subst (λ o. is_fixed_variable U o ≡ true) (declared_here U w (Some v)) e) none

    made_match : ArrayMade U K v t done (root there q) (net.root (array_shape U v t) (whole (made (placed.map.places w.src.next))))
    made_match = record {
      place = record {
        place = w.src.next;
        stands = ap (λ s. root s q) (sym shape_is);
        is_made = matched.is_made;
        declared = declared_here U w (Some v);
      };
      same =
          same_root there (array_shape U v t) q (same_array (simple ty) bounds (shape.scalar t) rank (same_scalar ty t word)) (
            record { is_made = matched.is_made; counterpart = matched.counterpart; sound = matched.sound },
            (dims, values, updated_here w.src.held q (table (simple ty) dims values)),
            place_not_fixed,
          ) (
            w.net.next_array,
            cell_here U placed q (simple ty) dims values (new (are_same w)),
            ap (λ (z : net.Array). length z.counts) (array_here U placed q (simple ty) dims values (new (are_same w))) ∙ counted_first rank bounds r.bounds,
          );
      target_shape = (placed.map.places w.src.next, refl);
    }

    abbrev makes : Outcome net.Memory net.Address
    makes =
        then (initial_value U.written home (array_shape U v t) (Some (array_initial U v t bounds)) w.net) (λ x s. net.made_with (array_shape U v t) x s)

    abbrev with_next : Memory
    with_next = record w.src { next = suc w.src.next }

    makes_is : is_within_limits dims ≡ true → makes
        ≡ gives [] (net.root (array_shape U v t) (whole (made w.net.next)))
        (net.with_cell (whole (made w.net.next)) (net.holds (n.Array w.net.next_array)) (record w.net {
          arrays = updated_at w.net.arrays w.net.next_array (new (are_same w));
          next_array = suc w.net.next_array;
          next = suc w.net.next;
        }))
    makes_is small = ap (λ x. then x (λ y s. net.made_with (array_shape U v t) y s)) (initial_is (are_same w) w.net small)

    array_agrees : is_within_limits dims ≡ true
        → Agrees U K w (ArrayMade U K v t) (gives [] (root there q) (laid there q with_next)) makes
    array_agrees small =
        subst (λ x. Agrees U K w (ArrayMade U K v t) (gives [] (root there q) (laid there q with_next)) x) (sym (makes_is small))
        (subst
        (λ k. Agrees U K w (ArrayMade U K v t) (gives [] (root there q) (laid there q with_next))
        (gives [] (net.root (array_shape U v t) (whole (made k)))
        (net.with_cell (whole (made k)) (net.holds (n.Array w.net.next_array)) (record w.net {
          arrays = updated_at w.net.arrays w.net.next_array (new (are_same w));
          next_array = suc w.net.next_array;
          next = suc w.net.next;
        }))))
        (place_here U w (Some v)) (refl, placed.map, made_match, made_later small))

    pub made_there : Agrees U K w (ArrayMade U K v t) (make there w.src) makes
    made_there =
        by_test (is_within_limits dims)
        (λ b. Agrees U K w (ArrayMade U K v t)
        (then (provided b (λ s. gives [] tt (laid there q s)) with_next) (λ u s. gives [] (root there q) s)) makes)
        (λ small. array_agrees small) (λ large. agrees_outside U K w (ArrayMade U K v t) makes)

  -- ---- a Static

  module _ (K : Pledge) (w : World) (h : MemoryMatch U w) (key : Key) (is : variable_key U v ≡ Some key)
      (differs : (u : ℕ) → variable_key U u ≡ Some key → v ≡ u) (place : Root) (static : IsStaticRoot w v place) where
    abbrev at : Position
    at = whole place

    abbrev kept : World
    kept = renewed U w at (simple ty) dims values (new (are_same w))

    stands : StaticStands U w v place
    stands = static_stands U w v r.known.variable r.known.is_variable r.known.sound h.stores key is differs place static

    known : IsMatched U w at
    known = stands.matched

    suits : w.src.held at ≡ blank → IsSuited U w at (table (simple ty) dims values)
    suits e = record {
      kept = blank_keeps (w.src.held at) (table (simple ty) dims values) e;
      laid = λ root u of f b.
          root_laid U v place stands.is_variable (updated w.src.held at (table (simple ty) dims values))
          (subst (λ s. AreKinds s at (updated w.src.held at (table (simple ty) dims values))) (sym shape_is)
          (dims, values, updated_here w.src.held at (table (simple ty) dims values))) root u of f;
    }

    static_ranked : (x u : ℕ) → root_variable w.map place ≡ Some x → part_variable U x [] ≡ Some u → length counts ≡ U.facts.rank u
    static_ranked x u e f = counted_first rank bounds r.bounds ∙ ap U.facts.rank (from_some v x (sym stands.declared ∙ e) ∙ from_some x u f)

    kept_later : is_within_limits dims ≡ true → w.src.held at ≡ blank → w.net.cell (moved_at U w.map at) ≡ net.blank → Later U K w kept
    kept_later small e f =
        laid_later U w at (simple ty) dims values (new (are_same w)) h known (stands.alone w h.stores [] known) e f
        (first_like U (numbers_of w) ty (first (are_same w)).value (first (are_same w)).like t word rank bounds r.bounds some small)
        (first_short U (numbers_of w) ty (first (are_same w)).value (first (are_same w)).like t word rank bounds r.bounds some small)
        (suits e) static_ranked K

    module _ (d : net_tree.Variable) (value : d.value ≡ Some (array_initial U v t bounds)) (declared : shape.shape_of U.written home d.ty ≡ array_shape U v t) where
      abbrev lays : net.Cell → Outcome net.Memory Unit
      lays c = made_once U.written home (moved_at U w.map at).root d c w.net

      lays_is : is_within_limits dims ≡ true → lays net.blank
          ≡ gives [] tt (net.with_cell (moved_at U w.map at) (net.holds (n.Array w.net.next_array))
          (record w.net { arrays = updated_at w.net.arrays w.net.next_array (new (are_same w)); next_array = suc w.net.next_array }))
      lays_is small =
          ap (λ o. then (initial_value U.written home (shape.shape_of U.written home d.ty) o w.net)
          (laid_as (shape.shape_of U.written home d.ty) (moved_at U w.map at).root)) value
          ∙ (ap (λ s. then (initial_value U.written home s (Some (array_initial U v t bounds)) w.net) (laid_as s (moved_at U w.map at).root)) declared
          ∙ ap (λ x. then x (laid_as (array_shape U v t) (moved_at U w.map at).root)) (initial_is (are_same w) w.net small))

      blank_laid : w.src.held at ≡ blank → w.net.cell (moved_at U w.map at) ≡ net.blank
          → Agrees U K w AnyUnits (lay_if_blank there place blank w.src) (lays net.blank)
      blank_laid e f =
          by_test (is_within_limits dims)
          (λ b. Agrees U K w AnyUnits (provided b (λ s. gives [] tt (laid there at s)) w.src) (lays net.blank))
          (λ small. subst (λ x. Agrees U K w AnyUnits (gives [] tt (laid there at w.src)) x) (sym (lays_is small)) (refl, w.map, tt, kept_later small e f))
          (λ large. agrees_outside U K w AnyUnits (lays net.blank))

      laid_by : (x : Held) (c : net.Cell) → w.src.held at ≡ x → w.net.cell (moved_at U w.map at) ≡ c → Holds U w x c
          → Agrees U K w AnyUnits (lay_if_blank there place x w.src) (lays c)
      laid_by _ _ e f holds_blank = blank_laid e f
      laid_by _ _ e f (holds_single s x y l) = agrees_gives U K w AnyUnits tt tt h tt
      laid_by _ _ e f (holds_table s others xs k l) = agrees_gives U K w AnyUnits tt tt h tt
      laid_by _ _ e f holds_parts = agrees_gives U K w AnyUnits tt tt h tt

      pub laid_there : Agrees U K w AnyUnits (lay_if_blank (variable_shape U.program.declarations v) place (w.src.held at) w.src)
          (made_once U.written home (moved U w.map place) d (w.net.cell (whole (moved U w.map place))) w.net)
      laid_there =
          subst
          (λ s. Agrees U K w AnyUnits (lay_if_blank s place (w.src.held at) w.src)
          (made_once U.written home (moved U w.map place) d (w.net.cell (whole (moved U w.map place))) w.net)) (sym shape_is)
          (laid_by (w.src.held at) (w.net.cell (moved_at U w.map at)) refl refl (h.stores.values at known))

  -- ---- in a new object

  module _ (K : Pledge) (w : World) (start : MemoryMatch U w) (c d : Option ℕ) (key : Key) (h : Position → Held) (cells : Position → net.Cell)
      (a : ℕ → net.Array) (next : ℕ) (l : Later U K w (unclassed w h cells a next)) (is : variable_key U v ≡ Some key)
      (differs : (u : ℕ) → variable_key U u ≡ Some key → v ≡ u) (none : h (whole (own_root w v)) ≡ blank) where
    abbrev now : World
    now = unclassed w h cells a next

    abbrev in_object : Position
    in_object = whole (own_root w v)

    abbrev with_array : World
    with_array = renewed U now in_object (simple ty) dims values (new (are_same now))

    compared : IsMatched U now in_object
    compared = record { is_made = here_more w.src.next_object; counterpart = ap is_some is; sound = ap not r.known.sound }

    array_kinds : AreKinds (variable_shape U.program.declarations v) in_object (updated h in_object (table (simple ty) dims values))
    array_kinds =
        subst (λ s. AreKinds s in_object (updated h in_object (table (simple ty) dims values))) (sym shape_is)
        (dims, values, updated_here h in_object (table (simple ty) dims values))

    suits_object : IsSuited U now in_object (table (simple ty) dims values)
    suits_object = record {
      kept = blank_keeps (h in_object) (table (simple ty) dims values) none;
      laid = λ root u of f b. root_laid U v (own_root w v) refl (updated h in_object (table (simple ty) dims values)) array_kinds root u of f;
    }

    with_array_later : is_within_limits dims ≡ true → Later U K w with_array
    with_array_later small =
        later_then U K w now with_array start l
        (laid_later U now in_object (simple ty) dims values (new (are_same now)) l.match compared
        (field_goes_alone U now l.match.stores w.src.next_object v key is differs compared.is_made []) none
        (cell_blank U now (h in_object) (cells (moved_at U now.map in_object)) (l.match.stores.values in_object compared) none)
        (first_like U (numbers_of now) ty (first (are_same now)).value (first (are_same now)).like t word rank bounds r.bounds some small)
        (first_short U (numbers_of now) ty (first (are_same now)).value (first (are_same now)).like t word rank bounds r.bounds some small)
        suits_object (λ x u e f. counted_first rank bounds r.bounds ∙ ap U.facts.rank (from_some v x e ∙ from_some x u f)) K)

    goes : moved_at U now.map in_object ≡ whole (field w.net.next_object key)
    goes =
        ap (λ i. whole (field i (moved_key U (v ∷ [])))) (object_here w None None) ∙ ap (λ k. whole (field w.net.next_object (key_or_none k))) is

    module _ (x : net_tree.Variable) (value : x.value ≡ Some (array_initial U v t bounds)) (declared : shape.shape_of U.written home x.ty ≡ array_shape U v t) where
      abbrev source : Memory
      source = (refilled (with_objects w c d) h cells a next).src

      abbrev target : net.Memory
      target = (refilled (with_objects w c d) h cells a next).net

      abbrev begins : Outcome net.Memory (Unit {0})
      begins = variable_made U.written home (field w.net.next_object key) x target

      begins_is : is_within_limits dims ≡ true → begins
          ≡ gives [] tt (net.with_cell (whole (field w.net.next_object key)) (net.holds (n.Array target.next_array)) (record target {
            arrays = updated_at a next (new (are_same now));
            next_array = suc next;
          }))
      begins_is small =
          ap (λ o. then (initial_value U.written home (shape.shape_of U.written home x.ty) o target)
          (laid_as (shape.shape_of U.written home x.ty) (field w.net.next_object key))) value
          ∙ (ap (λ s. then (initial_value U.written home s (Some (array_initial U v t bounds)) target) (laid_as s (field w.net.next_object key))) declared
          ∙ ap (λ x. then x (laid_as (array_shape U v t) (field w.net.next_object key))) (initial_is (are_same now) target small))

      array_laid : is_within_limits dims ≡ true
          → AreLaid U K w c d (v ∷ []) h (lay (variable_shape U.program.declarations v) in_object source) begins
      array_laid small = record {
        held = updated h in_object (table (simple ty) dims values);
        cells = updated cells (whole (field w.net.next_object key)) (net.holds (n.Array next));
        arrays = updated_at a next (new (are_same now));
        next = suc next;
        later =
            subst
            (λ q. Later U K w (unclassed w (updated h in_object (table (simple ty) dims values)) (updated cells q (net.holds (n.Array next)))
            (updated_at a next (new (are_same now))) (suc next))) goes (with_array_later small);
        others = λ p o. updated_other h in_object (table (simple ty) dims values) p (λ e. o v (inl refl) (ap (λ (z : Position). z.root) e));
        laid = laid_alone U w v (updated h in_object (table (simple ty) dims values)) (inr array_kinds);
        source_is =
            ap (λ s. lay s in_object source) shape_is ∙ ap (λ b. provided b (λ s. gives [] tt (laid there in_object s)) source) small;
        target_is = begins_is small;
      }

      pub array_lays : Lays U K w c d (v ∷ []) h (lay (variable_shape U.program.declarations v) in_object source) begins
      array_lays =
          by_test (is_within_limits dims)
          (λ b. is_within_limits dims ≡ b → Lays U K w c d (v ∷ []) h (lay (variable_shape U.program.declarations v) in_object source) begins)
          (λ small i. inr (array_laid small))
          (λ large i. inl (ap (λ s. lay s in_object source) shape_is ∙ ap (λ b. provided b (λ s. gives [] tt (laid there in_object s)) source) large)) refl

-- ---- the laws

pub arrays_are_made : (U : Upgrade) → ArraysAreMade U
arrays_are_made U K w v element r t home some word shaped h =
    subst
    (λ s. Agrees U K w (ArrayMade U K v t) (make s w.src)
    (then (initial_value U.written home (array_shape U v t) (Some (array_initial U v t r.known.variable.bounds)) w.net)
    (λ x s. net.made_with (array_shape U v t) x s)))
    (sym (shape_is U v element r t word some home shaped)) (made_there U v element r t word some home shaped K w h)

pub static_arrays_are_laid : (U : Upgrade) → StaticArraysAreLaid U
static_arrays_are_laid U K w v element r t home key d place static some word shaped h is differs value declared =
    laid_there U v element r t word some home shaped K w h key is differs place static d value declared
