-- Variables of user types and of classes are made on both sides, with their first values or with a value that is given.
use Rattle.std.proofs.Common.{◌≡◌, refl, sym, ap, subst, ◌∙◌, ℕ, suc, true, false, not, cond, Some, None, []}
use Rattle.std.specs.Prelude.{slice_get}
use Rattle.up_base.proofs.Tests.{and_true}
use Rattle.vb_tree.specs.BoundTree.{Ty}
use Rattle.bound_tree.specs.Tree.{Variable}
use Rattle.run_base.specs.Outcomes.{after, gives, outside, some_of, then}
use Rattle.run_base.specs.Positions.{Position, Root, made, whole}
use Rattle.vb6_run.specs.Shapes.{Shape, simple, group, array, endless, Shapes, no_shapes, next_shape, declared_shape, shape_by, user_shapes, variable_shape}
use Rattle.vb6_run.specs.Store.{Held, Memory, root, laid, make, make_with, provided, store, write}
use Rattle.vb6_run.specs.Values.{Value, are_makeable, first_value, is_makeable, kept_as}
use Rattle.net_run.specs.Shapes as shape
use Rattle.net_run.specs.Store as net
use Rattle.net_run.specs.Values as net_value
use Rattle.run_matches.specs.Addresses.{same_root}
use Rattle.run_matches.specs.Agreeing.{Agrees}
use Rattle.run_matches.specs.Kinds.{IsValueOf}
use Rattle.run_matches.specs.Likeness.{LikeV, SameShape}
use Rattle.run_matches.specs.Maps.{World, IsMatched, moved}
use Rattle.run_matches.specs.Match.{IsBlank, MemoryMatch}
use Rattle.run_matches.specs.Pledges.{Later, Pledge, type_of_shape}
use Rattle.run_matches.specs.SoundShapes.{IsSoundShape, AreSoundShapes}
use Rattle.run_matches.specs.Upgrades.{Upgrade, is_flagged, is_sound, type_of_some}
use Rattle.run_statements.specs.Frames.{IsGroup, type_shape}
use Rattle.run_statements.specs.Groups.{GroupMade, GroupsAreGiven, GroupsAreMade}
use Rattle.agreeing_laws.proofs.Lasting.{later_then}
use Rattle.agreeing_laws.proofs.Made.{up_self}
use Rattle.agreeing_laws.proofs.SoundParts.{all_matched_made, all_ranked_sound, part_type}
use Rattle.agreeing_laws.proofs.UserShapes.{group_type_of, group_unbounded}
use Rattle.memory_laws.specs.Changes.{with_place}
use Rattle.memory_laws.specs.Laying.{Fills, cells_with, filled, held_with}
use Rattle.memory_laws.proofs.Filling.{filled_later, fills_none}
use Rattle.memory_laws.proofs.GroupFills.{FirstValue, first_value_matches, value_fills}
use Rattle.memory_laws.proofs.GroupValues.{value_kept, value_later, value_suits}
use Rattle.memory_laws.proofs.GroupWriting.{not_fixed}
use Rattle.memory_laws.proofs.LaidValues.{kinds_laid, laid_is, net_laid_is, sound_end}
use Rattle.memory_laws.proofs.Moved.{no_variable_place, place_goes_alone}
use Rattle.memory_laws.proofs.Overwritten.{stored_over}
use Rattle.memory_laws.proofs.Places.{declared_here, place_here, place_is_matched, place_later}
use Rattle.memory_laws.proofs.Positions.{at}

-- a variable of a written shape, whose declaration carries no issue
pub record SoundVariable (U : Upgrade) (v : ℕ) : Type 0 where
  pub variable : Variable
  pub is_variable : slice_get U.program.declarations.vars v ≡ Some variable
  pub unflagged : is_flagged U v ≡ false
  pub shape : IsSoundShape U (variable_shape U.program.declarations v)
  pub type : part_type U v [] ≡ Some (type_of_shape (variable_shape U.program.declarations v))

-- ---- a variable of a user type or a class

module _ (U : Upgrade) (v : ℕ) (ty : Ty) (r : IsGroup U v ty) where
  pub group_shape_is : variable_shape U.program.declarations v ≡ type_shape U ty
  group_shape_is =
      ap (declared_shape (user_shapes U.program.declarations)) r.known.is_variable
      ∙ (ap (shape_by (user_shapes U.program.declarations) r.known.variable.bounds) r.is_type
      ∙ group_unbounded U.program.declarations r.known.variable.bounds ty r.covers)

  pub group_shape : IsSoundShape U (variable_shape U.program.declarations v)
  group_shape = subst (λ s. IsSoundShape U s) (sym group_shape_is) r.sound

  pub group_type : part_type U v [] ≡ Some (type_of_shape (variable_shape U.program.declarations v))
  group_type =
      ap type_of_some r.known.is_variable
      ∙ (ap (λ z. Some z) r.is_type ∙ ap (λ z. Some z) (sym (ap type_of_shape group_shape_is ∙ group_type_of U.program.declarations ty r.covers)))

  pub group_sound : is_sound U v [] ≡ true
  group_sound = ap not r.known.sound

  pub group_variable : SoundVariable U v
  group_variable =
      record { variable = r.known.variable; is_variable = r.known.is_variable; unflagged = r.known.sound; shape = group_shape; type = group_type }

-- ---- what the source makes

mutual
  pub sound_makeable : (U : Upgrade) (s : Shape) → IsSoundShape U s → is_makeable s ≡ true
  sound_makeable U (simple ty) c = refl
  sound_makeable U (group t fs) c = all_makeable U t 0 fs c
  sound_makeable U (array e bounds) c = absurd c
  sound_makeable U endless c = absurd c

  all_makeable : (U : Upgrade) (t k : ℕ) (fs : Shapes) → AreSoundShapes U t k fs → are_makeable fs ≡ true
  all_makeable U t k no_shapes c = refl
  all_makeable U t k (next_shape s rest) c =
      and_true (is_makeable s) (are_makeable rest) (sound_makeable U s c.1) (all_makeable U t (suc k) rest c.2)

module _ (U : Upgrade) (s : Shape) (c : IsSoundShape U s) (w : Memory) where
  abbrev q : Position
  q = whole (made w.next)

  abbrev with_value : Value → Memory
  with_value x = record w { held = held_with x q w.held; next = suc w.next }

  make_is : make s w ≡ gives [] (root s q) (with_value (first_value s))
  make_is =
      ap (λ b. then (provided b (λ v. gives [] tt (laid s q v)) (record w { next = suc w.next })) (λ u v. gives [] (root s q) v)) (sound_makeable U s c)
      ∙ ap (λ m. gives [] (root s q) m) (laid_is s q (record w { next = suc w.next }) (sound_end U s c))

  make_with_is : (K : World) (x : Value) (y : net_value.Value) → IsValueOf s x → LikeV U K x y
      → make_with s x w ≡ gives [] (root s q) (with_value x)
  make_with_is K x y of like =
      ap (λ o. then o (λ a v. then (write [] x a v) (λ u m. gives [] a m))) make_is
      ∙ (ap
      (λ b. after []
      (then (provided b (λ v. some_of (kept_as s x) (λ z m. store [] z q m) v) (with_value (first_value s))) (λ u m. gives [] (root s q) m)))
      (not_fixed U s c)
      ∙ (ap (λ o. after [] (then (some_of o (λ z m. store [] z q m) (with_value (first_value s))) (λ u m. gives [] (root s q) m)))
      (value_kept U K s x y c of like)
      ∙ ap (λ o. after [] (then o (λ u m. gives [] (root s q) m))) (stored_over U [] s x q (record w { next = suc w.next }) c of)))

  -- what no variable of the shape keeps makes none
  pub make_with_none : (x : Value) → kept_as s x ≡ None → make_with s x w ≡ outside []
  make_with_none x none =
      ap (λ o. then o (λ a v. then (write [] x a v) (λ u m. gives [] a m))) make_is
      ∙ (ap
      (λ b. after []
      (then (provided b (λ v. some_of (kept_as s x) (λ z m. store [] z q m) v) (with_value (first_value s))) (λ u m. gives [] (root s q) m)))
      (not_fixed U s c)
      ∙ ap (λ o. after [] (then (some_of o (λ z m. store [] z q m) (with_value (first_value s))) (λ u m. gives [] (root s q) m))) none)

-- ---- in a place

module _ (U : Upgrade) (K : Pledge) (w : World) (h : MemoryMatch U w) (v : ℕ) (r : SoundVariable U v) (d : shape.Shape)
    (sh : SameShape U (variable_shape U.program.declarations v) d) (x : Value) (y : net_value.Value)
    (of : IsValueOf (variable_shape U.program.declarations v) x) (like : LikeV U w x y) where
  abbrev there : Shape
  there = variable_shape U.program.declarations v

  abbrev placed : World
  placed = with_place w (Some v)

  abbrev place : Root
  place = made w.src.next

  abbrev held : Position → Held
  held = held_with x (whole place) w.src.held

  abbrev cells : Position → net.Cell
  cells = cells_with y (at (moved U placed.map place) []) w.net.cell

  abbrev done : World
  done = filled placed held cells

  first : Later U K w placed
  first = place_later U w (Some v) h K

  matched : IsMatched U placed (whole place)
  matched = place_is_matched U w (Some v) (ap not r.unflagged)

  none : IsBlank place w.src.held
  none path = h.stores.unmade (at place path) (up_self w.src.next)

  fills : Fills U placed place held cells
  fills =
      value_fills U placed place v matched.is_made matched.counterpart (declared_here U w (Some v)) first.match.stores
      (λ u s path m. place_goes_alone U u s w.src.next path m) there [] x y w.src.held w.net.cell r.shape r.type
      (ap not r.unflagged) of like (fills_none U placed place first.match.stores)

  made_later : Later U K w done
  made_later =
      later_then U K w placed done h first
      (filled_later U placed place held cells first.match matched.is_made none fills (λ s u of e. absurd (no_variable_place w.src.next u s of e)) K)

  made_match : GroupMade U K v d done (root there (whole place)) (net.root d (whole (made (placed.map.places w.src.next))))
  made_match = record {
    place = record { place = w.src.next; stands = refl; is_made = matched.is_made; declared = declared_here U w (Some v) };
    same =
        same_root there d (whole place) sh
        (all_matched_made U done place v matched.is_made matched.counterpart (declared_here U w (Some v)) there [] r.shape
        r.type (ap not r.unflagged) (kinds_laid U there x (whole place) w.src.held r.shape of))
        (all_ranked_sound U done there d (whole place) r.shape);
    target_shape = (placed.map.places w.src.next, refl);
  }

  value_is_made : Agrees U K w (GroupMade U K v d) (gives [] (root there (whole place)) (record w.src { held = held; next = suc w.src.next }))
      (net.made_with d y w.net)
  value_is_made =
      subst
      (λ b. Agrees U K w (GroupMade U K v d) (gives [] (root there (whole place)) (record w.src { held = held; next = suc w.src.next }))
      (cond b
      (gives [] (net.root d (whole (made w.net.next))) (net.laid y (whole (made w.net.next)) (record w.net { next = suc w.net.next })))
      (outside [])))
      (sym (value_suits U w there d x y r.shape sh of like))
      (subst
      (λ m. Agrees U K w (GroupMade U K v d) (gives [] (root there (whole place)) (record w.src { held = held; next = suc w.src.next }))
      (gives [] (net.root d (whole (made w.net.next))) m))
      (sym (net_laid_is y (whole (made w.net.next)) (record w.net { next = suc w.net.next })))
      (subst
      (λ k. Agrees U K w (GroupMade U K v d) (gives [] (root there (whole place)) (record w.src { held = held; next = suc w.src.next }))
      (gives [] (net.root d (whole (made k))) (record w.net { cell = cells_with y (whole (made k)) w.net.cell; next = suc w.net.next })))
      (place_here U w (Some v)) (refl, placed.map, made_match, made_later)))

-- ---- the laws

-- a variable is made with its first value
pub sound_is_made : (U : Upgrade) (K : Pledge) (w : World) (v : ℕ) (r : SoundVariable U v) (d : shape.Shape)
    → SameShape U (variable_shape U.program.declarations v) d → MemoryMatch U w
    → Agrees U K w (GroupMade U K v d)
    (make (variable_shape U.program.declarations v) w.src)
    (net.made_with d (shape.default_of d) w.net)
sound_is_made U K w v r d sh h =
    let c : IsSoundShape U (variable_shape U.program.declarations v) = r.shape in
    let f : FirstValue U w (variable_shape U.program.declarations v) d = first_value_matches U w (variable_shape U.program.declarations v) d c sh in
    subst (λ o. Agrees U K w (GroupMade U K v d) o (net.made_with d (shape.default_of d) w.net))
    (sym (make_is U (variable_shape U.program.declarations v) c w.src))
    (value_is_made U K w h v r d sh (first_value (variable_shape U.program.declarations v)) (shape.default_of d) f.of f.like)

pub groups_are_made : (U : Upgrade) → GroupsAreMade U
groups_are_made U K w v ty r d sh h = sound_is_made U K w v (group_variable U v ty r) d sh h

pub groups_are_given : (U : Upgrade) → GroupsAreGiven U
groups_are_given U K w0 w v ty r d x y sh l of =
    let c : IsSoundShape U (variable_shape U.program.declarations v) = group_shape U v ty r in
    let like : LikeV U w x y = value_later U K w0 w l (variable_shape U.program.declarations v) x y c of.0 of.1 in
    subst (λ o. Agrees U K w (GroupMade U K v d) o (net.made_with d y w.net))
    (sym (make_with_is U (variable_shape U.program.declarations v) c w.src w x y of.0 like))
    (value_is_made U K w l.match v (group_variable U v ty r) d sh x y of.0 like)
