-- A Static of a user type or a class is made on both sides where none is there yet.
use Rattle.std.proofs.Common.{◌≡◌, ⊎_elim, refl, sym, ap, subst, ◌∙◌, ℕ, not, cond, Some, None, []}
use Rattle.net_tree.specs.Tree as net_tree
use Rattle.run_base.specs.Outcomes.{after, gives, outside, then}
use Rattle.run_base.specs.Positions.{Key, Position, Root, whole}
use Rattle.vb6_run.specs.Programs.{lay_if_blank}
use Rattle.vb6_run.specs.Shapes.{Shape, simple, group, array, endless, variable_shape}
use Rattle.vb6_run.specs.Store.{Held, blank, laid, provided}
use Rattle.vb6_run.specs.Values.{first_value}
use Rattle.net_run.specs.Making.{laid_as}
use Rattle.net_run.specs.Program.{made_once}
use Rattle.net_run.specs.Shapes as shape
use Rattle.net_run.specs.Store as net
use Rattle.net_run.specs.Structures.{initial_value}
use Rattle.run_matches.specs.Agreeing.{Agrees}
use Rattle.run_matches.specs.Kinds.{AreKinds}
use Rattle.run_matches.specs.Likeness.{SameShape}
use Rattle.run_matches.specs.Maps.{World, IsMatched, moved, moved_at}
use Rattle.run_matches.specs.Match.{Holds, holds_blank, holds_single, holds_table, holds_parts, IsBlank, MemoryMatch}
use Rattle.run_matches.specs.Pledges.{Later, Pledge}
use Rattle.run_matches.specs.SoundShapes.{IsSoundShape}
use Rattle.run_matches.specs.Upgrades.{Upgrade, variable_key}
use Rattle.run_statements.specs.Frames.{AnyUnits, IsStaticRoot}
use Rattle.run_statements.specs.Groups.{StaticGroupsAreLaid}
use Rattle.agreeing_laws.proofs.Agreeing.{agrees_gives}
use Rattle.memory_laws.specs.Laying.{Fills, cells_with, filled, held_with}
use Rattle.memory_laws.proofs.Filling.{filled_later, fills_none}
use Rattle.memory_laws.proofs.GroupFills.{FirstValue, first_value_matches, value_fills}
use Rattle.memory_laws.proofs.GroupValues.{value_suits}
use Rattle.memory_laws.proofs.GroupsMade.{SoundVariable, group_variable, sound_makeable}
use Rattle.memory_laws.proofs.LaidValues.{kinds_laid, laid_is, net_laid_is, sound_end}
use Rattle.memory_laws.proofs.StaticRoots.{StaticStands, static_stands}
use Rattle.memory_laws.proofs.Suited.{root_laid}

not_blank : (s : Shape) (q : Position) (h : Position → Held) → AreKinds s q h → h q ≡ blank → ⊥
not_blank (simple ty) q h k e = absurd (cc (sym k.1 ∙ e))
not_blank (group t fs) q h k e = absurd (cc (sym k.0 ∙ e))
not_blank (array f bounds) q h k e = absurd (cc (sym k.2 ∙ e))
not_blank endless q h k e = k

module _ (U : Upgrade) (K : Pledge) (w : World) (v : ℕ) (r : SoundVariable U v) (home : ℕ) (key : Key) (h : MemoryMatch U w) (is : variable_key U v ≡ Some key)
    (differs : (u : ℕ) → variable_key U u ≡ Some key → v ≡ u) (d : net_tree.Variable) (plain : d.value ≡ None)
    (sh : SameShape U (variable_shape U.program.declarations v) (shape.shape_of U.written home d.ty)) (place : Root) (at : IsStaticRoot w v place) where
  abbrev there : Shape
  there = variable_shape U.program.declarations v

  abbrev written : shape.Shape
  written = shape.shape_of U.written home d.ty

  abbrev q : Position
  q = whole place

  abbrev to : Root
  to = moved U w.map place

  abbrev held : Position → Held
  held = held_with (first_value there) q w.src.held

  abbrev cells : Position → net.Cell
  cells = cells_with (shape.default_of written) (whole to) w.net.cell

  sound : IsSoundShape U there
  sound = r.shape

  first : FirstValue U w there written
  first = first_value_matches U w there written sound sh

  stands : StaticStands U w v place
  stands = static_stands U w v r.variable r.is_variable r.unflagged h.stores key is differs place at

  matched : IsMatched U w q
  matched = stands.matched

  -- a Static that isn't there is blank with all its fields
  none : w.src.held q ≡ blank → IsBlank place w.src.held
  none e =
      ⊎_elim (λ b. b) (λ k. absurd (not_blank there q w.src.held k e)) stands.held

  fills : Fills U w place held cells
  fills =
      value_fills U w place v matched.is_made matched.counterpart stands.declared h.stores stands.alone there [] (first_value there)
      (shape.default_of written) w.src.held w.net.cell sound r.type (ap not r.unflagged) first.of first.like
      (fills_none U w place h.stores)

  laid_later : w.src.held q ≡ blank → Later U K w (filled w held cells)
  laid_later e =
      filled_later U w place held cells h matched.is_made (none e) fills
      (root_laid U v place stands.is_variable held (kinds_laid U there (first_value there) q w.src.held sound first.of)) K

  source_is : lay_if_blank there place blank w.src ≡ gives [] tt (record w.src { held = held })
  source_is =
      ap (λ b. provided b (λ m. gives [] tt (laid there q m)) w.src) (sound_makeable U there sound)
      ∙ ap (λ m. gives [] tt m) (laid_is there q w.src (sound_end U there sound))

  target_is : made_once U.written home to d net.blank w.net ≡ gives [] tt (record w.net { cell = cells })
  target_is =
      ap (λ o. then (initial_value U.written home written o w.net) (laid_as written to)) plain
      ∙ (ap (λ b. after [] (cond b (gives [] tt (net.laid (shape.default_of written) (whole to) w.net)) (outside [])))
      (value_suits U w there written (first_value there) (shape.default_of written) sound sh first.of first.like)
      ∙ ap (λ m. gives [] tt m) (net_laid_is (shape.default_of written) (whole to) w.net))

  laid_by : (x : Held) (c : net.Cell) → w.src.held q ≡ x → Holds U w x c
      → Agrees U K w AnyUnits (lay_if_blank there place x w.src) (made_once U.written home to d c w.net)
  laid_by _ _ e holds_blank =
      subst (λ o. Agrees U K w AnyUnits o (made_once U.written home to d net.blank w.net)) (sym source_is)
      (subst (λ o. Agrees U K w AnyUnits (gives [] tt (record w.src { held = held })) o) (sym target_is) (refl, w.map, tt, laid_later e))
  laid_by _ _ e (holds_single s x y l) = agrees_gives U K w AnyUnits tt tt h tt
  laid_by _ _ e (holds_table s dims xs k l) = agrees_gives U K w AnyUnits tt tt h tt
  laid_by _ _ e holds_parts = agrees_gives U K w AnyUnits tt tt h tt

  pub sound_is_laid : Agrees U K w AnyUnits (lay_if_blank there place (w.src.held q) w.src) (made_once U.written home to d (w.net.cell (whole to)) w.net)
  sound_is_laid = laid_by (w.src.held q) (w.net.cell (moved_at U w.map q)) refl (h.stores.values q matched)

pub static_groups_are_laid : (U : Upgrade) → StaticGroupsAreLaid U
static_groups_are_laid U K w v ty r home key d place at h is differs plain sh =
    sound_is_laid U K w v (group_variable U v ty r) home key h is differs d plain sh place at
