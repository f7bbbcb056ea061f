-- A variable of a new object is laid on both sides: one of a scalar, a user type or a class, and one whose declaration carries an issue.
use Rattle.std.proofs.Common.{◌≡◌, ◌⊎◌, inl, inr, refl, ap, subst, ◌∙◌, ℕ, true, cond, Option, None, Some, [], ◌∷◌}
use Rattle.std.specs.Prelude.{is_some}
use Rattle.up_base.proofs.Tests.{by_test}
use Rattle.net_tree.specs.Tree as net_tree
use Rattle.run_base.specs.Outcomes.{Outcome, after, gives, outside, then}
use Rattle.run_base.specs.Positions.{Key, Position, Root, field, whole}
use Rattle.vb6_run.specs.Shapes.{Shape, variable_shape}
use Rattle.vb6_run.specs.Store.{Held, Memory, laid, lay, provided}
use Rattle.vb6_run.specs.Values.{first_value, is_makeable}
use Rattle.net_run.specs.Making.{laid_as, variable_made}
use Rattle.net_run.specs.Shapes as shape
use Rattle.net_run.specs.Store as net
use Rattle.net_run.specs.Structures.{initial_value}
use Rattle.run_matches.specs.Kinds.{AreKinds}
use Rattle.run_matches.specs.Likeness.{SameShape}
use Rattle.run_matches.specs.Maps.{World, IsMade, has_counterpart, key_or_none, mark, moved, moved_key}
use Rattle.run_matches.specs.Match.{IsBlank, MemoryMatch}
use Rattle.run_matches.specs.Pledges.{Later, Pledge, type_of_shape}
use Rattle.run_matches.specs.SoundShapes.{IsSoundShape}
use Rattle.run_matches.specs.Upgrades.{Upgrade, is_flagged, is_sound, variable_key}
use Rattle.run_statements.specs.Frames.{IsOne}
use Rattle.run_statements.specs.Objects.{BeginsByDefault, written_shape}
use Rattle.agreeing_laws.proofs.Lasting.{later_then}
use Rattle.agreeing_laws.proofs.Made.{up_self}
use Rattle.agreeing_laws.proofs.SoundParts.{part_type}
use Rattle.memory_laws.specs.Laying.{Fills, cells_with, filled, held_with}
use Rattle.memory_laws.specs.Objects.{AreLaid, Lays, own_root, refilled, unclassed, with_objects}
use Rattle.memory_laws.proofs.Filling.{filled_later, fills_none}
use Rattle.memory_laws.proofs.GroupFills.{FirstValue, first_value_matches, value_fills}
use Rattle.memory_laws.proofs.GroupValues.{value_suits}
use Rattle.memory_laws.proofs.GroupsMade.{sound_makeable}
use Rattle.memory_laws.proofs.LaidValues.{kinds_laid, laid_is, makeable_end, net_laid_is}
use Rattle.memory_laws.proofs.Moved.{field_goes_alone, none_goes_there}
use Rattle.memory_laws.proofs.NewObjects.{object_here}
use Rattle.memory_laws.proofs.Parts.{cells_apart, held_apart, root_apart}
use Rattle.memory_laws.proofs.Places.{here_more}
use Rattle.memory_laws.proofs.Suited.{root_laid}
use Rattle.memory_laws.proofs.Uncompared.{source_changed, target_changed}

-- what begins by its type alone
pub default_is_made : (U : Upgrade) (home : ℕ) (x : net_tree.Variable) → BeginsByDefault U home x → (to : Root) (m : net.Memory)
    → variable_made U.written home to x m
    ≡ gives [] tt (record m { cell = cells_with (shape.default_of (written_shape U home x)) (whole to) m.cell })
default_is_made U home x b to m =
    let s : shape.Shape = written_shape U home x in
    ap (λ o. then (initial_value U.written home s o m) (laid_as s to)) b.plain
    ∙ (ap (λ i. after [] (cond i (gives [] tt (net.laid (shape.default_of s) (whole to) m)) (outside []))) b.suits
    ∙ ap (λ t. gives [] tt t) (net_laid_is (shape.default_of s) (whole to) m))

-- a variable holds what it declares, or isn't compared
abbrev pub IsLaid : Upgrade → World → (variable : ℕ) → (Position → Held) → Type 0
IsLaid U w v g = (is_flagged U v ≡ true) ⊎ AreKinds (variable_shape U.program.declarations v) (whole (own_root w v)) g

pub laid_alone : (U : Upgrade) (w : World) (v : ℕ) (g : Position → Held) → IsLaid U w v g → (u : ℕ) → IsOne (v ∷ []) u → IsLaid U w u g
laid_alone U w v g i u (inl e) = subst (λ z. IsLaid U w z g) e i
laid_alone U w v g i u (inr b) = absurd b

module _ (U : Upgrade) (K : Pledge) (w : World) (start : MemoryMatch U w) (c d : Option ℕ) (key : Key) (h : Position → Held) (t : Position → net.Cell)
    (a : ℕ → net.Array) (n : ℕ) (l : Later U K w (unclassed w h t a n)) (home : ℕ) (x : net_tree.Variable) where
  abbrev now : World
  now = unclassed w h t a n

  abbrev source : Memory
  source = (refilled (with_objects w c d) h t a n).src

  abbrev target : net.Memory
  target = (refilled (with_objects w c d) h t a n).net

  abbrev to : Root
  to = field w.net.next_object key

  abbrev makes : Outcome net.Memory (Unit {0})
  makes = variable_made U.written home to x target

  abbrev written : shape.Shape
  written = written_shape U home x

  abbrev first_cells : Position → net.Cell
  first_cells = cells_with (shape.default_of written) (whole to) t

  first_cells_apart : (p : Position) → (to ≡ p.root → ⊥) → first_cells p ≡ t p
  first_cells_apart p o = cells_apart (shape.default_of written) (whole to) t p o

  -- ---- for which no variable stands

  module _ (b : BeginsByDefault U home x) (none_there : (u : ℕ) → variable_key U u ≡ Some key → ⊥) where
    pub none_stands : AreLaid U K w c d [] h (gives [] tt source) makes
    none_stands = record {
      held = h;
      cells = first_cells;
      arrays = a;
      next = n;
      later =
          target_changed U K w now start.stores l w.net.next_object key (up_self w.net.next_object) (here_more w.net.next_object)
          (none_goes_there U now w.net.next_object key (λ u e. absurd (none_there u e))) first_cells first_cells_apart;
      others = λ p o. refl;
      laid = λ v i. absurd i;
      source_is = refl;
      target_is = default_is_made U home x b to target;
    }

  -- ---- a variable

  module _ (v : ℕ) where
    abbrev here : Shape
    here = variable_shape U.program.declarations v

    abbrev r : Root
    r = own_root w v

    abbrev lays : Outcome Memory (Unit {0})
    lays = lay here (whole r) source

    abbrev first_held : Position → Held
    first_held = held_with (first_value here) (whole r) h

    first_held_apart : (p : Position) → (r ≡ p.root → ⊥) → first_held p ≡ h p
    first_held_apart p o = held_apart (first_value here) (whole r) h p (root_apart (whole r) p o)

    module _ (makeable : is_makeable here ≡ true) (b : BeginsByDefault U home x) (later : Later U K w (unclassed w first_held first_cells a n))
        (kinds : IsLaid U w v first_held) where
      both_laid : AreLaid U K w c d (v ∷ []) h lays makes
      both_laid = record {
        held = first_held;
        cells = first_cells;
        arrays = a;
        next = n;
        later = later;
        others = λ p o. first_held_apart p (o v (inl refl));
        laid = laid_alone U w v first_held kinds;
        source_is =
            ap (λ i. provided i (λ m. gives [] tt (laid here (whole r) m)) source) makeable
            ∙ ap (λ m. gives [] tt m) (laid_is here (whole r) source (makeable_end here makeable));
        target_is = default_is_made U home x b to target;
      }

    -- its declaration carries an issue
    module _ (flagged : is_flagged U v ≡ true) (b : BeginsByDefault U home x) (only : (u : ℕ) → variable_key U u ≡ Some key → v ≡ u) where
      source_later : Later U K w (filled now first_held t)
      source_later =
          source_changed U K w now start.stores l w.src.next_object v (up_self w.src.next_object) (here_more w.src.next_object) flagged first_held
          first_held_apart

      all_flagged : (u : ℕ) → variable_key U u ≡ Some key → is_flagged U u ≡ true
      all_flagged u e = subst (λ z. is_flagged U z ≡ true) (only u e) flagged

      flagged_later : Later U K w (unclassed w first_held first_cells a n)
      flagged_later =
          target_changed U K w (filled now first_held t) start.stores source_later w.net.next_object key (up_self w.net.next_object)
          (here_more w.net.next_object) (none_goes_there U (filled now first_held t) w.net.next_object key all_flagged) first_cells first_cells_apart

      pub flagged_lays : Lays U K w c d (v ∷ []) h lays makes
      flagged_lays =
          by_test (is_makeable here) (λ i. is_makeable here ≡ i → Lays U K w c d (v ∷ []) h lays makes)
          (λ e i. inr (both_laid e b flagged_later (inl flagged)))
          (λ e i. inl (ap (λ k. provided k (λ m. gives [] tt (laid here (whole r) m)) source) e)) refl

    -- it holds no array
    module _ (is : variable_key U v ≡ Some key) (differs : (u : ℕ) → variable_key U u ≡ Some key → v ≡ u) (none : IsBlank r h)
        (sound : IsSoundShape U here) (of : part_type U v [] ≡ Some (type_of_shape here)) (kept : is_sound U v [] ≡ true) (plain : x.value ≡ None)
        (sh : SameShape U here written) where
      goes : moved U now.map r ≡ to
      goes =
          ap (λ i. field i (moved_key U (v ∷ []))) (object_here w None None) ∙ ap (λ k. field w.net.next_object (key_or_none k)) is

      made_here : IsMade (mark now.src) r
      made_here = here_more w.src.next_object

      counterpart : has_counterpart U now.map r ≡ true
      counterpart = ap is_some is

      first : FirstValue U now here written
      first = first_value_matches U now here written sound sh

      fills : Fills U now r first_held (cells_with (shape.default_of written) (whole (moved U now.map r)) t)
      fills =
          value_fills U now r v made_here counterpart refl l.match.stores
          (λ u s path m. field_goes_alone U u s w.src.next_object v key is differs m.is_made path) here [] (first_value here) (shape.default_of written) h t
          sound of kept first.of first.like (fills_none U now r l.match.stores)

      kinds : AreKinds here (whole r) first_held
      kinds = kinds_laid U here (first_value here) (whole r) h sound first.of

      moved_later : Later U K w (filled now first_held (cells_with (shape.default_of written) (whole (moved U now.map r)) t))
      moved_later =
          let done : World = filled now first_held (cells_with (shape.default_of written) (whole (moved U now.map r)) t) in
          later_then U K w now done start l
          (filled_later U now r first_held (cells_with (shape.default_of written) (whole (moved U now.map r)) t) l.match made_here none fills
          (root_laid U v r refl first_held kinds) K)

      sound_later : Later U K w (unclassed w first_held first_cells a n)
      sound_later = subst (λ z. Later U K w (unclassed w first_held (cells_with (shape.default_of written) (whole z) t) a n)) goes moved_later

      begins : BeginsByDefault U home x
      begins = record {
        plain = plain;
        suits = value_suits U now here written (first_value here) (shape.default_of written) sound sh first.of first.like;
      }

      pub sound_lays : Lays U K w c d (v ∷ []) h lays makes
      sound_lays = inr (both_laid (sound_makeable U here sound) begins sound_later (inr kinds))
