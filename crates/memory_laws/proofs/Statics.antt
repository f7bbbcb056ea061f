-- A scalar Static is made on both sides where none is there yet.
use Rattle.std.proofs.Common.{◌≡◌, refl, sym, ap, subst, ◌∙◌, ℕ, cond, None, [], Some}
use Rattle.vb_tree.specs.BoundTree.{Ty}
use Rattle.net_tree.specs.Tree as net_tree
use Rattle.net_tree.specs.Types.{TypeName}
use Rattle.run_base.specs.Outcomes.{gives, outside, after, then}
use Rattle.run_base.specs.Positions.{Key, Position, Root, updated, whole}
use Rattle.vb6_run.specs.Shapes.{simple, variable_shape}
use Rattle.vb6_run.specs.Store.{Held, blank, single}
use Rattle.vb6_run.specs.Programs.{lay_if_blank}
use Rattle.vb6_run.specs.Values.{first_scalar}
use Rattle.net_run.specs.Making.{laid_as}
use Rattle.net_run.specs.Program.{made_once}
use Rattle.net_run.specs.Shapes as shape
use Rattle.net_run.specs.Store as net
use Rattle.net_run.specs.Structures.{initial_value}
use Rattle.run_matches.specs.Kinds.{AreKinds}
use Rattle.run_matches.specs.Upgrades.{Upgrade, variable_key}
use Rattle.run_matches.specs.Maps.{World, IsMatched, moved, moved_at}
use Rattle.run_matches.specs.Likeness.{are_same, scalar_word}
use Rattle.run_matches.specs.Match.{Holds, holds_blank, holds_single, holds_table, holds_parts, MemoryMatch}
use Rattle.run_matches.specs.Pledges.{Pledge, Later}
use Rattle.run_matches.specs.Agreeing.{Agrees}
use Rattle.run_statements.specs.Frames.{IsReadable, IsStaticRoot, AnyUnits}
use Rattle.agreeing_laws.proofs.Agreeing.{agrees_gives}
use Rattle.memory_laws.specs.Changes.{changed, IsSuited}
use Rattle.memory_laws.proofs.Changes.{changed_later}
use Rattle.memory_laws.proofs.Making.{blank_keeps, no_table_in, no_array_in, readable_type, readable_shape}
use Rattle.memory_laws.proofs.Positions.{updated_here}
use Rattle.memory_laws.proofs.Scalars.{scalar_is_no_array, FirstMatch, first_match}
use Rattle.memory_laws.proofs.StaticRoots.{StaticStands, static_stands}
use Rattle.memory_laws.proofs.Suited.{root_laid}

module _ (U : Upgrade) (K : Pledge) (w : World) (v : ℕ) (r : IsReadable U v) (t : TypeName) (word : scalar_word r.variable.ty ≡ Some t) (h : MemoryMatch U w)
    (key : Key) (is : variable_key U v ≡ Some key) (differs : (u : ℕ) → variable_key U u ≡ Some key → v ≡ u) (place : Root) (at : IsStaticRoot w v place) where
  abbrev q : Position
  q = whole place

  abbrev ty : Ty
  ty = r.variable.ty

  stands : StaticStands U w v place
  stands = static_stands U w v r.variable r.is_variable r.sound h.stores key is differs place at

  matched : IsMatched U w q
  matched = stands.matched

  first : FirstMatch (are_same w) ty t
  first = first_match (are_same w) ty t (readable_type U v r) word

  laid_suits : w.src.held q ≡ blank → IsSuited U w q (single ty (first_scalar ty))
  laid_suits e = record {
    kept = blank_keeps (w.src.held q) (single ty (first_scalar ty)) e;
    laid = λ root u of same b.
        root_laid U v place stands.is_variable (updated w.src.held q (single ty (first_scalar ty)))
        (subst (λ s. AreKinds s q (updated w.src.held q (single ty (first_scalar ty)))) (sym (readable_shape U v r))
        (first_scalar ty, updated_here w.src.held q (single ty (first_scalar ty)))) root u of same;
  }

  -- what is laid on both sides
  laid_later : w.src.held q ≡ blank → w.net.cell (moved_at U w.map q) ≡ net.blank
      → Later U K w (changed U w q (single ty (first_scalar ty)) (net.holds first.value))
  laid_later e f =
      changed_later U w q (single ty (first_scalar ty)) (net.holds first.value) h matched (stands.alone w h.stores [] matched)
      (holds_single ty (first_scalar ty) first.value first.like) (no_table_in (w.src.held q) e) (no_array_in (w.net.cell (moved_at U w.map q)) f)
      (scalar_is_no_array (are_same w) ty (first_scalar ty) first.value first.like) (laid_suits e) K (λ l i. i e)

  module _ (N : net_tree.Project) (home : ℕ) (d : net_tree.Variable) (plain : d.value ≡ None) (shaped : shape.shape_of N home d.ty ≡ shape.scalar t) where
    -- the first value of the target
    made_is : made_once N home (moved_at U w.map q).root d net.blank w.net
        ≡ gives [] tt (net.with_cell (moved_at U w.map q) (net.holds first.value) w.net)
    made_is =
        ap (λ o. then (initial_value N home (shape.shape_of N home d.ty) o w.net) (laid_as (shape.shape_of N home d.ty) (moved_at U w.map q).root)) plain
        ∙ ap (λ s. then (gives [] (shape.default_of s) w.net) (laid_as s (moved_at U w.map q).root)) shaped
        ∙ ap (λ x. after [] (laid_as (shape.scalar t) (moved_at U w.map q).root x w.net)) first.is_value
        ∙ ap (λ b. after [] (cond b (gives [] tt (net.with_cell (moved_at U w.map q) (net.holds first.value) w.net)) (outside []))) first.of_word

    laid_by : (x : Held) (c : net.Cell) → w.src.held q ≡ x → w.net.cell (moved_at U w.map q) ≡ c → Holds U w x c
        → Agrees U K w AnyUnits (lay_if_blank (simple ty) place x w.src) (made_once N home (moved_at U w.map q).root d c w.net)
    laid_by _ _ e f holds_blank =
        subst (λ z. Agrees U K w AnyUnits (lay_if_blank (simple ty) place blank w.src) z) (sym made_is) (refl, w.map, tt, laid_later e f)
    laid_by _ _ e f (holds_single s x y l) = agrees_gives U K w AnyUnits tt tt h tt
    laid_by _ _ e f (holds_table s dims xs k l) = agrees_gives U K w AnyUnits tt tt h tt
    laid_by _ _ e f holds_parts = agrees_gives U K w AnyUnits tt tt h tt

    -- a Static with a key of its own
    pub static_is_laid : Agrees U K w AnyUnits (lay_if_blank (variable_shape U.program.declarations v) place (w.src.held q) w.src)
        (made_once N home (moved U w.map place) d (w.net.cell (whole (moved U w.map place))) w.net)
    static_is_laid =
        subst
        (λ s. Agrees U K w AnyUnits (lay_if_blank s place (w.src.held q) w.src)
        (made_once N home (moved U w.map place) d (w.net.cell (whole (moved U w.map place))) w.net)) (sym (readable_shape U v r))
        (laid_by (w.src.held q) (w.net.cell (moved_at U w.map q)) refl refl (h.stores.values q matched))
