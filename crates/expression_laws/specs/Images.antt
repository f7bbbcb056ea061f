-- What an expression needs of where it stands: its variables are found on both sides, and stand for each other.
use Rattle.std.specs.Prelude.{◌≡◌, ℕ, Bool, false, not, Some, [], ◌⊎◌, true}
use Rattle.vb_tree.specs.declared.declared.VarId.{VarId}
use Rattle.run_base.specs.Positions.{Position}
use Rattle.written_trees.specs.Names.{Scope, variable_path}
use Rattle.vb6_run.specs.Runnables.{variable_address}
use Rattle.vb6_run.specs.Shapes.{variable_shape}
use Rattle.vb6_run.specs.Store.{Address, SourceFrame}
use Rattle.net_run.specs.Names as net_names
use Rattle.net_run.specs.Names.{path_start, starts, at_place}
use Rattle.net_run.specs.Shapes as shape
use Rattle.net_run.specs.Store as net
use Rattle.run_matches.specs.Addresses.{Bound, IsPlain, IsTarget, Same, IsElement, IsWhole}
use Rattle.run_matches.specs.CoveredExprs.{Uses, IsUsed, is_relied_on}
use Rattle.run_matches.specs.Frames.{StandsAs, is_mirrored}
use Rattle.run_matches.specs.Maps.{World, is_auto_root}
use Rattle.run_matches.specs.Pledges.{Pledge}
use Rattle.run_matches.specs.Upgrades.{Upgrade, is_auto}

-- the same variable stands on both sides, which can be changed
pub record IsImage (U : Upgrade) (K : Pledge) (w : World) (v : ℕ) (a : Address) (b : net.Address) : Type 0 where
  pub same : Same U K w a b
  pub target : IsTarget U a
  pub position : Position
  -- an As New variable stands at the place of one, and no other does
  pub plain : is_auto U v ≡ false → IsPlain U w a
  pub auto : is_auto U v ≡ true → is_auto_root U w.map position.root ≡ true
  pub stands : StandsAs (variable_shape U.program.declarations v) a position
  -- an array has the rank of its declaration
  pub ranked : (element : shape.Shape) (rank : ℕ) → net.shape_at b ≡ shape.array element rank → rank ≡ U.facts.rank v

-- What is written for a variable of the source, where it may be named so, leads to one of the target. A quiet parameter may stand for a
-- value on either side.
pub record HasImage (U : Upgrade) (K : Pledge) (w : World) (S : net_names.Scope) (T : Scope) (named : (qualified : Bool) → Bool) (v : ℕ) (a : Address) : Type 0 where
  pub address : net.Address
  pub found : (qualified : Bool) → named qualified ≡ true → path_start S false (variable_path T qualified v) ≡ starts (at_place address) []
  pub bound : Bound U K w (not (is_mirrored U v)) a address
  pub of_scalars : IsWhole a ⊎ IsElement a
  pub whole : is_relied_on U.program v ≡ true → IsWhole a
  pub image : is_mirrored U v ≡ false → IsImage U K w v a address

abbrev pub HaveImages : Upgrade → Pledge → World → SourceFrame → net_names.Scope → Scope → Uses → Type 0
HaveImages U K w f S T uses =
    (v : VarId) (a : Address) → IsUsed uses v → variable_address U.program.declarations f v.0 ≡ Some a → HasImage U K w S T (uses.named v) v.0 a
