-- What arguments are on both sides.
use Rattle.std.specs.Prelude.{◌≡◌, ℕ, suc, true, false, List, [], ◌∷◌}
use Rattle.vb_tree.specs.BoundTree.{Ty}
use Rattle.vb_tree.specs.declared.value.Value6.{Value6}
use Rattle.run_base.specs.Frames.{by_address, by_value}
use Rattle.run_base.specs.Positions.{Position}
use Rattle.vb6_run.specs.Shapes.{simple}
use Rattle.vb6_run.specs.Store.{Address, SourceGiven, root, single}
use Rattle.vb6_run.specs.Values.{Value, scalar}
use Rattle.net_run.specs.Store as net
use Rattle.net_run.specs.Values as net_value
use Rattle.run_matches.specs.Addresses.{IsGivable, IsPlain, IsTarget, IsVariable, Same, GivesWhole, SuitsParameter, TakesValue}
use Rattle.run_matches.specs.CoveredVariables.{covers_type}
use Rattle.run_matches.specs.Likeness.{LikeV}
use Rattle.run_matches.specs.Maps.{IsMade, World, is_auto_root, mark}
use Rattle.run_matches.specs.Pledges.{NetGiven, Pledge, arrays_in, is_inward}
use Rattle.run_matches.specs.Upgrades.{Upgrade, runnable_of}

-- A scalar variable that goes by reference to a quiet parameter of a part of a property, for which its value goes in what is written.
pub record IsIndex (U : Upgrade) (q place : ℕ) (w : World) (a : Address) (y : net_value.Value) : Type 0 where
  pub variable : IsVariable U a
  pub ty : Ty
  pub covers : covers_type ty ≡ true
  pub position : Position
  pub stands : a ≡ root (simple ty) position
  pub value : Value6
  pub held : w.src.held position ≡ single ty value
  pub like : LikeV U w (scalar ty value) y
  pub is_made : IsMade (mark w.src) position.root
  pub plain : is_auto_root U w.map position.root ≡ false
  pub quiet : (runnable_of U).quiet q place ≡ true
  pub inward : is_inward U q ≡ true
  pub takes : TakesValue U q place

-- values without arrays that are given by value, and variables by reference, to a procedure from a place of its parameters on
pub data ArgumentsMatch (U : Upgrade) (K : Pledge) (q : ℕ) : (place : ℕ) → World → List SourceGiven → List NetGiven → Type 0 where
  no_arguments : (i : ℕ) (w : World) → ArgumentsMatch U K q i w [] []
  next_value : (i : ℕ) (w : World) (x : Value) (y : net_value.Value) (xs : List SourceGiven) (ys : List NetGiven) → LikeV U w x y → IsGivable U q i x
      → TakesValue U q i → arrays_in y ≡ [] → ArgumentsMatch U K q (suc i) w xs ys → ArgumentsMatch U K q i w (by_value x ∷ xs) (by_value y ∷ ys)
  next_address : (i : ℕ) (w : World) (a : Address) (b : net.Address) (xs : List SourceGiven) (ys : List NetGiven) → Same U K w a b → IsTarget U a
      → GivesWhole U q i a → IsPlain U w a → SuitsParameter U q i a b → ArgumentsMatch U K q (suc i) w xs ys → ArgumentsMatch U K q i w (by_address a ∷ xs) (by_address b ∷ ys)
  next_index : (i : ℕ) (w : World) (a : Address) (y : net_value.Value) (xs : List SourceGiven) (ys : List NetGiven) → IsIndex U q i w a y
      → ArgumentsMatch U K q (suc i) w xs ys → ArgumentsMatch U K q i w (by_address a ∷ xs) (by_value y ∷ ys)
