-- What a call needs of the frames in which it stands, what its arguments are, and what it gives.
use Rattle.std.specs.Prelude.{◌≡◌, ℕ, Option, option_map, [], ◌∷◌}
use Rattle.vb6_run.specs.Expressions.{Parts, result_parts}
use Rattle.vb6_run.specs.Store.{SourceFrame}
use Rattle.vb6_run.specs.Values.{Value}
use Rattle.net_run.specs.Calls.{result_address, result_shape_of}
use Rattle.net_run.specs.Lines.{NetFrame}
use Rattle.net_run.specs.Members.{code_at}
use Rattle.net_run.specs.Shapes as shape
use Rattle.net_run.specs.Store as net
use Rattle.net_run.specs.Values as net_value
use Rattle.run_matches.specs.Addresses.{AllLocked}
use Rattle.run_matches.specs.Agreeing.{ResultMatch}
use Rattle.run_matches.specs.Frames.{HasOwnObject}
use Rattle.run_matches.specs.Maps.{Below, World, mark}
use Rattle.run_matches.specs.Pledges.{Pledge}
use Rattle.run_matches.specs.Runs.{IsObject}
use Rattle.run_matches.specs.Upgrades.{Upgrade}

-- The object of the frames of a procedure is the same, one of its class, and what is handed down is kept; what is promised is so from a mark
-- that lies back.
pub record Stands (U : Upgrade) (K : Pledge) (w : World) (p : ℕ) (f : SourceFrame) (g : NetFrame) : Type 0 where
  pub me : g.me ≡ option_map w.map.objects f.me
  pub object : IsObject w f.me
  pub own_object : HasOwnObject U w p f.me
  pub locks : AllLocked U K w f.env
  pub low : Below K.base (mark w.src)

-- the shape with which a procedure that is written gives its result
abbrev pub result_shape : Upgrade → (number : ℕ) → shape.Shape
result_shape U n = result_shape_of U.written (code_at U.written n)

-- what a call of the procedure of a number gives, which is nothing of a Sub
pub record GivenMatch (U : Upgrade) (number : ℕ) (w : World) (p : Parts) (a : net.Address) : Type 0 where
  pub given : Option Value
  pub net_given : Option net_value.Value
  pub is_given : p ≡ result_parts given
  pub is_net_given : a ≡ result_address (result_shape U number) net_given
  pub match : ResultMatch U w given net_given
