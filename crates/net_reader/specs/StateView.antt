-- What the states of the code's reader hold.
use Rattle.std.specs.Prelude.{reverse}
use Rattle.net_tree.specs.View.{module_of, procedure_of, property_of, structure_of}
use Rattle.net_reader.specs.ModuleReader as reader
use Rattle.net_reader.specs.declared.states.Access.{Access}
use Rattle.net_reader.specs.declared.states.Access.TheVariants as access
use Rattle.net_reader.specs.declared.states.Body.{Body}
use Rattle.net_reader.specs.declared.states.Grown.{Grown}
use Rattle.net_reader.specs.declared.states.Grown.TheVariants as grown
use Rattle.net_reader.specs.declared.states.NotedModule.{NotedModule}
use Rattle.net_reader.specs.declared.states.Promised.{Promised}
use Rattle.net_reader.specs.declared.states.State.{State}
use Rattle.net_reader.specs.declared.states.State.TheVariants as state

abbrev pub noted_of : NotedModule → reader.NotedModule
noted_of m = record { note = m.note; tree = module_of m.tree }

-- the blocks that are open, from the innermost
abbrev pub body_of : Body → reader.Body
body_of b = record { tree = procedure_of b.tree; blocks = reverse b.blocks.items }

abbrev pub grown_of : Grown → reader.Grown
grown_of (grown.Going b) = reader.going (body_of b)
grown_of (grown.Closed p) = reader.closed (procedure_of p)

abbrev pub access_of : Access → reader.Access
access_of access.Both = reader.both_parts
access_of access.ReadOnly = reader.read_only
access_of access.WriteOnly = reader.write_only

abbrev pub promised_of : Promised → reader.Promised
promised_of p = record { access = access_of p.access; tree = property_of p.tree; comments = p.comments.items }

abbrev pub state_of : State → reader.State
state_of (state.AtFront name) = reader.at_front name
state_of (state.InFront note name texts) = reader.in_front note name texts.items
state_of (state.AmongMembers m) = reader.among_members (noted_of m)
state_of (state.InStructure m s) = reader.in_structure (noted_of m) (structure_of s)
state_of (state.InProperty m p) = reader.in_property (noted_of m) (promised_of p)
state_of (state.InProcedure m b) = reader.in_procedure (noted_of m) (body_of b)
state_of (state.InPart m p b) = reader.in_part (noted_of m) (promised_of p) (body_of b)
state_of (state.Ended m) = reader.ended (noted_of m)
