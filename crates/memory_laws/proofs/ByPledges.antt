-- The laws by the pledges of frames and calls.
use Rattle.std.specs.Prelude.{ℕ, Option, List}
use Rattle.vb6_run.specs.Store.{SourceFrame, SourceGiven}
use Rattle.run_matches.specs.Upgrades.{Upgrade}
use Rattle.run_matches.specs.Maps.{Mark, World}
use Rattle.run_matches.specs.Pledges.{NetGiven}
use Rattle.run_matches.specs.Frames.{frame_pledge}
use Rattle.run_matches.specs.Runs.{call_pledge}
use Rattle.run_statements.specs.Autos.{AutosAreSetBy}
use Rattle.run_statements.specs.Members.{MembersAreFoundBy}
use Rattle.run_statements.specs.Objects.{ObjectsAreMadeBy}
use Rattle.memory_laws.specs.Statements.{VariablesAreReadBy, ScalarsAreWrittenBy, LocalsAreMadeBy}
use Rattle.memory_laws.proofs.Reading.{variables_are_read}
use Rattle.memory_laws.proofs.Writing.{scalars_are_written_in_places}
use Rattle.memory_laws.proofs.Making as making
use Rattle.memory_laws.proofs.Autos.{autos_are_set}
use Rattle.memory_laws.proofs.Members.{members_are_found}
use Rattle.memory_laws.proofs.Objects.{objects_are_made}

pub frame_reads : (U : Upgrade) (p : ℕ) (start : World) (f : SourceFrame) → VariablesAreReadBy U (frame_pledge U p start f)
frame_reads U p start f = variables_are_read U (frame_pledge U p start f)

pub frame_writes : (U : Upgrade) (p : ℕ) (start : World) (f : SourceFrame) → ScalarsAreWrittenBy U (frame_pledge U p start f)
frame_writes U p start f = scalars_are_written_in_places U (frame_pledge U p start f)

pub call_makes : (U : Upgrade) (p : ℕ) (base : Mark) (me : Option ℕ) (xs : List SourceGiven) (ys : List NetGiven)
    → LocalsAreMadeBy U (call_pledge U p base me xs ys)
call_makes U p base me xs ys = making.locals_are_made U (call_pledge U p base me xs ys)

pub frame_finds : (U : Upgrade) (p : ℕ) (start : World) (f : SourceFrame) → MembersAreFoundBy U (frame_pledge U p start f)
frame_finds U p start f = members_are_found U (frame_pledge U p start f)

pub frame_creates : (U : Upgrade) (p : ℕ) (start : World) (f : SourceFrame) → ObjectsAreMadeBy U (frame_pledge U p start f)
frame_creates U p start f = objects_are_made U (frame_pledge U p start f)

pub frame_sets : (U : Upgrade) (p : ℕ) (start : World) (f : SourceFrame) → AutosAreSetBy U (frame_pledge U p start f)
frame_sets U p start f = autos_are_set U (frame_pledge U p start f)
