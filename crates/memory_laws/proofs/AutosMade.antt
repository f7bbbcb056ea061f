-- As New variables are made on both sides, and begin as Nothing.
use Rattle.std.proofs.Common.{ℕ}
use Rattle.vb6_run.specs.Shapes.{variable_shape}
use Rattle.net_run.specs.Shapes as shape
use Rattle.run_matches.specs.Likeness.{SameShape}
use Rattle.run_matches.specs.Upgrades.{Upgrade}
use Rattle.run_statements.specs.Frames.{IsAutoOf}
use Rattle.memory_laws.specs.Statements.{AutosAreMade, StaticAutosAreLaid}
use Rattle.memory_laws.proofs.Autos.{auto_sound, auto_type}
use Rattle.memory_laws.proofs.GroupsMade.{SoundVariable, sound_is_made}
use Rattle.memory_laws.proofs.StaticGroups.{sound_is_laid}

pub auto_variable : (U : Upgrade) (v class : ℕ) → IsAutoOf U v class → (d : shape.Shape) → SameShape U (variable_shape U.program.declarations v) d
    → SoundVariable U v
auto_variable U v class r d same =
    record {
      variable = r.variable;
      is_variable = r.is_variable;
      unflagged = r.sound;
      shape = auto_sound U v class r d same;
      type = auto_type U v class r;
    }

pub autos_are_made : (U : Upgrade) → AutosAreMade U
autos_are_made U K w v class r d same h = sound_is_made U K w v (auto_variable U v class r d same) d same h

pub static_autos_are_laid : (U : Upgrade) → StaticAutosAreLaid U
static_autos_are_laid U K w v class r home key d place at h is differs plain same =
    sound_is_laid U K w v (auto_variable U v class r (shape.shape_of U.written home d.ty) same) home key h is differs d plain same place at
