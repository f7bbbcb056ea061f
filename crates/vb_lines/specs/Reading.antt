-- What a call of the reader adds to a module, and where it stops.
use Rattle.std.specs.Prelude.{◌≡◌, List, [], ◌++◌, None, Some}
use Rattle.up_base.specs.declared.place.Fault.{Fault}
use Rattle.up_base.specs.declared.place.Place.{Place}
use Rattle.vb_tree.specs.Tree.{Line}
use Rattle.vb_lines.specs.declared.building.ModuleBuild.{ModuleBuild}
use Rattle.declaration_forms.specs.declared.starts.Spot.{Spot}
use Rattle.vb_lines.specs.Building.{IsBuilt}
use Rattle.vb_lines.specs.Modules.{AreRead, HasFault, spot_of}
use Rattle.vb_lines.specs.Nesting.{open_after}
use Rattle.vb_lines.specs.Parts.{Part, Outcome, gives, lines_fault, outcome_fault}

-- these code lines more, which have no fault
pub record AddsLines (new : List Line) (old b : ModuleBuild) : Type 0 where
  pub right : (lines : List Line) → IsBuilt lines old → lines_fault (open_after [] lines) new ≡ None
  pub built : (lines : List Line) → IsBuilt lines old → IsBuilt (lines ++ new) b

-- the first fault of these code lines
pub record FaultOfLines (new : List Line) (place : Place) (old : ModuleBuild) (f : Fault) : Type 0 where
  pub kind : (lines : List Line) → IsBuilt lines old → lines_fault (open_after [] lines) new ≡ Some f.kind
  pub at : f.place ≡ place

-- what is given, where the line stands, is code lines without a fault, and these are added
pub record AddsGiven (Given : Spot → Outcome → Type 0) (old b : ModuleBuild) : Type 0 where
  pub adds : (lines : List Line) → IsBuilt lines old →
      (new : List Line) × Given (spot_of (open_after [] lines)) (gives new) × (lines_fault (open_after [] lines) new ≡ None) × IsBuilt (lines ++ new) b

-- what is given, where the line stands, has this fault first
pub record FaultOfGiven (Given : Spot → Outcome → Type 0) (place : Place) (old : ModuleBuild) (f : Fault) : Type 0 where
  pub fault : (lines : List Line) → IsBuilt lines old →
      (o : Outcome) × Given (spot_of (open_after [] lines)) o × (outcome_fault (open_after [] lines) o ≡ Some f.kind)
  pub at : f.place ≡ place

-- the parts have no fault, and their code lines are added
pub record AddsParts (parts : List Part) (old b : ModuleBuild) : Type 0 where
  pub adds : (lines : List Line) → IsBuilt lines old → (new : List Line) × AreRead (open_after [] lines) parts new × IsBuilt (lines ++ new) b

-- the first fault of these parts
pub record FaultOfParts (parts : List Part) (old : ModuleBuild) (f : Fault) : Type 0 where
  pub fault : (lines : List Line) → IsBuilt lines old → HasFault (open_after [] lines) parts f

-- of these parts all but those that are left are added
pub record HasTaken (parts : List Part) (old b : ModuleBuild) (left : List Part) : Type 0 where
  pub front : List Part
  pub cut : parts ≡ front ++ left
  pub adds : AddsParts front old b
