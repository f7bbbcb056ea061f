-- A module while its lines are read: which lines it holds, which blocks are open in it, and how these are nested.
use Rattle.std.specs.Prelude.{◌≡◌, true, List, [], ◌∷◌, ◌++◌, map, reverse, All, Option, Some, None, Result, Ok, Err}
use Rattle.std.specs.List.{flat_map}
use Rattle.up_base.specs.declared.place.Fault.{Fault}
use Rattle.up_base.specs.declared.place.ReadFail.{ReadFail}
use Rattle.up_base.specs.declared.place.ReadFail.TheVariants as fail
use Rattle.vb_tree.specs.declared.block.Role.TheVariants.{Opens}
use Rattle.vb_tree.specs.declared.module.Member6.{Member6}
use Rattle.vb_tree.specs.Tree.{Line, Node, Middles, no_middles, next_middle}
use Rattle.vb_tree.specs.View.{line_of, nodes_of, member_of}
use Rattle.vb_tree.specs.Blocks.{role_of, is_procedure, is_group}
use Rattle.vb_tree.specs.FlatLines.{flat_lines, node_lines, middle_lines, member_lines}
use Rattle.vb_tree.specs.ModuleTree.{IsPlain, IsInnerBlock, AreNested, IsNestedNode, ArePartsOf, IsNested}
use Rattle.vb_lines.specs.declared.frame.Branch.{Branch}
use Rattle.vb_lines.specs.declared.frame.Frame.{Frame}
use Rattle.vb_lines.specs.declared.building.OpenGroup.{OpenGroup}
use Rattle.vb_lines.specs.declared.building.ModuleBuild.{ModuleBuild}
use Rattle.vb_lines.specs.Nesting.{Open, open_after}

abbrev pub branches_of : List Branch → Middles
branches_of [] = no_middles
branches_of (b ∷ branches) = next_middle (line_of b.line) (nodes_of b.body.items) (branches_of branches)

-- the lines of a block that is open
abbrev pub frame_lines : Frame → List Line
frame_lines f = line_of f.head ∷ flat_lines (nodes_of f.body.items) ++ middle_lines (branches_of f.branches.items)

-- what stands in it is nested
pub record IsNestedFrame (f : Frame) : Type 0 where
  pub head : role_of (line_of f.head).form ≡ Opens f.kind
  pub body : AreNested (nodes_of f.body.items)
  pub branches : ArePartsOf f.kind (branches_of f.branches.items)

-- a node more leads from one open block to another
pub record AddsNode (a : Node) (old new : Frame) : Type 0 where
  pub kind : new.kind ≡ old.kind
  pub head : new.head ≡ old.head
  pub whole : old.branches.items ≡ [] → new.branches.items ≡ []
  pub lines : frame_lines new ≡ frame_lines old ++ node_lines a
  pub nested : IsNestedNode a → IsNestedFrame old → IsNestedFrame new

-- blocks that are open inside of a procedure
abbrev pub AreInside : List Frame → Type 0
AreInside [] = Unit {0}
AreInside (f ∷ frames) = IsInnerBlock f.kind × IsNestedFrame f × AreInside frames

-- a procedure, and the blocks that are open in it, the innermost one last
abbrev pub AreFrames : List Frame → Type 0
AreFrames [] = Unit {0}
AreFrames (f ∷ frames) = (is_procedure f.kind ≡ true) × (f.branches.items ≡ []) × IsNestedFrame f × AreInside frames

abbrev pub frame_open : Frame → Open
frame_open f = record { kind = f.kind; head = line_of f.head }

abbrev pub opens_in : Option OpenGroup → List Frame → List Open
opens_in None frames = reverse (map frame_open frames)
opens_in (Some g) frames = record { kind = g.kind; head = line_of g.head } ∷ []

-- a Type or Enum that is open
pub record IsOpenGroup (g : OpenGroup) : Type 0 where
  pub head : role_of (line_of g.head).form ≡ Opens g.kind
  pub group : is_group g.kind ≡ true
  pub plain : All IsPlain (map line_of g.lines)

-- no procedure is open in a Type or Enum
abbrev pub IsOpenIn : Option OpenGroup → List Frame → Type 0
IsOpenIn None frames = AreFrames frames
IsOpenIn (Some g) frames = IsOpenGroup g × (frames ≡ [])

abbrev pub open_lines : Option OpenGroup → List Frame → List Line
open_lines None frames = flat_map frame_lines frames
open_lines (Some g) frames = line_of g.head ∷ map line_of g.lines

abbrev pub opens_of : ModuleBuild → List Open
opens_of b = opens_in b.group b.frames.items

abbrev pub lines_in : List Member6 → Option OpenGroup → List Frame → List Line
lines_in members group frames = flat_map member_lines (map member_of members) ++ open_lines group frames

-- members, and what is open, hold these lines
pub record AreBuilt (lines : List Line) (members : List Member6) (group : Option OpenGroup) (frames : List Frame) : Type 0 where
  pub in_order : lines_in members group frames ≡ lines
  pub opened : opens_in group frames ≡ open_after [] lines
  pub whole : All IsNested (map member_of members)
  pub nested : IsOpenIn group frames

-- the module holds these lines
abbrev pub IsBuilt : List Line → ModuleBuild → Type 0
IsBuilt lines b = AreBuilt lines b.members b.group b.frames.items

-- a line more leads from one module to another
abbrev pub AddsLine : Line → ModuleBuild → ModuleBuild → Type 0
AddsLine l old new = (lines : List Line) → IsBuilt lines old → IsBuilt (lines ++ l ∷ []) new

-- what is said of the fault at which lines are refused
abbrev pub OnFault : {T : Type 0} → Result T ReadFail → (Fault → Type 0) → Type 0
OnFault (Ok x) P = Unit {0}
OnFault (Err (fail.Fault f)) P = P f
OnFault (Err fail.Mem) P = Unit {0}
