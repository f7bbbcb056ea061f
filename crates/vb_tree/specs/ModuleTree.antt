-- Which trees are nested: each block has its opener and its closing line, and what parts it is of its kind.
use Rattle.std.specs.Prelude.{◌≡◌, true, false, List, All}
use Rattle.vb_tree.specs.declared.block.BlockKind.{BlockKind}
use Rattle.vb_tree.specs.declared.block.Role.TheVariants.{Plain, Opens, Parts, Closes}
use Rattle.vb_tree.specs.Tree.{Line, Node, line, block, Nodes, no_nodes, next_node, Middles, no_middles, next_middle, Member, alone, group, proc, Module}
use Rattle.vb_tree.specs.Blocks.{role_of, is_procedure, is_group}
use Rattle.vb_tree.specs.FlatLines.{module_lines}

abbrev pub IsPlain : Line → Type 0
IsPlain l = role_of l.form ≡ Plain

-- a block stands in a procedure: it is neither a procedure nor a group of declarations
abbrev pub IsInnerBlock : BlockKind → Type 0
IsInnerBlock k = (is_procedure k ≡ false) × (is_group k ≡ false)

abbrev mutual
  pub AreNested : Nodes → Type 0
  AreNested no_nodes = Unit {0}
  AreNested (next_node a rest) = IsNestedNode a × AreNested rest

  pub IsNestedNode : Node → Type 0
  IsNestedNode (line l) = IsPlain l
  IsNestedNode (block head body middles close) =
      (k : BlockKind) × (role_of head.form ≡ Opens k) × IsInnerBlock k
      × AreNested body × ArePartsOf k middles × (role_of close.form ≡ Closes k)

  pub ArePartsOf : BlockKind → Middles → Type 0
  ArePartsOf k no_middles = Unit {0}
  ArePartsOf k (next_middle l body more) = (role_of l.form ≡ Parts k) × AreNested body × ArePartsOf k more

abbrev pub IsNested : Member → Type 0
IsNested (alone l) = IsPlain l
IsNested (group head lines close) =
    (k : BlockKind) × (role_of head.form ≡ Opens k) × (is_group k ≡ true) × All IsPlain lines × (role_of close.form ≡ Closes k)
IsNested (proc head body close) =
    (k : BlockKind) × (role_of head.form ≡ Opens k) × (is_procedure k ≡ true) × AreNested body × (role_of close.form ≡ Closes k)

-- the module is a tree of these lines, read in order
pub record IsTreeOf (m : Module) (lines : List Line) : Type 0 where
  pub in_order : module_lines m ≡ lines
  pub nested : All IsNested m.members
