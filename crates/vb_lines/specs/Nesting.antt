-- Which blocks are open behind lines, and what is wrong with a line behind them.
use Rattle.std.specs.Prelude.{◌==◌, ℕ, nat_lt, Bool, ◌||◌, if◌then◌else◌, List, [], ◌∷◌, length, Option, Some, None}
use Rattle.vb_tree.specs.declared.block.BlockKind.{BlockKind}
use Rattle.vb_tree.specs.declared.block.BlockKind.TheVariants as kind
use Rattle.vb_tree.specs.declared.block.Role.{Role}
use Rattle.vb_tree.specs.declared.block.Role.TheVariants.{Plain, Opens, Parts, Closes}
use Rattle.vb_tree.specs.Tree.{Line}
use Rattle.vb_tree.specs.Blocks.{role_of, is_procedure, is_group}

-- a block that is open, with the line that opened it
pub record Open : Type 0 where
  pub kind : BlockKind
  pub head : Line

abbrev pub outside : List Open → List Open
outside [] = []
outside (o ∷ opens) = opens

-- The blocks that are open behind one more line of this role. Of such blocks the innermost one comes first.
abbrev pub open_behind : Role → Line → List Open → List Open
open_behind Plain l opens = opens
open_behind (Opens k) l opens = record { kind = k; head = l } ∷ opens
open_behind (Parts k) l opens = opens
open_behind (Closes k) l opens = outside opens

-- the blocks that are open behind lines, where some were open before
abbrev pub open_after : List Open → List Line → List Open
open_after opens [] = opens
open_after opens (l ∷ lines) = open_after (open_behind (role_of l.form) l opens) lines

abbrev pub innermost : List Open → Option BlockKind
innermost [] = None
innermost (o ∷ opens) = Some o.kind

-- a procedure, a Type or an Enum
abbrev pub is_outermost : BlockKind → Bool
is_outermost k = is_procedure k || is_group k

abbrev pub kind_number : BlockKind → ℕ
kind_number kind.Type = 0
kind_number kind.Enum = 1
kind_number kind.Sub = 2
kind_number kind.Function = 3
kind_number kind.Property = 4
kind_number kind.If = 5
kind_number kind.Select = 6
kind_number kind.For = 7
kind_number kind.Do = 8
kind_number kind.While = 9
kind_number kind.With = 10

abbrev pub is_same_kind : BlockKind → BlockKind → Bool
is_same_kind a b = kind_number a == kind_number b

-- The fault of a line: 10 where it doesn't stand there, 11 where it closes or parts another block than the innermost one,
-- 14 where it opens a block inside of 64.

abbrev pub fault_at_module : Role → Option ℕ
fault_at_module Plain = None
fault_at_module (Opens k) = if is_outermost k then None else Some 10
fault_at_module (Parts k) = Some 10
fault_at_module (Closes k) = if is_outermost k then Some 11 else Some 10

abbrev pub fault_in_group : BlockKind → Role → Option ℕ
fault_in_group group Plain = None
fault_in_group group (Opens k) = Some 10
fault_in_group group (Parts k) = Some 10
fault_in_group group (Closes k) = if is_same_kind k group then None else Some 11

-- in a procedure, with the number of blocks that are open, the procedure itself among them
abbrev pub fault_in_procedure : BlockKind → ℕ → Role → Option ℕ
fault_in_procedure inner depth Plain = None
fault_in_procedure inner depth (Opens k) = if is_outermost k then Some 10 else if nat_lt 64 depth then Some 14 else None
fault_in_procedure inner depth (Parts k) = if is_same_kind k inner then None else Some 11
fault_in_procedure inner depth (Closes k) = if is_same_kind k inner then None else Some 11

abbrev pub fault_inside : Option BlockKind → ℕ → Role → Option ℕ
fault_inside None depth r = fault_at_module r
fault_inside (Some k) depth r = if is_group k then fault_in_group k r else fault_in_procedure k depth r

abbrev pub fault_of : List Open → Role → Option ℕ
fault_of opens r = fault_inside (innermost opens) (length opens) r
