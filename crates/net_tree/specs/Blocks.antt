-- Which lines open, part and close blocks, and which lines nest.
use Rattle.std.specs.Prelude.{ℕ, suc, ◌-◌, Bool, true, false, ◌&&◌, List, [], ◌∷◌}
use Rattle.net_tree.specs.declared.block.NetBlock.{NetBlock}
use Rattle.net_tree.specs.declared.block.NetBlock.TheVariants.{If, Select, For, Do, While, With}
use Rattle.net_tree.specs.declared.block.NetRole.{NetRole}
use Rattle.net_tree.specs.declared.block.NetRole.TheVariants.{Plain, Opens, Parts, Closes}
use Rattle.net_tree.specs.Tree.{Line, comment, if_head, else_if, else_line, end_if, select, case_line, case_else, end_select, for_head, next, do_head, do_while, do_until, loop, loop_while, loop_until, while_head, end_while, with_head, end_with}

-- what a line is to the blocks round it
abbrev pub role_of : Line → NetRole
role_of (if_head condition) = Opens If
role_of (else_if condition) = Parts If
role_of else_line = Parts If
role_of end_if = Closes If
role_of (select value) = Opens Select
role_of (case_line items) = Parts Select
role_of case_else = Parts Select
role_of end_select = Closes Select
role_of (for_head counter from to step) = Opens For
role_of next = Closes For
role_of do_head = Opens Do
role_of (do_while condition) = Opens Do
role_of (do_until condition) = Opens Do
role_of loop = Closes Do
role_of (loop_while condition) = Closes Do
role_of (loop_until condition) = Closes Do
role_of (while_head condition) = Opens While
role_of end_while = Closes While
role_of (with_head object) = Opens With
role_of end_with = Closes With
role_of _ = Plain

abbrev pub is_same_block : NetBlock → NetBlock → Bool
is_same_block If If = true
is_same_block Select Select = true
is_same_block For For = true
is_same_block Do Do = true
is_same_block While While = true
is_same_block With With = true
is_same_block _ _ = false

-- whether the innermost of the blocks round it is of this kind
abbrev pub is_innermost : NetBlock → List NetBlock → Bool
is_innermost kind [] = false
is_innermost kind (round ∷ outer) = is_same_block kind round

-- whether a line fits among the blocks round it, from the innermost: what parts or closes one is of its kind
abbrev pub fits_in : NetRole → List NetBlock → Bool
fits_in Plain round = true
fits_in (Opens kind) round = true
fits_in (Parts kind) round = is_innermost kind round
fits_in (Closes kind) round = is_innermost kind round

abbrev pub without_innermost : List NetBlock → List NetBlock
without_innermost [] = []
without_innermost (round ∷ outer) = outer

-- the blocks that are open behind a line
abbrev pub open_behind : NetRole → List NetBlock → List NetBlock
open_behind Plain round = round
open_behind (Opens kind) round = kind ∷ round
open_behind (Parts kind) round = round
open_behind (Closes kind) round = without_innermost round

-- whether lines fit among the blocks round them, and close all of them
abbrev pub nests_in : List NetBlock → List Line → Bool
nests_in [] [] = true
nests_in (round ∷ outer) [] = false
nests_in round (l ∷ lines) = fits_in (role_of l) round && nests_in (open_behind (role_of l) round) lines

-- whether each block is closed by a line of its kind, and is parted by lines of its kind alone
abbrev pub nests : List Line → Bool
nests lines = nests_in [] lines

-- in how many blocks a line stands, so many being open before it: what parts or closes a block stands outside of it
abbrev pub depth_at : NetRole → ℕ → ℕ
depth_at Plain round = round
depth_at (Opens kind) round = round
depth_at (Parts kind) round = round - 1
depth_at (Closes kind) round = round - 1

-- how many blocks are open behind a line
abbrev pub depth_behind : NetRole → ℕ → ℕ
depth_behind Plain round = round
depth_behind (Opens kind) round = suc round
depth_behind (Parts kind) round = round
depth_behind (Closes kind) round = round - 1

-- whether a line is a code line: one that isn't a comment
abbrev pub is_code : Line → Bool
is_code (comment units) = false
is_code _ = true
