-- Modules, step by step.
use Rattle.std.specs.Prelude.{List, ◌++◌, map, Vec}
use Rattle.std.specs.List.{flat_map}
use Rattle.std.proofs.Common.{Global}
use Rattle.bound_tree.specs.declared.lines.LineRef.{LineRef}
use Rattle.bound_tree.specs.Lines.{lines_of}
use Rattle.bound_tree.specs.Tree.{Declarations, Program}
use Rattle.net_tree.specs.Tree as net
use Rattle.written_trees.specs.Comments.{Comment, texts}
use Rattle.written_trees.specs.DeclaredMembers.{member_comments}
use Rattle.written_trees.specs.Members.{written_member}
use Rattle.written_trees.specs.Names.{Scope}
use Rattle.written_trees.specs.Placing.{Placed}

-- members that are placed, and the comments behind them
abbrev pub placed_written : Program → Scope → List Placed → (last : List Comment) → List net.Member
placed_written P S ps last = flat_map (written_member P S ps) ps ++ member_comments (texts last)

-- declarations with the code lines of their procedures
abbrev pub program_with : Declarations → List (Vec LineRef Global) → Program
program_with D bodies = record { declarations = D; bodies = map lines_of bodies }
