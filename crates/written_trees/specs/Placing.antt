-- The members of a module with their numbers and their comments.
use Rattle.std.specs.Prelude.{ℕ, ◌+◌, Bool, true, false, List, [], ◌∷◌, length}
use Rattle.vb_tree.specs.FlatLines.{member_lines}
use Rattle.vb_tree.specs.Tree.{Form, Member, alone, group, proc}
use Rattle.vb_tree.specs.Tree as source
use Rattle.written_trees.specs.Comments.{Comment, up_to, past, before, from}
use Rattle.written_trees.specs.Prologues.{one_if}

-- ---- where a member stands

-- the numbers of its first statement in its module, and of the next procedure, user type and Enum in the project
pub record Numbers : Type 0 where
  pub statement : ℕ
  pub procedure : ℕ
  pub user_type : ℕ
  pub enum : ℕ

abbrev pub is_type_head : Form → Bool
is_type_head (source.type_head visibility name suffix) = true
is_type_head _ = false

abbrev pub is_enum_head : Form → Bool
is_enum_head (source.enum_head visibility name suffix) = true
is_enum_head _ = false

abbrev pub count_procedures : Member → ℕ
count_procedures (proc head body close) = 1
count_procedures _ = 0

abbrev pub counts_group : (Form → Bool) → Member → ℕ
counts_group test (group head lines close) = one_if (test head.form)
counts_group test _ = 0

abbrev pub behind_member : Numbers → Member → Numbers
behind_member at m = record {
  statement = at.statement + length (member_lines m);
  procedure = at.procedure + count_procedures m;
  user_type = at.user_type + counts_group is_type_head m;
  enum = at.enum + counts_group is_enum_head m;
}

-- A member with its comments: those before the line that it begins with, those of that line, and those inside.
pub record Placed : Type 0 where
  pub at : Numbers
  pub earlier : List Comment
  pub own : List Comment
  pub inside : List Comment
  pub member : Member

abbrev pub first_line : Member → ℕ
first_line (alone l) = l.place.line
first_line (group head lines close) = head.place.line
first_line (proc head body close) = head.place.line

abbrev pub last_line : Member → ℕ
last_line (alone l) = l.place.line
last_line (group head lines close) = close.place.line
last_line (proc head body close) = close.place.line

abbrev pub place_member : Numbers → List Comment → Member → Placed
place_member at cs m = record {
  at = at;
  earlier = before (first_line m) cs;
  own = up_to (first_line m) (from (first_line m) cs);
  inside = up_to (last_line m) (past (first_line m) cs);
  member = m;
}

-- the members of a module in order
abbrev pub placed_members : Numbers → List Comment → List Member → List Placed
placed_members at cs [] = []
placed_members at cs (m ∷ ms) = place_member at cs m ∷ placed_members (behind_member at m) (past (last_line m) cs) ms

-- the comments behind the last one
abbrev pub last_comments : List Comment → List Member → List Comment
last_comments cs [] = cs
last_comments cs (m ∷ ms) = last_comments (past (last_line m) cs) ms

abbrev pub behind_members : Numbers → List Member → Numbers
behind_members at [] = at
behind_members at (m ∷ ms) = behind_members (behind_member at m) ms
