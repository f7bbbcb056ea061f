-- The lines of a body, line by line.
use Rattle.std.specs.Prelude.{ℕ, suc, List, ◌++◌, Option}
use Rattle.vb_tree.specs.Blocks.{is_code}
use Rattle.vb_tree.specs.Tree as source
use Rattle.bound_tree.specs.Labels.{Label}
use Rattle.net_tree.specs.Tree as net
use Rattle.written_trees.specs.Bodies.{lines_at, taken}
use Rattle.written_trees.specs.Comments.{Comment, texts, up_to}
use Rattle.written_trees.specs.DeclaredMembers.{line_comments}
use Rattle.written_trees.specs.Names.{Scope}
use Rattle.written_trees.specs.Prologues.{Code}

abbrev pub line_at : Scope → List (Option Label) → List Comment → (n k : ℕ) → source.Line → List Code → List net.Line
line_at S ls cs n k l code = line_comments (texts (up_to l.place.line cs)) ++ lines_at S ls n (suc k) l (is_code l.form) (taken (is_code l.form) code)
