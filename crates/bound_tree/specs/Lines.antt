-- What lists of references to lines show.
use Rattle.std.specs.Prelude.{List, map, Vec}
use Rattle.std.specs.Borrow.{Bor}
use Rattle.std.proofs.Common.{Global}
use Rattle.vb_tree.specs.declared.module.Node6.{Node6}
use Rattle.vb_tree.specs.Tree.{Nodes}
use Rattle.vb_tree.specs.View.{nodes_of}
use Rattle.bound_tree.specs.declared.lines.LineRef.{LineRef}
use Rattle.bound_tree.specs.Tree.{Line}
use Rattle.bound_tree.specs.View.{shown_line}

abbrev pub lines_of : Vec LineRef Global → List Line
lines_of v = map shown_line v.items

abbrev pub bodies_shown : Bor (List Node6) → Nodes
bodies_shown b = nodes_of b.now
