-- One item of a Case: what is written for it, and the expressions behind those that it takes.
use Rattle.std.specs.Prelude.{List}
use Rattle.vb_tree.specs.Tree.{CaseItem}
use Rattle.vb_tree.specs.Tree as source
use Rattle.bound_tree.specs.Tree.{Expr}
use Rattle.net_tree.specs.Tree as net
use Rattle.written_trees.specs.Lines.{comparison, first_exp, rest_of}
use Rattle.written_trees.specs.Names.{Scope}

abbrev pub case_item : Scope → CaseItem → List Expr → net.CaseItem
case_item S (source.case_value e) es = net.case_value (first_exp S es)
case_item S (source.case_range e f) es = net.case_range (first_exp S es) (first_exp S (rest_of es))
case_item S (source.case_is o e) es = net.case_is (comparison o) (first_exp S es)

abbrev pub behind_item : CaseItem → List Expr → List Expr
behind_item (source.case_value e) es = rest_of es
behind_item (source.case_range e f) es = rest_of (rest_of es)
behind_item (source.case_is o e) es = rest_of es
