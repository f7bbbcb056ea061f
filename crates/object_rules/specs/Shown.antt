-- What references to declarations show.
use Rattle.std.specs.Borrow.{Bor}
use Rattle.bound_tree.specs.declared.declared.ProcDecl.{ProcDecl}
use Rattle.bound_tree.specs.declared.declared.VarDecl.{VarDecl}
use Rattle.bound_tree.specs.Tree.{Variable, Procedure}
use Rattle.bound_tree.specs.View.{variable_of, procedure_of}

abbrev pub shown_variable : Bor VarDecl → Variable
shown_variable b = variable_of b.now

abbrev pub shown_procedure : Bor ProcDecl → Procedure
shown_procedure b = procedure_of b.now
