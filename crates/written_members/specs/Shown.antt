-- Declarations with their numbers.
use Rattle.std.specs.Prelude.{ℕ}
use Rattle.bound_tree.specs.Tree.{Variable, Constant}
use Rattle.bound_tree.specs.View.{constant_of, variable_of}
use Rattle.written_members.specs.declared.statements.ConstRef.{ConstRef}
use Rattle.written_members.specs.declared.statements.VarRef.{VarRef}

abbrev pub variable_shown : VarRef → ℕ × Variable
variable_shown v = (v.number, variable_of v.decl.now)

abbrev pub constant_shown : ConstRef → ℕ × Constant
constant_shown c = (c.number, constant_of c.decl.now)
