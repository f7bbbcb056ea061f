-- What a table of statements has.
use Rattle.std.specs.Prelude.{◌≡◌, ℕ, map}
use Rattle.bound_tree.specs.Tree.{Declarations}
use Rattle.bound_tree.specs.View.{declarations_of}
use Rattle.written_trees.specs.Prologues.{constants_of, variables_of}
use Rattle.written_members.specs.declared.statements.Statements.{Statements}
use Rattle.written_members.specs.Noted.{noted}
use Rattle.written_members.specs.Shown.{constant_shown, variable_shown}

abbrev pub declared_in : Statements → Declarations
declared_in s = declarations_of s.declared.now

-- for each statement what it declares
pub record IsNoted (s : Statements) : Type 0 where
  pub vars : (file n : ℕ) → map variable_shown (noted s.vars file n) ≡ variables_of (declared_in s) file n
  pub consts : (file n : ℕ) → map constant_shown (noted s.consts file n) ≡ constants_of (declared_in s) file n
