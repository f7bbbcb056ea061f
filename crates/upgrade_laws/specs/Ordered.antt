-- Modules whose lines stand in their files, and whose procedures have heads.
use Rattle.std.specs.Prelude.{◌≡◌, ℕ, true, is_some, List}
use Rattle.std.specs.List.{AllByRecursion as Each}
use Rattle.vb_tree.specs.FlatLines.{member_lines}
use Rattle.vb_tree.specs.Tree.{Line, Member, alone, group, proc, Module}
use Rattle.declared_names.specs.Declaring.{head_of}
use Rattle.upgrade_laws.specs.Separate.{HaveDifferentFiles}

abbrev pub StandsIn : (file : ℕ) → Line → Type 0
StandsIn file l = l.place.file ≡ file

abbrev pub HasHead : Member → Type 0
HasHead (alone l) = Unit {0}
HasHead (group head lines close) = Unit {0}
HasHead (proc head body close) = is_some (head_of head.form) ≡ true

-- a member of the module of a file
pub record IsOrderly (file : ℕ) (m : Member) : Type 0 where
  pub lines : Each (StandsIn file) (member_lines m)
  pub headed : HasHead m

pub record AreOrderly (ms : List Module) : Type 0 where
  pub files : HaveDifferentFiles ms
  pub members : Each (λ (m : Module). Each (IsOrderly m.file) m.members) ms
