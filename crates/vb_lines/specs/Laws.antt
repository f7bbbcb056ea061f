-- Lines are at most one module.
use Rattle.std.specs.Prelude.{◌≡◌, ℕ, List, Result, Ok, Err}
use Rattle.up_base.specs.declared.place.ReadFail.{ReadFail}
use Rattle.up_base.specs.declared.place.ReadFail.TheVariants as fail
use Rattle.vb_tree.specs.declared.module.Module6.{Module6}
use Rattle.vb_tree.specs.declared.project.Entry.{Entry}
use Rattle.vb_tree.specs.declared.token.Line.{Line}
use Rattle.vb_tree.specs.View.{module_of}
use Rattle.vb_lines.specs.Modules.{IsModuleAnswer}

-- two answers are one, but for want of memory
abbrev pub IsSameAnswer : Result Module6 ReadFail → Result Module6 ReadFail → Type 0
IsSameAnswer (Ok m) (Ok n) = module_of m ≡ module_of n
IsSameAnswer (Ok m) (Err (fail.Fault g)) = ⊥
IsSameAnswer (Ok m) (Err fail.Mem) = Unit {0}
IsSameAnswer (Err (fail.Fault f)) (Ok n) = ⊥
IsSameAnswer (Err (fail.Fault f)) (Err (fail.Fault g)) = f ≡ g
IsSameAnswer (Err (fail.Fault f)) (Err fail.Mem) = Unit {0}
IsSameAnswer (Err fail.Mem) (Ok n) = Unit {0}
IsSameAnswer (Err fail.Mem) (Err (fail.Fault g)) = Unit {0}
IsSameAnswer (Err fail.Mem) (Err fail.Mem) = Unit {0}

-- the lines of a module have one answer
abbrev pub OneModuleAnswer : Type 0
OneModuleAnswer =
    (entry : Entry) (file : ℕ) (lines : List Line) (a b : Result Module6 ReadFail)
    → IsModuleAnswer entry file lines a → IsModuleAnswer entry file lines b → IsSameAnswer a b
