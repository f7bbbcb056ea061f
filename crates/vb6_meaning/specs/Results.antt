-- How the code's answers stand for those of the definitions.
use Rattle.std.specs.Prelude.{◌≡◌, Result, Ok, Err}
use Rattle.vb6_meaning.specs.declared.fail.Op6Fail.{Op6Fail}
use Rattle.vb6_meaning.specs.declared.fail.Op6Fail.TheVariants.{Raise, Outside, Mem}
use Rattle.vb6_meaning.specs.Answers.{Answer, gives, raises, outside}

-- the code's answer is this one, or memory was wanted
abbrev pub IsAnswer : {A : Type 0} → Answer A → Result A Op6Fail → Type 0
IsAnswer answer (Ok x) = answer ≡ gives x
IsAnswer answer (Err (Raise number)) = answer ≡ raises number
IsAnswer answer (Err Outside) = answer ≡ outside
IsAnswer answer (Err Mem) = Unit {0}
