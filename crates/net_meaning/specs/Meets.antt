-- The code's answer is that of a definition, want of memory apart.
use Rattle.std.specs.Prelude.{◌≡◌, Result, Ok, Err}
use Rattle.vb6_meaning.specs.Answers.{Answer, gives, raises, outside}
use Rattle.net_meaning.specs.declared.fail.OpNFail.{OpNFail}
use Rattle.net_meaning.specs.declared.fail.OpNFail.TheVariants.{Raise, Outside, Mem}
use Rattle.net_meaning.specs.declared.value.ValueN.{ValueN}

abbrev pub IsAnswer : Result ValueN OpNFail → Answer ValueN → Type 0
IsAnswer (Ok v) a = a ≡ gives v
IsAnswer (Err (Raise n)) a = a ≡ raises n
IsAnswer (Err Outside) a = a ≡ outside
IsAnswer (Err Mem) a = Unit {0}
