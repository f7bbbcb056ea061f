-- Whether each use of a variable in a bound expression has the variable's type.
use Rattle.std.specs.Prelude.{◌≡◌, true}
use Rattle.bound_tree.specs.Tree.{Declarations}
use Rattle.expression_words.specs.Flaws as flaws
use Rattle.expression_words.specs.Flaws.{Typed}
use Rattle.typing_laws.specs.Typed.{is_typed}

-- an expression without a type is kept as it is written, and has no use of a variable
abbrev pub HasTypes : Declarations → Typed → Type 0
HasTypes D (flaws.known e) = is_typed D e ≡ true
HasTypes D (flaws.unknown f) = Unit {0}
