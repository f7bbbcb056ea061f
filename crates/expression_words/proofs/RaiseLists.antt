-- How many arguments Err.Raise takes.
use Rattle.std.proofs.Common.{◌≡◌, ◌≢◌, List, [], ◌∷◌, ◌++◌, length, map, refl, ap, arith}
use Rattle.bound_tree.specs.Tree.{Declarations}
use Rattle.expression_words.specs.ErrStatements.{raise_of, raise_one}
use Rattle.expression_words.specs.Flaws.{unknown, breaks}
use Rattle.expression_words.specs.Passing.{with_slack}
use Rattle.expression_words.specs.View.{supplied_of}
use Rattle.expression_words.specs.declared.supplied.Supplied.{Supplied}

pub not_one : (D : Declarations) (args : List Supplied) → length args ≢ 1 → raise_of D (map supplied_of args) ≡ unknown (with_slack (breaks 19) (map supplied_of args))
not_one D [] h = refl
not_one D (a ∷ []) h = absurd (h refl)
not_one D (a ∷ b ∷ rest) h = refl

-- the last of one is the only one
pub only_one : (D : Declarations) (args rest : List Supplied) (a : Supplied) → args ≡ rest ++ a ∷ [] → length args ≡ 1 → raise_of D (map supplied_of args) ≡ raise_one D (supplied_of a)
only_one D args [] a e h = ap (λ xs. raise_of D (map supplied_of xs)) e
only_one D args (b ∷ []) a e h = absurd (omega (arith, ap length e))
only_one D args (b ∷ c ∷ rest) a e h = absurd (omega (arith, ap length e))
