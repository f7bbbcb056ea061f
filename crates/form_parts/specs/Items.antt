-- Lists of parts.
use Rattle.std.specs.Prelude.{◌≡◌, ℕ, max, List, [], ◌∷◌, ◌++◌, ◌⊎◌, Result, Ok, Err}
use Rattle.form_parts.specs.declared.answer.PartFail.{PartFail}
use Rattle.form_parts.specs.declared.answer.PartFail.TheVariants as fail
use Rattle.form_parts.specs.Answer.{worse}

-- the depth of the deepest item
abbrev pub deepest : {X : Type 0} → (X → ℕ) → List X → ℕ
deepest depth [] = 0
deepest depth (x ∷ xs) = max (depth x) (deepest depth xs)

-- items and one more
abbrev pub one_more : {A : Type 0} → Result (List A) PartFail → Result A PartFail → Result (List A) PartFail
one_more (Ok xs) (Ok x) = Ok (xs ++ x ∷ [])
one_more (Ok xs) (Err e) = Err e
one_more (Err e) (Ok x) = Err e
one_more (Err e) (Err f) = Err (worse e f)

-- it is this, unless memory was wanted
abbrev pub IsOrMem : {A : Type 0} → Result A PartFail → Result A PartFail → Type 0
IsOrMem wanted result = (result ≡ wanted) ⊎ (result ≡ Err fail.Mem)
