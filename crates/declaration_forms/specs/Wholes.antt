-- Parts that may be missing, and lists of parts.
use Rattle.std.specs.Prelude.{◌≡◌, ℕ, List, [], ◌∷◌, Option, Some, None}
use Rattle.vb_tree.specs.declared.token.Token.{Token}
use Rattle.form_parts.specs.Cuts.{pieces, Each}
use Rattle.form_parts.specs.declared.cuts.Separator.TheVariants.{Comma}

-- a part that is there exactly where its tokens are
abbrev pub IsOptional : {X : Type 0} → (List Token → X → Type 0) → Option (List Token) → Option X → Type 0
IsOptional Is None None = Unit {0}
IsOptional Is None (Some x) = ⊥
IsOptional Is (Some tokens) None = ⊥
IsOptional Is (Some tokens) (Some x) = Is tokens x

-- a part that must be there
abbrev pub IsGiven : {X : Type 0} → (List Token → X → Type 0) → Option (List Token) → X → Type 0
IsGiven Is None x = ⊥
IsGiven Is (Some tokens) x = Is tokens x

-- items separated by commas, or none
abbrev pub AreItems : {X : Type 0} → (List Token → X → Type 0) → List Token → List X → Type 0
AreItems Is [] xs = xs ≡ []
AreItems Is (t ∷ ts) xs = Each Is (pieces Comma (t ∷ ts)) xs

abbrev pub optional_depth : {X : Type 0} → (X → ℕ) → Option X → ℕ
optional_depth depth None = 0
optional_depth depth (Some x) = depth x
