-- The pairs of surrogates of a text, read from one unit to the next.
use Rattle.std.proofs.Common.{◌≡◌, ℕ, Bool, true, false, not, ◌&&◌, ◌||◌, cond, List, [], ◌∷◌, refl, ap, ◌∙◌}
use Rattle.std.specs.Char.Utf16.{is_high_surrogate, is_low_surrogate}
use Rattle.net_tree.specs.Comments.{is_well_formed}

-- whether units can stand behind those of which the last began a pair, or didn't
abbrev pub formed_behind : (begun : Bool) → List ℕ → Bool
formed_behind begun [] = not begun
formed_behind begun (u ∷ units) =
    cond begun (is_low_surrogate u) (is_high_surrogate u || not (is_low_surrogate u)) && formed_behind (not begun && is_high_surrogate u) units

last_unit : (high low : Bool) → not (high || low) ≡ ((high || not low) && not high)
last_unit true low = refl
last_unit false true = refl
last_unit false false = refl

one_more : (high low pair rest : Bool) → cond high pair (not low && rest) ≡ ((high || not low) && cond high pair rest)
one_more true low pair rest = refl
one_more false low pair rest = refl

by_begun : (high : Bool) (units : List ℕ) → cond high (formed_behind true units) (formed_behind false units) ≡ formed_behind high units
by_begun true units = refl
by_begun false units = refl

pub none_begun : (units : List ℕ) → is_well_formed units ≡ formed_behind false units
none_begun [] = refl
none_begun (u ∷ []) = last_unit (is_high_surrogate u) (is_low_surrogate u)
none_begun (u ∷ v ∷ units) =
    ap (λ rest. cond (is_high_surrogate u) (is_low_surrogate v && rest) (not (is_low_surrogate u) && is_well_formed (v ∷ units))) (none_begun units)
    ∙ ap (λ rest. cond (is_high_surrogate u) (formed_behind true (v ∷ units)) (not (is_low_surrogate u) && rest)) (none_begun (v ∷ units))
    ∙ one_more (is_high_surrogate u) (is_low_surrogate u) (formed_behind true (v ∷ units)) (formed_behind false (v ∷ units))
    ∙ ap (λ rest. (is_high_surrogate u || not (is_low_surrogate u)) && rest) (by_begun (is_high_surrogate u) (v ∷ units))
