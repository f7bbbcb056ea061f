-- Texts of units that are characters by themselves.
use Rattle.std.proofs.Common.{◌≡◌, ℕ, Bool, true, false, not, ◌&&◌, cond, List, [], ◌∷◌, refl, ap, ◌∙◌}
use Rattle.std.specs.Char.Utf16.{is_high_surrogate, is_low_surrogate}
use Rattle.up_base.proofs.Tests.{neither}
use Rattle.net_tree.specs.Comments.{is_surrogate, is_well_formed}

-- a unit that is no surrogate, in front of a text
pub formed_behind : (u : ℕ) (units : List ℕ) → is_surrogate u ≡ false → is_well_formed units ≡ true → is_well_formed (u ∷ units) ≡ true
formed_behind u [] e h = ap not e
formed_behind u (v ∷ units) e h =
    let parts = neither (is_high_surrogate u) (is_low_surrogate u) e in
    ap (λ b. cond b (is_low_surrogate v && is_well_formed units) (not (is_low_surrogate u) && is_well_formed (v ∷ units))) parts.0
    ∙ ap (λ b. not b && is_well_formed (v ∷ units)) parts.1 ∙ h
