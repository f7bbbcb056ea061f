-- The first sign outside of parentheses, token by token.
use Rattle.std.proofs.Common.{◌≡◌, ℕ, List, [], ◌∷◌, ◌++◌, refl, sym, ap, ◌∙◌, append-nil, append_assoc, Option, Some, None, option_map, true, false}
use Rattle.vb_tree.specs.declared.token.Token.{Token}
use Rattle.form_parts.specs.declared.cuts.Separator.{Separator}
use Rattle.form_parts.specs.Cuts.{open_after, parts_here, part_behind, parted_in}

abbrev pub Parted : Type 0
Parted = Option (List Token × List Token)

-- what was passed before a cut stands in front of it
abbrev pub behind : List Token → Parted → Parted
behind before r = option_map (λ p. (before ++ p.0, p.1)) r

longer : (before : List Token) (t : Token) (r : Parted) → behind before (option_map (λ p. (t ∷ p.0, p.1)) r) ≡ behind (before ++ t ∷ []) r
longer before t None = refl
longer before t (Some p) = ap (λ x. Some (x, p.1)) (sym (append_assoc before (t ∷ []) p.0))

pub parted_step : (s : Separator) (d : ℕ) (before : List Token) (t : Token) (ts : List Token) (whole : Parted) → whole ≡ behind before (parted_in s d (t ∷ ts)) → parts_here s d t.kind ≡ false → whole ≡ behind (before ++ t ∷ []) (parted_in s (open_after d t.kind) ts)
parted_step s d before t ts whole h here = h ∙ ap (λ b. behind before (part_behind b t ts (parted_in s (open_after d t.kind) ts))) here ∙ longer before t (parted_in s (open_after d t.kind) ts)

pub parted_stop : (s : Separator) (d : ℕ) (before : List Token) (t : Token) (ts : List Token) (whole : Parted) → whole ≡ behind before (parted_in s d (t ∷ ts)) → parts_here s d t.kind ≡ true → whole ≡ Some (before, ts)
parted_stop s d before t ts whole h here = h ∙ ap (λ b. behind before (part_behind b t ts (parted_in s (open_after d t.kind) ts))) here ∙ ap (λ x. Some (x, ts)) (append-nil before)
