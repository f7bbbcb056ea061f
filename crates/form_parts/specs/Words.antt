-- Words and signs of forms.
use Rattle.std.specs.Prelude.{ℕ, List, Bool, true, false, ◌&&◌, nat_eq}
use Rattle.std.specs.Cmp.Lexicographic.{pointwise}
use Rattle.up_base.specs.Names.{lower_case}
use Rattle.vb_tree.specs.declared.token.Suffix.{Suffix}
use Rattle.vb_tree.specs.declared.token.Suffix.TheVariants.{Absent}
use Rattle.vb_tree.specs.declared.token.Token.{Token}
use Rattle.vb_tree.specs.declared.token.TokenKind.{TokenKind}
use Rattle.vb_tree.specs.declared.token.TokenKind.TheVariants as kind

-- no type-declaration character
abbrev pub is_absent : Suffix → Bool
is_absent Absent = true
is_absent _ = false

-- whether a token is the keyword w, given in small letters: a word without brackets and without suffix, in any case
abbrev pub is_key_kind : List ℕ → TokenKind → Bool
is_key_kind w (kind.Word n s) = is_absent s && pointwise nat_eq (lower_case n) w
is_key_kind w (kind.Bracketed n s) = false
is_key_kind w (kind.Lit l) = false
is_key_kind w (kind.Sign s) = false

abbrev pub is_key : List ℕ → Token → Bool
is_key w t = is_key_kind w t.kind
