-- The lines of options (MS-VBAL, Option Directives), and those that give first letters a type (MS-VBAL, Implicit Definition Directives).
use Rattle.std.specs.Prelude.{ℕ, ℤ, pos, List, [], ◌∷◌, Option, Some, None, Bool, true, false, codes, if◌then◌else◌, option_map, option_and_then}
use Rattle.std.specs.Char.{is_ascii_alphabetic}
use Rattle.std.specs.Ordering.{int_eq}
use Rattle.vb_tree.specs.declared.form_parts.Compare.TheVariants as compare
use Rattle.vb_tree.specs.declared.form_parts.LetterRange.{LetterRange}
use Rattle.vb_tree.specs.declared.token.Literal6.TheVariants as literal
use Rattle.vb_tree.specs.declared.token.Sign.TheVariants as sign
use Rattle.vb_tree.specs.declared.token.Suffix.TheVariants.{Absent}
use Rattle.vb_tree.specs.declared.token.Token.{Token}
use Rattle.vb_tree.specs.declared.token.TokenKind.{TokenKind}
use Rattle.vb_tree.specs.declared.token.TokenKind.TheVariants as kind
use Rattle.vb_tree.specs.Tree.{Form, option_explicit, option_base, option_compare, option_private_module}
use Rattle.form_parts.specs.Words.{is_key}

-- the value of a whole number: a decimal literal of type Integer or Long
abbrev pub whole_number : TokenKind → Option ℤ
whole_number (kind.Lit (literal.Int v false)) = Some v
whole_number (kind.Lit (literal.Long v false)) = Some v
whole_number _ = None

abbrev pub lower_bound : ℤ → Option Form
lower_bound v = if int_eq v (pos 0) then Some (option_base (pos 0)) else if int_eq v (pos 1) then Some (option_base (pos 1)) else None

abbrev pub base_line : Token → Option Form
base_line t = option_and_then lower_bound (whole_number t.kind)

abbrev pub compare_line : Token → Option Form
compare_line t = if is_key (codes "binary") t then Some (option_compare compare.Binary) else if is_key (codes "text") t then Some (option_compare compare.Text) else None

abbrev pub private_module_line : Token → Option Form
private_module_line t = if is_key (codes "module") t then Some option_private_module else None

abbrev pub option_of_two : Token → Token → Option Form
option_of_two a b =
    if is_key (codes "base") a then base_line b
    else if is_key (codes "compare") a then compare_line b
    else if is_key (codes "private") a then private_module_line b
    else None

-- the line of the word Option and what stands behind it
abbrev pub option_line : List Token → Option Form
option_line (a ∷ []) = if is_key (codes "explicit") a then Some option_explicit else None
option_line (a ∷ b ∷ []) = option_of_two a b
option_line _ = None

abbrev pub letter_in : List ℕ → Option ℕ
letter_in (c ∷ []) = if is_ascii_alphabetic c then Some c else None
letter_in _ = None

abbrev pub letter_of : TokenKind → Option ℕ
letter_of (kind.Word n Absent) = letter_in n
letter_of _ = None

abbrev pub is_minus : TokenKind → Bool
is_minus (kind.Sign sign.Minus) = true
is_minus _ = false

abbrev pub range_to : Option ℕ → Option ℕ → Option LetterRange
range_to (Some a) (Some b) = Some (record { from = a; to = b })
range_to _ _ = None

-- a letter, or two with a minus sign between them
abbrev pub letter_range : List Token → Option LetterRange
letter_range (a ∷ []) = range_to (letter_of a.kind) (letter_of a.kind)
letter_range (a ∷ m ∷ b ∷ []) = if is_minus m.kind then range_to (letter_of a.kind) (letter_of b.kind) else None
letter_range _ = None
