-- What declarations have in common: a name, and perhaps parentheses and a type behind it.
use Rattle.std.specs.Prelude.{◌≡◌, ℕ, ◌==◌, ◌&&◌, List, [], ◌∷◌, Option, Some, None, option_map, option_and_then, Bool, true, false, not, codes, if◌then◌else◌, nat_eq}
use Rattle.std.specs.List.{list_any}
use Rattle.std.specs.Cmp.Lexicographic.{pointwise}
use Rattle.up_base.specs.Names.{lower_case}
use Rattle.vb_tree.specs.declared.token.Sign.{Sign}
use Rattle.vb_tree.specs.declared.token.Sign.TheVariants as sign
use Rattle.vb_tree.specs.declared.token.Suffix.{Suffix}
use Rattle.vb_tree.specs.declared.token.Token.{Token}
use Rattle.vb_tree.specs.declared.token.TokenKind.{TokenKind}
use Rattle.vb_tree.specs.declared.token.TokenKind.TheVariants as kind
use Rattle.form_parts.specs.Cuts.{open_after, part_behind}
use Rattle.form_parts.specs.Parts.{name_of_token}
use Rattle.form_parts.specs.Words.{is_key_kind}
use Rattle.declaration_forms.specs.Words.{before_last}

-- the names of the types that the language has (MS-VBAL, Reserved Type Identifiers)
abbrev pub type_words : List (List ℕ)
type_words =
    codes "boolean" ∷ codes "byte" ∷ codes "currency" ∷ codes "date" ∷ codes "double" ∷ codes "integer" ∷ codes "long"
    ∷ codes "object" ∷ codes "single" ∷ codes "string" ∷ codes "variant" ∷ []

-- whether a word in small letters is one of them
unfoldable pub is_type_word : List ℕ → Bool
is_type_word w = list_any (λ t. pointwise nat_eq w t) type_words

abbrev pub can_be_declared : TokenKind → Bool
can_be_declared (kind.Word n s) = not (is_type_word (lower_case n))
can_be_declared _ = true

-- the name that a token declares, with its suffix
abbrev pub declared_name : Token → Option (List ℕ × Suffix)
declared_name t = if can_be_declared t.kind then name_of_token t else None

abbrev pub is_as : ℕ → TokenKind → Bool
is_as d k = d == 0 && is_key_kind (codes "as") k

abbrev pub typed_in : ℕ → List Token → Option (List Token × List Token)
typed_in d [] = None
typed_in d (t ∷ ts) = part_behind (is_as d t.kind) t ts (typed_in (open_after d t.kind) ts)

-- what stands before and behind the first As outside of parentheses
abbrev pub typed : List Token → Option (List Token × List Token)
typed tokens = typed_in 0 tokens

abbrev pub is_opening : TokenKind → Bool
is_opening (kind.Sign sign.OpenParen) = true
is_opening _ = false

abbrev pub is_closing : TokenKind → Bool
is_closing (kind.Sign sign.CloseParen) = true
is_closing _ = false

-- what stands before the closing parenthesis that the tokens end with
abbrev pub before_closing : List Token → Option (List Token)
before_closing tokens = before_last (λ t. is_closing t.kind) tokens

-- what stands between the parentheses that the tokens begin and end with; no tokens have none
abbrev pub in_parentheses : List Token → Option (Option (List Token))
in_parentheses [] = Some None
in_parentheses (t ∷ ts) = if is_opening t.kind then option_map (λ r. Some r) (before_closing ts) else None

-- a name with its suffix, what stands in parentheses behind it, and what stands behind As
pub record Outline : Type 0 where
  pub name : List ℕ
  pub suffix : Suffix
  pub inside : Option (List Token)
  pub ty : Option (List Token)

abbrev pub outlined : Option (List Token) → Option (List ℕ × Suffix) → Option (Option (List Token)) → Option Outline
outlined ty (Some n) (Some inside) = Some (record { name = n.0; suffix = n.1; inside = inside; ty = ty })
outlined ty _ _ = None

abbrev pub named_outline : Option (List Token) → List Token → Option Outline
named_outline ty [] = None
named_outline ty (t ∷ rest) = outlined ty (declared_name t) (in_parentheses rest)

abbrev pub cut_outline : List Token → Option (List Token × List Token) → Option Outline
cut_outline tokens None = named_outline None tokens
cut_outline tokens (Some cut) = named_outline (Some cut.1) cut.0

-- the outline of `n [( .. )] [As ..]`
abbrev pub outline_of : List Token → Option Outline
outline_of tokens = cut_outline tokens (typed tokens)

-- the name of a field: any word, with its suffix
abbrev pub field_name : TokenKind → Option (List ℕ × Suffix)
field_name (kind.Word n s) = Some (n, s)
field_name (kind.Bracketed n s) = Some (n, s)
field_name _ = None

abbrev pub field_cut : Option (List ℕ × Suffix) → Option (List Token × List Token) → Option Outline
field_cut n None = None
field_cut n (Some cut) = outlined (Some cut.1) n (in_parentheses cut.0)

-- the outline of a field, `n [( .. )] As ..`, where n may be As too
abbrev pub field_outline : List Token → Option Outline
field_outline [] = None
field_outline (t ∷ rest) = field_cut (field_name t.kind) (typed rest)
