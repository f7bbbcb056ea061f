-- The words that a declaration line may begin with. They have no suffix and no brackets, and their case says nothing.
use Rattle.std.specs.Prelude.{ℕ, List, [], ◌∷◌, Option, Some, None, Bool, true, false, codes, if◌then◌else◌, nat_eq, option_map, find}
use Rattle.std.specs.Cmp.Lexicographic.{pointwise}
use Rattle.up_base.specs.Names.{lower_case}
use Rattle.vb_tree.specs.declared.form_parts.DefWord.TheVariants as def
use Rattle.vb_tree.specs.declared.form_parts.Visibility.TheVariants as seen
use Rattle.vb_tree.specs.declared.token.Suffix.TheVariants.{Absent}
use Rattle.vb_tree.specs.declared.token.Token.{Token}
use Rattle.vb_tree.specs.declared.token.TokenKind.{TokenKind}
use Rattle.vb_tree.specs.declared.token.TokenKind.TheVariants as kind
use Rattle.form_parts.specs.Words.{is_key}
use Rattle.declaration_forms.specs.declared.words.Lead.{Lead}
use Rattle.declaration_forms.specs.declared.words.Lead.TheVariants as lead

-- the words in small letters
abbrev pub leads : List (List ℕ × Lead)
leads =
    (codes "attribute", lead.Attribute)
    ∷ (codes "option", lead.Option)
    ∷ (codes "defbool", lead.Def def.Boolean)
    ∷ (codes "defbyte", lead.Def def.Byte)
    ∷ (codes "defint", lead.Def def.Integer)
    ∷ (codes "deflng", lead.Def def.Long)
    ∷ (codes "defcur", lead.Def def.Currency)
    ∷ (codes "defstr", lead.Def def.Str)
    ∷ (codes "defobj", lead.Def def.Object)
    ∷ (codes "defvar", lead.Def def.Variant)
    ∷ (codes "defsng", lead.Def def.Single)
    ∷ (codes "defdbl", lead.Def def.Double)
    ∷ (codes "defdate", lead.Def def.Date)
    ∷ (codes "dim", lead.Dim)
    ∷ (codes "static", lead.Static)
    ∷ (codes "public", lead.Seen seen.Public)
    ∷ (codes "private", lead.Seen seen.Private)
    ∷ (codes "friend", lead.Seen seen.Friend)
    ∷ (codes "global", lead.Seen seen.Global)
    ∷ (codes "const", lead.Const)
    ∷ (codes "type", lead.Type)
    ∷ (codes "enum", lead.Enum)
    ∷ (codes "end", lead.End)
    ∷ (codes "sub", lead.Sub)
    ∷ (codes "function", lead.Function)
    ∷ (codes "property", lead.Property)
    ∷ (codes "declare", lead.Declare)
    ∷ (codes "event", lead.Event)
    ∷ (codes "implements", lead.Implements)
    ∷ []

-- what a word in small letters is to a line that begins with it
unfoldable pub lead_in : List ℕ → Option Lead
lead_in w = option_map (λ r. r.1) (find (λ r. pointwise nat_eq w r.0) leads)

abbrev pub lead_of_kind : TokenKind → Option Lead
lead_of_kind (kind.Word n Absent) = lead_in (lower_case n)
lead_of_kind _ = None

abbrev pub lead_of : Token → Option Lead
lead_of t = lead_of_kind t.kind

-- whether the tokens begin with the word, given in small letters
abbrev pub begins_with : List ℕ → List Token → Bool
begins_with w [] = false
begins_with w (t ∷ ts) = is_key w t

abbrev pub past_first : List Token → List Token
past_first [] = []
past_first (t ∷ ts) = ts

-- the tokens without the word, where they begin with it
abbrev pub past_word : List ℕ → List Token → List Token
past_word w tokens = if begins_with w tokens then past_first tokens else tokens

-- what stands before the last token, if that passes the test
abbrev pub before_last : (Token → Bool) → List Token → Option (List Token)
before_last p [] = None
before_last p (t ∷ []) = if p t then Some [] else None
before_last p (t ∷ u ∷ ts) = option_map (λ r. t ∷ r) (before_last p (u ∷ ts))
