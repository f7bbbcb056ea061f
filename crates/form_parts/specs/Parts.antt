-- Parts of forms.
use Rattle.std.specs.Prelude.{◌≡◌, ℕ, List, [], ◌∷◌, ◌++◌, true, false, codes, max, Bool, Option, Some, None, ℤ, if◌then◌else◌}
use Rattle.up_base.specs.Names.{is_name}
use Rattle.vb_tree.specs.declared.form_parts.Label6.{Label6}
use Rattle.vb_tree.specs.declared.form_parts.Label6.TheVariants as label
use Rattle.vb_tree.specs.declared.token.Literal6.{Literal6}
use Rattle.vb_tree.specs.declared.token.Literal6.TheVariants as lit
use Rattle.vb_tree.specs.declared.token.Sign.{Sign}
use Rattle.vb_tree.specs.declared.token.Sign.TheVariants.{Dot, Star}
use Rattle.vb_tree.specs.declared.token.Suffix.{Suffix}
use Rattle.vb_tree.specs.declared.token.Suffix.TheVariants.{Absent}
use Rattle.vb_tree.specs.declared.token.Token.{Token}
use Rattle.vb_tree.specs.declared.token.TokenKind.{TokenKind}
use Rattle.vb_tree.specs.declared.token.TokenKind.TheVariants as kind
use Rattle.vb_tree.specs.Tree.{Exp, Bounds, TypeName, named, fixed_string}
use Rattle.vb_tree.specs.Expressions.{Symbol, leaf, naming, Leaf, Naming, bare, in_brackets, symbol_of, IsExpression, IsStop, word_symbol, keyword_of, depth_of}
use Rattle.form_parts.specs.Words.{is_key, is_absent}

-- an expression stands before the word w, and the others behind it
pub record IsJoined (w : List ℕ) (tokens before after : List Token) : Type 0 where
  pub joint : Token
  pub key : is_key w joint ≡ true
  pub split : tokens ≡ before ++ joint ∷ after
  pub tree : Exp
  pub expression : IsExpression before tree

-- no expression goes on with the word
abbrev pub IsJoint : List ℕ → Type 0
IsJoint w = (n : List ℕ) → IsStop (word_symbol (keyword_of w) n Absent)

-- Names.

abbrev pub naming_name : Naming → List ℕ × Suffix
naming_name (bare n s) = (n, s)
naming_name (in_brackets n s) = (n, s)

abbrev pub leaf_name : Leaf → Option (List ℕ × Suffix)
leaf_name (naming n) = Some (naming_name n)
leaf_name _ = None

abbrev pub symbol_name : Symbol → Option (List ℕ × Suffix)
symbol_name (leaf l) = leaf_name l
symbol_name _ = None

-- the name that a token is, with its suffix
abbrev pub name_of_token : Token → Option (List ℕ × Suffix)
name_of_token t = symbol_name (symbol_of t.kind)

-- Labels: a name without a suffix, or a whole decimal number.

abbrev pub word_label : Bool → List ℕ → Option Label6
word_label true n = Some (label.Word n)
word_label false n = None

abbrev pub name_label : Option (List ℕ × Suffix) → Option Label6
name_label None = None
name_label (Some n) = word_label (is_absent n.1) n.0

abbrev pub number_label : Bool → ℤ → Option Label6
number_label false n = Some (label.Number n)
number_label true n = None

abbrev pub literal_label : Literal6 → Option Label6
literal_label (lit.Int n h) = number_label h n
literal_label (lit.Long n h) = number_label h n
literal_label _ = None

abbrev pub kind_label : TokenKind → Option Label6
kind_label (kind.Word n s) = name_label (symbol_name (symbol_of (kind.Word n s)))
kind_label (kind.Bracketed n s) = name_label (symbol_name (symbol_of (kind.Bracketed n s)))
kind_label (kind.Lit l) = literal_label l
kind_label (kind.Sign s) = None

-- Types: a name, a name with its library before it, or `String * e`.

-- the letters of a word, in brackets or not
abbrev pub word_of : TokenKind → Option (List ℕ)
word_of (kind.Word n s) = Some n
word_of (kind.Bracketed n s) = Some n
word_of (kind.Lit l) = None
word_of (kind.Sign s) = None

abbrev pub is_dot_sign : Sign → Bool
is_dot_sign Dot = true
is_dot_sign _ = false

abbrev pub is_dot : TokenKind → Bool
is_dot (kind.Word n s) = false
is_dot (kind.Bracketed n s) = false
is_dot (kind.Lit l) = false
is_dot (kind.Sign s) = is_dot_sign s

abbrev pub name_alone : Option (List ℕ × Suffix) → Option (List ℕ)
name_alone None = None
name_alone (Some n) = Some n.0

-- a name behind its library and a full stop, unless that is too long for a name
abbrev pub with_library : Option (List ℕ) → Option (List ℕ) → Option (List ℕ)
with_library (Some n) (Some w) = if is_name (n ++ 46 ∷ w) then Some (n ++ 46 ∷ w) else None
with_library (Some n) None = None
with_library None w = None

abbrev pub behind_dot : Bool → Option (List ℕ) → Option (List ℕ)
behind_dot true w = w
behind_dot false w = None

-- the type that the tokens are, as one name
abbrev pub named_type : List Token → Option (List ℕ)
named_type [] = None
named_type (a ∷ []) = name_alone (name_of_token a)
named_type (a ∷ d ∷ []) = None
named_type (a ∷ d ∷ b ∷ []) = with_library (name_alone (name_of_token a)) (behind_dot (is_dot d.kind) (word_of b.kind))
named_type (a ∷ d ∷ b ∷ e ∷ more) = None

-- the tokens are `String *` and the rest
pub record IsStringHead (tokens rest : List Token) : Type 0 where
  pub word : Token
  pub star : Token
  pub split : tokens ≡ word ∷ star ∷ rest
  pub key : is_key (codes "string") word ≡ true
  pub sign : star.kind ≡ kind.Sign Star

abbrev pub IsTypeName : List Token → TypeName → Type 0
IsTypeName tokens (named n) = named_type tokens ≡ Some n
IsTypeName tokens (fixed_string units) = (rest : List Token) × IsStringHead tokens rest × IsExpression rest units

abbrev pub type_depth : TypeName → ℕ
type_depth (named n) = 0
type_depth (fixed_string units) = depth_of units

-- Bounds: `[e To] e`.

abbrev pub IsBoundsFrom : List Token → Option Exp → Exp → Type 0
IsBoundsFrom tokens None upper = IsExpression tokens upper
IsBoundsFrom tokens (Some lower) upper = (before : List Token) × (after : List Token) × IsJoined (codes "to") tokens before after × IsExpression before lower × IsExpression after upper

abbrev pub IsBounds : List Token → Bounds → Type 0
IsBounds tokens b = IsBoundsFrom tokens b.lower b.upper

abbrev pub option_depth : Option Exp → ℕ
option_depth None = 0
option_depth (Some e) = depth_of e

abbrev pub bounds_depth : Bounds → ℕ
bounds_depth b = max (option_depth b.lower) (depth_of b.upper)
