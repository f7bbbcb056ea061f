-- The heads of procedures (MS-VBAL, Procedure Declarations).
use Rattle.std.specs.Prelude.{◌≡◌, ℕ, max, ◌&&◌, List, [], ◌∷◌, Option, Some, None, option_and_then, is_some, Bool, true, false, codes, if◌then◌else◌}
use Rattle.vb_tree.specs.declared.form_parts.Passing.{Passing}
use Rattle.vb_tree.specs.declared.form_parts.Passing.TheVariants as pass
use Rattle.vb_tree.specs.declared.form_parts.Visibility.{Visibility}
use Rattle.vb_tree.specs.declared.token.Sign.TheVariants as sign
use Rattle.vb_tree.specs.declared.token.Token.{Token}
use Rattle.vb_tree.specs.declared.token.TokenKind.{TokenKind}
use Rattle.vb_tree.specs.declared.token.TokenKind.TheVariants as kind
use Rattle.vb_tree.specs.Tree.{Param, Signature, ResultType}
use Rattle.vb_tree.specs.Expressions.{IsExpression, depth_of}
use Rattle.form_parts.specs.Cuts.{parted}
use Rattle.form_parts.specs.declared.cuts.Separator.TheVariants.{Equal}
use Rattle.form_parts.specs.Items.{deepest}
use Rattle.form_parts.specs.Parts.{IsTypeName, type_depth}
use Rattle.form_parts.specs.Words.{is_key}
use Rattle.declaration_forms.specs.declared.heads.Words.{Words}
use Rattle.declaration_forms.specs.Words.{begins_with, past_first, past_word, before_last}
use Rattle.declaration_forms.specs.Outlines.{Outline, outline_of, is_opening, before_closing}
use Rattle.declaration_forms.specs.Variables.{Outlines, before_equal, behind_equal}
use Rattle.declaration_forms.specs.Wholes.{IsOptional, AreItems, optional_depth}

abbrev pub passing : List Token → Passing
passing tokens = if begins_with (codes "byval") tokens then pass.Value else if begins_with (codes "byref") tokens then pass.Reference else pass.Unsaid

abbrev pub past_passing : List Token → List Token
past_passing tokens = if begins_with (codes "byval") tokens then past_first tokens else past_word (codes "byref") tokens

-- whether nothing but an empty pair of parentheses stands behind a name
abbrev pub is_empty_pair : Option (List Token) → Bool
is_empty_pair None = true
is_empty_pair (Some []) = true
is_empty_pair (Some (t ∷ ts)) = false

-- the words before the name of a parameter
abbrev pub words_of : List Token → Words
words_of tokens =
    let behind = past_word (codes "optional") tokens in
    record { optional = begins_with (codes "optional") tokens; passing = passing behind; param_array = begins_with (codes "paramarray") (past_passing behind) }

abbrev pub past_words : List Token → List Token
past_words tokens = past_word (codes "paramarray") (past_passing (past_word (codes "optional") tokens))

pub record ParamOf (words : Words) (default : Option (List Token)) (o : Outline) (p : Param) : Type 0 where
  pub optional : p.optional ≡ words.optional
  pub passing : p.passing ≡ words.passing
  pub param_array : p.param_array ≡ words.param_array
  pub name : p.name ≡ o.name
  pub suffix : p.suffix ≡ o.suffix
  pub empty : is_empty_pair o.inside ≡ true
  pub array : p.array ≡ is_some o.inside
  pub ty : IsOptional IsTypeName o.ty p.ty
  pub preset : IsOptional IsExpression default p.preset

abbrev pub IsParamCut : List Token → Option (List Token × List Token) → Param → Type 0
IsParamCut tokens cut p = Outlines (ParamOf (words_of (before_equal tokens cut)) (behind_equal cut)) (outline_of (past_words (before_equal tokens cut))) p

-- `[Optional] [ByVal or ByRef] [ParamArray] n [()] [As t] [= e]`; the first sign = outside of parentheses ends the type
abbrev pub IsParam : List Token → Param → Type 0
IsParam tokens p = IsParamCut tokens (parted Equal tokens) p

abbrev pub AreParams : Option (List Token) → List Param → Type 0
AreParams None ps = ps ≡ []
AreParams (Some inside) ps = AreItems IsParam inside ps

pub record SignatureOf (visibility : Option Visibility) (o : Outline) (s : Signature) : Type 0 where
  pub visibility_is : s.visibility ≡ visibility
  pub name : s.name ≡ o.name
  pub suffix : s.suffix ≡ o.suffix
  pub params : AreParams o.inside s.params

abbrev pub is_star : TokenKind → Bool
is_star (kind.Sign sign.Star) = true
is_star _ = false

-- whether the tokens begin as `String *`, behind which all is an expression
abbrev pub begins_fixed : List Token → Bool
begins_fixed (a ∷ b ∷ rest) = is_key (codes "string") a && is_star b.kind
begins_fixed _ = false

abbrev pub before_opening : List Token → Option (List Token)
before_opening tokens = before_last (λ t. is_opening t.kind) tokens

-- what stands before `()` at the end
abbrev pub before_pair : List Token → Option (List Token)
before_pair tokens = option_and_then before_opening (before_closing tokens)

abbrev pub result_cut : Bool → List Token → Option (List Token)
result_cut true tokens = None
result_cut false tokens = before_pair tokens

abbrev pub IsResultWith : List Token → Bool → ResultType → Type 0
IsResultWith tokens array r = (r.array ≡ array) × IsTypeName tokens r.ty

abbrev pub IsResultCut : List Token → Option (List Token) → ResultType → Type 0
IsResultCut tokens None r = IsResultWith tokens false r
IsResultCut tokens (Some front) r = IsResultWith front true r

-- `t [()]`; parentheses behind `String * e` belong to its expression
abbrev pub IsResult : List Token → ResultType → Type 0
IsResult tokens r = IsResultCut tokens (result_cut (begins_fixed tokens) tokens) r

abbrev pub param_depth : Param → ℕ
param_depth p = max (optional_depth type_depth p.ty) (optional_depth depth_of p.preset)

abbrev pub result_depth : ResultType → ℕ
result_depth r = type_depth r.ty

abbrev pub signature_depth : Signature → ℕ
signature_depth s = deepest param_depth s.params

abbrev pub head_depth : Signature → Option ResultType → ℕ
head_depth s r = max (signature_depth s) (optional_depth result_depth r)
