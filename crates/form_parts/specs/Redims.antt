-- Arrays of a ReDim: `l(b) [As t]`.
use Rattle.std.specs.Prelude.{◌≡◌, ℕ, max, List, [], ◌∷◌, take, drop, Option, Some, None, true, codes}
use Rattle.vb_tree.specs.declared.token.Sign.TheVariants.{OpenParen}
use Rattle.vb_tree.specs.declared.token.Token.{Token}
use Rattle.vb_tree.specs.declared.token.TokenKind.TheVariants as kind
use Rattle.vb_tree.specs.Tree.{TypeName, ReDimItem}
use Rattle.vb_tree.specs.Expressions.{depth_of}
use Rattle.form_parts.specs.declared.cuts.Separator.TheVariants as sep
use Rattle.form_parts.specs.Words.{is_key}
use Rattle.form_parts.specs.Cuts.{parted, pieces, Each}
use Rattle.form_parts.specs.Chains.{IsCallee, IsCalleeLength}
use Rattle.form_parts.specs.Parts.{IsTypeName, type_depth, IsBounds, bounds_depth}
use Rattle.form_parts.specs.Items.{deepest}

-- The array, its bounds and what stands behind them. The array is the longest front without an argument list at its end.
pub record IsParted (tokens array bounds after : List Token) : Type 0 where
  pub len : ℕ
  pub longest : IsCalleeLength tokens len
  pub front : take len tokens ≡ array
  pub paren : Token
  pub inside : List Token
  pub behind : drop len tokens ≡ paren ∷ inside
  pub sign : paren.kind ≡ kind.Sign OpenParen
  pub closed : parted sep.Closing inside ≡ Some (bounds, after)

-- the type behind As, if any token stands there
abbrev pub IsOptionalType : List Token → Option TypeName → Type 0
IsOptionalType [] ty = ty ≡ None
IsOptionalType (t ∷ ts) None = ⊥
IsOptionalType (t ∷ ts) (Some ty) = (is_key (codes "as") t ≡ true) × IsTypeName ts ty

abbrev pub optional_type_depth : Option TypeName → ℕ
optional_type_depth None = 0
optional_type_depth (Some ty) = type_depth ty

abbrev pub IsReDimItem : List Token → ReDimItem → Type 0
IsReDimItem tokens r = (array : List Token) × (bounds : List Token) × (after : List Token) × IsParted tokens array bounds after
    × IsCallee array r.array × Each IsBounds (pieces sep.Comma bounds) r.bounds × IsOptionalType after r.ty

abbrev pub redim_depth : ReDimItem → ℕ
redim_depth r = max (max (depth_of r.array) (deepest bounds_depth r.bounds)) (optional_type_depth r.ty)
