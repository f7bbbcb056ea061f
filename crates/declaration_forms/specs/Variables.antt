-- Declarations of variables, constants, fields of a Type and members of an Enum (MS-VBAL, Module Variable Declaration
-- Lists, Const Declarations, User Defined Type Declarations, Enum Declarations).
use Rattle.std.specs.Prelude.{◌≡◌, ℕ, max, List, [], ◌∷◌, Option, Some, None, option_map, Bool, false, codes}
use Rattle.vb_tree.specs.declared.token.Token.{Token}
use Rattle.vb_tree.specs.Tree.{Exp, Bounds, TypeName, Declarator, Constant, Form, field, enum_member}
use Rattle.vb_tree.specs.Expressions.{IsExpression, depth_of}
use Rattle.form_parts.specs.Cuts.{parted}
use Rattle.form_parts.specs.declared.cuts.Separator.TheVariants.{Equal}
use Rattle.form_parts.specs.Items.{deepest}
use Rattle.form_parts.specs.Parts.{IsTypeName, type_depth, IsBounds, bounds_depth}
use Rattle.declaration_forms.specs.Words.{begins_with, past_word}
use Rattle.declaration_forms.specs.Outlines.{Outline, outline_of, field_outline}
use Rattle.declaration_forms.specs.Wholes.{IsOptional, IsGiven, AreItems, optional_depth}

-- what an outline says, if there is one
abbrev pub Outlines : {X : Type 0} → (Outline → X → Type 0) → Option Outline → X → Type 0
Outlines Is None x = ⊥
Outlines Is (Some o) x = Is o x

-- whether New stands behind As
abbrev pub is_new : Option (List Token) → Bool
is_new None = false
is_new (Some tokens) = begins_with (codes "new") tokens

abbrev pub type_in : Option (List Token) → Option (List Token)
type_in ty = option_map (past_word (codes "new")) ty

pub record DeclaratorOf (o : Outline) (d : Declarator) : Type 0 where
  pub name : d.name ≡ o.name
  pub suffix : d.suffix ≡ o.suffix
  pub auto : d.auto ≡ is_new o.ty
  pub bounds : IsOptional (AreItems IsBounds) o.inside d.bounds
  pub ty : IsOptional IsTypeName (type_in o.ty) d.ty

-- `n [([b])] [As [New] t]`
abbrev pub IsDeclarator : List Token → Declarator → Type 0
IsDeclarator tokens d = Outlines DeclaratorOf (outline_of tokens) d

pub record ConstantOf (behind : List Token) (o : Outline) (c : Constant) : Type 0 where
  pub name : c.name ≡ o.name
  pub suffix : c.suffix ≡ o.suffix
  pub alone : o.inside ≡ None
  pub ty : IsOptional IsTypeName o.ty c.ty
  pub value : IsExpression behind c.value

abbrev pub IsEqualTo : Option (List Token × List Token) → Constant → Type 0
IsEqualTo None c = ⊥
IsEqualTo (Some cut) c = Outlines (ConstantOf cut.1) (outline_of cut.0) c

-- `n [As t] = e`; the first sign = outside of parentheses ends the type
abbrev pub IsConstant : List Token → Constant → Type 0
IsConstant tokens c = IsEqualTo (parted Equal tokens) c

-- a field of a Type: `n [([b])] As t`, where n is any word
pub record FieldOf (o : Outline) (f : Form) : Type 0 where
  pub bounds : Option (List Bounds)
  pub ty : TypeName
  pub dimensions : IsOptional (AreItems IsBounds) o.inside bounds
  pub typed : IsGiven IsTypeName o.ty ty
  pub form : f ≡ field o.name o.suffix bounds ty

abbrev pub IsField : List Token → Form → Type 0
IsField tokens f = Outlines FieldOf (field_outline tokens) f

-- a member of an Enum: `n [= e]`
pub record MemberOf (behind : Option (List Token)) (o : Outline) (f : Form) : Type 0 where
  pub alone : o.inside ≡ None
  pub untyped : o.ty ≡ None
  pub given : Option Exp
  pub value : IsOptional IsExpression behind given
  pub form : f ≡ enum_member o.name o.suffix given

-- what stands before and behind the first sign = outside of parentheses, where there is one
abbrev pub before_equal : List Token → Option (List Token × List Token) → List Token
before_equal tokens None = tokens
before_equal tokens (Some cut) = cut.0

abbrev pub behind_equal : Option (List Token × List Token) → Option (List Token)
behind_equal None = None
behind_equal (Some cut) = Some cut.1

abbrev pub IsMemberCut : List Token → Option (List Token × List Token) → Form → Type 0
IsMemberCut tokens cut f = Outlines (MemberOf (behind_equal cut)) (outline_of (before_equal tokens cut)) f

abbrev pub IsMember : List Token → Form → Type 0
IsMember tokens f = IsMemberCut tokens (parted Equal tokens) f

abbrev pub dimensions_depth : Option (List Bounds) → ℕ
dimensions_depth bounds = optional_depth (deepest bounds_depth) bounds

abbrev pub declarator_depth : Declarator → ℕ
declarator_depth d = max (dimensions_depth d.bounds) (optional_depth type_depth d.ty)

abbrev pub constant_depth : Constant → ℕ
constant_depth c = max (optional_depth type_depth c.ty) (depth_of c.value)
