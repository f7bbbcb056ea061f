-- Which form a declaration line has.
use Rattle.std.specs.Prelude.{◌≡◌, ℕ, ◌<◌, ◌≤◌, max, List, [], ◌∷◌, Option, Some, None, is_none, Bool, true, codes}
use Rattle.vb_tree.specs.declared.block.BlockKind.{BlockKind}
use Rattle.vb_tree.specs.declared.block.BlockKind.TheVariants as block
use Rattle.vb_tree.specs.declared.declared.ProcKind.{ProcKind}
use Rattle.vb_tree.specs.declared.declared.ProcKind.TheVariants as proc
use Rattle.vb_tree.specs.declared.form_parts.LetterRange.{LetterRange}
use Rattle.vb_tree.specs.declared.form_parts.Visibility.{Visibility}
use Rattle.vb_tree.specs.declared.token.Token.{Token}
use Rattle.vb_tree.specs.Expressions.{depth_of}
use Rattle.vb_tree.specs.Tree.{Bounds, Constant, Declarator, Form, Param, ResultType, Signature, attribute, def_type, variables, constants, type_head, field, end_type, enum_head, enum_member, end_enum, sub_head, function_head, get_head, let_head, set_head, static_head, end_sub, end_function, end_property, event_variables, opaque}
use Rattle.form_parts.specs.Cuts.{pieces, Each}
use Rattle.form_parts.specs.Items.{deepest}
use Rattle.form_parts.specs.Parts.{type_depth}
use Rattle.form_parts.specs.declared.cuts.Separator.TheVariants.{Comma}
use Rattle.declaration_forms.specs.declared.starts.Spot.{Spot}
use Rattle.declaration_forms.specs.declared.starts.Start.{Start}
use Rattle.declaration_forms.specs.declared.starts.Start.TheVariants as start
use Rattle.declaration_forms.specs.Options.{option_line, letter_range}
use Rattle.declaration_forms.specs.Outlines.{Outline, outline_of}
use Rattle.declaration_forms.specs.Starts.{Begun, start_of}
use Rattle.declaration_forms.specs.Variables.{IsDeclarator, IsConstant, IsField, IsMember, Outlines, dimensions_depth, declarator_depth, constant_depth}
use Rattle.declaration_forms.specs.Wholes.{IsOptional, optional_depth}
use Rattle.declaration_forms.specs.Heads.{SignatureOf, IsResult, head_depth}
use Rattle.declaration_forms.specs.Words.{past_word}

-- a name alone, with its suffix
pub record IsAlone (o : Outline) : Type 0 where
  pub inside : o.inside ≡ None
  pub ty : o.ty ≡ None

-- a letter or a range of letters
abbrev pub IsRange : List Token → LetterRange → Type 0
IsRange tokens r = letter_range tokens ≡ Some r

-- a letter holds no expression
abbrev pub flat : LetterRange → ℕ
flat r = 0

pub record DefLine (rest : List Token) (make : List LetterRange → Form) (f : Form) : Type 0 where
  pub ranges : List LetterRange
  pub each : Each IsRange (pieces Comma rest) ranges
  pub form : f ≡ make ranges

pub record VariablesLine (Is : List Token → Declarator → Type 0) (rest : List Token) (make : List Declarator → Form) (f : Form) : Type 0 where
  pub declarators : List Declarator
  pub each : Each Is (pieces Comma rest) declarators
  pub form : f ≡ make declarators

-- only a Function and a Property Get have a result
abbrev pub may_result : ProcKind → Option (List Token) → Bool
may_result proc.Sub ty = is_none ty
may_result proc.Function ty = true
may_result proc.Get ty = true
may_result proc.Let ty = is_none ty
may_result proc.Set ty = is_none ty

pub record HeadOf (k : ProcKind) (v : Option Visibility) (o : Outline) (h : Signature × Option ResultType) : Type 0 where
  pub signed : SignatureOf v o h.0
  pub may : may_result k o.ty ≡ true
  pub gives : IsOptional IsResult o.ty h.1

abbrev pub head_form : ProcKind → Signature → Option ResultType → Form
head_form proc.Sub s r = sub_head s
head_form proc.Function s r = function_head s r
head_form proc.Get s r = get_head s r
head_form proc.Let s r = let_head s
head_form proc.Set s r = set_head s

pub record HeadLine (k : ProcKind) (v : Option Visibility) (make : Signature → Option ResultType → Form) (o : Outline) (f : Form) : Type 0 where
  pub signature : Signature
  pub result : Option ResultType
  pub head : HeadOf k v o (signature, result)
  pub form : f ≡ make signature result

abbrev pub end_form : BlockKind → Option Form
end_form block.Sub = Some end_sub
end_form block.Function = Some end_function
end_form block.Property = Some end_property
end_form block.Type = Some end_type
end_form block.Enum = Some end_enum
end_form _ = None

pub record NameLine (make : Outline → Form) (o : Outline) (f : Form) : Type 0 where
  pub alone : IsAlone o
  pub form : f ≡ make o

pub record ConstantsLine (v : Option Visibility) (rest : List Token) (f : Form) : Type 0 where
  pub items : List Constant
  pub each : Each IsConstant (pieces Comma rest) items
  pub form : f ≡ constants v items

-- WithEvents may stand before any declaration of the line
abbrev pub IsEventDeclarator : List Token → Declarator → Type 0
IsEventDeclarator tokens d = IsDeclarator (past_word (codes "withevents") tokens) d

-- The form of a line that begins so: its tokens, and those behind its first words.
abbrev pub Fits : Start → List Token → List Token → Form → Type 0
Fits start.Attribute line rest f = f ≡ attribute rest
Fits start.Option line rest f = option_line rest ≡ Some f
Fits (start.Def w) line rest f = DefLine rest (def_type w) f
Fits (start.Variables w) line rest f = VariablesLine IsDeclarator rest (variables w) f
Fits (start.Events w) line rest f = VariablesLine IsEventDeclarator rest (event_variables w) f
Fits (start.Constants v) line rest f = ConstantsLine v rest f
Fits (start.Type v) line rest f = Outlines (NameLine (λ o. type_head v o.name o.suffix)) (outline_of rest) f
Fits (start.Enum v) line rest f = Outlines (NameLine (λ o. enum_head v o.name o.suffix)) (outline_of rest) f
Fits (start.Head k v) line rest f = Outlines (HeadLine k v (head_form k)) (outline_of rest) f
Fits (start.StaticHead k v) line rest f = Outlines (HeadLine k v (static_head k)) (outline_of rest) f
Fits (start.End k) line rest f = end_form k ≡ Some f
Fits start.Opaque line rest f = f ≡ opaque line
Fits start.Field line rest f = IsField rest f
Fits start.Member line rest f = IsMember rest f

abbrev pub FitsStart : Begun → List Token → Form → Type 0
FitsStart None line f = ⊥
FitsStart (Some s) line f = Fits s.0 line s.1 f

-- the form of a line that stands there
abbrev pub IsDeclaration : Spot → List Token → Form → Type 0
IsDeclaration spot line f = FitsStart (start_of spot line) line f

-- the depth of the deepest expression in a form
abbrev pub form_depth : Form → ℕ
form_depth (variables w ds) = deepest declarator_depth ds
form_depth (event_variables w ds) = deepest declarator_depth ds
form_depth (constants v items) = deepest constant_depth items
form_depth (field n s bounds ty) = max (dimensions_depth bounds) (type_depth ty)
form_depth (enum_member n s value) = optional_depth depth_of value
form_depth (sub_head s) = head_depth s None
form_depth (function_head s r) = head_depth s r
form_depth (get_head s r) = head_depth s r
form_depth (let_head s) = head_depth s None
form_depth (set_head s) = head_depth s None
form_depth (static_head k s r) = head_depth s r
form_depth _ = 0

abbrev pub pair_depth : Signature × Option ResultType → ℕ
pair_depth h = head_depth h.0 h.1
