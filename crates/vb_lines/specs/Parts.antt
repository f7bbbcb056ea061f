-- What the parts of logical lines give: code lines with their forms and texts, or a fault.
use Rattle.std.specs.Prelude.{◌≡◌, ◌==◌, ℕ, ◌-◌, pos, if◌then◌else◌, List, [], ◌∷◌, ◌++◌, take, drop, map, codes, Option, Some, None}
use Rattle.std.specs.List.{flat_map}
use Rattle.up_base.specs.declared.place.Place.{Place}
use Rattle.vb_tree.specs.declared.block.BlockKind.TheVariants as block
use Rattle.vb_tree.specs.declared.block.Role.{Role}
use Rattle.vb_tree.specs.declared.block.Role.TheVariants.{Plain, Parts, Closes}
use Rattle.vb_tree.specs.declared.form_parts.Label6.{Label6}
use Rattle.vb_tree.specs.declared.form_parts.Label6.TheVariants as at
use Rattle.vb_tree.specs.declared.token.Line.{Line}
use Rattle.vb_tree.specs.declared.token.Literal6.TheVariants as literal
use Rattle.vb_tree.specs.declared.token.Token.{Token}
use Rattle.vb_tree.specs.declared.token.TokenKind.{TokenKind}
use Rattle.vb_tree.specs.declared.token.TokenKind.TheVariants as kind
use Rattle.vb_tree.specs.LogicalLines.{is_word}
use Rattle.vb_tree.specs.Tree.{Form, else_line, end_if, goto, label}
use Rattle.vb_tree.specs.Tree as tree
use Rattle.vb_tree.specs.Blocks.{role_of}
use Rattle.declaration_forms.specs.declared.starts.Spot.{Spot}
use Rattle.declaration_forms.specs.declared.starts.Spot.TheVariants as spot
use Rattle.vb_lines.specs.Forms.{PlainPiece, FormAnswer, has_form, no_form, too_deep, FormsOf, HeadAnswer, has_head, no_head, deep_head, HeadOf}
use Rattle.vb_lines.specs.Nesting.{Open, open_behind, fault_of}
use Rattle.vb_lines.specs.Statements.{Cut, label_cut, statement_cut, head_cut, jump_cut, else_cut, stray_cut, end_cut, line_cuts}

-- a part of a logical line, with the place and the text of that line
pub record Part : Type 0 where
  pub place : Place
  pub text : List ℕ
  pub cut : Cut

abbrev pub parts_at : Place → (text : List ℕ) → List Cut → List Part
parts_at place text cuts = map (λ c. record { place = place; text = text; cut = c }) cuts

abbrev pub parts_of : Line → List Part
parts_of l = parts_at l.place l.text (line_cuts l.tokens)

abbrev pub all_parts : List Line → List Part
all_parts lines = flat_map parts_of lines

-- ---- texts

-- where the last of some tokens ends, behind one that ends there
abbrev pub last_end : (end : ℕ) → List Token → ℕ
last_end end [] = end
last_end end (t ∷ ts) = last_end t.to ts

-- the text of tokens: from the first unit of the first to the last unit of the last
abbrev pub text_of : (text : List ℕ) → List Token → List ℕ
text_of text [] = []
text_of text (t ∷ ts) = take (last_end t.to ts - t.«from») (drop t.«from» text)

-- the text of a code line of a statement: its own tokens, behind the first word where they begin later
abbrev pub piece_text : (text : List ℕ) → List Token → (start end : ℕ) → List ℕ
piece_text text tokens start end =
    if start == 0 then text_of text (take end tokens)
    else text_of text (take 1 tokens) ++ 32 ∷ text_of text (take (end - start) (drop start tokens))

-- ---- what a part gives

pub data Outcome : Type 0 where
  -- code lines
  gives : List tree.Line → Outcome
  -- a line that is of no form
  formless : Outcome
  -- a line of this role with an expression that is too deep
  deep : Role → Outcome

-- the role of a statement with an expression, by its first word, where it parts or closes a block
abbrev pub role_by_word : TokenKind → Role
role_by_word t =
    if is_word (codes "elseif") t then Parts block.If
    else if is_word (codes "case") t then Parts block.Select
    else if is_word (codes "loop") t then Closes block.Do
    else Plain

abbrev pub first_role : List Token → Role
first_role [] = Plain
first_role (t ∷ ts) = role_by_word t.kind

-- what a statement that is too deep is to the blocks round it; in a Type or an Enum each first word is a name
abbrev pub role_at : Spot → List Token → Role
role_at spot.Procedure tokens = first_role tokens
role_at _ tokens = Plain

abbrev pub piece_line : Place → (text : List ℕ) → List Token → PlainPiece → tree.Line
piece_line place text tokens p = record { place = place; text = piece_text text tokens p.start p.end; form = p.form }

abbrev pub statement_outcome : Spot → Place → (text : List ℕ) → List Token → FormAnswer → Outcome
statement_outcome spot place text tokens (has_form pieces) = gives (map (piece_line place text tokens) pieces)
statement_outcome spot place text tokens no_form = formless
statement_outcome spot place text tokens too_deep = deep (role_at spot tokens)

abbrev pub head_outcome : Place → (text : List ℕ) → List Token → HeadAnswer → Outcome
head_outcome place text tokens (has_head form) = gives (record { place = place; text = text_of text tokens; form = form } ∷ [])
head_outcome place text tokens no_head = formless
head_outcome place text tokens deep_head = deep Plain

-- the label that a token is
abbrev pub label_of : TokenKind → Label6
label_of (kind.Word name suffix) = at.Word name
label_of (kind.Bracketed name suffix) = at.Word name
label_of (kind.Lit (literal.Int n radix)) = at.Number n
label_of (kind.Lit (literal.Long n radix)) = at.Number n
label_of _ = at.Number (pos 0)

-- one code line of one token
abbrev pub token_line : Place → (text : List ℕ) → Token → Form → Outcome
token_line place text t form = gives (record { place = place; text = text_of text (t ∷ []); form = form } ∷ [])

abbrev pub StatementGives : Spot → Place → (text : List ℕ) → List Token → Outcome → Type 0
StatementGives spot place text tokens o = (a : FormAnswer) × FormsOf spot tokens a × (o ≡ statement_outcome spot place text tokens a)

-- a label stands in procedures alone; elsewhere its token is a statement
abbrev pub LabelGives : Spot → Place → (text : List ℕ) → Token → Outcome → Type 0
LabelGives spot.Procedure place text t o = o ≡ token_line place text t (label (label_of t.kind))
LabelGives spot.Module place text t o = StatementGives spot.Module place text (t ∷ []) o
LabelGives spot.TypeGroup place text t o = StatementGives spot.TypeGroup place text (t ∷ []) o
LabelGives spot.EnumGroup place text t o = StatementGives spot.EnumGroup place text (t ∷ []) o

abbrev pub HeadGives : Spot → Place → (text : List ℕ) → List Token → Outcome → Type 0
HeadGives spot place text tokens o = (a : HeadAnswer) × HeadOf spot tokens a × (o ≡ head_outcome place text tokens a)

abbrev pub CutGives : Spot → Place → (text : List ℕ) → Cut → Outcome → Type 0
CutGives spot place text (label_cut t) o = LabelGives spot place text t o
CutGives spot place text (statement_cut tokens) o = StatementGives spot place text tokens o
CutGives spot place text (head_cut tokens) o = HeadGives spot place text tokens o
CutGives spot place text (jump_cut t) o = o ≡ token_line place text t (goto (label_of t.kind))
CutGives spot place text (else_cut t) o = o ≡ token_line place text t else_line
CutGives spot place text (stray_cut t) o = o ≡ formless
CutGives spot place text end_cut o = o ≡ gives (record { place = place; text = codes "End If"; form = end_if } ∷ [])

abbrev pub PartGives : Spot → Part → Outcome → Type 0
PartGives spot p o = CutGives spot p.place p.text p.cut o

-- ---- faults

abbrev pub first_of : Option ℕ → Option ℕ → Option ℕ
first_of None later = later
first_of (Some k) later = Some k

-- the first fault of nesting of code lines, where these blocks are open before
abbrev pub lines_fault : List Open → List tree.Line → Option ℕ
lines_fault opens [] = None
lines_fault opens (l ∷ lines) = first_of (fault_of opens (role_of l.form)) (lines_fault (open_behind (role_of l.form) l opens) lines)

-- 10 where a part is of no form, and 14 where it is too deep, unless it closes or parts another block
abbrev pub outcome_fault : List Open → Outcome → Option ℕ
outcome_fault opens (gives lines) = lines_fault opens lines
outcome_fault opens formless = Some 10
outcome_fault opens (deep r) = first_of (fault_of opens r) (Some 14)
