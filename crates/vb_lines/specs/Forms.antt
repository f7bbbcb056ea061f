-- What one statement is, by its tokens and by where it stands: its code lines with their forms.
use Rattle.std.specs.Prelude.{◌≡◌, ℕ, ◌≤◌, ◌<◌, Bool, true, false, List, [], ◌∷◌, map, length, codes, is_some, Option, Some, None, Result, Ok, Err}
use Rattle.std.specs.Global.{Box}
use Rattle.vb_tree.specs.declared.form.Form6.{Form6}
use Rattle.vb_tree.specs.declared.token.Token.{Token}
use Rattle.vb_tree.specs.Expressions.{depth_of}
use Rattle.vb_tree.specs.Tree.{Exp, Form, line_if}
use Rattle.vb_tree.specs.View.{form_of}
use Rattle.declaration_forms.specs.declared.starts.Spot.{Spot}
use Rattle.declaration_forms.specs.declared.starts.Spot.TheVariants as spot
use Rattle.declaration_forms.specs.DeclarationForms.{IsDeclaration, form_depth}
use Rattle.declaration_forms.specs.Starts.{procedure_start}
use Rattle.statement_forms.specs.LineForms.{IsEnclosed, IsMeant}
use Rattle.statement_forms.specs.Pieces.{Slot, ItemMeans, FirstAt, list_of, list_slots}
use Rattle.vb_lines.specs.declared.forms.FormFail.{FormFail}
use Rattle.vb_lines.specs.declared.forms.FormFail.TheVariants as fail
use Rattle.vb_lines.specs.declared.forms.Piece.{Piece}

-- the form of one code line of a statement, and the tokens that its text covers
pub record PlainPiece : Type 0 where
  pub form : Form
  pub start : ℕ
  pub end : ℕ

-- a statement has a form, with its code lines; or none; or one but for an expression that is too deep
pub data FormAnswer : Type 0 where
  has_form : List PlainPiece → FormAnswer
  no_form : FormAnswer
  too_deep : FormAnswer

abbrev pub piece_of : Piece → PlainPiece
piece_of p = record { form = form_of p.form.value; start = p.start; end = p.end }

-- the only code line of a statement
abbrev pub whole : List Token → Form → List PlainPiece
whole tokens f = record { form = f; start = 0; end = length tokens } ∷ []

-- A declaration line has the form that it has where it stands, none, or one with an expression that is deeper than 64.
abbrev pub Declares : Spot → List Token → FormAnswer → Type 0
Declares spot tokens (has_form pieces) = (f : Form) × IsDeclaration spot tokens f × (form_depth f ≤ 64) × (pieces ≡ whole tokens f)
Declares spot tokens no_form = (f : Form) → IsDeclaration spot tokens f → ⊥
Declares spot tokens too_deep = (f : Form) × IsDeclaration spot tokens f × (64 < form_depth f)

-- what tokens may mean: a form, and how deep it is
abbrev pub Meaning : Type 1
Meaning = List Token → Form → ℕ → Type 0

-- a code line has a form that is no deeper than 64, and its own tokens
abbrev pub IsGiven : Meaning → Slot → PlainPiece → Type 0
IsGiven M s p = ((n : ℕ) × M s.0 p.form n × (n ≤ 64)) × (p.start ≡ s.1.0) × (p.end ≡ s.1.1)

abbrev pub AreGiven : Meaning → List Slot → List PlainPiece → Type 0
AreGiven M [] [] = Unit {0}
AreGiven M [] (p ∷ ps) = ⊥
AreGiven M (s ∷ ss) [] = ⊥
AreGiven M (s ∷ ss) (p ∷ ps) = IsGiven M s p × AreGiven M ss ps

abbrev pub HasNone : Meaning → List Token → Type 0
HasNone M ts = (f : Form) (n : ℕ) → M ts f n → ⊥

abbrev pub IsDeep : Meaning → List Token → Type 0
IsDeep M ts = (f : Form) × (n : ℕ) × M ts f n × (64 < n)

-- Each code line has a form; or the first of them that has none, or one that is too deep, decides.
abbrev pub SlotsMean : Meaning → List Slot → FormAnswer → Type 0
SlotsMean M slots (has_form pieces) = AreGiven M slots pieces
SlotsMean M slots no_form = (k : ℕ) × FirstAt M (HasNone M) k slots
SlotsMean M slots too_deep = (k : ℕ) × FirstAt M (IsDeep M) k slots

abbrev pub ListMeans : List Token → Option (Bool × List Token) → FormAnswer → Type 0
ListMeans tokens (Some l) a = SlotsMean (ItemMeans l.0) (list_slots l.1) a
ListMeans tokens None a = SlotsMean IsMeant ((tokens, (0, length tokens)) ∷ []) a

-- A statement of a procedure has one code line, but one for each item of a Next or an Erase with commas.
abbrev pub States : List Token → FormAnswer → Type 0
States tokens a = ListMeans tokens (list_of tokens) a

-- in a procedure: whether a line begins as a declaration, and what it is then
abbrev pub DeclaresOrStates : Bool → List Token → FormAnswer → Type 0
DeclaresOrStates true tokens a = Declares spot.Procedure tokens a
DeclaresOrStates false tokens a = States tokens a

abbrev pub MeansThere : Spot → List Token → FormAnswer → Type 0
MeansThere spot.Module tokens a = Declares spot.Module tokens a
MeansThere spot.Procedure tokens a = DeclaresOrStates (is_some (procedure_start tokens)) tokens a
MeansThere spot.TypeGroup tokens a = Declares spot.TypeGroup tokens a
MeansThere spot.EnumGroup tokens a = Declares spot.EnumGroup tokens a

-- what a statement of these tokens is
pub record FormsOf (spot : Spot) (tokens : List Token) (answer : FormAnswer) : Type 0 where
  pub is : MeansThere spot tokens answer

-- the head of an If on one line, with its form; or it is of no form; or of one but for an expression that is too deep
pub data HeadAnswer : Type 0 where
  has_head : Form → HeadAnswer
  no_head : HeadAnswer
  deep_head : HeadAnswer

-- `If e Then`, which stands in procedures alone
abbrev pub IsCondition : Spot → List Token → Exp → Type 0
IsCondition spot.Module tokens e = ⊥
IsCondition spot.Procedure tokens e = IsEnclosed (codes "if") tokens e
IsCondition spot.TypeGroup tokens e = ⊥
IsCondition spot.EnumGroup tokens e = ⊥

abbrev pub HeadMeans : Spot → List Token → HeadAnswer → Type 0
HeadMeans spot tokens (has_head f) = (e : Exp) × IsCondition spot tokens e × (depth_of e ≤ 64) × (f ≡ line_if e)
HeadMeans spot tokens no_head = (e : Exp) → IsCondition spot tokens e → ⊥
HeadMeans spot tokens deep_head = (e : Exp) × IsCondition spot tokens e × (64 < depth_of e)

-- what the head of an If on one line of these tokens is
pub record HeadOf (spot : Spot) (tokens : List Token) (answer : HeadAnswer) : Type 0 where
  pub is : HeadMeans spot tokens answer

-- what the code answers

abbrev pub ReadAs : (FormAnswer → Type 0) → Result (List Piece) FormFail → Type 0
ReadAs P (Ok pieces) = P (has_form (map piece_of pieces))
ReadAs P (Err fail.NoForm) = P no_form
ReadAs P (Err fail.TooDeep) = P too_deep
ReadAs P (Err fail.Mem) = Unit {0}

abbrev pub IsFormAnswer : Spot → List Token → Result (List Piece) FormFail → Type 0
IsFormAnswer spot tokens result = ReadAs (FormsOf spot tokens) result

abbrev pub IsHeadAnswer : Spot → List Token → Result (Box Form6) FormFail → Type 0
IsHeadAnswer spot tokens (Ok form) = HeadOf spot tokens (has_head (form_of form.value))
IsHeadAnswer spot tokens (Err fail.NoForm) = HeadOf spot tokens no_head
IsHeadAnswer spot tokens (Err fail.TooDeep) = HeadOf spot tokens deep_head
IsHeadAnswer spot tokens (Err fail.Mem) = Unit {0}
