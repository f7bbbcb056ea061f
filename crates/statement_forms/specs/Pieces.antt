-- Code lines of a statement: one, but one for each item of a Next or an Erase with commas.
use Rattle.std.specs.Prelude.{◌≡◌, ℕ, ◌+◌, ◌≤◌, ◌<◌, zero, suc, List, [], ◌∷◌, length, Option, Some, None, option_map, Bool, true, false, Result, Ok, Err, codes}
use Rattle.vb_tree.specs.declared.token.Token.{Token}
use Rattle.vb_tree.specs.Tree.{Form}
use Rattle.vb_tree.specs.Tree as tree
use Rattle.vb_tree.specs.View.{form_of}
use Rattle.vb_tree.specs.Expressions.{depth_of}
use Rattle.form_parts.specs.declared.cuts.Separator.TheVariants as sep
use Rattle.form_parts.specs.Chains.{IsCallee}
use Rattle.form_parts.specs.Cuts.{parted, pieces}
use Rattle.form_parts.specs.Parts.{name_of_token}
use Rattle.statement_forms.specs.declared.pieces.FormFail.{FormFail}
use Rattle.statement_forms.specs.declared.pieces.FormFail.TheVariants as fail
use Rattle.statement_forms.specs.declared.pieces.Piece.{Piece}
use Rattle.statement_forms.specs.Fronts.{behind_key}
use Rattle.statement_forms.specs.LineForms.{Made, Found, IsMeant}

-- the name of a Next that has several
abbrev pub named_item : List Token → Option Form
named_item [] = None
named_item (t ∷ []) = option_map (λ n. tree.next (Some n)) (name_of_token t)
named_item (t ∷ u ∷ ts) = None

-- what an item means behind Erase, or behind Next
abbrev pub ItemMeans : Bool → List Token → Form → ℕ → Type 0
ItemMeans true ts f n = Made (IsCallee ts) tree.erase depth_of f n
ItemMeans false ts f n = Found (named_item ts) f n

-- the tokens of a code line, with the place of its own text
abbrev pub Slot : Type 0
Slot = List Token × (ℕ × ℕ)

-- Items with one token between them, where the next one begins at a place. The own text of the first may begin earlier.
abbrev pub slots_at : ℕ → ℕ → List (List Token) → List Slot
slots_at from start [] = []
slots_at from start (p ∷ ps) = (p, (from, start + length p)) ∷ slots_at (start + length p + 1) (start + length p + 1) ps

-- the items of a Next or an Erase; the first text has the word too
abbrev pub list_slots : List Token → List Slot
list_slots rest = slots_at 0 1 (pieces sep.Comma rest)

abbrev pub IsPiece : (List Token → Form → ℕ → Type 0) → Slot → Piece → Type 0
IsPiece M s x = ((n : ℕ) × M s.0 (form_of x.form) n × (n ≤ 64)) × (x.from ≡ s.1.0) × (x.to ≡ s.1.1)

abbrev pub ArePieces : (List Token → Form → ℕ → Type 0) → List Slot → List Piece → Type 0
ArePieces M [] [] = Unit {0}
ArePieces M [] (x ∷ xs) = ⊥
ArePieces M (s ∷ ss) [] = ⊥
ArePieces M (s ∷ ss) (x ∷ xs) = IsPiece M s x × ArePieces M ss xs

-- a fact about the slot of a number, where each one before it has a form that is no deeper than 64
abbrev pub FirstAt : (List Token → Form → ℕ → Type 0) → (List Token → Type 0) → ℕ → List Slot → Type 0
FirstAt M P k [] = ⊥
FirstAt M P zero (s ∷ ss) = P s.0
FirstAt M P (suc k) (s ∷ ss) = ((f : Form) × (n : ℕ) × M s.0 f n × (n ≤ 64)) × FirstAt M P k ss

abbrev pub AnswersSlots : (List Token → Form → ℕ → Type 0) → List Slot → Result (List Piece) FormFail → Type 0
AnswersSlots M slots (Ok xs) = ArePieces M slots xs
AnswersSlots M slots (Err (fail.NoForm k)) = FirstAt M (λ ts. (f : Form) (n : ℕ) → M ts f n → ⊥) k slots
AnswersSlots M slots (Err (fail.TooDeep k)) = FirstAt M (λ ts. (f : Form) × (n : ℕ) × M ts f n × (64 < n)) k slots
AnswersSlots M slots (Err fail.Mem) = Unit {0}

-- what is answered of one slot, whose number is k
abbrev pub PieceAnswers : (List Token → Form → ℕ → Type 0) → Slot → ℕ → Result Piece FormFail → Type 0
PieceAnswers M s k (Ok x) = IsPiece M s x
PieceAnswers M s k (Err (fail.NoForm j)) = (j ≡ k) × ((f : Form) (n : ℕ) → M s.0 f n → ⊥)
PieceAnswers M s k (Err (fail.TooDeep j)) = (j ≡ k) × ((f : Form) × (n : ℕ) × M s.0 f n × (64 < n))
PieceAnswers M s k (Err fail.Mem) = Unit {0}

abbrev pub if_parted : Bool → List Token → Option (List Token × List Token) → Option (Bool × List Token)
if_parted erases rest None = None
if_parted erases rest (Some p) = Some (erases, rest)

abbrev pub list_behind : Bool → Option (List Token) → Option (Bool × List Token)
list_behind erases None = None
list_behind erases (Some rest) = if_parted erases rest (parted sep.Comma rest)

abbrev pub either_list : Option (Bool × List Token) → Option (Bool × List Token) → Option (Bool × List Token)
either_list None other = other
either_list (Some l) other = Some l

-- the tokens behind Next or Erase, where a comma stands in them outside of parentheses
abbrev pub list_of : List Token → Option (Bool × List Token)
list_of ts = either_list (list_behind false (behind_key (codes "next") ts)) (list_behind true (behind_key (codes "erase") ts))

abbrev pub AnswersList : List Token → Option (Bool × List Token) → Result (List Piece) FormFail → Type 0
AnswersList ts (Some l) r = AnswersSlots (ItemMeans l.0) (list_slots l.1) r
AnswersList ts None r = AnswersSlots IsMeant ((ts, (0, length ts)) ∷ []) r

-- the code lines of a statement, or the first that has no form or is too deep
abbrev pub AnswersStatement : List Token → Result (List Piece) FormFail → Type 0
AnswersStatement ts r = AnswersList ts (list_of ts) r
