-- The numbers of parts rise, and so do those of the code lines that they give.
use Rattle.std.proofs.Common.{◌≡◌, ℕ, List, [], ◌∷◌, ◌++◌, map, codes, refl, sym, subst}
use Rattle.up_base.specs.declared.place.Place.{Place}
use Rattle.vb_tree.specs.declared.token.Line.{Line}
use Rattle.vb_tree.specs.declared.token.Token.{Token}
use Rattle.vb_tree.specs.Tree.{Form, else_line, end_if, goto, label}
use Rattle.vb_tree.specs.Tree as tree
use Rattle.declaration_forms.specs.declared.starts.Spot.{Spot}
use Rattle.declaration_forms.specs.declared.starts.Spot.TheVariants as spot
use Rattle.vb_lines.specs.Forms.{PlainPiece, FormAnswer, has_form, no_form, too_deep, HeadAnswer, has_head, no_head, deep_head}
use Rattle.vb_lines.specs.Modules.{AreRead, spot_of}
use Rattle.vb_lines.specs.Nesting.{Open, open_after}
use Rattle.vb_lines.specs.Parts.{Part, parts_at, parts_of, all_parts, Outcome, gives, formless, deep, piece_line, statement_outcome, head_outcome, label_of, token_line, StatementGives, LabelGives, HeadGives, CutGives}
use Rattle.vb_lines.specs.Statements.{Cut, label_cut, statement_cut, head_cut, jump_cut, else_cut, stray_cut, end_cut, line_cuts}
use Rattle.line_order.specs.Order.{AreRising}
use Rattle.line_order.proofs.Readings.{numbers}
use Rattle.line_order.proofs.Rising.{from_lower, again}

-- ---- parts

-- the numbers of the lines that parts are of
abbrev pub part_numbers : List Part → List ℕ
part_numbers parts = map (λ (p : Part). p.place.line) parts

line_parts_rise : (place : Place) (text : List ℕ) (cuts : List Cut) (more : List Part) → AreRising place.line (part_numbers more) → AreRising place.line (part_numbers (parts_at place text cuts ++ more))
line_parts_rise place text [] more h = h
line_parts_rise place text (c ∷ cuts) more h = again place.line (part_numbers (parts_at place text cuts ++ more)) (line_parts_rise place text cuts more h)

pub parts_rise : (low : ℕ) (lines : List Line) → AreRising low (numbers lines) → AreRising low (part_numbers (all_parts lines))
parts_rise low [] h = tt
parts_rise low (l ∷ lines) h =
    from_lower low l.place.line (part_numbers (parts_of l ++ all_parts lines)) h.0
    (line_parts_rise l.place l.text (line_cuts l.tokens) (all_parts lines) (parts_rise l.place.line lines h.1))

-- ---- what parts give

-- code lines with this number
abbrev StandAt : ℕ → List tree.Line → Type 0
StandAt n [] = Unit {0}
StandAt n (l ∷ lines) = (l.place.line ≡ n) × StandAt n lines

abbrev OutcomeAt : ℕ → Outcome → Type 0
OutcomeAt n (gives lines) = StandAt n lines
OutcomeAt n formless = Unit {0}
OutcomeAt n (deep r) = Unit {0}

pieces_at : (place : Place) (text : List ℕ) (tokens : List Token) (pieces : List PlainPiece) → StandAt place.line (map (piece_line place text tokens) pieces)
pieces_at place text tokens [] = tt
pieces_at place text tokens (p ∷ ps) = (refl, pieces_at place text tokens ps)

same_at : (n : ℕ) (o p : Outcome) → o ≡ p → OutcomeAt n p → OutcomeAt n o
same_at n o p e h = subst (λ (q : Outcome). OutcomeAt n q) (sym e) h

statement_at : (at : Spot) (place : Place) (text : List ℕ) (tokens : List Token) (o : Outcome) → StatementGives at place text tokens o → OutcomeAt place.line o
statement_at at place text tokens o s = same_at place.line o (statement_outcome at place text tokens s.0) s.2 (of_answer s.0)
  where
    of_answer : (a : FormAnswer) → OutcomeAt place.line (statement_outcome at place text tokens a)
    of_answer (has_form pieces) = pieces_at place text tokens pieces
    of_answer no_form = tt
    of_answer too_deep = tt

token_at : (place : Place) (text : List ℕ) (t : Token) (f : Form) (o : Outcome) → o ≡ token_line place text t f → OutcomeAt place.line o
token_at place text t f o e = same_at place.line o (token_line place text t f) e (refl, tt)

label_at : (at : Spot) (place : Place) (text : List ℕ) (t : Token) (o : Outcome) → LabelGives at place text t o → OutcomeAt place.line o
label_at spot.Procedure place text t o s = token_at place text t (label (label_of t.kind)) o s
label_at spot.Module place text t o s = statement_at spot.Module place text (t ∷ []) o s
label_at spot.TypeGroup place text t o s = statement_at spot.TypeGroup place text (t ∷ []) o s
label_at spot.EnumGroup place text t o s = statement_at spot.EnumGroup place text (t ∷ []) o s

head_at : (at : Spot) (place : Place) (text : List ℕ) (tokens : List Token) (o : Outcome) → HeadGives at place text tokens o → OutcomeAt place.line o
head_at at place text tokens o s = same_at place.line o (head_outcome place text tokens s.0) s.2 (of_answer s.0)
  where
    of_answer : (a : HeadAnswer) → OutcomeAt place.line (head_outcome place text tokens a)
    of_answer (has_head f) = (refl, tt)
    of_answer no_head = tt
    of_answer deep_head = tt

-- the code lines of a part have its number
cut_at : (at : Spot) (place : Place) (text : List ℕ) (c : Cut) (o : Outcome) → CutGives at place text c o → OutcomeAt place.line o
cut_at at place text (label_cut t) o s = label_at at place text t o s
cut_at at place text (statement_cut tokens) o s = statement_at at place text tokens o s
cut_at at place text (head_cut tokens) o s = head_at at place text tokens o s
cut_at at place text (jump_cut t) o s = token_at place text t (goto (label_of t.kind)) o s
cut_at at place text (else_cut t) o s = token_at place text t else_line o s
cut_at at place text (stray_cut t) o s = same_at place.line o formless s tt
cut_at at place text end_cut o s = same_at place.line o (gives (record { place = place; text = codes "End If"; form = end_if } ∷ [])) s (refl, tt)

-- ---- code lines

-- the numbers of code lines
abbrev pub code_numbers : List tree.Line → List ℕ
code_numbers lines = map (λ (l : tree.Line). l.place.line) lines

-- lines of one number stand before what rises from it
before_rising : (n : ℕ) (new more : List tree.Line) → StandAt n new → AreRising n (code_numbers more) → AreRising n (code_numbers (new ++ more))
before_rising n [] more s h = h
before_rising n (l ∷ new) more s h =
    subst (λ (k : ℕ). AreRising n (k ∷ code_numbers (new ++ more))) (sym s.0)
    (again n (code_numbers (new ++ more)) (before_rising n new more s.1 h))

pub read_rise : (low : ℕ) (opens : List Open) (parts : List Part) (lines : List tree.Line) → AreRising low (part_numbers parts) → AreRead opens parts lines → AreRising low (code_numbers lines)
read_rise low opens [] lines h r = subst (λ (ls : List tree.Line). AreRising low (code_numbers ls)) (sym r) tt
read_rise low opens (p ∷ parts) lines h (new, more, given, right, rest, split) =
    subst (λ (ls : List tree.Line). AreRising low (code_numbers ls)) (sym split)
    (from_lower low p.place.line (code_numbers (new ++ more)) h.0
    (before_rising p.place.line new more (cut_at (spot_of opens) p.place p.text p.cut (gives new) given)
    (read_rise p.place.line (open_after opens new) parts more h.1 rest)))
