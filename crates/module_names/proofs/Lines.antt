-- The code lines that parts give: their texts can stand in comments, the names of Subs and variables are identifiers, and
-- they are within the limits of the grammar.
use Rattle.std.proofs.Common.{◌≡◌, ℕ, ◌≤◌, ◌-◌, ◌==◌, Bool, true, false, ◌&&◌, if◌then◌else◌, is_some, Option, Some, None, List, [], ◌∷◌, ◌++◌, map, take, drop, length, codes, refl, sym, ap, ◌∙◌, subst}
use Rattle.std.specs.List.{list_all}
use Rattle.up_base.specs.declared.place.Place.{Place}
use Rattle.vb_tree.specs.declared.token.Token.{Token}
use Rattle.vb_tree.specs.Tree.{Form, else_line, end_if, goto, label}
use Rattle.vb_tree.specs.Tree as tree
use Rattle.declaration_forms.specs.declared.starts.Spot.{Spot}
use Rattle.declaration_forms.specs.declared.starts.Spot.TheVariants as spot
use Rattle.declaration_forms.specs.Starts.{procedure_start}
use Rattle.statement_forms.specs.LineForms.{IsMeant}
use Rattle.statement_forms.specs.Pieces.{Slot, ItemMeans, list_of, list_slots}
use Rattle.vb_lines.specs.Forms.{PlainPiece, FormAnswer, has_form, no_form, too_deep, Declares, Meaning, AreGiven, SlotsMean, ListMeans, DeclaresOrStates, MeansThere, HeadAnswer, has_head, no_head, deep_head, HeadOf}
use Rattle.vb_lines.specs.Modules.{AreRead, spot_of}
use Rattle.vb_lines.specs.Nesting.{Open, open_after}
use Rattle.vb_lines.specs.Parts.{Part, last_end, text_of, piece_text, Outcome, gives, formless, deep, piece_line, statement_outcome, head_outcome, label_of, token_line, StatementGives, LabelGives, HeadGives, CutGives}
use Rattle.vb_lines.specs.Statements.{Cut, label_cut, statement_cut, head_cut, jump_cut, else_cut, stray_cut, end_cut}
use Rattle.module_names.proofs.Cuts.{are_named, is_named_cut, is_good_part}
use Rattle.module_names.proofs.Declarations.{declaration_names}
use Rattle.up_base.proofs.Lists.{by_test, both_true, and_true, all_more, all_first, all_rest, all_append, all_take, all_drop}
use Rattle.module_names.proofs.Statements.{is_good_form, meant_names, item_means_names}
use Rattle.module_names.proofs.Tokens.{is_named_token}
use Rattle.module_names.proofs.Units.{is_simple}

-- a code line within the limits of the grammar, whose text can stand in a comment and that names a Sub and variables, if it
-- does, by identifiers
abbrev pub is_good_code : tree.Line → Bool
is_good_code l = list_all is_simple l.text && is_good_form l.form

-- ---- texts

text_simple : (text : List ℕ) (tokens : List Token) → list_all is_simple text ≡ true → list_all is_simple (text_of text tokens) ≡ true
text_simple text [] h = refl
text_simple text (t ∷ ts) h = all_take is_simple (last_end t.to ts - t.«from») (drop t.«from» text) (all_drop is_simple t.«from» text h)

piece_simple : (text : List ℕ) (tokens : List Token) (start end : ℕ) → list_all is_simple text ≡ true → list_all is_simple (piece_text text tokens start end) ≡ true
piece_simple text tokens start end h =
    by_test (start == 0) (λ b. list_all is_simple (if b then text_of text (take end tokens) else text_of text (take 1 tokens) ++ 32 ∷ text_of text (take (end - start) (drop start tokens))) ≡ true)
    (λ e. text_simple text (take end tokens) h)
    (λ e. all_append is_simple (text_of text (take 1 tokens)) (32 ∷ text_of text (take (end - start) (drop start tokens))) (text_simple text (take 1 tokens) h)
    (all_more is_simple 32 (text_of text (take (end - start) (drop start tokens))) refl (text_simple text (take (end - start) (drop start tokens)) h)))

-- ---- forms

abbrev is_named_piece : PlainPiece → Bool
is_named_piece p = is_good_form p.form

abbrev are_named_pieces : List PlainPiece → Bool
are_named_pieces pieces = list_all is_named_piece pieces

abbrev NamedAnswer : FormAnswer → Type 0
NamedAnswer (has_form pieces) = are_named_pieces pieces ≡ true
NamedAnswer no_form = Unit {0}
NamedAnswer too_deep = Unit {0}

declares_names : (place : Spot) (tokens : List Token) (a : FormAnswer) → are_named tokens ≡ true → Declares place tokens a → NamedAnswer a
declares_names place tokens (has_form pieces) h d =
    ap are_named_pieces d.3 ∙ all_more is_named_piece (record { form = d.0; start = 0; end = length tokens }) [] (declaration_names place tokens d.0 h d.1) refl
declares_names place tokens no_form h d = tt
declares_names place tokens too_deep h d = tt

given_names : (M : Meaning) (slots : List Slot) (pieces : List PlainPiece) → ((ts : List Token) (f : Form) (n : ℕ) → n ≤ 64 → M ts f n → is_good_form f ≡ true) → AreGiven M slots pieces → are_named_pieces pieces ≡ true
given_names M [] [] means g = refl
given_names M [] (p ∷ ps) means g = absurd g
given_names M (s ∷ ss) [] means g = absurd g
given_names M (s ∷ ss) (p ∷ ps) means g =
    all_more is_named_piece p ps (means s.0 p.form g.0.0.0 g.0.0.2 g.0.0.1) (given_names M ss ps means g.1)

slots_names : (M : Meaning) (slots : List Slot) (a : FormAnswer) → ((ts : List Token) (f : Form) (n : ℕ) → n ≤ 64 → M ts f n → is_good_form f ≡ true) → SlotsMean M slots a → NamedAnswer a
slots_names M slots (has_form pieces) means g = given_names M slots pieces means g
slots_names M slots no_form means g = tt
slots_names M slots too_deep means g = tt

list_names : (tokens : List Token) (l : Option (Bool × List Token)) (a : FormAnswer) → ListMeans tokens l a → NamedAnswer a
list_names tokens (Some l) a g = slots_names (ItemMeans l.0) (list_slots l.1) a (λ ts f n shallow means. item_means_names l.0 ts f n means) g
list_names tokens None a g = slots_names IsMeant ((tokens, (0, length tokens)) ∷ []) a meant_names g

there_names : (place : Spot) (tokens : List Token) (a : FormAnswer) → are_named tokens ≡ true → MeansThere place tokens a → NamedAnswer a
there_names spot.Module tokens a h m = declares_names spot.Module tokens a h m
there_names spot.Procedure tokens a h m = of_start (is_some (procedure_start tokens)) m
  where
    of_start : (b : Bool) → DeclaresOrStates b tokens a → NamedAnswer a
    of_start true m = declares_names spot.Procedure tokens a h m
    of_start false m = list_names tokens (list_of tokens) a m
there_names spot.TypeGroup tokens a h m = declares_names spot.TypeGroup tokens a h m
there_names spot.EnumGroup tokens a h m = declares_names spot.EnumGroup tokens a h m

-- ---- what parts give

abbrev GoodOutcome : Outcome → Type 0
GoodOutcome (gives lines) = list_all is_good_code lines ≡ true
GoodOutcome formless = Unit {0}
GoodOutcome (deep r) = Unit {0}

pieces_good : (place : Place) (text : List ℕ) (tokens : List Token) (pieces : List PlainPiece) → list_all is_simple text ≡ true → are_named_pieces pieces ≡ true → list_all is_good_code (map (piece_line place text tokens) pieces) ≡ true
pieces_good place text tokens [] h k = refl
pieces_good place text tokens (p ∷ ps) h k =
    all_more is_good_code (piece_line place text tokens p) (map (piece_line place text tokens) ps)
    (and_true (list_all is_simple (piece_text text tokens p.start p.end)) (is_good_form p.form) (piece_simple text tokens p.start p.end h) (all_first is_named_piece p ps k))
    (pieces_good place text tokens ps h (all_rest is_named_piece p ps k))

answer_good : (at : Spot) (place : Place) (text : List ℕ) (tokens : List Token) (a : FormAnswer) → list_all is_simple text ≡ true → NamedAnswer a → GoodOutcome (statement_outcome at place text tokens a)
answer_good at place text tokens (has_form pieces) h k = pieces_good place text tokens pieces h k
answer_good at place text tokens no_form h k = tt
answer_good at place text tokens too_deep h k = tt

one_good : (place : Place) (text : List ℕ) (f : Form) → list_all is_simple text ≡ true → is_good_form f ≡ true → list_all is_good_code (record { place = place; text = text; form = f } ∷ []) ≡ true
one_good place text f h k =
    all_more is_good_code (record { place = place; text = text; form = f }) [] (and_true (list_all is_simple text) (is_good_form f) h k) refl

same_good : (o p : Outcome) → o ≡ p → GoodOutcome p → GoodOutcome o
same_good o p e h = subst GoodOutcome (sym e) h

statement_good : (at : Spot) (place : Place) (text : List ℕ) (tokens : List Token) (o : Outcome) → list_all is_simple text ≡ true → are_named tokens ≡ true → StatementGives at place text tokens o → GoodOutcome o
statement_good at place text tokens o h k s =
    same_good o (statement_outcome at place text tokens s.0) s.2 (answer_good at place text tokens s.0 h (there_names at tokens s.0 k s.1.is))

one_named : (t : Token) → is_named_token t ≡ true → are_named (t ∷ []) ≡ true
one_named t h = all_more is_named_token t [] h refl

label_good : (at : Spot) (place : Place) (text : List ℕ) (t : Token) (o : Outcome) → list_all is_simple text ≡ true → is_named_token t ≡ true → LabelGives at place text t o → GoodOutcome o
label_good spot.Procedure place text t o h k s =
    same_good o (token_line place text t (label (label_of t.kind))) s (one_good place (text_of text (t ∷ [])) (label (label_of t.kind)) (text_simple text (t ∷ []) h) refl)
label_good spot.Module place text t o h k s = statement_good spot.Module place text (t ∷ []) o h (one_named t k) s
label_good spot.TypeGroup place text t o h k s = statement_good spot.TypeGroup place text (t ∷ []) o h (one_named t k) s
label_good spot.EnumGroup place text t o h k s = statement_good spot.EnumGroup place text (t ∷ []) o h (one_named t k) s

head_good : (at : Spot) (place : Place) (text : List ℕ) (tokens : List Token) (o : Outcome) → list_all is_simple text ≡ true → HeadGives at place text tokens o → GoodOutcome o
head_good at place text tokens o h s = same_good o (head_outcome place text tokens s.0) s.2 (of_answer s.0 s.1)
  where
    of_answer : (a : HeadAnswer) → HeadOf at tokens a → GoodOutcome (head_outcome place text tokens a)
    of_answer (has_head f) m = one_good place (text_of text tokens) f (text_simple text tokens h) (ap is_good_form m.is.3)
    of_answer no_head m = tt
    of_answer deep_head m = tt

cut_good : (at : Spot) (place : Place) (text : List ℕ) (c : Cut) (o : Outcome) → list_all is_simple text ≡ true → is_named_cut c ≡ true → CutGives at place text c o → GoodOutcome o
cut_good at place text (label_cut t) o h k s = label_good at place text t o h k s
cut_good at place text (statement_cut tokens) o h k s = statement_good at place text tokens o h k s
cut_good at place text (head_cut tokens) o h k s = head_good at place text tokens o h s
cut_good at place text (jump_cut t) o h k s =
    same_good o (token_line place text t (goto (label_of t.kind))) s (one_good place (text_of text (t ∷ [])) (goto (label_of t.kind)) (text_simple text (t ∷ []) h) refl)
cut_good at place text (else_cut t) o h k s =
    same_good o (token_line place text t else_line) s (one_good place (text_of text (t ∷ [])) else_line (text_simple text (t ∷ []) h) refl)
cut_good at place text (stray_cut t) o h k s = same_good o formless s tt
cut_good at place text end_cut o h k s = same_good o (gives (record { place = place; text = codes "End If"; form = end_if } ∷ [])) s refl

pub read_good : (opens : List Open) (parts : List Part) (lines : List tree.Line) → list_all is_good_part parts ≡ true → AreRead opens parts lines → list_all is_good_code lines ≡ true
read_good opens [] lines h r = ap (λ ls. list_all is_good_code ls) r
read_good opens (p ∷ parts) lines h (new, more, given, right, rest, split) =
    let here = both_true (list_all is_simple p.text) (is_named_cut p.cut) (all_first is_good_part p parts h) in
    ap (λ ls. list_all is_good_code ls) split
    ∙ all_append is_good_code new more (cut_good (spot_of opens) p.place p.text p.cut (gives new) here.0 here.1 given)
    (read_good (open_after opens new) parts more (all_rest is_good_part p parts h) rest)
