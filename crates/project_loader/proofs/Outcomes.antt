-- Each statement has a form, or none, or is too deep, and so each part of a logical line has an outcome.
use Rattle.std.proofs.Common.{ℕ, zero, suc, ◌<◌, ◌≤◌, Bool, true, false, List, [], ◌∷◌, codes, Option, Some, None, refl}
use Rattle.up_base.specs.declared.place.Place.{Place}
use Rattle.vb_tree.specs.declared.block.BlockKind.{BlockKind}
use Rattle.vb_tree.specs.declared.block.BlockKind.TheVariants as block
use Rattle.vb_tree.specs.declared.token.Token.{Token}
use Rattle.vb_tree.specs.Expressions.{depth_of}
use Rattle.vb_tree.specs.Tree.{Exp, Form, line_if, else_line, end_if, goto, label}
use Rattle.vb_lines.specs.Forms.{PlainPiece, FormAnswer, has_form, no_form, too_deep, whole, Meaning, SlotsMean, ListMeans, DeclaresOrStates, MeansThere, FormsOf, HeadAnswer, has_head, no_head, deep_head, IsCondition, HeadOf}
use Rattle.vb_lines.specs.Modules.{spot_in, spot_of}
use Rattle.vb_lines.specs.Nesting.{Open}
use Rattle.vb_lines.specs.Parts.{Outcome, StatementGives, HeadGives, LabelGives, CutGives, statement_outcome, head_outcome, token_line, label_of, formless, gives}
use Rattle.vb_lines.specs.Statements.{Cut, label_cut, statement_cut, head_cut, jump_cut, else_cut, stray_cut, end_cut}
use Rattle.project_loader.proofs.Either.{Irrefutable, pure, bind, either, cases, at_most}

-- ---- a statement

-- a line is of a form that is no deeper than 64, or of a deeper one, or of none
formed : {P : Form → Type 0} {depth : Form → ℕ} (Q : FormAnswer → Type 0) (pieces : Form → List PlainPiece) → ((f : Form) → P f → depth f ≤ 64 → Q (has_form (pieces f))) → ((f : Form) → P f → 64 < depth f → Q too_deep) → (((f : Form) → P f → ⊥) → Q no_form) → Irrefutable ((a : FormAnswer) × Q a)
formed {P = P} {depth = depth} Q pieces low deep none =
    cases (either ((f : Form) × P f))
    (λ h. cases (at_most (depth h.0) 64)
    (λ le. pure (has_form (pieces h.0), low h.0 h.1 le))
    (λ lt. pure (too_deep, deep h.0 h.1 lt)))
    (λ h. pure (no_form, none (λ f p. h (f, p))))

-- the tokens of a code line, with the place of its own text
abbrev Slot : Type 0
Slot = List Token × (ℕ × ℕ)

abbrev HasShallow : Meaning → List Token → Type 0
HasShallow M ts = (f : Form) × (n : ℕ) × M ts f n × (n ≤ 64)

abbrev HasSome : Meaning → List Token → Type 0
HasSome M ts = (f : Form) × (n : ℕ) × M ts f n

one_more : (M : Meaning) (s : Slot) (ss : List Slot) → HasShallow M s.0 → (a : FormAnswer) → SlotsMean M ss a → (b : FormAnswer) × SlotsMean M (s ∷ ss) b
one_more M s ss h (has_form ps) more = (has_form (record { form = h.0; start = s.1.0; end = s.1.1 } ∷ ps), (((h.1, h.2, h.3), refl, refl), more))
one_more M s ss h no_form more = (no_form, (suc more.0, (h, more.1)))
one_more M s ss h too_deep more = (too_deep, (suc more.0, (h, more.1)))

deep_first : (M : Meaning) (s : Slot) (ss : List Slot) → HasSome M s.0 → (HasShallow M s.0 → ⊥) → Irrefutable ((a : FormAnswer) × SlotsMean M (s ∷ ss) a)
deep_first M s ss h none =
    cases (at_most h.1 64)
    (λ low. absurd (none (h.0, h.1, h.2, low)))
    (λ deep. pure (too_deep, (zero, (h.0, h.1, h.2, deep))))

slots_mean : (M : Meaning) (slots : List Slot) → Irrefutable ((a : FormAnswer) × SlotsMean M slots a)
slots_mean M [] = pure (has_form [], tt)
slots_mean M (s ∷ ss) =
    cases (either (HasShallow M s.0))
    (λ h. bind (slots_mean M ss) (λ more. pure (one_more M s ss h more.0 more.1)))
    (λ none. cases (either (HasSome M s.0))
    (λ h. deep_first M s ss h none)
    (λ nothing. pure (no_form, (zero, λ f n means. nothing (f, n, means)))))

-- one code line means a form that is no deeper than 64, or a deeper one, or none
meant : {M : Form → ℕ → Type 0} (Q : FormAnswer → Type 0) (pieces : Form → List PlainPiece) → ((f : Form) (n : ℕ) → M f n → n ≤ 64 → Q (has_form (pieces f))) → ((f : Form) (n : ℕ) → M f n → 64 < n → Q too_deep) → (((f : Form) (n : ℕ) → M f n → ⊥) → Q no_form) → Irrefutable ((a : FormAnswer) × Q a)
meant {M = M} Q pieces low deep none =
    cases (either ((f : Form) × (n : ℕ) × M f n))
    (λ h. cases (at_most h.1 64)
    (λ le. pure (has_form (pieces h.0), low h.0 h.1 h.2 le))
    (λ lt. pure (too_deep, deep h.0 h.1 h.2 lt)))
    (λ h. pure (no_form, none (λ f n m. h (f, n, m))))

list_means : (ts : List Token) (l : Option (Bool × List Token)) → Irrefutable ((a : FormAnswer) × ListMeans ts l a)
list_means ts (Some l) = slots_mean _ _
list_means ts None = meant (ListMeans ts None) (whole ts) (λ f n is low. (((n, is, low), refl, refl), tt)) (λ f n is deep. (zero, (f, n, is, deep))) (λ none. (zero, none))

local_means : (begins : Bool) (ts : List Token) → Irrefutable ((a : FormAnswer) × DeclaresOrStates begins ts a)
local_means true ts = formed (DeclaresOrStates true ts) (whole ts) (λ f is low. (f, is, low, refl)) (λ f is deep. (f, is, deep)) (λ none. none)
local_means false ts = list_means ts _

-- Where a line stands is known by the blocks that are open.

means_in : (k : BlockKind) (ts : List Token) → Irrefutable ((a : FormAnswer) × MeansThere (spot_in k) ts a)
means_in block.Type ts = formed (MeansThere (spot_in block.Type) ts) (whole ts) (λ f is low. (f, is, low, refl)) (λ f is deep. (f, is, deep)) (λ none. none)
means_in block.Enum ts = formed (MeansThere (spot_in block.Enum) ts) (whole ts) (λ f is low. (f, is, low, refl)) (λ f is deep. (f, is, deep)) (λ none. none)
means_in _ ts = local_means _ ts

means_there : (opens : List Open) (ts : List Token) → Irrefutable ((a : FormAnswer) × MeansThere (spot_of opens) ts a)
means_there [] ts = formed (MeansThere (spot_of []) ts) (whole ts) (λ f is low. (f, is, low, refl)) (λ f is deep. (f, is, deep)) (λ none. none)
means_there (o ∷ opens) ts = means_in o.kind ts

-- a statement has a form, or none, or is too deep
forms_of : (opens : List Open) (ts : List Token) → Irrefutable ((a : FormAnswer) × FormsOf (spot_of opens) ts a)
forms_of opens ts = bind (means_there opens ts) (λ h. pure (h.0, record { is = h.1 }))

-- the head of an If on one line is one, or none, or is too deep
head_of_if : (opens : List Open) (ts : List Token) → Irrefutable ((a : HeadAnswer) × HeadOf (spot_of opens) ts a)
head_of_if opens ts =
    cases (either ((e : Exp) × IsCondition (spot_of opens) ts e))
    (λ h. cases (at_most (depth_of h.0) 64)
    (λ low. pure (has_head (line_if h.0), record { is = (h.0, h.1, low, refl) }))
    (λ deep. pure (deep_head, record { is = (h.0, h.1, deep) })))
    (λ none. pure (no_head, record { is = λ e condition. none (e, condition) }))

-- ---- a part of a logical line

statement_gives : (opens : List Open) (place : Place) (text : List ℕ) (ts : List Token) → Irrefutable ((o : Outcome) × StatementGives (spot_of opens) place text ts o)
statement_gives opens place text ts = bind (forms_of opens ts) (λ h. pure (statement_outcome (spot_of opens) place text ts h.0, (h.0, h.1, refl)))

head_gives : (opens : List Open) (place : Place) (text : List ℕ) (ts : List Token) → Irrefutable ((o : Outcome) × HeadGives (spot_of opens) place text ts o)
head_gives opens place text ts = bind (head_of_if opens ts) (λ h. pure (head_outcome place text ts h.0, (h.0, h.1, refl)))

label_in : (k : BlockKind) (place : Place) (text : List ℕ) (t : Token) → Irrefutable ((o : Outcome) × StatementGives (spot_in k) place text (t ∷ []) o) → Irrefutable ((o : Outcome) × LabelGives (spot_in k) place text t o)
label_in block.Type place text t h = h
label_in block.Enum place text t h = h
label_in _ place text t h = pure (token_line place text t (label (label_of t.kind)), refl)

label_gives : (opens : List Open) (place : Place) (text : List ℕ) (t : Token) → Irrefutable ((o : Outcome) × LabelGives (spot_of opens) place text t o)
label_gives [] place text t = statement_gives [] place text (t ∷ [])
label_gives (o ∷ opens) place text t = label_in o.kind place text t (statement_gives (o ∷ opens) place text (t ∷ []))

-- a part has an outcome wherever it stands
pub cut_gives : (opens : List Open) (place : Place) (text : List ℕ) (c : Cut) → Irrefutable ((o : Outcome) × CutGives (spot_of opens) place text c o)
cut_gives opens place text (label_cut t) = label_gives opens place text t
cut_gives opens place text (statement_cut ts) = statement_gives opens place text ts
cut_gives opens place text (head_cut ts) = head_gives opens place text ts
cut_gives opens place text (jump_cut t) = pure (token_line place text t (goto (label_of t.kind)), refl)
cut_gives opens place text (else_cut t) = pure (token_line place text t else_line, refl)
cut_gives opens place text (stray_cut t) = pure (formless, refl)
cut_gives opens place text end_cut = pure (gives (record { place = place; text = codes "End If"; form = end_if } ∷ []), refl)
