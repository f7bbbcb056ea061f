-- A statement is of one form at most, and so is the head of an If on one line.
use Rattle.std.proofs.Common.{◌≡◌, ℕ, ◌≤◌, ◌<◌, zero, suc, List, [], ◌∷◌, length, codes, is_some, Option, Some, None, Bool, true, false, refl, sym, ap, ◌∙◌, arith}
use Rattle.vb_tree.specs.declared.token.Token.{Token}
use Rattle.vb_tree.specs.Expressions.{IsExpression, depth_of}
use Rattle.vb_tree.specs.Tree.{Exp, Form, erase, line_if}
use Rattle.vb_exprs.proofs.OneForm.{one_expression}
use Rattle.declaration_forms.specs.declared.starts.Spot.{Spot}
use Rattle.declaration_forms.specs.declared.starts.Spot.TheVariants as spot
use Rattle.declaration_forms.specs.DeclarationForms.{form_depth}
use Rattle.declaration_forms.specs.Starts.{procedure_start}
use Rattle.declaration_forms.proofs.OneLine.{one_form}
use Rattle.statement_forms.specs.Fronts.{before_then, behind_key}
use Rattle.statement_forms.specs.LineForms.{Behind, IsMeant}
use Rattle.statement_forms.specs.Pieces.{Slot, ItemMeans, FirstAt, list_of, list_slots}
use Rattle.statement_forms.proofs.OneMeaning.{one_meaning}
use Rattle.vb_lines.specs.Forms.{PlainPiece, FormAnswer, has_form, no_form, too_deep, HeadAnswer, has_head, no_head, deep_head, Meaning, whole, Declares, IsGiven, AreGiven, HasNone, IsDeep, SlotsMean, ListMeans, DeclaresOrStates, MeansThere, FormsOf, IsCondition, HeadMeans, HeadOf}

within_or_deep : (n m : ℕ) → n ≡ m → n ≤ 64 → 64 < m → ⊥
within_or_deep n m e h k = omega arith

-- ---- declaration lines

declares_once : (s : Spot) (ts : List Token) (a b : FormAnswer) → Declares s ts a → Declares s ts b → a ≡ b
declares_once s ts (has_form ps) (has_form qs) h k = ap has_form (h.3 ∙ ap (whole ts) (one_form s ts h.0 k.0 h.1 k.1) ∙ sym k.3)
declares_once s ts (has_form ps) no_form h k = absurd (k h.0 h.1)
declares_once s ts (has_form ps) too_deep h k = absurd (within_or_deep (form_depth h.0) (form_depth k.0) (ap form_depth (one_form s ts h.0 k.0 h.1 k.1)) h.2 k.2)
declares_once s ts no_form (has_form qs) h k = absurd (h k.0 k.1)
declares_once s ts no_form no_form h k = refl
declares_once s ts no_form too_deep h k = absurd (h k.0 k.1)
declares_once s ts too_deep (has_form qs) h k = absurd (within_or_deep (form_depth k.0) (form_depth h.0) (ap form_depth (one_form s ts k.0 h.0 k.1 h.1)) k.2 h.2)
declares_once s ts too_deep no_form h k = absurd (k h.0 h.1)
declares_once s ts too_deep too_deep h k = refl

-- ---- code lines of other statements

-- tokens mean one form at most
abbrev IsOnce : Meaning → Type 0
IsOnce M = (ts : List Token) (f g : Form) (n m : ℕ) → M ts f n → M ts g m → (f ≡ g) × (n ≡ m)

abbrev HasForm : Meaning → List Token → Type 0
HasForm M ts = (f : Form) × (n : ℕ) × M ts f n × (n ≤ 64)

piece_once : (M : Meaning) → IsOnce M → (s : Slot) (p q : PlainPiece) → IsGiven M s p → IsGiven M s q → p ≡ q
piece_once M one s p q h k =
    let form = (one s.0 p.form q.form h.0.0 k.0.0 h.0.1 k.0.1).0 in
    let start = h.1 ∙ sym k.1 in
    let end = h.2 ∙ sym k.2 in
    λ i. record { form = form i; start = start i; end = end i }

given_once : (M : Meaning) → IsOnce M → (slots : List Slot) (ps qs : List PlainPiece) → AreGiven M slots ps → AreGiven M slots qs → ps ≡ qs
given_once M one [] [] [] h k = refl
given_once M one [] [] (q ∷ qs) h k = absurd k
given_once M one [] (p ∷ ps) qs h k = absurd h
given_once M one (s ∷ ss) [] qs h k = absurd h
given_once M one (s ∷ ss) (p ∷ ps) [] h k = absurd k
given_once M one (s ∷ ss) (p ∷ ps) (q ∷ qs) h k =
    let first = piece_once M one s p q h.0 k.0 in
    let more = given_once M one ss ps qs h.1 k.1 in
    λ i. first i ∷ more i

given_or_first : (M : Meaning) (P : List Token → Type 0) → ((ts : List Token) → HasForm M ts → P ts → ⊥) → (k : ℕ) (slots : List Slot) (ps : List PlainPiece) → AreGiven M slots ps → FirstAt M P k slots → ⊥
given_or_first M P against k [] ps h f = f
given_or_first M P against k (s ∷ ss) [] h f = h
given_or_first M P against zero (s ∷ ss) (p ∷ ps) h f = against s.0 (p.form, h.0.0.0, h.0.0.1, h.0.0.2) f
given_or_first M P against (suc k) (s ∷ ss) (p ∷ ps) h f = given_or_first M P against k ss ps h.1 f.1

first_or_first : (M : Meaning) (P Q : List Token → Type 0) → ((ts : List Token) → HasForm M ts → P ts → ⊥) → ((ts : List Token) → HasForm M ts → Q ts → ⊥) → ((ts : List Token) → P ts → Q ts → ⊥) → (j k : ℕ) (slots : List Slot) → FirstAt M P j slots → FirstAt M Q k slots → ⊥
first_or_first M P Q p q apart j k [] f g = f
first_or_first M P Q p q apart zero zero (s ∷ ss) f g = apart s.0 f g
first_or_first M P Q p q apart zero (suc k) (s ∷ ss) f g = p s.0 g.0 f
first_or_first M P Q p q apart (suc j) zero (s ∷ ss) f g = q s.0 f.0 g
first_or_first M P Q p q apart (suc j) (suc k) (s ∷ ss) f g = first_or_first M P Q p q apart j k ss f.1 g.1

some_or_none : (M : Meaning) (ts : List Token) → HasForm M ts → HasNone M ts → ⊥
some_or_none M ts h k = k h.0 h.1 h.2

none_or_deep : (M : Meaning) (ts : List Token) → HasNone M ts → IsDeep M ts → ⊥
none_or_deep M ts h k = h k.0 k.1 k.2

shallow_or_deep : (M : Meaning) → IsOnce M → (ts : List Token) → HasForm M ts → IsDeep M ts → ⊥
shallow_or_deep M one ts h k = within_or_deep h.1 k.1 (one ts h.0 k.0 h.1 k.1 h.2 k.2).1 h.3 k.3

slots_once : (M : Meaning) → IsOnce M → (slots : List Slot) (a b : FormAnswer) → SlotsMean M slots a → SlotsMean M slots b → a ≡ b
slots_once M one slots (has_form ps) (has_form qs) h k = ap has_form (given_once M one slots ps qs h k)
slots_once M one slots (has_form ps) no_form h k = absurd (given_or_first M (HasNone M) (some_or_none M) k.0 slots ps h k.1)
slots_once M one slots (has_form ps) too_deep h k = absurd (given_or_first M (IsDeep M) (shallow_or_deep M one) k.0 slots ps h k.1)
slots_once M one slots no_form (has_form qs) h k = absurd (given_or_first M (HasNone M) (some_or_none M) h.0 slots qs k h.1)
slots_once M one slots no_form no_form h k = refl
slots_once M one slots no_form too_deep h k = absurd (first_or_first M (HasNone M) (IsDeep M) (some_or_none M) (shallow_or_deep M one) (none_or_deep M) h.0 k.0 slots h.1 k.1)
slots_once M one slots too_deep (has_form qs) h k = absurd (given_or_first M (IsDeep M) (shallow_or_deep M one) h.0 slots qs k h.1)
slots_once M one slots too_deep no_form h k = absurd (first_or_first M (HasNone M) (IsDeep M) (some_or_none M) (shallow_or_deep M one) (none_or_deep M) k.0 h.0 slots k.1 h.1)
slots_once M one slots too_deep too_deep h k = refl

item_once : (erases : Bool) (ts : List Token) (f g : Form) (n m : ℕ) → ItemMeans erases ts f n → ItemMeans erases ts g m → (f ≡ g) × (n ≡ m)
item_once true ts f g n m h k =
    let e = one_expression ts h.0 k.0 h.1.0 k.1.0 in
    (h.2 ∙ ap erase e ∙ sym k.2, h.3 ∙ ap depth_of e ∙ sym k.3)
item_once false ts f g n m h k =
    let e : ◌≡◌ {A = Option Form} (Some f) (Some g) = sym h.0 ∙ k.0 in
    let i : f ≡ g = cc in
    (i, h.1 ∙ sym k.1)

list_once : (ts : List Token) (l : Option (Bool × List Token)) (a b : FormAnswer) → ListMeans ts l a → ListMeans ts l b → a ≡ b
list_once ts (Some l) a b h k = slots_once (ItemMeans l.0) (item_once l.0) (list_slots l.1) a b h k
list_once ts None a b h k = slots_once IsMeant one_meaning ((ts, (0, length ts)) ∷ []) a b h k

local_once : (begins : Bool) (ts : List Token) (a b : FormAnswer) → DeclaresOrStates begins ts a → DeclaresOrStates begins ts b → a ≡ b
local_once true ts a b h k = declares_once spot.Procedure ts a b h k
local_once false ts a b h k = list_once ts (list_of ts) a b h k

there_once : (s : Spot) (ts : List Token) (a b : FormAnswer) → MeansThere s ts a → MeansThere s ts b → a ≡ b
there_once spot.Module ts a b h k = declares_once spot.Module ts a b h k
there_once spot.Procedure ts a b h k = local_once (is_some (procedure_start ts)) ts a b h k
there_once spot.TypeGroup ts a b h k = declares_once spot.TypeGroup ts a b h k
there_once spot.EnumGroup ts a b h k = declares_once spot.EnumGroup ts a b h k

pub forms_once : (s : Spot) (ts : List Token) (a b : FormAnswer) → FormsOf s ts a → FormsOf s ts b → a ≡ b
forms_once s ts a b h k = there_once s ts a b h.is k.is

-- ---- heads of Ifs on one line

behind_once : {X C : Type 0} (o : Option C) (P : C → X → Type 0) → ((c : C) (x y : X) → P c x → P c y → x ≡ y) → (x y : X) → Behind o (λ c. P c x) → Behind o (λ c. P c y) → x ≡ y
behind_once None P one x y h k = absurd h
behind_once (Some c) P one x y h k = one c x y h k

condition_once : (s : Spot) (ts : List Token) (x y : Exp) → IsCondition s ts x → IsCondition s ts y → x ≡ y
condition_once spot.Module ts x y h k = absurd h
condition_once spot.Procedure ts x y h k = behind_once (behind_key (codes "if") ts) (λ rest e. Behind (before_then rest) (λ inner. IsExpression inner e)) (λ rest. behind_once (before_then rest) IsExpression one_expression) x y h k
condition_once spot.TypeGroup ts x y h k = absurd h
condition_once spot.EnumGroup ts x y h k = absurd h

head_means_once : (s : Spot) (ts : List Token) (a b : HeadAnswer) → HeadMeans s ts a → HeadMeans s ts b → a ≡ b
head_means_once s ts (has_head f) (has_head g) h k = ap has_head (h.3 ∙ ap line_if (condition_once s ts h.0 k.0 h.1 k.1) ∙ sym k.3)
head_means_once s ts (has_head f) no_head h k = absurd (k h.0 h.1)
head_means_once s ts (has_head f) deep_head h k = absurd (within_or_deep (depth_of h.0) (depth_of k.0) (ap depth_of (condition_once s ts h.0 k.0 h.1 k.1)) h.2 k.2)
head_means_once s ts no_head (has_head g) h k = absurd (h k.0 k.1)
head_means_once s ts no_head no_head h k = refl
head_means_once s ts no_head deep_head h k = absurd (h k.0 k.1)
head_means_once s ts deep_head (has_head g) h k = absurd (within_or_deep (depth_of k.0) (depth_of h.0) (ap depth_of (condition_once s ts k.0 h.0 k.1 h.1)) k.2 h.2)
head_means_once s ts deep_head no_head h k = absurd (k h.0 h.1)
head_means_once s ts deep_head deep_head h k = refl

pub head_once : (s : Spot) (ts : List Token) (a b : HeadAnswer) → HeadOf s ts a → HeadOf s ts b → a ≡ b
head_once s ts a b h k = head_means_once s ts a b h.is k.is
