-- Faults that are passed on, and what a statement gives.
use Rattle.std.proofs.Common.{◌≡◌, ℕ, List, [], ◌∷◌, ◌++◌, map, Some, Result, Ok, Err, IsErrAnd, refl, sym, ap, ◌∙◌, subst}
use Rattle.std.proofs.lemmas.List.{map_push}
use Rattle.up_base.specs.declared.place.Fault.{Fault}
use Rattle.up_base.specs.declared.place.Place.{Place}
use Rattle.up_base.specs.declared.place.ReadFail.{ReadFail}
use Rattle.up_base.specs.declared.place.ReadFail.TheVariants as fail
use Rattle.vb_tree.specs.declared.block.Role.TheVariants.{Plain}
use Rattle.vb_tree.specs.declared.token.Token.{Token}
use Rattle.vb_tree.specs.Tree.{Form, Line, label}
use Rattle.vb_lines.specs.declared.building.ModuleBuild.{ModuleBuild}
use Rattle.vb_lines.specs.declared.forms.Piece.{Piece}
use Rattle.declaration_forms.specs.declared.starts.Spot.{Spot}
use Rattle.declaration_forms.specs.declared.starts.Spot.TheVariants as spot
use Rattle.vb_lines.specs.Building.{IsBuilt, OnFault, opens_of}
use Rattle.vb_lines.specs.Forms.{PlainPiece, FormAnswer, has_form, no_form, too_deep, FormsOf, piece_of, HeadAnswer, has_head, no_head, deep_head, HeadOf}
use Rattle.vb_lines.specs.Modules.{spot_of}
use Rattle.vb_lines.specs.Nesting.{open_after, fault_of}
use Rattle.vb_lines.specs.Parts.{Outcome, gives, formless, deep, StatementGives, HeadGives, LabelGives, label_of, token_line, text_of, piece_line, role_at, first_of}
use Rattle.vb_lines.specs.Reading.{AddsLines, FaultOfLines, AddsGiven, FaultOfGiven}
use Rattle.vb_lines.proofs.Readings.{lines_then_lines, lines_then_fault, fault_before_lines, given_lines, given_lines_fault}

pub fault_passed : {T U : Type 0} (P Q : Fault → Type 0) (from : Result U ReadFail) (result : Result T ReadFail) (e : ReadFail) → from ≡ Err e → IsErrAnd result (λ x. x ≡ e) → ((f : Fault) → P f → Q f) → OnFault from P → OnFault result Q
fault_passed P Q from (Ok x) e was s leads said = absurd s
fault_passed {T} {U} P Q from (Err x) e was s leads said = rw s (by e (rw was at said))
  where
    by : (e : ReadFail) → OnFault {T = U} (Err e) P → OnFault {T = T} (Err e) Q
    by (fail.Fault f) p = leads f p
    by fail.Mem p = tt

-- ---- code lines of a statement

pieces_push : (to_line : PlainPiece → Line) (done : List Piece) (x : Piece) → map to_line (map piece_of (done ++ x ∷ [])) ≡ map to_line (map piece_of done) ++ to_line (piece_of x) ∷ []
pieces_push to_line done x = ap (map to_line) (map_push piece_of done x) ∙ map_push to_line (map piece_of done) (piece_of x)

pub pieces_more : (to_line : PlainPiece → Line) (done : List Piece) (x : Piece) (a b c : ModuleBuild) → AddsLines (map to_line (map piece_of done)) a b → AddsLines (to_line (piece_of x) ∷ []) b c → AddsLines (map to_line (map piece_of (done ++ x ∷ []))) a c
pieces_more to_line done x a b c first second = subst (λ ls. AddsLines ls a c) (sym (pieces_push to_line done x)) (lines_then_lines (map to_line (map piece_of done)) (to_line (piece_of x) ∷ []) a b c first second)

pieces_around : (to_line : PlainPiece → Line) (done : List Piece) (x : Piece) (rest : List Piece) → map to_line (map piece_of (done ++ x ∷ rest)) ≡ (map to_line (map piece_of done) ++ to_line (piece_of x) ∷ []) ++ map to_line (map piece_of rest)
pieces_around to_line [] x rest = refl
pieces_around to_line (y ∷ done) x rest = ap (λ ls. to_line (piece_of y) ∷ ls) (pieces_around to_line done x rest)

pub piece_fault : (to_line : PlainPiece → Line) (pieces done : List Piece) (x : Piece) (rest : List Piece) (place : Place) (a b : ModuleBuild) (f : Fault) → done ++ x ∷ rest ≡ pieces → AddsLines (map to_line (map piece_of done)) a b → FaultOfLines (to_line (piece_of x) ∷ []) place b f → FaultOfLines (map to_line (map piece_of pieces)) place a f
piece_fault to_line pieces done x rest place a b f e first second =
    subst (λ ls. FaultOfLines ls place a f) (sym (pieces_around to_line done x rest) ∙ ap (λ ps. map to_line (map piece_of ps)) e)
    (fault_before_lines (map to_line (map piece_of done) ++ to_line (piece_of x) ∷ []) (map to_line (map piece_of rest)) place a f
    (lines_then_fault (map to_line (map piece_of done)) (to_line (piece_of x) ∷ []) place a b f first second))

-- ---- a statement, wherever it stands

here : (tokens : List Token) (a : FormAnswer) (old : ModuleBuild) (s : Spot) → s ≡ spot_of (opens_of old) → FormsOf s tokens a → (lines : List Line) → IsBuilt lines old → FormsOf (spot_of (open_after [] lines)) tokens a
here tokens a old s e forms lines h = subst (λ s. FormsOf s tokens a) (e ∙ ap spot_of h.opened) forms

pub statement_adds : (place : Place) (text : List ℕ) (tokens : List Token) (pieces : List PlainPiece) (old b : ModuleBuild) (s : Spot) → s ≡ spot_of (opens_of old) → FormsOf s tokens (has_form pieces) → AddsLines (map (piece_line place text tokens) pieces) old b → AddsGiven (λ s o. StatementGives s place text tokens o) old b
statement_adds place text tokens pieces old b s e forms adds = given_lines (λ s o. StatementGives s place text tokens o) (map (piece_line place text tokens) pieces) old b (λ lines h. (has_form pieces, here tokens (has_form pieces) old s e forms lines h, refl)) adds

pub statement_fault : (place : Place) (text : List ℕ) (tokens : List Token) (pieces : List PlainPiece) (old : ModuleBuild) (s : Spot) (f : Fault) → s ≡ spot_of (opens_of old) → FormsOf s tokens (has_form pieces) → FaultOfLines (map (piece_line place text tokens) pieces) place old f → FaultOfGiven (λ s o. StatementGives s place text tokens o) place old f
statement_fault place text tokens pieces old s f e forms fault = given_lines_fault (λ s o. StatementGives s place text tokens o) (map (piece_line place text tokens) pieces) place old f (λ lines h. (has_form pieces, here tokens (has_form pieces) old s e forms lines h, refl)) fault

pub statement_formless : (place : Place) (text : List ℕ) (tokens : List Token) (old : ModuleBuild) (s : Spot) → s ≡ spot_of (opens_of old) → FormsOf s tokens no_form → FaultOfGiven (λ s o. StatementGives s place text tokens o) place old (record { place = place; kind = 10 })
statement_formless place text tokens old s e forms = record { fault = λ lines h. (formless, (no_form, here tokens no_form old s e forms lines h, refl), refl); at = refl }

pub statement_deep : (place : Place) (text : List ℕ) (tokens : List Token) (old : ModuleBuild) (s : Spot) (k : ℕ) → s ≡ spot_of (opens_of old) → FormsOf s tokens too_deep → first_of (fault_of (opens_of old) (role_at s tokens)) (Some 14) ≡ Some k → FaultOfGiven (λ s o. StatementGives s place text tokens o) place old (record { place = place; kind = k })
statement_deep place text tokens old s k e forms kind = record {
  fault = λ lines h. (
    deep (role_at (spot_of (open_after [] lines)) tokens),
    (too_deep, here tokens too_deep old s e forms lines h, refl),
    ap (λ os. first_of (fault_of os (role_at (spot_of os) tokens)) (Some 14)) (sym h.opened)
        ∙ ap (λ x. first_of (fault_of (opens_of old) (role_at x tokens)) (Some 14)) (sym e)
        ∙ kind,
  );
  at = refl;
}

-- ---- one code line

pub line_given : (Given : Spot → Outcome → Type 0) (l : Line) (a b : ModuleBuild) → ((s : Spot) → Given s (gives (l ∷ []))) → AddsLines (l ∷ []) a b → AddsGiven Given a b
line_given Given l a b is adds = given_lines Given (l ∷ []) a b (λ lines h. is (spot_of (open_after [] lines))) adds

pub line_given_fault : (Given : Spot → Outcome → Type 0) (l : Line) (place : Place) (a : ModuleBuild) (f : Fault) → ((s : Spot) → Given s (gives (l ∷ []))) → FaultOfLines (l ∷ []) place a f → FaultOfGiven Given place a f
line_given_fault Given l place a f is fault = given_lines_fault Given (l ∷ []) place a f (λ lines h. is (spot_of (open_after [] lines))) fault

-- ---- the head of an If on one line

head_here : (tokens : List Token) (a : HeadAnswer) (old : ModuleBuild) (s : Spot) → s ≡ spot_of (opens_of old) → HeadOf s tokens a → (lines : List Line) → IsBuilt lines old → HeadOf (spot_of (open_after [] lines)) tokens a
head_here tokens a old s e forms lines h = subst (λ s. HeadOf s tokens a) (e ∙ ap spot_of h.opened) forms

pub head_adds : (place : Place) (text : List ℕ) (tokens : List Token) (form : Form) (old b : ModuleBuild) (s : Spot) (l : Line) → l ≡ record { place = place; text = text_of text tokens; form = form } → s ≡ spot_of (opens_of old) → HeadOf s tokens (has_head form) → AddsLines (l ∷ []) old b → AddsGiven (λ s o. HeadGives s place text tokens o) old b
head_adds place text tokens form old b s l is e forms adds = given_lines (λ s o. HeadGives s place text tokens o) (l ∷ []) old b (λ lines h. (has_head form, head_here tokens (has_head form) old s e forms lines h, ap (λ l. gives (l ∷ [])) is)) adds

pub head_fault : (place : Place) (text : List ℕ) (tokens : List Token) (form : Form) (old : ModuleBuild) (s : Spot) (l : Line) (f : Fault) → l ≡ record { place = place; text = text_of text tokens; form = form } → s ≡ spot_of (opens_of old) → HeadOf s tokens (has_head form) → FaultOfLines (l ∷ []) place old f → FaultOfGiven (λ s o. HeadGives s place text tokens o) place old f
head_fault place text tokens form old s l f is e forms fault = given_lines_fault (λ s o. HeadGives s place text tokens o) (l ∷ []) place old f (λ lines h. (has_head form, head_here tokens (has_head form) old s e forms lines h, ap (λ l. gives (l ∷ [])) is)) fault

pub head_formless : (place : Place) (text : List ℕ) (tokens : List Token) (old : ModuleBuild) (s : Spot) → s ≡ spot_of (opens_of old) → HeadOf s tokens no_head → FaultOfGiven (λ s o. HeadGives s place text tokens o) place old (record { place = place; kind = 10 })
head_formless place text tokens old s e forms = record { fault = λ lines h. (formless, (no_head, head_here tokens no_head old s e forms lines h, refl), refl); at = refl }

pub head_deep : (place : Place) (text : List ℕ) (tokens : List Token) (old : ModuleBuild) (s : Spot) (k : ℕ) → s ≡ spot_of (opens_of old) → HeadOf s tokens deep_head → first_of (fault_of (opens_of old) Plain) (Some 14) ≡ Some k → FaultOfGiven (λ s o. HeadGives s place text tokens o) place old (record { place = place; kind = k })
head_deep place text tokens old s k e forms kind = record {
  fault = λ lines h. (deep Plain, (deep_head, head_here tokens deep_head old s e forms lines h, refl), ap (λ os. first_of (fault_of os Plain) (Some 14)) (sym h.opened) ∙ kind);
  at = refl;
}

-- ---- a label, and what would be one elsewhere

pub label_adds : (place : Place) (text : List ℕ) (t : Token) (old b : ModuleBuild) (l : Line) → gives (l ∷ []) ≡ token_line place text t (label (label_of t.kind)) → spot.Procedure ≡ spot_of (opens_of old) → AddsLines (l ∷ []) old b → AddsGiven (λ s o. LabelGives s place text t o) old b
label_adds place text t old b l is e adds = given_lines (λ s o. LabelGives s place text t o) (l ∷ []) old b (λ lines h. subst (λ s. LabelGives s place text t (gives (l ∷ []))) (e ∙ ap spot_of h.opened) is) adds

pub label_fault : (place : Place) (text : List ℕ) (t : Token) (old : ModuleBuild) (l : Line) (f : Fault) → gives (l ∷ []) ≡ token_line place text t (label (label_of t.kind)) → spot.Procedure ≡ spot_of (opens_of old) → FaultOfLines (l ∷ []) place old f → FaultOfGiven (λ s o. LabelGives s place text t o) place old f
label_fault place text t old l f is e fault = given_lines_fault (λ s o. LabelGives s place text t o) (l ∷ []) place old f (λ lines h. subst (λ s. LabelGives s place text t (gives (l ∷ []))) (e ∙ ap spot_of h.opened) is) fault

no_label : (s : Spot) (place : Place) (text : List ℕ) (t : Token) (o : Outcome) → (s ≡ spot.Procedure → ⊥) → StatementGives s place text (t ∷ []) o → LabelGives s place text t o
no_label spot.Procedure place text t o h given = absurd (h refl)
no_label spot.Module place text t o h given = given
no_label spot.TypeGroup place text t o h given = given
no_label spot.EnumGroup place text t o h given = given

elsewhere : (old : ModuleBuild) (s : Spot) (lines : List Line) → s ≡ spot_of (opens_of old) → (s ≡ spot.Procedure → ⊥) → IsBuilt lines old → spot_of (open_after [] lines) ≡ spot.Procedure → ⊥
elsewhere old s lines e h built is = h (e ∙ ap spot_of built.opened ∙ is)

pub no_label_adds : (place : Place) (text : List ℕ) (t : Token) (old b : ModuleBuild) (s : Spot) → s ≡ spot_of (opens_of old) → (s ≡ spot.Procedure → ⊥) → AddsGiven (λ s o. StatementGives s place text (t ∷ []) o) old b → AddsGiven (λ s o. LabelGives s place text t o) old b
no_label_adds place text t old b s e h given = record {
  adds = λ lines built.
      let one = given.adds lines built in
      (one.0, no_label (spot_of (open_after [] lines)) place text t (gives one.0) (elsewhere old s lines e h built) one.1, one.2, one.3);
}

pub no_label_fault : (place : Place) (text : List ℕ) (t : Token) (old : ModuleBuild) (s : Spot) (f : Fault) → s ≡ spot_of (opens_of old) → (s ≡ spot.Procedure → ⊥) → FaultOfGiven (λ s o. StatementGives s place text (t ∷ []) o) place old f → FaultOfGiven (λ s o. LabelGives s place text t o) place old f
no_label_fault place text t old s f e h given = record {
  fault = λ lines built.
      let one = given.fault lines built in
      (one.0, no_label (spot_of (open_after [] lines)) place text t one.0 (elsewhere old s lines e h built) one.1, one.2);
  at = given.at;
}
