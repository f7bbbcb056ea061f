-- What is read of one statement is what it means.
use Rattle.std.proofs.Common.{◌≡◌, List, [], ◌∷◌, ◌++◌, length, map, Option, Some, None, Bool, is_some, option_and_then, Result, Ok, Err, sym, ap, ◌∙◌, subst}
use Rattle.std.specs.Global.{Box}
use Rattle.std.proofs.lemmas.List.{map_push}
use Rattle.vb_tree.specs.declared.expression.Expr6.{Expr6}
use Rattle.vb_tree.specs.declared.form.Form6.{Form6}
use Rattle.vb_tree.specs.declared.token.Token.{Token}
use Rattle.vb_tree.specs.Expressions.{IsExpression, depth_of}
use Rattle.vb_tree.specs.Tree.{Exp, line_if}
use Rattle.vb_tree.specs.View.{exp_of, form_of}
use Rattle.form_parts.specs.declared.answer.PartFail.{PartFail}
use Rattle.form_parts.specs.declared.answer.PartFail.TheVariants as part
use Rattle.form_parts.specs.Answer.{Answers}
use Rattle.declaration_forms.specs.declared.starts.Spot.{Spot}
use Rattle.declaration_forms.specs.declared.starts.Spot.TheVariants as spot
use Rattle.declaration_forms.specs.DeclarationForms.{IsDeclaration, form_depth}
use Rattle.declaration_forms.specs.Starts.{procedure_start}
use Rattle.statement_forms.specs.declared.pieces.FormFail as statement_fail
use Rattle.statement_forms.specs.declared.pieces.FormFail.TheVariants as statement
use Rattle.statement_forms.specs.declared.pieces.Piece as statement_piece
use Rattle.statement_forms.specs.Fronts.{before_then, behind_key}
use Rattle.statement_forms.specs.LineForms.{Behind, IsMeant}
use Rattle.statement_forms.specs.Pieces.{Slot, ItemMeans, ArePieces, AnswersSlots, AnswersList, AnswersStatement, list_of, list_slots}
use Rattle.vb_lines.specs.declared.forms.FormFail.{FormFail}
use Rattle.vb_lines.specs.declared.forms.FormFail.TheVariants as fail
use Rattle.vb_lines.specs.declared.forms.Piece.{Piece}
use Rattle.vb_lines.specs.Boxing.{Passes, PassesAll, plain_piece, enclosed}
use Rattle.vb_lines.specs.Forms.{PlainPiece, FormAnswer, has_form, no_form, too_deep, Meaning, piece_of, whole, Declares, AreGiven, SlotsMean, ListMeans, States, DeclaresOrStates, MeansThere, FormsOf, IsCondition, ReadAs, IsFormAnswer, IsHeadAnswer}

-- ---- declaration lines

abbrev Boxed : Form6 → Box Form6 → Type 0
Boxed a b = b.value ≡ a

pub declared_form : (s : Spot) (ts : List Token) (r : Result Form6 PartFail) (b : Box Form6) (pieces : List Piece) → Answers form_of (IsDeclaration s ts) form_depth r → Passes Boxed r (Ok b) → map piece_of pieces ≡ whole ts (form_of b.value) → Declares s ts (has_form (map piece_of pieces))
declared_form s ts (Ok a) b pieces h p e = (form_of a, h.0, h.1, e ∙ ap (λ x. whole ts (form_of x)) p)
declared_form s ts (Err part.NotFound) b pieces h p e = absurd cc
declared_form s ts (Err part.TooDeep) b pieces h p e = absurd cc
declared_form s ts (Err part.Mem) b pieces h p e = absurd cc

pub declared_fails : (s : Spot) (ts : List Token) (r : Result Form6 PartFail) (e : FormFail) → Answers form_of (IsDeclaration s ts) form_depth r → Passes Boxed r (Err e) → ReadAs (Declares s ts) (Err e)
declared_fails s ts (Ok a) fail.NoForm h p = absurd p
declared_fails s ts (Ok a) fail.TooDeep h p = absurd p
declared_fails s ts (Ok a) fail.Mem h p = tt
declared_fails s ts (Err part.NotFound) fail.NoForm h p = h
declared_fails s ts (Err part.NotFound) fail.TooDeep h p = absurd cc
declared_fails s ts (Err part.NotFound) fail.Mem h p = tt
declared_fails s ts (Err part.TooDeep) fail.NoForm h p = absurd cc
declared_fails s ts (Err part.TooDeep) fail.TooDeep h p = h
declared_fails s ts (Err part.TooDeep) fail.Mem h p = tt
declared_fails s ts (Err part.Mem) fail.NoForm h p = absurd cc
declared_fails s ts (Err part.Mem) fail.TooDeep h p = absurd cc
declared_fails s ts (Err part.Mem) fail.Mem h p = tt

-- ---- other statements

given : (M : Meaning) (slots : List Slot) (xs : List statement_piece.Piece) → ArePieces M slots xs → AreGiven M slots (map plain_piece xs)
given M [] [] h = tt
given M [] (x ∷ xs) h = absurd h
given M (s ∷ ss) [] h = absurd h
given M (s ∷ ss) (x ∷ xs) h = (h.0, given M ss xs h.1)

slots_answer : (M : Meaning) (slots : List Slot) (r : Result (List statement_piece.Piece) statement_fail.FormFail) (q : Result (List Piece) FormFail) → AnswersSlots M slots r → PassesAll plain_piece r q → ReadAs (SlotsMean M slots) q
slots_answer M slots (Ok xs) (Ok pieces) h p = subst (λ ps. AreGiven M slots ps) (sym p) (given M slots xs h)
slots_answer M slots (Ok xs) (Err fail.NoForm) h p = absurd p
slots_answer M slots (Ok xs) (Err fail.TooDeep) h p = absurd p
slots_answer M slots (Ok xs) (Err fail.Mem) h p = tt
slots_answer M slots (Err (statement.NoForm k)) q h p = subst (λ q. ReadAs (SlotsMean M slots) q) (sym p) (k, h)
slots_answer M slots (Err (statement.TooDeep k)) q h p = subst (λ q. ReadAs (SlotsMean M slots) q) (sym p) (k, h)
slots_answer M slots (Err statement.Mem) q h p = subst (λ q. ReadAs (SlotsMean M slots) q) (sym p) tt

list_answer : (ts : List Token) (l : Option (Bool × List Token)) (r : Result (List statement_piece.Piece) statement_fail.FormFail) (q : Result (List Piece) FormFail) → AnswersList ts l r → PassesAll plain_piece r q → ReadAs (ListMeans ts l) q
list_answer ts (Some l) r q h p = slots_answer (ItemMeans l.0) (list_slots l.1) r q h p
list_answer ts None r q h p = slots_answer IsMeant ((ts, (0, length ts)) ∷ []) r q h p

pub states_answer : (ts : List Token) (r : Result (List statement_piece.Piece) statement_fail.FormFail) (q : Result (List Piece) FormFail) → AnswersStatement ts r → PassesAll plain_piece r q → ReadAs (States ts) q
states_answer ts r q h p = list_answer ts (list_of ts) r q h p

-- ---- where a statement stands

read_as : (P Q : FormAnswer → Type 0) (r : Result (List Piece) FormFail) → ((a : FormAnswer) → P a → Q a) → ReadAs P r → ReadAs Q r
read_as P Q (Ok pieces) f h = f (has_form (map piece_of pieces)) h
read_as P Q (Err fail.NoForm) f h = f no_form h
read_as P Q (Err fail.TooDeep) f h = f too_deep h
read_as P Q (Err fail.Mem) f h = tt

pub there : (s : Spot) (ts : List Token) (r : Result (List Piece) FormFail) → ReadAs (MeansThere s ts) r → IsFormAnswer s ts r
there s ts r h = read_as (MeansThere s ts) (FormsOf s ts) r (λ a m. record { is = m }) h

pub begins : (ts : List Token) (b : Bool) (r : Result (List Piece) FormFail) → b ≡ is_some (procedure_start ts) → ReadAs (DeclaresOrStates b ts) r → IsFormAnswer spot.Procedure ts r
begins ts b r e h = there spot.Procedure ts r (subst (λ b. ReadAs (DeclaresOrStates b ts) r) e h)

-- ---- heads of Ifs on one line

condition : (ts : List Token) (o : Option (List Token)) (e : Exp) → enclosed ts ≡ o → IsCondition spot.Procedure ts e → Behind o (λ inner. IsExpression inner e)
condition ts o e is h = subst (λ o. Behind o (λ inner. IsExpression inner e)) is (by (behind_key _ ts) h)
  where
    by : (o : Option (List Token)) → Behind o (λ rest. Behind (before_then rest) (λ inner. IsExpression inner e)) → Behind (option_and_then before_then o) (λ inner. IsExpression inner e)
    by None h = h
    by (Some rest) h = h

is_condition : (ts : List Token) (o : Option (List Token)) (e : Exp) → enclosed ts ≡ o → Behind o (λ inner. IsExpression inner e) → IsCondition spot.Procedure ts e
is_condition ts o e is h = by (behind_key _ ts) (subst (λ o. Behind o (λ inner. IsExpression inner e)) (sym is) h)
  where
    by : (o : Option (List Token)) → Behind (option_and_then before_then o) (λ inner. IsExpression inner e) → Behind o (λ rest. Behind (before_then rest) (λ inner. IsExpression inner e))
    by None h = h
    by (Some rest) h = h

abbrev Lined : Expr6 → Box Form6 → Type 0
Lined e form = form_of form.value ≡ line_if (exp_of e)

pub head_reads : (ts inner : List Token) (r : Result Expr6 PartFail) (q : Result (Box Form6) FormFail) → enclosed ts ≡ Some inner → Answers exp_of (IsExpression inner) depth_of r → Passes Lined r q → IsHeadAnswer spot.Procedure ts q
head_reads ts inner (Ok x) (Ok b) is h p = record { is = (exp_of x, is_condition ts (Some inner) (exp_of x) is h.0, h.1, p) }
head_reads ts inner (Ok x) (Err fail.NoForm) is h p = absurd p
head_reads ts inner (Ok x) (Err fail.TooDeep) is h p = absurd p
head_reads ts inner (Ok x) (Err fail.Mem) is h p = tt
head_reads ts inner (Err part.NotFound) q is h p = subst (λ q. IsHeadAnswer spot.Procedure ts q) (sym p) (record { is = λ e c. h e (condition ts (Some inner) e is c) })
head_reads ts inner (Err part.TooDeep) q is h p = subst (λ q. IsHeadAnswer spot.Procedure ts q) (sym p) (record { is = (h.0, is_condition ts (Some inner) h.0 is h.1, h.2) })
head_reads ts inner (Err part.Mem) q is h p = subst (λ q. IsHeadAnswer spot.Procedure ts q) (sym p) tt

-- ---- code lines behind Boxes

pub boxed_more : {A : Type 0} (plain : A → PlainPiece) (pieces new : List Piece) (p : Piece) (done : List A) (x : A) → new ≡ pieces ++ p ∷ [] → piece_of p ≡ plain x → map piece_of pieces ≡ map plain done → map piece_of new ≡ map plain (done ++ x ∷ [])
boxed_more plain pieces new p done x is same all =
    let both : map piece_of pieces ++ piece_of p ∷ [] ≡ map plain done ++ plain x ∷ [] = λ i. all i ++ same i ∷ [] in
    ap (map piece_of) is ∙ map_push piece_of pieces p ∙ both ∙ sym (map_push plain done x)
