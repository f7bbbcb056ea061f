-- From parts to what is made of them.
use Rattle.std.proofs.Common.{◌≡◌, ℕ, ◌≤◌, List, [], ◌∷◌, map, refl, sym, ap, subst, arith, Option, Some, None, Result, Ok, Err}
use Rattle.form_parts.specs.declared.answer.PartFail.{PartFail}
use Rattle.form_parts.specs.declared.answer.PartFail.TheVariants as fail
use Rattle.form_parts.specs.Answer.{Answers, FailsFor}
use Rattle.form_parts.proofs.Answering.{fails_along}
use Rattle.form_parts.specs.Arguments.{argument_of, args_from}
use Rattle.vb_tree.specs.declared.expression.Arg6.{Arg6}
use Rattle.vb_tree.specs.Tree.{Form, next_arg, opaque}
use Rattle.vb_tree.specs.View.{args_of, given_of, form_of}
use Rattle.vb_tree.specs.declared.form.Form6.{Form6}
use Rattle.vb_tree.specs.declared.token.Token.{Token}
use Rattle.statement_forms.specs.LineForms.{Behind, Made}
use Rattle.statement_forms.specs.Answer.{Holds, Reads, KeptIf}

-- where something stands, what is answered of it is answered of the whole
pub behind_answers : {A X C : Type 0} (o : Option C) (c : C) (v : A → X) (P : C → X → Type 0) (d : X → ℕ) (r : Result A PartFail) → o ≡ Some c → Answers v (P c) d r → Answers v (λ x. Behind o (λ z. P z x)) d r
behind_answers o c v P d r e h = subst (λ z. Answers v (λ x. Behind z (λ y. P y x)) d r) (sym e) h

pub behind_none : {X C : Type 0} (o : Option C) (P : C → X → Type 0) → o ≡ None → (x : X) → Behind o (λ z. P z x) → ⊥
behind_none o P e x h = subst (λ z. Behind z (λ y. P y x)) e h

pub made_fails : {X : Type 0} (Is : X → Type 0) (form : X → Form) (depth : X → ℕ) (f : PartFail) → FailsFor Is depth f → FailsFor (Holds (Made Is form depth)) (λ x. x.1) f
made_fails Is form depth = fails_along Is depth (Holds (Made Is form depth)) (λ x. x.1) (λ x h. ((form x, depth x), (x, h, refl, refl), omega arith)) (λ y h. (h.0, h.1))

-- what a list of arguments stands for, item by item
pub args_viewed : (xs : List Arg6) → args_of xs ≡ args_from (map argument_of xs)
args_viewed [] = refl
args_viewed (a ∷ xs) = ap (next_arg a.name a.marked (given_of a.value)) (args_viewed xs)

-- a line that is kept where a part was read
pub kept_answers : {A X : Type 0} (v : A → X) (Is : X → Type 0) (d : X → ℕ) (ts : List Token) (read : Result A PartFail) (r : Result Form6 PartFail) → Answers v Is d read → KeptIf read ts r → Reads (Made Is (λ x. opaque ts) d) r
kept_answers v Is d ts (Ok a) (Ok f) h k = (d (v a), (v a, h.0, k, refl), h.1)
kept_answers v Is d ts (Ok a) (Err fail.NotFound) h k = absurd k
kept_answers v Is d ts (Ok a) (Err fail.TooDeep) h k = absurd k
kept_answers v Is d ts (Ok a) (Err fail.Mem) h k = tt
kept_answers v Is d ts (Err e) r h k = subst (λ z. Reads (Made Is (λ x. opaque ts) d) z) (sym k) (made_fails Is (λ x. opaque ts) d e h)

-- a form that is made of a part that was read
pub made_answers : {A X : Type 0} (v : A → X) (Is : X → Type 0) (form : X → Form) (d : X → ℕ) (a : A) (f : Form6) → Is (v a) × (d (v a) ≤ 64) → form_of f ≡ form (v a) → Reads (Made Is form d) (Ok f)
made_answers v Is form d a f h e = (d (v a), (v a, h.0, e, refl), h.1)
