-- From the answers to the parts of a line to that of the line.
use Rattle.std.proofs.Common.{◌≡◌, ℕ, ◌<◌, ◌≤◌, max, List, [], ◌∷◌, refl, sym, ap, ◌∙◌, arith, Bool, true, false, Option, Some, None, is_none}
use Rattle.vb_tree.specs.declared.declared.ProcKind.{ProcKind}
use Rattle.vb_tree.specs.declared.declared.ProcKind.TheVariants as proc
use Rattle.vb_tree.specs.declared.form_parts.DefWord.{DefWord}
use Rattle.vb_tree.specs.declared.form_parts.LetterRange.{LetterRange}
use Rattle.vb_tree.specs.declared.form_parts.VarWord.{VarWord}
use Rattle.vb_tree.specs.declared.form_parts.Visibility.{Visibility}
use Rattle.vb_tree.specs.declared.token.Token.{Token}
use Rattle.vb_tree.specs.Tree.{Declarator, Constant, Signature, ResultType, Form, variables, constants, def_type, static_head, event_variables}
use Rattle.form_parts.specs.declared.answer.PartFail.{PartFail}
use Rattle.form_parts.specs.declared.cuts.Separator.TheVariants.{Comma}
use Rattle.form_parts.specs.Answer.{FailsFor}
use Rattle.form_parts.specs.Cuts.{pieces, Each}
use Rattle.form_parts.specs.Items.{deepest}
use Rattle.form_parts.proofs.Answering.{fails_along}
use Rattle.declaration_forms.specs.DeclarationForms.{form_depth, IsRange, flat, DefLine, VariablesLine, IsEventDeclarator, ConstantsLine, may_result, HeadOf, HeadLine, head_form, pair_depth}
use Rattle.declaration_forms.specs.Heads.{SignatureOf, signature_depth, IsResult, result_depth, head_depth}
use Rattle.declaration_forms.specs.Outlines.{Outline}
use Rattle.declaration_forms.specs.Variables.{IsDeclarator, IsConstant, declarator_depth, constant_depth}
use Rattle.declaration_forms.specs.Wholes.{IsOptional, optional_depth}

pub constants_fail : (v : Option Visibility) (rest : List Token) (f : PartFail) → FailsFor (Each IsConstant (pieces Comma rest)) (deepest constant_depth) f → FailsFor (ConstantsLine v rest) form_depth f
constants_fail v rest =
    fails_along (Each IsConstant (pieces Comma rest)) (deepest constant_depth) (ConstantsLine v rest) form_depth
    (λ xs h. (constants v xs, record { items = xs; each = h; form = refl }, omega arith))
    (λ f h. (h.items, h.each))

pub variables_fail : (w : VarWord) (rest : List Token) (f : PartFail) → FailsFor (Each IsDeclarator (pieces Comma rest)) (deepest declarator_depth) f → FailsFor (VariablesLine IsDeclarator rest (variables w)) form_depth f
variables_fail w rest =
    fails_along (Each IsDeclarator (pieces Comma rest)) (deepest declarator_depth) (VariablesLine IsDeclarator rest (variables w)) form_depth
    (λ xs h. (variables w xs, record { declarators = xs; each = h; form = refl }, omega arith))
    (λ f h. (h.declarators, h.each))

pub events_fail : (w : VarWord) (rest : List Token) (f : PartFail) → FailsFor (Each IsEventDeclarator (pieces Comma rest)) (deepest declarator_depth) f → FailsFor (VariablesLine IsEventDeclarator rest (event_variables w)) form_depth f
events_fail w rest =
    fails_along (Each IsEventDeclarator (pieces Comma rest)) (deepest declarator_depth) (VariablesLine IsEventDeclarator rest (event_variables w)) form_depth
    (λ xs h. (event_variables w xs, record { declarators = xs; each = h; form = refl }, omega arith))
    (λ f h. (h.declarators, h.each))

deepest-flat : (rs : List LetterRange) → deepest flat rs ≤ 0
deepest-flat [] = omega arith
deepest-flat (r ∷ rs) = let h = deepest-flat rs in omega (arith, h)

pub def_fails : (w : DefWord) (rest : List Token) (f : PartFail) → FailsFor (Each IsRange (pieces Comma rest)) (deepest flat) f → FailsFor (DefLine rest (def_type w)) form_depth f
def_fails w rest =
    fails_along (Each IsRange (pieces Comma rest)) (deepest flat) (DefLine rest (def_type w)) form_depth
    (λ xs h. (def_type w xs, record { ranges = xs; each = h; form = refl }, deepest-flat xs))
    (λ f h. (h.ranges, h.each))

-- where a head can have no result, it has none
none_given : (ty : Option (List Token)) (r : Option ResultType) → is_none ty ≡ true → IsOptional IsResult ty r → r ≡ None
none_given None None e h = refl
none_given None (Some r) e h = absurd h
none_given (Some ty) r e h = absurd (cc)

module _ (k : ProcKind) (v : Option Visibility) (o : Outline) where
  abbrev pub Signed : Signature × Option ResultType → Type 0
  Signed h = SignatureOf v o h.0 × IsOptional IsResult o.ty h.1

  pub head_fails : may_result k o.ty ≡ true → (f : PartFail) → FailsFor Signed (λ h. max (signature_depth h.0) (optional_depth result_depth h.1)) f → FailsFor (HeadOf k v o) pair_depth f
  head_fails may =
      fails_along Signed (λ h. max (signature_depth h.0) (optional_depth result_depth h.1)) (HeadOf k v o) pair_depth
      (λ p h. (p, record { signed = h.0; may = may; gives = h.1 }, omega arith))
      (λ p h. (p, (h.signed, h.gives)))

same_depth : (k : ProcKind) (ty : Option (List Token)) (s : Signature) (r : Option ResultType) → may_result k ty ≡ true → IsOptional IsResult ty r → form_depth (head_form k s r) ≡ head_depth s r
same_depth proc.Sub ty s r m h = ap (head_depth s) (sym (none_given ty r m h))
same_depth proc.Function ty s r m h = refl
same_depth proc.Get ty s r m h = refl
same_depth proc.Let ty s r m h = ap (head_depth s) (sym (none_given ty r m h))
same_depth proc.Set ty s r m h = ap (head_depth s) (sym (none_given ty r m h))

module _ (k : ProcKind) (v : Option Visibility) (o : Outline) where
  pub head_gives : (s : Signature) (r : Option ResultType) → HeadOf k v o (s, r) → head_depth s r ≤ 64 → HeadLine k v (head_form k) o (head_form k s r) × (form_depth (head_form k s r) ≤ 64)
  head_gives s r h d = (record { signature = s; result = r; head = h; form = refl }, let e = same_depth k o.ty s r h.may h.gives in omega (arith, e, d))

  pub head_line_fails : (f : PartFail) → FailsFor (HeadOf k v o) pair_depth f → FailsFor (HeadLine k v (head_form k) o) form_depth f
  head_line_fails =
      fails_along (HeadOf k v o) pair_depth (HeadLine k v (head_form k) o) form_depth
      (λ p h. (head_form k p.0 p.1, record { signature = p.0; result = p.1; head = h; form = refl }, let e = same_depth k o.ty p.0 p.1 h.may h.gives in omega (arith, e)))
      (λ f h. ((h.signature, h.result), h.head))

  pub static_head_fails : (f : PartFail) → FailsFor (HeadOf k v o) pair_depth f → FailsFor (HeadLine k v (static_head k) o) form_depth f
  static_head_fails =
      fails_along (HeadOf k v o) pair_depth (HeadLine k v (static_head k) o) form_depth
      (λ p h. (static_head k p.0 p.1, record { signature = p.0; result = p.1; head = h; form = refl }, omega arith))
      (λ f h. ((h.signature, h.result), h.head))
