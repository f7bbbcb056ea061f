-- Items of a Case and optional types.
use Rattle.std.proofs.Common.{◌≡◌, ◌≤◌, max, List, [], ◌∷◌, length, get_or, take, drop, ◌-◌, sym, ap, ◌∙◌, subst, arith, Option, Some, None, codes, true, false, refl}
use Rattle.std.proofs.lemmas.List.{take_rest}
use Rattle.vb_tree.specs.declared.expression.BinOp.{BinOp}
use Rattle.vb_tree.specs.declared.token.Token.{Token}
use Rattle.vb_tree.specs.Tree.{Exp, TypeName, CaseItem, case_value, case_range, case_is, given}
use Rattle.vb_tree.specs.Expressions.{IsExpression, depth_of}
use Rattle.form_parts.specs.declared.answer.PartFail.{PartFail}
use Rattle.form_parts.specs.Answer.{FailsFor}
use Rattle.form_parts.specs.Words.{is_key}
use Rattle.form_parts.specs.Parts.{IsJoined, IsTypeName, type_depth}
use Rattle.form_parts.specs.Cases.{comparison, begins_is, IsCaseItem, case_depth}
use Rattle.form_parts.specs.Redims.{IsOptionalType, optional_type_depth}
use Rattle.form_parts.specs.Arguments.{IsArgument, argument_depth, argument_name, past_name, past_mark, begins_marked}
use Rattle.form_parts.proofs.Answering.{fails_along}
use Rattle.form_parts.proofs.Joining.{one_joined, joined_not_whole, to_joint}

pub test_fails : (tokens : List Token) (s : Token) (o : BinOp) → begins_is tokens ≡ true → 2 ≤ length tokens → s ≡ get_or tokens 1 s → comparison s.kind ≡ Some o → (f : PartFail) → FailsFor (IsExpression (take (length tokens - 2) (drop 2 tokens))) depth_of f → FailsFor (IsCaseItem tokens) case_depth f
test_fails [] s o first low at op = absurd (omega arith)
test_fails (a ∷ []) s o first low at op = absurd (omega arith)
test_fails (a ∷ b ∷ rest) s o first low at op =
    let same : comparison b.kind ≡ Some o = ap (λ x. comparison x.kind) (sym at) ∙ op in
    λ f h. fails_along (IsExpression rest) depth_of (IsCaseItem (a ∷ b ∷ rest)) case_depth (λ e h. (case_is o e, (first, (same, h)), omega arith)) back f (subst (λ x. FailsFor (IsExpression x) depth_of f) (take_rest (a ∷ b ∷ rest) 2) h)
  where
    back : (i : CaseItem) → IsCaseItem (a ∷ b ∷ rest) i → (e : Exp) × IsExpression rest e
    back (case_value e) q = absurd (cc (first, q.0))
    back (case_range e g) q = absurd (cc (first, q.0))
    back (case_is p e) q = (e, q.1.1)

module _ (tokens : List Token) (plain : begins_is tokens ≡ false) where
  pair_of : (before after : List Token) → IsJoined (codes "to") tokens before after → (i : CaseItem) → IsCaseItem tokens i → (p : Exp × Exp) × (IsExpression before p.0 × IsExpression after p.1)
  pair_of before after j (case_value u) q = absurd (joined_not_whole (codes "to") tokens before after to_joint j u q.1)
  pair_of before after j (case_range l u) q =
      let same = one_joined (codes "to") tokens before after q.1 q.2 to_joint j q.3 in
      ((l, u), (subst (λ x. IsExpression x l) (sym same.0) q.4, subst (λ x. IsExpression x u) (sym same.1) q.5))
  pair_of before after j (case_is o e) q = absurd (cc (plain, q.0))

  pub range_fails : (before after : List Token) → IsJoined (codes "to") tokens before after → (f : PartFail) → FailsFor (λ (p : Exp × Exp). IsExpression before p.0 × IsExpression after p.1) (λ p. max (depth_of p.0) (depth_of p.1)) f → FailsFor (IsCaseItem tokens) case_depth f
  range_fails before after j =
      fails_along (λ (p : Exp × Exp). IsExpression before p.0 × IsExpression after p.1) (λ p. max (depth_of p.0) (depth_of p.1)) (IsCaseItem tokens) case_depth
      (λ p h. (case_range p.0 p.1, (plain, before, after, j, h.0, h.1), omega arith))
      (λ b q. pair_of before after j b q)

  value_of : ((before after : List Token) → IsJoined (codes "to") tokens before after → ⊥) → (i : CaseItem) → IsCaseItem tokens i → (x : Exp) × IsExpression tokens x
  value_of none (case_value u) q = (u, q.1)
  value_of none (case_range l u) q = absurd (none q.1 q.2 q.3)
  value_of none (case_is o e) q = absurd (cc (plain, q.0))

  pub value_fails : ((before after : List Token) → IsJoined (codes "to") tokens before after → ⊥) → (f : PartFail) → FailsFor (IsExpression tokens) depth_of f → FailsFor (IsCaseItem tokens) case_depth f
  value_fails none =
      fails_along (IsExpression tokens) depth_of (IsCaseItem tokens) case_depth
      (λ x h. (case_value x, (plain, h), omega arith))
      (λ b q. value_of none b q)

typed_of : (a : Token) (rest : List Token) (ty : Option TypeName) → IsOptionalType (a ∷ rest) ty → (t : TypeName) × IsTypeName rest t
typed_of a rest None q = absurd q
typed_of a rest (Some t) q = (t, q.1)

pub optional_type_fails : (tokens : List Token) (a : Token) → 1 ≤ length tokens → a ≡ get_or tokens 0 a → is_key (codes "as") a ≡ true → (f : PartFail) → FailsFor (IsTypeName (take (length tokens - 1) (drop 1 tokens))) type_depth f → FailsFor (IsOptionalType tokens) optional_type_depth f
optional_type_fails [] a low at key = absurd (omega arith)
optional_type_fails (b ∷ rest) a low at key =
    let same : is_key (codes "as") b ≡ true = ap (is_key (codes "as")) (sym at) ∙ key in
    λ f h. fails_along (IsTypeName rest) type_depth (IsOptionalType (b ∷ rest)) optional_type_depth (λ t h. (Some t, (same, h), omega arith)) (λ ty q. typed_of b rest ty q) f (subst (λ x. FailsFor (IsTypeName x) type_depth f) (take_rest (b ∷ rest) 1) h)

pub argument_fails : (tokens valued unmarked : List Token) → 1 ≤ length tokens → valued ≡ past_name tokens → unmarked ≡ past_mark valued → (f : PartFail) → FailsFor (IsExpression unmarked) depth_of f → FailsFor (IsArgument tokens) argument_depth f
argument_fails [] valued unmarked low e g = absurd (omega arith)
argument_fails (t ∷ ts) valued unmarked low e g =
    let same : unmarked ≡ past_mark (past_name (t ∷ ts)) = g ∙ ap past_mark e in
    fails_along (IsExpression unmarked) depth_of (IsArgument (t ∷ ts)) argument_depth
    (λ x h. (record { name = argument_name (t ∷ ts); marked = begins_marked (past_name (t ∷ ts)); value = given x }, (x, subst (λ z. IsExpression z x) same h, refl), omega arith))
    (λ a q. (q.0, subst (λ z. IsExpression z q.0) (sym same) q.1))
