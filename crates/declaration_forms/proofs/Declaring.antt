-- From the answers to the parts of a declaration to that of the declaration.
use Rattle.std.proofs.Common.{◌≡◌, ℕ, ◌<◌, ◌≤◌, max, List, [], ◌∷◌, refl, sym, ap, ◌∙◌, subst, arith, Bool, true, false, Option, Some, None, is_some, Result, Ok, Err, Bor}
use Rattle.vb_tree.specs.declared.form_parts.Visibility.{Visibility}
use Rattle.vb_tree.specs.declared.token.Token.{Token}
use Rattle.vb_tree.specs.Tree.{Exp, Bounds, TypeName, Declarator, Constant, Param, Signature, ResultType, Form, field, enum_member}
use Rattle.vb_tree.specs.Expressions.{IsExpression, depth_of}
use Rattle.form_parts.specs.declared.answer.PartFail.{PartFail}
use Rattle.form_parts.specs.Answer.{FailsFor, Answers}
use Rattle.form_parts.specs.Items.{deepest}
use Rattle.form_parts.specs.Parts.{IsTypeName, type_depth, IsBounds, bounds_depth}
use Rattle.form_parts.proofs.Answering.{fails_along}
use Rattle.declaration_forms.specs.declared.heads.Words.{Words}
use Rattle.declaration_forms.specs.DeclarationForms.{form_depth}
use Rattle.declaration_forms.specs.Heads.{ParamOf, param_depth, AreParams, SignatureOf, signature_depth, IsResultWith, result_depth, is_empty_pair}
use Rattle.declaration_forms.specs.Now.{tokens_now}
use Rattle.declaration_forms.specs.Outlines.{Outline}
use Rattle.declaration_forms.specs.Variables.{is_new, type_in, DeclaratorOf, declarator_depth, ConstantOf, constant_depth, FieldOf, MemberOf, dimensions_depth}
use Rattle.declaration_forms.specs.Wholes.{IsOptional, IsGiven, AreItems, optional_depth}

pub some_now : (i : Option (Bor (List Token))) → is_some i ≡ is_some (tokens_now i)
some_now None = refl
some_now (Some x) = refl

module _ (o : Outline) where
  abbrev pub Dimensioned : Option (List Bounds) × Option TypeName → Type 0
  Dimensioned p = IsOptional (AreItems IsBounds) o.inside p.0 × IsOptional IsTypeName (type_in o.ty) p.1

  pub declarator_fails : (f : PartFail) → FailsFor Dimensioned (λ p. max (dimensions_depth p.0) (optional_depth type_depth p.1)) f → FailsFor (DeclaratorOf o) declarator_depth f
  declarator_fails =
      fails_along Dimensioned (λ p. max (dimensions_depth p.0) (optional_depth type_depth p.1)) (DeclaratorOf o) declarator_depth
      (λ p h. (record { name = o.name; suffix = o.suffix; bounds = p.0; auto = is_new o.ty; ty = p.1 }, record { name = refl; suffix = refl; auto = refl; bounds = h.0; ty = h.1 }, omega arith))
      (λ d h. ((d.bounds, d.ty), (h.bounds, h.ty)))

  module _ (behind : List Token) (alone : o.inside ≡ None) where
    abbrev pub Valued : Option TypeName × Exp → Type 0
    Valued p = IsOptional IsTypeName o.ty p.0 × IsExpression behind p.1

    pub constant_fails : (f : PartFail) → FailsFor Valued (λ p. max (optional_depth type_depth p.0) (depth_of p.1)) f → FailsFor (ConstantOf behind o) constant_depth f
    constant_fails =
        fails_along Valued (λ p. max (optional_depth type_depth p.0) (depth_of p.1)) (ConstantOf behind o) constant_depth
        (λ p h. (record { name = o.name; suffix = o.suffix; ty = p.0; value = p.1 }, record { name = refl; suffix = refl; alone = alone; ty = h.0; value = h.1 }, omega arith))
        (λ c h. ((c.ty, c.value), (h.ty, h.value)))

  module _ (tokens : List Token) (typed : o.ty ≡ Some tokens) where
    abbrev pub Fielded : Option (List Bounds) × TypeName → Type 0
    Fielded p = IsOptional (AreItems IsBounds) o.inside p.0 × IsTypeName tokens p.1

    given_type : (t : TypeName) → IsGiven IsTypeName o.ty t → IsTypeName tokens t
    given_type t h = subst (λ z. IsGiven IsTypeName z t) typed h

    type_given : (t : TypeName) → IsTypeName tokens t → IsGiven IsTypeName o.ty t
    type_given t h = subst (λ z. IsGiven IsTypeName z t) (sym typed) h

    pub field_gives : (b : Option (List Bounds)) (t : TypeName) → IsOptional (AreItems IsBounds) o.inside b → IsTypeName tokens t → FieldOf o (field o.name o.suffix b t)
    field_gives b t h k = record { bounds = b; ty = t; dimensions = h; typed = type_given t k; form = refl }

    pub field_fails : (f : PartFail) → FailsFor Fielded (λ p. max (dimensions_depth p.0) (type_depth p.1)) f → FailsFor (FieldOf o) form_depth f
    field_fails =
        fails_along Fielded (λ p. max (dimensions_depth p.0) (type_depth p.1)) (FieldOf o) form_depth
        (λ p h. (field o.name o.suffix p.0 p.1, field_gives p.0 p.1 h.0 h.1, omega arith))
        (λ f h. ((h.bounds, h.ty), (h.dimensions, given_type h.ty h.typed)))

  module _ (behind : Option (List Token)) (alone : o.inside ≡ None) (untyped : o.ty ≡ None) where
    pub member_fails : (f : PartFail) → FailsFor (IsOptional IsExpression behind) (optional_depth depth_of) f → FailsFor (MemberOf behind o) form_depth f
    member_fails =
        fails_along (IsOptional IsExpression behind) (optional_depth depth_of) (MemberOf behind o) form_depth
        (λ e h. (enum_member o.name o.suffix e, record { alone = alone; untyped = untyped; given = e; value = h; form = refl }, omega arith))
        (λ f h. (h.given, h.value))

  module _ (words : Words) (default : Option (List Token)) (empty : is_empty_pair o.inside ≡ true) where
    abbrev pub Preset : Option TypeName × Option Exp → Type 0
    Preset p = IsOptional IsTypeName o.ty p.0 × IsOptional IsExpression default p.1

    pub param_fails : (f : PartFail) → FailsFor Preset (λ p. max (optional_depth type_depth p.0) (optional_depth depth_of p.1)) f → FailsFor (ParamOf words default o) param_depth f
    param_fails =
        fails_along Preset (λ p. max (optional_depth type_depth p.0) (optional_depth depth_of p.1)) (ParamOf words default o) param_depth
        (λ p h. (record { optional = words.optional; passing = words.passing; param_array = words.param_array; name = o.name; suffix = o.suffix; array = is_some o.inside; ty = p.0; preset = p.1 }, record { optional = refl; passing = refl; param_array = refl; name = refl; suffix = refl; empty = empty; array = refl; ty = h.0; preset = h.1 }, omega arith))
        (λ p h. ((p.ty, p.preset), (h.ty, h.preset)))

  pub signature_fails : (v : Option Visibility) (f : PartFail) → FailsFor (AreParams o.inside) (deepest param_depth) f → FailsFor (SignatureOf v o) signature_depth f
  signature_fails v =
      fails_along (AreParams o.inside) (deepest param_depth) (SignatureOf v o) signature_depth
      (λ ps h. (record { visibility = v; name = o.name; suffix = o.suffix; params = ps }, record { visibility_is = refl; name = refl; suffix = refl; params = h }, omega arith))
      (λ s h. (s.params, h.params))

pub result_fails : (tokens : List Token) (array : Bool) (f : PartFail) → FailsFor (IsTypeName tokens) type_depth f → FailsFor (IsResultWith tokens array) result_depth f
result_fails tokens array =
    fails_along (IsTypeName tokens) type_depth (IsResultWith tokens array) result_depth
    (λ t h. (record { ty = t; array = array }, (refl, h), omega arith))
    (λ r h. (r.ty, h.1))
