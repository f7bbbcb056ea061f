-- Types: a name, or `String * e`.
use Rattle.std.proofs.Common.{◌≡◌, ℕ, List, [], ◌∷◌, sym, ap, ◌∙◌, subst, arith, refl, Option, Some, None, false}
use Rattle.vb_tree.specs.declared.token.Token.{Token}
use Rattle.vb_tree.specs.Tree.{Exp, TypeName, named, fixed_string}
use Rattle.vb_tree.specs.Expressions.{IsExpression, depth_of}
use Rattle.form_parts.specs.declared.answer.PartFail.{PartFail}
use Rattle.form_parts.specs.Answer.{FailsFor}
use Rattle.form_parts.specs.Parts.{IsStringHead, IsTypeName, type_depth, named_type, with_library, behind_dot, is_dot, name_alone, name_of_token, word_of}
use Rattle.form_parts.proofs.Answering.{fails_along}

no_library : (n : Option (List ℕ)) → with_library n None ≡ None
no_library None = refl
no_library (Some n) = refl

string_not_named : (word star : Token) (rest : List Token) → is_dot star.kind ≡ false → named_type (word ∷ star ∷ rest) ≡ None
string_not_named word star [] h = refl
string_not_named word star (b ∷ []) h = ap (λ x. with_library (name_alone (name_of_token word)) (behind_dot x (word_of b.kind))) h ∙ no_library (name_alone (name_of_token word))
string_not_named word star (b ∷ e ∷ more) h = refl

-- what begins as String and a star is no name
pub string_no_name : (tokens rest : List Token) → IsStringHead tokens rest → named_type tokens ≡ None
string_no_name tokens rest head = ap named_type head.split ∙ string_not_named head.word head.star rest (ap is_dot head.sign)

module _ (tokens rest : List Token) (head : IsStringHead tokens rest) where
  units_of : (t : TypeName) → IsTypeName tokens t → (e : Exp) × IsExpression rest e
  units_of (named n) h = absurd (cc (h, string_no_name tokens rest head))
  units_of (fixed_string u) h =
      let same : h.0 ≡ rest = cc (sym h.1.split ∙ head.split) in
      (u, subst (λ x. IsExpression x u) same h.2)

  pub string_type_fails : (f : PartFail) → FailsFor (IsExpression rest) depth_of f → FailsFor (IsTypeName tokens) type_depth f
  string_type_fails =
      fails_along (IsExpression rest) depth_of (IsTypeName tokens) type_depth
      (λ e h. (fixed_string e, (rest, head, h), omega arith))
      (λ t h. units_of t h)

pub no_type : (tokens : List Token) → ((rest : List Token) → IsStringHead tokens rest → ⊥) → named_type tokens ≡ None → (t : TypeName) → IsTypeName tokens t → ⊥
no_type tokens none name (named n) h = absurd (cc (h, name))
no_type tokens none name (fixed_string u) h = none h.0 h.1
