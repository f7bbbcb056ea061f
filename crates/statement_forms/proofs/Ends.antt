-- Lists of tokens from their end.
use Rattle.std.proofs.Common.{◌≡◌, List, [], ◌∷◌, ◌++◌, refl, ap, ◌∙◌, Option, Some, None, option_map, Bool, true, false, cond}
use Rattle.vb_tree.specs.declared.token.Token.{Token}
use Rattle.statement_forms.specs.Fronts.{before_last}

abbrev some_where : Bool → List Token → Option (List Token)
some_where b front = cond b (Some front) None

longer : (b : Bool) (t : Token) (front : List Token) → option_map (λ x. t ∷ x) (some_where b front) ≡ some_where b (t ∷ front)
longer true t front = refl
longer false t front = refl

pub before_last_is : (p : Token → Bool) (front : List Token) (t : Token) → before_last p (front ++ t ∷ []) ≡ cond (p t) (Some front) None
before_last_is p [] t = refl
before_last_is p (a ∷ []) t = longer (p t) a []
before_last_is p (a ∷ b ∷ front) t = ap (option_map (λ x. a ∷ x)) (before_last_is p (b ∷ front) t) ∙ longer (p t) a (b ∷ front)
