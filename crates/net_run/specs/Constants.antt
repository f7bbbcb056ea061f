-- The values of constants and of what is written for them.
use Rattle.std.specs.Prelude.{ℕ, Bool, cond, List, [], ◌∷◌, codes}
use Rattle.std.specs.Cmp.Lexicographic.{pointwise}
use Rattle.up_base.specs.Names.{is_same_name}
use Rattle.vb6_meaning.specs.Answers.{Answer, gives, outside, then_answer}
use Rattle.net_tree.specs.declared.expression.OpN.TheVariants.{Bin, Un}
use Rattle.net_tree.specs.Tree.{Exp, Exps, no_exps, next_exp, lit, nothing, me, path, with_dot, dot, call_of, cast, ctype, unary, binary, paren, new_object, new_array, type_of}
use Rattle.net_meaning.specs.declared.value.ValueN.{ValueN}
use Rattle.net_meaning.specs.declared.value.ValueN.TheVariants as n
use Rattle.net_meaning.specs.Conversions.{coerce_net}
use Rattle.net_meaning.specs.Library.{unit_text}
use Rattle.net_meaning.specs.Operators.{operate_net}
use Rattle.net_meaning.specs.WrittenLiterals.{literal_value}
use Rattle.net_meaning.specs.WrittenRows.{cast_type}

abbrev pub is_same_path : List (List ℕ) → List (List ℕ) → Bool
is_same_path a b = pointwise is_same_name a b

abbrev pub strings : List ℕ → List (List ℕ)
strings name = codes "Microsoft" ∷ codes "VisualBasic" ∷ codes "Strings" ∷ name ∷ []

abbrev pub unit_text_path : List (List ℕ)
unit_text_path = strings (codes "ChrW")

abbrev pub unit_texts : List (List ℕ) → List ValueN → Answer ValueN
unit_texts names [] = outside
unit_texts names (x ∷ []) = cond (is_same_path names unit_text_path) (unit_text x) outside
unit_texts names (x ∷ y ∷ xs) = outside

abbrev pub constant_call : Exp → List ValueN → Answer ValueN
constant_call (path names) xs = unit_texts names xs
constant_call (lit l) xs = outside
constant_call nothing xs = outside
constant_call me xs = outside
constant_call (with_dot name) xs = outside
constant_call (dot e name) xs = outside
constant_call (call_of e args) xs = outside
constant_call (cast word e) xs = outside
constant_call (ctype e ty) xs = outside
constant_call (unary op e) xs = outside
constant_call (binary op a b) xs = outside
constant_call (paren e) xs = outside
constant_call (new_object ty args) xs = outside
constant_call (new_array ty bounds) xs = outside
constant_call (type_of e ty) xs = outside

-- A constant is made of literals, `ChrW` of a unit, conversions and operators. Whatever else stands there is no constant.
abbrev mutual
  pub constant_of : Exp → Answer ValueN
  constant_of (lit l) = gives (literal_value l)
  constant_of nothing = gives n.Nothing
  constant_of (cast word e) = then_answer (constant_of e) (λ x. coerce_net x (cast_type word))
  constant_of (unary op e) = then_answer (constant_of e) (λ x. operate_net (Un op) x x)
  constant_of (binary op a b) = then_answer (constant_of a) (λ x. then_answer (constant_of b) (λ y. operate_net (Bin op) x y))
  constant_of (paren e) = constant_of e
  constant_of (call_of callee args) = then_answer (constants_of args) (constant_call callee)
  constant_of me = outside
  constant_of (path names) = outside
  constant_of (with_dot name) = outside
  constant_of (dot e name) = outside
  constant_of (ctype e ty) = outside
  constant_of (new_object ty args) = outside
  constant_of (new_array ty bounds) = outside
  constant_of (type_of e ty) = outside

  pub constants_of : Exps → Answer (List ValueN)
  constants_of no_exps = gives []
  constants_of (next_exp e rest) = then_answer (constant_of e) (λ x. then_answer (constants_of rest) (λ xs. gives (x ∷ xs)))
