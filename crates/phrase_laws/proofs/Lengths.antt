-- How deep expressions are nested and how many suffixes and items they have: no more than their texts are long.
use Rattle.std.proofs.Common.{ℕ, suc, ◌+◌, ◌≤◌, List, ◌++◌, length, codes, ap, arith, length-append, []}
use Rattle.net_tree.specs.Tree.{Exp, Exps, binary, call_of, cast, ctype, dot, lit, me, new_array, new_object, next_exp, no_exps, nothing, paren, path, type_of, unary, with_dot}
use Rattle.net_tree.specs.Spelling.{name_text, separated}
use Rattle.net_tree.specs.Expressions.{cast_text, exp_text, exp_texts, operator_text, type_text, unary_text}
use Rattle.net_tree.specs.Depth.{depth_exp, depth_exps}
use Rattle.net_tree.specs.Depth.{depth_type}
use Rattle.phrase_laws.proofs.TypesRead.{base_of, depth_bound, ranks_text, type_parts}

-- the suffixes that are read behind the head
abbrev pub spent : Exp → ℕ
spent (dot e name) = suc (spent e)
spent (call_of e args) = suc (spent e)
spent (new_object t args) = 1
spent (new_array t bounds) = 2 + depth_type t
spent _ = 0

abbrev pub count_exps : Exps → ℕ
count_exps no_exps = 0
count_exps (next_exp e more) = suc (count_exps more)

pub is_nested : (e : Exp) → 1 ≤ depth_exp e
is_nested (lit l) = omega arith
is_nested _ = omega arith

-- ---- texts

dotted_length : (x y : List ℕ) → length x + 1 ≤ length (x ++ codes "." ++ y)
dotted_length x y = simp length-append (omega arith)

called_length : (x y : List ℕ) → length x + length y + 2 ≤ length (x ++ (codes "(" ++ y ++ codes ")"))
called_length x y = simp length-append (omega arith)

cast_length : (w x : List ℕ) → length x + 2 ≤ length (w ++ codes "(" ++ x ++ codes ")")
cast_length w x = simp length-append (omega arith)

typed_length : (w x v t : List ℕ) → length x + 1 ≤ length (w ++ x ++ v ++ t ++ codes ")")
typed_length w x v t = simp length-append (omega arith)

unary_length : (o x : List ℕ) → length x + 2 ≤ length (codes "(" ++ o ++ x ++ codes ")")
unary_length o x = simp length-append (omega arith)

binary_length : (x o y : List ℕ) → length x + length o + length y + 2 ≤ length (codes "(" ++ x ++ o ++ y ++ codes ")")
binary_length x o y = simp length-append (omega arith)

object_length : (t y : List ℕ) → length y + 6 ≤ length (codes "New " ++ t ++ (codes "(" ++ y ++ codes ")"))
object_length t y = simp length-append (omega arith)

array_length : (t y : List ℕ) → length t + length y + 9 ≤ length (codes "New " ++ t ++ (codes "(" ++ y ++ codes ")") ++ codes " {}")
array_length t y = simp length-append (omega arith)

listed_length : (x y : List ℕ) → length x + length y + 2 ≤ length (x ++ codes ", " ++ y)
listed_length x y = simp length-append (omega arith)

-- ---- bounds

pub spent_within : (e : Exp) → spent e ≤ length (exp_text e)
spent_within (dot a name) = omega (arith, spent_within a, dotted_length (exp_text a) (name_text name))
spent_within (call_of a args) = omega (arith, spent_within a, called_length (exp_text a) (separated (codes ", ") (exp_texts args)))
spent_within (new_object t args) = omega (arith, object_length (type_text t) (separated (codes ", ") (exp_texts args)))
spent_within (new_array t bounds) =
    omega (arith, array_length (type_text t) (separated (codes ", ") (exp_texts bounds)), ap length (type_parts t), length-append (type_text (base_of t)) (ranks_text t), depth_bound t)
spent_within _ = omega arith

pub count_within : (es : Exps) → count_exps es ≤ suc (length (separated (codes ", ") (exp_texts es)))
count_within no_exps = omega arith
count_within (next_exp e no_exps) = omega arith
count_within (next_exp e (next_exp f more)) =
    omega (arith, count_within (next_exp f more), listed_length (exp_text e) (separated (codes ", ") (exp_texts (next_exp f more))))

mutual
  pub depth_within : (e : Exp) → depth_exp e ≤ suc (length (exp_text e))
  depth_within (lit l) = omega arith
  depth_within nothing = omega arith
  depth_within me = omega arith
  depth_within (path names) = omega arith
  depth_within (with_dot name) = omega arith
  depth_within (dot a name) = omega (arith, depth_within a, dotted_length (exp_text a) (name_text name))
  depth_within (call_of a args) = omega (arith, depth_within a, depth_all_within args, called_length (exp_text a) (separated (codes ", ") (exp_texts args)))
  depth_within (cast w a) = omega (arith, depth_within a, cast_length (cast_text w) (exp_text a))
  depth_within (ctype a t) = omega (arith, depth_within a, typed_length (codes "CType(") (exp_text a) (codes ", ") (type_text t))
  depth_within (unary o a) = omega (arith, depth_within a, unary_length (unary_text o) (exp_text a))
  depth_within (binary o a b) = omega (arith, depth_within a, depth_within b, binary_length (exp_text a) (operator_text o) (exp_text b))
  depth_within (paren a) = omega (arith, depth_within a, unary_length [] (exp_text a))
  depth_within (new_object t args) = omega (arith, depth_all_within args, object_length (type_text t) (separated (codes ", ") (exp_texts args)))
  depth_within (new_array t bounds) = omega (arith, depth_all_within bounds, array_length (type_text t) (separated (codes ", ") (exp_texts bounds)))
  depth_within (type_of a t) = omega (arith, depth_within a, typed_length (codes "(TypeOf ") (exp_text a) (codes " Is ") (type_text t))

  pub depth_all_within : (es : Exps) → depth_exps es ≤ suc (length (separated (codes ", ") (exp_texts es)))
  depth_all_within no_exps = omega arith
  depth_all_within (next_exp e no_exps) = omega (arith, depth_within e)
  depth_all_within (next_exp e (next_exp f more)) =
      omega (arith, depth_within e, depth_all_within (next_exp f more), listed_length (exp_text e) (separated (codes ", ") (exp_texts (next_exp f more))))
