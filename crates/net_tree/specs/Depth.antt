-- How deep expressions are nested: an operand, an argument and what a member or an argument list stands behind; and arrays in
-- each other.
use Rattle.std.specs.Prelude.{ℕ, suc, max, Bool, nat_le}
use Rattle.net_tree.specs.Types as ty
use Rattle.net_tree.specs.Types.{TypeName}
use Rattle.net_tree.specs.Tree.{Exp, Exps, binary, call_of, cast, ctype, dot, lit, me, new_array, new_object, next_exp, no_exps, nothing, paren, path, type_of, unary, with_dot}

-- The deepest expression or type that is written: reading goes down the stack, and a file of parentheses needs no deep one.
abbrev pub most_nested : ℕ
most_nested = 1000

abbrev mutual
  pub depth_exp : Exp → ℕ
  depth_exp (lit l) = 1
  depth_exp nothing = 1
  depth_exp me = 1
  depth_exp (path names) = 1
  depth_exp (with_dot name) = 1
  depth_exp (dot e name) = suc (depth_exp e)
  depth_exp (call_of e args) = suc (max (depth_exp e) (depth_exps args))
  depth_exp (cast w e) = suc (depth_exp e)
  depth_exp (ctype e t) = suc (depth_exp e)
  depth_exp (unary o e) = suc (depth_exp e)
  depth_exp (binary o a b) = suc (max (depth_exp a) (depth_exp b))
  depth_exp (paren e) = suc (depth_exp e)
  depth_exp (new_object t args) = suc (depth_exps args)
  depth_exp (new_array t bounds) = suc (depth_exps bounds)
  depth_exp (type_of e t) = suc (depth_exp e)

  -- the depth of the deepest, and 0 where there is none
  pub depth_exps : Exps → ℕ
  depth_exps no_exps = 0
  depth_exps (next_exp e more) = max (depth_exp e) (depth_exps more)

-- whether an expression is nested no deeper than that, or each of a list
abbrev pub is_shallow : Exp → Bool
is_shallow e = nat_le (depth_exp e) most_nested

abbrev pub are_shallow : Exps → Bool
are_shallow es = nat_le (depth_exps es) most_nested

-- how many arrays a type is
abbrev pub depth_type : TypeName → ℕ
depth_type (ty.array_of element rank) = suc (depth_type element)
depth_type _ = 0

abbrev pub is_shallow_type : TypeName → Bool
is_shallow_type t = nat_le (depth_type t) most_nested
