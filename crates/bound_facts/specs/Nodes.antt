-- All nodes of an expression, each before its parts.
use Rattle.std.specs.Prelude.{List, [], ◌∷◌, ◌++◌}
use Rattle.std.specs.List.{flat_map}
use Rattle.bound_tree.specs.Tree.{Expr, typed, Term, constant, variable, field, element, call, library, unary, binary, convert, new_object, me, with_object, err_number, err_raise, err_clear, is_same, loose, Object, no_object, of_object, Exprs, no_exprs, next_expr, Argument, by_value, by_reference, Passed, no_passed, next_passed, Line}

abbrev mutual
  pub nodes : Expr → List Expr
  nodes (typed ty t) = typed ty t ∷ nodes_in t

  pub nodes_in : Term → List Expr
  nodes_in (constant v origin) = []
  nodes_in (variable v qualified) = []
  nodes_in (field e k) = nodes e
  nodes_in (element e indexes) = nodes e ++ nodes_of_all indexes
  nodes_in (call procedure qualified of args) = nodes_of_object of ++ nodes_of_passed args
  nodes_in (library function args) = nodes_of_all args
  nodes_in (unary op e) = nodes e
  nodes_in (binary op e f) = nodes e ++ nodes f
  nodes_in (convert to e) = nodes e
  nodes_in (new_object c) = []
  nodes_in me = []
  nodes_in (with_object root) = []
  nodes_in err_number = []
  nodes_in (err_raise e) = nodes e
  nodes_in err_clear = []
  nodes_in (is_same e f) = nodes e ++ nodes f
  nodes_in (loose e rules) = []

  pub nodes_of_object : Object → List Expr
  nodes_of_object no_object = []
  nodes_of_object (of_object e) = nodes e

  pub nodes_of_all : Exprs → List Expr
  nodes_of_all no_exprs = []
  nodes_of_all (next_expr e rest) = nodes e ++ nodes_of_all rest

  pub nodes_of_passed : Passed → List Expr
  nodes_of_passed no_passed = []
  nodes_of_passed (next_passed arg rest) = nodes_of_argument arg ++ nodes_of_passed rest

  pub nodes_of_argument : Argument → List Expr
  nodes_of_argument (by_value e) = nodes e
  nodes_of_argument (by_reference e) = nodes e

abbrev pub line_nodes : Line → List Expr
line_nodes l = flat_map nodes l.bindings.exprs
