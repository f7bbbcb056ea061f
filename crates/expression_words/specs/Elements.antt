-- Elements of arrays.
use Rattle.std.specs.Prelude.{cond, List, map}
use Rattle.vb_tree.specs.BoundTree.{Ty, array}
use Rattle.vb_tree.specs.BoundTree as types
use Rattle.bound_tree.specs.Tree.{Declarations, Expr, typed, element, Exprs}
use Rattle.bound_facts.specs.Node.{type_at}
use Rattle.typing_rows.specs.Conversions.{index}
use Rattle.expression_words.specs.Flaws.{Typed, known, unknown, breaks, together, on_known, on_all}
use Rattle.expression_words.specs.Converting.{wanted}
use Rattle.expression_words.specs.Passing.{Supplied, Value, left_out, given, is_worded, value_flaw}

abbrev pub index_value : Declarations → Value → Typed
index_value D left_out = unknown (breaks 18)
index_value D (given t) = on_known (wanted D index) t

-- an argument as an index
abbrev pub index_of : Declarations → Supplied → Typed
index_of D a = cond (is_worded a) (unknown (together (breaks 18) (value_flaw a.value))) (index_value D a.value)

abbrev pub element_type : Ty → Ty
element_type (array ty rank) = ty
element_type ty = types.unknown

-- the element of an array at some indexes
abbrev pub element_at : Expr → Exprs → Typed
element_at e es = known (typed (element_type (type_at e)) (element e es))

abbrev pub element_of : Declarations → Expr → List Supplied → Typed
element_of D e args = on_all (element_at e) (map (index_of D) args)
