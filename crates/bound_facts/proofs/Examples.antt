-- Worked examples of the definitions, computed.
use Rattle.std.proofs.Common.{◌≡◌, ℕ, ℤ, pos, true, false, List, [], ◌∷◌, length, Some, None, refl}
use Rattle.vb_tree.specs.BoundTree.{byte, integer, long, str, variant, array}
use Rattle.vb_tree.specs.declared.bound.LibCall.TheVariants.{CByte, CStr}
use Rattle.vb_tree.specs.declared.expression.BinOp.TheVariants as op
use Rattle.vb_tree.specs.declared.value.Value6.TheVariants as v
use Rattle.vb_tree.specs.Tree.{else_line}
use Rattle.bound_tree.specs.declared.expression.Origin.TheVariants.{Literal}
use Rattle.bound_tree.specs.RuleSets.{none}
use Rattle.bound_tree.specs.Tree.{Expr, typed, constant, variable, element, call, binary, convert, library, no_object, no_exprs, next_expr, by_reference, no_passed, next_passed, Line}
use Rattle.bound_facts.specs.CanRaise.{raises_by}
use Rattle.bound_facts.specs.Folded.{folded}
use Rattle.bound_facts.specs.Items.{project_items}
use Rattle.bound_facts.specs.Nodes.{nodes, line_nodes}

-- ---- nodes: an element of the array 0, whose index is a call of the procedure 4 with the variable 1

abbrev var : ℕ → Expr
var n = typed long (variable (record { 0 = n }) false)

abbrev items : Expr
items = typed (array long 1) (variable (record { 0 = 0 }) false)

abbrev place : Expr
place = typed long (call (record { 0 = 4 }) false no_object (next_passed (by_reference (var 1)) no_passed))

abbrev item : Expr
item = typed long (element items (next_expr place no_exprs))

nodes_of_an_item : nodes item ≡ item ∷ items ∷ place ∷ var 1 ∷ []
nodes_of_an_item = refl

-- ---- what lines give: for each its procedure and the number of its nodes

abbrev line : List Expr → Line
line exprs = record {
  source = record { place = record { file = 1; line = 1 }; text = []; form = else_line };
  bindings = record { exprs = exprs; rules = none; mentions = [] };
}

abbrev sizes : ℕ → Line → List (ℕ × ℕ)
sizes p l = (p, length (line_nodes l)) ∷ []

items_of_two_procedures : project_items sizes ((line (var 1 ∷ item ∷ []) ∷ []) ∷ (line [] ∷ line (var 1 ∷ []) ∷ []) ∷ []) ≡
    (0, 5) ∷ (1, 0) ∷ (1, 1) ∷ []
items_of_two_procedures = refl

-- ---- values

abbrev int : ℤ → Expr
int z = typed integer (constant (v.Int z) Literal)

two_and_three_times_four : folded (typed integer (binary op.Add (int (pos 2)) (typed integer (binary op.Mul (int (pos 3)) (int (pos 4)))))) ≡ Some (v.Int (pos 14))
two_and_three_times_four = refl

past_an_integer : folded (typed integer (binary op.Add (int (pos 32767)) (int (pos 1)))) ≡ None
past_an_integer = refl

-- a Variant goes on to a Long
past_an_integer_in_a_variant : folded (typed variant (binary op.Add (typed variant (convert variant (int (pos 32767)))) (int (pos 1)))) ≡ Some (v.Long (pos 32768))
past_an_integer_in_a_variant = refl

long_to_integer : folded (typed integer (convert integer (typed long (constant (v.Long (pos 70000)) Literal)))) ≡ None
long_to_integer = refl

sum_with_a_variable : folded (typed long (binary op.Add (var 1) (int (pos 1)))) ≡ None
sum_with_a_variable = refl

-- ---- what can raise: a Byte stays in its range; `&` on a Variant can, and on the text of one can't

small : raises_by (library CByte (next_expr (typed byte (variable (record { 0 = 2 }) false)) no_exprs)) ≡ false
small = refl

abbrev any : Expr
any = typed variant (variable (record { 0 = 3 }) false)

abbrev text : Expr
text = typed str (variable (record { 0 = 4 }) false)

joined_variant : raises_by (binary op.Concat (typed str (convert str any)) text) ≡ true
joined_variant = refl

joined_text : raises_by (binary op.Concat (typed str (library CStr (next_expr any no_exprs))) text) ≡ false
joined_text = refl
