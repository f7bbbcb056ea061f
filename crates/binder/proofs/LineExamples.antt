-- Worked examples of what is bound in lines.
use Rattle.std.proofs.Common.{◌≡◌, false, true, [], ◌∷◌, Some, refl, codes, pos}
use Rattle.vb_tree.specs.BoundTree.{integer, long, user, array}
use Rattle.vb_tree.specs.BoundTree as types
use Rattle.vb_tree.specs.declared.form_parts.Label6.TheVariants as label6
use Rattle.vb_tree.specs.declared.token.Literal6.TheVariants as literal
use Rattle.vb_tree.specs.declared.token.Suffix.TheVariants as suffix
use Rattle.vb_tree.specs.Tree.{assign, bracketed, debug_print, fixed_string, goto, if_head, label, lit, named, redim}
use Rattle.bound_tree.specs.declared.body.Mention.TheVariants as mention
use Rattle.bound_tree.specs.RuleSets.{none, with_rule, both}
use Rattle.bound_tree.specs.Tree.{Expr, typed, element, field, loose, next_expr, no_exprs, variable}
use Rattle.typing_rows.specs.declared.cases.CaseType.TheVariants.{Open, Number}
use Rattle.vb6_meaning.specs.declared.number.NumberKind.TheVariants as kinds
use Rattle.expression_words.specs.Flaws.{known, unknown, breaks, lacks}
use Rattle.binder.specs.declared.parts.Task.TheVariants as task
use Rattle.binder.specs.Lines.{is_in_element, own_rules, set_value, settled, typed_parts}
use Rattle.binder.specs.Mentions.{line_mentions}
use Rattle.binder.specs.Parts.{part, parts}
use Rattle.binder.proofs.Sample.{S, c, line_at, long_number, number, one, plain, t, total, w}

-- ---- expressions

-- Total = 1
converted_to_its_target : typed_parts S Open (parts (assign (plain (codes "total")) one)) ≡ known total ∷ known long_number ∷ []
converted_to_its_target = refl

-- Lost = 1: a target without a type takes the value as it is
beside_lost : typed_parts S Open (parts (assign (plain (codes "lost")) one)) ≡ unknown (lacks (mention.Var (w 1))) ∷ known number ∷ []
beside_lost = refl

-- Case 1, where Longs are compared
compared : typed_parts S (Number kinds.Long) (part task.Choice one ∷ []) ≡ known long_number ∷ []
compared = refl

-- If 1.5 Then
no_condition : typed_parts S Open (parts (if_head (lit (literal.Plain (pos 15000))))) ≡ unknown (breaks 1) ∷ []
no_condition = refl

-- no Variant takes an object, whatever it is
into_a_variant : set_value S types.variant (unknown (lacks (mention.Var (w 1)))) ≡ unknown (record { rules = both (with_rule none 5) none; cause = Some (mention.Var (w 1)) })
into_a_variant = refl

-- kept in the spelling of its declaration
kept_as_written : settled S (part task.LetTarget (plain (codes "lost"))) (unknown (lacks (mention.Var (w 1)))) ≡ typed types.unknown (loose (bracketed (codes "Lost") suffix.Absent) none)
kept_as_written = refl

-- ---- rules

abbrev items : Expr
items = typed (array (user 0) 0) (variable (w 3) false)

-- a field of an element is no user type inside of it
of_an_element : is_in_element (typed (user 0) (element items (next_expr number no_exprs))) ≡ true
of_an_element = refl

field_of_an_element : is_in_element (typed long (field (typed (user 0) (element items (next_expr number no_exprs))) 0)) ≡ false
field_of_an_element = refl

-- the label Done stands in the second line
found_label : own_rules S (line_at 11 (goto (label6.Word (codes "done"))) ∷ line_at 12 (label (label6.Word (codes "Done"))) ∷ []) (goto (label6.Word (codes "done"))) [] ≡ none
found_label = refl

no_label : own_rules S (line_at 11 (goto (label6.Word (codes "done"))) ∷ []) (goto (label6.Word (codes "done"))) [] ≡ with_rule none 3
no_label = refl

-- ---- mentions

-- Total = Top: both, the constant through its value
of_an_assignment : line_mentions S (assign (plain (codes "Total")) (plain (codes "Top"))) (typed_parts S Open (parts (assign (plain (codes "Total")) (plain (codes "Top")))))
    ≡ mention.Var (w 0) ∷ mention.Const (c 0) ∷ []
of_an_assignment = refl

-- Spot.x
of_a_field : line_mentions S (debug_print [] false) (known (typed long (field (typed (user 0) (variable (w 2) false)) 0)) ∷ []) ≡ mention.Var (w 4) ∷ mention.Var (w 2) ∷ []
of_a_field = refl

-- the declaration that leaves an expression without a type
of_lost : line_mentions S (debug_print [] false) (unknown (lacks (mention.Var (w 1))) ∷ []) ≡ mention.Var (w 1) ∷ []
of_lost = refl

-- ReDim .. As Point
of_a_resize : line_mentions S (redim false (record { array = plain (codes "Items"); bounds = []; ty = Some (named (codes "point")) } ∷ [])) [] ≡ mention.Type (t 0) ∷ []
of_a_resize = refl

-- ReDim .. As String * Top
of_a_length : line_mentions S (redim false (record { array = plain (codes "Items"); bounds = []; ty = Some (fixed_string (plain (codes "Top"))) } ∷ [])) [] ≡ mention.Const (c 0) ∷ []
of_a_length = refl
