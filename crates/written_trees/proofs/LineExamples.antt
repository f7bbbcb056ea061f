-- What is written for code lines, worked out by hand.
use Rattle.std.proofs.Common.{◌≡◌, ℕ, pos, true, false, List, [], ◌∷◌, codes, Option, Some, None, refl}
use Rattle.std.specs.Fmt.{digits}
use Rattle.vb_tree.specs.BoundTree.{boolean, integer, long, class, nothing, unknown}
use Rattle.vb_tree.specs.declared.expression.BinOp.TheVariants as b
use Rattle.vb_tree.specs.declared.form_parts.Label6.TheVariants.{Word}
use Rattle.vb_tree.specs.declared.token.Suffix.TheVariants.{Absent}
use Rattle.vb_tree.specs.Tree.{Exp, Form, Bounds}
use Rattle.vb_tree.specs.Tree as source
use Rattle.bound_tree.specs.declared.rule_set.RuleSet.{RuleSet}
use Rattle.bound_tree.specs.Labels.{Label, word}
use Rattle.bound_tree.specs.RuleSets.{has, none, with_rule, both}
use Rattle.bound_tree.specs.Tree.{Expr, typed, call, binary, element, new_object, loose, no_object, no_passed, Line}
use Rattle.net_tree.specs.Lines.{line_text}
use Rattle.net_tree.specs.Spelling.{is_bracketed}
use Rattle.written_trees.specs.Lines.{written_line}
use Rattle.written_trees.proofs.Sample.{here, breaks, at_line, proc_id, the_n, the_total, the_i, the_array, the_node, the_fixed, the_basket, the_variant, int, text, as_type, one_expr, the_element, the_inner_field, the_items}

-- the source's own expressions don't matter, but for how many there are
abbrev any : Exp
any = source.me

abbrev labels : List (Option Label)
labels = None ∷ Some (word (codes "Done")) ∷ []

abbrev line : Form → List Expr → Line
line f es = record { source = record { place = at_line 1 1; text = []; form = f }; bindings = record { exprs = es; rules = none; mentions = [] } }

-- the text of what is written for a line that breaks rules, in Main
abbrev written : RuleSet → Form → List Expr → List ℕ
written rules f es = line_text (written_line here labels rules 1 (line f es))

abbrev sound : Form → List Expr → List ℕ
sound f es = written none f es

-- ---- assignments

-- `a(i) = 5`: the index can't raise
element_stored : sound (source.assign any any) (the_element ∷ int (pos 5) ∷ []) ≡ codes "a(UpgradeSupport.At(CInt(i), 1)) = 5S"
unfolding digits is_bracketed none has both
element_stored = refl

-- `a(n \ n) = n \ n`: both can raise
put : sound (source.assign any any) (typed integer (element the_array (one_expr (typed long (binary b.IntDiv the_n the_n)))) ∷ as_type integer (typed long (binary b.IntDiv the_n the_n)) ∷ []) ≡ codes "UpgradeSupport.PutShort(CShort((n \\ n)), a(UpgradeSupport.At((n \\ n), 1)))"
unfolding digits is_bracketed none has both
put = refl

-- `c.Child.k = n \ n`
put_to_a_field : sound (source.assign any any) (the_inner_field ∷ typed long (binary b.IntDiv the_n the_n) ∷ []) ≡ codes "UpgradeSupport.PutInteger((n \\ n), UpgradeSupport.Auto_Node(c).Child.k)"
unfolding is_bracketed none has both
put_to_a_field = refl

fixed_string_stored : sound (source.assign any any) (the_fixed ∷ text (codes "ab") ∷ []) ≡ codes "f = UpgradeSupport.Fix(\"ab\", 3)"
unfolding digits is_bracketed none has both lib.Utf8.encode
fixed_string_stored = refl

array_stored : sound (source.assign any any) (the_array ∷ the_array ∷ []) ≡ codes "a = CType(a.Clone(), Short())"
unfolding is_bracketed none has both
array_stored = refl

basket_stored : sound (source.assign any any) (the_basket ∷ the_basket ∷ []) ≡ codes "p = UpgradeSupport.Copy1(p)"
unfolding digits is_bracketed none has both
basket_stored = refl

-- a value without a type takes the form of its target
loose_value_stored : sound (source.assign any any) (the_fixed ∷ typed unknown (loose (source.bracketed (codes "d") Absent) none) ∷ []) ≡ codes "f = UpgradeSupport.Fix(d, 3)"
unfolding digits is_bracketed none has both
loose_value_stored = refl

object_set : sound (source.set any any) (the_node ∷ typed (class 0) (new_object (record { 0 = 0 })) ∷ []) ≡ codes "c = New Node()"
unfolding is_bracketed none has both
object_set = refl

-- ---- calls and prints

call_without_arguments : sound (source.invoke any source.no_args) (typed nothing (call (proc_id 0) false no_object no_passed) ∷ []) ≡ codes "Main()"
unfolding is_bracketed none has both
call_without_arguments = refl

name_without_a_type_called : sound (source.invoke any source.no_args) (typed unknown (loose (source.bracketed (codes "Area") Absent) none) ∷ []) ≡ codes "Area()"
unfolding is_bracketed none has both
name_without_a_type_called = refl

items_printed : sound (source.debug_print [] false) (text (codes "x") ∷ the_n ∷ the_total ∷ the_variant ∷ []) ≡ codes "UpgradeSupport.PrintLine((((\"x\" & UpgradeSupport.PrintNum(CDec(n))) & UpgradeSupport.PrintNum(Other.total)) & UpgradeSupport.PrintVar(v)))"
unfolding is_bracketed none has both lib.Utf8.encode
items_printed = refl

nothing_printed : sound (source.debug_print [] true) [] ≡ codes "UpgradeSupport.PrintPart(\"\")"
unfolding is_bracketed none has both
nothing_printed = refl

-- ---- blocks

condition : sound (source.line_if any) (typed boolean (binary b.Less the_n the_n) ∷ []) ≡ codes "If (n < n) Then"
unfolding is_bracketed none has both
condition = refl

cases : sound (source.case_line (source.case_value any ∷ source.case_range any any ∷ source.case_is b.Less any ∷ [])) (the_n ∷ as_type long (int (pos 1)) ∷ as_type long (int (pos 2)) ∷ the_n ∷ []) ≡ codes "Case n, 1 To 2, Is < n"
unfolding digits is_bracketed none has both
cases = refl

counting : sound (source.for_head any any any (Some any)) (the_i ∷ int (pos 1) ∷ as_type integer the_n ∷ int (pos 2) ∷ []) ≡ codes "For i = 1S To CShort(n) Step 2S"
unfolding digits is_bracketed none has both
counting = refl

while_ends : sound source.wend [] ≡ codes "End While"
unfolding none has both
while_ends = refl

-- the label has the spelling of its own line
jump : sound (source.goto (Word (codes "done"))) [] ≡ codes "GoTo Done"
unfolding is_bracketed none has both
jump = refl

-- ---- ReDim and Erase

abbrev bounds : Bounds
bounds = record { lower = Some any; upper = any }

made_anew : sound (source.redim true (record { array = any; bounds = bounds ∷ []; ty = None } ∷ [])) (the_array ∷ as_type long (int (pos 1)) ∷ the_n ∷ []) ≡ codes "ReDim Preserve a(UpgradeSupport.Top(n, 1))"
unfolding digits is_bracketed none has both
made_anew = refl

-- of what is no array the constant lower bound that stands there is kept
name_made_anew : sound (source.redim false (record { array = any; bounds = bounds ∷ []; ty = None } ∷ [])) (typed unknown (loose (source.bracketed (codes "d") Absent) none) ∷ as_type long (int (pos 2)) ∷ the_n ∷ []) ≡ codes "ReDim d(UpgradeSupport.Top(n, 2))"
unfolding digits is_bracketed none has both
name_made_anew = refl

erased : sound (source.erase any) (the_items ∷ []) ≡ codes "p.Items = New Integer(-1) {}"
unfolding digits is_bracketed none has both
erased = refl

-- ---- lines that break a rule

statement_replaced : written (both (breaks 26) (breaks 3)) (source.assign any any) (the_n ∷ the_n ∷ []) ≡ codes "UpgradeSupport.NotUpgraded(3)"
unfolding digits is_bracketed none has both with_rule
statement_replaced = refl

-- this rule keeps the line
order_kept : written (breaks 26) (source.assign any any) (the_n ∷ the_n ∷ []) ≡ codes "n = n"
unfolding is_bracketed none has both with_rule
order_kept = refl

condition_replaced : written (breaks 1) (source.do_until any) [] ≡ codes "Do Until (UpgradeSupport.NotUpgraded(1) <> 0)"
unfolding digits is_bracketed none has both with_rule
condition_replaced = refl

case_replaced : written (breaks 21) (source.case_line []) [] ≡ codes "Case UpgradeSupport.NotUpgraded(21)"
unfolding digits is_bracketed none has both with_rule
case_replaced = refl

for_replaced : written (breaks 4) (source.for_each (codes "x") Absent any) [] ≡ codes "For _f1 = 1 To UpgradeSupport.NotUpgraded(4)"
unfolding digits is_bracketed none has both with_rule
for_replaced = refl
