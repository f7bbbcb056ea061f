-- The values of operators on Variants, of calls of the library and of printed items.
use Rattle.std.proofs.Common.{◌≡◌, ℕ, true, cond, ◌||◌, pos, List, [], ◌∷◌, codes, Some, IfSome, refl, sym, ap, ◌∙◌, subst}
use Rattle.vb_tree.specs.BoundTree as types
use Rattle.vb_tree.specs.BoundTree.{Ty}
use Rattle.vb_tree.specs.declared.bound.LibCall.{LibCall}
use Rattle.vb_tree.specs.declared.bound.LibCall.TheVariants as lib
use Rattle.vb_tree.specs.declared.expression.BinOp.{BinOp}
use Rattle.vb_tree.specs.declared.expression.BinOp.TheVariants as b
use Rattle.vb_tree.specs.declared.expression.UnOp.{UnOp}
use Rattle.vb_tree.specs.declared.expression.UnOp.TheVariants as u
use Rattle.vb6_meaning.specs.Answers.{Answer, then_answer}
use Rattle.bound_tree.specs.Tree.{Expr, Exprs}
use Rattle.bound_facts.specs.Node.{type_at, is_variant}
use Rattle.net_tree.specs.declared.expression.CastWord.TheVariants as word
use Rattle.net_tree.specs.declared.expression.NetBin.{NetBin}
use Rattle.net_tree.specs.declared.expression.NetBin.TheVariants as op
use Rattle.net_tree.specs.declared.expression.OpN.TheVariants.{Bin}
use Rattle.net_tree.specs.Tree.{Exp}
use Rattle.net_tree.specs.Tree as net
use Rattle.net_tree.specs.Types as t
use Rattle.net_meaning.specs.declared.value.ValueN.{ValueN}
use Rattle.net_meaning.specs.declared.value.ValueN.TheVariants as n
use Rattle.net_meaning.specs.Conversions.{coerce_net}
use Rattle.net_meaning.specs.Library as library
use Rattle.net_meaning.specs.Operators.{operate_net}
use Rattle.net_meaning.specs.Support as rows
use Rattle.run_base.specs.Outcomes.{then}
use Rattle.written_trees.specs.Conversions.{one, two, three, support_call, call_path}
use Rattle.written_trees.specs.Library.{library_call, text_call, absolute_path}
use Rattle.written_trees.specs.Lines.{printed}
use Rattle.written_trees.specs.Literals.{number}
use Rattle.written_trees.specs.Names as written
use Rattle.written_trees.specs.Operators.{checked, variant_operator, variant_unary, variant_call, variant_not, binary_exp, unary_exp, typed_operator, typed_unary, operand, is_product_in_currency}
use Rattle.net_run.specs.Values.{Value, unknown, single, fields}
use Rattle.net_run.specs.Store.{Memory}
use Rattle.net_run.specs.Names.{Scope, starts, named, to_library, path_start}
use Rattle.net_run.specs.Making.{Jobs}
use Rattle.net_run.specs.Functions.{of_one, of_two, library_function, support_function, passing_of_some}
use Rattle.net_run.specs.Calls.{some_function}
use Rattle.net_run.specs.Expressions.{value_of}
use Rattle.row_laws.specs.Uncaptured.{IsUncaptured, IsTextUncaptured, IsMathUncaptured}
use Rattle.row_laws.specs.Follows.{single_value, on_value, on_values, on_three_values, Any, RowOfOne, RowOfTwo}
use Rattle.row_laws.specs.Items.{printed_row}
use Rattle.row_laws.specs.Library.{compared_row, variant_row, variant_unary_row, absolute_row, library_row}
use Rattle.row_laws.proofs.Composing.{after_nil, then_assoc, by_row, as_it_stands, composed}
use Rattle.row_laws.proofs.Values.{binary_gives}
use Rattle.row_laws.proofs.Calls.{one_gives, two_gives, first_two_give, three_give}
use Rattle.row_laws.proofs.Support.{free_start, support_gives, support_of_two}
use Rattle.row_laws.proofs.Rows.{behind_row, plain_cast}

-- a row of two, from its equation
pub by_two : (S : Scope) (oracle : Jobs) (P : ValueN → Type 0) (whole a c : Exp) (row : ValueN → ValueN → Answer ValueN)
    → ((w : Memory) → value_of S oracle whole w ≡ then (value_of S oracle a w) (λ u w. then (value_of S oracle c w) (on_values row u))) → RowOfTwo S oracle P whole a c row
by_two S oracle P whole a c row e = record {
  behind = λ u w. then (value_of S oracle c w) (on_values row u);
  is = e;
  second = λ x p. by_row (λ w. then (value_of S oracle c w) (on_values row (single x))) (value_of S oracle c) (row x) (λ w. refl);
}

-- a row of one value behind a row of two
pub behind_two : (S : Scope) (oracle : Jobs) (P : ValueN → Type 0) (whole e a c : Exp) (row : ValueN → ValueN → Answer ValueN) (f : ValueN → Answer ValueN)
    → RowOfOne S oracle Any whole e f → RowOfTwo S oracle P e a c row → RowOfTwo S oracle P whole a c (λ x y. then_answer (row x y) f)
behind_two S oracle P whole e a c row f h both = record {
  behind = λ v w. then (both.behind v w) h.behind;
  is = λ w. h.is w ∙ ap (λ z. then z h.behind) (both.is w) ∙ then_assoc (value_of S oracle a w) both.behind h.behind;
  second = λ x p. composed (row x) (both.second x p) h.behind f (λ z w. h.on_single z w tt);
}

-- a literal behind an operator
beside : (row : ValueN → ValueN → Answer ValueN) (y : ValueN) (u : Value) (w : Memory) → on_values row u (single y) w ≡ on_value (λ x. row x y) u w
beside row y (single x) w = refl
beside row y unknown w = refl
beside row y (fields us) w = refl

pub beside_literal : (S : Scope) (oracle : Jobs) (o : NetBin) (a l : Exp) (y : ValueN) → ((w : Memory) → value_of S oracle l w ≡ single_value y w)
    → RowOfOne S oracle Any (net.binary o a l) a (λ x. operate_net (Bin o) x y)
beside_literal S oracle o a l y e =
    by_row (value_of S oracle (net.binary o a l)) (value_of S oracle a) (λ x. operate_net (Bin o) x y)
    (λ w. binary_gives S oracle o a l w ∙ ap (λ k. then (value_of S oracle a w) k) (λ i u w. second u w i))
  where
    second : (u : Value) (w : Memory) → then (value_of S oracle l w) (on_values (operate_net (Bin o)) u) ≡ on_value (λ x. operate_net (Bin o) x y) u w
    second u w =
        ap (λ z. then z (on_values (operate_net (Bin o)) u)) (e w)
        ∙ after_nil (on_values (operate_net (Bin o)) u (single y) w)
        ∙ beside (operate_net (Bin o)) y u w

module _ (S : Scope) (oracle : Jobs) (free : IsUncaptured S) where
  -- ---- Variants

  called_two : (name : List ℕ) (row : ValueN → ValueN → Answer ValueN) → support_function name ≡ Some (of_two row) → (a c : Exp) → RowOfTwo S oracle Any (variant_call name a c) a c row
  called_two name row is a c = by_two S oracle Any (variant_call name a c) a c row (support_of_two S oracle free name row is a c)

  called_one : (name : List ℕ) (row : ValueN → Answer ValueN) → support_function name ≡ Some (of_one row) → (a : Exp) → RowOfOne S oracle Any (support_call name (one a)) a row
  called_one name row is a = by_row (value_of S oracle (support_call name (one a))) (value_of S oracle a) row (support_gives S oracle free name row is a)

  compared_two : (o : NetBin) (a c : Exp) → RowOfTwo S oracle Any (net.binary o (variant_call (codes "VarComp") a c) (number 0)) a c (compared_row o)
  compared_two o a c =
      behind_two S oracle Any (net.binary o (variant_call (codes "VarComp") a c) (number 0)) (variant_call (codes "VarComp") a c) a c rows.var_comp (λ v. operate_net (Bin o) v (n.Integer (pos 0)))
      (beside_literal S oracle o (variant_call (codes "VarComp") a c) (number 0) (n.Integer (pos 0)) (λ w. refl))
      (called_two (codes "VarComp") rows.var_comp refl a c)

  pub variant_gives : (o : BinOp) (a c : Exp) → IfSome (variant_row o) (RowOfTwo S oracle Any (variant_operator o a c) a c)
  variant_gives b.Add a c = called_two (codes "VarAdd") rows.var_add refl a c
  variant_gives b.Sub a c = called_two (codes "VarSub") rows.var_sub refl a c
  variant_gives b.Mul a c = called_two (codes "VarMul") rows.var_mul refl a c
  variant_gives b.IntDiv a c = called_two (codes "VarDiv") rows.var_div refl a c
  variant_gives b.Mod a c = called_two (codes "VarMod") rows.var_mod refl a c
  variant_gives b.Equal a c = compared_two op.Equal a c
  variant_gives b.NotEqual a c = compared_two op.NotEqual a c
  variant_gives b.Less a c = compared_two op.Less a c
  variant_gives b.Greater a c = compared_two op.Greater a c
  variant_gives b.LessEqual a c = compared_two op.LessEqual a c
  variant_gives b.GreaterEqual a c = compared_two op.GreaterEqual a c
  variant_gives b.And a c = called_two (codes "VarAnd") rows.var_and refl a c
  variant_gives b.Or a c = called_two (codes "VarOr") rows.var_or refl a c
  variant_gives b.Xor a c = called_two (codes "VarXor") rows.var_xor refl a c
  variant_gives b.Eqv a c =
      behind_two S oracle Any (variant_operator b.Eqv a c) (variant_call (codes "VarXor") a c) a c rows.var_xor rows.var_not
      (called_one (codes "VarNot") rows.var_not refl (variant_call (codes "VarXor") a c)) (called_two (codes "VarXor") rows.var_xor refl a c)
  variant_gives b.Imp a c = tt
  variant_gives b.Concat a c = tt
  variant_gives b.Is a c = tt
  variant_gives b.Pow a c = tt
  variant_gives b.Div a c = tt
  variant_gives b.Like a c = tt

  -- Not of the first operand is made before the second
  pub variant_imp : (a c : Exp) (w : Memory) → value_of S oracle (variant_operator b.Imp a c) w
      ≡ then (value_of S oracle a w) (λ u w. then (on_value rows.var_not u w) (λ v w. then (value_of S oracle c w) (on_values rows.var_or v)))
  variant_imp a c w =
      support_of_two S oracle free (codes "VarOr") rows.var_or refl (variant_not a) c w
      ∙ ap (λ z. then z (λ v w. then (value_of S oracle c w) (on_values rows.var_or v))) (support_gives S oracle free (codes "VarNot") rows.var_not refl a w)
      ∙ then_assoc (value_of S oracle a w) (on_value rows.var_not) (λ v w. then (value_of S oracle c w) (on_values rows.var_or v))

  pub binary_of_variants : (o : BinOp) (ty : Ty) (e f : Expr) (a c : Exp) → is_variant (type_at e) || is_variant (type_at f) ≡ true → IfSome (variant_row o) (RowOfTwo S oracle Any (binary_exp o ty e f a c) a c)
  binary_of_variants o ty e f a c h =
      subst (λ z. IfSome (variant_row o) (RowOfTwo S oracle Any (cond z (variant_operator o a c) (typed_operator o (type_at e) ty (operand (is_product_in_currency o ty) e a) (operand (is_product_in_currency o ty) f c))) a c)) (sym h)
      (variant_gives o a c)

  unary_gives : (o : UnOp) (a : Exp) → RowOfOne S oracle Any (variant_unary o a) a (variant_unary_row o)
  unary_gives u.Neg a = called_one (codes "VarNeg") rows.var_neg refl a
  unary_gives u.Not a = called_one (codes "VarNot") rows.var_not refl a

  pub unary_of_variant : (o : UnOp) (ty : Ty) (e : Expr) (a : Exp) → is_variant (type_at e) ≡ true → RowOfOne S oracle Any (unary_exp o ty e a) a (variant_unary_row o)
  unary_of_variant o ty e a h = subst (λ z. RowOfOne S oracle Any (cond z (variant_unary o a) (typed_unary o ty a)) a (variant_unary_row o)) (sym h) (unary_gives o a)

  -- ---- printed items

  printed_number : (a : Exp) → RowOfOne S oracle Any (support_call (codes "PrintNum") (one (net.cast word.CDec a))) a (λ x. then_answer (coerce_net x t.decimal) rows.print_num)
  printed_number a =
      behind_row S oracle free (support_call (codes "PrintNum") (one (net.cast word.CDec a))) (net.cast word.CDec a) (λ x. coerce_net x t.decimal) rows.print_num
      (called_one (codes "PrintNum") rows.print_num refl (net.cast word.CDec a)) (plain_cast S oracle free word.CDec a)

  pub printed_gives : (ty : Ty) (a : Exp) → RowOfOne S oracle Any (printed ty a) a (printed_row ty)
  printed_gives types.boolean a = plain_cast S oracle free word.CStr a
  printed_gives types.byte a = printed_number a
  printed_gives types.integer a = printed_number a
  printed_gives types.long a = printed_number a
  printed_gives types.currency a = called_one (codes "PrintNum") rows.print_num refl a
  printed_gives types.variant a = called_one (codes "PrintVar") rows.print_var refl a
  printed_gives _ a = as_it_stands (value_of S oracle a)

-- ---- the library

module _ (S : Scope) (oracle : Jobs) (texts : IsTextUncaptured S) where
  text_start : (name : List ℕ) → path_start S true (written.strings name) ≡ starts (named (to_library (written.strings name))) []
  text_start name = free_start S (codes "Microsoft") (codes "VisualBasic") (codes "Strings" ∷ name ∷ []) texts

  text_of_one : (name : List ℕ) (row : ValueN → Answer ValueN) → library_function (written.strings name) ≡ Some (of_one row) → (a : Exp) → RowOfOne S oracle Any (text_call name (one a)) a row
  text_of_one name row is a =
      by_row (value_of S oracle (text_call name (one a))) (value_of S oracle a) row
      (one_gives S oracle (to_library (written.strings name)) (written.strings name) (text_start name) (ap passing_of_some is) row (λ gs w. ap (λ f. some_function S.project oracle [] gs f w) is) a)

  text_of_two : (name : List ℕ) (row : ValueN → ValueN → Answer ValueN) → library_function (written.strings name) ≡ Some (of_two row) → (a c : Exp) → RowOfTwo S oracle Any (text_call name (two a c)) a c row
  text_of_two name row is a c =
      by_two S oracle Any (text_call name (two a c)) a c row
      (two_gives S oracle (to_library (written.strings name)) (written.strings name) (text_start name) (ap passing_of_some is) row (λ gs w. ap (λ f. some_function S.project oracle [] gs f w) is) a c)

  pub left_gives : (a c : Exp) → RowOfTwo S oracle Any (text_call (codes "Left") (two a c)) a c library.left
  left_gives a c = text_of_two (codes "Left") library.left refl a c

  pub right_gives : (a c : Exp) → RowOfTwo S oracle Any (text_call (codes "Right") (two a c)) a c library.right
  right_gives a c = text_of_two (codes "Right") library.right refl a c

  pub place_gives : (a c : Exp) → RowOfTwo S oracle Any (text_call (codes "InStr") (two a c)) a c library.place
  place_gives a c = text_of_two (codes "InStr") library.place refl a c

  pub rest_gives : (a c : Exp) → RowOfTwo S oracle Any (text_call (codes "Mid") (two a c)) a c library.mid_on
  rest_gives a c =
      by_two S oracle Any (text_call (codes "Mid") (two a c)) a c library.mid_on
      (first_two_give S oracle (to_library (written.strings (codes "Mid"))) (written.strings (codes "Mid")) (text_start (codes "Mid")) refl library.mid_on library.mid (λ gs w. refl) a c)

  pub middle_gives : (a c d : Exp) (w : Memory) → value_of S oracle (text_call (codes "Mid") (three a c d)) w
      ≡ then (value_of S oracle a w) (λ s w. then (value_of S oracle c w) (λ u w. then (value_of S oracle d w) (on_three_values library.mid s u)))
  middle_gives a c d w =
      three_give S oracle (to_library (written.strings (codes "Mid"))) (written.strings (codes "Mid")) (text_start (codes "Mid")) refl library.mid_on library.mid (λ gs w. refl) a c d w

module _ (S : Scope) (oracle : Jobs) (free : IsUncaptured S) (texts : IsTextUncaptured S) (math : IsMathUncaptured S) where
  absolute : (a : Exp) → RowOfOne S oracle Any (call_path absolute_path (one a)) a library.absolute
  absolute a =
      by_row (value_of S oracle (call_path absolute_path (one a))) (value_of S oracle a) library.absolute
      (one_gives S oracle (to_library absolute_path) absolute_path (free_start S (codes "System") (codes "Math") (codes "Abs" ∷ []) math) refl library.absolute (λ gs w. refl) a)

  absolute_gives : (ty : Ty) (a : Exp) → RowOfOne S oracle Any (checked ty (call_path absolute_path (one a))) a (absolute_row ty)
  absolute_gives types.currency a =
      behind_row S oracle free (support_call (codes "Cur") (one (call_path absolute_path (one a)))) (call_path absolute_path (one a)) library.absolute rows.cur
      (called_one S oracle free (codes "Cur") rows.cur refl (call_path absolute_path (one a))) (absolute a)
  absolute_gives _ a = absolute a

  -- calls of one value
  pub library_gives : (T : written.Scope) (f : LibCall) (ty : Ty) (e : Expr) (rest : Exprs) (a : Exp) → IfSome (library_row f ty) (RowOfOne S oracle Any (library_call T f ty e rest a (one a)) a)
  library_gives T lib.Len ty e rest a = text_of_one S oracle texts (codes "Len") library.len refl a
  library_gives T lib.Trim ty e rest a = text_of_one S oracle texts (codes "Trim") library.trim refl a
  library_gives T lib.LTrim ty e rest a = text_of_one S oracle texts (codes "LTrim") library.left_trim refl a
  library_gives T lib.RTrim ty e rest a = text_of_one S oracle texts (codes "RTrim") library.right_trim refl a
  library_gives T lib.UCase ty e rest a = text_of_one S oracle texts (codes "UCase") library.upper refl a
  library_gives T lib.LCase ty e rest a = text_of_one S oracle texts (codes "LCase") library.lower refl a
  library_gives T lib.Space ty e rest a = text_of_one S oracle texts (codes "Space") library.space refl a
  library_gives T lib.Chr ty e rest a =
      behind_row S oracle free (net.cast word.CStr (text_call (codes "Chr") (one a))) (text_call (codes "Chr") (one a)) library.character (λ v. coerce_net v t.str)
      (plain_cast S oracle free word.CStr (text_call (codes "Chr") (one a))) (text_of_one S oracle texts (codes "Chr") library.character refl a)
  library_gives T lib.Asc ty e rest a =
      behind_row S oracle free (net.cast word.CShort (text_call (codes "Asc") (one a))) (text_call (codes "Asc") (one a)) library.character_number (λ v. coerce_net v t.short)
      (plain_cast S oracle free word.CShort (text_call (codes "Asc") (one a))) (text_of_one S oracle texts (codes "Asc") library.character_number refl a)
  library_gives T lib.Abs ty e rest a = absolute_gives ty a
  library_gives T lib.IsEmpty ty e rest a = beside_literal S oracle op.Is a net.nothing n.Nothing (λ w. refl)
  library_gives T lib.Left ty e rest a = tt
  library_gives T lib.Right ty e rest a = tt
  library_gives T lib.Mid ty e rest a = tt
  library_gives T lib.InStr ty e rest a = tt
  library_gives T lib.CBool ty e rest a = tt
  library_gives T lib.CByte ty e rest a = tt
  library_gives T lib.CInt ty e rest a = tt
  library_gives T lib.CLng ty e rest a = tt
  library_gives T lib.CCur ty e rest a = tt
  library_gives T lib.CStr ty e rest a = tt
  library_gives T lib.UBound ty e rest a = tt
  library_gives T lib.LBound ty e rest a = tt
  library_gives T lib.MsgBox ty e rest a = tt
  library_gives T lib.InputBox ty e rest a = tt
