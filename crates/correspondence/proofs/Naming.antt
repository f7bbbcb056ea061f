-- What is written for a covered expression names each variable as often as the expression uses it.
use Rattle.std.proofs.Common.{◌≡◌, ℕ, ◌+◌, Bool, true, false, not, ◌&&◌, cond, List, [], ◌∷◌, ◌++◌, Option, Some, None, refl, sym, ap, ◌∙◌, arith, unwrap_or, codes, suc, inl, inr}
use Rattle.std.specs.List.{list_all, list_any, flat_map}
use Rattle.std.specs.Prelude.{◌||◌, ◌⊎◌, pos, negsuc, is_some, codes}
use Rattle.up_base.proofs.Lists.{both_true}
use Rattle.vb_tree.specs.BoundTree as types
use Rattle.vb_tree.specs.BoundTree.{Ty}
use Rattle.vb_tree.specs.declared.bound.LibCall.{LibCall}
use Rattle.vb_tree.specs.declared.bound.LibCall.TheVariants as lib
use Rattle.vb_tree.specs.declared.expression.BinOp.{BinOp}
use Rattle.vb_tree.specs.declared.expression.BinOp.TheVariants as b
use Rattle.vb_tree.specs.declared.expression.UnOp.{UnOp}
use Rattle.vb_tree.specs.declared.expression.UnOp.TheVariants as u
use Rattle.vb_tree.specs.declared.value.Value6.{Value6}
use Rattle.vb_tree.specs.declared.value.Value6.TheVariants as v6
use Rattle.bound_tree.specs.declared.body.Mention.{Mention}
use Rattle.bound_tree.specs.declared.expression.Origin.{Origin}
use Rattle.bound_tree.specs.Tree.{Program, Expr, typed, Term, constant, variable, field, element, library, unary, binary, convert, new_object, Exprs, no_exprs, next_expr, call, no_object, of_object, by_value, by_reference, Passed, no_passed, next_passed, err_number, err_raise, is_same, me}
use Rattle.bound_facts.specs.Nodes.{nodes, nodes_in, nodes_of_all, nodes_of_passed}
use Rattle.bound_facts.specs.Node.{type_at, is_variant}
use Rattle.net_meaning.specs.WrittenRows.{write_operator, write_unary, write_conversion}
use Rattle.net_tree.specs.declared.expression.NetBin.TheVariants as op
use Rattle.net_tree.specs.declared.expression.NetUn.TheVariants as un
use Rattle.net_tree.specs.Tree.{Exp}
use Rattle.net_tree.specs.Tree as net
use Rattle.written_trees.specs.Conversions.{Conversion, stands, by_word, by_support, text_object, cut, applied, conversion, converted, literal_or, call_path, support_call}
use Rattle.written_trees.specs.Arguments.{is_property, takes_reference}
use Rattle.written_trees.specs.Exprs.{called, exp_of, has_none, member_of, term_exp, library_of, exps_of, is_bare, passed_of, reads_itself}
use Rattle.written_trees.specs.Library.{text_call, absolute_path}
use Rattle.written_trees.specs.Lines.{printed, printed_item, joined_items, items_exp}
use Rattle.bound_facts.specs.Folded.{converted_value}
use Rattle.written_trees.specs.Literals.{Piece, quoted, unit, piece_exp, text, joined, pieces_of, constant_exp, written_constant, literal_as, literal_of, spelt, takes_literals, is_whole, is_hexadecimal}
use Rattle.written_trees.specs.Names.{Path, Scope, support, strings, procedure_name, procedure_path}
use Rattle.written_trees.specs.Operators.{signed, checked, is_text, typed_operator, typed_unary, operand, is_product_in_currency, variant_operator, variant_unary}
use Rattle.run_matches.specs.CoveredVariables.{covers_auto_use, covers_type, covers_use, is_named_so}
use Rattle.run_matches.specs.CoveredExprs.{covers_library, covers_operator, covers_expr, covers_term, covers_exprs, covers_passed, covers_array, covers_base, covers_object, has_member, covers_group, covers_group_term, covers_place, covers_place_term, covers_bounded, has_scalar, is_bound, is_nothing, uses_in, is_passable, covers_operand}
use Rattle.run_matches.specs.Formed.{are_longs, has_elements, is_formed, is_formed_term, is_row_of_one, is_row_of_two, is_row_of_call, is_conversion_to, types_of, are_formed, passed_are_formed}
use Rattle.bound_facts.specs.Locks.{is_same_type}
use Rattle.run_matches.specs.UserTypes.{is_class_type}
use Rattle.correspondence.specs.Uses.{uses, term_uses, exprs_uses, passed_uses, names, exps_name, total}
use Rattle.correspondence.proofs.Among.{or_cases}
use Rattle.correspondence.proofs.Variables.{passed_cases}
use Rattle.correspondence.proofs.NamedArrays.{IsRight, array_names, bound_names, indexes_names}
use Rattle.correspondence.proofs.Objects.{behind_names, member_names, object_counted}
use Rattle.correspondence.proofs.Places.{path_counted, place_names, place_of, scalar_place}
use Rattle.correspondence.proofs.NamedCalls.{argument_names, bare_names, covered_type, full_names, neither, none_before, none_of_both, reference_names}

module _ (count : Path → ℕ) (no_support : (name : List ℕ) → count (support name) ≡ 0) (no_strings : (name : List ℕ) → count (strings name) ≡ 0) where
  -- ---- constants name nothing

  piece_names : (p : Piece) → names count (piece_exp p) ≡ 0
  piece_names (quoted run) = refl
  piece_names (unit c) = let none = no_strings (codes "ChrW") in omega (arith, none)

  joined_none : (e : Exp) (ps : List Piece) → names count e ≡ 0 → names count (joined e ps) ≡ 0
  joined_none e [] h = h
  joined_none e (p ∷ ps) h =
      let here = piece_names p in
      joined_none (net.binary op.Concat e (piece_exp p)) ps (omega (arith, h, here))

  constant_names : (h : Bool) (x : Value6) → names count (constant_exp h x) ≡ 0
  constant_names h (v6.Boolean t) = refl
  constant_names h (v6.Byte m) = refl
  constant_names h (v6.Int z) = refl
  constant_names h (v6.Long z) = refl
  constant_names h (v6.Cur (pos m)) = refl
  constant_names h (v6.Cur (negsuc m)) = refl
  constant_names h (v6.Str units) = joined_none (text (pieces_of units).first) (pieces_of units).more refl
  constant_names h v6.Nothing = refl
  constant_names h (v6.Object k) = refl
  constant_names h v6.Empty = refl

  -- ---- conversions and operators

  applied_names : (c : Conversion) (e : Exp) → names count (applied c e) ≡ names count e
  applied_names stands e = refl
  applied_names (by_word w) e = refl
  applied_names (by_support f) e = let none = no_support f in omega (arith, none)
  applied_names text_object e = omega arith
  applied_names (cut c units) e =
      let inner = applied_names c e in
      let none = no_support (codes "Fix") in
      omega (arith, inner, none)

  -- what is written for a literal of another type names as much
  abbrev Alike : Option Exp → Exp → Type 0
  Alike None e = Unit {0}
  Alike (Some l) e = names count l ≡ names count e

  spelt_alike : (origin : Origin) (o : Option Value6) (e : Exp) → names count e ≡ 0 → Alike (spelt origin o) e
  spelt_alike origin None e h = tt
  spelt_alike origin (Some x) e h = constant_names (is_hexadecimal origin) x ∙ sym h

  literal_alike : (S : Scope) (to ty : Ty) (t : Term) → Alike (literal_of to t) (exp_of S (typed ty t))
  literal_alike S to ty (constant x origin) = spelt_alike origin (converted_value to (Some x)) (written_constant x origin) (constant_names (is_hexadecimal origin) x)
  literal_alike S to ty _ = tt

  as_alike : (S : Scope) (to : Ty) (e : Expr) → Alike (literal_as to e) (exp_of S e)
  as_alike S to (typed from t) = by (takes_literals to && is_whole from)
    where
      by : (c : Bool) → Alike (cond c (literal_of to t) None) (exp_of S (typed from t))
      by true = literal_alike S to from t
      by false = tt

  literal_names : (l : Option Exp) (d e : Exp) → Alike l e → names count d ≡ names count e → names count (literal_or l d) ≡ names count e
  literal_names None d e h k = k
  literal_names (Some l) d e h k = h

  converted_names : (S : Scope) (to : Ty) (e : Expr) → names count (converted to e (exp_of S e)) ≡ names count (exp_of S e)
  converted_names S to e =
      literal_names (literal_as to e) (applied (conversion (type_at e) to) (exp_of S e)) (exp_of S e) (as_alike S to e)
      (applied_names (conversion (type_at e) to) (exp_of S e))

  operand_names : (S : Scope) (c : Bool) (e : Expr) → names count (operand c e (exp_of S e)) ≡ names count (exp_of S e)
  operand_names S true e = converted_names S types.currency e
  operand_names S false e = refl

  checked_names : (ty : Ty) (e : Exp) → names count (checked ty e) ≡ names count e
  checked_names types.currency e = let none = no_support (codes "Cur") in omega (arith, none)
  checked_names _ e = refl

  unary_names : (o : UnOp) (ty : Ty) (e : Exp) → names count (typed_unary o ty e) ≡ names count e
  unary_names u.Neg ty e = checked_names ty (net.unary un.Neg e)
  unary_names u.Not ty e = refl

  sum_names : (s : Bool) (ty : Ty) (a c : Exp) → names count (cond s (net.binary op.Concat a c) (checked ty (net.binary op.Add a c))) ≡ names count a + names count c
  sum_names true ty a c = refl
  sum_names false ty a c = checked_names ty (net.binary op.Add a c)

  operator_names : (o : BinOp) (s t ty : Ty) (a c : Exp) → is_row_of_two o ty (write_operator o s t) ≡ true
      → names count (typed_operator o s ty a c) ≡ names count a + names count c
  operator_names b.Pow s t ty a c h = absurd (cc h)
  operator_names b.Div s t ty a c h = absurd (cc h)
  operator_names b.Like s t ty a c h = absurd (cc h)
  operator_names b.Add s t ty a c h = sum_names (is_text s) ty a c
  operator_names b.Sub s t ty a c h = checked_names ty (signed b.Sub a c)
  operator_names b.Mul s t ty a c h = checked_names ty (signed b.Mul a c)
  operator_names b.IntDiv s t ty a c h = refl
  operator_names b.Mod s t ty a c h = refl
  operator_names b.Concat s t ty a c h = refl
  operator_names b.Equal s t ty a c h = refl
  operator_names b.NotEqual s t ty a c h = refl
  operator_names b.Less s t ty a c h = refl
  operator_names b.Greater s t ty a c h = refl
  operator_names b.LessEqual s t ty a c h = refl
  operator_names b.GreaterEqual s t ty a c h = refl
  operator_names b.Is s t ty a c h = refl
  operator_names b.And s t ty a c h = refl
  operator_names b.Or s t ty a c h = refl
  operator_names b.Xor s t ty a c h = refl
  operator_names b.Eqv s t ty a c h = refl
  operator_names b.Imp s t ty a c h = refl

pub neither_variant : (c d : Bool) → c ≡ false → d ≡ false → (c || d) ≡ false
neither_variant true d h k = absurd (cc h)
neither_variant false d h k = k

pub some_same : {A : Type 0} (x y : A) → Some x ≡ Some y → x ≡ y
some_same x y e = ap (λ o. unwrap_or o x) e

pub no_variant : (ty : Ty) → covers_type ty ≡ true → is_variant ty ≡ false
no_variant types.variant h = absurd (cc h)
no_variant _ h = refl

-- ---- calls of the library

module _ (count : Path → ℕ) (no_support : (name : List ℕ) → count (support name) ≡ 0) (no_strings : (name : List ℕ) → count (strings name) ≡ 0)
    (no_math : count absolute_path ≡ 0) where
  text_names : (f : List ℕ) (es : net.Exps) → names count (text_call f es) ≡ exps_name count es
  text_names f es = let none = no_strings f in omega (arith, none)

  function_names : (f : List ℕ) (es : net.Exps) → names count (support_call f es) ≡ exps_name count es
  function_names f es = let none = no_support f in omega (arith, none)

  conversion_names : (S : Scope) (to ty : Ty) (e : Expr) (rest : Exprs) → is_conversion_to to (types_of (next_expr e rest)) ty ≡ true
      → names count (converted to e (exp_of S e)) ≡ exps_name count (exps_of S (next_expr e rest))
  conversion_names S to ty e no_exprs h = let same = converted_names count no_support no_strings S to e in omega (arith, same)
  conversion_names S to ty e (next_expr d rest) h = absurd (cc h)

  library_names : (S : Scope) (g : LibCall) (ty : Ty) (args : Exprs) → covers_library g ≡ true → is_row_of_call g (types_of args) ty ≡ true
      → names count (library_of S ty g args) ≡ exps_name count (exps_of S args)
  library_names S g ty no_exprs c h = refl
  library_names S lib.Len ty (next_expr e rest) c h = text_names (codes "Len") (exps_of S (next_expr e rest))
  library_names S lib.Left ty (next_expr e rest) c h = text_names (codes "Left") (exps_of S (next_expr e rest))
  library_names S lib.Right ty (next_expr e rest) c h = text_names (codes "Right") (exps_of S (next_expr e rest))
  library_names S lib.Mid ty (next_expr e rest) c h = text_names (codes "Mid") (exps_of S (next_expr e rest))
  library_names S lib.Trim ty (next_expr e rest) c h = text_names (codes "Trim") (exps_of S (next_expr e rest))
  library_names S lib.LTrim ty (next_expr e rest) c h = text_names (codes "LTrim") (exps_of S (next_expr e rest))
  library_names S lib.RTrim ty (next_expr e rest) c h = text_names (codes "RTrim") (exps_of S (next_expr e rest))
  library_names S lib.UCase ty (next_expr e rest) c h = text_names (codes "UCase") (exps_of S (next_expr e rest))
  library_names S lib.LCase ty (next_expr e rest) c h = text_names (codes "LCase") (exps_of S (next_expr e rest))
  library_names S lib.Space ty (next_expr e rest) c h = text_names (codes "Space") (exps_of S (next_expr e rest))
  library_names S lib.Chr ty (next_expr e rest) c h = text_names (codes "Chr") (exps_of S (next_expr e rest))
  library_names S lib.Asc ty (next_expr e rest) c h = text_names (codes "Asc") (exps_of S (next_expr e rest))
  library_names S lib.InStr ty (next_expr e rest) c h = text_names (codes "InStr") (exps_of S (next_expr e rest))
  library_names S lib.Abs ty (next_expr e rest) c h =
      let inner = checked_names count no_support no_strings ty (call_path absolute_path (exps_of S (next_expr e rest))) in omega (arith, inner, no_math)
  library_names S lib.CBool ty (next_expr e rest) c h = conversion_names S types.boolean ty e rest h
  library_names S lib.CByte ty (next_expr e rest) c h = conversion_names S types.byte ty e rest h
  library_names S lib.CInt ty (next_expr e rest) c h = conversion_names S types.integer ty e rest h
  library_names S lib.CLng ty (next_expr e rest) c h = conversion_names S types.long ty e rest h
  library_names S lib.CCur ty (next_expr e rest) c h = conversion_names S types.currency ty e rest h
  library_names S lib.CStr ty (next_expr e rest) c h = conversion_names S types.str ty e rest h
  library_names S lib.IsEmpty ty (next_expr e rest) c h = absurd (cc c)
  library_names S lib.UBound ty (next_expr e rest) c h = absurd (cc c)
  library_names S lib.LBound ty (next_expr e rest) c h = absurd (cc c)
  library_names S lib.MsgBox ty (next_expr e rest) c h = function_names (codes "Box") (exps_of S (next_expr e rest))
  library_names S lib.InputBox ty (next_expr e rest) c h = function_names (codes "Ask") (exps_of S (next_expr e rest))

-- ---- expressions

none_first : (a b : Bool) → a ≡ false → b ≡ false → (a || b) ≡ false
none_first true b h e = absurd (cc h)
none_first false b h e = e

pub is_nothing_converted : (b : Bool) (ty to : Ty) (e : Expr) → (b && (is_class_type ty && (is_same_type ty to && is_nothing e))) ≡ true → is_nothing e ≡ true
is_nothing_converted b ty to e h =
    (both_true (is_same_type ty to) (is_nothing e)
    (both_true (is_class_type ty) (is_same_type ty to && is_nothing e) (both_true b (is_class_type ty && (is_same_type ty to && is_nothing e)) h).1).1).1

module _ (P : Program) (S : Scope) (same : S.declarations ≡ P.declarations) (p v : ℕ) (count : Path → ℕ) (test : Expr → Bool) (mentions : List Mention)
    (right : IsRight P S p mentions v count test) where
  -- the test finds no node
  abbrev Free : List Expr → Type 0
  Free es = list_any test es ≡ false

  -- a call on values, which name what they use, or one that asks for a bound
  call_names : (ty : Ty) (g : LibCall) (args : Exprs)
      → (covers_library g && covers_exprs (uses_in P p mentions) args ≡ true) ⊎ (is_bound g && covers_bounded (uses_in P p mentions) args ≡ true)
      → is_row_of_call g (types_of args) ty ≡ true
      → (covers_exprs (uses_in P p mentions) args ≡ true → exprs_uses v args ≡ exps_name count (exps_of S args))
      → exprs_uses v args ≡ names count (library_of S ty g args)
  call_names ty g args (inl h) row values =
      let both = both_true (covers_library g) (covers_exprs (uses_in P p mentions) args) h in
      values both.1 ∙ sym (library_names count right.no_support right.no_strings right.no_math S g ty args both.0 row)
  call_names ty g args (inr h) row values =
      let both = both_true (is_bound g) (covers_bounded (uses_in P p mentions) args) h in
      bound_names P S p v count test mentions right ty g args both.0 both.1

  -- what is given by reference
  given_names : (e : Expr)
      → (covers_expr (uses_in P p mentions) e ≡ true) ⊎ ((covers_array (uses_in P p mentions) e ≡ true) ⊎ (covers_place (uses_in P p mentions) e ≡ true))
      → Free (nodes e) → (covers_expr (uses_in P p mentions) e ≡ true → uses v e ≡ names count (exp_of S e)) → uses v e ≡ names count (exp_of S e)
  given_names e (inl c) free scalar = scalar c
  given_names e (inr (inl c)) free scalar = array_names P S p v count test mentions right e c
  given_names e (inr (inr c)) free scalar = place_names P S same p mentions v count test right e c free

  abbrev IsNamed : Ty → Term → Type 0
  IsNamed ty t = term_uses v t ≡ names count (term_exp S ty t)

  -- a scalar field of a place, or a scalar that an object has
  field_names : (ty : Ty) (e : Expr) (k : ℕ)
      → ((has_scalar (uses_in P p mentions) (type_at e) k && covers_base (uses_in P p mentions) e) ≡ true)
      ⊎ ((has_member (uses_in P p mentions) (type_at e) k covers_type && covers_object (uses_in P p mentions) e) ≡ true)
      → Free (nodes (typed ty (field e k))) → IsNamed ty (field e k)
  field_names ty e k (inl h) free =
      let both = both_true (has_scalar (uses_in P p mentions) (type_at e) k) (covers_base (uses_in P p mentions) e) h in
      path_counted P S same p mentions v count test right ty (field e k) (scalar_place P S same p mentions ty e k both.0 both.1) free
  field_names ty e k (inr h) free =
      let both = both_true (has_member (uses_in P p mentions) (type_at e) k covers_type) (covers_object (uses_in P p mentions) e) h in
      member_names P S same p mentions v count test right ty e k covers_type both.0 both.1 (neither (test (typed ty (field e k))) (list_any test (nodes e)) free).1

  -- Nothing names nothing
  nothing_names : (e : Expr) → is_nothing e ≡ true → uses v e ≡ names count (exp_of S e)
  nothing_names (typed types.nothing (constant v6.Nothing origin)) h =
      sym (constant_names count right.no_support right.no_strings (is_hexadecimal origin) v6.Nothing)
  nothing_names (typed types.nothing (constant _ origin)) h = absurd (cc h)
  nothing_names (typed types.nothing _) h = absurd (cc h)
  nothing_names (typed _ t) h = absurd (cc h)

  -- what a Function gives is covered as other calls are
  given_group : (ty : Ty) (t : Term) → covers_group_term (uses_in P p mentions) ty t ≡ true → Free (nodes (typed ty t))
      → (covers_term (uses_in P p mentions) t ≡ true → IsNamed ty t) → IsNamed ty t
  given_group ty (field e k) h free other = object_counted P S same p mentions v count test right ty (field e k) h free []
  given_group ty (variable k q) h free other =
      right.used k q ty (inr (inr (inr (ty, (both_true (covers_auto_use P p mentions k ty) (is_named_so P.declarations k q) h).0))))
  given_group ty me h free other = object_counted P S same p mentions v count test right ty me h free []
  given_group ty (call q qualified of args) h free other =
      other (both_true ((uses_in P p mentions).given ty) (covers_term (uses_in P p mentions) (call q qualified of args)) h).1
  given_group ty (convert to e) h free other =
      nothing_names e (is_nothing_converted ((uses_in P p mentions).given ty) ty to e h)
      ∙ sym (converted_names count right.no_support right.no_strings S to e)
  given_group ty (new_object c) h free other = refl
  given_group ty _ h free other = absurd (cc h)

  -- a value of a user type or a class
  group_value : (ty : Ty) (t : Term)
      → (covers_place_term (uses_in P p mentions) ty t ≡ true) ⊎ (covers_group_term (uses_in P p mentions) ty t ≡ true) → Free (nodes (typed ty t))
      → (covers_term (uses_in P p mentions) t ≡ true → IsNamed ty t) → IsNamed ty t
  group_value ty t (inl c) free other = path_counted P S same p mentions v count test right ty t (place_of P S same p mentions ty t c) free
  group_value ty t (inr c) free other = given_group ty t c free other

  -- what Is compares
  compared_value : (ty : Ty) (t : Term) → (is_nothing (typed ty t) ≡ true) ⊎ ((is_class_type ty && covers_group (uses_in P p mentions) (typed ty t)) ≡ true)
      → Free (nodes (typed ty t)) → (covers_term (uses_in P p mentions) t ≡ true → IsNamed ty t) → IsNamed ty t
  compared_value ty t (inl c) free other = nothing_names (typed ty t) c
  compared_value ty t (inr c) free other =
      group_value ty t
      (or_cases (covers_place_term (uses_in P p mentions) ty t) (covers_group_term (uses_in P p mentions) ty t)
      (both_true (is_class_type ty) (covers_group (uses_in P p mentions) (typed ty t)) c).1) free other

  -- what is given by value
  value_names : (ty : Ty) (t : Term)
      → (covers_expr (uses_in P p mentions) (typed ty t) ≡ true) ⊎ (covers_group (uses_in P p mentions) (typed ty t) ≡ true) → Free (nodes (typed ty t))
      → (covers_term (uses_in P p mentions) t ≡ true → term_uses v t ≡ names count (term_exp S ty t)) → term_uses v t ≡ names count (term_exp S ty t)
  value_names ty t (inl c) free other = other (both_true (covers_type ty) (covers_term (uses_in P p mentions) t) c).1
  value_names ty t (inr c) free other =
      group_value ty t (or_cases (covers_place_term (uses_in P p mentions) ty t) (covers_group_term (uses_in P p mentions) ty t) c) free other

  -- a call for an object
  pub called_for : (b c : Bool) (callee : Exp) (q : ℕ) (args : Passed)
      → names count (called (b && (has_none args && c)) callee (passed_of S q 0 args)) ≡ names count callee + exps_name count (passed_of S q 0 args)
  called_for true true callee q no_passed = omega arith
  called_for true false callee q no_passed = refl
  called_for false c callee q no_passed = refl
  called_for true c callee q (next_passed a rest) = refl
  called_for false c callee q (next_passed a rest) = refl

  mutual
    pub expr_names : (e : Expr) → covers_expr (uses_in P p mentions) e ≡ true → is_formed e ≡ true → Free (nodes e) → uses v e ≡ names count (exp_of S e)
    expr_names (typed ty t) h f free =
        let both = neither (test (typed ty t)) (list_any test (nodes_in t)) free in
        term_names ty t (both_true (covers_type ty) (covers_term (uses_in P p mentions) t) h).1 f both.0 both.1

    pub term_names : (ty : Ty) (t : Term) → covers_term (uses_in P p mentions) t ≡ true → is_formed_term ty t ≡ true
        → test (typed ty t) ≡ false → Free (nodes_in t) → term_uses v t ≡ names count (term_exp S ty t)
    term_names ty (constant y origin) h f own free = sym (constant_names count right.no_support right.no_strings (is_hexadecimal origin) y)
    term_names ty (variable k q) h f own free =
        right.used k q ty (inl (both_true (covers_use P p mentions k) (is_named_so P.declarations k q) h).0)
    term_names ty (element a indexes) h f own free =
        let both = both_true (covers_array (uses_in P p mentions) a) (covers_exprs (uses_in P p mentions) indexes) h in
        let form = both_true (has_elements (type_at a) ty) (are_longs (types_of indexes) && are_formed indexes) f in
        let forms = both_true (are_longs (types_of indexes)) (are_formed indexes) form.1 in
        let parted = none_of_both test (nodes a) (nodes_of_all indexes) free in
        let array = array_names P S p v count test mentions right a both.0 in
        let places = args_names indexes both.1 forms.1 parted.1 in
        let written = indexes_names P S p v count test mentions right a 0 indexes in
        omega (arith, array, places, written)
    term_names ty (field e k) h f own free =
        let cover = uses_in P p mentions in
        field_names ty e k
        (or_cases (has_scalar cover (type_at e) k && covers_base cover e) (has_member cover (type_at e) k covers_type && covers_object cover e) h)
        (none_first (test (typed ty (field e k))) (list_any test (nodes e)) own free)
    term_names ty (library g args) h f own free =
        let forms = both_true (is_row_of_call g (types_of args) ty) (are_formed args) f in
        call_names ty g args
        (or_cases (covers_library g && covers_exprs (uses_in P p mentions) args) (is_bound g && covers_bounded (uses_in P p mentions) args) h) forms.0
        (λ c. args_names args c forms.1 free)
    term_names ty err_number h f own free = let none = right.no_support (codes "ErrNumber") in omega (arith, none)
    term_names ty (unary o e) h f own free =
        let form = both_true (is_row_of_one ty (write_unary o (type_at e))) (is_formed e) f in
        let plain = no_variant (type_at e) (covered_type (uses_in P p mentions) e h) in
        expr_names e h form.1 free
        ∙ sym (ap {B = ℕ} (λ c. names count (cond c (variant_unary o (exp_of S e)) (typed_unary o ty (exp_of S e)))) plain
        ∙ unary_names count right.no_support right.no_strings o ty (exp_of S e))
    term_names ty (binary o d e) h f own free =
        let both = both_true (covers_operator o) (covers_expr (uses_in P p mentions) d && covers_expr (uses_in P p mentions) e) h in
        let sides = both_true (covers_expr (uses_in P p mentions) d) (covers_expr (uses_in P p mentions) e) both.1 in
        let form = both_true (is_row_of_two o ty (write_operator o (type_at d) (type_at e))) (is_formed d && is_formed e) f in
        let forms = both_true (is_formed d) (is_formed e) form.1 in
        let parted = none_of_both test (nodes d) (nodes e) free in
        let left = expr_names d sides.0 forms.0 parted.0 in
        let other = expr_names e sides.1 forms.1 parted.1 in
        let c = is_product_in_currency o ty in
        let first = operand_names count right.no_support right.no_strings S c d in
        let second = operand_names count right.no_support right.no_strings S c e in
        let whole =
        operator_names count right.no_support right.no_strings o (type_at d) (type_at e) ty (operand c d (exp_of S d)) (operand c e (exp_of S e)) form.0 in
        let plain =
        ap {B = ℕ}
        (λ t. names count (cond t (variant_operator o (exp_of S d) (exp_of S e))
        (typed_operator o (type_at d) ty (operand c d (exp_of S d)) (operand c e (exp_of S e)))))
        (neither_variant (is_variant (type_at d)) (is_variant (type_at e))
        (no_variant (type_at d) (covered_type (uses_in P p mentions) d sides.0)) (no_variant (type_at e) (covered_type (uses_in P p mentions) e sides.1))) in
        omega (arith, left, other, first, second, whole, plain)
    term_names ty (convert to e) h f own free =
        let both = both_true (covers_type to) (covers_expr (uses_in P p mentions) e) h in
        let form = both_true (is_some (write_conversion (type_at e) to)) (is_formed e) f in
        expr_names e both.1 form.1 free ∙ sym (converted_names count right.no_support right.no_strings S to e)
    term_names ty (is_same (typed s t) (typed r u)) h f own free =
        let cover = uses_in P p mentions in
        let both = both_true (covers_operand cover (typed s t)) (covers_operand cover (typed r u)) h in
        let form = both_true (is_formed_term s t) (is_formed_term r u) (both_true (is_same_type types.boolean ty) (is_formed_term s t && is_formed_term r u) f).1 in
        let parted = none_of_both test (nodes (typed s t)) (nodes (typed r u)) free in
        let first = neither (test (typed s t)) (list_any test (nodes_in t)) parted.0 in
        let second = neither (test (typed r u)) (list_any test (nodes_in u)) parted.1 in
        let left =
        compared_value s t (or_cases (is_nothing (typed s t)) (is_class_type s && covers_group cover (typed s t)) both.0) parted.0
        (λ c. term_names s t c form.0 first.0 first.1) in
        let other =
        compared_value r u (or_cases (is_nothing (typed r u)) (is_class_type r && covers_group cover (typed r u)) both.1) parted.1
        (λ c. term_names r u c form.1 second.0 second.1) in
        omega (arith, left, other)
    term_names ty (call q qualified (of_object e) args) h f own free =
        let cover = uses_in P p mentions in
        let gives = both_true (cover.gives q.0) (covers_object cover e && covers_passed cover args) h in
        let both = both_true (covers_object cover e) (covers_passed cover args) gives.1 in
        let parted = none_of_both test (nodes e) (nodes_of_passed args) free in
        let name : List ℕ = procedure_name S.declarations q.0 in
        let object = behind_names P S same p mentions v count test right e name both.0 parted.0 in
        let given = passed_names q.0 0 args both.1 f parted.1 in
        let whole =
        called_for (is_property S.declarations q.0) (not (reads_itself S q.0 qualified (of_object e))) (member_of e (exp_of S e) name) q.0 args in
        omega (arith, object, given, whole)
    term_names ty (call q qualified no_object no_passed) h f own free =
        sym (bare_names count (is_bare S q.0 qualified no_object no_passed) (net.path (procedure_path S qualified q.0))
        (right.uncalled ty q qualified no_passed own))
    term_names ty (call q qualified no_object (next_passed a rest)) h f own free =
        none_before (passed_uses v (next_passed a rest))
        ∙ passed_names q.0 0 (next_passed a rest)
        (both_true ((uses_in P p mentions).gives q.0) (covers_passed (uses_in P p mentions) (next_passed a rest)) h).1 f free
        ∙ sym (full_names count (is_property S.declarations q.0) (not (reads_itself S q.0 qualified no_object)) (net.path (procedure_path S qualified q.0))
        (passed_of S q.0 0 (next_passed a rest)) (right.uncalled ty q qualified (next_passed a rest) own))
    term_names ty _ h f own free = absurd (cc h)

    args_names : (args : Exprs) → covers_exprs (uses_in P p mentions) args ≡ true → are_formed args ≡ true → Free (nodes_of_all args)
        → exprs_uses v args ≡ exps_name count (exps_of S args)
    args_names no_exprs h f free = refl
    args_names (next_expr e rest) h f free =
        let both = both_true (covers_expr (uses_in P p mentions) e) (covers_exprs (uses_in P p mentions) rest) h in
        let forms = both_true (is_formed e) (are_formed rest) f in
        let parted = none_of_both test (nodes e) (nodes_of_all rest) free in
        let here = expr_names e both.0 forms.0 parted.0 in
        let more = args_names rest both.1 forms.1 parted.1 in
        omega (arith, here, more)

    pub passed_names : (q i : ℕ) (args : Passed) → covers_passed (uses_in P p mentions) args ≡ true → passed_are_formed args ≡ true
        → Free (nodes_of_passed args) → passed_uses v args ≡ exps_name count (passed_of S q i args)
    passed_names q i no_passed h f free = refl
    passed_names q i (next_passed (by_reference e) rest) h f free =
        let cover = uses_in P p mentions in
        let both = both_true ((is_passable cover e && covers_expr cover e) || (covers_array cover e || covers_place cover e)) (covers_passed (uses_in P p mentions) rest) h in
        let forms = both_true (is_formed e) (passed_are_formed rest) f in
        let parted = none_of_both test (nodes e) (nodes_of_passed rest) free in
        let here = given_names e (passed_cases cover e both.0) parted.0 (λ c. expr_names e c forms.0 parted.0) in
        let written = reference_names S count right.no_support (takes_reference S.declarations q i) e in
        let more = passed_names q (suc i) rest both.1 forms.1 parted.1 in
        omega (arith, here, written, more)
    passed_names q i (next_passed (by_value (typed ty t)) rest) h f free =
        let cover = uses_in P p mentions in
        let both = both_true (covers_expr cover (typed ty t) || covers_group cover (typed ty t)) (covers_passed cover rest) h in
        let forms = both_true (is_formed_term ty t) (passed_are_formed rest) f in
        let parted = none_of_both test (nodes (typed ty t)) (nodes_of_passed rest) free in
        let own = neither (test (typed ty t)) (list_any test (nodes_in t)) parted.0 in
        let here =
        value_names ty t (or_cases (covers_expr cover (typed ty t)) (covers_group cover (typed ty t)) both.0) parted.0
        (λ c. term_names ty t c forms.0 own.0 own.1) in
        let written = argument_names S count right.no_support (takes_reference S.declarations q i) (typed ty t) in
        let more = passed_names q (suc i) rest both.1 forms.1 parted.1 in
        omega (arith, here, written, more)

  -- ---- lines

  printed_names : (ty : Ty) (e : Exp) → names count (printed ty e) ≡ names count e
  printed_names types.boolean e = refl
  printed_names types.byte e = let none = right.no_support (codes "PrintNum") in omega (arith, none)
  printed_names types.integer e = let none = right.no_support (codes "PrintNum") in omega (arith, none)
  printed_names types.long e = let none = right.no_support (codes "PrintNum") in omega (arith, none)
  printed_names types.currency e = let none = right.no_support (codes "PrintNum") in omega (arith, none)
  printed_names types.variant e = let none = right.no_support (codes "PrintVar") in omega (arith, none)
  printed_names _ e = refl

  joined_names : (w : Exp) (es : List Expr) → list_all (covers_expr (uses_in P p mentions)) es ≡ true → list_all is_formed es ≡ true
      → Free (flat_map nodes es) → names count (joined_items S w es) ≡ names count w + total (uses v) es
  joined_names w [] h f free = omega arith
  joined_names w (e ∷ es) h f free =
      let both = both_true (covers_expr (uses_in P p mentions) e) (list_all (covers_expr (uses_in P p mentions)) es) h in
      let forms = both_true (is_formed e) (list_all is_formed es) f in
      let parted = none_of_both test (nodes e) (flat_map nodes es) free in
      let here = expr_names e both.0 forms.0 parted.0 in
      let item = printed_names (type_at e) (exp_of S e) in
      let more = joined_names (net.binary op.Concat w (printed_item S e)) es both.1 forms.1 parted.1 in
      omega (arith, here, item, more)

  pub items_names : (es : List Expr) → list_all (covers_expr (uses_in P p mentions)) es ≡ true → list_all is_formed es ≡ true
      → Free (flat_map nodes es) → total (uses v) es ≡ total (names count) (items_exp S es ∷ [])
  items_names [] h f free = refl
  items_names (e ∷ es) h f free =
      let both = both_true (covers_expr (uses_in P p mentions) e) (list_all (covers_expr (uses_in P p mentions)) es) h in
      let forms = both_true (is_formed e) (list_all is_formed es) f in
      let parted = none_of_both test (nodes e) (flat_map nodes es) free in
      let here = expr_names e both.0 forms.0 parted.0 in
      let item = printed_names (type_at e) (exp_of S e) in
      let more = joined_names (printed_item S e) es both.1 forms.1 parted.1 in
      omega (arith, here, item, more)

  pub assigned_names : (to e : Expr) → covers_expr (uses_in P p mentions) to ≡ true → covers_expr (uses_in P p mentions) e ≡ true
      → is_formed to ≡ true → is_formed e ≡ true → Free (flat_map nodes (to ∷ e ∷ []))
      → total (uses v) (to ∷ e ∷ []) ≡ total (names count) (exp_of S to ∷ exp_of S e ∷ [])
  assigned_names to e h k f g free =
      let parted = none_of_both test (nodes to) (flat_map nodes (e ∷ [])) free in
      let last = none_of_both test (nodes e) [] parted.1 in
      let left = expr_names to h f parted.0 in
      let value = expr_names e k g last.0 in
      omega (arith, left, value)

  pub group_names : (e : Expr) → covers_group (uses_in P p mentions) e ≡ true → is_formed e ≡ true → Free (nodes e) → uses v e ≡ names count (exp_of S e)
  group_names (typed ty t) h f free =
      let own = neither (test (typed ty t)) (list_any test (nodes_in t)) free in
      value_names ty t (inr h) free (λ c. term_names ty t c f own.0 own.1)

  -- a user type that is assigned as a whole
  pub copied_names : (to e : Expr) → covers_place (uses_in P p mentions) to ≡ true → covers_group (uses_in P p mentions) e ≡ true → is_formed e ≡ true
      → Free (flat_map nodes (to ∷ e ∷ [])) → (a : Exp) → names count a ≡ names count (exp_of S e)
      → total (uses v) (to ∷ e ∷ []) ≡ total (names count) (exp_of S to ∷ a ∷ [])
  copied_names to e h k f free a is =
      let parted = none_of_both test (nodes to) (flat_map nodes (e ∷ [])) free in
      let last = none_of_both test (nodes e) [] parted.1 in
      let left = place_names P S same p mentions v count test right to h parted.0 in
      let value = group_names e k f last.0 in
      omega (arith, left, value, is)

  -- the number of an Err.Raise
  pub raised_names : (ty : Ty) (e : Expr) → covers_expr (uses_in P p mentions) e ≡ true → is_formed e ≡ true
      → Free (flat_map nodes (typed ty (err_raise e) ∷ [])) → total (uses v) (typed ty (err_raise e) ∷ []) ≡ total (names count) (exp_of S e ∷ [])
  raised_names ty e h f free =
      let parted = none_of_both test (nodes (typed ty (err_raise e))) [] free in
      let inner = neither (test (typed ty (err_raise e))) (list_any test (nodes e)) parted.0 in
      let here = expr_names e h f inner.1 in
      omega (arith, here)

  -- the text of a box
  pub box_names : (ty : Ty) (e : Expr) → covers_expr (uses_in P p mentions) e ≡ true → is_formed e ≡ true
      → Free (flat_map nodes (typed ty (library lib.MsgBox (next_expr e no_exprs)) ∷ []))
      → total (uses v) (typed ty (library lib.MsgBox (next_expr e no_exprs)) ∷ []) ≡ total (names count) (exp_of S e ∷ [])
  box_names ty e h f free =
      let parted = none_of_both test (nodes (typed ty (library lib.MsgBox (next_expr e no_exprs)))) [] free in
      let inner = neither (test (typed ty (library lib.MsgBox (next_expr e no_exprs)))) (list_any test (nodes e ++ [])) parted.0 in
      let here = expr_names e h f (none_of_both test (nodes e) [] inner.1).0 in
      omega (arith, here)
