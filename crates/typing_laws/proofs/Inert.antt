-- Inert expressions change nothing.
use Rattle.std.proofs.Common.{◌≡◌, ◌⊎◌, inl, inr, refl, sym, subst, Bool, true, false, ◌&&◌, true≢false, List, [], ◌∷◌, slice_get, ◌++◌, Option, Some, None}
use Rattle.std.specs.List.{list_all}
use Rattle.up_base.proofs.Lists.{all_left, all_right}
use Rattle.up_base.proofs.Tests.{both_true, either}
use Rattle.vb_tree.specs.BoundTree.{Ty}
use Rattle.vb_tree.specs.declared.bound.LibCall.{LibCall}
use Rattle.vb_tree.specs.declared.bound.LibCall.TheVariants as lib
use Rattle.vb_tree.specs.declared.declared.VarId.{VarId}
use Rattle.vb_tree.specs.declared.value.Value6.{Value6}
use Rattle.vb6_meaning.specs.Answers.{Answer}
use Rattle.vb6_meaning.specs.Answers as answer
use Rattle.vb6_meaning.specs.Library as values
use Rattle.vb6_meaning.specs.Values.{coerce, operate}
use Rattle.bound_tree.specs.declared.body.Mention.{Mention}
use Rattle.bound_tree.specs.Tree.{Expr, typed, constant, variable, field, element, call, library, unary, binary, convert, new_object, me, with_object, err_number, err_raise, err_clear, is_same, loose, Exprs, no_exprs, next_expr}
use Rattle.bound_facts.specs.Folded.{binary_row, unary_row}
use Rattle.bound_facts.specs.Node.{auto_class, type_at}
use Rattle.bound_facts.specs.Nodes.{nodes, nodes_of_all}
use Rattle.row_laws.proofs.Composing.{after_nil}
use Rattle.run_base.specs.Outcomes.{Output, Outcome, gives, raises, spent, outside, after, then, answered, found, some_of}
use Rattle.vb6_run.specs.Expressions.{Context, Parts, at_address, answer_as, declared, left_operand, then_row, library_call, library_parts, library_value, made_for, parts_of, scalar_in, scalar_of, scalar_value, term_parts, value_in, value_parts, values_of}
use Rattle.vb6_run.specs.Runnables.{variable_address}
use Rattle.vb6_run.specs.Store.{Address, Does, Memory, held_at, provided, read}
use Rattle.vb6_run.specs.Store as store
use Rattle.vb6_run.specs.Values.{Value, scalar, fields, elements}
use Rattle.run_matches.specs.CoveredVariables.{covers_type}
use Rattle.run_matches.specs.CoveredExprs.{Uses, covers_bounded, covers_expr, covers_exprs, covers_library, covers_operator, covers_term, is_bound, uses_in}
use Rattle.typing_laws.specs.Inert.{ChangesNothing, gives_itself, is_inert, is_inert_node}
use Rattle.typing_laws.proofs.Flat.{variable_used}
use Rattle.typing_laws.proofs.Uses.{use_plain}

-- ---- computations that change nothing

abbrev Still : {A : Type 0} → (A → Type 0) → Memory → Outcome Memory A → Type 0
Still Q w (gives o a v) = (o ≡ []) × (v ≡ w) × Q a
Still Q w (raises o n v) = (o ≡ []) × (v ≡ w)
Still Q w (spent o v) = ⊥
Still Q w (outside o) = o ≡ []

still_after : {A : Type 0} (Q : A → Type 0) (w : Memory) (r : Outcome Memory A) → Still Q w r → Still Q w (after [] r)
still_after Q w r h = subst (λ z. Still Q w z) (sym (after_nil r)) h

given_here : {A : Type 0} (o : List Output) (a : A) (v w : Memory) → o ≡ [] → v ≡ w → ◌≡◌ {A = Outcome Memory A} (gives o a v) (gives [] a w)
given_here o a v w e f = λ i. gives (e i) a (f i)

then_still : {A B : Type 0} (Q : A → Type 0) (S : B → Type 0) (w : Memory) (r : Outcome Memory A) (k : A → Memory → Outcome Memory B) → Still Q w r
    → ((a : A) → Q a → Still S w (k a w)) → Still S w (then r k)
then_still Q S w (gives o a v) k h go =
    subst (λ z. Still S w (then z k)) (sym (given_here o a v w h.0 h.1)) (still_after S w (k a w) (go a h.2))
then_still Q S w (raises o n v) k h go = h
then_still Q S w (spent o v) k h go = h
then_still Q S w (outside o) k h go = h

abbrev Any : {A : Type 0} → A → Type 0
Any a = Unit {0}

answered_still : {A : Type 0} (a : Answer A) (w : Memory) → Still (Any {A = A}) w (answered a w)
answered_still (answer.gives x) w = (refl, refl, tt)
answered_still (answer.raises n) w = (refl, refl)
answered_still answer.outside w = refl

-- parts that are an address or a value
abbrev IsAddress : Parts → Type 0
IsAddress p = (a : Address) × (p ≡ at_address a)

answer_still : (ty : Ty) (a : Answer Value6) (w : Memory) → Still IsAddress w (answer_as ty a w)
answer_still ty a w =
    then_still (Any {A = Value6}) IsAddress w (answered a w) (λ x w. value_parts (scalar ty x) w) (answered_still a w)
    (λ x h. (refl, refl, (store.constant (scalar ty x), refl)))

read_still : (a : Address) (w : Memory) → Still (Any {A = Value}) w (read a w)
read_still a w = by (held_at a w.held)
  where
    by : (o : Option Value) → Still (Any {A = Value}) w (found o w)
    by None = refl
    by (Some x) = (refl, refl, tt)

scalar_still : (x : Value) (w : Memory) → Still (Any {A = Value6}) w (scalar_of x w)
scalar_still (scalar ty x) w = (refl, refl, tt)
scalar_still (fields t xs) w = refl
scalar_still (elements e dims xs) w = refl

module _ (C : Context) (e : Expr) (w : Memory) where
  checked_still : (b : Bool) (x : Value) → Still (Any {A = Value}) w (provided b (λ w. gives [] x w) w)
  checked_still true x = (refl, refl, tt)
  checked_still false x = refl

  address_still : (p : Parts) → IsAddress p → Still (Any {A = Value6}) w (scalar_in C e p w)
  address_still p h =
      subst (λ z. Still (Any {A = Value6}) w (scalar_in C e z w)) (sym h.1)
      (then_still (Any {A = Value}) (Any {A = Value6}) w (value_in C e (at_address h.0) w) scalar_of
      (then_still (Any {A = Value}) (Any {A = Value}) w (after [] (read h.0 w)) _ (still_after (Any {A = Value}) w (read h.0 w) (read_still h.0 w)) (λ x i. checked_still _ x))
      (λ x i. scalar_still x w))

module _ (C : Context) (mentions : List Mention) (w : Memory) where
  abbrev uses : Uses
  uses = uses_in C.runnable.program C.procedure mentions

  no : {A : Type 0} → false ≡ true → A
  no h = absurd (true≢false (sym h))

  variable_still : (x : VarId) → auto_class (slice_get (declared C).vars x.0) ≡ None → (ty : Ty) (qualified : Bool) → Still IsAddress w (parts_of C (typed ty (variable x qualified)) w)
  variable_still x plain ty qualified =
      subst (λ m. Still IsAddress w (then (some_of (variable_address (declared C) C.frame x.0) (λ a w. gives [] (at_address a) w) w) (λ p w. made_for C m p w))) (sym plain)
      (by (variable_address (declared C) C.frame x.0))
    where
      by : (o : Option Address) → Still IsAddress w (then (some_of o (λ a w. gives [] (at_address a) w) w) (λ p w. made_for C None p w))
      by None = refl
      by (Some a) = (refl, refl, (a, refl))

  -- ---- calls of the library

  abbrev rest_of : Exprs → Memory → Outcome Memory (List Value6)
  rest_of rest v = values_of C rest v

  library_still : (ty : Ty) (f : LibCall) (e : Expr) (rest : Exprs)
      → ((p : Parts) (v : Memory) → library_parts C ty f e rest (rest_of rest) p v ≡ library_value C ty f e (rest_of rest) p v)
      → Still IsAddress w (parts_of C e w) → Still (Any {A = List Value6}) w (values_of C rest w) → Still IsAddress w (library_call C ty f (next_expr e rest) w)
  library_still ty f e rest is h i =
      then_still IsAddress IsAddress w (parts_of C e w) (library_parts C ty f e rest (rest_of rest)) h
      (λ p a.
      subst (λ r. Still IsAddress w r) (sym (is p w))
      (then_still (Any {A = Value6}) IsAddress w (scalar_in C e p w) (λ x v. then (values_of C rest v) (λ xs u. answer_as ty (values.call f (x ∷ xs)) u))
      (address_still C e w p a)
      (λ x j.
      then_still (Any {A = List Value6}) IsAddress w (values_of C rest w) (λ xs u. answer_as ty (values.call f (x ∷ xs)) u) i
      (λ xs k. answer_still ty (values.call f (x ∷ xs)) w))))

  calls_still : (ty : Ty) (f : LibCall) (e : Expr) (rest : Exprs) → gives_itself f ≡ true → Still IsAddress w (parts_of C e w)
      → Still (Any {A = List Value6}) w (values_of C rest w) → Still IsAddress w (library_call C ty f (next_expr e rest) w)
  calls_still ty lib.Len e rest g h i = library_still ty lib.Len e rest (λ p v. refl) h i
  calls_still ty lib.Left e rest g h i = library_still ty lib.Left e rest (λ p v. refl) h i
  calls_still ty lib.Right e rest g h i = library_still ty lib.Right e rest (λ p v. refl) h i
  calls_still ty lib.Mid e rest g h i = library_still ty lib.Mid e rest (λ p v. refl) h i
  calls_still ty lib.Trim e rest g h i = library_still ty lib.Trim e rest (λ p v. refl) h i
  calls_still ty lib.LTrim e rest g h i = library_still ty lib.LTrim e rest (λ p v. refl) h i
  calls_still ty lib.RTrim e rest g h i = library_still ty lib.RTrim e rest (λ p v. refl) h i
  calls_still ty lib.UCase e rest g h i = library_still ty lib.UCase e rest (λ p v. refl) h i
  calls_still ty lib.LCase e rest g h i = library_still ty lib.LCase e rest (λ p v. refl) h i
  calls_still ty lib.Space e rest g h i = library_still ty lib.Space e rest (λ p v. refl) h i
  calls_still ty lib.Chr e rest g h i = library_still ty lib.Chr e rest (λ p v. refl) h i
  calls_still ty lib.Asc e rest g h i = library_still ty lib.Asc e rest (λ p v. refl) h i
  calls_still ty lib.InStr e rest g h i = library_still ty lib.InStr e rest (λ p v. refl) h i
  calls_still ty lib.Abs e rest g h i = library_still ty lib.Abs e rest (λ p v. refl) h i
  calls_still ty lib.CBool e rest g h i = library_still ty lib.CBool e rest (λ p v. refl) h i
  calls_still ty lib.CByte e rest g h i = library_still ty lib.CByte e rest (λ p v. refl) h i
  calls_still ty lib.CInt e rest g h i = library_still ty lib.CInt e rest (λ p v. refl) h i
  calls_still ty lib.CLng e rest g h i = library_still ty lib.CLng e rest (λ p v. refl) h i
  calls_still ty lib.CCur e rest g h i = library_still ty lib.CCur e rest (λ p v. refl) h i
  calls_still ty lib.CStr e rest g h i = library_still ty lib.CStr e rest (λ p v. refl) h i
  calls_still ty lib.IsEmpty e rest g h i = no g
  calls_still ty lib.UBound e rest g h i = no g
  calls_still ty lib.LBound e rest g h i = no g
  calls_still ty lib.MsgBox e rest g h i = no g
  calls_still ty lib.InputBox e rest g h i = no g

  no_bound : (f : LibCall) → gives_itself f ≡ true → is_bound f ≡ true → ⊥
  no_bound lib.UBound g h = true≢false (sym g)
  no_bound lib.LBound g h = true≢false (sym g)
  no_bound _ g h = true≢false (sym h)

  covered_of : (f : LibCall) (args : Exprs) → gives_itself f ≡ true → covers_term uses (library f args) ≡ true → covers_library f && covers_exprs uses args ≡ true
  covered_of f args g h = by (either (covers_library f && covers_exprs uses args) (is_bound f && covers_bounded uses args) h)
    where
      by : (covers_library f && covers_exprs uses args ≡ true) ⊎ (is_bound f && covers_bounded uses args ≡ true) → covers_library f && covers_exprs uses args ≡ true
      by (inl e) = e
      by (inr e) = absurd (no_bound f g (both_true (is_bound f) (covers_bounded uses args) e).0)

  -- ---- all inert expressions

  as_value : (e : Expr) → Still IsAddress w (parts_of C e w) → Still (Any {A = Value6}) w (scalar_value C e w)
  as_value e h = then_still IsAddress (Any {A = Value6}) w (parts_of C e w) (scalar_in C e) h (λ p a. address_still C e w p a)

  mutual
    parts_still : (e : Expr) → covers_expr uses e ≡ true → list_all is_inert_node (nodes e) ≡ true → Still IsAddress w (parts_of C e w)
    parts_still (typed ty (constant x origin)) covers inert = (refl, refl, (store.constant (scalar ty x), refl))
    parts_still (typed ty (variable x qualified)) covers inert =
        variable_still x (use_plain C.runnable.program C.procedure mentions x (variable_used uses ty x qualified covers)) ty qualified
    parts_still (typed ty (unary op e)) covers inert =
        let h = parts_still e (both_true (covers_type ty) (covers_expr uses e) covers).1 inert in
        then_still IsAddress IsAddress w (term_parts C ty (unary op e) w) _
        (then_still (Any {A = Value6}) IsAddress w (scalar_value C e w) (λ x v. answer_as ty (operate (unary_row (type_at e) op) x x) v) (as_value e h)
        (λ x i. answer_still ty (operate (unary_row (type_at e) op) x x) w))
        (λ p a. (refl, refl, a))
    parts_still (typed ty (binary op d e)) covers inert =
        let both = both_true (covers_type ty) (covers_operator op && (covers_expr uses d && covers_expr uses e)) covers in
        let operands = both_true (covers_expr uses d) (covers_expr uses e) (both_true (covers_operator op) (covers_expr uses d && covers_expr uses e) both.1).1 in
        let first = parts_still d operands.0 (all_left is_inert_node (nodes d) (nodes e) inert) in
        let second = parts_still e operands.1 (all_right is_inert_node (nodes d) (nodes e) inert) in
        let row = binary_row (type_at d) (type_at e) op in
        then_still IsAddress IsAddress w (term_parts C ty (binary op d e) w) _
        (then_still (Any {A = Value6}) IsAddress w (scalar_value C d w)
        (λ x v. then (answered (left_operand row x) v) (λ x v. then (scalar_value C e v) (λ y u. answer_as ty (operate (then_row row) x y) u))) (as_value d first)
        (λ x i.
        then_still (Any {A = Value6}) IsAddress w (answered (left_operand row x) w) (λ x v. then (scalar_value C e v) (λ y u. answer_as ty (operate (then_row row) x y) u))
        (answered_still (left_operand row x) w)
        (λ z j.
        then_still (Any {A = Value6}) IsAddress w (scalar_value C e w) (λ y u. answer_as ty (operate (then_row row) z y) u) (as_value e second)
        (λ y k. answer_still ty (operate (then_row row) z y) w))))
        (λ p a. (refl, refl, a))
    parts_still (typed ty (convert to e)) covers inert =
        let both = both_true (covers_type ty) (covers_type to && covers_expr uses e) covers in
        let h = parts_still e (both_true (covers_type to) (covers_expr uses e) both.1).1 inert in
        then_still IsAddress IsAddress w (term_parts C ty (convert to e) w) _
        (then_still (Any {A = Value6}) IsAddress w (scalar_value C e w) (λ x v. answer_as to (coerce x to) v) (as_value e h) (λ x i. answer_still to (coerce x to) w))
        (λ p a. (refl, refl, a))
    parts_still (typed ty (library f no_exprs)) covers inert = refl
    parts_still (typed ty (library f (next_expr e rest))) covers inert =
        let a = both_true (gives_itself f) (list_all is_inert_node (nodes e ++ nodes_of_all rest)) inert in
        let both = both_true (covers_type ty) (covers_term uses (library f (next_expr e rest))) covers in
        let known = both_true (covers_library f) (covers_expr uses e && covers_exprs uses rest) (covered_of f (next_expr e rest) a.0 both.1) in
        let operands = both_true (covers_expr uses e) (covers_exprs uses rest) known.1 in
        then_still IsAddress IsAddress w (library_call C ty f (next_expr e rest) w) _
        (calls_still ty f e rest a.0 (parts_still e operands.0 (all_left is_inert_node (nodes e) (nodes_of_all rest) a.1))
        (values_still rest operands.1 (all_right is_inert_node (nodes e) (nodes_of_all rest) a.1)))
        (λ p a. (refl, refl, a))
    parts_still (typed ty (call q qualified of args)) covers inert = no inert
    parts_still (typed ty (field e i)) covers inert = no inert
    parts_still (typed ty (element e indexes)) covers inert = no inert
    parts_still (typed ty (new_object class)) covers inert = no inert
    parts_still (typed ty me) covers inert = no inert
    parts_still (typed ty (with_object r)) covers inert = no inert
    parts_still (typed ty err_number) covers inert = no inert
    parts_still (typed ty (err_raise e)) covers inert = no inert
    parts_still (typed ty err_clear) covers inert = no inert
    parts_still (typed ty (is_same d e)) covers inert = no inert
    parts_still (typed ty (loose e rules)) covers inert = no inert

    values_still : (es : Exprs) → covers_exprs uses es ≡ true → list_all is_inert_node (nodes_of_all es) ≡ true → Still (Any {A = List Value6}) w (values_of C es w)
    values_still no_exprs covers inert = (refl, refl, tt)
    values_still (next_expr e rest) covers inert =
        let operands = both_true (covers_expr uses e) (covers_exprs uses rest) covers in
        let h = as_value e (parts_still e operands.0 (all_left is_inert_node (nodes e) (nodes_of_all rest) inert)) in
        let i = values_still rest operands.1 (all_right is_inert_node (nodes e) (nodes_of_all rest) inert) in
        then_still (Any {A = Value6}) (Any {A = List Value6}) w (scalar_value C e w) (λ x v. then (values_of C rest v) (λ xs u. gives [] (x ∷ xs) u)) h
        (λ x j. then_still (Any {A = List Value6}) (Any {A = List Value6}) w (values_of C rest w) (λ xs u. gives [] (x ∷ xs) u) i (λ xs k. (refl, refl, tt)))

as_nothing : {A : Type 0} (w : Memory) (r : Outcome Memory A) → Still (Any {A = A}) w r → ChangesNothing w r
as_nothing w (gives o x v) h = (h.0, h.1)
as_nothing w (raises o n v) h = h
as_nothing w (spent o v) h = h
as_nothing w (outside o) h = h

pub inert_changes_nothing : (C : Context) (mentions : List Mention) (e : Expr) (w : Memory)
    → covers_expr (uses_in C.runnable.program C.procedure mentions) e ≡ true → is_inert e ≡ true → ChangesNothing w (scalar_value C e w)
inert_changes_nothing C mentions e w covers inert =
    as_nothing w (scalar_value C e w) (as_value C mentions w e (parts_still C mentions w e covers inert))
