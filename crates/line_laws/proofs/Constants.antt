-- What is constant is so in the source: the lower bounds of a ReDim.
use Rattle.std.proofs.Common.{◌≡◌, ◌⊎◌, inl, inr, ◌∙◌, refl, sym, ap, subst, ℤ, Bool, true, false, cond, ◌&&◌, ◌||◌, Option, Some, None, [], true≢false}
use Rattle.std.specs.Prelude.{is_some, slice_get}
use Rattle.vb_tree.specs.BoundTree.{Ty}
use Rattle.vb_tree.specs.BoundTree as types
use Rattle.vb_tree.specs.declared.bound.Op6.{Op6}
use Rattle.vb_tree.specs.declared.bound.Op6.TheVariants as row
use Rattle.vb_tree.specs.declared.expression.BinOp.{BinOp}
use Rattle.vb_tree.specs.declared.expression.UnOp.{UnOp}
use Rattle.vb_tree.specs.declared.value.Value6.{Value6}
use Rattle.vb_tree.specs.declared.value.Value6.TheVariants as v
use Rattle.bound_tree.specs.Tree.{Expr, typed, constant, variable, field, element, call, library, unary, binary, convert, new_object, me, with_object, err_number, err_raise, err_clear, is_same, loose}
use Rattle.bound_facts.proofs.Chains.{both_true}
use Rattle.bound_facts.specs.Bounds.{home_base, low_in, whole_in, whole_of}
use Rattle.bound_facts.specs.Folded.{folded, given_value, unary_value, binary_value, converted_value, binary_row, unary_row}
use Rattle.bound_facts.specs.Node.{type_at, is_variant}
use Rattle.vb6_meaning.specs.Answers.{Answer}
use Rattle.vb6_meaning.specs.Answers as answer
use Rattle.vb6_meaning.specs.Values.{coerce, operate}
use Rattle.run_base.specs.Outcomes.{Outcome, gives, outside, after, then, answered}
use Rattle.vb6_run.specs.Expressions as source
use Rattle.vb6_run.specs.Expressions.{Context, Parts, at_address, answer_as, scalar_in, scalar_of, scalar_value, whole_number}
use Rattle.vb6_run.specs.Lines.{low_of}
use Rattle.vb6_run.specs.Store.{Memory, provided}
use Rattle.vb6_run.specs.Store as store
use Rattle.vb6_run.specs.Values.{scalar, is_of_shape}
use Rattle.run_matches.specs.CoveredVariables.{covers_type}
use Rattle.run_matches.specs.CoveredExprs.{Uses, covers_expr, covers_operator, covers_term}
use Rattle.run_matches.specs.CoveredLines.{covers_low}
use Rattle.line_laws.proofs.Bounds.{some_is}

-- ---- constants

-- what a computation gives, unless it lies outside
abbrev pub IsAlways : {A : Type 0} → Outcome Memory A → A → Memory → Type 0
IsAlways r x s = (r ≡ gives [] x s) ⊎ (r ≡ outside [])

always_kept : (ty : Ty) (x : Value6) (s : Memory) (b : Bool)
    → IsAlways (after [] (then (after [] (provided b (λ w. gives [] (scalar ty x) w) s)) scalar_of)) x s
always_kept ty x s true = inl refl
always_kept ty x s false = inr refl

-- the value of a constant
always_value : (C : Context) (e : Expr) (ty : Ty) (x : Value6) (s : Memory)
    → IsAlways (then (gives [] (at_address (store.constant (scalar ty x))) s) (scalar_in C e)) x s
always_value C e ty x s =
    always_kept ty x s (is_of_shape (source.type_shape (source.declared C) (type_at e)) (scalar ty x))

-- behind the answer of a row
always_answer : (C : Context) (e : Expr) (ty : Ty) (a : Answer Value6) (x : Value6) (s : Memory) (go : Outcome Memory Parts → Outcome Memory Value6)
    → ((p : Parts) → go (gives [] p s) ≡ then (gives [] p s) (scalar_in C e)) → given_value a ≡ Some x → IsAlways (go (answer_as ty a s)) x s
always_answer C e ty (answer.gives y) x s go same is =
    subst (λ z. IsAlways (go (gives [] (at_address (store.constant (scalar ty y))) s)) z s) (some_is y x is)
    (subst (λ z. IsAlways z y s) (sym (same (at_address (store.constant (scalar ty y))))) (always_value C e ty y s))
always_answer C e ty (answer.raises number) x s go same is = absurd (cc is)
always_answer C e ty answer.outside x s go same is = absurd (cc is)

-- behind a value that is always given
always_behind : (r : Outcome Memory Value6) (y x : Value6) (s : Memory) (go : Outcome Memory Value6 → Outcome Memory Value6) → go (outside []) ≡ outside []
    → IsAlways r y s → IsAlways (go (gives [] y s)) x s → IsAlways (go r) x s
always_behind r y x s go none (inl e) h = subst (λ z. IsAlways (go z) x s) (sym e) h
always_behind r y x s go none (inr e) h = inr (ap go e ∙ none)

not_variant : (ty : Ty) → covers_type ty ≡ true → is_variant ty ≡ false
not_variant types.boolean c = refl
not_variant types.byte c = refl
not_variant types.integer c = refl
not_variant types.long c = refl
not_variant types.currency c = refl
not_variant types.str c = refl
not_variant _ c = absurd (true≢false (sym c))

pub covered_type : (uses : Uses) (e : Expr) → covers_expr uses e ≡ true → covers_type (type_at e) ≡ true
covered_type uses (typed ty t) h = (both_true (covers_type ty) (covers_term uses t) h).0

typed_row : (d e : Expr) (o : BinOp) (uses : Uses) → covers_expr uses d ≡ true → covers_expr uses e ≡ true
    → binary_row (type_at d) (type_at e) o ≡ row.Typed o
typed_row d e o uses c k =
    ap (λ b. cond (b || is_variant (type_at e)) (row.Variant o) (row.Typed o)) (not_variant (type_at d) (covered_type uses d c))
    ∙ ap (λ b. cond b (row.Variant o) (row.Typed o)) (not_variant (type_at e) (covered_type uses e k))

-- a binary operator by its row
abbrev by_row : Context → Ty → BinOp → (d e : Expr) → Memory → Op6 → Outcome Memory Value6
by_row C ty o d e s r =
    then (then (then (scalar_value C d s) (λ y w. then (answered (source.left_operand r y) w) (λ y w.
    then (scalar_value C e w) (λ z w. answer_as ty (operate (source.then_row r) y z) w)))) (λ p w. gives [] p w)) (scalar_in C (typed ty (binary o d e)))

module _ (C : Context) (uses : Uses) where
  -- what is folded of an operand, which the source always gives
  abbrev Operand : Expr → Memory → Type 0
  Operand e s = (y : Value6) → folded e ≡ Some y → IsAlways (scalar_value C e s) y s

  unary_at : (ty : Ty) (o : UnOp) (e : Expr) (x : Value6) (s : Memory) → Operand e s → (m : Option Value6) → folded e ≡ m
      → unary_value (unary_row (type_at e) o) m ≡ Some x → IsAlways (scalar_value C (typed ty (unary o e)) s) x s
  unary_at ty o e x s operand None f g = absurd (cc g)
  unary_at ty o e x s operand (Some y) f g =
      always_behind (scalar_value C e s) y x s
      (λ r. then (then (then r (λ z w. answer_as ty (operate (unary_row (type_at e) o) z z) w)) (λ p w. gives [] p w)) (scalar_in C (typed ty (unary o e)))) refl
      (operand y f)
      (always_answer C (typed ty (unary o e)) ty (operate (unary_row (type_at e) o) y y) x s
      (λ r. then (then (after [] r) (λ p w. gives [] p w)) (scalar_in C (typed ty (unary o e)))) (λ p. refl) g)

  convert_at : (ty to : Ty) (e : Expr) (x : Value6) (s : Memory) → Operand e s → (m : Option Value6) → folded e ≡ m → converted_value to m ≡ Some x
      → IsAlways (scalar_value C (typed ty (convert to e)) s) x s
  convert_at ty to e x s operand None f g = absurd (cc g)
  convert_at ty to e x s operand (Some y) f g =
      always_behind (scalar_value C e s) y x s
      (λ r. then (then (then r (λ z w. answer_as to (coerce z to) w)) (λ p w. gives [] p w)) (scalar_in C (typed ty (convert to e)))) refl
      (operand y f)
      (always_answer C (typed ty (convert to e)) to (coerce y to) x s
      (λ r. then (then (after [] r) (λ p w. gives [] p w)) (scalar_in C (typed ty (convert to e)))) (λ p. refl) g)

  binary_at : (ty : Ty) (o : BinOp) (d e : Expr) (x : Value6) (s : Memory) → binary_row (type_at d) (type_at e) o ≡ row.Typed o → Operand d s → Operand e s
      → (m k : Option Value6) → folded d ≡ m → folded e ≡ k → binary_value (binary_row (type_at d) (type_at e) o) m k ≡ Some x
      → IsAlways (by_row C ty o d e s (binary_row (type_at d) (type_at e) o)) x s
  binary_at ty o d e x s same left right None k f g h = absurd (cc h)
  binary_at ty o d e x s same left right (Some y) None f g h = absurd (cc h)
  binary_at ty o d e x s same left right (Some y) (Some z) f g h =
      subst (λ r. IsAlways (by_row C ty o d e s r) x s) (sym same)
      (always_behind (scalar_value C d s) y x s
      (λ q. then (then (then q (λ y w. then (answered (source.left_operand (row.Typed o) y) w) (λ y w.
      then (scalar_value C e w) (λ z w. answer_as ty (operate (source.then_row (row.Typed o)) y z) w)))) (λ p w. gives [] p w))
      (scalar_in C (typed ty (binary o d e)))) refl
      (left y f)
      (always_behind (scalar_value C e s) z x s
      (λ q. then (then (after [] (after [] (then q (λ z w. answer_as ty (operate (row.Typed o) y z) w)))) (λ p w. gives [] p w))
      (scalar_in C (typed ty (binary o d e)))) refl
      (right z g)
      (always_answer C (typed ty (binary o d e)) ty (operate (row.Typed o) y z) x s
      (λ r. then (then (after [] (after [] (after [] r))) (λ p w. gives [] p w)) (scalar_in C (typed ty (binary o d e)))) (λ p. refl)
      (subst (λ r. binary_value r (Some y) (Some z) ≡ Some x) same h))))

  -- an expression that is folded has its value in the source
  folded_value : (e : Expr) (x : Value6) → covers_expr uses e ≡ true → folded e ≡ Some x → (s : Memory) → IsAlways (scalar_value C e s) x s
  folded_value (typed ty (constant y origin)) x covers is s =
      subst (λ z. IsAlways (scalar_value C (typed ty (constant y origin)) s) z s) (some_is y x is) (always_value C (typed ty (constant y origin)) ty y s)
  folded_value (typed ty (unary o e)) x covers is s =
      unary_at ty o e x s (λ y f. folded_value e y (both_true (covers_type ty) (covers_expr uses e) covers).1 f s) (folded e) refl is
  folded_value (typed ty (binary o d e)) x covers is s =
      let inner : (covers_operator o && (covers_expr uses d && covers_expr uses e)) ≡ true =
      (both_true (covers_type ty) (covers_operator o && (covers_expr uses d && covers_expr uses e)) covers).1 in
      let operands : (covers_expr uses d ≡ true) × (covers_expr uses e ≡ true) =
      both_true (covers_expr uses d) (covers_expr uses e) (both_true (covers_operator o) (covers_expr uses d && covers_expr uses e) inner).1 in
      binary_at ty o d e x s (typed_row d e o uses operands.0 operands.1) (λ y f. folded_value d y operands.0 f s) (λ y f. folded_value e y operands.1 f s)
      (folded d) (folded e) refl refl is
  folded_value (typed ty (convert to e)) x covers is s =
      let inner : covers_expr uses e ≡ true =
      (both_true (covers_type to) (covers_expr uses e) (both_true (covers_type ty) (covers_type to && covers_expr uses e) covers).1).1 in
      convert_at ty to e x s (λ y f. folded_value e y inner f s) (folded e) refl is
  folded_value (typed ty (variable u q)) x covers is s = absurd (cc is)
  folded_value (typed ty (field e k)) x covers is s = absurd (cc is)
  folded_value (typed ty (element e indexes)) x covers is s = absurd (cc is)
  folded_value (typed ty (call p q of args)) x covers is s = absurd (cc is)
  folded_value (typed ty (library f args)) x covers is s = absurd (cc is)
  folded_value (typed ty (new_object k)) x covers is s = absurd (cc is)
  folded_value (typed ty me) x covers is s = absurd (cc is)
  folded_value (typed ty (with_object of)) x covers is s = absurd (cc is)
  folded_value (typed ty err_number) x covers is s = absurd (cc is)
  folded_value (typed ty (err_raise e)) x covers is s = absurd (cc is)
  folded_value (typed ty err_clear) x covers is s = absurd (cc is)
  folded_value (typed ty (is_same d e)) x covers is s = absurd (cc is)
  folded_value (typed ty (loose e rules)) x covers is s = absurd (cc is)

  -- a Long is one
  long_of : (y : Value6) (z : ℤ) (s : Memory) → whole_in y ≡ Some z → IsAlways (whole_number y s) z s
  long_of (v.Long w) z s e = inl (ap (λ u. gives [] u s) (some_is w z e))
  long_of _ z s e = inr refl

  -- the lower bound of an extent, which what is written has as a constant
  pub low_is : (base z : ℤ) → base ≡ home_base (source.declared C) (slice_get (source.declared C).procs C.procedure) → (o : Option Expr) → covers_low uses o ≡ true
      → low_in base o ≡ Some z → (s : Memory) → IsAlways (low_of C o s) z s
  low_is base z same None covers is s = inl (ap (λ u. gives [] u s) (sym same ∙ some_is base z is))
  low_is base z same (Some e) covers is s = by (folded e) refl is
    where
      covered : covers_expr uses e ≡ true
      covered = (both_true (is_some (folded e)) (covers_expr uses e) covers).1

      behind : (y : Value6) → IsAlways (scalar_value C e s) y s → IsAlways (whole_number y s) z s → IsAlways (then (scalar_value C e s) whole_number) z s
      behind y (inl f) (inl g) = inl (ap (λ r. then r whole_number) f ∙ ap (after []) g)
      behind y (inl f) (inr g) = inr (ap (λ r. then r whole_number) f ∙ ap (after []) g)
      behind y (inr f) h = inr (ap (λ r. then r whole_number) f)

      by : (m : Option Value6) → folded e ≡ m → whole_of m ≡ Some z → IsAlways (then (scalar_value C e s) whole_number) z s
      by None f g = absurd (cc g)
      by (Some y) f g = behind y (folded_value e y covered f s) (long_of y z s g)
