-- Calls of the library, on arguments that agree.
use Rattle.std.proofs.Common.{◌≡◌, ◌∙◌, refl, sym, ap, subst, ℕ, zero, suc, Bool, true, false, ◌&&◌, [], ◌∷◌}
use Rattle.std.specs.Prelude.{◌||◌, is_some}
use Rattle.std.specs.Cmp.Lexicographic.{pointwise}
use Rattle.vb_tree.specs.BoundTree as types
use Rattle.vb_tree.specs.BoundTree.{Ty}
use Rattle.vb_tree.specs.declared.bound.LibCall.{LibCall}
use Rattle.vb_tree.specs.declared.bound.LibCall.TheVariants as lib
use Rattle.vb_tree.specs.declared.value.Value6.{Value6}
use Rattle.vb6_meaning.specs.Answers.{Answer, then_answer}
use Rattle.vb6_meaning.specs.Library.{call}
use Rattle.vb6_meaning.specs.Values.{coerce}
use Rattle.bound_tree.specs.Tree.{Expr, typed, library, Exprs, no_exprs, next_expr}
use Rattle.bound_facts.specs.Locks.{is_same_type}
use Rattle.bound_facts.specs.Node.{type_at}
use Rattle.net_tree.specs.Tree.{Exp}
use Rattle.net_meaning.specs.declared.value.ValueN.{ValueN}
use Rattle.net_tree.specs.Types as net_type
use Rattle.net_meaning.specs.Conversions.{coerce_net}
use Rattle.net_meaning.specs.Library as net_library
use Rattle.net_meaning.specs.WrittenRows.{write_conversion}
use Rattle.run_base.specs.Outcomes.{then}
use Rattle.vb6_run.specs.Expressions as source
use Rattle.vb6_run.specs.Expressions.{Context, Parts}
use Rattle.vb6_run.specs.Store.{Memory}
use Rattle.net_run.specs.Expressions as target
use Rattle.net_run.specs.Making.{Jobs}
use Rattle.net_run.specs.Names as net_names
use Rattle.written_trees.specs.Conversions.{one, two, converted}
use Rattle.written_trees.specs.Exprs.{exp_of, library_of}
use Rattle.written_trees.specs.Library.{library_call}
use Rattle.written_trees.specs.Names.{Scope}
use Rattle.run_matches.specs.Agreeing.{Agrees}
use Rattle.run_matches.specs.CoveredVariables.{covers_type}
use Rattle.run_matches.specs.CoveredExprs.{Uses, covers_library, covers_expr, covers_term, covers_exprs}
use Rattle.run_matches.specs.Formed.{types_of, is_call, is_conversion_to, is_signed, is_row_of_call, is_formed, are_formed}
use Rattle.run_matches.specs.Likeness.{are_same}
use Rattle.run_matches.specs.Maps.{World}
use Rattle.run_matches.specs.Match.{MemoryMatch}
use Rattle.run_matches.specs.Pledges.{Pledge, Later}
use Rattle.run_matches.specs.Upgrades.{Upgrade}
use Rattle.run_statements.specs.Frames.{ScalarMatch, PlainMatch, IsOpen}
use Rattle.agreeing_laws.proofs.Agreeing.{then_agrees}
use Rattle.agreeing_laws.proofs.Lasting.{later_now}
use Rattle.row_laws.specs.Follows.{Any, RowOfOne, RowOfTwo}
use Rattle.row_laws.specs.Functions.{answer_to}
use Rattle.row_laws.specs.Items.{text_in}
use Rattle.row_laws.specs.Library.{OneSame, SameOfTwo, absolute_row}
use Rattle.row_laws.specs.Rows.{IsOf}
use Rattle.row_laws.proofs.Composing.{then_assoc}
use Rattle.row_laws.proofs.LibraryValues as values
use Rattle.row_laws.proofs.Stated as rows
use Rattle.expression_laws.proofs.Types.{both_true, same_as, same_of}
use Rattle.expression_laws.proofs.Checks.{TermMatch, term_agrees, plain_agrees}
use Rattle.expression_laws.proofs.Conversions.{conversion_agrees}
use Rattle.expression_laws.proofs.Inputs.{question_agrees}
use Rattle.expression_laws.proofs.LibraryArguments.{valued, one_is, two_is, three_is}
use Rattle.expression_laws.proofs.RowsAgree.{any_same, one_agrees, two_agree, three_agree}

-- a type that is covered is no missing one
no_box : (ty : Ty) → is_same_type types.nothing ty ≡ true → covers_type ty ≡ true → ⊥
no_box types.nothing h c = absurd (cc c)
no_box _ h c = absurd (cc h)

-- ---- rows

pub by_either : {R : Type 0} (a b : Bool) → (a || b) ≡ true → (a ≡ true → R) → (b ≡ true → R) → R
by_either true b h f g = f refl
by_either false b h f g = g h

-- a row on any value is one on values of a type
typed_row : (S : net_names.Scope) (oracle : Jobs) (P : ValueN → Type 0) (whole a c : Exp) (row : ValueN → ValueN → Answer ValueN)
    → RowOfTwo S oracle Any whole a c row → RowOfTwo S oracle P whole a c row
typed_row S oracle P whole a c row h = record { behind = h.behind; is = h.is; second = λ x p. h.second x tt }

module _ (U : Upgrade) (K : Pledge) (S : net_names.Scope) (oracle : Jobs) (opened : IsOpen S) (C : Context) (T : Scope) where
  -- an argument from some world on
  abbrev IsOperand : World → Expr → Ty → Type 0
  IsOperand w e s =
      (v : World) → Later U K w v → Agrees U K v (PlainMatch U s) (source.scalar_value C e v.src) (target.value_of S oracle (exp_of T e) v.net)

  -- arguments that agree, of which no call takes more than three
  abbrev Operands : World → (most : ℕ) → Exprs → Type 0
  Operands w zero args = Unit {0}
  Operands w (suc n) no_exprs = Unit {0}
  Operands w (suc n) (next_expr e rest) = IsOperand w e (type_at e) × Operands w n rest

  abbrev AreOperands : World → Exprs → Type 0
  AreOperands w args = Operands w 3 args

  abbrev Same : World → Ty → LibCall → Exprs → Type 0
  Same w ty f args =
      Agrees U K w (TermMatch U ty) (source.library_call C ty f args w.src) (target.value_of S oracle (library_of T ty f args) w.net)

  -- an argument of the row's type
  operand : (w : World) (e : Expr) (s : Ty) → covers_type s ≡ true → is_same_type (type_at e) s ≡ true → IsOperand w e (type_at e) → IsOperand w e s
  operand w e s covers h agrees = subst (λ q. IsOperand w e q) (same_as (type_at e) s covers h) agrees

  -- the source's call is that of its value
  abbrev IsValued : Ty → LibCall → Expr → Exprs → Type 0
  IsValued ty f e rest =
      (p : Parts) (v : Memory)
      → source.library_parts C ty f e rest (λ u. source.values_of C rest u) p v ≡ source.library_value C ty f e (λ u. source.values_of C rest u) p v

  valued_is : (ty : Ty) (f : LibCall) (e : Expr) (rest : Exprs) (v : Memory) → IsValued ty f e rest
      → source.library_call C ty f (next_expr e rest) v ≡ valued C ty f e rest v
  valued_is ty f e rest v h = ap (λ k. then (source.parts_of C e v) k) (λ i p u. h p u i)

  module _ (w : World) (start : MemoryMatch U w) where
    -- ---- calls of one value

    one_call : (f : LibCall) (s t ty : Ty) (row : ValueN → Answer ValueN) (args : Exprs) → covers_type s ≡ true → covers_type t ≡ true
        → ((e : Expr) → IsValued t f e no_exprs)
        → ((e : Expr) → RowOfOne S oracle Any (library_call T f t e no_exprs (exp_of T e) (one (exp_of T e))) (exp_of T e) row)
        → ((same : ℕ → ℕ → Bool) → OneSame same s t (λ a. call f (a ∷ [])) row)
        → is_call (s ∷ []) t (types_of args) ty ≡ true → AreOperands w args → Same w ty f args
    one_call f s t ty row no_exprs covers gives_covered is row_is law h operands = absurd (cc (both_true (is_same_type t ty) false h).1)
    one_call f s t ty row (next_expr e (next_expr d rest)) covers gives_covered is row_is law h operands =
        absurd (cc (both_true (is_same_type (type_at e) s) false (both_true (is_same_type t ty) (is_same_type (type_at e) s && false) h).1).1)
    one_call f s t ty row (next_expr e no_exprs) covers gives_covered is row_is law h operands =
        let both = both_true (is_same_type t ty) (is_same_type (type_at e) s && true) h in
        subst (λ q. Same w q f (next_expr e no_exprs)) (sym (same_of t ty gives_covered both.0))
        (subst (λ r. Agrees U K w (TermMatch U t) r (target.value_of S oracle (library_of T t f (next_expr e no_exprs)) w.net))
        (sym (valued_is t f e no_exprs w.src (is e) ∙ one_is C t f e w.src))
        (one_agrees U K S oracle s t (λ a. call f (a ∷ [])) row (library_of T t f (next_expr e no_exprs)) (exp_of T e) (source.scalar_value C e w.src) w (row_is e)
        (λ v z x m. law (are_same v) z x m) start
        (operand w e s covers (both_true (is_same_type (type_at e) s) true both.1).0 operands.0 w (later_now U K w start))))

    -- ---- calls of two values

    two_call : (f : LibCall) (s s' t ty : Ty) (row : ValueN → ValueN → Answer ValueN) (args : Exprs) → covers_type s ≡ true → covers_type s' ≡ true
        → covers_type t ≡ true → ((e d : Expr) → IsValued t f e (next_expr d no_exprs))
        → ((e d : Expr) → RowOfTwo S oracle Any (library_call T f t e (next_expr d no_exprs) (exp_of T e) (two (exp_of T e) (exp_of T d))) (exp_of T e) (exp_of T d) row)
        → SameOfTwo f s s' t row → is_call (s ∷ s' ∷ []) t (types_of args) ty ≡ true → AreOperands w args → Same w ty f args
    two_call f s s' t ty row no_exprs covers covers' gives_covered is row_is law h operands = absurd (cc (both_true (is_same_type t ty) false h).1)
    two_call f s s' t ty row (next_expr e no_exprs) covers covers' gives_covered is row_is law h operands =
        absurd (cc (both_true (is_same_type (type_at e) s) false (both_true (is_same_type t ty) (is_same_type (type_at e) s && false) h).1).1)
    two_call f s s' t ty row (next_expr e (next_expr d (next_expr c rest))) covers covers' gives_covered is row_is law h operands =
        let both = both_true (is_same_type t ty) (is_same_type (type_at e) s && (is_same_type (type_at d) s' && false)) h in
        let rest_of = both_true (is_same_type (type_at e) s) (is_same_type (type_at d) s' && false) both.1 in
        absurd (cc (both_true (is_same_type (type_at d) s') false rest_of.1).1)
    two_call f s s' t ty row (next_expr e (next_expr d no_exprs)) covers covers' gives_covered is row_is law h operands =
        let both = both_true (is_same_type t ty) (is_same_type (type_at e) s && (is_same_type (type_at d) s' && true)) h in
        let given = both_true (is_same_type (type_at e) s) (is_same_type (type_at d) s' && true) both.1 in
        let whole : Exp = library_of T t f (next_expr e (next_expr d no_exprs)) in
        subst (λ q. Same w q f (next_expr e (next_expr d no_exprs))) (sym (same_of t ty gives_covered both.0))
        (subst (λ r. Agrees U K w (TermMatch U t) r (target.value_of S oracle whole w.net))
        (sym (valued_is t f e (next_expr d no_exprs) w.src (is e d) ∙ two_is C t f e d w.src))
        (two_agree U K S oracle s s' t (λ z y. call f (z ∷ y ∷ [])) row whole (exp_of T e) (exp_of T d) (source.scalar_value C e w.src) (source.scalar_value C d) w
        (typed_row S oracle (IsOf any_same s) whole (exp_of T e) (exp_of T d) row (row_is e d)) (λ v z y x x' m m'. law (are_same v) z y x x' m m') start
        (operand w e s covers given.0 operands.0 w (later_now U K w start))
        (operand w d s' covers' (both_true (is_same_type (type_at d) s') true given.1).0 operands.1.0)))

    -- ---- Mid of three values

    middle_call : (ty : Ty) (args : Exprs) → is_call (types.str ∷ types.long ∷ types.long ∷ []) types.str (types_of args) ty ≡ true → AreOperands w args
        → Same w ty lib.Mid args
    middle_call ty no_exprs h operands = absurd (cc (both_true (is_same_type types.str ty) false h).1)
    middle_call ty (next_expr e no_exprs) h operands =
        let both = both_true (is_same_type types.str ty) (is_same_type (type_at e) types.str && false) h in
        absurd (cc (both_true (is_same_type (type_at e) types.str) false both.1).1)
    middle_call ty (next_expr e (next_expr d no_exprs)) h operands =
        let both = both_true (is_same_type types.str ty) (is_same_type (type_at e) types.str && (is_same_type (type_at d) types.long && false)) h in
        let given = both_true (is_same_type (type_at e) types.str) (is_same_type (type_at d) types.long && false) both.1 in
        absurd (cc (both_true (is_same_type (type_at d) types.long) false given.1).1)
    middle_call ty (next_expr e (next_expr d (next_expr c (next_expr b rest)))) h operands =
        let last : Bool = is_same_type (type_at c) types.long && false in
        let both = both_true (is_same_type types.str ty) (is_same_type (type_at e) types.str && (is_same_type (type_at d) types.long && last)) h in
        let given = both_true (is_same_type (type_at e) types.str) (is_same_type (type_at d) types.long && last) both.1 in
        let counts = both_true (is_same_type (type_at d) types.long) last given.1 in
        absurd (cc (both_true (is_same_type (type_at c) types.long) false counts.1).1)
    middle_call ty (next_expr e (next_expr d (next_expr c no_exprs))) h operands =
        let args : Exprs = next_expr e (next_expr d (next_expr c no_exprs)) in
        let last : Bool = is_same_type (type_at c) types.long && true in
        let both = both_true (is_same_type types.str ty) (is_same_type (type_at e) types.str && (is_same_type (type_at d) types.long && last)) h in
        let given = both_true (is_same_type (type_at e) types.str) (is_same_type (type_at d) types.long && last) both.1 in
        let counts = both_true (is_same_type (type_at d) types.long) last given.1 in
        let whole : Exp = library_of T types.str lib.Mid args in
        subst (λ q. Same w q lib.Mid args) (sym (same_of types.str ty refl both.0))
        (subst (λ r. Agrees U K w (TermMatch U types.str) r (target.value_of S oracle whole w.net)) (sym (three_is C types.str lib.Mid e d c w.src))
        (three_agree U K S oracle types.str types.long types.long types.str (λ z y x. call lib.Mid (z ∷ y ∷ x ∷ [])) net_library.mid whole (exp_of T e) (exp_of T d)
        (exp_of T c) (source.scalar_value C e w.src) (source.scalar_value C d) (source.scalar_value C c) w
        (rows.middle_is_row S oracle opened.texts (exp_of T e) (exp_of T d) (exp_of T c) w.net)
        (λ v z y x a b c m m' m''. values.middle_same (are_same v) z y x a b c m m' m'') start
        (operand w e types.str refl given.0 operands.0 w (later_now U K w start)) (operand w d types.long refl counts.0 operands.1.0)
        (operand w c types.long refl (both_true (is_same_type (type_at c) types.long) true counts.1).0 operands.1.1.0)))

    -- ---- conversions

    conversion_call : (uses : Uses) (f : LibCall) (to ty : Ty) (args : Exprs) → covers_type to ≡ true → ((e : Expr) → IsValued to f e no_exprs)
        → ((x : Value6) → call f (x ∷ []) ≡ coerce x to)
        → ((e : Expr) → library_call T f to e no_exprs (exp_of T e) (one (exp_of T e)) ≡ converted to e (exp_of T e))
        → is_conversion_to to (types_of args) ty ≡ true → covers_exprs uses args ≡ true → are_formed args ≡ true → AreOperands w args → Same w ty f args
    conversion_call uses f to ty no_exprs gives_covered is row_is written h covers formed operands = absurd (cc h)
    conversion_call uses f to ty (next_expr e (next_expr d rest)) gives_covered is row_is written h covers formed operands = absurd (cc h)
    conversion_call uses f to ty (next_expr (typed from t) no_exprs) gives_covered is row_is written h covers formed operands =
        let e : Expr = typed from t in
        let both = both_true (is_same_type to ty) (is_some (write_conversion from to)) h in
        let inner = both_true (covers_type from) (covers_term uses t) (both_true (covers_expr uses e) true covers).0 in
        subst (λ q. Same w q f (next_expr e no_exprs)) (sym (same_of to ty gives_covered both.0))
        (subst (λ r. Agrees U K w (TermMatch U to) r (target.value_of S oracle (library_of T to f (next_expr e no_exprs)) w.net))
        (sym (valued_is to f e no_exprs w.src (is e) ∙ one_is C to f e w.src
        ∙ ap (λ k. then (source.scalar_value C e w.src) k) (λ i x u. source.answer_as to (row_is x i) u)))
        (subst (λ a. Agrees U K w (TermMatch U to) (then (source.scalar_value C e w.src) (λ x u. source.answer_as to (coerce x to) u)) (target.value_of S oracle a w.net))
        (sym (written e))
        (conversion_agrees U K S oracle opened C from to t (exp_of T e) w inner.0 (both_true (is_formed e) true formed).0 both.1 start
        (operands.0 w (later_now U K w start)))))

    -- ---- Abs

    absolute_call : (ty : Ty) (args : Exprs) → (is_signed ty && is_call (ty ∷ []) ty (types_of args) ty) ≡ true → AreOperands w args → Same w ty lib.Abs args
    absolute_call types.integer args h operands =
        one_call lib.Abs types.integer types.integer types.integer (absolute_row types.integer) args refl refl (λ e p v. refl)
        (λ e. rows.library_is_row lib.Abs S oracle opened.support opened.texts opened.math T types.integer e no_exprs (exp_of T e)) values.absolute_integer h operands
    absolute_call types.long args h operands =
        one_call lib.Abs types.long types.long types.long (absolute_row types.long) args refl refl (λ e p v. refl)
        (λ e. rows.library_is_row lib.Abs S oracle opened.support opened.texts opened.math T types.long e no_exprs (exp_of T e)) values.absolute_long h operands
    absolute_call types.currency args h operands =
        one_call lib.Abs types.currency types.currency types.currency (absolute_row types.currency) args refl refl (λ e p v. refl)
        (λ e. rows.library_is_row lib.Abs S oracle opened.support opened.texts opened.math T types.currency e no_exprs (exp_of T e)) values.absolute_currency h operands
    absolute_call _ args h operands = absurd (cc h)

    -- ---- InputBox

    input_call : (ty : Ty) (args : Exprs) → is_call (types.str ∷ []) types.str (types_of args) ty ≡ true → AreOperands w args → Same w ty lib.InputBox args
    input_call ty no_exprs h operands = absurd (cc (both_true (is_same_type types.str ty) false h).1)
    input_call ty (next_expr e (next_expr d rest)) h operands =
        let both = both_true (is_same_type types.str ty) (is_same_type (type_at e) types.str && false) h in
        absurd (cc (both_true (is_same_type (type_at e) types.str) false both.1).1)
    input_call ty (next_expr e no_exprs) h operands =
        let both = both_true (is_same_type types.str ty) (is_same_type (type_at e) types.str && true) h in
        let given = both_true (is_same_type (type_at e) types.str) true both.1 in
        subst (λ q. Same w q lib.InputBox (next_expr e no_exprs)) (sym (same_of types.str ty refl both.0))
        (subst (λ r. Agrees U K w (TermMatch U types.str) r (target.value_of S oracle (library_of T types.str lib.InputBox (next_expr e no_exprs)) w.net))
        (then_assoc (source.parts_of C e w.src) (source.scalar_in C e) source.asked_text)
        (subst (λ r. Agrees U K w (TermMatch U types.str) (then (source.scalar_value C e w.src) source.asked_text) r)
        (sym (rows.question_is_answered S oracle opened.support (exp_of T e) w.net ∙ then_assoc (target.value_of S oracle (exp_of T e) w.net) text_in answer_to))
        (then_agrees U K w (PlainMatch U types.str) (TermMatch U types.str) (source.scalar_value C e w.src) (target.value_of S oracle (exp_of T e) w.net)
        source.asked_text (λ y u. then (text_in y u) answer_to) start (operand w e types.str refl given.0 operands.0 w (later_now U K w start))
        (λ z y v like later. question_agrees U K v later.match z y like))))

    -- ---- all calls

    call_agrees : (uses : Uses) (ty : Ty) (f : LibCall) (args : Exprs) → covers_type ty ≡ true → covers_library f ≡ true → covers_exprs uses args ≡ true
        → is_row_of_call f (types_of args) ty ≡ true → are_formed args ≡ true → AreOperands w args → Same w ty f args
    call_agrees uses ty lib.Len args gives_covered covered covers h formed operands =
        one_call lib.Len types.str types.long ty net_library.len args refl refl (λ e p v. refl)
        (λ e. rows.library_is_row lib.Len S oracle opened.support opened.texts opened.math T types.long e no_exprs (exp_of T e)) (values.library_same lib.Len) h operands
    call_agrees uses ty lib.Left args gives_covered covered covers h formed operands =
        two_call lib.Left types.str types.long types.str ty net_library.left args refl refl refl (λ e d p v. refl)
        (λ e d. rows.left_is_row S oracle opened.texts (exp_of T e) (exp_of T d)) values.left_same h operands
    call_agrees uses ty lib.Right args gives_covered covered covers h formed operands =
        two_call lib.Right types.str types.long types.str ty net_library.right args refl refl refl (λ e d p v. refl)
        (λ e d. rows.right_is_row S oracle opened.texts (exp_of T e) (exp_of T d)) values.right_same h operands
    call_agrees uses ty lib.Mid args gives_covered covered covers h formed operands =
        by_either (is_call (types.str ∷ types.long ∷ []) types.str (types_of args) ty)
        (is_call (types.str ∷ types.long ∷ types.long ∷ []) types.str (types_of args) ty) h
        (λ two_given.
        two_call lib.Mid types.str types.long types.str ty net_library.mid_on args refl refl refl (λ e d p v. refl)
        (λ e d. rows.mid_is_row S oracle opened.texts (exp_of T e) (exp_of T d)) values.rest_same two_given operands)
        (λ three_given. middle_call ty args three_given operands)
    call_agrees uses ty lib.Trim args gives_covered covered covers h formed operands =
        one_call lib.Trim types.str types.str ty net_library.trim args refl refl (λ e p v. refl)
        (λ e. rows.library_is_row lib.Trim S oracle opened.support opened.texts opened.math T types.str e no_exprs (exp_of T e)) (values.library_same lib.Trim) h operands
    call_agrees uses ty lib.LTrim args gives_covered covered covers h formed operands =
        one_call lib.LTrim types.str types.str ty net_library.left_trim args refl refl (λ e p v. refl)
        (λ e. rows.library_is_row lib.LTrim S oracle opened.support opened.texts opened.math T types.str e no_exprs (exp_of T e)) (values.library_same lib.LTrim) h operands
    call_agrees uses ty lib.RTrim args gives_covered covered covers h formed operands =
        one_call lib.RTrim types.str types.str ty net_library.right_trim args refl refl (λ e p v. refl)
        (λ e. rows.library_is_row lib.RTrim S oracle opened.support opened.texts opened.math T types.str e no_exprs (exp_of T e)) (values.library_same lib.RTrim) h operands
    call_agrees uses ty lib.UCase args gives_covered covered covers h formed operands =
        one_call lib.UCase types.str types.str ty net_library.upper args refl refl (λ e p v. refl)
        (λ e. rows.library_is_row lib.UCase S oracle opened.support opened.texts opened.math T types.str e no_exprs (exp_of T e)) (values.library_same lib.UCase) h operands
    call_agrees uses ty lib.LCase args gives_covered covered covers h formed operands =
        one_call lib.LCase types.str types.str ty net_library.lower args refl refl (λ e p v. refl)
        (λ e. rows.library_is_row lib.LCase S oracle opened.support opened.texts opened.math T types.str e no_exprs (exp_of T e)) (values.library_same lib.LCase) h operands
    call_agrees uses ty lib.Space args gives_covered covered covers h formed operands =
        one_call lib.Space types.long types.str ty net_library.space args refl refl (λ e p v. refl)
        (λ e. rows.library_is_row lib.Space S oracle opened.support opened.texts opened.math T types.str e no_exprs (exp_of T e)) (values.library_same lib.Space) h operands
    call_agrees uses ty lib.Chr args gives_covered covered covers h formed operands =
        one_call lib.Chr types.long types.str ty (λ x. then_answer (net_library.character x) (λ v. coerce_net v net_type.str)) args refl refl (λ e p v. refl)
        (λ e. rows.library_is_row lib.Chr S oracle opened.support opened.texts opened.math T types.str e no_exprs (exp_of T e)) (values.library_same lib.Chr) h operands
    call_agrees uses ty lib.Asc args gives_covered covered covers h formed operands =
        one_call lib.Asc types.str types.integer ty (λ x. then_answer (net_library.character_number x) (λ v. coerce_net v net_type.short)) args refl refl (λ e p v. refl)
        (λ e. rows.library_is_row lib.Asc S oracle opened.support opened.texts opened.math T types.integer e no_exprs (exp_of T e)) (values.library_same lib.Asc) h operands
    call_agrees uses ty lib.InStr args gives_covered covered covers h formed operands =
        two_call lib.InStr types.str types.str types.long ty net_library.place args refl refl refl (λ e d p v. refl)
        (λ e d. rows.instr_is_row S oracle opened.texts (exp_of T e) (exp_of T d)) values.place_same h operands
    call_agrees uses ty lib.Abs args gives_covered covered covers h formed operands = absolute_call ty args h operands
    call_agrees uses ty lib.CBool args gives_covered covered covers h formed operands =
        conversion_call uses lib.CBool types.boolean ty args refl (λ e p v. refl) (λ x. refl) (λ e. refl) h covers formed operands
    call_agrees uses ty lib.CByte args gives_covered covered covers h formed operands =
        conversion_call uses lib.CByte types.byte ty args refl (λ e p v. refl) (λ x. refl) (λ e. refl) h covers formed operands
    call_agrees uses ty lib.CInt args gives_covered covered covers h formed operands =
        conversion_call uses lib.CInt types.integer ty args refl (λ e p v. refl) (λ x. refl) (λ e. refl) h covers formed operands
    call_agrees uses ty lib.CLng args gives_covered covered covers h formed operands =
        conversion_call uses lib.CLng types.long ty args refl (λ e p v. refl) (λ x. refl) (λ e. refl) h covers formed operands
    call_agrees uses ty lib.CCur args gives_covered covered covers h formed operands =
        conversion_call uses lib.CCur types.currency ty args refl (λ e p v. refl) (λ x. refl) (λ e. refl) h covers formed operands
    call_agrees uses ty lib.CStr args gives_covered covered covers h formed operands =
        conversion_call uses lib.CStr types.str ty args refl (λ e p v. refl) (λ x. refl) (λ e. refl) h covers formed operands
    call_agrees uses ty lib.IsEmpty args gives_covered covered covers h formed operands = absurd (cc covered)
    call_agrees uses ty lib.UBound args gives_covered covered covers h formed operands = absurd (cc covered)
    call_agrees uses ty lib.LBound args gives_covered covered covers h formed operands = absurd (cc covered)
    -- MsgBox gives no value
    call_agrees uses ty lib.MsgBox args gives_covered covered covers h formed operands =
        absurd (no_box ty (both_true (is_same_type types.nothing ty) (pointwise is_same_type (types_of args) (types.str ∷ [])) h).0 gives_covered)
    call_agrees uses ty lib.InputBox args gives_covered covered covers h formed operands = input_call ty args h operands

  -- ---- as expressions

  -- an argument agrees from some world on, where it is covered and well formed
  abbrev pub IsGiven : Uses → World → Expr → Type 0
  IsGiven uses w e =
      (v : World) → Later U K w v → covers_expr uses e ≡ true → is_formed e ≡ true
      → Agrees U K v (ScalarMatch U (type_at e)) (source.value_of C e v.src) (target.value_of S oracle (exp_of T e) v.net)

  abbrev Given : Uses → World → (most : ℕ) → Exprs → Type 0
  Given uses w zero args = Unit {0}
  Given uses w (suc n) no_exprs = Unit {0}
  Given uses w (suc n) (next_expr e rest) = IsGiven uses w e × Given uses w n rest

  abbrev pub AreGiven : Uses → World → Exprs → Type 0
  AreGiven uses w args = Given uses w 3 args

  operands_of : (uses : Uses) (w : World) (n : ℕ) (args : Exprs) → covers_exprs uses args ≡ true → are_formed args ≡ true → Given uses w n args → Operands w n args
  operands_of uses w zero args covers formed given = tt
  operands_of uses w (suc n) no_exprs covers formed given = tt
  operands_of uses w (suc n) (next_expr e rest) covers formed given =
      let both = both_true (covers_expr uses e) (covers_exprs uses rest) covers in
      let forms = both_true (is_formed e) (are_formed rest) formed in (
        λ v later.
            plain_agrees U K C e (type_at e) v (target.value_of S oracle (exp_of T e) v.net) later.match (given.0 v later both.0 forms.0),
        operands_of uses w n rest both.1 forms.1 given.1,
      )

  pub library_agrees : (uses : Uses) (ty : Ty) (f : LibCall) (args : Exprs) (w : World) → MemoryMatch U w → covers_type ty ≡ true
      → (covers_library f && covers_exprs uses args) ≡ true → is_formed (typed ty (library f args)) ≡ true → AreGiven uses w args
      → Agrees U K w (ScalarMatch U ty) (source.value_of C (typed ty (library f args)) w.src) (target.value_of S oracle (exp_of T (typed ty (library f args))) w.net)
  library_agrees uses ty f args w start covers covered formed given =
      let inner = both_true (covers_library f) (covers_exprs uses args) covered in
      let forms = both_true (is_row_of_call f (types_of args) ty) (are_formed args) formed in
      term_agrees U K C ty ty (library f args) w (target.value_of S oracle (exp_of T (typed ty (library f args))) w.net) refl covers start
      (call_agrees w start uses ty f args covers inner.0 inner.1 forms.0 forms.1 (operands_of uses w 3 args inner.1 forms.1 given))
