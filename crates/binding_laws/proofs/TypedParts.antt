-- What is made of expressions in which each use of a variable has its type: conversions, default members and operators.
use Rattle.std.proofs.Common.{◌≡◌, ℕ, zero, suc, Bool, true, false, cond, List, [], ◌∷◌, Option, Some, None, refl, eq-eqb, ap, subst, ◌∙◌, not, ◌&&◌, ◌||◌}
use Rattle.std.specs.Prelude.{slice_get, is_some}
use Rattle.std.specs.List.{list_all}
use Rattle.up_base.proofs.Tests.{and_true, both_true}
use Rattle.vb_tree.specs.BoundTree.{Ty, boolean, byte, integer, long, currency, str, fixed, user, class, object, variant, array, nothing, unknown}
use Rattle.vb_tree.specs.declared.expression.BinOp.{BinOp}
use Rattle.vb_tree.specs.declared.expression.UnOp.{UnOp}
use Rattle.vb_tree.specs.declared.token.Literal6.{Literal6}
use Rattle.vb_tree.specs.declared.token.Literal6.TheVariants as literal
use Rattle.vb_tree.specs.declared.value.Value6.{Value6}
use Rattle.vb_tree.specs.declared.declared.VarId.{VarId}
use Rattle.bound_tree.specs.declared.body.Mention.TheVariants as mention
use Rattle.bound_tree.specs.declared.expression.Origin.TheVariants.{Literal}
use Rattle.bound_tree.specs.Tree.{Variable, Procedure, Declarations, Expr, typed, constant, unary, binary, call, convert, is_same, Object, of_object, Exprs, Passed, by_value}
use Rattle.bound_facts.specs.Folded.{folded}
use Rattle.bound_facts.specs.Locks.{is_same_type}
use Rattle.bound_facts.specs.Node.{type_at, is_object_type, is_variant}
use Rattle.typing_rows.specs.declared.conversions.Conversion.{Conversion}
use Rattle.typing_rows.specs.declared.conversions.Conversion.TheVariants.{Stands, To, Breaks}
use Rattle.typing_rows.specs.declared.conversions.Conversion.TheVariants as conversions
use Rattle.typing_rows.specs.declared.operators.Row.{Row}
use Rattle.typing_rows.specs.declared.operators.Row.TheVariants.{Both, Own, OverUnknown, NoForm, Untranslated}
use Rattle.typing_rows.specs.declared.operators.Row.TheVariants as rows
use Rattle.typing_rows.specs.declared.simple_types.SimpleType.{SimpleType}
use Rattle.typing_rows.specs.Conversions.{is_without_type}
use Rattle.typing_rows.specs.Types.{is_type, ty_of}
use Rattle.typing_rows.specs.Typing.{binary_row, unary_row}
use Rattle.expression_words.specs.Flaws as flaws
use Rattle.expression_words.specs.Flaws.{Typed, known, breaks, lacks, together, flaw_of, on_known, on_both, all_known, exprs_in, on_gathered, on_all, some, flaws_of}
use Rattle.expression_words.specs.Converting.{gives_none, fails, converted, id, has_preset, presets, preset_of, preset_value, with_preset, bare_result, bare_value, default_value, default_at, behind_default, plain_in, plain, finally, by_conversion, wanted}
use Rattle.expression_words.specs.Members.{value_part, result_in, params_in, count_classes}
use Rattle.expression_words.specs.Operators.{is_too_long, literal_of, as_operand, is_constant_expression, folds, with_value, own_term, is_comparison_of_objects, by_row, by_own_row, is_default, by_any_row, is_untranslated, combined, binary_over, by_unary_row, by_own_unary_row, by_any_unary_row, unary_over}
use Rattle.run_matches.specs.Covered.{is_plain_kind}
use Rattle.typing_laws.specs.Typed.{are_typed, are_typed_passed, fits_call, fits_parameter, fits_parameters, fits_type, is_typed, is_typed_object, is_unknown}
use Rattle.binding_laws.specs.Typing.{HasTypes}

-- ---- equal types

pub same_self : (ty : Ty) → is_same_type ty ty ≡ true
same_self boolean = refl
same_self byte = refl
same_self integer = refl
same_self long = refl
same_self currency = refl
same_self str = refl
same_self (fixed n) = eq-eqb n n refl
same_self (user n) = eq-eqb n n refl
same_self (class n) = eq-eqb n n refl
same_self object = refl
same_self variant = refl
same_self (array x n) = same_self x
same_self nothing = refl
same_self unknown = refl

module _ (D : Declarations) where
  -- ---- either of two

  pub either : (test : Bool) (s t : Typed) → HasTypes D s → HasTypes D t → HasTypes D (cond test s t)
  either true s t h k = h
  either false s t h k = k

  -- ---- over parts

  pub over_known : (next : Expr → Typed) (t : Typed) → HasTypes D t → ((e : Expr) → is_typed D e ≡ true → HasTypes D (next e)) → HasTypes D (on_known next t)
  over_known next (known e) h n = n e h
  over_known next (flaws.unknown f) h n = h

  pub over_both : (next : Expr → Expr → Typed) (s t : Typed) → HasTypes D s → HasTypes D t
      → ((a c : Expr) → is_typed D a ≡ true → is_typed D c ≡ true → HasTypes D (next a c)) → HasTypes D (on_both next s t)
  over_both next (known a) t h k n = over_known (next a) t k (λ c l. n a c h l)
  over_both next (flaws.unknown f) t h k n = tt

  abbrev pub AllHave : List Typed → Type 0
  AllHave [] = Unit {0}
  AllHave (t ∷ ts) = HasTypes D t × AllHave ts

  exprs_typed : (ts : List Typed) → AllHave ts → are_typed D (exprs_in ts) ≡ true
  exprs_typed [] h = refl
  exprs_typed (known e ∷ ts) h = and_true (is_typed D e) (are_typed D (exprs_in ts)) h.0 (exprs_typed ts h.1)
  exprs_typed (flaws.unknown f ∷ ts) h = exprs_typed ts h.1

  pub over_all : (next : Exprs → Typed) (ts : List Typed) → AllHave ts → ((es : Exprs) → are_typed D es ≡ true → HasTypes D (next es)) → HasTypes D (on_all next ts)
  over_all next ts h n = by (all_known ts)
    where
      by : (test : Bool) → HasTypes D (on_gathered next (cond test (flaws.all (exprs_in ts)) (some (flaws_of ts))))
      by true = n (exprs_in ts) (exprs_typed ts h)
      by false = tt

  -- ---- conversions

  converts_typed : (to : Ty) (e : Expr) → is_typed D e ≡ true → is_typed D (typed to (convert to e)) ≡ true
  converts_typed to e h = and_true (is_same_type to to) (is_typed D e) (same_self to) h

  pub converted_typed : (to : Ty) (e : Expr) → is_typed D e ≡ true → HasTypes D (converted to e)
  converted_typed to e h =
      either (gives_none e) (flaws.unknown (breaks 21)) (cond (fails to e) (flaws.unknown (breaks 25)) (known (typed to (convert to e)))) tt
      (either (fails to e) (flaws.unknown (breaks 25)) (known (typed to (convert to e))) tt (converts_typed to e h))

  -- ---- calls without arguments

  -- a call of a procedure with this type and these parameters, unless it is a part of a property that takes a value
  pub data Takes (p : ℕ) (ty : Ty) (params : List VarId) : Type 0 where
    all_of : (x : Procedure) → slice_get D.procs p ≡ Some x → ty ≡ x.result → params ≡ x.params → Takes p ty params
    a_part : (x : Procedure) → slice_get D.procs p ≡ Some x → is_plain_kind x.kind ≡ false → Takes p ty params

  pub fits_taken : (p : ℕ) (ty : Ty) (params : List VarId) (args : Passed) → Takes p ty params → fits_parameters D params args ≡ true
      → fits_call D ty args (slice_get D.procs p) ≡ true
  fits_taken p ty params args (all_of x is result same) h =
      ap (λ o. fits_call D ty args o) is
      ∙ second_either (not (is_plain_kind x.kind)) (is_same_type ty x.result && fits_parameters D x.params args)
      (and_true (is_same_type ty x.result) (fits_parameters D x.params args) (subst (λ t. is_same_type ty t ≡ true) result (same_self ty))
      (subst (λ vs. fits_parameters D vs args ≡ true) same h))
    where
      second_either : (a b : Bool) → b ≡ true → a || b ≡ true
      second_either true b h = refl
      second_either false b h = h
  fits_taken p ty params args (a_part x is plain) h =
      ap (λ o. fits_call D ty args o) is ∙ ap (λ b. not b || (is_same_type ty x.result && fits_parameters D x.params args)) plain

  pub call_typed : (p : ℕ) (qualified : Bool) (of : Object) (ty : Ty) (params : List VarId) (args : Passed) → Takes p ty params → is_typed_object D of ≡ true
      → are_typed_passed D args ≡ true → fits_parameters D params args ≡ true → HasTypes D (known (typed ty (call (id p) qualified of args)))
  call_typed p qualified of ty params args takes h k l =
      and_true (is_typed_object D of && are_typed_passed D args) (fits_call D ty args (slice_get D.procs p))
      (and_true (is_typed_object D of) (are_typed_passed D args) h k) (fits_taken p ty params args takes l)

  abbrev pub IsPreset : Option Variable → Option Expr → Type 0
  IsPreset v None = Unit {0}
  IsPreset v (Some e) = (is_typed D e ≡ true) × (fits_parameter (by_value e) v ≡ true)

  fits_self : (ty : Ty) → fits_type ty ty ≡ true
  fits_self ty = ap (λ b. b || (is_unknown ty || is_unknown ty)) (same_self ty)

  value_preset : (v : Variable) (o : Option Value6) → IsPreset (Some v) (preset_value v.ty o)
  value_preset v None = tt
  value_preset v (Some x) = by (is_variant v.ty)
    where
      by : (b : Bool) → IsPreset (Some v) (cond b None (Some (typed v.ty (constant x Literal))))
      by true = tt
      by false = (refl, fits_self v.ty)

  pub preset_typed : (o : Option Variable) → IsPreset o (preset_of o)
  preset_typed None = tt
  preset_typed (Some v) = value_preset v v.preset

  -- all parameters have presets
  presets_typed : (vs : List VarId) → list_all (has_preset D) vs ≡ true
      → (are_typed_passed D (presets D vs) ≡ true) × (fits_parameters D vs (presets D vs) ≡ true)
  presets_typed [] h = (refl, refl)
  presets_typed (v ∷ vs) h =
      let b = both_true (has_preset D v) (list_all (has_preset D) vs) h in
      let rest = presets_typed vs b.1 in
      by (preset_of (slice_get D.vars v.0)) b.0 (preset_typed (slice_get D.vars v.0)) rest
    where
      by : (o : Option Expr) → is_some o ≡ true → IsPreset (slice_get D.vars v.0) o
          → (are_typed_passed D (presets D vs) ≡ true) × (fits_parameters D vs (presets D vs) ≡ true)
          → (are_typed_passed D (with_preset o (presets D vs)) ≡ true) × (fits_parameters D (v ∷ vs) (with_preset o (presets D vs)) ≡ true)
      by None has h rest = absurd (cc has)
      by (Some e) has h rest = (
        and_true (is_typed D e) (are_typed_passed D (presets D vs)) h.0 rest.0,
        and_true (fits_parameter (by_value e) (slice_get D.vars v.0)) (fits_parameters D vs (presets D vs)) h.1 rest.1,
      )

  bare_typed : (p : ℕ) (qualified : Bool) (of : Object) (result : Ty) (params : List VarId) → Takes p result params → is_typed_object D of ≡ true
      → HasTypes D (bare_result D p qualified of result params)
  bare_typed p qualified of result params takes h =
      either (is_without_type result) (flaws.unknown (lacks (mention.Proc (id p))))
      (cond (list_all (has_preset D) params) (known (typed result (call (id p) qualified of (presets D params)))) (flaws.unknown (breaks 18))) tt
      (by (list_all (has_preset D) params) refl)
    where
      by : (b : Bool) → list_all (has_preset D) params ≡ b
          → HasTypes D (cond b (known (typed result (call (id p) qualified of (presets D params)))) (flaws.unknown (breaks 18)))
      by true e = let all = presets_typed params e in call_typed p qualified of result params (presets D params) takes h all.0 all.1
      by false e = tt

  bare_value_typed : (qualified : Bool) (of : Object) (o : Option ℕ) → is_typed_object D of ≡ true → HasTypes D (bare_value D qualified of o)
  bare_value_typed qualified of None h = tt
  bare_value_typed qualified of (Some p) h = by (slice_get D.procs p) refl
    where
      by : (o : Option Procedure) → slice_get D.procs p ≡ o → HasTypes D (bare_result D p qualified of (result_in o) (params_in o))
      by None is = tt
      by (Some x) is = bare_typed p qualified of x.result x.params (all_of x is refl refl) h

  default_typed : (e : Expr) (o : Option ℕ) → is_typed D e ≡ true → HasTypes D (default_value D e o)
  default_typed e None h = tt
  default_typed e (Some p) h = bare_value_typed false (of_object e) (value_part D p) h

  plain_in_typed : (n : ℕ) (e : Expr) → is_typed D e ≡ true → HasTypes D (plain_in D n e)
  plain_in_typed zero e h = either (is_object_type (type_at e)) (flaws.unknown (breaks 6)) (known e) tt h
  plain_in_typed (suc n) e h =
      either (is_object_type (type_at e)) (on_known (plain_in D n) (behind_default D (type_at e) e)) (known e)
      (over_known (plain_in D n) (behind_default D (type_at e) e) (default_typed e (default_at D (type_at e)) h) (plain_in_typed n)) h

  pub plain_typed : (e : Expr) → is_typed D e ≡ true → HasTypes D (plain D e)
  plain_typed e h = plain_in_typed (count_classes D) e h

  finally_typed : (e : Expr) (c : Conversion) → is_typed D e ≡ true → HasTypes D (finally e c)
  finally_typed e Stands h = h
  finally_typed e (To t) h = converted_typed (ty_of t) e h
  finally_typed e conversions.ByDefault h = tt
  finally_typed e (Breaks rule) h = tt

  pub wanted_typed : (asks : Ty → Conversion) (e : Expr) → is_typed D e ≡ true → HasTypes D (wanted D asks e)
  wanted_typed asks e h = by (asks (type_at e))
    where
      by : (c : Conversion) → HasTypes D (by_conversion D asks e c)
      by Stands = h
      by (To t) = converted_typed (ty_of t) e h
      by conversions.ByDefault = over_known (λ (x : Expr). finally x (asks (type_at x))) (plain D e) (plain_typed e h) (λ x k. finally_typed x (asks (type_at x)) k)
      by (Breaks rule) = tt

  -- ---- literals

  pub literal_typed : (l : Literal6) → HasTypes D (literal_of l)
  literal_typed (literal.Int z hexadecimal) = refl
  literal_typed (literal.Long z hexadecimal) = refl
  literal_typed (literal.Cur z) = refl
  literal_typed (literal.Plain z) = tt
  literal_typed literal.Floating = tt
  literal_typed literal.Date = tt
  literal_typed (literal.Str text) = either (is_too_long text) _ _ tt refl

  -- ---- operators

  operand_typed : (t : SimpleType) (e : Expr) → is_typed D e ≡ true → HasTypes D (as_operand t e)
  operand_typed t e h = either (is_type t (type_at e)) (known e) (converted (ty_of t) e) h (converted_typed (ty_of t) e h)

  value_typed : (e : Expr) → is_typed D e ≡ true → HasTypes D (with_value e)
  value_typed e h =
      either (is_constant_expression e) (folds e) (known e) (either (is_some (folded e)) (known e) (flaws.unknown (breaks 25)) h tt) h

  own_typed : (ty : Ty) (op : BinOp) (x y : Expr) → is_typed D x ≡ true → is_typed D y ≡ true → is_typed D (typed ty (own_term op x y)) ≡ true
  own_typed ty op x y h k = by (is_comparison_of_objects op)
    where
      by : (b : Bool) → is_typed D (typed ty (cond b (is_same x y) (binary op x y))) ≡ true
      by true = and_true (is_typed D x) (is_typed D y) h k
      by false = and_true (is_typed D x) (is_typed D y) h k

  row_typed : (op : BinOp) (x y : Expr) (r : Row) → is_typed D x ≡ true → is_typed D y ≡ true → HasTypes D (by_row op x y r)
  row_typed op x y (Both t gives) h k =
      over_both (λ (p q : Expr). with_value (typed (ty_of gives) (binary op p q))) (as_operand t x) (as_operand t y) (operand_typed t x h) (operand_typed t y k)
      (λ p q l m. value_typed (typed (ty_of gives) (binary op p q)) (and_true (is_typed D p) (is_typed D q) l m))
  row_typed op x y (Own gives) h k = value_typed (typed (ty_of gives) (own_term op x y)) (own_typed (ty_of gives) op x y h k)
  row_typed op x y rows.ByDefault h k = tt
  row_typed op x y OverUnknown h k = tt
  row_typed op x y NoForm h k = tt
  row_typed op x y Untranslated h k = tt

  own_row_typed : (op : BinOp) (x y : Expr) → is_typed D x ≡ true → is_typed D y ≡ true → HasTypes D (by_own_row op x y)
  own_row_typed op x y h k = row_typed op x y (binary_row op (type_at x) (type_at y)) h k

  any_row_typed : (op : BinOp) (x y : Expr) → is_typed D x ≡ true → is_typed D y ≡ true → HasTypes D (by_any_row D op x y)
  any_row_typed op x y h k =
      either (is_default (binary_row op (type_at x) (type_at y))) (on_both (by_own_row op) (plain D x) (plain D y)) (by_own_row op x y)
      (over_both (by_own_row op) (plain D x) (plain D y) (plain_typed x h) (plain_typed y k) (own_row_typed op)) (own_row_typed op x y h k)

  pub binary_typed : (op : BinOp) (s t : Typed) → HasTypes D s → HasTypes D t → HasTypes D (binary_over D op s t)
  binary_typed op s t h k =
      either (is_untranslated op) (flaws.unknown (together (breaks 2) (together (flaw_of s) (flaw_of t)))) (combined D op s t) tt
      (over_both (by_any_row D op) s t h k (any_row_typed op))

  unary_row_typed : (op : UnOp) (x : Expr) (r : Row) → is_typed D x ≡ true → HasTypes D (by_unary_row op x r)
  unary_row_typed op x (Both t gives) h =
      over_known (λ (p : Expr). with_value (typed (ty_of gives) (unary op p))) (as_operand t x) (operand_typed t x h) (λ p l. value_typed (typed (ty_of gives) (unary op p)) l)
  unary_row_typed op x (Own gives) h = value_typed (typed (ty_of gives) (unary op x)) h
  unary_row_typed op x rows.ByDefault h = tt
  unary_row_typed op x OverUnknown h = tt
  unary_row_typed op x NoForm h = tt
  unary_row_typed op x Untranslated h = tt

  own_unary_typed : (op : UnOp) (x : Expr) → is_typed D x ≡ true → HasTypes D (by_own_unary_row op x)
  own_unary_typed op x h = unary_row_typed op x (unary_row op (type_at x)) h

  any_unary_typed : (op : UnOp) (x : Expr) → is_typed D x ≡ true → HasTypes D (by_any_unary_row D op x)
  any_unary_typed op x h =
      either (is_default (unary_row op (type_at x))) (on_known (by_own_unary_row op) (plain D x)) (by_own_unary_row op x)
      (over_known (by_own_unary_row op) (plain D x) (plain_typed x h) (own_unary_typed op)) (own_unary_typed op x h)

  pub unary_typed : (op : UnOp) (t : Typed) → HasTypes D t → HasTypes D (unary_over D op t)
  unary_typed op t h = over_known (by_any_unary_row D op) t h (any_unary_typed op)
