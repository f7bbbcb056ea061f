-- Expressions that are made of others: each has a type, or a cause why it has none.
use Rattle.std.proofs.Common.{◌≡◌, ℕ, zero, suc, Bool, true, false, cond, List, [], ◌∷◌, Option, Some, None, refl}
use Rattle.std.specs.Prelude.{◌&&◌, slice_get, is_some}
use Rattle.std.specs.List.{list_all}
use Rattle.vb_tree.specs.BoundTree.{Ty, str, unknown}
use Rattle.vb_tree.specs.declared.expression.BinOp.{BinOp}
use Rattle.vb_tree.specs.declared.expression.UnOp.{UnOp}
use Rattle.vb_tree.specs.declared.token.Literal6.{Literal6}
use Rattle.vb_tree.specs.declared.token.Literal6.TheVariants as literal
use Rattle.vb_tree.specs.declared.value.Value6.TheVariants as v
use Rattle.vb_tree.specs.declared.declared.VarId.{VarId}
use Rattle.bound_tree.specs.declared.body.Mention.TheVariants as mention
use Rattle.bound_tree.specs.declared.expression.Origin.TheVariants.{Literal}
use Rattle.bound_tree.specs.Tree.{Procedure, Declarations, Expr, typed, constant, unary, binary, call, convert, Object, of_object, Exprs}
use Rattle.bound_facts.specs.Folded.{folded}
use Rattle.bound_facts.specs.Node.{type_at, is_object_type}
use Rattle.typing_rows.specs.declared.conversions.Conversion.{Conversion}
use Rattle.typing_rows.specs.declared.conversions.Conversion.TheVariants.{Stands, To, Breaks}
use Rattle.typing_rows.specs.declared.conversions.Conversion.TheVariants as conversions
use Rattle.typing_rows.specs.declared.operators.Row.{Row}
use Rattle.typing_rows.specs.declared.operators.Row.TheVariants.{Both, Own, OverUnknown, NoForm, Untranslated}
use Rattle.typing_rows.specs.declared.operators.Row.TheVariants as rows
use Rattle.typing_rows.specs.declared.simple_types.SimpleType.{SimpleType}
use Rattle.typing_rows.specs.Conversions.{is_without_type}
use Rattle.typing_rows.specs.Types.{is_type, ty_of}
use Rattle.typing_rows.specs.Typing.{binary_row, unary_row}
use Rattle.expression_words.specs.declared.typed.Flaw.{Flaw}
use Rattle.expression_words.specs.Flaws as flaws
use Rattle.expression_words.specs.Flaws.{Typed, known, no_flaw, breaks, lacks, together, flaw_of, on_known, on_both, all_known, flaws_after, flaws_of, exprs_in, on_gathered, on_all, some}
use Rattle.expression_words.specs.Converting.{gives_none, fails, converted, id, has_preset, presets, bare_result, bare_value, default_value, default_at, behind_default, plain_in, plain, finally, by_conversion, wanted}
use Rattle.expression_words.specs.Members.{value_part, result_in, params_in, count_classes}
use Rattle.expression_words.specs.Operators.{is_too_long, literal_of, as_operand, is_constant_expression, folds, with_value, own_term, by_row, by_own_row, is_default, by_any_row, is_untranslated, combined, binary_over, by_unary_row, by_own_unary_row, by_any_unary_row, unary_over}
use Rattle.binding_laws.specs.Causes.{has_cause, is_known_type, is_whole, AreWhole, IsFounded}
use Rattle.binding_laws.proofs.Numbers.{IsNamed, IsTold, binary_told, unary_told, simple_known}
use Rattle.binding_laws.proofs.Rules.{rule_caused, left_caused, right_caused}

-- ---- look-ups

abbrev pub Each : {X : Type 0} → (X → Bool) → Option X → Type 0
Each p None = Unit {0}
Each p (Some x) = p x ≡ true

pub first_true : (a b : Bool) → a && b ≡ true → a ≡ true
first_true true b e = refl
first_true false b e = absurd (cc e)

pub second_true : (a b : Bool) → a && b ≡ true → b ≡ true
second_true true b e = e
second_true false b e = absurd (cc e)

pub each_at : {X : Type 0} (p : X → Bool) (xs : List X) (i : ℕ) → list_all p xs ≡ true → Each p (slice_get xs i)
each_at p [] i h = tt
each_at p (x ∷ xs) zero h = first_true (p x) (list_all p xs) h
each_at p (x ∷ xs) (suc i) h = each_at p xs i (second_true (p x) (list_all p xs) h)

pub result_whole : (o : Option Procedure) → Each (λ (q : Procedure). is_whole q.result) o → is_whole (result_in o) ≡ true
result_whole None h = refl
result_whole (Some q) h = h

-- ---- either of two

pub either : (test : Bool) (s t : Typed) → IsFounded s → IsFounded t → IsFounded (cond test s t)
either true s t h k = h
either false s t h k = k

-- a declaration without a type, and one with a type
pub told : (ty : Ty) (s t : Typed) → is_whole ty ≡ true → IsFounded s → (is_known_type ty ≡ true → IsFounded t) → IsFounded (cond (is_without_type ty) s t)
told unknown s t h k n = k
told _ s t h k n = n h

-- ---- over parts

pub over_known : (next : Expr → Typed) (t : Typed) → IsFounded t → ((e : Expr) → IsFounded (known e) → IsFounded (next e)) → IsFounded (on_known next t)
over_known next (known e) h n = n e h
over_known next (flaws.unknown f) h n = h

pub over_both : (next : Expr → Expr → Typed) (s t : Typed) → IsFounded s → IsFounded t → ((a c : Expr) → IsFounded (known a) → IsFounded (known c) → IsFounded (next a c)) → IsFounded (on_both next s t)
over_both next (known a) t h k n = over_known (next a) t k (λ c l. n a c h l)
over_both next (flaws.unknown f) t h k n = left_caused f (flaw_of t) h

abbrev pub AreFounded : List Typed → Type 0
AreFounded [] = Unit {0}
AreFounded (t ∷ ts) = IsFounded t × AreFounded ts

after_caused : (f : Flaw) (ts : List Typed) → has_cause f ≡ true → has_cause (flaws_after f ts) ≡ true
after_caused f [] h = h
after_caused f (t ∷ ts) h = after_caused (together f (flaw_of t)) ts (left_caused f (flaw_of t) h)

some_caused : (f : Flaw) (ts : List Typed) → AreFounded ts → all_known ts ≡ false → has_cause (flaws_after f ts) ≡ true
some_caused f [] h k = absurd (cc k)
some_caused f (known e ∷ ts) h k = some_caused (together f no_flaw) ts h.1 k
some_caused f (flaws.unknown g ∷ ts) h k = after_caused (together f g) ts (right_caused f g h.0)

pub over_all : (next : Exprs → Typed) (ts : List Typed) → AreFounded ts → ((es : Exprs) → IsFounded (next es)) → IsFounded (on_all next ts)
over_all next ts h n = by (all_known ts) refl
  where
    by : (test : Bool) → all_known ts ≡ test → IsFounded (on_gathered next (cond test (flaws.all (exprs_in ts)) (some (flaws_of ts))))
    by true e = n (exprs_in ts)
    by false e = some_caused no_flaw ts h e

-- ---- conversions

pub converted_founded : (t : SimpleType) (e : Expr) → IsFounded (converted (ty_of t) e)
converted_founded t e =
    either (gives_none e) (flaws.unknown (breaks 21)) (cond (fails (ty_of t) e) (flaws.unknown (breaks 25)) (known (typed (ty_of t) (convert (ty_of t) e)))) (rule_caused 21 refl)
    (either (fails (ty_of t) e) (flaws.unknown (breaks 25)) (known (typed (ty_of t) (convert (ty_of t) e))) (rule_caused 25 refl) (simple_known t))

bare_founded : (D : Declarations) (p : ℕ) (qualified : Bool) (of : Object) (result : Ty) (params : List VarId) → is_whole result ≡ true → IsFounded (bare_result D p qualified of result params)
bare_founded D p qualified of result params h =
    told result (flaws.unknown (lacks (mention.Proc (id p)))) (cond (list_all (has_preset D) params) (known (typed result (call (id p) qualified of (presets D params)))) (flaws.unknown (breaks 18))) h refl
    (λ k. either (list_all (has_preset D) params) (known (typed result (call (id p) qualified of (presets D params)))) (flaws.unknown (breaks 18)) k (rule_caused 18 refl))

bare_value_founded : (D : Declarations) → AreWhole D → (qualified : Bool) (of : Object) (o : Option ℕ) → IsFounded (bare_value D qualified of o)
bare_value_founded D are qualified of None = rule_caused 3 refl
bare_value_founded D are qualified of (Some p) =
    bare_founded D p qualified of (result_in (slice_get D.procs p)) (params_in (slice_get D.procs p))
    (result_whole (slice_get D.procs p) (each_at (λ (q : Procedure). is_whole q.result) D.procs p are.results))

default_founded : (D : Declarations) → AreWhole D → (e : Expr) (o : Option ℕ) → IsFounded (default_value D e o)
default_founded D are e None = rule_caused 6 refl
default_founded D are e (Some p) = bare_value_founded D are false (of_object e) (value_part D p)

plain_in_founded : (D : Declarations) → AreWhole D → (n : ℕ) (e : Expr) → IsFounded (known e) → IsFounded (plain_in D n e)
plain_in_founded D are zero e h = either (is_object_type (type_at e)) (flaws.unknown (breaks 6)) (known e) (rule_caused 6 refl) h
plain_in_founded D are (suc n) e h =
    either (is_object_type (type_at e)) (on_known (plain_in D n) (behind_default D (type_at e) e)) (known e)
    (over_known (plain_in D n) (behind_default D (type_at e) e) (default_founded D are e (default_at D (type_at e))) (plain_in_founded D are n)) h

pub plain_founded : (D : Declarations) → AreWhole D → (e : Expr) → IsFounded (known e) → IsFounded (plain D e)
plain_founded D are e h = plain_in_founded D are (count_classes D) e h

finally_founded : (e : Expr) (c : Conversion) → IsNamed c → IsFounded (known e) → IsFounded (finally e c)
finally_founded e Stands n h = h
finally_founded e (To t) n h = converted_founded t e
finally_founded e conversions.ByDefault n h = rule_caused 6 refl
finally_founded e (Breaks rule) n h = rule_caused rule n

pub wanted_founded : (D : Declarations) → AreWhole D → (asks : Ty → Conversion) → ((s : Ty) → IsNamed (asks s)) → (e : Expr) → IsFounded (known e) → IsFounded (wanted D asks e)
wanted_founded D are asks named e h = by (asks (type_at e)) (named (type_at e))
  where
    by : (c : Conversion) → IsNamed c → IsFounded (by_conversion D asks e c)
    by Stands n = h
    by (To t) n = converted_founded t e
    by conversions.ByDefault n = over_known (λ (x : Expr). finally x (asks (type_at x))) (plain D e) (plain_founded D are e h) (λ x k. finally_founded x (asks (type_at x)) (named (type_at x)) k)
    by (Breaks rule) n = rule_caused rule n

-- ---- literals

pub literal_founded : (l : Literal6) → IsFounded (literal_of l)
literal_founded (literal.Int z hexadecimal) = refl
literal_founded (literal.Long z hexadecimal) = refl
literal_founded (literal.Cur z) = refl
literal_founded (literal.Plain z) = rule_caused 1 refl
literal_founded literal.Floating = rule_caused 1 refl
literal_founded literal.Date = rule_caused 1 refl
literal_founded (literal.Str text) = either (is_too_long text) (flaws.unknown (breaks 25)) (known (typed str (constant (v.Str text) Literal))) (rule_caused 25 refl) refl

-- ---- operators

operand_founded : (t : SimpleType) (e : Expr) → IsFounded (known e) → IsFounded (as_operand t e)
operand_founded t e h = either (is_type t (type_at e)) (known e) (converted (ty_of t) e) h (converted_founded t e)

value_founded : (e : Expr) → IsFounded (known e) → IsFounded (with_value e)
value_founded e h =
    either (is_constant_expression e) (folds e) (known e) (either (is_some (folded e)) (known e) (flaws.unknown (breaks 25)) h (rule_caused 25 refl)) h

row_founded : (op : BinOp) (x y : Expr) (r : Row) → IsTold r → IsFounded (known x) → IsFounded (known y) → IsFounded (by_row op x y r)
row_founded op x y (Both t gives) n h k =
    over_both (λ (p q : Expr). with_value (typed (ty_of gives) (binary op p q))) (as_operand t x) (as_operand t y) (operand_founded t x h) (operand_founded t y k)
    (λ p q l m. value_founded (typed (ty_of gives) (binary op p q)) (simple_known gives))
row_founded op x y (Own gives) n h k = value_founded (typed (ty_of gives) (own_term op x y)) (simple_known gives)
row_founded op x y rows.ByDefault n h k = rule_caused 6 refl
row_founded op x y OverUnknown n h k = absurd n
row_founded op x y NoForm n h k = rule_caused 22 refl
row_founded op x y Untranslated n h k = rule_caused 2 refl

own_row_founded : (op : BinOp) (x y : Expr) → IsFounded (known x) → IsFounded (known y) → IsFounded (by_own_row op x y)
own_row_founded op x y h k = row_founded op x y (binary_row op (type_at x) (type_at y)) (binary_told op (type_at x) (type_at y) h k) h k

any_row_founded : (D : Declarations) → AreWhole D → (op : BinOp) (x y : Expr) → IsFounded (known x) → IsFounded (known y) → IsFounded (by_any_row D op x y)
any_row_founded D are op x y h k =
    either (is_default (binary_row op (type_at x) (type_at y))) (on_both (by_own_row op) (plain D x) (plain D y)) (by_own_row op x y)
    (over_both (by_own_row op) (plain D x) (plain D y) (plain_founded D are x h) (plain_founded D are y k) (own_row_founded op)) (own_row_founded op x y h k)

pub binary_founded : (D : Declarations) → AreWhole D → (op : BinOp) (s t : Typed) → IsFounded s → IsFounded t → IsFounded (binary_over D op s t)
binary_founded D are op s t h k =
    either (is_untranslated op) (flaws.unknown (together (breaks 2) (together (flaw_of s) (flaw_of t)))) (combined D op s t)
    (left_caused (breaks 2) (together (flaw_of s) (flaw_of t)) (rule_caused 2 refl)) (over_both (by_any_row D op) s t h k (any_row_founded D are op))

unary_row_founded : (op : UnOp) (x : Expr) (r : Row) → IsTold r → IsFounded (known x) → IsFounded (by_unary_row op x r)
unary_row_founded op x (Both t gives) n h =
    over_known (λ (p : Expr). with_value (typed (ty_of gives) (unary op p))) (as_operand t x) (operand_founded t x h) (λ p l. value_founded (typed (ty_of gives) (unary op p)) (simple_known gives))
unary_row_founded op x (Own gives) n h = value_founded (typed (ty_of gives) (unary op x)) (simple_known gives)
unary_row_founded op x rows.ByDefault n h = rule_caused 6 refl
unary_row_founded op x OverUnknown n h = absurd n
unary_row_founded op x NoForm n h = rule_caused 22 refl
unary_row_founded op x Untranslated n h = rule_caused 2 refl

own_unary_founded : (op : UnOp) (x : Expr) → IsFounded (known x) → IsFounded (by_own_unary_row op x)
own_unary_founded op x h = unary_row_founded op x (unary_row op (type_at x)) (unary_told op (type_at x) h) h

any_unary_founded : (D : Declarations) → AreWhole D → (op : UnOp) (x : Expr) → IsFounded (known x) → IsFounded (by_any_unary_row D op x)
any_unary_founded D are op x h =
    either (is_default (unary_row op (type_at x))) (on_known (by_own_unary_row op) (plain D x)) (by_own_unary_row op x)
    (over_known (by_own_unary_row op) (plain D x) (plain_founded D are x h) (own_unary_founded op)) (own_unary_founded op x h)

pub unary_founded : (D : Declarations) → AreWhole D → (op : UnOp) (t : Typed) → IsFounded t → IsFounded (unary_over D op t)
unary_founded D are op t h = over_known (by_any_unary_row D op) t h (any_unary_founded D are op)
