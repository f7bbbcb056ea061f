-- What conversions, constants and operators break is none of the rules on properties.
use Rattle.std.proofs.Common.{◌≡◌, ℕ, zero, suc, Bool, true, false, cond, List, [], ◌∷◌, Option, Some, None, refl, ap, ◌∙◌, nat_eq}
use Rattle.std.specs.Prelude.{◌||◌, is_some}
use Rattle.std.specs.List.{list_all}
use Rattle.vb_tree.specs.BoundTree.{Ty, boolean, byte, integer, long, currency, str, fixed, user, class, object, variant, array, nothing, unknown}
use Rattle.vb_tree.specs.declared.bound.LibCall.{LibCall}
use Rattle.vb_tree.specs.declared.declared.VarId.{VarId}
use Rattle.vb_tree.specs.declared.expression.BinOp.{BinOp}
use Rattle.vb_tree.specs.declared.expression.UnOp.{UnOp}
use Rattle.vb_tree.specs.declared.token.Literal6.{Literal6}
use Rattle.vb_tree.specs.declared.token.Literal6.TheVariants as literal
use Rattle.vb_tree.specs.declared.value.Value6.TheVariants as v
use Rattle.bound_tree.specs.declared.body.Mention.TheVariants as mention
use Rattle.bound_tree.specs.declared.expression.Origin.TheVariants.{Literal}
use Rattle.bound_tree.specs.declared.rule_set.RuleSet.{RuleSet}
use Rattle.bound_tree.specs.RuleSets.{has, none, with_rule, both}
use Rattle.bound_tree.specs.Tree.{Declarations, Expr, typed, constant, unary, binary, call, convert, Object, of_object, Exprs}
use Rattle.bound_tree.proofs.RuleLaws.{has_both, has_none, has_with}
use Rattle.bound_facts.specs.Folded.{folded}
use Rattle.bound_facts.specs.Node.{type_at, is_object_type}
use Rattle.vb6_meaning.specs.declared.number.NumberKind.{NumberKind}
use Rattle.vb6_meaning.specs.declared.number.NumberKind.TheVariants as kinds
use Rattle.typing_rows.specs.declared.conversions.Conversion.{Conversion}
use Rattle.typing_rows.specs.declared.conversions.Conversion.TheVariants.{Stands, To, Breaks}
use Rattle.typing_rows.specs.declared.conversions.Conversion.TheVariants as conversions
use Rattle.typing_rows.specs.declared.library.Wanted.{Wanted}
use Rattle.typing_rows.specs.declared.library.Wanted.TheVariants as wants
use Rattle.typing_rows.specs.declared.operands.Operand.{Operand}
use Rattle.typing_rows.specs.declared.operands.Operand.TheVariants as operand
use Rattle.typing_rows.specs.declared.operators.Row.{Row}
use Rattle.typing_rows.specs.declared.operators.Row.TheVariants.{Both, Own, OverUnknown, NoForm, Untranslated}
use Rattle.typing_rows.specs.declared.operators.Row.TheVariants as rows
use Rattle.typing_rows.specs.declared.simple_types.SimpleType.{SimpleType}
use Rattle.typing_rows.specs.declared.simple_types.SimpleType.TheVariants as simple
use Rattle.typing_rows.specs.Conversions.{counted, valued, to_number, to_value, is_array, to_object, to_class, to_user, to_array, to_nothing, is_same_type, is_without_type, converts}
use Rattle.typing_rows.specs.Library.{argument, argument_wanted, given, kept, text_alone, number_alone, only_number, only_variant, only_array, dimension}
use Rattle.typing_rows.specs.Types.{is_type, ty_of, operand_of}
use Rattle.typing_rows.specs.Typing.{binary_row, unary_row}
use Rattle.expression_words.specs.declared.typed.Flaw.{Flaw}
use Rattle.expression_words.specs.Flaws as flaws
use Rattle.expression_words.specs.Flaws.{Typed, known, no_flaw, breaks, lacks, together, flaw_of, on_known, on_both, all_known, flaws_after, flaws_of, exprs_in, on_gathered, on_all, some}
use Rattle.expression_words.specs.Converting.{gives_none, fails, converted, id, has_preset, presets, bare_result, bare_value, default_value, default_at, behind_default, plain_in, plain, finally, by_conversion, wanted}
use Rattle.expression_words.specs.Members.{value_part, result_in, params_in, count_classes}
use Rattle.expression_words.specs.Operators.{is_too_long, literal_of, as_operand, is_constant_expression, folds, with_value, own_term, by_row, by_own_row, is_default, by_any_row, is_untranslated, combined, binary_over, by_unary_row, by_own_unary_row, by_any_unary_row, unary_over}
use Rattle.std.specs.Prelude.{slice_get}

-- ---- sets of rules

-- without rule 7
abbrev pub SparesShape : RuleSet → Type 0
SparesShape s = has s 7 ≡ false

pub none_spares : SparesShape none
none_spares = has_none 7

pub rule_spares : (n : ℕ) → nat_eq 7 n ≡ false → SparesShape (with_rule none n)
rule_spares n h = has_with none n 7 ∙ ap (λ (b : Bool). b || has none 7) h ∙ none_spares

both_false : (a b : Bool) → a ≡ false → b ≡ false → (a || b) ≡ false
both_false true b h k = absurd (cc h)
both_false false b h k = k

pub both_spare : (a b : RuleSet) → SparesShape a → SparesShape b → SparesShape (both a b)
both_spare a b h k = has_both a b 7 ∙ both_false (has a 7) (has b 7) h k

-- ---- expressions

abbrev pub IsSpared : Typed → Type 0
IsSpared (known e) = Unit {0}
IsSpared (flaws.unknown f) = SparesShape f.rules

pub flaw_spared : (t : Typed) → IsSpared t → SparesShape (flaw_of t).rules
flaw_spared (known e) h = none_spares
flaw_spared (flaws.unknown f) h = h

pub either : (test : Bool) (s t : Typed) → IsSpared s → IsSpared t → IsSpared (cond test s t)
either true s t h k = h
either false s t h k = k

pub over_known : (next : Expr → Typed) (t : Typed) → IsSpared t → ((e : Expr) → IsSpared (next e)) → IsSpared (on_known next t)
over_known next (known e) h n = n e
over_known next (flaws.unknown f) h n = h

pub over_both : (next : Expr → Expr → Typed) (s t : Typed) → IsSpared s → IsSpared t → ((a c : Expr) → IsSpared (next a c)) → IsSpared (on_both next s t)
over_both next (known a) t h k n = over_known (next a) t k (n a)
over_both next (flaws.unknown f) t h k n = both_spare f.rules (flaw_of t).rules h (flaw_spared t k)

abbrev pub AreSpared : List Typed → Type 0
AreSpared [] = Unit {0}
AreSpared (t ∷ ts) = IsSpared t × AreSpared ts

after_spared : (f : Flaw) (ts : List Typed) → SparesShape f.rules → AreSpared ts → SparesShape (flaws_after f ts).rules
after_spared f [] h k = h
after_spared f (t ∷ ts) h k = after_spared (together f (flaw_of t)) ts (both_spare f.rules (flaw_of t).rules h (flaw_spared t k.0)) k.1

pub over_all : (next : Exprs → Typed) (ts : List Typed) → AreSpared ts → ((es : Exprs) → IsSpared (next es)) → IsSpared (on_all next ts)
over_all next ts h n = by (all_known ts)
  where
    by : (test : Bool) → IsSpared (on_gathered next (cond test (flaws.all (exprs_in ts)) (some (flaws_of ts))))
    by true = n (exprs_in ts)
    by false = after_spared no_flaw ts none_spares h

-- ---- conversions

abbrev pub IsOther : Conversion → Type 0
IsOther Stands = Unit {0}
IsOther (To t) = Unit {0}
IsOther conversions.ByDefault = Unit {0}
IsOther (Breaks rule) = nat_eq 7 rule ≡ false

either_other : (test : Bool) (c d : Conversion) → IsOther c → IsOther d → IsOther (cond test c d)
either_other true c d h k = h
either_other false c d h k = k

counted_other : (t : SimpleType) (x : Operand) → IsOther (counted t x)
counted_other t operand.Text = refl
counted_other t operand.Nothing = refl
counted_other t operand.Other = refl
counted_other t _ = tt

valued_other : (t : SimpleType) (x : Operand) → IsOther (valued t x)
valued_other t operand.Nothing = refl
valued_other t operand.Other = refl
valued_other t _ = tt

number_other : (t : SimpleType) (s : Ty) → IsOther (to_number t s)
number_other t s = either_other (is_type t s) Stands (counted t (operand_of s)) tt (counted_other t (operand_of s))

value_other : (t : SimpleType) (s : Ty) → IsOther (to_value t s)
value_other t s = either_other (is_type t s) Stands (valued t (operand_of s)) tt (valued_other t (operand_of s))

object_other : (s : Ty) → IsOther (to_object s)
object_other object = tt
object_other (class k) = tt
object_other nothing = tt
object_other unknown = tt
object_other _ = refl

class_other : (k : ℕ) (s : Ty) → IsOther (to_class k s)
class_other k (class l) = either_other (nat_eq k l) Stands (Breaks 21) tt refl
class_other k nothing = tt
class_other k unknown = tt
class_other k _ = refl

user_other : (k : ℕ) (s : Ty) → IsOther (to_user k s)
user_other k (user l) = either_other (nat_eq k l) Stands (Breaks 21) tt refl
user_other k (class l) = tt
user_other k object = tt
user_other k unknown = tt
user_other k _ = refl

array_other : (e s : Ty) → IsOther (to_array e s)
array_other e (array f rank) = either_other (is_same_type e f) Stands (Breaks 21) tt refl
array_other e unknown = tt
array_other e _ = refl

nothing_other : (s : Ty) → IsOther (to_nothing s)
nothing_other nothing = tt
nothing_other unknown = tt
nothing_other _ = refl

pub converts_other : (s t : Ty) → IsOther (converts s t)
converts_other s boolean = number_other simple.Boolean s
converts_other s byte = number_other simple.Byte s
converts_other s integer = number_other simple.Integer s
converts_other s long = number_other simple.Long s
converts_other s currency = number_other simple.Currency s
converts_other s str = value_other simple.Str s
converts_other s (fixed units) = value_other (simple.Fixed units) s
converts_other s (user k) = user_other k s
converts_other s (class k) = class_other k s
converts_other s object = object_other s
converts_other s variant = either_other (is_array s) (Breaks 5) (to_value simple.Variant s) refl (value_other simple.Variant s)
converts_other s (array e rank) = array_other e s
converts_other s nothing = nothing_other s
converts_other s unknown = tt

text_other : (x : Operand) → IsOther (text_alone x)
text_other operand.Text = tt
text_other operand.Object = tt
text_other operand.Unknown = tt
text_other _ = refl

kind_other : (k : NumberKind) → IsOther (number_alone k)
kind_other kinds.Byte = tt
kind_other kinds.Integer = tt
kind_other kinds.Long = tt
kind_other kinds.Currency = tt

only_number_other : (x : Operand) → IsOther (only_number x)
only_number_other operand.Boolean = tt
only_number_other (operand.Number k) = kind_other k
only_number_other operand.Object = tt
only_number_other operand.Unknown = tt
only_number_other _ = refl

only_variant_other : (x : Operand) → IsOther (only_variant x)
only_variant_other operand.Variant = tt
only_variant_other operand.Object = tt
only_variant_other operand.Unknown = tt
only_variant_other _ = refl

only_array_other : (s : Ty) → IsOther (only_array s)
only_array_other (array e rank) = tt
only_array_other unknown = tt
only_array_other _ = refl

dimension_other : (x : Operand) → IsOther (dimension x)
dimension_other (operand.Number k) = tt
dimension_other operand.Variant = tt
dimension_other operand.Unknown = tt
dimension_other _ = refl

kept_other : (c : Conversion) → IsOther c → IsOther (kept c)
kept_other Stands h = tt
kept_other (To t) h = tt
kept_other conversions.ByDefault h = tt
kept_other (Breaks rule) h = h

given_other : (w : Wanted) (s : Ty) → IsOther (given w s)
given_other wants.Text s = converts_other s str
given_other wants.Count s = converts_other s long
given_other wants.OnlyText s = either_other (is_type simple.Str s) Stands (text_alone (operand_of s)) tt (text_other (operand_of s))
given_other wants.Number s = only_number_other (operand_of s)
given_other wants.Variant s = only_variant_other (operand_of s)
given_other wants.Array s = only_array_other s
given_other wants.Dimension s = dimension_other (operand_of s)
given_other (wants.Converted t) s = kept_other (converts s (ty_of t)) (converts_other s (ty_of t))

pub argument_other : (f : LibCall) (i : ℕ) (s : Ty) → IsOther (argument f i s)
argument_other f i s = given_other (argument_wanted f i) s

-- ---- converted expressions

converted_spared : (t : SimpleType) (e : Expr) → IsSpared (converted (ty_of t) e)
converted_spared t e =
    either (gives_none e) (flaws.unknown (breaks 21))
    (cond (fails (ty_of t) e) (flaws.unknown (breaks 25)) (known (typed (ty_of t) (convert (ty_of t) e)))) (rule_spares 21 refl)
    (either (fails (ty_of t) e) (flaws.unknown (breaks 25)) (known (typed (ty_of t) (convert (ty_of t) e))) (rule_spares 25 refl) tt)

bare_spared : (D : Declarations) (p : ℕ) (qualified : Bool) (of : Object) (result : Ty) (params : List VarId)
    → IsSpared (bare_result D p qualified of result params)
bare_spared D p qualified of result params =
    either (is_without_type result) (flaws.unknown (lacks (mention.Proc (id p))))
    (cond (list_all (has_preset D) params) (known (typed result (call (id p) qualified of (presets D params)))) (flaws.unknown (breaks 18))) none_spares
    (either (list_all (has_preset D) params) (known (typed result (call (id p) qualified of (presets D params)))) (flaws.unknown (breaks 18)) tt
    (rule_spares 18 refl))

bare_value_spared : (D : Declarations) (qualified : Bool) (of : Object) (o : Option ℕ) → IsSpared (bare_value D qualified of o)
bare_value_spared D qualified of None = rule_spares 3 refl
bare_value_spared D qualified of (Some p) = bare_spared D p qualified of (result_in (slice_get D.procs p)) (params_in (slice_get D.procs p))

default_spared : (D : Declarations) (e : Expr) (o : Option ℕ) → IsSpared (default_value D e o)
default_spared D e None = rule_spares 6 refl
default_spared D e (Some p) = bare_value_spared D false (of_object e) (value_part D p)

plain_in_spared : (D : Declarations) (n : ℕ) (e : Expr) → IsSpared (plain_in D n e)
plain_in_spared D zero e = either (is_object_type (type_at e)) (flaws.unknown (breaks 6)) (known e) (rule_spares 6 refl) tt
plain_in_spared D (suc n) e =
    either (is_object_type (type_at e)) (on_known (plain_in D n) (behind_default D (type_at e) e)) (known e)
    (over_known (plain_in D n) (behind_default D (type_at e) e) (default_spared D e (default_at D (type_at e))) (plain_in_spared D n)) tt

plain_spared : (D : Declarations) (e : Expr) → IsSpared (plain D e)
plain_spared D e = plain_in_spared D (count_classes D) e

finally_spared : (e : Expr) (c : Conversion) → IsOther c → IsSpared (finally e c)
finally_spared e Stands n = tt
finally_spared e (To t) n = converted_spared t e
finally_spared e conversions.ByDefault n = rule_spares 6 refl
finally_spared e (Breaks rule) n = rule_spares rule n

pub wanted_spared : (D : Declarations) (asks : Ty → Conversion) → ((s : Ty) → IsOther (asks s)) → (e : Expr) → IsSpared (wanted D asks e)
wanted_spared D asks other e = by (asks (type_at e)) (other (type_at e))
  where
    by : (c : Conversion) → IsOther c → IsSpared (by_conversion D asks e c)
    by Stands n = tt
    by (To t) n = converted_spared t e
    by conversions.ByDefault n =
        over_known (λ (x : Expr). finally x (asks (type_at x))) (plain D e) (plain_spared D e) (λ x. finally_spared x (asks (type_at x)) (other (type_at x)))
    by (Breaks rule) n = rule_spares rule n

-- ---- literals

pub literal_spared : (l : Literal6) → IsSpared (literal_of l)
literal_spared (literal.Int z hexadecimal) = tt
literal_spared (literal.Long z hexadecimal) = tt
literal_spared (literal.Cur z) = tt
literal_spared (literal.Plain z) = rule_spares 1 refl
literal_spared literal.Floating = rule_spares 1 refl
literal_spared literal.Date = rule_spares 1 refl
literal_spared (literal.Str text) =
    either (is_too_long text) (flaws.unknown (breaks 25)) (known (typed str (constant (v.Str text) Literal))) (rule_spares 25 refl) tt

-- ---- operators

operand_spared : (t : SimpleType) (e : Expr) → IsSpared (as_operand t e)
operand_spared t e = either (is_type t (type_at e)) (known e) (converted (ty_of t) e) tt (converted_spared t e)

value_spared : (e : Expr) → IsSpared (with_value e)
value_spared e =
    either (is_constant_expression e) (folds e) (known e) (either (is_some (folded e)) (known e) (flaws.unknown (breaks 25)) tt (rule_spares 25 refl)) tt

row_spared : (op : BinOp) (x y : Expr) (r : Row) → IsSpared (by_row op x y r)
row_spared op x y (Both t gives) =
    over_both (λ (p q : Expr). with_value (typed (ty_of gives) (binary op p q))) (as_operand t x) (as_operand t y) (operand_spared t x) (operand_spared t y)
    (λ p q. value_spared (typed (ty_of gives) (binary op p q)))
row_spared op x y (Own gives) = value_spared (typed (ty_of gives) (own_term op x y))
row_spared op x y rows.ByDefault = rule_spares 6 refl
row_spared op x y OverUnknown = none_spares
row_spared op x y NoForm = rule_spares 22 refl
row_spared op x y Untranslated = rule_spares 2 refl

own_row_spared : (op : BinOp) (x y : Expr) → IsSpared (by_own_row op x y)
own_row_spared op x y = row_spared op x y (binary_row op (type_at x) (type_at y))

any_row_spared : (D : Declarations) (op : BinOp) (x y : Expr) → IsSpared (by_any_row D op x y)
any_row_spared D op x y =
    either (is_default (binary_row op (type_at x) (type_at y))) (on_both (by_own_row op) (plain D x) (plain D y)) (by_own_row op x y)
    (over_both (by_own_row op) (plain D x) (plain D y) (plain_spared D x) (plain_spared D y) (own_row_spared op)) (own_row_spared op x y)

pub binary_spared : (D : Declarations) (op : BinOp) (s t : Typed) → IsSpared s → IsSpared t → IsSpared (binary_over D op s t)
binary_spared D op s t h k =
    either (is_untranslated op) (flaws.unknown (together (breaks 2) (together (flaw_of s) (flaw_of t)))) (combined D op s t)
    (both_spare (breaks 2).rules (together (flaw_of s) (flaw_of t)).rules (rule_spares 2 refl)
    (both_spare (flaw_of s).rules (flaw_of t).rules (flaw_spared s h) (flaw_spared t k))) (over_both (by_any_row D op) s t h k (any_row_spared D op))

unary_row_spared : (op : UnOp) (x : Expr) (r : Row) → IsSpared (by_unary_row op x r)
unary_row_spared op x (Both t gives) =
    over_known (λ (p : Expr). with_value (typed (ty_of gives) (unary op p))) (as_operand t x) (operand_spared t x)
    (λ p. value_spared (typed (ty_of gives) (unary op p)))
unary_row_spared op x (Own gives) = value_spared (typed (ty_of gives) (unary op x))
unary_row_spared op x rows.ByDefault = rule_spares 6 refl
unary_row_spared op x OverUnknown = none_spares
unary_row_spared op x NoForm = rule_spares 22 refl
unary_row_spared op x Untranslated = rule_spares 2 refl

own_unary_spared : (op : UnOp) (x : Expr) → IsSpared (by_own_unary_row op x)
own_unary_spared op x = unary_row_spared op x (unary_row op (type_at x))

any_unary_spared : (D : Declarations) (op : UnOp) (x : Expr) → IsSpared (by_any_unary_row D op x)
any_unary_spared D op x =
    either (is_default (unary_row op (type_at x))) (on_known (by_own_unary_row op) (plain D x)) (by_own_unary_row op x)
    (over_known (by_own_unary_row op) (plain D x) (plain_spared D x) (own_unary_spared op)) (own_unary_spared op x)

pub unary_spared : (D : Declarations) (op : UnOp) (t : Typed) → IsSpared t → IsSpared (unary_over D op t)
unary_spared D op t h = over_known (by_any_unary_row D op) t h (any_unary_spared D op)
