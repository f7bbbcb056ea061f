-- What types, bounds, lengths and defaults of declarations break is none of the rules on properties.
use Rattle.std.proofs.Common.{◌≡◌, ℕ, Bool, true, false, cond, List, [], ◌∷◌, map, Option, Some, None, refl, ap, ◌∙◌, nat_eq}
use Rattle.std.specs.Prelude.{ℤ, pos, negsuc, ◌&&◌, ◌||◌, not, is_some, nat_lt}
use Rattle.up_base.specs.Names.{lower_case}
use Rattle.vb_tree.specs.BoundTree.{Ty, long, unknown}
use Rattle.vb_tree.specs.declared.declared.Owner.{Owner}
use Rattle.vb_tree.specs.declared.token.Suffix.{Suffix}
use Rattle.vb_tree.specs.declared.token.Suffix.TheVariants as suffix
use Rattle.vb_tree.specs.declared.value.Value6.{Value6}
use Rattle.vb_tree.specs.declared.value.Value6.TheVariants as v
use Rattle.vb_tree.specs.Tree.{Bounds, Exp, TypeName, fixed_string}
use Rattle.vb_tree.specs.Tree as source
use Rattle.vb6_meaning.specs.Answers.{Answer, gives, raises, outside}
use Rattle.vb6_meaning.specs.Values.{coerce}
use Rattle.bound_tree.specs.declared.declared.Named.{Named}
use Rattle.bound_tree.specs.declared.declared.Named.TheVariants as named
use Rattle.bound_tree.specs.declared.rule_set.RuleSet.{RuleSet}
use Rattle.bound_tree.specs.RuleSets.{has, with_if, both}
use Rattle.bound_tree.specs.Tree.{Declarations}
use Rattle.bound_tree.proofs.RuleLaws.{has_with}
use Rattle.bound_facts.specs.Bounds.{option_base_of}
use Rattle.bound_facts.specs.Folded.{folded}
use Rattle.bound_facts.specs.Node.{type_at}
use Rattle.name_tables.specs.declared.uses.Use6.{Use6}
use Rattle.name_tables.specs.declared.uses.Use6.TheVariants as use6
use Rattle.name_tables.specs.Scopes.{found_type}
use Rattle.typing_rows.specs.declared.conversions.Conversion.{Conversion}
use Rattle.typing_rows.specs.declared.conversions.Conversion.TheVariants as conversions
use Rattle.typing_rows.specs.Conversions.{converts}
use Rattle.typing_rows.specs.Types.{ty_of}
use Rattle.declared_names.specs.Declaring.{NamedVariable}
use Rattle.expression_words.specs.Flaws as flaws
use Rattle.expression_words.specs.Flaws.{Typed}
use Rattle.expression_words.specs.Meanings.{Scope}
use Rattle.bound_exprs.specs.Resolved.{resolved}
use Rattle.declarations.specs.ConstantExpressions.{Outcome, valued, broken, breaks, is_long_text, written, coerced, by_conversion, value_as, outcome_of, constant_outcome, rules_of}
use Rattle.declarations.specs.Constants.{Length, length_of, bad_length, checked_length, length_of_value, length_in, written_length}
use Rattle.declarations.specs.ModuleFacts.{facts_in, letter_of, Letter, needs_declaration}
use Rattle.declarations.specs.NamedTypes as types
use Rattle.declarations.specs.NamedTypes.{Choice, chosen, by_suffix, is_floating, word_type, of_named, of_use, of_new_use, looked_up, word_or_found, by_name, by_type_name, by_letter, suffixed, or_choice, single, in_array, rank_of}
use Rattle.declarations.specs.Places.{file_of, is_in_procedure, scope_for}
use Rattle.declarations.specs.Plans.{Bound, bound, unbound, bound_of_value, bound_in, bound_by, lower_by, Dimension, dimension, no_dimension, number_of, between, within, dimension_by, Extents, no_extents, with_dimension, extents_by, extents_of, preset_in, preset_by, preset_of, length_rules, plan_of}
use Rattle.declarations.specs.Typed.{choice_of}
use Rattle.upgrade_laws.proofs.SparedRules.{SparesShape, none_spares, rule_spares, both_spare, IsSpared, IsOther, converts_other}
use Rattle.upgrade_laws.proofs.SparedWords.{IsOtherRule, resolved_spared}

-- ---- sets of rules

pub if_spares : (s : RuleSet) (n : ℕ) (test : Bool) → nat_eq 7 n ≡ false → SparesShape s → SparesShape (with_if s n test)
if_spares s n true other h = has_with s n 7 ∙ ap (λ (b : Bool). b || has s 7) other ∙ h
if_spares s n false other h = h

-- ---- constant expressions

abbrev IsSparedOutcome : Outcome → Type 0
IsSparedOutcome (valued ty x) = Unit {0}
IsSparedOutcome (broken rules) = SparesShape rules

either_outcome : (test : Bool) (s t : Outcome) → IsSparedOutcome s → IsSparedOutcome t → IsSparedOutcome (cond test s t)
either_outcome true s t h k = h
either_outcome false s t h k = k

written_spared : (ty : Ty) (x : Value6) → IsSparedOutcome (written ty x)
written_spared ty x = either_outcome (is_long_text x) (breaks 25) (valued ty x) (rule_spares 25 refl) tt

coerced_spared : (ty : Ty) (a : Answer Value6) → IsSparedOutcome (coerced ty a)
coerced_spared ty (gives x) = written_spared ty x
coerced_spared ty (raises number) = rule_spares 25 refl
coerced_spared ty outside = rule_spares 25 refl

conversion_spared : (x : Value6) (ty : Ty) (c : Conversion) → IsOther c → IsSparedOutcome (by_conversion x ty c)
conversion_spared x ty conversions.Stands n = written_spared ty x
conversion_spared x ty (conversions.To t) n = coerced_spared (ty_of t) (coerce x (ty_of t))
conversion_spared x ty conversions.ByDefault n = rule_spares 6 refl
conversion_spared x ty (conversions.Breaks rule) n = rule_spares rule n

value_spared : (wanted : Option Ty) (from : Ty) (o : Option Value6) → IsSparedOutcome (value_as wanted from o)
value_spared wanted from None = rule_spares 25 refl
value_spared None from (Some x) = written_spared from x
value_spared (Some ty) from (Some x) = conversion_spared x ty (converts from ty) (converts_other from ty)

outcome_spared : (wanted : Option Ty) (t : Typed) → IsSpared t → IsSparedOutcome (outcome_of wanted t)
outcome_spared wanted (flaws.known e) h = value_spared wanted (type_at e) (folded e)
outcome_spared wanted (flaws.unknown f) h = if_spares f.rules 25 (is_some f.cause) refl h

constant_spared : (S : Scope) → IsOtherRule S.missing → (wanted : Option Ty) (e : Exp) → IsSparedOutcome (constant_outcome S wanted e)
constant_spared S m wanted e = outcome_spared wanted (resolved S e) (resolved_spared S m e)

rules_spared : (o : Outcome) → IsSparedOutcome o → SparesShape (rules_of o)
rules_spared (valued ty x) h = none_spares
rules_spared (broken rules) h = h

-- a name that isn't declared breaks rule 3 or 25
scope_spared : (D : Declarations) (o : Owner) → IsOtherRule (scope_for D o).missing
scope_spared D o = by (is_in_procedure o && not (needs_declaration (file_of D o) (map facts_in D.project.modules)))
  where
    by : (b : Bool) → IsOtherRule (cond b 25 3)
    by true = refl
    by false = refl

-- ---- lengths

abbrev IsSparedLength : Length → Type 0
IsSparedLength l = SparesShape (length_rules l)

checked_spared : (z : ℤ) → IsSparedLength (checked_length z)
checked_spared (pos n) = by (nat_lt 0 n && nat_lt n 65527)
  where
    by : (b : Bool) → IsSparedLength (cond b (length_of n) bad_length)
    by true = none_spares
    by false = rule_spares 25 refl
checked_spared (negsuc n) = rule_spares 25 refl

length_value_spared : (x : Value6) → IsSparedLength (length_of_value x)
length_value_spared (v.Long z) = checked_spared z
length_value_spared _ = rule_spares 25 refl

length_outcome_spared : (o : Outcome) → IsSparedOutcome o → IsSparedLength (length_in o)
length_outcome_spared (valued ty x) h = length_value_spared x
length_outcome_spared (broken rules) h = h

length_spared : (S : Scope) → IsOtherRule S.missing → (t : Option TypeName) → IsSparedLength (written_length S t)
length_spared S m None = none_spares
length_spared S m (Some (source.named name)) = none_spares
length_spared S m (Some (fixed_string e)) = length_outcome_spared (constant_outcome S (Some long) e) (constant_spared S m (Some long) e)

-- ---- bounds

abbrev IsSparedBound : Bound → Type 0
IsSparedBound (bound z) = Unit {0}
IsSparedBound (unbound rules) = SparesShape rules

bound_value_spared : (x : Value6) → IsSparedBound (bound_of_value x)
bound_value_spared (v.Long z) = tt
bound_value_spared _ = rule_spares 25 refl

bound_outcome_spared : (o : Outcome) → IsSparedOutcome o → IsSparedBound (bound_in o)
bound_outcome_spared (valued ty x) h = bound_value_spared x
bound_outcome_spared (broken rules) h = h

bound_spared : (S : Scope) → IsOtherRule S.missing → (e : Exp) → IsSparedBound (bound_by S e)
bound_spared S m e = bound_outcome_spared (constant_outcome S (Some long) e) (constant_spared S m (Some long) e)

lower_spared : (S : Scope) → IsOtherRule S.missing → (base : ℤ) (o : Option Exp) → IsSparedBound (lower_by S base o)
lower_spared S m base None = tt
lower_spared S m base (Some e) = bound_spared S m e

abbrev IsSparedDimension : Dimension → Type 0
IsSparedDimension (dimension low high count) = Unit {0}
IsSparedDimension (no_dimension rules) = SparesShape rules

between_spared : (low high : ℤ) (o : Option ℕ) → IsSparedDimension (between low high o)
between_spared low high None = rule_spares 25 refl
between_spared low high (Some count) = tt

within_spared : (a b : Bound) → IsSparedBound a → IsSparedBound b → IsSparedDimension (within a b)
within_spared (bound low) (bound high) h k = between_spared low high (number_of low high)
within_spared (bound low) (unbound rules) h k = k
within_spared (unbound rules) (bound high) h k = h
within_spared (unbound rules) (unbound more) h k = both_spare rules more h k

with_dimension_spared : (x : Extents) (d : Dimension) → SparesShape x.rules → IsSparedDimension d → SparesShape (with_dimension x d).rules
with_dimension_spared x (dimension low high count) h k = h
with_dimension_spared x (no_dimension rules) h k = both_spare x.rules rules h k

extents_by_spared : (S : Scope) → IsOtherRule S.missing → (base : ℤ) (x : Extents) (bs : List Bounds) → SparesShape x.rules
    → SparesShape (extents_by S base x bs).rules
extents_by_spared S m base x [] h = h
extents_by_spared S m base x (b ∷ bs) h =
    extents_by_spared S m base (with_dimension x (dimension_by S base b)) bs
    (with_dimension_spared x (dimension_by S base b) h
    (within_spared (lower_by S base b.lower) (bound_by S b.upper) (lower_spared S m base b.lower) (bound_spared S m b.upper)))

extents_spared : (S : Scope) → IsOtherRule S.missing → (base : ℤ) (o : Option (List Bounds)) → SparesShape (extents_of S base o).rules
extents_spared S m base None = none_spares
extents_spared S m base (Some bs) =
    let x = extents_by S base no_extents bs in
    if_spares x.rules 25 (nat_lt 2147483647 x.count) refl (extents_by_spared S m base no_extents bs none_spares)

-- ---- defaults

preset_outcome_spared : (o : Outcome) → IsSparedOutcome o → SparesShape (preset_in o).rules
preset_outcome_spared (valued ty x) h = none_spares
preset_outcome_spared (broken rules) h = h

preset_by_spared : (S : Scope) → IsOtherRule S.missing → (ty : Ty) (e : Exp) → SparesShape (preset_by S ty e).rules
preset_by_spared S m unknown e = rules_spared (constant_outcome S None e) (constant_spared S m None e)
preset_by_spared S m ty e = preset_outcome_spared (constant_outcome S (Some ty) e) (constant_spared S m (Some ty) e)

preset_spared : (S : Scope) → IsOtherRule S.missing → (ty : Ty) (optional : Bool) (o : Option Exp) → SparesShape (preset_of S ty optional o).rules
preset_spared S m ty optional None = none_spares
preset_spared S m ty optional (Some e) = preset_by_spared S m ty e

-- ---- types

abbrev IsSparedChoice : Choice → Type 0
IsSparedChoice c = SparesShape c.rules

either_choice : (test : Bool) (c d : Choice) → IsSparedChoice c → IsSparedChoice d → IsSparedChoice (cond test c d)
either_choice true c d h k = h
either_choice false c d h k = k

of_named_spared : (n : Named) → IsSparedChoice (of_named n)
of_named_spared (named.Type t) = none_spares
of_named_spared (named.Enum e) = none_spares
of_named_spared _ = rule_spares 3 refl

of_use_spared : (u : Use6) → IsSparedChoice (of_use u)
of_use_spared (use6.Local n) = of_named_spared n
of_use_spared (use6.Own n) = of_named_spared n
of_use_spared (use6.Foreign file n) = of_named_spared n
of_use_spared (use6.Class c) = none_spares
of_use_spared use6.Ambiguous = rule_spares 20 refl
of_use_spared _ = rule_spares 3 refl

of_new_spared : (u : Use6) → IsSparedChoice (of_new_use u)
of_new_spared (use6.Class c) = none_spares
of_new_spared use6.Ambiguous = rule_spares 20 refl
of_new_spared _ = rule_spares 3 refl

looked_up_spared : (auto : Bool) (name : List ℕ) (u : Use6) → IsSparedChoice (looked_up auto name u)
looked_up_spared auto name u = either_choice auto (of_new_use u) (of_use u) (of_new_spared u) (of_use_spared u)

word_spared : (auto : Bool) (name : List ℕ) (u : Use6) (o : Option Ty) → IsSparedChoice (word_or_found auto name u o)
word_spared auto name u None = looked_up_spared auto name u
word_spared auto name u (Some ty) = either_choice auto (types.broken 3) (chosen ty) (rule_spares 3 refl) none_spares

type_name_spared : (D : Declarations) (file : ℕ) (auto : Bool) (t : TypeName) → IsSparedChoice (by_type_name D file auto t)
type_name_spared D file auto (source.named name) =
    let u = found_type D (record { file = file; procedure = None }) (lower_case name) in
    either_choice (is_floating (lower_case name)) (types.broken 1) (word_or_found auto name u (word_type (lower_case name))) (rule_spares 1 refl)
    (word_spared auto name u (word_type (lower_case name)))
type_name_spared D file auto (fixed_string e) = none_spares

letter_spared : (o : Option Letter) → IsSparedChoice (by_letter o)
letter_spared None = none_spares
letter_spared (Some l) = none_spares

abbrev OnChoice : Option Choice → Type 0
OnChoice None = Unit {0}
OnChoice (Some c) = IsSparedChoice c

suffix_spared : (s : Suffix) → OnChoice (by_suffix s)
suffix_spared suffix.Absent = tt
suffix_spared suffix.Integer = none_spares
suffix_spared suffix.Long = none_spares
suffix_spared suffix.Currency = none_spares
suffix_spared suffix.Str = none_spares
suffix_spared suffix.Single = rule_spares 1 refl
suffix_spared suffix.Double = rule_spares 1 refl

suffixed_spared : (o : Option Choice) (c : Choice) → OnChoice o → IsSparedChoice c → IsSparedChoice (suffixed o c)
suffixed_spared None c h k = k
suffixed_spared (Some s) c h k = both_spare c.rules s.rules k h

or_spared : (o : Option Choice) (c : Choice) → OnChoice o → IsSparedChoice c → IsSparedChoice (or_choice o c)
or_spared None c h k = k
or_spared (Some s) c h k = h

single_spared : (D : Declarations) (file : ℕ) (name : List ℕ) (s : Suffix) (auto : Bool) (o : Option TypeName) → IsSparedChoice (single D file name s auto o)
single_spared D file name s auto None =
    or_spared (by_suffix s) (by_letter (letter_of name file (map facts_in D.project.modules))) (suffix_spared s)
    (letter_spared (letter_of name file (map facts_in D.project.modules)))
single_spared D file name s auto (Some t) = suffixed_spared (by_suffix s) (by_type_name D file auto t) (suffix_spared s) (type_name_spared D file auto t)

-- ---- variables

pub plan_spares : (D : Declarations) (x : NamedVariable) → SparesShape (plan_of D x).rules
plan_spares D x =
    let S = scope_for D x.owner in
    let m = scope_spared D x.owner in
    let c = choice_of D x in
    let l = written_length S x.ty in
    let base = option_base_of D (file_of D x.owner) in
    both_spare (both c.rules (length_rules l)) (both (extents_of S base x.bounds).rules (preset_of S (plan_of D x).named x.optional x.preset).rules)
    (both_spare c.rules (length_rules l) (single_spared D (file_of D x.owner) x.name x.suffix x.auto x.ty) (length_spared S m x.ty))
    (both_spare (extents_of S base x.bounds).rules (preset_of S (plan_of D x).named x.optional x.preset).rules (extents_spared S m base x.bounds)
    (preset_spared S m (plan_of D x).named x.optional x.preset))
