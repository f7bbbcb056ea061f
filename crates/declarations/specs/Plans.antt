-- What is known of a variable once constants have values: its length, its bounds, its default and the rules that its declaration breaks.
use Rattle.std.specs.Prelude.{ℕ, ℤ, pos, ◌+◌, ◌*◌, Bool, false, cond, nat_lt, nat_le, Option, Some, None, List, [], ◌∷◌, ◌++◌, ◌-ℤ◌, replicate}
use Rattle.vb_tree.specs.BoundTree.{Ty, boolean, byte, integer, long, currency, str, fixed, class, object, unknown}
use Rattle.vb_tree.specs.declared.value.Value6.{Value6}
use Rattle.vb_tree.specs.declared.value.Value6.TheVariants as v
use Rattle.vb_tree.specs.Tree.{Bounds, Exp}
use Rattle.bound_tree.specs.declared.rule_set.RuleSet.{RuleSet}
use Rattle.bound_tree.specs.RuleSets.{none, with_rule, with_if, both}
use Rattle.bound_tree.specs.Tree.{Declarations}
use Rattle.bound_facts.specs.Bounds.{option_base_of}
use Rattle.declared_names.specs.Declaring.{NamedVariable}
use Rattle.expression_words.specs.Meanings.{Scope}
use Rattle.declarations.specs.ConstantExpressions.{Outcome, valued, broken, constant_outcome, rules_of}
use Rattle.declarations.specs.Constants.{Length, length_of, no_length, written_length}
use Rattle.declarations.specs.NamedTypes.{Choice, in_array, rank_of}
use Rattle.declarations.specs.Places.{file_of, scope_for}
use Rattle.declarations.specs.Typed.{choice_of}

-- ---- bounds

-- a bound, or the rules that it breaks
pub data Bound : Type 0 where
  bound : ℤ → Bound
  unbound : RuleSet → Bound

abbrev pub bound_of_value : Value6 → Bound
bound_of_value (v.Long z) = bound z
bound_of_value _ = unbound (with_rule none 25)

abbrev pub bound_in : Outcome → Bound
bound_in (valued ty x) = bound_of_value x
bound_in (broken rules) = unbound rules

abbrev pub bound_by : Scope → Exp → Bound
bound_by S e = bound_in (constant_outcome S (Some long) e)

-- the lower bound, where none is written that of Option Base
abbrev pub lower_by : Scope → ℤ → Option Exp → Bound
lower_by S base None = bound base
lower_by S base (Some e) = bound_by S e

-- a dimension from one bound to another with the number of its elements, or the rules that it breaks
pub data Dimension : Type 0 where
  dimension : ℤ → ℤ → ℕ → Dimension
  no_dimension : RuleSet → Dimension

abbrev pub counted : ℤ → Option ℕ
counted (pos n) = cond (nat_lt n 2147483647) (Some (n + 1)) None
counted _ = None

-- at least one, and at most 2147483647
abbrev pub number_of : ℤ → ℤ → Option ℕ
number_of low high = counted (high -ℤ low)

abbrev pub between : ℤ → ℤ → Option ℕ → Dimension
between low high None = no_dimension (with_rule none 25)
between low high (Some count) = dimension low high count

abbrev pub within : Bound → Bound → Dimension
within (bound low) (bound high) = between low high (number_of low high)
within (bound low) (unbound rules) = no_dimension rules
within (unbound rules) (bound high) = no_dimension rules
within (unbound rules) (unbound more) = no_dimension (both rules more)

abbrev pub dimension_by : Scope → ℤ → Bounds → Dimension
dimension_by S base b = within (lower_by S base b.lower) (bound_by S b.upper)

-- the bounds of an array so far, the number of its elements, and the rules that are broken
pub record Extents : Type 0 where
  pub bounds : List (ℤ × ℤ)
  pub count : ℕ
  pub rules : RuleSet

abbrev pub no_extents : Extents
no_extents = record { bounds = []; count = 1; rules = none }

-- a number past the greatest isn't counted on
abbrev pub times : ℕ → ℕ → ℕ
times count extent = cond (nat_le count 2147483647) (count * extent) count

abbrev pub with_dimension : Extents → Dimension → Extents
with_dimension x (dimension low high count) = record x { bounds = x.bounds ++ (low, high) ∷ []; count = times x.count count }
with_dimension x (no_dimension rules) = record x { rules = both x.rules rules }

abbrev pub extents_by : Scope → ℤ → Extents → List Bounds → Extents
extents_by S base x [] = x
extents_by S base x (b ∷ bs) = extents_by S base (with_dimension x (dimension_by S base b)) bs

-- an array has at most 2147483647 elements in all
abbrev pub in_all : Extents → Extents
in_all x = record x { rules = with_if x.rules 25 (nat_lt 2147483647 x.count) }

abbrev pub extents_of : Scope → ℤ → Option (List Bounds) → Extents
extents_of S base None = no_extents
extents_of S base (Some bounds) = in_all (extents_by S base no_extents bounds)

-- ---- defaults of parameters

-- a default, none, or the rules that are broken
pub record Preset : Type 0 where
  pub value : Option Value6
  pub rules : RuleSet

abbrev pub units_of : ℕ → Option Value6
units_of n = Some (v.Str (replicate n 0))

-- the value that a variable of a type has at first
abbrev pub initial_value : Ty → Option Value6
initial_value boolean = Some (v.Boolean false)
initial_value byte = Some (v.Byte 0)
initial_value integer = Some (v.Int (pos 0))
initial_value long = Some (v.Long (pos 0))
initial_value currency = Some (v.Cur (pos 0))
initial_value str = Some (v.Str [])
initial_value (fixed n) = units_of n
initial_value (class c) = Some v.Nothing
initial_value object = Some v.Nothing
initial_value _ = None

abbrev pub preset_in : Outcome → Preset
preset_in (valued ty x) = record { value = Some x; rules = none }
preset_in (broken rules) = record { value = None; rules = rules }

-- that of a parameter without a type has rules alone
abbrev pub unknown_preset : Scope → Exp → Preset
unknown_preset S e = record { value = None; rules = rules_of (constant_outcome S None e) }

abbrev pub typed_preset : Scope → Ty → Exp → Preset
typed_preset S ty e = preset_in (constant_outcome S (Some ty) e)

abbrev pub preset_by : Scope → Ty → Exp → Preset
preset_by S unknown e = unknown_preset S e
preset_by S ty e = typed_preset S ty e

-- one that is left unsaid
abbrev pub unsaid_preset : Ty → (optional : Bool) → Preset
unsaid_preset ty optional = record { value = cond optional (initial_value ty) None; rules = none }

abbrev pub preset_of : Scope → Ty → (optional : Bool) → Option Exp → Preset
preset_of S ty optional None = unsaid_preset ty optional
preset_of S ty optional (Some e) = preset_by S ty e

-- ---- variables

pub record Plan : Type 0 where
  -- the type that is named, with its length
  pub named : Ty
  pub bounds : List (ℤ × ℤ)
  pub preset : Option Value6
  pub rules : RuleSet

abbrev pub with_length : Length → Ty → Ty
with_length (length_of n) ty = fixed n
with_length _ ty = ty

abbrev pub length_rules : Length → RuleSet
length_rules (no_length rules) = rules
length_rules _ = none

abbrev pub planned : RuleSet → Length → Extents → Ty → Preset → Plan
planned rules l x named p = record {
  named = named;
  bounds = x.bounds;
  preset = p.value;
  rules = both (both rules (length_rules l)) (both x.rules p.rules);
}

abbrev pub plan_by_type : Scope → ℤ → NamedVariable → RuleSet → Length → Ty → Plan
plan_by_type S base x rules l named = planned rules l (extents_of S base x.bounds) named (preset_of S named x.optional x.preset)

abbrev pub plan_with : Scope → ℤ → NamedVariable → Choice → Length → Plan
plan_with S base x c l = plan_by_type S base x c.rules l (in_array (rank_of x.bounds) (with_length l c.ty))

-- what is known of a variable by the declarations with the values of constants
abbrev pub plan_of : Declarations → NamedVariable → Plan
plan_of D x =
    plan_with (scope_for D x.owner) (option_base_of D (file_of D x.owner)) x (choice_of D x) (written_length (scope_for D x.owner) x.ty)
