-- The values of constants. They are found in rounds: in each of them the constants without a value are gone over in order, and each
-- that has one by what is known so far is given it at once. After as many rounds as there are constants none can be found that wasn't.
use Rattle.std.specs.Prelude.{ℕ, ℤ, zero, suc, pos, ◌+◌, Bool, true, false, cond, ◌&&◌, nat_lt, Option, Some, None, List, [], ◌∷◌, map, length, slice_get, slice_set, ◌+ℤ◌, int_lt}
use Rattle.std.specs.List.{flat_map}
use Rattle.vb_tree.specs.BoundTree.{Ty, long, str, fixed, unknown}
use Rattle.vb_tree.specs.declared.token.Suffix.{Suffix}
use Rattle.vb_tree.specs.declared.token.Suffix.TheVariants as suffix
use Rattle.vb_tree.specs.declared.value.Value6.{Value6}
use Rattle.vb_tree.specs.declared.value.Value6.TheVariants as v
use Rattle.vb_tree.specs.Tree.{Exp, Project, TypeName, fixed_string}
use Rattle.vb_tree.specs.Tree as source
use Rattle.bound_tree.specs.declared.declared.ConstId.{ConstId}
use Rattle.bound_tree.specs.declared.declared.EnumDecl.{EnumDecl}
use Rattle.bound_tree.specs.declared.rule_set.RuleSet.{RuleSet}
use Rattle.bound_tree.specs.RuleSets.{none, with_rule, both}
use Rattle.bound_tree.specs.Tree.{Constant, Declarations}
use Rattle.bound_facts.specs.Leading.{is_in}
use Rattle.declared_names.specs.Declaring.{Lists, NamedConstant}
use Rattle.expression_words.specs.Meanings.{Scope}
use Rattle.declarations.specs.ConstantExpressions.{Outcome, valued, broken, breaks, constant_outcome, const_outcome, rules_of}
use Rattle.declarations.specs.NamedTypes.{Choice, by_suffix, single}
use Rattle.declarations.specs.Places.{file_of, scope_for}
use Rattle.declarations.specs.Typed.{typed}

-- ---- lengths of fixed Strings

pub data Length : Type 0 where
  -- nothing is said of one
  open_length : Length
  length_of : ℕ → Length
  no_length : RuleSet → Length

abbrev pub bad_length : Length
bad_length = no_length (with_rule none 25)

-- from 1 to 65526
abbrev pub checked_length : ℤ → Length
checked_length (pos n) = cond (nat_lt 0 n && nat_lt n 65527) (length_of n) bad_length
checked_length _ = bad_length

abbrev pub length_of_value : Value6 → Length
length_of_value (v.Long z) = checked_length z
length_of_value _ = bad_length

abbrev pub length_in : Outcome → Length
length_in (valued ty x) = length_of_value x
length_in (broken rules) = no_length rules

-- that of `String * e`
abbrev pub length_by : Scope → Exp → Length
length_by S e = length_in (constant_outcome S (Some long) e)

abbrev pub written_length : Scope → Option TypeName → Length
written_length S None = open_length
written_length S (Some (source.named name)) = open_length
written_length S (Some (fixed_string e)) = length_by S e

-- ---- members of Enums

abbrev pub member_numbers : List EnumDecl → List ℕ
member_numbers es = flat_map (λ (e : EnumDecl). map (λ (c : ConstId). c.0) e.members) es

-- whether the constant of a number is a member of an Enum
abbrev pub is_member : Lists → ℕ → Bool
is_member L k = nat_lt k (length L.consts) && is_in (member_numbers L.enums) k

abbrev pub value_at : Option Constant → Option Value6
value_at None = None
value_at (Some c) = c.value

abbrev pub next_of : Option Value6 → Outcome
next_of (Some (v.Long z)) = cond (int_lt z (pos 2147483647)) (valued long (v.Long (z +ℤ pos 1))) (breaks 25)
next_of _ = breaks 25

-- without an expression it is 0 where it is the first, else the member before it plus 1
abbrev pub next_member : Declarations → Option ConstId → Outcome
next_member D None = valued long (v.Long (pos 0))
next_member D (Some k) = next_of (value_at (slice_get D.consts k.0))

abbrev pub member_outcome : Declarations → NamedConstant → Option Exp → Outcome
member_outcome D c None = next_member D c.before
member_outcome D c (Some e) = constant_outcome (scope_for D c.owner) (Some long) e

-- ---- constants

-- the type that is written, if one is
abbrev pub written_choice : Declarations → NamedConstant → Option TypeName → Option Choice
written_choice D c None = by_suffix c.suffix
written_choice D c (Some t) = Some (single D (file_of D c.owner) c.name c.suffix false (Some t))

-- a constant of a fixed length is a String
abbrev pub unfixed : Ty → Ty
unfixed (fixed n) = str
unfixed ty = ty

abbrev pub as_declared : Outcome → Outcome
as_declared (valued ty x) = valued (unfixed ty) x
as_declared (broken rules) = broken rules

abbrev pub of_declared : Scope → Exp → Ty → Outcome
of_declared S e ty = as_declared (const_outcome S (Some ty) e)

-- one of a type that isn't known has no value
abbrev pub of_type : Scope → Exp → Ty → Outcome
of_type S e unknown = broken (rules_of (const_outcome S None e))
of_type S e ty = of_declared S e ty

abbrev pub of_length : Scope → Exp → Ty → Length → Outcome
of_length S e ty open_length = of_type S e ty
of_length S e ty (length_of n) = of_type S e (fixed n)
of_length S e ty (no_length rules) = broken rules

abbrev pub by_choice : Scope → Option TypeName → Exp → Option Choice → Outcome
by_choice S t e None = const_outcome S None e
by_choice S t e (Some c) = of_length S e c.ty (written_length S t)

abbrev pub constant_by : Declarations → NamedConstant → Option Exp → Outcome
constant_by D c None = breaks 25
constant_by D c (Some e) = by_choice (scope_for D c.owner) c.ty e (written_choice D c c.ty)

-- what a constant gives by the declarations so far
abbrev pub outcome_of : Declarations → (member : Bool) → NamedConstant → Outcome
outcome_of D member c = cond member (member_outcome D c c.value) (constant_by D c c.value)

-- ---- rounds, where the members of Enums are known

abbrev pub constant_with : Constant → Ty → Value6 → Constant
constant_with k ty x = record k { ty = ty; value = Some x }

abbrev pub with_value : ℕ → Option Constant → List Constant → Ty → Value6 → List Constant
with_value n None cs ty x = cs
with_value n (Some k) cs ty x = slice_set cs n (constant_with k ty x)

-- constants of which that of a number has got what it gives
abbrev pub with_outcome : ℕ → List Constant → Outcome → List Constant
with_outcome n cs (valued ty x) = with_value n (slice_get cs n) cs ty x
with_outcome n cs (broken rules) = cs

abbrev pub has_no : Option Value6 → Bool
has_no None = true
has_no (Some x) = false

abbrev pub lacks_value : Option Constant → Bool
lacks_value None = false
lacks_value (Some k) = has_no k.value

-- the declarations with what a constant gives, where it has no value yet
abbrev pub step : (ℕ → Bool) → Declarations → ℕ → NamedConstant → Declarations
step member D n c = cond (lacks_value (slice_get D.consts n)) (record D { consts = with_outcome n D.consts (outcome_of D (member n) c) }) D

-- one round over constants that are numbered from n
abbrev pub round : (ℕ → Bool) → Declarations → ℕ → List NamedConstant → Declarations
round member D n [] = D
round member D n (c ∷ cs) = round member (step member D n c) (n + 1) cs

abbrev pub rounds : (ℕ → Bool) → ℕ → List NamedConstant → Declarations → Declarations
rounds member zero cs D = D
rounds member (suc n) cs D = rounds member n cs (round member D 0 cs)

-- the declarations with the values of constants
abbrev pub settled : (ℕ → Bool) → Project → Lists → Declarations
settled member P L = rounds member (length L.consts) L.consts (typed P L)

-- ---- the rules that a constant breaks by its type and its value

-- a suffix of a floating type
abbrev pub suffix_rules : Suffix → RuleSet
suffix_rules suffix.Single = with_rule none 1
suffix_rules suffix.Double = with_rule none 1
suffix_rules _ = none

abbrev pub choice_rules : Option Choice → RuleSet
choice_rules None = none
choice_rules (Some c) = c.rules

abbrev pub naming_rules : Declarations → (member : Bool) → NamedConstant → RuleSet
naming_rules D member c = cond member (suffix_rules c.suffix) (choice_rules (written_choice D c c.ty))

abbrev pub constant_rules : Declarations → (member : Bool) → NamedConstant → RuleSet
constant_rules D member c = both (naming_rules D member c) (rules_of (outcome_of D member c))
