-- What the analyses tell of a program, as far as it decides what is written.
use Rattle.std.specs.Prelude.{◌≡◌, ◌↔◌, IsTrue, ℕ, suc, nat_lt, ℤ, pos, Bool, true, false, cond, Option, Some, None, List, [], ◌∷◌, ◌++◌, length, slice_get}
use Rattle.std.specs.List.{list_any}
use Rattle.vb_tree.specs.BoundTree.{Ty, user, fixed}
use Rattle.bound_tree.specs.declared.declared.TypeDecl.{TypeDecl}
use Rattle.bound_tree.specs.Tree.{Variable, Declarations, Program}
use Rattle.bound_facts.specs.Bounds.{LowIs, RankIs}
use Rattle.bound_facts.specs.Leading.{LeadsTo}
use Rattle.bound_facts.specs.Locks.{field_types, type_pairs}
use Rattle.bound_facts.specs.Node.{is_array_type}
use Rattle.bound_tree.specs.declared.marks.Marks.{Marks}
use Rattle.bound_tree.specs.declared.rule_set.RuleSet.{RuleSet}
use Rattle.bound_tree.specs.RuleSets.{none, is_broken}

-- Variables, user types and dimensions by their numbers, from 0.
pub record Facts : Type 0 where
  -- the lower bound of an array in a dimension
  pub low : (variable dimension : ℕ) → ℤ
  -- the rank of an array
  pub rank : (variable : ℕ) → ℕ
  -- a user type that holds an array, and one that holds an array or a fixed string, itself or in the types of its fields
  pub holds_array : (user_type : ℕ) → Bool
  pub is_made : (user_type : ℕ) → Bool
  -- the rules that code lines and declarations break, those of all passes together
  pub marks : Marks
  -- those of a statement that declares nothing, by its file and its number in its module
  pub statement : (file number : ℕ) → RuleSet

-- ---- what they mean

abbrev pub is_made_type : Ty → Bool
is_made_type (fixed units) = true
is_made_type ty = is_array_type ty

-- the user types, numbered from t, with a field of a type that passes
abbrev pub types_with : Declarations → (Ty → Bool) → ℕ → List TypeDecl → List ℕ
types_with D test t [] = []
types_with D test t (d ∷ ds) = cond (list_any test (field_types D d)) (t ∷ []) [] ++ types_with D test (suc t) ds

-- a user type has a field of a type that passes, itself or in the types of its fields
abbrev pub Holds : Declarations → (Ty → Bool) → ℕ → Type 0
Holds D test t = LeadsTo (length D.types) (type_pairs D) (types_with D test 0 D.types) t

abbrev pub is_array_variable : Option Variable → Bool
is_array_variable None = false
is_array_variable (Some x) = is_array_type x.ty

pub record AreFacts (P : Program) (F : Facts) : Type 0 where
  pub ranks : (a : ℕ) → is_array_variable (slice_get P.declarations.vars a) ≡ true → RankIs P a (F.rank a)
  -- those of two dimensions: an array of more carries an issue, and its further lower bounds are written as 0
  pub lows :
      (a d : ℕ) → is_array_variable (slice_get P.declarations.vars a) ≡ true → nat_lt d 2 ≡ true → nat_lt d (F.rank a) ≡ true → LowIs P d a (F.low a d)
  pub further_lows : (a d : ℕ) → F.low a (suc (suc d)) ≡ pos 0
  pub arrays : (t : ℕ) → IsTrue (F.holds_array t) ↔ Holds P.declarations is_array_type t
  pub made : (t : ℕ) → IsTrue (F.is_made t) ↔ Holds P.declarations is_made_type t

-- ---- sets of rules

abbrev pub set_or_none : Option RuleSet → RuleSet
set_or_none None = none
set_or_none (Some s) = s

abbrev pub set_at : List RuleSet → ℕ → RuleSet
set_at sets k = set_or_none (slice_get sets k)

abbrev pub list_set : Option (List RuleSet) → ℕ → RuleSet
list_set None k = none
list_set (Some sets) k = set_at sets k

-- the rules of a code line of a procedure, both numbered from 0
abbrev pub line_set : Facts → (procedure line : ℕ) → RuleSet
line_set F p k = list_set (slice_get F.marks.lines p) k

abbrev pub head_set : Facts → (procedure : ℕ) → RuleSet
head_set F p = set_at F.marks.heads p

abbrev pub variable_set : Facts → ℕ → RuleSet
variable_set F v = set_at F.marks.vars v

abbrev pub constant_set : Facts → ℕ → RuleSet
constant_set F c = set_at F.marks.consts c

-- whether a declaration carries an issue
abbrev pub is_flagged_variable : Facts → ℕ → Bool
is_flagged_variable F v = is_broken (variable_set F v)

abbrev pub is_flagged_constant : Facts → ℕ → Bool
is_flagged_constant F c = is_broken (constant_set F c)

abbrev pub holds_array : Facts → Ty → Bool
holds_array F (user t) = F.holds_array t
holds_array F _ = false
