-- All that a project declares, with the rules that its declarations break.
use Rattle.std.specs.Prelude.{ℕ, ℤ, ◌≡◌, Bool, cond, ◌&&◌, not, Option, Some, None, List, [], ◌∷◌, map, length, slice_get}
use Rattle.std.specs.List.{flat_map, list_any}
use Rattle.vb_tree.specs.BoundTree.{Ty, unknown}
use Rattle.vb_tree.specs.declared.declared.Owner.{Owner}
use Rattle.vb_tree.specs.declared.declared.Owner.TheVariants as owner
use Rattle.vb_tree.specs.declared.declared.VarId.{VarId}
use Rattle.vb_tree.specs.declared.token.Suffix.{Suffix}
use Rattle.vb_tree.specs.Tree.{Form, type_head, enum_head, Member, group, Module, Project}
use Rattle.bound_tree.specs.declared.marks.Marks.{Marks}
use Rattle.bound_tree.specs.declared.rule_set.RuleSet.{RuleSet}
use Rattle.bound_tree.specs.RuleSets.{has, none, with_if, both}
use Rattle.bound_tree.specs.Tree.{Constant, Declarations, Procedure, Variable}
use Rattle.declared_names.specs.Declaring.{Lists, lists_of, NamedConstant, NamedProcedure}
use Rattle.declared_names.specs.Rules.{name_marks}
use Rattle.declarations.specs.Circles.{AreCircles}
use Rattle.declarations.specs.Constants.{constant_rules, is_member, settled, suffix_rules}
use Rattle.declarations.specs.Numbered.{numbered}
use Rattle.declarations.specs.Plans.{Plan, plan_of}

abbrev pub set_at : Option RuleSet → RuleSet
set_at None = none
set_at (Some s) = s

-- the rules of the item of a number
abbrev pub rules_at : List RuleSet → ℕ → RuleSet
rules_at sets n = set_at (slice_get sets n)

-- the rules that leave a declaration without a type
unfoldable pub flagging : List ℕ
flagging = 1 ∷ 2 ∷ 3 ∷ 4 ∷ 5 ∷ 6 ∷ 16 ∷ 18 ∷ 19 ∷ 20 ∷ 21 ∷ 22 ∷ 25 ∷ []

abbrev pub is_flagged : RuleSet → Bool
is_flagged s = list_any (has s) flagging

-- ---- heads of procedures

abbrev pub plan_rules : Option Plan → RuleSet
plan_rules None = none
plan_rules (Some p) = p.rules

abbrev pub rules_of_variable : List Plan → VarId → RuleSet
rules_of_variable plans w = plan_rules (slice_get plans w.0)

abbrev pub params_rules : List Plan → RuleSet → List VarId → RuleSet
params_rules plans rules [] = rules
params_rules plans rules (w ∷ ws) = params_rules plans (both rules (rules_of_variable plans w)) ws

abbrev pub answer_rules : List Plan → Suffix → Option VarId → RuleSet
answer_rules plans s None = suffix_rules s
answer_rules plans s (Some w) = rules_of_variable plans w

-- by its name, its parameters and its result
abbrev pub head_rules : List RuleSet → List Plan → ℕ → NamedProcedure → RuleSet
head_rules names plans n p = both (params_rules plans (rules_at names n) p.params) (answer_rules plans p.suffix p.answer)

-- ---- variables

abbrev pub own_rules : List RuleSet → (ℕ → Bool) → List Plan → ℕ → RuleSet
own_rules names circular plans k = both (rules_at names k) (with_if (plan_rules (slice_get plans k)) 3 (circular k))

-- a result variable breaks what the head of its procedure breaks
abbrev pub by_owner : Owner → List RuleSet → RuleSet → RuleSet
by_owner (owner.Answer p) heads own = rules_at heads p.0
by_owner _ heads own = own

abbrev pub variable_rules : List RuleSet → List RuleSet → (ℕ → Bool) → List Plan → ℕ → Variable → RuleSet
variable_rules names heads circular plans k x = by_owner x.owner heads (own_rules names circular plans k)

abbrev pub type_unless : (flagged : Bool) → Ty → Ty
type_unless flagged ty = cond flagged unknown ty

abbrev pub bounds_unless : (flagged : Bool) → List (ℤ × ℤ) → List (ℤ × ℤ)
bounds_unless flagged bounds = cond flagged [] bounds

abbrev pub with_plan : Variable → Plan → (flagged : Bool) → Variable
with_plan x p flagged = record x {
  ty = type_unless flagged p.named;
  named = p.named;
  bounds = bounds_unless flagged p.bounds;
  preset = p.preset;
}

abbrev pub planned_at : Variable → (flagged : Bool) → Option Plan → Variable
planned_at x flagged None = x
planned_at x flagged (Some p) = with_plan x p flagged

abbrev pub final_variable : List Plan → List RuleSet → ℕ → Variable → Variable
final_variable plans rules k x = planned_at x (is_flagged (rules_at rules k)) (slice_get plans k)

-- ---- procedures

abbrev pub type_at : Option Variable → Ty
type_at None = unknown
type_at (Some x) = x.ty

abbrev pub answered_type : List Variable → Ty → Option VarId → Ty
answered_type vs ty None = ty
answered_type vs ty (Some w) = type_at (slice_get vs w.0)

abbrev pub final_result : List Variable → (flagged : Bool) → Ty → Option VarId → Ty
final_result vs flagged ty answer = cond flagged unknown (answered_type vs ty answer)

abbrev pub with_final_result : List Variable → (flagged : Bool) → Procedure → Procedure
with_final_result vs flagged p = record p { result = final_result vs flagged p.result p.answer }

abbrev pub final_procedure : List Variable → List RuleSet → ℕ → Procedure → Procedure
final_procedure vs heads n p = with_final_result vs (is_flagged (rules_at heads n)) p

-- ---- constants

abbrev pub joint_rules : List RuleSet → ℕ → RuleSet → RuleSet
joint_rules names k own = both (rules_at names k) own

abbrev pub without_value : Constant → Constant
without_value c = record c { ty = unknown; value = None }

abbrev pub kept_constant : (flagged : Bool) → Constant → Constant
kept_constant flagged c = cond flagged (without_value c) c

-- a member of an Enum keeps its value
abbrev pub final_constant : (ℕ → Bool) → List RuleSet → ℕ → Constant → Constant
final_constant member rules k c = kept_constant (is_flagged (rules_at rules k) && not (member k)) c

-- ---- Types and Enums

abbrev pub suffix_list : Option Suffix → List Suffix
suffix_list None = []
suffix_list (Some s) = s ∷ []

abbrev pub type_suffix_in : Form → Option Suffix
type_suffix_in (type_head v name s) = Some s
type_suffix_in _ = None

abbrev pub enum_suffix_in : Form → Option Suffix
enum_suffix_in (enum_head v name s) = Some s
enum_suffix_in _ = None

abbrev pub type_suffix : Member → Option Suffix
type_suffix (group head lines close) = type_suffix_in head.form
type_suffix _ = None

abbrev pub enum_suffix : Member → Option Suffix
enum_suffix (group head lines close) = enum_suffix_in head.form
enum_suffix _ = None

abbrev pub suffixes_in : (Member → Option Suffix) → List Member → List Suffix
suffixes_in f ms = flat_map (λ (m : Member). suffix_list (f m)) ms

abbrev pub suffixes_of : (Member → Option Suffix) → List Module → List Suffix
suffixes_of f ms = flat_map (λ (m : Module). suffixes_in f m.members) ms

-- the rules of Types or Enums by their names and their suffixes
abbrev pub group_rules : List RuleSet → ℕ → Suffix → RuleSet
group_rules names n s = both (rules_at names n) (suffix_rules s)

-- ---- the whole, where the members of Enums and the fields in circles are known

abbrev pub plans_of : Declarations → Lists → List Plan
plans_of D L = map (plan_of D) L.vars

abbrev pub constants_rules : (ℕ → Bool) → Declarations → Lists → List RuleSet
constants_rules member D L = numbered (λ (k : ℕ) (c : NamedConstant). constant_rules D (member k) c) 0 L.consts

abbrev pub heads_rules : Marks → Lists → List Plan → List RuleSet
heads_rules names L plans = numbered (head_rules names.heads plans) 0 L.procs

abbrev pub types_rules : Marks → Project → List RuleSet
types_rules names P = numbered (group_rules names.types) 0 (suffixes_of type_suffix P.modules)

abbrev pub enums_rules : Marks → Project → List RuleSet
enums_rules names P = numbered (group_rules names.enums) 0 (suffixes_of enum_suffix P.modules)

abbrev pub marks_with : Marks → List Variable → (ℕ → Bool) → List Plan → (constants heads types enums : List RuleSet) → Marks
marks_with names vars circular plans constants heads types enums = record {
  lines = names.lines;
  heads = heads;
  vars = numbered (variable_rules names.vars heads circular plans) 0 vars;
  consts = numbered (joint_rules names.consts) 0 constants;
  types = types;
  enums = enums;
}

-- by what names break
abbrev pub marks_by : Marks → Project → Lists → List Variable → (ℕ → Bool) → List Plan → List RuleSet → Marks
marks_by names P L vars circular plans constants =
    marks_with names vars circular plans constants (heads_rules names L plans) (types_rules names P) (enums_rules names P)

abbrev pub marks_in : (ℕ → Bool) → Project → Lists → Declarations → (ℕ → Bool) → Marks
marks_in member P L D circular = marks_by (name_marks P L) P L D.vars circular (plans_of D L) (constants_rules member D L)

abbrev pub final_with : (ℕ → Bool) → Declarations → Marks → List Variable → Declarations
final_with member D M vs = record D {
  vars = vs;
  consts = numbered (final_constant member M.consts) 0 D.consts;
  procs = numbered (final_procedure vs M.heads) 0 D.procs;
}

abbrev pub final : (ℕ → Bool) → Declarations → List Plan → Marks → Declarations
final member D plans M = final_with member D M (numbered (final_variable plans M.vars) 0 D.vars)

-- what the lists of a project declare, and the rules that are broken
pub record AreDeclared (P : Project) (L : Lists) (D : Declarations) (M : Marks) : Type 0 where
  pub member : ℕ → Bool
  pub members : (k : ℕ) → member k ≡ is_member L k
  pub circular : ℕ → Bool
  pub circles : AreCircles (length L.types) (settled member P L).vars circular
  pub marks : M ≡ marks_in member P L (settled member P L) circular
  pub declarations : D ≡ final member (settled member P L) (plans_of (settled member P L) L) M

-- what a project declares, and the rules that its declarations break
abbrev pub IsDeclared : Project → Declarations → Marks → Type 0
IsDeclared P D M = AreDeclared P (lists_of P) D M
