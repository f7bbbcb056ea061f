-- When the declarations at the head of a written procedure stand for what its source declares.
use Rattle.std.specs.Prelude.{◌≡◌, ℕ, ◌+◌, Bool, true, false, cond, List, [], ◌∷◌, ◌++◌, map, length, Option, Some, None}
use Rattle.vb_tree.specs.BoundTree as vb
use Rattle.vb_tree.specs.BoundTree.{Ty}
use Rattle.vb_tree.specs.declared.value.Value6.{Value6}
use Rattle.bound_tree.specs.Tree.{Variable, Constant}
use Rattle.net_tree.specs.Tree as net
use Rattle.net_tree.specs.Types as types
use Rattle.written_trees.specs.Facts.{is_flagged_variable, is_flagged_constant}
use Rattle.written_trees.specs.Lines.{is_flagged_for}
use Rattle.written_trees.specs.Literals.{constant_exp}
use Rattle.written_trees.specs.Names.{Scope}
use Rattle.written_trees.specs.Prologues.{Code, is_static, one_if, counter_dim}
use Rattle.written_trees.specs.Types.{variable_type, written_type}
use Rattle.run_matches.specs.Sites.{Own, own_variable, own_constant}
use Rattle.correspondence.specs.Lists.{Pairwise}

-- ---- variables

-- a type whose variables begin without a value
abbrev pub begins_empty : Ty → Bool
begins_empty (vb.array e rank) = false
begins_empty (vb.fixed units) = false
begins_empty (vb.user t) = false
begins_empty _ = true

-- A variable is declared by its name with the type that is written for its type. One whose declaration carries an issue is an Object.
pub record VariableCorresponds (S : Scope) (flagged : Bool) (v : ℕ) (x : Variable) (w : net.Variable) : Type 0 where
  pub name : w.name ≡ x.name
  pub ty : flagged ≡ false → w.ty ≡ variable_type S.declarations S.facts S.file v x
  pub empty : flagged ≡ false → begins_empty x.ty ≡ true → w.value ≡ None
  pub object : flagged ≡ true → (w.ty ≡ types.object) × (w.value ≡ None)

-- ---- constants

-- a constant is one where it has a value and its declaration carries no issue
abbrev pub ConstantCorresponds : Scope → (flagged : Bool) → Constant → Option Value6 → net.Dim → Type 0
ConstantCorresponds S false x (Some value) w =
    (c : net.Constant) × (w ≡ net.constant c) × (c.name ≡ x.name) × (c.ty ≡ written_type S x.ty) × (c.value ≡ constant_exp false value)
ConstantCorresponds S _ x _ w = (v : net.Variable) × (w ≡ net.local v) × (v.name ≡ x.name) × (v.ty ≡ types.object) × (v.value ≡ None)

-- ---- the declarations of a procedure

-- a Static is written as one
abbrev pub OwnCorresponds : Scope → Own → net.Dim → Type 0
OwnCorresponds S (own_variable v x) w =
    (d : net.Variable) × (w ≡ cond (is_static x.owner) (net.static_local d) (net.local d)) × VariableCorresponds S (is_flagged_variable S.facts v) v x d
OwnCorresponds S (own_constant c x) w = ConstantCorresponds S (is_flagged_constant S.facts c) x x.value w

-- how many heads of For are replaced
abbrev pub count_counters : List Code → ℕ
count_counters [] = 0
count_counters (c ∷ code) = one_if (is_flagged_for c.0 c.1.source.form) + count_counters code

-- What a procedure declares is declared at its head, in order, and then the counters of heads of For that are replaced.
pub record PrologueCorresponds (S : Scope) (owns : List Own) (code : List Code) (w : List net.Dim) : Type 0 where
  pub declared : List net.Dim
  pub counters : List ℕ
  pub is_whole : w ≡ declared ++ map counter_dim counters
  pub owns_are : Pairwise (OwnCorresponds S) owns declared
  pub counted : length counters ≡ count_counters code
