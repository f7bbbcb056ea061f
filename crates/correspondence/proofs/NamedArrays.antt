-- What is written for uses of arrays names each variable as often as the source uses it: elements and bounds.
use Rattle.std.proofs.Common.{◌≡◌, ℕ, zero, suc, ℤ, Bool, true, false, cond, List, ◌++◌, Some, refl, arith, nat_eq, codes, inl, inr}
use Rattle.std.specs.Prelude.{slice_get}
use Rattle.up_base.proofs.Lists.{both_true}
use Rattle.vb_tree.specs.BoundTree as types
use Rattle.vb_tree.specs.BoundTree.{Ty}
use Rattle.vb_tree.specs.declared.bound.LibCall.{LibCall}
use Rattle.vb_tree.specs.declared.bound.LibCall.TheVariants as lib
use Rattle.vb_tree.specs.declared.declared.ProcId.{ProcId}
use Rattle.vb_tree.specs.declared.declared.VarId.{VarId}
use Rattle.bound_tree.specs.declared.body.Mention.{Mention}
use Rattle.bound_tree.specs.Tree.{Variable, Program, Expr, typed, constant, variable, Exprs, no_exprs, next_expr, call, no_object, no_passed, Passed, Procedure}
use Rattle.net_tree.specs.Tree.{Exp}
use Rattle.written_trees.specs.Conversions.{support_call, two}
use Rattle.written_trees.specs.Exprs.{exp_of, exps_of, index_at, indexes_of, is_zero, library_of}
use Rattle.written_trees.specs.Library.{absolute_path, low_at, low_exp}
use Rattle.written_trees.specs.Names.{Path, Scope, owner_path, support, strings, procedure_path}
use Rattle.written_trees.specs.Prologues.{one_if}
use Rattle.run_matches.specs.UserTypes.{is_group_type}
use Rattle.run_matches.specs.CoveredExprs.{IsUsed, covers_array, covers_bounded, covers_dimension, is_bound, uses_in}
use Rattle.run_matches.specs.CoveredVariables.{covers_array_use, is_named_so}
use Rattle.correspondence.specs.Uses.{uses, exprs_uses, names, exps_name}
use Rattle.correspondence.proofs.Variables.{IsCoveredAt}

-- A count of paths is right for a variable: it counts the paths of covered uses, none of the run-time library or of the support module, no path
-- of a procedure whose calls a test doesn't find, and those of fields by the variables of user types that it doesn't find either.
pub record IsRight (P : Program) (S : Scope) (p : ℕ) (mentions : List Mention) (v : ℕ) (count : Path → ℕ) (test : Expr → Bool) : Type 0 where
  pub no_support : (name : List ℕ) → count (support name) ≡ 0
  pub no_strings : (name : List ℕ) → count (strings name) ≡ 0
  pub no_math : count absolute_path ≡ 0
  pub used :
      (k : VarId) (q : Bool) (ty : Ty) → IsUsed (uses_in P p mentions) k → one_if (nat_eq v k.0) ≡ names count (exp_of S (typed ty (variable k q)))
  pub fields :
      (k : VarId) (q : Bool) (ty : Ty) (y : Variable) (rest : List (List ℕ)) → IsCoveredAt P p k.0 y → is_group_type y.ty ≡ true
      → is_group_type ty ≡ true → test (typed ty (variable k q)) ≡ false → one_if (nat_eq v k.0) ≡ count (owner_path S q y.name y.owner ++ rest)
  pub uncalled :
      (ty : Ty) (q : ProcId) (qualified : Bool) (args : Passed) → test (typed ty (call q qualified no_object args)) ≡ false
      → count (procedure_path S qualified q.0) ≡ 0
  -- nor do members of what a procedure gives
  pub behind_call :
      (ty : Ty) (q : ProcId) (qualified : Bool) (y : Procedure) (rest : List (List ℕ)) → slice_get S.declarations.procs q.0 ≡ Some y
      → is_group_type ty ≡ true → test (typed ty (call q qualified no_object no_passed)) ≡ false → count (procedure_path S qualified q.0 ++ rest) ≡ 0

-- a dimension that is a constant uses nothing
dimension_unused : (v : ℕ) (rest : Exprs) → covers_dimension rest ≡ true → exprs_uses v rest ≡ 0
dimension_unused v no_exprs h = refl
dimension_unused v (next_expr (typed ty (constant x origin)) no_exprs) h = refl
dimension_unused v (next_expr (typed ty _) no_exprs) h = absurd (cc h)
dimension_unused v (next_expr e (next_expr d rest)) h = absurd (cc h)

module _ (P : Program) (S : Scope) (p v : ℕ) (count : Path → ℕ) (test : Expr → Bool) (mentions : List Mention)
    (right : IsRight P S p mentions v count test) where
  pub array_names : (e : Expr) → covers_array (uses_in P p mentions) e ≡ true → uses v e ≡ names count (exp_of S e)
  array_names (typed (types.array element rank) (variable k q)) h =
      right.used k q (types.array element rank)
      (inr (inl (element, (both_true (covers_array_use P p mentions k element) (is_named_so P.declarations k q) h).0)))
  array_names (typed (types.array element rank) _) h = absurd (cc h)
  array_names (typed _ t) h = absurd (cc h)

  -- ---- indexes

  from_names : (starts : Bool) (low : ℤ) (i : Exp) → names count (cond starts i (support_call (codes "At") (two i (low_exp low)))) ≡ names count i
  from_names true low i = refl
  from_names false low i = let none = right.no_support (codes "At") in omega (arith, none)

  index_names : (a : Expr) (d : ℕ) (i : Exp) → names count (index_at S a d i) ≡ names count i
  index_names a zero i = from_names (is_zero (low_at S a 0)) (low_at S a 0) i
  index_names a (suc zero) i = from_names (is_zero (low_at S a 1)) (low_at S a 1) i
  index_names a (suc (suc d)) i = refl

  pub indexes_names : (a : Expr) (d : ℕ) (indexes : Exprs) → exps_name count (indexes_of S a d indexes) ≡ exps_name count (exps_of S indexes)
  indexes_names a d no_exprs = refl
  indexes_names a d (next_expr e rest) =
      let here = index_names a d (exp_of S e) in
      let more = indexes_names a (suc d) rest in
      omega (arith, here, more)

  -- ---- bounds

  pub bound_names : (ty : Ty) (g : LibCall) (args : Exprs) → is_bound g ≡ true → covers_bounded (uses_in P p mentions) args ≡ true
      → exprs_uses v args ≡ names count (library_of S ty g args)
  bound_names ty lib.UBound no_exprs b h = absurd (cc h)
  bound_names ty lib.UBound (next_expr a rest) b h =
      let both = both_true (covers_array (uses_in P p mentions) a) (covers_dimension rest) h in
      let here = array_names a both.0 in
      let unused = dimension_unused v rest both.1 in
      let none = right.no_support (codes "Hi") in
      omega (arith, here, unused, none)
  bound_names ty lib.LBound no_exprs b h = absurd (cc h)
  bound_names ty lib.LBound (next_expr a rest) b h =
      let both = both_true (covers_array (uses_in P p mentions) a) (covers_dimension rest) h in
      let here = array_names a both.0 in
      let unused = dimension_unused v rest both.1 in
      let none = right.no_support (codes "Lo") in
      omega (arith, here, unused, none)
  bound_names ty _ args b h = absurd (cc b)
