-- The paths in what is written for uses of variables and arrays are known.
use Rattle.std.proofs.Common.{◌≡◌, ℕ, zero, suc, ℤ, Bool, true, false, cond, ◌&&◌, List, [], ◌∷◌, ◌++◌, Option, Some, None, refl, sym, subst, ap, ◌∙◌, true≢false, inl, inr}
use Rattle.std.specs.Prelude.{codes, slice_get}
use Rattle.up_base.proofs.Lists.{both_true}
use Rattle.std.specs.Cmp.Lexicographic.{bytes_decides}
use Rattle.vb_tree.specs.BoundTree as types
use Rattle.vb_tree.specs.BoundTree.{Ty}
use Rattle.vb_tree.specs.declared.bound.LibCall.{LibCall}
use Rattle.vb_tree.specs.declared.bound.LibCall.TheVariants as lib
use Rattle.vb_tree.specs.declared.declared.VarId.{VarId}
use Rattle.vb_tree.specs.ProjectLines.{is_reserved}
use Rattle.bound_tree.specs.declared.body.Mention.{Mention}
use Rattle.bound_tree.specs.Tree.{Declarations, Program, Variable, Expr, typed, variable, Exprs, no_exprs, next_expr}
use Rattle.bound_facts.specs.Members.{class_files}
use Rattle.net_tree.specs.Spelling.{is_same_text}
use Rattle.net_tree.specs.Tree.{Exp}
use Rattle.support_text.specs.Assignments.{the_put_boolean, the_put_byte, the_put_decimal, the_put_integer, the_put_short, the_put_string}
use Rattle.support_text.specs.Bounds.{the_at, the_hi, the_lo, the_top}
use Rattle.support_text.specs.Errors.{the_err_number}
use Rattle.written_trees.specs.Conversions.{support_call, two}
use Rattle.written_trees.specs.Exprs.{exp_of, exps_of, index_at, indexes_of, is_zero, library_of}
use Rattle.written_trees.specs.Library.{low_at, low_exp}
use Rattle.written_trees.specs.Lines.{empty_extents}
use Rattle.written_trees.specs.Names.{Path, Scope, auto_name, owner_path}
use Rattle.written_trees.specs.Puts.{put_type, store_by}
use Rattle.run_matches.specs.CoveredVariables.{covers_type}
use Rattle.run_matches.specs.CoveredExprs.{IsUsed, covers_array, covers_bounded, covers_dimension, is_bound, uses_in}
use Rattle.correspondence.specs.Paths.{paths_of_exp, paths_of_exps, paths_of_line}
use Rattle.correspondence.proofs.KnownPaths.{AreKnown, HasKnown, IsFunction, IsKnown, fixed, is_auto_function, known_append}
use Rattle.run_matches.specs.Covered.{covers_names}
use Rattle.run_matches.specs.CoveredVariables.{covers_array_use, covers_class, covers_made, covers_made_file, declares_variables, has_extents, is_named_so}
use Rattle.correspondence.proofs.Variables.{IsCoveredAt, IsMadeOf, IsVariablePath, auto_exp, path_is, used_at, variable_exp}

module _ (D : Declarations) where
  -- ---- functions

  is_at : IsFunction D (codes "At")
  is_at = record { function = the_at; among = fixed D 8 the_at refl; named = refl }

  pub is_top : IsFunction D (codes "Top")
  is_top = record { function = the_top; among = fixed D 9 the_top refl; named = refl }

  is_hi : IsFunction D (codes "Hi")
  is_hi = record { function = the_hi; among = fixed D 10 the_hi refl; named = refl }

  is_lo : IsFunction D (codes "Lo")
  is_lo = record { function = the_lo; among = fixed D 11 the_lo refl; named = refl }

  pub is_err_number : IsFunction D (codes "ErrNumber")
  is_err_number = record { function = the_err_number; among = fixed D 14 the_err_number refl; named = refl }

  is_put_short : IsFunction D (codes "PutShort")
  is_put_short = record { function = the_put_short; among = fixed D 39 the_put_short refl; named = refl }

  is_put_boolean : IsFunction D (codes "PutBoolean")
  is_put_boolean = record { function = the_put_boolean; among = fixed D 40 the_put_boolean refl; named = refl }

  is_put_byte : IsFunction D (codes "PutByte")
  is_put_byte = record { function = the_put_byte; among = fixed D 41 the_put_byte refl; named = refl }

  is_put_integer : IsFunction D (codes "PutInteger")
  is_put_integer = record { function = the_put_integer; among = fixed D 42 the_put_integer refl; named = refl }

  is_put_decimal : IsFunction D (codes "PutDecimal")
  is_put_decimal = record { function = the_put_decimal; among = fixed D 43 the_put_decimal refl; named = refl }

  is_put_string : IsFunction D (codes "PutString")
  is_put_string = record { function = the_put_string; among = fixed D 44 the_put_string refl; named = refl }

  -- ---- lists

  pub known_parted : (ps qs : List Path) → AreKnown D (ps ++ qs) → AreKnown D ps × AreKnown D qs
  known_parted [] qs h = (tt, h)
  known_parted (p ∷ ps) qs h = let more = known_parted ps qs h.1 in ((h.0, more.0), more.1)

  -- ---- variables

  known_path : (path : Path) → IsVariablePath path → IsKnown D path
  known_path [] h = tt
  known_path (name ∷ []) h = tt
  known_path (outer ∷ name ∷ more) h = λ e. absurd (true≢false (sym (reserved outer e) ∙ h))
    where
      reserved : (outer : List ℕ) → is_same_text outer (codes "UpgradeSupport") ≡ true → is_reserved outer ≡ true
      reserved outer e =
          let same : outer ≡ codes "UpgradeSupport" = (bytes_decides outer (codes "UpgradeSupport")).0 e in
          ap is_reserved same

module _ (P : Program) (S : Scope) (same : S.declarations ≡ P.declarations) (free : covers_names P.declarations ≡ true) (p : ℕ) (mentions : List Mention) where
  abbrev D : Declarations
  D = P.declarations

  -- where a variable is set
  pub set_path_known : (k : VarId) (q : Bool) (y : Variable) → IsCoveredAt P p k.0 y → IsKnown D (owner_path S q y.name y.owner)
  set_path_known k q y is = known_path D (owner_path S q y.name y.owner) (path_is P S same free p k.0 q y is)

  class_known : (class : ℕ) → covers_made P class ≡ true → IsFunction D (auto_name D class)
  class_known class h = by (slice_get (class_files D.project) class) refl (both_true of_file (declares_variables D class && has_extents P) made.1).0
    where
      of_file : Bool
      of_file = covers_made_file D (slice_get (class_files D.project) class)

      made : (covers_class D class ≡ true) × ((of_file && (declares_variables D class && has_extents P)) ≡ true)
      made = both_true (covers_class D class) (of_file && (declares_variables D class && has_extents P)) h

      by : (o : Option ℕ) → slice_get (class_files D.project) class ≡ o → covers_made_file D o ≡ true → IsFunction D (auto_name D class)
      by None e c = absurd (cc c)
      by (Some file) e c = is_auto_function D class file e

  made_known : (k : VarId) (q : Bool) (ty : Ty) (y : Variable) → IsCoveredAt P p k.0 y → IsMadeOf P y → HasKnown D (exp_of S (typed ty (variable k q)))
  made_known k q ty y is (inl plain) =
      subst (λ (e : Exp). HasKnown D e) (sym (variable_exp P S same p k q y is ty plain)) (set_path_known k q y is, tt)
  made_known k q ty y is (inr auto) =
      subst (λ (e : Exp). HasKnown D e) (sym (auto_exp P S same p k q y is ty auto.0 auto.1 auto.2)) (
        λ s. (subst (λ (d : Declarations). IsFunction D (auto_name d auto.0)) (sym same) (class_known auto.0 auto.3), refl),
        (set_path_known k q y is, tt),
      )

  pub use_known : (k : VarId) (q : Bool) (ty : Ty) → IsUsed (uses_in P p mentions) k → HasKnown D (exp_of S (typed ty (variable k q)))
  use_known k q ty h = let found = used_at P p mentions k h in made_known k q ty found.variable found.covered found.made

  pub array_known : (e : Expr) → covers_array (uses_in P p mentions) e ≡ true → HasKnown D (exp_of S e)
  array_known (typed (types.array element rank) (variable k q)) h =
      use_known k q (types.array element rank)
      (inr (inl (element, (both_true (covers_array_use P p mentions k element) (is_named_so P.declarations k q) h).0)))
  array_known (typed (types.array element rank) _) h = absurd (cc h)
  array_known (typed _ t) h = absurd (cc h)

  pub bound_known : (ty : Ty) (g : LibCall) (args : Exprs) → is_bound g ≡ true → covers_bounded (uses_in P p mentions) args ≡ true
      → HasKnown D (library_of S ty g args)
  bound_known ty lib.UBound no_exprs b h = absurd (cc h)
  bound_known ty lib.UBound (next_expr a rest) b h =
      let both = both_true (covers_array (uses_in P p mentions) a) (covers_dimension rest) h in
      (λ s. (is_hi D, refl), known_append D (paths_of_exp (exp_of S a)) [] (array_known a both.0) tt)
  bound_known ty lib.LBound no_exprs b h = absurd (cc h)
  bound_known ty lib.LBound (next_expr a rest) b h =
      let both = both_true (covers_array (uses_in P p mentions) a) (covers_dimension rest) h in
      (λ s. (is_lo D, refl), known_append D (paths_of_exp (exp_of S a)) [] (array_known a both.0) tt)
  bound_known ty _ args b h = absurd (cc b)

module _ (D : Declarations) where
  -- ---- indexes

  from_known : (starts : Bool) (low : ℤ) (i : Exp) → HasKnown D i → HasKnown D (cond starts i (support_call (codes "At") (two i (low_exp low))))
  from_known true low i h = h
  from_known false low i h = (λ s. (is_at D, refl), known_append D (paths_of_exp i) [] h tt)

  index_known : (S : Scope) (a : Expr) (d : ℕ) (i : Exp) → HasKnown D i → HasKnown D (index_at S a d i)
  index_known S a zero i h = from_known (is_zero (low_at S a 0)) (low_at S a 0) i h
  index_known S a (suc zero) i h = from_known (is_zero (low_at S a 1)) (low_at S a 1) i h
  index_known S a (suc (suc d)) i h = h

  pub indexes_known : (S : Scope) (a : Expr) (d : ℕ) (indexes : Exprs) → AreKnown D (paths_of_exps (exps_of S indexes))
      → AreKnown D (paths_of_exps (indexes_of S a d indexes))
  indexes_known S a d no_exprs h = tt
  indexes_known S a d (next_expr e rest) h =
      let parted = known_parted D (paths_of_exp (exp_of S e)) (paths_of_exps (exps_of S rest)) h in
      known_append D (paths_of_exp (index_at S a d (exp_of S e))) (paths_of_exps (indexes_of S a (suc d) rest)) (index_known S a d (exp_of S e) parted.0)
      (indexes_known S a (suc d) rest parted.1)

  -- ---- stores

  abbrev HasPut : Option (List ℕ) → Type 0
  HasPut None = Unit {0}
  HasPut (Some ty) = IsFunction D (codes "Put" ++ ty)

  has_put : (ty : Ty) → covers_type ty ≡ true → HasPut (put_type ty)
  has_put types.boolean h = is_put_boolean D
  has_put types.byte h = is_put_byte D
  has_put types.integer h = is_put_short D
  has_put types.long h = is_put_integer D
  has_put types.currency h = is_put_decimal D
  has_put types.str h = is_put_string D
  has_put _ h = absurd (cc h)

  stored_by : (shows : Bool) (o : Option (List ℕ)) (t a : Exp) → HasPut o → HasKnown D t → HasKnown D a → AreKnown D (paths_of_line (store_by shows o t a))
  stored_by shows None t a f h k = known_append D (paths_of_exp t) (paths_of_exp a) h k
  stored_by true (Some ty) t a f h k =
      (λ s. (f, refl), known_append D (paths_of_exp a) (paths_of_exp t ++ []) k (known_append D (paths_of_exp t) [] h tt))
  stored_by false (Some ty) t a f h k = known_append D (paths_of_exp t) (paths_of_exp a) h k

  pub stored_known : (shows : Bool) (ty : Ty) (t a : Exp) → covers_type ty ≡ true → HasKnown D t → HasKnown D a
      → AreKnown D (paths_of_line (store_by shows (put_type ty) t a))
  stored_known shows ty t a c h k = stored_by shows (put_type ty) t a (has_put ty c) h k

  -- ---- Erase

  pub empty_known : (rank : ℕ) → AreKnown D (paths_of_exps (empty_extents rank))
  empty_known zero = tt
  empty_known (suc rank) = empty_known rank
