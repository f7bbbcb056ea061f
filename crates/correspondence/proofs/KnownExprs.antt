-- The paths in what is written for covered expressions are known.
use Rattle.std.proofs.Common.{◌≡◌, ℕ, Bool, true, false, ◌&&◌, cond, List, [], ◌∷◌, refl, sym, ap, subst, suc, inl, inr}
use Rattle.std.specs.List.{list_all}
use Rattle.std.specs.Prelude.{◌||◌, ◌⊎◌}
use Rattle.up_base.proofs.Lists.{both_true}
use Rattle.vb_tree.specs.BoundTree as types
use Rattle.vb_tree.specs.BoundTree.{Ty}
use Rattle.vb_tree.specs.declared.bound.LibCall.{LibCall}
use Rattle.vb_tree.specs.declared.value.Value6.TheVariants as v6
use Rattle.bound_tree.specs.declared.body.Mention.{Mention}
use Rattle.bound_tree.specs.Tree.{Declarations, Program, Expr, typed, Term, constant, variable, field, element, library, unary, binary, convert, new_object, Exprs, no_exprs, next_expr, call, no_object, of_object, by_value, by_reference, Passed, no_passed, next_passed, err_number, is_same, me}
use Rattle.bound_facts.specs.Locks.{is_same_type}
use Rattle.bound_facts.specs.Node.{type_at, is_variant}
use Rattle.net_tree.specs.declared.expression.NetBin.TheVariants as op
use Rattle.net_tree.specs.Tree.{Exp}
use Rattle.net_tree.specs.Tree as net
use Rattle.written_trees.specs.Arguments.{argument_exp, copy_by, has_address, in_parentheses, is_copied, kept, needs_copy, takes_reference, has_reference, temporary_exp}
use Rattle.written_trees.specs.Exprs.{called, exp_of, indexes_of, is_bare, library_of, member_of, passed_of, term_exp, exps_of}
use Rattle.written_trees.specs.Lines.{printed_item, joined_items, items_exp}
use Rattle.written_trees.specs.Literals.{is_hexadecimal}
use Rattle.written_trees.specs.Names.{Scope, procedure_name, procedure_path}
use Rattle.written_trees.specs.Facts.{Facts, holds_array}
use Rattle.written_trees.specs.Operators.{typed_operator, typed_unary, operand, is_product_in_currency, variant_operator, variant_unary}
use Rattle.run_matches.specs.CoveredVariables.{covers_auto_use, covers_type, covers_use, covers_user, is_named_so}
use Rattle.run_matches.specs.CoveredExprs.{Uses, covers_base, covers_object, has_member, covers_group, covers_group_term, covers_place, covers_place_term, has_scalar, covers_operator, covers_expr, covers_term, covers_exprs, covers_library, covers_passed, uses_in, covers_array, covers_bounded, is_bound, is_nothing, is_passable, covers_operand}
use Rattle.run_matches.specs.Covered.{covers_names}
use Rattle.run_matches.specs.UserTypes.{is_class_type}
use Rattle.correspondence.specs.Paths.{paths_of_exp, paths_of_exps}
use Rattle.correspondence.proofs.Among.{or_cases}
use Rattle.correspondence.proofs.Variables.{auto_use_at, passed_cases}
use Rattle.correspondence.proofs.KnownPlaces.{behind_known, field_known, member_known, object_known, place_flat, place_known}
use Rattle.correspondence.proofs.KnownArrays.{array_known, bound_known, indexes_known, is_err_number, use_known}
use Rattle.correspondence.proofs.Naming.{is_nothing_converted, no_variant, neither_variant}
use Rattle.correspondence.proofs.KnownLibrary.{library_known}
use Rattle.correspondence.proofs.KnownPaths.{AreKnown, HasKnown, constant_known, converted_known, known_append, operand_known, operator_known, printed_known, unary_known, IsKnown, path_known}
use Rattle.correspondence.proofs.NamedCalls.{covered_type, no_copy}

module _ (D : Declarations) where
  -- ---- calls

  pub call_known : (b : Bool) (names : List (List ℕ)) (es : net.Exps) → IsKnown D names → AreKnown D (paths_of_exps es)
      → HasKnown D (called b (net.path names) es)
  call_known true names es h k = (h, tt)
  call_known false names es h k = (h, k)

  pub called_known_by : (b : Bool) (callee : Exp) (es : net.Exps) → HasKnown D callee → AreKnown D (paths_of_exps es) → HasKnown D (called b callee es)
  called_known_by true callee es h k = h
  called_known_by false callee es h k = known_append D (paths_of_exp callee) (paths_of_exps es) h k

  -- an argument by value that isn't copied
  argument_known : (S : Scope) (by_address : Bool) (e : Expr) → needs_copy S.facts e ≡ false → HasKnown D (exp_of S e)
      → HasKnown D (argument_exp S by_address (by_value e) (exp_of S e))
  argument_known S true e h k =
      subst (λ (b : Bool). HasKnown D (cond b (copy_by (type_at e) (exp_of S e)) (in_parentheses (has_address S.declarations (kept e)) (exp_of S e))))
      (sym h) (by (has_address S.declarations (kept e)))
    where
      by : (b : Bool) → HasKnown D (in_parentheses b (exp_of S e))
      by true = k
      by false = k
  argument_known S false e h k = subst (λ (b : Bool). HasKnown D (cond b (copy_by (type_at e) (exp_of S e)) (exp_of S e))) (sym h) k

  -- and one by reference
  reference_known : (S : Scope) (by_address : Bool) (e : Expr) → needs_copy S.facts e ≡ false → HasKnown D (exp_of S e)
      → HasKnown D (argument_exp S by_address (by_reference e) (exp_of S e))
  reference_known S by_address e h k = by (has_reference e)
    where
      by : (b : Bool) → HasKnown D (cond b (exp_of S e) (temporary_exp S e (exp_of S e)))
      by true = k
      by false = argument_known S true e h k

-- an array isn't copied as an argument
array_kept : (F : Facts) (uses : Uses) (e : Expr) → covers_array uses e ≡ true → needs_copy F e ≡ false
array_kept F uses (typed (types.array item rank) t) h = refl
array_kept F uses (typed _ t) h = absurd (cc h)

flat_kept : (F : Facts) (e : Expr) → holds_array F (type_at e) ≡ false → needs_copy F e ≡ false
flat_kept F e h = ap {B = Bool} (λ b. b && is_copied e) h

-- ---- covered lines

module _ (P : Program) (S : Scope) (same : S.declarations ≡ P.declarations) (free : covers_names P.declarations ≡ true)
    (flat : (t : ℕ) → covers_user P.declarations t ≡ true → S.facts.holds_array t ≡ false) (p : ℕ) (mentions : List Mention) where
  abbrev D : Declarations
  D = P.declarations

  abbrev Covers : Expr → Type 0
  Covers e = covers_expr (uses_in P p mentions) e ≡ true

  -- a call on values, or one that asks for a bound
  library_by : (ty : Ty) (g : LibCall) (args : Exprs)
      → (covers_library g && covers_exprs (uses_in P p mentions) args ≡ true) ⊎ (is_bound g && covers_bounded (uses_in P p mentions) args ≡ true)
      → (covers_exprs (uses_in P p mentions) args ≡ true → AreKnown D (paths_of_exps (exps_of S args))) → HasKnown D (library_of S ty g args)
  library_by ty g args (inl h) values =
      let both = both_true (covers_library g) (covers_exprs (uses_in P p mentions) args) h in
      library_known D S ty g args both.0 (values both.1)
  library_by ty g args (inr h) values =
      let both = both_true (is_bound g) (covers_bounded (uses_in P p mentions) args) h in
      bound_known P S same free p mentions ty g args both.0 both.1

  abbrev IsPlace : Expr → Type 0
  IsPlace e = covers_place (uses_in P p mentions) e ≡ true

  kept_place : (e : Expr) → IsPlace e → needs_copy S.facts e ≡ false
  kept_place e h = flat_kept S.facts e (place_flat P S same p mentions flat e h)

  -- an argument by reference: a scalar, an array or a place of a user type
  given_known : (by_address : Bool) (e : Expr) → (Covers e) ⊎ ((covers_array (uses_in P p mentions) e ≡ true) ⊎ (IsPlace e))
      → (Covers e → HasKnown D (exp_of S e))
      → HasKnown D (argument_exp S by_address (by_reference e) (exp_of S e))
  given_known by_address e (inl c) scalar =
      reference_known D S by_address e (no_copy S.facts (type_at e) (is_copied e) (covered_type (uses_in P p mentions) e c)) (scalar c)
  given_known by_address e (inr (inl c)) scalar =
      reference_known D S by_address e (array_kept S.facts (uses_in P p mentions) e c) (array_known P S same free p mentions e c)
  given_known by_address e (inr (inr c)) scalar = reference_known D S by_address e (kept_place e c) (place_known P S same p mentions free e c)

  -- a scalar field of a place, or a scalar that an object has
  scalar_known : (ty : Ty) (e : Expr) (k : ℕ)
      → ((has_scalar (uses_in P p mentions) (type_at e) k && covers_base (uses_in P p mentions) e) ≡ true)
      ⊎ ((has_member (uses_in P p mentions) (type_at e) k covers_type && covers_object (uses_in P p mentions) e) ≡ true)
      → HasKnown D (term_exp S ty (field e k))
  scalar_known ty e k (inl h) =
      let both = both_true (has_scalar (uses_in P p mentions) (type_at e) k) (covers_base (uses_in P p mentions) e) h in
      field_known P S same p mentions free ty e k both.0 both.1
  scalar_known ty e k (inr h) =
      let both = both_true (has_member (uses_in P p mentions) (type_at e) k covers_type) (covers_object (uses_in P p mentions) e) h in
      member_known P S same p mentions free ty e k covers_type both.0 both.1

  -- nothing copies an object
  object_kept : (F : Facts) (ty : Ty) (copied : Bool) → is_class_type ty ≡ true → (holds_array F ty && copied) ≡ false
  object_kept F (types.class c) copied h = refl
  object_kept F _ copied h = absurd (cc h)

  nothing_known : (e : Expr) → is_nothing e ≡ true → HasKnown D (exp_of S e)
  nothing_known (typed types.nothing (constant v6.Nothing origin)) h = constant_known D (is_hexadecimal origin) v6.Nothing
  nothing_known (typed types.nothing (constant _ origin)) h = absurd (cc h)
  nothing_known (typed types.nothing _) h = absurd (cc h)
  nothing_known (typed _ t) h = absurd (cc h)

  not_both : (b : Bool) → (b && false) ≡ false
  not_both true = refl
  not_both false = refl

  -- what a Function gives is covered as other calls are, and isn't copied
  given_group : (ty : Ty) (t : Term) → covers_group_term (uses_in P p mentions) ty t ≡ true
      → (covers_term (uses_in P p mentions) t ≡ true → HasKnown D (term_exp S ty t)) → HasKnown D (term_exp S ty t) × (needs_copy S.facts (typed ty t) ≡ false)
  given_group ty (call q qualified of args) h other = (
    other (both_true ((uses_in P p mentions).given ty) (covers_term (uses_in P p mentions) (call q qualified of args)) h).1,
    not_both (holds_array S.facts ty),
  )
  given_group ty (variable k q) h other =
      let covers = (both_true (covers_auto_use P p mentions k ty) (is_named_so P.declarations k q) h).0 in (
        use_known P S same free p mentions k q ty (inr (inr (inr (ty, covers)))),
        object_kept S.facts ty true (ap is_class_type (auto_use_at P p mentions k ty covers).is_type),
      )
  given_group ty me h other = (object_known P S same p mentions free ty me h, not_both (holds_array S.facts ty))
  given_group ty (field e k) h other = (
    object_known P S same p mentions free ty (field e k) h,
    object_kept S.facts ty true
        (both_true (is_class_type ty)
        (has_member (uses_in P p mentions) (type_at e) k (is_same_type ty) && covers_object (uses_in P p mentions) e) h).0,
  )
  given_group ty (convert to e) h other = (
    converted_known D to e (exp_of S e)
        (nothing_known e (is_nothing_converted ((uses_in P p mentions).given ty) ty to e h)),
    not_both (holds_array S.facts ty),
  )
  given_group ty (new_object c) h other = (tt, not_both (holds_array S.facts ty))
  given_group ty _ h other = absurd (cc h)

  -- a value of a user type or a class
  group_value : (ty : Ty) (t : Term)
      → (covers_place_term (uses_in P p mentions) ty t ≡ true) ⊎ (covers_group_term (uses_in P p mentions) ty t ≡ true)
      → (covers_term (uses_in P p mentions) t ≡ true → HasKnown D (term_exp S ty t)) → HasKnown D (term_exp S ty t) × (needs_copy S.facts (typed ty t) ≡ false)
  group_value ty t (inl c) other = (place_known P S same p mentions free (typed ty t) c, kept_place (typed ty t) c)
  group_value ty t (inr c) other = given_group ty t c other

  -- what Is compares
  compared_known : (ty : Ty) (t : Term) → (is_nothing (typed ty t) ≡ true) ⊎ ((is_class_type ty && covers_group (uses_in P p mentions) (typed ty t)) ≡ true)
      → (covers_term (uses_in P p mentions) t ≡ true → HasKnown D (term_exp S ty t)) → HasKnown D (term_exp S ty t)
  compared_known ty t (inl c) other = nothing_known (typed ty t) c
  compared_known ty t (inr c) other =
      (group_value ty t
      (or_cases (covers_place_term (uses_in P p mentions) ty t) (covers_group_term (uses_in P p mentions) ty t)
      (both_true (is_class_type ty) (covers_group (uses_in P p mentions) (typed ty t)) c).1) other).0

  -- an argument by value
  value_given : (by_address : Bool) (ty : Ty) (t : Term) → (Covers (typed ty t)) ⊎ (covers_group (uses_in P p mentions) (typed ty t) ≡ true)
      → (covers_term (uses_in P p mentions) t ≡ true → HasKnown D (term_exp S ty t))
      → HasKnown D (argument_exp S by_address (by_value (typed ty t)) (term_exp S ty t))
  value_given by_address ty t (inl c) other =
      argument_known D S by_address (typed ty t) (no_copy S.facts ty (is_copied (typed ty t)) (covered_type (uses_in P p mentions) (typed ty t) c))
      (other (both_true (covers_type ty) (covers_term (uses_in P p mentions) t) c).1)
  value_given by_address ty t (inr c) other =
      let value = group_value ty t (or_cases (covers_place_term (uses_in P p mentions) ty t) (covers_group_term (uses_in P p mentions) ty t) c) other in
      argument_known D S by_address (typed ty t) value.1 value.0

  mutual
    pub expr_known : (e : Expr) → Covers e → HasKnown D (exp_of S e)
    expr_known (typed ty t) h = term_known ty t (both_true (covers_type ty) (covers_term (uses_in P p mentions) t) h).1

    pub term_known : (ty : Ty) (t : Term) → covers_term (uses_in P p mentions) t ≡ true → HasKnown D (term_exp S ty t)
    term_known ty (constant y origin) h = constant_known D (is_hexadecimal origin) y
    term_known ty (variable k q) h = use_known P S same free p mentions k q ty (inl (both_true (covers_use P p mentions k) (is_named_so P.declarations k q) h).0)
    term_known ty (element a indexes) h =
        let both = both_true (covers_array (uses_in P p mentions) a) (covers_exprs (uses_in P p mentions) indexes) h in
        known_append D (paths_of_exp (exp_of S a)) (paths_of_exps (indexes_of S a 0 indexes)) (array_known P S same free p mentions a both.0)
        (indexes_known D S a 0 indexes (args_known indexes both.1))
    term_known ty (field e k) h =
        let cover = uses_in P p mentions in
        scalar_known ty e k
        (or_cases (has_scalar cover (type_at e) k && covers_base cover e) (has_member cover (type_at e) k covers_type && covers_object cover e) h)
    term_known ty (library g args) h =
        library_by ty g args
        (or_cases (covers_library g && covers_exprs (uses_in P p mentions) args) (is_bound g && covers_bounded (uses_in P p mentions) args) h)
        (λ c. args_known args c)
    term_known ty err_number h = (λ s. (is_err_number D, refl), tt)
    term_known ty (unary o e) h =
        subst (λ (c : Bool). HasKnown D (cond c (variant_unary o (exp_of S e)) (typed_unary o ty (exp_of S e))))
        (sym (no_variant (type_at e) (covered_type (uses_in P p mentions) e h)))
        (unary_known D o ty (exp_of S e) (expr_known e h))
    term_known ty (binary o d e) h =
        let both = both_true (covers_operator o) (covers_expr (uses_in P p mentions) d && covers_expr (uses_in P p mentions) e) h in
        let sides = both_true (covers_expr (uses_in P p mentions) d) (covers_expr (uses_in P p mentions) e) both.1 in
        let c = is_product_in_currency o ty in
        subst
        (λ (t : Bool). HasKnown D (cond t (variant_operator o (exp_of S d) (exp_of S e))
        (typed_operator o (type_at d) ty (operand c d (exp_of S d)) (operand c e (exp_of S e)))))
        (sym (neither_variant (is_variant (type_at d)) (is_variant (type_at e))
        (no_variant (type_at d) (covered_type (uses_in P p mentions) d sides.0)) (no_variant (type_at e) (covered_type (uses_in P p mentions) e sides.1))))
        (operator_known D o (type_at d) ty (operand c d (exp_of S d)) (operand c e (exp_of S e))
        (operand_known D c d (exp_of S d) (expr_known d sides.0)) (operand_known D c e (exp_of S e) (expr_known e sides.1)))
    term_known ty (convert to e) h =
        converted_known D to e (exp_of S e) (expr_known e (both_true (covers_type to) (covers_expr (uses_in P p mentions) e) h).1)
    term_known ty (is_same (typed s t) (typed r u)) h =
        let cover = uses_in P p mentions in
        let both = both_true (covers_operand cover (typed s t)) (covers_operand cover (typed r u)) h in
        known_append D (paths_of_exp (term_exp S s t)) (paths_of_exp (term_exp S r u))
        (compared_known s t (or_cases (is_nothing (typed s t)) (is_class_type s && covers_group cover (typed s t)) both.0) (λ c. term_known s t c))
        (compared_known r u (or_cases (is_nothing (typed r u)) (is_class_type r && covers_group cover (typed r u)) both.1) (λ c. term_known r u c))
    term_known ty (call q qualified (of_object d) args) h =
        let cover = uses_in P p mentions in
        let gives = both_true (cover.gives q.0) (covers_object cover d && covers_passed cover args) h in
        let both = both_true (covers_object cover d) (covers_passed cover args) gives.1 in
        called_known_by D (is_bare S q.0 qualified (of_object d) args) (member_of d (exp_of S d) (procedure_name S.declarations q.0)) (passed_of S q.0 0 args)
        (behind_known P S same p mentions free d (procedure_name S.declarations q.0) both.0) (passed_known q.0 0 args both.1)
    term_known ty (call q qualified no_object args) h =
        call_known D (is_bare S q.0 qualified no_object args) (procedure_path S qualified q.0) (passed_of S q.0 0 args)
        (path_known P.declarations S same free qualified q.0)
        (passed_known q.0 0 args (both_true ((uses_in P p mentions).gives q.0) (covers_passed (uses_in P p mentions) args) h).1)
    term_known ty _ h = absurd (cc h)

    args_known : (args : Exprs) → covers_exprs (uses_in P p mentions) args ≡ true → AreKnown D (paths_of_exps (exps_of S args))
    args_known no_exprs h = tt
    args_known (next_expr e rest) h =
        let both = both_true (covers_expr (uses_in P p mentions) e) (covers_exprs (uses_in P p mentions) rest) h in
        known_append D (paths_of_exp (exp_of S e)) (paths_of_exps (exps_of S rest)) (expr_known e both.0) (args_known rest both.1)

    pub passed_known : (q i : ℕ) (args : Passed) → covers_passed (uses_in P p mentions) args ≡ true → AreKnown D (paths_of_exps (passed_of S q i args))
    passed_known q i no_passed h = tt
    passed_known q i (next_passed (by_reference e) rest) h =
        let cover = uses_in P p mentions in
        let both = both_true ((is_passable cover e && covers_expr cover e) || (covers_array cover e || covers_place cover e)) (covers_passed (uses_in P p mentions) rest) h in
        known_append D (paths_of_exp (argument_exp S (takes_reference S.declarations q i) (by_reference e) (exp_of S e)))
        (paths_of_exps (passed_of S q (suc i) rest))
        (given_known (takes_reference S.declarations q i) e
        (passed_cases cover e both.0) (λ c. expr_known e c))
        (passed_known q (suc i) rest both.1)
    passed_known q i (next_passed (by_value (typed ty t)) rest) h =
        let cover = uses_in P p mentions in
        let e : Expr = typed ty t in
        let both = both_true (covers_expr cover e || covers_group cover e) (covers_passed cover rest) h in
        known_append D (paths_of_exp (argument_exp S (takes_reference S.declarations q i) (by_value e) (exp_of S e)))
        (paths_of_exps (passed_of S q (suc i) rest))
        (value_given (takes_reference S.declarations q i) ty t (or_cases (covers_expr cover e) (covers_group cover e) both.0) (λ c. term_known ty t c))
        (passed_known q (suc i) rest both.1)

  pub group_known : (e : Expr) → covers_group (uses_in P p mentions) e ≡ true → HasKnown D (exp_of S e)
  group_known (typed ty t) h =
      (group_value ty t (or_cases (covers_place_term (uses_in P p mentions) ty t) (covers_group_term (uses_in P p mentions) ty t) h) (λ c. term_known ty t c)).0

  items_joined : (w : Exp) (es : List Expr) → list_all (covers_expr (uses_in P p mentions)) es ≡ true → HasKnown D w → HasKnown D (joined_items S w es)
  items_joined w [] h k = k
  items_joined w (e ∷ es) h k =
      let both = both_true (covers_expr (uses_in P p mentions) e) (list_all (covers_expr (uses_in P p mentions)) es) h in
      items_joined (net.binary op.Concat w (printed_item S e)) es both.1
      (known_append D (paths_of_exp w) (paths_of_exp (printed_item S e)) k (printed_known D (type_at e) (exp_of S e) (expr_known e both.0)))

  pub items_known : (es : List Expr) → list_all (covers_expr (uses_in P p mentions)) es ≡ true → HasKnown D (items_exp S es)
  items_known [] h = tt
  items_known (e ∷ es) h =
      let both = both_true (covers_expr (uses_in P p mentions) e) (list_all (covers_expr (uses_in P p mentions)) es) h in
      items_joined (printed_item S e) es both.1 (printed_known D (type_at e) (exp_of S e) (expr_known e both.0))
