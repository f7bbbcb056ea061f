-- The paths in what is written for covered assignments and Sets are known.
use Rattle.std.proofs.Common.{◌≡◌, ℕ, Bool, true, false, ◌&&◌, List, [], ◌∷◌, Option, sym, ap, subst, inl, inr}
use Rattle.std.specs.Prelude.{◌||◌, ◌⊎◌}
use Rattle.up_base.proofs.Lists.{both_true}
use Rattle.vb_tree.specs.BoundTree as types
use Rattle.vb_tree.specs.BoundTree.{Ty}
use Rattle.vb_tree.specs.declared.declared.ProcId.{ProcId}
use Rattle.vb_tree.specs.Tree as source
use Rattle.bound_tree.specs.declared.body.Mention.{Mention}
use Rattle.bound_tree.specs.Labels.{Label}
use Rattle.bound_tree.specs.Tree.{Declarations, Program, Expr, typed, call, Object, no_object, of_object, Passed}
use Rattle.bound_facts.specs.Node.{type_at}
use Rattle.net_tree.specs.Tree.{Exp}
use Rattle.net_tree.specs.Tree as net
use Rattle.written_trees.specs.Exprs.{exp_of, is_bare, member_of, passed_of, target_exp, term_exp}
use Rattle.written_trees.specs.Lines.{line_of, set_line}
use Rattle.written_trees.specs.Names.{Scope, procedure_name, procedure_path}
use Rattle.written_trees.specs.Facts.{holds_array}
use Rattle.written_trees.specs.Puts.{formed, order_shows, put_type, store_by, store_line, target_rank, user_copy}
use Rattle.run_matches.specs.CoveredVariables.{covers_user}
use Rattle.run_matches.specs.CoveredExprs.{is_changeable, covers_expr, uses_in, covers_passed, covers_receiver}
use Rattle.run_matches.specs.CoveredLines.{covers_copy, covers_property, covers_stored, is_member_ordered, is_ordered, covers_store, covers_set}
use Rattle.run_matches.specs.Covered.{covers_names}
use Rattle.run_matches.specs.UserTypes.{is_class_type, is_user}
use Rattle.correspondence.specs.Paths.{paths_of_exp, paths_of_line}
use Rattle.correspondence.proofs.CoveredLines.{type_covered}
use Rattle.correspondence.proofs.StoredValues.{IsValue, IsValueType, TakesValue, formed_plain, property_target, stored_plain, takes_value, target_type}
use Rattle.correspondence.proofs.GroupLines.{IsSettable, auto_target, copy_parts, covers_set_of, set_parts, set_target}
use Rattle.correspondence.proofs.Among.{or_cases}
use Rattle.correspondence.proofs.KnownPlaces.{behind_known, flat_type, object_known, place_flat, place_known}
use Rattle.correspondence.proofs.KnownArrays.{set_path_known, stored_known}
use Rattle.correspondence.proofs.KnownPaths.{AreKnown, HasKnown, known_append, path_known}
use Rattle.correspondence.proofs.KnownExprs.{call_known, called_known_by, expr_known, group_known, passed_known}

module _ (P : Program) (S : Scope) (same : S.declarations ≡ P.declarations) (free : covers_names P.declarations ≡ true)
    (flat : (t : ℕ) → covers_user P.declarations t ≡ true → S.facts.holds_array t ≡ false) (p : ℕ) (mentions : List Mention) where
  abbrev D : Declarations
  D = P.declarations

  -- a user type that is assigned isn't copied by a function
  copied_known : (shows : Bool) (rank : ℕ) (ty : Ty) (t a : Exp) → is_user ty ≡ true → holds_array S.facts ty ≡ false → HasKnown D t → HasKnown D a
      → AreKnown D (paths_of_line (store_by shows (put_type ty) t (formed S rank ty a)))
  copied_known shows rank (types.user u) t a h none k l =
      subst (λ (b : Bool). AreKnown D (paths_of_line (net.assign t (user_copy b u a)))) (sym none) (known_append D (paths_of_exp t) (paths_of_exp a) k l)
  copied_known shows rank _ t a h none k l = absurd (cc h)

  -- the use of a property
  used_known : (ty : Ty) (q : ProcId) (qualified : Bool) (of : Object) (args : Passed) → covers_receiver (uses_in P p mentions) of ≡ true
      → covers_passed (uses_in P p mentions) args ≡ true → HasKnown D (term_exp S ty (call q qualified of args))
  used_known ty q qualified no_object args h k =
      call_known D (is_bare S q.0 qualified no_object args) (procedure_path S qualified q.0) (passed_of S q.0 0 args)
      (path_known P.declarations S same free qualified q.0) (passed_known P S same free flat p mentions q.0 0 args k)
  used_known ty q qualified (of_object d) args h k =
      called_known_by D (is_bare S q.0 qualified (of_object d) args) (member_of d (exp_of S d) (procedure_name S.declarations q.0)) (passed_of S q.0 0 args)
      (behind_known P S same p mentions free d (procedure_name S.declarations q.0) h) (passed_known P S same free flat p mentions q.0 0 args k)

  taking_known : (to e : Expr) → TakesValue (uses_in P p mentions) to e → HasKnown D (exp_of S to)
  taking_known to e T = subst (λ (d : Expr). HasKnown D (exp_of S d)) (sym T.is_call) (used_known T.ty T.procedure T.qualified T.of T.args T.receiver T.passed)

  value_exp_known : (e : Expr) → IsValue P S same p mentions e → HasKnown D (exp_of S e)
  value_exp_known e (inl h) = expr_known P S same free flat p mentions e h
  value_exp_known e (inr h) = group_known P S same free flat p mentions e h

  object_stored : (shows : Bool) (rank : ℕ) (ty : Ty) (t a : Exp) → is_class_type ty ≡ true → HasKnown D t → HasKnown D a
      → AreKnown D (paths_of_line (store_by shows (put_type ty) t (formed S rank ty a)))
  object_stored shows rank (types.class c) t a h k l = known_append D (paths_of_exp t) (paths_of_exp a) k l
  object_stored shows rank _ t a h k l = absurd (cc h)

  -- what is stored in the form of its type
  formed_known : (shows : Bool) (rank : ℕ) (ty : Ty) (t a : Exp) → IsValueType P S same p mentions ty → HasKnown D t → HasKnown D a
      → AreKnown D (paths_of_line (store_by shows (put_type ty) t (formed S rank ty a)))
  formed_known shows rank ty t a (inl c) k l =
      subst (λ (x : Exp). AreKnown D (paths_of_line (store_by shows (put_type ty) t x))) (sym (formed_plain S rank ty a c)) (stored_known D shows ty t a c k l)
  formed_known shows rank ty t a (inr (inl u)) k l =
      copied_known shows rank ty t a (ap is_user u.1) (flat_type P S same p mentions flat ty (inl u)) k l
  formed_known shows rank ty t a (inr (inr c)) k l = object_stored shows rank ty t a c k l

  -- an assignment to a property
  property_known : (to e : Expr) → TakesValue (uses_in P p mentions) to e → AreKnown D (paths_of_line (store_line S to e))
  property_known to e T =
      formed_known (order_shows S.declarations to e) (target_rank S to) (type_at to) (exp_of S to) (exp_of S e)
      (subst (λ (d : Expr). IsValueType P S same p mentions (type_at d)) (sym T.is_call) (target_type P S same p mentions T.ty e T.same T.value))
      (taking_known to e T) (value_exp_known e T.value)

  pub store_known : (labels : List (Option Label)) (target value : source.Exp) (es : List Expr) → covers_store (uses_in P p mentions) es ≡ true
      → AreKnown D (paths_of_line (line_of S labels (source.assign target value) es))
  store_known labels target value [] h = absurd (cc h)
  store_known labels target value (to ∷ []) h = absurd (cc h)
  store_known labels target value (to ∷ e ∷ d ∷ es) h = absurd (cc h)
  store_known labels target value (to ∷ e ∷ []) h =
      elim (or_cases (covers_stored (uses_in P p mentions) to e) (covers_property (uses_in P p mentions) to e) h)
      [ inl c ↦ kept c | inr c ↦ property_known to e (takes_value (uses_in P p mentions) to e c) ]
    where
      by : (((is_changeable (uses_in P p mentions) to || (is_ordered (uses_in P p mentions) to e || is_member_ordered (uses_in P p mentions) to e))
          && (covers_expr (uses_in P p mentions) to && covers_expr (uses_in P p mentions) e)) ≡ true) ⊎ (covers_copy (uses_in P p mentions) to e ≡ true)
          → AreKnown D (paths_of_line (line_of S labels (source.assign target value) (to ∷ e ∷ [])))
      by (inl c) =
          let cover = uses_in P p mentions in
          let first = both_true (is_changeable cover to || (is_ordered cover to e || is_member_ordered cover to e)) (covers_expr cover to && covers_expr cover e) c in
          let both = both_true (covers_expr cover to) (covers_expr cover e) first.1 in
          let plain = type_covered P p mentions to both.0 in
          subst (λ (w : net.Line). AreKnown D (paths_of_line w)) (sym (stored_plain S to e plain))
          (stored_known D (order_shows S.declarations to e) (type_at to) (exp_of S to) (exp_of S e) plain
          (expr_known P S same free flat p mentions to both.0) (expr_known P S same free flat p mentions e both.1))
      by (inr c) =
          let places = copy_parts (uses_in P p mentions) to e c in
          copied_known (order_shows S.declarations to e) (target_rank S to) (type_at to) (exp_of S to) (exp_of S e) places.0
          (place_flat P S same p mentions flat to places.1) (place_known P S same p mentions free to places.1)
          (group_known P S same free flat p mentions e places.2)

      kept : covers_stored (uses_in P p mentions) to e ≡ true → AreKnown D (paths_of_line (line_of S labels (source.assign target value) (to ∷ e ∷ [])))
      kept c =
          let cover = uses_in P p mentions in
          let ordered : Bool = is_changeable cover to || (is_ordered cover to e || is_member_ordered cover to e) in
          by (or_cases (ordered && (covers_expr cover to && covers_expr cover e)) (covers_copy cover to e) c)

  target_known : (to : Expr) → is_class_type (type_at to) ≡ true → IsSettable (uses_in P p mentions) to → HasKnown D (target_exp S to)
  target_known to is (inl h) =
      subst (λ (t : Exp). HasKnown D t) (sym (set_target P S same p mentions to is (inl h))) (place_known P S same p mentions free to h)
  target_known (typed ty t) is (inr (inl h)) =
      subst (λ (a : Exp). HasKnown D a) (sym (set_target P S same p mentions (typed ty t) is (inr h))) (object_known P S same p mentions free ty t h.0)
  target_known to is (inr (inr h)) =
      let found = auto_target P S same p mentions to h in
      subst (λ (t : Exp). HasKnown D t) (sym found.written)
      (set_path_known P S same free p mentions found.root found.qualified found.root_variable found.covered, tt)

  pub set_known : (es : List Expr) → covers_set (uses_in P p mentions) es ≡ true → AreKnown D (paths_of_line (set_line S es))
  set_known [] h = absurd (cc h)
  set_known (to ∷ []) h = absurd (cc h)
  set_known (to ∷ e ∷ d ∷ es) h = absurd (cc h)
  set_known (to ∷ e ∷ []) h =
      elim (or_cases (covers_set_of (uses_in P p mentions) to e) (covers_property (uses_in P p mentions) to e) h)
      [ inl c ↦ kept c | inr c ↦ taken (takes_value (uses_in P p mentions) to e c) ]
    where
      kept : covers_set_of (uses_in P p mentions) to e ≡ true → AreKnown D (paths_of_line (set_line S (to ∷ e ∷ [])))
      kept c =
          let parts = set_parts (uses_in P p mentions) to e c in
          known_append D (paths_of_exp (target_exp S to)) (paths_of_exp (exp_of S e))
          (target_known to parts.0 parts.1)
          (group_known P S same free flat p mentions e parts.2)

      taken : TakesValue (uses_in P p mentions) to e → AreKnown D (paths_of_line (set_line S (to ∷ e ∷ [])))
      taken T =
          known_append D (paths_of_exp (target_exp S to)) (paths_of_exp (exp_of S e))
          (subst (λ (t : Exp). HasKnown D t) (sym (property_target S (uses_in P p mentions) to e T)) (taking_known to e T))
          (value_exp_known e T.value)
