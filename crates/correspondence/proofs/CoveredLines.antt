-- Covered lines that no rule replaces name their variables as often as the source uses them.
use Rattle.std.proofs.Common.{◌≡◌, ℕ, ◌+◌, true, false, ◌&&◌, List, [], ◌∷◌, Option, Some, None, refl, sym, ap, ◌∙◌, subst, arith, Bool, nat_eq, map, inl, inr}
use Rattle.std.specs.List.{flat_map, list_all, list_any}
use Rattle.std.specs.Prelude.{◌||◌, ◌⊎◌, option_to_list, slice_get}
use Rattle.up_base.proofs.Lists.{both_true}
use Rattle.vb_tree.specs.BoundTree as types
use Rattle.vb_tree.specs.BoundTree.{Ty}
use Rattle.vb_tree.specs.Tree.{CaseItem, Form, ReDimItem}
use Rattle.vb_tree.specs.Tree as source
use Rattle.bound_tree.specs.declared.body.Mention.{Mention}
use Rattle.bound_tree.specs.Labels.{Label}
use Rattle.bound_tree.specs.Tree.{Program, Expr, typed, Line, Term, library, Exprs, no_exprs, next_expr, Declarations, call, Passed, err_raise, err_clear, Object}
use Rattle.vb_tree.specs.declared.bound.LibCall.{LibCall}
use Rattle.vb_tree.specs.declared.bound.LibCall.TheVariants as lib
use Rattle.bound_facts.specs.Locks.{is_same_type}
use Rattle.vb_tree.specs.declared.declared.ProcId.{ProcId}
use Rattle.bound_facts.specs.Node.{declared_at, type_at}
use Rattle.bound_facts.specs.Nodes.{nodes, nodes_in}
use Rattle.bound_facts.specs.Parts.{resizes}
use Rattle.net_tree.specs.Tree.{Exp}
use Rattle.net_tree.specs.Tree as net
use Rattle.written_trees.specs.Exprs.{called, exp_of, is_bare, passed_of, callee_of, target_exp}
use Rattle.written_trees.specs.Lines.{as_call, case_items, empty_extents, first_exp, items_exp, line_of, resized_array, step_exp, call_line}
use Rattle.written_trees.specs.Names.{Scope, Path, module_name, support}
use Rattle.written_trees.specs.Puts.{order_shows, put_type, rank_of, store_by, stored_value, target_rank}
use Rattle.written_trees.specs.Types.{element_type, written_type}
use Rattle.run_matches.specs.CoveredVariables.{covers_type, is_reached}
use Rattle.run_matches.specs.UserTypes.{is_class_type, is_group_type}
use Rattle.run_matches.specs.CoveredExprs.{Uses, covers_group, covers_object, covers_place, is_changeable, covers_expr, covers_term, covers_value, is_variable, covers_library, covers_exprs, uses_in, is_bound, covers_bounded}
use Rattle.run_matches.specs.CoveredLines.{covers_copy, covers_property, covers_stored, is_member_ordered, is_ordered, covers_condition, covers_counter, covers_counting, covers_items, covers_step, covers_store, covers_form, covers_line, is_comparison, is_counter, covers_box, covers_call, covers_called_in, is_box, covers_erased, covers_resizes, covers_set, covers_with}
use Rattle.run_matches.specs.Formed.{is_formed, is_row_of_call, are_formed}
use Rattle.correspondence.specs.Uses.{stands_outside, redim_exps, resize_exprs, FormCorresponds, SameUses, case_exps, names, total, uses, CallCorresponds, IsAlone, IsFirst, IsSharedAlone, is_call_in, is_call_of, is_group_named, path_names, shared_names}
use Rattle.correspondence.proofs.NamedCalls.{callee_called, neither, none_of_both}
use Rattle.correspondence.proofs.Among.{or_cases}
use Rattle.correspondence.proofs.NamedArrays.{IsRight}
use Rattle.correspondence.proofs.Resizes.{erased_names, resizes_all, resizes_names}
use Rattle.correspondence.proofs.Naming.{expr_names, items_names, assigned_names, box_names, copied_names, raised_names, term_names, group_names}
use Rattle.correspondence.proofs.GroupLines.{IsSettable, auto_target, copy_parts, covers_set_of, set_parts, set_target, with_parts}
use Rattle.correspondence.proofs.Objects.{object_counted}
use Rattle.correspondence.proofs.Places.{place_names}
use Rattle.correspondence.proofs.PropertyNames.{taken_names}
use Rattle.correspondence.proofs.StoredValues.{IsValueType, TakesValue, copied_value, formed_names, property_target, stored_plain, taken_formed, takes_value, target_type}
use Rattle.correspondence.proofs.Rights.{any_either, is_shared_test, own_right, shared_right}

no_bound : (g : LibCall) → is_box g ≡ true → is_bound g ≡ true → ⊥
no_bound lib.MsgBox h k = absurd (cc k)
no_bound _ h k = absurd (cc h)

pub type_covered : (P : Program) (p : ℕ) (mentions : List Mention) (e : Expr) → covers_expr (uses_in P p mentions) e ≡ true → covers_type (type_at e) ≡ true
type_covered P p mentions (typed ty t) h = (both_true (covers_type ty) (covers_term (uses_in P p mentions) t) h).0

abbrev is_stored : Uses → (to e : Expr) → Bool
is_stored cover to e = is_changeable cover to || (is_ordered cover to e || is_member_ordered cover to e)

module _ (P : Program) (S : Scope) (same : S.declarations ≡ P.declarations) (p : ℕ) (labels : List (Option Label)) (mentions : List Mention) where
  -- what holds of any count that is right
  abbrev Counts : List Expr → List Exp → Type 0
  Counts es ws =
      (v : ℕ) (count : Path → ℕ) (test : Expr → Bool) → IsRight P S p mentions v count test → list_any test (flat_map nodes es) ≡ false
      → total (uses v) es ≡ total (names count) ws

  pub same_uses : (es : List Expr) (ws : List Exp) → Counts es ws → SameUses S p es ws
  same_uses es ws each = record {
    own = λ v x at own alone first free.
        let here : slice_get P.declarations.vars v ≡ Some x = ap (λ (d : Declarations). slice_get d.vars v) (sym same) ∙ at in
        let apart : IsAlone P.declarations p v x = subst (λ (d : Declarations). IsAlone d p v x) same alone in
        let leads : IsFirst P.declarations x = subst (λ (d : Declarations). IsFirst d x) same first in
        each v (path_names (is_group_type x.ty) x.name) (is_call_of S.declarations x.name) (own_right P S same p v x here own apart leads mentions) free;
    shared = λ v x file at of outside reached alone first free others.
        let out : stands_outside P.declarations (slice_get P.declarations.procs p) ≡ true =
        subst (λ (d : Declarations). stands_outside d (slice_get d.procs p) ≡ true) same outside in
        let here : slice_get P.declarations.vars v ≡ Some x = ap (λ (d : Declarations). slice_get d.vars v) (sym same) ∙ at in
        let there : is_reached P.declarations p v x.name x.owner ≡ true = subst (λ (d : Declarations). is_reached d p v x.name x.owner ≡ true) same reached in
        let apart : IsSharedAlone P.declarations v file x = subst (λ (d : Declarations). IsSharedAlone d v file x) same alone in
        let leads : IsFirst P.declarations x = subst (λ (d : Declarations). IsFirst d x) same first in
        subst (λ (d : Declarations). total (uses v) es ≡ total (names (shared_names (is_group_type x.ty) (nat_eq S.file file) (module_name d file) x.name)) ws) (sym same)
        (each v (shared_names (is_group_type x.ty) (nat_eq S.file file) (module_name P.declarations file) x.name)
        (is_shared_test P file x) (shared_right P S same p v x file here of out there apart leads mentions)
        (any_either (is_call_in P.declarations (module_name P.declarations file) x.name) (is_group_named P.declarations (module_name P.declarations file)) (flat_map nodes es)
        (subst (λ (d : Declarations). list_any (is_call_in d (module_name d file) x.name) (flat_map nodes es) ≡ false) same free)
        (subst (λ (d : Declarations). list_any (is_group_named d (module_name d file)) (flat_map nodes es) ≡ false) same others)));
  }

  abbrev IsCall : List Expr → Type 0
  IsCall es = CallCorresponds S p es (call_line S es)

  stored : (target value : source.Exp) (es : List Expr) (shows : Bool) (o : Option (List ℕ)) (t a : Exp) → SameUses S p es (t ∷ a ∷ [])
      → FormCorresponds S p (source.assign target value) es (store_by shows o t a)
  stored target value es shows None t a h = h
  stored target value es true (Some ty) t a h = (ty, t, a, refl, refl, h)
  stored target value es false (Some ty) t a h = h

  last_formed : (to e : Expr) → list_all is_formed (to ∷ e ∷ []) ≡ true → is_formed e ≡ true
  last_formed to e f = (both_true (is_formed e) true (both_true (is_formed to) (list_all is_formed (e ∷ [])) f).1).0

  first_formed : (to e : Expr) → list_all is_formed (to ∷ e ∷ []) ≡ true → is_formed to ≡ true
  first_formed to e f = (both_true (is_formed to) (list_all is_formed (e ∷ [])) f).0

  -- a property and what is written for the value that it takes
  property_uses : (to e : Expr) → (T : TakesValue (uses_in P p mentions) to e) → is_formed to ≡ true → is_formed e ≡ true → (a : Exp)
      → ((count : Path → ℕ) → ((name : List ℕ) → count (support name) ≡ 0) → names count a ≡ names count (exp_of S e))
      → SameUses S p (to ∷ e ∷ []) (exp_of S to ∷ a ∷ [])
  property_uses to e T f_to f a is =
      subst (λ (d : Expr). SameUses S p (d ∷ e ∷ []) (exp_of S d ∷ a ∷ [])) (sym T.is_call)
      (same_uses (typed T.ty (call T.procedure T.qualified T.of T.args) ∷ e ∷ [])
      (exp_of S (typed T.ty (call T.procedure T.qualified T.of T.args)) ∷ a ∷ [])
      (λ v count test right free. taken_names P S same p v count test mentions right T.ty T.procedure T.qualified T.of T.args e T.receiver
      (T.passed, taken_formed (uses_in P p mentions) to e T f_to) T.value f free a
      (is count right.no_support)))

  -- an assignment to a property
  property_stored : (target value : source.Exp) (to e : Expr) → covers_property (uses_in P p mentions) to e ≡ true → is_formed to ≡ true
      → is_formed e ≡ true → FormCorresponds S p (source.assign target value) (to ∷ e ∷ []) (line_of S labels (source.assign target value) (to ∷ e ∷ []))
  property_stored target value to e h f_to f =
      let T : TakesValue (uses_in P p mentions) to e = takes_value (uses_in P p mentions) to e h in
      let whole = target_type P S same p mentions T.ty e T.same T.value in
      let whole_at = subst (λ (d : Expr). IsValueType P S same p mentions (type_at d)) (sym T.is_call) whole in
      stored target value (to ∷ e ∷ []) (order_shows S.declarations to e) (put_type (type_at to)) (exp_of S to) (stored_value S to e)
      (property_uses to e T f_to f (stored_value S to e)
      (λ count no_support. formed_names P S same p mentions count no_support (target_rank S to) (type_at to) (exp_of S e) whole_at))

  assigned : (target value : source.Exp) (es : List Expr) → covers_store (uses_in P p mentions) es ≡ true → list_all is_formed es ≡ true
      → FormCorresponds S p (source.assign target value) es (line_of S labels (source.assign target value) es)
  assigned target value [] h f = absurd (cc h)
  assigned target value (to ∷ []) h f = absurd (cc h)
  assigned target value (to ∷ e ∷ d ∷ es) h f = absurd (cc h)
  assigned target value (to ∷ e ∷ []) h f =
      elim (or_cases (covers_stored (uses_in P p mentions) to e) (covers_property (uses_in P p mentions) to e) h)
      [ inl c ↦ kept c | inr c ↦ property_stored target value to e c (first_formed to e f) (last_formed to e f) ]
    where
      scalar : (covers_expr (uses_in P p mentions) to && covers_expr (uses_in P p mentions) e) ≡ true
          → FormCorresponds S p (source.assign target value) (to ∷ e ∷ []) (line_of S labels (source.assign target value) (to ∷ e ∷ []))
      scalar c =
          let both = both_true (covers_expr (uses_in P p mentions) to) (covers_expr (uses_in P p mentions) e) c in
          let forms = both_true (is_formed to) (list_all is_formed (e ∷ [])) f in
          let form = both_true (is_formed e) true forms.1 in
          subst (FormCorresponds S p (source.assign target value) (to ∷ e ∷ [])) (sym (stored_plain S to e (type_covered P p mentions to both.0)))
          (stored target value (to ∷ e ∷ []) (order_shows S.declarations to e) (put_type (type_at to)) (exp_of S to) (exp_of S e)
          (same_uses (to ∷ e ∷ []) (exp_of S to ∷ exp_of S e ∷ [])
          (λ v count test right free. assigned_names P S same p v count test mentions right to e both.0 both.1 forms.0 form.0 free)))

      by : ((is_stored (uses_in P p mentions) to e && (covers_expr (uses_in P p mentions) to && covers_expr (uses_in P p mentions) e)) ≡ true)
          ⊎ (covers_copy (uses_in P p mentions) to e ≡ true)
          → FormCorresponds S p (source.assign target value) (to ∷ e ∷ []) (line_of S labels (source.assign target value) (to ∷ e ∷ []))
      by (inl c) =
          scalar
          (both_true (is_stored (uses_in P p mentions) to e) (covers_expr (uses_in P p mentions) to && covers_expr (uses_in P p mentions) e) c).1
      by (inr c) =
          let places = copy_parts (uses_in P p mentions) to e c in
          let forms = both_true (is_formed to) (list_all is_formed (e ∷ [])) f in
          let form = both_true (is_formed e) true forms.1 in
          stored target value (to ∷ e ∷ []) (order_shows S.declarations to e) (put_type (type_at to)) (exp_of S to) (stored_value S to e)
          (same_uses (to ∷ e ∷ []) (exp_of S to ∷ stored_value S to e ∷ [])
          (λ v count test right free. copied_names P S same p v count test mentions right to e places.1 places.2 form.0 free (stored_value S to e)
          (copied_value S count right.no_support (target_rank S to) (type_at to) (exp_of S e) places.0)))

      kept : covers_stored (uses_in P p mentions) to e ≡ true
          → FormCorresponds S p (source.assign target value) (to ∷ e ∷ []) (line_of S labels (source.assign target value) (to ∷ e ∷ []))
      kept c =
          let cover = uses_in P p mentions in
          by (or_cases (is_stored cover to e && (covers_expr cover to && covers_expr cover e)) (covers_copy cover to e) c)

  -- what is set
  target_names : (v : ℕ) (count : Path → ℕ) (test : Expr → Bool) (right : IsRight P S p mentions v count test) (to : Expr) → is_class_type (type_at to) ≡ true
      → IsSettable (uses_in P p mentions) to → list_any test (nodes to) ≡ false → uses v to ≡ names count (target_exp S to)
  target_names v count test right to is (inl h) free =
      place_names P S same p mentions v count test right to h free ∙ sym (ap (names count) (set_target P S same p mentions to is (inl h)))
  target_names v count test right (typed ty t) is (inr (inl h)) free =
      object_counted P S same p mentions v count test right ty t h.0 free []
      ∙ sym (ap (names count) (set_target P S same p mentions (typed ty t) is (inr h)))
  target_names v count test right to is (inr (inr h)) free =
      let found = auto_target P S same p mentions to h in
      subst (λ (d : Expr). uses v d ≡ names count (exp_of S d)) (sym found.is_use)
      (right.used found.root found.qualified found.root_type (inr (inr (inr (found.root_type, found.covers)))))
      ∙ found.counted count right.no_support

  set_names : (v : ℕ) (count : Path → ℕ) (test : Expr → Bool) (right : IsRight P S p mentions v count test) (to e : Expr)
      → is_class_type (type_at to) ≡ true → IsSettable (uses_in P p mentions) to → covers_group (uses_in P p mentions) e ≡ true → is_formed e ≡ true
      → list_any test (flat_map nodes (to ∷ e ∷ [])) ≡ false → total (uses v) (to ∷ e ∷ []) ≡ total (names count) (target_exp S to ∷ exp_of S e ∷ [])
  set_names v count test right to e is h k f free =
      let parted = none_of_both test (nodes to) (flat_map nodes (e ∷ [])) free in
      let last = none_of_both test (nodes e) [] parted.1 in
      let left = target_names v count test right to is h parted.0 in
      let value = group_names P S same p v count test mentions right e k f last.0 in
      omega (arith, left, value)

  -- a Set
  set_corresponds : (target value : source.Exp) (es : List Expr) → covers_set (uses_in P p mentions) es ≡ true → list_all is_formed es ≡ true
      → FormCorresponds S p (source.set target value) es (line_of S labels (source.set target value) es)
  set_corresponds target value [] h f = absurd (cc h)
  set_corresponds target value (to ∷ []) h f = absurd (cc h)
  set_corresponds target value (to ∷ e ∷ d ∷ es) h f = absurd (cc h)
  set_corresponds target value (to ∷ e ∷ []) h f =
      elim (or_cases (covers_set_of (uses_in P p mentions) to e) (covers_property (uses_in P p mentions) to e) h)
      [ inl c ↦ kept c | inr c ↦ property (takes_value (uses_in P p mentions) to e c) ]
    where
      form : is_formed e ≡ true
      form = last_formed to e f

      kept : covers_set_of (uses_in P p mentions) to e ≡ true → SameUses S p (to ∷ e ∷ []) (target_exp S to ∷ exp_of S e ∷ [])
      kept c =
          let parts = set_parts (uses_in P p mentions) to e c in
          same_uses (to ∷ e ∷ []) (target_exp S to ∷ exp_of S e ∷ [])
          (λ v count test right free. set_names v count test right to e parts.0 parts.1 parts.2 form free)

      property : TakesValue (uses_in P p mentions) to e → SameUses S p (to ∷ e ∷ []) (target_exp S to ∷ exp_of S e ∷ [])
      property T =
          subst (λ (t : Exp). SameUses S p (to ∷ e ∷ []) (t ∷ exp_of S e ∷ [])) (sym (property_target S (uses_in P p mentions) to e T))
          (property_uses to e T (first_formed to e f) form (exp_of S e) (λ count no_support. refl))

  resized : (preserve : Bool) (items : List ReDimItem) (es : List Expr) → covers_resizes (uses_in P p mentions) preserve (resizes items es) ≡ true
      → list_all is_formed es ≡ true → FormCorresponds S p (source.redim preserve items) es (line_of S labels (source.redim preserve items) es)
  resized preserve items es h f = (
    refl,
    same_uses (flat_map resize_exprs (resizes items es)) (flat_map redim_exps (map (resized_array S) (resizes items es)))
        (λ v count test right free. resizes_names P S same p v count test mentions right preserve (resizes items es) h (resizes_all is_formed items es f) free),
  )

  erased : (array : source.Exp) (es : List Expr) → covers_erased (uses_in P p mentions) es ≡ true
      → FormCorresponds S p (source.erase array) es (line_of S labels (source.erase array) es)
  erased array [] h = absurd (cc h)
  erased array (e ∷ []) h =
      let ty = written_type S (element_type (type_at e)) in
      let rank = rank_of S.facts (declared_at S.declarations e) in
      same_uses (e ∷ []) (exp_of S e ∷ net.new_array ty (empty_extents rank) ∷ [])
      (λ v count test right free. erased_names P S same p v count test mentions right e ty rank h)
  erased array (d ∷ e ∷ es) h = absurd (cc h)

  condition_uses : (es : List Expr) → covers_condition (uses_in P p mentions) es ≡ true → list_all is_formed es ≡ true
      → Counts es (first_exp S es ∷ [])
  condition_uses [] h f v count test right free = absurd (cc h)
  condition_uses (e ∷ []) h f v count test right free =
      ap {B = ℕ} (λ n. n + 0) (expr_names P S same p v count test mentions right e h (both_true (is_formed e) true f).0 (none_of_both test (nodes e) [] free).0)
  condition_uses (e ∷ d ∷ es) h f v count test right free = absurd (cc h)

  -- what a With keeps
  with_uses : (es : List Expr) → covers_with (uses_in P p mentions) es ≡ true → list_all is_formed es ≡ true → Counts es (first_exp S es ∷ [])
  with_uses [] h f v count test right free = absurd (cc h)
  with_uses (typed ty t ∷ []) h f v count test right free = ap {B = ℕ} (λ n. n + 0) (by (with_parts (uses_in P p mentions) (typed ty t) h))
    where
      none : list_any test (nodes (typed ty t)) ≡ false
      none = (none_of_both test (nodes (typed ty t)) [] free).0

      by : (covers_place (uses_in P p mentions) (typed ty t) ≡ true)
          ⊎ ((covers_object (uses_in P p mentions) (typed ty t) ≡ true) ⊎ (covers_group (uses_in P p mentions) (typed ty t) ≡ true))
          → uses v (typed ty t) ≡ names count (exp_of S (typed ty t))
      by (inl c) = place_names P S same p mentions v count test right (typed ty t) c none
      by (inr (inl c)) = object_counted P S same p mentions v count test right ty t c none []
      by (inr (inr c)) = group_names P S same p v count test mentions right (typed ty t) c (both_true (is_formed (typed ty t)) true f).0 none
  with_uses (e ∷ d ∷ es) h f v count test right free = absurd (cc h)

  items_use : (items : List CaseItem) (es : List Expr) → covers_items (uses_in P p mentions) items es ≡ true → list_all is_formed es ≡ true
      → Counts es (flat_map case_exps (case_items S items es))
  items_use [] [] h f v count test right free = refl
  items_use [] (e ∷ es) h f v count test right free = absurd (cc h)
  items_use (source.case_value y ∷ items) [] h f v count test right free = absurd (cc h)
  items_use (source.case_value y ∷ items) (e ∷ es) h f v count test right free =
      let cover = uses_in P p mentions in
      let a = both_true (covers_expr cover e) (covers_items cover items es) h in
      let b = both_true (is_formed e) (list_all is_formed es) f in
      let parted = none_of_both test (nodes e) (flat_map nodes es) free in
      let one = expr_names P S same p v count test mentions right e a.0 b.0 parted.0 in
      let more = items_use items es a.1 b.1 v count test right parted.1 in
      omega (arith, one, more)
  items_use (source.case_range y z ∷ items) [] h f v count test right free = absurd (cc h)
  items_use (source.case_range y z ∷ items) (d ∷ []) h f v count test right free = absurd (cc h)
  items_use (source.case_range y z ∷ items) (d ∷ e ∷ es) h f v count test right free =
      let cover = uses_in P p mentions in
      let a = both_true (covers_expr cover d) (covers_expr cover e && covers_items cover items es) h in
      let c = both_true (covers_expr cover e) (covers_items cover items es) a.1 in
      let b = both_true (is_formed d) (list_all is_formed (e ∷ es)) f in
      let g = both_true (is_formed e) (list_all is_formed es) b.1 in
      let parted = none_of_both test (nodes d) (flat_map nodes (e ∷ es)) free in
      let others = none_of_both test (nodes e) (flat_map nodes es) parted.1 in
      let low = expr_names P S same p v count test mentions right d a.0 b.0 parted.0 in
      let high = expr_names P S same p v count test mentions right e c.0 g.0 others.0 in
      let more = items_use items es c.1 g.1 v count test right others.1 in
      omega (arith, low, high, more)
  items_use (source.case_is o y ∷ items) [] h f v count test right free = absurd (cc h)
  items_use (source.case_is o y ∷ items) (e ∷ es) h f v count test right free =
      let cover = uses_in P p mentions in
      let k = both_true (is_comparison o) (covers_expr cover e && covers_items cover items es) h in
      let a = both_true (covers_expr cover e) (covers_items cover items es) k.1 in
      let b = both_true (is_formed e) (list_all is_formed es) f in
      let parted = none_of_both test (nodes e) (flat_map nodes es) free in
      let one = expr_names P S same p v count test mentions right e a.0 b.0 parted.0 in
      let more = items_use items es a.1 b.1 v count test right parted.1 in
      omega (arith, one, more)

  counted_use : (e start limit : Expr) (steps : List Expr) → covers_counting (uses_in P p mentions) (e ∷ start ∷ limit ∷ steps) ≡ true
      → list_all is_formed (e ∷ start ∷ limit ∷ steps) ≡ true
      → Counts (e ∷ start ∷ limit ∷ steps) (exp_of S e ∷ exp_of S start ∷ exp_of S limit ∷ option_to_list (step_exp S steps))
  counted_use e start limit steps h f v count test right free =
      let cover = uses_in P p mentions in
      let ty = type_at e in
      let a = both_true (covers_counter cover e) (covers_value cover ty start && (covers_value cover ty limit && covers_step cover ty steps)) h in
      let d = both_true (is_variable e) (is_counter ty && covers_expr cover e) a.0 in
      let g = both_true (is_counter ty) (covers_expr cover e) d.1 in
      let i = both_true (covers_value cover ty start) (covers_value cover ty limit && covers_step cover ty steps) a.1 in
      let j = both_true (covers_value cover ty limit) (covers_step cover ty steps) i.1 in
      let k = both_true (is_formed e) (list_all is_formed (start ∷ limit ∷ steps)) f in
      let l = both_true (is_formed start) (list_all is_formed (limit ∷ steps)) k.1 in
      let m = both_true (is_formed limit) (list_all is_formed steps) l.1 in
      let first_parts = none_of_both test (nodes e) (flat_map nodes (start ∷ limit ∷ steps)) free in
      let start_parts = none_of_both test (nodes start) (flat_map nodes (limit ∷ steps)) first_parts.1 in
      let limit_parts = none_of_both test (nodes limit) (flat_map nodes steps) start_parts.1 in
      let counted = expr_names P S same p v count test mentions right e g.1 k.0 first_parts.0 in
      let first =
      expr_names P S same p v count test mentions right start (both_true (is_same_type ty (type_at start)) (covers_expr cover start) i.0).1 l.0 start_parts.0 in
      let last =
      expr_names P S same p v count test mentions right limit (both_true (is_same_type ty (type_at limit)) (covers_expr cover limit) j.0).1 m.0 limit_parts.0 in
      let pace = by_step steps j.1 m.1 limit_parts.1 in
      omega (arith, counted, first, last, pace)
    where
      by_step : (ss : List Expr) → covers_step (uses_in P p mentions) (type_at e) ss ≡ true → list_all is_formed ss ≡ true
          → list_any test (flat_map nodes ss) ≡ false → total (uses v) ss ≡ total (names count) (option_to_list (step_exp S ss))
      by_step [] c g n = refl
      by_step (s ∷ []) c g n =
          let one =
          expr_names P S same p v count test mentions right s (both_true (is_same_type (type_at e) (type_at s)) (covers_expr (uses_in P p mentions) s) c).1
          (both_true (is_formed s) true g).0 (none_of_both test (nodes s) [] n).0 in
          omega (arith, one)
      by_step (s ∷ d ∷ ss) c g n = absurd (cc c)

  counting_uses : (counter from to : source.Exp) (by : Option source.Exp) (es : List Expr) → covers_counting (uses_in P p mentions) es ≡ true
      → list_all is_formed es ≡ true
      → FormCorresponds S p (source.for_head counter from to by) es (line_of S labels (source.for_head counter from to by) es)
  counting_uses counter from to by [] h f = absurd (cc h)
  counting_uses counter from to by (e ∷ []) h f = absurd (cc h)
  counting_uses counter from to by (e ∷ d ∷ []) h f = absurd (cc h)
  counting_uses counter from to by (e ∷ start ∷ limit ∷ steps) h f =
      same_uses (e ∷ start ∷ limit ∷ steps) (exp_of S e ∷ exp_of S start ∷ exp_of S limit ∷ option_to_list (step_exp S steps)) (counted_use e start limit steps h f)

  boxed : (ty : Ty) (g : LibCall) (args : Exprs) → is_box g ≡ true → covers_exprs (uses_in P p mentions) args ≡ true
      → is_formed (typed ty (library g args)) ≡ true → IsCall (typed ty (library g args) ∷ [])
  boxed ty lib.MsgBox no_exprs box h f =
      let call = both_true (is_same_type types.nothing ty && false) true f in
      absurd (cc (both_true (is_same_type types.nothing ty) false call.0).1)
  boxed ty lib.MsgBox (next_expr e (next_expr d rest)) box h f =
      let call = both_true (is_same_type types.nothing ty && (is_same_type (type_at e) types.str && false)) (are_formed (next_expr e (next_expr d rest))) f in
      let given = both_true (is_same_type types.nothing ty) (is_same_type (type_at e) types.str && false) call.0 in
      absurd (cc (both_true (is_same_type (type_at e) types.str) false given.1).1)
  boxed ty lib.MsgBox (next_expr e no_exprs) box h f =
      let both = both_true (covers_expr (uses_in P p mentions) e) true h in
      let forms = both_true (is_row_of_call lib.MsgBox (type_at e ∷ []) ty) (is_formed e && true) f in
      let form = both_true (is_formed e) true forms.1 in (
        exp_of S e,
        refl,
        refl,
        same_uses (typed ty (library lib.MsgBox (next_expr e no_exprs)) ∷ []) (exp_of S e ∷ [])
            (λ v count test right free. box_names P S same p v count test mentions right ty e both.0 form.0 free),
      )
  boxed ty _ args box h f = absurd (cc box)

  shown : (ty : Ty) (t : Term) → covers_box (uses_in P p mentions) t ≡ true → is_formed (typed ty t) ≡ true → IsCall (typed ty t ∷ [])
  shown ty (library g args) h f =
      let both = both_true (is_box g) (covers_term (uses_in P p mentions) (library g args)) h in
      by both.0 (or_cases (covers_library g && covers_exprs (uses_in P p mentions) args) (is_bound g && covers_bounded (uses_in P p mentions) args) both.1)
    where
      by : is_box g ≡ true
          → (covers_library g && covers_exprs (uses_in P p mentions) args ≡ true) ⊎ (is_bound g && covers_bounded (uses_in P p mentions) args ≡ true)
          → IsCall (typed ty (library g args) ∷ [])
      by b (inl c) = boxed ty g args b (both_true (covers_library g) (covers_exprs (uses_in P p mentions) args) c).1 f
      by b (inr c) = absurd (no_bound g b (both_true (is_bound g) (covers_bounded (uses_in P p mentions) args) c).0)
  shown ty _ h f = absurd (cc h)

  -- a call of a procedure
  called_one : (ty : Ty) (q : ProcId) (qualified : Bool) (of : Object) (args : Passed) → covers_term (uses_in P p mentions) (call q qualified of args) ≡ true
      → is_formed (typed ty (call q qualified of args)) ≡ true → IsCall (typed ty (call q qualified of args) ∷ [])
  called_one ty q qualified of args h f = by (is_bare S q.0 qualified of args) counted
    where
      counted : Counts (typed ty (call q qualified of args) ∷ []) (called (is_bare S q.0 qualified of args) (callee_of S q.0 qualified of) (passed_of S q.0 0 args) ∷ [])
      counted v count test right free =
          let whole = none_of_both test (nodes (typed ty (call q qualified of args))) [] free in
          let own = neither (test (typed ty (call q qualified of args))) (list_any test (nodes_in (call q qualified of args))) whole.0 in
          ap {B = ℕ} (λ n. n + 0) (term_names P S same p v count test mentions right ty (call q qualified of args) h f own.0 own.1)

      by : (b : Bool) → Counts (typed ty (call q qualified of args) ∷ []) (called b (callee_of S q.0 qualified of) (passed_of S q.0 0 args) ∷ [])
          → CallCorresponds S p (typed ty (call q qualified of args) ∷ []) (as_call (called b (callee_of S q.0 qualified of) (passed_of S q.0 0 args)))
      by true n =
          subst (λ (w : net.Line). CallCorresponds S p (typed ty (call q qualified of args) ∷ []) w) (sym (callee_called S q.0 qualified of))
          (same_uses (typed ty (call q qualified of args) ∷ []) (net.call_of (callee_of S q.0 qualified of) net.no_exps ∷ [])
          (λ v count test right free. let m = n v count test right free in omega (arith, m)))
      by false n = same_uses (typed ty (call q qualified of args) ∷ []) (net.call_of (callee_of S q.0 qualified of) (passed_of S q.0 0 args) ∷ []) n

  called_in : (ty : Ty) (t : Term) → covers_called_in (uses_in P p mentions) t ≡ true → is_formed (typed ty t) ≡ true → IsCall (typed ty t ∷ [])
  called_in ty (call q qualified of args) h f = called_one ty q qualified of args h f
  called_in ty (library g args) h f = shown ty (library g args) h f
  called_in ty (err_raise e) h f =
      let form = both_true (is_same_type (type_at e) types.long) (is_formed e) f in (
        exp_of S e,
        refl,
        refl,
        same_uses (typed ty (err_raise e) ∷ []) (exp_of S e ∷ [])
            (λ v count test right free. raised_names P S same p v count test mentions right ty e h form.1 free),
      )
  called_in ty err_clear h f = (refl, refl)
  called_in ty _ h f = absurd (cc h)

  called_line : (es : List Expr) → covers_call (uses_in P p mentions) es ≡ true → list_all is_formed es ≡ true → IsCall es
  called_line [] h f = absurd (cc h)
  called_line (typed ty t ∷ []) h f = called_in ty t h (both_true (is_formed (typed ty t)) true f).0
  called_line (d ∷ e ∷ es) h f = absurd (cc h)

  form_corresponds : (f : Form) (es : List Expr) → covers_form (uses_in P p mentions) f es ≡ true → list_all is_formed es ≡ true
      → FormCorresponds S p f es (line_of S labels f es)
  form_corresponds (source.assign target value) es h f = assigned target value es h f
  form_corresponds (source.set target value) es h f = set_corresponds target value es h f
  form_corresponds (source.debug_print items ended) es h f = (
    items_exp S es,
    refl,
    refl,
    same_uses es (items_exp S es ∷ []) (λ v count test right free. items_names P S same p v count test mentions right es h f free),
  )
  form_corresponds (source.if_head condition) es h f = same_uses es (first_exp S es ∷ []) (condition_uses es h f)
  form_corresponds (source.line_if condition) es h f = same_uses es (first_exp S es ∷ []) (condition_uses es h f)
  form_corresponds (source.else_if condition) es h f = same_uses es (first_exp S es ∷ []) (condition_uses es h f)
  form_corresponds source.else_line es h f = tt
  form_corresponds source.end_if es h f = tt
  form_corresponds (source.select value) es h f = same_uses es (first_exp S es ∷ []) (condition_uses es h f)
  form_corresponds (source.case_line items) es h f = same_uses es (flat_map case_exps (case_items S items es)) (items_use items es h f)
  form_corresponds source.case_else es h f = tt
  form_corresponds source.end_select es h f = tt
  form_corresponds (source.for_head counter from to by) es h f = counting_uses counter from to by es h f
  form_corresponds (source.next name) es h f = tt
  form_corresponds source.do_head es h f = tt
  form_corresponds (source.do_while condition) es h f = same_uses es (first_exp S es ∷ []) (condition_uses es h f)
  form_corresponds (source.do_until condition) es h f = same_uses es (first_exp S es ∷ []) (condition_uses es h f)
  form_corresponds source.loop es h f = tt
  form_corresponds (source.loop_while condition) es h f = same_uses es (first_exp S es ∷ []) (condition_uses es h f)
  form_corresponds (source.loop_until condition) es h f = same_uses es (first_exp S es ∷ []) (condition_uses es h f)
  form_corresponds (source.while_head condition) es h f = same_uses es (first_exp S es ∷ []) (condition_uses es h f)
  form_corresponds source.wend es h f = tt
  form_corresponds (source.with_head object) es h f = same_uses es (first_exp S es ∷ []) (with_uses es h f)
  form_corresponds source.end_with es h f = tt
  form_corresponds (source.goto l) es h f = tt
  form_corresponds (source.label l) es h f = tt
  form_corresponds (source.on_error_goto l) es h f = tt
  form_corresponds source.on_error_goto_zero es h f = tt
  form_corresponds source.on_error_resume_next es h f = tt
  form_corresponds source.resume es h f = tt
  form_corresponds source.resume_next es h f = tt
  form_corresponds (source.resume_at l) es h f = tt
  form_corresponds (source.exit kind) es h f = tt
  form_corresponds (source.redim preserve items) es h f = resized preserve items es h f
  form_corresponds (source.erase array) es h f = erased array es h
  form_corresponds (source.call callee) es h f = called_line es h f
  form_corresponds (source.invoke callee args) es h f = called_line es h f
  form_corresponds _ es h f = absurd (cc h)

pub covered_corresponds : (P : Program) (S : Scope) → S.declarations ≡ P.declarations → (p : ℕ) (labels : List (Option Label)) (l : Line) → covers_line P p l ≡ true
    → FormCorresponds S p l.source.form l.bindings.exprs (line_of S labels l.source.form l.bindings.exprs)
covered_corresponds P S same p labels l h =
    let es = l.bindings.exprs in
    let both = both_true (covers_form (uses_in P p l.bindings.mentions) l.source.form es) (list_all is_formed es) h in
    form_corresponds P S same p labels l.bindings.mentions l.source.form es both.0 both.1
