-- The paths in what is written for a covered line or for a replaced one are known.
use Rattle.std.proofs.Common.{◌≡◌, ℕ, Bool, true, false, ◌&&◌, List, [], ◌∷◌, ◌++◌, map, Option, refl, suc, inl, inr}
use Rattle.std.specs.List.{flat_map, list_all}
use Rattle.std.specs.Prelude.{◌⊎◌}
use Rattle.up_base.proofs.Lists.{both_true}
use Rattle.vb_tree.specs.BoundTree as types
use Rattle.vb_tree.specs.BoundTree.{Ty}
use Rattle.vb_tree.specs.Tree.{CaseItem, Form}
use Rattle.vb_tree.specs.Tree as source
use Rattle.bound_tree.specs.declared.body.Mention.{Mention}
use Rattle.bound_tree.specs.Labels.{Label}
use Rattle.bound_tree.specs.Tree.{Declarations, Program, Expr, typed, Term, library, Line, call, err_raise, err_clear}
use Rattle.bound_facts.specs.Locks.{is_same_type}
use Rattle.bound_facts.specs.Node.{declared_at, type_at}
use Rattle.bound_facts.specs.Parts.{Extent, Resize, resizes}
use Rattle.net_tree.specs.Tree.{Exp}
use Rattle.net_tree.specs.Tree as net
use Rattle.written_trees.specs.Exprs.{exp_of, term_exp}
use Rattle.written_trees.specs.Lines.{case_items, empty_extents, erase_line, extent_exp, extents_exps, resized_array, first_exp, for_line, items_exp, line_of, flagged_line, print_name, step_exp, as_call, call_line}
use Rattle.written_trees.specs.Names.{Scope}
use Rattle.written_trees.specs.Puts.{rank_of}
use Rattle.run_matches.specs.CoveredVariables.{covers_user}
use Rattle.run_matches.specs.CoveredExprs.{covers_object, covers_group, covers_place, covers_expr, covers_term, covers_value, is_variable, uses_in}
use Rattle.run_matches.specs.CoveredLines.{covers_condition, covers_counter, covers_counting, covers_items, covers_step, covers_form, covers_line, is_comparison, is_counter, covers_box, covers_call, is_box, covers_called_in, covers_erased, covers_extent, covers_low, covers_resize, covers_resizes, covers_with}
use Rattle.run_matches.specs.Covered.{covers_names}
use Rattle.run_matches.specs.Formed.{is_formed}
use Rattle.correspondence.specs.Paths.{paths_of_case, paths_of_exp, paths_of_line, paths_of_option, paths_of_exps, paths_of_redim}
use Rattle.correspondence.proofs.GroupLines.{with_parts}
use Rattle.correspondence.proofs.KnownPlaces.{object_known, place_known}
use Rattle.correspondence.proofs.KnownArrays.{array_known, empty_known, is_top}
use Rattle.correspondence.proofs.Resizes.{resize_parts}
use Rattle.correspondence.proofs.KnownPaths.{AreKnown, HasKnown, IsFunction, is_err_clear, is_not_upgraded, is_raise, is_print_line, is_print_part, known_append}
use Rattle.correspondence.proofs.KnownExprs.{expr_known, group_known, items_known, term_known}
use Rattle.correspondence.proofs.KnownStores.{set_known, store_known}

-- ---- covered lines

module _ (P : Program) (S : Scope) (same : S.declarations ≡ P.declarations) (free : covers_names P.declarations ≡ true)
    (flat : (t : ℕ) → covers_user P.declarations t ≡ true → S.facts.holds_array t ≡ false) (p : ℕ) (mentions : List Mention) where
  abbrev D : Declarations
  D = P.declarations

  print_known : (ended : Bool) → IsFunction D (print_name ended)
  print_known true = is_print_part D
  print_known false = is_print_line D

  value_known : (ty : Ty) (e : Expr) → covers_value (uses_in P p mentions) ty e ≡ true → HasKnown D (exp_of S e)
  value_known ty e h = expr_known P S same free flat p mentions e (both_true (is_same_type ty (type_at e)) (covers_expr (uses_in P p mentions) e) h).1

  extents_known : (a : Option ℕ) (d : ℕ) (xs : List Extent) → list_all (covers_extent (uses_in P p mentions)) xs ≡ true
      → AreKnown D (paths_of_exps (extents_exps S a d xs))
  extents_known a d [] h = tt
  extents_known a d (x ∷ xs) h =
      let cover = uses_in P p mentions in
      let both = both_true (covers_low cover x.0 && covers_value cover types.long x.1) (list_all (covers_extent cover) xs) h in
      let high = both_true (covers_low cover x.0) (covers_value cover types.long x.1) both.0 in
      known_append D (paths_of_exp (extent_exp S a d x)) (paths_of_exps (extents_exps S a (suc d) xs))
      (λ s. (is_top D, refl), known_append D (paths_of_exp (exp_of S x.1)) [] (value_known types.long x.1 high.1) tt)
      (extents_known a (suc d) xs both.1)

  resizes_known : (preserve : Bool) (rs : List Resize) → covers_resizes (uses_in P p mentions) preserve rs ≡ true
      → AreKnown D (flat_map paths_of_redim (map (resized_array S) rs))
  resizes_known preserve [] h = tt
  resizes_known preserve (r ∷ rs) h =
      let both = both_true (covers_resize (uses_in P p mentions) preserve r) (covers_resizes (uses_in P p mentions) preserve rs) h in
      let own = resize_parts (uses_in P p mentions) preserve r both.0 in
      let place = declared_at S.declarations r.array in
      known_append D (paths_of_redim (resized_array S r)) (flat_map paths_of_redim (map (resized_array S) rs))
      (known_append D (paths_of_exp (exp_of S r.array)) (paths_of_exps (extents_exps S place 0 r.extents))
      (array_known P S same free p mentions r.array own.0) (extents_known place 0 r.extents own.1))
      (resizes_known preserve rs both.1)

  erase_known : (es : List Expr) → covers_erased (uses_in P p mentions) es ≡ true → AreKnown D (paths_of_line (erase_line S es))
  erase_known [] h = absurd (cc h)
  erase_known (e ∷ []) h =
      let rank = rank_of S.facts (declared_at S.declarations e) in
      known_append D (paths_of_exp (exp_of S e)) (paths_of_exps (empty_extents rank)) (array_known P S same free p mentions e h) (empty_known D rank)
  erase_known (d ∷ e ∷ es) h = absurd (cc h)

  condition_known : (es : List Expr) → covers_condition (uses_in P p mentions) es ≡ true → HasKnown D (first_exp S es)
  condition_known [] h = absurd (cc h)
  condition_known (e ∷ []) h = expr_known P S same free flat p mentions e h
  condition_known (e ∷ d ∷ es) h = absurd (cc h)

  with_known : (es : List Expr) → covers_with (uses_in P p mentions) es ≡ true → HasKnown D (first_exp S es)
  with_known [] h = absurd (cc h)
  with_known (typed ty t ∷ []) h =
      let cover = uses_in P p mentions in
      let e : Expr = typed ty t in
      by (with_parts cover e h)
    where
      by : (covers_place (uses_in P p mentions) (typed ty t) ≡ true)
          ⊎ ((covers_object (uses_in P p mentions) (typed ty t) ≡ true) ⊎ (covers_group (uses_in P p mentions) (typed ty t) ≡ true))
          → HasKnown D (term_exp S ty t)
      by (inl c) = place_known P S same p mentions free (typed ty t) c
      by (inr (inl c)) = object_known P S same p mentions free ty t c
      by (inr (inr c)) = group_known P S same free flat p mentions (typed ty t) c
  with_known (e ∷ d ∷ es) h = absurd (cc h)

  items_of_case_known : (items : List CaseItem) (es : List Expr) → covers_items (uses_in P p mentions) items es ≡ true
      → AreKnown D (flat_map paths_of_case (case_items S items es))
  items_of_case_known [] [] h = tt
  items_of_case_known [] (e ∷ es) h = absurd (cc h)
  items_of_case_known (source.case_value y ∷ items) [] h = absurd (cc h)
  items_of_case_known (source.case_value y ∷ items) (e ∷ es) h =
      let a = both_true (covers_expr (uses_in P p mentions) e) (covers_items (uses_in P p mentions) items es) h in
      known_append D (paths_of_exp (exp_of S e)) (flat_map paths_of_case (case_items S items es))
      (expr_known P S same free flat p mentions e a.0) (items_of_case_known items es a.1)
  items_of_case_known (source.case_range y z ∷ items) [] h = absurd (cc h)
  items_of_case_known (source.case_range y z ∷ items) (d ∷ []) h = absurd (cc h)
  items_of_case_known (source.case_range y z ∷ items) (d ∷ e ∷ es) h =
      let cover = uses_in P p mentions in
      let a = both_true (covers_expr cover d) (covers_expr cover e && covers_items cover items es) h in
      let c = both_true (covers_expr cover e) (covers_items cover items es) a.1 in
      known_append D (paths_of_exp (exp_of S d) ++ paths_of_exp (exp_of S e)) (flat_map paths_of_case (case_items S items es))
      (known_append D (paths_of_exp (exp_of S d)) (paths_of_exp (exp_of S e)) (expr_known P S same free flat p mentions d a.0)
      (expr_known P S same free flat p mentions e c.0)) (items_of_case_known items es c.1)
  items_of_case_known (source.case_is o y ∷ items) [] h = absurd (cc h)
  items_of_case_known (source.case_is o y ∷ items) (e ∷ es) h =
      let cover = uses_in P p mentions in
      let k = both_true (is_comparison o) (covers_expr cover e && covers_items cover items es) h in
      let a = both_true (covers_expr cover e) (covers_items cover items es) k.1 in
      known_append D (paths_of_exp (exp_of S e)) (flat_map paths_of_case (case_items S items es))
      (expr_known P S same free flat p mentions e a.0) (items_of_case_known items es a.1)

  step_known : (ty : Ty) (steps : List Expr) → covers_step (uses_in P p mentions) ty steps ≡ true → AreKnown D (paths_of_option (step_exp S steps))
  step_known ty [] h = tt
  step_known ty (s ∷ []) h = value_known ty s h
  step_known ty (s ∷ d ∷ ss) h = absurd (cc h)

  counting_known : (es : List Expr) → covers_counting (uses_in P p mentions) es ≡ true → AreKnown D (paths_of_line (for_line S es))
  counting_known [] h = absurd (cc h)
  counting_known (e ∷ []) h = absurd (cc h)
  counting_known (e ∷ d ∷ []) h = absurd (cc h)
  counting_known (e ∷ start ∷ limit ∷ steps) h =
      let cover = uses_in P p mentions in
      let ty = type_at e in
      let a = both_true (covers_counter cover e) (covers_value cover ty start && (covers_value cover ty limit && covers_step cover ty steps)) h in
      let d = both_true (is_variable e) (is_counter ty && covers_expr cover e) a.0 in
      let g = both_true (is_counter ty) (covers_expr cover e) d.1 in
      let i = both_true (covers_value cover ty start) (covers_value cover ty limit && covers_step cover ty steps) a.1 in
      let j = both_true (covers_value cover ty limit) (covers_step cover ty steps) i.1 in
      let last = paths_of_option (step_exp S steps) in
      known_append D (paths_of_exp (exp_of S e)) (paths_of_exp (exp_of S start) ++ (paths_of_exp (exp_of S limit) ++ last))
      (expr_known P S same free flat p mentions e g.1)
      (known_append D (paths_of_exp (exp_of S start)) (paths_of_exp (exp_of S limit) ++ last) (value_known ty start i.0)
      (known_append D (paths_of_exp (exp_of S limit)) last (value_known ty limit j.0) (step_known ty steps j.1)))

  as_call_known : (e : Exp) → HasKnown D e → AreKnown D (paths_of_line (as_call e))
  as_call_known (net.call_of callee args) h = h
  as_call_known e h = known_append D (paths_of_exp e) [] h tt

  box_known : (ty : Ty) (t : Term) → covers_box (uses_in P p mentions) t ≡ true → HasKnown D (term_exp S ty t)
  box_known ty (library g args) h =
      term_known P S same free flat p mentions ty (library g args) (both_true (is_box g) (covers_term (uses_in P p mentions) (library g args)) h).1
  box_known ty _ h = absurd (cc h)

  called_known : (ty : Ty) (t : Term) → covers_called_in (uses_in P p mentions) t ≡ true → HasKnown D (term_exp S ty t)
  called_known ty (call q qualified of args) h = term_known P S same free flat p mentions ty (call q qualified of args) h
  called_known ty (library g args) h = box_known ty (library g args) h
  called_known ty (err_raise e) h = ((λ s. (is_raise D, refl)), known_append D (paths_of_exp (exp_of S e)) [] (expr_known P S same free flat p mentions e h) tt)
  called_known ty err_clear h = ((λ s. (is_err_clear D, refl)), tt)
  called_known ty _ h = absurd (cc h)

  call_line_known : (es : List Expr) → covers_call (uses_in P p mentions) es ≡ true → AreKnown D (paths_of_line (call_line S es))
  call_line_known [] h = absurd (cc h)
  call_line_known (typed ty t ∷ []) h = as_call_known (term_exp S ty t) (called_known ty t h)
  call_line_known (d ∷ e ∷ es) h = absurd (cc h)

  form_known : (labels : List (Option Label)) (f : Form) (es : List Expr) → covers_form (uses_in P p mentions) f es ≡ true
      → AreKnown D (paths_of_line (line_of S labels f es))
  form_known labels (source.assign target value) es h = store_known P S same free flat p mentions labels target value es h
  form_known labels (source.set target value) es h = set_known P S same free flat p mentions es h
  form_known labels (source.debug_print items ended) es h =
      (λ s. (print_known ended, refl), known_append D (paths_of_exp (items_exp S es)) [] (items_known P S same free flat p mentions es h) tt)
  form_known labels (source.if_head condition) es h = condition_known es h
  form_known labels (source.line_if condition) es h = condition_known es h
  form_known labels (source.else_if condition) es h = condition_known es h
  form_known labels source.else_line es h = tt
  form_known labels source.end_if es h = tt
  form_known labels (source.select value) es h = condition_known es h
  form_known labels (source.case_line items) es h = items_of_case_known items es h
  form_known labels source.case_else es h = tt
  form_known labels source.end_select es h = tt
  form_known labels (source.for_head counter start limit step) es h = counting_known es h
  form_known labels (source.next name) es h = tt
  form_known labels source.do_head es h = tt
  form_known labels (source.do_while condition) es h = condition_known es h
  form_known labels (source.do_until condition) es h = condition_known es h
  form_known labels source.loop es h = tt
  form_known labels (source.loop_while condition) es h = condition_known es h
  form_known labels (source.loop_until condition) es h = condition_known es h
  form_known labels (source.while_head condition) es h = condition_known es h
  form_known labels source.wend es h = tt
  form_known labels (source.with_head object) es h = with_known es h
  form_known labels source.end_with es h = tt
  form_known labels (source.goto l) es h = tt
  form_known labels (source.label l) es h = tt
  form_known labels (source.on_error_goto l) es h = tt
  form_known labels source.on_error_goto_zero es h = tt
  form_known labels source.on_error_resume_next es h = tt
  form_known labels source.resume es h = tt
  form_known labels source.resume_next es h = tt
  form_known labels (source.resume_at l) es h = tt
  form_known labels (source.exit kind) es h = tt
  form_known labels (source.redim preserve items) es h = resizes_known preserve (resizes items es) h
  form_known labels (source.erase array) es h = erase_known es h
  form_known labels (source.call callee) es h = call_line_known es h
  form_known labels (source.invoke callee args) es h = call_line_known es h
  form_known labels _ es h = absurd (cc h)

pub covered_known : (P : Program) (S : Scope) → S.declarations ≡ P.declarations → covers_names P.declarations ≡ true
    → ((t : ℕ) → covers_user P.declarations t ≡ true → S.facts.holds_array t ≡ false) → (p : ℕ) (labels : List (Option Label)) (l : Line)
    → covers_line P p l ≡ true → AreKnown P.declarations (paths_of_line (line_of S labels l.source.form l.bindings.exprs))
covered_known P S same free flat p labels l h =
    form_known P S same free flat p l.bindings.mentions labels l.source.form l.bindings.exprs
    (both_true (covers_form (uses_in P p l.bindings.mentions) l.source.form l.bindings.exprs) (list_all is_formed l.bindings.exprs) h).0

module _ (D : Declarations) where
  -- ---- replaced lines

  pub flagged_known : (n k : ℕ) (f : Form) → AreKnown D (paths_of_line (flagged_line n k f))
  flagged_known n k (source.if_head condition) = (λ s. (is_not_upgraded D, refl), tt)
  flagged_known n k (source.line_if condition) = (λ s. (is_not_upgraded D, refl), tt)
  flagged_known n k (source.else_if condition) = (λ s. (is_not_upgraded D, refl), tt)
  flagged_known n k source.else_line = tt
  flagged_known n k source.end_if = tt
  flagged_known n k (source.select value) = (λ s. (is_not_upgraded D, refl), tt)
  flagged_known n k (source.case_line items) = (λ s. (is_not_upgraded D, refl), tt)
  flagged_known n k source.case_else = tt
  flagged_known n k source.end_select = tt
  flagged_known n k (source.for_head counter start limit step) = (tt, (λ s. (is_not_upgraded D, refl), tt))
  flagged_known n k (source.for_each name suffix items) = (tt, (λ s. (is_not_upgraded D, refl), tt))
  flagged_known n k (source.next name) = tt
  flagged_known n k source.do_head = tt
  flagged_known n k (source.do_while condition) = (λ s. (is_not_upgraded D, refl), tt)
  flagged_known n k (source.do_until condition) = (λ s. (is_not_upgraded D, refl), tt)
  flagged_known n k source.loop = tt
  flagged_known n k (source.loop_while condition) = (λ s. (is_not_upgraded D, refl), tt)
  flagged_known n k (source.loop_until condition) = (λ s. (is_not_upgraded D, refl), tt)
  flagged_known n k (source.while_head condition) = (λ s. (is_not_upgraded D, refl), tt)
  flagged_known n k source.wend = tt
  flagged_known n k (source.with_head object) = (λ s. (is_not_upgraded D, refl), tt)
  flagged_known n k source.end_with = tt
  flagged_known n k _ = (λ s. (is_not_upgraded D, refl), tt)
