-- Each code line has the written line of its form, or the NotUpgraded form where a rule replaces it.
use Rattle.std.proofs.Common.{◌≡◌, ℕ, suc, ◌+◌, Bool, true, false, cond, List, [], ◌∷◌, Option, Some, None, refl, sym, ap, ◌∙◌, subst, inl, inr}
use Rattle.std.specs.Prelude.{◌||◌}
use Rattle.std.specs.List.{list_any}
use Rattle.up_base.proofs.Lists.{by_test}
use Rattle.vb_tree.specs.Tree.{Form, CaseItem}
use Rattle.vb_tree.specs.Tree as source
use Rattle.bound_tree.specs.Labels.{Label}
use Rattle.bound_tree.specs.RuleSets.{has, first}
use Rattle.bound_tree.specs.Tree.{Expr, Program}
use Rattle.bound_facts.specs.Node.{type_at}
use Rattle.net_tree.specs.Tree as net
use Rattle.target_laws.specs.Kept.{written_from}
use Rattle.written_trees.specs.Bodies.{replaced_in}
use Rattle.written_trees.specs.Exprs.{exp_of, target_exp}
use Rattle.written_trees.specs.Lines.{replacing, line_of, line_by, written_line, case_items, rest_of, as_call, call_line, set_line, assign_line, for_line, erase_line}
use Rattle.written_trees.specs.Names.{Scope}
use Rattle.written_trees.specs.Prologues.{Code}
use Rattle.written_trees.specs.Puts.{order_shows, put_type, store_by, stored_value}
use Rattle.correspondence.specs.Lists.{Pairwise}
use Rattle.correspondence.specs.Uses.{FormCorresponds}
use Rattle.correspondence.proofs.CoveredLines.{covered_corresponds}
use Rattle.correspondence.specs.Variants.{has_one, has_two, has_counting, has_expressions, IsStored, CaseCorresponds, IsVariant, is_replaced, LineCorresponds}

-- ---- rules that replace a line

neither : (a b : Bool) → (a || b) ≡ false → (a ≡ false) × (b ≡ false)
neither true b h = absurd (cc h)
neither false b h = (refl, h)

second : (a b : Bool) → a ≡ false → (a || b) ≡ true → b ≡ true
second true b h e = absurd (cc h)
second false b h e = e

first_found : (p : ℕ → Bool) (ns : List ℕ) → list_any p ns ≡ true → (n : ℕ) × (first p ns ≡ Some n)
first_found p [] h = absurd (cc h)
first_found p (n ∷ ns) h =
    by_test (p n) (λ b. (m : ℕ) × (cond b (Some n) (first p ns) ≡ Some m))
    (λ e. (n, refl)) (λ e. first_found p ns (second (p n) (list_any p ns) e h))

none_found : (p : ℕ → Bool) (ns : List ℕ) → list_any p ns ≡ false → first p ns ≡ None
none_found p [] h = refl
none_found p (n ∷ ns) h =
    let both = neither (p n) (list_any p ns) h in
    ap {B = Option ℕ} (λ b. cond b (Some n) (first p ns)) both.0 ∙ none_found p ns both.1

-- ---- the variants

stored : (shows : Bool) (ty : Option (List ℕ)) (target value : net.Exp) → IsStored (store_by shows ty target value)
stored shows None target value = inl (target, value, refl)
stored true (Some ty) target value = inr (ty, target, value, refl)
stored false (Some ty) target value = inl (target, value, refl)

assigned : (S : Scope) (es : List Expr) → has_two es ≡ true → IsStored (assign_line S es)
assigned S [] h = absurd (cc h)
assigned S (to ∷ []) h = absurd (cc h)
assigned S (to ∷ e ∷ es) h = stored (order_shows S.declarations to e) (put_type (type_at to)) (exp_of S to) (stored_value S to e)

object_set : (S : Scope) (es : List Expr) → has_two es ≡ true → (t : net.Exp) × (v : net.Exp) × (set_line S es ≡ net.assign t v)
object_set S [] h = absurd (cc h)
object_set S (to ∷ []) h = absurd (cc h)
object_set S (to ∷ e ∷ es) h = (target_exp S to, exp_of S e, refl)

called_as : (e : net.Exp) → (a : net.Exp) × (args : net.Exps) × (as_call e ≡ net.call a args)
called_as (net.call_of callee args) = (callee, args, refl)
called_as e = (e, net.no_exps, refl)

called : (S : Scope) (es : List Expr) → has_one es ≡ true → (a : net.Exp) × (args : net.Exps) × (call_line S es ≡ net.call a args)
called S [] h = absurd (cc h)
called S (e ∷ es) h = called_as (exp_of S e)

cases : (S : Scope) (items : List CaseItem) (es : List Expr) → Pairwise CaseCorresponds items (case_items S items es)
cases S [] es = tt
cases S (source.case_value e ∷ items) es = ((_, refl), cases S items (rest_of es))
cases S (source.case_range e f ∷ items) es = ((_, _, refl), cases S items (rest_of (rest_of es)))
cases S (source.case_is o e ∷ items) es = ((_, refl), cases S items (rest_of es))

counted : (S : Scope) (labels : List (Option Label)) (counter start limit : source.Exp) (step : Option source.Exp) (es : List Expr) → has_counting step es ≡ true
    → IsVariant labels (source.for_head counter start limit step) (for_line S es)
counted S labels counter start limit step [] h = absurd (cc h)
counted S labels counter start limit step (a ∷ []) h = absurd (cc h)
counted S labels counter start limit step (a ∷ b ∷ []) h = absurd (cc h)
counted S labels counter start limit None (a ∷ b ∷ c ∷ []) h = (_, _, _, _, refl, refl)
counted S labels counter start limit None (a ∷ b ∷ c ∷ e ∷ es) h = absurd (cc h)
counted S labels counter start limit (Some step) (a ∷ b ∷ c ∷ []) h = absurd (cc h)
counted S labels counter start limit (Some step) (a ∷ b ∷ c ∷ e ∷ es) h = (_, _, _, _, refl, refl)

erased : (S : Scope) (labels : List (Option Label)) (array : source.Exp) (es : List Expr) → has_one es ≡ true → IsVariant labels (source.erase array) (erase_line S es)
erased S labels array [] h = absurd (cc h)
erased S labels array (e ∷ es) h = (_, _, _, refl)

variant_is : (S : Scope) (labels : List (Option Label)) (f : Form) (es : List Expr) → has_expressions f es ≡ true → IsVariant labels f (line_of S labels f es)
variant_is S labels (source.assign target value) es h = assigned S es h
variant_is S labels (source.set target value) es h = object_set S es h
variant_is S labels (source.call callee) es h = called S es h
variant_is S labels (source.invoke callee args) es h = called S es h
variant_is S labels (source.debug_print items ended) es h = (_, refl)
variant_is S labels (source.if_head condition) es h = (_, refl)
variant_is S labels (source.line_if condition) es h = (_, refl)
variant_is S labels (source.else_if condition) es h = (_, refl)
variant_is S labels source.else_line es h = refl
variant_is S labels source.end_if es h = refl
variant_is S labels (source.select value) es h = (_, refl)
variant_is S labels (source.case_line items) es h = (case_items S items es, refl, cases S items es)
variant_is S labels source.case_else es h = refl
variant_is S labels source.end_select es h = refl
variant_is S labels (source.for_head counter start limit step) es h = counted S labels counter start limit step es h
variant_is S labels (source.next name) es h = refl
variant_is S labels source.do_head es h = refl
variant_is S labels (source.do_while condition) es h = (_, refl)
variant_is S labels (source.do_until condition) es h = (_, refl)
variant_is S labels source.loop es h = refl
variant_is S labels (source.loop_while condition) es h = (_, refl)
variant_is S labels (source.loop_until condition) es h = (_, refl)
variant_is S labels (source.while_head condition) es h = (_, refl)
variant_is S labels source.wend es h = refl
variant_is S labels (source.with_head object) es h = (_, refl)
variant_is S labels source.end_with es h = refl
variant_is S labels (source.goto l) es h = refl
variant_is S labels (source.label l) es h = refl
variant_is S labels (source.on_error_goto l) es h = refl
variant_is S labels source.on_error_goto_zero es h = refl
variant_is S labels source.on_error_resume_next es h = refl
variant_is S labels source.resume es h = refl
variant_is S labels source.resume_next es h = refl
variant_is S labels (source.resume_at l) es h = refl
variant_is S labels (source.exit kind) es h = refl
variant_is S labels (source.redim preserve items) es h = (_, refl)
variant_is S labels (source.erase array) es h = erased S labels array es h
variant_is S labels _ es h = tt

-- ---- code lines

module _ (P : Program) (S : Scope) (same : S.declarations ≡ P.declarations) (p : ℕ) (labels : List (Option Label)) where
  unreplaced : (k : ℕ) (c : Code) → is_replaced c.0 ≡ false → written_line S labels c.0 k c.1 ≡ line_of S labels c.1.source.form c.1.bindings.exprs
  unreplaced k c h = ap (line_by S labels k c.1.source.form c.1.bindings.exprs) (none_found (has c.0) replacing h)

  line_corresponds : (k : ℕ) (c : Code) → LineCorresponds P S p labels c (written_line S labels c.0 k c.1)
  line_corresponds k c =
      let f = c.1.source.form in
      let es = c.1.bindings.exprs in
      record {
        replaced =
            λ h. let found = first_found (has c.0) replacing h in
            (found.0, k, found.1, ap (line_by S labels k f es) found.1);
        variant = λ h e. subst (IsVariant labels f) (sym (unreplaced k c h)) (variant_is S labels f es e);
        whole = λ h. unreplaced k c h;
        covered = λ h e. subst (FormCorresponds S p f es) (sym (unreplaced k c h)) (covered_corresponds P S same p labels c.1 e);
      }

  pub lines_correspond : (k : ℕ) (code : List Code) → Pairwise (LineCorresponds P S p labels) code (written_from S labels k code)
  lines_correspond k [] = tt
  lines_correspond k (c ∷ code) = (line_corresponds (suc k) c, lines_correspond (k + replaced_in (c ∷ [])) code)
