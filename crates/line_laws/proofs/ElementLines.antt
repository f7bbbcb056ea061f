-- An assignment to an element is written by the order that shows.
use Rattle.std.proofs.Common.{◌≡◌, ◌∙◌, ⊎_elim, refl, sym, ap, subst, ℕ, Bool, true, false, ◌&&◌, ◌||◌, List, [], ◌∷◌, ◌++◌, codes, true≢false}
use Rattle.std.specs.Prelude.{is_some}
use Rattle.std.specs.List.{list_any}
use Rattle.vb_tree.specs.BoundTree.{Ty}
use Rattle.bound_tree.specs.Tree.{Declarations, Expr, Exprs, typed, element}
use Rattle.bound_facts.proofs.Chains.{both_true}
use Rattle.bound_facts.specs.CanRaise.{can_raise, raises, raises_by}
use Rattle.bound_facts.specs.Node.{created_in, type_at}
use Rattle.bound_facts.specs.Nodes.{nodes, nodes_of_all}
use Rattle.net_tree.specs.Tree as net
use Rattle.run_base.specs.Outcomes.{Outcome, gives, then}
use Rattle.written_trees.specs.Conversions.{support_call, two}
use Rattle.written_trees.specs.Exprs.{exp_of}
use Rattle.written_trees.specs.Names.{Scope}
use Rattle.written_trees.specs.Puts.{order_shows, put_line, put_type, store_by, store_line, stored_value, target_rank}
use Rattle.vb6_run.specs.Expressions as source
use Rattle.vb6_run.specs.Forms.{SourceLine}
use Rattle.vb6_run.specs.Lines.{let_to}
use Rattle.vb6_run.specs.Store.{Memory, SourceCalls, SourceFrame}
use Rattle.net_run.specs.Expressions as target
use Rattle.net_run.specs.Lines.{NetFrame, NetLine, scope_of, assignment}
use Rattle.net_run.specs.Making.{Jobs}
use Rattle.net_run.specs.Members.{Code}
use Rattle.net_run.specs.Names as net_names
use Rattle.net_run.specs.Store as net_store
use Rattle.row_laws.proofs.Composing.{then_gives}
use Rattle.run_matches.specs.Agreeing.{Agrees}
use Rattle.run_matches.specs.CoveredVariables.{covers_type}
use Rattle.run_matches.specs.CoveredExprs.{Uses, are_calm, are_still, both_raise, covers_array, covers_expr, covers_exprs, is_calm, is_literal_value, is_raising, keeps_order}
use Rattle.run_matches.specs.Formed.{is_formed}
use Rattle.run_matches.specs.Frames.{OwnsAll}
use Rattle.run_matches.specs.Maps.{World}
use Rattle.run_matches.specs.Match.{MemoryMatch}
use Rattle.run_matches.specs.Pledges.{Pledge}
use Rattle.run_matches.specs.Runs.{CallsAgree}
use Rattle.run_matches.specs.Upgrades.{Upgrade}
use Rattle.run_statements.specs.Elements.{IndexesAgree}
use Rattle.run_statements.specs.Frames.{AllCalled, AnyUnits, AreReadable, ArePlaced, ElementsAgree, ExpressionsAgree, IsOpen, context_of, demands}
use Rattle.run_statements.specs.Memory.{ElementsAreWritten}
use Rattle.run_statements.specs.Written.{Passes}
use Rattle.agreeing_laws.proofs.Agreeing.{agrees_gives, then_agrees}
use Rattle.line_laws.specs.Lasting.{GoOnMatching}
use Rattle.line_laws.proofs.ElementStores.{either_true, plain_agrees, put_agrees}
use Rattle.line_laws.proofs.OwnTargets.{IsOwnTarget}
use Rattle.line_laws.proofs.Prints.{AnyAddress}
use Rattle.line_laws.proofs.Puts.{PutOf, put_of}
use Rattle.line_laws.proofs.Stores.{formed_alone}

-- ---- whether the order shows

or_second : (a b : Bool) → (a ≡ true → ⊥) → (a || b) ≡ true → b ≡ true
or_second true b n h = absurd (n refl)
or_second false b n h = h

or_more : (a b : Bool) → a ≡ true → (a || b) ≡ true
or_more true b h = refl
or_more false b h = absurd (true≢false (sym h))

or_behind : (a b : Bool) → b ≡ true → (a || b) ≡ true
or_behind true b h = refl
or_behind false b h = h

-- what can raise by itself can raise
raises_more : (D : Declarations) (e : Expr) → is_raising e ≡ true → raises D e ≡ true
raises_more D (typed ty t) h = or_more (raises_by t) (is_some (created_in D t)) h

any_raises : (D : Declarations) (es : List Expr) → list_any is_raising es ≡ true → list_any (raises D) es ≡ true
any_raises D [] h = h
any_raises D (e ∷ es) h =
    ⊎_elim (λ x. or_more (raises D e) (list_any (raises D) es) (raises_more D e x))
    (λ x. or_behind (raises D e) (list_any (raises D) es) (any_raises D es x)) (either_true (is_raising e) (list_any is_raising es) h)

any_behind : (D : Declarations) (xs ys : List Expr) → list_any (raises D) ys ≡ true → list_any (raises D) (xs ++ ys) ≡ true
any_behind D [] ys h = h
any_behind D (x ∷ xs) ys h = or_behind (raises D x) (list_any (raises D) (xs ++ ys)) (any_behind D xs ys h)

order_is_shown : (D : Declarations) (ty : Ty) (a : Expr) (indexes : Exprs) (e : Expr) → both_raise indexes e ≡ true
    → order_shows D (typed ty (element a indexes)) e ≡ true
order_is_shown D ty a indexes e h =
    let both = both_true (list_any is_raising (nodes_of_all indexes)) (list_any is_raising (nodes e)) h in
    ap (λ b. b && can_raise D e) (any_behind D (nodes a) (nodes_of_all indexes) (any_raises D (nodes_of_all indexes) both.0)) ∙ any_raises D (nodes e) both.1

-- ---- the line

module _ (U : Upgrade) (expressions : ExpressionsAgree U) (elements : ElementsAgree U) (indexed : IndexesAgree U) (writes : ElementsAreWritten U) (K : Pledge)
    (p : ℕ) (f : SourceFrame) (g : NetFrame) (l : SourceLine) (k : NetLine) (c : Code) (T : Scope) (declared : T.declarations ≡ U.program.declarations)
    (oracle : SourceCalls) (net_oracle : Jobs) (is_open : IsOpen (scope_of U.written c g k)) (uses : Uses) (readable : AreReadable U T uses)
    (placed : ArePlaced U p f (scope_of U.written c g k) T uses) (agree : CallsAgree U (Passes U) oracle net_oracle) (w : World) (h : MemoryMatch U w)
    (G : GoOnMatching U K p f g w) (owns : OwnsAll U K p f) (ty : Ty) (a : Expr) (indexes : Exprs) (e : Expr)
    (can_to : AllCalled (demands U K p l k (scope_of U.written c g k) T) (typed ty (element a indexes))) (can : AllCalled (demands U K p l k (scope_of U.written c g k) T) e)
    (to_covers : covers_expr uses (typed ty (element a indexes)) ≡ true) (to_formed : is_formed (typed ty (element a indexes)) ≡ true)
    (covers : covers_expr uses e ≡ true) (formed : is_formed e ≡ true)
    (own : IsOwnTarget U K p f (typed ty (element a indexes))) (same : type_at e ≡ ty) where
  abbrev S : net_names.Scope
  S = scope_of U.written c g k

  abbrev to : Expr
  to = typed ty (element a indexes)

  abbrev pub Stored : Outcome Memory Unit
  Stored = then (source.value_of (context_of U oracle p f l) e w.src) (let_to (context_of U oracle p f l) to)

  abbrev pub Assigned : Outcome net_store.Memory Unit
  Assigned = assignment S net_oracle (exp_of T to) (exp_of T e) w.net

  abbrev pub Put : (name : List ℕ) → Outcome net_store.Memory Unit
  Put name = then (target.address_of S net_oracle (support_call (codes "Put" ++ name) (two (exp_of T e) (exp_of T to))) w.net) (λ a t. gives [] tt t)

  ty_covers : covers_type ty ≡ true
  ty_covers = (both_true (covers_type ty) (covers_array uses a && covers_exprs uses indexes) to_covers).0

  parts_cover : (covers_array uses a ≡ true) × (covers_exprs uses indexes ≡ true)
  parts_cover = both_true (covers_array uses a) (covers_exprs uses indexes) (both_true (covers_type ty) (covers_array uses a && covers_exprs uses indexes) to_covers).1

  put : PutOf ty
  put = put_of ty ty_covers

  by_put : Agrees U K w AnyUnits Stored (Put put.name)
  by_put =
      let call : Outcome net_store.Memory net_store.Address =
      target.address_of S net_oracle (support_call (codes "Put" ++ put.name) (two (exp_of T e) (exp_of T to))) w.net in
      subst (λ z. Agrees U K w AnyUnits z (Put put.name)) (then_gives Stored)
      (then_agrees U K w AnyAddress AnyUnits Stored call (λ u s. gives [] u s) (λ a t. gives [] tt t) h
      (put_agrees U expressions elements indexed writes K p f g l k c T declared oracle net_oracle is_open uses readable placed agree ty a indexes e ty_covers
      parts_cover.0 parts_cover.1 to_formed can_to put w h G owns own can covers formed same)
      (λ u b w1 m later. agrees_gives U K w1 AnyUnits u tt later.match tt))

  abbrev IsFree : Bool
  IsFree = is_literal_value e || ((are_calm uses indexes && are_still uses (nodes e)) || (is_calm uses e && are_still uses (nodes_of_all indexes)))

  by_assignment : IsFree ≡ true → Agrees U K w AnyUnits Stored Assigned
  by_assignment test =
      plain_agrees U expressions elements indexed writes K p f g l k c T declared oracle net_oracle is_open uses readable placed agree ty a indexes e ty_covers
      parts_cover.0 parts_cover.1 to_formed can_to w h G owns own can covers formed same test

  -- what holds of a line that does either
  module _ (P : net.Line → Type 0) (assigns : Agrees U K w AnyUnits Stored Assigned → P (net.assign (exp_of T to) (exp_of T e)))
      (puts : (name : List ℕ) → Agrees U K w AnyUnits Stored (Put name) → P (put_line name (exp_of T to) (exp_of T e))) where
    by_order : (b : Bool) → order_shows T.declarations to e ≡ b → keeps_order uses indexes e ≡ true → P (store_by b (put_type ty) (exp_of T to) (stored_value T to e))
    by_order true shows test =
        subst (λ x. P (store_by true x (exp_of T to) (stored_value T to e))) (sym put.is_name)
        (subst (λ x. P (put_line put.name (exp_of T to) x)) (sym (formed_alone T (target_rank T to) ty (exp_of T e) ty_covers)) (puts put.name by_put))
    by_order false shows test =
        subst (λ x. P (store_by false x (exp_of T to) (stored_value T to e))) (sym put.is_name)
        (subst (λ x. P (net.assign (exp_of T to) x)) (sym (formed_alone T (target_rank T to) ty (exp_of T e) ty_covers))
        (assigns (by_assignment (or_second (both_raise indexes e) IsFree (λ r. true≢false (sym (order_is_shown T.declarations ty a indexes e r) ∙ shows)) test))))

    pub element_stored : keeps_order uses indexes e ≡ true → P (store_line T to e)
    element_stored test = by_order (order_shows T.declarations to e) refl test
