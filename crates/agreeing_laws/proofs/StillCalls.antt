-- What is covered and still calls inward procedures alone, and makes no object: it can be called under the promise that nothing changes.
use Rattle.std.proofs.Common.{◌≡◌, ◌∙◌, inl, inr, ⊎_elim, refl, sym, ap, ℕ, Bool, true, true≢false, not, ◌&&◌, ◌||◌, List, [], ◌∷◌, ◌++◌}
use Rattle.std.proofs.lemmas.Bool.{or_cases}
use Rattle.std.specs.List.{list_all}
use Rattle.vb_tree.specs.BoundTree as types
use Rattle.vb_tree.specs.BoundTree.{Ty}
use Rattle.vb_tree.specs.declared.bound.LibCall.{LibCall}
use Rattle.vb_tree.specs.declared.declared.VarId.{VarId}
use Rattle.bound_tree.specs.Tree.{Expr, typed, Term, constant, variable, field, element, call, library, unary, binary, convert, new_object, me, with_object, err_number, is_same, Object, no_object, of_object, Exprs, no_exprs, next_expr, by_value, by_reference, Passed, no_passed, next_passed}
use Rattle.bound_tree.specs.declared.expression.Root as expression
use Rattle.bound_facts.proofs.Chains.{both_true}
use Rattle.bound_facts.specs.Locks.{is_same_type}
use Rattle.bound_facts.specs.Node.{called, type_at}
use Rattle.bound_facts.specs.Nodes.{nodes, nodes_in, nodes_of_all, nodes_of_object, nodes_of_passed}
use Rattle.written_trees.specs.Names.{Scope}
use Rattle.vb6_run.specs.Forms.{SourceLine}
use Rattle.net_run.specs.Lines.{NetLine}
use Rattle.net_run.specs.Names as net_names
use Rattle.run_matches.specs.CoveredExprs.{Uses, are_still, covers_array, covers_base, covers_bounded, covers_dimension, covers_expr, covers_exprs, covers_group, covers_group_term, covers_library, covers_object, covers_object_term, covers_operand, covers_operator, covers_passed, covers_place, covers_place_term, covers_receiver, covers_term, has_inner, has_member, has_scalar, is_auto_use, is_bound, is_kept, is_new, is_nothing_in, is_passable, is_seen_inward}
use Rattle.run_matches.specs.CoveredVariables.{covers_type}
use Rattle.run_matches.specs.Maps.{World}
use Rattle.run_matches.specs.Pledges.{Pledge, is_inward, still}
use Rattle.run_matches.specs.Upgrades.{Upgrade}
use Rattle.run_matches.specs.UserTypes.{is_class_type}
use Rattle.run_statements.specs.Frames.{AllCalled, AllCalledIn, AllCalledOf, AllCalledAll, AllCalledFor, AreReadable, CanCall, Demands, demands}
use Rattle.agreeing_laws.proofs.PlainUses.{IsPlainUse, plain_makes}

pub all_left : {A : Type 0} (t : A → Bool) (xs ys : List A) → list_all t (xs ++ ys) ≡ true → list_all t xs ≡ true
all_left t [] ys h = refl
all_left t (x ∷ xs) ys h =
    let both = both_true (t x) (list_all t (xs ++ ys)) h in
    ap (λ b. b && list_all t xs) both.0 ∙ all_left t xs ys both.1

pub all_right : {A : Type 0} (t : A → Bool) (xs ys : List A) → list_all t (xs ++ ys) ≡ true → list_all t ys ≡ true
all_right t [] ys h = h
all_right t (x ∷ xs) ys h = all_right t xs ys (both_true (t x) (list_all t (xs ++ ys)) h).1

-- what is covered and still is demanded under another promise too, where calls of inward procedures are, and variables that are no As New ones
module _ (uses : Uses) (Q R : Demands) (elements : (a : Expr) (indexes : Exprs) → Q.elements a indexes → R.elements a indexes)
    (bounds : (f : LibCall) (args : Exprs) → Q.bounds f args → R.bounds f args)
    (withs : (ty : Ty) (r : expression.Root) → Q.withs ty r → R.withs ty r)
    (calls : (q : ℕ) (qualified : Bool) (of : Object) (args : Passed) → uses.inward q ≡ true → Q.calls q qualified of args → R.calls q qualified of args)
    (plain : (v : VarId) → IsPlainUse uses v → R.autos v.0) where
  abbrev IsStill : List Expr → Type 0
  IsStill es = are_still uses es ≡ true

  abbrev seen : Expr → Bool
  seen d = not (is_new d || is_auto_use uses d) && is_seen_inward uses (called d)

  behind_node : (d : Expr) (es : List Expr) → IsStill (d ∷ es) → IsStill es
  behind_node d es h = (both_true (seen d) (are_still uses es) h).1

  -- the use of an As New variable isn't still
  no_auto_use : (ty : Ty) (v : VarId) (qualified : Bool) → uses.auto v ty ≡ true → IsStill (nodes (typed ty (variable v qualified))) → ⊥
  no_auto_use ty v qualified auto s = true≢false (sym s ∙ ap (λ b. (not b && true) && true) auto)

  nothing_called : (ty : Ty) (t : Term) → is_nothing_in ty t ≡ true → AllCalledIn R ty t
  nothing_called types.nothing (constant x origin) is = tt
  nothing_called types.nothing _ is = absurd (true≢false (sym is))
  nothing_called _ t is = absurd (true≢false (sym is))

  array_called : (a : Expr) → covers_array uses a ≡ true → AllCalled R a
  array_called (typed (types.array e rank) (variable v qualified)) covers =
      plain v (inr (inl (e, (both_true (uses.array v e) (uses.named v qualified) covers).0)))
  array_called (typed (types.array e rank) _) covers = absurd (true≢false (sym covers))
  array_called (typed _ t) covers = absurd (true≢false (sym covers))

  dimension_called : (args : Exprs) → covers_dimension args ≡ true → AllCalledAll R args
  dimension_called no_exprs covers = tt
  dimension_called (next_expr (typed ty (constant x origin)) no_exprs) covers = (tt, tt)
  dimension_called (next_expr (typed ty _) no_exprs) covers = absurd (true≢false (sym covers))
  dimension_called (next_expr e (next_expr d rest)) covers = absurd (true≢false (sym covers))

  bounded_called : (args : Exprs) → covers_bounded uses args ≡ true → AllCalledAll R args
  bounded_called no_exprs covers = absurd (true≢false (sym covers))
  bounded_called (next_expr a rest) covers =
      let both = both_true (covers_array uses a) (covers_dimension rest) covers in
      (array_called a both.0, dimension_called rest both.1)

  kept_called : (ty : Ty) (t : Term) → is_kept uses ty t ≡ true → AllCalledIn Q ty t → AllCalledIn R ty t
  kept_called ty (with_object r) covers h = withs ty r h
  kept_called ty _ covers h = absurd (true≢false (sym covers))

  -- ---- places and objects

  mutual
    still_place : (ty : Ty) (t : Term) → covers_place_term uses ty t ≡ true → IsStill (nodes (typed ty t)) → AllCalledIn Q ty t → AllCalledIn R ty t
    still_place ty (variable v qualified) covers s h = plain v (inr (inr (ty, (both_true (uses.group v ty) (uses.named v qualified) covers).0)))
    still_place ty (field e k) covers s h =
        still_base e (both_true (has_inner uses (type_at e) k ty) (covers_base uses e) covers).1 (behind_node (typed ty (field e k)) (nodes e) s) h
    still_place ty _ covers s h = absurd (true≢false (sym covers))

    still_base : (e : Expr) → covers_base uses e ≡ true → IsStill (nodes e) → AllCalled Q e → AllCalled R e
    still_base (typed ty t) covers s h =
        ⊎_elim (λ x. kept_called ty t x h) (λ x. still_place ty t x s h) (or_cases (is_kept uses ty t) (covers_place_term uses ty t) covers)

  mutual
    still_object : (e : Expr) → covers_object uses e ≡ true → IsStill (nodes e) → AllCalled Q e → AllCalled R e
    still_object (typed ty t) covers s h = still_object_term ty t covers s h

    still_object_term : (ty : Ty) (t : Term) → covers_object_term uses ty t ≡ true → IsStill (nodes (typed ty t)) → AllCalledIn Q ty t → AllCalledIn R ty t
    still_object_term ty (variable v qualified) covers s h =
        let stands : Bool = uses.group v ty || uses.auto v ty in
        let used = both_true stands (uses.named v qualified) (both_true (is_class_type ty) (stands && uses.named v qualified) covers).1 in
        ⊎_elim (λ x. plain v (inr (inr (ty, x)))) (λ x. absurd (no_auto_use ty v qualified x s)) (or_cases (uses.group v ty) (uses.auto v ty) used.0)
    still_object_term ty (field e k) covers s h =
        let has : Bool = has_member uses (type_at e) k (is_same_type ty) in
        let both = both_true has (covers_object uses e) (both_true (is_class_type ty) (has && covers_object uses e) covers).1 in
        still_object e both.1 (behind_node (typed ty (field e k)) (nodes e) s) h
    still_object_term ty me covers s h = tt
    still_object_term ty (with_object r) covers s h = withs ty r h
    still_object_term ty (call p qualified of no_passed) covers s h =
        let results : Bool = uses.results p.0 ty && covers_receiver uses of in
        let given = both_true (uses.given ty) (uses.gives p.0 && results) (both_true (is_class_type ty) (uses.given ty && (uses.gives p.0 && results)) covers).1 in
        let parts = both_true (uses.results p.0 ty) (covers_receiver uses of) (both_true (uses.gives p.0) results given.1).1 in
        let both = both_true (uses.inward p.0) (are_still uses (nodes_of_object of ++ [])) s in (
          calls p.0 qualified of no_passed both.0 h.0,
          tt,
          still_receiver of parts.1 (all_left seen (nodes_of_object of) [] both.1) h.2,
        )
    still_object_term ty _ covers s h = absurd (true≢false (sym covers))

    still_receiver : (of : Object) → covers_receiver uses of ≡ true → IsStill (nodes_of_object of) → AllCalledOf Q of → AllCalledOf R of
    still_receiver no_object covers s h = tt
    still_receiver (of_object e) covers s h = still_object e covers s h

  -- ---- values

  mutual
    still_expr : (e : Expr) → covers_expr uses e ≡ true → IsStill (nodes e) → AllCalled Q e → AllCalled R e
    still_expr (typed ty t) covers s h = still_term ty t (both_true (covers_type ty) (covers_term uses t) covers).1 s h

    still_term : (ty : Ty) (t : Term) → covers_term uses t ≡ true → IsStill (nodes (typed ty t)) → AllCalledIn Q ty t → AllCalledIn R ty t
    still_term ty (constant x origin) covers s h = tt
    still_term ty (variable v qualified) covers s h = plain v (inl (both_true (uses.scalar v) (uses.named v qualified) covers).0)
    still_term ty (field e k) covers s h =
        let of_place : Bool = has_scalar uses (type_at e) k && covers_base uses e in
        let of_object : Bool = has_member uses (type_at e) k covers_type && covers_object uses e in
        let more = behind_node (typed ty (field e k)) (nodes e) s in
        ⊎_elim (λ x. still_base e (both_true (has_scalar uses (type_at e) k) (covers_base uses e) x).1 more h)
        (λ x. still_object e (both_true (has_member uses (type_at e) k covers_type) (covers_object uses e) x).1 more h)
        (or_cases of_place of_object covers)
    still_term ty (element e indexes) covers s h =
        let all = (both_true (covers_array uses e) (covers_exprs uses indexes) covers).1 in
        let more = behind_node (typed ty (element e indexes)) (nodes_in (element e indexes)) s in
        (elements e indexes h.0, still_exprs indexes all (all_right seen (nodes e) (nodes_of_all indexes) more) h.1)
    still_term ty (call p qualified of args) covers s h =
        let both = both_true (uses.inward p.0) (are_still uses (nodes_of_object of ++ nodes_of_passed args)) s in
        let given = both_true (uses.gives p.0) (covers_receiver uses of && covers_passed uses args) covers in
        let parts = both_true (covers_receiver uses of) (covers_passed uses args) given.1 in (
          calls p.0 qualified of args both.0 h.0,
          still_passed args parts.1 (all_right seen (nodes_of_object of) (nodes_of_passed args) both.1) h.1,
          still_receiver of parts.0 (all_left seen (nodes_of_object of) (nodes_of_passed args) both.1) h.2,
        )
    still_term ty (library f args) covers s h =
        ⊎_elim
        (λ x. (
          bounds f args h.0,
          still_exprs args (both_true (covers_library f) (covers_exprs uses args) x).1 (behind_node (typed ty (library f args)) (nodes_of_all args) s) h.1,
        ))
        (λ x. (bounds f args h.0, bounded_called args (both_true (is_bound f) (covers_bounded uses args) x).1))
        (or_cases (covers_library f && covers_exprs uses args) (is_bound f && covers_bounded uses args) covers)
    still_term ty (unary op e) covers s h = still_expr e covers (behind_node (typed ty (unary op e)) (nodes e) s) h
    still_term ty (binary op d e) covers s h =
        let more = behind_node (typed ty (binary op d e)) (nodes d ++ nodes e) s in
        let both = both_true (covers_expr uses d) (covers_expr uses e) (both_true (covers_operator op) (covers_expr uses d && covers_expr uses e) covers).1 in
        (still_expr d both.0 (all_left seen (nodes d) (nodes e) more) h.0, still_expr e both.1 (all_right seen (nodes d) (nodes e) more) h.1)
    still_term ty (convert to e) covers s h =
        still_expr e (both_true (covers_type to) (covers_expr uses e) covers).1 (behind_node (typed ty (convert to e)) (nodes e) s) h
    still_term ty err_number covers s h = tt
    still_term ty (is_same d e) covers s h =
        let more = behind_node (typed ty (is_same d e)) (nodes d ++ nodes e) s in
        let both = both_true (covers_operand uses d) (covers_operand uses e) covers in
        (still_operand d both.0 (all_left seen (nodes d) (nodes e) more) h.0, still_operand e both.1 (all_right seen (nodes d) (nodes e) more) h.1)
    still_term ty _ covers s h = absurd (true≢false (sym covers))

    still_group : (e : Expr) → covers_group uses e ≡ true → IsStill (nodes e) → AllCalled Q e → AllCalled R e
    still_group (typed ty t) covers s h =
        ⊎_elim (λ x. still_place ty t x s h) (λ x. still_group_term ty t x s h) (or_cases (covers_place_term uses ty t) (covers_group_term uses ty t) covers)

    still_group_term : (ty : Ty) (t : Term) → covers_group_term uses ty t ≡ true → IsStill (nodes (typed ty t)) → AllCalledIn Q ty t → AllCalledIn R ty t
    still_group_term ty (call p qualified of args) covers s h =
        let called : Bool = covers_receiver uses of && covers_passed uses args in
        let both = both_true (uses.inward p.0) (are_still uses (nodes_of_object of ++ nodes_of_passed args)) s in
        let given = both_true (uses.gives p.0) called (both_true (uses.given ty) (uses.gives p.0 && called) covers).1 in
        let parts = both_true (covers_receiver uses of) (covers_passed uses args) given.1 in (
          calls p.0 qualified of args both.0 h.0,
          still_passed args parts.1 (all_right seen (nodes_of_object of) (nodes_of_passed args) both.1) h.1,
          still_receiver of parts.0 (all_left seen (nodes_of_object of) (nodes_of_passed args) both.1) h.2,
        )
    still_group_term ty (variable v qualified) covers s h =
        absurd (no_auto_use ty v qualified (both_true (uses.auto v ty) (uses.named v qualified) covers).0 s)
    still_group_term ty (field e k) covers s h = still_object_term ty (field e k) covers s h
    still_group_term ty me covers s h = tt
    still_group_term ty (new_object c) covers s h = absurd (true≢false (sym s))
    still_group_term ty (convert to (typed of t)) covers s h =
        let nothing : Bool = is_same_type ty to && is_nothing_in of t in
        let both = both_true (is_class_type ty) nothing (both_true (uses.given ty) (is_class_type ty && nothing) covers).1 in
        nothing_called of t (both_true (is_same_type ty to) (is_nothing_in of t) both.1).1
    still_group_term ty _ covers s h = absurd (true≢false (sym covers))

    still_operand : (e : Expr) → covers_operand uses e ≡ true → IsStill (nodes e) → AllCalled Q e → AllCalled R e
    still_operand (typed ty t) covers s h =
        let valued : Bool = covers_place_term uses ty t || covers_group_term uses ty t in
        ⊎_elim (λ x. nothing_called ty t x)
        (λ x.
        ⊎_elim (λ y. still_place ty t y s h) (λ y. still_group_term ty t y s h)
        (or_cases (covers_place_term uses ty t) (covers_group_term uses ty t) (both_true (is_class_type ty) valued x).1))
        (or_cases (is_nothing_in ty t) (is_class_type ty && valued) covers)

    still_exprs : (args : Exprs) → covers_exprs uses args ≡ true → IsStill (nodes_of_all args) → AllCalledAll Q args → AllCalledAll R args
    still_exprs no_exprs covers s h = tt
    still_exprs (next_expr e rest) covers s h =
        let both = both_true (covers_expr uses e) (covers_exprs uses rest) covers in
        (still_expr e both.0 (all_left seen (nodes e) (nodes_of_all rest) s) h.0, still_exprs rest both.1 (all_right seen (nodes e) (nodes_of_all rest) s) h.1)

    still_passed : (args : Passed) → covers_passed uses args ≡ true → IsStill (nodes_of_passed args) → AllCalledFor Q args → AllCalledFor R args
    still_passed no_passed covers s h = tt
    still_passed (next_passed (by_value e) rest) covers s h =
        let both = both_true (covers_expr uses e || covers_group uses e) (covers_passed uses rest) covers in
        let here = all_left seen (nodes e) (nodes_of_passed rest) s in (
          ⊎_elim (λ x. still_expr e x here h.0) (λ x. still_group e x here h.0) (or_cases (covers_expr uses e) (covers_group uses e) both.0),
          still_passed rest both.1 (all_right seen (nodes e) (nodes_of_passed rest) s) h.1,
        )
    still_passed (next_passed (by_reference (typed ty t)) rest) covers s h =
        let e : Expr = typed ty t in
        let passable : Bool = is_passable uses e && covers_expr uses e in
        let stands : Bool = covers_array uses e || covers_place uses e in
        let both = both_true (passable || stands) (covers_passed uses rest) covers in
        let here = all_left seen (nodes e) (nodes_of_passed rest) s in (
          ⊎_elim (λ x. still_expr (typed ty t) (both_true (is_passable uses e) (covers_expr uses e) x).1 here h.0)
              (λ x. ⊎_elim (λ y. array_called e y) (λ y. still_place ty t y here h.0) (or_cases (covers_array uses e) (covers_place uses e) x))
              (or_cases passable stands both.0),
          still_passed rest both.1 (all_right seen (nodes e) (nodes_of_passed rest) s) h.1,
        )

-- a call of an inward procedure
can_call_still : (U : Upgrade) (K : Pledge) (w : World) (S : net_names.Scope) (T : Scope) (p q : ℕ) (qualified : Bool) (of : Object) (args : Passed)
    → is_inward U q ≡ true → CanCall U K S T p q qualified of args → CanCall U (still K w) S T p q qualified of args
can_call_still U K w S T p q qualified of args inward c = record {
  passes = c.passes;
  keeps = c.keeps;
  inward = λ s. inward;
  number = c.number;
  is_number = c.is_number;
  way = c.way;
  is_way = c.is_way;
  receives = c.receives;
  suits = c.suits;
  hands = c.hands;
  given = c.given;
  inside = c.inside;
  ranks = c.ranks;
  passings = c.passings;
  quiet = c.quiet;
  found = c.found;
  result = c.result;
}

module _ (U : Upgrade) (K : Pledge) (p : ℕ) (l : SourceLine) (k : NetLine) (w : World) (S : net_names.Scope) (T : Scope) (uses : Uses)
    (readable : AreReadable U T uses) where
  abbrev Now : Demands
  Now = demands U K p l k S T

  abbrev Quiet : Demands
  Quiet = demands U (still K w) p l k S T

  calls_still : (q : ℕ) (qualified : Bool) (of : Object) (args : Passed) → uses.inward q ≡ true → Now.calls q qualified of args
      → Quiet.calls q qualified of args
  calls_still q qualified of args inward x = can_call_still U K w S T p q qualified of args (readable.inward q inward) x

  pub called_in_still : (e : Expr) → covers_expr uses e ≡ true → are_still uses (nodes e) ≡ true → AllCalled Now e → AllCalled Quiet e
  called_in_still e covers s h =
      still_expr uses Now Quiet (λ a indexes x. x) (λ f args x. x) (λ ty r x. x) calls_still (plain_makes U (still K w) S T uses readable) e covers s h

  pub called_in_still_all : (es : Exprs) → covers_exprs uses es ≡ true → are_still uses (nodes_of_all es) ≡ true → AllCalledAll Now es → AllCalledAll Quiet es
  called_in_still_all es covers s h =
      still_exprs uses Now Quiet (λ a indexes x. x) (λ f args x. x) (λ ty r x. x) calls_still (plain_makes U (still K w) S T uses readable) es covers s h

  pub group_in_still : (e : Expr) → covers_group uses e ≡ true → are_still uses (nodes e) ≡ true → AllCalled Now e → AllCalled Quiet e
  group_in_still e covers s h =
      still_group uses Now Quiet (λ a indexes x. x) (λ f args x. x) (λ ty r x. x) calls_still (plain_makes U (still K w) S T uses readable) e covers s h

  pub object_in_still : (e : Expr) → covers_object uses e ≡ true → are_still uses (nodes e) ≡ true → AllCalled Now e → AllCalled Quiet e
  object_in_still e covers s h =
      still_object uses Now Quiet (λ a indexes x. x) (λ f args x. x) (λ ty r x. x) calls_still (plain_makes U (still K w) S T uses readable) e covers s h

  pub passed_in_still : (args : Passed) → covers_passed uses args ≡ true → are_still uses (nodes_of_passed args) ≡ true → AllCalledFor Now args
      → AllCalledFor Quiet args
  passed_in_still args covers s h =
      still_passed uses Now Quiet (λ a indexes x. x) (λ f args x. x) (λ ty r x. x) calls_still (plain_makes U (still K w) S T uses readable) args covers s h

  pub receiver_in_still : (of : Object) → covers_receiver uses of ≡ true → are_still uses (nodes_of_object of) ≡ true → AllCalledOf Now of → AllCalledOf Quiet of
  receiver_in_still of covers s h =
      still_receiver uses Now Quiet (λ a indexes x. x) (λ f args x. x) (λ ty r x. x) calls_still (plain_makes U (still K w) S T uses readable) of covers s h
